-- RULES 18.1: the key of a message, as C asks for it: by it messages are dealt out to tables.
use Rattle.std.specs.Prelude.{ℕ, true, ◌≡◌, ◌↔◌, List, [], ◌∷◌, length, get_or, Option}
use contract.Lifetimes.{Lfts}
use denote.Triple.Clauses.{AtExit}
use borrow.Fn.Kinds.{Dens, ended_of}
use Rattle.entries.specs.Sent.{Sent, sent}
use Rattle.messages.specs.Message.{decoded}
use Rattle.isolation.specs.Runs.{Call, is_of}
use Rattle.dealer.proofs.key.addercoil_key.Kinds as key-kinds
use Rattle.dealer.proofs.key.addercoil_key.Reads as key
use Rattle.c_promises.specs.Calls.{Receive, LookUp}
use Rattle.c_promises.specs.Runs.{Site, Run}
use Rattle.c_promises.specs.Logs.{left_of}

-- addercoil_key(message, .., out, ..): what is written is back.array
pub record Key (message out : List ℕ) (back : Sent) : Type 0 where
  pub κs : Lfts 2
  pub args : Dens κs key-kinds.ps
  pub left : AtExit (ended_of 2 key-kinds.ps key-kinds.r) κs
  pub brings : args.0.now ≡ message
  pub into : args.1.0.now ≡ out
  pub leaves : left.1.0.now ≡ back.array
  pub meets : key.Post κs args back.number left

-- of any bytes: it gives the key of which they are an acceptable message
abbrev pub KeyByKey : Type 0
KeyByKey = (key : ℕ) (message out : List ℕ) (back : Sent) → length out ≡ 1 → Key message out back → is_of key (decoded message) ≡ true ↔ back ≡ sent 0 (key ∷ [])

-- addercoil_look_up says that a track is held, which was last heard at this time: ADDERCOIL_TRACK_HELD and ADDERCOIL_TRACK_HEARD
abbrev pub HeldAt : ℕ → Sent → Type 0
HeldAt time x = (x.number ≡ 0) × (get_or x.array 0 0 ≡ 1) × (get_or x.array 1 0 ≡ time)

-- a message that addercoil_receive took, after any run: under the key that it gives the track is held
abbrev pub KeyIsKept : Type 0
KeyIsKept =
    (site : Option Site) (cs : List Call) (xs : List Sent) (run : Run site cs xs) (c : Call) (back : Sent) → Receive (left_of run) c.message c.time back → back.number ≡ 0
    → (out : List ℕ) (said : Sent) → length out ≡ 1 → Key c.message out said
    → (key : ℕ) × ((said ≡ sent 0 (key ∷ [])) × ((track : List ℕ) (x : Sent) → length track ≡ 72 → LookUp back.array key track x → HeldAt c.time x))
