-- RULES 1.4: demand 3. Take two runs from one set-up, with as many calls and equal times. Calls with one aircraft's messages are the same in both. Each other call may
-- bring any other 14 bytes, if they are no acceptable message of that aircraft. If neither run answers 6 to that aircraft, its answers are equal
-- call by call, and after each call its track is equal, or absent from both.
use Rattle.std.specs.Prelude.{ℕ, ◌<◌, ◌^◌, Bool, true, false, cond, ◌≡◌, List, [], ◌∷◌, eqb, length, Result, Ok, Err, Option, Some, None}
use Rattle.refusals.specs.declared.Refusal.TheVariants.{Full}
use Rattle.fields.specs.Bytes.{Bytes}
use Rattle.messages.specs.Message.{decoded, key_of}
use Rattle.track.specs.declared.Track.{Track}
use Rattle.whereabouts.specs.declared.Site.{Site}
use Rattle.rules.specs.Form.{Form, East}
use Rattle.rules.specs.Rules.{After, set_up}
use Rattle.rules.specs.View.{view}
use Rattle.messages.specs.declared.Message.{Message}
use Rattle.refusals.specs.declared.Refusal.{Refusal}

-- a call: 14 bytes and a time of 64 bits
pub record Call : Type 0 where
  pub message : List ℕ
  pub bytes : Bytes message
  pub whole : length message ≡ 14
  pub time : ℕ
  pub fits : time < 2 ^ 64

-- whether the decoder's answer is a message with this aircraft's key: an acceptable one, which earns none of 1, 3, 4 and 5
abbrev pub is_of : ℕ → Result Message Refusal → Bool
is_of key (Ok m) = eqb (key_of m) key
is_of key (Err r) = false

-- a call with this aircraft's message
unfoldable pub own : ℕ → Call → Bool
own key c = is_of key (decoded c.message)

-- two runs that are alike for an aircraft: as many calls, at equal times; its own calls are the same in both, and each other may bring anything else
pub data Alike (key : ℕ) : List Call → List Call → Type 0 where
  end : Alike key [] []
  its : (c : Call) {xs ys : List Call} → own key c ≡ true → Alike key xs ys → Alike key (c ∷ xs) (c ∷ ys)
  others : (c d : Call) {xs ys : List Call} → own key c ≡ false → own key d ≡ false → c.time ≡ d.time → Alike key xs ys → Alike key (c ∷ xs) (d ∷ ys)

-- what a call does to a table, by a rule: `received` of its form is the library's
abbrev pub Rule : Type 0 → Type 0
Rule S = S → List ℕ → ℕ → After S (Result Message Refusal)

abbrev pub call : {S : Type 0} → Rule S → S → Call → After S (Result Message Refusal)
call rule s c = rule s c.message c.time

-- 'table full' is answered to none of its messages
abbrev pub NeverFull : {S : Type 0} → Rule S → ℕ → S → List Call → Type 0
NeverFull rule key s [] = Unit {0}
NeverFull rule key s (c ∷ cs) = (own key c ≡ true → (call rule s c).answer ≡ Err Full → ⊥) × NeverFull rule key (call rule s c).table cs

-- what it sees of one call: the answer, if the call is its own, and its track after the call, if there is one
pub record Seen : Type 0 where
  pub answer : Option (Result Message Refusal)
  pub track : Option Track

abbrev pub saw : {S : Type 0} → Form S → ℕ → Call → After S (Result Message Refusal) → Seen
saw F key c r = record { answer = cond (own key c) (Some r.answer) None; track = view F r.table key }

-- .. and of a run, call by call
abbrev pub seen : {S : Type 0} → Form S → Rule S → ℕ → S → List Call → List Seen
seen F rule key s [] = []
seen F rule key s (c ∷ cs) = saw F key c (call rule s c) ∷ seen F rule key (call rule s c).table cs

-- two alike runs show an aircraft the same. One set-up is s and t the same; whatever they held before, however many places each has, and in whatever form each is, it holds too
abbrev pub Isolation : {S T : Type 0} → Form S → Form T → Rule S → Rule T → Type 0
Isolation {S} {T} F G rule rule' =
    (key : ℕ) (site : Site) → East site → (s : S) (t : T) → (set_up F s site).answer ≡ Ok tt → (set_up G t site).answer ≡ Ok tt
    → (xs ys : List Call) → Alike key xs ys
    → NeverFull rule key (set_up F s site).table xs → NeverFull rule' key (set_up G t site).table ys
    → seen F rule key (set_up F s site).table xs ≡ seen G rule' key (set_up G t site).table ys
