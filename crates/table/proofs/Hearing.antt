-- A message heard is a message received: what its frame does is what the message decoded does, and the answer is done or the same number.
-- Assumes nothing.
use Rattle.std.specs.Prelude.{Result, Ok, Err, ⊤}
use Prim.Native.Nat.{ℕ}
use mathlib.Core.Path.{◌≡◌, refl, ap, ap₂, sym, ◌∙◌}
use mathlib.Core.Bool.{Bool, true, false, cond, not, ◌&&◌}
use mathlib.Core.List.{List}
use native.Mathlib.Omega.{arith}
use lib.Dec.{eqb, ltb}
use lib.ListN.{length}
use Rattle.refusals.specs.declared.Refusal.{Refusal}
use Rattle.refusals.specs.declared.Refusal.TheVariants.{Length, Late, Places, Field}
use Rattle.fields.proofs.Bools.{by_test}
use Rattle.layouts.specs.Bodies.{taken_by, body_me, body_fits}
use Rattle.messages.specs.declared.Message.{Message}
use Rattle.messages.specs.Message.{decoded, key_of, starts}
use Rattle.track.specs.declared.Track.{Track}
use Rattle.track.specs.Track.{new_track, step_body, step_me, stepped}
use Rattle.track.proofs.Mes.{stepped_by_me}
use Rattle.table_bytes.specs.Layout.{clock_of, site_of, moved, stored}
use Rattle.memory.specs.Offsets.{whole_places, places_in}
use Rattle.rules.specs.Rules as rules
use Rattle.table.specs.Bytes.{bytes}
use Rattle.table.specs.Table.{After, after, received}
use Rattle.table.specs.Code.{delivered}
use Rattle.table.specs.Heard.{heard_as, heard}
use Rattle.table.proofs.Answers.{placed}

-- ---- a message whose fields fit, by its ME

pub placed_by_me : (s : List ℕ) (n i k time me : ℕ) (coarse : Bool) (t : Track) (m : Message) {l : List ℕ}
    → taken_by coarse me ≡ Ok m.body → body_fits m.body ≡ true → body_me m.body ≡ me
    → l ≡ stored s n i k (step_me t coarse me (site_of s) time) → after (Ok m) l ≡ placed s n i k (stepped t (Ok m) (site_of s) time)
placed_by_me s n i k time me coarse t m r f e h =
    ap (after (Ok m)) h ∙ sym (ap (placed s n i k) (stepped_by_me t (site_of s) time m coarse me r f e))

-- ---- done, or the same number

no_number : {A : Type 0} {r : Refusal} → ◌≡◌ {A = Result ⊤ Refusal} (Err r) (Ok tt) → A
no_number e = let z : ◌≡◌ {A = ℕ} 0 1 = cc in let w : ⊥ = omega arith in absurd w

-- where it is done, the answer is what the decoder says
unfoldable Tells : Result Message Refusal → After (Result Message Refusal) → Type 0
Tells d x = heard_as x.answer ≡ Ok tt → x.answer ≡ d

refused_tells : (d : Result Message Refusal) (r : Refusal) (s : List ℕ) → Tells d (after (Err r) s)
unfolding Tells
refused_tells d r s e = no_number e

placed_tells : (s : List ℕ) (i time : ℕ) (t : Track) (m : Message) → Tells (Ok m) (rules.placed bytes s i (key_of m) (stepped t (Ok m) (site_of s) time))
unfolding Tells
placed_tells s i time t m = by_cases (body_fits m.body) (step_body t m.body (body_me m.body) (site_of s) time)
  where
    by_cases : (b : Bool) (u : Track) → Tells (Ok m) (rules.placed bytes s i (key_of m) (cond b (record { answer = Ok m; track = u }) (record { answer = Err Field; track = t })))
    by_cases true u e = refl
    by_cases false u e = no_number e

delivered_tells : (s : List ℕ) (d : Result Message Refusal) (time : ℕ) → Tells d (delivered s d time)
unfolding rules.delivered
delivered_tells s (Err r) time = refused_tells (Err r) r s
delivered_tells s (Ok m) time =
    by_test (Tells (Ok m)) (ltb (rules.place_of bytes s time (key_of m)) (places_in s)) _ _ (λ _. placed_tells s (rules.place_of bytes s time (key_of m)) time (bytes.cell s (rules.place_of bytes s time (key_of m))).track m)
    (λ _. by_test (Tells (Ok m)) (starts m && ltb (rules.free_place bytes s time) (places_in s)) _ _ (λ _. placed_tells s (rules.free_place bytes s time) time new_track m)
    (λ _. refused_tells (Ok m) (rules.turned_away (starts m)) s))

received_tells : (s m : List ℕ) (time : ℕ) → Tells (decoded m) (received s m time)
unfolding rules.received
received_tells s m time =
    by_test (Tells (decoded m)) (not (eqb (length m) 14)) _ _ (λ _. refused_tells (decoded m) Length s)
    (λ _. by_test (Tells (decoded m)) (not (whole_places (length s))) _ _ (λ _. refused_tells (decoded m) Places s)
    (λ _. by_test (Tells (decoded m)) (ltb time (clock_of s)) _ _ (λ _. refused_tells (decoded m) Late s) (λ _. delivered_tells (moved s time) (decoded m) time)))

number_kept : (d : Result Message Refusal) (r : Refusal) → heard_as d ≡ Err r → d ≡ Err r
number_kept (Err q) r e = let same : q ≡ r = cc in ap Err same
number_kept (Ok m) r e = no_number (sym e)

-- ---- so what was heard is received with the decoder's answer, or with the number

module _ (s m : List ℕ) (time : ℕ) where
  abbrev whole : After (Result Message Refusal)
  whole = received s m time

  pub received_done : {h : Result ⊤ Refusal} {l : List ℕ} {d : Result Message Refusal} → after h l ≡ heard whole → h ≡ Ok tt → d ≡ decoded m → after d l ≡ whole
  unfolding Tells
  received_done e done d-is =
      let told : whole.answer ≡ decoded m = received_tells s m time (sym (ap (λ (x : After (Result ⊤ Refusal)). x.answer) e) ∙ done) in
      ap₂ after (d-is ∙ sym told) (ap (λ (x : After (Result ⊤ Refusal)). x.table) e)

  pub received_refused : (r : Refusal) {h : Result ⊤ Refusal} {l : List ℕ} → after h l ≡ heard whole → h ≡ Err r → after (Err r) l ≡ whole
  received_refused r e refused =
      ap₂ after (sym (number_kept whole.answer r (sym (ap (λ (x : After (Result ⊤ Refusal)). x.answer) e) ∙ refused))) (ap (λ (x : After (Result ⊤ Refusal)). x.table) e)
