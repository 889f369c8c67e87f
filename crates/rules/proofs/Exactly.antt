-- The answer to a received message is the table of RULES 3.2, in the order of RULES 3.3, for any table of any form and any message. The definition's first three tests are the table's; what is delivered says what the decoder says,
-- which is the table of messages, and 6 or 12 in the place of a message for which there is no room or no track.
-- Assumes nothing.
use Rattle.std.specs.Prelude.{Result, Ok, Err}
use Prim.Native.Nat.{ℕ}
use mathlib.Core.Bool.{Bool, true, false, cond, not, ◌&&◌}
use mathlib.Core.Logic.{◌↔◌}
use mathlib.Core.Path.{◌≡◌, refl, ap, ap₂, ◌∙◌}
use mathlib.Core.List.{List}
use lib.Dec.{ltb}
use borrow.Author.Tests.{ltb-true, not-true, not-false}
use Rattle.refusals.specs.declared.Refusal.TheVariants.{Length, Late, Places}
use Rattle.refusals.specs.Said.{Said, number, gives}
use Rattle.fields.proofs.Bools.{and_left, and_right}
use Rattle.layouts.specs.Said.{Values}
use Rattle.messages.specs.declared.Message.{Message}
use Rattle.messages.specs.Message.{decoded, key_of, starts}
use Rattle.messages.specs.Said.{said, earns1, earns3, earns4, earns5, key_in, starts_in, values_in, table}
use Rattle.messages.proofs.Exactly as decoder
use Rattle.messages.proofs.Keys.{decoded_key}
use Rattle.messages.proofs.Starting.{decoded_starts}
use Rattle.whereabouts.specs.declared.Site.{Site}
use Rattle.track.specs.declared.Stepped.{Stepped}
use Rattle.track.specs.declared.Track.{Track}
use Rattle.track.specs.Track.{stepped}
use Rattle.track.proofs.Rules.{accepted}
use Rattle.rules.specs.Form.{Cell, is_held, holds, Form, Lawful}
use Rattle.rules.specs.Search.{lowest}
use Rattle.rules.specs.Rules.{After, after, place_of, free_place, turned_away, delivered, received}
use Rattle.rules.specs.View.{Unheld, AllTaken}
use Rattle.rules.specs.Said.{key_held, place_free, earns2, earns6, earns7, earns12, receive_table}
use Rattle.rules.proofs.Search.{clash, fails, lowest_passes, none_passes}
use Rattle.rules.proofs.Steps.{as_moved}
use Rattle.rules.proofs.Ways.{decoded_fits}
use Rattle.refusals.specs.declared.Refusal.{Refusal}

-- ---- 6 and 12

module _ {S : Type 0} (F : Form S) (L : Lawful F) (s : S) (message : List ℕ) (t : ℕ) where
  abbrev key_here : ℕ → Bool
  key_here i = holds t (key_in message) (F.cell s i)

  abbrev free_here : ℕ → Bool
  free_here i = not (is_held t (F.cell s i))

  -- the key is not held exactly when no place holds it
  held_by_none : not (key_held F s t (key_in message)) ≡ true → Unheld F t (key_in message) s
  unfolding place_of
  held_by_none e = none_passes key_here (F.count s) (not-true _ e)

  not_held : Unheld F t (key_in message) s → key_held F s t (key_in message) ≡ false
  unfolding place_of
  not_held x = fails _ (λ e. clash (lowest_passes key_here (F.count s) (ltb-true _ _ e)) (x _ (ltb-true _ _ e)))

  -- 6 is earned exactly when the message may start a track, no place holds the key and each holds a track in date
  pub six_means : earns6 F s message t ≡ true ↔ (starts_in message ≡ true) × AllTaken F t (key_in message) s
  unfolding free_place
  six_means = (
    λ e.
        let rest = and_right (not (key_held F s t (key_in message))) _ e in (
          and_left (starts_in message) _ rest,
          record {
            unheld = held_by_none (and_left (not (key_held F s t (key_in message))) _ e);
            taken = λ i h. not-false _ (none_passes free_here (F.count s) (not-true _ (and_right (starts_in message) _ rest)) i h);
          },
        ),
    λ x.
        let taken : place_free F s t ≡ false
        = fails _ (λ e. clash (x.1.taken _ (ltb-true _ _ e)) (not-true _ (lowest_passes free_here (F.count s) (ltb-true _ _ e)))) in
        rw (not_held x.1.unheld, x.0, taken),
  )

  -- 12 is earned exactly when it may not, and no place holds the key
  pub twelve_means : earns12 F s message t ≡ true ↔ (starts_in message ≡ false) × Unheld F t (key_in message) s
  twelve_means = (
    λ e. (
      not-true (starts_in message) (and_right (not (key_held F s t (key_in message))) _ e),
      held_by_none (and_left (not (key_held F s t (key_in message))) _ e),
    ),
    λ x. rw (not_held x.1, x.0),
  )

  -- the clock's move changes no place
  six_moved : earns6 F (F.moved s t) message t ≡ earns6 F s message t
  unfolding place_of free_place
  six_moved =
      as_moved F L s t
      (λ (f : ℕ → Cell) (n : ℕ). (not (ltb (lowest (λ i. holds t (key_in message) (f i)) n) n) && (starts_in message && not (ltb (lowest (λ i. not (is_held t (f i))) n) n))) ≡ earns6 F s message t)
      refl

  twelve_moved : earns12 F (F.moved s t) message t ≡ earns12 F s message t
  unfolding place_of
  twelve_moved =
      as_moved F L s t (λ (f : ℕ → Cell) (n : ℕ). (not (ltb (lowest (λ i. holds t (key_in message) (f i)) n) n) && not (starts_in message)) ≡ earns12 F s message t)
      refl

-- ---- what is delivered

abbrev said_after : {S : Type 0} → After S (Result Message Refusal) → Said Values
said_after x = said x.answer

-- 6 or 12 in the place of a message's values
abbrev unless : Bool → Bool → Said Values → Said Values
unless six twelve (number n) = number n
unless six twelve (gives v) = cond six (number 6) (cond twelve (number 12) (gives v))

module _ (message : List ℕ) (m : Message) (d : decoded message ≡ Ok m) where
  stepped_answer : (x : Track) (site : Site) (t : ℕ) → (stepped x (Ok m) site t).answer ≡ Ok m
  stepped_answer x site t = ap (λ (y : Stepped). y.answer) (accepted x m site t (decoded_fits message m d))

  by_room : {S : Type 0} (held starts free : Bool) (s : S) (x y : After S (Result Message Refusal)) → x.answer ≡ Ok m → y.answer ≡ Ok m
      → said_after (cond held x (cond (starts && free) y (after (Err (turned_away starts)) s)))
      ≡ unless (not held && (starts && not free)) (not held && not starts) (said (Ok m))
  by_room true starts free s x y e f = ap said e
  by_room false true true s x y e f = ap said f
  by_room false true false s x y e f = refl
  by_room false false free s x y e f = refl

  message_says : {S : Type 0} (F : Form S) (s : S) (t : ℕ)
      → said_after (delivered F s (Ok m) t) ≡ unless (earns6 F s message t) (earns12 F s message t) (said (Ok m))
  unfolding delivered
  message_says F s t =
      by_room (key_held F s t (key_of m)) (starts m) (place_free F s t) s _ _ (stepped_answer _ _ t) (stepped_answer _ _ t)
      ∙ ap₂ (λ (k : ℕ) (b : Bool). unless (not (key_held F s t k) && (b && not (place_free F s t))) (not (key_held F s t k) && not b) (said (Ok m)))
      (decoded_key message m d) (decoded_starts message m d)

delivered_says : {S : Type 0} (F : Form S) (s : S) (message : List ℕ) (t : ℕ) (d : Result Message Refusal) → decoded message ≡ d
    → said_after (delivered F s d t) ≡ unless (earns6 F s message t) (earns12 F s message t) (said d)
unfolding delivered
delivered_says F s message t (Err r) e = refl
delivered_says F s message t (Ok m) e = message_says message m e F s t

-- ---- the whole

said_first : {S : Type 0} (a b c : Bool) (s : S) (x : After S (Result Message Refusal))
    → said_after (cond a (after (Err Length) s) (cond b (after (Err Places) s) (cond c (after (Err Late) s) x)))
    ≡ cond a (number 1) (cond b (number 7) (cond c (number 2) (said_after x)))
said_first true b c s x = refl
said_first false true c s x = refl
said_first false false true s x = refl
said_first false false false s x = refl

in_order_lem : (one seven two three four five six twelve : Bool) (v : Values)
    → cond one (number 1) (cond seven (number 7) (cond two (number 2)
    (unless six twelve (cond one (number 1) (cond three (number 3) (cond four (number 4) (cond five (number 5) (gives v))))))))
    ≡ cond one (number 1) (cond seven (number 7) (cond two (number 2)
    (cond three (number 3) (cond four (number 4) (cond five (number 5) (cond six (number 6) (cond twelve (number 12) (gives v))))))))
in_order_lem true seven two three four five six twelve v = refl
in_order_lem false true two three four five six twelve v = refl
in_order_lem false false true three four five six twelve v = refl
in_order_lem false false false true four five six twelve v = refl
in_order_lem false false false false true five six twelve v = refl
in_order_lem false false false false false true six twelve v = refl
in_order_lem false false false false false false six twelve v = refl

-- what `receive` answers is what the table says
pub says_the_table : {S : Type 0} (F : Form S) → Lawful F → (s : S) (message : List ℕ) (t : ℕ) → said (received F s message t).answer ≡ receive_table F s message t
unfolding received
says_the_table F L s message t =
    let rest : said_after (delivered F (F.moved s t) (decoded message) t) ≡ unless (earns6 F s message t) (earns12 F s message t) (table message) =
    delivered_says F (F.moved s t) message t (decoded message) refl
    ∙ ap₂ (λ (six twelve : Bool). unless six twelve (said (decoded message))) (six_moved F L s message t) (twelve_moved F L s message t)
    ∙ ap (unless (earns6 F s message t) (earns12 F s message t)) (decoder.says_the_table message) in
    said_first (earns1 message) (earns7 F s) (earns2 F s t) s (delivered F (F.moved s t) (decoded message) t)
    ∙ ap (λ (x : Said Values). cond (earns1 message) (number 1) (cond (earns7 F s) (number 7) (cond (earns2 F s t) (number 2) x))) rest
    ∙ in_order_lem (earns1 message) (earns7 F s) (earns2 F s t) (earns3 message) (earns4 message) (earns5 message) (earns6 F s message t) (earns12 F s message t) (values_in message)
