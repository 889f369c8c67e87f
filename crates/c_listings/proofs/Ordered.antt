-- Two antennas, one instant, of the calls from C: a call that meets its contract does what the rule says, so the two orders are those of the rules; and what C is told of a table goes by its length, its clock, its tracks and
-- its listing.
-- Assumes nothing.
use Rattle.std.specs.Prelude.{Result, Ok, Err, Option}
use Prim.Native.Nat.{ℕ, ◌^◌, ◌<◌}
use mathlib.Core.Bool.{Bool, true, false, cond}
use mathlib.Core.Path.{◌≡◌, refl, ap, ap₂, sym, ◌∙◌, subst}
use mathlib.Core.List.{List}
use lib.ListN.{length}
use Rattle.refusals.specs.declared.Refusal.TheVariants.{Places}
use Rattle.entries.specs.Sent.{Sent, into}
use Rattle.memory.specs.Offsets.{whole_places}
use Rattle.track_rows.specs.Held.{looked_said}
use Rattle.rules.specs.Agreement.{Call}
use Rattle.rules.specs.Rules as rules
use Rattle.rules.proofs.Laws.{looked_up_lem}
use Rattle.table_bytes.specs.Layout.{clock_of}
use Rattle.table.specs.Bytes.{bytes}
use Rattle.table.specs.Heard.{heard_as}
use Rattle.table.specs.Table.{received, looked_up, clock_in}
use Rattle.table.specs.View.{view}
use Rattle.feed.proofs.Lengths.{received_length}
use Rattle.display.specs.Lines.{chosen}
use Rattle.merging.specs.Orders as orders
use Rattle.merging.specs.Orders.{offered, NoSix, SameListing}
use Rattle.merging.proofs.Merged.{two_antennas}
use Rattle.addercoil.specs.Done.{done_number}
use Rattle.addercoil.specs.Tables.{clock_said}
use Rattle.c_promises.proofs.Followed.{look_up_is}
use Rattle.c_promises.proofs.Isolated.{number_is, table_is}
use Rattle.c_promises.proofs.Timed.{clock_is}
use Rattle.c_listings.specs.Orders.{Offered, No6, SameShown, EitherOrder}
use Rattle.c_listings.proofs.Printed.{prints_listing}
use Rattle.messages.specs.declared.Message.{Message}
use Rattle.refusals.specs.declared.Refusal.{Refusal}
use Rattle.track.specs.declared.Track.{Track}

-- ---- what C is told of two tables

module _ (s t : List ℕ) (long : length s ≡ length t) where
  clock_same : clock_of s ≡ clock_of t → clock_in s ≡ clock_in t
  unfolding clock_in
  clock_same e = ap₂ (λ (n : ℕ) (c : ℕ). cond (whole_places n) (Ok c) (Err Places)) long e

  looked_same : (key : ℕ) → view s key ≡ view t key → (b : Bool) → whole_places (length s) ≡ b → looked_up s key ≡ looked_up t key
  unfolding rules.looked_up
  looked_same key e true w = looked_up_lem bytes s key w ∙ ap Ok e ∙ sym (looked_up_lem bytes t key (sym (ap whole_places long) ∙ w))
  looked_same key e false w = rw (w, sym (ap whole_places long) ∙ w)

  same_shown : clock_of s ≡ clock_of t → ((key : ℕ) → view s key ≡ view t key) → SameListing s t → SameShown s t
  same_shown c v l =
      record {
        clock = λ out x y a b. clock_is a ∙ ap (λ (z : Result ℕ Refusal). into 1 out (clock_said z)) (clock_same c) ∙ sym (clock_is b);
        tracks = λ key track x y a b.
            look_up_is a ∙ ap (λ (z : Result (Option Track) Refusal). into 72 track (looked_said key z)) (looked_same key (v key) (whole_places (length s)) refl) ∙ sym (look_up_is b);
        listing = λ bad all p q a b. prints_listing a ∙ l (chosen all) bad ∙ sym (prints_listing b);
      }

-- ---- the two orders

abbrev number_in : Result Message Refusal → ℕ
number_in d = done_number (heard_as d)

module _ (table a b : List ℕ) (time : ℕ) (fits : time < 2 ^ 64) {x y : Sent} (o : Offered table a b time x y) where
  abbrev by : List ℕ → Call
  by message = record { message = message; time = time; fits = fits }

  abbrev rule : orders.Offered (List ℕ) (Result Message Refusal)
  rule = offered received table (by a) (by b)

  first_number : x.number ≡ number_in rule.first
  first_number = number_is o.first

  second_number : y.number ≡ number_in rule.second
  second_number = number_is o.second ∙ ap (λ (s : List ℕ). number_in (received s b time).answer) (table_is o.first)

  table_after_lem : y.array ≡ rule.table
  table_after_lem = table_is o.second ∙ ap (λ (s : List ℕ). (received s b time).table) (table_is o.first)

  as_long : length rule.table ≡ length table
  as_long = received_length (received table a time).table b time ∙ received_length table a time

  no_six : No6 x y → NoSix rule
  no_six n = (λ e. n.0 (first_number ∙ ap number_in e), λ e. n.1 (second_number ∙ ap number_in e))

pub either_order : EitherOrder
either_order table a b time bs fits apart x y v w ab ba n m =
    let e = two_antennas table bs (by table a b time fits ab a) (by table a b time fits ab b)
    (record { time = refl; keys = apart; one_way = no_six table a b time fits ab n; other_way = no_six table b a time fits ba m }) in (
      first_number table a b time fits ab ∙ ap number_in e.0.one ∙ sym (second_number table b a time fits ba),
      second_number table a b time fits ab ∙ ap number_in e.0.other ∙ sym (first_number table b a time fits ba),
      subst (λ (s : List ℕ). SameShown s w.array) (sym (table_after_lem table a b time fits ab))
          (subst (SameShown (rule table a b time fits ab).table) (sym (table_after_lem table b a time fits ba))
          (same_shown (rule table a b time fits ab).table (rule table b a time fits ba).table (as_long table a b time fits ab ∙ sym (as_long table b a time fits ba)) e.0.clock e.0.tracks e.1)),
    )
