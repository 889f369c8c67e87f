-- The statement is not empty, its proviso is needed, and a rule that overwrites breaks it: two messages at one time, of two aircraft or one of them damaged, to a table of one place or of two, computed.
-- Assumes nothing.
use Rattle.std.specs.Prelude.{None, Result, Ok, Err, Option, Some}
use Prim.Native.Nat.{ℕ, zero, suc, ◌+◌}
use native.Mathlib.Omega.{arith}
use mathlib.Core.Bool.{true, false≢true}
use mathlib.Core.Path.{◌≡◌, refl, ap, sym, ◌∙◌, subst}
use mathlib.Core.List.{List, [], ◌∷◌, ◌++◌}
use lib.ListN.{length, get_or, replicate}
use borrow.Author.Tests.{eqb-true}
use Rattle.fields.specs.Bytes.{Bytes}
use Rattle.parity.specs.Division.{remainder_from, reduce}
use Rattle.parity.specs.Parity.{remainder, flipped}
use Rattle.messages.specs.Message.{opened, kind_of, decoded, key_of}
use Rattle.whereabouts.specs.Located.{no_site, surface_position}
use Rattle.readings.specs.Altitude.{altitude_of, altitude_at}
use Rattle.track.specs.declared.Track.{Track}
use Rattle.track.specs.Track.{group_track, surface_track}
use Rattle.track.specs.Meaning.{meant_groups, meant_position, meant_saved, meant}
use Rattle.memory.specs.Bytes.{number_at, low_bytes, put}
use Rattle.memory.specs.Offsets.{table_size, whole_places}
use Rattle.memory.specs.Ranges.{in_range}
use Rattle.place.specs.Place.{saved_from, groups_in, lowered, position_in, written_in, track_of, above_pole, marks_of, saved_number, saved_bytes, message_bytes, spot_bytes, body_of}
use Rattle.rules.specs.Form.{is_held, holds}
use Rattle.rules.specs.Rules.{set_up, place_of, free_place, delivered, received, next_above}
use Rattle.rules.specs.Search.{better}
use Rattle.rules.specs.View.{view_at}
use Rattle.rules.specs.Agreement.{Call}
use Rattle.table_bytes.specs.Layout.{clock_of, site_from, key_at, body_at, moved, stored, emptied}
use Rattle.table.specs.Bytes.{bytes}
use Rattle.table.specs.View.{view}
use Rattle.table.proofs.Lawful.{bytes_set_up}
use Rattle.text.specs.declared.Row.{Row}
use Rattle.text.specs.Lines.{field, figure, header_text, key_text, row_text}
use Rattle.text.specs.Numbers.{decimal_in, decimal, hex}
use Rattle.text.proofs.Fits.{line_text_lem}
use Rattle.report.specs.Listing.{latitude_in, longitude_in, feet, step_in, row_of, row_for, listing, line_in}
use Rattle.report.specs.Walked.{line_printed, some_text, Walked, ended, then}
use Rattle.report.proofs.Walking.{walk_prints, walk_tracks}
use Rattle.isolation.specs.Runs.{is_of, Rule}
use Rattle.isolation.specs.Wrong.{number_in, overwriting}
use Rattle.isolation.proofs.Examples.{first, no_position_lem, stranger_first, not_six, empty_bytes}
use Rattle.merging.specs.Orders.{offered, OfOneKey, NoSix, Granted, Same, TwoAntennas}
use Rattle.merging.proofs.Merged.{two_antennas}
use Rattle.messages.specs.declared.Message.{Message}
use Rattle.refusals.specs.declared.Refusal.{Refusal}

-- ---- messages at one time: of I ABCDEF, the same with its last bit flipped, one of TYPE 0, and of I 123456, this also a second later

abbrev pub mine : Call
mine = record { message = first.message; time = 1000; fits = omega arith }

abbrev pub damaged : Call
damaged = record { message = flipped 112 first.message; time = 1000; fits = omega arith }

abbrev pub silent : Call
silent = record { message = no_position_lem.message; time = 1000; fits = omega arith }

abbrev pub other : Call
other = record { message = stranger_first.message; time = 1000; fits = omega arith }

abbrev pub later : Call
later = record { message = stranger_first.message; time = 2000; fits = omega arith }

-- the key of a message that is acceptable, else 0
abbrev pub key_in : Result Message Refusal → ℕ
key_in (Ok m) = key_of m
key_in (Err r) = 0

of_key : (key : ℕ) (d : Result Message Refusal) → is_of key d ≡ true → key_in d ≡ key
of_key key (Ok m) e = eqb-true (key_of m) key e
of_key key (Err r) e = absurd (false≢true e)

apart : (a b : Call) {j k : ℕ} → key_in (decoded a.message) ≡ j → key_in (decoded b.message) ≡ k → (j ≡ k → ⊥) → OfOneKey a b → ⊥
apart a b p q differ (key, (e, f)) = differ (sym p ∙ of_key key (decoded a.message) e ∙ sym (of_key key (decoded b.message) f) ∙ q)

-- ---- a table of n places, set up without a site, and the two orders of two messages to it, by a rule

zero_bytes_lem : (n : ℕ) → Bytes (replicate n 0)
zero_bytes_lem zero i = omega arith
zero_bytes_lem (suc n) zero = omega arith
zero_bytes_lem (suc n) (suc i) = zero_bytes_lem n i

abbrev pub ready : ℕ → List ℕ
ready n = (set_up bytes (empty_bytes n) no_site).table

pub zeros : (n : ℕ) → Bytes (ready n)
zeros n = bytes_set_up (empty_bytes n) no_site (zero_bytes_lem (table_size n))

-- the numbers answered: to a and then to b, and to b and then to a
pub record Answers (rule : Rule (List ℕ)) (n : ℕ) (a b : Call) (i j k l : ℕ) : Type 0 where
  pub first : number_in (offered rule (ready n) a b).first ≡ i
  pub second : number_in (offered rule (ready n) a b).second ≡ j
  pub first' : number_in (offered rule (ready n) b a).first ≡ k
  pub second' : number_in (offered rule (ready n) b a).second ≡ l

module _ {rule : Rule (List ℕ)} {n : ℕ} {a b : Call} {i j k l : ℕ} (x : Answers rule n a b i j k l) where
  no_six : (i ≡ 6 → ⊥) → (j ≡ 6 → ⊥) → NoSix (offered rule (ready n) a b)
  no_six p q = (λ e. not_six x.first p e, λ e. not_six x.second q e)

  no_six' : (k ≡ 6 → ⊥) → (l ≡ 6 → ⊥) → NoSix (offered rule (ready n) b a)
  no_six' p q = (λ e. not_six x.first' p e, λ e. not_six x.second' q e)

  -- a is answered otherwise second than first
  unlike : (i ≡ l → ⊥) → Same bytes (offered rule (ready n) a b) (offered rule (ready n) b a) → ⊥
  unlike ne e = ne (sym x.first ∙ ap number_in e.one ∙ x.second')

-- ---- a listing, by the keys held

-- the row of a key that was heard at 1000 and has said nothing of where it is
abbrev pub row : ℕ → Row
row key = record { key = key; heard = 1000; latitude = None; longitude = None; altitude = None; step = None }

abbrev rows_of : List ℕ → List ℕ
rows_of [] = []
rows_of (key ∷ keys) = row_text (row key) ++ rows_of keys

-- "clock 1000 tracks 2 bad-blocks 0", and a line for each key, as "I 123456 1000 - - - -"
abbrev text_of : List ℕ → List ℕ
text_of keys = header_text 1000 (length keys) 0 ++ rows_of keys

-- a walk from a key on, with the row of each key
pub data Rows (s : List ℕ) : ℕ → List ℕ → Type 0 where
  last : {above : ℕ} → next_above bytes s above ≡ Ok None → Rows s above []
  row_of_lem : {above key : ℕ} {keys : List ℕ} → next_above bytes s above ≡ Ok (Some key) → row_for true key (view s key) ≡ Some (row key) → Rows s key keys → Rows s above (key ∷ keys)

pub record Holds (s keys : List ℕ) : Type 0 where
  pub whole : whole_places (length s) ≡ true
  pub clock : clock_of s ≡ 1000
  pub rows : Rows s 0 keys

some_row : (key : ℕ) → some_text (row_text (row key)) ≡ 1
unfolding some_text row_text key_text
some_row key = refl

module _ (s : List ℕ) (whole : whole_places (length s) ≡ true) where
  line_text_is : (key : ℕ) → row_for true key (view s key) ≡ Some (row key) → line_printed (line_in true s key) ≡ row_text (row key)
  unfolding line_in
  line_text_is key e = rw (whole, e) (line_text_lem (row_text (row key)))

  rows_walked : {above : ℕ} {keys : List ℕ} → Rows s above keys → Walked true s above (length keys) (rows_of keys)
  rows_walked (last e) = ended e
  rows_walked {above} (row_of_lem {key = key} {keys = keys} e r more) =
      let t : line_printed (line_in true s key) ≡ row_text (row key) = line_text_is key r in
      subst (λ (n : ℕ). Walked true s above n (row_text (row key) ++ rows_of keys)) (omega (arith, some_row key))
      (subst (λ (x : List ℕ). Walked true s above (some_text x + length keys) (x ++ rows_of keys)) t (then e (rows_walked more)))

listing_is : {s keys : List ℕ} → Holds s keys → listing true s 0 ≡ text_of keys
listing_is {s} {keys} h =
    let w = rows_walked s h.whole h.rows in
    sym (walk_prints true s h.whole 0 w)
    ∙ ap (λ (x : List ℕ). x ++ rows_of keys) (walk_tracks true s h.whole 0 w ∙ ap (λ (c : ℕ). header_text c (length keys) 0) h.clock)

-- the first digit of the first key tells two texts apart
digits_apart : text_of (0x1ABCDEF ∷ []) ≡ text_of (0x1123456 ∷ []) → ⊥
unfolding decimal_in decimal hex field figure header_text key_text row_text
digits_apart e = let z : ◌≡◌ {A = ℕ} 65 49 = ap (λ (t : List ℕ). get_or t 35 0) e in omega arith

-- ---- computed

abbrev pub held_in : Option Track → ℕ
held_in None = 0
held_in (Some t) = 1

pub record Computed : Type 0 where
  pub keys : (key_in (decoded mine.message) ≡ 0x1ABCDEF) × (key_in (decoded other.message) ≡ 0x1123456) × (key_in (decoded damaged.message) ≡ 0)
  pub two_places : Answers (received bytes) 2 mine other 0 0 0 0
  pub both_held : Holds (offered (received bytes) (ready 2) mine other).table (0x1123456 ∷ 0x1ABCDEF ∷ [])
  pub places : (key_at (offered (received bytes) (ready 2) mine other).table 0 ≡ 0x1ABCDEF) × (key_at (offered (received bytes) (ready 2) other mine).table 0 ≡ 0x1123456)
  pub beside_damaged : Answers (received bytes) 1 mine damaged 0 3 3 0
  pub one_held : Holds (offered (received bytes) (ready 1) mine damaged).table (0x1ABCDEF ∷ [])
  pub one_place : Answers (received bytes) 1 mine other 0 6 0 6
  pub mine_held : Holds (offered (received bytes) (ready 1) mine other).table (0x1ABCDEF ∷ [])
  pub other_held : Holds (offered (received bytes) (ready 1) other mine).table (0x1123456 ∷ [])
  pub one_key : Answers (received bytes) 1 silent mine 12 0 0 0
  pub two_times : Answers (received bytes) 2 mine later 0 0 0 2
  pub by_overwriting : Answers (overwriting bytes) 1 mine other 0 0 0 0
  pub overwritten : (held_in (view (offered (overwriting bytes) (ready 1) mine other).table 0x1ABCDEF) ≡ 0) × (held_in (view (offered (overwriting bytes) (ready 1) other mine).table 0x1ABCDEF) ≡ 1)

pub computed : Computed
unfolding flipped remainder remainder_from reduce opened kind_of is_held holds set_up place_of free_place delivered received next_above better view_at whole_places site_from key_at body_at moved stored emptied number_at low_bytes put saved_from groups_in lowered position_in written_in meant_groups meant_position meant_saved meant track_of above_pole marks_of saved_number saved_bytes message_bytes spot_bytes body_of in_range group_track surface_track surface_position latitude_in longitude_in feet step_in row_of row_for altitude_of altitude_at
computed =
    record {
      keys = (refl, refl, refl);
      two_places = record { first = refl; second = refl; first' = refl; second' = refl };
      both_held = record { whole = refl; clock = refl; rows = row_of_lem refl refl (row_of_lem refl refl (last refl)) };
      places = (refl, refl);
      beside_damaged = record { first = refl; second = refl; first' = refl; second' = refl };
      one_held = record { whole = refl; clock = refl; rows = row_of_lem refl refl (last refl) };
      one_place = record { first = refl; second = refl; first' = refl; second' = refl };
      mine_held = record { whole = refl; clock = refl; rows = row_of_lem refl refl (last refl) };
      other_held = record { whole = refl; clock = refl; rows = row_of_lem refl refl (last refl) };
      one_key = record { first = refl; second = refl; first' = refl; second' = refl };
      two_times = record { first = refl; second = refl; first' = refl; second' = refl };
      by_overwriting = record { first = refl; second = refl; first' = refl; second' = refl };
      overwritten = (refl, refl);
    }

pub mine_other : OfOneKey mine other → ⊥
mine_other = apart mine other computed.keys.0 computed.keys.1 (λ e. omega arith)

-- ---- not empty

-- two aircraft: both orders list both, though at other places
pub two_aircraft : Granted (received bytes) (ready 2) mine other
    × (listing true (offered (received bytes) (ready 2) mine other).table 0 ≡ text_of (0x1123456 ∷ 0x1ABCDEF ∷ []))
    × (listing true (offered (received bytes) (ready 2) other mine).table 0 ≡ text_of (0x1123456 ∷ 0x1ABCDEF ∷ []))
    × ((offered (received bytes) (ready 2) mine other).table ≡ (offered (received bytes) (ready 2) other mine).table → ⊥)
two_aircraft =
    let x = computed.two_places in
    let g : Granted (received bytes) (ready 2) mine other
    = record { time = refl; keys = mine_other; one_way = no_six x (λ e. omega arith) (λ e. omega arith); other_way = no_six' x (λ e. omega arith) (λ e. omega arith) } in (
      g,
      listing_is computed.both_held,
      sym ((two_antennas (ready 2) (zeros 2) mine other g).1 true 0) ∙ listing_is computed.both_held,
      λ e. let z : ◌≡◌ {A = ℕ} 0x1ABCDEF 0x1123456 = sym computed.places.0 ∙ ap (λ (s : List ℕ). key_at s 0) e ∙ computed.places.1 in omega arith,
    )

-- an aircraft's message and a damaged copy of it: 3 to the copy, first or second
pub with_damaged : Granted (received bytes) (ready 1) mine damaged
    × (number_in (offered (received bytes) (ready 1) mine damaged).second ≡ 3) × (number_in (offered (received bytes) (ready 1) damaged mine).first ≡ 3)
    × (listing true (offered (received bytes) (ready 1) mine damaged).table 0 ≡ text_of (0x1ABCDEF ∷ []))
with_damaged =
    let x = computed.beside_damaged in (
      record {
        time = refl;
        keys = apart mine damaged computed.keys.0 computed.keys.2 (λ e. omega arith);
        one_way = no_six x (λ e. omega arith) (λ e. omega arith);
        other_way = no_six' x (λ e. omega arith) (λ e. omega arith);
      },
      x.second,
      x.first',
      listing_is computed.one_held,
    )

-- ---- each of the three premises is needed

-- one place and two newcomers: the first has it, and the second is refused with 6, so answers and listing go by the order
pub order_decides : (OfOneKey mine other → ⊥)
    × (number_in (offered (received bytes) (ready 1) mine other).first ≡ 0) × (number_in (offered (received bytes) (ready 1) mine other).second ≡ 6)
    × (number_in (offered (received bytes) (ready 1) other mine).first ≡ 0) × (number_in (offered (received bytes) (ready 1) other mine).second ≡ 6)
    × (listing true (offered (received bytes) (ready 1) mine other).table 0 ≡ text_of (0x1ABCDEF ∷ []))
    × (listing true (offered (received bytes) (ready 1) other mine).table 0 ≡ text_of (0x1123456 ∷ []))
    × (listing true (offered (received bytes) (ready 1) mine other).table 0 ≡ listing true (offered (received bytes) (ready 1) other mine).table 0 → ⊥)
order_decides =
    let x = computed.one_place in
    let p = listing_is computed.mine_held in
    let q = listing_is computed.other_held in
    (mine_other, x.first, x.second, x.first', x.second', p, q, λ e. digits_apart (sym p ∙ e ∙ q))

-- two messages of one key: TYPE 0 is answered 12 before the message that starts the track, and not behind it
pub keys_needed : ((a b : Call) → a.time ≡ b.time → NoSix (offered (received bytes) (ready 1) a b) → NoSix (offered (received bytes) (ready 1) b a)
    → Same bytes (offered (received bytes) (ready 1) a b) (offered (received bytes) (ready 1) b a)) → ⊥
keys_needed h =
    let x = computed.one_key in
    unlike x (λ e. omega arith) (h silent mine refl (no_six x (λ e. omega arith) (λ e. omega arith)) (no_six' x (λ e. omega arith) (λ e. omega arith)))

-- two times: what comes behind a later message is late
pub times_needed : ((a b : Call) → (OfOneKey a b → ⊥) → NoSix (offered (received bytes) (ready 2) a b) → NoSix (offered (received bytes) (ready 2) b a)
    → Same bytes (offered (received bytes) (ready 2) a b) (offered (received bytes) (ready 2) b a)) → ⊥
times_needed h =
    let x = computed.two_times in
    unlike x (λ e. omega arith) (h mine later mine_other (no_six x (λ e. omega arith) (λ e. omega arith)) (no_six' x (λ e. omega arith) (λ e. omega arith)))

-- ---- what must not pass: a newcomer written over the last place, which never answers 6

pub no_overwriting : TwoAntennas (overwriting bytes) → ⊥
no_overwriting h =
    let x = computed.by_overwriting in
    let e = h (ready 1) (zeros 1) mine other
    (record { time = refl; keys = mine_other; one_way = no_six x (λ e. omega arith) (λ e. omega arith); other_way = no_six' x (λ e. omega arith) (λ e. omega arith) }) in
    let z : ◌≡◌ {A = ℕ} 0 1 = sym computed.overwritten.0 ∙ ap held_in (e.0.tracks 0x1ABCDEF) ∙ computed.overwritten.1 in
    omega arith
