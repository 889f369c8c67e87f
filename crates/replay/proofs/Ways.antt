-- The ways through the plain method: a message whose AA is another's is none of the key's, an old track goes, and a frame steps a track as its message does.
-- Assumes nothing.
use Rattle.std.specs.Prelude.{Result, Ok, Err, Option, Some, None}
use Prim.Native.Nat.{ℕ, ◌+◌, ◌-◌, ◌*◌, ◌/◌, ◌%◌, ◌^◌, ◌≤◌, ◌<◌}
use native.Mathlib.Numerals.{add-one}
use native.Mathlib.Omega.{arith}
use mathlib.Core.Bool.{Bool, true, false, cond, not, ◌||◌, true≢false}
use mathlib.Core.Path.{◌≡◌, refl, ap, ap₂, sym, ◌∙◌}
use mathlib.Core.List.{List, ◌++◌}
use lib.Dec.{eqb, leb}
use lib.ListN.{length, take, drop, length-drop}
use lib.Seq.{take_all, length-take-le, take-append_seam, drop-append_seam}
use Rattle.std.proofs.lemmas.List.{drop-drop, length-append}
use borrow.Author.Tests.{lt-ltb, le-ltb, eqb-true, eq-eqb, ne_eqb}
use Rattle.refusals.specs.declared.Refusal.TheVariants.{Field, Log}
use Rattle.fields.specs.Bytes.{number, Bytes}
use Rattle.fields.proofs.Bytes.{bytes_take, number_whole}
use Rattle.keys.specs.Keys.{low24, key_for, address_in}
use Rattle.keys.specs.declared.Kind.{Kind}
use Rattle.keys.proofs.Laws.{address_back}
use Rattle.messages.specs.declared.Frame.{Frame}
use Rattle.messages.specs.declared.Message.{Message}
use Rattle.messages.specs.Message.{bits, decoded, message_kind, key_of, starts}
use Rattle.messages.specs.Accepted.{accepted, opened_as, frame_coarse, frame_key, frame_starts, message_of, Opens}
use Rattle.messages.proofs.Parts.{head_lt, address_is}
use Rattle.messages.proofs.Acceptance.{accepted_opened}
use Rattle.messages.proofs.Keys.{decoded_from, frame_key_lem}
use Rattle.messages.proofs.Starting.{frame_starts_lem}
use Rattle.whereabouts.specs.declared.Site.{Site}
use Rattle.track.specs.declared.Track.{Track}
use Rattle.track.specs.Track.{step_me}
use Rattle.track.specs.Held.{later_at, found, stepped_from}
use Rattle.track.proofs.Mes.{stepped_as}
use Rattle.replay.specs.Alone.{own_in, heard_in, told_of, own_after}
use Rattle.replay.specs.declared.Own.{Own}
use Rattle.replay.specs.Replay.{is_log, heard_at, unheard, own_at, sited, is_wide, bad_site, replayed}
use Rattle.replay.specs.Code.{begun}
use Rattle.refusals.specs.declared.Refusal.{Refusal}

-- ---- a message whose AA is another's

module _ (s : List ℕ) (key : ℕ) (l : length s ≡ 14) (h : Bytes s) (other : eqb (number (take 4 s) % 2 ^ 64 % 2 ^ 24) (address_in key) ≡ false) where
  pub not_own : own_in key (decoded s) ≡ None
  not_own = by_answer (decoded s) refl
    where
      by_key : (m : Message) → decoded s ≡ Ok m → (b : Bool) → eqb (key_of m) key ≡ b → ◌≡◌ {A = Option Message} (cond b (Some m) None) None
      by_key m d false e = refl
      by_key m d true e =
          let address : m.address ≡ bits 9 32 s = ap (λ (n : Message). n.address) (sym (decoded_from s m d).1) in
          let its : address_in (key_of m) ≡ low24 m.address = address_back (message_kind m) m.address in
          let same : number (take 4 s) % 2 ^ 64 % 2 ^ 24 ≡ address_in key = omega (arith, address, its, ap address_in (eqb-true (key_of m) key e), address_is s l h, head_lt s l h) in
          absurd (true≢false (sym (eq-eqb _ _ same) ∙ other))

      by_answer : (d : Result Message Refusal) → decoded s ≡ d → own_in key d ≡ None
      by_answer (Err r) e = refl
      by_answer (Ok m) e = by_key m e (eqb (key_of m) key) refl

-- ---- a frame that was accepted

abbrev pub with_track : ℕ → Option Track → Own
with_track clock t = record { clock = clock; track = t }

module _ (f : Frame) (o : Opens f) (key : ℕ) (site : Site) (clock : ℕ) (t : Option Track) where
  abbrev m : Message
  m = message_of f o.body

  abbrev heard : Option Message
  heard = own_in key (opened_as (Ok f))

  opened : (b : Bool) → eqb (key_of m) key ≡ b → heard ≡ cond b (Some m) None
  opened b e = ap (own_in key) o.message ∙ ap (λ (x : Bool). cond x (Some m) None) e

  abbrev Told : Option Track → Type 0
  Told x = with_track clock x ≡ with_track clock (told_of site clock heard t)

  another's : (frame_key f ≡ key → ⊥) → heard ≡ None
  another's n = opened false (ne_eqb (key_of m) key (λ e. n (frame_key_lem f o ∙ e)))

  its_own : frame_key f ≡ key → heard ≡ Some m
  its_own e = opened true (eq-eqb (key_of m) key (sym (frame_key_lem f o) ∙ e))

  pub told_another : (frame_key f ≡ key → ⊥) → Told t
  told_another n = sym (ap (λ (x : Option Message). with_track clock (told_of site clock x t)) (another's n))

  -- the track that it steps is the one that the rules find
  found_by : (h : Option Track) → begun (starts m) h ≡ found m h
  found_by None = refl
  found_by (Some x) = refl

  told : {x : Option Track} → frame_key f ≡ key → x ≡ begun (frame_starts f) t → stepped_from m site clock x ≡ told_of site clock heard t
  told {x} k e = rw (its_own k) (ap (stepped_from m site clock) (e ∙ ap (λ (b : Bool). begun b t) (frame_starts_lem f o) ∙ found_by t))

  none_begun : (b : Bool) (h : Option Track) → None ≡ begun b h → h ≡ None
  none_begun b None e = refl
  none_begun b (Some x) e = sym e

  pub told_none : frame_key f ≡ key → None ≡ begun (frame_starts f) t → Told t
  told_none k e = ap (with_track clock) (none_begun (frame_starts f) t e ∙ told k e)

  pub told_step : (u : Track) → frame_key f ≡ key → Some u ≡ begun (frame_starts f) t → {x : Track} → x ≡ step_me u (frame_coarse f) f.me site clock → Told (Some x)
  told_step u k e x-is =
      ap (λ (y : Track). with_track clock (Some y)) (x-is ∙ stepped_as u site clock (frame_coarse f) f.me o.body o.reads o.fits o.same) ∙ ap (with_track clock) (told k e)

-- ---- a message that comes at a time, late or not

module _ (site : Site) (key : ℕ) (s : List ℕ) (time : ℕ) (o : Own) where
  abbrev Heard : Own → Type 0
  Heard r = r ≡ own_after site o (heard_in key s time)

  pub hears_late : time < o.clock → Heard o
  unfolding own_after heard_in
  hears_late h = rw (lt-ltb time o.clock h)

  module _ (h : o.clock ≤ time) where
    in_time : {r : Own} → r ≡ with_track time (told_of site time (own_in key (decoded s)) (later_at time o.track)) → Heard r
    unfolding own_after heard_in
    in_time e = rw (le-ltb time o.clock h) e

    pub hears_none : own_in key (decoded s) ≡ None → Heard (with_track time (later_at time o.track))
    hears_none e = in_time (sym (ap (λ (x : Option Message). with_track time (told_of site time x (later_at time o.track))) e))

    pub hears_frame : (f : Frame) → accepted s ≡ Ok f → {r : Own} → r ≡ with_track time (told_of site time (own_in key (opened_as (Ok f))) (later_at time o.track)) → Heard r
    hears_frame f a e =
        in_time (e ∙ sym (ap (λ (x : Result Message Refusal). with_track time (told_of site time (own_in key x) (later_at time o.track))) (accepted_opened s ∙ ap opened_as a)))

  pub refused_none : {x : Result Frame Refusal} → accepted s ≡ x → own_in key (opened_as x) ≡ None → own_in key (decoded s) ≡ None
  refused_none a e = ap (own_in key) (accepted_opened s ∙ ap opened_as a) ∙ e

-- ---- the records of a log

module _ (site : Site) (key : ℕ) where
  -- the parts of a record, as the code cuts them
  pub record_heard : (o : Own) (r : List ℕ) → length r ≡ 22 → Bytes r → {time : ℕ} → time ≡ number (take 8 r) % 2 ^ 64 → {x : Own}
      → x ≡ own_after site o (heard_in key (take 14 (drop 8 r)) time) → x ≡ own_after site o (heard_at key r)
  record_heard o r l h {time} t e =
      let time_is : time ≡ number (take 8 r) = t ∙ number_whole (take 8 r) (bytes_take 8 r h) (omega (arith, length-take-le 8 r (omega arith))) in
      let message_is : take 14 (drop 8 r) ≡ drop 8 r = take_all 14 (drop 8 r) (omega (arith, length-drop 8 r)) in
      e ∙ ap₂ (λ (m : List ℕ) (n : ℕ). own_after site o (heard_in key m n)) message_is time_is

  -- one more record, off the front of what is left
  pub records_on : (first : Own) (log chunk rest left : List ℕ) (n : ℕ) {k : ℕ} {o x : Own} → k ≡ n + 1 → rest ≡ drop (22 * n) log → rest ≡ chunk ++ left → length chunk ≡ 22 → 22 * n ≤ length log
      → o ≡ own_at site key first log n → x ≡ own_after site o (heard_at key chunk) → (left ≡ drop (22 * k) log) × (22 * k ≤ length log) × (x ≡ own_at site key first log k)
  records_on first log chunk rest left n {k} {o} {x} at r split l short e f =
      let whole : drop (22 * n) log ≡ chunk ++ left = sym r ∙ split in
      let ahead : 22 * n + 22 ≡ 22 * k = omega (arith, at) in
      let left_is : left ≡ drop (22 * k) log =
      sym (drop-append_seam chunk left) ∙ ap₂ (λ (m : ℕ) (s : List ℕ). drop m s) l (sym whole) ∙ drop-drop 22 (22 * n) log ∙ ap (λ (m : ℕ). drop m log) ahead in
      let chunk_is : chunk ≡ take 22 (drop (22 * n) log) = sym (take-append_seam chunk left) ∙ ap₂ (λ (m : ℕ) (s : List ℕ). take m s) l (sym whole) in
      let sum : length (drop (22 * n) log) ≡ length chunk + length left = ap (λ (s : List ℕ). length s) whole ∙ length-append chunk left in
      let more : x ≡ own_at site key first log (n + 1) = rw add-one (f ∙ ap₂ (λ (o : Own) (s : List ℕ). own_after site o (heard_at key s)) e chunk_is) in
      (left_is, omega (arith, at, sum, length-drop (22 * n) log, l, short), more ∙ ap (own_at site key first log) (sym at))

-- ---- the answer, by the tests on the way

module _ (log : List ℕ) (kind : Kind) (address : ℕ) (site : Site) {w : Bool} (w-is : w ≡ is_log (length log)) where
  abbrev Answer : Result (Option Track) Refusal → Type 0
  Answer x = x ≡ replayed log kind address site

  pub no_log : not w ≡ true → Answer (Err Log)
  unfolding replayed
  no_log e = rw (← w-is, e)

  module _ (whole : not w ≡ false) {k t : Bool} (k-is : k ≡ is_wide kind) (t_is : t ≡ bad_site site) where
    pub no_field : leb (2 ^ 24) address || k || t ≡ true → Answer (Err Field)
    unfolding replayed
    no_field e = rw (← w-is, whole, ← k-is, ← t_is, e)

    pub all_heard : leb (2 ^ 24) address || k || t ≡ false → {x : Result (Option Track) Refusal} → x ≡ Ok (own_at (sited site) (key_for kind address) unheard log (length log / 22)).track → Answer x
    unfolding replayed
    all_heard e x-is = rw (← w-is, whole, ← k-is, ← t_is, e) x-is
