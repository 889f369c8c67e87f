-- What a move of the clock, and a track stored at a place, do to the views of a table and to each key being held once: of any form that keeps the laws.
-- Assumes nothing.
use Rattle.std.specs.Prelude.{Option, Some, None}
use Prim.Native.Nat.{ℕ, ◌-◌, ◌≤◌, ◌<◌}
use native.Mathlib.Omega.{arith}
use mathlib.Core.Bool.{Bool, true, false, cond, ◌&&◌, and_assoc}
use mathlib.Core.Logic.{⊎_elim, ◌↔◌}
use mathlib.Core.Path.{◌≡◌, refl, ap, sym, ◌∙◌, subst, fun_ext}
use lib.Dec.{eqb, ltb}
use borrow.Author.Tests.{eq-eqb, ne_eqb, lt-ltb, ltb-true}
use Rattle.fields.proofs.Bools.{and-false}
use Rattle.track.specs.declared.Track.{Track}
use Rattle.track.specs.Held.{in_date, later_at}
use Rattle.place.specs.Place.{Fits}
use Rattle.keys.specs.Keys.{is_key}
use Rattle.rules.specs.Form.{Cell, taken, is_held, holds, Form, Lawful}
use Rattle.rules.specs.View.{look, track_in, view_at, Once, AllFit, Unheld, AllTaken}
use Rattle.rules.proofs.Search.{clash, alike, keep, look_first, once_same, look_same, once_only, once_aged, look_aged}

-- each key is held at most once at a clock
abbrev pub Single : {S : Type 0} → Form S → ℕ → S → Type 0
Single F clock s = (key : ℕ) → Once (holds clock key) (F.cell s) (F.count s)

-- ---- a later clock

abbrev pub young : ℕ → Cell → Bool
young t p = in_date t p.track.heard

narrowed : (a x y : Bool) → (y ≡ true → x ≡ true) → a && y ≡ (a && x) && y
narrowed false x y h = refl
narrowed true x true h = rw (h refl)
narrowed true x false h = sym (and-false x)

pub held_later : (c t : ℕ) → c ≤ t → (p : Cell) → is_held t p ≡ is_held c p && young t p
unfolding is_held
held_later c t h p =
    narrowed p.in_range (ltb (c - p.track.heard) 125000) (ltb (t - p.track.heard) 125000)
    (λ e. lt-ltb (c - p.track.heard) 125000 (omega (arith, ltb-true (t - p.track.heard) 125000 e)))

holds_later : (c t key : ℕ) → c ≤ t → (p : Cell) → holds t key p ≡ holds c key p && young t p
unfolding holds
holds_later c t key h p =
    ap (λ (b : Bool). eqb p.key key && b) (held_later c t h p)
    ∙ sym (and_assoc (eqb p.key key) (is_held c p) (young t p))

track_later : (t : ℕ) (o : Option Cell) → track_in (keep (young t) o) ≡ later_at t (track_in o)
track_later t None = refl
track_later t (Some p) = by_cases (ltb (t - p.track.heard) 125000)
  where
    by_cases : (b : Bool) → track_in (cond b (Some p) None) ≡ cond b (Some p.track) None
    by_cases true = refl
    by_cases false = refl

module _ {S : Type 0} (F : Form S) (s : S) (c t : ℕ) (single : Single F c s) (h : c ≤ t) where
  -- what is out of date at the later clock is not seen any more
  pub view_later : (k : ℕ) → view_at F t s k ≡ later_at t (view_at F c s k)
  unfolding view_at
  view_later k =
      ap track_in (look_aged (holds c k) (holds t k) (young t) (holds_later c t k h) (F.cell s) (F.count s) (single k))
      ∙ track_later t (look (holds c k) (F.cell s) (F.count s))

  pub single_later : Single F t s
  single_later k = once_aged (holds c k) (holds t k) (young t) (holds_later c t k h) (F.cell s) (F.count s) (single k)

-- ---- the clock moves

abbrev NoneHolds : ℕ → ℕ → (ℕ → Cell) → ℕ → Type 0
NoneHolds c k f n = (i : ℕ) → i < n → holds c k (f i) ≡ false

abbrev Taken : ℕ → ℕ → (ℕ → Cell) → ℕ → Type 0
Taken c k f n = NoneHolds c k f n × ((i : ℕ) → i < n → is_held c (f i) ≡ true)

module _ {S : Type 0} (F : Form S) (L : Lawful F) (s : S) (t : ℕ) where
  moved_places : F.cell (F.moved s t) ≡ F.cell s
  moved_places = fun_ext (λ j. L.moved_cell s t j)

  -- what is said of the places is said of them afterwards
  pub as_moved : (P : (ℕ → Cell) → ℕ → Type 0) → P (F.cell s) (F.count s) → P (F.cell (F.moved s t)) (F.count (F.moved s t))
  as_moved P x = subst (λ (n : ℕ). P (F.cell (F.moved s t)) n) (sym (L.moved_count s t)) (subst (λ (f : ℕ → Cell). P f (F.count s)) (sym moved_places) x)

  -- and before
  as_before : (P : (ℕ → Cell) → ℕ → Type 0) → P (F.cell (F.moved s t)) (F.count (F.moved s t)) → P (F.cell s) (F.count s)
  as_before P x = subst (λ (f : ℕ → Cell). P f (F.count s)) moved_places (subst (λ (n : ℕ). P (F.cell (F.moved s t)) n) (L.moved_count s t) x)

  pub moved_view : (c k : ℕ) → view_at F c (F.moved s t) k ≡ view_at F c s k
  unfolding view_at
  moved_view c k = as_moved (λ (f : ℕ → Cell) (n : ℕ). track_in (look (holds c k) f n) ≡ track_in (look (holds c k) (F.cell s) (F.count s))) refl

  pub moved_unheld : (c k : ℕ) → Unheld F c k (F.moved s t) ↔ Unheld F c k s
  moved_unheld c k = (as_before (NoneHolds c k), as_moved (NoneHolds c k))

  pub moved_taken : (c k : ℕ) → AllTaken F c k (F.moved s t) ↔ AllTaken F c k s
  moved_taken c k = (
    λ x. let y = as_before (Taken c k) (x.unheld, x.taken) in record { unheld = y.0; taken = y.1 },
    λ x. let y = as_moved (Taken c k) (x.unheld, x.taken) in record { unheld = y.0; taken = y.1 },
  )

-- ---- what fits stays so

module _ {S : Type 0} (F : Form S) (L : Lawful F) (s : S) (fit : AllFit F s) where
  pub moved_fit : (t : ℕ) → AllFit F (F.moved s t)
  moved_fit t = as_moved F L s t (λ (f : ℕ → Cell) (n : ℕ). (i : ℕ) → i < n → (f i).in_range ≡ true → Fits (f i).track) fit

  pub stored_fit : (i key : ℕ) (x : Track) → F.whole s ≡ true → i < F.count s → is_key key ≡ true → Fits x → AllFit F (F.stored s i key x)
  stored_fit i key x size h is_key fits j g e = ⊎_elim
      (λ (y : j ≡ i). subst (λ (c : Cell). Fits c.track) (sym (ap (F.cell (F.stored s i key x)) y ∙ L.stored_there s i key x size h is_key fits)) fits)
      (λ (y : j ≡ i → ⊥). let g' : j < F.count s = omega (arith, g, L.stored_count s i key x) in
      let same = L.stored_elsewhere s i key x h j g' y in
      subst (λ (c : Cell). Fits c.track) (sym same) (fit j g' (ap (λ (c : Cell). c.in_range) (sym same) ∙ e)))
      (alike j i)

-- ---- a track is stored at a place

module _ {S : Type 0} (F : Form S) (L : Lawful F) (t : ℕ) (s : S) (size : F.whole s ≡ true) (i : ℕ) (h : i < F.count s)
    (key : ℕ) (is_key : is_key key ≡ true) (x : Track) (fits : Fits x) (heard : x.heard ≡ t) where
  abbrev r : S
  r = F.stored s i key x

  put_count : F.count r ≡ F.count s
  put_count = L.stored_count s i key x

  there : F.cell r i ≡ taken key x
  there = L.stored_there s i key x size h is_key fits

  elsewhere : (j : ℕ) → j < F.count s → (j ≡ i → ⊥) → F.cell r j ≡ F.cell s j
  elsewhere = L.stored_elsewhere s i key x h

  -- the stored track is held with its key and no other
  holds_stored : (k : ℕ) → holds t k (taken key x) ≡ eqb key k && true
  unfolding holds is_held
  holds_stored k = ap (λ (b : Bool). eqb key k && b) (lt-ltb (t - x.heard) 125000 (omega arith))

  -- the place doesn't hold k before and after: k's place stays
  module _ (k : ℕ) (ne : k ≡ key → ⊥) (before : holds t k (F.cell s i) ≡ false) where
    after : holds t k (F.cell r i) ≡ false
    after = ap (holds t k) there ∙ holds_stored k ∙ ap (λ (b : Bool). b && true) (ne_eqb key k (λ e. ne (sym e)))

    same : (j : ℕ) → j < F.count s → holds t k (F.cell r j) ≡ holds t k (F.cell s j)
    same j g = ⊎_elim
        (λ (e : j ≡ i). subst (λ (n : ℕ). holds t k (F.cell r n) ≡ holds t k (F.cell s n)) (sym e) (after ∙ sym before))
        (λ (e : j ≡ i → ⊥). ap (holds t k) (elsewhere j g e)) (alike j i)

    pub put_other : view_at F t r k ≡ view_at F t s k
    unfolding view_at
    put_other =
        ap (λ (n : ℕ). track_in (look (holds t k) (F.cell r) n)) put_count
        ∙ ap track_in (look_same (holds t k) (F.cell s) (F.cell r) (F.count s) same
        (λ j g q. ⊎_elim (λ (e : j ≡ i). absurd (clash (ap (λ (n : ℕ). holds t k (F.cell s n)) (sym e) ∙ q) before)) (λ (e : j ≡ i → ⊥). elsewhere j g e) (alike j i)))

    pub once_other : Once (holds t k) (F.cell s) (F.count s) → Once (holds t k) (F.cell r) (F.count r)
    once_other u = subst (Once (holds t k) (F.cell r)) (sym put_count) (once_same (holds t k) (F.cell s) (F.cell r) (F.count s) same u)

  -- no lower place holds the key: it is found there
  pub put_own : ((j : ℕ) → j < i → holds t key (F.cell s j) ≡ false) → view_at F t r key ≡ Some x
  unfolding view_at
  put_own lower =
      let own : holds t key (F.cell r i) ≡ true = ap (holds t key) there ∙ holds_stored key ∙ ap (λ (b : Bool). b && true) (eq-eqb key key refl) in
      ap (λ (n : ℕ). track_in (look (holds t key) (F.cell r) n)) put_count
      ∙ ap track_in (look_first (holds t key) (F.cell r) (F.count s) i h own (λ j l. ap (holds t key) (elsewhere j (omega arith) (λ e. omega arith)) ∙ lower j l) ∙ ap Some there)

  -- no other place holds the key: it is the one place of it
  pub once_own : ((j : ℕ) → j < F.count s → (j ≡ i → ⊥) → holds t key (F.cell s j) ≡ false) → Once (holds t key) (F.cell r) (F.count r)
  once_own only =
      subst (Once (holds t key) (F.cell r)) (sym put_count)
      (once_only (holds t key) (F.cell r) (F.count s) i (λ j g ne. ap (holds t key) (elsewhere j g ne) ∙ only j g ne))
