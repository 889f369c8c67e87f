-- The lines of two texts, walked by the places where they start: which comes next, and what is left of both.
-- Assumes nothing.
use Prim.Native.Nat.{ℕ, suc, ◌+◌, ◌-◌, ◌≤◌, ◌<◌}
use native.Mathlib.Omega.{arith}
use mathlib.Core.Path.{◌≡◌, sym, ap, ap₂, ◌∙◌}
use mathlib.Core.Bool.{Bool, true, false, cond, ◌&&◌, false≢true}
use mathlib.Core.Logic.{inl, inr}
use mathlib.Core.List.{List, [], ◌∷◌, ◌++◌, append_assoc, append-nil}
use borrow.Author.Tests.{lt-ltb, le-ltb}
use lib.Dec.{ltb}
use lib.ListN.{length, take, drop, get_or, length-append, length-drop}
use lib.Seq.{take-suc, take-take, take-append_seam, get_or-drop, length-take-le}
use Rattle.text.specs.Lines.{newline}
use Rattle.form.specs.Scan.{part, lines_from, LineTo}
use Rattle.merge.specs.declared.lines.Next.{Next}
use Rattle.merge.specs.Merged.{key_in, in_order, rising, joined}
use Rattle.merge.specs.Code.{TakesLine, NextOf}

-- ---- a part of a text

pub part_none : (s : List ℕ) (i : ℕ) → part i i s ≡ []
part_none s i = ap (λ (k : ℕ). take k (drop i s)) (let e : i - i ≡ 0 = omega arith in e)

pub part_length : (s : List ℕ) (from to : ℕ) → from ≤ to → to ≤ length s → length (part from to s) ≡ to - from
part_length s from to l h = length-take-le (to - from) (drop from s) (omega (arith, length-drop from s))

pub part_more : (s : List ℕ) (from i : ℕ) → from ≤ i → i < length s → part from i s ++ (get_or s i 0 ∷ []) ≡ part from (i + 1) s
part_more s from i l h =
    let f : from + (i - from) ≡ i = omega arith in
    sym (ap (λ (k : ℕ). take k (drop from s)) (let g : i + 1 - from ≡ suc (i - from) = omega arith in g)
    ∙ take-suc (drop from s) (i - from) 0 (omega (arith, length-drop from s))
    ∙ ap (λ (b : ℕ). part from i s ++ (b ∷ [])) (get_or-drop from s (i - from) 0 ∙ ap (λ (k : ℕ). get_or s k 0) f))

-- a line is the part without its newline
pub line_part : {s : List ℕ} {at r : ℕ} (p : LineTo s at r) → part at (r - 1) s ≡ p.line
line_part {s} {at} {r} p =
    let n = length-take-le (r - at) (drop at s) (omega (arith, length-drop at s, p.high)) in
    let e : r - 1 - at ≡ length p.line = omega (arith, ap length p.text, length-append p.line newline, n, p.low) in
    sym (take-take (r - 1 - at) (r - at) (drop at s) (omega arith))
    ∙ ap₂ (λ (k : ℕ) (t : List ℕ). take k t) e (sym p.text)
    ∙ take-append_seam p.line newline

-- ---- which line comes next

pub none_left : {ls ms : List (List ℕ)} → ls ≡ [] → ms ≡ [] → in_order ls ms ≡ []
none_left p q = ap₂ (λ (x y : List (List ℕ)). in_order x y) p q

pub second_alone : {ls ms ms' : List (List ℕ)} {m : List ℕ} → ls ≡ [] → ms ≡ m ∷ ms' → in_order ls ms ≡ m ∷ in_order ls ms'
second_alone {ls} {ms} {ms'} {m} p q = ap₂ (λ (x y : List (List ℕ)). in_order x y) p q ∙ sym (ap (λ (x : List (List ℕ)). m ∷ in_order x ms') p)

pub first_alone : {ls ms ls' : List (List ℕ)} {l : List ℕ} → ls ≡ l ∷ ls' → ms ≡ [] → in_order ls ms ≡ l ∷ in_order ls' ms
first_alone {ls} {ms} {ls'} {l} p q = ap₂ (λ (x y : List (List ℕ)). in_order x y) p q ∙ sym (ap (λ (y : List (List ℕ)). l ∷ in_order ls' y) q)

by_keys : (l m : List ℕ) (ls ms : List (List ℕ)) {t : Bool} → ltb (key_in l) (key_in m) ≡ t → in_order (l ∷ ls) (m ∷ ms) ≡ cond t (l ∷ in_order ls (m ∷ ms)) (m ∷ in_order (l ∷ ls) ms)
by_keys l m ls ms e = ap (λ (x : Bool). cond x (l ∷ in_order ls (m ∷ ms)) (m ∷ in_order (l ∷ ls) ms)) e

pub first_lower : {ls ms ls' ms' : List (List ℕ)} {l m : List ℕ} → ls ≡ l ∷ ls' → ms ≡ m ∷ ms' → key_in l < key_in m → in_order ls ms ≡ l ∷ in_order ls' ms
first_lower {ls} {ms} {ls'} {ms'} {l} {m} p q h =
    ap₂ (λ (x y : List (List ℕ)). in_order x y) p q ∙ by_keys l m ls' ms' (lt-ltb _ _ h) ∙ sym (ap (λ (y : List (List ℕ)). l ∷ in_order ls' y) q)

pub second_lower : {ls ms ls' ms' : List (List ℕ)} {l m : List ℕ} → ls ≡ l ∷ ls' → ms ≡ m ∷ ms' → key_in m ≤ key_in l → in_order ls ms ≡ m ∷ in_order ls ms'
second_lower {ls} {ms} {ls'} {ms'} {l} {m} p q h =
    ap₂ (λ (x y : List (List ℕ)). in_order x y) p q ∙ by_keys l m ls' ms' (le-ltb _ _ h) ∙ sym (ap (λ (x : List (List ℕ)). m ∷ in_order x ms') p)

-- ---- what `next_line` says

module _ {a : List ℕ} {i : ℕ} {b : List ℕ} {j : ℕ} where
  pub takes_first : {r : Next} (p : LineTo a i r.i) → r.j ≡ j → j ≤ length b → r.key ≡ key_in (part i (r.i - 1) a) → r.more ≡ true
      → in_order (lines_from a i) (lines_from b j) ≡ p.line ∷ in_order (lines_from a r.i) (lines_from b j) → NextOf a i b j r
  takes_first {r} p e h k m o =
      inr (
        m,
        record {
          line = p.line;
          first = o ∙ ap (λ (x : ℕ). p.line ∷ in_order (lines_from a r.i) (lines_from b x)) (sym e);
          text = p.text ∙ sym (append-nil (part i r.i a)) ∙ ap (λ (x : List ℕ). part i r.i a ++ x) (sym (ap (λ (x : ℕ). part j x b) e ∙ part_none b j));
          key = k ∙ ap key_in (line_part p);
          low_i = omega (arith, p.low);
          low_j = omega arith;
          more = omega (arith, p.low);
          high_i = p.high;
          high_j = omega arith;
        },
      )

  pub takes_second : {r : Next} (p : LineTo b j r.j) → r.i ≡ i → i ≤ length a → r.key ≡ key_in (part j (r.j - 1) b) → r.more ≡ true
      → in_order (lines_from a i) (lines_from b j) ≡ p.line ∷ in_order (lines_from a i) (lines_from b r.j) → NextOf a i b j r
  takes_second {r} p e h k m o =
      inr (
        m,
        record {
          line = p.line;
          first = o ∙ ap (λ (x : ℕ). p.line ∷ in_order (lines_from a x) (lines_from b r.j)) (sym e);
          text = p.text ∙ ap (λ (x : List ℕ). x ++ part j r.j b) (sym (ap (λ (x : ℕ). part i x a) e ∙ part_none a i));
          key = k ∙ ap key_in (line_part p);
          low_i = omega arith;
          low_j = omega (arith, p.low);
          more = omega (arith, p.low);
          high_i = omega arith;
          high_j = p.high;
        },
      )

  pub nothing_left : {r : Next} → NextOf a i b j r → r.more ≡ false → in_order (lines_from a i) (lines_from b j) ≡ []
  nothing_left (inl p) e = p.1
  nothing_left (inr p) e = absurd (false≢true (sym e ∙ p.0))

  pub line_left : {r : Next} → NextOf a i b j r → r.more ≡ true → TakesLine a i b j r
  line_left (inl p) e = absurd (false≢true (sym p.0 ∙ e))
  line_left (inr p) e = p.1

-- ---- what the loops go by

pub rises_end : {ls : List (List ℕ)} (k : ℕ) → ls ≡ [] → true ≡ rising k ls
unfolding rising
rises_end k e = sym (ap (rising k) e)

pub rises_not : {ls ms : List (List ℕ)} {l : List ℕ} (k : ℕ) → ls ≡ l ∷ ms → key_in l ≤ k → false ≡ rising k ls
unfolding rising
rises_not {ls} {ms} {l} k e h = sym (ap (rising k) e ∙ ap (λ (t : Bool). t && rising (key_in l) ms) (le-ltb _ _ h))

pub rises_on : {ls ms : List (List ℕ)} {l : List ℕ} (k : ℕ) → ls ≡ l ∷ ms → k < key_in l → rising k ls ≡ rising (key_in l) ms
unfolding rising
rises_on {ls} {ms} {l} k e h = ap (rising k) e ∙ ap (λ (t : Bool). t && rising (key_in l) ms) (lt-ltb _ _ h)

pub joined_end : {ls : List (List ℕ)} → ls ≡ [] → (t : List ℕ) → t ++ joined ls ≡ t
unfolding joined
joined_end e t = ap (λ (x : List (List ℕ)). t ++ joined x) e ∙ append-nil t

pub joined_on : {ls ms : List (List ℕ)} {l : List ℕ} → ls ≡ l ∷ ms → (p q : List ℕ) → l ++ newline ≡ p ++ q → (t : List ℕ) → ((t ++ p) ++ q) ++ joined ms ≡ t ++ joined ls
unfolding joined
joined_on {ls} {ms} {l} e p q h t =
    ap (λ (x : List ℕ). x ++ joined ms) (append_assoc t p q ∙ ap (λ (x : List ℕ). t ++ x) (sym h))
    ∙ append_assoc t (l ++ newline) (joined ms)
    ∙ sym (ap (λ (x : List (List ℕ)). t ++ joined x) e)

-- what is written leaves as much room as what is left of the texts needs
one_on : (at mid la i i' x room : ℕ) → i ≤ i' → i' ≤ la → mid ≡ at + (i' - i) → at + (la - i) + x ≤ room → mid + (la - i') + x ≤ room
one_on at mid la i i' x room l h e r = omega arith

turned : (at x y room : ℕ) → at + x + y ≤ room → at + y + x ≤ room
turned at x y room h = omega arith

pub room_on : (at : ℕ) {mid end la i i' lb j j' room more : ℕ} → more ≡ room → i ≤ i' → i' ≤ la → j ≤ j' → j' ≤ lb → mid ≡ at + (i' - i) → end ≡ mid + (j' - j)
    → at + (la - i) + (lb - j) ≤ room → end + (la - i') + (lb - j') ≤ more
room_on at {mid} {end} {la} {i} {i'} {lb} {j} {j'} {room} {more} z p q s t e f r =
    rw z (turned end (lb - j') (la - i') room (one_on mid end lb j j' (la - i') room s t f (turned mid (la - i') (lb - j) room (one_on at mid la i i' (lb - j) room p q e r))))
