-- Text in a buffer of zeros: a line that is put behind it, with its own zeros, leaves the longer text and zeros.
-- Assumes nothing.
use Prim.Native.Nat.{ℕ, zero, suc, ◌+◌, ◌-◌, ◌≤◌}
use native.Mathlib.Omega.{arith}
use mathlib.Core.Path.{◌≡◌, refl, sym, ap, ap₂, ◌∙◌}
use mathlib.Core.List.{List, [], ◌∷◌, ◌++◌, append-nil, append_assoc}
use lib.ListN.{length, take, drop, replicate, length-append, length-replicate, replicate-append-replicate}
use lib.Seq.{paste, length-paste, take_at, take_all, drop_at, drop-append-add}
use Rattle.entries.specs.Arrays.{filled}
use Rattle.text.specs.declared.Line.{Line}
use Rattle.text.specs.Lines.{line_room, line_of}
use Rattle.whole.specs.Code.{Put, Added}

abbrev zeros : ℕ → List ℕ
zeros n = replicate n 0

drop_zeros : (n m : ℕ) → n ≤ m → drop n (zeros m) ≡ zeros (m - n)
drop_zeros n m h =
    let e : m ≡ n + (m - n) = omega arith in
    ap (λ (k : ℕ). drop n (zeros k)) e
    ∙ ap (drop n) (sym (replicate-append-replicate {A = ℕ} n (m - n) 0))
    ∙ drop_at (zeros n) (zeros (m - n)) n (length-replicate n 0)

-- ---- the start and the end

pub put_none : (out : List ℕ) → out ≡ zeros (length out) → Put [] 0 out
put_none out e = record { ends = refl; holds = e ∙ ap zeros (let q : length out ≡ length out - 0 = omega arith in q) }

pub put_fits : {text : List ℕ} {at : ℕ} {out : List ℕ} → Put text at out → length text ≤ length out
put_fits {text} {at} {out} p =
    let e : length out ≡ length text + (length out - length text) =
    ap length p.holds ∙ length-append text (zeros (length out - length text)) ∙ ap (λ (k : ℕ). length text + k) (length-replicate (length out - length text) 0) in
    omega arith

none_filled : (m : ℕ) → zeros m ≡ filled m []
none_filled zero = refl
none_filled (suc m) = ap (λ (l : List ℕ). 0 ∷ l) (none_filled m)

text_filled : (text : List ℕ) (m : ℕ) → text ++ zeros m ≡ filled (length text + m) text
text_filled [] m = none_filled m ∙ ap (λ (k : ℕ). filled k []) (let e : m ≡ 0 + m = omega arith in e)
text_filled (x ∷ text) m =
    ap (λ (l : List ℕ). x ∷ l) (text_filled text m)
    ∙ ap (λ (k : ℕ). filled k (x ∷ text)) (let e : suc (length text + m) ≡ suc (length text) + m = omega arith in e)

pub put_filled : {text : List ℕ} {at : ℕ} {out : List ℕ} → Put text at out → out ≡ filled (length out) text
put_filled {text} {at} {out} p =
    let l = put_fits p in
    p.holds
    ∙ text_filled text (length out - length text)
    ∙ ap (λ (k : ℕ). filled k text) (let e : length text + (length out - length text) ≡ length out = omega arith in e)

-- ---- one text behind another

pub added_none : (at : ℕ) (l : List ℕ) → Added [] at at l l
added_none at l = record { put = λ text p. rw append-nil p }

pub added_as : {a b : List ℕ} {at r : ℕ} {l m : List ℕ} → a ≡ b → Added a at r l m → Added b at r l m
added_as {a} {b} {at} {r} {l} {m} e x = rw e at x

pub added_then : {a b : List ℕ} {i j k : ℕ} {l m n : List ℕ} → Added a i j l m → Added b j k m n → Added (a ++ b) i k l n
added_then {a} {b} x y = record { put = λ text p. rw (← append_assoc text a b) (y.put (text ++ a) (x.put text p)) }

module _ (vs : List ℕ) (at : ℕ) (l : List ℕ) (short : length vs ≤ line_room) (room : at + line_room ≤ length l) where
  abbrev bytes : List ℕ
  bytes = vs ++ zeros (line_room - length vs)

  bytes_length : length bytes ≡ line_room
  bytes_length =
      let e = length-append vs (zeros (line_room - length vs)) in
      let f = length-replicate {A = ℕ} (line_room - length vs) 0 in
      omega arith

  put_bytes : {m : List ℕ} → m ≡ paste l at bytes line_room → Added vs at (at + length vs) l m
  put_bytes {m} e = record { put = put }
    where
      long : length m ≡ length l
      long = ap length e ∙ length-paste l at bytes line_room room (omega (arith, bytes_length))

      put : (text : List ℕ) → Put text at l → Put (text ++ vs) (at + length vs) m
      put text p =
          let rest : ℕ = length l - length text in
          let t = p.ends in
          let front : take at l ≡ text = ap (take at) p.holds ∙ take_at text (zeros rest) at (sym t) in
          let back : drop (at + line_room) l ≡ zeros (rest - line_room) =
          ap (drop (at + line_room)) p.holds
          ∙ ap (λ (k : ℕ). drop (k + line_room) (text ++ zeros rest)) t
          ∙ drop-append-add text (zeros rest) line_room
          ∙ drop_zeros line_room rest (omega arith) in
          let all : take line_room bytes ≡ bytes = take_all line_room bytes (omega (arith, bytes_length)) in
          let both : length (text ++ vs) ≡ length text + length vs = length-append text vs in
          let behind : zeros (line_room - length vs) ++ zeros (rest - line_room) ≡ zeros (length m - length (text ++ vs)) =
          replicate-append-replicate {A = ℕ} (line_room - length vs) (rest - line_room) 0
          ∙ ap zeros (let q : line_room - length vs + (rest - line_room) ≡ length m - length (text ++ vs) = omega (arith, long, both) in q) in
          record {
            ends = omega (arith, t, both);
            holds =
                e
                ∙ ap₂ (λ (x y : List ℕ). x ++ take line_room bytes ++ y) front back
                ∙ ap (λ (x : List ℕ). text ++ x ++ zeros (rest - line_room)) all
                ∙ ap (λ (x : List ℕ). x ++ zeros (rest - line_room)) (sym (append_assoc text vs (zeros (line_room - length vs))))
                ∙ append_assoc (text ++ vs) (zeros (line_room - length vs)) (zeros (rest - line_room))
                ∙ ap (λ (x : List ℕ). text ++ vs ++ x) behind;
          }

  -- the line of the text
  pub put_line : {x : Line} {r : ℕ} {m : List ℕ} → x ≡ line_of vs → (m ≡ paste l at x.bytes line_room) × (r ≡ at + x.len) → Added vs at r l m
  unfolding line_of
  put_line {x} {r} {m} e w =
      let end : r ≡ at + length vs = w.1 ∙ ap (λ (y : Line). at + y.len) e in
      rw end (put_bytes (w.0 ∙ ap (λ (y : Line). paste l at y.bytes line_room) e))

-- how long the text of a line is
pub line_len : {x : Line} (vs : List ℕ) → x ≡ line_of vs → x.len ≡ length vs
unfolding line_of
line_len vs e = ap (λ (y : Line). y.len) e

-- .. and how many bytes it has
pub line_bytes : {x : Line} (vs : List ℕ) → length vs ≤ line_room → x ≡ line_of vs → length x.bytes ≡ line_room
unfolding line_of
line_bytes vs h e =
    let f = length-append vs (zeros (line_room - length vs)) in
    let g = length-replicate {A = ℕ} (line_room - length vs) 0 in
    ap (λ (y : Line). length y.bytes) e ∙ (let q : length (vs ++ zeros (line_room - length vs)) ≡ line_room = omega arith in q)
