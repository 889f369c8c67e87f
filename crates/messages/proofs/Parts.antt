-- The parts of a message's 112 bits by its bytes: four bytes, seven and three make the number, so each field is cut out of one of the three.
-- Assumes nothing.
use Prim.Native.Nat.{ℕ, ◌+◌, ◌*◌, ◌/◌, ◌%◌, ◌^◌, ◌<◌}
use mathlib.Core.Path.{◌≡◌, sym, ap, ap₂, ◌∙◌}
use mathlib.Core.List.{List, [], ◌∷◌, ◌++◌, append_assoc, append-nil}
use native.Mathlib.Nat.{div-one}
use native.Mathlib.Omega.{arith}
use lib.ListN.{length, take, drop, length-drop, length-append, drop_of_length-le}
use lib.Seq.{drop-drop, length-take-le, take_at, drop_at}
use borrow.Rule.Slice.PartMut.{mid_of, put_mid}
use Rattle.fields.specs.Packing.{unpack}
use Rattle.fields.specs.Bytes.{number, bytes_of, Bytes}
use Rattle.fields.proofs.Bytes.{bytes_take, bytes_drop, number_lt, number_cut, number_whole}
use Rattle.parity.specs.Parity.{seal}
use Rattle.messages.specs.declared.Frame.{Frame}
use Rattle.messages.specs.Message.{bits, head_widths, sealed_by}
use Rattle.messages.specs.Accepted.{frame_of}

module _ (s : List ℕ) (e : length s ≡ 14) (h : Bytes s) where
  rest : length (drop 4 s) ≡ 10
  rest = omega (arith, length-drop 4 s)

  pub four : length (take 4 s) ≡ 4
  four = length-take-le 4 s (omega arith)

  pub seven : length (take 7 (drop 4 s)) ≡ 7
  seven = length-take-le 7 (drop 4 s) (omega (arith, rest))

  pub head_lt : number (take 4 s) < 2 ^ 32
  head_lt = number_lt (take 4 s) 4 (bytes_take 4 s h) four

  me_lt : number (take 7 (drop 4 s)) < 2 ^ 56
  me_lt = number_lt (take 7 (drop 4 s)) 7 (bytes_take 7 (drop 4 s) (bytes_drop 4 s h)) seven

  tail_lt : number (drop 11 s) < 2 ^ 24
  tail_lt = number_lt (drop 11 s) 3 (bytes_drop 11 s h) (omega (arith, length-drop 11 s))

  whole : number s ≡ number (take 4 s) * 2 ^ 80 + (number (take 7 (drop 4 s)) * 2 ^ 24 + number (drop 11 s))
  whole =
      number_cut 4 10 s e
      ∙ ap (λ (n : ℕ). number (take 4 s) * 2 ^ 80 + n)
      (number_cut 7 3 (drop 4 s) rest ∙ ap (λ (l : List ℕ). number (take 7 (drop 4 s)) * 2 ^ 24 + number l) (drop-drop 7 4 s))

  format_is : bits 1 5 s ≡ number (take 4 s) / 2 ^ 27 % 32
  format_is = omega (arith, whole, head_lt, me_lt, tail_lt)

  control_is : bits 6 8 s ≡ number (take 4 s) / 2 ^ 24 % 8
  control_is = omega (arith, whole, head_lt, me_lt, tail_lt)

  pub address_is : bits 9 32 s ≡ number (take 4 s) / 1 % 2 ^ 24
  address_is = omega (arith, whole, head_lt, me_lt, tail_lt, div-one (number (take 4 s)))

  pub me_is : bits 33 88 s ≡ number (take 7 (drop 4 s))
  me_is = omega (arith, whole, head_lt, me_lt, tail_lt)

  -- DF, CA or CF, and AA are the fields of the first four bytes
  pub head_is : bits 1 5 s ∷ bits 6 8 s ∷ bits 9 32 s ∷ [] ≡ unpack head_widths (number (take 4 s))
  head_is =
      ap₂ (λ (x : ℕ) (l : List ℕ). x ∷ l) format_is
      (ap₂ (λ (x : ℕ) (l : List ℕ). x ∷ l) control_is
      (ap (λ (x : ℕ). x ∷ []) address_is))

  pub frame_is : (x n : ℕ) → x ≡ number (take 4 s) % 2 ^ 64 → n ≡ number (take 7 (drop 4 s)) % 2 ^ 64
      → ◌≡◌ {A = Frame} (record { format = x / 2 ^ 27 % 32; control = x / 2 ^ 24 % 8; address = x / 1 % 2 ^ 24; me = n }) (frame_of s)
  frame_is x n ex en =
      let ex' : x ≡ number (take 4 s) = ex ∙ number_whole (take 4 s) (bytes_take 4 s h) (omega (arith, four)) in
      let en' : n ≡ number (take 7 (drop 4 s)) = en ∙ number_whole (take 7 (drop 4 s)) (bytes_take 7 (drop 4 s) (bytes_drop 4 s h)) (omega (arith, seven)) in
      rw (ex', en', format_is, control_is, address_is, me_is)

-- ---- a buffer filled from the front, part by part

put_next : (p r y : List ℕ) (a k : ℕ) → length p ≡ a → put_mid a k (p ++ r) y ≡ (p ++ y) ++ drop k r
put_next p r y a k e = rw (take_at p r a e, drop_at p r a e) (sym (append_assoc p y (drop k r)))

module _ (o b₁ b₂ : List ℕ) (e : length o ≡ 14) (l₁ : length b₁ ≡ 4) (l₂ : length b₂ ≡ 7) where
  two : put_mid 4 7 (put_mid 0 4 o b₁) b₂ ≡ (b₁ ++ b₂) ++ drop 7 (drop 4 o)
  two = put_next b₁ (drop 4 o) b₂ 4 7 l₁

  eleven : length (b₁ ++ b₂) ≡ 11
  eleven = omega (arith, length-append b₁ b₂)

  none_left : drop 3 (drop 7 (drop 4 o)) ≡ []
  none_left = drop_of_length-le (drop 7 (drop 4 o)) {i = 3} (omega (arith, length-drop 7 (drop 4 o), length-drop 4 o))

  pub filled : (y₁ y₂ y₃ : List ℕ) (p : ℕ) → y₁ ≡ b₁ → y₂ ≡ b₂ → y₃ ≡ bytes_of 3 p
      → p ≡ seal (mid_of 0 11 (put_mid 4 7 (put_mid 0 4 o y₁) y₂))
      → put_mid 11 3 (put_mid 4 7 (put_mid 0 4 o y₁) y₂) y₃ ≡ sealed_by (b₁ ++ b₂)
  filled y₁ y₂ y₃ p e₁ e₂ e₃ ep =
      let w : put_mid 4 7 (put_mid 0 4 o y₁) y₂ ≡ (b₁ ++ b₂) ++ drop 7 (drop 4 o) = rw (e₁, e₂) two in
      let q : p ≡ seal (b₁ ++ b₂) = ep ∙ ap (λ (l : List ℕ). seal (take 11 l)) w ∙ ap seal (take_at (b₁ ++ b₂) (drop 7 (drop 4 o)) 11 eleven) in
      ap (λ (l : List ℕ). put_mid 11 3 l y₃) w
      ∙ put_next (b₁ ++ b₂) (drop 7 (drop 4 o)) y₃ 11 3 eleven
      ∙ ap (λ (l : List ℕ). ((b₁ ++ b₂) ++ y₃) ++ l) none_left
      ∙ append-nil ((b₁ ++ b₂) ++ y₃)
      ∙ ap (λ (l : List ℕ). (b₁ ++ b₂) ++ l) (e₃ ∙ ap (bytes_of 3) q)
