-- What a run of stores leaves and what it writes, as numbers, as a part of the list, and that bytes stay bytes: by induction on what is written.
-- Assumes nothing.
use Prim.Native.Nat.{ℕ, suc, zero, ◌+◌, ◌*◌, ◌/◌, ◌%◌, ◌^◌, ◌≤◌, ◌<◌}
use native.Mathlib.Omega.{arith}
use mathlib.Core.Logic.{◌⊎◌, inl, inr}
use mathlib.Core.Path.{◌≡◌, refl, ap, ap₂, sym, ◌∙◌, subst}
use mathlib.Core.List.{List, [], ◌∷◌, ◌++◌, append_assoc}
use lib.Dec.{lit<}
use lib.ListN.{length, get_or, take, drop, set, length-take, length-drop}
use lib.Seq.{sets-eq, get_or-set_other, get_or-take, get_or-drop, ext_get_or, drop_at, take_at, length-take-le}
use Rattle.fields.specs.Bytes.{Bytes}
use Rattle.track.specs.declared.Groups.{Groups}
use Rattle.whereabouts.specs.declared.Position.{Position}
use Rattle.whereabouts.specs.declared.Saved.{Saved}
use Rattle.track.specs.declared.Track.{Track}
use Rattle.track.specs.Track.{no_saved}
use Rattle.memory.specs.Bytes.{number_at, low_bytes, put}
use Rattle.place.specs.Place.{above_pole, marks_of, saved_number, saved_bytes, message_bytes, spot_bytes, body_of}
use Rattle.memory.proofs.Numbers.{low_length, read_back}

-- outside of what is stored, nothing changes
pub byte_out : (vs s : List ℕ) (at j : ℕ) → (j < at) ⊎ (at + length vs ≤ j) → get_or (put s at vs) j 0 ≡ get_or s j 0
unfolding put
byte_out [] s at j h = refl
byte_out (v ∷ vs) s at j (inl h) = byte_out vs (set s at v) (suc at) j (inl (omega arith)) ∙ get_or-set_other s at j v 0 (λ e. omega arith)
byte_out (v ∷ vs) s at j (inr h) = byte_out vs (set s at v) (suc at) j (inr (omega arith)) ∙ get_or-set_other s at j v 0 (λ e. omega arith)

-- ---- numbers

-- equal bytes, equal numbers
pub number_agree : (k : ℕ) (s t : List ℕ) (a : ℕ) → ((j : ℕ) → a ≤ j → j < a + k → get_or s j 0 ≡ get_or t j 0) → number_at k s a ≡ number_at k t a
unfolding number_at
number_agree zero s t a h = refl
number_agree (suc k) s t a h =
    ap₂ (λ (x y : ℕ). x + y * 256) (h a (omega arith) (omega arith)) (number_agree k s t (suc a) (λ j p q. h j (omega arith) (omega arith)))

split : (s vs : List ℕ) (a : ℕ) → a + length vs ≤ length s → put s a vs ≡ take a s ++ (vs ++ drop (a + length vs) s)
unfolding put
split s vs a h = sets-eq vs s a h ∙ append_assoc (take a s) vs (drop (a + length vs) s)

-- what was stored is read
pub number_there : (k n : ℕ) (s : List ℕ) (a : ℕ) → a + k ≤ length s → number_at k (put s a (low_bytes k n)) a ≡ n % 2 ^ (8 * k)
number_there k n s a h =
    let l : a + length (low_bytes k n) ≤ length s = rw (low_length k n) h in
    let rest : List ℕ = drop (a + length (low_bytes k n)) s in
    ap (λ (x : List ℕ). number_at k x a) (split s (low_bytes k n) a l)
    ∙ subst (λ (m : ℕ). number_at k (take a s ++ (low_bytes k n ++ rest)) m ≡ n % 2 ^ (8 * k)) (length-take-le a s (omega arith)) (read_back k n (take a s) rest)

-- ---- parts

-- equal bytes, equal parts
pub part_agree : (s t : List ℕ) (a n : ℕ) → length s ≡ length t → ((j : ℕ) → a ≤ j → j < a + n → get_or s j 0 ≡ get_or t j 0) → take n (drop a s) ≡ take n (drop a t)
part_agree s t a n l h = ext_get_or 0 (take n (drop a s)) (take n (drop a t)) (simp (length-take, length-drop, l))
    (λ k g. let b : k < n = omega (arith, simp length-take at g) in
    get_or-take n (drop a s) k 0 b ∙ get_or-drop a s k 0 ∙ h (a + k) (omega arith) (omega arith) ∙ sym (get_or-take n (drop a t) k 0 b ∙ get_or-drop a t k 0))

pub part_there : (s vs : List ℕ) (a n : ℕ) → length vs ≡ n → a + n ≤ length s → take n (drop a (put s a vs)) ≡ vs
part_there s vs a n l h =
    ap (λ (x : List ℕ). take n (drop a x)) (split s vs a (omega arith))
    ∙ ap (take n) (drop_at (take a s) (vs ++ drop (a + length vs) s) a (length-take-le a s (omega arith)))
    ∙ take_at vs (drop (a + length vs) s) n l

-- ---- bytes

set_bytes : (s : List ℕ) (i v : ℕ) → Bytes s → v < 256 → Bytes (set s i v)
set_bytes [] i v h l j = h j
set_bytes (x ∷ xs) zero v h l zero = l
set_bytes (x ∷ xs) zero v h l (suc j) = h (suc j)
set_bytes (x ∷ xs) (suc i) v h l zero = h 0
set_bytes (x ∷ xs) (suc i) v h l (suc j) = set_bytes xs i v (λ k. h (suc k)) l j

pub put_bytes : (s : List ℕ) (at : ℕ) (vs : List ℕ) → Bytes s → Bytes vs → Bytes (put s at vs)
unfolding put
put_bytes s at [] h g = h
put_bytes s at (v ∷ vs) h g = put_bytes (set s at v) (suc at) vs (set_bytes s at v h (g 0)) (λ j. g (suc j))

pub append_bytes : (xs ys : List ℕ) → Bytes xs → Bytes ys → Bytes (xs ++ ys)
append_bytes [] ys h g j = g j
append_bytes (x ∷ xs) ys h g zero = h 0
append_bytes (x ∷ xs) ys h g (suc j) = append_bytes xs ys (λ k. h (suc k)) g j

pub low_bytes_lem : (k n : ℕ) → Bytes (low_bytes k n)
unfolding low_bytes
low_bytes_lem zero n j = lit< tt
low_bytes_lem (suc k) n zero = omega arith
low_bytes_lem (suc k) n (suc j) = low_bytes_lem k (n / 256) j

saved_bytes_lem : (v : Saved) → Bytes (saved_bytes v)
unfolding saved_bytes
saved_bytes_lem v = append_bytes (low_bytes 5 (saved_number v)) (low_bytes 8 v.time) (low_bytes_lem 5 (saved_number v)) (low_bytes_lem 8 v.time)

message_bytes_lem : (g : Groups) → Bytes (message_bytes g)
unfolding message_bytes
message_bytes_lem g =
    let b : List ℕ = low_bytes 7 g.velocity in
    let c : List ℕ = low_bytes 7 g.surface in
    let d : List ℕ = low_bytes 7 g.status in
    append_bytes (low_bytes 7 g.identification) (b ++ (c ++ d)) (low_bytes_lem 7 g.identification)
    (append_bytes b (c ++ d) (low_bytes_lem 7 g.velocity)
    (append_bytes c d (low_bytes_lem 7 g.surface) (low_bytes_lem 7 g.status)))

spot_bytes_lem : (p : Position) → Bytes (spot_bytes p)
unfolding spot_bytes
spot_bytes_lem p =
    let b : List ℕ = low_bytes 4 p.spot.longitude in
    let c : List ℕ = low_bytes 8 p.time in
    append_bytes (low_bytes 4 (above_pole p.spot.latitude)) (b ++ c) (low_bytes_lem 4 (above_pole p.spot.latitude)) (append_bytes b c (low_bytes_lem 4 p.spot.longitude) (low_bytes_lem 8 p.time))

pub body_bytes : (t : Track) → Bytes (body_of t)
unfolding body_of
body_bytes t =
    let marks : ℕ = marks_of t.groups t.position.known in
    let g : List ℕ = message_bytes t.groups in
    let p : List ℕ = spot_bytes t.position in
    let e : List ℕ = saved_bytes (get_or t.saved 0 no_saved) in
    let o : List ℕ = saved_bytes (get_or t.saved 1 no_saved) in
    append_bytes (low_bytes 8 t.heard) (g ++ (low_bytes 4 marks ++ (p ++ (e ++ o)))) (low_bytes_lem 8 t.heard)
    (append_bytes g (low_bytes 4 marks ++ (p ++ (e ++ o))) (message_bytes_lem t.groups)
    (append_bytes (low_bytes 4 marks) (p ++ (e ++ o)) (low_bytes_lem 4 marks)
    (append_bytes p (e ++ o) (spot_bytes_lem t.position)
    (append_bytes e o (saved_bytes_lem (get_or t.saved 0 no_saved)) (saved_bytes_lem (get_or t.saved 1 no_saved))))))
