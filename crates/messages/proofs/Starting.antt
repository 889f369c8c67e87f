-- What may start a track is told alike of a decoded message, of its bytes and of its frame: each goes by TYPE and by the kind, which every layout reads from its bits.
-- Assumes nothing.
use Rattle.std.specs.Prelude.{Ok}
use Prim.Native.Nat.{ℕ}
use mathlib.Core.Path.{◌≡◌, refl, sym, ap, ap₂, ◌∙◌}
use mathlib.Core.List.{List}
use mathlib.Core.Bool.{Bool, true, false, not, ◌&&◌, ◌||◌}
use lib.Dec.{eqb}
use borrow.Author.Tests.{eq-eqb}
use Rattle.fields.proofs.Bools.{neither}
use Rattle.keys.specs.Keys.{is_traffic}
use Rattle.keys.specs.declared.Kind.{Kind}
use Rattle.layouts.specs.Bodies.{is_taken, body_type}
use Rattle.layouts.proofs.BothWays.{type_read}
use Rattle.messages.specs.Message.{bits, coarse_by, traffic_by, decoded, message_kind, traffic, starts_by, starts}
use Rattle.messages.specs.Accepted.{frame_coarse, frame_starts, message_of, Opens}
use Rattle.messages.specs.Said.{coarse_at, layout_in, type_at, flag_at, station_at, earns5, starts_in}
use Rattle.messages.specs.declared.Frame.{Frame}
use Rattle.messages.specs.declared.Message.{Message}
use Rattle.messages.proofs.Exactly.{accepted_exactly}
use Rattle.messages.proofs.Flags.{type_in_lem, traffic_is}
use Rattle.messages.proofs.Keys.{decoded_from, decoded_kind, frame_kind_lem}

-- of a decoded message, by the bits of the whole
pub decoded_starts : (s : List ℕ) (m : Message) → decoded s ≡ Ok m → starts m ≡ starts_in s
decoded_starts s m d =
    let f = decoded_from s m d in
    ap starts (sym f.1)
    ∙ ap₂ (λ (k : Kind) (n : ℕ). starts_by (coarse_at s) (is_traffic k) n) (ap message_kind f.1 ∙ decoded_kind s m d) (type_read (coarse_at s) (bits 33 88 s) m.body f.0 ∙ type_in_lem s)

-- of a frame that was accepted, and of the message to which it opens
pub frame_starts_lem : (f : Frame) (o : Opens f) → frame_starts f ≡ starts (message_of f o.body)
frame_starts_lem f o = ap₂ (λ (k : Kind) (n : ℕ). starts_by (frame_coarse f) (is_traffic k) n) (frame_kind_lem f o) (sym (type_read (frame_coarse f) f.me o.body o.reads))

-- a coarse message always may: 12 does not arise
pub coarse_starts : (m : Message) → coarse_by m.format m.control ≡ true → starts m ≡ true
coarse_starts m e = ap (λ (c : Bool). starts_by c (traffic m) (body_type m.body)) e

-- a status that is decoded starts one of kind I or O: of the traffic service it is refused
pub status_starts : (s : List ℕ) (m : Message) → decoded s ≡ Ok m → type_at s ≡ 31 → (starts m ≡ true) × (traffic m ≡ false)
status_starts s m d e =
    let five : earns5 s ≡ false = ((accepted_exactly s).0 (m, d)).3 in
    let reserved = (neither (not (is_taken (layout_in s))) _ five).1 in
    let served = (neither (eqb (bits 1 5 s) 18 && eqb (bits 6 8 s) 5 && eqb (flag_at s) 1) _ reserved).1 in
    let none : traffic_by (bits 1 5 s) (bits 6 8 s) ≡ false = left (traffic_by (bits 1 5 s) (bits 6 8 s)) _ (eq-eqb (type_at s) 31 e) served in (
      decoded_starts s m d ∙ ap₂ (starts_by (coarse_at s)) (traffic_is (bits 1 5 s) (bits 6 8 s) (flag_at s) (station_at s) ∙ none) e ∙ or-true (coarse_at s),
      ap is_traffic (decoded_kind s m d) ∙ traffic_is (bits 1 5 s) (bits 6 8 s) (flag_at s) (station_at s) ∙ none,
    )
  where
    left : (a b : Bool) → b ≡ true → a && b ≡ false → a ≡ false
    left true b p q = sym p ∙ q
    left false b p q = refl

    or-true : (a : Bool) → a || true ≡ true
    or-true true = refl
    or-true false = refl
