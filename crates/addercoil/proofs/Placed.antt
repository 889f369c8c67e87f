-- A position past the tests of its turn and format: what the crate below answers, by the turn and the format that the numbers name.
-- Assumes nothing.
use Rattle.std.specs.Prelude.{Result}
use Prim.Native.Nat.{ℕ}
use mathlib.Core.Path.{◌≡◌, ap, ap₂, ◌∙◌}
use mathlib.Core.Bool.{false, ◌||◌}
use mathlib.Core.List.{List}
use lib.Dec.{ltb}
use lib.IntN.{ℤ}
use Rattle.positions.specs.declared.Size.{Size}
use Rattle.positions.specs.declared.Turn.{Turn}
use Rattle.positions.specs.declared.Format.{Format}
use Rattle.positions.specs.declared.Counts.{Counts}
use Rattle.positions.specs.Positions.{count_size, encoded, paired, singly}
use Rattle.entries.specs.Sent.{Sent, given}
use Rattle.addercoil.specs.Spots.{turn_of, format_of, counts_said, spot_said, encode_said, pair_said, single_said}
use Rattle.entries.proofs.Ways.{passed}
use Rattle.positions.specs.declared.Spot.{Spot}
use Rattle.refusals.specs.declared.Refusal.{Refusal}

module _ (out : List ℕ) (size : Size) {s : Sent} {format : Format} where
  module _ {turn : Turn} (latitude : ℤ) (longitude surface odd : ℕ) (h : (ltb 1 surface || ltb 1 odd) ≡ false) (t : turn ≡ turn_of surface) (f : format ≡ format_of odd) where
    pub encode_said_lem : {a : Result Counts Refusal} → a ≡ encoded (count_size size) (record { latitude = latitude; longitude = longitude }) turn format → s ≡ given out (counts_said a) → s ≡ given out (encode_said size latitude longitude surface odd)
    unfolding encode_said
    encode_said_lem e p =
        p
        ∙ ap (λ (x : Result Counts Refusal). given out (counts_said x)) (e ∙ ap₂ (encoded (count_size size) (record { latitude = latitude; longitude = longitude })) t f)
        ∙ passed out (ltb 1 surface || ltb 1 odd) _ _ h

    pub single_said_lem : (c : Counts) {a : Result Spot Refusal} → a ≡ singly (count_size size) (record { latitude = latitude; longitude = longitude }) c turn format → s ≡ given out (spot_said a) → s ≡ given out (single_said size latitude longitude c surface odd)
    unfolding single_said
    single_said_lem c e p =
        p
        ∙ ap (λ (x : Result Spot Refusal). given out (spot_said x)) (e ∙ ap₂ (singly (count_size size) (record { latitude = latitude; longitude = longitude }) c) t f)
        ∙ passed out (ltb 1 surface || ltb 1 odd) _ _ h

  pub pair_said_lem : (even odd : Counts) (later : ℕ) → ltb 1 later ≡ false → format ≡ format_of later → {a : Result Spot Refusal} → a ≡ paired (count_size size) even odd format → s ≡ given out (spot_said a) → s ≡ given out (pair_said size even odd later)
  unfolding pair_said
  pair_said_lem even odd later h f e p =
      p
      ∙ ap (λ (x : Result Spot Refusal). given out (spot_said x)) (e ∙ ap (paired (count_size size) even odd) f)
      ∙ passed out (ltb 1 later) _ _ h
