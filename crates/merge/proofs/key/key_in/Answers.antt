-- `merge::key::key_in` meets its contract: by the letter, and of C by what tells the sender.
use mathlib.Core.Path.{sym, ap, ◌∙◌}
use Prim.Native.Nat.{ℕ, ◌-◌}
use Rattle.merge.proofs.Keyed.{fine_key, no_key, coarse_key}
use Rattle.merge.proofs.key.key_in.Goals as goal

pub returns-then-letter-ne67 : goal.returns-then-letter-ne67
returns-then-letter-ne67 c =
    fine_key _ _ _ c.byte_at-letter.ensures c.address_of-address.ensures c.if-letter-ne67.true _ c.kind_by.ensures _ c.key_for.ensures

pub returns-then-not-sender_fits : goal.returns-then-not-sender_fits
returns-then-not-sender_fits c =
    no_key _ _ _ c.byte_at-letter.ensures c.address_of-address.ensures c.if-letter-ne67.false (sym c.sender_fits.ensures ∙ c.if-not-sender_fits.true)

pub returns : goal.returns
returns c =
    coarse_key _ _ _ c.byte_at-letter.ensures c.address_of-address.ensures c.if-letter-ne67.false (sym c.sender_fits.ensures ∙ c.if-not-sender_fits.false) _ _ (c.saturating_sub.ensures ∙ ap (λ (x : ℕ). x - 48) c.byte_at.ensures) c.station_of.ensures _ c.key_for-2.ensures
