-- The key of a frame is that of the message that it opens to, so nothing of ME need be unpacked for it.
-- Assumes nothing.
use Rattle.std.specs.Prelude.{Result, Ok, Err}
use Prim.Native.Nat.{ℕ}
use mathlib.Core.Path.{◌≡◌, refl, ap, sym, ◌∙◌}
use mathlib.Core.List.{List, [], ◌∷◌}
use Rattle.refusals.specs.Said.{gives}
use Rattle.messages.specs.Accepted.{accepted, opened_as}
use Rattle.messages.specs.Message.{decoded}
use Rattle.messages.proofs.Acceptance.{accepted_opened, frame_opens}
use Rattle.messages.proofs.Keys.{frame_key_lem}
use Rattle.dealer.specs.Keys.{key_said}
use Rattle.dealer.specs.Code.{accepted_key}
use Rattle.messages.specs.declared.Frame.{Frame}
use Rattle.refusals.specs.declared.Refusal.{Refusal}

pub key_said_lem : (s : List ℕ) → accepted_key (accepted s) ≡ key_said (decoded s)
key_said_lem s = by_answer (accepted s) refl ∙ ap key_said (sym (accepted_opened s))
  where
    by_answer : (x : Result Frame Refusal) → accepted s ≡ x → accepted_key x ≡ key_said (opened_as x)
    by_answer (Ok f) e =
        let o = frame_opens f (s, e) in
        ap (λ (k : ℕ). gives (k ∷ [])) (frame_key_lem f o) ∙ sym (ap key_said o.message)
    by_answer (Err r) e = refl
