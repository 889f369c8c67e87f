-- A coarse message has no use for a site, so a log says the same of a key of kind C with any site and with none.
-- Assumes nothing.
use Rattle.std.specs.Prelude.{Result, Ok, Err, Option, Some, None}
use Prim.Native.Nat.{ℕ, zero, suc, ◌/◌}
use mathlib.Core.Bool.{Bool, true, false, cond, false≢true}
use mathlib.Core.Path.{◌≡◌, refl, ap, sym, ◌∙◌}
use mathlib.Core.List.{List}
use lib.Dec.{eqb, ltb}
use lib.ListN.{length, take, drop}
use borrow.Author.Tests.{eqb-true}
use Rattle.fields.specs.Bytes.{number}
use Rattle.keys.specs.declared.Kind.{Kind}
use Rattle.keys.specs.declared.Kind.TheVariants.{I, O, T, M, N, C}
use Rattle.keys.specs.Keys.{key_for, is_coarse, low_kind}
use Rattle.keys.proofs.Laws as keys
use Rattle.layouts.specs.declared.bodies.Body.{Body}
use Rattle.layouts.specs.declared.bodies.Body.TheVariants as body
use Rattle.layouts.specs.Bodies.{body_coarse, body_me}
use Rattle.messages.specs.declared.Message.{Message}
use Rattle.messages.specs.Message.{decoded, key_of, message_kind}
use Rattle.messages.proofs.Keys.{coarse_by_its_own}
use Rattle.whereabouts.specs.declared.Site.{Site}
use Rattle.whereabouts.specs.Located.{no_site}
use Rattle.track.specs.declared.Track.{Track}
use Rattle.track.specs.Track.{step_body}
use Rattle.track.specs.Held.{later_at, found, stepped_from}
use Rattle.replay.specs.Alone.{own_in, heard_in, told_of, own_after}
use Rattle.replay.specs.declared.Own.{Own}
use Rattle.replay.specs.Replay.{bad_site, record_at, heard_at, unheard, own_at, sited, replayed}
use Rattle.refusals.specs.declared.Refusal.{Refusal}

-- a key of kind C is that of coarse messages alone
low_coarse : (k : Kind) → is_coarse (low_kind k) ≡ is_coarse k
low_coarse I = refl
low_coarse O = refl
low_coarse T = refl
low_coarse M = refl
low_coarse N = refl
low_coarse (C flag station) = refl

module _ (address flag station : ℕ) (site other : Site) where
  abbrev key : ℕ
  key = key_for (C flag station) address

  is_coarse_lem : (message : List ℕ) (m : Message) → decoded message ≡ Ok m → key_of m ≡ key → body_coarse m.body ≡ true
  is_coarse_lem message m d e =
      let c = coarse_by_its_own message m d in
      c.1 ∙ sym c.0 ∙ sym (low_coarse (message_kind m)) ∙ ap is_coarse (keys.keys_apart (message_kind m) (C flag station) m.address address e).0

  step_alike : (t : Track) (b : Body) (time : ℕ) → body_coarse b ≡ true → step_body t b (body_me b) site time ≡ step_body t b (body_me b) other time
  step_alike t (body.Identification b) time h = refl
  step_alike t (body.Surface b) time h = absurd (false≢true h)
  step_alike t (body.Airborne b) time h = refl
  step_alike t (body.Ground b) time h = refl
  step_alike t (body.Air b) time h = refl
  step_alike t (body.Status b) time h = refl
  step_alike t (body.Coarse b) time h = refl

  from_alike : (m : Message) (time : ℕ) (t : Option Track) → body_coarse m.body ≡ true → stepped_from m site time t ≡ stepped_from m other time t
  from_alike m time None h = refl
  from_alike m time (Some t) h = ap Some (step_alike t m.body time h)

  told_alike : (message : List ℕ) (d : Result Message Refusal) → decoded message ≡ d → (time : ℕ) (t : Option Track) → told_of site time (own_in key d) t ≡ told_of other time (own_in key d) t
  told_alike message (Err r) e time t = refl
  told_alike message (Ok m) e time t = by_key (eqb (key_of m) key) refl
    where
      by_key : (b : Bool) → eqb (key_of m) key ≡ b → told_of site time (cond b (Some m) None) t ≡ told_of other time (cond b (Some m) None) t
      by_key true h = from_alike m time (found m t) (is_coarse_lem message m e (eqb-true (key_of m) key h))
      by_key false h = refl

  after_alike : (o : Own) (message : List ℕ) (time : ℕ) → own_after site o (heard_in key message time) ≡ own_after other o (heard_in key message time)
  unfolding own_after heard_in
  after_alike o message time =
      ap (λ (t : Option Track). cond (ltb time o.clock) o (record { clock = time; track = t })) (told_alike message (decoded message) refl time (later_at time o.track))

  own_alike : (log : List ℕ) (o : Own) (n : ℕ) → own_at site key o log n ≡ own_at other key o log n
  own_alike log o zero = refl
  own_alike log o (suc n) =
      let r : List ℕ = record_at log n in
      ap (λ (x : Own). own_after site x (heard_at key r)) (own_alike log o n) ∙ after_alike (own_at other key o log n) (drop 8 r) (number (take 8 r))

pub any_site : (log : List ℕ) (address flag station : ℕ) (site : Site) → bad_site site ≡ false → replayed log (C flag station) address no_site ≡ replayed log (C flag station) address site
unfolding replayed
any_site log address flag station site good =
    rw (good, own_alike address flag station (sited no_site) (sited site) log unheard (length log / 22))
