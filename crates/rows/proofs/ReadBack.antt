-- What fields are read as is what they say: they fit, so that the ME packed of them has them for its fields, in the layout that entry 0 says.
-- Assumes nothing.
use Rattle.std.specs.Prelude.{Result, Ok, Err}
use Prim.Native.Nat.{ℕ, zero, suc}
use mathlib.Core.Path.{◌≡◌, refl, sym, ap, subst, ◌∙◌}
use mathlib.Core.Bool.{Bool, true}
use mathlib.Core.List.{List, [], ◌∷◌}
use lib.Dec.{eqb}
use lib.ListN.{length, get_or}
use borrow.Author.Tests.{eqb-true}
use Rattle.fields.specs.Packing.{pack, unpack, fits}
use Rattle.fields.proofs.Bools.{by_test}
use Rattle.fields.proofs.Fits.{fits_fit}
use Rattle.fields.proofs.Packing.{unpack_pack}
use Rattle.layouts.specs.declared.bodies.Body.{Body}
use Rattle.layouts.specs.declared.bodies.Layout.{Layout}
use Rattle.layouts.specs.Bodies.{layout_by, is_taken, layout_widths, taken_by, body_fields}
use Rattle.layouts.proofs.BothWays.{fields_read}
use Rattle.messages.specs.declared.Message.{Message}
use Rattle.messages.specs.Message.{coarse_by, head_widths}
use Rattle.rows.specs.From.{layout_numbered, fields_from, packed_by, packed_as, message_with, layout_with, head_with, message_by, message_from}
use Rattle.rows.specs.Rows.{layout_number, row_of}
use Rattle.rows.specs.Same.{entries, Same}
use Rattle.rows.proofs.BothWays.{numbered}
use Rattle.refusals.specs.declared.Refusal.{Refusal}

length_entries : (k from : ℕ) (l : List ℕ) → length (entries from k l) ≡ k
length_entries zero from l = refl
length_entries (suc k) from l = ap suc (length_entries k (suc from) l)

module _ (l : List ℕ) where
  abbrev Read : Result Message Refusal → Type 0
  Read (Ok m) = Same l m
  Read (Err r) = Unit

  module _ (a : Layout) (q : a ≡ layout_numbered (get_or l 0 0)) where
    abbrev ds : List ℕ
    ds = fields_from (layout_widths a) l

    abbrev p : ℕ
    p = pack (layout_widths a) ds

    abbrev coarse : Bool
    coarse = coarse_by (get_or l 1 0) (get_or l 2 0)

    -- of the layout of the ME, whose number entry 0 is
    same : (b : Body) → fits (layout_widths a) ds ≡ true → layout_number (layout_by coarse p) ≡ get_or l 0 0 → taken_by coarse p ≡ Ok b
        → Same l (record { format = get_or l 1 0; control = get_or l 2 0; address = get_or l 3 0; body = b })
    unfolding row_of
    same b f e r =
        let c = fields_read coarse p b r in
        let k : layout_by coarse p ≡ a = sym (numbered (layout_by coarse p)) ∙ ap layout_numbered e ∙ sym q in
        let d : body_fields b ≡ ds = c.1 ∙ ap (λ (x : Layout). unpack (layout_widths x) p) k ∙ unpack_pack (layout_widths a) ds (fits_fit (layout_widths a) ds f) in
        record {
          layout = ap layout_number c.0 ∙ e;
          head = refl;
          body = d ∙ ap (λ (n : ℕ). entries 5 n l) (sym (ap length d ∙ length_entries (length (layout_widths a)) 5 l));
        }

    with_taken : (t : Result Body Refusal) → taken_by coarse p ≡ t → fits (layout_widths a) ds ≡ true → layout_number (layout_by coarse p) ≡ get_or l 0 0
        → Read (message_with (get_or l 1 0) (get_or l 2 0) (get_or l 3 0) t)
    with_taken (Ok b) r f e = same b f e r
    with_taken (Err x) r f e = tt

    with_me : fits (layout_widths a) ds ≡ true → Read (message_by l (Ok p))
    unfolding message_by head_with layout_with
    with_me f =
        by_test Read (fits head_widths (get_or l 1 0 ∷ get_or l 2 0 ∷ get_or l 3 0 ∷ [])) _ _
        (λ _. by_test Read (eqb (layout_number (layout_by coarse p)) (get_or l 0 0)) _ _ (λ e. with_taken (taken_by coarse p) refl f (eqb-true _ _ e)) (λ _. tt))
        (λ _. tt)

    as_layout : Read (message_by l (packed_as a l))
    unfolding packed_as packed_by message_by
    as_layout =
        let On : Result ℕ Refusal → Type 0 = λ w. Read (message_by l w) in
        by_test On (is_taken a) _ _ (λ _. by_test On (fits (layout_widths a) ds) _ _ (λ f. with_me f) (λ _. tt)) (λ _. tt)

  -- of fields that are read as a message, each is what the message says
  pub from_same : (m : Message) → message_from l ≡ Ok m → Same l m
  unfolding message_from
  from_same m e = subst Read e (as_layout (layout_numbered (get_or l 0 0)) refl)
