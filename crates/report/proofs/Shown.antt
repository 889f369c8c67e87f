-- What the listing shows, and what it leaves out: the cases of the test, for every track, and with all asked for of every key that a table holds.
-- Assumes nothing.
use Rattle.std.specs.Prelude.{Some}
use Prim.Native.Nat.{ℕ}
use native.Mathlib.Omega.{arith}
use mathlib.Core.Bool.{Bool, true, false}
use mathlib.Core.List.{List, []}
use mathlib.Core.Logic.{◌⊎◌, inl, inr}
use mathlib.Core.Path.{◌≡◌, refl, sym, ap, ◌∙◌}
use lib.ListN.{length}
use Rattle.track.specs.declared.Track.{Track}
use Rattle.text.specs.declared.Row.{Row}
use Rattle.text.specs.Lines.{key_text, row_text}
use Rattle.text.proofs.Fits.{line_text_lem}
use Rattle.memory.specs.Offsets.{whole_places}
use Rattle.table.specs.View.{view, HeldKey}
use Rattle.report.specs.Listing.{row_of, row_for, line_for, line_in}
use Rattle.report.specs.Walked.{line_printed, some_text}
use Rattle.report.proofs.Held.{held_seen}

row_some : (r : Row) → some_text (row_text r) ≡ 1
unfolding some_text row_text key_text
row_some r = refl

none_text : some_text [] ≡ 0
unfolding some_text
none_text = refl

module _ (key : ℕ) (t : Track) where
  pub all_shown : line_for true key (Some t) ≡ row_text (row_of key t)
  unfolding row_for
  all_shown = refl

  -- a known position is shown whatever the times of the track are
  pub old_position_shown : t.position.known ≡ true → line_for false key (Some t) ≡ row_text (row_of key t)
  unfolding row_for
  old_position_shown h = rw h

  pub unknown_left_out : t.position.known ≡ false → line_for false key (Some t) ≡ []
  unfolding row_for
  unknown_left_out h = rw h

  -- a key's default line is its line with all asked for, or empty, and empty just when no position is known
  pub shown_or_nothing : ((line_for false key (Some t) ≡ line_for true key (Some t)) ⊎ (line_for false key (Some t) ≡ []))
      × (line_for false key (Some t) ≡ [] → t.position.known ≡ false)
      × (t.position.known ≡ false → line_for false key (Some t) ≡ [])
  shown_or_nothing = (by_known t.position.known refl, only t.position.known refl, unknown_left_out)
    where
      by_known : (b : Bool) → t.position.known ≡ b → (line_for false key (Some t) ≡ line_for true key (Some t)) ⊎ (line_for false key (Some t) ≡ [])
      by_known true h = inl (old_position_shown h ∙ sym all_shown)
      by_known false h = inr (unknown_left_out h)

      only : (b : Bool) → t.position.known ≡ b → line_for false key (Some t) ≡ [] → t.position.known ≡ false
      only true h e =
          let z : ◌≡◌ {A = ℕ} 1 0 = sym (row_some (row_of key t)) ∙ ap some_text (sym (old_position_shown h) ∙ e) ∙ none_text in
          absurd (omega arith)
      only false h e = h

-- with all asked for every key that is held has its line
pub all_shows_all : (s : List ℕ) (key : ℕ) → whole_places (length s) ≡ true → HeldKey s key
    → (t : Track) × (view s key ≡ Some t) × (line_printed (line_in true s key) ≡ row_text (row_of key t))
unfolding line_in row_for
all_shows_all s key whole h =
    let v = held_seen s key h in
    (v.0, v.1, rw (whole, v.1) (line_text_lem (row_text (row_of key v.0))))
