-- RULES 9.2 and 19.2: the lent slice of places, with its head, as a form of the table.
use Rattle.std.specs.Prelude.{ℕ, List, length, get_or, set, replicate}
use Rattle.whereabouts.specs.declared.Site.{Site}
use Rattle.track.specs.declared.Track.{Track}
use Rattle.rules.specs.Form.{Form}
use Rattle.slice_places.specs.declared.Place.{Place}
use Rattle.slice_places.specs.declared.Head.{Head}
use Rattle.slice_places.specs.Ranges.{no_place, cell_in}
use Rattle.slice_places.specs.Head.{places_fit, head_of, moved, site_of}

pub record Slice : Type 0 where
  pub head : Head
  pub places : List Place

abbrev pub slice_of : Head → List Place → Slice
slice_of head ps = record { head = head; places = ps }

-- every place is nobody's
abbrev pub emptied : List Place → List Place
emptied ps = replicate (length ps) no_place

abbrev pub slice : Form Slice
slice =
    record {
      whole = λ (s : Slice). places_fit (length s.places);
      count = λ (s : Slice). length s.places;
      clock = λ (s : Slice). s.head.clock;
      site = λ (s : Slice). site_of s.head;
      cell = λ (s : Slice) (i : ℕ). cell_in (get_or s.places i no_place);
      moved = λ (s : Slice) (time : ℕ). slice_of (moved s.head time) s.places;
      stored = λ (s : Slice) (i key : ℕ) (t : Track). slice_of s.head (set s.places i (record { key = key; track = t }));
      emptied = λ (s : Slice) (o : Site). slice_of (head_of 0 o) (emptied s.places);
    }
