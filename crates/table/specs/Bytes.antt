-- RULES 19.2: the lent bytes as a form of the table.
use Rattle.std.specs.Prelude.{ℕ, cond, List, length}
use Rattle.whereabouts.specs.declared.Site.{Site}
use Rattle.track.specs.declared.Track.{Track}
use Rattle.rules.specs.Form.{Form}
use Rattle.memory.specs.Offsets.{whole_places, places_in}
use Rattle.table_bytes.specs.Layout.{clock_of, site_of, key_at, body_at, cell_of, moved, stored, emptied, emptied_at}

abbrev pub bytes : Form (List ℕ)
bytes =
    record {
      whole = λ (s : List ℕ). whole_places (length s);
      count = λ (s : List ℕ). places_in s;
      clock = λ (s : List ℕ). clock_of s;
      site = λ (s : List ℕ). site_of s;
      cell = λ (s : List ℕ) (i : ℕ). cell_of (key_at s i) (body_at s (places_in s) i);
      moved = λ (s : List ℕ) (time : ℕ). moved s time;
      stored = λ (s : List ℕ) (i key : ℕ) (t : Track). stored s (places_in s) i key t;
      emptied = λ (s : List ℕ) (o : Site). cond o.known (emptied_at s o.spot) (emptied s);
    }
