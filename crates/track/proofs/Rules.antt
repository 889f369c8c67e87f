-- The rules of RULES 8, one by one. Each is read off the definitions, once a test in its way is known.
-- Assumes nothing.
use Rattle.std.specs.Prelude.{Result, Ok, Err}
use Prim.Native.Nat.{ℕ, ◌-◌, ◌≤◌, ◌<◌}
use native.Mathlib.Omega.{arith}
use mathlib.Core.Path.{◌≡◌, refl, sym, ap, subst, ◌∙◌}
use mathlib.Core.Bool.{Bool, true, false, not, ◌&&◌}
use mathlib.Core.List.{List, [], ◌∷◌}
use lib.Dec.{leb, eqb}
use lib.ListN.{length, get_or}
use lib.Seq.{get_or-set_same, get_or-set_other}
use borrow.Author.Tests.{le-leb, lt-leb, eq-eqb, ne_eqb}
use Rattle.refusals.specs.declared.Refusal.{Refusal}
use Rattle.refusals.specs.declared.Refusal.TheVariants.{Field, Latitude, Zones}
use Rattle.fields.specs.Bytes.{Bytes}
use Rattle.fields.proofs.Bools.{both, by_test}
use Rattle.positions.specs.declared.Counts.{Counts}
use Rattle.positions.specs.declared.Spot.{Spot}
use Rattle.positions.specs.declared.Turn.{Turn}
use Rattle.positions.specs.declared.Turn.TheVariants as turn
use Rattle.positions.specs.declared.Format.{Format}
use Rattle.positions.specs.declared.Size.{Size}
use Rattle.positions.specs.declared.Size.TheVariants.{Fine, Coarse}
use Rattle.positions.specs.Positions.{count_size, singly}
use Rattle.layouts.specs.declared.identification.Identification.{Identification}
use Rattle.layouts.specs.declared.surface.Surface.{Surface}
use Rattle.layouts.specs.declared.airborne.Airborne.{Airborne}
use Rattle.layouts.specs.declared.velocity.Ground.{Ground}
use Rattle.layouts.specs.declared.velocity.Air.{Air}
use Rattle.layouts.specs.declared.status.Status.{Status}
use Rattle.layouts.specs.declared.coarse.Coarse as layout
use Rattle.layouts.specs.declared.bodies.Body.{Body}
use Rattle.layouts.specs.declared.bodies.Body.TheVariants as body
use Rattle.layouts.specs.Bodies.{body_me, body_fits}
use Rattle.messages.specs.Message.{decoded}
use Rattle.messages.specs.declared.Message.{Message}
use Rattle.messages.proofs.BothWays.{decoded_good}
use Rattle.messages.proofs.Fitting.{fits_body}
use Rattle.whereabouts.specs.declared.Saved.{Saved}
use Rattle.whereabouts.specs.declared.Position.{Position}
use Rattle.whereabouts.specs.declared.Site.{Site}
use Rattle.track.specs.declared.Track.{Track}
use Rattle.track.specs.declared.Stepped.{Stepped}
use Rattle.track.specs.Groups.{identified, moving, on_surface, at_pressure, reported, at_height, positioned}
use Rattle.whereabouts.specs.Located.{is_fresh, same_size, is_partner, passed_on, settled, read_near, read_singly, paired_with, after_pair, airborne_position, surface_position}
use Rattle.whereabouts.proofs.Promised.{sizes_never_paired}
use Rattle.track.specs.Track.{format_of, placed_or, counts_in, coarse_counts, new_track, no_saved, group_track, saved_track, airborne_track, surface_track, step_body, stepped}
use Rattle.track.specs.Leaves.{NoPosition, OnlyStatus, Coarsely}

-- ---- a new track

pub new_knows_nothing : (new_track.heard ≡ 0) × (new_track.position.known ≡ false) × (new_track.saved ≡ no_saved ∷ no_saved ∷ []) × (no_saved.known ≡ false)
new_knows_nothing = (refl, refl, refl, refl)

-- ---- refused or accepted

pub refusal_passed_on : (t : Track) (r : Refusal) (site : Site) (time : ℕ)
    → stepped t (Err r) site time ≡ record { answer = Err r; track = t }
refusal_passed_on t r site time = refl

pub misfit_refused : (t : Track) (m : Message) (site : Site) (time : ℕ) → body_fits m.body ≡ false
    → stepped t (Ok m) site time ≡ record { answer = Err Field; track = t }
misfit_refused t m site time e = rw e

pub accepted : (t : Track) (m : Message) (site : Site) (time : ℕ) → body_fits m.body ≡ true
    → stepped t (Ok m) site time ≡ record { answer = Ok m; track = step_body t m.body (body_me m.body) site time }
accepted t m site time e = rw e

body_decoded : (s : List ℕ) (m : Message) → Bytes s → decoded s ≡ Ok m → body_fits m.body ≡ true
body_decoded s m h e = fits_body m (decoded_good s m h e).0

passed_on_lem : (t : Track) (s : List ℕ) (d : Result Message Refusal) (site : Site) (time : ℕ) → Bytes s → decoded s ≡ d → (stepped t d site time).answer ≡ d
passed_on_lem t s (Err r) site time h e = refl
passed_on_lem t s (Ok m) site time h e = ap (λ (x : Stepped). x.answer) (accepted t m site time (body_decoded s m h e))

-- what the decoder takes from bytes always fits, so a step refuses nothing that the decoder did not
pub answer_passed_on : (t : Track) (s : List ℕ) (site : Site) (time : ℕ) → Bytes s → (stepped t (decoded s) site time).answer ≡ decoded s
answer_passed_on t s site time h = passed_on_lem t s (decoded s) site time h refl

pub heard_at_its_time : (t : Track) (b : Body) (me : ℕ) (site : Site) (time : ℕ) → (step_body t b me site time).heard ≡ time
unfolding group_track saved_track surface_track
heard_at_its_time t (body.Identification b) me site time = refl
heard_at_its_time t (body.Surface b) me site time = refl
heard_at_its_time t (body.Airborne b) me site time = by_test (λ (x : Track). x.heard ≡ time) (eqb b.typecode 0) _ _ (λ _. refl) (λ _. refl)
heard_at_its_time t (body.Ground b) me site time = refl
heard_at_its_time t (body.Air b) me site time = refl
heard_at_its_time t (body.Status b) me site time = refl
heard_at_its_time t (body.Coarse b) me site time = refl

-- ---- a message replaces its own group whole, but for an altitude that a TYPE 0 leaves out, and one with no position leaves where the aircraft is

-- the position and the two saved ones
abbrev pub Unmoved : Track → Track → Type 0
Unmoved t n = (n.position ≡ t.position) × (n.saved ≡ t.saved)

module _ (t : Track) (me : ℕ) (site : Site) (time : ℕ) where
  pub identification_replaces : (b : Identification) → (step_body t (body.Identification b) me site time).groups ≡ identified t.groups me
  unfolding group_track
  identification_replaces b = refl

  pub ground_replaces : (b : Ground) → (step_body t (body.Ground b) me site time).groups ≡ moving t.groups false me
  unfolding group_track
  ground_replaces b = refl

  pub air_replaces : (b : Air) → (step_body t (body.Air b) me site time).groups ≡ moving t.groups false me
  unfolding group_track
  air_replaces b = refl

  pub surface_replaces : (b : Surface) → (step_body t (body.Surface b) me site time).groups ≡ positioned (on_surface t.groups me) b.typecode false
  unfolding surface_track
  surface_replaces b = refl

  -- TYPE 0 and any other of the airborne layout
  silent : (b : Airborne) → b.typecode ≡ 0 → step_body t (body.Airborne b) me site time ≡ group_track t (reported t.groups b.altitude) time
  silent b z = rw (eq-eqb b.typecode 0 z)

  located : (b : Airborne) → 0 < b.typecode → step_body t (body.Airborne b) me site time ≡ airborne_track t b time
  located b h = rw (ne_eqb b.typecode 0 (λ e. omega arith))

  -- TYPE 9-18
  pub pressure_replaces : (b : Airborne) → 9 ≤ b.typecode → b.typecode ≤ 18
      → (step_body t (body.Airborne b) me site time).groups ≡ positioned (at_pressure t.groups b.altitude) b.typecode (eqb b.bit8 1)
  unfolding saved_track
  pressure_replaces b l h = ap (λ (x : Track). x.groups) (located b (omega arith)) ∙ simp (le-leb b.typecode 18 h)

  -- TYPE 20-22
  pub height_replaces : (b : Airborne) → 18 < b.typecode
      → (step_body t (body.Airborne b) me site time).groups ≡ positioned (at_height t.groups b.altitude) b.typecode (eqb b.bit8 1)
  unfolding saved_track
  height_replaces b h = ap (λ (x : Track). x.groups) (located b (omega arith)) ∙ simp (lt-leb b.typecode 18 h)

  -- TYPE 0: it is heard, a field unlike zero replaces the pressure altitude, and nothing else of the track changes, whatever its F and its counts
  pub no_position_leaves : (b : Airborne) → b.typecode ≡ 0 → NoPosition b.altitude time t (step_body t (body.Airborne b) me site time)
  unfolding group_track
  no_position_leaves b z =
      subst (NoPosition b.altitude time t) (sym (silent b z))
      (record {
        heard = refl;
        pressure = refl;
        identification = refl;
        velocity = refl;
        surface = refl;
        status = refl;
        height = refl;
        typecode = refl;
        bit8 = refl;
        coarse = refl;
        position = refl;
        saved = refl;
      })

  -- TYPE 31
  pub status_leaves : (b : Status) → OnlyStatus me time t (step_body t (body.Status b) me site time)
  unfolding group_track
  status_leaves b =
      record {
        heard = refl;
        status = refl;
        identification = refl;
        velocity = refl;
        surface = refl;
        pressure = refl;
        height = refl;
        typecode = refl;
        bit8 = refl;
        coarse = refl;
        position = refl;
        saved = refl;
      }

  -- CF 3
  pub coarse_replaces : (b : layout.Coarse) → Coarsely b.altitude me time t (step_body t (body.Coarse b) me site time)
  unfolding saved_track
  coarse_replaces b =
      record {
        heard = refl;
        pressure = refl;
        velocity = refl;
        coarse = refl;
        identification = refl;
        surface = refl;
        status = refl;
        height = refl;
        typecode = refl;
        bit8 = refl;
      }

  pub identification_stays : (b : Identification) → Unmoved t (step_body t (body.Identification b) me site time)
  unfolding group_track
  identification_stays b = (refl, refl)

  pub ground_stays : (b : Ground) → Unmoved t (step_body t (body.Ground b) me site time)
  unfolding group_track
  ground_stays b = (refl, refl)

  pub air_stays : (b : Air) → Unmoved t (step_body t (body.Air b) me site time)
  unfolding group_track
  air_stays b = (refl, refl)

  -- ---- the two saved ones

  pub surface_clears : (b : Surface) → (step_body t (body.Surface b) me site time).saved ≡ no_saved ∷ no_saved ∷ []
  unfolding surface_track
  surface_clears b = refl

  -- of a message with a position, so not of TYPE 0
  pub airborne_saved : (b : Airborne) → 0 < b.typecode → b.f < length t.saved
      → get_or (step_body t (body.Airborne b) me site time).saved b.f no_saved ≡ record { known = true; coarse = false; counts = counts_in b; time = time }
  unfolding saved_track
  airborne_saved b n h = ap (λ (x : Track). get_or x.saved b.f no_saved) (located b n) ∙ get_or-set_same t.saved b.f _ no_saved h

  pub airborne_leaves : (b : Airborne) → 0 < b.typecode → (i : ℕ) → (i ≡ b.f → ⊥)
      → get_or (step_body t (body.Airborne b) me site time).saved i no_saved ≡ get_or t.saved i no_saved
  unfolding saved_track
  airborne_leaves b n i h = ap (λ (x : Track). get_or x.saved i no_saved) (located b n) ∙ get_or-set_other t.saved b.f i _ no_saved h

  -- the partner is the one of the other F, as it was saved before
  pub airborne_located : (b : Airborne) → 0 < b.typecode
      → (step_body t (body.Airborne b) me site time).position
      ≡ placed_or (airborne_position t.position (get_or t.saved (1 - b.f) no_saved) Fine (counts_in b) (format_of b.f) time) t.position
  unfolding saved_track
  airborne_located b n = ap (λ (x : Track). x.position) (located b n)

  -- the same of a coarse message
  pub coarse_saved : (b : layout.Coarse) → b.f < length t.saved
      → get_or (step_body t (body.Coarse b) me site time).saved b.f no_saved
      ≡ record { known = true; coarse = true; counts = coarse_counts b; time = time }
  unfolding saved_track
  coarse_saved b h = get_or-set_same t.saved b.f _ no_saved h

  pub coarse_leaves : (b : layout.Coarse) (i : ℕ) → (i ≡ b.f → ⊥) → get_or (step_body t (body.Coarse b) me site time).saved i no_saved ≡ get_or t.saved i no_saved
  unfolding saved_track
  coarse_leaves b i h = get_or-set_other t.saved b.f i _ no_saved h

  pub coarse_located : (b : layout.Coarse)
      → (step_body t (body.Coarse b) me site time).position
      ≡ placed_or (airborne_position t.position (get_or t.saved (1 - b.f) no_saved) Coarse (coarse_counts b) (format_of b.f) time) t.position
  unfolding saved_track
  coarse_located b = refl

  -- a fine message is no partner of a coarse one, and a coarse one none of a fine one: it is read as if the other F had not been heard
  pub coarse_never_paired : (b : layout.Coarse) → (get_or t.saved (1 - b.f) no_saved).coarse ≡ false
      → (step_body t (body.Coarse b) me site time).position
      ≡ placed_or (read_singly t.position Coarse (coarse_counts b) (format_of b.f) time) t.position
  coarse_never_paired b e =
      coarse_located b ∙ ap (λ (x : Result Position Refusal). placed_or x t.position) (sizes_never_paired t.position (get_or t.saved (1 - b.f) no_saved) Coarse _ (format_of b.f) time e)

  pub fine_never_paired : (b : Airborne) → 0 < b.typecode → (get_or t.saved (1 - b.f) no_saved).coarse ≡ true
      → (step_body t (body.Airborne b) me site time).position ≡ placed_or (read_singly t.position Fine (counts_in b) (format_of b.f) time) t.position
  fine_never_paired b n e =
      airborne_located b n
      ∙ ap (λ (x : Result Position Refusal). placed_or x t.position) (sizes_never_paired t.position (get_or t.saved (1 - b.f) no_saved) Fine _ (format_of b.f) time (ap not e))

  pub surface_located : (b : Surface)
      → (step_body t (body.Surface b) me site time).position
      ≡ placed_or (surface_position t.position site (record { latitude = b.latitude; longitude = b.longitude }) (format_of b.f) time) t.position
  unfolding surface_track
  surface_located b = refl

-- ---- the ages: 10,000 of a partner, 120,000 of a position; a time after the clock has age 0

within : (known : Bool) (age most : ℕ) → known ≡ true → age ≤ most → known && leb age most ≡ true
within known age most k h = both k (le-leb age most h)

beyond : (known : Bool) (age most : ℕ) → most < age → known && leb age most ≡ false
beyond true age most h = lt-leb age most h
beyond false age most h = refl

module _ (p : Position) (size : Size) (counts : Counts) (format : Format) (time : ℕ) where
  pub paired_within : (partner : Saved) → partner.known ≡ true → same_size partner.coarse size ≡ true → time - partner.time ≤ 10000
      → airborne_position p partner size counts format time ≡ after_pair (paired_with partner.counts size counts format) p size counts format time
  unfolding airborne_position is_partner
  paired_within partner k e h = rw (within (partner.known && same_size partner.coarse size) (time - partner.time) 10000 (both k e) h)

  pub unpaired_beyond : (partner : Saved) → 10000 < time - partner.time
      → airborne_position p partner size counts format time ≡ read_singly p size counts format time
  unfolding airborne_position is_partner
  unpaired_beyond partner h = rw (beyond (partner.known && same_size partner.coarse size) (time - partner.time) 10000 h)

  pub unpaired_alone : (partner : Saved) → partner.known ≡ false
      → airborne_position p partner size counts format time ≡ read_singly p size counts format time
  unfolding airborne_position is_partner
  unpaired_alone partner k = rw k

  pub read_within : p.known ≡ true → time - p.time ≤ 120000
      → read_singly p size counts format time ≡ read_near p.spot p size counts turn.Airborne format time
  unfolding read_singly
  read_within k h = rw (within p.known (time - p.time) 120000 k h)

  pub stays_beyond : 120000 < time - p.time → read_singly p size counts format time ≡ Ok p
  unfolding read_singly
  stays_beyond h = rw (beyond p.known (time - p.time) 120000 h)

  pub stays_unknown : p.known ≡ false → read_singly p size counts format time ≡ Ok p
  unfolding read_singly
  stays_unknown k = rw k

  -- ---- a position found takes the message's time; on 9 or 10 a pair is read singly, and what is read singly stays; 8 is passed on

  pub pair_found_lem : (found : Result Spot Refusal) (spot : Spot) → found ≡ Ok spot
      → after_pair found p size counts format time ≡ Ok (record { known = true; spot = spot; time = time })
  pair_found_lem found spot e = rw e

  pub pair_refused : (found : Result Spot Refusal) (r : Refusal) → found ≡ Err r
      → after_pair found p size counts format time ≡ passed_on r (read_singly p size counts format time)
  pair_refused found r e = rw e

  pub pair_nine : (found : Result Spot Refusal) → found ≡ Err Latitude → after_pair found p size counts format time ≡ read_singly p size counts format time
  pair_nine found e = pair_refused found Latitude e

  pub pair_ten : (found : Result Spot Refusal) → found ≡ Err Zones → after_pair found p size counts format time ≡ read_singly p size counts format time
  pair_ten found e = pair_refused found Zones e

  pub near_found_lem : (reference : Spot) (turn : Turn) (spot : Spot) → singly (count_size size) reference counts turn format ≡ Ok spot
      → read_near reference p size counts turn format time ≡ Ok (record { known = true; spot = spot; time = time })
  unfolding read_near
  near_found_lem reference turn spot e = ap (λ (x : Result Spot Refusal). settled x p time) e

  pub near_refused : (reference : Spot) (turn : Turn) (r : Refusal) → singly (count_size size) reference counts turn format ≡ Err r
      → read_near reference p size counts turn format time ≡ passed_on r (Ok p)
  unfolding read_near
  near_refused reference turn r e = ap (λ (x : Result Spot Refusal). settled x p time) e

module _ (p : Position) (counts : Counts) (format : Format) (time : ℕ) where
  pub surface_within : (site : Site) → p.known ≡ true → time - p.time ≤ 120000
      → surface_position p site counts format time ≡ read_near p.spot p Fine counts turn.Surface format time
  unfolding surface_position
  surface_within site k h = rw (within p.known (time - p.time) 120000 k h)

  pub surface_by_site : (site : Site) → is_fresh p time ≡ false → site.known ≡ true
      → surface_position p site counts format time ≡ read_near site.spot p Fine counts turn.Surface format time
  unfolding surface_position
  surface_by_site site e k = rw (e, k)

  pub surface_by_none : (site : Site) → is_fresh p time ≡ false → site.known ≡ false → surface_position p site counts format time ≡ Ok p
  unfolding surface_position
  surface_by_none site e k = rw (e, k)

-- so a position of 120,001 is none: the site is used
pub stale_beyond : (p : Position) (time : ℕ) → 120000 < time - p.time → is_fresh p time ≡ false
stale_beyond p time h = beyond p.known (time - p.time) 120000 h
