-- What private functions promise to each other: a message from the air before it is saved, and its way through the code. No public contract cites this file.
use Rattle.std.specs.Prelude.{ℕ, Bool, true, false, cond}
use Rattle.layouts.specs.declared.airborne.Airborne.{Airborne}
use Rattle.layouts.specs.declared.coarse.Coarse.{Coarse}
use Rattle.layouts.specs.declared.bodies.Layout.{Layout}
use Rattle.layouts.specs.declared.bodies.Layout.TheVariants as layout
use Rattle.layouts.specs.Bodies.{layout_of}
use Rattle.track.specs.declared.Groups.{Groups}
use Rattle.track.specs.declared.Aloft.{Aloft}
use Rattle.track.specs.Track.{counts_in, coarse_counts, airborne_groups, coarse_groups}

-- what the code makes of either message, before it is saved
abbrev pub airborne_aloft : Groups → Airborne → Aloft
airborne_aloft g b = record { groups = airborne_groups g b; coarse = false; f = b.f; counts = counts_in b }

abbrev pub coarse_aloft : Groups → Coarse → ℕ → Aloft
coarse_aloft g b me = record { groups = coarse_groups g b me; coarse = true; f = b.f; counts = coarse_counts b }

-- the way of a message through the code: a coarse one goes with those of the airborne layout
abbrev pub way_of : Bool → ℕ → Layout
way_of coarse n = cond coarse layout.Airborne (layout_of n)
