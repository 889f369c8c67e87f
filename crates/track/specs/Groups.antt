-- RULES 8.1, 8.6, 8.7 and 16.4: the groups of a track. A message replaces its own group whole, unknown included; only the altitude of a TYPE 0 may be left out. A position message leaves its TYPE and, in the air, bit 8 too.
use Rattle.std.specs.Prelude.{ℕ, Bool, false, cond, leb, eqb}
use Rattle.track.specs.declared.Groups.{Groups}

abbrev pub no_groups : Groups
no_groups = record {
  identification = 0;
  velocity = 0;
  surface = 0;
  status = 0;
  pressure = 0;
  height = 0;
  typecode = 0;
  bit8 = false;
  coarse = false;
}

-- identification, TYPE 1-4
abbrev pub identified : Groups → ℕ → Groups
identified g me = record {
  identification = me;
  velocity = g.velocity;
  surface = g.surface;
  status = g.status;
  pressure = g.pressure;
  height = g.height;
  typecode = g.typecode;
  bit8 = g.bit8;
  coarse = g.coarse;
}

-- velocity, TYPE 19; and a coarse message, which is its own
abbrev pub moving : Groups → Bool → ℕ → Groups
moving g coarse me = record {
  identification = g.identification;
  velocity = me;
  surface = g.surface;
  status = g.status;
  pressure = g.pressure;
  height = g.height;
  typecode = g.typecode;
  bit8 = g.bit8;
  coarse = coarse;
}

-- surface fields, TYPE 5-8
abbrev pub on_surface : Groups → ℕ → Groups
on_surface g me = record {
  identification = g.identification;
  velocity = g.velocity;
  surface = me;
  status = g.status;
  pressure = g.pressure;
  height = g.height;
  typecode = g.typecode;
  bit8 = g.bit8;
  coarse = g.coarse;
}

-- operational status, TYPE 31
abbrev pub stating : Groups → ℕ → Groups
stating g me = record {
  identification = g.identification;
  velocity = g.velocity;
  surface = g.surface;
  status = me;
  pressure = g.pressure;
  height = g.height;
  typecode = g.typecode;
  bit8 = g.bit8;
  coarse = g.coarse;
}

-- pressure altitude, of TYPE 9-18, of a TYPE 0 that reports one and of a coarse message
abbrev pub at_pressure : Groups → ℕ → Groups
at_pressure g altitude = record {
  identification = g.identification;
  velocity = g.velocity;
  surface = g.surface;
  status = g.status;
  pressure = altitude;
  height = g.height;
  typecode = g.typecode;
  bit8 = g.bit8;
  coarse = g.coarse;
}

-- the pressure altitude that a TYPE 0 reports: a field of zero leaves the one before, any other code replaces it, unknown included
abbrev pub reported : Groups → ℕ → Groups
reported g altitude = at_pressure g (cond (eqb altitude 0) g.pressure altitude)

-- GNSS height, TYPE 20-22
abbrev pub at_height : Groups → ℕ → Groups
at_height g altitude = record {
  identification = g.identification;
  velocity = g.velocity;
  surface = g.surface;
  status = g.status;
  pressure = g.pressure;
  height = altitude;
  typecode = g.typecode;
  bit8 = g.bit8;
  coarse = g.coarse;
}

abbrev pub high : Groups → ℕ → ℕ → Groups
high g type altitude = cond (leb type 18) (at_pressure g altitude) (at_height g altitude)

-- of the latest position message TYPE and, in the air, bit 8 of ME
abbrev pub positioned : Groups → ℕ → Bool → Groups
positioned g type bit8 = record {
  identification = g.identification;
  velocity = g.velocity;
  surface = g.surface;
  status = g.status;
  pressure = g.pressure;
  height = g.height;
  typecode = type;
  bit8 = bit8;
  coarse = g.coarse;
}
