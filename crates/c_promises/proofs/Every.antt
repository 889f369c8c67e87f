-- For whatever is lent and given there is a call that met its contract, with the number and the array that the definition says; and so a run. The theorems speak of something.
-- Assumes nothing.
use Rattle.std.specs.Prelude.{Option, Some, None}
use Prim.Native.Nat.{ℕ, ◌^◌, ◌<◌}
use mathlib.Core.Path.{◌≡◌, refl}
use mathlib.Core.List.{List, [], ◌∷◌}
use lib.IntN.{ℤ}
use lib.Ieee.{Float}
use denote.Ref.{Bor, MutBor}
use Rattle.entries.specs.Sent.{Sent, sent, into}
use Rattle.messages.specs.Message.{decoded}
use Rattle.whereabouts.specs.Located.{no_site, site_at}
use Rattle.rules.specs.Rules as rules
use Rattle.table.specs.Bytes.{bytes}
use Rattle.table.specs.Table.{set_up, set_up_at, received, looked_up, clock_in}
use Rattle.track_rows.specs.Held.{looked_said}
use Rattle.isolation.specs.Runs.{Call}
use Rattle.addercoil.specs.Blocks.{Both}
use Rattle.addercoil.specs.Figures.{degrees_plotted, from_degrees_said}
use Rattle.addercoil.specs.Messages.{message_said}
use Rattle.addercoil.specs.Stamps.{received_stamp}
use Rattle.addercoil.specs.Tables.{set_up_sent, received_sent, clock_said}
use Rattle.audit.specs.Replays.{replay_said, coarse_said}
use Rattle.c_promises.specs.Calls.{SetUp, SetUpAt, Receive, LookUp, Clock, Decode, Replay, ReplayAt, ReplayCoarse, ReceiveStamp, InDegrees, FromDegrees}
use Rattle.c_promises.specs.Backs.{backs_of, stamped_backs}
use Rattle.c_promises.specs.Runs.{Site, site_of, Begin, Ran, Ran.stopped, Ran.then, Run}
use Rattle.c_promises.specs.Stamps as stamps
use Rattle.c_promises.specs.Stamps.{RanStamps, RunStamps}

-- a lent array, wherever it stands: to be read, and to be written
abbrev pub lend : {A : Type 0} → List A → Bor (List A)
lend s = record { ref_ptr = (0, 0); now = s }

abbrev pub lend_mut : {A : Type 0} → List A → MutBor (List A)
lend_mut s = record { ref_ptr = (0, 0); ghost_name = 0; now = s }

pub set_up_met : (table : List ℕ) → SetUp table (set_up_sent (set_up table))
unfolding set_up_sent
set_up_met table =
    record {
      κs = ([], tt);
      args = (lend_mut table, tt);
      left = (lend_mut (set_up table).table, tt);
      lent = refl;
      leaves = refl;
      meets = refl;
    }

pub set_up_at_met : (table : List ℕ) (latitude : ℤ) (longitude : ℕ) → SetUpAt table latitude longitude (set_up_sent (set_up_at table (record { latitude = latitude; longitude = longitude })))
unfolding set_up_sent
set_up_at_met table latitude longitude =
    record {
      κs = ([], tt);
      args = (lend_mut table, (latitude, (longitude, tt)));
      left = (lend_mut (set_up_at table (record { latitude = latitude; longitude = longitude })).table, (latitude, (longitude, tt)));
      lent = refl;
      north = refl;
      east = refl;
      leaves = refl;
      meets = refl;
    }

pub receive_met : (table message : List ℕ) (time : ℕ) → Receive table message time (received_sent (received table message time))
unfolding received_sent
receive_met table message time =
    record {
      κs = ([], ([], tt));
      args = (lend_mut table, (lend message, (time, tt)));
      left = (lend_mut (received table message time).table, (lend message, (time, tt)));
      lent = refl;
      brings = refl;
      at = refl;
      leaves = refl;
      meets = refl;
    }

pub look_up_met : (table : List ℕ) (key : ℕ) (track : List ℕ) → LookUp table key track (into 72 track (looked_said key (looked_up table key)))
look_up_met table key track =
    record {
      κs = ([], ([], tt));
      args = (lend table, (key, (lend_mut track, tt)));
      left = (lend table, (key, (lend_mut (into 72 track (looked_said key (looked_up table key))).array, tt)));
      lent = refl;
      asks = refl;
      into = refl;
      leaves = refl;
      meets = refl;
    }

pub clock_met : (table out : List ℕ) → Clock table out (into 1 out (clock_said (clock_in table)))
clock_met table out =
    record {
      κs = ([], ([], tt));
      args = (lend table, (lend_mut out, tt));
      left = (lend table, (lend_mut (into 1 out (clock_said (clock_in table))).array, tt));
      lent = refl;
      into = refl;
      leaves = refl;
      meets = refl;
    }

pub decode_met : (message fields : List ℕ) → Decode message fields (into 28 fields (message_said (decoded message)))
decode_met message fields =
    record {
      κs = ([], ([], tt));
      args = (lend message, (lend_mut fields, tt));
      left = (lend message, (lend_mut (into 28 fields (message_said (decoded message))).array, tt));
      brings = refl;
      into = refl;
      leaves = refl;
      meets = refl;
    }

pub replay_met : (log : List ℕ) (kind address : ℕ) (track : List ℕ) → Replay log kind address track (into 72 track (replay_said log kind address no_site))
replay_met log kind address track =
    record {
      κs = ([], ([], tt));
      args = (lend log, (kind, (address, (lend_mut track, tt))));
      left = (lend log, (kind, (address, (lend_mut (into 72 track (replay_said log kind address no_site)).array, tt))));
      lent = refl;
      its_kind = refl;
      its_address = refl;
      into = refl;
      leaves = refl;
      meets = refl;
    }

pub replay_at_met : (log : List ℕ) (kind address : ℕ) (latitude : ℤ) (longitude : ℕ) (track : List ℕ)
    → ReplayAt log kind address latitude longitude track (into 72 track (replay_said log kind address (site_at (record { latitude = latitude; longitude = longitude }))))
replay_at_met log kind address latitude longitude track =
    record {
      κs = ([], ([], tt));
      args = (lend log, (kind, (address, (latitude, (longitude, (lend_mut track, tt))))));
      left = (lend log, (kind, (address, (latitude, (longitude, (lend_mut (into 72 track (replay_said log kind address (site_at (record { latitude = latitude; longitude = longitude })))).array, tt))))));
      lent = refl;
      its_kind = refl;
      its_address = refl;
      north = refl;
      east = refl;
      into = refl;
      leaves = refl;
      meets = refl;
    }

pub replay_coarse_met : (log : List ℕ) (address flag station : ℕ) (track : List ℕ) → ReplayCoarse log address flag station track (into 72 track (coarse_said log address flag station))
replay_coarse_met log address flag station track =
    record {
      κs = ([], ([], tt));
      args = (lend log, (address, (flag, (station, (lend_mut track, tt)))));
      left = (lend log, (address, (flag, (station, (lend_mut (into 72 track (coarse_said log address flag station)).array, tt)))));
      lent = refl;
      its_address = refl;
      its_flag = refl;
      its_station = refl;
      into = refl;
      leaves = refl;
      meets = refl;
    }

pub receive_stamp_met : (table message : List ℕ) (stamp : ℕ) (state : List ℕ) → ReceiveStamp table message stamp state (received_stamp table message stamp state)
receive_stamp_met table message stamp state =
    record {
      κs = ([], ([], ([], tt)));
      args = (lend_mut table, (lend message, (stamp, (lend_mut state, tt))));
      left = (lend_mut (received_stamp table message stamp state).table, (lend message, (stamp, (lend_mut (received_stamp table message stamp state).sent.array, tt))));
      lent = refl;
      brings = refl;
      at = refl;
      from = refl;
      leaves_table = refl;
      leaves_state = refl;
      meets = refl;
    }

pub in_degrees_met : (latitude : ℤ) (longitude : ℕ) (out : List Float) → InDegrees latitude longitude out (degrees_plotted out latitude longitude)
in_degrees_met latitude longitude out =
    record {
      κs = ([], tt);
      args = (latitude, (longitude, (lend_mut out, tt)));
      left = (latitude, (longitude, (lend_mut (degrees_plotted out latitude longitude).array, tt)));
      north = refl;
      east = refl;
      into = refl;
      leaves = refl;
      meets = refl;
    }

pub from_degrees_met : (x y : Float) (out : List ℕ) → FromDegrees x y out (into 2 out (from_degrees_said x y))
from_degrees_met x y out =
    record {
      κs = ([], tt);
      args = (x, (y, (lend_mut out, tt)));
      left = (x, (y, (lend_mut (into 2 out (from_degrees_said x y)).array, tt)));
      north = refl;
      east = refl;
      into = refl;
      leaves = refl;
      meets = refl;
    }

-- ---- a run

pub ran_met : (table : List ℕ) (cs : List Call) → Ran table cs (backs_of table cs)
unfolding received_sent
ran_met table [] = stopped
ran_met table (c ∷ cs) = then (receive_met table c.message c.time) (ran_met (received table c.message c.time).table cs)

begin_met : (site : Option Site) (table : List ℕ) → Begin site table (set_up_sent (rules.set_up bytes table (site_of site)))
begin_met None table = set_up_met table
begin_met (Some site) table = set_up_at_met table site.latitude site.longitude

-- from every set-up that is done, with every calls
pub run_met : (site : Option Site) (table : List ℕ) → (set_up_sent (rules.set_up bytes table (site_of site))).number ≡ 0
    → (cs : List Call) → Run site cs (backs_of (rules.set_up bytes table (site_of site)).table cs)
unfolding set_up_sent
run_met site table done cs =
    record {
      table = table;
      back = set_up_sent (rules.set_up bytes table (site_of site));
      begun = begin_met site table;
      done = done;
      ran = ran_met (rules.set_up bytes table (site_of site)).table cs;
    }

-- ---- with stamps

module _ {C : Type 0} (message : C → List ℕ) (stamp : C → ℕ) where
  -- of calls whose stamps have 32 bits
  abbrev pub Narrow : List C → Type 0
  Narrow [] = Unit {0}
  Narrow (c ∷ cs) = (stamp c < 2 ^ 32) × Narrow cs

  ran_stamps_met : (table state : List ℕ) (cs : List C) → Narrow cs → RanStamps message stamp table state cs (stamped_backs message stamp table state cs)
  ran_stamps_met table state [] n = stamps.RanStamps.stopped
  ran_stamps_met table state (c ∷ cs) n =
      let x = received_stamp table (message c) (stamp c) state in
      stamps.RanStamps.then n.0 (receive_stamp_met table (message c) (stamp c) state) (ran_stamps_met x.table x.sent.array cs n.1)

  pub run_stamps_met : (site : Option Site) (table : List ℕ) → (set_up_sent (rules.set_up bytes table (site_of site))).number ≡ 0
      → (cs : List C) → Narrow cs → RunStamps message stamp site cs (stamped_backs message stamp (rules.set_up bytes table (site_of site)).table (0 ∷ 0 ∷ []) cs)
  unfolding set_up_sent
  run_stamps_met site table done cs n =
      record {
        table = table;
        back = set_up_sent (rules.set_up bytes table (site_of site));
        begun = begin_met site table;
        done = done;
        ran = ran_stamps_met (rules.set_up bytes table (site_of site)).table (0 ∷ 0 ∷ []) cs n;
      }
