-- RULES 20.1: calls from C that met their contracts: what was lent and given, the number that came back, and what the lent array holds afterwards (`Sent`). If a call changes a table, that array is the table.
use Rattle.std.specs.Prelude.{ℕ, ◌≡◌, List, ℤ, Float}
use contract.Lifetimes.{Lfts}
use denote.Triple.Clauses.{AtExit}
use borrow.Fn.Kinds.{Dens, ended_of}
use Rattle.entries.specs.Sent.{Sent}
use Rattle.addercoil.specs.Blocks.{Both}
use Rattle.addercoil.specs.Figures.{Plotted}
use Rattle.addercoil.proofs.tables.addercoil_set_up.Kinds as set-up-kinds
use Rattle.addercoil.proofs.tables.addercoil_set_up.Reads as set-up
use Rattle.addercoil.proofs.tables.addercoil_set_up_at.Kinds as set-up-at-kinds
use Rattle.addercoil.proofs.tables.addercoil_set_up_at.Reads as set-up-at
use Rattle.addercoil.proofs.tables.addercoil_receive.Kinds as receive-kinds
use Rattle.addercoil.proofs.tables.addercoil_receive.Reads as receive
use Rattle.addercoil.proofs.tables.addercoil_clock.Kinds as clock-kinds
use Rattle.addercoil.proofs.tables.addercoil_clock.Reads as clock
use Rattle.addercoil.proofs.numbers.addercoil_decode.Kinds as decode-kinds
use Rattle.addercoil.proofs.numbers.addercoil_decode.Reads as decode
use Rattle.addercoil.proofs.stamped.addercoil_receive_stamp.Kinds as receive-stamp-kinds
use Rattle.addercoil.proofs.stamped.addercoil_receive_stamp.Reads as receive-stamp
use Rattle.addercoil.proofs.figures.addercoil_degrees.Kinds as degrees-kinds
use Rattle.addercoil.proofs.figures.addercoil_degrees.Reads as degrees
use Rattle.addercoil.proofs.figures.addercoil_from_degrees.Kinds as from-degrees-kinds
use Rattle.addercoil.proofs.figures.addercoil_from_degrees.Reads as from-degrees
use Rattle.audit.proofs.replays.addercoil_replay.Kinds as replay-kinds
use Rattle.audit.proofs.replays.addercoil_replay.Reads as replay
use Rattle.audit.proofs.replays.addercoil_replay_at.Kinds as replay-at-kinds
use Rattle.audit.proofs.replays.addercoil_replay_at.Reads as replay-at
use Rattle.audit.proofs.replays.addercoil_replay_coarse.Kinds as replay-coarse-kinds
use Rattle.audit.proofs.replays.addercoil_replay_coarse.Reads as replay-coarse
use Rattle.display.proofs.tracks.addercoil_look_up.Kinds as look-up-kinds
use Rattle.display.proofs.tracks.addercoil_look_up.Reads as look-up

-- addercoil_set_up(table, ..) returned back.number, and the table is back.array afterwards
pub record SetUp (table : List ℕ) (back : Sent) : Type 0 where
  pub κs : Lfts 1
  pub args : Dens κs set-up-kinds.ps
  pub left : AtExit (ended_of 1 set-up-kinds.ps set-up-kinds.r) κs
  pub lent : args.0.now ≡ table
  pub leaves : left.0.now ≡ back.array
  pub meets : set-up.Post κs args back.number left

-- addercoil_set_up_at(table, .., latitude, longitude)
pub record SetUpAt (table : List ℕ) (latitude : ℤ) (longitude : ℕ) (back : Sent) : Type 0 where
  pub κs : Lfts 1
  pub args : Dens κs set-up-at-kinds.ps
  pub left : AtExit (ended_of 1 set-up-at-kinds.ps set-up-at-kinds.r) κs
  pub lent : args.0.now ≡ table
  pub north : args.1.0 ≡ latitude
  pub east : args.1.1.0 ≡ longitude
  pub leaves : left.0.now ≡ back.array
  pub meets : set-up-at.Post κs args back.number left

-- addercoil_receive(table, .., message, .., time)
pub record Receive (table message : List ℕ) (time : ℕ) (back : Sent) : Type 0 where
  pub κs : Lfts 2
  pub args : Dens κs receive-kinds.ps
  pub left : AtExit (ended_of 2 receive-kinds.ps receive-kinds.r) κs
  pub lent : args.0.now ≡ table
  pub brings : args.1.0.now ≡ message
  pub at : args.1.1.0 ≡ time
  pub leaves : left.0.now ≡ back.array
  pub meets : receive.Post κs args back.number left

-- addercoil_look_up(table, .., key, track, ..): what is written is back.array
pub record LookUp (table : List ℕ) (key : ℕ) (track : List ℕ) (back : Sent) : Type 0 where
  pub κs : Lfts 2
  pub args : Dens κs look-up-kinds.ps
  pub left : AtExit (ended_of 2 look-up-kinds.ps look-up-kinds.r) κs
  pub lent : args.0.now ≡ table
  pub asks : args.1.0 ≡ key
  pub into : args.1.1.0.now ≡ track
  pub leaves : left.1.1.0.now ≡ back.array
  pub meets : look-up.Post κs args back.number left

-- addercoil_clock(table, .., out, ..)
pub record Clock (table out : List ℕ) (back : Sent) : Type 0 where
  pub κs : Lfts 2
  pub args : Dens κs clock-kinds.ps
  pub left : AtExit (ended_of 2 clock-kinds.ps clock-kinds.r) κs
  pub lent : args.0.now ≡ table
  pub into : args.1.0.now ≡ out
  pub leaves : left.1.0.now ≡ back.array
  pub meets : clock.Post κs args back.number left

-- addercoil_decode(message, .., fields, ..)
pub record Decode (message fields : List ℕ) (back : Sent) : Type 0 where
  pub κs : Lfts 2
  pub args : Dens κs decode-kinds.ps
  pub left : AtExit (ended_of 2 decode-kinds.ps decode-kinds.r) κs
  pub brings : args.0.now ≡ message
  pub into : args.1.0.now ≡ fields
  pub leaves : left.1.0.now ≡ back.array
  pub meets : decode.Post κs args back.number left

-- addercoil_replay(log, .., kind, address, track, ..)
pub record Replay (log : List ℕ) (kind address : ℕ) (track : List ℕ) (back : Sent) : Type 0 where
  pub κs : Lfts 2
  pub args : Dens κs replay-kinds.ps
  pub left : AtExit (ended_of 2 replay-kinds.ps replay-kinds.r) κs
  pub lent : args.0.now ≡ log
  pub its_kind : args.1.0 ≡ kind
  pub its_address : args.1.1.0 ≡ address
  pub into : args.1.1.1.0.now ≡ track
  pub leaves : left.1.1.1.0.now ≡ back.array
  pub meets : replay.Post κs args back.number left

-- addercoil_replay_at(log, .., kind, address, latitude, longitude, track, ..)
pub record ReplayAt (log : List ℕ) (kind address : ℕ) (latitude : ℤ) (longitude : ℕ) (track : List ℕ) (back : Sent) : Type 0 where
  pub κs : Lfts 2
  pub args : Dens κs replay-at-kinds.ps
  pub left : AtExit (ended_of 2 replay-at-kinds.ps replay-at-kinds.r) κs
  pub lent : args.0.now ≡ log
  pub its_kind : args.1.0 ≡ kind
  pub its_address : args.1.1.0 ≡ address
  pub north : args.1.1.1.0 ≡ latitude
  pub east : args.1.1.1.1.0 ≡ longitude
  pub into : args.1.1.1.1.1.0.now ≡ track
  pub leaves : left.1.1.1.1.1.0.now ≡ back.array
  pub meets : replay-at.Post κs args back.number left

-- addercoil_replay_coarse(log, .., address, flag, station, track, ..)
pub record ReplayCoarse (log : List ℕ) (address flag station : ℕ) (track : List ℕ) (back : Sent) : Type 0 where
  pub κs : Lfts 2
  pub args : Dens κs replay-coarse-kinds.ps
  pub left : AtExit (ended_of 2 replay-coarse-kinds.ps replay-coarse-kinds.r) κs
  pub lent : args.0.now ≡ log
  pub its_address : args.1.0 ≡ address
  pub its_flag : args.1.1.0 ≡ flag
  pub its_station : args.1.1.1.0 ≡ station
  pub into : args.1.1.1.1.0.now ≡ track
  pub leaves : left.1.1.1.1.0.now ≡ back.array
  pub meets : replay-coarse.Post κs args back.number left

-- addercoil_receive_stamp(table, .., message, .., stamp, state, ..): `back.table` is the table afterwards, and `back.sent` the number and the state
pub record ReceiveStamp (table message : List ℕ) (stamp : ℕ) (state : List ℕ) (back : Both) : Type 0 where
  pub κs : Lfts 3
  pub args : Dens κs receive-stamp-kinds.ps
  pub left : AtExit (ended_of 3 receive-stamp-kinds.ps receive-stamp-kinds.r) κs
  pub lent : args.0.now ≡ table
  pub brings : args.1.0.now ≡ message
  pub at : args.1.1.0 ≡ stamp
  pub from : args.1.1.1.0.now ≡ state
  pub leaves_table : left.0.now ≡ back.table
  pub leaves_state : left.1.1.1.0.now ≡ back.sent.array
  pub meets : receive-stamp.Post κs args back.sent.number left

-- addercoil_degrees(latitude, longitude, out, ..): the array has doubles
pub record InDegrees (latitude : ℤ) (longitude : ℕ) (out : List Float) (back : Plotted) : Type 0 where
  pub κs : Lfts 1
  pub args : Dens κs degrees-kinds.ps
  pub left : AtExit (ended_of 1 degrees-kinds.ps degrees-kinds.r) κs
  pub north : args.0 ≡ latitude
  pub east : args.1.0 ≡ longitude
  pub into : args.1.1.0.now ≡ out
  pub leaves : left.1.1.0.now ≡ back.array
  pub meets : degrees.Post κs args back.number left

-- addercoil_from_degrees(latitude, longitude, out, ..)
pub record FromDegrees (latitude longitude : Float) (out : List ℕ) (back : Sent) : Type 0 where
  pub κs : Lfts 1
  pub args : Dens κs from-degrees-kinds.ps
  pub left : AtExit (ended_of 1 from-degrees-kinds.ps from-degrees-kinds.r) κs
  pub north : args.0 ≡ latitude
  pub east : args.1.0 ≡ longitude
  pub into : args.1.1.0.now ≡ out
  pub leaves : left.1.1.0.now ≡ back.array
  pub meets : from-degrees.Post κs args back.number left
