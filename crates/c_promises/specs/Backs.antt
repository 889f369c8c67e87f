-- RULES 20.1: what the calls of a run give back, by the definitions that their contracts cite: so that examples can be computed.
use Rattle.std.specs.Prelude.{ℕ, List, [], ◌∷◌}
use Rattle.entries.specs.Sent.{Sent}
use Rattle.table.specs.Table.{received}
use Rattle.isolation.specs.Runs.{Call}
use Rattle.addercoil.specs.Blocks.{Both}
use Rattle.addercoil.specs.Stamps.{received_stamp}
use Rattle.addercoil.specs.Tables.{received_sent}

-- calls of addercoil_receive, from a table on
abbrev pub backs_of : List ℕ → List Call → List Sent
backs_of table [] = []
backs_of table (c ∷ cs) = received_sent (received table c.message c.time) ∷ backs_of (received table c.message c.time).table cs

-- calls of addercoil_receive_stamp, from a table and a state on
abbrev pub stamped_backs : {C : Type 0} (message : C → List ℕ) (stamp : C → ℕ) → List ℕ → List ℕ → List C → List Both
stamped_backs message stamp table state [] = []
stamped_backs message stamp table state (c ∷ cs) =
    let x = received_stamp table (message c) (stamp c) state in
    x ∷ stamped_backs message stamp x.table x.sent.array cs
