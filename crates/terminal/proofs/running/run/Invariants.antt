use Rattle.std.proofs.Common.{◌≡◌, ◌++◌, map, take, drop}
use Rattle.terminal.specs.Buses.{bus}
use Rattle.terminal.specs.Calls.{ask_of, settled, closing}
use Rattle.terminal.proofs.running.run.Given as goal

-- the exchanges that are settled and what is left to call give all of them settled, and the end
abbrev pub invariant-loop-exchange : goal.invariant-loop-exchange
invariant-loop-exchange g l =
    (closing (bus g.B.GaugeBank.shows l.terminal) (map ask_of (drop l.exchange-index l.exchanges)) ≡ closing (bus g.B.GaugeBank.shows l.initial.terminal) (map ask_of l.initial.exchanges))
    × (take l.exchange-index l.exchanges ++ settled (bus g.B.GaugeBank.shows l.terminal) (drop l.exchange-index l.exchanges) ≡ settled (bus g.B.GaugeBank.shows l.initial.terminal) l.initial.exchanges)
