use Rattle.std.proofs.Common.{◌-◌, length}
use Rattle.terminal.specs.Buses.{bus}
use Rattle.terminal.proofs.Turns.{Going}
use Rattle.terminal.proofs.terminal.Terminal.serve.Given as goal

abbrev pub invariant-loop-stopped : goal.invariant-loop-stopped
invariant-loop-stopped g l = Going (bus g.B.GaugeBank.shows l.initial.self) l.run l.initial.answers (bus g.B.GaugeBank.shows l.self) l.used l.answers l.written

abbrev pub decreases-loop-stopped : goal.decreases-loop-stopped
decreases-loop-stopped g l = length l.run - l.used
