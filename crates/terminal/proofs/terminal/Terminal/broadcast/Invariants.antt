use Rattle.std.proofs.Common.{◌≡◌}
use Rattle.terminal.specs.Buses.{bus}
use Rattle.terminal.proofs.Telling.{swept}
use Rattle.terminal.proofs.terminal.Terminal.broadcast.Given as goal

-- the scales before the next have heard the broadcast
abbrev pub invariant-loop-address : goal.invariant-loop-address
invariant-loop-address g l = record {
  last : l.address-iterator.end ≡ 32;
  so_far : bus g.B.GaugeBank.shows l.self ≡ swept l.address-iterator.next (bus g.B.GaugeBank.shows l.initial.self) l.heard;
}
