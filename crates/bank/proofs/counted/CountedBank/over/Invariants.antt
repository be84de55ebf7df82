use Rattle.std.proofs.Common.{◌≡◌, ℕ, ◌<◌, length, get_or}
use Rattle.bank.specs.Ports.{none}
use Rattle.bank.specs.Counted.{counts}
use Rattle.bank.proofs.counted.CountedBank.over.Given as goal

-- the ports below the next have their counts in the list
abbrev pub invariant-loop-port : goal.invariant-loop-port
invariant-loop-port g l = record {
  last : l.port-iterator.end ≡ 32;
  long : length l.counted ≡ 32;
  so_far : (p : ℕ) → p < l.port-iterator.next → get_or l.counted p (counts none) ≡ counts (g.B.GaugeBank.shows l.below p);
}
