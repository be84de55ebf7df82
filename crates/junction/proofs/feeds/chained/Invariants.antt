use Rattle.std.proofs.Common.{◌≡◌, length}
use Rattle.junction.specs.Feeding.{fed}
use Rattle.junction.specs.Chains.{mapped}
use Rattle.junction.proofs.Chaining.{ChainedFrom}
use Rattle.junction.proofs.feeds.chained.Given as goal

-- the ports that were passed stand in their chains
abbrev pub invariant-loop-below : goal.invariant-loop-below
invariant-loop-below l = record {
  long : length l.first ≡ 32;
  wide : length l.next ≡ 32;
  lowest : l.below-iterator.iter.next ≡ 0;
  so_far : ChainedFrom (fed (mapped l.joined)) l.first l.next l.below-iterator.iter.end;
}
