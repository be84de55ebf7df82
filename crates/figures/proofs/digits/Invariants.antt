use Rattle.std.proofs.Common.{◌≡◌, ◌-◌, ◌/◌, ◌^◌, ◌≤◌, drop}
use Rattle.figures.specs.Figures.{digits}
use Rattle.figures.proofs.digits.Given as goal

abbrev pub invariant-loop-left : goal.invariant-loop-left
invariant-loop-left g l = record {
  inside : l.left ≤ g.row.N;
  rest : l.rest ≡ l.n / 10 ^ (g.row.N - l.left);
  done : drop l.left l.places ≡ digits (g.row.N - l.left) l.n;
}

abbrev pub decreases-loop-left : goal.decreases-loop-left
decreases-loop-left g l = l.left
