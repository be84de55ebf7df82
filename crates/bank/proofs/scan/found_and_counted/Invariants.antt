use Rattle.std.proofs.Common.{◌≡◌, length}
use Rattle.bank.proofs.Recorded.{Counted}
use Rattle.bank.proofs.scan.found_and_counted.Given as goal

abbrev pub invariant-loop-i : goal.invariant-loop-i
invariant-loop-i l = (length l.cursors ≡ 32) × Counted l.records l.cursors l.i
