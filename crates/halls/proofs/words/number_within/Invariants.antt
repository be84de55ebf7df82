use Rattle.std.proofs.Common.{◌≡◌, ◌≤◌, drop}
use Rattle.halls.specs.Words.{read_on, limited}
use Rattle.halls.proofs.words.number_within.Given as goal

abbrev pub invariant-loop-byte : goal.invariant-loop-byte
invariant-loop-byte l = (limited l.most (read_on l.value (drop l.byte-index l.word)) ≡ limited l.most (read_on 0 l.word)) × (l.value ≤ l.most)
