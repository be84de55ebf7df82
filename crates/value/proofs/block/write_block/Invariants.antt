use Rattle.std.proofs.Common.{◌+◌, ◌++◌, length}
use Rattle.value.specs.Blocks.{value_bytes}
use Rattle.value.proofs.Filled.{Block}
use Rattle.value.proofs.block.write_block.Given as goal

abbrev pub invariant-loop-m : goal.invariant-loop-m
invariant-loop-m g l =
    Block
    (λ m. value_bytes g.F.ValueFormat.LIMITS g.F.ValueFormat.bytes l.nominal l.address m ++ l.each)
    (g.F.ValueFormat.WIDTH + length l.each)
    l.values
    l.initial.out
    l.m-index
    l.n
    l.out
