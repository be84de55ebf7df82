-- The laws of every output format. Assumes nothing.
use Rattle.std.proofs.Common.{◌≡◌, ℕ, ◌+◌, ◌*◌, ◌≤◌, length, ℤ, refl, arith}
use Rattle.std.proofs.lemmas.Nat.{mul-le}
use Rattle.std.proofs.lemmas.List.{length-reverse}
use Rattle.value.specs.Blocks.{value_bytes, each_end, last_end}
use Rattle.value.specs.Fitting.{indicated}
use Rattle.value.specs.Formats.{three_bytes, three_bytes_status, two_bytes, three_byte_limits, two_byte_limits}
use Rattle.value.specs.Output.{shape, ending_of, format_block, LayoutsApart, BlocksHaveRoom}
use Rattle.value.specs.declared.block.Ending.{Ending}
use Rattle.value.specs.declared.block.Ending.TheVariants.{Each, Once, Dropped}
use Rattle.value.specs.declared.layout.Layout.{Layout}
use Rattle.value.specs.declared.layout.Layout.TheVariants.{ThreeBytes, ThreeBytesStatus, ThreeBytesReversed, ThreeBytesStatusReversed, TwoBytes, TwoBytesReversed, Decimal, DecimalStatus}
use Rattle.value.specs.Apart.{three_bytes_apart, three_bytes_status_apart, two_bytes_apart, decimal_apart, decimal_status_apart, reversed_apart}
use Rattle.value.proofs.Sizes.{length_block}

pub layouts_apart : LayoutsApart
layouts_apart ThreeBytes = three_bytes_apart
layouts_apart ThreeBytesStatus = three_bytes_status_apart
layouts_apart ThreeBytesReversed = reversed_apart three_byte_limits three_bytes three_bytes_apart
layouts_apart ThreeBytesStatusReversed = reversed_apart three_byte_limits three_bytes_status three_bytes_status_apart
layouts_apart TwoBytes = two_bytes_apart
layouts_apart TwoBytesReversed = reversed_apart two_byte_limits two_bytes two_bytes_apart
layouts_apart Decimal = decimal_apart
layouts_apart DecimalStatus = decimal_status_apart

long : (l : Layout) (a s : ℕ) (v : ℤ) → length ((shape l).bytes a s v) ≡ (shape l).wide
long ThreeBytes a s v = refl
long ThreeBytesStatus a s v = refl
long ThreeBytesReversed a s v = length-reverse (three_bytes a s v)
long ThreeBytesStatusReversed a s v = length-reverse (three_bytes_status a s v)
long TwoBytes a s v = refl
long TwoBytesReversed a s v = length-reverse (two_bytes a s v)
long Decimal a s v = refl
long DecimalStatus a s v = refl

narrow : (l : Layout) → (shape l).wide ≤ 15
narrow l = grind arith

-- at most 64 values of at most 15 bytes
capped : (e : Ending) (n w : ℕ) → n ≤ 64 → w ≤ 15 → n * (w + length (each_end e)) + length (last_end e) ≤ 1088
capped Each n w h k = omega (arith, mul-le n (w + 2) 64 17 h (omega arith))
capped Once n w h k = omega (arith, mul-le n (w + 0) 64 15 h (omega arith))
capped Dropped n w h k = omega (arith, mul-le n (w + 0) 64 15 h (omega arith))

pub blocks_have_room : BlocksHaveRoom
unfolding format_block
blocks_have_room f nominal address ms h =
    let l = f.layout in
    let size = length_block (value_bytes (shape l).limits (shape l).bytes nominal address) (shape l).wide (λ m. long l address m.status (indicated (shape l).limits nominal m.value)) (ending_of f) ms in
    omega (arith, size, capped (ending_of f) (length ms) (shape l).wide h (narrow l))
