-- The output formats: what each layout is, and its number. Assumes nothing.
use Rattle.std.specs.Prelude.{◌≡◌, ℕ, ◌+◌, ◌-◌, ◌≤◌, Bool, true, false, cond, List, length, ℤ, Some, None, Option, ◌==◌, nat_lt}
use Rattle.std.specs.Option.{option_map}
use Rattle.value.specs.Blocks.{value_bytes, block}
use Rattle.value.specs.Fitting.{Apart}
use Rattle.value.specs.Formats.{three_bytes, three_bytes_status, two_bytes, reversed, decimal, decimal_status, three_byte_limits, two_byte_limits, decimal_limits}
use Rattle.value.specs.declared.block.Ending.{Ending}
use Rattle.value.specs.declared.block.Ending.TheVariants.{Each, Once, Dropped}
use Rattle.value.specs.declared.block.Measured.{Measured}
use Rattle.value.specs.declared.limits.Limits.{Limits}
use Rattle.value.specs.declared.layout.Layout.{Layout}
use Rattle.value.specs.declared.layout.Layout.TheVariants.{ThreeBytes, ThreeBytesStatus, ThreeBytesReversed, ThreeBytesStatusReversed, TwoBytes, TwoBytesReversed, Decimal, DecimalStatus}
use Rattle.value.specs.declared.output.OutputFormat.{OutputFormat}

-- what a layout is: its number, its width, what the whole span shows where no nominal value is set, what fits, and the bytes
pub record Shape : Type 0 where
  pub number : ℕ
  pub wide : ℕ
  pub full : ℕ
  pub decimal : Bool
  pub limits : Limits
  pub bytes : ℕ → ℕ → ℤ → List ℕ

abbrev pub shape : Layout → Shape
shape ThreeBytes = record { number = 0; wide = 4; full = 5120000; decimal = false; limits = three_byte_limits; bytes = three_bytes }
shape ThreeBytesStatus = record { number = 8; wide = 4; full = 5120000; decimal = false; limits = three_byte_limits; bytes = three_bytes_status }
shape ThreeBytesReversed = record { number = 4; wide = 4; full = 5120000; decimal = false; limits = three_byte_limits; bytes = reversed three_bytes }
shape ThreeBytesStatusReversed = record { number = 12; wide = 4; full = 5120000; decimal = false; limits = three_byte_limits; bytes = reversed three_bytes_status }
shape TwoBytes = record { number = 2; wide = 2; full = 20000; decimal = false; limits = two_byte_limits; bytes = two_bytes }
shape TwoBytesReversed = record { number = 6; wide = 2; full = 20000; decimal = false; limits = two_byte_limits; bytes = reversed two_bytes }
shape Decimal = record { number = 3; wide = 8; full = 1000000; decimal = true; limits = decimal_limits; bytes = decimal }
shape DecimalStatus = record { number = 9; wide = 15; full = 1000000; decimal = true; limits = decimal_limits; bytes = decimal_status }

abbrev pub layout_numbered : ℕ → Option Layout
layout_numbered n =
    cond (n == 0) (Some ThreeBytes)
    (cond (n == 2) (Some TwoBytes)
    (cond (n == 3) (Some Decimal)
    (cond (n == 4) (Some ThreeBytesReversed)
    (cond (n == 6) (Some TwoBytesReversed)
    (cond (n == 8) (Some ThreeBytesStatus)
    (cond (n == 9) (Some DecimalStatus)
    (cond (n == 12) (Some ThreeBytesStatusReversed) None)))))))

-- the format with the layout of a number, CR LF kept or not
abbrev pub numbered : ℕ → Bool → Option OutputFormat
numbered n ended = option_map (λ l. record { layout = l; ended = ended }) (layout_numbered n)

-- the format of a number: its layout's own, or 32 more where CR LF is dropped
unfoldable pub numbered_format : ℕ → Option OutputFormat
numbered_format n = cond (nat_lt n 32) (numbered n true) (numbered (n - 32) false)

unfoldable pub format_number : OutputFormat → ℕ
format_number f = cond f.ended (shape f.layout).number ((shape f.layout).number + 32)

-- a number is read as a format exactly where it is the number of that format
abbrev pub Numbered : Type 0
Numbered =
    ((f : OutputFormat) → numbered_format (format_number f) ≡ Some f)
    × ((n : ℕ) (f : OutputFormat) → numbered_format n ≡ Some f → format_number f ≡ n)

-- what the whole span shows
abbrev pub full_shown : OutputFormat → ℕ → ℕ
full_shown f nominal = cond (nominal == 0) (shape f.layout).full nominal

-- decimal values each end with CR LF, a binary block ends with one, or it is dropped
abbrev pub ending_of : OutputFormat → Ending
ending_of f = cond f.ended (cond (shape f.layout).decimal Each Once) Dropped

-- a block of measured values in a format
unfoldable pub format_block : OutputFormat → ℕ → ℕ → List Measured → List ℕ
format_block f nominal address = block (ending_of f) (value_bytes (shape f.layout).limits (shape f.layout).bytes nominal address)

-- in every layout a value that fits shares its bytes with no other
abbrev pub LayoutsApart : Type 0
LayoutsApart = (l : Layout) → Apart (shape l).limits (shape l).bytes

-- a block of at most 64 values never exceeds 1,088 bytes
abbrev pub BlocksHaveRoom : Type 0
BlocksHaveRoom =
    (f : OutputFormat) (nominal address : ℕ) (ms : List Measured) → length ms ≤ 64 → length (format_block f nominal address ms) ≤ 1088
