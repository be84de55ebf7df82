-- Measured values one after another. Assumes nothing.
use Rattle.std.specs.Prelude.{ℕ, List, [], ◌++◌, ℤ}
use Rattle.std.specs.List.{flat_map}
use Rattle.value.specs.Fitting.{indicated}
use Rattle.value.specs.Written.{crlf}
use Rattle.value.specs.declared.block.Ending.{Ending}
use Rattle.value.specs.declared.block.Ending.TheVariants.{Each, Once, Dropped}
use Rattle.value.specs.declared.block.Measured.{Measured}
use Rattle.value.specs.declared.limits.Limits.{Limits}

-- the bytes of one measured value, in the format with these limits and bytes
abbrev pub value_bytes : Limits → (ℕ → ℕ → ℤ → List ℕ) → ℕ → ℕ → Measured → List ℕ
value_bytes l f nominal address m = f address m.status (indicated l nominal m.value)

-- what stands after each value
abbrev pub each_end : Ending → List ℕ
each_end Each = crlf
each_end Once = []
each_end Dropped = []

-- what stands after the last value
abbrev pub last_end : Ending → List ℕ
last_end Each = []
last_end Once = crlf
last_end Dropped = []

-- the values one after another, each as f gives its bytes
abbrev pub block : Ending → (Measured → List ℕ) → List Measured → List ℕ
block e f ms = flat_map (λ m. f m ++ each_end e) ms ++ last_end e
