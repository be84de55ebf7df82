-- A number that stands for something, or for nothing. Assumes nothing.
use Rattle.std.specs.Prelude.{ℕ, List, ◌++◌, Option, Result, codes, ok_or}
use Rattle.std.specs.Fmt.{decimal}
use Rattle.value.specs.declared.unknown.UnknownNumber.{UnknownNumber}

-- what a number stands for, or an error with that number
abbrev pub known : {T : Type 0} → ℕ → Option T → Result T UnknownNumber
known n o = ok_or o (record { 0 = n })

-- that error as it is printed
abbrev pub unknown_text : UnknownNumber → List ℕ
unknown_text e = codes "nothing has the number " ++ decimal e.0
