-- The bytes of each format, from the address, the status and the indicated value. Assumes nothing.
use Rattle.std.specs.Prelude.{ℕ, Bool, cond, List, [], ◌∷◌, ◌++◌, reverse, ℤ, pos, negsuc}
use Rattle.value.specs.Figures.{complement, digits, signed}
use Rattle.value.specs.declared.limits.Limits.{Limits}

-- three bytes, and the status or else a zero
abbrev pub three_bytes_and : Bool → ℕ → ℕ → ℤ → List ℕ
three_bytes_and shown address status v = complement 3 v ++ (cond shown status 0 ∷ [])

-- three bytes and a zero
abbrev pub three_bytes : ℕ → ℕ → ℤ → List ℕ
three_bytes address status v = complement 3 v ++ (0 ∷ [])

-- three bytes and the status
abbrev pub three_bytes_status : ℕ → ℕ → ℤ → List ℕ
three_bytes_status address status v = complement 3 v ++ (status ∷ [])

abbrev pub two_bytes : ℕ → ℕ → ℤ → List ℕ
two_bytes address status v = complement 2 v

-- the bytes of a format, the last one first
abbrev pub reversed : (ℕ → ℕ → ℤ → List ℕ) → ℕ → ℕ → ℤ → List ℕ
reversed f address status v = reverse (f address status v)

-- the sign and seven digits
abbrev pub decimal : ℕ → ℕ → ℤ → List ℕ
decimal address status v = signed 7 v

-- those, a comma, the address in two digits, a comma and the status in three
abbrev pub decimal_status : ℕ → ℕ → ℤ → List ℕ
decimal_status address status v = signed 7 v ++ (44 ∷ digits 2 address ++ (44 ∷ digits 3 status))

-- the overflow values: 7FFFFFh and 800000h; 7FFFh and 8000h, and nothing fits above a nominal value of 30,000; +1638400 and -1638400
abbrev pub three_byte_limits : Limits
three_byte_limits = record { lower = negsuc 8388607; upper = pos 8388607; ceiling = 4294967295 }

abbrev pub two_byte_limits : Limits
two_byte_limits = record { lower = negsuc 32767; upper = pos 32767; ceiling = 30000 }

abbrev pub decimal_limits : Limits
decimal_limits = record { lower = negsuc 1638399; upper = pos 1638400; ceiling = 4294967295 }
