-- How a number is written, and the law that the reader finds its exact value. Assumes nothing.
use Rattle.std.specs.Prelude.{◌≡◌, ℕ, ◌*◌, ◌^◌, ◌<◌, ◌≤◌, Bool, true, false, ◌||◌, List, [], ◌∷◌, ◌++◌, length, ℤ, Some, None, fold, Option, ◌==◌}
use Rattle.std.specs.Char.{is_ascii_digit}
use Rattle.std.specs.List.{AllByRecursion}
use Rattle.command.specs.Numbers.{more, sign, number_of}

pub data Sign : Type 0 where
  none : Sign
  plus : Sign
  minus : Sign

-- a sign, digits, digits behind a point, and a power of ten by its letter and its digits
pub record Writing : Type 0 where
  pub sign : Sign
  pub whole : List ℕ
  pub decimals : List ℕ
  pub power : Option (ℕ × List ℕ)

abbrev pub sign_bytes : Sign → List ℕ
sign_bytes none = []
sign_bytes plus = 43 ∷ []
sign_bytes minus = 45 ∷ []

-- without decimals there is no point
abbrev pub point_bytes : List ℕ → List ℕ
point_bytes [] = []
point_bytes (d ∷ ds) = 46 ∷ d ∷ ds

abbrev pub power_bytes : Option (ℕ × List ℕ) → List ℕ
power_bytes None = []
power_bytes (Some e) = e.0 ∷ e.1

-- the bytes of a number
abbrev pub written : Writing → List ℕ
written w = sign_bytes w.sign ++ (w.whole ++ (point_bytes w.decimals ++ power_bytes w.power))

abbrev pub Digits : List ℕ → Type 0
Digits ds = AllByRecursion (λ b. is_ascii_digit b ≡ true) ds

-- e or E, and one or two digits
abbrev pub Power : Option (ℕ × List ℕ) → Type 0
Power None = Unit {0}
Power (Some e) = ((e.0 == 101 || e.0 == 69) ≡ true) × Digits e.1 × (1 ≤ length e.1) × (length e.1 ≤ 2)

-- the form of a number: at least one digit before the point, and ten bytes at most
pub record Formed (w : Writing) : Type 0 where
  pub some : 0 < length w.whole
  pub before : Digits w.whole
  pub behind : Digits w.decimals
  pub powered : Power w.power
  pub short : length (written w) ≤ 10

abbrev pub negative : Sign → Bool
negative none = false
negative plus = false
negative minus = true

-- the number that digits write, and the power of ten
abbrev pub value : List ℕ → ℕ
value ds = fold more 0 ds

abbrev pub exponent_of : Option (ℕ × List ℕ) → ℕ
exponent_of None = 0
exponent_of (Some e) = value e.1

-- z is the value of the bytes: they have the form of a number, and its size is exactly digits * 10^exponent / 10^places
abbrev pub Means : List ℕ → ℤ → Type 0
Means t z =
    (w : Writing) × Formed w × (written w ≡ t)
    × ((n : ℕ) × (n * 10 ^ length w.decimals ≡ value (w.whole ++ w.decimals) * 10 ^ exponent_of w.power) × (z ≡ sign (negative w.sign) n))

-- The law: a number is read exactly where the bytes have the form and a whole value, and then it is that value.
abbrev pub ExactValue : List ℕ → Type 0
ExactValue t = (z : ℤ) → (number_of t ≡ Some z → Means t z) × (Means t z → number_of t ≡ Some z)
