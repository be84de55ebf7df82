-- What a parameter's number is, for any bytes. Assumes nothing.
use Rattle.std.specs.Prelude.{ℕ, suc, ◌+◌, ◌-◌, ◌*◌, ◌/◌, ◌%◌, ◌^◌, min, Bool, true, false, cond, ◌&&◌, ◌||◌, List, length, take, drop, ℤ, pos, negsuc, neg_ℤ, Some, None, fold, Option, ◌==◌, nat_le, slice_index}
use Rattle.std.specs.Option.{option_map}
use Rattle.std.specs.Char.{is_ascii_digit}
use Rattle.std.specs.List.{prefix_len}
use Rattle.command.specs.declared.decimal.Numeral.{Numeral}

-- one digit more
abbrev pub more : ℕ → ℕ → ℕ
more v b = 10 * v + (b - 48)

-- the digits that t begins with, and what follows them
abbrev pub front : List ℕ → List ℕ
front t = take (prefix_len is_ascii_digit t) t

abbrev pub back : List ℕ → List ℕ
back t = drop (prefix_len is_ascii_digit t) t

-- digits m, of which so many stand behind the point, times ten to the power e
abbrev pub numeral : Bool → ℕ → ℕ → ℕ → Numeral
numeral minus m places e = record { minus = minus; digits = m; places = places; exponent = e }

-- one or two digits and nothing else
abbrev pub short : List ℕ → Bool
short t = prefix_len is_ascii_digit t == length t && (length t == 1 || length t == 2)

abbrev pub power_of : List ℕ → Option ℕ
power_of t = cond (short t) (Some (fold more 0 t)) None

-- what stands behind the digits: nothing, or an exponent
abbrev pub powered : Bool → ℕ → ℕ → List ℕ → Option Numeral
powered minus m places t =
    cond (slice_index t 0 == 101 || slice_index t 0 == 69) (option_map (numeral minus m places) (power_of (drop 1 t)))
    (cond (length t == 0) (Some (numeral minus m places 0)) None)

-- the digits behind the point, at least one
abbrev pub pointed : Bool → ℕ → List ℕ → Option Numeral
pointed minus m t = cond (prefix_len is_ascii_digit t == 0) None (powered minus (fold more m (front t)) (prefix_len is_ascii_digit t) (back t))

-- behind the first digits: a point with digits, or none
abbrev pub fraction : Bool → ℕ → List ℕ → Option Numeral
fraction minus m t = cond (slice_index t 0 == 46) (pointed minus m (drop 1 t)) (powered minus m 0 t)

-- a digit straight behind the sign is needed
unfoldable pub unsigned : Bool → List ℕ → Option Numeral
unsigned minus t = cond (prefix_len is_ascii_digit t == 0) None (fraction minus (fold more 0 (front t)) (back t))

abbrev pub signed : List ℕ → Option Numeral
signed t =
    cond (slice_index t 0 == 45) (unsigned true (drop 1 t)) (cond (slice_index t 0 == 43) (unsigned false (drop 1 t)) (unsigned false t))

-- a numeral has at most ten bytes
abbrev pub numeral_of : List ℕ → Option Numeral
numeral_of t = cond (nat_le (length t) 10) (signed t) None

abbrev pub sign : Bool → ℕ → ℤ
sign true n = neg_ℤ (pos n)
sign false n = pos n

-- the exact value of digits * 10^e / 10^places, where that is whole
abbrev pub size : ℕ → ℕ → ℕ → Option ℕ
size m places e = cond (m * 10 ^ e % 10 ^ places == 0) (Some (m * 10 ^ e / 10 ^ places)) None

abbrev pub exact : Numeral → Option ℤ
exact n = option_map (sign n.minus) (size n.digits n.places n.exponent)

abbrev pub exactly : Option Numeral → Option ℤ
exactly None = None
exactly (Some n) = exact n

-- the whole number that bytes write, if they write one
abbrev pub number_of : List ℕ → Option ℤ
number_of t = exactly (numeral_of t)

-- past a million million a number is answered as that
abbrev pub capped : ℕ → ℕ
capped n = min n 1000000000000

abbrev pub clamped : ℤ → ℤ
clamped (pos n) = pos (capped n)
clamped (negsuc n) = neg_ℤ (pos (capped (suc n)))
