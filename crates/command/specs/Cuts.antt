-- Where one of two bytes stands first, and the command before the first end character. Assumes nothing.
use Rattle.std.specs.Prelude.{◌≡◌, ℕ, ◌+◌, Bool, true, false, cond, not, ◌||◌, List, ◌∷◌, ◌++◌, length, take, drop, Some, None, Ok, Err, Option, Result, ◌==◌, nat_lt}
use Rattle.std.specs.Borrow.{Bor}
use Rattle.std.specs.List.{prefix_len, AllByRecursion}
use Rattle.fault.specs.declared.causes.Cause.TheVariants.{NoEnd}
use Rattle.fault.specs.declared.faults.Fault.{Fault}
use Rattle.fault.specs.Faults.{refusal}

-- b is neither x nor y
abbrev pub other : ℕ → ℕ → ℕ → Bool
other x y b = not (b == x || b == y)

-- the place of the first byte that is x or y
unfoldable pub first_of : ℕ → ℕ → List ℕ → Option ℕ
first_of x y bs = cond (nat_lt (prefix_len (other x y) bs) (length bs)) (Some (prefix_len (other x y) bs)) None

-- a line feed and ';' end a command, every other byte is plain
abbrev pub plain : ℕ → Bool
plain b = other 10 59 b

-- a command and the bytes used with its end character; without one the refusal names the byte count
abbrev pub cut_at : List ℕ → Option ℕ → Result (List ℕ × ℕ) Fault
cut_at bs None = Err (refusal NoEnd (length bs))
cut_at bs (Some n) = Ok (take n bs, n + 1)

abbrev pub cut_of : List ℕ → Result (List ℕ × ℕ) Fault
cut_of bs = cut_at bs (first_of 10 59 bs)

-- a part of the caller's bytes, as the bytes it holds
abbrev pub seen : Result (Bor (List ℕ) × ℕ) Fault → Result (List ℕ × ℕ) Fault
seen (Ok p) = Ok (p.0.now, p.1)
seen (Err f) = Err f

-- The law of splitting: the command holds no end character, and joined with one and with the bytes not used it is
-- the input. Nothing is refused but bytes without an end character.
abbrev pub Cuts : List ℕ → Result (List ℕ × ℕ) Fault → Type 0
Cuts bs (Ok p) = AllByRecursion (λ b. plain b ≡ true) p.0 × ((b : ℕ) × (plain b ≡ false) × (bs ≡ p.0 ++ b ∷ drop p.1 bs)) × (p.1 ≡ length p.0 + 1)
Cuts bs (Err f) = AllByRecursion (λ b. plain b ≡ true) bs
