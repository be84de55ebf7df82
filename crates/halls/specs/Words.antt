-- Where a text is parted, and the numbers that words write.
use Rattle.std.specs.Prelude.{◌≡◌, ℕ, ◌+◌, ◌-◌, ◌*◌, cond, List, [], ◌∷◌, take, drop, position, ℤ, pos, neg_ℤ, Some, None, Option, MatchOption, Ok, Err, Result, ◌==◌, nat_le}
use Rattle.std.specs.Borrow.{Bor}
use Rattle.std.specs.Option.{option_map}
use Rattle.std.specs.Char.{is_ascii_digit}

-- where b first stands
abbrev pub place_of : ℕ → List ℕ → Option ℕ
place_of b t = position (λ x. x == b) t

-- what stands before a place, and what behind it
abbrev pub parts_at : List ℕ → Option ℕ → Option (List ℕ × List ℕ)
parts_at t None = None
parts_at t (Some n) = Some (take n t, drop (n + 1) t)

-- parts of the caller's bytes, as the bytes that they hold
abbrev pub parts_seen : Option (Bor (List ℕ) × Bor (List ℕ)) → Option (List ℕ × List ℕ)
parts_seen None = None
parts_seen (Some p) = Some (p.0.now, p.1.now)

-- the number that the digits t write behind those of v
abbrev pub read_on : ℕ → List ℕ → Option ℕ
read_on v [] = Some v
read_on v (b ∷ t) = cond (is_ascii_digit b) (read_on (10 * v + (b - 48)) t) None

-- the number that one digit or more write
abbrev pub number_of : List ℕ → Option ℕ
number_of [] = None
number_of (b ∷ t) = read_on 0 (b ∷ t)

-- a number that is not too large for its field
abbrev pub limited : ℕ → Option ℕ → Option ℕ
limited m None = None
limited m (Some v) = cond (nat_le v m) (Some v) None

-- what a conversion makes of a number, where there is one
abbrev pub Fitting : {N E : Type 0} → (ℕ → Result N E → Type 0) → Option ℕ → Option N → Type 0
Fitting gives None r = r ≡ None
Fitting gives (Some v) r = MatchOption r ((e : _) × gives v (Err e)) (λ n. gives v (Ok n))

-- a number of 32 bits, with '-' (45) where it is negative
abbrev pub signed_of : List ℕ → Option ℤ
signed_of [] = None
signed_of (b ∷ t) = cond (b == 45) (option_map (λ n. neg_ℤ (pos n)) (limited 2147483648 (number_of t))) (option_map pos (limited 2147483647 (number_of (b ∷ t))))
