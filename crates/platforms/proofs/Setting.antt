-- Five dials fitted and set one after another.
use Rattle.std.proofs.Common.{◌≡◌, ℕ, zero, suc, ◌+◌, ◌-◌, ◌<◌, ◌&&◌, get_or, pos, Some, None, Option, cond, nat_le, slice_index_or, SFits, w32, rules, arith}
use Rattle.std.proofs.lemmas.Bool.Decides.{nat_tests}
use Rattle.std.proofs.lemmas.Grind.{common_steps}
use Rattle.bank.specs.Dials.{Setting, set_at, still_at, dialled}
use Rattle.bank.specs.Gauges.{fits, fit_at}
use Rattle.platforms.specs.Halls.{digits, dials_at}

-- the gauges of the first n dials, and what these are set to
abbrev pub gauges_to : ℕ → ℕ → Option ℕ
gauges_to n p = cond (nat_le 1 p && nat_le p n) (Some 1000) None

abbrev pub settings_to : ℕ → ℕ → Setting
settings_to n p = cond (nat_le 1 p && nat_le p n) (record { digits = slice_index_or digits (p - 1) (pos 0); conversions = 100 }) (record { digits = pos 0; conversions = 0 })

none_at : (k : ℕ) → fits k ≡ gauges_to 0 k
none_at k = grind (arith, nat_tests)

pub none_fitted : fits ≡ gauges_to 0
none_fitted = λ i. λ k. none_at k i

one_at : (n k : ℕ) → n < 31 → fit_at (gauges_to n) (n + 1) 1000 k ≡ gauges_to (n + 1) k
one_at n k h = grind (arith, nat_tests, common_steps)

pub one_fitted : (n : ℕ) → n < 31 → fit_at (gauges_to n) (n + 1) 1000 ≡ gauges_to (n + 1)
one_fitted n h = λ i. λ k. one_at n k h i

still_before : (k : ℕ) → still_at k ≡ settings_to 0 k
still_before k = grind (arith, nat_tests)

pub none_set : still_at ≡ settings_to 0
none_set = λ i. λ k. still_before k i

set_more : (n k : ℕ) → n < 31 → set_at (settings_to n) (n + 1) (record { digits = get_or digits n (pos 0); conversions = 100 }) k ≡ settings_to (n + 1) k
set_more n k h = grind (arith, nat_tests, common_steps)

pub one_set : (n : ℕ) → n < 31 → set_at (settings_to n) (n + 1) (record { digits = get_or digits n (pos 0); conversions = 100 }) ≡ settings_to (n + 1)
one_set n h = λ i. λ k. set_more n k h i

pub digits_fit : (n : ℕ) → SFits w32 (get_or digits n (pos 0))
digits_fit zero = search rules
digits_fit (suc zero) = search rules
digits_fit (suc (suc zero)) = search rules
digits_fit (suc (suc (suc zero))) = search rules
digits_fit (suc (suc (suc (suc zero)))) = search rules
digits_fit (suc (suc (suc (suc (suc n))))) = search rules

whole_at : (p : ℕ) → dialled (gauges_to 5) (settings_to 5) p ≡ dials_at digits p
whole_at p = grind (arith, nat_tests, common_steps)

-- what a dial without a gauge is set to does not show
pub whole_set : dialled (gauges_to 5) (settings_to 5) ≡ dials_at digits
whole_set = λ i. λ p. whole_at p i
