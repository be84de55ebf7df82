-- The nearest whole number to a quotient: that it is one, and the only one. Assumes nothing.
use Rattle.std.proofs.Common.{◌≡◌, ℕ, zero, suc, ◌+◌, ◌-◌, ◌*◌, ◌/◌, ◌%◌, ◌<◌, ◌≤◌, ◌⊎◌, min, ℤ, pos, negsuc, ◌+ℤ◌, ◌-ℤ◌, ◌*ℤ◌, neg_ℤ, nat_abs, ◌≤ℤ◌, ◌<ℤ◌, sym, refl, ap, ◌∙◌, inl, inr, ⊎_elim, mul_assoc, suc-mul, mul_comm, zero-mul, div-le_self, arith, SFits}
use native.Mathlib.Nat.{div-zero}
use lib.Signed.{mag, mag_rem, quot_z, rem_z}
use mir.Syntax.{Width}
use Rattle.std.specs.Int.{int_signum}
use Rattle.std.proofs.lemmas.Int.{ints, by_lt_z}
use Rattle.std.proofs.lemmas.Nat.{div-add-mod', mod_below, div-mul-add, mul-le}
use Rattle.std.proofs.lemmas.Bool.{cases_lt}
use Rattle.value.specs.Rounding.{near, nearest, Nearest, Rounded}

-- what division says of q, the quotient
record Within (n d q : ℕ) : Type 0 where
  low : 2 * (q * d) ≤ 2 * n + d
  high : 2 * n < 2 * (q * d) + d

twice : (q d : ℕ) → q * (2 * d) ≡ 2 * (q * d)
twice q d = ap (λ k. q * k) (mul_comm 2 d) ∙ sym (mul_assoc q d 2) ∙ mul_comm (q * d) 2

within : (n d : ℕ) → 0 < d → Within n d (near n d)
within n d h =
    let q = near n d in
    let split = div-add-mod' (2 * n + d) (2 * d) in
    let small = mod_below (2 * n + d) (2 * d) (omega arith) in
    let e = twice q d in
    record { low = omega arith; high = omega arith }

-- a rest below what is left of the divisor is dropped, any other counts as one more
pub near_whole : (n d : ℕ) → n % d < d - n % d → near n d ≡ n / d
near_whole n d h =
    let split = div-add-mod' n d in
    let e = twice (n / d) d in
    let sum : 2 * n + d ≡ n / d * (2 * d) + (2 * (n % d) + d) = omega arith in
    ap (λ k. k / (2 * d)) sum ∙ div-mul-add (n / d) (2 * d) (2 * (n % d) + d) (omega arith)

pub near_more : (n d : ℕ) → 0 < d → d - n % d ≤ n % d → near n d ≡ n / d + 1
near_more n d p h =
    let split = div-add-mod' n d in
    let small = mod_below n d p in
    let e = twice (n / d + 1) d in
    let f = ap (λ k. k * d) (let g : n / d + 1 ≡ suc (n / d) = omega arith in g) ∙ suc-mul (n / d) d in
    let sum : 2 * n + d ≡ (n / d + 1) * (2 * d) + (2 * (n % d) - d) = omega arith in
    ap (λ k. k / (2 * d)) sum ∙ div-mul-add (n / d + 1) (2 * d) (2 * (n % d) - d) (omega arith)

gap : (a b : ℕ) → nat_abs (pos a -ℤ pos b) ≡ (a - b) + (b - a)
gap a b = grind (arith, ints)

gap_below : (a b : ℕ) → nat_abs (negsuc a -ℤ neg_ℤ (pos b)) ≡ (suc a - b) + (b - suc a)
gap_below a b = grind (arith, ints)

pub below : (q d : ℕ) → neg_ℤ (pos q) *ℤ pos d ≡ neg_ℤ (pos (q * d))
below zero d = let z = zero-mul d in ap pos z ∙ sym (ap (λ k. neg_ℤ (pos k)) z)
below (suc q) d = refl

pub abs_neg : (q : ℕ) → nat_abs (neg_ℤ (pos q)) ≡ q
abs_neg zero = refl
abs_neg (suc q) = refl

pub near_law : (num : ℤ) (d : ℕ) → 0 < d → Nearest num (pos d) (nearest num (pos d))
unfolding nearest
near_law (pos n) d h =
    let w = within n d h in
    let e = gap n (near n d * d) in
    record { close = omega (arith, w.low, w.high); away = λ half. omega (arith, w.low, w.high) }
near_law (negsuc n) d h =
    let w = within (suc n) d h in
    let b = below (near (suc n) d) d in
    let e = ap (λ z. nat_abs (negsuc n -ℤ z)) b ∙ gap_below n (near (suc n) d * d) in
    let a = ap nat_abs b ∙ abs_neg (near (suc n) d * d) in
    record { close = omega (arith, w.low, w.high); away = λ half. omega (arith, w.low, w.high) }

-- two multiples of d differ by d or more
apart : (q r : ℤ) (d : ℕ) → q <ℤ r → (q *ℤ pos d +ℤ pos d) ≤ℤ (r *ℤ pos d)
apart (pos q) (pos r) d h =
    let s : suc q ≤ r = omega (arith, ints) in
    omega (arith, ints, mul-le (suc q) d r d s (omega arith), suc-mul q d)
apart (pos q) (negsuc r) d h = omega (arith, ints)
apart (negsuc q) (pos r) d h = omega (arith, ints, suc-mul q d)
apart (negsuc q) (negsuc r) d h =
    let s : suc (suc r) ≤ suc q = omega (arith, ints) in
    omega (arith, ints, mul-le (suc (suc r)) d (suc q) d s (omega arith), suc-mul (suc r) d)

-- so no number is the nearest to both of two of them
clash : (z a b : ℤ) (d : ℕ) → 0 < d → (a +ℤ pos d) ≤ℤ b → (pos 0 ≤ℤ a) ⊎ ((a +ℤ pos d) ≤ℤ pos 0) → 2 * nat_abs (z -ℤ a) ≤ d → 2 * nat_abs (z -ℤ b) ≤ d → (2 * nat_abs (z -ℤ a) ≡ d → nat_abs z ≤ nat_abs a) → (2 * nat_abs (z -ℤ b) ≡ d → nat_abs z ≤ nat_abs b) → ⊥
clash z a b d p h side low high la lb =
    let ea : 2 * nat_abs (z -ℤ a) ≡ d = omega (arith, ints) in
    let eb : 2 * nat_abs (z -ℤ b) ≡ d = omega (arith, ints) in
    let ha = la ea in
    let hb = lb eb in
    ⊎_elim (λ (s : pos 0 ≤ℤ a). omega (arith, ints)) (λ (s : (a +ℤ pos d) ≤ℤ pos 0). omega (arith, ints)) side

side : (q : ℤ) (d : ℕ) → (pos 0 ≤ℤ (q *ℤ pos d)) ⊎ ((q *ℤ pos d +ℤ pos d) ≤ℤ pos 0)
side (pos q) d = inl (omega (arith, ints))
side (negsuc q) d = inr (omega (arith, ints, suc-mul q d))

pub only : (num q r : ℤ) (d : ℕ) → 0 < d → Nearest num (pos d) q → Nearest num (pos d) r → q ≡ r
only num q r d p nq nr =
    by_lt_z q r
    (λ h. absurd (clash num (q *ℤ pos d) (r *ℤ pos d) d p (apart q r d h) (side q d) nq.close nr.close nq.away nr.away))
    (λ h. by_lt_z r q
    (λ k. absurd (clash num (r *ℤ pos d) (q *ℤ pos d) d p (apart r q d k) (side r d) nr.close nq.close nr.away nq.away))
    (λ k. omega (arith, ints)))

pub rounded : (num den : ℤ) → pos 0 <ℤ den → Rounded num den (nearest num den)
rounded num (pos d) h =
    let p : 0 < d = omega (arith, ints) in
    record { meets = near_law num d p; only = λ r n. only num r (nearest num (pos d)) d p n (near_law num d p) }
rounded num (negsuc d) h = absurd h.lt

pub nearest_none : (num den : ℤ) → den ≤ℤ pos 0 → pos 0 ≡ nearest num den
unfolding nearest
nearest_none (pos n) (pos d) h = let z : d ≡ 0 = omega (arith, ints) in rw z (ap pos (sym (div-zero (2 * n + 0))))
nearest_none (negsuc n) (pos d) h = let z : d ≡ 0 = omega (arith, ints) in rw z (ap (λ k. neg_ℤ (pos k)) (sym (div-zero (2 * suc n + 0))))
nearest_none (pos n) (negsuc d) h = refl
nearest_none (negsuc n) (negsuc d) h = refl

-- it is no larger than the number divided
pub near_le : (n d : ℕ) → near n d ≤ n
near_le n zero = let z : near n 0 ≡ 0 = div-zero (2 * n + 0) in omega arith
near_le n (suc d) =
    let q = near n (suc d) in
    let w = within n (suc d) (omega arith) in
    ⊎_elim
    (λ (h : n < q). let m = mul-le (suc n) (suc d) q (suc d) h (omega arith) in
    let s = suc-mul n (suc d) in
    let k = mul-le n 1 n (suc d) (omega arith) (omega arith) in
    absurd (omega (arith, w.low)))
    (λ (h : q ≤ n). h)
    (cases_lt n q)

-- the steps of signed division
pub whole : (num den : ℤ) → pos 0 <ℤ den → nat_abs (rem_z num den) < nat_abs den - nat_abs (rem_z num den) → quot_z num den ≡ nearest num den
unfolding nearest
whole (pos n) (pos d) p h = ap pos (sym (near_whole n d h))
whole (negsuc n) (pos d) p h = let e = abs_neg (suc n % d) in ap (λ k. neg_ℤ (pos k)) (sym (near_whole (suc n) d (omega arith)))
whole (pos n) (negsuc d) p h = absurd p.lt
whole (negsuc n) (negsuc d) p h = absurd p.lt

one_more : (num den : ℤ) → pos 0 <ℤ den → pos 0 ≤ℤ num → nat_abs den - nat_abs (rem_z num den) ≤ nat_abs (rem_z num den) → quot_z num den +ℤ pos 1 ≡ nearest num den
unfolding nearest
one_more (pos n) (pos d) p s h = ap pos (sym (near_more n d (omega (arith, ints)) h))
one_more (negsuc n) (pos d) p s h = absurd s.le
one_more (pos n) (negsuc d) p s h = absurd p.lt
one_more (negsuc n) (negsuc d) p s h = absurd p.lt

one_less : (num den : ℤ) → pos 0 <ℤ den → num <ℤ pos 0 → nat_abs den - nat_abs (rem_z num den) ≤ nat_abs (rem_z num den) → quot_z num den -ℤ pos 1 ≡ nearest num den
unfolding nearest
one_less (pos n) (pos d) p s h = absurd (omega (arith, ints))
one_less (negsuc n) (pos d) p s h =
    let e = abs_neg (suc n % d) in
    let m = near_more (suc n) d (omega (arith, ints)) (omega arith) in
    omega (arith, ints)
one_less (pos n) (negsuc d) p s h = absurd p.lt
one_less (negsuc n) (negsuc d) p s h = absurd p.lt

-- one more away from zero; 0 leaves no rest
pub one_away : (num den : ℤ) → pos 0 <ℤ den → nat_abs den - nat_abs (rem_z num den) ≤ nat_abs (rem_z num den) → quot_z num den +ℤ int_signum num ≡ nearest num den
one_away (pos zero) den p h = absurd (omega (arith, ints, mag_rem (pos 0) den))
one_away (pos (suc n)) den p h =
    let one : min (suc n) 1 ≡ 1 = omega arith in
    ap (λ k. quot_z (pos (suc n)) den +ℤ pos k) one ∙ one_more (pos (suc n)) den p (omega (arith, ints)) h
one_away (negsuc n) den p h = one_less (negsuc n) den p (omega (arith, ints)) h

pub neg_fits : (k n : ℕ) → k ≤ suc n → mag (neg_ℤ (pos k)) ≤ n
neg_fits zero n h = omega arith
neg_fits (suc k) n h = omega arith

-- in any width in which the number divided has room
pub quot_fits : (w : Width) (num den : ℤ) → pos 0 <ℤ den → SFits w num → SFits w (quot_z num den)
quot_fits w (pos n) (pos d) p f = record { sfits = omega (arith, f.sfits, div-le_self n d) }
quot_fits w (negsuc n) (pos d) p f = record { sfits = omega (arith, f.sfits, neg_fits (suc n / d) n (div-le_self (suc n) d)) }
quot_fits w (pos n) (negsuc d) p f = absurd p.lt
quot_fits w (negsuc n) (negsuc d) p f = absurd p.lt

pub rem_fits : (w : Width) (num den : ℤ) → SFits w num → SFits w (rem_z num den)
rem_fits w num den f = record { sfits = omega (arith, f.sfits, mag_rem num den) }

pub nearest_fits : (w : Width) (num den : ℤ) → SFits w num → SFits w (nearest num den)
unfolding nearest
nearest_fits w (pos n) (pos d) f = record { sfits = omega (arith, f.sfits, near_le n d) }
nearest_fits w (negsuc n) (pos d) f = record { sfits = omega (arith, f.sfits, neg_fits (near (suc n) d) n (near_le (suc n) d)) }
nearest_fits w (pos n) (negsuc d) f = record { sfits = omega (arith, f.sfits) }
nearest_fits w (negsuc n) (negsuc d) f = record { sfits = omega (arith, f.sfits) }

pub nearest_le : (num den : ℤ) → nat_abs (nearest num den) ≤ nat_abs num
unfolding nearest
nearest_le (pos n) (pos d) = near_le n d
nearest_le (negsuc n) (pos d) = omega (arith, abs_neg (near (suc n) d), near_le (suc n) d)
nearest_le (pos n) (negsuc d) = omega arith
nearest_le (negsuc n) (negsuc d) = omega arith
