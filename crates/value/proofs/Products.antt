-- Products of signed numbers, and the step taken out of a rounded quotient. Assumes nothing.
use Rattle.std.proofs.Common.{◌≡◌, ℕ, suc, ◌*◌, ◌^◌, ◌<◌, ◌≤◌, ℤ, pos, negsuc, ◌-ℤ◌, ◌*ℤ◌, neg_ℤ, nat_abs, ◌<ℤ◌, sym, refl, ap, ◌∙◌, subst, mul_assoc, mul_comm, arith}
use Rattle.std.proofs.lemmas.Int.{ints}
use Rattle.std.proofs.lemmas.Nat.{mul-le, mul-lt}
use Rattle.value.specs.Rounding.{nearest}
use Rattle.value.specs.Scaled.{scaled, Shown}
use Rattle.value.proofs.Quotient.{abs_neg, below, near_law, nearest_le}

pub abs_times : (x y : ℤ) → nat_abs (x *ℤ y) ≡ nat_abs x * nat_abs y
abs_times (pos m) (pos n) = refl
abs_times (pos m) (negsuc n) = abs_neg (m * suc n)
abs_times (negsuc m) (pos n) = abs_neg (suc m * n)
abs_times (negsuc m) (negsuc n) = refl

-- the step, taken out of the divisor
step_out : (q : ℤ) (s t : ℕ) → q *ℤ pos (s * t) ≡ (q *ℤ pos t) *ℤ pos s
step_out (pos n) s t = ap pos (ap (λ k. n * k) (mul_comm s t) ∙ sym (mul_assoc n t s))
step_out (negsuc n) s t =
    ap (λ k. neg_ℤ (pos k)) (ap (λ k. suc n * k) (mul_comm s t) ∙ sym (mul_assoc (suc n) t s)) ∙ sym (below (suc n * t) s)

pub shown_law : (num : ℤ) (n : ℕ) (span : ℤ) (step : ℕ) → pos 0 <ℤ span → 0 < step → Shown num n span step (scaled num n span step)
unfolding scaled
shown_law num n (pos s) t h k =
    let q = nearest (num *ℤ pos n) (pos (s * t)) in
    let some : 0 < s * t = omega (arith, mul-lt 0 0 s t (omega (arith, ints)) k) in
    let near = near_law (num *ℤ pos n) (s * t) some in
    let e = step_out q s t in
    record {
      multiple = (q, refl);
      close = subst (λ z. 2 * nat_abs (num *ℤ pos n -ℤ z) ≤ s * t) e near.close;
      away = subst (λ z. 2 * nat_abs (num *ℤ pos n -ℤ z) ≡ s * t → nat_abs (num *ℤ pos n) ≤ nat_abs z) e near.away;
    }
shown_law num n (negsuc s) t h k = absurd h.lt

-- the number of steps of a load of 64 bits
pub steps_small : (num : ℤ) (n : ℕ) (den : ℤ) → nat_abs num ≤ 2 ^ 63 → n < 2 ^ 32 → nat_abs (nearest (num *ℤ pos n) den) ≤ 2 ^ 95
steps_small num n den h k =
    omega (arith, nearest_le (num *ℤ pos n) den, abs_times num (pos n), mul-le (nat_abs num) n (2 ^ 63) (2 ^ 32) h (omega arith))
