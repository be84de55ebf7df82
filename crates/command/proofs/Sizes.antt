-- A number of m units of 10^-places, times 10^e. Assumes nothing.
use Rattle.std.proofs.Common.{◌≡◌, ℕ, zero, suc, ◌+◌, ◌-◌, ◌*◌, ◌/◌, ◌%◌, ◌^◌, ◌<◌, ◌≤◌, min, cond, eqb, Some, None, Option, sym, ap, ◌∙◌, ⊎_elim, mul_assoc, suc-mul, add-mul, mul-le-mul_left, mul-lt-mul_of_pos_right, zero-mul, mul-one, mul-div_cancel, arith, lit≤, pow-add}
use native.Mathlib.Nat.{one-le-pow, pow-le-pow_right, mul-mod_left}
use Rattle.std.proofs.lemmas.Bool.{cases_lt, cases_eq, ne_eqb}
use Rattle.std.proofs.lemmas.Nat.{div-add-mod', div-mul-add, mod-mul-add, mod_below}
use Rattle.command.specs.Numbers.{size, capped}

pub tens : (k : ℕ) → 0 < 10 ^ k
tens k = one-le-pow k 10 (lit≤ tt)

abbrev whole : ℕ → ℕ → Option ℕ
whole n by = cond (eqb (n % by) 0) (Some (n / by)) None

whole_mul : (x n : ℕ) → 0 < n → whole (x * n) n ≡ Some x
whole_mul x n h =
    let m = mul-mod_left x n in
    let d = mul-div_cancel x h in
    ap (λ b. cond (eqb b 0) (Some (x * n / n)) None) m ∙ ap Some d

pub size_up : (m places e : ℕ) → places ≤ e → size m places e ≡ Some (m * 10 ^ (e - places))
size_up m places e h =
    let sum : e ≡ (e - places) + places = omega arith in
    let pow = ap (λ n. 10 ^ n) sum ∙ pow-add 10 (e - places) places in
    let same = ap (λ n. m * n) pow ∙ sym (mul_assoc m (10 ^ (e - places)) (10 ^ places)) in
    ap (λ n. whole n (10 ^ places)) same ∙ whole_mul (m * 10 ^ (e - places)) (10 ^ places) (tens places)

pub size_same : (m places e : ℕ) → places ≡ e → size m places e ≡ Some m
size_same m places e h =
    let none : e - places ≡ 0 = omega arith in
    size_up m places e (omega arith) ∙ ap (λ n. Some (m * 10 ^ n)) none ∙ ap Some (mul-one m)

eqb_mul : (r n : ℕ) → 0 < n → eqb (r * n) 0 ≡ eqb r 0
eqb_mul zero n h = ap (λ b. eqb b 0) (zero-mul n)
eqb_mul (suc r) n h =
    let more = suc-mul r n in
    ne_eqb (suc r * n) 0 (λ e. omega arith) ∙ sym (ne_eqb (suc r) 0 (λ e. omega arith))

-- a common factor goes
whole_factor : (m d n : ℕ) → 0 < d → 0 < n → whole (m * n) (d * n) ≡ whole m d
whole_factor m d n hd hn =
    let q = m / d in
    let r = m % d in
    let parts : m * n ≡ q * (d * n) + r * n = ap (λ x. x * n) (sym (div-add-mod' m d)) ∙ add-mul (q * d) r n ∙ ap (λ x. x + r * n) (mul_assoc q d n) in
    let low : r * n < d * n = mul-lt-mul_of_pos_right (mod_below m d hd) hn in
    let modulus = ap (λ x. x % (d * n)) parts ∙ mod-mul-add q (d * n) (r * n) low in
    let quotient = ap (λ x. x / (d * n)) parts ∙ div-mul-add q (d * n) (r * n) low in
    (λ i. cond (eqb (modulus i) 0) (Some (quotient i)) None) ∙ ap (λ b. cond b (Some q) None) (eqb_mul r n hn)

pub size_down : (m places e : ℕ) → e ≤ places → size m places e ≡ cond (eqb (m % 10 ^ (places - e)) 0) (Some (m / 10 ^ (places - e))) None
size_down m places e h =
    let sum : places ≡ (places - e) + e = omega arith in
    let pow = ap (λ n. 10 ^ n) sum ∙ pow-add 10 (places - e) e in
    ap (λ n. whole (m * 10 ^ e) n) pow ∙ whole_factor m (10 ^ (places - e)) (10 ^ e) (tens (places - e)) (tens e)

-- past ten to the twelfth the exponent changes nothing
pub cap_shift : (m k s : ℕ) → s ≡ min k 12 → min (min (m * 10 ^ s) (2 ^ 64 - 1)) 1000000000000 ≡ capped (m * 10 ^ k)
cap_shift m k s e =
    ⊎_elim
    (λ far. let twelve : s ≡ 12 = omega arith in
    let at = ap (λ n. m * 10 ^ n) twelve in
    let over = mul-le-mul_left m (pow-le-pow_right {n = 10} (lit≤ tt) {i = 12} {j = k} (omega arith)) in
    ⊎_elim (λ none. let z = ap (λ n. n * 10 ^ k) none ∙ zero-mul (10 ^ k) in omega arith) (λ some. omega arith) (cases_eq m 0))
    (λ near. let same : s ≡ k = omega arith in let at = ap (λ n. m * 10 ^ n) same in omega arith)
    (cases_lt 12 k)
