-- Figures tell numbers apart, over the base and the width. Assumes nothing.
use Rattle.std.specs.Prelude.{◌≡◌, ℕ, zero, suc, ◌+◌, ◌*◌, ◌/◌, ◌%◌, ◌^◌, ◌<◌, ◌≤◌, List, [], ◌∷◌, map, ℤ, pos, negsuc, unsigned_abs, refl}
use Rattle.std.proofs.Common.{sym, ap, ◌∙◌, mod-eq_of_lt, arith}
use Rattle.std.proofs.Math.Nat.{mod-one, pow-succ', one-le-pow, pow-zero}
use Rattle.std.proofs.Math.Arith.{mod-mul}
use Rattle.std.specs.Int.Signed.{mag}
use Rattle.value.specs.Figures.{figures, twos, complement, digits, signed}

-- numbers with the same last figures leave the same remainder
figures_same : (b w m n : ℕ) → 0 < b → figures b w m ≡ figures b w n → m % b ^ w ≡ n % b ^ w
figures_same b zero m n h e = rw pow-zero (mod-one m ∙ sym (mod-one n))
figures_same b (suc w) m n h e =
    let p = pow-succ' b w in
    let k = one-le-pow w b h in
    let head : m / b ^ w % b ≡ n / b ^ w % b = cc in
    let tail : figures b w m ≡ figures b w n = cc in
    let rest = figures_same b w m n h tail in
    ap (λ x. m % x) p
    ∙ mod-mul m h k
    ∙ (λ i. head i * b ^ w + rest i)
    ∙ sym (mod-mul n h k)
    ∙ ap (λ x. n % x) (sym p)

-- so below the power of the width they are the same number
pub figures_apart : (b w m n : ℕ) → 0 < b → m < b ^ w → n < b ^ w → figures b w m ≡ figures b w n → m ≡ n
figures_apart b w m n h p q e = sym (mod-eq_of_lt p) ∙ figures_same b w m n h e ∙ mod-eq_of_lt q

-- a number of w bytes of two's complement lies below the power; the upper half holds the numbers below 0
twos_small : (m : ℕ) (v : ℤ) → mag v < m → twos m v < m
twos_small m (pos n) h = rw mod-eq_of_lt h
twos_small m (negsuc n) h = omega arith

twos_apart : (m h : ℕ) (v w : ℤ) → 2 * h ≤ m → mag v < h → mag w < h → twos m v ≡ twos m w → v ≡ w
twos_apart m h (pos a) (pos b) k p q e =
    let x : a < m = omega arith in
    let y : b < m = omega arith in
    ap pos (sym (mod-eq_of_lt x) ∙ e ∙ mod-eq_of_lt y)
twos_apart m h (pos a) (negsuc b) k p q e =
    absurd (omega (arith, mod-eq_of_lt {n = a} {m = m} (omega arith), mod-eq_of_lt {n = b} {m = m} (omega arith)))
twos_apart m h (negsuc a) (pos b) k p q e =
    absurd (omega (arith, mod-eq_of_lt {n = a} {m = m} (omega arith), mod-eq_of_lt {n = b} {m = m} (omega arith)))
twos_apart m h (negsuc a) (negsuc b) k p q e =
    ap negsuc (omega (arith, mod-eq_of_lt {n = a} {m = m} (omega arith), mod-eq_of_lt {n = b} {m = m} (omega arith)))

pub complement_apart : (w h : ℕ) (v u : ℤ) → 2 * h ≤ 256 ^ w → mag v < h → mag u < h → complement w v ≡ complement w u → v ≡ u
complement_apart w h v u k p q e =
    twos_apart (256 ^ w) h v u k p q
    (figures_apart 256 w (twos (256 ^ w) v) (twos (256 ^ w) u) (omega arith) (twos_small (256 ^ w) v (omega arith)) (twos_small (256 ^ w) u (omega arith)) e)

-- digits as text
shifted_same : (xs ys : List ℕ) → map (λ d. 48 + d) xs ≡ map (λ d. 48 + d) ys → xs ≡ ys
shifted_same [] [] e = refl
shifted_same [] (y ∷ ys) e = let z : ◌≡◌ {A = ℕ} 0 1 = cc in absurd (omega arith)
shifted_same (x ∷ xs) [] e = let z : ◌≡◌ {A = ℕ} 0 1 = cc in absurd (omega arith)
shifted_same (x ∷ xs) (y ∷ ys) e =
    let head : 48 + x ≡ 48 + y = cc in
    let tail : map (λ d. 48 + d) xs ≡ map (λ d. 48 + d) ys = cc in
    let first : x ≡ y = omega arith in
    (λ i. first i ∷ shifted_same xs ys tail i)

pub digits_apart : (w m n : ℕ) → m < 10 ^ w → n < 10 ^ w → digits w m ≡ digits w n → m ≡ n
digits_apart w m n p q e = figures_apart 10 w m n (omega arith) p q (shifted_same (figures 10 w m) (figures 10 w n) e)

pub signed_apart : (w : ℕ) (v u : ℤ) → unsigned_abs v < 10 ^ w → unsigned_abs u < 10 ^ w → signed w v ≡ signed w u → v ≡ u
signed_apart w (pos a) (pos b) p q e = ap pos (digits_apart w a b p q (cc))
signed_apart w (pos a) (negsuc b) p q e = let z : ◌≡◌ {A = ℕ} 43 45 = cc in absurd (omega arith)
signed_apart w (negsuc a) (pos b) p q e = let z : ◌≡◌ {A = ℕ} 43 45 = cc in absurd (omega arith)
signed_apart w (negsuc a) (negsuc b) p q e =
    let z = digits_apart w (suc a) (suc b) p q (cc) in
    ap negsuc (omega arith)
