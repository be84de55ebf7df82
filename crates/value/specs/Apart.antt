-- From bytes that tell the indicated values apart to the law of a format. Assumes nothing.
use Rattle.std.specs.Prelude.{◌≡◌, ℕ, suc, ◌*◌, ◌^◌, ◌<◌, ◌≤◌, Bool, true, false, cond, ◌&&◌, List, [], ◌∷◌, ◌++◌, reverse, ℤ, pos, negsuc, ◌≤ℤ◌, ◌<ℤ◌, int_lt, nat_le, unsigned_abs}
use Rattle.std.proofs.Common.{sym, ap, subst, ◌∙◌, ⊎_elim, arith}
use Rattle.std.specs.Int.Signed.{le_z_yes, mag}
use Rattle.std.proofs.lemmas.List.{append_cancel_right, reverse-reverse}
use Rattle.std.proofs.lemmas.Int.{ints}
use Rattle.std.proofs.lemmas.Bool.{and_parts, cases_Bool, cond-true, cond-false}
use Rattle.value.specs.Figures.{complement, digits, signed}
use Rattle.value.specs.Fitting.{fits, indicated, Apart}
use Rattle.value.specs.Formats.{reversed, three_bytes_and, three_bytes, three_bytes_status, two_bytes, decimal, decimal_status, three_byte_limits, two_byte_limits, decimal_limits}
use Rattle.value.specs.declared.limits.Limits.{Limits}
use Rattle.value.specs.Same.{complement_apart, signed_apart}

-- no format indicates a value past its two overflow values
pub record Inside (l : Limits) (v : ℤ) : Type 0 where
  pub low : l.lower ≤ℤ v
  pub high : v ≤ℤ l.upper

fits_low : (l : Limits) (nominal : ℕ) (v : ℤ) → fits l nominal v ≡ true → l.lower <ℤ v
fits_low l nominal v h =
    let both = (and_parts (nat_le nominal l.ceiling) (int_lt l.lower v && int_lt v l.upper) h).1 in
    let one = (and_parts (int_lt l.lower v) (int_lt v l.upper) both).0 in
    omega (arith, ints)

fits_high : (l : Limits) (nominal : ℕ) (v : ℤ) → fits l nominal v ≡ true → v <ℤ l.upper
fits_high l nominal v h =
    let both = (and_parts (nat_le nominal l.ceiling) (int_lt l.lower v && int_lt v l.upper) h).1 in
    let one = (and_parts (int_lt l.lower v) (int_lt v l.upper) both).1 in
    omega (arith, ints)

-- the indicated value is the value, which fits, or one of the two overflow values
data Ways (l : Limits) (nominal : ℕ) (v : ℤ) : Type 0 where
  itself : fits l nominal v ≡ true → indicated l nominal v ≡ v → Ways l nominal v
  below : indicated l nominal v ≡ l.lower → Ways l nominal v
  above : indicated l nominal v ≡ l.upper → Ways l nominal v

ways : (l : Limits) (nominal : ℕ) (v : ℤ) → Ways l nominal v
ways l nominal v =
    ⊎_elim
    (λ (h : fits l nominal v ≡ true). itself h (cond-true (fits l nominal v) v _ h))
    (λ (h : fits l nominal v ≡ false). let e = cond-false (fits l nominal v) v (cond (int_lt v (pos 0)) l.lower l.upper) h in
    ⊎_elim
    (λ (k : int_lt v (pos 0) ≡ true). below (e ∙ cond-true (int_lt v (pos 0)) l.lower l.upper k))
    (λ (k : int_lt v (pos 0) ≡ false). above (e ∙ cond-false (int_lt v (pos 0)) l.lower l.upper k))
    (cases_Bool (int_lt v (pos 0))))
    (cases_Bool (fits l nominal v))

inside : (l : Limits) (nominal : ℕ) (v : ℤ) → l.lower ≤ℤ l.upper → Inside l (indicated l nominal v)
inside l nominal v o =
    elim (ways l nominal v) [
      | itself h e ↦ subst (Inside l) (sym e) (let a = fits_low l nominal v h in let b = fits_high l nominal v h in record { low = omega (arith, ints); high = omega (arith, ints) })
      | below e ↦ subst (Inside l) (sym e) (record { low = omega (arith, ints); high = o })
      | above e ↦ subst (Inside l) (sym e) (record { low = o; high = omega (arith, ints) })
    ]

pub apart_from : (l : Limits) (f : ℕ → ℕ → ℤ → List ℕ) → l.lower ≤ℤ l.upper → ((a s : ℕ) (v w : ℤ) → Inside l v → Inside l w → f a s v ≡ f a s w → v ≡ w) → Apart l f
apart_from l f o same nominal a s v w h e =
    let x = same a s (indicated l nominal v) (indicated l nominal w) (inside l nominal v o) (inside l nominal w o) e in
    let y = sym (cond-true (fits l nominal v) v (cond (int_lt v (pos 0)) l.lower l.upper) h) ∙ x in
    let low = fits_low l nominal v h in
    let high = fits_high l nominal v h in
    elim (ways l nominal w) [ itself k z ↦ y ∙ z | below z ↦ absurd (let q = y ∙ z in omega (arith, ints)) | above z ↦ absurd (let q = y ∙ z in omega (arith, ints)) ]

-- the limits of w bytes, of which h is the highest number, and of w digits, where m and one more is shown for an overflow
abbrev bytes_limits : ℕ → ℕ → Limits
bytes_limits h ceiling = record { lower = negsuc h; upper = pos h; ceiling = ceiling }

abbrev digits_limits : ℕ → ℕ → Limits
digits_limits m ceiling = record { lower = negsuc m; upper = pos (suc m); ceiling = ceiling }

mag_inside : (h ceiling : ℕ) (v : ℤ) → Inside (bytes_limits h ceiling) v → mag v < suc h
mag_inside h ceiling (pos n) i = omega (arith, ints, i.high)
mag_inside h ceiling (negsuc n) i = omega (arith, ints, i.low)

abs_inside : (m ceiling : ℕ) (v : ℤ) → Inside (digits_limits m ceiling) v → unsigned_abs v ≤ suc m
abs_inside m ceiling (pos n) i = omega (arith, ints, i.high)
abs_inside m ceiling (negsuc n) i = omega (arith, ints, i.low)

-- the law of w bytes of two's complement, whatever follows them
bytes_apart : (w h ceiling : ℕ) (tail : ℕ → ℕ → List ℕ) → 2 * suc h ≤ 256 ^ w → Apart (bytes_limits h ceiling) (λ a s v. complement w v ++ tail a s)
bytes_apart w h ceiling tail k =
    apart_from (bytes_limits h ceiling) (λ a s v. complement w v ++ tail a s) (le_z_yes tt)
    (λ a s v u p q e. complement_apart w (suc h) v u k (mag_inside h ceiling v p) (mag_inside h ceiling u q) (append_cancel_right (complement w v) (complement w u) (tail a s) e))

-- the law of the sign and w digits, whatever follows them
digits_apart : (w m ceiling : ℕ) (tail : ℕ → ℕ → List ℕ) → suc m < 10 ^ w → Apart (digits_limits m ceiling) (λ a s v. signed w v ++ tail a s)
digits_apart w m ceiling tail k =
    apart_from (digits_limits m ceiling) (λ a s v. signed w v ++ tail a s) (le_z_yes tt)
    (λ a s v u p q e. signed_apart w v u (omega (arith, abs_inside m ceiling v p)) (omega (arith, abs_inside m ceiling u q)) (append_cancel_right (signed w v) (signed w u) (tail a s) e))

-- bytes that are turned round tell as much
pub reversed_apart : (l : Limits) (f : ℕ → ℕ → ℤ → List ℕ) → Apart l f → Apart l (reversed f)
reversed_apart l f apart nominal a s v w h e =
    let x = f a s (indicated l nominal v) in
    let y = f a s (indicated l nominal w) in
    apart nominal a s v w h (sym (reverse-reverse x) ∙ ap reverse e ∙ reverse-reverse y)

-- each format
pub three_bytes_and_apart : (shown : Bool) → Apart three_byte_limits (three_bytes_and shown)
three_bytes_and_apart shown = bytes_apart 3 8388607 4294967295 (λ a s. cond shown s 0 ∷ []) (omega arith)

pub three_bytes_apart : Apart three_byte_limits three_bytes
three_bytes_apart = three_bytes_and_apart false

pub three_bytes_status_apart : Apart three_byte_limits three_bytes_status
three_bytes_status_apart = three_bytes_and_apart true

pub two_bytes_apart : Apart two_byte_limits two_bytes
two_bytes_apart = bytes_apart 2 32767 30000 (λ a s. []) (omega arith)

pub decimal_apart : Apart decimal_limits decimal
decimal_apart = digits_apart 7 1638399 4294967295 (λ a s. []) (omega arith)

pub decimal_status_apart : Apart decimal_limits decimal_status
decimal_status_apart = digits_apart 7 1638399 4294967295 (λ a s. 44 ∷ digits 2 a ++ (44 ∷ digits 3 s)) (omega arith)
