-- The digits that a text begins with, one by one. Assumes nothing.
use Rattle.std.proofs.Common.{◌≡◌, ℕ, suc, ◌+◌, ◌-◌, ◌*◌, ◌^◌, ◌≤◌, true, false, List, [], ◌∷◌, length, get_or, take, drop, fold, sym, ap, ◌∙◌, mul_assoc, mul-le-mul_left, one-add, arith, pow-suc}
use Rattle.std.proofs.Math.Nat.{mul_comm}
use Rattle.std.specs.Char.{is_ascii_digit}
use Rattle.std.specs.List.{prefix_len}
use Rattle.std.proofs.lemmas.List.{take_all, length-drop}
use Rattle.std.proofs.lemmas.Bool.{cond-true, cond-false}
use Rattle.std.proofs.lemmas.Nat.{mul-le}
use Rattle.command.specs.Numbers.{more, front, back}
use Rattle.command.proofs.Sizes.{tens}

digit_more : (b : ℕ) (t : List ℕ) → is_ascii_digit b ≡ true → prefix_len is_ascii_digit (b ∷ t) ≡ suc (prefix_len is_ascii_digit t)
digit_more b t h = cond-true (is_ascii_digit b) (1 + prefix_len is_ascii_digit t) 0 h ∙ one-add (prefix_len is_ascii_digit t)

pub digit_front : (b : ℕ) (t : List ℕ) → is_ascii_digit b ≡ true → front (b ∷ t) ≡ b ∷ front t
digit_front b t h = ap (λ n. take n (b ∷ t)) (digit_more b t h)

pub digit_back : (b : ℕ) (t : List ℕ) → is_ascii_digit b ≡ true → back (b ∷ t) ≡ back t
digit_back b t h = ap (λ n. drop n (b ∷ t)) (digit_more b t h)

pub other_front : (b : ℕ) (t : List ℕ) → is_ascii_digit b ≡ false → front (b ∷ t) ≡ []
other_front b t h = ap (λ n. take n (b ∷ t)) (cond-false (is_ascii_digit b) (1 + prefix_len is_ascii_digit t) 0 h)

pub other_back : (b : ℕ) (t : List ℕ) → is_ascii_digit b ≡ false → back (b ∷ t) ≡ b ∷ t
other_back b t h = ap (λ n. drop n (b ∷ t)) (cond-false (is_ascii_digit b) (1 + prefix_len is_ascii_digit t) 0 h)

-- with one digit more a number stays in its bound
pub tenfold_more : (v d n r : ℕ) → d ≤ 9 → (v + 23) * 10 ^ suc n ≤ r → (10 * v + d + 23) * 10 ^ n ≤ r
tenfold_more v d n r h l =
    let low = mul-le (10 * v + d + 23) (10 ^ n) ((v + 23) * 10) (10 ^ n) (omega arith) (omega arith) in
    let same : (v + 23) * 10 ^ suc n ≡ (v + 23) * 10 * 10 ^ n = ap (λ k. (v + 23) * k) (pow-suc 10 n ∙ mul_comm (10 ^ n) 10) ∙ sym (mul_assoc (v + 23) 10 (10 ^ n)) in
    omega arith

pub below : (v n r : ℕ) → (v + 23) * 10 ^ n ≤ r → v + 23 ≤ r
below v n r l = let one = mul-le-mul_left (v + 23) (tens n) in omega arith

-- the text behind its first byte, which is a digit
pub next : (r : List ℕ) (k : ℕ) → k ≡ length r - 1 → take k (drop 1 r) ≡ drop 1 r
next r k e = take_all k (drop 1 r) (omega (arith, length-drop 1 r))

pub front_one : (v : ℕ) (r : List ℕ) → 1 ≤ length r → is_ascii_digit (get_or r 0 0) ≡ true → fold more (10 * v + (get_or r 0 0 - 48)) (front (drop 1 r)) ≡ fold more v (front r)
front_one v [] l h = absurd (omega arith)
front_one v (b ∷ t) l h = ap (fold more v) (sym (digit_front b t h))

pub back_one : (r : List ℕ) → 1 ≤ length r → is_ascii_digit (get_or r 0 0) ≡ true → back (drop 1 r) ≡ back r
back_one [] l h = absurd (omega arith)
back_one (b ∷ t) l h = sym (digit_back b t h)

pub count_one : (r : List ℕ) → 1 ≤ length r → is_ascii_digit (get_or r 0 0) ≡ true → length r + prefix_len is_ascii_digit (drop 1 r) ≡ length (drop 1 r) + prefix_len is_ascii_digit r
count_one [] l h = absurd (omega arith)
count_one (b ∷ t) l h = omega (arith, digit_more b t h)

pub bound_one : (v d m : ℕ) (r : List ℕ) → 1 ≤ length r → d ≤ 9 → (v + 23) * 10 ^ length r ≤ m → (10 * v + d + 23) * 10 ^ length (drop 1 r) ≤ m
bound_one v d m [] l h e = absurd (omega arith)
bound_one v d m (b ∷ t) l h e = tenfold_more v d (length t) m h e
