-- Numbers, digit by digit.
use Rattle.std.proofs.Common.{◌≡◌, ℕ, ◌+◌, ◌-◌, ◌*◌, ◌<◌, true, List, [], ◌∷◌, length, get_or, drop, None, refl, ap, ◌∙◌, arith}
use Rattle.std.specs.Char.{is_ascii_digit}
use Rattle.std.proofs.lemmas.List.{drop_more}
use Rattle.std.proofs.lemmas.Bool.{lt-leb, cond-true, cond-false, cond_both}
use Rattle.halls.specs.Words.{read_on, number_of, limited}

-- past the most, no digits bring it back
pub past : (m v : ℕ) (t : List ℕ) → m < v → limited m (read_on v t) ≡ None
past m v [] h = cond-false _ _ _ (lt-leb v m h)
past m v (b ∷ t) h =
    cond_both (is_ascii_digit b) (read_on (10 * v + (b - 48)) t) None (λ o. limited m o ≡ None)
    (λ _. past m (10 * v + (b - 48)) t (omega arith)) (λ _. refl)

-- one turn
pub goes : (v : ℕ) (t : List ℕ) (i : ℕ) → i < length t → is_ascii_digit (get_or t i 0) ≡ true → read_on v (drop i t) ≡ read_on (10 * v + (get_or t i 0 - 48)) (drop (i + 1) t)
goes v t i h e = ap (read_on v) (drop_more t i 0 h) ∙ cond-true _ _ _ e

pub begun : (t : List ℕ) → 0 < length t → number_of t ≡ read_on 0 t
begun [] h = absurd (omega arith)
begun (b ∷ t) h = refl
