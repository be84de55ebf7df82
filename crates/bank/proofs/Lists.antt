-- Lists of one value repeated.
use Rattle.std.proofs.Common.{◌≡◌, ℕ, zero, suc, get_or, replicate, refl}

-- past the end or not, a list of copies of a reads as a
pub get_d_same : {A : Type 0} (n k : ℕ) (a : A) → get_or (replicate n a) k a ≡ a
get_d_same zero k a = refl
get_d_same (suc n) zero a = refl
get_d_same (suc n) (suc k) a = get_d_same n k a
