-- When two buses are the same, and the states of a list of scales.
use Rattle.std.proofs.Common.{◌≡◌, ℕ, cond, eqb, zero, suc, ◌<◌, List, [], ◌∷◌, length, get_or, set, replicate, refl, arith, rules}
use Rattle.scale.specs.declared.scale.Scale.{Scale}
use Rattle.scale.specs.States.{fresh}
use Rattle.terminal.specs.Buses.{Bus, state_at}

pub same_bus : (b b' : Bus) → ((a : ℕ) → b.scales a ≡ b'.scales a) → ((a : ℕ) → b.ports a ≡ b'.ports a) → b.ear ≡ b'.ear → b ≡ b'
same_bus b b' s p e = search rules

pub all_fresh : (s : Scale) → s.state ≡ fresh → (n a : ℕ) → state_at (replicate n s) a ≡ fresh
all_fresh s e zero a = refl
all_fresh s e (suc n) zero = e
all_fresh s e (suc n) (suc a) = all_fresh s e n a

-- the scale a of a list of scales, and the list with another in its place
pub state_get : (ss : List Scale) (a : ℕ) (d : Scale) → a < length ss → (get_or ss a d).state ≡ state_at ss a
state_get [] a d h = absurd (omega arith)
state_get (s ∷ ss) zero d h = refl
state_get (s ∷ ss) (suc a) d h = state_get ss a d (omega arith)

pub set_at : (ss : List Scale) (k : ℕ) (s : Scale) (x : ℕ) → k < length ss → state_at (set ss k s) x ≡ cond (eqb x k) s.state (state_at ss x)
set_at [] k s x h = absurd (omega arith)
set_at (r ∷ ss) zero s zero h = search rules
set_at (r ∷ ss) zero s (suc x) h = search rules
set_at (r ∷ ss) (suc k) s zero h = search rules
set_at (r ∷ ss) (suc k) s (suc x) h = let ih = set_at ss k s x (omega arith) in search rules
