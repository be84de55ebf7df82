-- A port put in its place.
use Rattle.std.proofs.Common.{◌≡◌, ℕ, ◌≤◌, Bool, cond, ◌&&◌, eqb, ◌≢◌, sym, refl, ap, ◌∙◌, ⊎_elim, arith}
use Rattle.std.proofs.lemmas.Bool.{eq-eqb, ne_eqb, cases_eq, le-leb}
use Rattle.bank.specs.Ports.{Port, popped, rest_at}
use Rattle.scale.specs.Measuring.{put_port}

-- a port in its own place alters nothing
pub put_same : (m : ℕ → Port) (p : ℕ) → m ≡ put_port m p (m p)
put_same m p = λ i. λ k. at k i where
  at : (k : ℕ) → m k ≡ put_port m p (m p) k
  at k = ⊎_elim
      (λ (e : k ≡ p). ap m e ∙ ap (λ (b : Bool). cond b (m p) (m k)) (sym (eq-eqb k p e)))
      (λ (e : k ≢ p). ap (λ (b : Bool). cond b (m p) (m k)) (sym (ne_eqb k p e)))
      (cases_eq k p)

-- what was put at a place stands there
pub put_here : (m : ℕ → Port) (p : ℕ) (v : Port) → put_port m p v p ≡ v
put_here m p v = ap (λ (b : Bool). cond b v (m p)) (eq-eqb p p refl)

again : (b : Bool) (v w x : Port) → cond b w (cond b v x) ≡ cond b w x
again b v w x = grind arith

-- the last that is put counts
pub put_again : (m : ℕ → Port) (p : ℕ) (v w : Port) → put_port (put_port m p v) p w ≡ put_port m p w
put_again m p v w = λ i. λ k. again (eqb k p) v w (m k) i

swap_in : (b : Bool) (v x : Port) → cond b (popped (cond b v x)) (cond b v x) ≡ cond b (popped v) x
swap_in b v x = grind arith

-- taking at a port is putting there what is left
pub rest_put : (m : ℕ → Port) (p : ℕ) (v : Port) → p ≤ 31 → rest_at (put_port m p v) p ≡ put_port m p (popped v)
rest_put m p v h = λ i. λ k. (ap (λ (t : Bool). cond (t && eqb k p) (popped (put_port m p v k)) (put_port m p v k)) (le-leb p 31 h) ∙ swap_in (eqb k p) v (m k)) i
