-- A port with one gauge keeps the limits of a port.
use Rattle.std.specs.Prelude.{◌≡◌, ℕ, zero, suc, ◌*◌, ◌≤◌, List, [], ◌∷◌, map, length, ℤ, pos, negsuc, ◌*ℤ◌, neg_ℤ, Some, None, Option, int_lt, unsigned_abs, refl}
use Rattle.std.proofs.Common.{ap, ◌∙◌, arith, mul-le-mul}
use Rattle.std.proofs.Math.IntN.{pos-*ℤ-pos, negsuc-*ℤ-pos}
use Rattle.std.proofs.lemmas.Int.{ints}
use Rattle.std.proofs.lemmas.Bool.{cond_both}
use Rattle.std.proofs.lemmas.List.{length-map}
use Rattle.bank.specs.Ports.{Sound, Small, most, none}
use Rattle.bank.specs.Gauges.{held, reading, gauged}

size_neg : (n : ℕ) → unsigned_abs (neg_ℤ (pos n)) ≡ n
size_neg zero = refl
size_neg (suc n) = refl

pub size_mul : (a : ℤ) (n : ℕ) → unsigned_abs (a *ℤ pos n) ≡ unsigned_abs a * n
size_mul (pos m) n = ap unsigned_abs (pos-*ℤ-pos m n)
size_mul (negsuc m) n = ap unsigned_abs (negsuc-*ℤ-pos m n) ∙ size_neg (suc m * n)

held_size : (d : ℤ) → unsigned_abs (held d) ≤ 1638399
held_size d =
    cond_both (int_lt (pos 1638399) d) _ _ (λ z. unsigned_abs z ≤ 1638399) (λ _. omega arith)
    (λ e. cond_both (int_lt d (negsuc 1638398)) _ _ (λ z. unsigned_abs z ≤ 1638399) (λ _. omega arith) (λ e'. omega (arith, ints)))

reading_size : (f : ℕ) (d : ℤ) → f ≤ 1500 → unsigned_abs (reading f d).load ≤ 1 * most
reading_size f d h = rw (size_mul (held d) f) (mul-le-mul (held_size d) h)

small_all : (f : ℕ) (ds : List ℤ) → f ≤ 1500 → Small 1 (map (reading f) ds)
small_all f [] h = tt
small_all f (d ∷ ds) h = (reading_size f d h, small_all f ds h)

pub none_sound : Sound none
none_sound = record { few = omega arith; short = omega arith; small = tt; bare = λ _. refl }

-- a corner factor, if there is one, is at most 1,500 thousandths
abbrev pub Tuned : Option ℕ → Type 0
Tuned None = Unit {0}
Tuned (Some f) = f ≤ 1500

pub gauged_sound : (o : Option ℕ) (ds : List ℤ) → Tuned o → length ds ≤ 65535 → Sound (gauged o ds)
gauged_sound None ds h k = none_sound
gauged_sound (Some f) ds h k = record { few = omega arith; short = rw length-map k; small = small_all f ds h; bare = λ e. absurd (omega arith) }
