-- A box keeps the limits of a port.
use Rattle.std.specs.Prelude.{◌≡◌, ℕ, zero, suc, ◌+◌, ◌≤◌, min, Bool, true, false, cond, List, [], ◌∷◌, length, ℤ, ◌+ℤ◌, ◌==◌, nat_le, unsigned_abs, refl}
use Rattle.std.proofs.Common.{arith, add-mul, zero-add, add-zero}
use Rattle.std.proofs.lemmas.Int.{ints}
use Rattle.std.proofs.lemmas.Bool.{leb-true}
use Rattle.bank.specs.declared.reading.Reading.{Reading}
use Rattle.bank.specs.Ports.{Port, Sound, Small, most, none}
use Rattle.junction.specs.declared.feeds.Feeds.{Feeds}
use Rattle.junction.specs.Feeding.{fed}
use Rattle.junction.specs.Gather.{paired, lines, join, part, gather, boxed, shorter}

-- what a port keeps when ports are joined: `Sound` but for the number of gauges
pub record Fair (p : Port) : Type 0 where
  pub short : length p.waiting ≤ 65535
  pub small : Small p.gauges p.waiting
  pub bare : p.gauges ≡ 0 → p.waiting ≡ []

fair : {a : Port} → Sound a → Fair a
fair s = record { short = s.short; small = s.small; bare = s.bare }

none_fair : Fair none
none_fair = record { short = omega arith; small = tt; bare = λ _. refl }

pub length_paired : (xs ys : List Reading) → length (paired xs ys) ≡ min (length xs) (length ys)
length_paired [] ys = omega arith
length_paired (x ∷ xs) [] = omega arith
length_paired (x ∷ xs) (y ∷ ys) = omega (arith, length_paired xs ys)

pub length_lines : (m n : ℕ) (xs ys : List Reading) → length (lines m n xs ys) ≡ shorter m (length xs) n (length ys)
length_lines zero n xs ys = refl
length_lines (suc m) zero xs ys = refl
length_lines (suc m) (suc n) xs ys = length_paired xs ys

size_sum : (a b : ℤ) → unsigned_abs (a +ℤ b) ≤ unsigned_abs a + unsigned_abs b
size_sum a b = omega (arith, ints)

small_paired : (m n : ℕ) (xs ys : List Reading) → Small m xs → Small n ys → Small (m + n) (paired xs ys)
small_paired m n [] ys h k = tt
small_paired m n (x ∷ xs) [] h k = tt
small_paired m n (x ∷ xs) (y ∷ ys) h k = (omega (arith, add-mul m n most, h.0, k.0, size_sum x.load y.load), small_paired m n xs ys h.1 k.1)

small_lines : (m n : ℕ) (xs ys : List Reading) → Small m xs → Small n ys → Small (m + n) (lines m n xs ys)
small_lines zero n xs ys h k = rw zero-add k
small_lines (suc m) zero xs ys h k = rw add-zero h
small_lines (suc m) (suc n) xs ys h k = small_paired (suc m) (suc n) xs ys h k

shorter_le : (m a n b c : ℕ) → a ≤ c → b ≤ c → shorter m a n b ≤ c
shorter_le zero a n b c h k = k
shorter_le (suc m) a zero b c h k = h
shorter_le (suc m) a (suc n) b c h k = omega arith

pub bare_lines : (m n : ℕ) (xs ys : List Reading) → (n ≡ 0 → ys ≡ []) → m + n ≡ 0 → lines m n xs ys ≡ []
bare_lines zero n xs ys h e = h (omega arith)
bare_lines (suc m) n xs ys h e = absurd (omega arith)

join_fair : (a b : Port) → Fair a → Fair b → Fair (join a b)
join_fair a b h k = record {
  short = rw (length_lines a.gauges b.gauges a.waiting b.waiting) (shorter_le a.gauges _ b.gauges _ _ h.short k.short);
  small = small_lines a.gauges b.gauges a.waiting b.waiting h.small k.small;
  bare = bare_lines a.gauges b.gauges a.waiting b.waiting k.bare;
}

cond_fair : (b : Bool) (a : Port) → Fair a → Fair (cond b a none)
cond_fair true a h = h
cond_fair false a h = none_fair

module _ (f : ℕ → ℕ) (m : ℕ → Port) (p : ℕ) (ok : (q : ℕ) → Sound (m q)) where
  pub part_fair : (q : ℕ) → Fair (part f m p q)
  part_fair q = cond_fair (f q == p) (m q) (fair (ok q))

  pub part_few : (q : ℕ) → (part f m p q).gauges ≤ 8
  part_few q = elim (f q == p) as (λ b. (cond b (m q) none).gauges ≤ 8) [ true ↦ (ok q).few | false ↦ omega arith ]

  pub gather_fair : (n : ℕ) → Fair (gather f m p n)
  unfolding gather
  gather_fair zero = none_fair
  gather_fair (suc n) = join_fair (gather f m p n) (part f m p n) (gather_fair n) (part_fair n)

capped_sound : (a : Port) → Fair a → (b : Bool) → (b ≡ true → a.gauges ≤ 8) → Sound (cond b a none)
capped_sound a h true few = record { few = few refl; short = h.short; small = h.small; bare = h.bare }
capped_sound a h false few = record { few = omega arith; short = omega arith; small = tt; bare = λ _. refl }

-- every port of a box on a sound bank is sound
pub boxed_sound : (fs : Feeds) (m : ℕ → Port) → ((q : ℕ) → Sound (m q)) → (p : ℕ) → Sound (boxed fs m p)
boxed_sound fs m ok p = let a = gather (fed fs) m p 32 in capped_sound a (gather_fair (fed fs) m p ok 32) (nat_le a.gauges 8) (leb-true a.gauges 8)
