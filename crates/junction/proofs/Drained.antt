-- A pile from which readings were taken is a pile still.
use Rattle.std.proofs.Common.{◌≡◌, ℕ, ◌<◌, ◌≤◌, Bool, true, false, cond, ◌&&◌, eqb, ltb, leb, ◌≢◌, List, [], ◌∷◌, length, refl, sym, ap, ◌∙◌, subst, ⊎_elim, arith}
use Rattle.std.proofs.lemmas.Bool.{cases_eq, cases_Bool, and_parts, leb-true}
use Rattle.std.proofs.lemmas.Bool.Decides.{nat_tests}
use Rattle.bank.specs.declared.reading.Reading.{Reading}
use Rattle.bank.specs.Ports.{Port, Sound, Small, rest, popped, rest_at}
use Rattle.junction.specs.declared.joins.Join.{Join}
use Rattle.junction.specs.Gather.{gather, drawn}
use Rattle.junction.specs.Joins.{SameCounts}
use Rattle.junction.specs.Piles.{pile, reach, after_takes, left_in, Lawful, Alike, TakenPiles}
use Rattle.junction.proofs.Taking.{gather_popped, gather_kept, here, elsewhere}
use Rattle.junction.proofs.Counted.{reach_same}
use Rattle.junction.proofs.Piles.{pile_gather}

-- ---- the bank that is left
rest_short : (xs : List Reading) → length (rest xs) ≤ length xs
rest_short [] = omega arith
rest_short (x ∷ xs) = omega arith

rest_small : (n : ℕ) (xs : List Reading) → Small n xs → Small n (rest xs)
rest_small n [] h = tt
rest_small n (x ∷ xs) h = h.1

popped_sound : (a : Port) → Sound a → Sound (popped a)
popped_sound a s = record {
  few = s.few;
  short = omega (arith, s.short, rest_short a.waiting);
  small = rest_small a.gauges a.waiting s.small;
  bare = λ e. ap rest (s.bare e);
}

cond_sound : (b : Bool) (a : Port) → Sound a → Sound (cond b (popped a) a)
cond_sound true a s = popped_sound a s
cond_sound false a s = s

cond_gauges : (b : Bool) (a : Port) → a.gauges ≡ (cond b (popped a) a).gauges
cond_gauges true a = refl
cond_gauges false a = refl

either_lawful : (b : Bool) (m k : ℕ → Port) → Lawful m → Lawful k → Lawful (cond b k m)
either_lawful true m k h l = l
either_lawful false m k h l = h

either_counts : (b : Bool) (m k : ℕ → Port) → SameCounts m k → SameCounts m (cond b k m)
either_counts true m k h = h
either_counts false m k h = λ q l. refl

module _ (m : ℕ → Port) (ok : Lawful m) (boxes : List (List Join)) (p : ℕ) where
  abbrev f : ℕ → ℕ
  f = reach m boxes

  left_lawful : Lawful (left_in m boxes p)
  left_lawful = either_lawful (leb p 31 && ltb 0 (length (pile m boxes p).waiting)) m (drawn f m p 32) ok (λ q. cond_sound (ltb q 32 && eqb (f q) p) (m q) (ok q))

  left_counts : SameCounts m (left_in m boxes p)
  left_counts = either_counts (leb p 31 && ltb 0 (length (pile m boxes p).waiting)) m (drawn f m p 32) (λ q l. cond_gauges (ltb q 32 && eqb (f q) p) (m q))

  -- over the bank that is left
  left_gather : (q : ℕ) → q < 32 → pile (left_in m boxes p) boxes q ≡ gather f (left_in m boxes p) q 32
  left_gather q h = pile_gather (left_in m boxes p) left_lawful boxes q h ∙ (λ i. gather (λ k. sym (reach_same m (left_in m boxes p) left_counts boxes k) i) (left_in m boxes p) q 32)

  -- one reading is gone at p
  one_gone : (k : ℕ → Port) → k ≡ drawn f m p 32 → (q : ℕ) → q < 32 → p ≤ 31 → gather f k q 32 ≡ rest_at (pile m boxes) p q
  one_gone k was q h low =
      ⊎_elim
      (λ (e : q ≡ p). subst (λ (x : ℕ). gather f k x 32 ≡ rest_at (pile m boxes) p x) (sym e)
      (gather_popped f m k p was 32 (omega arith) ∙ ap popped (sym (pile_gather m ok boxes p (omega arith))) ∙ sym (here (pile m boxes) p low)))
      (λ (e : q ≢ p). gather_kept f m k p was q e 32 (omega arith) ∙ sym (pile_gather m ok boxes q h) ∙ sym (elsewhere (pile m boxes) p q e))
      (cases_eq q p)

  -- none waits there, or there is no such port
  none_gone : (leb p 31 && ltb 0 (length (pile m boxes p).waiting)) ≡ false → (q : ℕ) → pile m boxes q ≡ rest_at (pile m boxes) p q
  none_gone e q = kept (pile m boxes p) (pile m boxes q) (λ (d : q ≡ p). ap (pile m boxes) d) e where
    popped_none : (a : Port) → length a.waiting ≡ 0 → a ≡ popped a
    popped_none a z = λ i. record { gauges = a.gauges; waiting = rest_none a.waiting z i } where
      rest_none : (xs : List Reading) → length xs ≡ 0 → xs ≡ rest xs
      rest_none [] c = refl
      rest_none (x ∷ xs) c = absurd (omega arith)

    kept : (a b : Port) → (q ≡ p → b ≡ a) → (leb p 31 && ltb 0 (length a.waiting)) ≡ false → b ≡ cond (leb p 31 && eqb q p) (popped b) b
    kept a b same c = grind (arith, nat_tests, popped_none)

  pub one_taken : Alike (rest_at (pile m boxes) p) (pile (left_in m boxes p) boxes)
  one_taken q h =
      let waits = leb p 31 && ltb 0 (length (pile m boxes p).waiting) in
      ⊎_elim
      (λ (e : waits ≡ true).
      let was : left_in m boxes p ≡ drawn f m p 32 = ap (λ (b : Bool). cond b (drawn f m p 32) m) e in
      sym (left_gather q h ∙ one_gone (left_in m boxes p) was q h (leb-true p 31 (and_parts _ _ e).0)))
      (λ (e : waits ≡ false).
      let was : left_in m boxes p ≡ m = ap (λ (b : Bool). cond b (drawn f m p 32) m) e in
      sym (none_gone e q) ∙ ap (λ (k : ℕ → Port). pile k boxes q) (sym was))
      (cases_Bool waits)

alike_rest : (a b : ℕ → Port) (p : ℕ) → Alike a b → Alike (rest_at a p) (rest_at b p)
alike_rest a b p same q h = ap (λ (x : Port). cond (leb p 31 && eqb q p) (popped x) x) (same q h)

alike_takes : (a b : ℕ → Port) (ps : List ℕ) → Alike a b → Alike (after_takes a ps) (after_takes b ps)
alike_takes a b [] same = same
alike_takes a b (p ∷ ps) same = alike_takes (rest_at a p) (rest_at b p) ps (alike_rest a b p same)

pub taken_piles : TakenPiles
taken_piles m ok boxes [] = record { lawful = ok; counts = λ q h. refl; shows = λ q h. refl }
taken_piles m ok boxes (p ∷ ps) =
    let more = taken_piles (left_in m boxes p) (left_lawful m ok boxes p) boxes ps in
    record {
      lawful = more.lawful;
      counts = λ q h. left_counts m ok boxes p q h ∙ more.counts q h;
      shows = λ q h. alike_takes (rest_at (pile m boxes) p) (pile (left_in m boxes p) boxes) ps (one_taken m ok boxes p) q h ∙ more.shows q h;
    }
