-- The laws of piles.
use Rattle.std.proofs.Common.{◌≡◌, ℕ, zero, suc, ◌+◌, ◌<◌, ◌≤◌, min, Bool, true, false, cond, ◌&&◌, eqb, ltb, ◌≢◌, List, [], ◌∷◌, ◌++◌, length, get_or, sym, refl, ap, ◌∙◌, subst, ⊎_elim, add-zero, zero-add, arith}
use Rattle.std.proofs.lemmas.Bool.{cases_lt, cases_eq, eq-eqb, ne_eqb, ltb-true, lt-ltb, le-ltb, le-leb}
use Rattle.bank.specs.declared.reading.Reading.{Reading}
use Rattle.bank.specs.Ports.{Port, none}
use Rattle.junction.specs.declared.feeds.Feeds.{Feeds}
use Rattle.junction.specs.declared.joins.Join.{Join}
use Rattle.junction.specs.Feeding.{fed, own}
use Rattle.junction.specs.Gather.{both, paired, lines, join, part, gather, boxed}
use Rattle.junction.specs.Limits.{length_paired, boxed_sound}
use Rattle.junction.specs.Joins.{after_joins}
use Rattle.junction.specs.Piles.{from, box_on, pile, reach, fitted, arrivals, gathered, gauge_sum, shortest, reading_of, Gathering, Lawful, Gathers, SameGauges}
use Rattle.junction.proofs.Joining.{Bare, bare_none, none_join, join_none, join_assoc}
use Rattle.junction.proofs.Regroup.{total, gather_total, total_same, cond_bare, regroup, gather_self}
use Rattle.junction.proofs.Rejoined.{well}

-- what waits at a port of a box that eight gauges at most feed
boxed_few : (fs : Feeds) (m : ℕ → Port) (p : ℕ) → (gather (fed fs) m p 32).gauges ≤ 8 → boxed fs m p ≡ gather (fed fs) m p 32
boxed_few fs m p h = let a = le-leb (gather (fed fs) m p 32).gauges 8 h in rw a

-- ---- a port of a pile is gathered from the ports of its bank that reach it
pub pile_gather : (m : ℕ → Port) → Lawful m → (boxes : List (List Join)) (p : ℕ) → p < 32 → pile m boxes p ≡ gather (reach m boxes) m p 32
pile_gather m ok [] p h = sym (gather_self (reach m []) m (λ q. (ok q).bare) p 32 h (λ q k. refl))
pile_gather m ok (js ∷ boxes) p h =
    let fs = after_joins m own js in
    let f = reach (box_on m js) boxes in
    pile_gather (box_on m js) (boxed_sound fs m ok) boxes p h
    ∙ gather_total f (box_on m js) p 32
    ∙ total_same (part f (box_on m js) p) (part f (λ q. gather (fed fs) m q 32) p) 32 (λ q k. ap (λ (a : Port). cond (eqb (f q) p) a none) (boxed_few fs m q ((well m ok js).few q k)))
    ∙ regroup f (fed fs) m (λ q. (ok q).bare) p 32 32 (well m ok js).inside
    ∙ sym (gather_total (reach m (js ∷ boxes)) m p 32)

-- ---- the same, over the list of those that have a gauge
from_more : (s n : ℕ) → from s (suc n) ≡ from s n ++ (s + n) ∷ []
from_more s zero = ap (λ (x : ℕ). x ∷ []) (sym (add-zero s))
from_more s (suc n) = ap (λ (xs : List ℕ). s ∷ xs) (from_more (suc s) n ∙ ap (λ (x : ℕ). from (suc s) n ++ x ∷ []) (omega arith))

gathered_push : (F : ℕ → Port) → ((q : ℕ) → Bare (F q)) → (qs : List ℕ) (x : ℕ) → gathered F (qs ++ x ∷ []) ≡ join (gathered F qs) (F x)
gathered_push F bare [] x = join_none (F x) (bare x) ∙ sym (none_join (F x))
gathered_push F bare (q ∷ qs) x = ap (join (F q)) (gathered_push F bare qs x) ∙ sym (join_assoc (F q) (gathered F qs) (F x))

total_gathered : (F : ℕ → Port) → ((q : ℕ) → Bare (F q)) → (n : ℕ) → total F n ≡ gathered F (from 0 n)
unfolding total
total_gathered F bare zero = refl
total_gathered F bare (suc n) =
    ap (λ (a : Port). join a (F n)) (total_gathered F bare n)
    ∙ ap (λ (x : ℕ). join (gathered F (from 0 n)) (F x)) (sym (zero-add n))
    ∙ sym (gathered_push F bare (from 0 n) (0 + n))
    ∙ ap (gathered F) (sym (from_more 0 n))

-- ---- a port of a list with gauges at every port
abbrev Fitted : (ℕ → Port) → List ℕ → Type 0
Fitted m [] = Unit {0}
Fitted m (q ∷ qs) = (0 < (m q).gauges) × Fitted m qs

module _ (f : ℕ → ℕ) (m : ℕ → Port) (bare : (q : ℕ) → Bare (m q)) (p : ℕ) where
  take_one : (b : Bool) (q : ℕ) (a : Port) (qs : List ℕ) → a ≡ gathered m qs → join (cond b (m q) none) a ≡ gathered m (cond (b && ltb 0 (m q).gauges) (q ∷ qs) qs)
  take_one false q a qs e = none_join a ∙ e
  take_one true q a qs e =
      ⊎_elim
      (λ (h : 0 < (m q).gauges). ap (join (m q)) e ∙ sym (ap (λ (b : Bool). gathered m (cond b (q ∷ qs) qs)) (lt-ltb 0 (m q).gauges h)))
      (λ (h : (m q).gauges ≤ 0). ap (λ (x : Port). join x a) (bare_none (m q) (bare q) (omega arith)) ∙ none_join a ∙ e ∙ sym (ap (λ (b : Bool). gathered m (cond b (q ∷ qs) qs)) (le-ltb 0 (m q).gauges h)))
      (cases_lt 0 (m q).gauges)

  gathered_fitted : (qs : List ℕ) → gathered (part f m p) qs ≡ gathered m (fitted f m p qs)
  unfolding fitted
  gathered_fitted [] = refl
  gathered_fitted (q ∷ qs) = take_one (eqb (f q) p) q (gathered (part f m p) qs) (fitted f m p qs) (gathered_fitted qs)

  gather_fitted : gather f m p 32 ≡ gathered m (fitted f m p (from 0 32))
  gather_fitted = gather_total f m p 32 ∙ total_gathered (part f m p) (λ q. cond_bare (eqb (f q) p) (m q) (bare q)) 32 ∙ gathered_fitted (from 0 32)

  keep_one : (b c : Bool) (q : ℕ) (qs : List ℕ) → (c ≡ true → 0 < (m q).gauges) → Fitted m qs → Fitted m (cond (b && c) (q ∷ qs) qs)
  keep_one true true q qs h k = (h refl, k)
  keep_one true false q qs h k = k
  keep_one false c q qs h k = k

  fitted_all : (qs : List ℕ) → Fitted m (fitted f m p qs)
  unfolding fitted
  fitted_all [] = tt
  fitted_all (q ∷ qs) = keep_one (eqb (f q) p) (ltb 0 (m q).gauges) q (fitted f m p qs) (ltb-true 0 (m q).gauges) (fitted_all qs)

-- ---- its gauges, how many wait, and each reading
lines_fitted : (m n : ℕ) (xs ys : List Reading) → 0 < m → 0 < n → lines m n xs ys ≡ paired xs ys
lines_fitted zero n xs ys h k = absurd (omega arith)
lines_fitted (suc m) zero xs ys h k = absurd (omega arith)
lines_fitted (suc m) (suc n) xs ys h k = refl

lines_last : (m : ℕ) (xs : List Reading) → 0 < m → lines m 0 xs [] ≡ xs
lines_last zero xs h = absurd (omega arith)
lines_last (suc m) xs h = refl

at_paired : (d : Reading) (k : ℕ) (xs ys : List Reading) → k < length (paired xs ys) → get_or (paired xs ys) k d ≡ both (get_or xs k d) (get_or ys k d)
at_paired d k [] ys h = absurd (omega arith)
at_paired d k (x ∷ xs) [] h = absurd (omega arith)
at_paired d zero (x ∷ xs) (y ∷ ys) h = refl
at_paired d (suc k) (x ∷ xs) (y ∷ ys) h = at_paired d k xs ys (omega arith)

module _ (m : ℕ → Port) where
  sum_gathered : (qs : List ℕ) → (gathered m qs).gauges ≡ gauge_sum m qs
  sum_gathered [] = refl
  sum_gathered (q ∷ qs) = ap (λ (n : ℕ). (m q).gauges + n) (sum_gathered qs)

  -- the readings of two ports and more
  more : (q r : ℕ) (qs : List ℕ) → Fitted m (q ∷ r ∷ qs) → (gathered m (q ∷ r ∷ qs)).waiting ≡ paired (m q).waiting (gathered m (r ∷ qs)).waiting
  more q r qs h = lines_fitted (m q).gauges (gathered m (r ∷ qs)).gauges (m q).waiting (gathered m (r ∷ qs)).waiting h.0 (omega (arith, h.1.0))

  shortest_gathered : (qs : List ℕ) → Fitted m qs → length (gathered m qs).waiting ≡ shortest m qs
  shortest_gathered [] h = refl
  shortest_gathered (q ∷ []) h = ap length (lines_last (m q).gauges (m q).waiting h.0)
  shortest_gathered (q ∷ r ∷ qs) h =
      ap length (more q r qs h) ∙ length_paired (m q).waiting (gathered m (r ∷ qs)).waiting ∙ ap (min (length (m q).waiting)) (shortest_gathered (r ∷ qs) h.1)

  reading_gathered : (d : Reading) (k : ℕ) (qs : List ℕ) → Fitted m qs → k < length (gathered m qs).waiting → get_or (gathered m qs).waiting k d ≡ reading_of m k d qs
  reading_gathered d k [] h l = absurd (omega arith)
  reading_gathered d k (q ∷ []) h l = ap (λ (xs : List Reading). get_or xs k d) (lines_last (m q).gauges (m q).waiting h.0)
  reading_gathered d k (q ∷ r ∷ qs) h l =
      let e = more q r qs h in
      let xs = (m q).waiting in
      let ys = (gathered m (r ∷ qs)).waiting in
      let c : k < length (paired xs ys) = subst (λ (zs : List Reading). k < length zs) e l in
      let w = length_paired xs ys in
      ap (λ (zs : List Reading). get_or zs k d) e ∙ at_paired d k xs ys c ∙ ap (both (get_or xs k d)) (reading_gathered d k (r ∷ qs) h.1 (omega arith))

gathering : (m : ℕ → Port) (qs : List ℕ) (a : Port) → Fitted m qs → a ≡ gathered m qs → Gathering m qs a
gathering m qs a h e = record {
  whole = e;
  counted = ap (λ (x : Port). x.gauges) e ∙ sum_gathered m qs;
  waits = ap (λ (x : Port). length x.waiting) e ∙ shortest_gathered m qs h;
  read = λ d k l. ap (λ (x : Port). get_or x.waiting k d) e ∙ reading_gathered m d k qs h (subst (λ (x : Port). k < length x.waiting) e l);
}

pub gathers : Gathers
gathers m ok boxes p h =
    let f = reach m boxes in
    gathering m (arrivals m boxes p) (pile m boxes p) (fitted_all f m (λ q. (ok q).bare) p (from 0 32)) (pile_gather m ok boxes p h ∙ gather_fitted f m (λ q. (ok q).bare) p)

-- ---- two ports that the same gauges reach
same_test : (x y p p' : ℕ) → (x ≡ p → y ≡ p') → (y ≡ p' → x ≡ p) → eqb x p ≡ eqb y p'
same_test x y p p' to back =
    ⊎_elim
    (λ (e : x ≡ p). eq-eqb x p e ∙ sym (eq-eqb y p' (to e)))
    (λ (e : x ≢ p). ne_eqb x p e ∙ sym (ne_eqb y p' (λ (d : y ≡ p'). e (back d))))
    (cases_eq x p)

cond_none : (b : Bool) (a : Port) → a ≡ none → cond b a none ≡ none
cond_none true a e = e
cond_none false a e = refl

pub same_gauges : SameGauges
same_gauges m m' ok ok' alike boxes boxes' p p' h h' same =
    let f = reach m boxes in
    let f' = reach m' boxes' in
    pile_gather m ok boxes p h
    ∙ gather_total f m p 32
    ∙ total_same (part f m p) (part f' m' p') 32 (λ q l.
    ⊎_elim
    (λ (k : 0 < (m q).gauges). λ i. cond (same_test (f q) (f' q) p p' (same q l k).0 (same q l k).1 i) (alike q l i) none)
    (λ (k : (m q).gauges ≤ 0).
    let e : m q ≡ none = bare_none (m q) (ok q).bare (omega arith) in
    cond_none (eqb (f q) p) (m q) e ∙ sym (cond_none (eqb (f' q) p') (m' q) (sym (alike q l) ∙ e)))
    (cases_lt 0 (m q).gauges))
    ∙ sym (gather_total f' m' p' 32)
    ∙ sym (pile_gather m' ok' boxes' p' h')
