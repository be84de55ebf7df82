-- A port that leaves one chain and comes into another.
use Rattle.std.proofs.Common.{◌≡◌, ℕ, zero, suc, ◌+◌, ◌-◌, ◌<◌, ◌≤◌, eqb, ◌≢◌, List, length, length-set, get_or, set, Some, None, Option, sym, refl, ap, ◌∙◌, subst, ⊎_elim, arith}
use Rattle.std.specs.Option.{option_map}
use Rattle.std.proofs.lemmas.Bool.{ne_eqb, cases_eq, cases_lt}
use Rattle.std.proofs.lemmas.List.{get_or-set_other, get_or-set_same}
use Rattle.bank.specs.declared.address.Address.{Address}
use Rattle.bank.specs.Addresses.{number_of}
use Rattle.std.proofs.Math.ListN.{get_or-map}
use Rattle.junction.specs.Feeding.{FeedMap, feeds_to, fed, next_from}
use Rattle.junction.specs.Chains.{mapped, Chained, link, place_after, Feeder, LastBefore, first_put, next_put}
use Rattle.junction.proofs.Walks.{found, passed, stop}
use Rattle.junction.proofs.Places.{onward, onward_found, onward_passed, onward_skip, alike_from, alike_to, at_place, Apart, one_or_apart, placed, chained_places, put_here, put_apart, first_put_long, next_put_long}

-- ---- the walk to the last port before another
module _ (f : ℕ → ℕ) (p : ℕ) where
  -- a walk passes no port that feeds p
  quiet : (n q : ℕ) → q + n ≡ 32 → (k : ℕ) → q ≤ k → k < stop (next_from f p q n) → f k ≢ p
  unfolding next_from
  quiet zero q h k l m = absurd (omega arith)
  quiet (suc n) q h k l m =
      ⊎_elim
      (λ (e : f q ≡ p). absurd (let s = ap stop (found f p q n e) in omega arith))
      (λ (e : f q ≢ p).
      ⊎_elim
      (λ (d : k ≡ q). subst (λ (x : ℕ). f x ≢ p) (sym d) e)
      (λ (d : k ≢ q). quiet n (suc q) (omega arith) k (omega arith) (subst (λ (o : Option ℕ). k < stop o) (passed f p q n e) m))
      (cases_eq k q))
      (cases_eq (f q) p)

  pub first_last : (o : Option ℕ) → o ≡ next_from f p 0 32 → (b : ℕ) → b ≤ 31 → b ≤ stop o → LastBefore f p b None
  first_last o is b low h = record {
    feeds = tt;
    before = omega arith;
    between = λ q l k. let s = ap stop is in quiet 32 0 refl q (omega arith) (omega arith);
  }

  pub next_last : (q : ℕ) → q ≤ 31 → f q ≡ p → (o : Option ℕ) → o ≡ next_from f (f q) (q + 1) (31 - q) → (b : ℕ) → q < b → b ≤ stop o → LastBefore f p b (Some q)
  next_last q low here o is b past h =
      let so : o ≡ next_from f p (q + 1) (31 - q) = is ∙ ap (λ (x : ℕ). next_from f x (q + 1) (31 - q)) here in
      record {
        feeds = here;
        before = omega arith;
        between = λ k l m. let s = ap stop so in quiet (31 - q) (q + 1) (omega arith) k l (omega arith);
      }

-- ---- what is before the port b in the chain of p, and not the last there, has a port after it before b
ahead : (f : ℕ → ℕ) (p b : ℕ) (last r : Option ℕ) → LastBefore f p b last → Feeder f p r → place_after r ≤ b → Apart p r p last → (s : ℕ) × (f s ≡ p) × (s < b) × (place_after r ≤ s)
ahead f p b None None h feeds l apart = absurd (apart refl)
ahead f p b None (Some q) h feeds l apart = absurd (h.between q (omega arith) (omega arith) feeds)
ahead f p b (Some s) None h feeds l apart = (s, h.feeds, omega (arith, h.before), omega arith)
ahead f p b (Some s) (Some q) h feeds l apart =
    ⊎_elim
    (λ (e : q < s). (s, h.feeds, omega (arith, h.before), omega arith))
    (λ (e : s ≤ q). absurd (let d : q ≢ s = apart in h.between q (omega arith) (omega arith) feeds))
    (cases_lt q s)

-- ---- the port y below, that fed o, is to feed a
module _ (f g : ℕ → ℕ) (o a : ℕ) (y : Address) (differ : o ≢ a) (fed_o : f y.number ≡ o) (feeds_a : g y.number ≡ a) (same : (q : ℕ) → q ≢ y.number → g q ≡ f q) where
  same_before : (q : ℕ) → q < y.number → g q ≡ f q
  same_before q h = same q (λ (e : q ≡ y.number). absurd (omega arith))

  alike_after : (p i : ℕ) → y.number < i → onward f p i ≡ onward g p i
  alike_after p i h = alike_from f g p (32 - i) i (λ q l. let d : q ≢ y.number = (λ (e : q ≡ y.number). absurd (omega arith)) in ap (λ (x : ℕ). eqb x p) (sym (same q d)))

  alike_other : (p i : ℕ) → p ≢ o → p ≢ a → onward f p i ≡ onward g p i
  alike_other p i not_o not_a = alike_from f g p (32 - i) i (λ q l.
      ⊎_elim
      (λ (e : q ≡ y.number).
      ne_eqb (f q) p (λ (k : f q ≡ p). not_o (sym k ∙ ap f e ∙ fed_o))
      ∙ sym (ne_eqb (g q) p (λ (k : g q ≡ p). not_a (sym k ∙ ap g e ∙ feeds_a))))
      (λ (e : q ≢ y.number). ap (λ (x : ℕ). eqb x p) (sym (same q e)))
      (cases_eq q y.number))

  -- a place before y from which the walk meets a port before y
  alike_ahead : (p : ℕ) (last r : Option ℕ) → LastBefore f p y.number last → Feeder f p r → place_after r ≤ y.number → Apart p r p last → onward f p (place_after r) ≡ onward g p (place_after r)
  alike_ahead p last r h feeds l apart =
      let w = ahead f p y.number last r h feeds l apart in
      alike_to f g p w.0 (32 - place_after r) (place_after r) (λ q k. same_before q (omega (arith, w.2))) w.1 w.3 (omega (arith, y.low, w.2))

  -- the walk comes to y
  to_it : (h : ℕ → ℕ) (p : ℕ) (last : Option ℕ) → LastBefore f p y.number last → ((q : ℕ) → q < y.number → h q ≡ f q) → onward h p (place_after last) ≡ onward h p y.number
  to_it h p last is alike =
      onward_skip h p (y.number - place_after last) (place_after last) y.number (omega (arith, is.before)) (omega (arith, y.low))
      (λ q l k. λ (e : h q ≡ p). is.between q l k (sym (alike q k) ∙ e))

  -- before y the two maps feed alike, and y alone came to a
  to_new : (p : ℕ) (r : Option ℕ) → place_after r ≤ y.number → Feeder f p r → Feeder g p r
  to_new p None l feeds = tt
  to_new p (Some q) l feeds = same_before q (omega arith) ∙ feeds

  module _ (first next : List (Option Address)) (long : length first ≡ 32) (wide : length next ≡ 32) (o_low : o < 32) (a_low : a < 32) (inside : (q : ℕ) → q < 32 → g q < 32) (was : Chained f first next)
      (x z v w : Option Address) (last_o : LastBefore f o y.number (option_map number_of x)) (last_a : LastBefore f a y.number (option_map number_of z))
      (v_is : option_map number_of v ≡ onward f o (y.number + 1)) (w_is : option_map number_of w ≡ onward f a (place_after (option_map number_of z))) where
    low : y.number < 32
    low = omega (arith, y.low)

    length_first_put : length (first_put first o x v) ≡ 32
    length_first_put = first_put_long first o x v ∙ long

    length_next_put : length (next_put next x v) ≡ 32
    length_next_put = next_put_long next x v ∙ wide

    -- where it is put, the walk came to it
    arrived : option_map number_of (Some y) ≡ onward g a (place_after (option_map number_of z))
    arrived = sym (onward_found g a y.number low feeds_a) ∙ sym (to_it g a (option_map number_of z) last_a same_before)

    -- past it the chain of a goes on as before
    gone_on : option_map number_of w ≡ onward g a (y.number + 1)
    gone_on =
        let e : suc y.number ≡ y.number + 1 = omega arith in
        w_is ∙ to_it f a (option_map number_of z) last_a (λ q h. refl) ∙ onward_passed f a y.number low (λ (k : f y.number ≡ a). differ (sym fed_o ∙ k))
        ∙ ap (onward f a) e ∙ alike_after a (y.number + 1) (omega arith)

    -- where it left, the chain of o goes on with what came after it
    closed : option_map number_of v ≡ onward g o (place_after (option_map number_of x))
    closed =
        let e : y.number + 1 ≡ suc y.number = omega arith in
        v_is ∙ alike_after o (y.number + 1) (omega arith) ∙ ap (onward g o) e
        ∙ sym (onward_passed g o y.number low (λ (k : g y.number ≡ o). differ (sym k ∙ feeds_a)))
        ∙ sym (to_it g o (option_map number_of x) last_o same_before)

    -- the other places
    kept : (p : ℕ) (r : Option ℕ) → Feeder f p r → Apart p r o (option_map number_of x) → Apart p r a (option_map number_of z) → onward f p (place_after r) ≡ onward g p (place_after r)
    kept p r feeds off_o off_a =
        ⊎_elim
        (λ (l : y.number < place_after r). alike_after p (place_after r) l)
        (λ (l : place_after r ≤ y.number).
        ⊎_elim
        (λ (e : p ≡ o).
        subst (λ (k : ℕ). onward f k (place_after r) ≡ onward g k (place_after r)) (sym e)
        (alike_ahead o (option_map number_of x) r last_o (subst (λ (k : ℕ). Feeder f k r) e feeds) l (subst (λ (k : ℕ). Apart k r o (option_map number_of x)) e off_o)))
        (λ (not_o : p ≢ o).
        ⊎_elim
        (λ (e : p ≡ a).
        subst (λ (k : ℕ). onward f k (place_after r) ≡ onward g k (place_after r)) (sym e)
        (alike_ahead a (option_map number_of z) r last_a (subst (λ (k : ℕ). Feeder f k r) e feeds) l (subst (λ (k : ℕ). Apart k r a (option_map number_of z)) e off_a)))
        (λ (not_a : p ≢ a). alike_other p (place_after r) not_o not_a)
        (cases_eq p a))
        (cases_eq p o))
        (cases_lt y.number (place_after r))

    left : (p : ℕ) → p < 32 → (r : Option ℕ) → place_after r ≤ 32 → Feeder f p r → Apart p r a (option_map number_of z) → at_place (first_put first o x v) (next_put next x v) p r ≡ onward g p (place_after r)
    left p p_low r in_range feeds off_a =
        ⊎_elim
        (λ (e : (p ≡ o) × (r ≡ option_map number_of x)).
        (λ i. at_place (first_put first o x v) (next_put next x v) (e.0 i) (e.1 i))
        ∙ put_here first next o x v long wide o_low (omega (arith, last_o.before))
        ∙ closed ∙ sym (λ i. onward g (e.0 i) (place_after (e.1 i))))
        (λ (off_o : Apart p r o (option_map number_of x)). put_apart first next o x v p r off_o ∙ placed f first next was p p_low r in_range feeds ∙ kept p r feeds off_o off_a)
        (one_or_apart f p r o (option_map number_of x) feeds last_o.feeds)

    -- the chains once it was taken out and knows what comes after it
    stands : (p : ℕ) → p < 32 → (r : Option ℕ) → place_after r ≤ 32 → Feeder g p r → Apart p r a (option_map number_of z) → at_place (first_put first o x v) (set (next_put next x v) y.number w) p r ≡ onward g p (place_after r)
    stands p p_low None in_range feeds off_a = left p p_low None in_range tt off_a
    stands p p_low (Some q) in_range feeds off_a =
        ⊎_elim
        (λ (e : q ≡ y.number).
        let to_a : p ≡ a = sym feeds ∙ ap g e ∙ feeds_a in
        ap (link (set (next_put next x v) y.number w)) e
        ∙ ap (option_map number_of) (get_or-set_same (next_put next x v) y.number w None (omega (arith, length_next_put)))
        ∙ gone_on ∙ sym (λ i. onward g (to_a i) (e i + 1)))
        (λ (e : q ≢ y.number).
        ap (option_map number_of) (get_or-set_other (next_put next x v) y.number q w None e)
        ∙ left p p_low (Some q) in_range (sym (same q e) ∙ feeds) off_a)
        (cases_eq q y.number)

    chained_moved : Chained g (first_put (first_put first o x v) a z (Some y)) (next_put (set (next_put next x v) y.number w) z (Some y))
    chained_moved = chained_places g _ _ inside (λ p p_low r in_range feeds.
        ⊎_elim
        (λ (e : (p ≡ a) × (r ≡ option_map number_of z)).
        (λ i. at_place (first_put (first_put first o x v) a z (Some y)) (next_put (set (next_put next x v) y.number w) z (Some y)) (e.0 i) (e.1 i))
        ∙ put_here (first_put first o x v) (set (next_put next x v) y.number w) a z (Some y) length_first_put (length-set _ _ _ ∙ length_next_put) a_low (omega (arith, last_a.before))
        ∙ arrived ∙ sym (λ i. onward g (e.0 i) (place_after (e.1 i))))
        (λ (off_a : Apart p r a (option_map number_of z)). put_apart (first_put first o x v) (set (next_put next x v) y.number w) a z (Some y) p r off_a ∙ stands p p_low r in_range feeds off_a)
        (one_or_apart g p r a (option_map number_of z) feeds (to_new a (option_map number_of z) last_a.before last_a.feeds)))

-- ---- what comes after the last port before another, as the code reads it
pub after_none : (f : ℕ → ℕ) (p : ℕ) (last x : Option Address) → last ≡ None → option_map number_of x ≡ next_from f p 0 32 → option_map number_of x ≡ onward f p (place_after (option_map number_of last))
after_none f p last x none is = is ∙ sym (ap (λ (o : Option Address). onward f p (place_after (option_map number_of o))) none)

pub after_some : (f : ℕ → ℕ) (p : ℕ) (last x : Option Address) (q : Address) → last ≡ Some q → Feeder f p (option_map number_of last) → option_map number_of x ≡ next_from f (f q.number) (q.number + 1) (31 - q.number) → option_map number_of x ≡ onward f p (place_after (option_map number_of last))
after_some f p last x q some feeds is =
    let here : f q.number ≡ p = subst (λ (o : Option Address). Feeder f p (option_map number_of o)) some feeds in
    let e : 31 - q.number ≡ 32 - (q.number + 1) = omega arith in
    is ∙ (λ i. next_from f (here i) (q.number + 1) (e i)) ∙ sym (ap (λ (o : Option Address). onward f p (place_after (option_map number_of o))) some)

after_it : (f : ℕ → ℕ) (p q : ℕ) (x : Option Address) → p ≡ f q → option_map number_of x ≡ next_from f (f q) (q + 1) (31 - q) → option_map number_of x ≡ onward f p (q + 1)
after_it f p q x here is = let e : 31 - q ≡ 32 - (q + 1) = omega arith in is ∙ sym (λ i. next_from f (here i) (q + 1) (sym e i))

-- the chains of a map that feeds as another does
chained_still : (f g : ℕ → ℕ) (b : ℕ) (first next : List (Option Address)) → g b ≡ f b → ((q : ℕ) → q ≢ b → g q ≡ f q) → Chained f first next → Chained g first next
chained_still f g b first next here other was =
    let same : (q : ℕ) → f q ≡ g q = (λ q. ⊎_elim (λ (e : q ≡ b). ap f e ∙ sym here ∙ sym (ap g e)) (λ (e : q ≢ b). sym (other q e)) (cases_eq q b)) in
    subst (λ (h : ℕ → ℕ). Chained h first next) (λ i. λ q. same q i) was

-- ---- a map of addresses, in which the port y is to feed the port above
fed_inside : (js : List (Option Address)) (q : ℕ) → q < 32 → fed (mapped js) q < 32
fed_inside js q low = subst (λ (o : Option ℕ). feeds_to q o < 32) (sym (get_or-map (option_map number_of) js q None)) (by_hand (get_or js q None)) where
  by_hand : (o : Option Address) → feeds_to q (option_map number_of o) < 32
  by_hand None = low
  by_hand (Some y) = omega (arith, y.low)

module _ (js first next : List (Option Address)) (fs : FeedMap) (view : mapped js ≡ fs) (chained : Chained (fed (mapped js)) first next) (whole : length js ≡ 32) (k : ℕ) (y above : Address) (is : k ≡ y.number) where
  reads : (q : ℕ) → fed (mapped (set js k (Some above))) q ≡ feeds_to q (option_map number_of (get_or (set js y.number (Some above)) q None))
  reads q =
      ap (feeds_to q) (get_or-map (option_map number_of) (set js k (Some above)) q None)
      ∙ ap (λ (n : ℕ). feeds_to q (option_map number_of (get_or (set js n (Some above)) q None))) is

  here : fed (mapped (set js k (Some above))) y.number ≡ above.number
  here = reads y.number ∙ ap (λ (o : Option Address). feeds_to y.number (option_map number_of o)) (get_or-set_same js y.number (Some above) None (omega (arith, y.low)))

  other : (q : ℕ) → q ≢ y.number → fed (mapped (set js k (Some above))) q ≡ fed fs q
  other q apart =
      reads q ∙ ap (λ (o : Option Address). feeds_to q (option_map number_of o)) (get_or-set_other js y.number q (Some above) None apart)
      ∙ sym (ap (feeds_to q) (get_or-map (option_map number_of) js q None)) ∙ ap (λ (m : FeedMap). fed m q) view

  was : Chained (fed fs) first next
  was = subst (λ (m : FeedMap). Chained (fed m) first next) view chained

  -- it fed that port already
  pub turned_still : (o : ℕ) → o ≡ fed fs y.number → o ≡ above.number → Chained (fed (mapped (set js k (Some above)))) first next
  turned_still o fed_o same = chained_still (fed fs) _ y.number first next (here ∙ sym same ∙ fed_o) other was

  -- it fed the port o
  pub turned_moved : length first ≡ 32 → length next ≡ 32 → (o : Address) → o.number ≡ fed fs y.number → o.number ≢ above.number → (x z v w : Option Address) → LastBefore (fed fs) o.number y.number (option_map number_of x) → LastBefore (fed fs) above.number y.number (option_map number_of z)
      → option_map number_of v ≡ next_from (fed fs) (fed fs y.number) (y.number + 1) (31 - y.number) → option_map number_of w ≡ onward (fed fs) above.number (place_after (option_map number_of z))
      → Chained (fed (mapped (set js k (Some above)))) (first_put (first_put first o.number x v) above.number z (Some y)) (next_put (set (next_put next x v) y.number w) z (Some y))
  turned_moved long wide o fed_o differ x z v w last_o last_a v_is w_is =
      chained_moved (fed fs) _ o.number above.number y differ (sym fed_o) here other first next long wide (omega (arith, o.low)) (omega (arith, above.low)) (fed_inside (set js k (Some above))) was x z v w last_o last_a
      (after_it (fed fs) o.number y.number v fed_o v_is) w_is
