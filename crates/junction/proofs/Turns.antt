-- One join more of a list of joins.
use Rattle.std.proofs.Common.{◌≡◌, ℕ, ◌+◌, ◌<◌, ◌≤◌, List, length, get_or, drop, Ok, Err, Result, sym, ap, ◌∙◌, arith}
use Rattle.std.proofs.lemmas.List.{at_drop_more, at_drop_all}
use Rattle.fault.specs.declared.faults.Fault.{Fault}
use Rattle.bank.specs.Ports.{Port}
use Rattle.junction.specs.declared.feeds.Feeds.{Feeds}
use Rattle.junction.specs.declared.joins.Join.{Join}
use Rattle.junction.specs.Feeding.{own}
use Rattle.junction.specs.Joins.{joining, rejoined, after_joins, refusal_count, refusals}

abbrev nowhere : Join
nowhere = record { below = 0; above = 0 }

module _ (m : ℕ → Port) (js : List Join) (i : ℕ) (fs : Feeds) where
  joins_next : i < length js → after_joins m fs (drop i js) ≡ after_joins m (rejoined m fs (get_or js i nowhere).below (get_or js i nowhere).above) (drop (i + 1) js)
  unfolding after_joins
  joins_next h = at_drop_more (after_joins m fs) js i nowhere h

  refusals_next : i < length js → refusals m fs (drop i js) ≡ refusal_count (joining m fs (get_or js i nowhere).below (get_or js i nowhere).above) + refusals m (rejoined m fs (get_or js i nowhere).below (get_or js i nowhere).above) (drop (i + 1) js)
  unfolding refusals
  refusals_next h = at_drop_more (refusals m fs) js i nowhere h

  pub joins_done : length js ≤ i → after_joins m fs (drop i js) ≡ fs
  unfolding after_joins
  joins_done h = at_drop_all (after_joins m fs) js i h

  pub refusals_done : length js ≤ i → refusals m fs (drop i js) ≡ 0
  unfolding refusals
  refusals_done h = at_drop_all (refusals m fs) js i h

-- a turn: the map before and after it, the count before and after it, and what the join answered; k is what the bank shows now, m what it showed at first
module _ (m k : ℕ → Port) (js : List Join) (i : ℕ) (h : i < length js) (fs next : Feeds) (same : k ≡ m) (after : next ≡ rejoined k fs (get_or js i nowhere).below (get_or js i nowhere).above) where
  feeds_next : next ≡ rejoined m fs (get_or js i nowhere).below (get_or js i nowhere).above
  feeds_next = after ∙ ap (λ (x : ℕ → Port). rejoined x fs (get_or js i nowhere).below (get_or js i nowhere).above) same

  pub turn_feeds : (all : Feeds) → after_joins m fs (drop i js) ≡ all → after_joins m next (drop (i + 1) js) ≡ all
  turn_feeds all e = ap (λ (t : Feeds). after_joins m t (drop (i + 1) js)) feeds_next ∙ sym (joins_next m js i fs h) ∙ e

  pub turn_refusals : (all r s : ℕ) (a : Result (Unit {0}) Fault) → a ≡ joining k fs (get_or js i nowhere).below (get_or js i nowhere).above → s ≡ refusal_count a → r + refusals m fs (drop i js) ≡ all → (r + s) + refusals m next (drop (i + 1) js) ≡ all
  turn_refusals all r s a d c e =
      let one : s ≡ refusal_count (joining m fs (get_or js i nowhere).below (get_or js i nowhere).above) = c ∙ ap refusal_count d ∙ ap (λ (x : ℕ → Port). refusal_count (joining x fs (get_or js i nowhere).below (get_or js i nowhere).above)) same in
      let two = refusals_next m js i fs h in
      let three = ap (λ (t : Feeds). refusals m t (drop (i + 1) js)) feeds_next in
      omega (arith, one, two, three, e)

pub at_most_one : (a : Result (Unit {0}) Fault) → refusal_count a ≤ 1
at_most_one (Ok x) = omega arith
at_most_one (Err x) = omega arith

-- the end: the map of the new box, and the map as it is; k is what the bank of the new box shows
module _ (m k : ℕ → Port) (js : List Join) (i : ℕ) (h : length js ≤ i) (first fs : Feeds) (new : first ≡ own) (same : k ≡ m) where
  pub done_feeds : after_joins k fs (drop i js) ≡ after_joins k first js → fs ≡ after_joins m own js
  done_feeds e = sym (joins_done k js i fs h) ∙ e ∙ (λ t. after_joins (same t) (new t) js)

  pub done_refused : (r : ℕ) → r + refusals k fs (drop i js) ≡ refusals k first js → r ≡ refusals m own js
  done_refused r e =
      let z = refusals_done k js i fs h in
      let all : refusals k first js ≡ refusals m own js = λ t. refusals (same t) (new t) js in
      omega (arith, z, all, e)
