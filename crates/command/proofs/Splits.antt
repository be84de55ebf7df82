-- The first of two bytes, and the bytes before the first end character. Assumes nothing.
use Rattle.std.proofs.Common.{◌≡◌, ℕ, ◌<◌, ◌≤◌, true, ltb, List, ◌++◌, length, get_or, take, Some, None, sym, ap, ◌∙◌, subst, arith}
use Rattle.std.specs.List.{prefix_len, AllByRecursion}
use Rattle.std.proofs.lemmas.List.{take-append-drop, take_all, drop_more, length-take-le}
use Rattle.std.proofs.lemmas.List.Sums.{prefix_len_stops}
use Rattle.std.proofs.lemmas.Bool.{cond_both, ltb-true, ltb-false}
use Rattle.command.specs.Cuts.{first_of, plain, cut_at, cut_of, Cuts}
use Rattle.command.proofs.Fronts.{front_passes}

-- what is cut off at the first end character keeps the law of splitting
module _ (bs : List ℕ) where
  cuts_some : prefix_len plain bs < length bs → Cuts bs (cut_at bs (Some (prefix_len plain bs)))
  cuts_some h =
      let n = prefix_len plain bs in
      let whole = sym (take-append-drop n bs) ∙ ap (λ t. take n bs ++ t) (drop_more bs n 0 h) in
      let long = length-take-le n bs (omega arith) in
      (front_passes plain bs, (get_or bs n 0, prefix_len_stops plain bs 0 h, whole), omega arith)

  cuts_none : length bs ≤ prefix_len plain bs → Cuts bs (cut_at bs None)
  cuts_none h = let P : List ℕ → Type 0 = λ t. AllByRecursion (λ b. plain b ≡ true) t in subst P (take_all (prefix_len plain bs) bs h) (front_passes plain bs)

  pub cuts : Cuts bs (cut_of bs)
  unfolding first_of
  cuts =
      cond_both (ltb (prefix_len plain bs) (length bs)) (Some (prefix_len plain bs)) None (λ o. Cuts bs (cut_at bs o))
      (λ e. cuts_some (ltb-true _ (length bs) e)) (λ e. cuts_none (ltb-false _ (length bs) e))
