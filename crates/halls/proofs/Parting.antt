-- Where the steps of a script are parted.
use Rattle.std.proofs.Common.{◌≡◌, ℕ, ◌+◌, Bool, not, List, [], ◌∷◌, length, map, take, drop, cond, nat_le, nat_lt, position, Some, None, refl, sym, ap, ◌∙◌, arith}
use Rattle.std.specs.Option.{unwrap_or}
use Rattle.std.specs.List.{prefix_len, position_or_len}
use Rattle.std.proofs.lemmas.List.{take-map, drop-map}
use Rattle.std.proofs.lemmas.List.Sums.{prefix_len-le-length}
use Rattle.std.proofs.lemmas.Bool.{cond_both, ltb-false}
use Rattle.halls.specs.declared.script.Step.{Step}
use Rattle.halls.specs.declared.stages.Stage.{Stage}
use Rattle.halls.specs.Stages.{rank}
use Rattle.halls.specs.Scripts.{met_of}
use Rattle.halls.specs.Replies.{is_within, upto, beyond}

not_after : (n t : ℕ) → not (nat_lt t n) ≡ nat_le n t
not_after n t = grind arith

-- whether a step comes after a stage
abbrev pub is_after : Stage → Step → Bool
is_after t s = nat_lt (rank t) (rank s.stage)

-- as many steps are within a stage as stand before the first that is after it
within : (t : Stage) (xs : List Step) → position_or_len (is_after t) xs ≡ prefix_len (is_within t) (map met_of xs)
within t [] = refl
within t (x ∷ xs) =
    ap (λ b. cond b (1 + position_or_len (is_after t) xs) 0) (not_after (rank x.stage) (rank t))
    ∙ ap (λ n. cond (nat_le (rank x.stage) (rank t)) (1 + n) 0) (within t xs)

-- where no step is after it, all are within
or_all : (t : Stage) (xs : List Step) → unwrap_or (position (is_after t) xs) (length xs) ≡ position_or_len (is_after t) xs
or_all t xs = cond_both (nat_lt (position_or_len (is_after t) xs) (length xs)) (Some (position_or_len (is_after t) xs)) None (λ o. unwrap_or o (length xs) ≡ position_or_len (is_after t) xs) (λ _. refl)
    (λ e. (let h = ltb-false _ _ e in omega (arith, h, prefix_len-le-length (λ x. not (is_after t x)) xs)))

cut_at : (t : Stage) (xs : List Step) (n : ℕ) → n ≡ unwrap_or (position (is_after t) xs) (length xs) → n ≡ prefix_len (is_within t) (map met_of xs)
cut_at t xs n e = e ∙ or_all t xs ∙ within t xs

pub parted_upto : (t : Stage) (xs : List Step) (n : ℕ) → n ≡ unwrap_or (position (is_after t) xs) (length xs) → map met_of (take n xs) ≡ upto t (map met_of xs)
parted_upto t xs n e = sym (take-map met_of n xs) ∙ ap (λ k. take k (map met_of xs)) (cut_at t xs n e)

pub parted_beyond : (t : Stage) (xs : List Step) (n : ℕ) → n ≡ unwrap_or (position (is_after t) xs) (length xs) → map met_of (drop n xs) ≡ beyond t (map met_of xs)
parted_beyond t xs n e = sym (drop-map met_of n xs) ∙ ap (λ k. drop k (map met_of xs)) (cut_at t xs n e)
