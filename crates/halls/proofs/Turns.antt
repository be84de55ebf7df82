-- One step of a script after another.
use Rattle.std.proofs.Common.{◌≡◌, ℕ, ◌+◌, ◌<◌, List, [], ◌∷◌, ◌++◌, length, map, get_or, drop, sym, ap, ◌∙◌}
use Rattle.std.proofs.lemmas.List.{drop_more, append_assoc, map-append}
use Rattle.halls.specs.declared.script.Step.{Step}
use Rattle.halls.specs.Scripts.{Met, met_of}
use Rattle.halls.specs.declared.printing.Reply.{Reply as PrintedReply}
use Rattle.halls.specs.Said.{Reply, reply_of}
use Rattle.halls.specs.Stands.{Stand}
use Rattle.halls.specs.Replies.{reply_to, stand_then, replies_by, stand_after}

module _ (steps : List Step) (n : ℕ) (x : Step) (h : n < length steps) (e : x ≡ get_or steps n x) (s t : Stand) (w : t ≡ stand_then s (met_of x).said) where
  abbrev pub rest : List Met
  rest = map met_of (drop (n + 1) steps)

  -- the steps that are left are the next one and those after it
  left : map met_of (drop n steps) ≡ met_of x ∷ rest
  left = ap (map met_of) (drop_more steps n x h) ∙ ap (λ y. met_of y ∷ rest) (sym e)

  pub stands : stand_after t rest ≡ stand_after s (map met_of (drop n steps))
  stands = ap (λ u. stand_after u rest) w ∙ sym (ap (stand_after s) left)

  pub replied : (xs : List Reply) (r : Reply) → r ≡ reply_to s (met_of x) → (xs ++ r ∷ []) ++ replies_by t rest ≡ xs ++ replies_by s (map met_of (drop n steps))
  replied xs r k =
      append_assoc xs (r ∷ []) (replies_by t rest)
      ∙ ap (λ ys. xs ++ ys) (ap (λ u. r ∷ replies_by u rest) w ∙ ap (λ y. y ∷ replies_by (stand_then s (met_of x).said) rest) k ∙ sym (ap (replies_by s) left))

-- the replies so far and one more
pub added : (xs ys : List PrintedReply) (r : PrintedReply) → ys ≡ xs ++ r ∷ [] → map reply_of ys ≡ map reply_of xs ++ reply_of r ∷ []
added xs ys r e = ap (map reply_of) e ∙ map-append reply_of xs (r ∷ [])
