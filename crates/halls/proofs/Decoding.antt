-- One turn of decoding.
use Rattle.std.proofs.Common.{◌≡◌, ℕ, ◌+◌, ◌<◌, List, ◌++◌, length, get_or, drop, Some, None, Option, sym, refl, ap, ◌∙◌}
use Rattle.std.specs.Option.{option_map}
use Rattle.std.proofs.lemmas.List.{drop_more, append_assoc}
use Rattle.halls.specs.declared.escapes.Wanted.{Wanted}
use Rattle.halls.specs.declared.escapes.Turn.{Turn}
use Rattle.halls.specs.Escapes.{turn_of, kept, onward, decoded}

-- a result behind bytes that stand already
abbrev pub behind : List ℕ → Option (List ℕ) → Option (List ℕ)
behind xs o = option_map (λ ys. xs ++ ys) o

regroup : (xs ys : List ℕ) (o : Option (List ℕ)) → behind xs (behind ys o) ≡ behind (xs ++ ys) o
regroup xs ys None = refl
regroup xs ys (Some zs) = ap Some (sym (append_assoc xs ys zs))

pub goes : (xs : List ℕ) (w : Wanted) (t : List ℕ) (i : ℕ) (u : Turn) → i < length t → turn_of w (get_or t i 0) ≡ Some u → behind xs (decoded w (drop i t)) ≡ behind (xs ++ kept u.byte) (decoded u.next (drop (i + 1) t))
goes xs w t i u h e =
    ap (λ s. behind xs (decoded w s)) (drop_more t i 0 h) ∙ ap (λ o. behind xs (onward o (λ v. decoded v (drop (i + 1) t)))) e
    ∙ regroup xs (kept u.byte) (decoded u.next (drop (i + 1) t))
