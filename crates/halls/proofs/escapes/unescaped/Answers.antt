use Rattle.std.proofs.Common.{◌≡◌, ◌+◌, ◌++◌, ℕ, List, drop, vec_items, sym, ap, ◌∙◌, subst, arith}
use Rattle.std.proofs.lemmas.List.{append-nil}
use Rattle.halls.specs.declared.escapes.Wanted.{Wanted}
use Rattle.halls.specs.Escapes.{Sane, decoded, kept}
use Rattle.halls.proofs.Decoding.{behind, goes}
use Rattle.halls.proofs.escapes.unescaped.Goals as goal
use Rattle.halls.proofs.escapes.unescaped.Goals.{in-Some-byte+in_ok-push, in_default-byte}

pub loop-byte-preserved : goal.loop-byte-preserved
loop-byte-preserved c =
    let t = c.args.text.now in
    let i = c.loop-byte.byte-index in
    let u = c.in-Some.turn in
    let xs : List ℕ = vec_items c.loop-byte.bytes in
    let e = goes xs c.loop-byte.wanted t i u (omega arith) (sym c.in-Some.ensures.value) in
    let added : vec_items c.match-turn.bytes ≡ xs ++ kept u.byte = elim c.match-turn.branch [
      | in-Some-byte+in_ok-push w ↦ ap vec_items w.bytes-is ∙ w.in_ok-push.ensures.items ∙ ap (λ o. xs ++ kept o) (sym w.in-Some-byte.is)
      | in_default-byte w ↦ ap vec_items w.bytes-is ∙ sym (append-nil xs) ∙ ap (λ o. xs ++ kept o) (sym w.in_default-byte.is)
    ] in
    let goes_on : u.next ≡ c.match-turn.wanted = elim c.match-turn.branch [ in-Some-byte+in_ok-push w ↦ sym w.wanted-is | in_default-byte w ↦ sym w.wanted-is ] in
    (ap (λ (w : Wanted). behind (vec_items c.match-turn.bytes) (decoded w (drop (i + 1) t))) (sym goes_on) ∙ ap (λ ys. behind ys (decoded u.next (drop (i + 1) t))) added ∙ sym e ∙ c.loop-byte.invariant.0, subst Sane goes_on c.in-Some.ensures.sane)
