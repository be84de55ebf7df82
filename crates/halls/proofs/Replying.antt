-- Each step of a script has one reply.
use Rattle.std.proofs.Common.{ℕ, List, [], ◌∷◌, ◌++◌, refl, ap, subst}
use Rattle.std.specs.List.{prefix_len}
use Rattle.std.proofs.lemmas.List.{take-append-drop}
use Rattle.bank.specs.Ports.{Port}
use Rattle.halls.specs.declared.stages.Stage.{Stage}
use Rattle.halls.specs.Scripts.{Met}
use Rattle.halls.specs.Said.{Reply}
use Rattle.halls.specs.Stands.{Stand, shown}
use Rattle.halls.specs.Replies.{said_of, stand_then, replies_by, stand_after, is_within, upto, beyond, by_stages, EachReplied}

one : (s : Stand) (ms : List Met) → EachReplied ms (replies_by s ms)
one s [] = tt
one s (m ∷ ms) = (record { line = refl; refused = λ e h. ap (said_of s) h }, one (stand_then s m.said) ms)

joined : (ms ns : List Met) (rs qs : List Reply) → EachReplied ms rs → EachReplied ns qs → EachReplied (ms ++ ns) (rs ++ qs)
joined [] ns [] qs h k = k
joined [] ns (r ∷ rs) qs h k = absurd h
joined (m ∷ ms) ns [] qs h k = absurd h
joined (m ∷ ms) ns (r ∷ rs) qs h k = (h.0, joined ms ns rs qs h.1 k)

pub each_replied : (s : Stand) (ts : List (Stage × ((ℕ → Port) → Stand))) (ms : List Met) → EachReplied ms (by_stages s ts ms)
each_replied s [] ms = one s ms
each_replied s (t ∷ ts) ms =
    subst (λ all. EachReplied all (by_stages s (t ∷ ts) ms)) (take-append-drop (prefix_len (is_within t.0) ms) ms)
    (joined (upto t.0 ms) (beyond t.0 ms) (replies_by s (upto t.0 ms)) _ (one s (upto t.0 ms)) (each_replied (t.1 (shown (stand_after s (upto t.0 ms)))) ts (beyond t.0 ms)))
