-- What is read of a reader, and written of the answers.
use Rattle.std.proofs.Common.{◌≡◌, ◌≤◌, ◌++◌, [], ℕ, List, length, take, Some, None, Ok, Err, Option, Result, IfSome, OnOk, subst, ap, ◌∙◌, arith}
use Rattle.std.proofs.lemmas.List.{length-take}
use Rattle.std.specs.Io.KnownBytes.{Appends}
use Rattle.std.specs.Option.{option_map}
use Rattle.platforms.specs.Answers.{answered_in, answers_to, Whole}

first_of_known : (known : Option (List ℕ)) (items : List ℕ) → IfSome (option_map (take 4096) known) (λ xs. items ≡ xs) → IfSome known (λ xs. items ≡ take 4096 xs)
first_of_known None items h = tt
first_of_known (Some xs) items h = h

-- what is read to the end of the first n bytes of a reader into an empty list
pub first_known : (known known' : Option (List ℕ)) (n : ℕ) (old items : List ℕ) → n ≡ 4096 → known' ≡ known → old ≡ []
    → IfSome (option_map (take n) known') (λ xs. items ≡ old ++ xs) → IfSome known (λ xs. items ≡ take 4096 xs)
first_known known known' n old items p q r h =
    first_of_known known items
    (subst (λ (o : List ℕ). IfSome (option_map (take 4096) known) (λ xs. items ≡ o ++ xs)) r
    (subst (λ (k : Option (List ℕ)). IfSome (option_map (take 4096) k) (λ xs. items ≡ old ++ xs)) q
    (subst (λ (m : ℕ). IfSome (option_map (take m) known') (λ xs. items ≡ old ++ xs)) p h)))

few_first : (run xs : List ℕ) → run ≡ take 4096 xs → length run ≤ 4096
few_first run xs e = let n = length-take 4096 xs in let r = ap length e in omega (arith, n, r)

-- what a writer holds once the answers to the first bytes of a reader are written, in room enough
pub answered_input : {E : Type 0} (r : Result (Unit {0}) E) (known old new : Option (List ℕ)) (run out : List ℕ) (n : ℕ) → n ≡ 1115200
    → IfSome known (λ xs. run ≡ take 4096 xs) → out ≡ answered_in n run → Whole n run → OnOk r (Appends old new out)
    → OnOk r (IfSome known (λ xs. Appends old new (answers_to (take 4096 xs))))
answered_input (Err e) known old new run out n room k o w h = tt
answered_input (Ok u) None old new run out n room k o w h = tt
answered_input (Ok u) (Some xs) old new run out n room k o w h =
    subst (Appends old new) (o ∙ (w (omega (arith, room)) (few_first run xs k)).0 ∙ ap answers_to k) h
