-- The law of serving.
use Rattle.std.proofs.Common.{◌≡◌, ℕ, ◌+◌, ◌-◌, ◌<◌, Bool, true, false, cond, ltb, List, [], ◌∷◌, ◌++◌, length, drop, sym, refl, subst, arith, rules}
use Rattle.std.specs.List.{prefix_len, AllByRecursion}
use Rattle.std.proofs.lemmas.List.{drop-drop, length-append}
use Rattle.std.proofs.lemmas.Bool.{ltb-true}
use Rattle.command.specs.Cuts.{plain}
use Rattle.terminal.specs.declared.answers.Served.{Served}
use Rattle.terminal.specs.Buses.{Bus, after, reply}
use Rattle.terminal.specs.Serves.{headed, cut, taken, served, answered, spent, why, report_of, Spelled, Roomy, Stops, Serves}

abbrev pub Plain : List ℕ → Type 0
Plain t = AllByRecursion (λ b. plain b ≡ true) t

-- ---- all the commands of a run are spelled in it, and no end character stands in what is left
headed_spelled : (b : ℕ) (bs : List ℕ) → plain b ≡ true → (ts : List (List ℕ)) → Spelled ts bs → Spelled (headed b ts) (b ∷ bs)
headed_spelled b bs p ts h = search rules

headed_left : (b : ℕ) (bs : List ℕ) → plain b ≡ true → (ts : List (List ℕ)) → Plain (drop (spent ts) bs) → Plain (drop (spent (headed b ts)) (b ∷ bs))
headed_left b bs p ts h = search rules

pub all_spelled : (run : List ℕ) → Spelled (cut run) run
unfolding cut
all_spelled [] = tt
all_spelled (b ∷ bs) = let ih = all_spelled bs in search (rules, headed_spelled)

pub left_plain : (run : List ℕ) → Plain (drop (spent (cut run)) run)
unfolding cut
left_plain [] = tt
left_plain (b ∷ bs) = let e : drop (1 + spent (cut bs)) (b ∷ bs) ≡ drop (spent (cut bs)) bs = search rules in search (rules, headed_left, left_plain bs)

-- ---- and so are those that are obeyed
some_spelled : (room : ℕ) (b : Bus) (ts : List (List ℕ)) (run : List ℕ) → Spelled ts run → Spelled (taken room b ts) run
unfolding taken
some_spelled room b [] run h = tt
some_spelled room b (t ∷ ts) run h = let ih = some_spelled (room - length (reply b t).says) (after b t) ts (drop (length t + 1) run) h.2 in search rules

some_roomy : (room : ℕ) (b : Bus) (ts : List (List ℕ)) → Roomy room b (taken room b ts)
unfolding taken
some_roomy room b [] = tt
some_roomy room b (t ∷ ts) = let ih = some_roomy (room - length (reply b t).says) (after b t) ts in search rules

-- ---- why serving stops
pub all_plain : (r : List ℕ) → Plain r → prefix_len plain r ≡ length r
all_plain [] h = refl
all_plain (b ∷ bs) h = let ih = all_plain bs h.1 in search rules

ends_in : (t : List ℕ) (x : ℕ) (rest : List ℕ) → Plain t → plain x ≡ false → prefix_len plain (t ++ x ∷ rest) < length (t ++ x ∷ rest)
ends_in [] x rest h e = search rules
ends_in (b ∷ t) x rest h e = let ih = ends_in t x rest h.1 e in search rules

stops_open : (r : List ℕ) (room : ℕ) → Plain r → Stops (why r) r room
stops_open r room h = search (rules, all_plain)

stops_short : (r : List ℕ) (room : ℕ) → prefix_len plain r < length r → room < 1088 → Stops (why r) r room
stops_short r room lt h = search (rules, all_plain)

some_stops : (room : ℕ) (b : Bus) (ts : List (List ℕ)) (run : List ℕ) → Spelled ts run → Plain (drop (spent ts) run)
    → Stops (why (drop (spent (taken room b ts)) run)) (drop (spent (taken room b ts)) run) (room - length (answered b (taken room b ts)))
unfolding taken
some_stops room b [] run h p = stops_open run (room - 0) p
some_stops room b (t ∷ ts) run h p =
    go (some_stops (room - length (reply b t).says) (after b t) ts (drop (length t + 1) run) h.2 (subst Plain (sym (drop-drop (spent ts) (length t + 1) run)) p)) (ltb room 1088) refl
  where
    u : List ℕ
    u = (reply b t).says

    rest : List (List ℕ)
    rest = taken (room - length (reply b t).says) (after b t) ts

    go : Stops (why (drop (spent rest) (drop (length t + 1) run))) (drop (spent rest) (drop (length t + 1) run)) ((room - length u) - length (answered (after b t) rest))
        → (x : Bool) → ltb room 1088 ≡ x → Stops (why (drop (spent (cond x [] (t ∷ rest))) run)) (drop (spent (cond x [] (t ∷ rest))) run) (room - length (answered b (cond x [] (t ∷ rest))))
    go ih true q =
        let few = ltb-true room 1088 q in
        let lt : prefix_len plain run < length run = subst (λ (z : List ℕ). prefix_len plain z < length z) (sym h.1.2) (ends_in t h.1.0 (drop (length t + 1) run) h.0 h.1.1) in
        stops_short run (room - 0) lt (omega arith)
    go ih false q =
        let d : drop (spent rest) (drop (length t + 1) run) ≡ drop ((length t + 1) + spent rest) run = drop-drop (spent rest) (length t + 1) run in
        let n : (room - length u) - length (answered (after b t) rest) ≡ room - length (u ++ answered (after b t) rest) = omega (arith, length-append u (answered (after b t) rest)) in
        subst (λ (z : List ℕ). Stops (why z) z (room - length (u ++ answered (after b t) rest))) d
        (subst (λ (k : ℕ). Stops (why (drop (spent rest) (drop (length t + 1) run))) (drop (spent rest) (drop (length t + 1) run)) k) n ih)

pub served_so : (room : ℕ) (b : Bus) (run : List ℕ) (r : Served) → r ≡ report_of b run (served room b run) → Serves room b run (served room b run) r
served_so room b run r e = search (rules, all_spelled, left_plain, some_spelled, some_roomy, some_stops)
