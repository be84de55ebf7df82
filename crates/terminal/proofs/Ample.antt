-- How much room the answers to a run want.
use Rattle.std.proofs.Common.{◌≡◌, ◌≢◌, ℕ, ◌+◌, ◌-◌, ◌*◌, ◌<◌, ◌≤◌, eqb, ltb, List, [], ◌∷◌, length, drop, Some, None, Ok, Err, Option, Result, sym, refl, ap, ◌∙◌, subst, ⊎_elim, arith, rules}
use Rattle.std.proofs.lemmas.Grind.{common_steps}
use Rattle.std.proofs.lemmas.List.{length-drop, length-take, length-append}
use Rattle.std.proofs.lemmas.Bool.{cases_lt, cond_both}
use Rattle.std.specs.List.{prefix_len, suffix_len}
use Rattle.fault.specs.declared.causes.Cause.TheVariants.{UnknownCommand}
use Rattle.fault.specs.Faults.{refusal}
use Rattle.fault.specs.declared.faults.Fault.{Fault}
use Rattle.command.specs.Blanks.{blank, skipped, trimmed}
use Rattle.command.specs.Cuts.{first_of}
use Rattle.command.specs.Readings.{form_of, start_of, ordered, order_of, select_of, selected, commanded, allowed, reading}
use Rattle.command.specs.declared.orders.Heard.{Heard}
use Rattle.command.specs.declared.orders.Heard.TheVariants.{Blank, Select, Command}
use Rattle.command.proofs.Rows.{short_sense}
use Rattle.scale.specs.Hearing.{hears}
use Rattle.terminal.specs.declared.answers.Stop.TheVariants.{ShortBuffer}
use Rattle.terminal.specs.declared.answers.Served.{Served}
use Rattle.terminal.specs.Buses.{Bus, worded, after, reply}
use Rattle.terminal.specs.Serves.{cut, taken, served, answered, spent, why, report_of, Spelled, NeverShort}
use Rattle.terminal.proofs.Rooms.{worded_brief}
use Rattle.terminal.proofs.Spelling.{Plain, all_spelled, left_plain, all_plain}

-- ---- a command of fewer than three bytes is blank or refused
abbrev Terse : Result Heard Fault → Type 0
Terse (Err f) = Unit {0}
Terse (Ok Blank) = Unit {0}
Terse (Ok (Select n)) = ⊥
Terse (Ok (Command o)) = ⊥

terse : (t : List ℕ) → length t < 3 → Terse (reading t)
unfolding reading order_of
terse t h = cond_both (ltb 64 (length t)) _ (allowed t (first_of 17 19 t)) Terse (λ _. tt) (λ _. go (first_of 17 19 t))
  where
    short : length (skipped t) < 3
    short = omega (arith, length-drop (prefix_len blank t) t)

    refused : order_of t ≡ Err (refusal UnknownCommand (start_of t))
    refused = ap (ordered t) (short_sense (skipped t) (form_of t) short)

    no_select : select_of (trimmed t) ≡ None
    no_select = let few : length (trimmed t) < 3 = omega (arith, length-take (length (skipped t) - suffix_len blank (skipped t)) (skipped t), short) in search rules

    unknown : Terse (selected t (select_of (trimmed t)))
    unknown = subst (λ o. Terse (selected t o)) (sym no_select) (subst (λ r. Terse (commanded r)) (sym refused) tt)

    go : (o : Option ℕ) → Terse (allowed t o)
    go (Some place) = tt
    go None = cond_both (eqb (length (trimmed t)) 0) (Ok Blank) (selected t (select_of (trimmed t))) Terse (λ _. tt) (λ _. unknown)

worded_terse : (b : Bus) (h : Result Heard Fault) → Terse h → length (worded b h).says ≤ 3
unfolding hears
worded_terse b h k = search rules

-- ---- the answer to one command, and to all
pub reply_within : (b : Bus) (t : List ℕ) → length (reply b t).says ≤ 272 * (length t + 1)
unfolding reply
reply_within b t = ⊎_elim (λ few. omega (arith, worded_terse b (reading t) (terse t few))) (λ more. omega (arith, worded_brief b (reading t))) (cases_lt (length t) 3)

all_taken : (room : ℕ) (b : Bus) (ts : List (List ℕ)) → 272 * spent ts + 1088 ≤ room → taken room b ts ≡ ts
unfolding taken
all_taken room b [] h = refl
all_taken room b (t ∷ ts) h = let ih = all_taken (room - length (reply b t).says) (after b t) ts (omega (arith, reply_within b t)) in search rules

-- what is obeyed is answered within the room
pub taken_within : (room : ℕ) (b : Bus) (ts : List (List ℕ)) → length (answered b (taken room b ts)) ≤ room
unfolding taken reply
taken_within room b [] = omega arith
taken_within room b (t ∷ ts) =
    let ih = taken_within (room - length (reply b t).says) (after b t) ts in
    let few = worded_brief b (reading t) in
    grind (arith, common_steps)

spent_within : (ts : List (List ℕ)) (run : List ℕ) → Spelled ts run → spent ts ≤ length run
spent_within [] run h = omega arith
spent_within (t ∷ ts) run h = let rest = drop (length t + 1) run in omega (arith, spent_within ts rest h.2, ap length h.1.2, length-append t (h.1.0 ∷ rest))

not_short : (r : List ℕ) → Plain r → why r ≢ ShortBuffer
not_short r h = search (rules, all_plain)

pub never_short : (room : ℕ) (b : Bus) (run : List ℕ) (r : Served) → r ≡ report_of b run (served room b run) → NeverShort room b run r
never_short room b run r e =
    let all : 272 * length run + 1088 ≤ room → served room b run ≡ cut run = λ h. all_taken room b (cut run) (omega (arith, spent_within (cut run) run (all_spelled run))) in
    record {
      answers = reply_within b;
      obeys = all;
      stops = λ h s. not_short (drop (spent (cut run)) run) (left_plain run) (sym (ap (λ (x : Served). x.stopped) e ∙ ap (λ ts. why (drop (spent ts) run)) (all h)) ∙ s);
    }
