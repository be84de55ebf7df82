-- What each call leaves, one turn of the loop over exchanges, and the laws of whole runs.
use Rattle.std.proofs.Common.{◌≡◌, ℕ, ◌+◌, ◌<◌, ◌≤◌, List, [], ◌∷◌, ◌++◌, map, length, get_or, set, take, drop, Some, sym, refl, ap, ◌∙◌, subst, vec_items, vec_len, arith, rules}
use Rattle.std.proofs.lemmas.Grind.{common_steps}
use Rattle.std.proofs.lemmas.List.{length-append, length-drop, with_items_is}
use Rattle.std.specs.Vec.{with_items}
use Rattle.bank.specs.Ports.{Port}
use Rattle.junction.specs.Piles.{pile}
use Rattle.junction.proofs.Piles.{gathers, same_gauges}
use Rattle.command.specs.Readings.{reading}
use Rattle.scale.specs.declared.modes.Mode.TheVariants.{Selected}
use Rattle.scale.specs.States.{fresh}
use Rattle.terminal.specs.declared.calls.Call.{Call}
use Rattle.terminal.specs.declared.calls.Call.TheVariants.{Obey, Serve}
use Rattle.terminal.specs.declared.calls.Exchange.{Exchange}
use Rattle.terminal.specs.declared.calls.Outcome.{Outcome}
use Rattle.terminal.specs.declared.calls.Outcome.TheVariants.{Command, Run}
use Rattle.terminal.specs.Buses.{Bus, after, reply, silent, uttered}
use Rattle.terminal.specs.Serves.{cut, afters, answered, served}
use Rattle.terminal.specs.Transcripts.{Line, lines, said, heard, voiced}
use Rattle.terminal.specs.Calls.{Ask, obeying, serving, asked, ask_of, executed, outcome_of, sheet, next, exchanged, settled, closing, transcript}
use Rattle.terminal.specs.Laws.{Answered, AllAnswered, OwnAffair, follow, AsAlone, Regrouped, Came}
use Rattle.terminal.proofs.Rooms.{worded_brief}
use Rattle.terminal.proofs.Ample.{taken_within}
use Rattle.terminal.proofs.Affairs.{projected}

-- ---- one call
said_lines : (b : Bus) (ts : List (List ℕ)) → answered b ts ≡ said (lines b ts)
said_lines b [] = refl
said_lines b (t ∷ ts) = search (rules, said_lines (after b t) ts)

-- ---- an exchange
abbrev written_of : Outcome → ℕ
written_of (Command r) = r.written
written_of (Run r) = r.written

abbrev spoke : Bus → Ask → List ℕ
spoke b (obeying t room) = (uttered room b t).says
spoke b (serving t room) = answered b (served room b t)

spoke_said : (b : Bus) (a : Ask) → spoke b a ≡ said (sheet b a)
spoke_said b (obeying t room) = search (rules, said_lines)
spoke_said b (serving t room) = said_lines b (served room b t)

-- the call of x returned w and left out in its buffer
pub made : (b : Bus) (x y : Exchange) (w : Outcome) (now out : List ℕ)
    → y ≡ record { call = x.call; answers = with_items x.answers out; outcome = x.outcome } → now ≡ vec_items x.answers
    → w ≡ outcome_of b (ask_of x) → out ≡ spoke b (ask_of x) ++ drop (written_of w) now
    → ◌≡◌ {A = Exchange} (record { call = y.call; answers = y.answers; outcome = Some w }) (exchanged b x)
made b x y w now out yq nq wq oq = search (rules, spoke_said)

-- its answers fit into its buffer
spoke_within : (b : Bus) (c : Call) (room : ℕ) → length (spoke b (asked c room)) ≤ room
unfolding reply
spoke_within b (Obey t) room = let few = worded_brief b (reading t.now) in grind arith
spoke_within b (Serve t) room = taken_within room b (cut t.now)

answered_one : (b : Bus) (x : Exchange) → Answered (said (sheet b (ask_of x))) x (exchanged b x)
answered_one b x =
    let says = said (sheet b (ask_of x)) in
    let items = vec_items x.answers in
    let fits = subst (λ ws. length ws ≤ length items) (spoke_said b (ask_of x)) (spoke_within b x.call (length items)) in
    let ws = says ++ drop (length says) items in
    let long : length ws ≡ vec_len x.answers = omega (arith, length-append says (drop (length says) items), length-drop (length says) items, fits, x.answers.ok.0) in
    let written = with_items_is x.answers ws long in
    record { call = refl; answers = written; room = ap length written ∙ long ∙ x.answers.ok.0 }

-- ---- a list of exchanges
all_answered : (b : Bus) (xs : List Exchange) → AllAnswered b xs (settled b xs)
all_answered b [] = refl
all_answered b (x ∷ xs) = (answered_one b x, all_answered (next b (ask_of x)) xs)

-- one exchange more
pub settled_more : (xs : List Exchange) (i : ℕ) (b b' : Bus) (d y : Exchange) (zs : List Exchange) (e : Bus) → i < length xs
    → b' ≡ next b (ask_of (get_or xs i d)) → y ≡ exchanged b (get_or xs i d)
    → closing b (map ask_of (drop i xs)) ≡ e → take i xs ++ settled b (drop i xs) ≡ zs
    → (closing b' (map ask_of (drop (i + 1) (set xs i y))) ≡ e) × (take (i + 1) (set xs i y) ++ settled b' (drop (i + 1) (set xs i y)) ≡ zs)
settled_more xs i b b' d y zs e h s u q f = grind (arith, common_steps)

settled_all : (xs : List Exchange) (i : ℕ) (b : Bus) (zs : List Exchange) (e : Bus) → length xs ≤ i
    → closing b (map ask_of (drop i xs)) ≡ e → take i xs ++ settled b (drop i xs) ≡ zs
    → (b ≡ e) × (xs ≡ zs)
settled_all xs i b zs e h q f = grind (arith, common_steps)

-- ---- the calls as one list of commands
abbrev commands : Bus → List Ask → List (List ℕ)
commands b [] = []
commands b (a ∷ rest) = executed b a ++ commands (next b a) rest

afters_append : (b : Bus) (ts us : List (List ℕ)) → afters b (ts ++ us) ≡ afters (afters b ts) us
afters_append b [] us = refl
afters_append b (t ∷ ts) us = afters_append (after b t) ts us

lines_append : (b : Bus) (ts us : List (List ℕ)) → lines b (ts ++ us) ≡ lines b ts ++ lines (afters b ts) us
lines_append b [] us = refl
lines_append b (t ∷ ts) us = search (rules, lines_append (after b t) ts us)

closes : (b : Bus) (asks : List Ask) → closing b asks ≡ afters b (commands b asks)
closes b [] = refl
closes b (a ∷ rest) = search (rules, closes (next b a) rest, afters_append)

transcribes : (b : Bus) (asks : List Ask) → transcript b asks ≡ lines b (commands b asks)
transcribes b [] = refl
transcribes b (a ∷ rest) = search (rules, transcribes (next b a) rest, lines_append)

-- ---- the laws
as_alone : (p : ℕ → Port) (asks : List Ask) (e : Bus) → e ≡ closing (silent p) asks → AsAlone p asks e
as_alone p asks e q a m =
    let ts = commands (silent p) asks in
    let k = transcribes (silent p) asks in
    let s = q ∙ closes (silent p) asks in
    (λ i. record { state = (s i).scales a; port = (s i).ports a; answers = voiced a (k i) })
    ∙ projected a (silent p) m ts (λ _ n none. cc)
    ∙ ap (λ (ls : List Line). follow a m fresh (p a) (heard a ls)) (sym k)

own_affair : (p : ℕ → Port) (asks : List Ask) (e : Bus) → e ≡ closing (silent p) asks → OwnAffair p asks e
own_affair p asks e q a p' asks' start same =
    let here = as_alone p asks e q a Selected in
    let there = as_alone p' asks' (closing (silent p') asks') refl a Selected in
    search rules

regrouped : (p : ℕ → Port) (asks : List Ask) (e : Bus) → e ≡ closing (silent p) asks → Regrouped p asks e
regrouped p asks e q m m' ok ok' alike boxes boxes' stands a low reach asks' same =
    own_affair p asks e q a (pile m' boxes') asks' ((λ i. stands i a) ∙ same_gauges m m' ok ok' alike boxes boxes' a a low low reach) same

-- no exchange is left
pub came : (p : ℕ → Port) (before xs : List Exchange) (i : ℕ) (b0 b : Bus) → b0 ≡ silent p → length xs ≤ i
    → closing b (map ask_of (drop i xs)) ≡ closing b0 (map ask_of before) → take i xs ++ settled b (drop i xs) ≡ settled b0 before
    → Came p before b xs
came p before xs i b0 b q h e f =
    let all = settled_all xs i b _ _ h e f in
    let s = all.0 ∙ ap (λ z. closing z (map ask_of before)) q in
    let l = all.1 ∙ ap (λ z. settled z before) q in
    let w = subst (AllAnswered (silent p) before) (sym l) (all_answered (silent p) before) in
    search (rules, own_affair, as_alone, gathers, same_gauges, regrouped)
