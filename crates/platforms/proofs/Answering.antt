-- One byte run served in an exchange.
use Rattle.std.proofs.Common.{◌≡◌, ◌+◌, ◌*◌, ◌≤◌, ◌++◌, [], ◌∷◌, ℕ, List, length, take, drop, get_or, Some, sym, refl, ap, subst, ◌∙◌, vec_items, rules, arith}
use Rattle.std.proofs.Math.Seq.{take-append_seam}
use Rattle.std.specs.Borrow.{Bor}
use Rattle.bank.specs.Ports.{Port}
use Rattle.terminal.specs.declared.calls.Call.{Call}
use Rattle.terminal.specs.declared.calls.Call.TheVariants.{Serve}
use Rattle.terminal.specs.declared.calls.Exchange.{Exchange}
use Rattle.terminal.specs.Buses.{Bus, after, silent}
use Rattle.terminal.specs.Serves.{answered, served, report_of}
use Rattle.terminal.specs.Transcripts.{said, lines}
use Rattle.terminal.specs.Calls.{Ask, serving, asked, ask_of, outcome_of, sheet, exchanged}
use Rattle.terminal.specs.Laws.{Came, Answered, AllAnswered}
use Rattle.terminal.proofs.Ample.{never_short}
use Rattle.platforms.specs.Halls.{platform}
use Rattle.platforms.specs.Answers.{written_of, Whole}

said_lines : (b : Bus) (ts : List (List ℕ)) → answered b ts ≡ said (lines b ts)
said_lines b [] = refl
said_lines b (t ∷ ts) = search (rules, said_lines (after b t) ts)

one : (b : Bus) (t : Bor (List ℕ)) (x : Exchange) → x.call ≡ Serve t → Answered (said (sheet b (ask_of x))) x (exchanged b x)
    → take (written_of (exchanged b x).outcome) (vec_items (exchanged b x).answers) ≡ answered b (served (length (vec_items x.answers)) b t.now)
one b t x e h =
    let old = vec_items x.answers in
    let n = length old in
    let all = answered b (served n b t.now) in
    let q : ask_of x ≡ serving t.now n = ap (λ (c : Call). asked c n) e in
    let s : said (sheet b (ask_of x)) ≡ all = ap (λ (a : Ask). said (sheet b a)) q ∙ sym (said_lines b (served n b t.now)) in
    ap (λ (a : Ask). take (written_of (Some (outcome_of b a))) (vec_items (exchanged b x).answers)) q
    ∙ ap (take (length all)) h.answers
    ∙ ap (λ (w : List ℕ). take (length all) (w ++ drop (length w) old)) s
    ∙ take-append_seam all (drop (length all) old)

-- the front of the buffer of an exchange that served a run in a new terminal, as far as was written
pub served_says : (m : ℕ → Port) (t : Bor (List ℕ)) (x : Exchange) (e : Bus) (ys : List Exchange) (d d' : Exchange) (k : ℕ) (out : List ℕ) → x.call ≡ Serve t → Came m (x ∷ []) e ys
    → k ≡ written_of (get_or ys 0 d).outcome → out ≡ vec_items (get_or ys 0 d').answers
    → take k out ≡ answered (silent m) (served (length (vec_items x.answers)) (silent m) t.now)
served_says m t x e ys d d' k out q h kq oq =
    let whole = subst (λ (zs : List Exchange). AllAnswered (silent m) (x ∷ []) zs) h.exchanges h.answers in
    ap (λ (j : ℕ). take j out) (kq ∙ ap (λ (zs : List Exchange). written_of (get_or zs 0 d).outcome) h.exchanges)
    ∙ ap (take (written_of (exchanged (silent m) x).outcome)) (oq ∙ ap (λ (zs : List Exchange). vec_items (get_or zs 0 d').answers) h.exchanges)
    ∙ one (silent m) t x q whole.0

-- in the platform's room serving never stops short
pub whole : (n : ℕ) (run : List ℕ) → Whole n run
whole n run h few =
    let enough : 272 * length run + 1088 ≤ n = omega (arith, h, few) in
    let law = never_short n (silent platform) run (report_of (silent platform) run (served n (silent platform) run)) refl in
    (ap (answered (silent platform)) (law.obeys enough), law.stops enough)
