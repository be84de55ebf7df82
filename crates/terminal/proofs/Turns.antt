-- One turn of the loop over a byte run.
use Rattle.std.proofs.Common.{◌≡◌, ℕ, ◌+◌, ◌-◌, ◌<◌, ◌≤◌, List, [], ◌∷◌, ◌++◌, length, take, drop, sym, refl, ap, ◌∙◌, arith, rules}
use borrow.Rule.Slice.PartMut.{put_mid}
use Rattle.std.specs.List.{prefix_len}
use Rattle.std.proofs.lemmas.List.{append_assoc, append-nil, drop_all, drop-drop, take_at, drop_at, length-drop, length-append, length-take-le, take-append-drop}
use Rattle.std.proofs.lemmas.List.Sums.{prefix_len-le-length}
use Rattle.command.specs.Cuts.{plain}
use Rattle.terminal.specs.declared.answers.Stop.{Stop}
use Rattle.terminal.specs.declared.answers.Served.{Served}
use Rattle.scale.specs.declared.hearing.Hearing.{Hearing}
use Rattle.terminal.specs.Buses.{Bus, Word, after, reply, told, uttered, returned}
use Rattle.terminal.specs.Serves.{cut, taken, served, afters, answered, spent, why, report_of}
use Rattle.terminal.proofs.Rooms.{told_long, uttered_long}

-- the first command of a run, and what is left
cut_more : (r : List ℕ) → prefix_len plain r < length r → cut r ≡ take (prefix_len plain r) r ∷ cut (drop (prefix_len plain r + 1) r)
unfolding cut
cut_more [] h = search rules
cut_more (b ∷ bs) h = search (rules, cut_more bs)

cut_none : (r : List ℕ) → prefix_len plain r ≡ length r → cut r ≡ []
unfolding cut
cut_none [] h = refl
cut_none (b ∷ bs) h = search (rules, cut_none bs)

-- what is obeyed of the rest r of a run
module _ (room : ℕ) (b : Bus) (r : List ℕ) where
  served_more : (t : List ℕ) (n : ℕ) → prefix_len plain r < length r → t ≡ take (prefix_len plain r) r → n ≡ prefix_len plain r + 1 → 1088 ≤ room
      → served room b r ≡ t ∷ served (room - length (reply b t).says) (after b t) (drop n r)
  unfolding taken
  served_more t n h p q k = let e = cut_more r h in search rules

  pub served_short : prefix_len plain r < length r → room < 1088 → served room b r ≡ []
  unfolding taken
  served_short h k = let e = cut_more r h in search rules

  pub served_none : prefix_len plain r ≡ length r → served room b r ≡ []
  unfolding taken
  served_none h = search (rules, cut_none)

-- where the loop over a run stands: what is left gives what is to come
pub record Going (b0 : Bus) (run a0 : List ℕ) (b : Bus) (used : ℕ) (a : List ℕ) (written : ℕ) : Type 0 where
  pub within : used ≤ length run
  pub fits : written ≤ length a
  pub long : length a ≡ length a0
  pub state : afters b (served (length a - written) b (drop used run)) ≡ afters b0 (served (length a0) b0 run)
  pub spends : used + spent (served (length a - written) b (drop used run)) ≡ spent (served (length a0) b0 run)
  pub says : take written a ++ answered b (served (length a - written) b (drop used run)) ≡ answered b0 (served (length a0) b0 run)
  pub rest : drop written a ≡ drop written a0

-- nothing more is obeyed
pub going_end : (b0 : Bus) (run a0 : List ℕ) (b : Bus) (used : ℕ) (a : List ℕ) (written : ℕ) → Going b0 run a0 b used a written
    → served (length a - written) b (drop used run) ≡ [] → (y : Stop) → y ≡ why (drop used run)
    → (b ≡ afters b0 (served (length a0) b0 run))
    × (◌≡◌ {A = Served} (record { used = used; written = written; stopped = y }) (report_of b0 run (served (length a0) b0 run)))
    × (a ≡ answered b0 (served (length a0) b0 run) ++ drop written a0) × (written ≤ length a0)
going_end b0 run a0 b used a written g e y yq =
    let w = length-take-le written a g.fits in
    let t = take-append-drop written a in
    search rules

-- one command more: the buffer a with out written over what lay past its first bytes
pub going_more : (b0 : Bus) (run a0 : List ℕ) (b : Bus) (used : ℕ) (a : List ℕ) (written : ℕ) → Going b0 run a0 b used a written
    → (b' : Bus) (r part t out : List ℕ) (n : ℕ) (o : Hearing)
    → r ≡ drop used run → part ≡ drop written a
    → prefix_len plain r < length r → t ≡ take (prefix_len plain r) r → n ≡ prefix_len plain r + 1 → 1088 ≤ length a - written
    → b' ≡ told (length part) b t → o ≡ returned (uttered (length part) b t) → out ≡ (uttered (length part) b t).says ++ drop o.written part → o.written ≤ length part
    → Going b0 run a0 b' (used + n) (put_mid written (length a - written) a out) (written + o.written)
going_more b0 run a0 b used a written g b' r part t out n o rq pq lt tq nq room bq vq oq wl =
    let w = o.written in
    let pl : length part ≡ length a - written = ap length pq ∙ length-drop written a in
    let rl : length r ≡ length run - used = ap length rq ∙ length-drop used run in
    let pr : 1088 ≤ length part = omega (arith, pl) in
    let u = (reply b t).says in
    let ul : (uttered (length part) b t).says ≡ u = ap (λ (z : Word). z.says) (uttered_long (length part) b t pr) in
    let bh : b' ≡ after b t = bq ∙ told_long (length part) b t pr in
    let wu : w ≡ length u = ap (λ (z : Hearing). z.written) vq ∙ ap length ul in
    let tl : length t ≡ prefix_len plain r = ap length tq ∙ length-take-le (prefix_len plain r) r (prefix_len-le-length plain r) in
    let post : drop (length a - written) (drop written a) ≡ [] = drop_all (length a - written) (drop written a) (omega (arith, length-drop written a)) in
    let front = take written a ++ u in
    let fl : length front ≡ written + w = length-append (take written a) u ∙ omega (arith, length-take-le written a g.fits, wu) in
    let a' = put_mid written (length a - written) a out in
    let aq : a' ≡ front ++ drop w part =
    ap (λ z. take written a ++ (out ++ z)) post ∙ ap (λ z. take written a ++ z) (append-nil out ∙ oq ∙ ap (λ z. z ++ drop w part) ul)
    ∙ sym (append_assoc (take written a) u (drop w part)) in
    let al : length a' ≡ length a = ap length aq ∙ length-append front (drop w part) ∙ omega (arith, fl, length-drop w part, pl, g.fits) in
    let m : (length a - written) - length u ≡ length a' - (written + w) = omega (arith, al, wu) in
    let next = served (length a' - (written + w)) b' (drop (used + n) run) in
    let e : served (length a - written) b (drop used run) ≡ t ∷ next =
    ap (served (length a - written) b) (sym rq)
    ∙ served_more (length a - written) b r t n lt tq nq room
    ∙ ap (λ z. t ∷ served z (after b t) (drop n r)) m
    ∙ ap (λ z. t ∷ served (length a' - (written + w)) z (drop n r)) (sym bh)
    ∙ ap (λ z. t ∷ served (length a' - (written + w)) b' z) (ap (drop n) rq ∙ drop-drop n used run) in
    record {
      within = omega (arith, nq, lt, rl);
      fits = omega (arith, al, wl, pl, g.fits);
      long = al ∙ g.long;
      state = ap (λ z. afters z next) bh ∙ sym (ap (afters b) e) ∙ g.state;
      spends = omega (arith, ap spent e, tl, nq, g.spends);
      says =
          ap (λ z. z ++ answered b' next) (ap (take (written + w)) aq ∙ take_at front (drop w part) (written + w) fl)
          ∙ ap (λ z. front ++ answered z next) bh
          ∙ append_assoc (take written a) u (answered (after b t) next)
          ∙ ap (λ z. take written a ++ z) (sym (ap (answered b) e)) ∙ g.says;
      rest =
          ap (drop (written + w)) aq ∙ drop_at front (drop w part) (written + w) fl
          ∙ ap (drop w) (pq ∙ g.rest) ∙ drop-drop w written a0;
    }
