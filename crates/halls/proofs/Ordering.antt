-- The stages of a script do not go back.
use Rattle.std.proofs.Common.{ℕ, ◌+◌, ◌≤◌, Bool, true, false, nat_le, List, [], ◌∷◌, ◌++◌, Some, None, Ok, Err, Option, Result, arith}
use Rattle.std.specs.List.{AllByRecursion}
use Rattle.std.specs.Result.{result_unwrap_or}
use Rattle.std.proofs.lemmas.Bool.{cond_both, leb-true}
use Rattle.halls.specs.declared.stages.Stage.{Stage}
use Rattle.halls.specs.declared.stages.Stage.TheVariants.{Opening, Fitting, FirstBox, SecondBox, ThirdBox, FourthBox, Asking, Talking}
use Rattle.halls.specs.declared.requests.Kind.TheVariants.{Dials}
use Rattle.halls.specs.declared.requests.Reason.{Reason}
use Rattle.halls.specs.declared.requests.Request.{Request}
use Rattle.halls.specs.declared.requests.Request.TheVariants.{Bank, Fit, Set, Record, Join, Gauges, Waiting, Take, Obey, Serve, Split}
use Rattle.halls.specs.Stages.{rank}
use Rattle.halls.specs.Order.{opened, entered}
use Rattle.halls.specs.Lines.{Asked, Plain, Obeying, Serving, Splitting, request_of, idle}
use Rattle.halls.specs.Scripts.{Met, Course, let_in, stage_then, noted, stepped, line_added, lines_added, lines_of, script_of, belongs, suits, Ordered}

-- no step is of a later stage than s
abbrev Below : Stage → List Met → Type 0
Below s ms = AllByRecursion (λ m. rank m.stage ≤ rank s) ms

record Sorted (c : Course) : Type 0 where
  ordered : Ordered c.steps
  below : Below c.stage c.steps

opened_up : (t : Stage) → rank t ≤ rank (opened t)
opened_up Opening = omega arith
opened_up Fitting = omega arith
opened_up FirstBox = omega arith
opened_up SecondBox = omega arith
opened_up ThirdBox = omega arith
opened_up FourthBox = omega arith
opened_up Asking = omega arith
opened_up Talking = omega arith

-- a script's stage does not go back
entered_up : (s : Stage) (o : Option Stage) (b : Bool) → rank s ≤ rank (result_unwrap_or (entered s o b) s)
entered_up s None b = omega arith
entered_up s (Some t) true =
    cond_both (nat_le (rank s) (rank t)) _ _ (λ r. rank s ≤ rank (result_unwrap_or r s)) (λ e. (let h = leb-true _ _ e in omega (arith, h, opened_up t))) (λ _. omega arith)
entered_up s (Some t) false =
    cond_both (nat_le (rank s) (rank t)) _ _ (λ r. rank s ≤ rank (result_unwrap_or r s)) (λ _. omega arith) (λ _. omega arith)

stage_up : (c : Course) (r : Result Asked Reason) → rank c.stage ≤ rank (stage_then c r)
stage_up c (Ok a) = entered_up c.stage (belongs a) (suits a c.kind)
stage_up c (Err e) = omega arith

raised : (s t : Stage) (ms : List Met) → rank s ≤ rank t → Below s ms → Below t ms
raised s t [] h k = tt
raised s t (m ∷ ms) h k = (omega (arith, h, k.0), raised s t ms h k.1)

-- what is kept of a request leaves steps and stage
kept_sorted : (c : Course) (r : Request) → Sorted c → Sorted (noted c (Ok (Plain r)))
kept_sorted c (Bank k) h = record { ordered = h.ordered; below = h.below }
kept_sorted c (Fit p f) h = h
kept_sorted c (Set p d n) h = h
kept_sorted c (Record x) h = record { ordered = h.ordered; below = h.below }
kept_sorted c (Join s j) h = h
kept_sorted c (Gauges p) h = h
kept_sorted c (Waiting p) h = h
kept_sorted c (Take p) h = h
kept_sorted c (Obey t) h = h
kept_sorted c (Serve t) h = h
kept_sorted c (Split bs) h = h

noted_sorted : (c : Course) (r : Result Asked Reason) → Sorted c → Sorted (noted c r)
noted_sorted c (Ok (Plain r)) h = kept_sorted c r h
noted_sorted c (Ok (Obeying n bs)) h = h
noted_sorted c (Ok (Serving n bs)) h = h
noted_sorted c (Ok (Splitting bs)) h = h
noted_sorted c (Err e) h = h

all_more : (a : ℕ) (ms : List Met) (x : Met) → AllByRecursion (λ m. a ≤ rank m.stage) ms → a ≤ rank x.stage → AllByRecursion (λ m. a ≤ rank m.stage) (ms ++ x ∷ [])
all_more a [] x h k = (k, tt)
all_more a (m ∷ ms) x h k = (h.0, all_more a ms x h.1 k)

below_more : (s : Stage) (ms : List Met) (x : Met) → Below s ms → rank x.stage ≤ rank s → Below s (ms ++ x ∷ [])
below_more s [] x h k = (k, tt)
below_more s (m ∷ ms) x h k = (h.0, below_more s ms x h.1 k)

ordered_more : (ms : List Met) (x : Met) → Ordered ms → Below x.stage ms → Ordered (ms ++ x ∷ [])
ordered_more [] x h k = (tt, tt)
ordered_more (m ∷ ms) x h k = (all_more (rank m.stage) ms x h.0 k.0, ordered_more ms x h.1 k.1)

stepped_sorted : (c : Course) (n : ℕ) (r : Result Asked Reason) → Sorted c → Sorted (stepped c n r)
stepped_sorted c n r h = record {
  ordered = ordered_more c.steps (record { line = n; stage = c.stage; said = r }) h.ordered h.below;
  below = below_more c.stage c.steps (record { line = n; stage = c.stage; said = r }) h.below (omega arith);
}

line_sorted : (c : Course) (n : ℕ) (l : List ℕ) → Sorted c → Sorted (line_added c n l)
line_sorted c n l h =
    let r = request_of l in
    let t = stage_then c r in
    let on : Sorted (record c { stage = t }) = record { ordered = h.ordered; below = raised c.stage t c.steps (stage_up c r) h.below } in
    cond_both (idle l) c _ Sorted (λ _. h) (λ _. stepped_sorted (noted (record c { stage = t }) (let_in c r)) n (let_in c r) (noted_sorted (record c { stage = t }) (let_in c r) on))

lines_sorted : (c : Course) (ls : List (ℕ × List ℕ)) → Sorted c → Sorted (lines_added c ls)
lines_sorted c [] h = h
lines_sorted c (p ∷ ps) h = lines_sorted (line_added c (p.0 + 1) p.1) ps (line_sorted c (p.0 + 1) p.1 h)

pub script_ordered : (t : List ℕ) → Ordered (script_of t).steps
script_ordered t = (lines_sorted (record { kind = Dials; records = []; steps = []; stage = Opening }) (lines_of t) (record { ordered = tt; below = tt })).ordered
