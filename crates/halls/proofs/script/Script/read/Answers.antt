use Rattle.std.proofs.Common.{◌≡◌, length, drop, ◌==◌, sym, ap, subst, ◌∙◌, arith, rules, tests}
use Rattle.std.proofs.lemmas.List.{at_drop_all, length_push}
use Rattle.std.proofs.lemmas.Iterator.Consumers.{YieldsList-at, YieldsList-from_enumerate, YieldsList-turn, YieldsList-end}
use Rattle.std.proofs.lemmas.Iterator.Splits.{YieldsList-from_slice_split}
use Rattle.halls.specs.Scripts.{course_of, lines_added, lines_of, script_of, Ordered}
use Rattle.halls.proofs.Lines.{goes, few}
use Rattle.halls.proofs.Ordering.{script_ordered}
use Rattle.halls.proofs.script.Script.read.Goals as goal

pub loop-above-preserved : goal.loop-above-preserved
loop-above-preserved c =
    let at = YieldsList-turn (YieldsList-at c.into_iter-above-iterator.ensures.into_iter_gives (YieldsList-from_enumerate (YieldsList-at c.enumerate-above-items.ensures.source (YieldsList-from_slice_split _ (λ b. b == 10) c.args.text.now c.split.ensures.rest c.split.ensures.done c.split.ensures.closure (λ x b q k. search (rules, tests)))) c.enumerate-above-items.ensures.count)) c.loop-above.yielded _ c.loop-above.yielded_by _ _ (c.in-Some.above, c.in-Some.line) c.in-Some.is c.next.ensures.steps in
    let small = few c.args.text.now (length c.loop-above.yielded) c.in-Some.above c.in-Some.line.now at.0 at.1 in
    let more = length_push c.loop-above.yielded (c.in-Some.above, c.in-Some.line) in
    ap (λ n. lines_added (course_of c.add.new.self) (drop n (lines_of c.args.text.now))) more
    ∙ goes (course_of c.loop-above.script) (course_of c.add.new.self) (lines_of c.args.text.now) (length c.loop-above.yielded) c.saturating_add.result c.in-Some.above c.in-Some.line.now at.0 at.1 (omega (arith, small)) c.in_ok-add.ensures
    ∙ c.loop-above.invariant

pub returns : goal.returns
returns c =
    let end = YieldsList-end (YieldsList-at c.into_iter-above-iterator.ensures.into_iter_gives (YieldsList-from_enumerate (YieldsList-at c.enumerate-above-items.ensures.source (YieldsList-from_slice_split _ (λ b. b == 10) c.args.text.now c.split.ensures.rest c.split.ensures.done c.split.ensures.closure (λ x b q k. search (rules, tests)))) c.enumerate-above-items.ensures.count)) c.loop-above.yielded _ c.loop-above.yielded_by _ _ c.in-None.is c.next.ensures.steps in
    let whole : course_of c.loop-above.script ≡ script_of c.args.text.now = sym (at_drop_all (lines_added (course_of c.loop-above.script)) (lines_of c.args.text.now) (length c.loop-above.yielded) (omega (arith, end.1))) ∙ c.loop-above.invariant in
    record { value = whole; ordered = subst (λ k. Ordered k.steps) (sym whole) (script_ordered c.args.text.now) }
