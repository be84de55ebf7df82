use Rattle.std.proofs.Common.{◌+◌, ◌++◌, drop, map, vec_items, ap, ◌∙◌}
use Rattle.halls.specs.Said.{reply_of}
use Rattle.halls.specs.Scripts.{met_of}
use Rattle.halls.specs.Replies.{replies_by}
use Rattle.halls.proofs.Turns.{replied, stands, added}
use Rattle.halls.proofs.running.answer_all.Goals as goal

pub loop-step-preserved : goal.loop-step-preserved
loop-step-preserved g c =
    let steps = c.args.steps.now in
    let n = c.loop-step.step-index in
    let x = c.step-item.result in
    let s = g.S.Answering.stand c.loop-step.stand in
    let t = g.S.Answering.stand c.reply.new.stand in
    let more = added (vec_items c.loop-step.so_far) (vec_items c.push.new.self) c.in_ok-reply.field-0 c.in_ok-push.ensures.items in
    let e = replied steps n x c.loop-step-test.true c.step-item.is s t c.in_ok-reply.ensures.after (map reply_of (vec_items c.loop-step.so_far)) (reply_of c.in_ok-reply.field-0) c.in_ok-reply.ensures.reply in
    record {
      replies = ap (λ rs. rs ++ replies_by t (map met_of (drop (n + 1) steps))) more ∙ e ∙ c.loop-step.invariant.replies;
      after = stands steps n x c.loop-step-test.true c.step-item.is s t c.in_ok-reply.ensures.after ∙ c.loop-step.invariant.after;
    }
