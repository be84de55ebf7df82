use Rattle.std.proofs.Common.{◌++◌, ◌∷◌, [], ◌∙◌, map, take, vec_items, subst, ap, arith}
use Rattle.std.specs.Io.KnownBytes.{Appends, append_known}
use Rattle.halls.specs.Said.{reply_of, reply_text, lines_text}
use Rattle.halls.proofs.Played.{printed_more, lines_more}
use Rattle.halls.proofs.running.print_all.Goals as goal

pub loop-reply-preserved : goal.loop-reply-preserved
loop-reply-preserved g c =
    let W = g.W.Write.contents in
    let rs = c.args.replies.now in
    let i = c.loop-reply.reply-index in
    let lines = lines_text (map reply_of (take i rs)) in
    subst (Appends (W c.args.output.now) (append_known (W c.hand_on.new.output) (vec_items c.hand_on.new.block))) (ap (λ r. lines ++ (reply_text (reply_of r) ++ 10 ∷ [])) c.reply-item.is ∙ lines_more rs i _ (omega arith))
    (printed_more (W c.args.output.now) (W c.loop-reply.output) (W c.hand_on.new.output) (vec_items c.loop-reply.block) (vec_items c.add_line.new.block) (vec_items c.hand_on.new.block) _ _ c.loop-reply.invariant c.in_ok-add_line.ensures c.in_ok-hand_on.ensures.bytes)
