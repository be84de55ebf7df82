use Rattle.std.proofs.Common.{map, take, vec_items}
use Rattle.std.specs.Io.KnownBytes.{Appends, append_known}
use Rattle.halls.specs.Said.{reply_of, lines_text}
use Rattle.halls.proofs.running.print_all.Given as goal

-- what was printed, and the block that is not yet, are the lines so far
abbrev pub invariant-loop-reply : goal.invariant-loop-reply
invariant-loop-reply g l = Appends (g.W.Write.contents l.initial.output) (append_known (g.W.Write.contents l.output) (vec_items l.block)) (lines_text (map reply_of (take l.reply-index l.replies)))
