use Rattle.std.proofs.Common.{◌≡◌, ◌++◌, drop, map, vec_items}
use Rattle.halls.specs.Scripts.{met_of}
use Rattle.halls.specs.Said.{reply_of}
use Rattle.halls.specs.Replies.{replies_by, stand_after}
use Rattle.halls.proofs.running.answer_all.Given as goal

abbrev pub invariant-loop-step : goal.invariant-loop-step
invariant-loop-step g l = record {
  replies : map reply_of (vec_items l.so_far) ++ replies_by (g.S.Answering.stand l.stand) (map met_of (drop l.step-index l.steps)) ≡ map reply_of (vec_items l.initial.so_far) ++ replies_by (g.S.Answering.stand l.initial.stand) (map met_of l.steps);
  after : stand_after (g.S.Answering.stand l.stand) (map met_of (drop l.step-index l.steps)) ≡ stand_after (g.S.Answering.stand l.initial.stand) (map met_of l.steps);
}
