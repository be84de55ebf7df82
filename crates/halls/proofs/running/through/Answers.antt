use Rattle.std.proofs.Common.{map, ap, ◌∙◌, length}
use Rattle.std.specs.Option.{unwrap_or}
use Rattle.halls.specs.Scripts.{met_of}
use Rattle.halls.proofs.Parting.{parted_upto, parted_beyond}
use Rattle.halls.proofs.running.through.Goals as goal

pub returns-clause-within : goal.returns-clause-within
returns-clause-within c =
    ap (map met_of) c.split_at.ensures.front
    ∙ parted_upto c.args.stage c.args.steps.now c.unwrap_or-end.result (c.unwrap_or-end.ensures ∙ ap (λ o. unwrap_or o (length c.args.steps.now)) c.first_after.ensures)

pub returns-clause-after : goal.returns-clause-after
returns-clause-after c =
    ap (map met_of) c.split_at.ensures.back
    ∙ parted_beyond c.args.stage c.args.steps.now c.unwrap_or-end.result (c.unwrap_or-end.ensures ∙ ap (λ o. unwrap_or o (length c.args.steps.now)) c.first_after.ensures)
