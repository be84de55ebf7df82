use Rattle.std.proofs.Common.{◌∙◌, rules, tests}
use Rattle.std.proofs.lemmas.Iterator.{YieldsList-from_slice}
use Rattle.std.proofs.lemmas.Iterator.Search.{find_from_yields_List}
use Rattle.command.specs.declared.table.Row.{Row}
use Rattle.command.specs.Table.{rows, capitals_of}
use Rattle.command.proofs.Rows.{find_is}
use Rattle.command.proofs.lookup.find.Goals as goal

pub returns : goal.returns
returns c =
    let k = c.capitals-capitals.result in
    find_from_yields_List (λ (r : Row). capitals_of r.initials k) _ _ _ c.find.ensures.ran (YieldsList-from_slice rows cc) (λ x b q k. search (rules, tests))
    ∙ find_is rows c.args.initials k (search rules) c.capitals-capitals.ensures
