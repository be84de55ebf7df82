use Rattle.std.proofs.Common.{◌∙◌, rules, tests}
use Rattle.std.specs.Char.{is_ascii_alphanumeric}
use Rattle.std.proofs.lemmas.Iterator.{YieldsList-from_slice}
use Rattle.std.proofs.lemmas.Iterator.Search.{all_from_yields_List}
use Rattle.command.proofs.Fronts.{all_front}
use Rattle.command.proofs.texts.alnum.Goals as goal

pub returns : goal.returns
returns c =
    let t = c.args.bytes.now in
    all_from_yields_List is_ascii_alphanumeric _ _ _ c.all.ensures.ran (YieldsList-from_slice t cc) (λ x b q k. search (rules, tests)) ∙ all_front is_ascii_alphanumeric t
