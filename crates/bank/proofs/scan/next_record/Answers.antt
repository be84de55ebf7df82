use Rattle.std.proofs.Common.{◌≡◌, ◌+◌, ◌∷◌, get_or, drop, ℤ, sym, ap, ◌∙◌, w32, SFits, to_z, of_z, rules, tests}
use Rattle.std.proofs.lemmas.Int.{to_z-of_z}
use Rattle.std.proofs.lemmas.Iterator.{YieldsList-from_slice}
use Rattle.std.proofs.lemmas.Iterator.Search.{position_from_yields_List}
use Rattle.bank.specs.Records.{due}
use Rattle.bank.proofs.Recorded.{blank, of_port, next_some, next_none}
use Rattle.bank.proofs.scan.next_record.Goals as goal

pub returns-in_err-passed : goal.returns-in_err-passed
returns-in_err-passed c =
    let found = position_from_yields_List (of_port c.args.port) _ _ c.position.result c.position.ensures.ran (YieldsList-from_slice _ c.iter.ensures.rest) (λ x b q k. search (rules, tests)) in
    rw c.from_residual-in_err-passed.ensures (next_none c.args.port c.args.from c.args.records.now c.in_ok-ahead.ahead.now c.position.result c.in_ok-ahead.ensures.lookup.0.2 found c.in_err-passed.was)

pub returns : goal.returns
returns c =
    let rs = c.args.records.now in
    let p = c.args.port in
    let i = c.in_ok-passed.passed in
    let d : ℤ = (get_or c.in_ok-ahead.ahead.now i blank).digits in
    let fits : SFits w32 d = search rules in
    let back : to_z w32 (of_z w32 d) ≡ d = to_z-of_z w32 d fits in
    let found = position_from_yields_List (of_port p) _ _ c.position.result c.position.ensures.ran (YieldsList-from_slice _ c.iter.ensures.rest) (λ x b q k. search (rules, tests)) in
    next_some p c.args.from rs c.in_ok-ahead.ahead.now c.position.result c.in_ok-ahead.ensures.lookup.0.2 found i c.in_ok-passed.was ∙ ap (λ (z : ℤ). z ∷ due p (drop (c.args.from + i + 1) rs)) (sym back)
