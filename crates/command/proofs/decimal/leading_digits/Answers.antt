use Rattle.std.proofs.Common.{◌≡◌, ◌+◌, ◌*◌, ◌^◌, ◌<◌, ◌≤◌, true, length, get_or, fold, refl, sym, ap, ◌∙◌, subst, arith, rules}
use Rattle.std.specs.Char.{is_ascii_digit}
use Rattle.std.specs.List.{prefix_len}
use Rattle.std.proofs.lemmas.Bool.Decides.{nat_tests}
use Rattle.command.specs.Numbers.{more, front, back}
use Rattle.command.proofs.Leading.{below, next, front_one, back_one, count_one, bound_one}
use Rattle.command.proofs.decimal.leading_digits.Goals as goal

pub overflow_mul-value : goal.overflow_mul-value
overflow_mul-value c =
    let high = below c.loop-rest.value (length c.loop-rest.rest.now) 230000000000 c.loop-rest.invariant.3 in
    search rules

pub overflow_add-value : goal.overflow_add-value
overflow_add-value c =
    let high = below c.loop-rest.value (length c.loop-rest.rest.now) 230000000000 c.loop-rest.invariant.3 in
    let digit : is_ascii_digit (get_or c.loop-rest.rest.now 0 0) ≡ true = search rules in
    let nine : get_or c.loop-rest.rest.now 0 0 < 58 = grind (arith, nat_tests) in
    search rules

pub loop-rest-preserved : goal.loop-rest-preserved
loop-rest-preserved c =
    let r = c.loop-rest.rest.now in
    let v = c.loop-rest.value in
    let digit : is_ascii_digit (get_or r 0 0) ≡ true = search rules in
    let some = c.in-48-to-57.len_at_least in
    let i = c.loop-rest.invariant in
    let same = next r _ refl in
    let long = ap length same in
    let count = count_one r some digit in
    let left = ap (prefix_len is_ascii_digit) same in
    let nine : c.from.result ≤ 9 = grind (arith, nat_tests) in
    let high = bound_one v c.from.result 230000000000 r some nine i.3 in
    let rest = i.2 in (
      (λ j. fold more (10 * v + c.from.ensures j) (front (same j))) ∙ front_one v r some digit ∙ i.0,
      ap back same ∙ back_one r some digit ∙ i.1,
      omega (arith, long, count, left, rest),
      subst (λ t. (10 * v + c.from.result + 23) * 10 ^ length t ≤ 230000000000) (sym same) high,
    )
