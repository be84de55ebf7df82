use Rattle.std.proofs.Common.{◌≡◌, ◌+◌, ◌*◌, ◌^◌, ◌≤◌, length, fold}
use Rattle.std.specs.Char.{is_ascii_digit}
use Rattle.std.specs.List.{prefix_len}
use Rattle.command.specs.Numbers.{more, front, back}
use Rattle.command.proofs.decimal.leading_digits.Given as goal

abbrev pub invariant-loop-rest : goal.invariant-loop-rest
invariant-loop-rest l =
    (fold more l.value (front l.rest) ≡ fold more l.start (front l.text))
    × (back l.rest ≡ back l.text)
    × (length l.rest + prefix_len is_ascii_digit l.text ≡ length l.text + prefix_len is_ascii_digit l.rest)
    × ((l.value + 23) * 10 ^ length l.rest ≤ 23 * 10 ^ 10)

abbrev pub decreases-loop-rest : goal.decreases-loop-rest
decreases-loop-rest l = length l.rest
