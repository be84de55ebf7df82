use Rattle.std.proofs.Common.{◌≡◌, ℕ, length, take, sym, ap, ◌∙◌, arith}
use Rattle.std.proofs.lemmas.List.{take_all}
use Rattle.linked.specs.Halls.{recorded}
use Rattle.linked.proofs.setting_up.write_down.Goals as goal

pub returns-clause-records : goal.returns-clause-records
returns-clause-records c =
    let ds = c.args.digits.now in
    let done : length ds ≡ c.loop-i.i = omega (arith, c.loop-i-test.false, c.loop-i.auto.i-end) in
    ap (λ (j : ℕ). take j c.loop-i.records) done
    ∙ c.loop-i.invariant.so_far
    ∙ ap (λ (j : ℕ). recorded (take j ds)) (sym done)
    ∙ ap recorded (take_all (length ds) ds (omega arith))
