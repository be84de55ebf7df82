use Rattle.std.proofs.Common.{cond, ◌&&◌, sym, ap, ◌∙◌, w32, w64, SFits, rules}
use Rattle.std.specs.Ordering.{int_cmp, is_le, is_lt}
use Rattle.std.proofs.lemmas.Int.{to_z-of_z}
use Rattle.command.specs.Arguments.{formats, steps, among, admits}
use Rattle.command.proofs.Ranges.{le_is, among_is, among_fits, formats_fit, steps_fit}
use Rattle.command.proofs.table.Limits.admits.Goals as goal

pub returns-in-Formats : goal.returns-in-Formats
returns-in-Formats c =
    let n = c.args.n in
    record {
      value = c.contains-in-Formats.ensures.value ∙ among_is formats _ ∙ ap (among formats) (to_z-of_z w64 n c.ranges.n) ∙ ap (λ l. admits l n) (sym c.in-Formats.is);
      small = λ m e. among_fits formats formats_fit m (ap (λ l. admits l m) (sym c.in-Formats.is) ∙ e);
    }

pub returns-in-Steps : goal.returns-in-Steps
returns-in-Steps c =
    let n = c.args.n in
    record {
      value = c.contains-in-Steps.ensures.value ∙ among_is steps _ ∙ ap (among steps) (to_z-of_z w64 n c.ranges.n) ∙ ap (λ l. admits l n) (sym c.in-Steps.is);
      small = λ m e. among_fits steps steps_fit m (ap (λ l. admits l m) (sym c.in-Steps.is) ∙ e);
    }

pub returns-in-Between-clause-value : goal.returns-in-Between-clause-value
returns-in-Between-clause-value c =
    let n = c.args.n in
    let lo = c.in-Between.lowest in
    let hi = c.in-Between.highest in
    let fits_lo : SFits w32 lo = search rules in
    let fits_hi : SFits w32 hi = search rules in
    let fits_from : SFits w64 c.from.result = search rules in
    let fits_to : SFits w64 c.from-in-Between.result = search rules in
    let low = c.new.ensures.start ∙ to_z-of_z w64 c.from.result fits_from ∙ c.from.ensures ∙ to_z-of_z w32 lo fits_lo in
    let high = c.new.ensures.end ∙ to_z-of_z w64 c.from-in-Between.result fits_to ∙ c.from-in-Between.ensures ∙ to_z-of_z w32 hi fits_hi in
    let m = to_z-of_z w64 n c.ranges.n in
    c.contains.ensures.value
    ∙ (λ i. is_le (int_cmp (low i) (m i)) && cond (c.new.ensures.exhausted i) (is_lt (int_cmp (m i) (high i))) (is_le (int_cmp (m i) (high i))))
    ∙ (λ i. le_is lo n i && le_is n hi i) ∙ ap (λ l. admits l n) (sym c.in-Between.is)
