use Rattle.std.proofs.Common.{◌≡◌, ◌++◌, drop, vec_items}
use Rattle.std.specs.Option.{option_map}
use Rattle.halls.specs.declared.escapes.Wanted.TheVariants.{Any}
use Rattle.halls.specs.Escapes.{Sane, decoded}
use Rattle.halls.proofs.escapes.unescaped.Given as goal

abbrev pub invariant-loop-byte : goal.invariant-loop-byte
invariant-loop-byte l = (option_map (λ xs. vec_items l.bytes ++ xs) (decoded l.wanted (drop l.byte-index l.text)) ≡ decoded Any l.text) × Sane l.wanted
