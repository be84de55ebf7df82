-- The length of a block. Assumes nothing.
use Rattle.std.proofs.Common.{◌≡◌, ℕ, ◌+◌, ◌*◌, List, ◌++◌, length, ap, ◌∙◌, length-append}
use Rattle.std.specs.List.{flat_map}
use Rattle.value.specs.Blocks.{each_end, last_end, block}
use Rattle.value.specs.declared.block.Ending.{Ending}
use Rattle.value.specs.declared.block.Measured.{Measured}
use Rattle.value.proofs.Filled.{length_joined}

module _ (f : Measured → List ℕ) (wide : ℕ) (long : (m : Measured) → length (f m) ≡ wide) where
  -- the values with what ends each
  pub length_values : (end : List ℕ) (ms : List Measured) → length (flat_map (λ m. f m ++ end) ms) ≡ length ms * (wide + length end)
  length_values end ms = length_joined (λ m. f m ++ end) (wide + length end) (λ m. length-append (f m) end ∙ ap (λ k. k + length end) (long m)) ms

  pub length_block : (e : Ending) (ms : List Measured) → length (block e f ms) ≡ length ms * (wide + length (each_end e)) + length (last_end e)
  length_block e ms =
      length-append (flat_map (λ m. f m ++ each_end e) ms) (last_end e) ∙ ap (λ k. k + length (last_end e)) (length_values (each_end e) ms)
