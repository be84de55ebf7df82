-- Blanks and what stands between them. Assumes nothing.
use Rattle.std.specs.Prelude.{ℕ, ◌-◌, Bool, List, length, take, drop, nat_le}
use Rattle.std.specs.List.{prefix_len, suffix_len}

-- bytes up to 20h are blanks
abbrev pub blank : ℕ → Bool
blank b = nat_le b 32

-- from the first byte that is no blank on
abbrev pub skipped : List ℕ → List ℕ
skipped t = drop (prefix_len blank t) t

-- up to the last byte that is no blank
abbrev pub chopped : List ℕ → List ℕ
chopped t = take (length t - suffix_len blank t) t

-- from the first to the last byte that is no blank
abbrev pub trimmed : List ℕ → List ℕ
trimmed t = chopped (skipped t)
