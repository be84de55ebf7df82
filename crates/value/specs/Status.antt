-- The status of a measured value. Assumes nothing.
use Rattle.std.specs.Prelude.{ℕ, ◌+◌, Bool, cond}

-- 1 where the net value does not fit, 2 where the gross value does not, 4 where a gauge was overdriven, and 8 always
abbrev pub status_byte : Bool → Bool → Bool → ℕ
status_byte net_fits gross_fits overdriven = cond net_fits 0 1 + cond gross_fits 0 2 + cond overdriven 4 0 + 8
