use Rattle.std.proofs.Common.{◌≡◌, length, take}
use Rattle.linked.specs.Halls.{recorded}
use Rattle.linked.proofs.setting_up.write_down.Given as goal

-- the digits before this place are written down
abbrev pub invariant-loop-i : goal.invariant-loop-i
invariant-loop-i l = record {
  so_far : take l.i l.records ≡ recorded (take l.i l.digits);
  many : length l.records ≡ 65535;
}
