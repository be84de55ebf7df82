use Rattle.std.proofs.Common.{◌≡◌, length, take}
use Rattle.linked.specs.Halls.{row}
use Rattle.linked.proofs.setting_up.joined.Given as goal

-- the joins of the ports before this one stand in the list
abbrev pub invariant-loop-port : goal.invariant-loop-port
invariant-loop-port g l = record {
  so_far : take l.port l.joins ≡ row l.port;
  many : length l.joins ≡ 31;
}
