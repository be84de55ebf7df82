use Rattle.std.proofs.Common.{◌≡◌, length, drop}
use Rattle.halls.specs.Scripts.{course_of, lines_added, lines_of, script_of}
use Rattle.halls.proofs.script.Script.read.Given as goal

abbrev pub invariant-loop-above : goal.invariant-loop-above
invariant-loop-above l = lines_added (course_of l.script) (drop (length l.yielded) (lines_of l.text)) ≡ script_of l.text
