use Rattle.schedule.specs.Inside.{calls_in}
use Rattle.schedule.proofs.Running.{Running}
use Rattle.schedule.proofs.entries.run_entries.Given as goal

abbrev pub invariant-loop-i : goal.invariant-loop-i
invariant-loop-i l = Running (calls_in l.entries) l.initial.strip l.parties l.initial.text l.strip l.text l.run l.i
