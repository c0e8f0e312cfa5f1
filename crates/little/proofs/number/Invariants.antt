use Rattle.std.proofs.Common.{◌≡◌}
use Rattle.little.proofs.Wide.{copied}
use Rattle.little.proofs.number.Given as goal

abbrev pub invariant-loop-i : goal.invariant-loop-i
invariant-loop-i g l = l.wide ≡ copied l.bytes l.at l.i
