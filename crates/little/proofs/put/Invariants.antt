use Rattle.std.proofs.Common.{◌≡◌}
use Rattle.little.proofs.Wide.{put_to}
use Rattle.little.proofs.put.Given as goal

abbrev pub invariant-loop-i : goal.invariant-loop-i
invariant-loop-i g l = l.bytes ≡ put_to l.initial.bytes l.at l.n l.i
