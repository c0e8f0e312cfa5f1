use Rattle.std.proofs.Common.{◌≡◌, ◌+◌, ◌-◌}
use Rattle.format.proofs.Rights.{laid}
use Rattle.format.proofs.fresh.lay_rights.Given as goal

abbrev pub invariant-loop-i : goal.invariant-loop-i
invariant-loop-i l = l.image ≡ laid l.initial.image l.base l.max l.divide (l.i - (l.divide + 1))
