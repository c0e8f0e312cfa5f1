use Rattle.std.proofs.Common.{◌≡◌, drop}
use Rattle.console.specs.Numbers.{number_from}
use Rattle.console.proofs.number.number_of.Given as goal

abbrev pub invariant-loop-b : goal.invariant-loop-b
invariant-loop-b l = number_from l.value (drop l.b-index l.field) ≡ number_from 0 l.field
