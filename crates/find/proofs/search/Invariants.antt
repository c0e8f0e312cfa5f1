use Rattle.std.proofs.Common.{Err, ◌-◌, ◌+◌, ◌≡◌}
use Rattle.refusal.specs.declared.Refusal.TheVariants.{NoPlace}
use Rattle.find.proofs.Finding.{Searching}
use Rattle.find.proofs.search.Given as goal

-- nothing is found so far, and the search stands at candidate i
abbrev pub invariant-loop-i : goal.invariant-loop-i
invariant-loop-i l = record {
  none : l.found ≡ Err NoPlace;
  searching : Searching l.operation l.strip l.i (l.max + 1 - l.i);
}
