use Rattle.std.proofs.Common.{rules}
use Rattle.console.specs.Fields.{is_ink}
use Rattle.console.proofs.Fields.{first_at}
use Rattle.console.proofs.line.blanks.Goals as goal

pub returns-clause-value : goal.returns-clause-value
returns-clause-value c = first_at is_ink _ _ c.first.ensures.bound (λ i h. let met = c.first.ensures.before i h in search (rules, met)) (λ h. let met = c.first.ensures.at h in search (rules, met))
