use Rattle.std.proofs.Common.{◌∙◌, refl, ap}
use Rattle.std.specs.declared.result.Result.TheVariants.{Err}
use Rattle.logic.specs.Pick.{pick}
use Rattle.refusal.specs.declared.Refusal.TheVariants.{NotValid}
use Rattle.refusal.specs.Refusal.{Check}
use Rattle.pieces.specs.Pieces.{all_below}
use Rattle.whole.specs.Whole.{is_valid_in}
use Rattle.whole.proofs.Found.{one_more_refused}
use Rattle.whole.proofs.table_refusal.Goals as goal

pub loop-r-init : goal.loop-r-init
unfolding all_below
loop-r-init c = refl

pub loop-r-preserved : goal.loop-r-preserved
loop-r-preserved c =
    let loop = c.loop-r in
    let valid = is_valid_in c.args.words c.args.table.now in
    c.next_refusal-so_far.ensures
    ∙ ap (λ (check : Check). pick (valid loop.r-index) check (Err NotValid)) loop.invariant
    ∙ one_more_refused valid loop.r-index
