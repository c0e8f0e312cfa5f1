use Rattle.std.proofs.Common.{◌≡◌}
use Rattle.pieces.specs.Pieces.{all_below}
use Rattle.whole.specs.Whole.{is_valid_in}
use Rattle.whole.proofs.Found.{found_by}
use Rattle.whole.proofs.table_refusal.Given as goal

abbrev pub invariant-loop-r : goal.invariant-loop-r
invariant-loop-r l = l.so_far ≡ found_by (all_below (is_valid_in l.words l.table) l.r-index)
