use Rattle.std.proofs.Common.{◌≡◌}
use Rattle.format.specs.Format.{word_place, words_base}
use Rattle.pieces.proofs.Filled.{records_to}
use Rattle.whole.proofs.read_table.Given as goal

abbrev pub invariant-loop-party : goal.invariant-loop-party
invariant-loop-party l = l.table ≡ records_to l.image (word_place words_base l.words) l.initial.table l.party
