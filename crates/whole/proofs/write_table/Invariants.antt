use Rattle.std.proofs.Common.{◌≡◌}
use Rattle.format.specs.Format.{word_place, words_base}
use Rattle.whole.proofs.Laid.{laid_to}
use Rattle.whole.proofs.write_table.Given as goal

abbrev pub invariant-loop-party : goal.invariant-loop-party
invariant-loop-party l = l.image ≡ laid_to 1 l.initial.image (word_place words_base l.words) l.table l.party
