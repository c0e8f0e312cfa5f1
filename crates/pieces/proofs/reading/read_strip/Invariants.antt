use Rattle.std.proofs.Common.{◌≡◌}
use Rattle.pieces.proofs.Filled.{words_to}
use Rattle.pieces.proofs.reading.read_strip.Given as goal

abbrev pub invariant-loop-i : goal.invariant-loop-i
invariant-loop-i l = l.strip ≡ words_to l.image l.initial.strip l.i
