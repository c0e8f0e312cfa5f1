use Rattle.std.proofs.Common.{◌≡◌, take}
use Rattle.std.proofs.lemmas.List.Edits.{sets}
use Rattle.format.specs.Format.{words_base}
use Rattle.format.specs.Spelling.{word_bytes}
use Rattle.pieces.proofs.writing.write_words.Given as goal

abbrev pub invariant-loop-i : goal.invariant-loop-i
invariant-loop-i l = l.image ≡ sets l.initial.image words_base (word_bytes (take l.i l.strip))
