use Rattle.std.proofs.Common.{◌∙◌, ℕ, List, get_or, refl, ap, arith}
use Rattle.std.proofs.lemmas.List.Edits.{sets}
use Rattle.little.specs.Bytes.{bytes_of}
use Rattle.format.specs.Format.{word_place, words_base}
use Rattle.format.specs.Spelling.{word_bytes}
use Rattle.format.proofs.Laying.{one_word_more}
use Rattle.pieces.proofs.writing.write_words.Goals as goal

pub loop-i-init : goal.loop-i-init
unfolding word_bytes
loop-i-init c = refl

pub loop-i-preserved : goal.loop-i-preserved
loop-i-preserved c =
    let loop = c.loop-i in
    let strip = c.args.strip.now in
    c.put.ensures
    ∙ ap (λ (l : List ℕ). sets l (word_place words_base loop.i) (bytes_of 8 (get_or strip loop.i 0))) loop.invariant
    ∙ one_word_more strip c.args.image.now words_base loop.i (omega arith)
