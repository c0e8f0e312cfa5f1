use Rattle.std.proofs.Common.{◌∙◌, ℕ, List, ap, arith}
use Rattle.std.proofs.Math.ListN.{set}
use Rattle.little.specs.Bytes.{number_at}
use Rattle.format.specs.Format.{word_place, words_base}
use Rattle.format.proofs.Words.{word_part}
use Rattle.pieces.proofs.Filled.{one_more_read, all_words_read}
use Rattle.pieces.proofs.reading.read_strip.Goals as goal

pub loop-i-preserved : goal.loop-i-preserved
loop-i-preserved c =
    let loop = c.loop-i in
    let image = c.args.image.now in
    ap (λ (w : ℕ). set loop.strip loop.i w) c.number.ensures.spells
    ∙ ap (λ (l : List ℕ). set l loop.i (number_at 8 image (word_place words_base loop.i))) loop.invariant
    ∙ one_more_read word_part 0 image words_base c.args.strip.now loop.i (omega arith)

pub returns : goal.returns
returns c =
    let loop = c.loop-i in
    loop.invariant ∙ all_words_read c.args.image.now c.args.strip.now loop.i (omega arith)
