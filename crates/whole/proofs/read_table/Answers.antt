use Rattle.std.proofs.Common.{◌∙◌, List, ap, arith}
use Rattle.std.proofs.Math.ListN.{set}
use Rattle.record.specs.Record.{idle}
use Rattle.record.specs.declared.Record.{Record}
use Rattle.header.specs.Header.{version_at}
use Rattle.format.specs.Format.{word_place, words_base, record_place}
use Rattle.format.specs.Spelling.{record_at}
use Rattle.format.proofs.Records.{record_part}
use Rattle.pieces.proofs.Filled.{one_more_read, all_records_read}
use Rattle.whole.proofs.read_table.Goals as goal

pub loop-party-preserved : goal.loop-party-preserved
loop-party-preserved c =
    let loop = c.loop-party in
    let image = c.args.image.now in
    let at = word_place words_base c.args.words in
    ap (λ (r : Record). set loop.table loop.party r) c.record_in.ensures
    ∙ ap (λ (l : List Record). set l loop.party (record_at (version_at image) image (record_place at loop.party))) loop.invariant
    ∙ one_more_read (record_part (version_at image)) idle image at c.args.table.now loop.party (omega arith)

pub returns : goal.returns
returns c =
    let loop = c.loop-party in
    loop.invariant ∙ all_records_read c.args.image.now (word_place words_base c.args.words) c.args.table.now loop.party (omega arith)
