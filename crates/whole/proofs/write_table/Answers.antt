use Rattle.std.proofs.Common.{◌∙◌, List, ℕ, get_or, refl, ap, arith}
use Rattle.std.proofs.lemmas.List.Edits.{sets}
use Rattle.record.specs.Record.{idle}
use Rattle.format.specs.Format.{word_place, words_base, record_place}
use Rattle.pieces.specs.Pieces.{party_bytes}
use Rattle.whole.specs.Whole.{table_bytes}
use Rattle.whole.proofs.Laid.{one_record_more}
use Rattle.whole.proofs.write_table.Goals as goal

pub loop-party-init : goal.loop-party-init
unfolding table_bytes
loop-party-init c = refl

pub loop-party-preserved : goal.loop-party-preserved
loop-party-preserved c =
    let loop = c.loop-party in
    let table = c.args.table.now in
    let at = word_place words_base c.args.words in
    c.write_party.ensures
    ∙ ap (λ (l : List ℕ). sets l (record_place at loop.party) (party_bytes 1 (get_or table loop.party idle))) loop.invariant
    ∙ one_record_more 1 c.args.image.now at table loop.party (omega arith)
