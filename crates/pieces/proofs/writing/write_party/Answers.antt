use Rattle.std.proofs.Common.{◌+◌, ◌∙◌, ℕ, List, ap}
use Rattle.std.proofs.lemmas.List.Edits.{sets}
use Rattle.little.specs.Bytes.{bytes_of}
use Rattle.format.specs.Format.{word_place, words_base, record_place}
use Rattle.pieces.proofs.PartyBytes.{party_laid}
use Rattle.pieces.proofs.writing.write_party.Goals as goal

pub returns : goal.returns
returns c =
    let a = c.args in
    let at = record_place (word_place words_base a.words) a.party in
    c.put.ensures
    ∙ ap (λ (l : List ℕ). sets l (at + 24) (bytes_of 8 0)) c.write_record.ensures
    ∙ party_laid 1 a.image.now at a.r
