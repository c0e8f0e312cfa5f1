use Rattle.std.proofs.Common.{◌+◌, ◌∙◌, ℕ, List, sym, ap}
use Rattle.std.proofs.lemmas.List.Edits.{sets}
use Rattle.little.specs.Bytes.{bytes_of}
use Rattle.header.specs.Header.{version_at}
use Rattle.format.proofs.Records.{laid_by_fields}
use Rattle.format.proofs.fields.write_record.Goals as goal

pub returns : goal.returns
returns c =
    let at = c.args.at in
    let r = c.args.r in
    let image = c.args.image.now in
    c.put-4.ensures
    ∙ ap (λ (l : List ℕ). sets l (at + 16) (bytes_of 8 r.second))
    (c.put-3.ensures
    ∙ ap (λ (l : List ℕ). sets l (at + 8) (bytes_of 8 r.first))
    (c.put-2.ensures ∙ ap (λ (l : List ℕ). sets l (at + 4) (bytes_of 4 r.v)) c.put.ensures))
    ∙ sym (laid_by_fields (version_at image) image at r)
