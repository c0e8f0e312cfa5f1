use Rattle.std.proofs.Common.{◌∙◌, ℕ, List, sym, ap}
use Rattle.std.proofs.Math.ListN.{set}
use Rattle.std.proofs.lemmas.List.Edits.{sets}
use Rattle.little.specs.Bytes.{bytes_of}
use Rattle.format.proofs.Laying.{header_laid}
use Rattle.format.proofs.fresh.lay_header.Goals as goal

pub returns : goal.returns
returns c =
    let a = c.args in
    c.put-2.ensures
    ∙ ap (λ (l : List ℕ). sets (set l 5 a.parties) 6 (bytes_of 2 a.max)) c.put.ensures
    ∙ sym (header_laid a.image.now a.version a.max a.parties)
