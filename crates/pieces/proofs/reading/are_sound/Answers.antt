use Rattle.std.proofs.Common.{◌∙◌, refl, arith, rules, tests}
use Rattle.std.proofs.lemmas.Iterator.{YieldsList-from_range}
use Rattle.std.proofs.lemmas.Iterator.Search.{all_from_yields_List}
use Rattle.pieces.specs.Pieces.{is_sound}
use Rattle.pieces.proofs.Below.{all_in_range}
use Rattle.pieces.proofs.reading.are_sound.Goals as goal

pub returns : goal.returns
returns c =
    let a = c.args in
    let sound = is_sound a.image.now a.max in
    all_from_yields_List sound _ _ c.all.result c.all.ensures.ran (YieldsList-from_range 0 a.parties a.parties refl (omega arith)) (λ x b q k. search (rules, tests))
    ∙ all_in_range sound a.parties
