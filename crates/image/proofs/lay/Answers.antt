use Rattle.std.proofs.Common.{◌≡◌, ◌+◌, ◌*◌, ◌∙◌, ℕ, true, List, length, replicate, sym, ap}
use borrow.Author.Tests.{le-leb, lt-leb}
use Rattle.std.proofs.lemmas.List.Edits.{sets}
use Rattle.strip.specs.Lay.{rights_of}
use Rattle.format.specs.Format.{sizes_fit}
use Rattle.format.specs.Spelling.{word_bytes}
use Rattle.image.proofs.Laid.{layable, none_refused, keeps_lay_size, keeps_lay_divide, keeps_lay_done}
use Rattle.image.proofs.lay.Goals as goal

pub returns-then-not-sizes_fit : goal.returns-then-not-sizes_fit
returns-then-not-sizes_fit c =
    let a = c.args in
    keeps_lay_size _ a.max a.parties a.divide (sym c.sizes_fit.ensures ∙ c.if-not-sizes_fit.true)

pub returns-then-max-divide : goal.returns-then-max-divide
returns-then-max-divide c =
    let a = c.args in
    keeps_lay_divide _ a.max a.parties a.divide (sym c.sizes_fit.ensures ∙ c.if-not-sizes_fit.false) (lt-leb a.divide a.max c.if-max-divide.true)

pub returns : goal.returns
returns c =
    let a = c.args in
    let image = a.image.now in
    let sized : sizes_fit 1 (length image) a.max a.parties ≡ true = sym c.sizes_fit.ensures ∙ c.if-not-sizes_fit.false in
    let none = none_refused image a.max a.parties a.divide sized (le-leb a.divide a.max c.if-max-divide.false) in
    let blank_is = c.lay_zeros.ensures ∙ ap (λ (l : List ℕ). sets l 8 (replicate (8 * (a.max + 2) + 32 * a.parties) 0)) c.lay_header.ensures in
    keeps_lay_done _ _ _ _ (layable _ _ _ _ none) none _
    (c.lay_rights.ensures ∙ ap (λ (l : List ℕ). sets l (8 + 8 * (a.divide + 1)) (word_bytes (rights_of a.max a.divide))) blank_is)
