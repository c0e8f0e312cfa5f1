use Rattle.std.proofs.Common.{◌≡◌, ◌+◌, ◌-◌, ◌*◌, ◌∙◌, ℕ, List, refl, sym, ap, arith}
use Rattle.std.proofs.lemmas.List.Edits.{sets}
use Rattle.little.specs.Bytes.{bytes_of}
use Rattle.format.specs.Spelling.{word_bytes}
use Rattle.format.proofs.Rights.{laid, one_right_more}
use Rattle.format.proofs.fresh.lay_rights.Goals as goal

pub loop-i-init : goal.loop-i-init
unfolding word_bytes
loop-i-init c =
    let none : c.args.divide + 1 - (c.args.divide + 1) ≡ 0 = omega arith in
    rw none refl

pub loop-i-preserved : goal.loop-i-preserved
loop-i-preserved c =
    let a = c.args in
    let i = c.loop-i.i - (a.divide + 1) in
    let more : c.loop-i.i + 1 - (a.divide + 1) ≡ i + 1 = omega arith in
    c.put.ensures
    ∙ ap (λ (l : List ℕ). sets l (a.base + 8 * c.loop-i.i) (bytes_of 8 1)) c.loop-i.invariant
    ∙ one_right_more a.image.now a.base a.max a.divide i (a.base + 8 * c.loop-i.i) (omega arith) (omega arith)
    ∙ ap (laid a.image.now a.base a.max a.divide) (sym more)
