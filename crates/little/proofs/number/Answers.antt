use Rattle.std.proofs.Common.{◌+◌, ◌≡◌, ◌∙◌, ℕ, List, get_or, rules, arith, ap}
use Rattle.std.proofs.Math.ListN.{set}
use Rattle.std.specs.Int.{w64, from_le_bytes}
use Rattle.little.specs.Bytes.{AreBytes}
use Rattle.little.proofs.Digits.{number_fits}
use Rattle.little.proofs.Wide.{copied, one_more_copied, read_copied}
use Rattle.little.proofs.number.Goals as goal

pub loop-i-preserved : goal.loop-i-preserved
loop-i-preserved g c =
    let a = c.args in
    let i = c.loop-i.i in
    ap (λ (wide : List ℕ). set wide i (get_or a.bytes.now (a.at + i) 0)) c.loop-i.invariant
    ∙ one_more_copied a.bytes.now a.at i (omega (arith, c.requires.0))

pub returns : goal.returns
returns g c =
    let a = c.args in
    let are : AreBytes a.bytes.now = λ i. search rules in
    let all : c.loop-i.i ≡ g.row.W = omega arith in
    let spelled =
    c.from_le_bytes.ensures ∙ ap (from_le_bytes w64) (c.loop-i.invariant ∙ ap (copied a.bytes.now a.at) all)
    ∙ read_copied g.row.W a.bytes.now a.at c.requires.1 c.requires.0 in
    record { spells = spelled; fits = rw spelled (number_fits g.row.W a.bytes.now a.at are) }
