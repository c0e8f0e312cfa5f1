use Rattle.std.proofs.Common.{◌+◌, ◌≡◌, ◌∙◌, ℕ, List, get_or, arith, ap}
use Rattle.std.proofs.Math.ListN.{set}
use Rattle.std.specs.Int.{w64, to_le_bytes}
use Rattle.little.proofs.Wide.{put_to, one_more_put, all_put}
use Rattle.little.proofs.put.Goals as goal

pub loop-i-preserved : goal.loop-i-preserved
loop-i-preserved g c =
    let a = c.args in
    let i = c.loop-i.i in
    ap (λ (spelled : List ℕ). set c.loop-i.bytes (a.at + i) (get_or spelled i 0)) c.to_le_bytes-wide.ensures
    ∙ ap (λ (bytes : List ℕ). set bytes (a.at + i) (get_or (to_le_bytes w64 a.n) i 0)) c.loop-i.invariant
    ∙ one_more_put a.bytes.now a.at a.n i (omega (arith, c.requires.1))

pub returns : goal.returns
returns g c =
    let a = c.args in
    let all : c.loop-i.i ≡ g.row.W = omega arith in
    c.loop-i.invariant ∙ ap (put_to a.bytes.now a.at a.n) all ∙ all_put g.row.W a.bytes.now a.at a.n c.requires.1
