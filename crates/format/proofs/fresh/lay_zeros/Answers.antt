use Rattle.std.proofs.Common.{ℕ, ◌≡◌, ◌+◌, ◌-◌, ◌∙◌, List, length, take, drop, set, replicate, ap, arith, append-nil, length-take-le, length-drop}
use Rattle.std.proofs.lemmas.List.{length-replicate, drop_all}
use Rattle.std.proofs.lemmas.List.Edits.{sets, fill_more}
use Rattle.little.proofs.Runs.{part_laid}
use Rattle.format.proofs.fresh.lay_zeros.Goals as goal

pub loop-byte-preserved : goal.loop-byte-preserved
loop-byte-preserved c =
    let loop = c.loop-byte in
    let part = take (c.args.at + c.args.count - c.args.at) (drop c.args.at c.args.image.now) in
    ap (λ (l : List ℕ). set l loop.byte-index 0) loop.invariant ∙ fill_more loop.byte-index 0 part (omega arith)

pub returns : goal.returns
returns c =
    let a = c.args in
    let count = a.at + a.count - a.at in
    let part = take count (drop a.at a.image.now) in
    let long : length part ≡ a.count = length-take-le count (drop a.at a.image.now) (omega (arith, length-drop a.at a.image.now)) ∙ omega arith in
    let index : c.loop-byte.byte-index ≡ a.count = omega arith in
    let zeros : c.loop-byte.byte-items ≡ replicate a.count 0 =
    c.loop-byte.invariant ∙ rw (index, drop_all a.count part (omega arith)) (append-nil (replicate a.count 0)) in
    part_laid a.at count a.image.now c.loop-byte.byte-items (ap length zeros ∙ omega (arith, length-replicate {A = ℕ} a.count 0)) (omega arith)
    ∙ ap (sets a.image.now a.at) zeros
