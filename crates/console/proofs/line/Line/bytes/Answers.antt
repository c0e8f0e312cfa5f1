use Rattle.std.proofs.Common.{rules, ◌≡◌, ◌<◌, ◌≤◌, ◌*◌, ◌/◌, min, length, arith, List, [], ◌∷◌, ℕ, inl, inr}
use Rattle.hex.proofs.HexLemmas.{decode_of-ok}
use Rattle.console.specs.Fields.{field_of}
use Rattle.console.specs.Image.{Spells}
use Rattle.console.proofs.line.Line.bytes.Goals as goal

too_many : (most : ℕ) (field bytes : List ℕ) → (field ≡ 45 ∷ [] → ⊥) → most < length field / 2 → length bytes ≤ most → Spells field bytes → ⊥
too_many most field bytes not many few (inl none) = not none.0
too_many most field bytes not many few (inr spelt) =
    let long : length field ≡ 2 * length bytes = (decode_of-ok field bytes spelt).2 in omega arith

-- src/image.rt:30:13
pub returns-then-min-count-clause-given : goal.returns-then-min-count-clause-given
returns-then-min-count-clause-given c =
    let same : c.in_ok-digits.digits.now ≡ field_of c.args.self.now.text.now = search rules in
    let dash : field_of c.args.self.now.text.now ≡ 45 ∷ [] → ⊥ = λ h. search rules in
    let many : min 33792 (length c.args.room.now) < length (field_of c.args.self.now.text.now) / 2 = rw (← same) (omega arith) in
    (λ h. cc, λ h. absurd (too_many (min 33792 (length c.args.room.now)) (field_of c.args.self.now.text.now) h.1.0 dash many h.1.1 h.1.2))
