-- The promises leave nothing open, a refused lay changes nothing, and one that passes leaves a fresh strip.
use Prim.Native.Nat.{ℕ}
use mathlib.Core.Path.{◌≡◌, refl, sym, ◌∙◌}
use mathlib.Core.List.{List}
use lib.ListN.{length}
use Rattle.std.specs.declared.result.Result.{Result}
use Rattle.std.specs.declared.result.Result.TheVariants.{Ok, Err}
use Rattle.refusal.specs.declared.Refusal.{Refusal}
use Rattle.refusal.specs.Refusal.{Check}
use Rattle.refusal.proofs.Checks.{refusal_is_not_0}
use Rattle.step.specs.Step.{max_of}
use Rattle.plain.specs.Plain.{fresh_plain}
use Rattle.strip.specs.Shape.{StandsFor}
use Rattle.strip.specs.Lay.{laid_number, LayPromise}
use Rattle.strip.specs.Measure.{measure_of}
use Rattle.strip.specs.declared.Shape.{Shape}
use Rattle.strip.proofs.Laying.{refused_leaves, laid_leaves}
use Rattle.strip.proofs.Values.{fresh_stands_for}

-- Two results that keep a promise are equal, and so are the words that two lays leave.
pub two_lays_that_keep_it_are_equal : {strip : List ℕ} {divide : ℕ} {one two : Check} {left other : List ℕ}
    → LayPromise strip divide one left → LayPromise strip divide two other → (one ≡ two) × (left ≡ other)
two_lays_that_keep_it_are_equal p q = (p.gives ∙ sym q.gives, p.words ∙ sym q.words)

pub two_measures_that_keep_it_are_equal : (strip : List ℕ) {one two : Result Shape Refusal}
    → one ≡ measure_of strip → two ≡ measure_of strip → one ≡ two
two_measures_that_keep_it_are_equal strip p q = p ∙ sym q

-- A refused lay leaves every word. Measure is lent the strip to be read alone.
pub refused_lay_changes_nothing : (strip : List ℕ) (divide : ℕ) (got : Check) (left : List ℕ)
    → LayPromise strip divide got left → (laid_number got ≡ 0 → ⊥) → left ≡ strip
refused_lay_changes_nothing strip divide (Ok laid) left p refused = absurd (refused refl)
refused_lay_changes_nothing strip divide (Err refusal) left p refused = p.words ∙ refused_leaves strip divide (sym p.gives)

-- A strip that was laid stands for the fresh plain strip.
pub laid_stands_for_the_fresh_plain_strip : (strip : List ℕ) (divide : ℕ) (got : Check) (left : List ℕ)
    → LayPromise strip divide got left → laid_number got ≡ 0 → StandsFor left (fresh_plain (max_of (length strip)) divide)
laid_stands_for_the_fresh_plain_strip strip divide (Ok laid) left p done =
    rw (p.words, laid_leaves strip divide (sym p.gives)) (fresh_stands_for (max_of (length strip)) divide)
laid_stands_for_the_fresh_plain_strip strip divide (Err refusal) left p done = absurd (refusal_is_not_0 refusal done)
