-- A fresh strip, word by word.
use Prim.Native.Nat.{ℕ, ◌+◌, ◌-◌, ◌≤◌, ◌<◌}
use mathlib.Core.Path.{◌≡◌, refl, ◌∙◌}
use mathlib.Core.Bool.{Bool, true, false, not}
use mathlib.Core.List.{List}
use lib.ListN.{length, get_or, replicate, length-append, length-replicate, get_or-replicate, get_or-append}
use lib.Seq.{get_or-append_right}
use lib.Dec.{leb}
use borrow.Author.Tests.{leb-true, leb-false, not-false}
use native.Mathlib.Omega.{arith}
use Rattle.logic.specs.Pick.{pick}
use Rattle.logic.specs.Every.{Every}
use Rattle.std.specs.declared.result.Result.TheVariants.{Err}
use Rattle.logic.proofs.Bools.{whichever}
use Rattle.refusal.specs.declared.Refusal.{Refusal}
use Rattle.refusal.specs.Refusal.{passes}
use Rattle.refusal.proofs.Checks.{passed}
use Rattle.word.specs.Word.{IsWord}
use Rattle.step.specs.Step.{strip_fits, max_of}
use Rattle.strip.specs.Lay.{fresh_strip, lay_refusal, lay_leaves}

-- What is known of a lay that no check refused.
pub record Layable (words divide : ℕ) : Type 0 where
  pub fits : strip_fits words ≡ true
  pub inside : divide ≤ max_of words

pub layable : (words divide : ℕ) → lay_refusal words divide ≡ passes → Layable words divide
unfolding lay_refusal
layable words divide e =
    let past1 = passed (not (strip_fits words)) _ _ e in
    let past8 = passed (not (leb divide (max_of words))) _ passes past1.1 in
    record {
      fits = not-false (strip_fits words) past1.0;
      inside = leb-true divide (max_of words) (not-false (leb divide (max_of words)) past8.0);
    }

-- A refused lay leaves the strip, a lay that passes leaves a fresh one.
module _ (strip : List ℕ) (divide : ℕ) where
  pub refused_leaves : {refusal : Refusal} → lay_refusal (length strip) divide ≡ Err refusal → lay_leaves strip divide ≡ strip
  unfolding lay_leaves
  refused_leaves refused = rw refused

  pub laid_leaves : lay_refusal (length strip) divide ≡ passes → lay_leaves strip divide ≡ fresh_strip (max_of (length strip)) divide
  unfolding lay_leaves
  laid_leaves passed_lem = rw passed_lem

module _ (max divide : ℕ) (inside : divide ≤ max) where
  pub fresh_length : length (fresh_strip max divide) ≡ max + 2
  fresh_length = simp (length-append, length-replicate) (omega arith)

  pub fresh_at : (i : ℕ) → i < max + 2 → get_or (fresh_strip max divide) i 0 ≡ pick (leb i divide) 0 1
  fresh_at i h = go (leb i divide) refl
    where
      left : List ℕ
      left = replicate (divide + 1) 0

      right : List ℕ
      right = replicate (max - divide + 1) 1

      go : (before : Bool) → leb i divide ≡ before → get_or (fresh_strip max divide) i 0 ≡ pick before 0 1
      go true e =
          let low = leb-true i divide e in
          get_or-append left right 0 i (simp length-replicate (omega arith)) ∙ get_or-replicate (divide + 1) i 0 0 (omega arith)
      go false e =
          let high = leb-false i divide e in
          let long = length-replicate {A = ℕ} (divide + 1) 0 in
          get_or-append_right left right i 0 (omega arith) ∙ get_or-replicate (max - divide + 1) (i - length left) 1 0 (omega arith)

  -- every word of it is a word
  pub fresh_words : Every IsWord 0 (fresh_strip max divide)
  fresh_words i within =
      rw (fresh_at i (omega (arith, fresh_length))) (whichever IsWord (leb i divide) (omega arith) (omega arith))
