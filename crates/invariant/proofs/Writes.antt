-- What a call writes: nothing, or one word by a swap that won.
use Prim.Native.Nat.{ℕ, ◌≤◌, ◌<◌}
use mathlib.Core.Path.{◌≡◌, ◌∙◌, ap, subst}
use mathlib.Core.List.{List}
use lib.ListN.{length, get_or, set, length-set}
use native.Mathlib.Omega.{arith}
use Rattle.logic.specs.Every.{Every}
use Rattle.logic.proofs.Lists.{every_set}
use Rattle.word.specs.Word.{IsWord, value_of, counter_of, raised_to}
use Rattle.word.proofs.Laws.{raised_is_word}
use Rattle.record.specs.Record.{idle}
use Rattle.record.specs.declared.Record.{Record}
use Rattle.stages.specs.Stages.{own}
use Rattle.step.specs.Step.{step_leaves}
use Rattle.call.specs.Call.{Call, record_of, call_of}
use Rattle.step.proofs.Cleared.{Steppable}
use Rattle.step.proofs.Went.{GoneOn}
use Rattle.invariant.specs.Invariant.{Sane}
use Rattle.swaps.specs.Remembered.{Wins}
use Rattle.swaps.proofs.Stale.{counter_kept}
use Rattle.invariant.proofs.Sides.{own_is_null, Placed, placed, wins_at_place, wins_at_near}
use Rattle.call.proofs.Called.{Called, called}

-- the value written fits a word if the record's order does
pub data Written (strip : List ℕ) (order : ℕ) (left : List ℕ) : Type 0 where
  nothing : left ≡ strip → Written strip order left
  one : {place from : ℕ} (to : ℕ) → Wins strip place from → (order < 4294967296 → to < 4294967296)
      → left ≡ set strip place (raised_to from to) → Written strip order left

pub step_writes : (strip : List ℕ) (r : Record) (hint : ℕ) → Steppable (length strip) r hint → GoneOn strip r hint
    → Written strip r.v (step_leaves strip r hint)
step_writes strip r hint clear = go
  where
    at : 2 ≤ r.stage → Placed (length strip) r
    at = placed (length strip) r clear.strip_fits clear.valid

    go : GoneOn strip r hint → Written strip r.v (step_leaves strip r hint)
    go (GoneOn.remembers s gone) = Written.nothing gone.words
    go (GoneOn.drops s d gone) = Written.nothing gone.words
    go (GoneOn.fills s d w gone) = Written.nothing gone.words
    go (GoneOn.doubts s d f gone) = Written.nothing gone.words
    go (GoneOn.readies s d w f gone) = Written.nothing gone.words
    go (GoneOn.empties s e gone) = Written.nothing gone.words
    go (GoneOn.rechecks s e gone) = Written.nothing gone.words
    go (GoneOn.push_4 s p t gone) = Written.one (value_of r.first) (wins_at_near (at (omega arith)) t) (λ fits. omega arith) gone.words
    go (GoneOn.pop_4 s p t gone) = Written.one (own r) (wins_at_place (at (omega arith)) t) (λ fits. omega (arith, own_is_null r)) gone.words
    go (GoneOn.push_5 s p t gone) = Written.one r.v (wins_at_place (at (omega arith)) t) (λ fits. fits) gone.words
    go (GoneOn.pop_5 s p t gone) = Written.one (own r) (wins_at_near (at (omega arith)) t) (λ fits. omega (arith, own_is_null r)) gone.words
    go (GoneOn.loses place from to then access other gone) = Written.nothing gone.words

module _ {strip left : List ℕ} {order : ℕ} where
  written_length : Written strip order left → length left ≡ length strip
  written_length (Written.nothing same) = ap length same
  written_length (Written.one {place} {from} to w fits is) = ap length is ∙ length-set strip place (raised_to from to)

  written_counters : Written strip order left → (i : ℕ) → counter_of (get_or strip i 0) ≤ counter_of (get_or left i 0)
  written_counters (Written.nothing same) i = rw same (omega arith)
  written_counters (Written.one to w fits is) i = rw is (counter_kept w to i)

  written_words : order < 4294967296 → Every IsWord 0 strip → Written strip order left → Every IsWord 0 left
  written_words small words (Written.nothing same) = rw same words
  written_words small words (Written.one {place} {from} to w fits is) =
      let was : IsWord from = subst IsWord w.took.same (words place w.within) in
      rw is (every_set IsWord 0 strip place (raised_to from to) words (raised_is_word _ from to w.took was (fits small)))

module _ (strip : List ℕ) (table : List Record) (call : Call) where
  call_writes : Written strip (record_of table call).v (call_of strip table call).strip
  call_writes = go (called strip table call)
    where
      go : Called strip table call → Written strip (record_of table call).v (call_of strip table call).strip
      go (Called.refuses refusal left) = Written.nothing left.strip_is
      go (Called.starts party operation order is known clear left) = Written.nothing left.strip_is
      go (Called.withdraws party is known left) = Written.nothing left.strip_is
      go (Called.steps party hint is known clear on left) =
          rw (left.strip_is, is) (step_writes strip (get_or table party idle) hint clear on)

  pub strip_stays_as_long : length (call_of strip table call).strip ≡ length strip
  strip_stays_as_long = written_length call_writes

  -- No counter ever falls.
  pub no_counter_falls : (i : ℕ) → counter_of (get_or strip i 0) ≤ counter_of (get_or (call_of strip table call).strip i 0)
  no_counter_falls = written_counters call_writes

  -- None comes round: words stay words, and their counters at most 4,294,967,295.
  pub no_counter_comes_round : Sane strip table → Every IsWord 0 strip → Every IsWord 0 (call_of strip table call).strip
  no_counter_comes_round sane words = go (called strip table call)
    where
      go : Called strip table call → Every IsWord 0 (call_of strip table call).strip
      go (Called.refuses refusal left) = rw left.strip_is words
      go (Called.starts party operation order is known clear left) = rw left.strip_is words
      go (Called.withdraws party is known left) = rw left.strip_is words
      go (Called.steps party hint is known clear on left) =
          rw left.strip_is
          (written_words (sane.sound party known).order_fits words (step_writes strip (get_or table party idle) hint clear on))
