-- Said of the promise itself, since no case would see it: what a pop on lent records says and leaves, and what list says of a short
-- buffer.
use Prim.Native.Nat.{ℕ, ◌<◌}
use mathlib.Core.Path.{◌≡◌, refl, ◌∙◌, ap}
use mathlib.Core.Bool.{Bool, true, false}
use mathlib.Core.List.{List, [], ◌∷◌}
use lib.ListN.{length}
use lib.Dec.{eqb}
use borrow.Author.Tests.{lt-leb}
use Rattle.std.specs.declared.result.Result.{Result}
use Rattle.std.specs.declared.result.Result.TheVariants.{Err}
use Rattle.refusal.specs.declared.Refusal.{Refusal}
use Rattle.refusal.specs.declared.Refusal.TheVariants.{WrongSize}
use Rattle.party.specs.declared.Answer.{Answer}
use Rattle.party.specs.Answer.{number_of, carried_of}
use Rattle.record.specs.Record.{idle}
use Rattle.record.specs.Valid.{valid_of}
use Rattle.record.specs.declared.Record.{Record}
use Rattle.stages.specs.Stages.{access_of}
use Rattle.step.specs.Step.{step_own, step_refusal, step_of, step_leaves}
use Rattle.call.specs.Call.{gate, call_of}
use Rattle.call.specs.Call.Call.{step}
use Rattle.table.specs.Lent.{Does, alone}
use Rattle.listing.specs.Listing.{listing_bound}
use Rattle.schedule.specs.List.{list_refusal, listed_of, ListPromise}
use Rattle.conventions.specs.Given.{busy, popping, before_pop, after_pop}

-- A pop carries its order and leaves its record idle, lent alone and in a table.
pub a_lent_pop_is_done_and_told : {answer : Result Answer Refusal} {carried : ℕ} {words : List ℕ} {left : List Record}
    → Does before_pop (alone popping) (step 0 0) answer carried words left
    → (number_of answer ≡ 17) × (carried_of answer ≡ 7) × (carried ≡ 7) × (words ≡ after_pop) × (left ≡ alone idle)
unfolding valid_of access_of step_own step_refusal step_of step_leaves gate call_of
a_lent_pop_is_done_and_told p = (ap number_of p.answer_is, ap carried_of p.answer_is, p.carried_is, p.words_left, p.records_left)

pub a_pop_in_a_table_is_done_and_told : {answer : Result Answer Refusal} {carried : ℕ} {words : List ℕ} {left : List Record}
    → Does before_pop (busy ∷ popping ∷ []) (step 1 0) answer carried words left
    → (number_of answer ≡ 17) × (carried_of answer ≡ 7) × (carried ≡ 7) × (words ≡ after_pop) × (left ≡ busy ∷ idle ∷ [])
unfolding valid_of access_of step_own step_refusal step_of step_leaves gate call_of
a_pop_in_a_table_is_done_and_told p = (ap number_of p.answer_is, ap carried_of p.answer_is, p.carried_is, p.words_left, p.records_left)

-- A buffer that is too short is 1, whatever the file.
pub a_short_buffer_is_1 : {file strip out : List ℕ} {got : Result ℕ Refusal} {words bytes : List ℕ} → ListPromise file strip out got words bytes
    → length out < listing_bound → got ≡ Err WrongSize
unfolding list_refusal
a_short_buffer_is_1 {file} {strip} {out} p short = p.gives ∙ ap (listed_of file) (go (eqb (length strip) 4096) refl)
  where
    go : (whole : Bool) → eqb (length strip) 4096 ≡ whole → list_refusal file (length strip) (length out) ≡ Err WrongSize
    go true e = simp (e, lt-leb listing_bound (length out) short)
    go false e = simp e
