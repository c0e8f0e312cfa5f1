-- The step: what it answers, the record it gives back and every word it leaves, refusals first, in document 01's order.
use Rattle.std.specs.Prelude.{ℕ, ◌-◌, ◌≡◌, Bool, not, ◌&&◌, ◌||◌, List, length, get_or, eqb, leb}
use Rattle.std.specs.declared.result.Result.TheVariants.{Err}
use Rattle.logic.specs.Pick.{pick}
use Rattle.refusal.specs.declared.Refusal.TheVariants.{WrongSize, NotValid, Idle, Outside}
use Rattle.refusal.specs.Refusal.{Check, passes, if_passes}
use Rattle.word.specs.Word.{raised_to}
use Rattle.word.specs.Swap.{swap_of, words_after}
use Rattle.record.specs.Operation.{in_range}
use Rattle.record.specs.Record.{with_place}
use Rattle.record.specs.Valid.{is_idle, valid_of}
use Rattle.party.specs.Answer.{unless}
use Rattle.record.specs.declared.Record.{Record}
use Rattle.refusal.specs.declared.Refusal.{Refusal}
use Rattle.party.specs.declared.Answered.{Answered}
use Rattle.stages.specs.Stages.{access_of}
use Rattle.stages.specs.Follow.{looked_of, swapped_of}
use Rattle.stages.specs.declared.Access.{Access}
use Rattle.stages.specs.declared.Access.TheVariants.{Look, Swap}

-- a strip has MAX+2 words, 3 to 4,096
abbrev pub strip_fits : (words : ℕ) → Bool
strip_fits words = leb 3 words && leb words 4096

abbrev pub max_of : (words : ℕ) → ℕ
max_of words = words - 2

-- the hint is looked at in stage 1 alone
abbrev pub hint_fits : (max : ℕ) → Record → (hint : ℕ) → Bool
hint_fits max r hint = not (eqb r.stage 1) || in_range max r.operation hint

-- the record's own checks of a step: not valid, idle, hint
unfoldable pub step_own : (max : ℕ) → Record → (hint : ℕ) → Check
step_own max r hint =
    pick (not (valid_of max r)) (Err NotValid)
    (pick (is_idle r) (Err Idle) (pick (not (hint_fits max r hint)) (Err Outside) passes))

unfoldable pub step_refusal : (words : ℕ) → Record → (hint : ℕ) → Check
step_refusal words r hint = pick (not (strip_fits words)) (Err WrongSize) (step_own (max_of words) r hint)

-- stage 1 takes the hint as k
abbrev pub aimed : Record → (hint : ℕ) → Record
aimed r hint = with_place (pick (eqb r.stage 1) hint r.k) r

-- one access: what follows it, and the words it leaves
abbrev pub followed : List ℕ → Record → Access → Answered Refusal
followed strip r (Look place then) = looked_of (max_of (length strip)) r then (get_or strip place 0)
followed strip r (Swap place from to then) = swapped_of r then (swap_of (get_or strip place 0) from)

abbrev pub written : List ℕ → Access → List ℕ
written strip (Look place then) = strip
written strip (Swap place from to then) = words_after (swap_of (get_or strip place 0) from) strip place (raised_to from to)

unfoldable pub step_of : List ℕ → Record → (hint : ℕ) → Answered Refusal
step_of strip r hint =
    unless (step_refusal (length strip) r hint) r (followed strip (aimed r hint) (access_of (aimed r hint)))

unfoldable pub step_leaves : List ℕ → Record → (hint : ℕ) → List ℕ
step_leaves strip r hint =
    if_passes (step_refusal (length strip) r hint) (written strip (access_of (aimed r hint))) strip

-- What step promises: the answer, the record and every word of the strip it was lent.
pub record StepPromise (strip : List ℕ) (r : Record) (hint : ℕ) (got : Answered Refusal) (left : List ℕ) : Type 0 where
  pub gives : got ≡ step_of strip r hint
  pub words : left ≡ step_leaves strip r hint
