-- Start and withdraw: what each answers and leaves, refusals first, in document 01's order.
use Rattle.std.specs.Prelude.{ℕ, Bool, not, ◌&&◌, leb, ltb}
use Rattle.logic.specs.Pick.{pick}
use Rattle.record.specs.Operation.{order_fits}
use Rattle.record.specs.Record.{idle, begun}
use Rattle.record.specs.Valid.{is_idle, valid_of}
use Rattle.std.specs.declared.result.Result.TheVariants.{Err}
use Rattle.refusal.specs.declared.Refusal.TheVariants.{WrongSize, WrongOperation, NotValid, Busy, Idle, WrongOrder}
use Rattle.refusal.specs.Refusal.{Check, passes}
use Rattle.party.specs.Answer.{going_on, unless}
use Rattle.record.specs.declared.Record.{Record}
use Rattle.refusal.specs.declared.Refusal.{Refusal}
use Rattle.party.specs.declared.Answered.{Answered}

-- MAX is from 1 to 4,094
abbrev pub max_fits : (max : ℕ) → Bool
max_fits max = leb 1 max && leb max 4094

-- the record's own checks of a start: not valid, busy, order
unfoldable pub start_own : (max : ℕ) → Record → (operation order : ℕ) → Check
start_own max r operation order =
    pick (not (valid_of max r)) (Err NotValid)
    (pick (not (is_idle r)) (Err Busy) (pick (not (order_fits operation order)) (Err WrongOrder) passes))

unfoldable pub start_refusal : (max : ℕ) → Record → (operation order : ℕ) → Check
start_refusal max r operation order =
    pick (not (max_fits max)) (Err WrongSize) (pick (ltb 3 operation) (Err WrongOperation) (start_own max r operation order))

unfoldable pub start_of : (max : ℕ) → Record → (operation order : ℕ) → Answered Refusal
start_of max r operation order = unless (start_refusal max r operation order) r (going_on (begun operation order))

-- those of a withdrawal: not valid, idle
unfoldable pub withdraw_own : (max : ℕ) → Record → Check
withdraw_own max r = pick (not (valid_of max r)) (Err NotValid) (pick (is_idle r) (Err Idle) passes)

unfoldable pub withdraw_refusal : (max : ℕ) → Record → Check
withdraw_refusal max r = pick (not (max_fits max)) (Err WrongSize) (withdraw_own max r)

unfoldable pub withdraw_of : (max : ℕ) → Record → Answered Refusal
withdraw_of max r = unless (withdraw_refusal max r) r (going_on idle)
