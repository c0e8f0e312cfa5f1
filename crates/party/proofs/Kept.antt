-- What start and withdraw keep: a refused call changes nothing, a valid record stays valid, their promises leave nothing open, and
-- another MAX alters nothing but may refuse.
use Prim.Native.Nat.{ℕ, ◌<◌}
use mathlib.Core.Path.{◌≡◌, refl, sym, ◌∙◌}
use mathlib.Core.Bool.{Bool, true, false, not, true≢false}
use mathlib.Core.Logic.{inl, inr}
use lib.Dec.{ltb}
use borrow.Author.Tests.{lt-ltb}
use native.Mathlib.Omega.{arith}
use Rattle.logic.specs.Pick.{pick}
use Rattle.std.specs.declared.result.Result.TheVariants.{Ok, Err}
use Rattle.refusal.specs.declared.Refusal.TheVariants.{WrongSize, WrongOperation, NotValid, Busy, Idle, WrongOrder}
use Rattle.refusal.specs.Refusal.{Check, passes}
use Rattle.record.specs.Operation.{order_fits}
use Rattle.record.specs.Record.{idle, begun}
use Rattle.record.specs.Valid.{is_idle, valid_of}
use Rattle.party.specs.Answer.{going_on, refused, unless, RefusedKeeps, RefusedOr}
use Rattle.party.specs.Calls.{max_fits, start_own, start_refusal, start_of, withdraw_own, withdraw_refusal, withdraw_of}
use Rattle.record.specs.declared.Record.{Record}
use Rattle.refusal.specs.declared.Refusal.{Refusal}
use Rattle.party.specs.declared.Answered.{Answered}
use Rattle.record.proofs.Stages.{ValidAt, at_valid}
use Rattle.party.proofs.Cleared.{startable}

-- Two results that keep one promise are equal.
pub two_that_keep_it_are_equal : {wanted one two : Answered Refusal} → one ≡ wanted → two ≡ wanted → one ≡ two
two_that_keep_it_are_equal p q = p ∙ sym q

-- 0 is no refusal
going_on_keeps : (r next : Record) → RefusedKeeps r (going_on next)
going_on_keeps r next refused = absurd (true≢false (sym refused))

pub unless_keeps : (check : Check) (r : Record) (done : Answered Refusal) → RefusedKeeps r done → RefusedKeeps r (unless check r done)
unless_keeps (Ok passed) r done keeps = keeps
unless_keeps (Err refusal) r done keeps = λ refused. (refl, refl)

pub refused_start_changes_nothing : (max : ℕ) (r : Record) (operation order : ℕ)
    → RefusedKeeps r (start_of max r operation order)
unfolding start_of
refused_start_changes_nothing max r operation order =
    let next = begun operation order in
    unless_keeps (start_refusal max r operation order) r (going_on next) (going_on_keeps r next)

pub refused_withdraw_changes_nothing : (max : ℕ) (r : Record) → RefusedKeeps r (withdraw_of max r)
unfolding withdraw_of
refused_withdraw_changes_nothing max r =
    unless_keeps (withdraw_refusal max r) r (going_on idle) (going_on_keeps r idle)

pub idle_is_valid : (max : ℕ) → valid_of max idle ≡ true
idle_is_valid max = at_valid max idle (ValidAt.at0 refl refl)

pub begun_is_valid : (max operation order : ℕ) → operation < 4 → order_fits operation order ≡ true
    → valid_of max (begun operation order) ≡ true
begun_is_valid max operation order known ordered =
    at_valid max (begun operation order) (ValidAt.at1 refl (rw (lt-ltb operation 4 known, ordered) refl) refl)

-- a call that passes its checks leaves `next`, a refused one the record itself
unless_valid : (max : ℕ) (check : Check) (r next : Record) → valid_of max r ≡ true → (check ≡ passes → valid_of max next ≡ true)
    → valid_of max (unless check r (going_on next)).rec ≡ true
unless_valid max (Ok passed) r next valid then = then refl
unless_valid max (Err refusal) r next valid then = valid

pub start_keeps_valid : (max : ℕ) (r : Record) (operation order : ℕ) → valid_of max r ≡ true
    → valid_of max (start_of max r operation order).rec ≡ true
unfolding start_of
start_keeps_valid max r operation order valid =
    unless_valid max (start_refusal max r operation order) r (begun operation order) valid
    (λ none.
    let clear = startable max r operation order none in
    begun_is_valid max operation order (omega (arith, clear.known)) clear.ordered)

pub withdraw_keeps_valid : (max : ℕ) (r : Record) → valid_of max r ≡ true → valid_of max (withdraw_of max r).rec ≡ true
unfolding withdraw_of
withdraw_keeps_valid max r valid = unless_valid max (withdraw_refusal max r) r idle valid (λ none. idle_is_valid max)

-- MAX decides whether it is in bounds and whether the record is valid, and nothing else
at_another_max : (fits unknown valid : Bool) (rest : Check) (r next : Record)
    → RefusedOr (unless (pick unknown (Err WrongOperation) rest) r (going_on next))
    (unless (pick (not fits) (Err WrongSize) (pick unknown (Err WrongOperation) (pick (not valid) (Err NotValid) rest))) r (going_on next))
at_another_max false unknown valid rest r next = inl refl
at_another_max true true valid rest r next = inr refl
at_another_max true false false rest r next = inl refl
at_another_max true false true rest r next = inr refl

module _ (max other : ℕ) (r : Record) (fits : max_fits max ≡ true) (valid : valid_of max r ≡ true) where
  pub start_at_another_max_is_refused_or_the_same : (operation order : ℕ)
      → RefusedOr (start_of max r operation order) (start_of other r operation order)
  unfolding start_of start_refusal start_own
  start_at_another_max_is_refused_or_the_same operation order =
      rw (fits, valid)
      (at_another_max (max_fits other) (ltb 3 operation) (valid_of other r)
      (pick (not (is_idle r)) (Err Busy) (pick (not (order_fits operation order)) (Err WrongOrder) passes)) r (begun operation order))

  pub withdraw_at_another_max_is_refused_or_the_same : RefusedOr (withdraw_of max r) (withdraw_of other r)
  unfolding withdraw_of withdraw_refusal withdraw_own
  withdraw_at_another_max_is_refused_or_the_same =
      rw (fits, valid) (at_another_max (max_fits other) false (valid_of other r) (pick (is_idle r) (Err Idle) passes) r idle)
