-- What measure answers, by the three runs that it counts.
use Prim.Native.Nat.{ℕ, ◌-◌}
use mathlib.Core.Path.{◌≡◌}
use mathlib.Core.Bool.{true, false}
use mathlib.Core.List.{List}
use lib.ListN.{length}
use Rattle.std.specs.declared.result.Result.TheVariants.{Ok, Err}
use Rattle.refusal.specs.declared.Refusal.TheVariants.{WrongSize, NotShaped}
use Rattle.step.specs.Step.{strip_fits}
use Rattle.strip.specs.Measure.{lefts, orders, rights, is_shaped, measure_of}

pub record Counted (strip : List ℕ) (l n r : ℕ) : Type 0 where
  pub of_left : lefts strip ≡ l
  pub of_orders : orders strip ≡ n
  pub of_right : rights strip ≡ r

module _ (strip : List ℕ) where
  pub measure_refuses : strip_fits (length strip) ≡ false → measure_of strip ≡ Err WrongSize
  unfolding measure_of
  measure_refuses unfit = simp unfit

  module _ (fits : strip_fits (length strip) ≡ true) where
    pub measure_shaped : is_shaped strip ≡ true
        → measure_of strip ≡ Ok (record { left = lefts strip - 1; orders = orders strip; right = rights strip - 1 })
    unfolding measure_of
    measure_shaped shaped = simp (fits, shaped)

    pub measure_unshaped : is_shaped strip ≡ false → measure_of strip ≡ Err NotShaped
    unfolding measure_of
    measure_unshaped unshaped = simp (fits, unshaped)
