-- Measure: L, the number of orders, and R of a shaped strip.
use Rattle.std.specs.Prelude.{ℕ, ◌+◌, ◌-◌, Bool, not, ◌&&◌, List, length, drop, eqb, leb}
use Rattle.std.specs.List.{prefix_len}
use Rattle.std.specs.declared.result.Result.{Result}
use Rattle.std.specs.declared.result.Result.TheVariants.{Ok, Err}
use Rattle.logic.specs.Pick.{pick}
use Rattle.refusal.specs.declared.Refusal.{Refusal}
use Rattle.refusal.specs.declared.Refusal.TheVariants.{WrongSize, NotShaped}
use Rattle.refusal.specs.Refusal.{refusal_number}
use Rattle.word.specs.Word.{value_of, LN, RN}
use Rattle.step.specs.Step.{strip_fits}
use Rattle.strip.specs.declared.Shape.{Shape}

-- how many words from the front on pass the test
abbrev pub run_of : (test : ℕ → Bool) → List ℕ → ℕ
run_of test words = prefix_len test words

abbrev pub is_LN : ℕ → Bool
is_LN word = eqb (value_of word) LN

abbrev pub is_order : ℕ → Bool
is_order word = leb 3 (value_of word)

abbrev pub is_RN : ℕ → Bool
is_RN word = eqb (value_of word) RN

-- the run of LN at the front, of orders after it, and of RN after those
abbrev pub lefts : List ℕ → ℕ
lefts strip = run_of is_LN strip

abbrev pub orders : List ℕ → ℕ
orders strip = run_of is_order (drop (lefts strip) strip)

abbrev pub rights : List ℕ → ℕ
rights strip = run_of is_RN (drop (lefts strip + orders strip) strip)

-- one or more LN, then orders, then one or more RN, and nothing after them
abbrev pub is_shaped : List ℕ → Bool
is_shaped strip = leb 1 (lefts strip) && leb 1 (rights strip) && eqb (lefts strip + orders strip + rights strip) (length strip)

-- L is the number of LN less one, R that of RN less one
unfoldable pub measure_of : List ℕ → Result Shape Refusal
measure_of strip =
    pick (not (strip_fits (length strip))) (Err WrongSize)
    (pick (not (is_shaped strip)) (Err NotShaped)
    (Ok (record { left = lefts strip - 1; orders = orders strip; right = rights strip - 1 })))

abbrev pub measured_number : Result Shape Refusal → ℕ
measured_number (Ok shape) = 0
measured_number (Err refusal) = refusal_number refusal

-- a refusal gives 0 for the measured numbers
abbrev pub measured_left : Result Shape Refusal → ℕ
measured_left (Ok shape) = shape.left
measured_left (Err refusal) = 0

abbrev pub measured_orders : Result Shape Refusal → ℕ
measured_orders (Ok shape) = shape.orders
measured_orders (Err refusal) = 0

abbrev pub measured_right : Result Shape Refusal → ℕ
measured_right (Ok shape) = shape.right
measured_right (Err refusal) = 0
