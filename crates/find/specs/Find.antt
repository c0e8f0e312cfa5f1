-- Find: the first place of a side, from its far end on, that holds own null beside a neighbour that does not.
use Rattle.std.specs.Prelude.{ℕ, zero, suc, ◌+◌, ◌-◌, Bool, not, ◌&&◌, List, length, eqb}
use Rattle.std.specs.declared.result.Result.{Result}
use Rattle.std.specs.declared.result.Result.TheVariants.{Ok, Err}
use Rattle.logic.specs.Pick.{pick}
use Rattle.refusal.specs.declared.Refusal.{Refusal}
use Rattle.refusal.specs.declared.Refusal.TheVariants.{WrongSize, NoPlace}
use Rattle.refusal.specs.Refusal.{refusal_number}
use Rattle.word.specs.Word.{value_at}
use Rattle.record.specs.Operation.{is_right, own_null, neighbour}
use Rattle.step.specs.Step.{strip_fits, max_of}

-- the place holds own null and its neighbour does not
abbrev pub is_end : (operation : ℕ) (strip : List ℕ) (k : ℕ) → Bool
is_end operation strip k =
    eqb (value_at strip k) (own_null operation) && not (eqb (value_at strip (neighbour operation k)) (own_null operation))

-- the places of a side in the order of the search: from 1 up on the right, from MAX down on the left
abbrev pub candidate : (operation max i : ℕ) → ℕ
candidate operation max i = pick (is_right operation) (1 + i) (max - i)

-- the first of `count` candidates from number i on that passes the test
unfoldable pub first_from : (test : ℕ → Bool) (places : ℕ → ℕ) (i count : ℕ) → Result ℕ Refusal
first_from test places i zero = Err NoPlace
first_from test places i (suc count) =
    pick (test (places i)) (Ok (places i)) (first_from test places (i + 1) count)

unfoldable pub find_of : (operation : ℕ) (strip : List ℕ) → Result ℕ Refusal
find_of operation strip =
    pick (strip_fits (length strip))
    (first_from (is_end operation strip) (candidate operation (max_of (length strip))) 0 (max_of (length strip) + 1))
    (Err WrongSize)

-- the number of document 01's table, and the place, which is 0 with a refusal
abbrev pub found_number : Result ℕ Refusal → ℕ
found_number (Ok place) = 0
found_number (Err refusal) = refusal_number refusal

abbrev pub found_place : Result ℕ Refusal → ℕ
found_place (Ok place) = place
found_place (Err refusal) = 0
