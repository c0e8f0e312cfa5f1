-- Start, step and withdraw: their refusals in document 01's order. A call's first row is wrong in every way, and going down what was
-- refused is mended: so each refusal is seen to come before those after it. Some rows show a second way to the same refusal.
use Rattle.std.specs.Prelude.{ℕ, List, [], ◌∷◌, replicate}
use Rattle.word.specs.Word.{◌·◌}
use Rattle.record.specs.declared.Record.{Record}
use Rattle.record.specs.Record.{idle}
use Rattle.party.specs.Answer.{number_of}
use Rattle.party.specs.Calls.{start_of, withdraw_of}
use Rattle.step.specs.Step.{step_of}
use Rattle.call.specs.Call.{Call, call_of}
use Rattle.call.specs.Call.Call.{start, step, withdraw}
use Rattle.conventions.specs.Case.{Case, ◌is◌}
use Rattle.conventions.specs.Given.{rec, fresh, two_words, busy, spoilt, soiled, table}

abbrev pub started : (max : ℕ) → Record → (operation order : ℕ) → ℕ
started max r operation order = number_of (start_of max r operation order).answer

-- a right pop at place 4: valid at MAX 3, not at MAX 2
abbrev pub wide : Record
wide = rec 1 2 4 0 5 0

-- by value: 1, 11, 4, 5, 7; the record is checked at the MAX that is given
abbrev pub starts : List Case
starts =
    started 0 spoilt 4 2 is 1
    ∷ started 4095 spoilt 4 2 is 1
    ∷ started 4094 spoilt 4 2 is 11
    ∷ started 2 spoilt 0 2 is 4
    ∷ started 2 wide 0 2 is 4
    ∷ started 3 wide 0 2 is 5
    ∷ started 2 busy 0 2 is 5
    ∷ started 2 soiled 0 2 is 4
    ∷ started 2 idle 0 2 is 7
    ∷ started 2 idle 1 3 is 7
    ∷ started 2 idle 0 3 is 0
    ∷ []

abbrev pub withdrawn : (max : ℕ) → Record → ℕ
withdrawn max r = number_of (withdraw_of max r).answer

-- by value: 1, 4, 6
abbrev pub withdrawals : List Case
withdrawals =
    withdrawn 0 soiled is 1
    ∷ withdrawn 4095 soiled is 1
    ∷ withdrawn 4094 soiled is 4
    ∷ withdrawn 2 idle is 6
    ∷ withdrawn 2 busy is 0
    ∷ []

-- place 1 has a counter at its end
abbrev pub worn : List ℕ
worn = 0 · 0 ∷ 0 · 4294967295 ∷ 1 · 0 ∷ 1 · 0 ∷ []

abbrev pub stepped : List ℕ → Record → (hint : ℕ) → ℕ
stepped strip r hint = number_of (step_of strip r hint).answer

-- by value: 1, 4, 6, 8, 9; the hint is looked at in stage 1 alone, and a swap that would lose is never 9
abbrev pub steps : List Case
steps =
    stepped two_words soiled 0 is 1
    ∷ stepped fresh soiled 0 is 4
    ∷ stepped fresh idle 0 is 6
    ∷ stepped fresh spoilt 0 is 4
    ∷ stepped fresh busy 0 is 8
    ∷ stepped fresh busy 65537 is 8
    ∷ stepped fresh busy 2 is 0
    ∷ stepped worn (rec 0 4 2 2 (0 · 4294967295) (1 · 0)) 0 is 4
    ∷ stepped worn (rec 0 4 2 3 (0 · 4294967295) (1 · 0)) 0 is 9
    ∷ stepped worn (rec 0 4 2 3 (0 · 0) (1 · 0)) 0 is 0
    ∷ stepped worn (rec 0 4 2 3 (1 · 4294967295) (1 · 0)) 0 is 0
    ∷ []

abbrev pub called : List ℕ → List Record → Call → ℕ
called strip records call = number_of (call_of strip records call).answer

-- on a table: 1, 11, 3, and then those by value; of the table the named record alone is looked at
abbrev pub tables : List Case
tables =
    called two_words table (start 256 4 2) is 1
    ∷ called fresh [] (start 256 4 2) is 1
    ∷ called fresh (replicate 17 spoilt) (start 256 4 2) is 1
    ∷ called fresh (replicate 16 spoilt) (start 256 4 2) is 11
    ∷ called fresh table (start 256 0 2) is 3
    ∷ called fresh table (start 4 0 2) is 3
    ∷ called fresh table (start 0 0 2) is 4
    ∷ called fresh table (start 1 0 2) is 4
    ∷ called fresh (wide ∷ []) (start 0 0 2) is 4
    ∷ called fresh table (start 2 0 2) is 5
    ∷ called fresh table (start 3 0 2) is 7
    ∷ called fresh table (start 3 0 3) is 0
    ∷ called two_words table (step 256 0) is 1
    ∷ called fresh table (step 256 0) is 3
    ∷ called fresh table (step 0 0) is 4
    ∷ called fresh table (step 1 0) is 4
    ∷ called fresh table (step 3 0) is 6
    ∷ called fresh table (step 2 0) is 8
    ∷ called fresh table (step 2 2) is 0
    ∷ called two_words table (withdraw 256) is 1
    ∷ called fresh table (withdraw 256) is 3
    ∷ called fresh table (withdraw 1) is 4
    ∷ called fresh (wide ∷ []) (withdraw 0) is 4
    ∷ called fresh table (withdraw 3) is 6
    ∷ called fresh table (withdraw 2) is 0
    ∷ []
