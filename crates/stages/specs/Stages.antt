-- Document 01's table of stages: the one access that a stage makes, and what follows it.
use Rattle.std.specs.Prelude.{ℕ, List, get_or, eqb}
use Rattle.logic.specs.Pick.{pick}
use Rattle.word.specs.Word.{value_of}
use Rattle.record.specs.Operation.{is_push, neighbour, own_null, far_null}
use Rattle.record.specs.declared.Record.{Record}
use Rattle.stages.specs.declared.AfterLook.TheVariants.{Remember, Judge, Recheck}
use Rattle.stages.specs.declared.AfterSwap.TheVariants.{Onward, Push, Pop}
use Rattle.stages.specs.declared.Access.{Access}
use Rattle.stages.specs.declared.Access.TheVariants.{Look, Swap}

abbrev pub near : Record → ℕ
near r = neighbour r.operation r.k

abbrev pub own : Record → ℕ
own r = own_null r.operation

abbrev pub far : Record → ℕ
far r = far_null r.operation

-- the word at the record's k, and at the neighbour
abbrev pub at_place : List ℕ → Record → ℕ
at_place strip r = get_or strip r.k 0

abbrev pub at_near : List ℕ → Record → ℕ
at_near strip r = get_or strip (near r) 0

-- the access of a record's stage; in stage 1 its k is the hint it took. A valid record that is busy has one of these five stages: what
-- stands last is never made.
unfoldable pub access_of : Record → Access
access_of r =
    pick (eqb r.stage 1) (Look (near r) Remember)
    (pick (eqb r.stage 2) (Look r.k Judge)
    (pick (eqb r.stage 3) (Look (near r) Recheck)
    (pick (eqb r.stage 4)
    (pick (is_push r.operation) (Swap (near r) r.first (value_of r.first) Onward) (Swap r.k r.second (own r) Onward))
    (pick (eqb r.stage 5)
    (pick (is_push r.operation) (Swap r.k r.second r.v Push) (Swap (near r) r.first (own r) Pop))
    (Look (near r) Remember)))))
