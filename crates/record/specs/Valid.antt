-- When a record is valid, as document 01 has it.
use Rattle.std.specs.Prelude.{ℕ, Bool, false, not, ◌&&◌, eqb, ltb}
use Rattle.logic.specs.Pick.{pick}
use Rattle.record.specs.Operation.{is_push, in_range, order_fits, wall}
use Rattle.record.specs.declared.Record.{Record}

abbrev pub is_idle : Record → Bool
is_idle r = eqb r.stage 0

-- stage 0 has every field 0
abbrev pub idle_fits : Record → Bool
idle_fits r = eqb r.operation 0 && eqb r.k 0 && eqb r.v 0 && eqb r.first 0 && eqb r.second 0

-- stages 1 to 5 have operation 0..3 with v at least 3 for a push and 0 for a pop
abbrev pub operation_fits : Record → Bool
operation_fits r = ltb r.operation 4 && order_fits r.operation r.v

abbrev pub place_fits : (max : ℕ) → Record → Bool
place_fits max r = in_range max r.operation r.k

abbrev pub nothing_read : Record → Bool
nothing_read r = eqb r.k 0 && eqb r.first 0 && eqb r.second 0

abbrev pub at_wall : (max : ℕ) → Record → Bool
at_wall max r = eqb r.k (wall max r.operation)

abbrev pub swap_fits : (max : ℕ) → Record → Bool
swap_fits max r = place_fits max r && not (is_push r.operation && at_wall max r)

-- stage 1 has k and both words 0; stage 2 has k in range and second word 0; stage 3 is a pop;
-- stages 3 to 5 have k in range, and in stages 4 and 5 a push's k is not the wall
abbrev pub stage_fits : (max : ℕ) → Record → Bool
stage_fits max r =
    pick (eqb r.stage 1) (nothing_read r)
    (pick (eqb r.stage 2) (place_fits max r && eqb r.second 0)
    (pick (eqb r.stage 3) (place_fits max r && not (is_push r.operation))
    (pick (eqb r.stage 4) (swap_fits max r)
    (pick (eqb r.stage 5) (swap_fits max r) false))))

unfoldable pub valid_of : (max : ℕ) → Record → Bool
valid_of max r = pick (is_idle r) (idle_fits r) (operation_fits r && stage_fits max r)
