-- The records that the calls make. No other place builds one.
use Rattle.std.specs.Prelude.{ℕ}
use Rattle.record.specs.declared.Record.{Record}

abbrev pub idle : Record
idle = record { operation = 0; stage = 0; k = 0; v = 0; first = 0; second = 0 }

-- stage 1: an operation and its order, nothing read yet
abbrev pub begun : (operation v : ℕ) → Record
begun operation v = record { operation = operation; stage = 1; k = 0; v = v; first = 0; second = 0 }

-- on return to stage 1, k and both words become 0
abbrev pub again : Record → Record
again r = begun r.operation r.v

-- at another stage, all else as it was
abbrev pub at_stage : ℕ → Record → Record
at_stage stage r =
    record { operation = r.operation; stage = stage; k = r.k; v = r.v; first = r.first; second = r.second }

-- of another operation, all else as it was: for the mirror and the figure, no call makes it
abbrev pub with_operation : ℕ → Record → Record
with_operation operation r =
    record { operation = operation; stage = r.stage; k = r.k; v = r.v; first = r.first; second = r.second }

abbrev pub with_place : ℕ → Record → Record
with_place k r =
    record { operation = r.operation; stage = r.stage; k = k; v = r.v; first = r.first; second = r.second }

abbrev pub with_first : ℕ → Record → Record
with_first word r =
    record { operation = r.operation; stage = r.stage; k = r.k; v = r.v; first = word; second = r.second }

abbrev pub with_second : ℕ → Record → Record
with_second word r =
    record { operation = r.operation; stage = r.stage; k = r.k; v = r.v; first = r.first; second = word }
