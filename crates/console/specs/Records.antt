-- The record that a text begins with, as six numbers.
use Rattle.std.specs.Prelude.{ℕ, zero, suc, ◌^◌, List, [], ◌∷◌, ◌++◌}
use Rattle.record.specs.declared.Record.{Record}

abbrev pub numbers_of : Record → List ℕ
numbers_of r = r.operation ∷ r.stage ∷ r.k ∷ r.v ∷ r.first ∷ r.second ∷ []

-- what each of them lies below, and each of so many records'
abbrev pub record_bounds : List ℕ
record_bounds = (2 ^ 8) ∷ (2 ^ 8) ∷ (2 ^ 16) ∷ (2 ^ 32) ∷ (2 ^ 64) ∷ (2 ^ 64) ∷ []

abbrev pub table_bounds : ℕ → List ℕ
table_bounds zero = []
table_bounds (suc count) = record_bounds ++ table_bounds count
