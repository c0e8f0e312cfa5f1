-- A schedule file and what is lent to list it: 1, 2, 1, 8. The divide is 0 to MAX, in two bytes; 2,048 entries are the most.
use Rattle.std.specs.Prelude.{ℕ, List, [], ◌∷◌, ◌++◌, take, set, replicate}
use Rattle.refusal.specs.Refusal.{check_number}
use Rattle.schedule.specs.List.{list_refusal}
use Rattle.conventions.specs.Case.{Case, ◌is◌}

-- a file of so many zero bytes after its header
abbrev pub file : (letter version parties max divide bytes : ℕ) → List ℕ
file letter version parties max divide bytes =
    (80 ∷ 68 ∷ letter ∷ version ∷ 0 ∷ parties ∷ max ∷ 0 ∷ divide ∷ 0 ∷ []) ++ replicate bytes 0

-- listed with what must be lent: 4,096 words and 147,489 bytes
abbrev pub listed : List ℕ → ℕ
listed bytes = check_number (list_refusal bytes 4096 147489)

abbrev pub files : List Case
files =
    check_number (list_refusal (file 83 1 17 0 3 1) 4095 147489) is 1
    ∷ check_number (list_refusal (file 83 1 17 0 3 1) 4097 147489) is 1
    ∷ check_number (list_refusal (file 83 1 17 0 3 1) 4096 147488) is 1
    ∷ listed (take 9 (file 83 1 17 0 3 0)) is 1
    ∷ listed (file 83 1 17 0 3 1) is 2
    ∷ listed (file 83 1 17 0 3 16392) is 2
    ∷ listed (file 79 2 17 0 3 1) is 2
    ∷ listed (file 79 0 17 0 3 1) is 2
    ∷ listed (file 79 1 17 2 3 0) is 1
    ∷ listed (file 79 1 0 2 3 0) is 1
    ∷ listed (file 79 1 3 0 3 0) is 1
    ∷ listed (file 79 1 3 2 3 1) is 1
    ∷ listed (file 79 1 3 2 3 7) is 1
    ∷ listed (file 79 1 3 2 3 16392) is 1
    ∷ listed (file 79 1 3 2 3 16384) is 8
    ∷ listed (set (file 79 1 3 2 2 0) 9 1) is 8
    ∷ listed (file 79 1 3 2 2 16384) is 0
    ∷ listed (file 79 1 3 2 0 0) is 0
    ∷ check_number (list_refusal (file 79 1 3 2 2 0) 4096 147490) is 0
    ∷ []
