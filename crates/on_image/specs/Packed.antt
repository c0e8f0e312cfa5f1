-- The same run as C sees it: pds_start, pds_step and pds_withdraw one after the other on one region of bytes.
use Rattle.std.specs.Prelude.{ℕ, ◌≡◌, List, [], ◌∷◌, map}
use Rattle.call.specs.Call.{Call}
use Rattle.image.specs.Calls.{image_of}
use Rattle.history.specs.Run.{Line}
use Rattle.history.specs.Told.{effects_of}
use Rattle.pds.specs.Packed.{pds_number, pds_order, PackedPromise}

-- each keeps its promise on the bytes that the one before left: these are the answers, and the bytes after the last
abbrev pub InTurn : (image : List ℕ) → List Call → (answers last : List ℕ) → Type 0
InTurn image [] [] last = last ≡ image
InTurn image [] (answer ∷ answers) last = ⊥
InTurn image (call ∷ calls) [] last = ⊥
InTurn image (call ∷ calls) (answer ∷ answers) last =
    (next : List ℕ) × PackedPromise (image_of image call) answer next × InTurn next calls answers last

-- what pds_number and pds_order read in each answer, and where it took effect
unfoldable pub lines_of : (answers effects : List ℕ) → List Line
lines_of [] effects = []
lines_of (answer ∷ answers) [] = []
lines_of (answer ∷ answers) (effect ∷ effects) =
    record { number = pds_number answer; carried = pds_order answer; effect = effect } ∷ lines_of answers effects

-- the lines of the run, read from the calls and the answers and from nothing else
abbrev pub lines_told : (parties : ℕ) → List Call → (answers : List ℕ) → List Line
lines_told parties calls answers = lines_of answers (effects_of parties calls (map pds_number answers))
