-- The answer of a C call: number + 2^32 × carried order; and what pds.h reads from it.
use Rattle.std.specs.Prelude.{ℕ, ◌+◌, ◌*◌, ◌/◌, ◌%◌, ◌≡◌, Bool, List}
use Rattle.party.specs.Answer.{number_of, carried_of, is_refusal}
use Rattle.std.specs.declared.result.Result.{Result}
use Rattle.refusal.specs.declared.Refusal.{Refusal}
use Rattle.party.specs.declared.Answer.{Answer}
use Rattle.image.specs.Calls.{Done}

abbrev pub packed_of : Result Answer Refusal → ℕ
packed_of answer = number_of answer + 4294967296 * carried_of answer

-- pds_number: the low half
abbrev pub pds_number : (answer : ℕ) → ℕ
pds_number answer = answer % 4294967296

-- pds_order: the high half
abbrev pub pds_order : (answer : ℕ) → ℕ
pds_order answer = answer / 4294967296

-- pds_refused: the number is from 1 to 12
abbrev pub pds_refused : (answer : ℕ) → Bool
pds_refused answer = is_refusal (pds_number answer)

-- read so, an answer tells the number and the carried order of what was wanted
abbrev pub Tells : (wanted : Done) (answer : ℕ) → Type 0
Tells wanted answer = (pds_number answer ≡ number_of wanted.answer) × (pds_order answer ≡ carried_of wanted.answer)

-- What each call promises: the packed answer and every byte it was lent.
pub record PackedPromise (wanted : Done) (answer : ℕ) (left : List ℕ) : Type 0 where
  pub packed : answer ≡ packed_of wanted.answer
  pub bytes : left ≡ wanted.image
