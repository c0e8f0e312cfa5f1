-- What the accesses of a step leave of an image. No public promise speaks of these.
use Rattle.std.specs.Prelude.{ℕ, ◌≡◌, List}
use Rattle.std.proofs.lemmas.List.Edits.{sets}
use Rattle.word.specs.Word.{raised_to}
use Rattle.word.specs.Swap.{swap_of}
use Rattle.word.specs.declared.Swapped.{Swapped}
use Rattle.word.specs.declared.Swapped.TheVariants.{Won, Lost, Stuck}
use Rattle.record.specs.declared.Record.{Record}
use Rattle.std.specs.declared.result.Result.{Result}
use Rattle.refusal.specs.declared.Refusal.{Refusal}
use Rattle.party.specs.declared.Answer.{Answer}
use Rattle.party.specs.declared.Answered.{Answered}
use Rattle.stages.specs.Follow.{looked_of, swapped_of}
use Rattle.stages.specs.declared.AfterLook.{AfterLook}
use Rattle.stages.specs.declared.AfterSwap.{AfterSwap}
use Rattle.little.specs.Bytes.{number_at, bytes_of}
use Rattle.header.specs.Header.{version_at}
use Rattle.format.specs.Format.{word_place}
use Rattle.format.specs.Spelling.{record_bytes}

-- the bytes that the record at a place is left with
abbrev pub recorded : (version : ℕ) → List ℕ → (at : ℕ) → Answered Refusal → List ℕ
recorded version image at given = sets image at (record_bytes version given.rec)

-- the word at a place of the strip that begins at a base
abbrev pub seen_at : (image : List ℕ) (base place : ℕ) → ℕ
seen_at image base place = number_at 8 image (word_place base place)

pub record LookMade (image : List ℕ) (base at max : ℕ) (r : Record) (place : ℕ) (then : AfterLook) (answer : Result Answer Refusal) (left : List ℕ) : Type 0 where
  pub answered : answer ≡ (looked_of max r then (seen_at image base place)).answer
  pub bytes_left : left ≡ recorded (version_at image) image at (looked_of max r then (seen_at image base place))

-- only a swap that won writes the word; one at the counter's end leaves the record too as it was
abbrev pub swap_recorded : Swapped → List ℕ → (base at place word : ℕ) → Answered Refusal → List ℕ
swap_recorded Won image base at place word given =
    recorded (version_at image) (sets image (word_place base place) (bytes_of 8 word)) at given
swap_recorded (Lost met) image base at place word given = recorded (version_at image) image at given
swap_recorded Stuck image base at place word given = image

abbrev pub met_at : (image : List ℕ) (base place from : ℕ) → Swapped
met_at image base place from = swap_of (seen_at image base place) from

pub record SwapMade (image : List ℕ) (base at : ℕ) (r : Record) (place from to : ℕ) (then : AfterSwap) (answer : Result Answer Refusal) (left : List ℕ) : Type 0 where
  pub answered : answer ≡ (swapped_of r then (met_at image base place from)).answer
  pub bytes_left : left ≡ swap_recorded (met_at image base place from) image base at place (raised_to from to) (swapped_of r then (met_at image base place from))
