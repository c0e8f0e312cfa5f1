-- A swap made in the bytes of an image, by how it ended.
use Prim.Native.Nat.{ℕ}
use mathlib.Core.Path.{◌≡◌, refl}
use mathlib.Core.List.{List}
use lib.Seq.{sets}
use borrow.Author.Tests.{eq-eqb, ne_eqb}
use Rattle.std.specs.declared.result.Result.{Result}
use Rattle.std.specs.declared.result.Result.TheVariants.{Ok, Err}
use Rattle.refusal.specs.declared.Refusal.{Refusal}
use Rattle.refusal.specs.declared.Refusal.TheVariants.{CounterAtEnd}
use Rattle.word.specs.Word.{counter_of, last_counter, raised_to}
use Rattle.word.specs.declared.Swapped.{Swapped}
use Rattle.word.specs.declared.Swapped.TheVariants.{Won, Lost, Stuck}
use Rattle.record.specs.Record.{again}
use Rattle.party.specs.Answer.{going_on}
use Rattle.record.specs.declared.Record.{Record}
use Rattle.party.specs.declared.Answer.{Answer}
use Rattle.party.specs.declared.Answer.TheVariants.{GoesOn}
use Rattle.stages.specs.Follow.{won_of, swapped_of}
use Rattle.stages.specs.declared.AfterSwap.{AfterSwap}
use Rattle.little.specs.Bytes.{bytes_of}
use Rattle.format.specs.Format.{word_place}
use Rattle.header.specs.Header.{version_at}
use Rattle.image.specs.Inside.{recorded, swap_recorded, met_at, SwapMade, seen_at}

module _ (image : List ℕ) (base at : ℕ) (r : Record) (place from to : ℕ) (then : AfterSwap) where
  abbrev seen : ℕ
  seen = seen_at image base place

  made : (met : Swapped) (answer : Result Answer Refusal) (left : List ℕ) → met_at image base place from ≡ met
      → answer ≡ (swapped_of r then met).answer → left ≡ swap_recorded met image base at place (raised_to from to) (swapped_of r then met)
      → SwapMade image base at r place from to then answer left
  made met answer left e a l = record { answered = rw e a; bytes_left = rw e l }

  pub made_lost : (left : List ℕ) → (seen ≡ from → ⊥) → left ≡ recorded (version_at image) image at (going_on (again r))
      → SwapMade image base at r place from to then (Ok GoesOn) left
  made_lost left other is = made (Lost seen) (Ok GoesOn) left (rw (ne_eqb seen from other) refl) refl is

  pub made_stuck : seen ≡ from → counter_of from ≡ last_counter → SwapMade image base at r place from to then (Err CounterAtEnd) image
  made_stuck same ended = made Stuck (Err CounterAtEnd) image (rw (eq-eqb seen from same, eq-eqb (counter_of from) last_counter ended) refl) refl refl

  pub made_won : (answer : Result Answer Refusal) (left : List ℕ) → seen ≡ from → (counter_of from ≡ last_counter → ⊥) → answer ≡ (won_of r then).answer
      → left ≡ recorded (version_at image) (sets image (word_place base place) (bytes_of 8 (raised_to from to))) at (won_of r then)
      → SwapMade image base at r place from to then answer left
  made_won answer left same unended =
      made Won answer left (rw (eq-eqb seen from same, ne_eqb (counter_of from) last_counter unended) refl)
