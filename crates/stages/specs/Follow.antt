-- What follows the access of a stage, as the right column of document 01's table says.
use Rattle.std.specs.Prelude.{ℕ, Bool, not, ◌&&◌, ◌||◌, eqb}
use Rattle.logic.specs.Pick.{pick}
use Rattle.word.specs.Word.{value_of}
use Rattle.word.specs.declared.Swapped.{Swapped}
use Rattle.word.specs.declared.Swapped.TheVariants.{Won, Lost, Stuck}
use Rattle.record.specs.Operation.{is_push}
use Rattle.record.specs.Record.{again, at_stage, with_first, with_second}
use Rattle.record.specs.Valid.{at_wall}
use Rattle.refusal.specs.declared.Refusal.TheVariants.{CounterAtEnd}
use Rattle.party.specs.Answer.{going_on, ends, refused}
use Rattle.record.specs.declared.Record.{Record}
use Rattle.refusal.specs.declared.Refusal.{Refusal}
use Rattle.party.specs.declared.Answered.{Answered}
use Rattle.party.specs.declared.Answer.TheVariants.{Pushed, Popped, Full, Empty}
use Rattle.stages.specs.Stages.{own, far}
use Rattle.stages.specs.declared.AfterLook.{AfterLook}
use Rattle.stages.specs.declared.AfterLook.TheVariants.{Remember, Judge, Recheck}
use Rattle.stages.specs.declared.AfterSwap.{AfterSwap}
use Rattle.stages.specs.declared.AfterSwap.TheVariants.{Onward, Push, Pop}

-- the first value is own null or the second is not: the hint was wrong
abbrev pub misled : Record → (word : ℕ) → Bool
misled r word = eqb (value_of r.first) (own r) || not (eqb (value_of word) (own r))

abbrev pub push_at_wall : (max : ℕ) → Record → Bool
push_at_wall max r = is_push r.operation && at_wall max r

abbrev pub pop_at_far : Record → Bool
pop_at_far r = not (is_push r.operation) && eqb (value_of r.first) (far r)

-- stage 2, by the word that it read
unfoldable pub judge_of : (max : ℕ) → Record → (word : ℕ) → Answered Refusal
judge_of max r word =
    pick (misled r word) (going_on (again r))
    (pick (push_at_wall max r) (ends Full)
    (pick (pop_at_far r) (going_on (at_stage 3 (with_second word r)))
    (going_on (at_stage 4 (with_second word r)))))

-- stage 3, by the word that it read: equal to the first word, or on as the source does
unfoldable pub recheck_of : Record → (word : ℕ) → Answered Refusal
recheck_of r word = pick (eqb word r.first) (ends Empty) (going_on (at_stage 4 r))

abbrev pub looked_of : (max : ℕ) → Record → AfterLook → (word : ℕ) → Answered Refusal
looked_of max r Remember word = going_on (at_stage 2 (with_first word r))
looked_of max r Judge word = judge_of max r word
looked_of max r Recheck word = recheck_of r word

abbrev pub won_of : Record → AfterSwap → Answered Refusal
won_of r Onward = going_on (at_stage 5 r)
won_of r Push = ends Pushed
won_of r Pop = ends (Popped (value_of r.first))

-- a lost swap goes to stage 1; one that would win at the counter's end is 9
abbrev pub swapped_of : Record → AfterSwap → Swapped → Answered Refusal
swapped_of r then Won = won_of r then
swapped_of r then (Lost met) = going_on (again r)
swapped_of r then Stuck = refused CounterAtEnd r
