-- Demand 3 of runs on an image. Whatever image whose header is taken, whose records are 32 zero bytes each and whose strip stands for
-- a plain strip p, and whatever starts, steps and withdrawals, refused ones too: the run is explained by the plain strip.
use Prim.Native.Nat.{ℕ, suc}
use mathlib.Core.Path.{◌≡◌, refl, ◌∙◌, ap, ap₂}
use mathlib.Core.Bool.{true}
use mathlib.Core.List.{List, [], ◌∷◌, ◌++◌}
use lib.ListN.{length}
use native.Mathlib.Omega.{arith}
use Rattle.logic.specs.Every.{Every}
use Rattle.party.specs.Answer.{number_of, carried_of}
use Rattle.std.specs.declared.result.Result.{Result}
use Rattle.refusal.specs.declared.Refusal.{Refusal}
use Rattle.party.specs.declared.Answer.{Answer}
use Rattle.party.proofs.Cleared.{max_within}
use Rattle.plain.specs.Plain.{Plain}
use Rattle.step.specs.Step.{strip_fits}
use Rattle.call.specs.Call.{Call, Fitting, Left}
use Rattle.header.specs.Header.{max_at}
use Rattle.format.specs.Spelling.{strip_of, table_of}
use Rattle.format.proofs.Sizes.{header_sized}
use Rattle.format.proofs.Spelled.{strip_length}
use Rattle.image.specs.Calls.{Done, decoded, image_of}
use Rattle.image.proofs.Called.{strip_fits_lem}
use Rattle.history.specs.Run.{State, after, leaves, line_of, lines_from, end_from, no_call}
use Rattle.history.specs.Explained.{ExplainedRun}
use Rattle.history.proofs.EverySchedule.{every_schedule_is_explained}
use Rattle.on_image.specs.Intact.{Intact}
use Rattle.on_image.specs.Run.{Begins, answers_on, image_after, first_on, RunsAs}
use Rattle.on_image.proofs.Beginning.{idle_parties_are_spelled, it_is_intact}
use Rattle.on_image.proofs.Kept.{an_intact_image_is_called_decoded, a_call_keeps_an_image_intact, strip_after, table_after}

-- Calls on an intact image answer what they answer on the strip and the table that it spells, and leave what they leave there.
pub a_run_on_an_image_is_the_run_of_what_it_spells : (calls : List Call) (image : List ℕ) (s : State) (entry : ℕ) → Intact image
    → Every Fitting no_call calls → strip_of image ≡ s.strip → table_of image ≡ s.table → RunsAs s entry image calls
unfolding answers_on image_after lines_from end_from line_of leaves
a_run_on_an_image_is_the_run_of_what_it_spells [] image s entry intact fitting strip table =
    record { numbers = refl; carried = refl; strip = strip; table = table; intact = intact }
a_run_on_an_image_is_the_run_of_what_it_spells (call ∷ calls) image s entry intact fitting strip table =
    let narrow = fitting 0 (omega arith) in
    let same : decoded image call ≡ after s call = rw (strip, table) refl in
    let answer : (image_of image call).answer ≡ (after s call).answer =
    ap (λ (d : Done). d.answer) (an_intact_image_is_called_decoded image intact call narrow) ∙ ap (λ (l : Left). l.answer) same in
    let rest =
    a_run_on_an_image_is_the_run_of_what_it_spells calls (image_of image call).image (leaves s entry call) (suc entry)
    (a_call_keeps_an_image_intact image intact call narrow) (λ i within. fitting (suc i) (omega arith))
    (strip_after image intact call narrow ∙ ap (λ (l : Left). l.strip) same)
    (table_after image intact call narrow ∙ ap (λ (l : Left). l.table) same) in
    record {
      numbers = ap₂ ◌∷◌ (ap number_of answer) rest.numbers;
      carried = ap₂ ◌∷◌ (ap carried_of answer) rest.carried;
      strip = rest.strip;
      table = rest.table;
      intact = rest.intact;
    }

-- A run in two parts is the two, one behind the other.
pub a_run_in_two_parts : (calls later : List Call) (image : List ℕ)
    → (answers_on image (calls ++ later) ≡ answers_on image calls ++ answers_on (image_after image calls) later)
    × (image_after image (calls ++ later) ≡ image_after (image_after image calls) later)
unfolding answers_on image_after
a_run_in_two_parts [] later image = (refl, refl)
a_run_in_two_parts (call ∷ calls) later image =
    let rest = a_run_in_two_parts calls later (image_of image call).image in
    (ap (λ (l : List (Result Answer Refusal)). (image_of image call).answer ∷ l) rest.0, rest.1)

module _ (image : List ℕ) (p : Plain) (parties : ℕ) (begins : Begins image p parties) (calls : List Call)
    (fitting : Every Fitting no_call calls) where
  runs : RunsAs (first_on image parties) 0 image calls
  runs =
      a_run_on_an_image_is_the_run_of_what_it_spells calls image (first_on image parties) 0 (it_is_intact image p parties begins) fitting refl
      (idle_parties_are_spelled image p parties begins)

  words_fit : strip_fits (length (strip_of image)) ≡ true
  words_fit = rw (strip_length image) (strip_fits_lem (max_at image) (max_within (max_at image) (header_sized image begins.taken).max_fits))

  -- Every run on an image is explained: it is the run of the strip and the idle parties that the image spells, and the bytes at the end
  -- spell a strip that stands for the plain strip at the end.
  pub every_run_on_an_image_is_explained :
      RunsAs (first_on image parties) 0 image calls
      × ExplainedRun p parties calls (lines_from (first_on image parties) 0 calls) (strip_of (image_after image calls))
  every_run_on_an_image_is_explained =
      (runs, rw runs.strip (every_schedule_is_explained (strip_of image) p parties calls words_fit begins.stands fitting))
