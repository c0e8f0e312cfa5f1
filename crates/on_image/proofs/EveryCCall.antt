-- Demand 3 of the C calls: what pds_start, pds_step and pds_withdraw answer, one after the other on one region of bytes, is explained
-- by the plain strip; and so it is on what pds_lay left.
use Prim.Native.Nat.{ℕ}
use mathlib.Core.Path.{◌≡◌, refl, ◌∙◌, ap, ap₂, subst}
use mathlib.Core.List.{List, [], ◌∷◌, map}
use lib.ListN.{length, get_or, drop}
use native.Mathlib.Omega.{arith}
use Rattle.logic.specs.Every.{Every}
use Rattle.party.specs.Answer.{number_of, carried_of}
use Rattle.std.specs.declared.result.Result.{Result}
use Rattle.refusal.specs.declared.Refusal.{Refusal}
use Rattle.party.specs.declared.Answer.{Answer}
use Rattle.plain.specs.Plain.{Plain, fresh_plain}
use Rattle.call.specs.Call.{Call, Fitting}
use Rattle.strip.specs.Shape.{StandsFor}
use Rattle.format.specs.Spelling.{strip_of}
use Rattle.image.specs.Calls.{image_of, lay_of}
use Rattle.history.specs.Run.{Line, lines_from, no_call, line_numbers, line_orders, line_effects}
use Rattle.history.specs.Finished.{finished_of}
use Rattle.history.specs.Told.{effects_of}
use Rattle.history.specs.Explained.{ExplainedRun}
use Rattle.history.specs.Accounts.{Closed}
use Rattle.history.proofs.Told.{effects_are_told}
use Rattle.history.proofs.Accounts.{from_fresh_each_account_is_closed}
use Rattle.pds.specs.Packed.{packed_of, pds_number, pds_order, Tells, PackedPromise}
use Rattle.pds.proofs.Unpacked.{a_packed_answer_tells_its_number_and_order}
use Rattle.on_image.specs.Intact.{Intact}
use Rattle.on_image.specs.Run.{Begins, answers_on, image_after, first_on, RunsAs}
use Rattle.on_image.specs.Packed.{InTurn, lines_of, lines_told}
use Rattle.on_image.proofs.Laid.{what_pds_lay_leaves_begins}
use Rattle.on_image.proofs.EveryRun.{every_run_on_an_image_is_explained}

-- Calls in turn are a run on the image, its answers packed;
pub calls_in_turn_are_a_run : (calls : List Call) (image answers last : List ℕ) → InTurn image calls answers last
    → (answers ≡ map packed_of (answers_on image calls)) × (last ≡ image_after image calls)
unfolding answers_on image_after
calls_in_turn_are_a_run [] image [] last same = (refl, same)
calls_in_turn_are_a_run [] image (answer ∷ answers) last none = absurd none
calls_in_turn_are_a_run (call ∷ calls) image [] last none = absurd none
calls_in_turn_are_a_run (call ∷ calls) image (answer ∷ answers) last (next, kept, turn) =
    let rest = calls_in_turn_are_a_run calls (image_of image call).image answers last
    (subst (λ (lent : List ℕ). InTurn lent calls answers last) kept.bytes turn) in
    (ap₂ ◌∷◌ kept.packed rest.0, rest.1)

-- and a run on the image is calls in turn.
pub a_run_is_calls_in_turn : (calls : List Call) (image : List ℕ)
    → InTurn image calls (map packed_of (answers_on image calls)) (image_after image calls)
unfolding answers_on image_after
a_run_is_calls_in_turn [] image = refl
a_run_is_calls_in_turn (call ∷ calls) image =
    ((image_of image call).image, record { packed = refl; bytes = refl }, a_run_is_calls_in_turn calls (image_of image call).image)

-- what is read in each packed answer of a run is read in the answer
reads_back : (read : ℕ → ℕ) (of : Result Answer Refusal → ℕ)
    → ((image : List ℕ) (call : Call) → read (packed_of (image_of image call).answer) ≡ of (image_of image call).answer)
    → (calls : List Call) (image : List ℕ) → map read (map packed_of (answers_on image calls)) ≡ map of (answers_on image calls)
unfolding answers_on
reads_back read of reads [] image = refl
reads_back read of reads (call ∷ calls) image =
    ap₂ ◌∷◌ (reads image call) (reads_back read of reads calls (image_of image call).image)

told : (image : List ℕ) (call : Call) → Tells (image_of image call) (packed_of (image_of image call).answer)
told image call =
    a_packed_answer_tells_its_number_and_order image call (packed_of (image_of image call).answer) (image_of image call).image
    (record { packed = refl; bytes = refl })

-- lines are their three columns
lines_are_columns : (lines : List Line) (answers : List ℕ)
    → map pds_number answers ≡ line_numbers lines → map pds_order answers ≡ line_orders lines → lines_of answers (line_effects lines) ≡ lines
unfolding lines_of
lines_are_columns [] [] numbers orders = refl
lines_are_columns [] (answer ∷ answers) numbers orders = absurd (omega (arith, ap (length {A = ℕ}) numbers))
lines_are_columns (line ∷ lines) [] numbers orders = absurd (omega (arith, ap (length {A = ℕ}) numbers))
lines_are_columns (line ∷ lines) (answer ∷ answers) numbers orders =
    let first : List ℕ → ℕ = λ l. get_or l 0 0 in
    let with : ℕ → ℕ → Line = λ number carried. record { number = number; carried = carried; effect = line.effect } in
    ap₂ ◌∷◌ (ap₂ with (ap first numbers) (ap first orders))
    (lines_are_columns lines answers (ap (drop 1) numbers) (ap (drop 1) orders))

-- Demand 3 of the C calls, from any image at the beginning of a run. That calls fit says that an order is a uint32_t.
module _ (image : List ℕ) (p : Plain) (parties : ℕ) (begins : Begins image p parties) (calls : List Call)
    (fitting : Every Fitting no_call calls) (answers last : List ℕ) (turn : InTurn image calls answers last) where
  abbrev lines : List Line
  lines = lines_from (first_on image parties) 0 calls

  explained : RunsAs (first_on image parties) 0 image calls × ExplainedRun p parties calls lines (strip_of (image_after image calls))
  explained = every_run_on_an_image_is_explained image p parties begins calls fitting

  run : (answers ≡ map packed_of (answers_on image calls)) × (last ≡ image_after image calls)
  run = calls_in_turn_are_a_run calls image answers last turn

  numbers : map pds_number answers ≡ line_numbers lines
  numbers = ap (map pds_number) run.0 ∙ reads_back pds_number number_of (λ i c. (told i c).0) calls image ∙ explained.0.numbers

  orders : map pds_order answers ≡ line_orders lines
  orders = ap (map pds_order) run.0 ∙ reads_back pds_order carried_of (λ i c. (told i c).1) calls image ∙ explained.0.carried

  the_lines_are_told : lines_told parties calls answers ≡ lines
  the_lines_are_told =
      ap (lines_of answers) (ap (effects_of parties calls) numbers ∙ effects_are_told (strip_of image) parties calls)
      ∙ lines_are_columns lines answers numbers orders

  -- The run is explained, and the image may be used on.
  pub every_run_of_C_calls_is_explained : ExplainedRun p parties calls (lines_told parties calls answers) (strip_of last) × Intact last
  every_run_of_C_calls_is_explained =
      (rw (the_lines_are_told, run.1) explained.1, rw run.1 explained.0.intact)

-- What pds_lay leaves where it answers 0 is such an image, with the divide that it was given.
module _ (bytes : List ℕ) (max parties divide : ℕ) (image : List ℕ) (laid : PackedPromise (lay_of bytes max parties divide) 0 image)
    (calls : List Call) (fitting : Every Fitting no_call calls) (answers last : List ℕ) (turn : InTurn image calls answers last) where
  pub every_run_of_C_calls_after_pds_lay_is_explained :
      ExplainedRun (fresh_plain max divide) parties calls (lines_told parties calls answers) (strip_of last) × Intact last
  every_run_of_C_calls_after_pds_lay_is_explained =
      every_run_of_C_calls_is_explained image (fresh_plain max divide) parties
      (what_pds_lay_leaves_begins bytes max parties divide image laid) calls fitting answers last turn

  -- No order is lost, doubled or made up in them.
  pub the_accounts_of_C_calls_are_closed : (q : Plain) × StandsFor (strip_of last) q
      × ((order : ℕ) → Closed order q (finished_of parties calls (lines_told parties calls answers)))
  the_accounts_of_C_calls_are_closed =
      let so = every_run_of_C_calls_after_pds_lay_is_explained.0 in
      (so.0, so.1, from_fresh_each_account_is_closed max divide so.2)
