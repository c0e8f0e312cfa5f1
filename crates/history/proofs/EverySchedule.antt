-- Demand 3. Whatever strip of 3 to 4,096 words that stands for a plain strip p, whatever number of parties, all idle, and whatever
-- calls, refused ones too (an order is 32 bits wide): the schedule and its lines are explained by the plain strip.
use Prim.Native.Nat.{ℕ, ◌+◌, ◌≤◌}
use mathlib.Core.Path.{◌≡◌, refl}
use mathlib.Core.Bool.{true}
use mathlib.Core.List.{List}
use lib.ListN.{length, take}
use borrow.Author.Tests.{le-leb}
use native.Mathlib.Omega.{arith}
use Rattle.logic.specs.Every.{Every}
use Rattle.logic.proofs.Lists.{every_take}
use Rattle.word.specs.Word.{IsWord}
use Rattle.step.specs.Step.{strip_fits}
use Rattle.call.specs.Call.{Call, Fitting}
use Rattle.plain.specs.Plain.{Plain, fresh_plain}
use Rattle.strip.specs.Shape.{StandsFor, Shaped}
use Rattle.strip.specs.Lay.{fresh_strip}
use Rattle.strip.specs.Measure.{measure_of}
use Rattle.std.specs.declared.result.Result.TheVariants.{Ok}
use Rattle.strip.proofs.Laying.{fresh_length, fresh_words}
use Rattle.strip.proofs.Values.{fresh_stands_for}
use Rattle.strip.proofs.MeasureShapes.{measure_gives_the_plain_strip}
use Rattle.invariant.proofs.Begin.{idle_is_sane}
use Rattle.history.specs.Run.{State, begin, lines_from, end_from, no_call}
use Rattle.history.specs.Finished.{finished_of}
use Rattle.history.specs.Explained.{ExplainedRun}
use Rattle.history.specs.Accounts.{Closed}
use Rattle.history.proofs.Explaining.{machine_explains}
use Rattle.history.proofs.Keeping.{Keeps, the_strip_keeps_going}
use Rattle.history.proofs.Counters.{the_strip_stays_as_long, no_counter_ever_comes_round}
use Rattle.history.proofs.Accounts.{from_fresh_each_account_is_closed}

module _ (strip : List ℕ) (p : Plain) (parties : ℕ) (calls : List Call) (length_fits : strip_fits (length strip) ≡ true)
    (stands : StandsFor strip p) (fitting : Every Fitting no_call calls) where
  -- Every schedule is explained: the finished operations, played on p in the order of their effects, give every answer, and end at
  -- the plain strip that the words stand for at the end.
  pub every_schedule_is_explained :
      ExplainedRun p parties calls (lines_from (begin strip parties) 0 calls) (end_from (begin strip parties) 0 calls).strip
  every_schedule_is_explained =
      machine_explains Keeps the_strip_keeps_going strip p parties calls length_fits stands fitting

  -- What measure then says are that plain strip's numbers.
  pub the_end_is_measured : (q : Plain) → StandsFor (end_from (begin strip parties) 0 calls).strip q
      → measure_of (end_from (begin strip parties) 0 calls).strip ≡ Ok (record { left = q.left; orders = length q.orders; right = q.right })
  the_end_is_measured q stands-at-end =
      measure_gives_the_plain_strip (end_from (begin strip parties) 0 calls).strip q
      (rw (the_strip_stays_as_long (begin strip parties) 0 calls) length_fits) stands-at-end

  pub the_strip_is_shaped_after_every_entry : (n : ℕ) → Shaped (end_from (begin strip parties) 0 (take n calls)).strip
  the_strip_is_shaped_after_every_entry n =
      let upto =
      machine_explains Keeps the_strip_keeps_going strip p parties (take n calls) length_fits stands (every_take Fitting no_call n calls fitting) in
      (upto.0, upto.1)

  pub no_counter_comes_round_in_a_schedule : Every IsWord 0 strip → Every IsWord 0 (end_from (begin strip parties) 0 calls).strip
  no_counter_comes_round_in_a_schedule words =
      no_counter_ever_comes_round (begin strip parties) 0 calls length_fits (idle_is_sane strip parties) fitting words

-- A fresh strip with divide d is an instance, with a fresh plain strip of the same divide.
module _ (max divide parties : ℕ) (calls : List Call) (some : 1 ≤ max) (small : max ≤ 4094) (inside : divide ≤ max)
    (fitting : Every Fitting no_call calls) where
  fresh_fits : strip_fits (length (fresh_strip max divide)) ≡ true
  fresh_fits =
      rw (fresh_length max divide inside, le-leb 3 (max + 2) (omega arith), le-leb (max + 2) 4096 (omega arith)) refl

  abbrev fresh : State
  fresh = begin (fresh_strip max divide) parties

  pub every_schedule_on_a_fresh_strip_is_explained :
      ExplainedRun (fresh_plain max divide) parties calls (lines_from fresh 0 calls) (end_from fresh 0 calls).strip
  every_schedule_on_a_fresh_strip_is_explained =
      every_schedule_is_explained (fresh_strip max divide) (fresh_plain max divide) parties calls fresh_fits
      (fresh_stands_for max divide) fitting

  pub no_counter_comes_round_on_a_fresh_strip : Every IsWord 0 (end_from fresh 0 calls).strip
  no_counter_comes_round_on_a_fresh_strip =
      no_counter_comes_round_in_a_schedule (fresh_strip max divide) (fresh_plain max divide) parties calls fresh_fits
      (fresh_stands_for max divide) fitting (fresh_words max divide inside)

  -- The accounts are closed after any number of entries, for each order.
  pub the_accounts_are_closed_after_every_entry : (n : ℕ) → (q : Plain) × StandsFor (end_from fresh 0 (take n calls)).strip q
      × ((order : ℕ) → Closed order q (finished_of parties (take n calls) (lines_from fresh 0 (take n calls))))
  the_accounts_are_closed_after_every_entry n =
      let upto =
      every_schedule_is_explained (fresh_strip max divide) (fresh_plain max divide) parties (take n calls) fresh_fits (fresh_stands_for max divide)
      (every_take Fitting no_call n calls fitting) in
      (upto.0, upto.1, from_fresh_each_account_is_closed max divide upto.2)
