-- The four swaps of the table, won by one party's record, keep a sane state sane.
use Prim.Native.Nat.{ℕ, ◌≤◌, ◌<◌}
use mathlib.Core.Path.{◌≡◌, refl, sym, ◌∙◌, ap}
use mathlib.Core.Bool.{true, false, true≢false}
use mathlib.Core.List.{List}
use lib.ListN.{length, get_or, set}
use native.Mathlib.Omega.{arith}
use Rattle.logic.specs.Every.{Every}
use Rattle.word.specs.Word.{value_of, raised_to, value_at}
use Rattle.word.specs.Swap.{Took}
use Rattle.swaps.specs.Remembered.{Known, Wins}
use Rattle.swaps.specs.Claims.{Apart}
use Rattle.swaps.proofs.Claims.{apart_made, apart_sym}
use Rattle.record.specs.Operation.{is_push}
use Rattle.record.specs.Record.{idle, at_stage}
use Rattle.record.specs.Valid.{valid_of}
use Rattle.record.specs.declared.Record.{Record}
use Rattle.stages.specs.Stages.{near, own, at_place, at_near}
use Rattle.step.specs.Step.{strip_fits, max_of}
use Rattle.invariant.specs.Invariant.{FreshFirst, FreshSecond, Sound, claim_of, Sane}
use Rattle.invariant.proofs.Sides.{Sides, sides, own_is_null, Placed, placed, one_place, one_neighbour, order_is, wins_at_place, wins_at_near}
use Rattle.invariant.proofs.Moves.{idle_sound, won_sound}
use Rattle.invariant.proofs.Others.{claim_known, Spares, same_value_spares, stays_sound}
use Rattle.invariant.proofs.Sanity.{set_sane, set_early_sane, swap_sane}

module _ (strip : List ℕ) (table : List Record) (party : ℕ) (fits : strip_fits (length strip) ≡ true) (known : party < length table)
    (sane : Sane strip table) where
  abbrev of : ℕ → Record
  of i = get_or table i idle

  abbrev r : Record
  r = of party

  sound : Sound strip r
  sound = sane.sound party known

  at : 2 ≤ r.stage → Placed (length strip) r
  at = placed (length strip) r fits sound.valid

  own_fits : own r < 4294967296
  own_fits = omega (arith, own_is_null r)

  -- that of stage 4 changes no value, and makes a claim that no other crosses
  fourth_sane : {place from : ℕ} (w : Wins strip place from) (to : ℕ) → to < 4294967296 → value_at strip place ≡ to
      → (claim_of r).guard ≡ place → Sound strip (at_stage 5 r)
      → Sane (set strip place (raised_to from to)) (set table party (at_stage 5 r))
  fourth_sane {place} {from} w to small same guard now =
      set_sane (swap_sane sane w to small (λ i listed. same_value_spares place same (sane.sound i listed))) party
      (stays_sound w to small now (same_value_spares place same now))
      (λ s t. made (at_stage 5 r) (claim_known now refl))
      (λ i listed s t. made (of i) (claim_known (sane.sound i listed) t))
      (λ i listed s t. apart_sym swapped (claim_of r) (claim_of (of i)) (made (of i) (claim_known (sane.sound i listed) s)))
    where
      swapped : List ℕ
      swapped = set strip place (raised_to from to)

      made : (other : Record) → Known strip (claim_of other).target (claim_of other).word → Apart swapped (claim_of r) (claim_of other)
      made other = apart_made w to (claim_of r) (claim_of other) guard

  -- that of stage 5 ends the operation
  fifth_sane : {place from : ℕ} (w : Wins strip place from) (to : ℕ) → to < 4294967296 → Every (Spares strip place to) idle table
      → Sane (set strip place (raised_to from to)) (set table party idle)
  fifth_sane w to small spares = set_early_sane (swap_sane sane w to small spares) party (idle_sound _) (omega arith)

  pub push_4_sane : r.stage ≡ 4 → is_push r.operation ≡ true → Took (at_near strip r) r.first
      → valid_of (max_of (length strip)) (at_stage 5 r) ≡ true
      → Sane (set strip (near r) (raised_to r.first (value_of r.first))) (set table party (at_stage 5 r))
  push_4_sane s push took valid =
      fourth_sane (wins_at_near (at (omega arith)) took) (value_of r.first) (omega arith) (ap value_of took.same) (rw push refl)
      (won_sound strip r sound s (λ p. took.same) (λ pop. absurd (true≢false (sym push ∙ pop))) valid)

  pub pop_4_sane : r.stage ≡ 4 → is_push r.operation ≡ false → Took (at_place strip r) r.second
      → valid_of (max_of (length strip)) (at_stage 5 r) ≡ true
      → Sane (set strip r.k (raised_to r.second (own r))) (set table party (at_stage 5 r))
  pop_4_sane s pop took valid =
      fourth_sane (wins_at_place (at (omega arith)) took) (own r) own_fits (ap value_of took.same ∙ sound.second_own (omega arith))
      (rw pop refl) (won_sound strip r sound s (λ push. absurd (true≢false (sym push ∙ pop))) (λ p. took.same) valid)

  -- An order is no null behind a push. A pop ahead of which it would stand is of this side, and would cross its claim; or of the
  -- other, and wants another null there than the one this push met.
  pub push_5_sane : r.stage ≡ 5 → is_push r.operation ≡ true → Took (at_place strip r) r.second
      → Sane (set strip r.k (raised_to r.second r.v)) (set table party idle)
  push_5_sane s push took =
      fifth_sane (wins_at_place (at (omega arith)) took) r.v sound.order_fits
      (λ i listed.
      record {
        push = λ s' p fresh at is-own. omega (arith, order, own_is_null (of i));
        pop = λ s' pop fresh at. absurd (ahead i listed s' pop fresh at (sides r (of i)));
      })
    where
      order : 3 ≤ r.v
      order = order_is (max_of (length strip)) r sound.valid (omega arith) push

      ahead : (i : ℕ) → i < length table → (of i).stage ≡ 5 → is_push (of i).operation ≡ false → FreshFirst strip (of i)
          → (of i).k ≡ r.k → Sides r (of i) → ⊥
      ahead i listed s' pop fresh at (Sides.same side null) =
          sane.apart party i known listed s s'
          (record { there = rw (push, pop) (sym at); back = rw (push, pop) (sym (one_neighbour r (of i) side (sym at))) })
          (rw push took.same) (rw pop fresh)
      ahead i listed s' pop fresh at (Sides.other null differs) =
          differs (sym (sound.second_own (omega arith)) ∙ ap value_of (sym took.same) ∙ ap (value_at strip) (sym at)
          ∙ (sane.sound i listed).pop_ahead s' pop fresh)

  -- A push of this side behind which own null would stand would cross this pop's claim. Ahead of a pop of the other side stands far
  -- null, and this pop's first value is not that.
  pub pop_5_sane : r.stage ≡ 5 → is_push r.operation ≡ false → Took (at_near strip r) r.first
      → Sane (set strip (near r) (raised_to r.first (own r))) (set table party idle)
  pop_5_sane s pop took =
      fifth_sane (wins_at_near (at (omega arith)) took) (own r) own_fits
      (λ i listed.
      record {
        push = λ s' push fresh at is-own. behind i listed s' push fresh at is-own (sides (of i) r);
        pop = λ s' pop' fresh at. ahead i listed s' pop' fresh at (sides r (of i));
      })
    where
      behind : (i : ℕ) → i < length table → (of i).stage ≡ 5 → is_push (of i).operation ≡ true → FreshSecond strip (of i)
          → near (of i) ≡ near r → own r ≡ own (of i) → Sides (of i) r → ⊥
      behind i listed s' push fresh at is-own (Sides.same side null) =
          let there = placed (length strip) (of i) fits (sane.sound i listed).valid (omega arith) in
          let here = placed (length strip) r fits sound.valid (omega arith) in
          sane.apart i party listed known s' s
          (record { there = rw (push, pop) (one_place there here null at); back = rw (push, pop) (sym at) })
          (rw push fresh) (rw pop took.same)
      behind i listed s' push fresh at is-own (Sides.other null differs) = differs (sym is-own)

      ahead : (i : ℕ) → i < length table → (of i).stage ≡ 5 → is_push (of i).operation ≡ false → FreshFirst strip (of i)
          → (of i).k ≡ near r → Sides r (of i) → own r ≡ own (of i)
      ahead i listed s' pop' fresh at (Sides.same side null) = null
      ahead i listed s' pop' fresh at (Sides.other null differs) =
          absurd
          (sound.pop_not_far (omega arith) pop took.same
          (ap value_of (sym took.same) ∙ ap (value_at strip) (sym at) ∙ (sane.sound i listed).pop_ahead s' pop' fresh ∙ null))
