-- What a record remembers of the plain strip at its last look stays true, whatever is called.
use Prim.Native.Nat.{ℕ, ◌<◌}
use mathlib.Core.Path.{◌≡◌, sym, ◌∙◌, ap}
use mathlib.Core.Bool.{true}
use mathlib.Core.Logic.{◌⊎◌}
use mathlib.Core.List.{List}
use lib.ListN.{length, get_or, length-set}
use lib.Seq.{get_or-set_same}
use native.Mathlib.Omega.{arith}
use Rattle.logic.proofs.Lists.{at_set}
use Rattle.word.specs.Word.{raised_to}
use Rattle.record.specs.Record.{idle, begun}
use Rattle.party.specs.Answer.{number_of}
use Rattle.record.specs.declared.Record.{Record}
use Rattle.std.specs.declared.result.Result.{Result}
use Rattle.refusal.specs.declared.Refusal.{Refusal}
use Rattle.refusal.proofs.Checks.{refusal_is_not_0}
use Rattle.party.specs.declared.Answer.{Answer}
use Rattle.stages.specs.Stages.{near}
use Rattle.stages.specs.Follow.{push_at_wall}
use Rattle.step.specs.Step.{strip_fits, max_of, step_of, step_leaves}
use Rattle.call.specs.Call.{Call, party_of, call_of}
use Rattle.plain.specs.Plain.{Plain}
use Rattle.strip.specs.Shape.{StandsFor}
use Rattle.invariant.specs.Invariant.{Sound, Sane}
use Rattle.invariant.specs.Remembered.{Remembers}
use Rattle.swaps.proofs.Stale.{fresh_elsewhere}
use Rattle.invariant.proofs.Writes.{Written, step_writes}
use Rattle.call.proofs.Called.{Leaves, Called, called}
use Rattle.invariant.proofs.Looks.{remembers_nothing, idle_remembers, StepLooks, step_looks}

-- what others write leaves it true: a first word that is fresh was fresh before
written_remembers : {strip left : List ℕ} {order : ℕ} (r : Record) (then : Plain) → Sound strip r → Remembers strip r then
    → Written strip order left → Remembers left r then
written_remembers r then sound known (Written.nothing same) = rw same known
written_remembers {strip} r then sound known (Written.one {place} {from} to w fits is) =
    rw is
    (record {
      full_then = λ s wall.
          let long = sym (length-set strip place (raised_to from to)) in
          known.full_then s (ap (λ (n : ℕ). push_at_wall (max_of n) r) long ∙ wall);
      empty_then = λ s fresh.
          let was = fresh_elsewhere w to r.first (near r) (sound.first_known (omega arith)) fresh in
          known.empty_then s was.1;
    })

module _ (strip : List ℕ) (table : List Record) (call : Call) (p : Plain) (fits : strip_fits (length strip) ≡ true)
    (sane : Sane strip table) (stands : StandsFor strip p) where
  abbrev left_strip : List ℕ
  left_strip = (call_of strip table call).strip

  abbrev left_record : ℕ → Record
  left_record i = get_or (call_of strip table call).table i idle

  leaves_remembers : {answer : Result Answer Refusal} {words : List ℕ} {records : List Record} (i : ℕ) (then : Plain)
      → Leaves strip table call answer words records → Remembers words (get_or records i idle) then
      → Remembers left_strip (left_record i) then
  leaves_remembers i then left known = rw (left.strip_is, left.table_is) known

  -- A step that was not refused: its party remembers the plain strip of now, or has nothing to remember.
  pub look_remembers : (party hint : ℕ) → call ≡ Call.step party hint → number_of (call_of strip table call).answer ≡ 0
      → Remembers (call_of strip table call).strip (get_or (call_of strip table call).table party idle) p
  look_remembers party hint is zero = go (called strip table call)
    where
      go : Called strip table call → Remembers left_strip (left_record party) p
      go (Called.refuses refusal left) = absurd (refusal_is_not_0 refusal (sym (ap number_of left.answered) ∙ zero))
      go (Called.starts party' operation order is' known clear left) = let z : ◌≡◌ {A = ℕ} 0 1 = cc in absurd (omega arith)
      go (Called.withdraws party' is' known left) = let z : ◌≡◌ {A = ℕ} 0 1 = cc in absurd (omega arith)
      go (Called.steps party' hint' is' known clear on left) =
          let same : party ≡ party' = ap party_of (sym is ∙ is') in
          leaves_remembers party p left
          (rw (same, get_or-set_same table party' _ idle known)
          (mine (step_looks strip (get_or table party' idle) hint' p fits (sane.sound party' known) stands clear on)))
        where
          mine : StepLooks strip (get_or table party' idle) hint' p
              → Remembers (step_leaves strip (get_or table party' idle) hint') (step_of strip (get_or table party' idle) hint').rec p
          mine (StepLooks.looks stage goes known) = known
          mine (StepLooks.forgets all) = all p

  -- Any other call leaves what a party remembers.
  pub remembers_kept : (i : ℕ) (then : Plain) → i < length table
      → ((hint : ℕ) → call ≡ Call.step i hint → number_of (call_of strip table call).answer ≡ 0
      → ((get_or table i idle).stage ≡ 1) ⊎ ((get_or table i idle).stage ≡ 2) → ⊥)
      → Remembers strip (get_or table i idle) then
      → Remembers (call_of strip table call).strip (get_or (call_of strip table call).table i idle) then
  remembers_kept i then within other knows = go (called strip table call)
    where
      go : Called strip table call → Remembers left_strip (left_record i) then
      go (Called.refuses refusal left) = leaves_remembers i then left knows
      go (Called.starts party operation order is known clear left) =
          leaves_remembers i then left
          (at_set (λ r. Remembers strip r then) idle table party i (begun operation order)
          (λ at. remembers_nothing strip (begun operation order) then (omega arith)) knows)
      go (Called.withdraws party is known left) =
          leaves_remembers i then left
          (at_set (λ r. Remembers strip r then) idle table party i idle (λ at. idle_remembers strip then) knows)
      go (Called.steps party hint is known clear on left) =
          leaves_remembers i then left
          (at_set (λ r. Remembers (step_leaves strip (get_or table party idle) hint) r then) idle table party i _
          (λ at. mine at (step_looks strip (get_or table party idle) hint p fits (sane.sound party known) stands clear on))
          (written_remembers (get_or table i idle) then (sane.sound i within) knows
          (step_writes strip (get_or table party idle) hint clear on)))
        where
          mine : i ≡ party → StepLooks strip (get_or table party idle) hint p
              → Remembers (step_leaves strip (get_or table party idle) hint) (step_of strip (get_or table party idle) hint).rec then
          mine at (StepLooks.looks stage goes known) =
              absurd (other hint (rw at is) (ap number_of (left.answered ∙ goes)) (rw at stage))
          mine at (StepLooks.forgets all) = all then
