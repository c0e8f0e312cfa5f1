-- How a party comes to stage 2 or 3, and stays there.
use Prim.Native.Nat.{ℕ, suc, ◌≤◌}
use mathlib.Core.Path.{◌≡◌, refl, sym, ◌∙◌, ap}
use mathlib.Core.Bool.{Bool, true, false, true≢false}
use mathlib.Core.Logic.{◌⊎◌, inl, inr}
use lib.ListN.{get_or}
use lib.Dec.{eqb}
use borrow.Author.Tests.{eqb-true, eqb-false}
use native.Mathlib.Omega.{arith}
use Rattle.logic.proofs.Bools.{both}
use Rattle.record.specs.Record.{idle}
use Rattle.party.specs.Answer.{is_refusal}
use Rattle.record.specs.declared.Record.{Record}
use Rattle.party.proofs.Refusals.{every_refusal_is_one}
use Rattle.call.specs.Call.{Call, party_of}
use Rattle.step.proofs.Stepped.{Stepped}
use Rattle.history.specs.Run.{State, leaves, looked, number_in, looks_now}
use Rattle.history.proofs.Own.{Own, own}
use Rattle.history.proofs.Parties.{look_is_a_step, step_looks_now, record_elsewhere}

-- A party that is at stage 2 or 3 after a call: it looks now, from the stage before; or it was there, and no call of its own was taken.
pub data Since (s : State) (call : Call) (i : ℕ) (r next : Record) : Type 0 where
  now : looks_now s call i ≡ true → next.stage ≡ suc r.stage → Since s call i r next
  still : next ≡ r → (party_of call ≡ i → is_refusal (number_in s call) ≡ true) → Since s call i r next

-- at stage 2 or 3, from where FULL and EMPTY come
abbrev pub Early : Record → Type 0
Early r = (r.stage ≡ 2) ⊎ (r.stage ≡ 3)

-- before stage 2 it is not
too_early : {r start : Record} → r ≡ start → start.stage ≤ 1 → Early r → ⊥
too_early same low (inl e) = let at = ap (λ (x : Record). x.stage) same in omega arith
too_early same low (inr e) = let at = ap (λ (x : Record). x.stage) same in omega arith

came_from : (r next : Record) → (next.stage ≡ 2 → r.stage ≡ 1) → (next.stage ≡ 3 → r.stage ≡ 2) → Early next
    → ((r.stage ≡ 1) ⊎ (r.stage ≡ 2)) × (next.stage ≡ suc r.stage)
came_from r next to-2 to-3 (inl e) = let from = to-2 e in (inl from, omega arith)
came_from r next to-2 to-3 (inr e) = let from = to-3 e in (inr from, omega arith)

-- whose call was refused has not looked
pub refused_unlooked : (s : State) (call : Call) (i : ℕ) → (party_of call ≡ i → is_refusal (number_in s call) ≡ true) → looks_now s call i ≡ false
refused_unlooked s call i refused = go (looks_now s call i) refl
  where
    go : (now : Bool) → looks_now s call i ≡ now → now ≡ false
    go true e =
        let each = both (looked s call (number_in s call)) (eqb i (party_of call)) e in
        let none = (look_is_a_step s call each.0).2 in
        absurd (true≢false (sym (refused (sym (eqb-true i (party_of call) each.1))) ∙ rw none refl))
    go false e = refl

module _ (s : State) (entry : ℕ) where
  abbrev record_at : ℕ → Record
  record_at i = get_or s.table i idle

  abbrev record_then : Call → ℕ → Record
  record_then call i = get_or (leaves s entry call).table i idle

  own_since : (call : Call) → Own s entry call → Early (record_then call (party_of call))
      → Since s call (party_of call) (record_at (party_of call)) (record_then call (party_of call))
  own_since call (Own.refused refusal numbered same) early = still same (λ mine. rw numbered (every_refusal_is_one refusal))
  own_since call (Own.begins operation order is known none begun-is) early = absurd (too_early begun-is (omega arith) early)
  own_since call (Own.withdrawn other none ended) early = absurd (too_early ended (omega arith) early)
  own_since call (Own.steps hint is known busy (Stepped.going_on none operation v to-2 to-3)) early =
      let from = came_from (record_at (party_of call)) (record_then call (party_of call)) to-2 to-3 early in
      now (rw is (step_looks_now s (party_of call) hint (rw is at none) from.0)) from.1
  own_since call (Own.steps hint is known busy (Stepped.acting number ended)) early = absurd (too_early ended (omega arith) early)
  own_since call (Own.steps hint is known busy (Stepped.filling number second ended)) early = absurd (too_early ended (omega arith) early)
  own_since call (Own.steps hint is known busy (Stepped.emptying number third ended)) early = absurd (too_early ended (omega arith) early)

  pub since : (call : Call) (i : ℕ) → Early (record_then call i) → Since s call i (record_at i) (record_then call i)
  since call i = go (eqb i (party_of call)) refl
    where
      go : (here : Bool) → eqb i (party_of call) ≡ here → Early (record_then call i) → Since s call i (record_at i) (record_then call i)
      go true e early = rw (eqb-true i (party_of call) e) (own_since call (own s entry call) (rw (eqb-true i (party_of call) e) at early))
      go false e early =
          let other = eqb-false i (party_of call) e in
          still (record_elsewhere s entry call i other) (λ mine. absurd (other (sym mine)))
