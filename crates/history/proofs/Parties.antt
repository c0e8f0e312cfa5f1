-- What an entry makes of each party: its record, what it was last asked, and its last look.
use Prim.Native.Nat.{ℕ, ◌<◌, ◌≤◌}
use mathlib.Core.Path.{◌≡◌, refl, sym, ◌∙◌, ap, subst}
use mathlib.Core.Bool.{Bool, true, false, ◌&&◌, ◌||◌, true≢false}
use mathlib.Core.Logic.{◌⊎◌, inl, inr}
use mathlib.Core.List.{List}
use lib.ListN.{length, get_or, set, length-set}
use lib.Seq.{get_or-set_same, get_or-set_other}
use lib.Dec.{eqb}
use borrow.Author.Tests.{eqb-true, eqb-false, eq-eqb, ne_eqb}
use native.Mathlib.Omega.{arith}
use Rattle.logic.specs.Pick.{pick}
use Rattle.logic.proofs.Bools.{both, whichever}
use Rattle.record.specs.Record.{idle, begun}
use Rattle.refusal.specs.declared.Refusal.{Refusal}
use Rattle.refusal.specs.Refusal.{refusal_number}
use Rattle.refusal.proofs.Checks.{refusal_is_not_0}
use Rattle.record.specs.declared.Record.{Record}
use Rattle.call.specs.Call.{Call, party_of}
use Rattle.call.proofs.Calls.{other_records_stand}
use Rattle.step.proofs.Stepped.{Stepped}
use Rattle.history.specs.Run.{State, goes_on, is_step, looked, line_of, leaves, number_in, looks_now}
use Rattle.history.specs.Finished.{Asked, nothing_yet, asked_after}
use Rattle.history.proofs.Own.{Own, own}

-- a party that looks makes a step that goes on
pub look_is_a_step : (s : State) (call : Call) → looked s call (number_in s call) ≡ true
    → (hint : ℕ) × (call ≡ Call.step (party_of call) hint) × (number_in s call ≡ 0)
look_is_a_step s (Call.start party operation order) looks = absurd (true≢false (sym looks))
look_is_a_step s (Call.step party hint) looks =
    (hint, refl, eqb-true (number_in s (Call.step party hint)) 0 (both (goes_on (number_in s (Call.step party hint))) _ looks).0)
look_is_a_step s (Call.withdraw party) looks = absurd (true≢false (sym looks))

-- a step from stage 1 or 2 that goes on looks
pub step_looks_now : (s : State) (i hint : ℕ) → number_in s (Call.step i hint) ≡ 0
    → ((get_or s.table i idle).stage ≡ 1) ⊎ ((get_or s.table i idle).stage ≡ 2) → looks_now s (Call.step i hint) i ≡ true
step_looks_now s i hint none (inl one) = rw (none, one, eq-eqb i i refl) refl
step_looks_now s i hint none (inr two) = rw (none, two, eq-eqb i i refl) refl

-- What an entry makes of the party i, which was asked `was` and now is asked `is`: it is idle; it has just begun; or it goes on
-- with what it was asked, and was at stage 2 or more if it is now and does not look at this entry.
pub data After (s : State) (entry : ℕ) (call : Call) (i : ℕ) (was is : Asked) (r next : Record) : Type 0 where
  idles : next ≡ idle → After s entry call i was is r next
  begins : (operation order : ℕ) → call ≡ Call.start i operation order → next ≡ begun operation order
      → is ≡ record { operation = operation; order = order; entry = entry } → After s entry call i was is r next
  carries : is ≡ was → next.operation ≡ r.operation → next.v ≡ r.v → (1 ≤ next.stage → 1 ≤ r.stage)
      → (looks_now s call i ≡ false → 2 ≤ next.stage → 2 ≤ r.stage) → After s entry call i was is r next

module _ (s : State) (entry : ℕ) where
  abbrev record_at : ℕ → Record
  record_at i = get_or s.table i idle

  abbrev record_then : Call → ℕ → Record
  record_then call i = get_or (leaves s entry call).table i idle

  pub record_elsewhere : (call : Call) (i : ℕ) → (i ≡ party_of call → ⊥) → record_then call i ≡ record_at i
  unfolding leaves
  record_elsewhere = other_records_stand s.strip s.table

  -- a step from stage 1 or 2 that goes on looks; another one was past them
  no_look_later : (call : Call) → is_step call ≡ true → number_in s call ≡ 0 → 1 ≤ (record_at (party_of call)).stage
      → looks_now s call (party_of call) ≡ false → 2 ≤ (record_at (party_of call)).stage
  no_look_later call step none busy now =
      go (eqb stage 1) (eqb stage 2) refl refl (rw (step, none, eq-eqb (party_of call) (party_of call) refl) at now)
    where
      stage : ℕ
      stage = (record_at (party_of call)).stage

      go : (one two : Bool) → eqb stage 1 ≡ one → eqb stage 2 ≡ two → (one || two) && true ≡ false → 2 ≤ stage
      go true two e f h = absurd (true≢false h)
      go false true e f h = absurd (true≢false h)
      go false false e f h =
          let not-one = eqb-false stage 1 e in
          omega (arith, busy)

  -- only a step of a known party looks
  pub looked_known : (call : Call) → looked s call (number_in s call) ≡ true → party_of call < length s.table
  looked_known call looks = go (own s entry call)
    where
      is : (hint : ℕ) × (call ≡ Call.step (party_of call) hint) × (number_in s call ≡ 0)
      is = look_is_a_step s call looks

      go : Own s entry call → party_of call < length s.table
      go (Own.refused refusal numbered same) = absurd (refusal_is_not_0 refusal (sym numbered ∙ is.2))
      go (Own.begins operation order start known none begun-is) = known
      go (Own.withdrawn other none ended) = absurd (true≢false (sym (ap is_step is.1) ∙ other))
      go (Own.steps hint step known busy how) = known

  pub looks_stay_as_long : (call : Call) → length (leaves s entry call).looks ≡ length s.looks
  unfolding leaves
  looks_stay_as_long call =
      whichever (λ (l : List ℕ). length l ≡ length s.looks) (looked s call (number_in s call)) (length-set s.looks (party_of call) entry) refl

  -- the last look of each party
  pub look_after : length s.looks ≡ length s.table → (call : Call) (i : ℕ)
      → get_or (leaves s entry call).looks i 0 ≡ pick (looks_now s call i) entry (get_or s.looks i 0)
  unfolding leaves
  look_after size call i = go (looked s call (number_in s call)) refl
    where
      party : ℕ
      party = party_of call

      go : (look : Bool) → looked s call (number_in s call) ≡ look
          → get_or (pick look (set s.looks party entry) s.looks) i 0 ≡ pick (look && eqb i party) entry (get_or s.looks i 0)
      go false e = refl
      go true e = at (eqb i party) refl
        where
          at : (here : Bool) → eqb i party ≡ here → get_or (set s.looks party entry) i 0 ≡ pick here entry (get_or s.looks i 0)
          at true h = rw (eqb-true i party h) (get_or-set_same s.looks party entry 0 (rw size (looked_known call e)))
          at false h = get_or-set_other s.looks party i entry 0 (eqb-false i party h)

  module _ (asked : List Asked) where
    abbrev asked_then : Call → List Asked
    asked_then call = asked_after asked entry call (line_of s entry call)

    unchanged : (call : Call) (i : ℕ) → get_or (asked_then call) i nothing_yet ≡ get_or asked i nothing_yet
        → record_then call i ≡ record_at i
        → After s entry call i (get_or asked i nothing_yet) (get_or (asked_then call) i nothing_yet) (record_at i) (record_then call i)
    unchanged call i same e =
        carries same (ap (λ (r : Record). r.operation) e) (ap (λ (r : Record). r.v) e)
        (subst (λ (r : Record). 1 ≤ r.stage) e) (λ not-now. subst (λ (r : Record). 2 ≤ r.stage) e)

    -- a refused start asks nothing
    asked_refused : (call : Call) (refusal : Refusal) → number_in s call ≡ refusal_number refusal → asked_then call ≡ asked
    unfolding line_of
    asked_refused (Call.start party operation order) refusal numbered =
        let number = number_in s (Call.start party operation order) in
        rw (ne_eqb number 0 (λ none. refusal_is_not_0 refusal (sym numbered ∙ none))) refl
    asked_refused (Call.step party hint) refusal numbered = refl
    asked_refused (Call.withdraw party) refusal numbered = refl

    asked_elsewhere : (call : Call) (i : ℕ) → (i ≡ party_of call → ⊥)
        → get_or (asked_then call) i nothing_yet ≡ get_or asked i nothing_yet
    unfolding line_of
    asked_elsewhere (Call.start party operation order) i other =
        whichever (λ (l : List Asked). get_or l i nothing_yet ≡ get_or asked i nothing_yet)
        (goes_on (number_in s (Call.start party operation order)))
        (get_or-set_other asked party i (record { operation = operation; order = order; entry = entry }) nothing_yet other) refl
    asked_elsewhere (Call.step party hint) i other = refl
    asked_elsewhere (Call.withdraw party) i other = refl

    abbrev The : Call → ℕ → Type 0
    The call i =
        After s entry call i (get_or asked i nothing_yet) (get_or (asked_then call) i nothing_yet) (record_at i) (record_then call i)

    own_after : (call : Call) → length asked ≡ length s.table → Own s entry call → The call (party_of call)
    unfolding line_of
    own_after call size (Own.refused refusal numbered same) =
        unchanged call (party_of call) (ap (λ (l : List Asked). get_or l (party_of call) nothing_yet) (asked_refused call refusal numbered)) same
    own_after call size (Own.begins operation order is known none begun-is) =
        begins operation order is begun-is (rw is (rw (rw is at none) (get_or-set_same asked (party_of call) _ nothing_yet (rw size known))))
    own_after call size (Own.withdrawn other none ended) = idles ended
    own_after call size (Own.steps hint is known busy (Stepped.going_on none operation v to-2 to-3)) =
        carries (rw is refl) operation v (λ later. busy)
        (λ now later. no_look_later call (ap is_step is) none busy now)
    own_after call size (Own.steps hint is known busy (Stepped.acting number ended)) = idles ended
    own_after call size (Own.steps hint is known busy (Stepped.filling number second ended)) = idles ended
    own_after call size (Own.steps hint is known busy (Stepped.emptying number third ended)) = idles ended

    pub after_entry : length asked ≡ length s.table → (call : Call) (i : ℕ)
        → After s entry call i (get_or asked i nothing_yet) (get_or (asked_after asked entry call (line_of s entry call)) i nothing_yet)
        (get_or s.table i idle) (get_or (leaves s entry call).table i idle)
    after_entry size call i = go (eqb i (party_of call)) refl
      where
        go : (here : Bool) → eqb i (party_of call) ≡ here → The call i
        go true e = subst (The call) (sym (eqb-true i (party_of call) e)) (own_after call size (own s entry call))
        go false e =
            let other = eqb-false i (party_of call) e in
            unchanged call i (asked_elsewhere call i other) (record_elsewhere call i other)
