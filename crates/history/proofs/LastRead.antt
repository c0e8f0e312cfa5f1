-- FULL took effect at that attempt's stage 1 read and EMPTY at that attempt's stage 2 read: the party's last step that was not refused.
use Prim.Native.Nat.{ℕ, zero, suc, ◌<◌, ◌≤◌}
use mathlib.Core.Path.{◌≡◌, refl, sym, ◌∙◌, ap, subst}
use mathlib.Core.Bool.{Bool, true, false, ◌||◌}
use mathlib.Core.Logic.{inl, inr}
use mathlib.Core.List.{List}
use lib.ListN.{length, get_or}
use lib.Dec.{eqb}
use borrow.Author.Tests.{eqb-true, eqb-false}
use native.Mathlib.Omega.{arith}
use Rattle.logic.specs.Pick.{pick}
use Rattle.logic.proofs.Bools.{both}
use Rattle.record.specs.Record.{idle}
use Rattle.record.specs.declared.Record.{Record}
use Rattle.party.specs.Answer.{is_refusal}
use Rattle.call.specs.Call.{Call, party_of}
use Rattle.history.specs.Run.{State, Line, no_line, begin, is_step, leaves, line_of, lines_from, looked, number_in, looks_now}
use Rattle.history.specs.Entries.{state_at, call_in, record_before, LookedAt}
use Rattle.history.proofs.Parties.{look_is_a_step, look_after}
use Rattle.history.proofs.Since.{Since, Early, since, refused_unlooked}
use Rattle.history.proofs.Results.{a_result_ends}
use Rattle.history.proofs.Explaining.{booked_at}
use Rattle.history.proofs.Entries.{the_line_of_an_entry}

second : (r : Record) → Early r → 2 ≤ r.stage
second r (inl e) = omega arith
second r (inr e) = omega arith

one_longer : (P : ℕ → Type 0) (e n : ℕ) → ((m : ℕ) → e < m → m < n → P m) → P n → (m : ℕ) → e < m → m < suc n → P m
one_longer P e n before last m after within = go (eqb m n) refl
  where
    go : (at : Bool) → eqb m n ≡ at → P m
    go true t = rw (eqb-true m n t) last
    go false t = let other = eqb-false m n t in before m after (omega arith)

module _ (strip : List ℕ) (parties : ℕ) (call : ℕ → Call) where
  abbrev first : State
  first = begin strip parties

  abbrev at : ℕ → State
  at n = state_at first call n

  -- e is the last look of party i before entry n
  abbrev Looked : (n i e : ℕ) → Type 0
  Looked n i e = LookedAt first call n i e (record_before first call e i).stage

  looked_at : (n i : ℕ) → Early (record_before first call n i) → Looked n i (get_or (at n).looks i 0)
  unfolding state_at
  looked_at zero i early = absurd (let seen = (booked_at strip parties call 0).looked_so i (second (record_before first call 0 i) early) in omega arith)
  looked_at (suc n) i early = go (since (at n) n (call n) i early) (looked_at n i)
    where
      look_is : get_or (leaves (at n) n (call n)).looks i 0 ≡ pick (looks_now (at n) (call n) i) n (get_or (at n).looks i 0)
      look_is = look_after (at n) n (booked_at strip parties call n).looks_size (call n) i

      go : Since (at n) (call n) i (record_before first call n i) (get_or (leaves (at n) n (call n)).table i idle)
          → (Early (record_before first call n i) → Looked n i (get_or (at n).looks i 0))
          → Looked (suc n) i (get_or (leaves (at n) n (call n)).looks i 0)
      go (Since.now looks from) before =
          let each = both (looked (at n) (call n) (number_in (at n) (call n))) (eqb i (party_of (call n))) looks in
          rw (look_is, looks)
          (record {
            before = omega arith;
            own = sym (eqb-true i (party_of (call n)) each.1);
            steps = ap is_step (look_is_a_step (at n) (call n) each.0).1;
            at_stage = refl;
            now_stage = from;
            refused_since = λ m after early-m. absurd (omega arith);
          })
      go (Since.still same refused) before =
          let was = before (subst Early same early) in
          rw (look_is, refused_unlooked (at n) (call n) i refused)
          (record {
            before = omega (arith, was.before);
            own = was.own;
            steps = was.steps;
            at_stage = refl;
            now_stage = ap (λ (r : Record). r.stage) same ∙ was.now_stage;
            refused_since =
                one_longer (λ (m : ℕ). party_of (call m) ≡ i → is_refusal (number_in (at m) (call m)) ≡ true) (get_or (at n).looks i 0) n
                was.refused_since refused;
          })

-- The line of an entry tells where: e is the party's look, at the stage that it was at then.
module _ (strip : List ℕ) (parties : ℕ) (calls : List Call) (n : ℕ) (within : n < length calls) where
  abbrev start : State
  start = begin strip parties

  abbrev line : Line
  line = get_or (lines_from start 0 calls) n no_line

  abbrev party : ℕ
  party = party_of (call_in calls n)

  abbrev before : State
  before = state_at start (call_in calls) n

  is : line ≡ line_of before n (call_in calls n)
  is = the_line_of_an_entry strip parties calls n within

  number_is : {number : ℕ} → line.number ≡ number → number_in before (call_in calls n) ≡ number
  unfolding line_of
  number_is e = ap (λ (l : Line). l.number) (sym is) ∙ e

  -- FULL and EMPTY name the party's last look, at the stage before
  names_the_look : {number : ℕ} (stage : ℕ) → line.number ≡ number → (eqb number 18 || eqb number 19) ≡ true
      → Early (record_before start (call_in calls) n party) → (record_before start (call_in calls) n party).stage ≡ suc stage
      → LookedAt start (call_in calls) n party line.effect stage
  unfolding line_of
  names_the_look stage e noted early now =
      let look = looked_at strip parties (call_in calls) n party early in
      rw (is, number_is e, noted) (subst (LookedAt start (call_in calls) n party _) (omega (arith, look.now_stage)) look)

  -- FULL: at that attempt's stage 1 read.
  pub full_took_effect_at_the_stage_1_read : line.number ≡ 18 → LookedAt start (call_in calls) n party line.effect 1
  full_took_effect_at_the_stage_1_read e =
      let two = (a_result_ends before n (call_in calls n) (rw (number_is e) refl)).full_at (number_is e) in
      names_the_look 1 e refl (inl two) two

  -- EMPTY: at that attempt's stage 2 read.
  pub empty_took_effect_at_the_stage_2_read : line.number ≡ 19 → LookedAt start (call_in calls) n party line.effect 2
  empty_took_effect_at_the_stage_2_read e =
      let three = (a_result_ends before n (call_in calls n) (rw (number_is e) refl)).empty_at (number_is e) in
      names_the_look 2 e refl (inr three) three
