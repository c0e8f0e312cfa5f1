-- The effects that a run's lines say are those that calls and numbers tell: a party's last look is its last call that was not refused.
use Prim.Native.Nat.{ℕ, suc}
use mathlib.Core.Path.{◌≡◌, refl, sym, ◌∙◌, ap₂, subst}
use mathlib.Core.Bool.{Bool, true, false, ◌||◌, true≢false}
use mathlib.Core.Logic.{inl, inr}
use mathlib.Core.List.{List, [], ◌∷◌}
use lib.ListN.{length, get_or, set, replicate, length-set, length-replicate}
use lib.Seq.{get_or-set_same, get_or-set_other}
use lib.Dec.{eqb}
use borrow.Author.Tests.{eqb-true}
use Rattle.logic.specs.Pick.{pick}
use Rattle.logic.proofs.Bools.{both, whichever}
use Rattle.record.specs.Record.{idle}
use Rattle.party.specs.Answer.{is_refusal}
use Rattle.call.specs.Call.{Call, party_of}
use Rattle.call.proofs.Calls.{table_stays_as_long}
use Rattle.history.specs.Run.{State, begin, looked, leaves, line_of, lines_from, number_in, effect_by, looks_now, line_numbers, line_effects}
use Rattle.history.specs.Told.{last_after, effects_from, effects_of}
use Rattle.history.proofs.Parties.{look_is_a_step, looked_known, look_after, looks_stay_as_long}
use Rattle.history.proofs.Results.{a_result_ends}
use Rattle.history.proofs.Since.{Since, Early, since, refused_unlooked}

-- of a party that has looked, the last call that was not refused is the last look
record LooksTold (s : State) (last : List ℕ) : Type 0 where
  pub looks_size : length s.looks ≡ length s.table
  pub last_size : length last ≡ length s.table
  pub same : (i : ℕ) → Early (get_or s.table i idle) → get_or last i 0 ≡ get_or s.looks i 0

module _ (s : State) (entry : ℕ) (call : Call) (last : List ℕ) (tells : LooksTold s last) where
  abbrev number : ℕ
  number = number_in s call

  abbrev after : List ℕ
  after = last_after last entry call number

  -- FULL comes from stage 2 and EMPTY from stage 3, so the party has looked
  effect_is_told : effect_by s.looks entry call number ≡ effect_by last entry call number
  effect_is_told = go (eqb number 18) (eqb number 19) refl refl
    where
      at_look : Early (get_or s.table (party_of call) idle) → get_or s.looks (party_of call) 0 ≡ get_or last (party_of call) 0
      at_look early = sym (tells.same (party_of call) early)

      go : (full empty : Bool) → eqb number 18 ≡ full → eqb number 19 ≡ empty
          → pick (full || empty) (get_or s.looks (party_of call) 0) entry ≡ pick (full || empty) (get_or last (party_of call) 0) entry
      go true empty e f = let is = eqb-true number 18 e in at_look (inl ((a_result_ends s entry call (rw is refl)).full_at is))
      go false true e f = let is = eqb-true number 19 f in at_look (inr ((a_result_ends s entry call (rw is refl)).empty_at is))
      go false false e f = refl

  -- a look is a call that was not refused
  look_is_last : (i : ℕ) → looks_now s call i ≡ true → get_or after i 0 ≡ entry
  look_is_last i looks =
      let each = both (looked s call number) (eqb i (party_of call)) looks in
      let none = (look_is_a_step s call each.0).2 in
      rw (eqb-true i (party_of call) each.1, none)
      (get_or-set_same last (party_of call) entry 0 (rw tells.last_size (looked_known s entry call each.0)))

  -- who was not called, or was refused, keeps its last
  last_stays : (i : ℕ) → (party_of call ≡ i → is_refusal number ≡ true) → get_or after i 0 ≡ get_or last i 0
  last_stays i refused = go (is_refusal number) refl
    where
      go : (refusal : Bool) → is_refusal number ≡ refusal → get_or (pick refusal last (set last (party_of call) entry)) i 0 ≡ get_or last i 0
      go true e = refl
      go false e = get_or-set_other last (party_of call) i entry 0 (λ same. true≢false (sym (refused (sym same)) ∙ e))

  same_after : (i : ℕ) → Early (get_or (leaves s entry call).table i idle) → get_or after i 0 ≡ get_or (leaves s entry call).looks i 0
  same_after i early = rw (look_after s entry tells.looks_size call i) (go (since s entry call i early))
    where
      go : Since s call i (get_or s.table i idle) (get_or (leaves s entry call).table i idle)
          → get_or after i 0 ≡ pick (looks_now s call i) entry (get_or s.looks i 0)
      go (Since.now looks from) = rw looks (look_is_last i looks)
      go (Since.still same refused) =
          rw (refused_unlooked s call i refused) (last_stays i refused ∙ tells.same i (subst Early same early))

  tells_next : LooksTold (leaves s entry call) after
  unfolding leaves
  tells_next =
      let table = sym (table_stays_as_long s.strip s.table call) in
      record {
        looks_size = looks_stay_as_long s entry call ∙ tells.looks_size ∙ table;
        last_size =
            whichever (λ (l : List ℕ). length l ≡ length last) (is_refusal number) refl (length-set last (party_of call) entry)
            ∙ tells.last_size ∙ table;
        same = same_after;
      }

told_from : (calls : List Call) (s : State) (entry : ℕ) (last : List ℕ) → LooksTold s last
    → effects_from last entry calls (line_numbers (lines_from s entry calls))
    ≡ line_effects (lines_from s entry calls)
unfolding effects_from lines_from line_of
told_from [] s entry last tells = refl
told_from (call ∷ calls) s entry last tells =
    ap₂ ◌∷◌ (sym (effect_is_told s entry call last tells))
    (told_from calls (leaves s entry call) (suc entry) (last_after last entry call (number_in s call)) (tells_next s entry call last tells))

-- What a run's lines say of effects is what the calls and the numbers tell.
pub effects_are_told : (strip : List ℕ) (parties : ℕ) (calls : List Call)
    → effects_of parties calls (line_numbers (lines_from (begin strip parties) 0 calls))
    ≡ line_effects (lines_from (begin strip parties) 0 calls)
effects_are_told strip parties calls =
    told_from calls (begin strip parties) 0 (replicate parties 0)
    (record {
      looks_size = length-replicate {A = ℕ} parties 0 ∙ sym (length-replicate parties idle);
      last_size = length-replicate {A = ℕ} parties 0 ∙ sym (length-replicate parties idle);
      same = λ i early. refl;
    })
