-- Each finished operation took effect after its start and by its answer, and no two share an effect: the effects of the finished
-- and the last looks of those at stage 2 or more are different entries, all past.
use Prim.Native.Nat.{ℕ, suc, ◌<◌, ◌≤◌}
use mathlib.Core.Path.{◌≡◌, refl, sym, ◌∙◌}
use mathlib.Core.Bool.{Bool, true, false, ◌||◌, true≢false}
use mathlib.Core.Logic.{◌⊎◌, inl, inr}
use mathlib.Core.List.{List, [], ◌∷◌, ◌++◌, append-nil}
use lib.ListN.{length, get_or, length-append, get_or-append}
use lib.Seq.{get_or-append_seam}
use lib.Dec.{eqb, ltb}
use borrow.Author.Tests.{eqb-true, ltb-true, ltb-false}
use native.Mathlib.Omega.{arith}
use Rattle.logic.specs.Pick.{pick}
use Rattle.logic.specs.Every.{Every}
use Rattle.record.specs.Record.{idle}
use Rattle.call.specs.Call.{Call, party_of}
use Rattle.history.specs.Run.{State, line_of, leaves, number_in}
use Rattle.history.specs.Finished.{Asked, Finished, nothing_yet, is_result, finish, finished_at}
use Rattle.history.specs.Explained.{Between, none}
use Rattle.logic.proofs.Lists.{every_one, every_append}
use Rattle.history.proofs.Results.{Ended, looked_before, a_result_ends}
use Rattle.history.proofs.Booked.{Booked, LastLook, last_look}

-- no two share an effect
abbrev pub Unshared : List Finished → Type 0
Unshared done =
    (i j : ℕ) → i < j → j < length done → (get_or done i none).effect ≡ (get_or done j none).effect → ⊥

-- one more that shares none
unshared_with : (done : List Finished) (f : Finished) → Unshared done → Every (λ (g : Finished). g.effect ≡ f.effect → ⊥) none done
    → Unshared (done ++ (f ∷ []))
unshared_with done f apart other i j before within = go (ltb j (length done)) refl
  where
    size : length (done ++ (f ∷ [])) ≡ suc (length done)
    size = rw (length-append done (f ∷ [])) (omega arith)

    go : (early : Bool) → ltb j (length done) ≡ early
        → (get_or (done ++ (f ∷ [])) i none).effect ≡ (get_or (done ++ (f ∷ [])) j none).effect → ⊥
    go true e =
        let inside = ltb-true j (length done) e in
        rw (get_or-append done (f ∷ []) none i (omega arith), get_or-append done (f ∷ []) none j inside) (apart i j before inside)
    go false e =
        let last : j ≡ length done = omega (arith, ltb-false j (length done) e, size) in
        rw (last, get_or-append done (f ∷ []) none i (omega arith), get_or-append_seam done f [] none) (other i (omega arith))

pub record Claimed (n : ℕ) (s : State) (done : List Finished) : Type 0 where
  pub between : Every Between none done
  pub apart : Unshared done
  pub answered : Every (λ (f : Finished). f.answered < n) none done
  pub looks_apart : (i j : ℕ) → (i ≡ j → ⊥) → 2 ≤ (get_or s.table i idle).stage → 2 ≤ (get_or s.table j idle).stage
      → get_or s.looks i 0 ≡ get_or s.looks j 0 → ⊥
  pub looks_free : (i : ℕ) → 2 ≤ (get_or s.table i idle).stage
      → Every (λ (f : Finished). f.effect ≡ get_or s.looks i 0 → ⊥) none done

-- where a result took effect: at its answering entry, or at its party's last look
pub data TookEffect (s : State) (n : ℕ) (call : Call) (effect : ℕ) : Type 0 where
  at_answer : effect ≡ n → TookEffect s n call effect
  at_look : effect ≡ get_or s.looks (party_of call) 0 → 2 ≤ (get_or s.table (party_of call) idle).stage → TookEffect s n call effect

either : (number : ℕ) (a b : Bool) → eqb number 18 ≡ a → eqb number 19 ≡ b → a || b ≡ true → (number ≡ 18) ⊎ (number ≡ 19)
either number true b e f h = inl (eqb-true number 18 e)
either number false true e f h = inr (eqb-true number 19 f)
either number false false e f h = absurd (true≢false (sym h))

module _ (n : ℕ) (s : State) (asked : List Asked) (booked : Booked n s asked) (call : Call) where
  abbrev line_finished : Finished
  line_finished = finish (get_or asked (party_of call) nothing_yet) n (line_of s n call)

  pub took_effect : Ended s n call → TookEffect s n call (line_of s n call).effect
  unfolding line_of
  took_effect ended = go (eqb number 18 || eqb number 19) refl
    where
      number : ℕ
      number = number_in s call

      go : (recalled : Bool) → (eqb number 18 || eqb number 19) ≡ recalled
          → TookEffect s n call (pick recalled (get_or s.looks (party_of call) 0) n)
      go true e = at_look refl (looked_before s n call ended (either number (eqb number 18) (eqb number 19) refl refl e))
      go false e = at_answer refl

  took_effect_between : Ended s n call → TookEffect s n call (line_of s n call).effect → Between line_finished
  took_effect_between ended (at_answer e) =
      let asks = booked.asked_so (party_of call) ended.busy in
      record { past_start = rw e (omega (arith, asks.past)); by_answer = rw e (omega arith) }
  took_effect_between ended (at_look e second) =
      let before = booked.looked_so (party_of call) second in
      record { past_start = rw e (omega (arith, before.0)); by_answer = rw e (omega (arith, before.1)) }

  module _ (done : List Finished) (claimed : Claimed n s done) where
    past : Every (λ (f : Finished). f.effect < n) none done
    past m within = omega (arith, (claimed.between m within).by_answer, claimed.answered m within)

    abbrev looks_at : ℕ → ℕ
    looks_at i = get_or (leaves s n call).looks i 0

    looks_still_apart : (i j : ℕ) → (i ≡ j → ⊥) → LastLook s n call i → LastLook s n call j → looks_at i ≡ looks_at j → ⊥
    looks_still_apart i j other (LastLook.new now at look) (LastLook.new now2 at2 look2) same = other (at ∙ sym at2)
    looks_still_apart i j other (LastLook.new now at look) (LastLook.old now2 look2 stage2) same =
        let before = (booked.looked_so j stage2).1 in omega arith
    looks_still_apart i j other (LastLook.old now look stage) (LastLook.new now2 at2 look2) same =
        let before = (booked.looked_so i stage).1 in omega arith
    looks_still_apart i j other (LastLook.old now look stage) (LastLook.old now2 look2 stage2) same =
        claimed.looks_apart i j other stage stage2 (sym look ∙ same ∙ look2)

    looks_still_free : (i : ℕ) → LastLook s n call i → Every (λ (f : Finished). f.effect ≡ looks_at i → ⊥) none done
    looks_still_free i (LastLook.new now at look) m within same = let before = past m within in omega arith
    looks_still_free i (LastLook.old now look stage) m within same = claimed.looks_free i stage m within (same ∙ look)

    -- an entry that finishes nothing
    pub claims_kept : Claimed (suc n) (leaves s n call) done
    claims_kept =
        record {
          between = claimed.between;
          apart = claimed.apart;
          answered = λ m within. omega (arith, claimed.answered m within);
          looks_apart = λ i j other on on2.
              looks_still_apart i j other (last_look n s asked booked call i on) (last_look n s asked booked call j on2);
          looks_free = λ i on. looks_still_free i (last_look n s asked booked call i on);
        }

    -- one that finishes an operation
    module _ (result : is_result (number_in s call) ≡ true) where
      ended : Ended s n call
      ended = a_result_ends s n call result

      -- its effect is no other's, and no last look of another party
      effect_unshared : TookEffect s n call (line_of s n call).effect
          → Every (λ (g : Finished). g.effect ≡ (line_of s n call).effect → ⊥) none done
      effect_unshared (at_answer e) m within same = let before = past m within in omega arith
      effect_unshared (at_look e second) m within same = claimed.looks_free (party_of call) second m within (same ∙ e)

      effect_no_look : (i : ℕ) → (i ≡ party_of call → ⊥) → LastLook s n call i → TookEffect s n call (line_of s n call).effect
          → (line_of s n call).effect ≡ looks_at i → ⊥
      effect_no_look i other (LastLook.new now at look) took same = other at
      effect_no_look i other (LastLook.old now look stage) (at_answer e) same =
          let before = (booked.looked_so i stage).1 in omega arith
      effect_no_look i other (LastLook.old now look stage) (at_look e second) same =
          claimed.looks_apart i (party_of call) other stage second (sym look ∙ sym same ∙ e)

      -- its party is idle, so who is at stage 2 or more is another
      another : (i : ℕ) → 2 ≤ (get_or (leaves s n call).table i idle).stage → i ≡ party_of call → ⊥
      another i on at = let past : 2 ≤ 0 = rw (at, ended.leaves_idle) at on in omega arith

      pub claims_more : Claimed (suc n) (leaves s n call) (done ++ (line_finished ∷ []))
      claims_more =
          let took = took_effect ended in
          let kept = claims_kept in
          record {
            between = every_append Between none done _ claimed.between (every_one Between none _ (took_effect_between ended took));
            apart = unshared_with done line_finished claimed.apart (effect_unshared took);
            answered =
                every_append (λ (f : Finished). f.answered < suc n) none done _ kept.answered
                (every_one (λ (f : Finished). f.answered < suc n) none line_finished (omega arith));
            looks_apart = kept.looks_apart;
            looks_free = λ i on.
                every_append (λ (f : Finished). f.effect ≡ looks_at i → ⊥) none done _ (kept.looks_free i on)
                (every_one (λ (f : Finished). f.effect ≡ looks_at i → ⊥) none line_finished
                (effect_no_look i (another i on) (last_look n s asked booked call i on) took));
          }

    pub claimed_next : Claimed (suc n) (leaves s n call) (done ++ finished_at asked n call (line_of s n call))
    unfolding line_of
    claimed_next = go (is_result (number_in s call)) refl
      where
        go : (result : Bool) → is_result (number_in s call) ≡ result
            → Claimed (suc n) (leaves s n call) (done ++ pick result (line_finished ∷ []) [])
        go true e = claims_more e
        go false e = rw (append-nil done) claims_kept
