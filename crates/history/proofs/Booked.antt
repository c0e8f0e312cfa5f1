-- While a party is busy, its operation and order are those it was last asked, by an earlier entry; from stage 2 on its last look
-- lies after that entry.
use Prim.Native.Nat.{ℕ, suc, ◌<◌, ◌≤◌}
use mathlib.Core.Path.{◌≡◌, refl, sym, ◌∙◌}
use mathlib.Core.Bool.{Bool, true, false}
use mathlib.Core.List.{List}
use lib.ListN.{length, get_or, replicate, length-set, length-replicate}
use borrow.Author.Tests.{eqb-true}
use native.Mathlib.Omega.{arith}
use Rattle.logic.specs.Pick.{pick}
use Rattle.logic.proofs.Bools.{both, whichever}
use Rattle.record.specs.Record.{idle}
use Rattle.record.specs.declared.Record.{Record}
use Rattle.call.specs.Call.{Call, party_of}
use Rattle.call.proofs.Calls.{table_stays_as_long}
use Rattle.history.specs.Run.{State, begin, goes_on, looked, line_of, leaves, number_in, looks_now}
use Rattle.history.specs.Finished.{Asked, nothing_yet, asked_after}
use Rattle.logic.proofs.Lists.{all_the_same}
use Rattle.history.proofs.Parties.{After, after_entry, look_after, looks_stay_as_long}

pub record Asks (n : ℕ) (a : Asked) (r : Record) : Type 0 where
  pub operation : a.operation ≡ r.operation
  pub order : a.order ≡ r.v
  pub past : a.entry < n

pub record Booked (n : ℕ) (s : State) (asked : List Asked) : Type 0 where
  pub looks_size : length s.looks ≡ length s.table
  pub asked_size : length asked ≡ length s.table
  pub asked_so : (i : ℕ) → 1 ≤ (get_or s.table i idle).stage → Asks n (get_or asked i nothing_yet) (get_or s.table i idle)
  pub looked_so : (i : ℕ) → 2 ≤ (get_or s.table i idle).stage
      → ((get_or asked i nothing_yet).entry < get_or s.looks i 0) × (get_or s.looks i 0 < n)

pub booked_first : (strip : List ℕ) (parties : ℕ) → Booked 0 (begin strip parties) (replicate parties nothing_yet)
booked_first strip parties =
    record {
      looks_size = length-replicate parties 0 ∙ sym (length-replicate parties idle);
      asked_size = length-replicate parties nothing_yet ∙ sym (length-replicate parties idle);
      asked_so = λ i busy. absurd (none_busy i busy);
      looked_so = λ i busy. absurd (none_busy i (omega arith));
    }
  where
    none_busy : (i : ℕ) → 1 ≤ (get_or (replicate parties idle) i idle).stage → ⊥
    none_busy i busy = let at : 1 ≤ 0 = rw (all_the_same parties i idle) at busy in omega arith

asked_size_after : (s : State) (n : ℕ) (asked : List Asked) (call : Call)
    → length (asked_after asked n call (line_of s n call)) ≡ length asked
asked_size_after s n asked (Call.start party operation order) =
    whichever (λ (l : List Asked). length l ≡ length asked) (goes_on (line_of s n (Call.start party operation order)).number)
    (length-set asked party (record { operation = operation; order = order; entry = n })) refl
asked_size_after s n asked (Call.step party hint) = refl
asked_size_after s n asked (Call.withdraw party) = refl

-- the last look of a party at stage 2 or more: this entry, or the one it was before
pub data LastLook (s : State) (n : ℕ) (call : Call) (i : ℕ) : Type 0 where
  new : looks_now s call i ≡ true → i ≡ party_of call → get_or (leaves s n call).looks i 0 ≡ n → LastLook s n call i
  old : looks_now s call i ≡ false → get_or (leaves s n call).looks i 0 ≡ get_or s.looks i 0 → 2 ≤ (get_or s.table i idle).stage
      → LastLook s n call i

module _ (n : ℕ) (s : State) (asked : List Asked) (booked : Booked n s asked) (call : Call) where
  abbrev Next : ℕ → Type 0
  Next i =
      After s n call i (get_or asked i nothing_yet) (get_or (asked_after asked n call (line_of s n call)) i nothing_yet)
      (get_or s.table i idle) (get_or (leaves s n call).table i idle)

  next : (i : ℕ) → Next i
  next = after_entry s n asked booked.asked_size call

  pub last_look : (i : ℕ) → 2 ≤ (get_or (leaves s n call).table i idle).stage → LastLook s n call i
  last_look i on = go (looks_now s call i) refl (next i)
    where
      is : get_or (leaves s n call).looks i 0 ≡ pick (looks_now s call i) n (get_or s.looks i 0)
      is = look_after s n booked.looks_size call i

      go : (now : Bool) → looks_now s call i ≡ now → Next i → LastLook s n call i
      go true e after = new e (eqb-true i (party_of call) (both (looked s call (number_in s call)) _ e).1) (rw e at is)
      go false e (After.idles ended) = absurd (let at : 2 ≤ 0 = rw ended at on in omega arith)
      go false e (After.begins operation order start begun-is asked-is) = absurd (let at : 2 ≤ 1 = rw begun-is at on in omega arith)
      go false e (After.carries same operation v busy second) = old e (rw e at is) (second e on)

  asks_next : (i : ℕ) → 1 ≤ (get_or (leaves s n call).table i idle).stage
      → Asks (suc n) (get_or (asked_after asked n call (line_of s n call)) i nothing_yet) (get_or (leaves s n call).table i idle)
  asks_next i on = go (next i)
    where
      go : Next i → Asks (suc n) (get_or (asked_after asked n call (line_of s n call)) i nothing_yet) (get_or (leaves s n call).table i idle)
      go (After.idles ended) = absurd (let at : 1 ≤ 0 = rw ended at on in omega arith)
      go (After.begins operation order start begun-is asked-is) =
          rw (begun-is, asked-is) (record { operation = refl; order = refl; past = omega arith })
      go (After.carries same operation v busy second) =
          let before = booked.asked_so i (busy on) in
          rw same
          (record { operation = before.operation ∙ sym operation; order = before.order ∙ sym v; past = omega (arith, before.past) })

  looked_next : (i : ℕ) → 2 ≤ (get_or (leaves s n call).table i idle).stage
      → ((get_or (asked_after asked n call (line_of s n call)) i nothing_yet).entry < get_or (leaves s n call).looks i 0)
      × (get_or (leaves s n call).looks i 0 < suc n)
  looked_next i on = go (next i) (last_look i on)
    where
      go : Next i → LastLook s n call i
          → ((get_or (asked_after asked n call (line_of s n call)) i nothing_yet).entry < get_or (leaves s n call).looks i 0)
          × (get_or (leaves s n call).looks i 0 < suc n)
      go (After.idles ended) last = absurd (let at : 2 ≤ 0 = rw ended at on in omega arith)
      go (After.begins operation order start begun-is asked-is) last = absurd (let at : 2 ≤ 1 = rw begun-is at on in omega arith)
      go (After.carries same operation v busy second) (new now at look) =
          rw (same, look) ((booked.asked_so i (busy (omega arith))).past, omega arith)
      go (After.carries same operation v busy second) (old now look stage) =
          let before = booked.looked_so i stage in
          rw (same, look) (before.0, omega arith)

  pub booked_next : Booked (suc n) (leaves s n call) (asked_after asked n call (line_of s n call))
  unfolding leaves
  booked_next =
      record {
        looks_size = looks_stay_as_long s n call ∙ booked.looks_size ∙ sym (table_stays_as_long s.strip s.table call);
        asked_size = asked_size_after s n asked call ∙ booked.asked_size ∙ sym (table_stays_as_long s.strip s.table call);
        asked_so = asks_next;
        looked_so = looked_next;
      }
