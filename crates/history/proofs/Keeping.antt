-- The strip is such a machine: its state is sane, its words stand for the plain strip, and each party remembers what it saw.
use Prim.Native.Nat.{ℕ, ◌<◌}
use mathlib.Core.Path.{◌≡◌, refl, sym, ◌∙◌, ap}
use mathlib.Core.Bool.{Bool, true, false, true≢false}
use lib.ListN.{length, get_or}
use lib.Dec.{eqb}
use borrow.Author.Tests.{lt-leb, eqb-true}
use Rattle.logic.specs.Pick.{pick}
use Rattle.logic.proofs.Bools.{both}
use Rattle.record.specs.Record.{idle}
use Rattle.step.specs.Step.{strip_fits}
use Rattle.call.specs.Call.{Call, Fitting, party_of, call_of}
use Rattle.call.proofs.Calls.{table_stays_as_long}
use Rattle.plain.specs.Plain.{Plain}
use Rattle.strip.specs.Shape.{StandsFor}
use Rattle.invariant.specs.Invariant.{Sane}
use Rattle.invariant.specs.Remembered.{Remembers}
use Rattle.invariant.proofs.Begin.{idle_is_sane}
use Rattle.invariant.proofs.Kept.{sane_kept}
use Rattle.invariant.proofs.Writes.{strip_stays_as_long}
use Rattle.invariant.proofs.CallEffects.{CallEffect, call_effect}
use Rattle.invariant.proofs.Looks.{idle_remembers}
use Rattle.invariant.proofs.Remembers.{look_remembers, remembers_kept}
use Rattle.history.specs.Run.{State, leaves, looked, number_in, looks_now}
use Rattle.logic.proofs.Lists.{all_the_same}
use Rattle.history.proofs.Parties.{look_is_a_step, step_looks_now}
use Rattle.history.specs.Machine.{Says, thens_after, Goes, Machine}

pub record Keeps (s : State) (p : Plain) (thens : ℕ → Plain) : Type 0 where
  pub fits : strip_fits (length s.strip) ≡ true
  pub sane : Sane s.strip s.table
  pub stands : StandsFor s.strip p
  pub remembers : (i : ℕ) → i < length s.table → Remembers s.strip (get_or s.table i idle) (thens i)

module _ (s : State) (p : Plain) (thens : ℕ → Plain) (keeps : Keeps s p thens) (call : Call) (fitting : Fitting call) where
  -- what each party remembers afterwards
  remembers_after : (i : ℕ) → i < length s.table
      → Remembers (call_of s.strip s.table call).strip (get_or (call_of s.strip s.table call).table i idle)
      (thens_after s p thens call i)
  remembers_after i within = go (looks_now s call i) refl
    where
      go : (now : Bool) → looks_now s call i ≡ now
          → Remembers (call_of s.strip s.table call).strip (get_or (call_of s.strip s.table call).table i idle) (pick now p (thens i))
      go true e =
          let each = both (looked s call (number_in s call)) (eqb i (party_of call)) e in
          let step = look_is_a_step s call each.0 in
          rw (eqb-true i (party_of call) each.1)
          (look_remembers s.strip s.table call p keeps.fits keeps.sane keeps.stands (party_of call) step.0 step.1 step.2)
      go false e =
          remembers_kept s.strip s.table call p keeps.fits keeps.sane keeps.stands i (thens i) within
          (λ hint is none stage. true≢false (sym (step_looks_now s i hint (rw is at none) stage) ∙ (rw is at e)))
          (keeps.remembers i within)

  keeps_after : (next : Plain) (entry : ℕ) → StandsFor (call_of s.strip s.table call).strip next
      → Keeps (leaves s entry call) next (thens_after s p thens call)
  unfolding leaves
  keeps_after next entry stands =
      record {
        fits = rw (strip_stays_as_long s.strip s.table call) keeps.fits;
        sane = sane_kept s.strip s.table call keeps.fits fitting keeps.sane;
        stands = stands;
        remembers = λ i within. remembers_after i (rw (table_stays_as_long s.strip s.table call) at within);
      }

  pub keeps_going : Goes Keeps s p thens call
  keeps_going = go (call_effect s.strip s.table call p keeps.fits keeps.sane keeps.stands)
    where
      go : CallEffect s.strip s.table call p → Goes Keeps s p thens call
      go (CallEffect.quiet small stands) =
          record {
            next = p;
            says = Says.quiet (rw (lt-leb 16 (number_in s call) small) refl) refl;
            kept = λ entry. keeps_after p entry stands;
          }
      go (CallEffect.acts party hint is known which q plays stands) =
          record {
            next = q;
            says = Says.acts which (rw (ap party_of is) plays);
            kept = λ entry. keeps_after q entry stands;
          }
      go (CallEffect.recalls party hint is known which same plays) =
          record {
            next = p;
            says = Says.recalls which refl (rw (ap party_of is) (plays (thens party) (keeps.remembers party known)));
            kept = λ entry. keeps_after p entry (rw same keeps.stands);
          }

pub the_strip_keeps_going : Machine Keeps
the_strip_keeps_going =
    record {
      begins = λ strip p parties length_fits stands.
          record {
            fits = length_fits;
            sane = idle_is_sane strip parties;
            stands = stands;
            remembers = λ i within. rw (all_the_same parties i idle) (idle_remembers strip p);
          };
      stands = λ s p thens keeps. keeps.stands;
      goes = keeps_going;
    }
