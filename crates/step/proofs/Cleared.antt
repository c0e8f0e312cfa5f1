-- What is known of a step that no check refused.
use Prim.Native.Nat.{ℕ, ◌≤◌, ◌<◌}
use mathlib.Core.Path.{◌≡◌}
use mathlib.Core.Bool.{Bool, true, false, not}
use lib.Dec.{eqb, leb}
use borrow.Author.Tests.{leb-true, not-false, eqb-false}
use native.Mathlib.Omega.{arith}
use Rattle.logic.proofs.Bools.{both, whichever}
use Rattle.refusal.specs.Refusal.{passes}
use Rattle.refusal.proofs.Checks.{passed}
use Rattle.record.specs.Operation.{is_push}
use Rattle.record.specs.Valid.{is_idle, valid_of, place_fits}
use Rattle.record.specs.declared.Record.{Record}
use Rattle.record.proofs.Stages.{ValidAt, valid_at}
use Rattle.record.proofs.Places.{inside}
use Rattle.stages.specs.Stages.{near, access_of}
use Rattle.step.specs.Step.{strip_fits, max_of, hint_fits, step_own, step_refusal, aimed}
use Rattle.stages.specs.declared.Access.{Access}
use Rattle.stages.specs.declared.Access.TheVariants.{Look, Swap}

pub strip_within : (words : ℕ) → strip_fits words ≡ true → (3 ≤ words) × (words ≤ 4096)
strip_within words e =
    let each = both (leb 3 words) (leb words 4096) e in
    (leb-true 3 words each.0, leb-true words 4096 each.1)

pub record Steppable (words : ℕ) (r : Record) (hint : ℕ) : Type 0 where
  pub strip_fits : strip_fits words ≡ true
  pub valid : valid_of (max_of words) r ≡ true
  pub busy : is_idle r ≡ false
  pub aimed_fits : place_fits (max_of words) (aimed r hint) ≡ true

-- the place that a busy record works at is in range: the hint in stage 1, its k from then on
aims : (max : ℕ) (r : Record) (hint : ℕ) → is_idle r ≡ false → ValidAt max r → hint_fits max r hint ≡ true
    → place_fits max (aimed r hint) ≡ true
aims max r hint busy (ValidAt.at0 s fits) h = absurd (eqb-false r.stage 0 busy s)
aims max r hint busy (ValidAt.at1 s fits read) h = rw s (rw s at h)
aims max r hint busy (ValidAt.at2 s fits k second) h = rw s k
aims max r hint busy (ValidAt.at3 s fits k pop) h = rw s k
aims max r hint busy (ValidAt.at4 s fits swap) h = rw s (both (place_fits max r) _ swap).0
aims max r hint busy (ValidAt.at5 s fits swap) h = rw s (both (place_fits max r) _ swap).0

pub steppable : (words : ℕ) (r : Record) (hint : ℕ) → step_refusal words r hint ≡ passes → Steppable words r hint
unfolding step_refusal step_own
steppable words r hint e =
    let max = max_of words in
    let past1 = passed (not (strip_fits words)) _ _ e in
    let past4 = passed (not (valid_of max r)) _ _ past1.1 in
    let past6 = passed (is_idle r) _ _ past4.1 in
    let past8 = passed (not (hint_fits max r hint)) _ passes past6.1 in
    let valid = not-false (valid_of max r) past4.0 in
    record {
      strip_fits = not-false (strip_fits words) past1.0;
      valid = valid;
      busy = past6.0;
      aimed_fits = aims max r hint past6.0 (valid_at max r valid) (not-false (hint_fits max r hint) past8.0);
    }

abbrev pub place_of : Access → ℕ
place_of (Look place then) = place
place_of (Swap place from to then) = place

-- every stage works at k or at its neighbour
place_is : (P : ℕ → Type 0) (r : Record) → P r.k → P (near r) → P (place_of (access_of r))
unfolding access_of
place_is P r at-k at-near =
    whichever Q (eqb r.stage 1) at-near
    (whichever Q (eqb r.stage 2) at-k
    (whichever Q (eqb r.stage 3) at-near
    (whichever Q (eqb r.stage 4) (whichever Q push at-near at-k)
    (whichever Q (eqb r.stage 5) (whichever Q push at-k at-near) at-near))))
  where
    Q : Access → Type 0
    Q access = P (place_of access)

    push : Bool
    push = is_push r.operation

-- the access of a step that no check refused stays inside the strip
pub place_inside : (words : ℕ) (r : Record) (hint : ℕ) → Steppable words r hint
    → place_of (access_of (aimed r hint)) < words
place_inside words r hint clear =
    let within = strip_within words clear.strip_fits in
    let at = inside (max_of words) r.operation (aimed r hint).k clear.aimed_fits in
    place_is (λ (place : ℕ). place < words) (aimed r hint) (omega (arith, within, at)) (omega (arith, within, at))

-- a hint that stage 1 takes fits k
pub hint_fits_k : (words : ℕ) (r : Record) (hint : ℕ) → Steppable words r hint → r.stage ≡ 1 → hint < 65536
hint_fits_k words r hint clear s =
    let within = strip_within words clear.strip_fits in
    let at = inside (max_of words) r.operation hint (rw s at clear.aimed_fits) in
    omega (arith, within, at)
