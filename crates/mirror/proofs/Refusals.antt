-- A left step and its mirror are refused alike.
use Prim.Native.Nat.{ℕ, zero, suc, ◌+◌, ◌<◌}
use mathlib.Core.Path.{◌≡◌, refl}
use mathlib.Core.Bool.{Bool, true, false, ◌&&◌, and-false}
use lib.Dec.{eqb, leb}
use borrow.Author.Tests.{eqb-true, eqb-false, eq-eqb, ne_eqb, leb-true, leb-false, le-leb, lt-leb}
use native.Mathlib.Omega.{arith}
use Rattle.record.specs.Record.{at_stage, with_operation}
use Rattle.record.specs.Valid.{operation_fits, valid_of}
use Rattle.record.specs.declared.Record.{Record}
use Rattle.step.specs.Step.{max_of, step_own, step_refusal}
use Rattle.mirror.specs.Mirror.{mirror_place, mirror_record}

-- a place is in range on the left exactly where its mirror is in range on the right, and at the wall where it is
range_mirrors : (max place : ℕ) → leb 1 (mirror_place max place) && leb (mirror_place max place) (max + 1) ≡ leb place max
range_mirrors max place = go (leb place max) refl
  where
    go : (fits : Bool) → leb place max ≡ fits → leb 1 (mirror_place max place) && leb (mirror_place max place) (max + 1) ≡ fits
    go true e =
        let within = leb-true place max e in
        rw (le-leb 1 (mirror_place max place) (omega arith)) (le-leb (mirror_place max place) (max + 1) (omega arith))
    go false e = let past = leb-false place max e in rw (lt-leb 1 (mirror_place max place) (omega arith)) refl

pub wall_mirrors : (max place : ℕ) → eqb (mirror_place max place) (max + 1) ≡ eqb place 0
wall_mirrors max place = go (eqb place 0) refl
  where
    go : (first : Bool) → eqb place 0 ≡ first → eqb (mirror_place max place) (max + 1) ≡ first
    go true e = let at = eqb-true place 0 e in eq-eqb (mirror_place max place) (max + 1) (omega arith)
    go false e = ne_eqb (mirror_place max place) (max + 1) (λ (same : mirror_place max place ≡ max + 1). eqb-false place 0 e (omega arith))

-- what holds at each stage, and past the last, holds at all
pub by_stage : (P : ℕ → Type 0) → P 0 → P 1 → P 2 → P 3 → P 4 → P 5 → ((stage : ℕ) → 5 < stage → P stage) → (stage : ℕ) → P stage
by_stage P p0 p1 p2 p3 p4 p5 past zero = p0
by_stage P p0 p1 p2 p3 p4 p5 past (suc zero) = p1
by_stage P p0 p1 p2 p3 p4 p5 past (suc (suc zero)) = p2
by_stage P p0 p1 p2 p3 p4 p5 past (suc (suc (suc zero))) = p3
by_stage P p0 p1 p2 p3 p4 p5 past (suc (suc (suc (suc zero)))) = p4
by_stage P p0 p1 p2 p3 p4 p5 past (suc (suc (suc (suc (suc zero))))) = p5
by_stage P p0 p1 p2 p3 p4 p5 past (suc (suc (suc (suc (suc (suc stage)))))) = past _ (omega arith)

-- no record is valid past stage 5
pub past_is_invalid : (max : ℕ) (r : Record) → 5 < r.stage → valid_of max r ≡ false
unfolding valid_of
past_is_invalid max r past =
    simp (isnt 0 (omega arith), isnt 1 (omega arith), isnt 2 (omega arith), isnt 3 (omega arith), isnt 4 (omega arith), isnt 5 (omega arith))
    (and-false (operation_fits r))
  where
    isnt : (n : ℕ) → n < r.stage → eqb r.stage n ≡ false
    isnt n below = ne_eqb r.stage n (λ (e : r.stage ≡ n). omega arith)

module _ (words hint : ℕ) where
  abbrev RefusedAlike : Record → Type 0
  RefusedAlike r = step_refusal words (mirror_record (max_of words) r) (mirror_place (max_of words) hint) ≡ step_refusal words r hint

  past_refused_alike : (r : Record) → 5 < r.stage → RefusedAlike r
  unfolding step_refusal step_own
  past_refused_alike r past =
      let max = max_of words in
      rw (past_is_invalid max r past, past_is_invalid max (mirror_record max r) past) refl

  module _ (r : Record) where
    abbrev push : (stage : ℕ) → Record
    push stage = with_operation 2 (at_stage stage r)

    abbrev pop : (stage : ℕ) → Record
    pop stage = with_operation 3 (at_stage stage r)

    pub push_refused_alike : (stage : ℕ) → RefusedAlike (push stage)
    unfolding step_refusal step_own valid_of
    push_refused_alike =
        let max = max_of words in
        let range = range_mirrors max r.k in
        let wall = wall_mirrors max r.k in
        by_stage (λ (stage : ℕ). RefusedAlike (push stage)) refl (rw (range_mirrors max hint)) (rw range) (rw range)
        (rw (range, wall)) (rw (range, wall)) (λ stage. past_refused_alike (push stage))

    pub pop_refused_alike : (stage : ℕ) → RefusedAlike (pop stage)
    unfolding step_refusal step_own valid_of
    pop_refused_alike =
        let max = max_of words in
        let range = range_mirrors max r.k in
        by_stage (λ (stage : ℕ). RefusedAlike (pop stage)) refl (rw (range_mirrors max hint)) (rw range) (rw range)
        (rw range) (rw range) (λ stage. past_refused_alike (pop stage))
