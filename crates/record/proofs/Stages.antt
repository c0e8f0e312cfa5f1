-- What a valid record is, stage by stage: the laws about valid records go by these cases.
use Prim.Native.Nat.{ℕ}
use mathlib.Core.Path.{◌≡◌, refl, sym}
use mathlib.Core.Bool.{Bool, true, false, not, ◌&&◌, true≢false}
use lib.Dec.{eqb}
use borrow.Author.Tests.{eqb-true, not-true}
use Rattle.logic.specs.Pick.{pick}
use Rattle.logic.proofs.Bools.{both}
use Rattle.record.specs.Operation.{is_push}
use Rattle.record.specs.Valid.{is_idle, idle_fits, operation_fits, nothing_read, place_fits, swap_fits, stage_fits, valid_of}
use Rattle.record.specs.declared.Record.{Record}

pub data ValidAt (max : ℕ) (r : Record) : Type 0 where
  at0 : r.stage ≡ 0 → idle_fits r ≡ true → ValidAt max r
  at1 : r.stage ≡ 1 → operation_fits r ≡ true → nothing_read r ≡ true → ValidAt max r
  at2 : r.stage ≡ 2 → operation_fits r ≡ true → place_fits max r ≡ true → r.second ≡ 0 → ValidAt max r
  at3 : r.stage ≡ 3 → operation_fits r ≡ true → place_fits max r ≡ true → is_push r.operation ≡ false → ValidAt max r
  at4 : r.stage ≡ 4 → operation_fits r ≡ true → swap_fits max r ≡ true → ValidAt max r
  at5 : r.stage ≡ 5 → operation_fits r ≡ true → swap_fits max r ≡ true → ValidAt max r

busy_at : (max : ℕ) (r : Record) → operation_fits r ≡ true → stage_fits max r ≡ true → ValidAt max r
busy_at max r fits =
    go (eqb s 1) (eqb s 2) (eqb s 3) (eqb s 4) (eqb s 5) refl refl refl refl refl
  where
    s : ℕ
    s = r.stage

    go : (t1 t2 t3 t4 t5 : Bool) → eqb s 1 ≡ t1 → eqb s 2 ≡ t2 → eqb s 3 ≡ t3 → eqb s 4 ≡ t4 → eqb s 5 ≡ t5
        → pick t1 (nothing_read r) (pick t2 (place_fits max r && eqb r.second 0)
        (pick t3 (place_fits max r && not (is_push r.operation)) (pick t4 (swap_fits max r) (pick t5 (swap_fits max r) false))))
        ≡ true
        → ValidAt max r
    go true t2 t3 t4 t5 e1 e2 e3 e4 e5 h = at1 (eqb-true s 1 e1) fits h
    go false true t3 t4 t5 e1 e2 e3 e4 e5 h =
        let each = both (place_fits max r) (eqb r.second 0) h in
        at2 (eqb-true s 2 e2) fits each.0 (eqb-true r.second 0 each.1)
    go false false true t4 t5 e1 e2 e3 e4 e5 h =
        let each = both (place_fits max r) (not (is_push r.operation)) h in
        at3 (eqb-true s 3 e3) fits each.0 (not-true (is_push r.operation) each.1)
    go false false false true t5 e1 e2 e3 e4 e5 h = at4 (eqb-true s 4 e4) fits h
    go false false false false true e1 e2 e3 e4 e5 h = at5 (eqb-true s 5 e5) fits h
    go false false false false false e1 e2 e3 e4 e5 h = absurd (true≢false (sym h))

pub valid_at : (max : ℕ) (r : Record) → valid_of max r ≡ true → ValidAt max r
unfolding valid_of
valid_at max r = go (is_idle r) refl
  where
    go : (t : Bool) → is_idle r ≡ t → pick t (idle_fits r) (operation_fits r && stage_fits max r) ≡ true → ValidAt max r
    go true e h = at0 (eqb-true r.stage 0 e) h
    go false e h = let each = both (operation_fits r) (stage_fits max r) h in busy_at max r each.0 each.1

-- and the other way: each of the cases is valid
pub at_valid : (max : ℕ) (r : Record) → ValidAt max r → valid_of max r ≡ true
unfolding valid_of
at_valid max r (at0 s fits) = rw s fits
at_valid max r (at1 s fits read) = rw (s, fits) read
at_valid max r (at2 s fits place second) = rw (s, fits, place, second) refl
at_valid max r (at3 s fits place pop) = rw (s, fits, place, pop) refl
at_valid max r (at4 s fits swap) = rw (s, fits) swap
at_valid max r (at5 s fits swap) = rw (s, fits) swap

-- what is known of a valid record whose stage is known
module _ (max : ℕ) (r : Record) (valid : valid_of max r ≡ true) where
  pub stage_1_fits : r.stage ≡ 1 → (operation_fits r ≡ true) × (nothing_read r ≡ true)
  unfolding valid_of
  stage_1_fits s = both (operation_fits r) (nothing_read r) (rw s at valid)

  pub stage_2_fits : r.stage ≡ 2 → (operation_fits r ≡ true) × (place_fits max r && eqb r.second 0 ≡ true)
  unfolding valid_of
  stage_2_fits s = both (operation_fits r) (place_fits max r && eqb r.second 0) (rw s at valid)

  pub stage_3_fits : r.stage ≡ 3 → (operation_fits r ≡ true) × (place_fits max r && not (is_push r.operation) ≡ true)
  unfolding valid_of
  stage_3_fits s = both (operation_fits r) (place_fits max r && not (is_push r.operation)) (rw s at valid)

  pub stage_4_fits : r.stage ≡ 4 → (operation_fits r ≡ true) × (swap_fits max r ≡ true)
  unfolding valid_of
  stage_4_fits s = both (operation_fits r) (swap_fits max r) (rw s at valid)

  pub stage_5_fits : r.stage ≡ 5 → (operation_fits r ≡ true) × (swap_fits max r ≡ true)
  unfolding valid_of
  stage_5_fits s = both (operation_fits r) (swap_fits max r) (rw s at valid)

  pub busy_fits : is_idle r ≡ false → operation_fits r ≡ true
  unfolding valid_of
  busy_fits busy = (both (operation_fits r) (stage_fits max r) (rw busy at valid)).0
