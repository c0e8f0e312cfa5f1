-- What a table's records are refused for: NotValid from the first that fails its test on.
use Prim.Native.Nat.{ℕ, ◌+◌, ◌<◌, ◌^◌}
use mathlib.Core.Path.{◌≡◌, refl, sym}
use mathlib.Core.Bool.{Bool, true, false, ◌&&◌}
use lib.Dec.{lit<}
use Rattle.std.specs.declared.result.Result.TheVariants.{Err}
use Rattle.logic.specs.Pick.{pick}
use Rattle.refusal.specs.declared.Refusal.TheVariants.{NotValid}
use Rattle.refusal.specs.Refusal.{Check, passes, check_number}
use Rattle.pieces.specs.Pieces.{all_below}
use Rattle.pieces.proofs.Below.{one_more_tested}

abbrev pub found_by : Bool → Check
found_by all = pick all passes (Err NotValid)

pub found_fits : (all : Bool) → check_number (found_by all) < 2 ^ 32
found_fits true = lit< tt
found_fits false = lit< tt

pub one_more_refused : (test : ℕ → Bool) (i : ℕ)
    → pick (test i) (found_by (all_below test i)) (Err NotValid) ≡ found_by (all_below test (i + 1))
one_more_refused test i = rw (sym (one_more_tested test i)) (go (all_below test i) (test i))
  where
    go : (all this : Bool) → pick this (found_by all) (Err NotValid) ≡ found_by (all && this)
    go true true = refl
    go true false = refl
    go false true = refl
    go false false = refl
