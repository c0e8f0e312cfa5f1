-- Facts out of tests.
use mathlib.Core.Path.{◌≡◌, refl, sym}
use mathlib.Core.Bool.{Bool, true, false, ◌&&◌, true≢false}
use Rattle.logic.specs.Pick.{pick}

-- Both tests hold where their conjunction does.
pub both : (a b : Bool) → a && b ≡ true → (a ≡ true) × (b ≡ true)
both true b e = (refl, e)
both false b e = absurd (true≢false (sym e))

-- What holds of both holds of the one that is picked.
pub whichever : {A : Type 0} (P : A → Type 0) (test : Bool) {a b : A} → P a → P b → P (pick test a b)
whichever P true pa pb = pa
whichever P false pa pb = pb
