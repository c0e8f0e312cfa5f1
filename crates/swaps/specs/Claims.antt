-- No public promise speaks of this file, nor does demand 3's theorem: proofs go by it. An operation alters a value by two swaps: the first,
-- at its guard, keeps the value there; the second, at its target, alters it. Between the two it holds a claim.
use Rattle.std.specs.Prelude.{ℕ, ◌≡◌, List}
use Rattle.swaps.specs.Remembered.{Fresh}

-- the target with the word that is expected there, and the guard
pub record Claim : Type 0 where
  pub target : ℕ
  pub word : ℕ
  pub guard : ℕ

-- its second swap would still win
abbrev pub Good : List ℕ → Claim → Type 0
Good words c = Fresh words c.target c.word

-- each one's target is the other's guard
pub record Crossed (a b : Claim) : Type 0 where
  pub there : a.target ≡ b.guard
  pub back : b.target ≡ a.guard

-- where they cross, not both can win
abbrev pub Apart : List ℕ → Claim → Claim → Type 0
Apart words a b = Crossed a b → Good words a → Good words b → ⊥
