-- How a search begins and how it goes on, for both sides.
use Prim.Native.Nat.{ℕ, suc, ◌+◌}
use mathlib.Core.Path.{◌≡◌}
use mathlib.Core.Bool.{Bool, true, false}
use mathlib.Core.List.{List}
use lib.ListN.{length}
use Rattle.step.specs.Step.{strip_fits, max_of}
use Rattle.find.specs.Find.{is_end, candidate, first_from, find_of}

module _ (operation : ℕ) (strip : List ℕ) where
  -- the search stands at candidate i with so many left, and what it finds among them is what find answers
  abbrev pub Searching : (i left : ℕ) → Type 0
  Searching i left =
      first_from (is_end operation strip) (candidate operation (max_of (length strip))) i left ≡ find_of operation strip

  pub find_starts : (left : ℕ) → left ≡ max_of (length strip) + 1 → strip_fits (length strip) ≡ true → Searching 0 left
  unfolding find_of
  find_starts left all fits = simp (fits, all)

  pub find_goes_on : (i left : ℕ) → Searching i left → (k less : ℕ) → candidate operation (max_of (length strip)) i ≡ k → left ≡ suc less
      → (end : Bool) → end ≡ is_end operation strip k → end ≡ false → Searching (i + 1) less
  unfolding first_from
  find_goes_on i left so_far k less at more end is not_here = rw (more, at, ← is, not_here) at so_far
