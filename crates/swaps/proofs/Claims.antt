-- Two words that are not both fresh stay so, and a swap that won makes it so. Of two operations whose claims cross not both can win.
use Prim.Native.Nat.{ℕ}
use mathlib.Core.Path.{◌≡◌, ◌∙◌}
use mathlib.Core.List.{List}
use lib.ListN.{set}
use Rattle.word.specs.Word.{raised_to}
use Rattle.swaps.specs.Remembered.{Fresh, Known, Wins}
use Rattle.swaps.specs.Claims.{Claim, Apart}
use Rattle.swaps.proofs.Stale.{fresh_elsewhere}

-- the same said of the two the other way round
pub apart_sym : (words : List ℕ) (a b : Claim) → Apart words a b → Apart words b a
apart_sym words a b apart cross one two = apart (record { there = cross.back; back = cross.there }) two one

module _ {words : List ℕ} {place from : ℕ} (w : Wins words place from) (to : ℕ) where
  abbrev swapped : List ℕ
  swapped = set words place (raised_to from to)

  pub not_both_kept : (a p b q : ℕ) → Known words p a → Known words q b → (Fresh words p a → Fresh words q b → ⊥)
      → Fresh swapped p a → Fresh swapped q b → ⊥
  not_both_kept a p b q one two apart f g =
      apart (fresh_elsewhere w to a p one f).1 (fresh_elsewhere w to b q two g).1

  -- a word remembered of the swap's place is stale
  pub stale_here : (word q : ℕ) → Known words q word → q ≡ place → Fresh swapped q word → ⊥
  stale_here word q known at fresh = (fresh_elsewhere w to word q known fresh).0 at

  pub apart_kept : (a b : Claim) → Known words a.target a.word → Known words b.target b.word
      → Apart words a b → Apart swapped a b
  apart_kept a b one two apart cross =
      not_both_kept a.word a.target b.word b.target one two (apart cross)

  -- A claim is made by a swap that won at its guard: every claim that crosses it is good no more.
  pub apart_made : (a b : Claim) → a.guard ≡ place → Known words b.target b.word → Apart swapped a b
  apart_made a b at known cross one = stale_here b.word b.target known (cross.back ∙ at)
