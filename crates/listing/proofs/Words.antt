-- The words of a strip as text, one after the other.
use Prim.Native.Nat.{ℕ, ◌+◌, ◌≤◌, ◌<◌}
use mathlib.Core.Path.{◌≡◌}
use mathlib.Core.List.{List, [], ◌∷◌, ◌++◌}
use lib.ListN.{length, get_or, drop, drop_of_length-le}
use lib.Seq.{drop-cons}
use native.Mathlib.Numerals.{add-one}
use Rattle.listing.specs.Listing.{word_text, words_text}

module _ (strip : List ℕ) (i : ℕ) where
  pub words_more : i < length strip → words_text (drop i strip) ≡ word_text (get_or strip i 0) ++ words_text (drop (i + 1) strip)
  unfolding words_text
  words_more h = rw (add-one, drop-cons strip i 0 h)

  pub words_end : length strip ≤ i → words_text (drop i strip) ≡ 10 ∷ []
  unfolding words_text
  words_end h = rw (drop_of_length-le strip h)
