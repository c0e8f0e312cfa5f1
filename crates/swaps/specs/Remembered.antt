-- No public promise speaks of this file, nor does demand 3's theorem: proofs go by it. A word that was read at a place and is remembered
-- is fresh while it still stands there. Once it is stale its counter has been passed, so that it stays stale for ever.
use Rattle.std.specs.Prelude.{ℕ, ◌<◌, ◌≡◌, List, length, get_or}
use Rattle.word.specs.Word.{counter_of}
use Rattle.word.specs.Swap.{Took}

-- a word that was read at a place where `now` stands
pub data Remembered (word now : ℕ) : Type 0 where
  fresh : now ≡ word → Remembered word now
  stale : counter_of word < counter_of now → Remembered word now

-- it still stands in its place
abbrev pub Fresh : (words : List ℕ) (place word : ℕ) → Type 0
Fresh words place word = get_or words place 0 ≡ word

-- it was read at that place: fresh or stale
abbrev pub Known : (words : List ℕ) (place word : ℕ) → Type 0
Known words place word = Remembered word (get_or words place 0)

-- a swap wins at a place inside the words, where it met the word it expected
pub record Wins (words : List ℕ) (place from : ℕ) : Type 0 where
  pub within : place < length words
  pub took : Took (get_or words place 0) from
