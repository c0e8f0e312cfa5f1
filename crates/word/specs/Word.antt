-- A word of the strip: counter × 2^32 + value.
use Rattle.std.specs.Prelude.{ℕ, ◌+◌, ◌*◌, ◌/◌, ◌%◌, ◌<◌, List, get_or}

-- 64 bits: a counter of at most 4,294,967,295
abbrev pub IsWord : ℕ → Type 0
IsWord w = w < 18446744073709551616

abbrev pub value_of : ℕ → ℕ
value_of w = w % 4294967296

abbrev pub counter_of : ℕ → ℕ
counter_of w = w / 4294967296

abbrev pub word_of : (counter value : ℕ) → ℕ
word_of counter value = counter * 4294967296 + value

-- as document 01 writes a cell: value and counter
infix 70 ◌·◌
abbrev pub ◌·◌ : (value counter : ℕ) → ℕ
value · counter = word_of counter value

-- the nulls; 2 is reserved; orders are 3 and up
abbrev pub LN : ℕ
LN = 0

abbrev pub RN : ℕ
RN = 1

-- where a counter ends: no swap raises it further
abbrev pub last_counter : ℕ
last_counter = 4294967295

-- what a swap from the word w to a value writes: the counter goes up by one
abbrev pub raised_to : (w value : ℕ) → ℕ
raised_to w value = word_of (counter_of w + 1) value

-- the value at a place of a strip
abbrev pub value_at : List ℕ → ℕ → ℕ
value_at strip place = value_of (get_or strip place 0)
