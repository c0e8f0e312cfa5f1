-- Numbers in bytes, least first, at any width.
use Rattle.std.specs.Prelude.{ℕ, zero, suc, ◌+◌, ◌*◌, ◌/◌, ◌%◌, ◌<◌, List, [], ◌∷◌, get_or}

-- every byte is a byte; past the end there is 0
abbrev pub AreBytes : List ℕ → Type 0
AreBytes bytes = (i : ℕ) → get_or bytes i 0 < 256

-- the number that `width` bytes from `at` on spell
unfoldable pub number_at : (width : ℕ) (bytes : List ℕ) (at : ℕ) → ℕ
number_at zero bytes at = 0
number_at (suc width) bytes at = get_or bytes at 0 + 256 * number_at width bytes (at + 1)

-- the bytes that spell a number
unfoldable pub bytes_of : (width number : ℕ) → List ℕ
bytes_of zero number = []
bytes_of (suc width) number = number % 256 ∷ bytes_of width (number / 256)
