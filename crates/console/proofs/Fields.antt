-- Where the bytes before a place fail a test and the byte there passes it, the place is the first that passes.
use Rattle.std.proofs.Common.{ℕ, ◌≡◌, ◌≤◌, ◌<◌, Bool, true, false, List, length, get_or, sym}
use Rattle.std.proofs.lemmas.List.Sums.{position_or_len_is}
use Rattle.std.specs.List.{position_or_len}

pub first_at : (p : ℕ → Bool) (text : List ℕ) (at : ℕ) → at ≤ length text → ((i : ℕ) → i < at → p (get_or text i 0) ≡ false) → (at < length text → p (get_or text at 0) ≡ true) → at ≡ position_or_len p text
first_at p text at within before passes = sym (position_or_len_is p text at 0 within before passes)
