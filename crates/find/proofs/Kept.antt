-- What find promises leaves nothing open. The strip is lent to be read alone.
use Prim.Native.Nat.{ℕ}
use mathlib.Core.Path.{◌≡◌, sym, ◌∙◌}
use mathlib.Core.List.{List}
use Rattle.std.specs.declared.result.Result.{Result}
use Rattle.refusal.specs.declared.Refusal.{Refusal}
use Rattle.find.specs.Find.{find_of}

-- for find right and find left alike
pub two_finds_that_keep_it_are_equal : (operation : ℕ) (strip : List ℕ) {one two : Result ℕ Refusal}
    → one ≡ find_of operation strip → two ≡ find_of operation strip → one ≡ two
two_finds_that_keep_it_are_equal operation strip p q = p ∙ sym q
