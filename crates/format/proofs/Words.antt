-- The words of an image, as parts of 8 bytes.
use Prim.Native.Nat.{ℕ, zero, suc, ◌+◌}
use mathlib.Core.Path.{◌≡◌, refl, ◌∙◌, ap}
use mathlib.Core.List.{List, [], ◌∷◌}
use lib.Seq.{sets}
use native.Mathlib.Omega.{arith}
use Rattle.word.specs.Word.{IsWord}
use Rattle.little.specs.Bytes.{AreBytes, number_at, bytes_of}
use Rattle.format.specs.Spelling.{words_from, word_bytes}
use Rattle.little.proofs.Runs.{run_append}
use Rattle.little.proofs.Digits.{length_bytes, digits_are_bytes, bytes_stay, same_number, laid_fitting_is_read, read_is_laid, bytes_behind}
use Rattle.format.proofs.Parts.{Part, parts_from, with_parts}

abbrev pub word_part : Part ℕ
word_part =
    record {
      size = 8;
      reads = number_at 8;
      bytes = bytes_of 8;
      Fits = IsWord;
      short = λ w. omega (arith, length_bytes 8 w);
      same = same_number 8;
      read_laid = read_is_laid 8;
      laid_read = λ l at w fits long. laid_fitting_is_read 8 l at w long fits;
      laid_bytes = λ l at w fits are. bytes_stay (bytes_of 8 w) l at are (digits_are_bytes 8 w);
    }

pub words_are_parts : (count : ℕ) (l : List ℕ) (at : ℕ) → words_from l at count ≡ parts_from word_part l at count
unfolding words_from parts_from
words_are_parts zero l at = refl
words_are_parts (suc count) l at = ap (λ (rest : List ℕ). number_at 8 l at ∷ rest) (words_are_parts count l (at + 8))

pub words_laid_are_parts : (words l : List ℕ) (at : ℕ) → sets l at (word_bytes words) ≡ with_parts word_part l at words
unfolding word_bytes with_parts
words_laid_are_parts [] l at = refl
words_laid_are_parts (w ∷ words) l at =
    run_append (bytes_of 8 w) (word_bytes words) l at
    ∙ ap (λ (next : ℕ). sets (sets l at (bytes_of 8 w)) (at + next) (word_bytes words)) (length_bytes 8 w)
    ∙ words_laid_are_parts words (sets l at (bytes_of 8 w)) (at + 8)

pub words_are_bytes : (words : List ℕ) → AreBytes (word_bytes words)
unfolding word_bytes
words_are_bytes [] = λ i. omega arith
words_are_bytes (w ∷ words) = bytes_behind (bytes_of 8 w) (word_bytes words) (digits_are_bytes 8 w) (words_are_bytes words)
