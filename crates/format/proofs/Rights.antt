-- The words past the divide, one by one.
use Rattle.std.proofs.Common.{◌≡◌, ℕ, ◌+◌, ◌-◌, ◌*◌, ◌<◌, ◌∙◌, List, length, get_or, take, sym, ap}
use Rattle.std.proofs.Math.ListN.{length-replicate, get_or-replicate}
use Rattle.std.proofs.lemmas.List.Edits.{sets}
use Rattle.strip.specs.Lay.{rights_of}
use Rattle.little.specs.Bytes.{bytes_of}
use Rattle.format.specs.Format.{word_place}
use Rattle.format.specs.Spelling.{word_bytes}
use Rattle.format.proofs.Laying.{one_word_more}

-- the first i of them are laid
abbrev pub laid : List ℕ → (base max divide i : ℕ) → List ℕ
laid image base max divide i = sets image (word_place base (divide + 1)) (word_bytes (take i (rights_of max divide)))

pub one_right_more : (image : List ℕ) (base max divide i place : ℕ) → i < max - divide + 1 → place ≡ word_place base (divide + 1) + 8 * i
    → sets (laid image base max divide i) place (bytes_of 8 1) ≡ laid image base max divide (i + 1)
one_right_more image base max divide i place inside e =
    let words = rights_of max divide in
    let long : length words ≡ max - divide + 1 = length-replicate {A = ℕ} (max - divide + 1) 1 in
    let right : get_or words i 0 ≡ 1 = get_or-replicate {A = ℕ} (max - divide + 1) i 1 0 inside in
    ap (λ (at : ℕ). sets (laid image base max divide i) at (bytes_of 8 1)) e
    ∙ ap (λ (w : ℕ). sets (laid image base max divide i) (word_place base (divide + 1) + 8 * i) (bytes_of 8 w)) (sym right)
    ∙ one_word_more words image (word_place base (divide + 1)) i (rw long inside)
