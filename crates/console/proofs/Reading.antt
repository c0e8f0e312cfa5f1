-- A text that begins with some numbers, and then with more, begins with all of them.
use Rattle.std.proofs.Common.{ℕ, ◌≡◌, ◌+◌, ◌<◌, List, [], ◌∷◌, ◌++◌, Some, length, take, slice_set, add-one, take-suc-set, refl, subst, sym}
use Rattle.std.specs.List.{flat_map}
use Rattle.std.proofs.lemmas.List.Concat.{flat_map-append}
use Rattle.record.specs.declared.Record.{Record}
use Rattle.console.specs.Fields.{field_of, rest_of}
use Rattle.console.specs.Numbers.{number_of, Reads}
use Rattle.console.specs.Records.{numbers_of}

pub and_more : (text rest after ns ms : List ℕ) → Reads text ns rest → Reads rest ms after → Reads text (ns ++ ms) after
and_more text rest after [] ms same reads =
    let P : List ℕ → Type 0 = λ t. Reads t ms after in subst P (sym same) reads
and_more text rest after (n ∷ ns) ms reads more = (reads.0, and_more (rest_of text) rest after ns ms reads.1 more)

pub one_more : (text rest ns : List ℕ) (n : ℕ) → Reads text ns rest → number_of (field_of rest) ≡ Some n → Reads text (ns ++ n ∷ []) (rest_of rest)
one_more text rest ns n reads is = and_more text rest (rest_of rest) ns (n ∷ []) reads (is, refl)

pub one_more_record : (text rest after : List ℕ) (rs : List Record) (r : Record) → Reads text (flat_map numbers_of rs) rest → Reads rest (numbers_of r) after → Reads text (flat_map numbers_of (rs ++ r ∷ [])) after
one_more_record text rest after rs r reads more =
    let P : List ℕ → Type 0 = λ ns. Reads text ns after in
    subst P (sym (flat_map-append numbers_of rs (r ∷ []))) (and_more text rest after (flat_map numbers_of rs) (numbers_of r) reads more)

-- what is written behind a prefix is its next element
one_longer : {A : Type 0} (xs : List A) (index : ℕ) (x : A) → index < length xs → take (index + 1) (slice_set xs index x) ≡ take index xs ++ x ∷ []
one_longer xs index x within = rw add-one (take-suc-set xs index x within)

pub word_read : (text rest after words : List ℕ) (index n : ℕ) → index < length words → Reads text (take index words) rest → number_of (field_of rest) ≡ Some n → after ≡ rest_of rest → Reads text (take (index + 1) (slice_set words index n)) after
word_read text rest after words index n within reads is left =
    let P : List ℕ → Type 0 = λ ns. Reads text ns after in
    let Q : List ℕ → Type 0 = λ t. Reads text (take index words ++ n ∷ []) t in
    subst P (sym (one_longer words index n within)) (subst Q (sym left) (one_more text rest (take index words) n reads is))

pub record_read : (text rest after : List ℕ) (rs : List Record) (index : ℕ) (r : Record) → index < length rs → Reads text (flat_map numbers_of (take index rs)) rest → Reads rest (numbers_of r) after → Reads text (flat_map numbers_of (take (index + 1) (slice_set rs index r))) after
record_read text rest after rs index r within reads more =
    let P : List Record → Type 0 = λ rs. Reads text (flat_map numbers_of rs) after in
    subst P (sym (one_longer rs index r within)) (one_more_record text rest after (take index rs) r reads more)
