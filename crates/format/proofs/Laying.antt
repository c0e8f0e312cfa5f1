-- A fresh image, part by part: the header, the zeros, the words of RN one by one.
use Prim.Native.Nat.{ℕ, zero, suc, ◌+◌, ◌-◌, ◌*◌, ◌≤◌, ◌<◌}
use mathlib.Core.Path.{◌≡◌, refl, sym, ◌∙◌, ap}
use mathlib.Core.List.{List, [], ◌∷◌, ◌++◌, append_assoc, append-nil}
use lib.ListN.{length, set, replicate, length-set, length-append, length-replicate, replicate-append-replicate, get_or, take, length-take}
use lib.Seq.{sets, length-sets, take-suc}
use native.Mathlib.Numerals.{add-one}
use native.Mathlib.Omega.{arith}
use Rattle.strip.specs.Lay.{lefts_of, rights_of}
use Rattle.little.specs.Bytes.{bytes_of}
use Rattle.format.specs.Format.{length_of}
use Rattle.format.specs.Spelling.{word_bytes}
use Rattle.format.specs.Fresh.{header_bytes, fresh_image}
use Rattle.little.proofs.Runs.{run_append, whole_run, middle_run}
use Rattle.little.proofs.Digits.{length_bytes}

-- the header, store by store
abbrev pub marked : List ℕ → List ℕ
marked l = set (set (set l 0 80) 1 68) 2 83

abbrev pub versioned : (version : ℕ) → List ℕ → List ℕ
versioned version l = sets (marked l) 3 (bytes_of 2 version)

pub length_versioned : (version : ℕ) (l : List ℕ) → length (versioned version l) ≡ length l
length_versioned version l = length-sets (marked l) 3 (bytes_of 2 version) ∙ simp length-set

pub header_laid : (l : List ℕ) (version max parties : ℕ)
    → sets l 0 (header_bytes version max parties) ≡ sets (set (versioned version l) 5 parties) 6 (bytes_of 2 max)
header_laid l version max parties =
    let seam : length (bytes_of 2 version) ≡ 2 = length_bytes 2 version in
    run_append (bytes_of 2 version) (parties ∷ bytes_of 2 max) (marked l) 3 ∙ rw seam refl

pub length_header : (version max parties : ℕ) → length (header_bytes version max parties) ≡ 8
length_header version max parties = simp (length-append, length_bytes)

-- the words
pub word_bytes_append : (us vs : List ℕ) → word_bytes (us ++ vs) ≡ word_bytes us ++ word_bytes vs
unfolding word_bytes
word_bytes_append [] vs = refl
word_bytes_append (u ∷ us) vs = rw (word_bytes_append us vs) (sym (append_assoc (bytes_of 8 u) (word_bytes us) (word_bytes vs)))

pub length_word_bytes : (words : List ℕ) → length (word_bytes words) ≡ 8 * length words
unfolding word_bytes
length_word_bytes [] = refl
length_word_bytes (w ∷ words) =
    length-append (bytes_of 8 w) (word_bytes words) ∙ omega (arith, length_bytes 8 w, length_word_bytes words)

-- words of zero are zeros
zero_words : (n : ℕ) → word_bytes (replicate n 0) ≡ replicate (8 * n) 0
unfolding word_bytes bytes_of
zero_words zero = refl
zero_words (suc n) =
    let eight-more : 8 + 8 * n ≡ 8 * suc n = omega arith in
    ap (λ (r : List ℕ). replicate 8 0 ++ r) (zero_words n)
    ∙ replicate-append-replicate {A = ℕ} 8 (8 * n) 0 ∙ ap (λ (k : ℕ). replicate k 0) eight-more

-- words, one by one
pub one_word_more : (words l : List ℕ) (at i : ℕ) → i < length words
    → sets (sets l at (word_bytes (take i words))) (at + 8 * i) (bytes_of 8 (get_or words i 0)) ≡ sets l at (word_bytes (take (i + 1) words))
unfolding word_bytes
one_word_more words l at i h =
    let first = word_bytes (take i words) in
    let word = bytes_of 8 (get_or words i 0) in
    let long : length first ≡ 8 * i = length_word_bytes (take i words) ∙ rw (length-take i words) (omega arith) in
    let more : word_bytes (take (i + 1) words) ≡ first ++ word =
    rw (add-one i, take-suc words i 0 h, word_bytes_append (take i words) (get_or words i 0 ∷ [])) (ap (λ (r : List ℕ). first ++ r) (append-nil word)) in
    rw more (sym (run_append first word l at ∙ rw long refl))

-- all of them: the header, zeros to the end, RN past the divide
pub fresh_laid : (l : List ℕ) (version max parties divide : ℕ) → divide ≤ max → length l ≡ length_of version max parties
    → sets (sets (sets l 0 (header_bytes version max parties)) 8 (replicate (8 * (max + 2) + 32 * parties) 0)) (8 + 8 * (divide + 1)) (word_bytes (rights_of max divide))
    ≡ fresh_image version max parties divide
fresh_laid l version max parties divide h exact =
    let header = header_bytes version max parties in
    let words = word_bytes (rights_of max divide) in
    let lefts : List ℕ = replicate (8 * (divide + 1)) 0 in
    let under : List ℕ = replicate (8 * (max - divide + 1)) 0 in
    let records : List ℕ = replicate (32 * parties) 0 in
    let zeros : List ℕ = replicate (8 * (max + 2) + 32 * parties) 0 in
    let all : 8 * (divide + 1) + (8 * (max - divide + 1) + 32 * parties) ≡ 8 * (max + 2) + 32 * parties = omega arith in
    let short : length header ≡ 8 = length_header version max parties in
    let place : length (header ++ lefts) ≡ 8 + 8 * (divide + 1) =
    length-append header lefts ∙ omega (arith, short, length-replicate {A = ℕ} (8 * (divide + 1)) 0) in
    let same : length under ≡ length words =
    length-replicate {A = ℕ} (8 * (max - divide + 1)) 0
    ∙ sym (length_word_bytes (rights_of max divide) ∙ ap (λ (n : ℕ). 8 * n) (length-replicate {A = ℕ} (max - divide + 1) 1)) in
    let blank : sets (sets l 0 header) 8 zeros ≡ header ++ zeros =
    sym (run_append header zeros l 0 ∙ rw short refl)
    ∙ whole_run (header ++ zeros) l (length-append header zeros ∙ omega (arith, short, length-replicate {A = ℕ} (8 * (max + 2) + 32 * parties) 0, exact)) in
    let parted : header ++ zeros ≡ (header ++ lefts) ++ (under ++ records) =
    ap (λ (r : List ℕ). header ++ r)
    (sym
    (ap (λ (r : List ℕ). lefts ++ r) (replicate-append-replicate {A = ℕ} (8 * (max - divide + 1)) (32 * parties) 0)
    ∙ replicate-append-replicate {A = ℕ} (8 * (divide + 1)) (8 * (max - divide + 1) + 32 * parties) 0
    ∙ ap (λ (n : ℕ). replicate n 0) all))
    ∙ sym (append_assoc header lefts (under ++ records)) in
    let spelled : (header ++ lefts) ++ (words ++ records) ≡ fresh_image version max parties divide =
    append_assoc header lefts (words ++ records)
    ∙ ap (λ (r : List ℕ). header ++ r)
    (sym (append_assoc lefts words records)
    ∙ ap (λ (r : List ℕ). r ++ records)
    (ap (λ (r : List ℕ). r ++ words) (sym (zero_words (divide + 1))) ∙ sym (word_bytes_append (lefts_of divide) (rights_of max divide)))) in
    ap (λ (r : List ℕ). sets r (8 + 8 * (divide + 1)) words) (blank ∙ parted)
    ∙ ap (λ (at : ℕ). sets ((header ++ lefts) ++ (under ++ records)) at words) (sym place)
    ∙ middle_run (header ++ lefts) under records words same
    ∙ spelled
