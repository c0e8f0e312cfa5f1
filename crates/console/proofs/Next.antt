-- Which numbers are next in a text, one step on.
use Rattle.std.proofs.Common.{ℕ, zero, suc, ◌≡◌, ◌≢◌, ◌↔◌, ◌+◌, ◌-◌, ◌*◌, ◌<◌, ◌≤◌, ◌^◌, ◌&&◌, min, cond, ltb, Bool, true, false, List, [], ◌∷◌, ◌++◌, Option, Some, None, IfSome, length, replicate, inl, inr, refl, subst, sym, ◌∙◌, arith, lit<}
use Rattle.std.specs.List.{list_all}
use Rattle.std.proofs.lemmas.List.{length-replicate, replicate_more}
use borrow.Author.Tests.{ltb-true}
use Rattle.record.specs.declared.Record.{Record}
use Rattle.console.specs.Fields.{is_blank, field_of, rest_of}
use Rattle.console.specs.Numbers.{longer, is_digit, number_from, number_of, IsNumberNext, IsBelowNext, AreBelowNext, AreNumbers, Reads}
use Rattle.console.specs.Records.{numbers_of, record_bounds, table_bounds}

kept_below : (t : Bool) (n : ℕ) → IfSome (cond (t && ltb n (2 ^ 64)) (Some n) None) (λ m. m < 2 ^ 64)
kept_below false n = tt
kept_below true n = at (ltb n (2 ^ 64)) refl
  where
    at : (u : Bool) → ltb n (2 ^ 64) ≡ u → IfSome (cond u (Some n) None) (λ m. m < 2 ^ 64)
    at true e = ltb-true n (2 ^ 64) e
    at false e = tt

number_from_fits : (value : ℕ) (text : List ℕ) → value < 2 ^ 64 → IfSome (number_from value text) (λ n. n < 2 ^ 64)
number_from_fits value [] h = h
number_from_fits value (b ∷ bs) h = at (longer value b) (kept_below (is_digit b) (value * 10 + (b - 48))) (λ next. number_from_fits next bs)
  where
    at : (o : Option ℕ) → IfSome o (λ n. n < 2 ^ 64) → ((next : ℕ) → next < 2 ^ 64 → IfSome (number_from next bs) (λ n. n < 2 ^ 64)) → IfSome (elim o [ None ↦ None | Some next ↦ number_from next bs ]) (λ n. n < 2 ^ 64)
    at None f more = tt
    at (Some next) f more = more next f

-- whatever a text spells is below 2^64
pub number_fits : (text : List ℕ) → IfSome (number_of text) (λ n. n < 2 ^ 64)
number_fits text = number_from_fits 0 text (lit< tt)

pub word_next : (most : ℕ) (text : List ℕ) → IsNumberNext most text → IsBelowNext (2 ^ 64) most text
word_next most text next = (next, number_fits (field_of text))

-- after the first number the others are next
pub one_on : {A : Type 0} (count index most left : ℕ) (text after : List ℕ) → index < count → left + 1 ≡ most → after ≡ rest_of text → IsNumberNext most text → (A ↔ AreBelowNext (replicate (count - index) (2 ^ 64)) most text) → (A ↔ AreBelowNext (replicate (count - (index + 1)) (2 ^ 64)) left after)
one_on {A} count index most left text after within counted rest next all =
    let split : count - index ≡ suc (count - (index + 1)) = omega arith in
    let same : most - 1 ≡ left = omega arith in
    let P : ℕ → Type 0 = λ m. AreBelowNext (replicate m (2 ^ 64)) most text in
    let Q : ℕ → Type 0 = λ m. AreBelowNext (replicate (count - (index + 1)) (2 ^ 64)) m (rest_of text) in
    let R : List ℕ → Type 0 = λ t. AreBelowNext (replicate (count - (index + 1)) (2 ^ 64)) left t in (
      λ a. let h : P (suc (count - (index + 1))) = subst P split (all.0 a) in subst R (sym rest) (subst Q same h.1),
      λ h. let h' : P (suc (count - (index + 1))) = (word_next most text next, subst Q (sym same) (subst R rest h)) in all.1 (subst P (sym split) h'),
    )

pub no_one : {A : Type 0} (count index most : ℕ) (text : List ℕ) → index < count → (A ↔ AreBelowNext (replicate (count - index) (2 ^ 64)) most text) → (IsNumberNext most text → ⊥) → A → ⊥
no_one {A} count index most text within all none a =
    let split : count - index ≡ suc (count - (index + 1)) = omega arith in
    let P : ℕ → Type 0 = λ m. AreBelowNext (replicate m (2 ^ 64)) most text in
    let h : P (suc (count - (index + 1))) = subst P split (all.0 a) in
    none h.0.0

-- after some numbers the others are next
after_some : (bounds more ns : List ℕ) (most left : ℕ) (text rest : List ℕ) → length ns ≡ length bounds → left + length ns ≡ most → Reads text ns rest → AreBelowNext bounds most text → (AreBelowNext (bounds ++ more) most text ↔ AreBelowNext more left rest)
after_some [] more [] most left text rest long counted reads next =
    let same : most ≡ left = omega arith in
    let P : ℕ → Type 0 = λ m. AreBelowNext more m text in
    let Q : List ℕ → Type 0 = λ t. AreBelowNext more left t in
    (λ h. subst Q reads (subst P same h), λ h. subst P (sym same) (subst Q (sym reads) h))
after_some [] more (n ∷ ns) most left text rest long counted reads next = absurd (omega arith)
after_some (b ∷ bs) more [] most left text rest long counted reads next = absurd (omega arith)
after_some (b ∷ bs) more (n ∷ ns) most left text rest long counted reads next =
    let on = after_some bs more ns (most - 1) left (rest_of text) rest (omega arith) (omega arith) reads.1 next.1 in
    (λ h. on.0 h.1, λ h. (next.0, on.1 h))

-- one word more is next
pub word_after : (count most left : ℕ) (text rest ns : List ℕ) → length ns ≡ count → left + count ≡ most → Reads text ns rest → AreBelowNext (replicate count (2 ^ 64)) most text → IsNumberNext left rest → AreBelowNext (replicate (count + 1) (2 ^ 64)) most text
word_after count most left text rest ns long counted reads words next =
    let same : length ns ≡ length (replicate count (2 ^ 64)) = long ∙ sym (length-replicate count (2 ^ 64)) in
    let on = after_some (replicate count (2 ^ 64)) ((2 ^ 64) ∷ []) ns most left text rest same (omega arith) reads words in
    let P : List ℕ → Type 0 = λ bounds. AreBelowNext bounds most text in
    subst P (replicate_more count (2 ^ 64)) (on.1 (word_next left rest next, tt))

front_of : (bounds more : List ℕ) (most : ℕ) (text : List ℕ) → AreBelowNext (bounds ++ more) most text → AreBelowNext bounds most text
front_of [] more most text h = tt
front_of (b ∷ bs) more most text h = (h.0, front_of bs more (most - 1) (rest_of text) h.1)

pub record_on : {A : Type 0} (count index most left : ℕ) (text rest : List ℕ) (r : Record) → index < count → left + 6 ≡ most → Reads text (numbers_of r) rest → AreBelowNext record_bounds most text → (A ↔ AreBelowNext (table_bounds (count - index)) most text) → (A ↔ AreBelowNext (table_bounds (count - (index + 1))) left rest)
record_on {A} count index most left text rest r within counted reads next all =
    let split : count - index ≡ suc (count - (index + 1)) = omega arith in
    let P : ℕ → Type 0 = λ m. AreBelowNext (table_bounds m) most text in
    let on = after_some record_bounds (table_bounds (count - (index + 1))) (numbers_of r) most left text rest refl counted reads next in
    (λ a. on.0 (subst P split (all.0 a)), λ h. all.1 (subst P (sym split) (on.1 h)))

pub no_record : {A : Type 0} (count index most : ℕ) (text : List ℕ) → index < count → (A ↔ AreBelowNext (table_bounds (count - index)) most text) → (AreBelowNext record_bounds most text → ⊥) → A → ⊥
no_record {A} count index most text within all none a =
    let split : count - index ≡ suc (count - (index + 1)) = omega arith in
    let P : ℕ → Type 0 = λ m. AreBelowNext (table_bounds m) most text in
    none (front_of record_bounds (table_bounds (count - (index + 1))) most text (subst P split (all.0 a)))

-- a number is no last one where a field is left
to_rest : (most : ℕ) (text : List ℕ) → list_all is_blank text ≢ true → AreNumbers (suc most) text → AreNumbers most (rest_of text)
to_rest most text inked (inl blank) = absurd (inked blank)
to_rest most text inked (inr both) = both.1

pub last_on : {A : Type 0} (count index most left : ℕ) (text after : List ℕ) → index < count → left + 1 ≡ most → after ≡ rest_of text → list_all is_blank text ≢ true → IsNumberNext most text → (A ↔ AreNumbers (min most (count - index)) text) → (A ↔ AreNumbers (min left (count - (index + 1))) after)
last_on {A} count index most left text after within counted rest inked next all =
    let split : min most (count - index) ≡ suc (min left (count - (index + 1))) = omega arith in
    let P : ℕ → Type 0 = λ m. AreNumbers m text in
    let here : IsNumberNext (suc (min left (count - (index + 1)))) text = (next.0, omega arith, next.2) in
    let R : List ℕ → Type 0 = λ t. AreNumbers (min left (count - (index + 1))) t in (
      λ a. subst R (sym rest) (to_rest (min left (count - (index + 1))) text inked (subst P split (all.0 a))),
      λ h. all.1 (subst P (sym split) (inr (here, subst R rest h))),
    )

no_number : (most all : ℕ) (text : List ℕ) → most ≤ all → list_all is_blank text ≢ true → (IsNumberNext all text → ⊥) → AreNumbers most text → ⊥
no_number zero all text within inked none h = inked h
no_number (suc most) all text within inked none (inl blank) = inked blank
no_number (suc most) all text within inked none (inr both) =
    let some : 0 < all = omega arith in none (both.0.0, some, both.0.2)

pub no_last : {A : Type 0} (count index most : ℕ) (text : List ℕ) → list_all is_blank text ≢ true → (A ↔ AreNumbers (min most (count - index)) text) → (IsNumberNext most text → ⊥) → A → ⊥
no_last {A} count index most text inked all none a = no_number (min most (count - index)) most text (omega arith) inked none (all.0 a)

blank_ends : (most : ℕ) (text : List ℕ) → list_all is_blank text ≡ true → AreNumbers most text
blank_ends zero text h = h
blank_ends (suc most) text h = inl h

pub last_blank : {A : Type 0} (most : ℕ) (text : List ℕ) → (A ↔ AreNumbers most text) → list_all is_blank text ≡ true → A
last_blank {A} most text all h = all.1 (blank_ends most text h)

-- where there is no more room, nothing may be left
pub no_room : {A : Type 0} (count index most : ℕ) (text : List ℕ) → count ≤ index → (A ↔ AreNumbers (min most (count - index)) text) → (A ↔ (list_all is_blank text ≡ true))
no_room {A} count index most text full all =
    let none : min most (count - index) ≡ 0 = omega arith in
    let P : ℕ → Type 0 = λ m. AreNumbers m text in
    (λ a. subst P none (all.0 a), λ h. all.1 (subst P (sym none) h))
