-- A run of stores: what stands where afterwards.
use Prim.Native.Nat.{ℕ, zero, suc, ◌+◌, ◌≤◌, ◌<◌}
use mathlib.Core.Path.{◌≡◌, refl, sym, ◌∙◌, ap}
use mathlib.Core.List.{List, [], ◌∷◌, ◌++◌, append_assoc, append-nil}
use lib.ListN.{length, get_or, set, take, drop, length-set, drop_of_length-le}
use lib.Seq.{sets, sets-eq, get_or-set_same, get_or-set_other, drop-drop}
use native.Mathlib.Nat.{add-zero}
use native.Mathlib.Omega.{arith}
use borrow.Rule.Slice.PartMut.{put_mid}

-- Two images agree on `width` bytes from `at` on.
abbrev pub Agree : (l m : List ℕ) (at width : ℕ) → Type 0
Agree l m at width = (i : ℕ) → at ≤ i → i < at + width → get_or l i 0 ≡ get_or m i 0

pub below_a_run : (vs l : List ℕ) (at i : ℕ) → i < at → get_or (sets l at vs) i 0 ≡ get_or l i 0
below_a_run [] l at i h = refl
below_a_run (v ∷ vs) l at i h =
    below_a_run vs (set l at v) (suc at) i (omega arith) ∙ get_or-set_other l at i v 0 (omega arith)

pub past_a_run : (vs l : List ℕ) (at i : ℕ) → at + length vs ≤ i → get_or (sets l at vs) i 0 ≡ get_or l i 0
past_a_run [] l at i h = refl
past_a_run (v ∷ vs) l at i h =
    past_a_run vs (set l at v) (suc at) i (omega arith) ∙ get_or-set_other l at i v 0 (omega arith)

pub in_a_run : (vs l : List ℕ) (at i : ℕ) → i < length vs → at + length vs ≤ length l
    → get_or (sets l at vs) (at + i) 0 ≡ get_or vs i 0
in_a_run [] l at i h fits = absurd (omega arith)
in_a_run (v ∷ vs) l at zero h fits =
    rw (add-zero at) (below_a_run vs (set l at v) (suc at) at (omega arith) ∙ get_or-set_same l at v 0 (omega arith))
in_a_run (v ∷ vs) l at (suc i) h fits =
    let moved : at + suc i ≡ suc at + i = omega arith in
    rw moved (in_a_run vs (set l at v) (suc at) i (omega arith) (rw (length-set l at v) (omega arith)))

pub run_append : (us vs l : List ℕ) (at : ℕ) → sets l at (us ++ vs) ≡ sets (sets l at us) (at + length us) vs
run_append [] vs l at = rw (add-zero at) refl
run_append (u ∷ us) vs l at =
    let moved : at + suc (length us) ≡ suc at + length us = omega arith in
    rw moved (run_append us vs (set l at u) (suc at))

-- a run that is laid element by element: one more
pub one_more_set : {A : Type 0} (past : A) (new l : List A) (at i : ℕ) → i < length new
    → set (sets l at (take i new)) (at + i) (get_or new i past) ≡ sets l at (take (suc i) new)
one_more_set past [] l at i h = absurd (omega arith)
one_more_set past (n ∷ new) l at zero h = rw (add-zero at) refl
one_more_set past (n ∷ new) l at (suc i) h =
    let moved : at + suc i ≡ suc at + i = omega arith in
    rw moved (one_more_set past new (set l at n) (suc at) i (omega arith))

-- a run over a whole list
pub whole_run : {A : Type 0} (vs l : List A) → length vs ≡ length l → sets l 0 vs ≡ vs
whole_run vs l e =
    sets-eq vs l 0 (omega arith)
    ∙ ap (λ r. vs ++ r) (drop_of_length-le l {i = 0 + length vs} (omega arith))
    ∙ append-nil vs

-- A run inside a list, in the place of as many elements.
behind_a_head : (x : ℕ) (vs l : List ℕ) (at : ℕ) → sets (x ∷ l) (suc at) vs ≡ x ∷ sets l at vs
behind_a_head x [] l at = refl
behind_a_head x (v ∷ vs) l at = behind_a_head x vs (set l at v) (suc at)

pub middle_run : (before under after vs : List ℕ) → length under ≡ length vs
    → sets (before ++ (under ++ after)) (length before) vs ≡ before ++ (vs ++ after)
middle_run [] [] after [] e = refl
middle_run [] [] after (v ∷ vs) e = absurd (omega arith)
middle_run [] (u ∷ under) after [] e = absurd (omega arith)
middle_run [] (u ∷ under) after (v ∷ vs) e =
    behind_a_head v vs (under ++ after) 0 ∙ ap (λ (r : List ℕ). v ∷ r) (middle_run [] under after vs (omega arith))
middle_run (b ∷ before) under after vs e =
    behind_a_head b vs (before ++ (under ++ after)) (length before) ∙ ap (λ (r : List ℕ). b ∷ r) (middle_run before under after vs e)

-- a part of a list that was written anew is a run of stores
pub part_laid : {A : Type 0} (at count : ℕ) (l new : List A) → length new ≡ count → at + count ≤ length l → put_mid at count l new ≡ sets l at new
part_laid at count l new e inside =
    let kept = drop count (drop at l) in
    let past : drop (at + length new) l ≡ kept = rw e (sym (drop-drop count at l)) in
    sym (sets-eq new l at (omega arith) ∙ rw past (append_assoc (take at l) new kept))
