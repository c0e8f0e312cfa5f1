-- Things of one size that stand one after another in bytes: words, and records. What holds of one holds of all of them.
use Prim.Native.Nat.{ℕ, zero, suc, ◌+◌, ◌*◌, ◌≤◌, ◌<◌}
use mathlib.Core.Path.{◌≡◌, refl, sym, ◌∙◌, ap}
use mathlib.Core.List.{List, [], ◌∷◌}
use lib.ListN.{length, get_or, set}
use lib.Seq.{sets, length-sets}
use native.Mathlib.Nat.{mul-suc, mul-zero, add-zero}
use native.Mathlib.Omega.{arith}
use Rattle.logic.specs.Every.{Every}
use Rattle.little.proofs.Runs.{Agree, below_a_run, past_a_run}
use Rattle.little.specs.Bytes.{AreBytes}

-- How a thing is read from bytes and laid in them.
pub record Part (A : Type 0) : Type 1 where
  pub size : ℕ
  pub reads : List ℕ → ℕ → A
  pub bytes : A → List ℕ
  pub Fits : A → Type 0
  pub short : (a : A) → length (bytes a) ≤ size
  pub same : (l m : List ℕ) (at : ℕ) → Agree l m at size → reads l at ≡ reads m at
  pub read_laid : (l : List ℕ) (at : ℕ) → AreBytes l → sets l at (bytes (reads l at)) ≡ l
  pub laid_read : (l : List ℕ) (at : ℕ) (a : A) → Fits a → at + size ≤ length l → reads (sets l at (bytes a)) at ≡ a
  pub laid_bytes : (l : List ℕ) (at : ℕ) (a : A) → Fits a → AreBytes l → AreBytes (sets l at (bytes a))

module _ {A : Type 0} (part : Part A) where
  unfoldable pub parts_from : (l : List ℕ) (at count : ℕ) → List A
  parts_from l at zero = []
  parts_from l at (suc count) = part.reads l at ∷ parts_from l (at + part.size) count

  unfoldable pub with_parts : (l : List ℕ) (at : ℕ) → List A → List ℕ
  with_parts l at [] = l
  with_parts l at (a ∷ rest) = with_parts (sets l at (part.bytes a)) (at + part.size) rest

  one_more : (at n : ℕ) → at + part.size * suc n ≡ at + part.size + part.size * n
  one_more at n = omega (arith, mul-suc part.size n)

  pub length_parts : (n : ℕ) (l : List ℕ) (at : ℕ) → length (parts_from l at n) ≡ n
  unfolding parts_from
  length_parts zero l at = refl
  length_parts (suc n) l at = ap suc (length_parts n l (at + part.size))

  pub length_with : (rest : List A) (l : List ℕ) (at : ℕ) → length (with_parts l at rest) ≡ length l
  unfolding with_parts
  length_with [] l at = refl
  length_with (a ∷ rest) l at =
      length_with rest (sets l at (part.bytes a)) (at + part.size) ∙ length-sets l at (part.bytes a)

  pub below_parts : (rest : List A) (l : List ℕ) (at i : ℕ) → i < at → get_or (with_parts l at rest) i 0 ≡ get_or l i 0
  unfolding with_parts
  below_parts [] l at i h = refl
  below_parts (a ∷ rest) l at i h =
      below_parts rest (sets l at (part.bytes a)) (at + part.size) i (omega arith)
      ∙ below_a_run (part.bytes a) l at i h

  pub past_parts : (rest : List A) (l : List ℕ) (at i : ℕ) → at + part.size * length rest ≤ i
      → get_or (with_parts l at rest) i 0 ≡ get_or l i 0
  unfolding with_parts
  past_parts [] l at i h = refl
  past_parts (a ∷ rest) l at i h =
      past_parts rest (sets l at (part.bytes a)) (at + part.size) i (omega (arith, one_more at (length rest)))
      ∙ past_a_run (part.bytes a) l at i (omega (arith, one_more at (length rest), part.short a))

  pub same_parts : (n : ℕ) (l m : List ℕ) (at : ℕ) → Agree l m at (part.size * n) → parts_from l at n ≡ parts_from m at n
  unfolding parts_from
  same_parts zero l m at agree = refl
  same_parts (suc n) l m at agree =
      let more = one_more at n in
      let first = part.same l m at (λ i lo hi. agree i lo (omega arith)) in
      let others = same_parts n l m (at + part.size) (λ i lo hi. agree i (omega arith) (omega arith)) in
      rw (first, others) refl

  -- What was read, laid again, changes no byte.
  pub read_parts_laid : (n : ℕ) (l : List ℕ) (at : ℕ) → AreBytes l → with_parts l at (parts_from l at n) ≡ l
  unfolding parts_from with_parts
  read_parts_laid zero l at are = refl
  read_parts_laid (suc n) l at are =
      ap (λ (m : List ℕ). with_parts m (at + part.size) (parts_from l (at + part.size) n)) (part.read_laid l at are)
      ∙ read_parts_laid n l (at + part.size) are

  -- With one of them set, the bytes of that one alone are laid.
  pub one_part_laid : (n : ℕ) (l : List ℕ) (at i : ℕ) (a : A) → AreBytes l → part.Fits a → i < n
      → with_parts l at (set (parts_from l at n) i a) ≡ sets l (at + part.size * i) (part.bytes a)
  unfolding parts_from with_parts
  one_part_laid zero l at i a are fits h = absurd (omega arith)
  one_part_laid (suc n) l at zero a are fits h =
      let m = sets l at (part.bytes a) in
      let others = same_parts n l m (at + part.size)
      (λ i lo hi. sym (past_a_run (part.bytes a) l at i (omega (arith, part.short a)))) in
      rw (others, mul-zero part.size, add-zero at) (read_parts_laid n m (at + part.size) (part.laid_bytes l at a fits are))
  one_part_laid (suc n) l at (suc i) a are fits h =
      rw (one_more at i)
      (ap (λ (m : List ℕ). with_parts m (at + part.size) (set (parts_from l (at + part.size) n) i a)) (part.read_laid l at are)
      ∙ one_part_laid n l (at + part.size) i a are fits (omega arith))

  pub part_at : (n : ℕ) (l : List ℕ) (at i : ℕ) (past : A) → i < n
      → get_or (parts_from l at n) i past ≡ part.reads l (at + part.size * i)
  unfolding parts_from
  part_at zero l at i past h = absurd (omega arith)
  part_at (suc n) l at zero past h = rw (mul-zero part.size, add-zero at) refl
  part_at (suc n) l at (suc i) past h = rw (one_more at i) (part_at n l (at + part.size) i past (omega arith))

  -- What was laid is read back.
  pub laid_parts_read : (past : A) (all : List A) (l : List ℕ) (at : ℕ) → Every part.Fits past all
      → at + part.size * length all ≤ length l → parts_from (with_parts l at all) at (length all) ≡ all
  unfolding parts_from with_parts
  laid_parts_read past [] l at fit h = refl
  laid_parts_read past (a ∷ rest) l at fit h =
      let m = sets l at (part.bytes a) in
      let more = one_more at (length rest) in
      let long = length-sets l at (part.bytes a) in
      let next = at + part.size in
      let first : part.reads (with_parts m next rest) at ≡ a =
      part.same (with_parts m next rest) m at (λ i lo hi. below_parts rest m next i hi)
      ∙ part.laid_read l at a (fit 0 (omega arith)) (omega arith) in
      rw (first, laid_parts_read past rest m next (λ i h. fit (suc i) (omega arith)) (omega arith)) refl

  -- Parts laid in bytes leave bytes.
  pub parts_leave_bytes : (past : A) (all : List A) (l : List ℕ) (at : ℕ) → Every part.Fits past all → AreBytes l
      → AreBytes (with_parts l at all)
  unfolding with_parts
  parts_leave_bytes past [] l at fit are = are
  parts_leave_bytes past (a ∷ rest) l at fit are =
      parts_leave_bytes past rest (sets l at (part.bytes a)) (at + part.size) (λ i within. fit (suc i) (omega arith))
      (part.laid_bytes l at a (fit 0 (omega arith)) are)
