-- What is known of a header: its checks end at 0 or at a refusal; and of an image whose header is taken.
use Prim.Native.Nat.{ℕ}
use mathlib.Core.Path.{◌≡◌, refl}
use mathlib.Core.Bool.{true, not, ◌&&◌}
use mathlib.Core.List.{List}
use lib.ListN.{length}
use lib.Dec.{eqb, ltb}
use borrow.Author.Tests.{eqb-true, not-false}
use native.Mathlib.Omega.{arith}
use Rattle.logic.proofs.Bools.{both}
use Rattle.refusal.specs.Refusal.{passes, check_number}
use Rattle.refusal.proofs.Checks.{passed}
use Rattle.party.specs.Calls.{max_fits}
use Rattle.party.proofs.Refusals.{Checked, every_check_ends}
use Rattle.call.specs.Call.{table_fits}
use Rattle.little.proofs.Runs.{Agree}
use Rattle.little.proofs.Digits.{same_number}
use Rattle.header.specs.Header.{is_marked, version_at, parties_at, max_at, counts_fit}
use Rattle.format.specs.Format.{is_known, length_of, sizes_fit, header_refusal}

pub header_checked : (image : List ℕ) → Checked (check_number (header_refusal image))
header_checked image = every_check_ends (header_refusal image)

pub record Sized (version bytes max parties : ℕ) : Type 0 where
  pub max_fits : max_fits max ≡ true
  pub parties_fit : table_fits parties ≡ true
  pub exact : bytes ≡ length_of version max parties

pub sized : (version bytes max parties : ℕ) → sizes_fit version bytes max parties ≡ true → Sized version bytes max parties
sized version bytes max parties e =
    let last = both (counts_fit max parties) (eqb bytes (length_of version max parties)) e in
    let first = both (max_fits max) (table_fits parties) last.0 in
    record { max_fits = first.0; parties_fit = first.1; exact = eqb-true bytes (length_of version max parties) last.1 }

-- the mark, and the one version that is known
pub header_marked : (image : List ℕ) → header_refusal image ≡ passes → (is_marked 83 image ≡ true) × (version_at image ≡ 1)
unfolding header_refusal
header_marked image e =
    let past1 = passed (ltb (length image) 8) _ _ e in
    let past2 = passed (not (is_marked 83 image && is_known (version_at image))) _ _ past1.1 in
    let each = both (is_marked 83 image) (is_known (version_at image)) (not-false _ past2.0) in
    (each.0, eqb-true (version_at image) 1 each.1)

pub header_sized : (image : List ℕ) → header_refusal image ≡ passes → Sized (version_at image) (length image) (max_at image) (parties_at image)
unfolding header_refusal
header_sized image e =
    let past1 = passed (ltb (length image) 8) _ _ e in
    let past2 = passed (not (is_marked 83 image && is_known (version_at image))) _ _ past1.1 in
    let past3 = passed (not (sizes_fit (version_at image) (length image) (max_at image) (parties_at image))) _ passes past2.1 in
    sized (version_at image) (length image) (max_at image) (parties_at image) (not-false _ past3.0)

-- Whether a header is taken is settled by its 8 bytes and the image's length.
pub same_header : (image other : List ℕ) → length image ≡ length other → Agree image other 0 8 → header_refusal image ≡ header_refusal other
unfolding header_refusal
same_header image other long agree =
    rw (
      long,
      agree 0 (omega arith) (omega arith),
      agree 1 (omega arith) (omega arith),
      agree 2 (omega arith) (omega arith),
      agree 5 (omega arith) (omega arith),
      same_number 2 image other 3 (λ i lo hi. agree i (omega arith) (omega arith)),
      same_number 2 image other 6 (λ i lo hi. agree i (omega arith) (omega arith)),
    ) refl
