-- An image at the beginning of a run: its records of 32 zero bytes are idle, and their bytes that must be zero are.
use Prim.Native.Nat.{ℕ, zero, suc, ◌+◌, ◌*◌}
use mathlib.Core.Path.{◌≡◌, refl, sym, ◌∙◌, ap, ap₂}
use mathlib.Core.List.{List, ◌∷◌}
use lib.ListN.{get_or, replicate}
use lib.Seq.{get_or-drop}
use borrow.Author.Tests.{eq-eqb}
use native.Mathlib.Omega.{arith}
use Rattle.logic.proofs.Lists.{all_the_same}
use Rattle.little.specs.Bytes.{number_at}
use Rattle.little.proofs.Digits.{zeros_spell_0}
use Rattle.record.specs.Record.{idle}
use Rattle.plain.specs.Plain.{Plain}
use Rattle.header.specs.Header.{version_at, parties_at}
use Rattle.format.specs.Format.{records_in, party_place}
use Rattle.format.specs.Spelling.{record_at, records_from, table_of}
use Rattle.on_image.specs.Intact.{Intact}
use Rattle.on_image.specs.Run.{Begins}

-- from a place on every byte is zero
abbrev ZerosFrom : List ℕ → ℕ → Type 0
ZerosFrom l at = (i : ℕ) → get_or l (at + i) 0 ≡ 0

later : (l : List ℕ) (at more : ℕ) → ZerosFrom l at → ZerosFrom l (at + more)
later l at more zeros i = let moved : at + more + i ≡ at + (more + i) = omega arith in rw moved (zeros (more + i))

zero_record : (version : ℕ) (l : List ℕ) (at : ℕ) → ZerosFrom l at → record_at version l at ≡ idle
unfolding record_at
zero_record version l at zeros =
    rw (
      zeros_spell_0 2 l (at + 2) (later l at 2 zeros),
      zeros_spell_0 4 l (at + 4) (later l at 4 zeros),
      zeros_spell_0 8 l (at + 8) (later l at 8 zeros),
      zeros_spell_0 8 l (at + 16) (later l at 16 zeros),
      zeros 1,
    )
    (let same : at + 0 ≡ at = omega arith in rw (rw same at (zeros 0)) refl)

zero_records : (version count : ℕ) (l : List ℕ) (at : ℕ) → ZerosFrom l at → records_from version l at count ≡ replicate count idle
unfolding records_from
zero_records version zero l at zeros = refl
zero_records version (suc count) l at zeros =
    ap₂ ◌∷◌ (zero_record version l at zeros)
    (zero_records version count l (at + 32) (later l at 32 zeros))

-- An image at the beginning is intact, and spells idle parties.
module _ (image : List ℕ) (p : Plain) (parties : ℕ) (begins : Begins image p parties) where
  zeros : ZerosFrom image (records_in image)
  zeros i = sym (get_or-drop (records_in image) image i 0) ∙ rw begins.idle (all_the_same {A = ℕ} (32 * parties) i 0)

  pub idle_parties_are_spelled : table_of image ≡ replicate parties idle
  idle_parties_are_spelled =
      zero_records (version_at image) (parties_at image) image (records_in image) zeros
      ∙ ap (λ (n : ℕ). replicate n idle) begins.for_parties

  spare_is_zero : (party : ℕ) → ZerosFrom image (party_place image party + 24)
  spare_is_zero party = later image (party_place image party) 24 (later image (records_in image) (32 * party) zeros)

  pub it_is_intact : Intact image
  it_is_intact =
      record {
        bytes = begins.bytes;
        taken = begins.taken;
        spare = λ party known.
            eq-eqb (number_at 8 image (party_place image party + 24)) 0 (zeros_spell_0 8 image (party_place image party + 24) (spare_is_zero party));
      }
