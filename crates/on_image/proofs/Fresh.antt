-- A fresh image: its header is taken, it spells a fresh strip and idle parties, and its bytes that must be zero are.
use Prim.Native.Nat.{ℕ, ◌+◌, ◌*◌, ◌≤◌, ◌<◌}
use mathlib.Core.Path.{◌≡◌, refl, sym, ◌∙◌, ap}
use mathlib.Core.Bool.{true}
use mathlib.Core.List.{List, ◌∷◌, ◌++◌}
use lib.ListN.{length, replicate, length-append, length-replicate, drop}
use lib.Seq.{sets, length-sets, drop-append-add, drop-append_seam}
use lib.Dec.{leb}
use borrow.Author.Tests.{eqb-true, eq-eqb, leb-true, le-ltb}
use native.Mathlib.Omega.{arith}
use Rattle.logic.proofs.Bools.{both}
use Rattle.logic.proofs.Lists.{all_the_same}
use Rattle.refusal.specs.Refusal.{passes}
use Rattle.little.specs.Bytes.{AreBytes, number_at, bytes_of}
use Rattle.little.proofs.Runs.{middle_run}
use Rattle.little.proofs.Digits.{byte_before, bytes_behind, digits_are_bytes}
use Rattle.record.specs.Record.{idle}
use Rattle.party.specs.Calls.{max_fits}
use Rattle.party.proofs.Cleared.{max_within}
use Rattle.plain.specs.Plain.{fresh_plain}
use Rattle.call.specs.Call.{table_fits}
use Rattle.strip.specs.Lay.{fresh_strip}
use Rattle.strip.proofs.Laying.{fresh_length, fresh_words}
use Rattle.strip.proofs.Values.{fresh_stands_for}
use Rattle.header.specs.Header.{version_at, parties_at, max_at, counts_fit}
use Rattle.format.specs.Format.{is_known, length_of, header_refusal, records_in, words_base}
use Rattle.format.specs.Spelling.{words_from, strip_of, table_of, word_bytes}
use Rattle.format.specs.Fresh.{header_bytes, fresh_image}
use Rattle.format.proofs.Parts.{parts_from, with_parts, laid_parts_read}
use Rattle.format.proofs.Words.{word_part, words_are_parts, words_laid_are_parts, words_are_bytes}
use Rattle.format.proofs.Laying.{length_header, length_word_bytes}
use Rattle.on_image.specs.Intact.{Intact}
use Rattle.on_image.specs.Run.{Begins}
use Rattle.on_image.proofs.Beginning.{idle_parties_are_spelled, it_is_intact}

module _ (version max parties divide : ℕ) (known : is_known version ≡ true) (fit : counts_fit max parties ≡ true) (inside : divide ≤ max) where
  abbrev image : List ℕ
  image = fresh_image version max parties divide

  abbrev header : List ℕ
  header = header_bytes version max parties

  abbrev words : List ℕ
  words = word_bytes (fresh_strip max divide)

  abbrev zeros : List ℕ
  zeros = replicate (32 * parties) 0

  -- two bytes hold it
  version_small : version < 65536
  version_small = omega (arith, eqb-true version 1 known)

  within : (1 ≤ max) × (max ≤ 4094)
  within = max_within max (both (max_fits max) (table_fits parties) fit).0

  few : parties ≤ 16
  few = let each = both (leb 1 parties) (leb parties 16) (both (max_fits max) (table_fits parties) fit).1 in leb-true parties 16 each.1

  -- what the header says
  version_is : version_at image ≡ version
  unfolding number_at bytes_of
  version_is = omega (arith, version_small)

  parties_are : parties_at image ≡ parties
  unfolding bytes_of
  parties_are = refl

  max_is : max_at image ≡ max
  unfolding number_at bytes_of
  max_is = omega (arith, within)

  long_words : length words ≡ 8 * (max + 2)
  long_words = length_word_bytes (fresh_strip max divide) ∙ rw (fresh_length max divide inside) refl

  exact : length image ≡ length_of version max parties
  exact =
      length-append header (words ++ zeros) ∙ rw (length-append words zeros)
      (omega (arith, length_header version max parties, long_words, length-replicate {A = ℕ} (32 * parties) 0))

  fresh_is_taken : header_refusal image ≡ passes
  unfolding header_refusal bytes_of
  fresh_is_taken =
      rw (le-ltb (length image) 8 (omega (arith, exact)), version_is, max_is, known, fit, eq-eqb (length image) (length_of version max parties) exact) refl

  header_are_bytes : AreBytes header
  header_are_bytes =
      let counts = parties ∷ bytes_of 2 max in
      let behind = bytes_of 2 version ++ counts in
      byte_before 80 (68 ∷ 83 ∷ behind) (omega arith)
      (byte_before 68 (83 ∷ behind) (omega arith)
      (byte_before 83 behind (omega arith)
      (bytes_behind (bytes_of 2 version) counts (digits_are_bytes 2 version)
      (byte_before parties (bytes_of 2 max) (omega (arith, few)) (digits_are_bytes 2 max)))))

  fresh_bytes : AreBytes image
  fresh_bytes =
      bytes_behind header (words ++ zeros) header_are_bytes
      (bytes_behind words zeros (words_are_bytes (fresh_strip max divide)) (λ i. rw (all_the_same {A = ℕ} (32 * parties) i 0) (omega arith)))

  fresh_is_idle : drop (records_in image) image ≡ zeros
  fresh_is_idle =
      let place : records_in image ≡ length header + length words =
      rw max_is (omega (arith, length_header version max parties, long_words)) in
      rw place (drop-append-add header (words ++ zeros) (length words) ∙ drop-append_seam words zeros)

  fresh_spells_fresh : strip_of image ≡ fresh_strip max divide
  fresh_spells_fresh =
      let under : List ℕ = replicate (8 * (max + 2)) 0 in
      let blank = header ++ (under ++ zeros) in
      let same : length under ≡ length words = length-replicate {A = ℕ} (8 * (max + 2)) 0 ∙ sym long_words in
      let laid : sets blank words_base words ≡ image =
      ap (λ (at : ℕ). sets blank at words) (sym (length_header version max parties)) ∙ middle_run header under zeros words same in
      let parts : image ≡ with_parts word_part blank words_base (fresh_strip max divide) =
      sym laid ∙ words_laid_are_parts (fresh_strip max divide) blank words_base in
      let room : length blank ≡ length_of version max parties = sym (length-sets blank words_base words) ∙ ap length laid ∙ exact in
      ap (λ (count : ℕ). words_from image words_base count) (ap (λ (n : ℕ). n + 2) max_is ∙ sym (fresh_length max divide inside))
      ∙ words_are_parts (length (fresh_strip max divide)) image words_base
      ∙ ap (λ (l : List ℕ). parts_from word_part l words_base (length (fresh_strip max divide))) parts
      ∙ laid_parts_read word_part 0 (fresh_strip max divide) blank words_base (fresh_words max divide inside)
      (omega (arith, room, fresh_length max divide inside))

  -- A fresh image is one at the beginning, of a fresh strip with the same divide.
  pub a_fresh_image_begins : Begins image (fresh_plain max divide) parties
  a_fresh_image_begins =
      record {
        bytes = fresh_bytes;
        taken = fresh_is_taken;
        for_parties = parties_are;
        stands = rw fresh_spells_fresh (fresh_stands_for max divide);
        idle = fresh_is_idle;
      }

  -- Its header is taken and its bytes that must be zero are, and it spells the fresh strip and idle parties.
  pub a_fresh_image_spells_a_fresh_strip :
      Intact image × (strip_of image ≡ fresh_strip max divide) × (table_of image ≡ replicate parties idle)
  a_fresh_image_spells_a_fresh_strip =
      let begins = a_fresh_image_begins in (
        it_is_intact image (fresh_plain max divide) parties begins,
        fresh_spells_fresh,
        idle_parties_are_spelled image (fresh_plain max divide) parties begins,
      )
