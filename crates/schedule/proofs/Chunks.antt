-- An entry cut out of its file asks what the entry at its place in the file asks.
use Prim.Native.Nat.{ℕ, zero, suc, ◌+◌, ◌-◌, ◌/◌, ◌≤◌, ◌<◌}
use mathlib.Core.Path.{◌≡◌, refl, ◌∙◌, ap₂}
use mathlib.Core.List.{List, ◌∷◌}
use lib.ListN.{length, get_or, take, drop, length-drop}
use lib.Seq.{get_or-take}
use native.Mathlib.Omega.{arith}
use Rattle.std.proofs.Common.{drop-drop, get_or-drop}
use Rattle.std.proofs.lemmas.List.{take_rest}
use Rattle.std.specs.Simd.{first_chunks}
use Rattle.little.specs.Bytes.{number_at}
use Rattle.call.specs.Call.{Call}
use Rattle.entry.specs.Entry.{call_at}
use Rattle.schedule.specs.File.{entries_of, calls_from, calls_of}
use Rattle.schedule.specs.Inside.{calls_in}

module _ (file : List ℕ) (at : ℕ) where
  entry : List ℕ
  entry = take 8 (drop at file)

  same_byte : (k : ℕ) → k < 8 → get_or entry k 0 ≡ get_or file (at + k) 0
  unfolding entry
  same_byte k h = get_or-take 8 (drop at file) k 0 h ∙ get_or-drop at file k 0

  same_number : (width k : ℕ) → k + width ≤ 8 → number_at width entry k ≡ number_at width file (at + k)
  unfolding number_at
  same_number zero k h = refl
  same_number (suc width) k h =
      let next : at + (k + 1) ≡ at + k + 1 = omega arith in
      rw (same_byte k (omega arith), same_number width (k + 1) (omega arith), next)

  same_call : call_at entry 0 ≡ call_at file at
  unfolding call_at
  same_call =
      let front : at + 0 ≡ at = omega arith in
      rw (same_byte 0 (omega arith), same_byte 1 (omega arith), same_byte 2 (omega arith), same_byte 3 (omega arith), same_number 4 4 (omega arith), front)

cut_calls : (file : List ℕ) (at count : ℕ) → calls_in (first_chunks 8 count (drop at file)) ≡ calls_from file at count
unfolding calls_from entry
cut_calls file at zero = refl
cut_calls file at (suc count) =
    let next : drop 8 (drop at file) ≡ drop (at + 8) file = drop-drop 8 at file in
    rw next (ap₂ (λ (c : Call) (cs : List Call). c ∷ cs) (same_call file at) (cut_calls file (at + 8) count))

-- of the file's entries behind its header
pub calls_in_chunks : (file : List ℕ) (chunks : List (List ℕ)) → let rest = take (length file - 10) (drop 10 file) in
    chunks ≡ first_chunks 8 (length rest / 8) rest → calls_in chunks ≡ calls_of file
calls_in_chunks file chunks is = rw (is, take_rest, length-drop) (cut_calls file 10 (entries_of file))
