-- The run in its rest form: what is left of the calls, from the state now, gives what all of them gave from the first.
use Prim.Native.Nat.{ℕ, zero, suc, ◌+◌, ◌≤◌, ◌<◌}
use mathlib.Core.Path.{◌≡◌, refl, sym, ◌∙◌, ap, ap₂}
use mathlib.Core.List.{List, ◌∷◌, ◌++◌}
use lib.ListN.{length, get_or, set, take, drop, replicate}
use native.Mathlib.Omega.{arith}
use native.Mathlib.Numerals.{add-one}
use Rattle.std.proofs.lemmas.List.{drop_more, drop_all}
use Rattle.record.specs.Record.{idle}
use Rattle.record.specs.declared.Record.{Record}
use Rattle.call.specs.Call.{Call}
use Rattle.text.specs.declared.Text.{Text}
use Rattle.text.specs.Writing.{Puts}
use Rattle.text.proofs.Puts.{Rest, rest_begins, rest_goes_on, rest_ends, puts_nothing}
use Rattle.entry.specs.OnRecord.{on_record_leaves}
use Rattle.history.specs.Run.{State, no_call, begin, line_of, leaves, lines_from, end_from}
use Rattle.run.specs.Turn.{turn_of, party_in_16}
use Rattle.run.specs.declared.Party.{Party}
use Rattle.run.specs.declared.Turn.{Turn}
use Rattle.run.proofs.Entering.{no_party, state_of, enters}
use Rattle.listing.specs.Listing.{line_text, lines_text, run_text}
use Rattle.listing.specs.Told.{turn_text}
use Rattle.listing.proofs.Telling.{told_line}

take_replicate : {A : Type 0} (a : A) (n m : ℕ) → n ≤ m → take n (replicate m a) ≡ replicate n a
take_replicate a zero m h = refl
take_replicate a (suc n) zero h = absurd (omega arith)
take_replicate a (suc n) (suc m) h = ap (◌∷◌ a) (take_replicate a n m (omega arith))

text_of : (s : State) (entry : ℕ) (call : Call) (calls : List Call)
    → run_text s entry (call ∷ calls) ≡ line_text entry call (line_of s entry call) ++ run_text (leaves s entry call) (entry + 1) calls
unfolding lines_text lines_from
text_of s entry call calls = rw (add-one entry)

end_of : (s : State) (entry : ℕ) (call : Call) (calls : List Call)
    → end_from s entry (call ∷ calls) ≡ end_from (leaves s entry call) (entry + 1) calls
unfolding end_from
end_of s entry call calls = rw (add-one entry)

-- One entry moves the run on: its line first, then the rest from the state it leaves.
pub record Moves (s next : State) (entry : ℕ) (calls rest : List Call) (line : List ℕ) : Type 0 where
  pub text : run_text s entry calls ≡ line ++ run_text next (entry + 1) rest
  pub end : end_from s entry calls ≡ end_from next (entry + 1) rest

module _ (calls : List Call) (parties : ℕ) (strip : List ℕ) (run : List Party) (i : ℕ)
    (few : parties ≤ 16) (all_16 : length run ≡ 16) (more : i < length calls) where
  pub moves : (call : Call) → call ≡ get_or calls i no_call → (j : ℕ) → j ≡ party_in_16 call → (got : Turn) (left : List ℕ)
      → got ≡ turn_of strip parties (get_or run j no_party) i call → left ≡ on_record_leaves strip parties (get_or run j no_party).rec call
      → Moves (state_of parties strip run) (state_of parties left (set run j got.party))
      i (drop i calls) (drop (i + 1) calls) (turn_text i call got)
  moves call is j slot got left tells words =
      let e = enters parties strip run i call few all_16 in
      record {
        text = rw (drop_more calls i no_call more, ← is, text_of, told_line i call _ _ e.line, e.state, tells, words, slot);
        end = rw (drop_more calls i no_call more, ← is, end_of, e.state, tells, words, slot);
      }

module _ (calls : List Call) (first : List ℕ) (parties : ℕ) (empty : Text) where
  pub record Running (strip : List ℕ) (text : Text) (run : List Party) (i : ℕ) : Type 0 where
    pub within : i ≤ length calls
    pub all_16 : length run ≡ 16
    pub words : length strip ≡ length first
    pub lines : Rest (run_text (begin first parties) 0 calls) empty
        (run_text (state_of parties strip run) i (drop i calls)) text
    pub end : end_from (state_of parties strip run) i (drop i calls)
        ≡ end_from (begin first parties) 0 calls

  starts : parties ≤ 16 → (p : Party) → p ≡ no_party → state_of parties first (replicate 16 p) ≡ begin first parties
  starts few p is =
      ap (λ (q : Party). state_of parties first (replicate 16 q)) is
      ∙ ap₂ (λ (table : List Record) (looks : List ℕ). record { strip = first; table = table; looks = looks })
      (take_replicate idle parties 16 few) (take_replicate {A = ℕ} 0 parties 16 few)

  pub running_begins : parties ≤ 16 → (p : Party) → p ≡ no_party → Running first empty (replicate 16 p) 0
  running_begins few p is =
      record {
        within = omega arith;
        all_16 = refl;
        words = refl;
        lines = rw (starts few p is) (rest_begins _ _);
        end = rw (starts few p is);
      }

  module _ {strip : List ℕ} {text : Text} {run : List Party} {i : ℕ} where
    pub running_moves : {left : List ℕ} {later : List Party} {line : List ℕ} {end : Text}
        → Running strip text run i → i < length calls → length later ≡ 16 → length left ≡ length strip
        → Moves (state_of parties strip run) (state_of parties left later) i (drop i calls) (drop (i + 1) calls) line
        → Puts line text end → Running left end later (i + 1)
    running_moves {line = line} r more later-16 same m puts =
        record {
          within = omega arith;
          all_16 = later-16;
          words = same ∙ r.words;
          lines = rest_goes_on line _ (rw m.text at r.lines) puts;
          end = sym m.end ∙ r.end;
        }

    pub running_ends : Running strip text run i → length calls ≤ i
        → Puts (run_text (begin first parties) 0 calls) empty text
        × (strip ≡ (end_from (begin first parties) 0 calls).strip)
    unfolding lines_text lines_from end_from
    running_ends r done =
        let none = drop_all i calls done in
        (rest_ends (rw none at r.lines) (puts_nothing text), ap (λ (s : State). s.strip) (rw none at r.end))
