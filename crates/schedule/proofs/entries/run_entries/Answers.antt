-- A turn of the loop moves the run on by an entry: its line first, then the rest from the state that it leaves.
use Rattle.std.proofs.Common.{◌+◌, ◌∙◌, ℕ, List, [], drop, sym, ap, arith}
use Rattle.std.proofs.Math.ListN.{set, length-set}
use Rattle.std.proofs.lemmas.List.{get_or-map, length-map}
use Rattle.history.specs.Run.{no_call}
use Rattle.entry.specs.Entry.{call_at, asked_of}
use Rattle.record.specs.declared.Record.{Record}
use Rattle.text.proofs.Puts.{rest_room, room_left}
use Rattle.run.specs.declared.Party.{Party}
use Rattle.run.proofs.Entering.{state_of}
use Rattle.listing.specs.Told.{turn_text}
use Rattle.schedule.specs.Inside.{calls_in}
use Rattle.schedule.proofs.Running.{Moves, moves, running_begins, running_moves, running_ends}
use Rattle.schedule.proofs.entries.run_entries.Goals as goal
use Rattle.schedule.proofs.entries.run_entries.Goals.{After-take_turn-turn}

moved : (c : After-take_turn-turn)
    → Moves (state_of c.args.parties c.loop-i.strip c.loop-i.run)
    (state_of c.args.parties c.take_turn-turn.new.strip (set c.loop-i.run c.party_in_16-p.result c.take_turn-turn.result.party))
    c.loop-i.i (drop c.loop-i.i (calls_in c.args.entries.now)) (drop (c.loop-i.i + 1) (calls_in c.args.entries.now))
    (turn_text c.loop-i.i (asked_of c.read-e.result) c.take_turn-turn.result)
moved c =
    let now = c.loop-i in
    let asked = c.read-e.ensures ∙ sym (get_or-map (λ (entry : List ℕ). call_at entry 0) c.args.entries.now now.i [] no_call (omega arith)) in
    moves (calls_in c.args.entries.now) c.args.parties now.strip now.run now.i c.requires.1 now.invariant.all_16
    (omega (arith, length-map c.args.entries.now (λ (entry : List ℕ). call_at entry 0)))
    (asked_of c.read-e.result) asked c.party_in_16-p.result c.party_in_16-p.ensures
    c.take_turn-turn.result c.take_turn-turn.new.strip c.take_turn-turn.ensures.tells c.take_turn-turn.ensures.words

pub loop-i-init : goal.loop-i-init
loop-i-init c =
    running_begins _ _ _ _ c.requires.1 _ (ap (λ (r : Record). let party : Party = record { rec = r; look = 0 } in party) c.idle.ensures)

pub put_line-requires : goal.put_line-requires
put_line-requires c =
    let turn = (goal.at.put_line-requires c).After-take_turn-turn in
    rw c.from.ensures (room_left _ _ (rw (moved turn).text at (rest_room c.requires.2 c.loop-i.invariant.lines)))

pub loop-i-preserved : goal.loop-i-preserved
loop-i-preserved c =
    let turn = (goal.at.loop-i-preserved c).After-take_turn-turn in
    let now = c.loop-i.invariant in
    running_moves _ _ _ _ now (omega (arith, length-map c.args.entries.now (λ (entry : List ℕ). call_at entry 0)))
    (simp length-set now.all_16) c.take_turn-turn.auto.strip (moved turn) (rw c.from.ensures at c.put_line.ensures)

pub returns-clause-lines : goal.returns-clause-lines
returns-clause-lines c = (running_ends _ _ _ _ c.loop-i.invariant (omega (arith, length-map c.args.entries.now (λ (entry : List ℕ). call_at entry 0)))).0

pub returns-clause-words : goal.returns-clause-words
returns-clause-words c = (running_ends _ _ _ _ c.loop-i.invariant (omega (arith, length-map c.args.entries.now (λ (entry : List ℕ). call_at entry 0)))).1
