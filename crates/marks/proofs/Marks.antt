-- Every starred mark holds, by computation.
use mathlib.Core.Path.{◌≡◌, refl}
use mathlib.Core.Bool.{true, ◌&&◌}
use Rattle.refusal.specs.Refusal.{passes}
use Rattle.record.specs.Valid.{valid_of}
use Rattle.party.specs.Calls.{start_own, start_refusal, start_of, withdraw_own, withdraw_refusal, withdraw_of}
use Rattle.stages.specs.Stages.{access_of}
use Rattle.stages.specs.Follow.{judge_of, recheck_of}
use Rattle.step.specs.Step.{step_own, step_refusal, step_of, step_leaves}
use Rattle.call.specs.Call.{gate, call_of}
use Rattle.strip.specs.Measure.{measure_of}
use Rattle.plain.specs.Play.{play}
use Rattle.placing.specs.Placing.{at_entry, in_order}
use Rattle.history.specs.Run.{line_of, leaves, lines_from, end_from}
use Rattle.history.specs.Finished.{finished_from}
use Rattle.marks.specs.Fight.{fight}
use Rattle.marks.specs.Withdrawal.{withdrawal}
use Rattle.marks.specs.Seen.{seen_from}
use Rattle.marks.specs.Replay.{all_same, replays}
use Rattle.little.specs.Bytes.{number_at}
use Rattle.text.specs.Text.{digits_of}
use Rattle.entry.specs.Entry.{call_at}
use Rattle.listing.specs.Listing.{listing_text, lines_text, words_text}
use Rattle.schedule.specs.File.{calls_from, file_refusal}
use Rattle.marks.specs.Marks.{all_hold, marks, prints}

pub the_marks_hold : all_hold marks && prints ≡ true
unfolding valid_of start_own start_refusal start_of withdraw_own withdraw_refusal withdraw_of access_of judge_of recheck_of step_own
    step_refusal step_of step_leaves gate call_of measure_of play at_entry in_order line_of leaves lines_from end_from
    finished_from seen_from all_same replays all_hold number_at call_at calls_from digits_of listing_text lines_text words_text
the_marks_hold = refl

-- Document 01's nine entries are a file that no check refuses, and the second file is one.
pub the_fight_is_not_refused : file_refusal fight ≡ passes
unfolding file_refusal number_at
the_fight_is_not_refused = refl

pub the_withdrawal_is_not_refused : file_refusal withdrawal ≡ passes
unfolding file_refusal number_at
the_withdrawal_is_not_refused = refl
