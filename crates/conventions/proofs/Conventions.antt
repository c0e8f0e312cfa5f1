-- Every convention holds, by computation.
use mathlib.Core.Path.{refl}
use Rattle.record.specs.Valid.{valid_of}
use Rattle.party.specs.Calls.{start_own, start_refusal, start_of, withdraw_own, withdraw_refusal, withdraw_of}
use Rattle.stages.specs.Stages.{access_of}
use Rattle.stages.specs.Follow.{judge_of, recheck_of}
use Rattle.step.specs.Step.{step_own, step_refusal, step_of, step_leaves}
use Rattle.call.specs.Call.{gate, call_of}
use Rattle.strip.specs.Lay as lay
use Rattle.strip.specs.Measure.{measure_of}
use Rattle.find.specs.Find.{first_from, find_of}
use Rattle.little.specs.Bytes.{number_at, bytes_of}
use Rattle.format.specs.Format.{header_refusal}
use Rattle.format.specs.Spelling.{words_from, record_at, records_from, word_bytes, with_records, spelled}
use Rattle.image.specs.Calls as image
use Rattle.entry.specs.Entry.{call_at}
use Rattle.entry.specs.OnRecord.{on_record_of}
use Rattle.pieces.specs.Pieces.{all_below, read_refusal}
use Rattle.whole.specs.Whole.{write_refusal, table_bytes}
use Rattle.schedule.specs.File.{file_refusal}
use Rattle.schedule.specs.List.{list_refusal}
use Rattle.conventions.specs.Conventions.{Conventions}

pub the_conventions_hold : Conventions
unfolding valid_of start_own start_refusal start_of withdraw_own withdraw_refusal withdraw_of access_of judge_of recheck_of step_own step_refusal
    step_of step_leaves gate call_of lay.lay_refusal measure_of first_from find_of number_at bytes_of header_refusal
    words_from record_at records_from word_bytes with_records spelled image.image_of image.lay_refusal image.lay_of call_at on_record_of all_below
    read_refusal write_refusal table_bytes file_refusal list_refusal
the_conventions_hold =
    record {
      which_numbers_are_refusals = refl;
      at_stage_0 = refl;
      operation_and_order = refl;
      at_stage_1 = refl;
      at_stage_2 = refl;
      at_stage_3 = refl;
      at_stage_4 = refl;
      at_stage_5 = refl;
      of_start = refl;
      of_withdraw = refl;
      of_step = refl;
      of_lay = refl;
      of_calls_on_a_table = refl;
      of_an_entry = refl;
      of_an_images_header = refl;
      of_calls_on_an_image = refl;
      of_laying_an_image = refl;
      of_reading_an_image = refl;
      of_writing_an_image = refl;
      of_listing_a_file = refl;
      measured = refl;
      found = refl;
      the_reserved_value = refl;
      an_entrys_fields = refl;
      an_entrys_number_is_compared_whole = refl;
    }
