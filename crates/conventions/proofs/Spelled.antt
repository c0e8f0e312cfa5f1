-- The image after those calls, their packed answers, and the same bytes written whole, by computation.
use mathlib.Core.Path.{◌≡◌, refl}
use mathlib.Core.List.{map}
use Rattle.record.specs.Valid.{valid_of}
use Rattle.party.specs.Calls.{start_own, start_refusal, start_of}
use Rattle.stages.specs.Stages.{access_of}
use Rattle.stages.specs.Follow.{judge_of}
use Rattle.step.specs.Step.{step_own, step_refusal, step_of, step_leaves}
use Rattle.call.specs.Call.{gate, call_of}
use Rattle.little.specs.Bytes.{number_at, bytes_of}
use Rattle.format.specs.Format.{header_refusal}
use Rattle.format.specs.Spelling.{words_from, record_at, records_from, word_bytes, with_records, spelled}
use Rattle.image.specs.Calls as image
use Rattle.pds.specs.Packed.{packed_of}
use Rattle.whole.specs.Whole.{written_of, table_bytes}
use Rattle.on_image.specs.Run.{answers_on, image_after}
use Rattle.conventions.specs.Spelled.{laid_image, in_turn, answers, bytes, words, parties}

pub the_image_is_spelled_out :
    (map packed_of (answers_on laid_image in_turn) ≡ answers) × (image_after laid_image in_turn ≡ bytes) × (written_of words parties ≡ bytes)
unfolding valid_of start_own start_refusal start_of access_of judge_of step_own step_refusal step_of step_leaves gate call_of number_at bytes_of
    header_refusal words_from record_at records_from word_bytes with_records spelled image.image_of image.lay_refusal image.lay_of table_bytes
    answers_on image_after
the_image_is_spelled_out = (refl, refl, refl)
