-- Document 01's conventions that no theorem about the algorithm needs.
use Rattle.conventions.specs.Case.{Hold}
use Rattle.conventions.specs.Numbers.{numbers}
use Rattle.conventions.specs.Records.{stage0, operations, stage1, stage2, stage3, swap_stage}
use Rattle.conventions.specs.Strips.{lays, measures, finds, twos}
use Rattle.conventions.specs.Calls.{starts, withdrawals, steps, tables}
use Rattle.conventions.specs.Entries.{fields, wide_number, entry_order}
use Rattle.conventions.specs.Images as image
use Rattle.conventions.specs.Files.{files}

pub record Conventions : Type 0 where
  pub which_numbers_are_refusals : Hold numbers
  -- when a record is valid
  pub at_stage_0 : Hold stage0
  pub operation_and_order : Hold operations
  pub at_stage_1 : Hold stage1
  pub at_stage_2 : Hold stage2
  pub at_stage_3 : Hold stage3
  pub at_stage_4 : Hold (swap_stage 4)
  pub at_stage_5 : Hold (swap_stage 5)
  -- the refusals of a call, in their order
  pub of_start : Hold starts
  pub of_withdraw : Hold withdrawals
  pub of_step : Hold steps
  pub of_lay : Hold lays
  pub of_calls_on_a_table : Hold tables
  pub of_an_entry : Hold entry_order
  pub of_an_images_header : Hold image.headers
  pub of_calls_on_an_image : Hold image.named
  pub of_laying_an_image : Hold image.lays
  pub of_reading_an_image : Hold image.reads
  pub of_writing_an_image : Hold image.writes
  pub of_listing_a_file : Hold files
  -- what measure counts, where find begins, what value 2 is, which fields of an entry are 11
  pub measured : Hold measures
  pub found : Hold finds
  pub the_reserved_value : Hold twos
  pub an_entrys_fields : Hold fields
  pub an_entrys_number_is_compared_whole : Hold wide_number
