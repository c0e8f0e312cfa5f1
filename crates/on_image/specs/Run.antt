-- A run on an image: calls one after the other, each on the bytes that the one before left.
use Rattle.std.specs.Prelude.{ℕ, ◌*◌, ◌≡◌, List, [], ◌∷◌, map, drop, replicate}
use Rattle.std.specs.declared.result.Result.{Result}
use Rattle.refusal.specs.declared.Refusal.{Refusal}
use Rattle.refusal.specs.Refusal.{passes}
use Rattle.little.specs.Bytes.{AreBytes}
use Rattle.party.specs.Answer.{number_of, carried_of}
use Rattle.party.specs.declared.Answer.{Answer}
use Rattle.plain.specs.Plain.{Plain}
use Rattle.call.specs.Call.{Call}
use Rattle.strip.specs.Shape.{StandsFor}
use Rattle.header.specs.Header.{parties_at}
use Rattle.format.specs.Format.{header_refusal, records_in}
use Rattle.format.specs.Spelling.{strip_of, table_of}
use Rattle.image.specs.Calls.{image_of}
use Rattle.history.specs.Run.{State, begin, lines_from, end_from, line_numbers, line_orders}
use Rattle.on_image.specs.Intact.{Intact}

-- The image at the beginning: its header is taken, for so many parties; its strip stands for the plain strip p; and every record is 32
-- zero bytes.
pub record Begins (image : List ℕ) (p : Plain) (parties : ℕ) : Type 0 where
  pub bytes : AreBytes image
  pub taken : header_refusal image ≡ passes
  pub for_parties : parties_at image ≡ parties
  pub stands : StandsFor (strip_of image) p
  pub idle : drop (records_in image) image ≡ replicate (32 * parties) 0

-- what each call is answered, and the bytes after the last
unfoldable pub answers_on : (image : List ℕ) → List Call → List (Result Answer Refusal)
answers_on image [] = []
answers_on image (call ∷ calls) = (image_of image call).answer ∷ answers_on (image_of image call).image calls

unfoldable pub image_after : (image : List ℕ) → List Call → List ℕ
image_after image [] = image
image_after image (call ∷ calls) = image_after (image_of image call).image calls

-- the strip that an image spells, with every party idle
abbrev pub first_on : (image : List ℕ) (parties : ℕ) → State
first_on image parties = begin (strip_of image) parties

-- The calls on an image answer what they answer in a run from the state s, and leave what it leaves, spelled in an intact image.
pub record RunsAs (s : State) (entry : ℕ) (image : List ℕ) (calls : List Call) : Type 0 where
  pub numbers : map number_of (answers_on image calls) ≡ line_numbers (lines_from s entry calls)
  pub carried : map carried_of (answers_on image calls) ≡ line_orders (lines_from s entry calls)
  pub strip : strip_of (image_after image calls) ≡ (end_from s entry calls).strip
  pub table : table_of (image_after image calls) ≡ (end_from s entry calls).table
  pub intact : Intact (image_after image calls)
