-- The four calls on an image: the answer and every byte that each leaves.
use Rattle.std.specs.Prelude.{ℕ, ◌+◌, ◌≡◌, Bool, true, not, ◌&&◌, List, length, leb, is_ok}
use Rattle.std.specs.declared.result.Result.{Result}
use Rattle.std.specs.declared.result.Result.TheVariants.{Ok, Err}
use Rattle.logic.specs.Pick.{pick}
use Rattle.refusal.specs.declared.Refusal.{Refusal}
use Rattle.refusal.specs.declared.Refusal.TheVariants.{WrongSize, NotValid, Outside}
use Rattle.refusal.specs.Refusal.{Check, passes}
use Rattle.party.specs.Answer.{number_of, carried_of, is_refusal}
use Rattle.party.specs.declared.Answer.{Answer}
use Rattle.party.specs.declared.Answer.TheVariants.{GoesOn}
use Rattle.call.specs.Call.{Call, party_of, gate, Left, call_of}
use Rattle.header.specs.Header.{version_at, parties_at, max_at}
use Rattle.format.specs.Format.{sizes_fit, header_refusal, party_place}
use Rattle.format.specs.Spelling.{strip_of, table_of, is_spare, spelled}
use Rattle.format.specs.Fresh.{fresh_image}

-- what a call answers, and the image it leaves
pub record Done : Type 0 where
  pub answer : Result Answer Refusal
  pub image : List ℕ

abbrev pub unchanged : Refusal → List ℕ → Done
unchanged refusal image = record { answer = Err refusal; image = image }

-- the call on the decoded strip and table, spelled back
abbrev pub decoded : List ℕ → Call → Left
decoded image call = call_of (strip_of image) (table_of image) call

abbrev pub encoded : List ℕ → Left → Done
encoded image left = record { answer = left.answer; image = spelled image left.strip left.table }

-- the named record's spare bytes are looked at once the party is known
abbrev pub spare_refused : List ℕ → Call → Bool
spare_refused image call =
    is_ok (gate (max_at image + 2) (parties_at image) call) && not (is_spare (version_at image) image (party_place image (party_of call)))

-- what a check decides: what is done, or refused with every byte as it was
abbrev pub unless : Check → List ℕ → Done → Done
unless (Ok passed) image done = done
unless (Err refusal) image done = unchanged refusal image

unfoldable pub image_of : List ℕ → Call → Done
image_of image call =
    unless (header_refusal image) image
    (pick (spare_refused image call) (unchanged NotValid image)
    (encoded image (decoded image call)))

-- lay makes images of version 1; it looks at the length only, at no byte already there
unfoldable pub lay_refusal : (bytes max parties divide : ℕ) → Check
lay_refusal bytes max parties divide =
    pick (not (sizes_fit 1 bytes max parties)) (Err WrongSize) (pick (not (leb divide max)) (Err Outside) passes)

unfoldable pub lay_of : List ℕ → (max parties divide : ℕ) → Done
lay_of image max parties divide =
    unless (lay_refusal (length image) max parties divide) image
    (record { answer = Ok GoesOn; image = fresh_image 1 max parties divide })

-- What each call promises: the answer and every byte it was lent.
pub record ImagePromise (wanted : Done) (answer : Result Answer Refusal) (left : List ℕ) : Type 0 where
  pub answered : answer ≡ wanted.answer
  pub bytes : left ≡ wanted.image

-- A refused call carries no order and leaves every byte.
abbrev pub RefusedLeaves : List ℕ → Done → Type 0
RefusedLeaves image done =
    is_refusal (number_of done.answer) ≡ true → (carried_of done.answer ≡ 0) × (done.image ≡ image)
