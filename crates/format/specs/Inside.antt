-- What the checks before the record's own give. No public promise speaks of these.
use Rattle.std.specs.Prelude.{ℕ, Bool, not, List, leb}
use Rattle.std.specs.declared.result.Result.{Result}
use Rattle.std.specs.declared.result.Result.TheVariants.{Ok, Err}
use Rattle.std.specs.Result.{result_and}
use Rattle.logic.specs.Pick.{pick}
use Rattle.refusal.specs.declared.Refusal.{Refusal}
use Rattle.refusal.specs.declared.Refusal.TheVariants.{WrongOperation, WrongParty, NotValid}
use Rattle.refusal.specs.Refusal.{Check, passes}
use Rattle.header.specs.Header.{version_at, parties_at, max_at}
use Rattle.format.specs.Format.{header_refusal, party_place}
use Rattle.format.specs.Spelling.{is_spare}
use Rattle.format.specs.declared.Header.{Header}
use Rattle.format.specs.declared.Named.{Named}

abbrev pub taken_header : List ℕ → Header
taken_header image = record { version = version_at image; max = max_at image; parties = parties_at image }

unfoldable pub header_of : List ℕ → Result Header Refusal
header_of image = result_and (header_refusal image) (Ok (taken_header image))

-- header, operation, party number, spare bytes
unfoldable pub named_refusal : List ℕ → (unknown : Bool) (party : ℕ) → Check
named_refusal image unknown party =
    result_and (header_refusal image)
    (pick unknown (Err WrongOperation)
    (pick (leb (parties_at image) party) (Err WrongParty)
    (pick (not (is_spare (version_at image) image (party_place image party))) (Err NotValid) passes)))

abbrev pub found_named : List ℕ → (party : ℕ) → Named
found_named image party = record { max = max_at image; at = party_place image party }

unfoldable pub named_of : List ℕ → (unknown : Bool) (party : ℕ) → Result Named Refusal
named_of image unknown party = result_and (named_refusal image unknown party) (Ok (found_named image party))
