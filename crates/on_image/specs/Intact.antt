-- What every call keeps of an image.
use Rattle.std.specs.Prelude.{ℕ, ◌<◌, ◌≡◌, true, List}
use Rattle.refusal.specs.Refusal.{passes}
use Rattle.little.specs.Bytes.{AreBytes}
use Rattle.header.specs.Header.{version_at, parties_at}
use Rattle.format.specs.Format.{header_refusal, party_place}
use Rattle.format.specs.Spelling.{is_spare}

-- the header is taken, and the bytes of each record that must be zero are
pub record Intact (image : List ℕ) : Type 0 where
  pub bytes : AreBytes image
  pub taken : header_refusal image ≡ passes
  pub spare : (party : ℕ) → party < parties_at image → is_spare (version_at image) image (party_place image party) ≡ true
