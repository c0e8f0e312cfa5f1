-- Text written into lent bytes. No public promise and no theorem about schedules rests on this file: it is what the functions that
-- write say of themselves.
use Rattle.std.specs.Prelude.{ℕ, ◌+◌, ◌≤◌, ◌≡◌, List, length}
use Rattle.std.proofs.lemmas.List.Edits.{sets}
use Rattle.text.specs.declared.Text.{Text}

-- more text fits behind what stands there
pub record Room (more : List ℕ) (text : Text) : Type 0 where
  pub fits : text.at + length more ≤ length text.out.now

-- in the same lent bytes, more text stands from the place on, every other byte is as it was, and the place is behind it now
pub record Puts (more : List ℕ) (text left : Text) : Type 0 where
  pub same : left.out.ghost_name ≡ text.out.ghost_name
  pub behind : left.at ≡ text.at + length more
  pub bytes : left.out.now ≡ sets text.out.now text.at more
  pub long : length left.out.now ≡ length text.out.now
