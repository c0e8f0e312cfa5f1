-- A fresh image: the header, a fresh strip, all records zero.
use Rattle.std.specs.Prelude.{ℕ, ◌*◌, List, ◌∷◌, ◌++◌, replicate}
use Rattle.strip.specs.Lay.{fresh_strip}
use Rattle.little.specs.Bytes.{bytes_of}
use Rattle.format.specs.Spelling.{word_bytes}

abbrev pub header_bytes : (version max parties : ℕ) → List ℕ
header_bytes version max parties = 80 ∷ 68 ∷ 83 ∷ (bytes_of 2 version ++ (parties ∷ bytes_of 2 max))

abbrev pub fresh_image : (version max parties divide : ℕ) → List ℕ
fresh_image version max parties divide =
    header_bytes version max parties ++ (word_bytes (fresh_strip max divide) ++ replicate (32 * parties) 0)
