use Rattle.std.proofs.Common.{drop}
use Rattle.listing.specs.Listing.{words_text}
use Rattle.text.proofs.Puts.{Rest}
use Rattle.listing.proofs.put_words.Given as goal

abbrev pub invariant-loop-word : goal.invariant-loop-word
invariant-loop-word l = Rest (words_text l.strip) l.initial.text (words_text (drop l.word-index l.strip)) l.text
