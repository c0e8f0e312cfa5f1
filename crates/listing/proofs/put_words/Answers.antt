use Rattle.std.proofs.Common.{arith}
use Rattle.text.proofs.Puts.{room_left, rest_room, rest_goes_on, rest_ends}
use Rattle.listing.proofs.Words.{words_more, words_end}
use Rattle.listing.proofs.put_words.Goals as goal

pub put_word-requires : goal.put_word-requires
put_word-requires c =
    room_left _ _ (rw (words_more c.args.strip.now c.loop-word.word-index (omega arith)) at (rest_room c.requires c.loop-word.invariant))

pub loop-word-preserved : goal.loop-word-preserved
loop-word-preserved c =
    rest_goes_on _ _ (rw (words_more c.args.strip.now c.loop-word.word-index (omega arith)) at c.loop-word.invariant) c.put_word.ensures

pub put_byte-requires : goal.put_byte-requires
put_byte-requires c = rw (words_end c.args.strip.now c.loop-word.word-index (omega arith)) at (rest_room c.requires c.loop-word.invariant)

pub returns : goal.returns
returns c = rest_ends (rw (words_end c.args.strip.now c.loop-word.word-index (omega arith)) at c.loop-word.invariant) c.put_byte.ensures
