use Rattle.text.proofs.Puts.{puts_then}
use Rattle.listing.proofs.put_word.Goals as goal

pub returns : goal.returns
returns c =
    let value = rw c.value.ensures at c.put_spaced.ensures in
    let counter = rw c.counter.ensures at c.put_decimal.ensures in
    puts_then _ _ value (puts_then _ _ c.put_byte.ensures counter)
