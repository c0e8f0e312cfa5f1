use Rattle.text.proofs.Puts.{puts_then}
use Rattle.listing.proofs.put_line.Goals as goal

pub returns : goal.returns
returns c =
    let party = rw c.party_of.ensures at c.put_spaced.ensures in
    puts_then _ _ c.put_decimal.ensures (puts_then _ _ party (puts_then _ _ c.put_spaced-2.ensures (puts_then _ _ c.put_spaced-3.ensures
    (puts_then _ _ c.put_byte.ensures (puts_then _ _ c.put_effect.ensures c.put_byte-2.ensures)))))
