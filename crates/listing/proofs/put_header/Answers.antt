use Rattle.text.proofs.Puts.{puts_then}
use Rattle.listing.proofs.put_header.Goals as goal

pub returns : goal.returns
returns c =
    puts_then _ _ c.put_text.ensures (puts_then _ _ c.put_spaced.ensures (puts_then _ _ c.put_spaced-2.ensures
    (puts_then _ _ c.put_text-2.ensures (puts_then _ _ c.put_spaced-3.ensures c.put_byte.ensures))))
