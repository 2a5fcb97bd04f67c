-- `Listing::grow` meets its contract, part by part.
-- Assumes nothing.
use Rattle.listing.proofs.Laws.{five}
use Rattle.listing.proofs.Lines.{grow_parts}
use Rattle.listing.proofs.Listing.grow.Goals as goal

pub returns : goal.returns
returns c = rw (grow_parts c.args.c c.args.capacity c.requires.channel c.requires.capacity) (five (rw (grow_parts c.args.c c.args.capacity c.requires.channel c.requires.capacity) at c.requires.room) c.put.ensures c.put_decimal.ensures c.put-2.ensures (rw c.from.ensures at c.put_decimal-2.ensures) c.put-3.ensures)
