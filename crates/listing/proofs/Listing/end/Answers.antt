-- `Listing::end` meets its contract, part by part.
-- Assumes nothing.
use Rattle.listing.proofs.Laws.{three}
use Rattle.listing.proofs.Lines.{end_parts}
use Rattle.listing.proofs.Listing.end.Goals as goal

pub returns : goal.returns
returns c = rw (end_parts c.args.c c.requires.channel) (three (rw (end_parts c.args.c c.requires.channel) at c.requires.room) c.put.ensures c.put_decimal.ensures c.put-2.ensures)
