-- `Listing::proc` meets its contract, part by part.
-- Assumes nothing.
use Rattle.listing.proofs.Laws.{seven}
use Rattle.listing.proofs.Lines.{proc_parts}
use Rattle.listing.proofs.Listing.proc.Goals as goal

pub returns : goal.returns
returns c = rw (proc_parts c.args.p c.args.status c.args.moves c.requires.process c.ranges.moves.fits) (seven (rw (proc_parts c.args.p c.args.status c.args.moves c.requires.process c.ranges.moves.fits) at c.requires.room) c.put.ensures c.put_decimal.ensures c.put-2.ensures c.put_word.ensures c.put-3.ensures c.put_decimal-2.ensures c.put-4.ensures)
