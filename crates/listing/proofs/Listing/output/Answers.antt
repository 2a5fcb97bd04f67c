-- `Listing::output` meets its contract, part by part.
-- Assumes nothing.
use native.Mathlib.Omega.{arith}
use mir.Facts.{to_z-of_z}
use Rattle.listing.proofs.Laws.{five}
use Rattle.listing.proofs.Lines.{out_parts, out_length}
use Rattle.listing.proofs.Listing.output.Goals as goal

pub put_integer-requires : goal.put_integer-requires
put_integer-requires c =
    rw (to_z-of_z c.ranges.v) (record { fits = omega (arith, out_length c.args.c c.args.v c.requires.channel) })

pub put-requires-3 : goal.put-requires-3
put-requires-3 c =
    let w = rw (to_z-of_z c.ranges.v) at c.put_integer.ensures in
    record { fits = omega (arith, out_length c.args.c c.args.v c.requires.channel, w.at, w.same_length) }

pub returns : goal.returns
returns c =
    rw (out_parts c.args.c c.args.v c.requires.channel)
    (five (rw (out_parts c.args.c c.args.v c.requires.channel) at c.requires.room) c.put.ensures c.put_decimal.ensures c.put-2.ensures (rw (to_z-of_z c.ranges.v) at c.put_integer.ensures) c.put-3.ensures)
