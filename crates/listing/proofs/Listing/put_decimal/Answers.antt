-- `Listing::put_decimal` meets its contract: the digits that the library makes are the number in decimal.
-- Assumes nothing.
use mathlib.Core.Path.{◌≡◌, sym, ◌∙◌}
use lib.ListN.{take}
use Rattle.listing.specs.Number.{number}
use Rattle.listing.proofs.Decimal.{number_digits}
use Rattle.listing.proofs.Listing.put_decimal.Goals as goal

pub put-requires : goal.put-requires
put-requires c =
    let spelt : take c.decimal-k.result c.decimal-k.new.out ≡ number c.args.n = c.decimal-k.ensures.digits ∙ sym (number_digits c.decimal-k.result c.args.n c.ranges.n.fits c.decimal-k.ensures.len) in
    rw spelt c.requires

pub returns : goal.returns
returns c =
    let spelt : take c.decimal-k.result c.decimal-k.new.out ≡ number c.args.n = c.decimal-k.ensures.digits ∙ sym (number_digits c.decimal-k.result c.args.n c.ranges.n.fits c.decimal-k.ensures.len) in
    rw (← spelt) c.put.ensures
