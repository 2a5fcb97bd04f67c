-- `Listing::put` meets its contract: the bytes from a place on are the text, and all else is as it was.
-- Assumes nothing.
use mathlib.Core.Path.{refl, ap, ◌∙◌}
use lib.ListN.{length}
use native.Mathlib.Omega.{arith}
use Rattle.listing.proofs.Laws.{copied, written_length}
use Rattle.listing.proofs.Listing.put.Goals as goal

pub returns : goal.returns
returns c =
    let text = copied c.args.self.now.at _ c.args.text.now _ c.args.self.now.buffer.now (omega arith) c.copy_from_slice.ensures.after in
    record { at = refl; text = text; same_length = ap length text ∙ written_length _ _ _ c.requires.fits; same_buffer = refl }
