-- What writing onto a listing asks and leaves.
-- Assumes nothing.
use Rattle.std.specs.Prelude.{◌≡◌, List, ℕ, ◌+◌, ◌≤◌, length}
use Rattle.listing.specs.declared.Listing.{Listing}
use Rattle.listing.specs.Written.{written}

-- a text fits in what is left of the buffer
pub record HasRoom (t : List ℕ) (l : Listing) : Type 0 where
  pub fits : l.at + length t ≤ length l.buffer.now

-- a text stands from the one place on, up to the other; all else in the buffer is as it was, and it is the same buffer
pub record Wrote (t : List ℕ) (old new : Listing) : Type 0 where
  pub at : new.at ≡ old.at + length t
  pub text : new.buffer.now ≡ written old.at t old.buffer.now
  pub same_length : length new.buffer.now ≡ length old.buffer.now
  pub same_buffer : new.buffer.ghost_name ≡ old.buffer.ghost_name
