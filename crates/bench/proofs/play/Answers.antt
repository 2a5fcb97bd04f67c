-- `bench::play` meets its contract: the tests are made in the order of the definition, and then the listing.
-- Assumes nothing.
use native.Mathlib.Omega.{arith}
use Rattle.network.proofs.Passed.{passed}
use Rattle.bench.proofs.play.Goals as goal

-- a network that passes has at most 16 processes
pub overflow_cast-network : goal.overflow_cast-network
overflow_cast-network c = omega (arith, (passed _ c.requires.0).processes_high)
