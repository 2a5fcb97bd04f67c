-- `bench::bench` meets its contract: the tests are made in the order of the definition.
-- Assumes nothing.
use mathlib.Core.Path.{◌≡◌, sym, ◌∙◌}
use borrow.Author.Tests.{lt-ltb, le-ltb}
use Rattle.lane_file.specs.Read.{accepted, read_of}
use Rattle.lane_file.proofs.RoundTrip.{written_read}
use Rattle.bench.specs.Bench.{bench_of}
use Rattle.bench.proofs.bench.Goals as goal

pub returns-then-listing-lt65536 : goal.returns-then-listing-lt65536
unfolding bench_of
returns-then-listing-lt65536 c = rw (lt-ltb _ 65536 c.if-listing-lt65536.true)

pub play-requires : goal.play-requires
play-requires c =
    let read_as : read_of c.args.file.now ≡ record { answer = accepted; network = c.in-Ok.network } = sym c.read.ensures ∙ rw c.in-Ok.is in
    ((written_read c.args.file.now _ (λ k. (c.type_inv.file k).fits) read_as).0, c.if-listing-lt65536.false)

pub returns-in-Err : goal.returns-in-Err
unfolding bench_of
returns-in-Err c =
    rw (le-ltb _ 65536 c.if-listing-lt65536.false, ← c.read.ensures, c.in-Err.is)

pub returns-in-Ok : goal.returns-in-Ok
unfolding bench_of
returns-in-Ok c =
    rw (le-ltb _ 65536 c.if-listing-lt65536.false, ← c.read.ensures, c.in-Ok.is) c.play.ensures
