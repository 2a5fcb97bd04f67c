-- A bench answers a length that any listing buffer has room for.
-- Assumes nothing.
use mathlib.Core.Path.{◌≡◌, refl, ap}
use mathlib.Core.Bool.{Bool, true, false, cond}
use mathlib.Core.List.{List}
use Prim.Native.Nat.{ℕ, ◌≤◌}
use lib.Dec.{ltb}
use lib.ListN.{length}
use Rattle.network.specs.declared.Network.{Network}
use Rattle.network.specs.Rules.{passes}
use Rattle.lane_file.specs.Read as file
use Rattle.lane_file.proofs.RoundTrip.{written_read}
use Rattle.listing.specs.Text.{text}
use Rattle.bench_rules.specs.Playing.{lines_of}
use Rattle.bench_rules.proofs.Fits.{listing_fits}
use Rattle.bench.specs.Bench.{Told, listed, refused, result, input_wrong, picks_wrong, listing, played, on_file, bench_of}
use Rattle.bench.proofs.Kept.{few_picks}

-- a length of at most 57,784, or a refusal
abbrev pub Short : Told → Type 0
Short (listed n) = n ≤ 57784
Short (refused k) = Unit {0}

played_short : (n : Network) (input picks buffer : List ℕ) → passes n ≡ true → Short (played n input picks buffer).answer
played_short n input picks buffer pass = at (input_wrong n input picks) refl (picks_wrong n picks)
  where
    at : (t : Bool) → input_wrong n input picks ≡ t → (u : Bool)
        → Short (cond t (result (refused 17) buffer) (cond u (result (refused 8) buffer) (listing (text (lines_of n input picks)) buffer))).answer
    at true e u = tt
    at false e true = tt
    at false e false = listing_fits n input picks pass (few_picks n input picks e)

pub bench_short : (bytes input picks buffer : List ℕ) → file.Bytes bytes → Short (bench_of bytes input picks buffer).answer
unfolding bench_of
bench_short bytes input picks buffer small = at (ltb (length buffer) 65536)
  where
    read : (t : file.Told) → (file.read_of bytes).answer ≡ t → Short (on_file t (file.read_of bytes).network input picks buffer).answer
    read file.accepted e =
        played_short (file.read_of bytes).network input picks buffer
        (written_read bytes (file.read_of bytes).network small (ap (λ (a : file.Told). record { answer = a; network = (file.read_of bytes).network }) e)).0
    read (file.refused number place) e = tt

    at : (t : Bool)
        → Short (cond t (result (refused 15) buffer) (on_file (file.read_of bytes).answer (file.read_of bytes).network input picks buffer)).answer
    at true = tt
    at false = read (file.read_of bytes).answer refl
