-- What the tests before the first pick byte have shown.
-- Assumes nothing.
use mathlib.Core.Path.{◌≡◌, refl, sym, ◌∙◌}
use mathlib.Core.Bool.{Bool, true, false, not, ◌||◌}
use mathlib.Core.List.{List}
use Prim.Native.Nat.{ℕ, ◌%◌, ◌≤◌, ◌<◌}
use native.Mathlib.Omega.{arith}
use borrow.Author.Tests.{ltb-true, ltb-false, ne_eqb, not-false}
use lib.Dec.{eqb, ltb}
use lib.ListN.{length, get_or}
use Rattle.base.proofs.Conjunction.{neither}
use Rattle.base.specs.Tests.{first_bad, is_good}
use Rattle.network.specs.declared.Network.{Network}
use Rattle.network.specs.Rules.{passes}
use Rattle.network.proofs.Passed.{passed}
use Rattle.lane.specs.State.{fresh_of}
use Rattle.lane.proofs.SoundLaws.{at_each}
use Rattle.runs.specs.Run as run
use Rattle.bench_rules.specs.Input.{records}
use Rattle.bench_rules.specs.Playing.{start}
use Rattle.bench.specs.Bench.{from_outside, input_wrong, picks_wrong}

one_of : (a b : Bool) → (a || b) ≡ true → b ≡ false → a ≡ true
one_of true b e f = refl
one_of false b e f = sym f ∙ e

-- each byte names a process or is 255
pub all_named : (n : Network) (picks : List ℕ) → picks_wrong n picks ≡ false → (k : ℕ) → k < length picks → (get_or picks k 0 ≡ 255 → ⊥) → get_or picks k 0 < n.processes
all_named n picks e k h other =
    ltb-true _ _ (one_of _ _ (at_each (run.named picks n.processes) 0 (length picks) (not-false _ e) k (omega arith) (omega arith)) (ne_eqb _ 255 other))

-- there are at most 3,000 of them
pub few_picks : (n : Network) (input picks : List ℕ) → input_wrong n input picks ≡ false → length picks ≤ 3000
unfolding input_wrong
few_picks n input picks e =
    let early = not (eqb (length input % 5) 0) || ltb 20480 (length input) in
    let inner = not (is_good (first_bad (from_outside n input) 0 (records input))) in
    ltb-false 3000 (length picks) (neither early (ltb 3000 (length picks)) (neither (early || ltb 3000 (length picks)) inner e).0).1

-- a network that passes the file's rules has at most 32 channels
pub few_channels : (n : Network) → passes n ≡ true → n.channels ≤ 32
few_channels n e = (passed n e).channels_high

-- so has its lane at the start, with at most 16 processes
pub fresh_few_processes : (n : Network) → passes n ≡ true → (fresh_of n).network.processes ≤ 16
unfolding fresh_of
fresh_few_processes n e = (passed n e).processes_high

pub fresh_few_channels : (n : Network) → passes n ≡ true → (fresh_of n).network.channels ≤ 32
unfolding fresh_of
fresh_few_channels n e = (passed n e).channels_high

pub fresh_network : (n : Network) → (fresh_of n).network ≡ n
unfolding fresh_of
fresh_network n = refl

pub start_network : (n : Network) (input : List ℕ) → (start n input).world.lane.network ≡ n
unfolding start fresh_of
start_network n input = refl
