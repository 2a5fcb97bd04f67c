-- "In a round processes 0 to P−1 do one instruction each, in turn", computed: what process 0 sends, process 1 receives in the same round.
-- These facts say which order it is: they fail with process 1 first, or with both on what the last round left.
-- Assumes nothing.
use mathlib.Core.Path.{◌≡◌, refl}
use mathlib.Core.Bool.{cond}
use mathlib.Core.List.{List, [], ◌∷◌, ◌++◌}
use Prim.Native.Nat.{ℕ}
use lib.Dec.{eqb}
use lib.ListN.{replicate}
use lib.IntN.{ℤ, pos, negsuc}
use Rattle.network.specs.declared.Network.{Network}
use Rattle.arithmetic.specs.Wrap.{residue, centred, wrap}
use Rattle.process.specs.Process.{Process}
use Rattle.process.specs.declared.Condition.{Condition}
use Rattle.process.specs.declared.Condition.TheVariants.{Live}
use Rattle.process.specs.Want.{want_live, want}
use Rattle.lane.specs.State.{stands_at}
use Rattle.kahn.specs.Plain.{Plain, without_capacities, plain_start, resolve, plain_step, plain_after}

-- what is unfolded to compute the plain order
unfoldable pub plain : ℕ
unfolding plain_start plain_step resolve stands_at want want_live wrap centred residue
plain = 0

-- a process with two registers in use
abbrev pub process : ℤ → ℤ → ℕ → Condition → ℕ → Process
process x y position condition moves =
    record { registers = x ∷ y ∷ replicate 6 (pos 0); position = position; condition = condition; moves = moves }

-- ---- two processes: 0 passes on from channel 0 to 1; 1 adds up what comes on 1, and sends the sum on 2
abbrev pub passes_on : List ℕ
passes_on = 11 ∷ 0 ∷ 0 ∷ 3 ∷ 12 ∷ 0 ∷ 1 ∷ 0 ∷ 8 ∷ 0 ∷ 0 ∷ 0 ∷ 0 ∷ 0 ∷ 0 ∷ 0 ∷ []

abbrev pub adds_up : List ℕ
adds_up = 11 ∷ 0 ∷ 1 ∷ 4 ∷ 3 ∷ 1 ∷ 1 ∷ 0 ∷ 12 ∷ 1 ∷ 2 ∷ 0 ∷ 8 ∷ 0 ∷ 0 ∷ 0 ∷ 0 ∷ 0 ∷ 0 ∷ 0 ∷ []

abbrev pub relay : ℕ → Network
relay capacity =
    record {
      processes = 2;
      channels = 3;
      first = 0 ∷ 4 ∷ replicate 14 0;
      count = 4 ∷ 5 ∷ replicate 14 0;
      sender = 255 ∷ 0 ∷ 1 ∷ replicate 29 0;
      receiver = 0 ∷ 1 ∷ 255 ∷ replicate 29 0;
      capacity = capacity ∷ capacity ∷ capacity ∷ replicate 29 0;
      code = (passes_on ++ adds_up) ++ replicate 4028 0;
    }

-- "input 5, −3 on 0"
abbrev pub input : ℕ → List ℤ
input c = cond (eqb c 0) (pos 5 ∷ negsuc 2 ∷ []) []

abbrev rounds : ℕ → Plain
rounds k = plain_after (without_capacities (relay 1)) input k

-- ---- after one round: process 0 has received, and process 1, which found nothing, is as it was
one_sent : (rounds 1).sent 1 ≡ []
unfolding plain
one_sent = refl

one_first : (rounds 1).processes 0 ≡ process (pos 5) (pos 0) 1 Live 1
unfolding plain
one_first = refl

one_second : (rounds 1).processes 1 ≡ process (pos 0) (pos 0) 0 Live 0
unfolding plain
one_second = refl

-- ---- after two: process 0 has sent, and process 1 has received it in the same round
two_sent : (rounds 2).sent 1 ≡ pos 5 ∷ []
unfolding plain
two_sent = refl

two_received : (rounds 2).received 1 ≡ 1
unfolding plain
two_received = refl

two_first : (rounds 2).processes 0 ≡ process (pos 5) (pos 0) 2 Live 2
unfolding plain
two_first = refl

two_second : (rounds 2).processes 1 ≡ process (pos 5) (pos 0) 1 Live 1
unfolding plain
two_second = refl
