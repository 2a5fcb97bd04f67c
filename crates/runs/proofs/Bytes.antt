-- The bytes of a run, one by one.
-- Assumes nothing.
use mathlib.Core.Path.{◌≡◌, refl}
use mathlib.Core.Bool.{Bool, true, false, cond}
use mathlib.Core.List.{List}
use mir.Val.{bool_byte}
use Prim.Native.Nat.{ℕ, ◌+◌, ◌≤◌, ◌<◌}
use native.Mathlib.Numerals.{add-one}
use native.Mathlib.Omega.{arith}
use borrow.Author.Tests.{ne_eqb}
use lib.ListN.{length, get_or, drop, replicate}
use lib.Seq.{drop-cons}
use Rattle.lane.specs.declared.Lane.{Lane}
use Rattle.lane.specs.State.{World, world}
use Rattle.lane.specs.Pick.{step_for, pick_in, has_moved}
use Rattle.relief.specs.Relief.{relieve_of}
use Rattle.schedule.specs.Running.{Running, running, picks, relief_in, has_grown, relieves}
use Rattle.runs.specs.Run.{byte_run, bytes_run}

one_more : (bytes : List ℕ) (i : ℕ) (r : Running) → i < length bytes → bytes_run (drop i bytes) r ≡ bytes_run (drop (i + 1) bytes) (byte_run (get_or bytes i 0) r)
one_more bytes i r h = rw (drop-cons bytes i 0 h, add-one)

counted : (g : ℕ) (t : Bool) → cond t (g + 1) g ≡ g + bool_byte t
counted g true = refl
counted g false = omega arith

-- a relief
relief_is : (m g : ℕ) (w : World) (l : Lane) (b : Bool) → b ≡ has_grown (relief_in w) → l ≡ (relieve_of w.lane (replicate 16 0)).lane
    → byte_run 255 (running w m g) ≡ running (world l w.cells) m (g + bool_byte b)
unfolding byte_run relieves
relief_is m g w l b e f = rw (e, f, counted g (has_grown (relief_in w)))

pub relieved : (bytes : List ℕ) (i m g : ℕ) (w : World) (l : Lane) (b : Bool) → i < length bytes → get_or bytes i 0 ≡ 255 → b ≡ has_grown (relief_in w) → l ≡ (relieve_of w.lane (replicate 16 0)).lane
    → bytes_run (drop (i + 1) bytes) (running (world l w.cells) m (g + bool_byte b)) ≡ bytes_run (drop i bytes) (running w m g)
relieved bytes i m g w l b h s e f = rw (one_more bytes i (running w m g) h, s, relief_is m g w l b e f)

-- a pick
pick_is : (byte m g : ℕ) (w w' : World) (b : Bool) → (byte ≡ 255 → ⊥) → w' ≡ pick_in byte w → b ≡ has_moved (step_for byte w).outcome
    → byte_run byte (running w m g) ≡ running w' (m + bool_byte b) g
unfolding byte_run picks
pick_is byte m g w w' b n e f = rw (ne_eqb byte 255 n, e, f, counted m (has_moved (step_for byte w).outcome))

pub picked : (bytes : List ℕ) (i m g : ℕ) (w w' : World) (b : Bool) → i < length bytes → (get_or bytes i 0 ≡ 255 → ⊥) → w' ≡ pick_in (get_or bytes i 0) w
    → b ≡ has_moved (step_for (get_or bytes i 0) w).outcome
    → bytes_run (drop (i + 1) bytes) (running w' (m + bool_byte b) g) ≡ bytes_run (drop i bytes) (running w m g)
picked bytes i m g w w' b h n e f = rw (one_more bytes i (running w m g) h, pick_is (get_or bytes i 0) m g w w' b n e f)

pub one_at_most : (b : Bool) → bool_byte b ≤ 1
one_at_most true = omega arith
one_at_most false = omega arith
