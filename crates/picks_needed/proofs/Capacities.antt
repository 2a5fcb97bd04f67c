-- No call but a relief changes a capacity; a relief that enlarges changes one, by one.
-- Assumes nothing.
use mathlib.Core.Path.{◌≡◌, refl, ap, ◌∙◌}
use mathlib.Core.Logic.{◌≢◌}
use mathlib.Core.Bool.{Bool, true, false, cond, true≢false}
use mathlib.Core.List.{List, [], ◌∷◌}
use Prim.Native.Nat.{ℕ, zero, suc, ◌+◌, ◌<◌}
use lib.IntN.{ℤ}
use lib.ListN.{length, get_or, set}
use lib.Seq.{get_or-set_same, get_or-set_other}
use Rattle.network.specs.declared.Network.{Network}
use Rattle.network.specs.Rules.{capacity_of, passes}
use Rattle.process.specs.declared.Channel.{Channel}
use Rattle.process.specs.Channels.{no_channel, put_one, get_one, close_one, enlarge_one}
use Rattle.process.proofs.StepLaws.{step_channel}
use Rattle.lane.specs.declared.Lane.{Lane}
use Rattle.lane.specs.State.{World, world, process_of, channel_of, put_channel, fresh_of}
use Rattle.lane.specs.Pick.{drop_from, step_at, instruction_for, step_for, pick_in}
use Rattle.lane.specs.Calls.{Called, counting, receiver_ended}
use Rattle.lane.proofs.CallCases.{pick_cases, feed_cases, close_cases, take_cases}
use Rattle.lane.proofs.PickLaws.{pick_by, channel_at, stepped_lane}
use Rattle.relief.specs.Relief.{larger}
use Rattle.kahn.specs.Calls.{Call, pick, feed, close, take, relieve, apply}
use Rattle.kahn.proofs.Theorem.{fresh_channel_lem}

-- ---- a pick
drop_capacity : (n : Network) (p k : ℕ) (hs : List Channel) (c : ℕ) → (get_or (drop_from n p k hs) c no_channel).capacity ≡ (get_or hs c no_channel).capacity
drop_capacity n p k [] c = refl
drop_capacity n p k (h ∷ hs) zero = refl
drop_capacity n p k (h ∷ hs) (suc c) = drop_capacity n p (suc k) hs c

set_capacity : (hs : List Channel) (k : ℕ) (h : Channel) (c : ℕ) → h.capacity ≡ (get_or hs k no_channel).capacity → (get_or (set hs k h) c no_channel).capacity ≡ (get_or hs c no_channel).capacity
set_capacity [] k h c e = refl
set_capacity (x ∷ hs) zero h zero e = e
set_capacity (x ∷ hs) zero h (suc c) e = refl
set_capacity (x ∷ hs) (suc k) h zero e = refl
set_capacity (x ∷ hs) (suc k) h (suc c) e = set_capacity hs k h c e

pick_capacity : (p : ℕ) (w : World) (c : ℕ) → (channel_of (pick_in p w).lane c).capacity ≡ (channel_of w.lane c).capacity
unfolding step_at
pick_capacity p w c =
    pick_by (λ (x : World). (channel_of x.lane c).capacity ≡ (channel_of w.lane c).capacity) p w (λ e. put) (λ v e. put)
    (λ e. drop_capacity w.lane.network p 0 (stepped_lane p w).channels c ∙ put)
  where
    put : (channel_of (stepped_lane p w) c).capacity ≡ (channel_of w.lane c).capacity
    put =
        set_capacity w.lane.channels (channel_at p w.lane) (step_for p w).channel c
        (step_channel (instruction_for p w.lane) (process_of w.lane p) _ _ _).capacity

-- ---- a call
abbrev pub is_relief : Call → Bool
is_relief (pick p) = false
is_relief (feed c v) = false
is_relief (close c) = false
is_relief (take c) = false
is_relief (relieve buffer) = true

pub call_capacity : (k : Call) → is_relief k ≡ false → (w : World) (c : ℕ) → (channel_of (apply k w).world.lane c).capacity ≡ (channel_of w.lane c).capacity
unfolding apply
call_capacity (pick p) o w c =
    pick_cases (λ (r : Called). (channel_of r.world.lane c).capacity ≡ (channel_of w.lane c).capacity) w (λ k. refl) p (λ t. pick_capacity p w c)
call_capacity (feed d v) o w c =
    feed_cases (λ (r : Called). (channel_of r.world.lane c).capacity ≡ (channel_of w.lane c).capacity) w (λ k. refl) d v (λ t. at (receiver_ended d w) _)
  where
    at : (b : Bool) (cells : List ℤ) → (channel_of (counting (cond b w (world (put_channel d (put_one (channel_of w.lane d)) w.lane) cells))).lane c).capacity ≡ (channel_of w.lane c).capacity
    at true cells = refl
    at false cells = set_capacity w.lane.channels d (put_one (channel_of w.lane d)) c refl
call_capacity (close d) o w c =
    close_cases (λ (r : Called). (channel_of r.world.lane c).capacity ≡ (channel_of w.lane c).capacity) w (λ k. refl) d
    (λ t. set_capacity w.lane.channels d (close_one (channel_of w.lane d)) c refl)
call_capacity (take d) o w c =
    take_cases (λ (r : Called). (channel_of r.world.lane c).capacity ≡ (channel_of w.lane c).capacity) w (λ k. refl) d (λ t e f. refl)
    (λ t z. set_capacity w.lane.channels d (get_one (channel_of w.lane d)) c refl)
call_capacity (relieve buffer) o w c = absurd (true≢false o)

-- ---- a channel that grows
pub larger_same : (b : ℕ) (l : Lane) → b < length l.channels → (channel_of (larger b l) b).capacity ≡ (channel_of l b).capacity + 1
larger_same b l h = ap (λ (x : Channel). x.capacity) (get_or-set_same l.channels b (enlarge_one (channel_of l b)) no_channel h)

pub larger_other : (b : ℕ) (l : Lane) (c : ℕ) → c ≢ b → (channel_of (larger b l) c).capacity ≡ (channel_of l c).capacity
larger_other b l c n = ap (λ (x : Channel). x.capacity) (get_or-set_other l.channels b c (enlarge_one (channel_of l b)) no_channel n)

-- ---- a fresh lane
pub fresh_capacity : (n : Network) (pass : passes n ≡ true) (c : ℕ) → c < 32 → (channel_of (fresh_of n) c).capacity ≡ capacity_of n c
fresh_capacity n pass c l = ap (λ (h : Channel). h.capacity) (fresh_channel_lem n pass c l)
