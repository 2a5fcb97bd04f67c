-- One step, and each channel: where it had held no more than its record says, the record now says the more of that and what it holds.
-- Assumes nothing.
use mathlib.Core.Path.{◌≡◌, refl, ap}
use mathlib.Core.Bool.{Bool, true, false, cond}
use mathlib.Core.List.{List, [], ◌∷◌}
use Prim.Native.Nat.{ℕ, zero, suc, ◌≤◌, max}
use native.Mathlib.Omega.{arith}
use lib.IntN.{ℤ}
use lib.ListN.{get_or}
use lib.Seq.{set-get_or}
use Rattle.network.specs.declared.Network.{Network}
use Rattle.network.specs.Rules.{receives, sends}
use Rattle.process.specs.declared.Channel.{Channel}
use Rattle.process.specs.declared.Outcome.TheVariants.{Halted}
use Rattle.process.specs.Channels.{no_channel, put_one, get_one, close_one, enlarge_one, drop_one}
use Rattle.process.proofs.StepLaws.{is_halted, step_channel, step_halted}
use Rattle.lane.specs.declared.Lane.{Lane}
use Rattle.lane.specs.State.{World, world, process_of, channel_of, put_channel}
use Rattle.lane.specs.Pick.{drop_from, instruction_for, step_at, step_for, pick_in}
use Rattle.lane.specs.Calls.{Called, receiver_ended}
use Rattle.lane.proofs.Keeps.{after_set}
use Rattle.lane.proofs.PickLaws.{channel_at, stepped_lane, pick_by}
use Rattle.lane.proofs.CallCases.{pick_cases, feed_cases, close_cases, take_cases}
use Rattle.relief.specs.Relief.{Relief}
use Rattle.relief.proofs.Enlarged.{relief_cases}
use Rattle.kahn.specs.Calls.{Call, pick, feed, close, take, relieve, apply}
use Rattle.kahn.specs.Steps.{Step, call, inner_relief, after_step}
use Rattle.kahn.proofs.InnerRelief.{inner_cases}

-- ---- a channel
abbrev Raised : Channel → Channel → Type 0
Raised h g = h.held ≤ h.peak → g.peak ≡ max h.peak g.held

same : (h : Channel) → Raised h h
same h l = omega arith

dropped : (s r : Bool) (h : Channel) → Raised h (drop_one s r h)
dropped s true h l = omega arith
dropped s false h l = omega arith

-- ---- all channels of a lane
abbrev pub Rises : Lane → Lane → Type 0
Rises l l' = (c : ℕ) → Raised (channel_of l c) (channel_of l' c)

-- a record put back
put_back : (l : Lane) (c : ℕ) (h : Channel) → Raised (channel_of l c) h → Rises l (put_channel c h l)
put_back l c h r k = after_set (Raised (channel_of l k)) l.channels c k h no_channel (λ e. rw e r) (same (channel_of l k))

-- the channels of a process that ended
all_dropped : (n : Network) (p c : ℕ) (hs : List Channel) (k : ℕ) → Raised (get_or hs k no_channel) (get_or (drop_from n p c hs) k no_channel)
all_dropped n p c [] k = same no_channel
all_dropped n p c (h ∷ hs) zero = dropped (sends n p c) (receives n p c) h
all_dropped n p c (h ∷ hs) (suc k) = all_dropped n p (suc c) hs k

-- ---- a pick
pick_rises : (p : ℕ) (w : World) → Rises w.lane (pick_in p w).lane
unfolding step_at
pick_rises p w = pick_by (λ (x : World). Rises w.lane x.lane) p w (λ e. moves) (λ v e. moves) ends
  where
    l : Lane
    l = w.lane

    moves : Rises l (stepped_lane p w)
    moves = put_back l (channel_at p l) (step_for p w).channel (step_channel (instruction_for p l) (process_of l p) _ _ _).peak

    ends : (step_for p w).outcome ≡ Halted → (k : ℕ) → Raised (channel_of l k) (get_or (drop_from l.network p 0 (stepped_lane p w).channels) k no_channel)
    ends e k =
        let f : (step_for p w).channel ≡ channel_of l (channel_at p l) = step_halted (instruction_for p l) (process_of l p) _ _ _ (ap is_halted e) in
        rw (f, set-get_or l.channels (channel_at p l) no_channel) (all_dropped l.network p 0 l.channels k)

-- ---- a call
module _ (w : World) where
  abbrev Does : Called → Type 0
  Does r = Rises w.lane r.world.lane

  -- a message that is stored, or not
  stores : (c : ℕ) (cells : List ℤ) (gone : Bool) → Rises w.lane (cond gone w (world (put_channel c (put_one (channel_of w.lane c)) w.lane) cells)).lane
  stores c cells true k = same (channel_of w.lane k)
  stores c cells false k = put_back w.lane c (put_one (channel_of w.lane c)) (λ l. refl) k

  call_rises : (k : Call) → Rises w.lane (apply k w).world.lane
  unfolding apply
  call_rises (pick p) = pick_cases Does w (λ j k. same (channel_of w.lane k)) p (λ t. pick_rises p w)
  call_rises (feed c v) = feed_cases Does w (λ j k. same (channel_of w.lane k)) c v (λ t. stores c _ (receiver_ended c w))
  call_rises (close c) = close_cases Does w (λ j k. same (channel_of w.lane k)) c (λ t. put_back w.lane c (close_one (channel_of w.lane c)) (λ l. omega arith))
  call_rises (take c) =
      take_cases Does w (λ j k. same (channel_of w.lane k)) c (λ t none shut k. same (channel_of w.lane k)) (λ t some. put_back w.lane c (get_one (channel_of w.lane c)) (λ l. omega arith))
  call_rises (relieve buffer) =
      relief_cases (λ (r : Relief). Rises w.lane r.lane) w.lane buffer (λ j k. same (channel_of w.lane k))
      (λ ring c b s e. put_back w.lane c (enlarge_one (channel_of w.lane c)) (λ l. omega arith))

-- ---- a step
pub step_rises : (s : Step) (w : World) → Rises w.lane (after_step s w).lane
step_rises (call k) w = call_rises w k
step_rises inner_relief w =
    inner_cases (Rises w.lane) w.lane (λ k. same (channel_of w.lane k))
    (λ c s e. put_back w.lane c (enlarge_one (channel_of w.lane c)) (λ l. omega arith))
