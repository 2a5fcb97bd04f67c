-- The highest filling is the most that a channel held on the way: by lists of steps, from the start, where nothing was held.
-- Assumes nothing.
use mathlib.Core.Path.{◌≡◌, refl, sym, ap, ◌∙◌, subst}
use mathlib.Core.Logic.{◌⊎◌, inl, inr}
use mathlib.Core.List.{List, [], ◌∷◌}
use Prim.Native.Nat.{ℕ, zero, suc, ◌≤◌, ◌<◌}
use native.Mathlib.Decide.{dec_le, dec_lt}
use native.Mathlib.Omega.{arith}
use lib.ListN.{take, get_or-eq_default}
use Rattle.base.proofs.Lists.{table_at, length_values}
use Rattle.network.specs.declared.Network.{Network}
use Rattle.process.specs.declared.Channel.{Channel}
use Rattle.process.specs.Channels.{no_channel}
use Rattle.lane.specs.State.{World, channel_of, fresh_channel, fresh_of}
use Rattle.kahn.specs.Steps.{Step, after_step, after}
use Rattle.kahn.specs.Boards.{board}
use Rattle.with_bursts.specs.Acts.{written_out}
use Rattle.with_bursts.proofs.Whole.{bursts_are_steps}
use Rattle.fillings.specs.Highest.{held_on, peak_of, Most, HighestFilling, HighestFillingWithBursts}
use Rattle.fillings.proofs.Rises.{step_rises}

-- ---- from where the channel holds no more than its record says
module _ (c : ℕ) where
  abbrev Within : World → Type 0
  Within w = held_on c w ≤ peak_of c w

  within_next : (s : Step) (w : World) → Within w → Within (after_step s w)
  within_next s w l = omega (arith, step_rises s w c l)

  -- the record never falls
  no_less : (ss : List Step) (w : World) → Within w → peak_of c w ≤ peak_of c (after ss w)
  no_less [] w l = omega arith
  no_less (s ∷ ss) w l = omega (arith, step_rises s w c l, no_less ss (after_step s w) (within_next s w l))

  never_above : (ss : List Step) (w : World) → Within w → (k : ℕ) → held_on c (after (take k ss) w) ≤ peak_of c (after ss w)
  never_above [] w l zero = l
  never_above [] w l (suc k) = l
  never_above (s ∷ ss) w l zero = omega (arith, no_less (s ∷ ss) w l)
  never_above (s ∷ ss) w l (suc k) = never_above ss (after_step s w) (within_next s w l) k

  -- it is what it was, or some state on the way held just that
  abbrev Met : List Step → World → Type 0
  Met ss w = (k : ℕ) × (held_on c (after (take k ss) w) ≡ peak_of c (after ss w))

  met : (ss : List Step) (w : World) → Within w → (peak_of c (after ss w) ≡ peak_of c w) ⊎ Met ss w
  met [] w l = inl refl
  met (s ∷ ss) w l = by (met ss w' (within_next s w l)) (dec_le (held_on c w') (peak_of c w))
    where
      w' : World
      w' = after_step s w

      by : (peak_of c (after ss w') ≡ peak_of c w') ⊎ Met ss w' → Dec (held_on c w' ≤ peak_of c w) → (peak_of c (after ss w') ≡ peak_of c w) ⊎ Met (s ∷ ss) w
      by (inl e) (yes m) = inl (omega (arith, step_rises s w c l))
      by (inl e) (no m) = inr (1, omega (arith, step_rises s w c l))
      by (inr (k, e)) d = inr (suc k, e)

-- ---- the start: nothing was held
fresh_none : (n : Network) (c : ℕ) → ((channel_of (fresh_of n) c).held ≡ 0) × ((channel_of (fresh_of n) c).peak ≡ 0)
unfolding fresh_of
fresh_none n c = at (dec_lt c 32)
  where
    at : Dec (c < 32) → ((channel_of (fresh_of n) c).held ≡ 0) × ((channel_of (fresh_of n) c).peak ≡ 0)
    at (yes l) = let e = table_at (fresh_channel n) 32 c no_channel l in (ap (λ (h : Channel). h.held) e, ap (λ (h : Channel). h.peak) e)
    at (no l) =
        let e = get_or-eq_default (fresh_of n).channels no_channel {n = c} (omega (arith, length_values (fresh_channel n) 32 0)) in
        (ap (λ (h : Channel). h.held) e, ap (λ (h : Channel). h.peak) e)

pub highest_filling : HighestFilling
highest_filling n cells steps c =
    let w : World = board n cells in
    let z = fresh_none n c in
    let l : held_on c w ≤ peak_of c w = omega (arith, z.0, z.1) in
    record { never_more = never_above c steps w l; once = at (met c steps w l) }
  where
    at : (peak_of c (after steps (board n cells)) ≡ peak_of c (board n cells)) ⊎ Met c steps (board n cells) → Met c steps (board n cells)
    at (inl e) = (0, (fresh_none n c).0 ∙ sym (fresh_none n c).1 ∙ sym e)
    at (inr m) = m

pub highest_filling_with_bursts : HighestFillingWithBursts
highest_filling_with_bursts n cells acts c =
    subst (λ (w : World). Most c (written_out acts) (board n cells) (peak_of c w)) (bursts_are_steps acts (board n cells)).left
    (highest_filling n cells (written_out acts) c)
