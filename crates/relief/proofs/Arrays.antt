-- The search on the waits of a lane's processes is the lane's.
-- Assumes nothing.
use mathlib.Core.Path.{◌≡◌, sym, ap, ◌∙◌, fun_ext}
use mathlib.Core.List.{List}
use Prim.Native.Nat.{ℕ, ◌<◌}
use native.Mathlib.Decide.{dec_lt}
use native.Mathlib.Omega.{arith}
use borrow.Author.Tests.{le-ltb}
use Rattle.lane.specs.declared.Lane.{Lane}
use Rattle.lane.proofs.SoundLaws.{Sound}
use Rattle.rings.specs.Rings.{Found, search}
use Rattle.rings.specs.Arrays.{points_in, number_in}
use Rattle.rings.proofs.Pointings.{points_at, points_off}
use Rattle.rings.proofs.Inside.{search_same}
use Rattle.waits.specs.Waits.{pointing, full_wait, waits_at}
use Rattle.waits.specs.Parts.{AreWaits}
use Rattle.relief.specs.Relief.{found_in}
use Rattle.relief.proofs.Relieving.{pointing_stays}

-- ---- the search
module _ (l : Lane) (s : Sound l) {points full channel : List ℕ} where
  -- where the pointings of the array lead is where the rule's do
  same_points : AreWaits l points full channel → (p : ℕ) → Dec (p < l.network.processes) → points_in points l.network.processes p ≡ pointing l p
  unfolding pointing
  same_points t p (yes h) = points_at points l.network.processes p h ∙ t.pointings p h
  same_points t p (no h) = points_off points l.network.processes p (omega arith) ∙ rw (le-ltb p l.network.processes (omega arith))

  -- so the search on the arrays is the lane's
  found_same : AreWaits l points full channel → search (points_in points l.network.processes) (number_in full) (number_in channel) l.network.processes ≡ found_in l
  found_same t =
      let P : ℕ = l.network.processes in
      let e : points_in points P ≡ pointing l = fun_ext (λ q. same_points t q (dec_lt q P)) in
      ap (λ (f : ℕ → ℕ). search f (number_in full) (number_in channel) P) e
      ∙ search_same (pointing l) P (pointing_stays l s) (number_in full) (full_wait l) (number_in channel) (waits_at l) t.fulls t.channels

  pub found_at : {used : ℕ} {o : Found} → used ≡ l.network.processes → AreWaits l points full channel → o ≡ search (points_in points used) (number_in full) (number_in channel) used → found_in l ≡ o
  found_at e t r = sym (found_same t) ∙ ap (λ (P : ℕ). search (points_in points P) (number_in full) (number_in channel) P) (sym e) ∙ sym r
