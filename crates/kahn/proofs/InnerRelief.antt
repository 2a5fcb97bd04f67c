-- A relief that nobody called, by cases, and what it keeps. What it counts is looked at in `count_kept` and `count_board` alone.
-- Assumes nothing.
use mathlib.Core.Path.{◌≡◌, refl}
use mathlib.Core.Bool.{Bool, true, false, cond}
use mathlib.Core.List.{List}
use Prim.Native.Nat.{ℕ}
use lib.IntN.{ℤ}
use Rattle.lane.specs.declared.Lane.{Lane}
use Rattle.lane.specs.State.{World, world}
use Rattle.lane.specs.Sound.{sound_of}
use Rattle.lane.proofs.CallLaws.{Preserves}
use Rattle.rings.specs.Rings.{Found, no_ring, ceiling, found}
use Rattle.relief.specs.Relief.{found_in, larger}
use Rattle.relief.proofs.Enlarged as enlarged
use Rattle.relief.proofs.Enlarged.{Enlargeable, found_enlargeable, larger_kept, kept_both}
use Rattle.kahn.specs.Steps.{count_uncalled, enlarged_by, relieved_lane}
use Rattle.kahn.proofs.View.{board_of}

-- ---- by cases: the lane as it was, or a channel that can be enlarged
module _ (P : Lane → Type 0) (l : Lane) where
  pub inner_cases : P l → ((c : ℕ) → sound_of l ≡ true → Enlargeable l c → P (count_uncalled (larger c l))) → P (relieved_lane l)
  unfolding relieved_lane
  inner_cases stays done = at (sound_of l) refl
    where
      by : (o : Found) → sound_of l ≡ true → found_in l ≡ o → P (enlarged_by o l)
      by no_ring s e = stays
      by ceiling s e = stays
      by (found ring c) s e = done c s (found_enlargeable l s ring c e)

      at : (t : Bool) → sound_of l ≡ t → P (cond t (enlarged_by (found_in l) l) l)
      at true s = by (found_in l) s refl
      at false s = stays

-- ---- the count: it is none of the network, the processes, the channels and the cells
pub count_kept : (l : Lane) (cells : List ℤ) → Preserves (world l cells) (world (count_uncalled l) cells)
count_kept l cells = enlarged.count_kept l cells

pub count_board : (l : Lane) (cells : List ℤ) → board_of (world (count_uncalled l) cells) ≡ board_of (world l cells)
count_board l cells = refl

-- ---- what it keeps
pub inner_kept : (w : World) → Preserves w (world (relieved_lane w.lane) w.cells)
inner_kept w =
    inner_cases (λ (l : Lane). Preserves w (world l w.cells)) w.lane
    (record { network = refl; cells = refl; shaped = λ s. s; sound = λ s. s })
    (λ c s e. kept_both (larger_kept w.lane w.cells c s e) (count_kept (larger c w.lane) w.cells))
