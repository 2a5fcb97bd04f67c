-- Every row of the table of examples holds: the rules give its answer, by computation.
-- Assumes nothing.
use mathlib.Core.Path.{◌≡◌, refl, ◌∙◌}
use mathlib.Core.Bool.{Bool, true, ◌&&◌}
use mathlib.Core.List.{List, [], ◌∷◌}
use Prim.Native.Nat.{ℕ, zero, suc, ◌-◌, ◌*◌, ◌<◌}
use native.Mathlib.Omega.{arith}
use borrow.Author.Tests.{leb-true}
use lib.Dec.{leb}
use lib.IntN.{ℤ}
use lib.ListN.{length, get_or}
use Rattle.base.specs.Tests.{in_turn}
use Rattle.network.specs.declared.Network.{Network}
use Rattle.network.specs.Code.{fields_right, stands_right}
use Rattle.network.specs.Rules.{total, slots, ends_right, records, instruction_right, code_of, instructions, unused_slots, unused_records}
use Rattle.base.proofs.Conjunction.{both_true}
use Rattle.network.proofs.Unused.{passes_but, passes_by}
use Rattle.arithmetic.specs.Wrap.{residue, centred, wrap}
use Rattle.arithmetic.specs.Quotient.{floor_of, quotient_of, remainder_of}
use Rattle.process.specs.Want.{want_live, want}
use Rattle.process.specs.Execute.{execute, step_of}
use Rattle.process.specs.Window.{eight}
use Rattle.lane.specs.declared.Lane.{Lane}
use Rattle.lane.specs.State.{World, world, stands_at}
use Rattle.lane.specs.Sound.{channel_sound, positions, channels_sound, unused_standings, unused_registers, unused_channels, sound_of}
use Rattle.lane.specs.Pick.{put_back, step_at, pick_in}
use Rattle.lane.specs.Calls as lane
use Rattle.lane.specs.Calls.{refuse, no_process, pick_of}
use Rattle.waits.specs.Waits.{wait_of, pointing, full_wait, waits_at}
use Rattle.rings.specs.Rings.{iter, closes_from, chain, first_from, search}
use Rattle.relief.specs.Relief.{found_in, settled, relieve_of}
use Rattle.block_check.specs.Crc.{crc}
use Rattle.examples.specs.Written.{code_bytes, network_of, Board, lane_of, is_whole}
use Rattle.examples.specs.Table.{Question, step, pick, relieve, check, Answer, picked, relieved, gives, Row, question, answer, Holds, table}

-- ---- a lane of the table is sound (16). The test of some thousand unused code bytes is left to a law, and the rest of it is computed.
abbrev sound_but : Lane → Bool
sound_but l = positions l && channels_sound l && unused_standings l && unused_registers l && unused_channels l

abbrev is_fit : Board → Bool
is_fit b = leb (length (code_bytes b.plan.programs)) (4 * total (network_of b.plan)) && (passes_but (network_of b.plan) && sound_but (lane_of b))

fit_sound : (b : Board) → is_fit b ≡ true → sound_of (lane_of b) ≡ true
unfolding sound_of
fit_sound b e =
    let n : Network = network_of b.plan in
    let code : List ℕ = code_bytes b.plan.programs in
    let short = both_true (leb (length code) (4 * total n)) (passes_but n && sound_but (lane_of b)) e in
    let rest = both_true (passes_but n) (sound_but (lane_of b)) short.1 in
    rw (passes_by n code (4064 - length code) refl (leb-true _ _ short.0) rest.0) rest.1

-- a test of the lane of each row that has one
abbrev of_lane : (Board → Bool) → Question → Bool
of_lane test (step i registers) = true
of_lane test (pick p b) = test b
of_lane test (relieve buffer b) = test b
of_lane test (check bytes) = true

abbrev of_lanes : (Board → Bool) → List Row → Bool
of_lanes test [] = true
of_lanes test (r ∷ rs) = of_lane test (question r) && of_lanes test rs

module _ (cells : List ℤ) where
  abbrev world_of : Board → World
  world_of b = world (lane_of b) cells

  -- what the rules answer after the tests 15 and 16
  abbrev bare : Question → Answer
  bare (step i registers) = gives cells (step i registers)
  bare (pick p b) = picked (refuse (no_process p (world_of b)) 8 (world_of b) (lane.picked p (world_of b)))
  bare (relieve buffer b) = relieved (settled (found_in (lane_of b)) (lane_of b) buffer)
  bare (check bytes) = gives cells (check bytes)

  bare_is : length cells ≡ 8192 → (q : Question) → of_lane is_fit q ≡ true → gives cells q ≡ bare q
  unfolding pick_of relieve_of
  bare_is many (step i registers) e = refl
  bare_is many (pick p b) e = rw (many, fit_sound b e)
  bare_is many (relieve buffer b) e = rw (fit_sound b e)
  bare_is many (check bytes) e = refl

  -- each row's answer is what is computed
  data Computed : List Row → Type 0 where
    none : Computed []
    ◌&◌ : {r : Row} {rs : List Row} → bare (question r) ≡ answer r → Computed rs → Computed (r ∷ rs)

  infixr 40 ◌&◌
  hold : length cells ≡ 8192 → (rs : List Row) → of_lanes is_fit rs ≡ true → Computed rs → (k : ℕ) → k < length rs → (d : Row) → Holds cells (get_or rs k d)
  hold many [] e c k l d = absurd (omega arith)
  hold many (r ∷ rs) e (c & cs) zero l d = bare_is many (question r) (both_true (of_lane is_fit (question r)) (of_lanes is_fit rs) e).0 ∙ c
  hold many (r ∷ rs) e (c & cs) (suc k) l d = hold many rs (both_true (of_lane is_fit (question r)) (of_lanes is_fit rs) e).1 cs k (omega arith) d

  -- ---- the table
  all_fit : of_lanes is_fit (table cells) ≡ true
  unfolding slots records ends_right unused_slots unused_records instructions code_of instruction_right stands_right fields_right in_turn channel_sound
  all_fit = refl

  computed : Computed (table cells)
  unfolding step_of execute want want_live wrap centred residue floor_of quotient_of remainder_of stands_at step_at put_back pick_in eight wait_of pointing full_wait waits_at iter closes_from chain first_from search crc
  computed =
      -- a, b, c
      refl
      & refl
      & refl
      -- d
      & refl
      & refl
      -- e
      & refl
      & refl
      -- f, g
      & refl
      & refl
      -- h
      & refl
      & refl
      -- i, j, k, l
      & refl
      & refl
      & refl
      & refl
      -- m
      & refl
      -- the limits
      & refl
      & refl
      & refl
      & refl
      & refl
      & refl
      & refl
      & refl
      & refl
      & refl
      & none

  -- the lanes are values of the code's record
  pub all_whole : of_lanes (λ b. is_whole (lane_of b)) (table cells) ≡ true
  all_whole = refl

  -- every row of the table holds, whatever the 8,192 cells hold
  pub all_hold : length cells ≡ 8192 → (k : ℕ) → k < length (table cells) → (d : Row) → Holds cells (get_or (table cells) k d)
  all_hold many = hold many (table cells) all_fit computed
