-- A full channel's receiver has not ended, so a look at a process that stands at a send need not ask for it.
-- Assumes nothing.
use mathlib.Core.Path.{◌≡◌, refl}
use mathlib.Core.Bool.{Bool, true, false, not}
use Prim.Native.Nat.{ℕ, ◌<◌}
use native.Mathlib.Decide.{ℕ_discrete}
use native.Mathlib.Omega.{arith}
use borrow.Author.Tests.{ltb-true, ne_eqb}
use Rattle.base.proofs.Conjunction.{both_true, middle}
use Rattle.network.specs.declared.Instruction.{Instruction}
use Rattle.network.specs.Code.{register, unnamed, fields_right}
use Rattle.network.specs.Rules.{receiver_of, sends}
use Rattle.network.proofs.Passed.{passed}
use Rattle.lane.specs.declared.Lane.{Lane}
use Rattle.lane.specs.State.{ended_at, channel_of}
use Rattle.lane.specs.Pick.{channel_in, instruction_for}
use Rattle.lane.proofs.SoundLaws.{Sound}
use Rattle.lane.proofs.Instructions.{stands_right_lem}
use Rattle.waits.proofs.WaitLaws.{waiting_of, waiting_for}

module _ (l : Lane) (s : Sound l) (p : ℕ) (h : p < l.network.processes) where
  -- a send names a channel of the network
  send_there : (instruction_for p l).op ≡ 12 → channel_in (instruction_for p l) < l.network.channels
  unfolding fields_right
  send_there e =
      let i : Instruction = instruction_for p l in
      let b = (both_true _ _ (middle (register i.a) (sends l.network p i.b) (unnamed i.c) (rw e at (stands_right_lem l s p h).fields))).0 in
      omega (arith, ltb-true i.b l.network.channels b, (passed l.network s.passed).channels_high)

  -- one that has ended holds nothing, and a capacity is at least 1
  pub not_gone : waiting_of (instruction_for p l).op (not (ended_at l p)) (channel_of l (channel_in (instruction_for p l))) false (channel_in (instruction_for p l)) ≡ waiting_for l p
  not_gone = go (ended_at l (receiver_of l.network (channel_in (instruction_for p l)))) refl (ℕ_discrete (instruction_for p l).op 12)
    where
      go : (gone : Bool) → ended_at l (receiver_of l.network (channel_in (instruction_for p l))) ≡ gone → Dec ((instruction_for p l).op ≡ 12)
          → waiting_of (instruction_for p l).op (not (ended_at l p)) (channel_of l (channel_in (instruction_for p l))) false (channel_in (instruction_for p l))
          ≡ waiting_of (instruction_for p l).op (not (ended_at l p)) (channel_of l (channel_in (instruction_for p l))) gone (channel_in (instruction_for p l))
      go false e d = refl
      go true e (yes q) =
          let c = s.channels (channel_in (instruction_for p l)) (send_there q) in
          rw (ne_eqb (channel_of l (channel_in (instruction_for p l))).held (channel_of l (channel_in (instruction_for p l))).capacity (λ z. omega (arith, c.low, c.drained e, z)))
      go true e (no q) = rw (ne_eqb (instruction_for p l).op 12 q)
