-- `lent_picks::pick_one` meets its contract: a process that has ended stays; what is left to do after an instruction makes it the pick.
-- Assumes nothing.
use native.Mathlib.Omega.{arith}
use Rattle.lane.proofs.Shape.{Shaped}
use Rattle.lent_picks.proofs.One.{ended_stays, at_is, ready_is, low_of, position_after, sound_after}
use Rattle.lent_steps.proofs.Cases.{turned_here}
use Rattle.lent_picks.proofs.pick_one.Goals as goal

pub returns-in_default : goal.returns-in_default
returns-in_default c =
    let shaped : Shaped c.args.sound.now.lane = record { registers = omega arith; processes = omega arith; channels = omega arith } in
    ended_stays c.args.sound.now.lane c.args.p c.args.cells.now shaped (low_of _ c.args.sound.now.sound c.args.p c.requires) c.in_default.not-Live

pub step-did-requires : goal.step-did-requires
step-did-requires c =
    let shaped : Shaped c.args.sound.now.lane = record { registers = omega arith; processes = omega arith; channels = omega arith } in (
      low_of _ c.args.sound.now.sound c.args.p c.requires,
      ready_is _ c.args.sound.now.sound c.args.p c.requires shaped c.instruction_of-i.ensures,
    )

pub finish-requires : goal.finish-requires
finish-requires c =
    let shaped : Shaped c.args.sound.now.lane = record { registers = omega arith; processes = omega arith; channels = omega arith } in (
      low_of _ c.args.sound.now.sound c.args.p c.requires,
      rw c.step-did.ensures.network c.args.sound.now.few_channels,
      position_after _ c.args.sound.now.sound c.args.p c.requires shaped c.step-did.new.lane c.step-did.ensures.stays,
    )

pub invariant_of-sound : goal.invariant_of-sound
invariant_of-sound c =
    let shaped : Shaped c.args.sound.now.lane = record { registers = omega arith; processes = omega arith; channels = omega arith } in
    let turned = turned_here c.step-did.ensures (at_is _ c.args.sound.now.sound c.args.p c.requires shaped c.in-Live.is c.instruction_of-i.ensures) in
    let after = sound_after _ c.args.sound.now.sound c.args.p c.requires shaped c.args.cells.now turned (c.finish.ensures.0 c.step-did.new.cells) in
    record { sound = after.0; few_processes = rw after.1 c.args.sound.now.few_processes; few_channels = rw after.1 c.args.sound.now.few_channels }
