-- `lent_steps::receive` meets its contract: the end, a wait, a message.
-- Assumes nothing.
use native.Mathlib.Omega.{arith}
use lib.IntN.{pos}
use lib.ListN.{get_or}
use mir.Facts.{to_z-of_z}
use mir.Syntax.{w32}
use mir.Val.{SFits}
use mathlib.Core.Path.{refl}
use Rattle.lent_steps.proofs.Cases.{receive_end, receive_empty, receive_got, on_registers, on_channel}
use Rattle.lent_steps.proofs.receive.Goals as goal

pub returns-then-from : goal.returns-then-from
returns-then-from c = on_registers (λ l k at. receive_end at _ c.channel_of-c.ensures.0 refl c.requires.1 c.if-from-eq0.true c.if-from.true)

pub returns-then-from-eq0 : goal.returns-then-from-eq0
returns-then-from-eq0 c = on_registers (λ l k at. receive_empty at _ c.channel_of-c.ensures.0 refl c.requires.1 c.if-from-eq0.true c.if-from.false)

pub returns : goal.returns
returns c =
    let f : SFits w32 (get_or c.args.cells.now c.slot.result (pos 0)) = record { sfits = omega arith } in
    on_channel c.channel_of-c.result _ (omega arith) refl (rw c.get.ensures)
    (λ l k at. receive_got at _ c.channel_of-c.ensures.0 refl c.requires.1 c.if-from-eq0.false c.requires.2 (rw (← c.slot.ensures.0, ← to_z-of_z f) c.assign.ensures) c.get.ensures refl)
