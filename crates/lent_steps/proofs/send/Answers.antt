-- `lent_steps::send` meets its contract: a fault, a message that is not stored, a wait, a message that is.
-- Assumes nothing.
use mathlib.Core.Path.{refl, sym, ◌∙◌}
use native.Mathlib.Omega.{arith}
use mir.Facts.{to_z-of_z}
use mir.Syntax.{w32}
use mir.Val.{SFits}
use Rattle.lent_steps.proofs.Cases.{send_closed, send_gone, send_full, send_put, on_registers, on_channel, same_receiver}
use Rattle.lent_steps.proofs.send.Goals as goal

pub returns-then-to : goal.returns-then-to
returns-then-to c = on_registers (λ l k at. send_closed at _ c.channel_of-c.ensures.0 refl c.requires.1 c.if-to.true)

pub returns-then-ended_at : goal.returns-then-ended_at
returns-then-ended_at c = on_registers (λ l k at. send_gone at _ c.channel_of-c.ensures.0 refl c.requires.1 c.if-to.false (same_receiver k _ (rw (← c.channel_of-c.ensures.0) (sym c.if-ended_at.true ∙ c.ended_at.ensures))))

pub returns-then-to-2 : goal.returns-then-to-2
returns-then-to-2 c = on_registers (λ l k at. send_full at _ c.channel_of-c.ensures.0 refl c.requires.1 c.if-to.false (same_receiver k _ (rw (← c.channel_of-c.ensures.0) (sym c.if-ended_at.false ∙ c.ended_at.ensures))) c.if-to-2.true)

pub returns : goal.returns
returns c =
    let f : SFits w32 c.register.result = record { sfits = c.register.type_inv } in
    on_channel c.channel_of-c.result _ (omega arith) refl (rw c.put.ensures)
    (λ l k at. send_put at _ c.channel_of-c.ensures.0 refl c.requires.1 c.if-to.false (same_receiver k _ (rw (← c.channel_of-c.ensures.0) (sym c.if-ended_at.false ∙ c.ended_at.ensures))) c.if-to-2.false c.requires.2 c.put.ensures refl (rw (to_z-of_z f, c.register.ensures, c.slot.ensures.0)))
