-- `lent_steps::step` meets its contract: what each arm requires follows from the rule of its opcode, and what it did is the pick.
-- Assumes nothing.
use Rattle.std.proofs.Common.{rules}
use mathlib.Core.Path.{◌≡◌}
use Prim.Native.Nat.{◌+◌, ◌*◌, ◌≤◌}
use native.Mathlib.Omega.{arith}
use lib.IntN.{pos}
use lib.ListN.{get_or}
use Rattle.network.specs.Code.{fields_right}
use Rattle.arithmetic.specs.Wrap.{sum_of, difference_of, product_of}
use Rattle.arithmetic.specs.Quotient.{value, told}
use Rattle.lent_steps.proofs.Cases.{on_registers, a_low, two, three, stops, beyond_faults, jumps, sets, copies, adds, subtracts, multiplies, divides, remains, jumps_zero, jumps_negative}
use Rattle.lent_steps.proofs.step.Goals as goal

pub load-requires : goal.load-requires
load-requires c = (omega (arith, c.requires.0), a_low c.requires.1)

pub register-requires : goal.register-requires
unfolding fields_right
register-requires c = let n = two c.requires.1 _ (rw c.in-2.is at c.requires.1.right) in (omega (arith, c.requires.0), n.1)

pub load-requires-in-2 : goal.load-requires-in-2
load-requires-in-2 c = (omega (arith, c.requires.0), a_low c.requires.1)

pub operate-requires-clause-in_file : goal.operate-requires-clause-in_file
unfolding fields_right
operate-requires-clause-in_file c = let n = three c.requires.1 (rw c.in-3.is at c.requires.1.right) in (omega (arith, c.requires.0), n.0, n.1, n.2)

pub operate-requires-in-4-clause-in_file : goal.operate-requires-in-4-clause-in_file
unfolding fields_right
operate-requires-in-4-clause-in_file c = let n = three c.requires.1 (rw c.in-4.is at c.requires.1.right) in (omega (arith, c.requires.0), n.0, n.1, n.2)

pub operate-requires-in-5-clause-in_file : goal.operate-requires-in-5-clause-in_file
unfolding fields_right
operate-requires-in-5-clause-in_file c = let n = three c.requires.1 (rw c.in-5.is at c.requires.1.right) in (omega (arith, c.requires.0), n.0, n.1, n.2)

pub operate-requires-in-6-clause-in_file : goal.operate-requires-in-6-clause-in_file
unfolding fields_right
operate-requires-in-6-clause-in_file c = let n = three c.requires.1 (rw c.in-6.is at c.requires.1.right) in (omega (arith, c.requires.0), n.0, n.1, n.2)

pub operate-requires-in-7-clause-in_file : goal.operate-requires-in-7-clause-in_file
unfolding fields_right
operate-requires-in-7-clause-in_file c = let n = three c.requires.1 (rw c.in-7.is at c.requires.1.right) in (omega (arith, c.requires.0), n.0, n.1, n.2)

pub register-requires-in-9 : goal.register-requires-in-9
register-requires-in-9 c = (omega (arith, c.requires.0), a_low c.requires.1)

pub register-requires-in-10 : goal.register-requires-in-10
register-requires-in-10 c = (omega (arith, c.requires.0), a_low c.requires.1)

pub receive-requires : goal.receive-requires
receive-requires c = (c.requires.0, c.in-11.is, a_low c.requires.1, c.requires.1.place)

pub send-requires : goal.send-requires
send-requires c = (c.requires.0, c.in-12.is, a_low c.requires.1, c.requires.1.within)

-- ---- what an arm did is the pick
-- in every lane in which the process stands at the instruction: each law is taken of such a lane,
-- and of the lent one it asks for what the code read there, registers and channels, which are that lane's too
pub returns-in-0 : goal.returns-in-0
returns-in-0 c = on_registers (λ l k at. stops at _ c.in-0.is)

pub returns-in-1 : goal.returns-in-1
returns-in-1 c = on_registers (λ l k at. sets at _ c.in-1.is (a_low c.requires.1) c.load.ensures.0 (rw (← c.signed16.ensures) (search rules)))

pub returns-in-2 : goal.returns-in-2
unfolding fields_right
returns-in-2 c = let n = two c.requires.1 _ (rw c.in-2.is at c.requires.1.right) in on_registers (λ l k at. copies at _ c.in-2.is n.0 n.1 c.load-in-2.ensures.0 (rw (← c.register.ensures) (search rules)))

pub returns-in-3 : goal.returns-in-3
unfolding fields_right
returns-in-3 c =
    let n = three c.requires.1 (rw c.in-3.is at c.requires.1.right) in
    let e = c.operate.ensures in
    let q : told e.0 ≡ value (sum_of (get_or c.args.lane.now.registers (8 * c.args.p + c.args.i.b) (pos 0)) (get_or c.args.lane.now.registers (8 * c.args.p + c.args.i.c) (pos 0))) = search rules in
    on_registers (λ l k at. adds at _ c.in-3.is n.0 n.1 n.2 (rw q at e.2) (rw q at e.3))

pub returns-in-4 : goal.returns-in-4
unfolding fields_right
returns-in-4 c =
    let n = three c.requires.1 (rw c.in-4.is at c.requires.1.right) in
    let e = c.operate-in-4.ensures in
    let q : told e.0 ≡ value (difference_of (get_or c.args.lane.now.registers (8 * c.args.p + c.args.i.b) (pos 0)) (get_or c.args.lane.now.registers (8 * c.args.p + c.args.i.c) (pos 0))) = search rules in
    on_registers (λ l k at. subtracts at _ c.in-4.is n.0 n.1 n.2 (rw q at e.2) (rw q at e.3))

pub returns-in-5 : goal.returns-in-5
unfolding fields_right
returns-in-5 c =
    let n = three c.requires.1 (rw c.in-5.is at c.requires.1.right) in
    let e = c.operate-in-5.ensures in
    let q : told e.0 ≡ value (product_of (get_or c.args.lane.now.registers (8 * c.args.p + c.args.i.b) (pos 0)) (get_or c.args.lane.now.registers (8 * c.args.p + c.args.i.c) (pos 0))) = search rules in
    on_registers (λ l k at. multiplies at _ c.in-5.is n.0 n.1 n.2 (rw q at e.2) (rw q at e.3))

pub returns-in-6 : goal.returns-in-6
unfolding fields_right
returns-in-6 c =
    let n = three c.requires.1 (rw c.in-6.is at c.requires.1.right) in
    let e = c.operate-in-6.ensures in
    on_registers (λ l k at. divides at _ c.in-6.is n.0 n.1 n.2 (rw e.1 at e.2) (rw e.1 at e.3))

pub returns-in-7 : goal.returns-in-7
unfolding fields_right
returns-in-7 c =
    let n = three c.requires.1 (rw c.in-7.is at c.requires.1.right) in
    let e = c.operate-in-7.ensures in
    on_registers (λ l k at. remains at _ c.in-7.is n.0 n.1 n.2 (rw e.1 at e.2) (rw e.1 at e.3))

pub returns-in-8 : goal.returns-in-8
returns-in-8 c = on_registers (λ l k at. jumps at _ c.in-8.is)

pub returns-in-9 : goal.returns-in-9
returns-in-9 c = on_registers (λ l k at. jumps_zero at _ c.in-9.is (a_low c.requires.1) (rw (← c.register-in-9.ensures) (search rules)))

pub returns-in-10 : goal.returns-in-10
returns-in-10 c = on_registers (λ l k at. jumps_negative at _ c.in-10.is (a_low c.requires.1) (rw (← c.register-in-10.ensures) (search rules)))

pub returns-in-13 : goal.returns-in-13
returns-in-13 c = c.close.ensures c.args.cells.now

pub returns-in_default : goal.returns-in_default
returns-in_default c =
    let over : 14 ≤ c.args.i.op = omega arith in
    on_registers (λ l k at. beyond_faults at _ over)
