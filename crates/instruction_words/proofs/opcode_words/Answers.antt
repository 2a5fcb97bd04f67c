-- `instruction_words::opcode_words` meets its contract: the fourteen stores fill the table's front by the rule, and the rest is as it was.
-- Assumes nothing.
use mathlib.Core.Path.{◌≡◌, refl}
use native.Mathlib.Omega.{arith}
use lib.ListN.{length}
use Rattle.base.proofs.Lists.{filled_none}
use Rattle.instruction_words.specs.Words.{opcode_word}
use Rattle.instruction_words.proofs.Tables.{next, same_long, opcodes_all}
use Rattle.instruction_words.proofs.opcode_words.Goals as goal

pub returns : goal.returns
unfolding opcode_word
returns c =
    let pre = c.requires in
    let f = opcode_word 256 0 in
    let l : length c.args.words.now ≡ 256 = same_long _ _ pre in
    opcodes_all 256 0 _ _ pre
    (next f _ 13 _ _ l (omega arith) (rw c.room-12.ensures)
    (next f _ 12 _ _ l (omega arith) (rw c.room-11.ensures)
    (next f _ 11 _ _ l (omega arith) refl
    (next f _ 10 _ _ l (omega arith) (rw c.room-10.ensures)
    (next f _ 9 _ _ l (omega arith) (rw c.room-9.ensures)
    (next f _ 8 _ _ l (omega arith) (rw c.room-8.ensures)
    (next f _ 7 _ _ l (omega arith) (rw c.room-7.ensures)
    (next f _ 6 _ _ l (omega arith) (rw c.room-6.ensures)
    (next f _ 5 _ _ l (omega arith) (rw c.room-5.ensures)
    (next f _ 4 _ _ l (omega arith) (rw c.room-4.ensures)
    (next f _ 3 _ _ l (omega arith) (rw c.room-3.ensures)
    (next f _ 2 _ _ l (omega arith) (rw c.room-2.ensures)
    (next f _ 1 _ _ l (omega arith) refl
    (next f _ 0 _ _ l (omega arith) (rw c.room.ensures) (filled_none f 0 _)))))))))))))))
