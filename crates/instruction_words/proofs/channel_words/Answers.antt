use mathlib.Core.Path.{◌≡◌, sym, ◌∙◌}
use Prim.Native.Nat.{◌+◌, ◌*◌}
use native.Mathlib.Omega.{arith}
use lib.ListN.{get_or}
use Rattle.base.proofs.Lists.{filled_none}
use Rattle.instruction_words.specs.Words.{plain_word, channel_word}
use Rattle.instruction_words.proofs.Tables.{next, still, table_long, same_rest, short_plain, channel_adds, plain_adds}
use Rattle.instruction_words.proofs.channel_words.Goals as goal

pub loop-b-init : goal.loop-b-init
loop-b-init c = filled_none _ 0 _

pub overflow_add-words : goal.overflow_add-words
overflow_add-words c =
    let plain_there : get_or c.loop-b.words c.loop-b.b 0 ≡ plain_word c.loop-b.b = let l = c.loop-b in still _ plain_word _ l.b l.words c.requires.1 (omega arith) l.invariant in
    let plain_is : get_or c.loop-b.words c.loop-b.b 0 ≡ 0x2041003C0000001E + 0xFFFFFF0000 * c.loop-b.b = plain_there ∙ sym (short_plain c.loop-b.b (omega arith)) in
    omega (arith, plain_is)

pub overflow_add-words-in-loop-b : goal.overflow_add-words-in-loop-b
overflow_add-words-in-loop-b c =
    let plain_there : get_or c.loop-b.words c.loop-b.b 0 ≡ plain_word c.loop-b.b = let l = c.loop-b in still _ plain_word _ l.b l.words c.requires.1 (omega arith) l.invariant in
    let plain_is : get_or c.loop-b.words c.loop-b.b 0 ≡ 0x2041003C0000001E + 0xFFFFFF0000 * c.loop-b.b = plain_there ∙ sym (short_plain c.loop-b.b (omega arith)) in
    omega (arith, plain_is)

pub loop-b-preserved : goal.loop-b-preserved
loop-b-preserved c =
    let plain_there : get_or c.loop-b.words c.loop-b.b 0 ≡ plain_word c.loop-b.b = let l = c.loop-b in still _ plain_word _ l.b l.words c.requires.1 (omega arith) l.invariant in
    let l = c.loop-b in
    let a = c.args in
    next (channel_word a.receiver.now a.sender.now a.channels) _ l.b l.words _ (table_long plain_word _ c.requires.1) (omega arith)
    (channel_adds a.receiver.now a.sender.now a.channels l.b c.requires.0 _ _ _ c.loop-b-test.true plain_there
    c.below-into.ensures c.below-out.ensures)
    l.invariant

pub returns : goal.returns
returns c =
    let l = c.loop-b in
    let e : l.b ≡ c.args.channels = omega arith in
    same_rest _ plain_word _ c.requires.1 c.args.channels l.words (λ k h m. plain_adds _ _ c.args.channels k c.requires.0 h) (rw e at l.invariant)
