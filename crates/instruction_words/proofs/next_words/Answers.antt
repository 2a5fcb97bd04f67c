-- `instruction_words::next_words` meets its contract: the three stores fill the table from opcode 11 to 13 by the rule, and the other words do not know the process.
-- Assumes nothing.
use mathlib.Core.Path.{◌≡◌, refl, ap, ◌∙◌}
use mathlib.Core.List.{List}
use Prim.Native.Nat.{ℕ, ◌+◌, ◌<◌}
use native.Mathlib.Omega.{arith}
use lib.ListN.{get_or, set}
use Rattle.base.specs.Lists.{table}
use Rattle.base.proofs.Lists.{Filled}
use Rattle.instruction_words.specs.Words.{opcode_word}
use Rattle.instruction_words.proofs.Words.{opcode_small}
use Rattle.instruction_words.proofs.Tables.{next, still, table_long, same_front, same_rest, same_word, receive_next, send_next, close_next}
use Rattle.instruction_words.proofs.next_words.Goals as goal

-- the table `old` of process p, as the stores change it
module _ (count p : ℕ) (old : List ℕ) (hp : p < 16) (e : old ≡ table 256 (opcode_word count p)) where
  -- an entry that is not passed yet is that of process p
  there : (i : ℕ) (a : List ℕ) → Filled (opcode_word count (p + 1)) 0 old i a → i < 256 → get_or a i 0 ≡ opcode_word count p i
  there i a s h = still (opcode_word count (p + 1)) (opcode_word count p) old i a e h s

  -- the next entry becomes that of the next process
  store : (i more : ℕ) (a : List ℕ) → i < 256 → opcode_word count p i + more ≡ opcode_word count (p + 1) i → Filled (opcode_word count (p + 1)) 0 old i a
      → Filled (opcode_word count (p + 1)) 0 old (i + 1) (set a i (get_or a i 0 + more))
  store i more a h q s =
      next (opcode_word count (p + 1)) old i a _ (table_long (opcode_word count p) old e) h (ap (λ (x : ℕ). x + more) (there i a s h) ∙ q) s

  abbrev received : List ℕ
  received = set old 11 (get_or old 11 0 + 0xFFFFFFFFFFFF)

  abbrev sent : List ℕ
  sent = set received 12 (get_or received 12 0 + 0x3FFFFE00000000)

  front : Filled (opcode_word count (p + 1)) 0 old 11 old
  front =
      same_front (opcode_word count (p + 1)) (opcode_word count p) old e 11 (omega arith)
      (λ k h. same_word count count p (p + 1) k (λ l m. refl) (λ l m. omega arith))

  received_filled : Filled (opcode_word count (p + 1)) 0 old 12 received
  received_filled = store 11 0xFFFFFFFFFFFF old (omega arith) (receive_next count p hp) front

  sent_filled : Filled (opcode_word count (p + 1)) 0 old 13 sent
  sent_filled = store 12 0x3FFFFE00000000 received (omega arith) (send_next count p hp) received_filled

  all_next : set sent 13 (get_or sent 13 0 + 0x3FFFFE00000000) ≡ table 256 (opcode_word count (p + 1))
  all_next =
      same_rest (opcode_word count (p + 1)) (opcode_word count p) old e 14 _ (λ k h m. same_word count count p (p + 1) k (λ l n. refl) (λ l n. omega arith))
      (store 13 0x3FFFFE00000000 sent (omega arith) (close_next count p hp) sent_filled)

pub overflow_add-words : goal.overflow_add-words
overflow_add-words c =
    omega (arith, there _ _ _ c.requires.0 c.requires.2 11 _ (front _ _ _ c.requires.0 c.requires.2) (omega arith), opcode_small c.args.count c.args.p 11 c.requires.0)

pub overflow_add-words-2 : goal.overflow_add-words-2
overflow_add-words-2 c =
    omega (arith, there _ _ _ c.requires.0 c.requires.2 12 _ (received_filled _ _ _ c.requires.0 c.requires.2) (omega arith), opcode_small c.args.count c.args.p 12 c.requires.0)

pub overflow_add-words-3 : goal.overflow_add-words-3
overflow_add-words-3 c =
    omega (arith, there _ _ _ c.requires.0 c.requires.2 13 _ (sent_filled _ _ _ c.requires.0 c.requires.2) (omega arith), opcode_small c.args.count c.args.p 13 c.requires.0)

pub returns : goal.returns
returns c = all_next _ _ _ c.requires.0 c.requires.2
