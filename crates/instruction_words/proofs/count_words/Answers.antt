-- `instruction_words::count_words` meets its contract: the four stores fill the table between opcodes 8 and 12 by the rule, and the other words do not know the
-- count.
-- Assumes nothing.
use mathlib.Core.Path.{◌≡◌, refl, ap, ◌∙◌}
use mathlib.Core.List.{List}
use Prim.Native.Nat.{ℕ, ◌+◌, ◌-◌, ◌*◌, ◌≤◌, ◌<◌}
use native.Mathlib.Omega.{arith}
use lib.ListN.{length, get_or, set}
use lib.Seq.{get_or-set_other}
use Rattle.base.specs.Lists.{table}
use Rattle.base.proofs.Lists.{Filled, table_at}
use Rattle.instruction_words.specs.Words.{opcode_word}
use Rattle.instruction_words.proofs.Words.{opcode_small}
use Rattle.instruction_words.proofs.Tables.{next, table_long, same_front, same_rest, same_word, jump_large, receive_large, jump_recounts, receive_recounts, jump_8, jump_10}
use Rattle.instruction_words.proofs.count_words.Goals as goal

-- the word of 11 is not stored to before it is read
receive_there : (before p : ℕ) (old : List ℕ) → old ≡ table 256 (opcode_word before p) → (x y z : ℕ)
    → get_or (set (set (set old 8 x) 9 y) 10 z) 11 0 ≡ opcode_word before p 11
receive_there before p old e x y z =
    get_or-set_other (set (set old 8 x) 9 y) 10 11 z 0 (λ q. omega arith)
    ∙ get_or-set_other (set old 8 x) 9 11 y 0 (λ q. omega arith)
    ∙ get_or-set_other old 8 11 x 0 (λ q. omega arith)
    ∙ rw e (table_at (opcode_word before p) 256 11 0 (omega arith))

-- the table `old` of `before` instructions, as the stores change it
module _ (before count p : ℕ) (old : List ℕ) (hp : p < 16) (hb : before ≤ 256) (hc : count ≤ 256)
    (e : old ≡ table 256 (opcode_word before p)) where
  abbrev recounted : ℕ → ℕ
  recounted word = word + 0x1000000 * before - 0x1000000 * count

  abbrev jump : ℕ
  jump = recounted (get_or old 9 0)

  abbrev jumps : List ℕ
  jumps = set (set (set old 8 (jump + 0x7F0701)) 9 jump) 10 (jump - 1)

  front : Filled (opcode_word count p) 0 old 8 old
  front = same_front (opcode_word count p) (opcode_word before p) old e 8 (omega arith) (λ k h. same_word before count p p k (λ l m. omega arith) (λ l m. refl))

  jump_there : get_or old 9 0 ≡ opcode_word before p 9
  jump_there = rw e (table_at (opcode_word before p) 256 9 0 (omega arith))

  jump_fits : (0x5000000000000000 ≤ get_or old 9 0) × (get_or old 9 0 < 0x7000000000000000)
  jump_fits = omega (arith, jump_there, jump_large before p, opcode_small before p 9 hp)

  jump_is : jump ≡ opcode_word count p 9
  jump_is = ap recounted jump_there ∙ jump_recounts before count hb hc p

  jumps_filled : Filled (opcode_word count p) 0 old 11 jumps
  jumps_filled =
      let f : ℕ → ℕ = opcode_word count p in
      let l : length old ≡ 256 = table_long (opcode_word before p) old e in
      next f old 10 _ _ l (omega arith) (ap (λ (x : ℕ). x - 1) jump_is ∙ jump_10 count p)
      (next f old 9 _ _ l (omega arith) jump_is
      (next f old 8 _ _ l (omega arith) (ap (λ (x : ℕ). x + 0x7F0701) jump_is ∙ jump_8 count p) front))

  all_recounted : set jumps 11 (recounted (get_or jumps 11 0)) ≡ table 256 (opcode_word count p)
  all_recounted =
      same_rest (opcode_word count p) (opcode_word before p) old e 12 _ (λ k h m. same_word before count p p k (λ l n. omega arith) (λ l n. refl))
      (next (opcode_word count p) old 11 jumps _ (table_long (opcode_word before p) old e) (omega arith)
      (ap recounted (receive_there before p old e (jump + 0x7F0701) jump (jump - 1)) ∙ receive_recounts before count hb hc p) jumps_filled)

pub overflow_add-jump : goal.overflow_add-jump
overflow_add-jump c = omega (arith, jump_fits _ c.args.count _ _ c.requires.0 c.requires.1 c.requires.2 c.requires.3)

pub overflow_sub-jump : goal.overflow_sub-jump
overflow_sub-jump c = omega (arith, jump_fits _ c.args.count _ _ c.requires.0 c.requires.1 c.requires.2 c.requires.3)

pub overflow_add-words : goal.overflow_add-words
overflow_add-words c = omega (arith, jump_fits _ c.args.count _ _ c.requires.0 c.requires.1 c.requires.2 c.requires.3)

pub overflow_sub-words : goal.overflow_sub-words
overflow_sub-words c = omega (arith, jump_fits _ c.args.count _ _ c.requires.0 c.requires.1 c.requires.2 c.requires.3)

pub overflow_add-words-2 : goal.overflow_add-words-2
overflow_add-words-2 c =
    rw (receive_there _ _ _ c.requires.3) (omega (arith, receive_large c.args.before c.args.p, opcode_small c.args.before c.args.p 11 c.requires.0))

pub overflow_sub-words-2 : goal.overflow_sub-words-2
overflow_sub-words-2 c =
    rw (receive_there _ _ _ c.requires.3) (omega (arith, receive_large c.args.before c.args.p, opcode_small c.args.before c.args.p 11 c.requires.0))

pub returns : goal.returns
returns c = all_recounted _ _ _ _ c.requires.0 c.requires.1 c.requires.2 c.requires.3
