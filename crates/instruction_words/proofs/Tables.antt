-- Laws of the two tables of words: a table that has the rule's values in front, is filled from there on and has them past that, is the one by the rule;
-- only four words differ by the count, and only three by the process; the word of a channel is the plain one and what its two ends lack to 30.
-- Assumes nothing.
use mathlib.Core.Path.{◌≡◌, refl, sym, ◌∙◌}
use mathlib.Core.List.{List}
use Prim.Native.Nat.{ℕ, ◌+◌, ◌-◌, ◌*◌, ◌≤◌, ◌<◌, min}
use native.Mathlib.Decide.{dec_lt}
use native.Mathlib.Omega.{arith}
use borrow.Author.Tests.{lt-ltb, le-ltb}
use lib.ListN.{length, get_or, set, replicate, length-replicate, get_or-replicate}
use Rattle.base.specs.Lists.{table}
use Rattle.base.proofs.Lists.{Filled, filled_more, length_values, table_at, table_is}
use Rattle.instruction_words.specs.Words.{room, no_field, asked, receiving, sending, no_opcode, opcode_word, long_word, plain_word, channel_word}
use Rattle.instruction_words.proofs.Words.{Below, by_number, opcode_none}

-- ---- a table filled between two places
-- the front is there
front : (f : ℕ → ℕ) (old : List ℕ) (i : ℕ) → ((k : ℕ) → k < i → get_or old k 0 ≡ f k) → Filled f 0 old i old
front f old i g = record { long = refl; done = g; kept = λ k h. refl }

-- one entry more
pub next : (f : ℕ → ℕ) (old : List ℕ) (i : ℕ) (a : List ℕ) (v : ℕ) → length old ≡ 256 → i < 256 → v ≡ f i → Filled f 0 old i a → Filled f 0 old (i + 1) (set a i v)
next f old i a v l h e s = filled_more f 0 old i a v (omega (arith, s.long)) e s

-- the rest is there
filled_rest : (f : ℕ → ℕ) (old : List ℕ) (i : ℕ) (a : List ℕ) → length old ≡ 256 → ((k : ℕ) → i ≤ k → k < 256 → get_or old k 0 ≡ f k)
    → Filled f 0 old i a
    → a ≡ table 256 f
filled_rest f old i a l g s = table_is f 256 0 a (s.long ∙ l) (λ k h. go k h (dec_lt k i))
  where
    go : (k : ℕ) → k < 256 → Dec (k < i) → get_or a k 0 ≡ f k
    go k h (yes m) = s.done k m
    go k h (no m) = s.kept k (omega arith) ∙ g k (omega arith) h

-- the length of what is filled
pub same_long : (n : ℕ) (old : List ℕ) → old ≡ replicate 256 n → length old ≡ 256
same_long n old e = rw e (length-replicate 256 n)

pub table_long : (g : ℕ → ℕ) (old : List ℕ) → old ≡ table 256 g → length old ≡ 256
table_long g old e = rw e (length_values g 256 0)

-- from one rule's table to another's: the next entry is still the first rule's
pub still : (f g : ℕ → ℕ) (old : List ℕ) (i : ℕ) (a : List ℕ) → old ≡ table 256 g → i < 256 → Filled f 0 old i a → get_or a i 0 ≡ g i
still f g old i a e h s = s.kept i (omega arith) ∙ rw e (table_at g 256 i 0 h)

module _ (f g : ℕ → ℕ) (old : List ℕ) (e : old ≡ table 256 g) where
  -- up to a place the rules agree
  pub same_front : (i : ℕ) → i ≤ 256 → ((k : ℕ) → k < i → g k ≡ f k) → Filled f 0 old i old
  same_front i l same = front f old i (λ k h. rw e (table_at g 256 k 0 (omega arith)) ∙ same k h)

  -- and from a place on
  pub same_rest : (i : ℕ) (a : List ℕ) → ((k : ℕ) → i ≤ k → k < 256 → g k ≡ f k) → Filled f 0 old i a → a ≡ table 256 f
  same_rest i a same s = filled_rest f old i a (table_long g old e) (λ k h m. rw e (table_at g 256 k 0 m) ∙ same k h m) s

-- ---- by the opcode
-- a table of words of no opcode in which those of the opcodes are put
pub opcodes_all : (count p : ℕ) (old a : List ℕ) → old ≡ replicate 256 no_opcode → Filled (opcode_word count p) 0 old 14 a → a ≡ table 256 (opcode_word count p)
opcodes_all count p old a e s =
    filled_rest (opcode_word count p) old 14 a (same_long no_opcode old e)
    (λ k h l. rw e (get_or-replicate 256 k no_opcode 0 l) ∙ sym (opcode_none count p k h)) s

-- only the words of 8 to 11 know the count, and only those of 11 to 13 the process
module _ (before count p q : ℕ) where
  abbrev Same : ℕ → Type 0
  Same o = (8 ≤ o → o < 12 → before ≡ count) → (11 ≤ o → o < 14 → p ≡ q) → opcode_word before p o ≡ opcode_word count q o

  same : Below 14 Same
  unfolding opcode_word
  same =
      let from_11 : Below 3 (λ n. Same (11 + n)) = (
        (λ e f. rw (e (omega arith) (omega arith), f (omega arith) (omega arith))),
        ((λ e f. rw (f (omega arith) (omega arith))), ((λ e f. rw (f (omega arith) (omega arith))), tt)),
      )
      in
      let from_8 : Below 6 (λ n. Same (8 + n)) = (
        (λ e f. rw (e (omega arith) (omega arith))),
        ((λ e f. rw (e (omega arith) (omega arith))), ((λ e f. rw (e (omega arith) (omega arith))), from_11)),
      )
      in
      let from_4 : Below 10 (λ n. Same (4 + n)) = ((λ e f. refl), ((λ e f. refl), ((λ e f. refl), ((λ e f. refl), from_8)))) in
      ((λ e f. refl), ((λ e f. refl), ((λ e f. refl), ((λ e f. refl), from_4))))

  pub same_word : (o : ℕ) → Same o
  same_word o = by_number 14 Same same o (λ h e f. opcode_none before p o h ∙ sym (opcode_none count q o h))

-- the words of 9 and 11 are large, and from that of 9 those of 8 and 10 are made
module _ (count p : ℕ) where
  pub jump_large : 0x5000000000000000 ≤ opcode_word count p 9
  unfolding opcode_word
  jump_large = omega arith

  pub receive_large : 0x5000000000000000 ≤ opcode_word count p 11
  unfolding opcode_word
  receive_large = omega arith

  pub jump_8 : opcode_word count p 9 + 0x7F0701 ≡ opcode_word count p 8
  unfolding opcode_word
  jump_8 = omega arith

  pub jump_10 : opcode_word count p 9 - 1 ≡ opcode_word count p 10
  unfolding opcode_word
  jump_10 = omega arith

-- what the words of 9 and 11 become with another count
module _ (before count : ℕ) (hb : before ≤ 256) (hc : count ≤ 256) where
  pub jump_recounts : (p : ℕ) → opcode_word before p 9 + 0x1000000 * before - 0x1000000 * count ≡ opcode_word count p 9
  unfolding opcode_word
  jump_recounts p = omega arith

  recount : (more : ℕ) → asked + room 0 0 (256 - before) + more - 11 + 0x1000000 * before - 0x1000000 * count ≡ asked + room 0 0 (256 - count) + more - 11
  recount more = omega arith

  pub receive_recounts : (p : ℕ) → opcode_word before p 11 + 0x1000000 * before - 0x1000000 * count ≡ opcode_word count p 11
  unfolding opcode_word
  receive_recounts p = recount (receiving (31 - p))

-- what the words of 11 to 13 become with the next process
renumber : (u x y d k : ℕ) → k ≤ u → x + d ≡ y → u + x - k + d ≡ u + y - k
renumber u x y d k h e = omega arith

receiving_next : (p : ℕ) → p < 16 → receiving (31 - p) + 0xFFFFFFFFFFFF ≡ receiving (31 - (p + 1))
receiving_next p h = omega arith

sending_next : (p : ℕ) → p < 16 → sending (31 - p) + 0x3FFFFE00000000 ≡ sending (31 - (p + 1))
sending_next p h = omega arith

module _ (count p : ℕ) (hp : p < 16) where
  pub receive_next : opcode_word count p 11 + 0xFFFFFFFFFFFF ≡ opcode_word count (p + 1) 11
  unfolding opcode_word
  receive_next = renumber (asked + room 0 0 (256 - count)) _ _ 0xFFFFFFFFFFFF 11 (omega arith) (receiving_next p hp)

  pub send_next : opcode_word count p 12 + 0x3FFFFE00000000 ≡ opcode_word count (p + 1) 12
  unfolding opcode_word
  send_next = renumber (asked + room 0 0 255) _ _ 0x3FFFFE00000000 12 (omega arith) (sending_next p hp)

  pub close_next : opcode_word count p 13 + 0x3FFFFE00000000 ≡ opcode_word count (p + 1) 13
  unfolding opcode_word
  close_next = renumber (asked + room no_field 0 255) _ _ 0x3FFFFE00000000 13 (omega arith) (sending_next p hp)

-- ---- by the field b
pub short_plain : (b : ℕ) → b < 32 → 0x2041003C0000001E + 0xFFFFFF0000 * b ≡ plain_word b
short_plain b h = rw (lt-ltb b 32 h) (omega arith)

pub long_plain : (b : ℕ) → 32 ≤ b → long_word b ≡ plain_word b
long_plain b h = sym (rw (le-ltb b 32 h))

-- a number and what it lacks to 31, where it is at most 30
receiving_min : (e : ℕ) → receiving (min e 30) ≡ receiving 30 + 0xFFFFFFFFFFFF * (30 - e)
receiving_min e = omega arith

sending_min : (e : ℕ) → sending (min e 30) ≡ sending 30 + 0x3FFFFE00000000 * (30 - e)
sending_min e = omega arith

module _ (receiver sender : List ℕ) (channels b : ℕ) (few : channels ≤ 32) where
  pub channel_adds : (w x y : ℕ) → b < channels → w ≡ plain_word b → x ≡ 30 - get_or receiver b 0 → y ≡ 30 - get_or sender b 0
      → w + 0xFFFFFFFFFFFF * x + 0x3FFFFE00000000 * y ≡ channel_word receiver sender channels b
  unfolding channel_word
  channel_adds w x y h p q r =
      let e = short_plain b (omega arith) in
      rw (lt-ltb b channels h, lt-ltb b 32 (omega arith))
      (omega (arith, receiving_min (get_or receiver b 0), sending_min (get_or sender b 0)))

  pub plain_adds : channels ≤ b → plain_word b ≡ channel_word receiver sender channels b
  unfolding channel_word
  plain_adds h = rw (le-ltb b channels h)
