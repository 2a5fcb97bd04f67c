-- An instruction's sum is clean of the flags exactly where its fields are right. The sum's digits are the fields, each with what its limit lacks, and
-- the channel's ends, against the process where the opcode asks for that. Where the opcode asks for a short b and b is not, and where it is none, the top
-- digit is not clean; opcode 1 takes any b.
-- Assumes nothing.
use mathlib.Core.Path.{◌≡◌, refl, sym, ap, ap₂, ◌∙◌}
use mathlib.Core.Bool.{Bool, true, false, ◌&&◌, and-true, and-false}
use mathlib.Core.List.{List}
use Prim.Native.Nat.{ℕ, ◌+◌, ◌-◌, ◌*◌, ◌≤◌, ◌<◌}
use native.Mathlib.Decide.{dec_lt}
use native.Mathlib.Omega.{arith}
use borrow.Author.Tests.{lt-ltb, le-ltb, ne_eqb}
use lib.Dec.{eqb, ltb}
use lib.ListN.{get_or, get_or-eq_default}
use Rattle.network.specs.declared.Instruction.{Instruction}
use Rattle.network.specs.Code.{register, unnamed, target, three_registers, fields_right}
use Rattle.flags.specs.Clean.{clean}
use Rattle.instruction_sums.specs.Sums.{weighed, flags}
use Rattle.instruction_words.specs.Words.{room, no_field, asked, short, receiving, sending, no_opcode, opcode_word, long_word, end_at, channel_word}
use Rattle.passing.proofs.Digits.{digits, clean_digits, top_unclean}
use Rattle.instruction_words.proofs.Words.{Below, by_number, opcode_none, end_low, end_is, end_none, word, long_low}
use Rattle.passing.proofs.Limits.{Limit, Added, unnamed_limit, below_limit, register_added, unnamed_added, same_end}

-- ---- three tests
-- the digits' tests in the order of the fields
order : (a c e f : Bool) → (e && (a && (c && f))) ≡ (a && (e && f) && c)
order false c false f = refl
order false c true f = refl
order true false false f = refl
order true false true f = sym (and-false f)
order true true false f = refl
order true true true f = sym (and-true f)

-- the second fails
second_fails : (a c : Bool) → (a && false && c) ≡ false
second_fails false c = refl
second_fails true c = refl

fields_none : (count : ℕ) (receives sends : Bool) (i : Instruction) → 14 ≤ i.op → fields_right count receives sends i ≡ false
unfolding fields_right
fields_none count receives sends i h = rw get_or-eq_default

-- ---- a sum whose opcode has the word w; r and s are the ends of the channel that the field b names
abbrev sum : ℕ → ℕ → ℕ → Instruction → ℕ
sum w r s i = weighed i + w + word r s i.b

module _ (a b c r s : ℕ) (ha : a < 256) (hb : b < 256) (hc : c < 256) (hr : r ≤ 30) (hs : s ≤ 30) where
  abbrev at : ℕ → Instruction
  at o = record { op = o; a = a; b = b; c = c }

  short_word : b < 32 → word r s b ≡ short + receiving r + sending s + 0xFFFFFF0000 * b
  short_word h = rw (lt-ltb b 32 h)

  long_word_lem : 32 ≤ b → word r s b ≡ long_word b
  long_word_lem h = rw (le-ltb b 32 h)

  -- the opcode asks for a short b, and b is not: the top digit is 3
  long : (o w v : ℕ) → 32 ≤ b → v < 0x1000000000000000 → w + o ≡ asked + v → clean flags (sum w r s (at o)) ≡ false
  long o w v h l e =
      let k : word r s b ≤ 0x1FF800000 = rw (long_word_lem h) (long_low b) in
      let low : ℕ = v + 256 * a + 0x10000 * b + 0x1000000 * c + word r s b in
      let q : sum w r s (at o) ≡ low + 0x2000000000000000 * 3 = omega arith in
      ap (clean flags) q ∙ top_unclean low 3 (omega arith) refl

  -- it is that of no opcode: the top digit is 3 or, where b is not short, 2
  none : (o : ℕ) → o < 256 → clean flags (sum no_opcode r s (at o)) ≡ false
  none o h = go (dec_lt b 32)
    where
      go : Dec (b < 32) → clean flags (sum no_opcode r s (at o)) ≡ false
      go (yes l) =
          let k = short_word l in
          let low : ℕ = weighed (at o) + 0x40404040404040 + receiving r + sending s + 0xFFFFFF0000 * b in
          let q : sum no_opcode r s (at o) ≡ low + 0x2000000000000000 * 3 = omega arith in
          ap (clean flags) q ∙ top_unclean low 3 (omega arith) refl
      go (no l) =
          let k : word r s b ≤ 0x1FF800000 = rw (long_word_lem (omega arith)) (long_low b) in
          let low : ℕ = weighed (at o) + 0x40404040404040 + word r s b in
          let q : sum no_opcode r s (at o) ≡ low + 0x2000000000000000 * 2 = omega arith in
          ap (clean flags) q ∙ top_unclean low 2 (omega arith) refl

  -- it asks for a short b, and adds x and x' to the receiver's digits, y and y' to the sender's: what is asked of b and of the ends is one test
  asks : {A C : ℕ} {fa fb fc : Bool} (o w B x x' y y' : ℕ) → Added a A fa → Limit 256 c C fc → B < 64 → x ≤ 31 → x' ≤ 31 → y ≤ 31 → y' ≤ 31
      → w + o ≡ asked + (room A B C + x + 0x1000000000000 * x' + 0x200000000 * y + 0x40000000000000 * y')
      → (32 ≤ b → fb ≡ false)
      → (b < 32 → (ltb (r + x) 32 && (ltb (s + y) 32 && (ltb (b + B) 64 && (ltb (31 - r + x') 32 && (ltb (31 - s + y') 32 && true))))) ≡ fb)
      → clean flags (sum w r s (at o)) ≡ (fa && fb && fc)
  asks {A} {C} {fa} {fb} {fc} o w B x x' y y' la lc hB hx hx' hy hy' e far near = go (dec_lt b 32)
    where
      go : Dec (b < 32) → clean flags (sum w r s (at o)) ≡ (fa && fb && fc)
      go (yes h) =
          let k = short_word h in
          let others : Bool = ltb (s + y) 32 && (ltb (b + B) 64 && (ltb (31 - r + x') 32 && (ltb (31 - s + y') 32 && true))) in
          let q : sum w r s (at o) ≡ digits (r + x) (a + A) (c + C) (s + y) (b + B) (31 - r + x') (31 - s + y') 4 = omega arith in
          ap (clean flags) q
          ∙ clean_digits (r + x) (a + A) (c + C) (s + y) (b + B) (31 - r + x') (31 - s + y') 4
          (omega arith) la.small (omega arith) (omega arith) (omega arith) (omega arith) (omega arith)
          ∙ rw (la.within, lc.within) (order fa fc (ltb (r + x) 32) others)
          ∙ ap (λ (t : Bool). fa && t && fc) (near h)
      go (no h) =
          let l : 32 ≤ b = omega arith in
          long o w (room A B C + x + 0x1000000000000 * x' + 0x200000000 * y + 0x40000000000000 * y') l (omega arith) e
          ∙ sym (rw (far l) (second_fails fa fc))

  -- it asks for no process: the digits of both ends are clean
  plain : {A B C : ℕ} {fa fb fc : Bool} (o w : ℕ) → Added a A fa → Limit 64 b B fb → Limit 256 c C fc → 32 ≤ B → w + o ≡ asked + room A B C
      → clean flags (sum w r s (at o)) ≡ (fa && fb && fc)
  plain {A} {B} {C} {fa} {fb} {fc} o w la lb lc l e =
      asks o w B 0 0 0 0 la lc lb.small (omega arith) (omega arith) (omega arith) (omega arith) (omega arith)
      (λ h. sym lb.within ∙ le-ltb (b + B) 64 (omega arith))
      (λ h. rw (
        lt-ltb (r + 0) 32 (omega arith),
        lt-ltb (s + 0) 32 (omega arith),
        lt-ltb (31 - r + 0) 32 (omega arith),
        lt-ltb (31 - s + 0) 32 (omega arith),
        lb.within,
      ) (and-true fb))

  -- it asks that the receiver is p
  receives : {A C : ℕ} {fa fc : Bool} (o w p : ℕ) → Added a A fa → Limit 256 c C fc → p < 16 → (32 ≤ b → r ≡ 30)
      → w + o ≡ asked + (room A 0 C + receiving (31 - p))
      → clean flags (sum w r s (at o)) ≡ (fa && eqb r p && fc)
  receives o w p la lc hp outside e =
      asks o w 0 (31 - p) p 0 0 la lc (omega arith) (omega arith) (omega arith) (omega arith) (omega arith) (omega arith)
      (λ h. let n = outside h in ne_eqb r p (omega arith))
      (λ h. rw (
        lt-ltb (s + 0) 32 (omega arith),
        lt-ltb (b + 0) 64 (omega arith),
        lt-ltb (31 - s + 0) 32 (omega arith),
        and-true (ltb (31 - r + p) 32),
      ) (same_end r p (omega arith) (omega arith)))

  -- it asks that the sender is p
  sends : {A C : ℕ} {fa fc : Bool} (o w p : ℕ) → Added a A fa → Limit 256 c C fc → p < 16 → (32 ≤ b → s ≡ 30)
      → w + o ≡ asked + (room A 0 C + sending (31 - p))
      → clean flags (sum w r s (at o)) ≡ (fa && eqb s p && fc)
  sends o w p la lc hp outside e =
      asks o w 0 0 0 (31 - p) p la lc (omega arith) (omega arith) (omega arith) (omega arith) (omega arith) (omega arith)
      (λ h. let n = outside h in ne_eqb s p (omega arith))
      (λ h. rw (
        lt-ltb (r + 0) 32 (omega arith),
        lt-ltb (b + 0) 64 (omega arith),
        lt-ltb (31 - r + 0) 32 (omega arith),
        and-true (ltb (31 - s + p) 32),
      ) (same_end s p (omega arith) (omega arith)))

  -- opcode 1, whose word is zero, takes any b and c: of these digits a's alone can be unclean
  free : (d0 above d3 d4 d5 d6 d7 : ℕ) → d0 < 32 → above < 128 → d3 < 32 → d4 < 64 → d5 < 32 → d6 < 32 → clean 2 d7 ≡ true
      → clean flags (digits d0 (a + 256 * above) c d3 d4 d5 d6 d7) ≡ register a
  free d0 above d3 d4 d5 d6 d7 h0 l h3 h4 h5 h6 h7 =
      let la = register_added a above ha l in
      clean_digits d0 (a + 256 * above) c d3 d4 d5 d6 d7
      (omega arith) la.small (omega arith) (omega arith) (omega arith) (omega arith) (omega arith)
      ∙ rw (lt-ltb d0 32 h0, la.within, lt-ltb c 256 hc, lt-ltb d3 32 h3, lt-ltb d4 64 h4, lt-ltb d5 32 h5, lt-ltb d6 32 h6, h7) (and-true (register a))

  put : clean flags (sum 0 r s (at 1)) ≡ register a
  put = go (dec_lt b 32) (dec_lt b 128)
    where
      go : Dec (b < 32) → Dec (b < 128) → clean flags (sum 0 r s (at 1)) ≡ register a
      go (yes h) l =
          let k = short_word h in
          let q : sum 0 r s (at 1) ≡ digits (r + 1) (a + 256 * 0) c s b (31 - r) (31 - s) 1 = omega arith in
          ap (clean flags) q ∙ free (r + 1) 0 s b (31 - r) (31 - s) 1 (omega arith) (omega arith) (omega arith) (omega arith) (omega arith) (omega arith) refl
      go (no h) (yes l) =
          let k = long_word_lem (omega arith) in
          let m : long_word b ≡ 0 = rw (lt-ltb b 128 l) in
          let q : sum 0 r s (at 1) ≡ digits 1 (a + 256 * b) c 0 0 0 0 0 = omega arith in
          ap (clean flags) q ∙ free 1 b 0 0 0 0 0 (omega arith) l (omega arith) (omega arith) (omega arith) (omega arith) refl
      go (no h) (no l) =
          let k = long_word_lem (omega arith) in
          let m : long_word b ≡ 0x1FF800000 = rw (le-ltb b 128 (omega arith)) in
          let q : sum 0 r s (at 1) ≡ digits 1 (a + 256 * (b - 128)) c 1 0 0 0 0 = omega arith in
          ap (clean flags) q ∙ free 1 (b - 128) 1 0 0 0 0 (omega arith) (omega arith) (omega arith) (omega arith) (omega arith) (omega arith) refl

  -- ---- the opcodes in turn
  module _ (count p : ℕ) (hp : p < 16) (low : 1 ≤ count) (high : count ≤ 256) (nr : 32 ≤ b → r ≡ 30) (ns : 32 ≤ b → s ≡ 30) where
    abbrev Right : ℕ → Type 0
    Right o = clean flags (sum (opcode_word count p o) r s (at o)) ≡ fields_right count (eqb r p) (eqb s p) (at o)

    -- the limits: a register and no field, in each of the three
    a_register : Added a 0 (register a)
    a_register = register_added a 0 ha (omega arith)

    a_unnamed : Added a no_field (unnamed a)
    a_unnamed = unnamed_added a ha

    b_register : Limit 64 b 56 (register b)
    b_register = below_limit 64 b 8 (omega arith) (omega arith)

    b_unnamed : Limit 64 b 63 (unnamed b)
    b_unnamed = unnamed_limit 64 b (omega arith)

    c_register : Limit 256 c 248 (register c)
    c_register = below_limit 256 c 8 (omega arith) (omega arith)

    c_unnamed : Limit 256 c 255 (unnamed c)
    c_unnamed = unnamed_limit 256 c (omega arith)

    c_target : Limit 256 c (256 - count) (target count c)
    c_target = below_limit 256 c count low high

    -- 3 to 7
    three : (o : ℕ) → o < 14 → clean flags (sum (asked + room 0 56 248 - o) r s (at o)) ≡ three_registers (at o)
    three o h = plain o (asked + room 0 56 248 - o) a_register b_register c_register (omega arith) (omega arith)

    -- 8 to 10
    jump : {A : ℕ} {fa : Bool} (o : ℕ) → o < 14 → Added a A fa
        → clean flags (sum (asked + room A 63 (256 - count) - o) r s (at o)) ≡ (fa && unnamed b && target count c)
    jump {A} o h la = plain o (asked + room A 63 (256 - count) - o) la b_unnamed c_target (omega arith) (omega arith)

    -- 11
    receive : clean flags (sum (asked + room 0 0 (256 - count) + receiving (31 - p) - 11) r s (at 11)) ≡ (register a && eqb r p && target count c)
    receive = receives 11 (asked + room 0 0 (256 - count) + receiving (31 - p) - 11) p a_register c_target hp nr (omega arith)

    -- 12 and 13
    send : {A : ℕ} {fa : Bool} (o : ℕ) → o < 14 → Added a A fa
        → clean flags (sum (asked + room A 0 255 + sending (31 - p) - o) r s (at o)) ≡ (fa && eqb s p && unnamed c)
    send {A} o h la = sends o (asked + room A 0 255 + sending (31 - p) - o) p la c_unnamed hp ns (omega arith)

    opcodes : Below 14 Right
    unfolding opcode_word fields_right
    opcodes =
        let from_11 : Below 3 (λ n. Right (11 + n)) = (receive, (send 12 (omega arith) a_register, (send 13 (omega arith) a_unnamed, tt))) in
        let from_9 : Below 5 (λ n. Right (9 + n)) = (jump 9 (omega arith) a_register, (jump 10 (omega arith) a_register, from_11)) in
        let from_7 : Below 7 (λ n. Right (7 + n)) = (three 7 (omega arith), (jump 8 (omega arith) a_unnamed, from_9)) in
        let from_5 : Below 9 (λ n. Right (5 + n)) = (three 5 (omega arith), (three 6 (omega arith), from_7)) in
        let from_3 : Below 11 (λ n. Right (3 + n)) = (three 3 (omega arith), (three 4 (omega arith), from_5)) in
        let copy : Right 2 = plain 2 (asked + room 0 56 255 - 2) a_register b_register c_unnamed (omega arith) refl in
        let stop : Right 0 = plain 0 (asked + room no_field 63 255) a_unnamed b_unnamed c_unnamed (omega arith) refl in
        (stop, (put, (copy, from_3)))

    right : (o : ℕ) → o < 256 → Right o
    right o h =
        by_number 14 Right opcodes o
        (λ l. rw (opcode_none count p o l, fields_none count (eqb r p) (eqb s p) (at o) l) (none o h))

-- ---- the laws
pub clean_right : (receiver sender : List ℕ) (channels count p : ℕ) (i : Instruction) → i.op < 256 → i.a < 256 → i.b < 256 → i.c < 256 → p < 16
    → 1 ≤ count → count ≤ 256 → channels ≤ 32
    → clean flags (weighed i + opcode_word count p i.op + channel_word receiver sender channels i.b)
    ≡ fields_right count (ltb i.b channels && eqb (get_or receiver i.b 0) p) (ltb i.b channels && eqb (get_or sender i.b 0) p) i
unfolding channel_word
clean_right receiver sender channels count p i ho ha hb hc hp low high few =
    right i.a i.b i.c (end_at receiver channels i.b) (end_at sender channels i.b) ha hb hc
    (end_low receiver channels i.b) (end_low sender channels i.b) count p hp low high
    (λ h. end_none receiver channels i.b (omega arith)) (λ h. end_none sender channels i.b (omega arith)) i.op ho
    ∙ ap₂ (λ (x y : Bool). fields_right count x y i) (end_is receiver channels i.b p hp) (end_is sender channels i.b p hp)
