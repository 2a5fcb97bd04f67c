-- The bytes of a network's file, place by place.
-- Assumes nothing.
use mathlib.Core.Path.{◌≡◌, refl, sym, ap, subst, ◌∙◌}
use mathlib.Core.Bool.{cond}
use mathlib.Core.List.{List, ◌++◌}
use Prim.Native.Nat.{ℕ, zero, suc, ◌+◌, ◌-◌, ◌*◌, ◌/◌, ◌%◌, ◌≤◌, ◌<◌}
use native.Mathlib.Decide.{dec_lt}
use native.Mathlib.Numerals.{add-one}
use native.Mathlib.Omega.{arith}
use borrow.Author.Tests.{ne_eqb}
use lib.Dec.{eqb}
use lib.ListN.{length, get_or, take, drop, replicate, length-append, length-replicate, get_or-replicate, get_or-append}
use lib.Seq.{get_or-take, get_or-drop}
use Rattle.base.specs.Lists.{joined, two_bytes}
use Rattle.block_check.specs.Crc.{crc}
use Rattle.network.specs.declared.Network.{Network}
use Rattle.network.specs.Rules.{total, blocks_for}
use Rattle.lane_file.specs.File.{header_of, slot_of, record_of, first_block, code_block, block_of, file_of}
use Rattle.lane_file.specs.RoundTrip.{Shaped}
use Rattle.lane_file.proofs.Joined.{same_place, past, length_joined, joined_at, length_part, part_is}

-- code blocks
abbrev pub blocks_of : Network → ℕ
blocks_of n = blocks_for (total n)

-- The bytes of `s` are those of the network's file: block 0 by its parts, then each code block; and the check of each block.
pub record Holds (n : Network) (s : List ℕ) : Type 0 where
  pub long : length s ≡ 512 * (blocks_of n + 1)
  pub header : (r : ℕ) → r < 8 → get_or s r 0 ≡ get_or (header_of n) r 0
  pub slot : (p q : ℕ) → p < 16 → q < 4 → get_or s (8 + (4 * p + q)) 0 ≡ get_or (slot_of n p) q 0
  pub channel : (c q : ℕ) → c < 32 → q < 4 → get_or s (72 + (4 * c + q)) 0 ≡ get_or (record_of n c) q 0
  pub zeros : (r : ℕ) → r < 310 → get_or s (200 + r) 0 ≡ 0
  pub code : (k r : ℕ) → k < blocks_of n → r < 508 → get_or s (512 * (k + 1) + r) 0 ≡ get_or n.code (508 * k + r) 0
  pub number : (k q : ℕ) → k < blocks_of n → q < 2 → get_or s (512 * (k + 1) + (508 + q)) 0 ≡ get_or (two_bytes (k + 1)) q 0
  pub check : (k q : ℕ) → k < blocks_of n + 1 → q < 2 → get_or s (512 * k + (510 + q)) 0 ≡ get_or (two_bytes (crc (take 510 (drop (512 * k) s)))) q 0

-- what holds at each place of the parts of block 0 holds at each of its places up to 509
pub first_places : (P : ℕ → Type 0) → ((r : ℕ) → r < 8 → P r) → ((p q : ℕ) → p < 16 → q < 4 → P (8 + (4 * p + q)))
    → ((c q : ℕ) → c < 32 → q < 4 → P (72 + (4 * c + q))) → ((r : ℕ) → r < 310 → P (200 + r)) → (r : ℕ) → r < 510 → P r
first_places P a b c e r h = go (dec_lt r 8) (dec_lt r 72) (dec_lt r 200)
  where
    go : Dec (r < 8) → Dec (r < 72) → Dec (r < 200) → P r
    go (yes l) x y = a r l
    go (no l) (yes m) y = subst P (omega arith) (b ((r - 8) / 4) ((r - 8) % 4) (omega arith) (omega arith))
    go (no l) (no m) (yes o) = subst P (omega arith) (c ((r - 72) / 4) ((r - 72) % 4) (omega arith) (omega arith))
    go (no l) (no m) (no o) = subst P (omega arith) (e (r - 200) (omega arith))

-- The places of a file with so many code blocks: what holds up to byte 509 of block 0, and at the code and the number of each code block, holds up to
-- byte 509 of each block; and what holds there and at each check holds at every place.
module _ (blocks : ℕ) (P : ℕ → Type 0) where
  code_places : ((k r : ℕ) → k < blocks → r < 508 → P (512 * (k + 1) + r)) → ((k q : ℕ) → k < blocks → q < 2 → P (512 * (k + 1) + (508 + q)))
      → (k r : ℕ) → k < blocks → r < 510 → P (512 * (k + 1) + r)
  code_places a b k r hk hr = go (dec_lt r 508)
    where
      go : Dec (r < 508) → P (512 * (k + 1) + r)
      go (yes l) = a k r hk l
      go (no l) =
          let e : 508 + (r - 508) ≡ r = omega arith in
          subst (λ (x : ℕ). P (512 * (k + 1) + x)) e (b k (r - 508) hk (omega arith))

  pub body_places : ((r : ℕ) → r < 510 → P r) → ((k r : ℕ) → k < blocks → r < 508 → P (512 * (k + 1) + r))
      → ((k q : ℕ) → k < blocks → q < 2 → P (512 * (k + 1) + (508 + q))) → (k r : ℕ) → k < blocks + 1 → r < 510 → P (512 * k + r)
  body_places a b c zero r hk hr = subst P (omega arith) (a r hr)
  body_places a b c (suc k) r hk hr = rw (← add-one k) (code_places b c k r (omega arith) hr)

  pub all_places : ((k r : ℕ) → k < blocks + 1 → r < 510 → P (512 * k + r)) → ((k q : ℕ) → k < blocks + 1 → q < 2 → P (512 * k + (510 + q)))
      → (j : ℕ) → j < 512 * (blocks + 1) → P j
  all_places a b j h = subst P (omega arith) (at (j / 512) (j % 512) (omega arith) (omega arith))
    where
      at : (k r : ℕ) → k < blocks + 1 → r < 512 → P (512 * k + r)
      at k r hk hr = go (dec_lt r 510)
        where
          go : Dec (r < 510) → P (512 * k + r)
          go (yes l) = a k r hk l
          go (no l) =
              let e : 510 + (r - 510) ≡ r = omega arith in
              subst (λ (x : ℕ). P (512 * k + x)) e (b k (r - 510) hk (omega arith))

-- ---- block 0
-- a list of four parts, of 8, 64, 128 and 310 elements
record Parts (s a b c e : List ℕ) : Type 0 where
  long : length s ≡ 510
  at_a : (r : ℕ) → r < 8 → get_or s r 0 ≡ get_or a r 0
  at_b : (r : ℕ) → r < 64 → get_or s (8 + r) 0 ≡ get_or b r 0
  at_c : (r : ℕ) → r < 128 → get_or s (72 + r) 0 ≡ get_or c r 0
  at_e : (r : ℕ) → get_or s (200 + r) 0 ≡ get_or e r 0

parts : (a b c e : List ℕ) → length a ≡ 8 → length b ≡ 64 → length c ≡ 128 → length e ≡ 310 → Parts (a ++ (b ++ (c ++ e))) a b c e
parts a b c e ea eb ec ee =
    record {
      long = simp length-append (omega arith);
      at_a = λ r h. get_or-append a (b ++ (c ++ e)) 0 r (omega arith);
      at_b = λ r h. past a (b ++ (c ++ e)) 8 r 0 ea ∙ get_or-append b (c ++ e) 0 r (omega arith);
      at_c = λ r h.
          same_place (a ++ (b ++ (c ++ e))) (72 + r) (8 + (64 + r)) (omega arith)
          ∙ past a (b ++ (c ++ e)) 8 (64 + r) 0 ea
          ∙ past b (c ++ e) 64 r 0 eb
          ∙ get_or-append c e 0 r (omega arith);
      at_e = λ r.
          same_place (a ++ (b ++ (c ++ e))) (200 + r) (8 + (64 + (128 + r))) (omega arith)
          ∙ past a (b ++ (c ++ e)) 8 (64 + (128 + r)) 0 ea
          ∙ past b (c ++ e) 64 (128 + r) 0 eb
          ∙ past c e 128 r 0 ec;
    }

module _ (n : Network) where
  first_parts : Parts (first_block n) (header_of n) (joined (slot_of n) 0 16) (joined (record_of n) 0 32) (replicate 310 0)
  unfolding first_block
  first_parts =
      parts (header_of n) (joined (slot_of n) 0 16) (joined (record_of n) 0 32) (replicate 310 0) refl
      (length_joined (slot_of n) 4 16 0 (λ p a b. refl))
      (length_joined (record_of n) 4 32 0 (λ p a b. refl))
      (length-replicate {A = ℕ} 310 0)

  first_slot : (p q : ℕ) → p < 16 → q < 4 → get_or (first_block n) (8 + (4 * p + q)) 0 ≡ get_or (slot_of n p) q 0
  first_slot p q hp hq = first_parts.at_b (4 * p + q) (omega arith) ∙ joined_at (slot_of n) 4 16 0 (λ p h. refl) p q hp hq

  first_channel : (c q : ℕ) → c < 32 → q < 4 → get_or (first_block n) (72 + (4 * c + q)) 0 ≡ get_or (record_of n c) q 0
  first_channel c q hc hq = first_parts.at_c (4 * c + q) (omega arith) ∙ joined_at (record_of n) 4 32 0 (λ c h. refl) c q hc hq

  first_zeros : (r : ℕ) → r < 310 → get_or (first_block n) (200 + r) 0 ≡ 0
  first_zeros r h = first_parts.at_e r ∙ get_or-replicate 310 r 0 0 h

-- ---- a code block
module _ (n : Network) (shaped : Shaped n) (few : blocks_of n ≤ 8) (k : ℕ) (h : k < blocks_of n) where
  code_part : length (take 508 (drop (508 * (k + 1 - 1)) n.code)) ≡ 508
  code_part = length_part n.code (508 * (k + 1 - 1)) 508 (omega (arith, shaped.code))

  code_long : length (code_block n (k + 1)) ≡ 510
  unfolding code_block
  code_long = length-append (take 508 (drop (508 * (k + 1 - 1)) n.code)) (two_bytes (k + 1)) ∙ ap (λ (m : ℕ). m + 2) code_part

  code_byte : (r : ℕ) → r < 508 → get_or (code_block n (k + 1)) r 0 ≡ get_or n.code (508 * k + r) 0
  unfolding code_block
  code_byte r l =
      get_or-append (take 508 (drop (508 * (k + 1 - 1)) n.code)) (two_bytes (k + 1)) 0 r (omega (arith, code_part))
      ∙ get_or-take 508 (drop (508 * (k + 1 - 1)) n.code) r 0 l
      ∙ get_or-drop (508 * (k + 1 - 1)) n.code r 0
      ∙ same_place n.code (508 * (k + 1 - 1) + r) (508 * k + r) (omega arith)

  code_number : (q : ℕ) → get_or (code_block n (k + 1)) (508 + q) 0 ≡ get_or (two_bytes (k + 1)) q 0
  unfolding code_block
  code_number q = past (take 508 (drop (508 * (k + 1 - 1)) n.code)) (two_bytes (k + 1)) 508 q 0 code_part

-- ---- the blocks of a file
-- what the check of block k is over
abbrev body_of : Network → ℕ → List ℕ
body_of n k = cond (eqb k 0) (first_block n) (code_block n k)

code_body : (n : Network) (k : ℕ) → body_of n (k + 1) ≡ code_block n (k + 1)
code_body n k = rw (ne_eqb (k + 1) 0 (omega arith))

module _ (n : Network) (shaped : Shaped n) (few : blocks_of n ≤ 8) where
  body_long : (k : ℕ) → k < blocks_of n + 1 → length (body_of n k) ≡ 510
  body_long zero h = (first_parts n).long
  body_long (suc k) h = rw (← add-one k) (ap length (code_body n k) ∙ code_long n shaped few k (omega arith))

  block_long : (k : ℕ) → k < blocks_of n + 1 → length (block_of n k) ≡ 512
  block_long k h = length-append (body_of n k) (two_bytes (crc (body_of n k))) ∙ ap (λ (m : ℕ). m + 2) (body_long k h)

  file_long : length (file_of n) ≡ 512 * (blocks_of n + 1)
  unfolding file_of
  file_long = length_joined (block_of n) 512 (blocks_of n + 1) 0 (λ k a b. block_long k (omega arith))

  file_at : (k r : ℕ) → k < blocks_of n + 1 → r < 512 → get_or (file_of n) (512 * k + r) 0 ≡ get_or (block_of n k) r 0
  unfolding file_of
  file_at k r hk hr = joined_at (block_of n) 512 (blocks_of n + 1) 0 block_long k r hk hr

  file_body : (k r : ℕ) → k < blocks_of n + 1 → r < 510 → get_or (file_of n) (512 * k + r) 0 ≡ get_or (body_of n k) r 0
  file_body k r hk hr =
      file_at k r hk (omega arith) ∙ get_or-append (body_of n k) (two_bytes (crc (body_of n k))) 0 r (omega (arith, body_long k hk))

  file_first : (r : ℕ) → r < 510 → get_or (file_of n) r 0 ≡ get_or (first_block n) r 0
  file_first r h = same_place (file_of n) r (512 * 0 + r) (omega arith) ∙ file_body 0 r (omega arith) h

  file_code : (k r : ℕ) → k < blocks_of n → r < 510 → get_or (file_of n) (512 * (k + 1) + r) 0 ≡ get_or (code_block n (k + 1)) r 0
  file_code k r hk hr = file_body (k + 1) r (omega arith) hr ∙ ap (λ (l : List ℕ). get_or l r 0) (code_body n k)

  file_check : (k q : ℕ) → k < blocks_of n + 1 → q < 2
      → get_or (file_of n) (512 * k + (510 + q)) 0 ≡ get_or (two_bytes (crc (take 510 (drop (512 * k) (file_of n))))) q 0
  file_check k q hk hq =
      file_at k (510 + q) hk (omega arith)
      ∙ past (body_of n k) (two_bytes (crc (body_of n k))) 510 q 0 (body_long k hk)
      ∙ ap (λ (l : List ℕ). get_or (two_bytes (crc l)) q 0)
      (sym (part_is (file_of n) (body_of n k) (512 * k) 510 (body_long k hk) (omega (arith, file_long)) (λ r hr. file_body k r hk hr)))

  -- a network's file holds it
  pub file_holds : Holds n (file_of n)
  file_holds =
      record {
        long = file_long;
        header = λ r h. file_first r (omega arith) ∙ (first_parts n).at_a r h;
        slot = λ p q hp hq. file_first (8 + (4 * p + q)) (omega arith) ∙ first_slot n p q hp hq;
        channel = λ c q hc hq. file_first (72 + (4 * c + q)) (omega arith) ∙ first_channel n c q hc hq;
        zeros = λ r h. file_first (200 + r) (omega arith) ∙ first_zeros n r h;
        code = λ k r hk hr. file_code k r hk (omega arith) ∙ code_byte n shaped few k hk r hr;
        number = λ k q hk hq. file_code k (508 + q) hk (omega arith) ∙ code_number n shaped few k hk q;
        check = file_check;
      }
