-- Laws of the blocks of a file: their lengths, and how a block is written.
-- Assumes nothing.
use mathlib.Core.Path.{◌≡◌, refl, ◌∙◌}
use mathlib.Core.List.{List, ◌++◌}
use Prim.Native.Nat.{ℕ, ◌+◌, ◌-◌, ◌*◌, ◌≤◌}
use native.Mathlib.Decide.{ℕ_discrete}
use native.Mathlib.Numerals.{add-one}
use native.Mathlib.Omega.{arith}
use borrow.Author.Tests.{ne_eqb}
use lib.ListN.{length, take, drop, replicate, length-append, length-replicate}
use Rattle.base.specs.Lists.{joined, two_bytes}
use Rattle.block_check.specs.Crc.{crc}
use Rattle.network.specs.declared.Network.{Network}
use Rattle.network.specs.Rules.{total, blocks_for}
use Rattle.lane_writer.specs.Put.{put}
use Rattle.lane_file.specs.File.{header_of, slot_of, record_of, first_block, code_block, checked, block_of, size_of, file_of}
use Rattle.lane_file.proofs.Joined.{length_joined, length_part}
use Rattle.lane_writer.proofs.Stores.{put_put, put_part, put_front, joined_next}

-- ---- lengths: lists of four joined, block 0, the code of a block, a block, the file
pub length_fours : (f : ℕ → List ℕ) → ((p : ℕ) → length (f p) ≡ 4) → (n : ℕ) → length (joined f 0 n) ≡ 4 * n
length_fours f g n = length_joined f 4 n 0 (λ p a b. g p)

length_four : (a b d z : List ℕ) → length a ≡ 8 → length b ≡ 64 → length d ≡ 128 → length z ≡ 310 → length (a ++ (b ++ (d ++ z))) ≡ 510
length_four a b d z la lb ld lz = simp length-append (omega arith)

pub length_first : (n : Network) → length (first_block n) ≡ 510
unfolding first_block
length_first n =
    length_four (header_of n) (joined (slot_of n) 0 16) (joined (record_of n) 0 32) (replicate 310 0) refl
    (length_fours (slot_of n) (λ p. refl) 16) (length_fours (record_of n) (λ c. refl) 32) (length-replicate {A = ℕ} 310 0)

pub length_code : (bytes : List ℕ) (k : ℕ) → length bytes ≡ 4064 → 1 ≤ k → k ≤ 8 → length (take 508 (drop (508 * (k - 1)) bytes)) ≡ 508
length_code bytes k e l h = length_part bytes (508 * (k - 1)) 508 (omega arith)

-- block k from 1 on: a code block
pub code_is : (n : Network) (k : ℕ) → 1 ≤ k → block_of n k ≡ checked (take 508 (drop (508 * (k - 1)) n.code) ++ two_bytes k)
unfolding code_block
code_is n k h = rw (ne_eqb k 0 (λ q. omega arith))

pub length_block : (n : Network) → length n.code ≡ 4064 → (k : ℕ) → k ≤ 8 → length (block_of n k) ≡ 512
length_block n e k h = go (ℕ_discrete k 0)
  where
    go : Dec (k ≡ 0) → length (block_of n k) ≡ 512
    go (yes q) = rw q (length-append (first_block n) (two_bytes (crc (first_block n))) ∙ rw (length_first n))
    go (no q) =
        let l : 1 ≤ k = omega arith in
        rw (code_is n k l, length-append, length-append, length_code n.code k e l h)

pub length_file : (n : Network) → length n.code ≡ 4064 → blocks_for (total n) ≤ 8 → length (file_of n) ≡ size_of n
unfolding file_of
length_file n e h = length_joined (block_of n) 512 (blocks_for (total n) + 1) 0 (λ k a b. length_block n e k (omega arith))

-- block 0 and the code blocks
pub file_is : (n : Network) → file_of n ≡ checked (first_block n) ++ joined (block_of n) 1 (blocks_for (total n))
unfolding file_of joined
file_is n = rw add-one

-- ---- a block and its check
pub put_checked : (block old t s : List ℕ) (at : ℕ) → length block ≡ 510 → at + 510 ≤ length old → t ≡ put old at block
    → s ≡ put t (at + 510) (two_bytes (crc (take 510 (drop at t))))
    → s ≡ put old at (checked block)
put_checked block old t s at e h p q =
    rw (q, p, put_part block old at 510 e h) (put_put block (two_bytes (crc block)) old at (at + 510) (omega arith))

-- the four parts of block 0
pub put_four : (a b d z old l₁ l₂ l₃ l₄ : List ℕ) → length a ≡ 8 → length b ≡ 64 → length d ≡ 128
    → l₁ ≡ put old 0 a
    → l₂ ≡ put l₁ 8 b
    → l₃ ≡ put l₂ 72 d
    → l₄ ≡ put l₃ 200 z
    → l₄ ≡ put old 0 (a ++ (b ++ (d ++ z)))
put_four a b d z old l₁ l₂ l₃ l₄ la lb ld e₁ e₂ e₃ e₄ =
    e₄ ∙ rw (e₃, put_put d z l₂ 72 200 (omega arith), e₂, put_put b (d ++ z) l₁ 8 72 (omega arith), e₁)
    (put_put a (b ++ (d ++ z)) old 0 8 (omega arith))

-- ---- the blocks in turn
pub block_more : (n : Network) (old l new : List ℕ) (k : ℕ) → length n.code ≡ 4064 → 1 ≤ k → k ≤ 8
    → l ≡ put old 512 (joined (block_of n) 1 (k - 1))
    → new ≡ put l (512 * k) (checked (take 508 (drop (508 * (k - 1)) n.code) ++ two_bytes k))
    → new ≡ put old 512 (joined (block_of n) 1 (k + 1 - 1))
block_more n old l new k e a b p q =
    let i : 1 + (k - 1) ≡ k = omega arith in
    let j : k + 1 - 1 ≡ k - 1 + 1 = omega arith in
    rw (q, ← code_is n k a, j)
    (rw i at (joined_next (block_of n) 512 1 old l 512 (512 * k) (k - 1) (λ m c d. length_block n e m (omega arith)) p (omega arith)))

pub whole : (n : Network) (old first l : List ℕ) → length n.code ≡ 4064 → blocks_for (total n) ≤ 8 → size_of n ≤ length old
    → first ≡ put old 0 (checked (first_block n))
    → l ≡ put first 512 (joined (block_of n) 1 (blocks_for (total n)))
    → l ≡ file_of n ++ drop (size_of n) old
whole n old first l e b h p q =
    rw (q, p, put_put (checked (first_block n)) (joined (block_of n) 1 (blocks_for (total n))) old 0 512 (omega (arith, length_block n e 0 (omega arith))), ← file_is n)
    (put_front (file_of n) old (size_of n) (length_file n e b) h)
