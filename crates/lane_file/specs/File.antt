-- Document 01, "The lane file": the file of a network, block by block.
-- Assumes nothing.
use Rattle.std.specs.Prelude.{cond, List, [], ◌∷◌, ◌++◌, ℕ, ◌+◌, ◌-◌, ◌*◌, eqb, take, drop, replicate}
use Rattle.base.specs.Lists.{joined, two_bytes}
use Rattle.block_check.specs.Crc.{crc}
use Rattle.network.specs.declared.Network.{Network}
use Rattle.network.specs.Rules.{start_of, count_of, sender_of, receiver_of, capacity_of, total, blocks_for}

-- "Block 0: bytes 0, 1 are 4C 4E hex; 2 is 1; 3 is P; 4 is C; 5 is K; 6, 7 zero."
abbrev pub header_of : Network → List ℕ
header_of n = 0x4C ∷ 0x4E ∷ 1 ∷ n.processes ∷ n.channels ∷ blocks_for (total n) ∷ 0 ∷ 0 ∷ []

-- "From 8: 16 process slots, each first instruction and count, two bytes each."
abbrev pub slot_of : Network → ℕ → List ℕ
slot_of n p = two_bytes (start_of n p) ++ two_bytes (count_of n p)

-- "From 72: 32 channel records, each sender, receiver (one byte each) and capacity (two bytes)."
abbrev pub record_of : Network → ℕ → List ℕ
record_of n c = sender_of n c ∷ receiver_of n c ∷ two_bytes (capacity_of n c)

-- "The rest to 509 is zero."
unfoldable pub first_block : Network → List ℕ
first_block n = header_of n ++ (joined (slot_of n) 0 16 ++ (joined (record_of n) 0 32 ++ replicate 310 0))

-- "Code block k, 1 to K: 127 instructions of 4 bytes, then k in bytes 508 and 509."
unfoldable pub code_block : Network → ℕ → List ℕ
code_block n k = take 508 (drop (508 * (k - 1)) n.code) ++ two_bytes k

-- "Bytes 510 and 511 of each hold its check over bytes 0 to 509."
abbrev pub checked : List ℕ → List ℕ
checked block = block ++ two_bytes (crc block)

abbrev pub block_of : Network → ℕ → List ℕ
block_of n k = checked (cond (eqb k 0) (first_block n) (code_block n k))

-- "Blocks of 512 bytes": block 0 and K code blocks
abbrev pub size_of : Network → ℕ
size_of n = 512 * (blocks_for (total n) + 1)

unfoldable pub file_of : Network → List ℕ
file_of n = joined (block_of n) 0 (blocks_for (total n) + 1)
