-- Demand 2: "Reading and writing lane files undo each other, and a network has one file." Of the calls themselves: `read_of` is what
-- `lane_reader::read` promises, `write_of` what `lane_writer::write` promises. The theorems stand in proofs/RoundTrip.antt.
-- Assumes nothing.
use Rattle.std.specs.Prelude.{◌≡◌, true, List, ◌++◌, ℕ, ◌≤◌, ◌<◌, length, take, drop}
use Rattle.network.specs.declared.Network.{Network}
use Rattle.network.specs.Rules.{passes}
use Rattle.lane_file.specs.File.{file_of}
use Rattle.lane_file.specs.Read.{Bytes, accepted, read_of}
use Rattle.lane_file.specs.Write.{wrote, denied, outcome, write_of}

-- The arrays of a network have their lengths. Every value of the declared record has this shape: `network::Network` has arrays of 16, 16, 32, 32, 32
-- and 4,064 elements, and the definitions speak of lists. Nobody has to show it to make a call: `handed_shaped` of lane_writer/proofs/write shows it
-- of each network that `write` is handed, and `network_shaped` of proofs/Fields of each network that is read.
pub record Shaped (n : Network) : Type 0 where
  pub first : length n.first ≡ 16
  pub count : length n.count ≡ 16
  pub sender : length n.sender ≡ 32
  pub receiver : length n.receiver ≡ 32
  pub capacity : length n.capacity ≡ 32
  pub code : length n.code ≡ 4064

-- a list of bytes is read as a network
abbrev pub ReadAs : List ℕ → Network → Type 0
ReadAs s n = Bytes s × (read_of s ≡ record { answer = accepted; network = n })

-- ---- "Reading and writing lane files undo each other": first read, then written
-- A network that was read of a file is written as that file. With room for it the answer is its length, the file stands at the front of the buffer
-- and the rest of the buffer is as it was; a shorter buffer gets 15 and is as it was.
pub record WritesBack (s : List ℕ) (n : Network) (buffer : List ℕ) : Type 0 where
  pub room : length s ≤ length buffer → write_of n buffer ≡ outcome (wrote (length s)) (s ++ drop (length s) buffer)
  pub short : length buffer < length s → write_of n buffer ≡ outcome (denied 15) buffer

abbrev pub WriteAfterRead : Type 0
WriteAfterRead = (s : List ℕ) (n : Network) → ReadAs s n → (buffer : List ℕ) → WritesBack s n buffer

-- ---- first written, then read
-- Where writing a network answers a length, that many bytes from the front of the buffer are accepted, and read as that network.
abbrev pub ReadAfterWrite : Type 0
ReadAfterWrite =
    (n : Network) → Shaped n → (buffer : List ℕ) (k : ℕ) → (write_of n buffer).answer ≡ wrote k
    → read_of (take k (write_of n buffer).buffer) ≡ record { answer = accepted; network = n }

-- ---- "a network has one file"
pub record OneFileOf (n : Network) (file : List ℕ) : Type 0 where
  -- it is read as the network
  pub read : ReadAs file n
  -- nothing else is
  pub only : (s : List ℕ) → ReadAs s n → s ≡ file
  -- and it is what is written, into whatever buffer
  pub written : (buffer : List ℕ) (k : ℕ) → (write_of n buffer).answer ≡ wrote k → take k (write_of n buffer).buffer ≡ file

-- Each network that passes the file's rules has one, and no other network has any (`written_read`). That the code is bytes is the type of its array:
-- `handed_bytes` beside `handed_shaped` shows it.
abbrev pub OneFile : Type 0
OneFile = (n : Network) → Shaped n → Bytes n.code → passes n ≡ true → OneFileOf n (file_of n)
