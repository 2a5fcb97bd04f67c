-- The hypotheses of the round trip are met: by document 01's sample lane, "One process, channel 0 in, 1 out, capacities 1", whose file has two blocks.
-- Two more files, of other networks, stand in kahn_witnesses/proofs/Witness.
-- Assumes nothing.
use mathlib.Core.Path.{◌≡◌, refl, ap}
use mathlib.Core.Bool.{true}
use mathlib.Core.List.{List, [], ◌∷◌, ◌++◌}
use Prim.Native.Nat.{ℕ, ◌≤◌}
use native.Mathlib.Omega.{arith}
use lib.ListN.{length, take, drop, replicate}
use Rattle.base.specs.Tests.{in_turn}
use Rattle.network.specs.declared.Network.{Network}
use Rattle.network.specs.Code.{fields_right, stands_right}
use Rattle.network.specs.Rules.{slots, ends_right, records, instruction_right, code_of, instructions, unused_slots, unused_records, passes}
use Rattle.network.proofs.Unused.{passes_by}
use Rattle.lane_file.specs.File.{file_of}
use Rattle.lane_file.specs.Read.{Bytes, accepted, read_of}
use Rattle.lane_file.specs.Write.{wrote, Outcome, outcome, write_of}
use Rattle.lane_file.specs.RoundTrip.{Shaped, ReadAs, OneFileOf}
use Rattle.lane_file.proofs.InBytes.{bytes_by}
use Rattle.lane_file.proofs.RoundTrip.{size_is, write_after_read, read_after_write, has_one_file}

-- "code (11,0,0,4) (3,0,0,0) (12,0,1,0) (8,0,0,0) (0,0,0,0)"
abbrev pub program : List ℕ
program = 11 ∷ 0 ∷ 0 ∷ 4 ∷ 3 ∷ 0 ∷ 0 ∷ 0 ∷ 12 ∷ 0 ∷ 1 ∷ 0 ∷ 8 ∷ 0 ∷ 0 ∷ 0 ∷ 0 ∷ 0 ∷ 0 ∷ 0 ∷ []

-- with any capacity for both channels
abbrev pub with_capacity : ℕ → Network
with_capacity capacity =
    record {
      processes = 1;
      channels = 2;
      first = replicate 16 0;
      count = 5 ∷ replicate 15 0;
      sender = 255 ∷ 0 ∷ replicate 30 0;
      receiver = 0 ∷ 255 ∷ replicate 30 0;
      capacity = capacity ∷ capacity ∷ replicate 30 0;
      code = program ++ replicate 4044 0;
    }

abbrev pub sample : Network
sample = with_capacity 1

pub shaped : (k : ℕ) → Shaped (with_capacity k)
shaped k = record { first = refl; count = refl; sender = refl; receiver = refl; capacity = refl; code = refl }

sample_bytes : Bytes sample.code
sample_bytes = bytes_by sample.code refl

sample_passes : passes sample ≡ true
unfolding slots records ends_right unused_slots unused_records instructions code_of instruction_right stands_right fields_right in_turn
sample_passes = passes_by sample program 4044 refl (omega arith) refl

-- it has one file, which is accepted, of two blocks
pub sample_file : OneFileOf sample (file_of sample)
sample_file = has_one_file sample (shaped 1) sample_bytes sample_passes

pub sample_read : ReadAs (file_of sample) sample
sample_read = sample_file.read

pub sample_long : length (file_of sample) ≡ 1024
sample_long = size_is sample (shaped 1) sample_passes

-- written into any buffer with room
pub sample_written : (buffer : List ℕ) → 1024 ≤ length buffer → write_of sample buffer ≡ outcome (wrote 1024) (file_of sample ++ drop 1024 buffer)
sample_written buffer h = simp sample_long at ((write_after_read (file_of sample) sample sample_read buffer).room (omega (arith, sample_long)))

-- and read again
pub sample_again : (buffer : List ℕ) → 1024 ≤ length buffer → read_of (take 1024 (write_of sample buffer).buffer) ≡ record { answer = accepted; network = sample }
sample_again buffer h = read_after_write sample (shaped 1) buffer 1024 (ap (λ (o : Outcome). o.answer) (sample_written buffer h))
