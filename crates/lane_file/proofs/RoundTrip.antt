-- Reading and writing lane files undo each other, and a network has one file: of `file_of` first, and then of what the calls do.
-- Assumes nothing.
use mathlib.Core.Path.{◌≡◌, refl, sym, ap, ◌∙◌}
use mathlib.Core.Bool.{Bool, true, false, cond, not}
use mathlib.Core.List.{List, ◌++◌}
use Prim.Native.Nat.{ℕ, ◌≤◌, ◌<◌}
use native.Mathlib.Omega.{arith}
use borrow.Author.Tests.{lt-ltb, le-ltb}
use lib.Dec.{ltb}
use lib.ListN.{length, take, drop}
use lib.Seq.{take_at}
use Rattle.network.specs.declared.Network.{Network}
use Rattle.network.specs.Rules.{passes}
use Rattle.network.proofs.Passed.{Passed, passed, passed_back}
use Rattle.lane_file.specs.File.{size_of, file_of}
use Rattle.lane_file.specs.Read.{Bytes, accepted, network_of, answer_in, or_none, Result, read_of}
use Rattle.lane_file.specs.Write.{wrote, denied, outcome, write_of}
pub use Rattle.lane_file.specs.RoundTrip.{Shaped}
use Rattle.lane_file.specs.RoundTrip.{WriteAfterRead, ReadAfterWrite, OneFile}
use Rattle.lane_file.proofs.Places.{blocks_of, file_holds}
use Rattle.lane_file.proofs.Unique.{one_file_holds}
use Rattle.lane_file.proofs.Verdicts.{seven, seven_back}
use Rattle.lane_file.proofs.Fields.{network_shaped, network_is}
use Rattle.lane_file.proofs.Accepts.{passes_seven}
use Rattle.lane_file.proofs.Held.{read_holds, read_passed}
use Rattle.lane_file.proofs.InBytes.{holds_bytes}

-- at most 8 code blocks
few_blocks : (n : Network) → Passed n → blocks_of n ≤ 8
few_blocks n p = omega (arith, p.total_high)

-- a reading that is accepted, and back
accepted_as : (s : List ℕ) (n : Network) → network_of s ≡ n → answer_in s n ≡ accepted → read_of s ≡ record { answer = accepted; network = n }
unfolding read_of
accepted_as s n p q = rw (p, q)

accepted_parts : (s : List ℕ) (n : Network) → read_of s ≡ record { answer = accepted; network = n }
    → (answer_in s (network_of s) ≡ accepted) × (network_of s ≡ n)
unfolding read_of
accepted_parts s n e =
    let a : answer_in s (network_of s) ≡ accepted = ap (λ (r : Result). r.answer) e in
    (a, sym (ap (λ t. or_none t (network_of s)) a) ∙ ap (λ (r : Result). r.network) e)

-- Writing and then reading gives the network back: the file of a network that passes the file's rules is accepted, and read as that network.
pub read_written : (n : Network) → Shaped n → passes n ≡ true → read_of (file_of n) ≡ record { answer = accepted; network = n }
read_written n shaped e =
    let p = passed n e in
    let h = file_holds n shaped (few_blocks n p) in
    accepted_as (file_of n) n (network_is n (file_of n) h shaped p) (seven_back (file_of n) n (passes_seven n (file_of n) h p))

-- Reading and then writing gives the file back: the network of an accepted file passes the file's rules, and its file is that very list of bytes.
pub written_read : (s : List ℕ) (n : Network) → Bytes s → read_of s ≡ record { answer = accepted; network = n }
    → (passes n ≡ true) × (file_of n ≡ s)
written_read s n bytes e =
    let a = accepted_parts s n e in
    let v = seven s (network_of s) a.0 in
    let p = read_passed s bytes v in
    let h = file_holds (network_of s) (network_shaped s) (few_blocks (network_of s) p) in
    (rw a.1 at (passed_back p), rw a.1 at (one_file_holds (network_of s) (file_of (network_of s)) s h (read_holds s bytes v)))

-- A network has one file: two lists of bytes that are accepted as the same network are equal.
pub one_file : (s t : List ℕ) (n : Network) → Bytes s → Bytes t → read_of s ≡ record { answer = accepted; network = n }
    → read_of t ≡ record { answer = accepted; network = n } → s ≡ t
one_file s t n bs bt es et = sym (written_read s n bs es).1 ∙ (written_read t n bt et).1

-- ---- of the calls
-- the file has the length that is answered
pub size_is : (n : Network) → Shaped n → passes n ≡ true → length (file_of n) ≡ size_of n
size_is n shaped e = (file_holds n shaped (few_blocks n (passed n e))).long

-- a network that passes is written where there is room; where writing answers a length, the network passes and was written
written_as : (n : Network) (buffer : List ℕ) → passes n ≡ true → size_of n ≤ length buffer
    → write_of n buffer ≡ outcome (wrote (size_of n)) (file_of n ++ drop (size_of n) buffer)
unfolding write_of
written_as n buffer e h = rw (e, le-ltb (length buffer) (size_of n) h)

denied_as : (n : Network) (buffer : List ℕ) → passes n ≡ true → length buffer < size_of n → write_of n buffer ≡ outcome (denied 15) buffer
unfolding write_of
denied_as n buffer e h = rw (e, lt-ltb (length buffer) (size_of n) h)

written_parts : (n : Network) (buffer : List ℕ) (k : ℕ) → (write_of n buffer).answer ≡ wrote k
    → (passes n ≡ true) × (size_of n ≡ k) × ((write_of n buffer).buffer ≡ file_of n ++ drop (size_of n) buffer)
unfolding write_of
written_parts n buffer k e = go (passes n) refl (ltb (length buffer) (size_of n)) refl e
  where
    go : (a : Bool) → passes n ≡ a → (b : Bool) → ltb (length buffer) (size_of n) ≡ b
        → (cond (not a) (outcome (denied 16) buffer) (cond b (outcome (denied 15) buffer) (outcome (wrote (size_of n)) (file_of n ++ drop (size_of n) buffer)))).answer ≡ wrote k
        → (passes n ≡ true) × (size_of n ≡ k) × ((write_of n buffer).buffer ≡ file_of n ++ drop (size_of n) buffer)
    go true p false q e = (p, cc, rw (p, q))
    go true p true q e = let z : ◌≡◌ {A = ℕ} 0 1 = cc in absurd (omega arith)
    go false p b q e = let z : ◌≡◌ {A = ℕ} 0 1 = cc in absurd (omega arith)

-- the bytes that were written are the file
front_is : (n : Network) → Shaped n → (buffer : List ℕ) (k : ℕ) → (write_of n buffer).answer ≡ wrote k → take k (write_of n buffer).buffer ≡ file_of n
front_is n shaped buffer k e =
    let w = written_parts n buffer k e in
    rw w.2 (take_at (file_of n) (drop (size_of n) buffer) k (size_is n shaped w.0 ∙ w.1))

pub write_after_read : WriteAfterRead
write_after_read s n (bytes, e) buffer =
    let w = written_read s n bytes e in
    let shaped : Shaped n = rw (accepted_parts s n e).1 at (network_shaped s) in
    let long : size_of n ≡ length s = sym (size_is n shaped w.0) ∙ ap length w.1 in
    record {
      room = λ h. written_as n buffer w.0 (omega arith) ∙ rw (w.1, long);
      short = λ h. denied_as n buffer w.0 (omega arith);
    }

pub read_after_write : ReadAfterWrite
read_after_write n shaped buffer k e = rw (front_is n shaped buffer k e) (read_written n shaped (written_parts n buffer k e).0)

pub has_one_file : OneFile
has_one_file n shaped bytes e =
    let p = passed n e in
    record {
      read = (holds_bytes n p bytes (file_of n) (file_holds n shaped (few_blocks n p)), read_written n shaped e);
      only = λ s r. sym (written_read s n r.0 r.1).1;
      written = front_is n shaped;
    }
