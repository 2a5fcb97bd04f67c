-- What a network that passes the file's rules has, fact by fact, and back.
-- Assumes nothing.
use mathlib.Core.Path.{◌≡◌}
use mathlib.Core.Bool.{true, false}
use Prim.Native.Nat.{◌≤◌}
use borrow.Author.Tests.{leb-true, le-leb}
use native.Mathlib.Omega.{arith}
use Rattle.std.specs.declared.result.Result.TheVariants.{Ok}
use Rattle.base.specs.Tests.{is_good}
use Rattle.network.specs.declared.Network.{Network}
use Rattle.network.specs.Rules.{slots, total, blocks_for, records, unused_slots, unused_records, unused_code, unused_zero, instructions, passes}
use Rattle.base.proofs.Conjunction.{both_true, good_is, between_true, true_between, is_false}
use Rattle.network.proofs.Slot.{right_at, ends_within}

pub record Passed (n : Network) : Type 0 where
  pub processes_low : 1 ≤ n.processes
  pub processes_high : n.processes ≤ 16
  pub channels_low : 1 ≤ n.channels
  pub channels_high : n.channels ≤ 32
  pub slots_good : slots n ≡ Ok tt
  pub total_low : 1 ≤ total n
  pub total_high : total n ≤ 1016
  pub records_good : records n ≡ Ok tt
  pub unused_slots_good : unused_slots n ≡ Ok tt
  pub unused_records_good : unused_records n ≡ Ok tt
  pub unused_code_good : unused_code n ≡ Ok tt
  pub instructions_good : instructions n ≡ Ok tt

-- a process has an instruction, so the total is at least 1
pub total_positive : (n : Network) → 1 ≤ n.processes → slots n ≡ Ok tt → 1 ≤ total n
total_positive n h g = omega (arith, right_at n g 0 h, ends_within n g 0 h)

pub unused_good : (n : Network) → unused_zero n ≡ true → (unused_slots n ≡ Ok tt) × (unused_records n ≡ Ok tt) × (unused_code n ≡ Ok tt)
unused_good n e =
    let k = both_true _ (is_good (unused_code n)) e in
    let u = both_true (is_good (unused_slots n)) _ k.0 in
    (good_is _ u.0, good_is _ u.1, good_is _ k.1)

pub passed : (n : Network) → passes n ≡ true → Passed n
unfolding passes
passed n e =
    let i = both_true _ (is_good (instructions n)) e in
    let z = both_true _ (unused_zero n) i.0 in
    let r = both_true _ (is_good (records n)) z.0 in
    let t = both_true _ _ r.0 in
    let s = both_true _ (is_good (slots n)) t.0 in
    let p = both_true _ _ s.0 in
    let u = unused_good n z.1 in
    let processes = between_true 1 n.processes 16 p.0 in
    let channels = between_true 1 n.channels 32 p.1 in
    let blocks = leb-true (blocks_for (total n)) 8 t.1 in
    let good = good_is (slots n) s.1 in
    record {
      processes_low = processes.0;
      processes_high = processes.1;
      channels_low = channels.0;
      channels_high = channels.1;
      slots_good = good;
      total_low = total_positive n processes.0 good;
      total_high = omega arith;
      records_good = good_is _ r.1;
      unused_slots_good = u.0;
      unused_records_good = u.1;
      unused_code_good = u.2;
      instructions_good = good_is _ i.1;
    }

pub passed_back : {n : Network} → Passed n → passes n ≡ true
unfolding passes
passed_back {n} p =
    rw (
      true_between 1 n.processes 16 p.processes_low p.processes_high,
      true_between 1 n.channels 32 p.channels_low p.channels_high,
      p.slots_good,
      le-leb (blocks_for (total n)) 8 (omega arith),
      p.records_good,
      p.unused_slots_good,
      p.unused_records_good,
      p.unused_code_good,
      p.instructions_good,
    )

-- where one of the facts fails, the network does not pass
pub refused : (n : Network) → (Passed n → ⊥) → passes n ≡ false
refused n h = is_false (passes n) (λ e. h (passed n e))
