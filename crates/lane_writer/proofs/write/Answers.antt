-- `lane_writer::write` meets its contract, answer by answer.
-- Assumes nothing.
use mathlib.Core.Path.{◌≡◌, sym, ◌∙◌}
use mathlib.Core.Bool.{true, false}
use Prim.Native.Nat.{◌≤◌, ◌<◌}
use native.Mathlib.Omega.{arith}
use borrow.Author.Rules.{rules}
use borrow.Author.Tests.{lt-ltb, le-ltb}
use lib.ListN.{length}
use Rattle.network.specs.declared.Network.{Network}
use Rattle.network.specs.Rules.{total, passes}
use Rattle.network.proofs.Passed.{Passed, passed}
use Rattle.lane_file.specs.File.{size_of}
use Rattle.lane_file.specs.Write.{write_of}
use Rattle.lane_file.specs.Read.{Bytes}
use Rattle.lane_file.specs.RoundTrip.{Shaped}
use Rattle.lane_writer.proofs.write.Goals.{Start}
use Rattle.lane_writer.proofs.write.Goals as goal

-- what the round trip of lane_file asks of a network holds of each that is handed in, by the types of its arrays
pub handed_shaped : (c : Start) → Shaped c.args.net
handed_shaped c =
    record {
      first = search rules;
      count = search rules;
      sender = search rules;
      receiver = search rules;
      capacity = search rules;
      code = search rules;
    }

pub handed_bytes : (c : Start) → Bytes c.args.net.code
handed_bytes c k = search rules

pub returns-then-not-passes : goal.returns-then-not-passes
unfolding write_of
returns-then-not-passes c =
    let net : Network = c.args.net in
    let h : passes net ≡ false = sym c.passes.ensures ∙ c.if-not-passes.true in rw h

pub total-requires : goal.total-requires
total-requires c =
    let net : Network = c.args.net in
    let holds : passes net ≡ true = sym c.passes.ensures ∙ c.if-not-passes.false in
    let rules : Passed net = passed net holds in
    rules.processes_high

pub overflow_add-blocks : goal.overflow_add-blocks
overflow_add-blocks c =
    let net : Network = c.args.net in
    let holds : passes net ≡ true = sym c.passes.ensures ∙ c.if-not-passes.false in
    let rules : Passed net = passed net holds in
    let told : c.total.result ≡ total net = c.total.ensures in
    let small : c.total.result ≤ 1016 = let r = rules in omega (arith, told) in
    omega (arith, small)

pub overflow_mul-size : goal.overflow_mul-size
overflow_mul-size c =
    let net : Network = c.args.net in
    let holds : passes net ≡ true = sym c.passes.ensures ∙ c.if-not-passes.false in
    let rules : Passed net = passed net holds in
    let told : c.total.result ≡ total net = c.total.ensures in
    let small : c.total.result ≤ 1016 = let r = rules in omega (arith, told) in
    omega (arith, small)

pub returns-then-room-size : goal.returns-then-room-size
unfolding write_of
returns-then-room-size c =
    let net : Network = c.args.net in
    let holds : passes net ≡ true = sym c.passes.ensures ∙ c.if-not-passes.false in
    let told : c.total.result ≡ total net = c.total.ensures in
    let b = c.args.buffer.now in
    let n = net in
    let short : length b < size_of n = omega (arith, told) in
    rw (holds, lt-ltb (length b) (size_of n) short)

pub overflow_cast-blocks : goal.overflow_cast-blocks
overflow_cast-blocks c =
    let net : Network = c.args.net in
    let holds : passes net ≡ true = sym c.passes.ensures ∙ c.if-not-passes.false in
    let rules : Passed net = passed net holds in
    let told : c.total.result ≡ total net = c.total.ensures in
    let small : c.total.result ≤ 1016 = let r = rules in omega (arith, told) in
    omega (arith, small)

pub file-requires : goal.file-requires
file-requires c =
    let net : Network = c.args.net in
    let holds : passes net ≡ true = sym c.passes.ensures ∙ c.if-not-passes.false in
    let rules : Passed net = passed net holds in
    let told : c.total.result ≡ total net = c.total.ensures in
    let r = rules in omega (arith, told)

pub returns : goal.returns
unfolding write_of
returns c =
    let net : Network = c.args.net in
    let holds : passes net ≡ true = sym c.passes.ensures ∙ c.if-not-passes.false in
    let told : c.total.result ≡ total net = c.total.ensures in
    let b = c.args.buffer.now in
    let n = net in
    let enough : size_of n ≤ length b = omega (arith, told) in
    rw (holds, le-ltb (length b) (size_of n) enough, told, c.file.ensures)
