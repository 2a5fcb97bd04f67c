use mathlib.Core.Path.{◌≡◌, refl, sym, ap, ap₂, ◌∙◌}
use mathlib.Core.Bool.{Bool, false, ◌&&◌}
use Prim.Native.Nat.{ℕ, ◌+◌, ◌-◌, ◌*◌, ◌<◌}
use borrow.Author.Tests.{eq-eqb, ne_eqb}
use lib.ListN.{get_or}
use native.Mathlib.Omega.{arith}
use borrow.Author.Rules.{rules}
use Rattle.base.specs.Tests.{is_good}
use Rattle.network.specs.Rules.{instructions}
use Rattle.flags.specs.Clean.{clean}
use Rattle.instruction_sums.specs.Sums.{flags}
use Rattle.flags.proofs.Clean.{laid, one, none}
use Rattle.passing.proofs.Codes.{all_right, last_right, sums_clean, of_all}
use Rattle.passing.proofs.Lasts.{clean_last, table_small}
use Rattle.instruction_words.proofs.Words.{opcode_small, channel_small}
use Rattle.passing.proofs.code_right.Goals as goal

pub loop-p-init : goal.loop-p-init
loop-p-init c =
    let n = c.args.net.now in
    (omega arith, c.opcode_words.ensures, none flags (all_right n) 0 0 refl, none 247 (last_right n) 0 0 refl)

pub invariant_of-sums : goal.invariant_of-sums
invariant_of-sums c =
    record {
      room_by_opcode = rw c.count_words.ensures (table_small _ (λ k h. opcode_small _ c.loop-p.p k (omega arith)));
      room_by_channel = rw c.channel_words.ensures (table_small _ (λ k h. channel_small _ _ _ k));
    }

pub loop-p-preserved : goal.loop-p-preserved
loop-p-preserved c =
    let n = c.args.net.now in
    let p = c.loop-p.p in
    let i = c.loop-p.invariant in
    let placed = c.requires.2 p (omega arith) in
    let bytes : (k : ℕ) → get_or n.code k 0 < 256 = λ k. search rules in
    let fields : clean flags c.run-all.result ≡ all_right n p = rw (c.run-all.ensures, c.count_words.ensures, c.channel_words.ensures, c.from-start.ensures, c.from-n.ensures) (sums_clean n bytes p (omega arith) placed.0 placed.1 c.requires.1) in
    let op : ℕ = get_or n.code (4 * (c.from-start.result + c.from-n.result) - 4) 0 in
    let last : clean 247 op ≡ last_right n p = rw (c.from-start.ensures, c.from-n.ensures) (clean_last _ (bytes _)) in (
      rw c.from-n.ensures placed.1,
      c.next_words.ensures,
      laid flags (all_right n) 0 p 1 c.loop-p.all c.run-all.result i.2 (one flags (all_right n) c.run-all.result (0 + p) (fields ∙ ap (all_right n) (omega arith))),
      laid 247 (last_right n) 0 p 1 c.loop-p.last op i.3 (one 247 (last_right n) op (0 + p) (last ∙ ap (last_right n) (omega arith))),
    )

-- the answers for all processes are those of the network
pub returns-then-all-eq0 : goal.returns-then-all-eq0
returns-then-all-eq0 c =
    let l = c.loop-p in
    let n = c.args.net.now in
    let e : l.p ≡ n.processes = omega arith in
    let answer : (clean flags l.all && clean 247 l.last) ≡ is_good (instructions n) = ap₂ ◌&&◌ (rw e at l.invariant.2) (rw e at l.invariant.3) ∙ sym (of_all n c.requires.2) in
    ap (λ (b : Bool). b && clean 247 l.last) (sym (eq-eqb _ _ c.if-all-eq0.true)) ∙ answer

pub returns-else-all-eq0 : goal.returns-else-all-eq0
returns-else-all-eq0 c =
    let l = c.loop-p in
    let n = c.args.net.now in
    let e : l.p ≡ n.processes = omega arith in
    let answer : (clean flags l.all && clean 247 l.last) ≡ is_good (instructions n) = ap₂ ◌&&◌ (rw e at l.invariant.2) (rw e at l.invariant.3) ∙ sym (of_all n c.requires.2) in
    let f : clean flags l.all ≡ false = ne_eqb _ _ c.if-all-eq0.false in
    f ∙ sym (ap (λ (b : Bool). b && clean 247 l.last) f) ∙ answer
