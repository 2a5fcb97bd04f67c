-- `host::lane_bench` meets its contract: a length is small, so that it is a signed 32-bit number, and a refusal's number is made negative.
-- Assumes nothing.
use mathlib.Core.Path.{sym, ap, ◌∙◌, subst}
use Prim.Native.Nat.{ℕ}
use lib.IntN.{pos, neg_ℤ}
use mir.Facts.{to_z-of_z}
use mir.Syntax.{w32}
use Rattle.std.specs.declared.result.Result as answer
use Rattle.base.specs.declared.Refusal.{Refusal}
use Rattle.bench.specs.Bench.{Result, told}
use Rattle.bench.proofs.Short.{Short, bench_short}
use Rattle.host.specs.Numbers.{number_told}
use Rattle.host.proofs.lane_bench.Goals as goal

pub length_number-requires : goal.length_number-requires
length_number-requires c =
    let short : Short (told c.bench.result) = subst Short (sym (ap (λ (r : Result). r.answer) c.bench.ensures)) (bench_short c.args.file.now c.args.input.now c.args.picks.now _ (λ i. (c.type_inv.file i).fits)) in
    subst (λ (a : answer.Result ℕ Refusal). Short (told a)) c.in-Ok.is short

pub returns-in-Ok : goal.returns-in-Ok
returns-in-Ok c = (
  to_z-of_z {w = w32} (record { sfits = c.length_number.type_inv })
      ∙ c.length_number.ensures
      ∙ ap number_told (sym (ap told c.in-Ok.is) ∙ ap (λ (r : Result). r.answer) c.bench.ensures),
  ap (λ (r : Result). r.listing) c.bench.ensures,
)

pub returns-in-Err : goal.returns-in-Err
returns-in-Err c = (
  to_z-of_z {w = w32} (record { sfits = c.refusal_number.type_inv })
      ∙ c.refusal_number.ensures
      ∙ ap (λ k. neg_ℤ (pos k)) c.from.ensures
      ∙ ap number_told (sym (ap told c.in-Err.is) ∙ ap (λ (r : Result). r.answer) c.bench.ensures),
  ap (λ (r : Result). r.listing) c.bench.ensures,
)
