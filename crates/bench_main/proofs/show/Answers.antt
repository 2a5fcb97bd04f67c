-- `bench_main::show` is safe and ends: a listing that is answered lies in the buffer.
-- Assumes nothing.
use mathlib.Core.Path.{sym, ap, subst}
use Prim.Native.Nat.{ℕ}
use native.Mathlib.Omega.{arith}
use lib.ListN.{length-take}
use Rattle.std.specs.declared.result.Result as answer
use Rattle.base.specs.declared.Refusal.{Refusal}
use Rattle.bench.specs.Bench.{Result, told}
use Rattle.bench.proofs.Short.{Short, bench_short}
use Rattle.bench_main.proofs.show.Goals as goal

pub slice_bounds-listing-end : goal.slice_bounds-listing-end
slice_bounds-listing-end c =
    let short : Short (told c.bench.result) = subst Short (sym (ap (λ (r : Result). r.answer) c.bench.ensures)) (bench_short c.args.file.now c.args.input.now c.args.picks.now _ (λ k. (c.type_inv.file k).fits)) in
    let few = subst (λ (a : answer.Result ℕ Refusal). Short (told a)) c.in-Ok.is short in
    omega (arith, few)

pub slice_bounds-write_all-end : goal.slice_bounds-write_all-end
slice_bounds-write_all-end c =
    let short : Short (told c.bench.result) = subst Short (sym (ap (λ (r : Result). r.answer) c.bench.ensures)) (bench_short c.args.file.now c.args.input.now c.args.picks.now _ (λ k. (c.type_inv.file k).fits)) in
    let few = subst (λ (a : answer.Result ℕ Refusal). Short (told a)) c.in-Ok.is short in
    omega (arith, few, length-take c.in-Ok.length c.bench.new.listing)
