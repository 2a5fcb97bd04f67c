-- `lane_reader::read` meets its contract: each return is the result of the first test that fails, or of none.
-- Assumes nothing.
use mathlib.Core.Path.{◌≡◌, sym, ap, ◌∙◌}
use mathlib.Core.Bool.{true}
use mathlib.Core.List.{List}
use Prim.Native.Nat.{ℕ}
use native.Mathlib.Omega.{arith}
use lib.ListN.{length}
use Rattle.std.specs.declared.result.Result.TheVariants.{Ok}
use Rattle.std.proofs.lemmas.Result.{err_from_is_err_and}
use Rattle.lane_file.proofs.Verdicts.{headed}
use Rattle.lane_file.specs.Read.{network_of, length_right, checks, header, told}
use Rattle.file_blocks.proofs.Sized.{sized}
use Rattle.lane_reader.proofs.Answers.{first_told, first_refused, first_passed, result_refused, result_accepted}
use Rattle.lane_reader.proofs.read.Goals as goal

pub returns-in_err-opened : goal.returns-in_err-opened
returns-in_err-opened c =
    let s = c.args.s.now in
    let p = err_from_is_err_and c.from_residual.result c.from_residual.ensures.1 in
    result_refused _ _ s p.1 (rw p.2 (first_refused s (network_of s) _ _ (sym c.opened.ensures ∙ ap told c.in_err-opened.was)))

pub tested-requires : goal.tested-requires
unfolding network_of
tested-requires c =
    let s : List ℕ = c.args.s.now in
    let p : (length_right (length s) ≡ true) × (checks s ≡ Ok tt) × (header s ≡ Ok tt) = first_told s (sym c.opened.ensures ∙ ap told c.in_ok-opened.was) in
    let h = sized (length s) p.0 in
    let d = headed s p.2 in
    let e = c.network_of-net.ensures in
    (h.low, h.high, omega (arith, h.high, d.at_5), rw e d.processes.1, rw e d.channels.1)

pub returns-in_err-tested : goal.returns-in_err-tested
returns-in_err-tested c =
    let s : List ℕ = c.args.s.now in
    let p : (length_right (length s) ≡ true) × (checks s ≡ Ok tt) × (header s ≡ Ok tt) = first_told s (sym c.opened.ensures ∙ ap told c.in_ok-opened.was) in
    let n = c.network_of-net in
    let r = err_from_is_err_and c.from_residual-in_err-tested.result c.from_residual-in_err-tested.ensures.1 in
    result_refused _ _ s r.1 (rw (r.2, ← n.ensures) (first_passed s n.result p.0 p.1 p.2 ∙ sym c.tested.ensures ∙ ap told c.in_err-tested.was))

pub returns : goal.returns
returns c =
    let s : List ℕ = c.args.s.now in
    let p : (length_right (length s) ≡ true) × (checks s ≡ Ok tt) × (header s ≡ Ok tt) = first_told s (sym c.opened.ensures ∙ ap told c.in_ok-opened.was) in
    let n = c.network_of-net in
    result_accepted _ s (ap Ok n.ensures) (rw (← n.ensures) (first_passed s n.result p.0 p.1 p.2 ∙ sym c.tested.ensures ∙ ap told c.in_ok-tested.was))
