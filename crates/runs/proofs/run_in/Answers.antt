-- `runs::run_in` meets its contract: the tests in their order, then the bytes.
-- Assumes nothing.
use mathlib.Core.Path.{◌≡◌, sym, ap, ◌∙◌}
use Rattle.std.proofs.Common.{rules}
use Rattle.std.specs.declared.result.Result.TheVariants.{Err}
use Rattle.base.specs.declared.Refusal.TheVariants.{Unsound}
use Rattle.runs.specs.Run.{done}
use Rattle.runs.proofs.Tests.{buffer_wrong, lane_unsound, byte_unnamed, runs_on, process_named}
use Rattle.runs.proofs.run_in.Goals as goal

pub returns-in_default : goal.returns-in_default
returns-in_default c = buffer_wrong _ _ _ _ (search rules) (search rules)

pub returns-in_err-sound : goal.returns-in_err-sound
returns-in_err-sound c =
    let e : c.from_residual.result ≡ Err Unsound = search rules in
    rw e (lane_unsound c.args.picks.now c.args.lane.now c.args.cells.now c.in-Some.cells.now (search rules) (search rules) (search rules))

pub returns-then-not-all_named : goal.returns-then-not-all_named
returns-then-not-all_named c =
    byte_unnamed _ _ c.in_ok-sound.sound.lane _ _ (search rules) (search rules) (search rules) (search rules) (sym c.all_named.ensures ∙ c.if-not-all_named.true)

pub bytes_in-ran-requires : goal.bytes_in-ran-requires
bytes_in-ran-requires c = process_named _ _ (sym c.all_named.ensures ∙ c.if-not-all_named.false)

pub returns : goal.returns
returns c =
    runs_on _ _ c.in_ok-sound.sound.lane _ c.in-Some.cells.now _ (search rules) (search rules) (search rules) (search rules) (sym c.all_named.ensures ∙ c.if-not-all_named.false)
    (ap done c.bytes_in-ran.ensures)
