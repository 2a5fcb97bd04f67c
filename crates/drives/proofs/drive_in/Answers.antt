-- `drives::drive_in` meets its contract: the tests in their order, then the rounds.
-- Assumes nothing.
use mathlib.Core.Path.{◌≡◌}
use Rattle.std.proofs.Common.{rules}
use Rattle.std.specs.declared.result.Result.TheVariants.{Err}
use Rattle.base.specs.declared.Refusal.TheVariants.{Unsound}
use Rattle.drives.proofs.Tests.{buffer_wrong, lane_unsound, drives_on, some_process}
use Rattle.drives.proofs.drive_in.Goals as goal

pub returns-in_default : goal.returns-in_default
returns-in_default c = buffer_wrong _ _ _ _ (search rules) (search rules)

pub returns-in_err-sound : goal.returns-in_err-sound
returns-in_err-sound c =
    let e : c.from_residual.result ≡ Err Unsound = search rules in
    rw e (lane_unsound c.args.budget c.args.lane.now c.args.cells.now c.in-Some.cells.now (search rules) (search rules) (search rules))

pub nonzero_div-most : goal.nonzero_div-most
nonzero_div-most c = some_process _ c.in_ok-sound.sound.sound

pub returns : goal.returns
returns c = drives_on _ _ c.in_ok-sound.sound.lane _ c.in-Some.cells.now _ (search rules) (search rules) (search rules) (search rules) c.rounds-driven.ensures
