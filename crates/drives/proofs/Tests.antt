-- The tests of a drive in their order: 15, 16.
-- Assumes nothing.
use mathlib.Core.Path.{◌≡◌, ap, ◌∙◌}
use mathlib.Core.Bool.{true, false}
use mathlib.Core.List.{List}
use Prim.Native.Nat.{ℕ, ◌/◌, ◌<◌}
use native.Mathlib.Omega.{arith}
use borrow.Author.Tests.{eq-eqb, ne_eqb}
use lib.IntN.{ℤ}
use lib.ListN.{length}
use Rattle.lane.specs.declared.Lane.{Lane}
use Rattle.lane.specs.State.{world}
use Rattle.network.proofs.Passed.{passed}
use Rattle.lane.specs.Sound.{sound_of}
use Rattle.lane.proofs.SoundLaws.{sound_says}
use Rattle.schedule.specs.Running.{begun}
use Rattle.drives.specs.Drive.{Result, refused, result, rounds, done, drive_of}

pub buffer_wrong : (budget : ℕ) (l : Lane) (cells cells' : List ℤ) → (length cells ≡ 8192 → ⊥) → cells' ≡ cells → result (refused 15) (world l cells') ≡ drive_of budget (world l cells)
unfolding drive_of
buffer_wrong budget l cells cells' h e = rw (ne_eqb (length cells) 8192 h, e)

pub lane_unsound : (budget : ℕ) (l : Lane) (cells cells' : List ℤ) → length cells ≡ 8192 → sound_of l ≡ false → cells' ≡ cells → result (refused 16) (world l cells') ≡ drive_of budget (world l cells)
unfolding drive_of
lane_unsound budget l cells cells' h s e = rw (eq-eqb (length cells) 8192 h, s, e)

pub drives_on : (budget : ℕ) (l l' : Lane) (cells cells' : List ℤ) (r : Result) → length cells ≡ 8192 → sound_of l ≡ true → l' ≡ l → cells' ≡ cells
    → r ≡ done l'.network.processes (rounds (budget / l'.network.processes) 0 (begun (world l' cells'))) → r ≡ drive_of budget (world l cells)
unfolding drive_of
drives_on budget l l' cells cells' r h s same all e =
    e
    ∙ ap (λ (x : Lane). done x.network.processes (rounds (budget / x.network.processes) 0 (begun (world x cells')))) same
    ∙ ap (λ (xs : List ℤ). done l.network.processes (rounds (budget / l.network.processes) 0 (begun (world l xs)))) all
    ∙ rw (eq-eqb (length cells) 8192 h, s)

pub some_process : (l : Lane) → sound_of l ≡ true → 0 < l.network.processes
some_process l s = let p = passed l.network (sound_says l s).passed in omega (arith, p.processes_low)
