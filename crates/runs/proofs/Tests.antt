-- The tests of a run in their order: 15, 16, 8.
-- Assumes nothing.
use mathlib.Core.Path.{◌≡◌, sym, ap, ◌∙◌}
use mathlib.Core.Bool.{true, false, false≢true}
use mathlib.Core.List.{List}
use Prim.Native.Nat.{ℕ, ◌<◌}
use native.Mathlib.Decide.{dec_lt}
use native.Mathlib.Omega.{arith}
use borrow.Author.Tests.{eq-eqb, ne_eqb, le-ltb}
use lib.IntN.{ℤ}
use lib.ListN.{length, get_or}
use Rattle.base.specs.Tests.{first_bad, is_good}
use Rattle.lane.specs.declared.Lane.{Lane}
use Rattle.lane.specs.State.{world}
use Rattle.lane.specs.Sound.{sound_of}
use Rattle.lane.proofs.SoundLaws.{at_each}
use Rattle.schedule.specs.Running.{begun}
use Rattle.runs.specs.Run.{Result, refused, result, names, named, done, bytes_run, run_of}

pub buffer_wrong : (bytes : List ℕ) (l : Lane) (cells cells' : List ℤ) → (length cells ≡ 8192 → ⊥) → cells' ≡ cells → result (refused 15) (world l cells') ≡ run_of bytes (world l cells)
unfolding run_of
buffer_wrong bytes l cells cells' h e = rw (ne_eqb (length cells) 8192 h, e)

pub lane_unsound : (bytes : List ℕ) (l : Lane) (cells cells' : List ℤ) → length cells ≡ 8192 → sound_of l ≡ false → cells' ≡ cells → result (refused 16) (world l cells') ≡ run_of bytes (world l cells)
unfolding run_of
lane_unsound bytes l cells cells' h s e = rw (eq-eqb (length cells) 8192 h, s, e)

pub byte_unnamed : (bytes : List ℕ) (l l' : Lane) (cells cells' : List ℤ) → length cells ≡ 8192 → sound_of l ≡ true → l' ≡ l → cells' ≡ cells
    → is_good (first_bad (named bytes l'.network.processes) 0 (length bytes)) ≡ false
    → result (refused 8) (world l cells') ≡ run_of bytes (world l cells)
unfolding run_of
byte_unnamed bytes l l' cells cells' h s same e n =
    let m : is_good (first_bad (named bytes l.network.processes) 0 (length bytes)) ≡ false = ap (λ (x : Lane). is_good (first_bad (named bytes x.network.processes) 0 (length bytes))) (sym same) ∙ n in
    rw (eq-eqb (length cells) 8192 h, s, m, e)

pub runs_on : (bytes : List ℕ) (l l' : Lane) (cells cells' : List ℤ) (r : Result) → length cells ≡ 8192 → sound_of l ≡ true → l' ≡ l → cells' ≡ cells
    → is_good (first_bad (named bytes l'.network.processes) 0 (length bytes)) ≡ true → r ≡ done (bytes_run bytes (begun (world l' cells'))) → r ≡ run_of bytes (world l cells)
unfolding run_of
runs_on bytes l l' cells cells' r h s same all n e =
    let m : is_good (first_bad (named bytes l.network.processes) 0 (length bytes)) ≡ true = ap (λ (x : Lane). is_good (first_bad (named bytes x.network.processes) 0 (length bytes))) (sym same) ∙ n in
    e
    ∙ ap (λ (x : Lane). done (bytes_run bytes (begun (world x cells')))) same
    ∙ ap (λ (xs : List ℤ). done (bytes_run bytes (begun (world l xs)))) all
    ∙ rw (eq-eqb (length cells) 8192 h, s, m)

-- a byte that is named, and not 255, names a process
pub process_named : (bytes : List ℕ) (processes : ℕ) → is_good (first_bad (named bytes processes) 0 (length bytes)) ≡ true
    → (k : ℕ) → k < length bytes → (get_or bytes k 0 ≡ 255 → ⊥) → get_or bytes k 0 < processes
process_named bytes processes e k h n = go (dec_lt (get_or bytes k 0) processes)
  where
    go : Dec (get_or bytes k 0 < processes) → get_or bytes k 0 < processes
    go (yes m) = m
    go (no m) =
        let t = at_each (named bytes processes) 0 (length bytes) e k (omega arith) (omega arith) in
        let f : names (get_or bytes k 0) processes ≡ false = rw (le-ltb (get_or bytes k 0) processes (omega arith), ne_eqb (get_or bytes k 0) 255 n) in
        absurd (false≢true (sym f ∙ t))
