-- The lines of the processes, one after the other.
-- Assumes nothing.
use mathlib.Core.Path.{◌≡◌, refl, ap}
use mathlib.Core.List.{[], ◌∷◌, append-nil}
use Prim.Native.Nat.{ℕ, suc, ◌+◌, ◌-◌, ◌≤◌, ◌<◌}
use native.Mathlib.Nat.{sub-zero}
use native.Mathlib.Numerals.{add-one}
use native.Mathlib.Omega.{arith}
use Rattle.lane.specs.declared.Lane.{Lane}
use Rattle.lane.specs.State.{standing_of}
use Rattle.listing.specs.declared.Listing.{Listing}
use Rattle.listing.specs.declared.Status.{Status}
use Rattle.listing.specs.Text.{proc, text, line_text}
use Rattle.listing.specs.Listing.{HasRoom, Wrote}
use Rattle.bench_rules.specs.Printed.{Printed, printed, then_do}
use Rattle.bench_rules.specs.Playing.{status_of, proc_lines}
use Rattle.bench_rules.proofs.Underway.{Underway, begun, room_for, more, finished}

-- those of process p and of the ones after it, n in all
abbrev pub procs_from : ℕ → ℕ → Lane → Printed Lane
procs_from n p l = printed (proc_lines l p (n - p)) l

abbrev proc_at : ℕ → Lane → Printed Lane
proc_at p l = printed (proc p (status_of l p) (standing_of l p).moves ∷ []) l

procs_next : (n p : ℕ) (l : Lane) → p < n → procs_from n p l ≡ then_do (proc_at p l) (procs_from n (p + 1))
procs_next n p l h =
    let d : n - p ≡ suc (n - (p + 1)) = omega arith in
    rw (d, add-one p)

pub no_process_yet : (n : ℕ) (l : Lane) {a : Listing} → HasRoom (text (proc_lines l 0 n)) a → Underway (procs_from n 0 l) a (procs_from n 0) l a
no_process_yet n l room = begun (procs_from n 0) l _ (rw sub-zero room)

module _ {n p : ℕ} {l : Lane} {a₀ a : Listing} {status : Status} (u : Underway (procs_from n 0 l) a₀ (procs_from n p) l a) (h : p < n) (e : status ≡ status_of l p) where
  line_is : line_text (proc p status (standing_of l p).moves) ≡ text (proc_at p l).lines
  line_is = rw (e, append-nil)

  pub room_for_process : HasRoom (line_text (proc p status (standing_of l p).moves)) a
  room_for_process = rw line_is (room_for u (proc_at p l) (procs_from n (p + 1)) (procs_next n p l h))

  pub after_process : {a' : Listing} → Wrote (line_text (proc p status (standing_of l p).moves)) a a' → Underway (procs_from n 0 l) a₀ (procs_from n (p + 1)) l a'
  after_process w = more u (proc_at p l) (procs_from n (p + 1)) (procs_next n p l h) refl (rw line_is at w)

-- no process left
pub no_process_left : {n p : ℕ} {l : Lane} {a₀ a : Listing} → Underway (procs_from n 0 l) a₀ (procs_from n p) l a → n ≤ p → Wrote (text (proc_lines l 0 n)) a₀ a
no_process_left {n} {p} {l} u h =
    let d : n - p ≡ 0 = omega arith in
    rw sub-zero at (finished u l (ap (λ (k : ℕ). printed (proc_lines l p k) l) d)).1
