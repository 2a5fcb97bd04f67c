-- Lists of steps one after the other, what every step keeps (the network, soundness, the cells' number), and lists of calls as steps.
-- Assumes nothing.
use mathlib.Core.Path.{◌≡◌, refl, sym, ap, ◌∙◌}
use mathlib.Core.List.{List, [], ◌∷◌, ◌++◌, append_assoc}
use Prim.Native.Nat.{ℕ, ◌+◌}
use native.Mathlib.Omega.{arith}
use lib.IntN.{ℤ}
use Rattle.lane.specs.State.{World}
use Rattle.lane.proofs.Shape.{Shaped}
use Rattle.lane.proofs.CallLaws.{Preserves}
use Rattle.relief.proofs.Enlarged.{kept_both}
use Rattle.kahn.specs.Calls.{Call, apply, fed_by}
use Rattle.kahn.specs.Steps.{Step, call, inner_relief, calls, after_step, fed_at, taken_at, sent_at, after, fed, taken, sent, moved_in, grown_in}
use Rattle.kahn.proofs.Events.{apply_kept}
use Rattle.kahn.proofs.InnerRelief.{inner_kept}

-- ---- one after the other
pub after_append : (xs ys : List Step) (w : World) → after (xs ++ ys) w ≡ after ys (after xs w)
after_append [] ys w = refl
after_append (x ∷ xs) ys w = after_append xs ys (after_step x w)

-- what each step adds to a list, on some channel
module _ (adds : Step → World → List ℤ) (over : List Step → World → List ℤ) (none : (w : World) → over [] w ≡ [])
    (next : (s : Step) (ss : List Step) (w : World) → over (s ∷ ss) w ≡ adds s w ++ over ss (after_step s w)) where
  joined : (xs ys : List Step) (w : World) → over (xs ++ ys) w ≡ over xs w ++ over ys (after xs w)
  joined [] ys w = ap (λ (l : List ℤ). l ++ over ys w) (sym (none w))
  joined (x ∷ xs) ys w =
      next x (xs ++ ys) w
      ∙ ap (λ (l : List ℤ). adds x w ++ l) (joined xs ys (after_step x w))
      ∙ sym (append_assoc (adds x w) (over xs (after_step x w)) (over ys (after xs (after_step x w))))
      ∙ ap (λ (l : List ℤ). l ++ over ys (after xs (after_step x w))) (sym (next x xs w))

pub fed_append : (xs ys : List Step) (w : World) (c : ℕ) → fed (xs ++ ys) w c ≡ fed xs w c ++ fed ys (after xs w) c
fed_append xs ys w c = joined (λ s w. fed_at s w c) (λ ss w. fed ss w c) (λ w. refl) (λ s ss w. refl) xs ys w

pub taken_append : (xs ys : List Step) (w : World) (c : ℕ) → taken (xs ++ ys) w c ≡ taken xs w c ++ taken ys (after xs w) c
taken_append xs ys w c = joined (λ s w. taken_at s w c) (λ ss w. taken ss w c) (λ w. refl) (λ s ss w. refl) xs ys w

pub sent_append : (xs ys : List Step) (w : World) (c : ℕ) → sent (xs ++ ys) w c ≡ sent xs w c ++ sent ys (after xs w) c
sent_append xs ys w c = joined (λ s w. sent_at s w c) (λ ss w. sent ss w c) (λ w. refl) (λ s ss w. refl) xs ys w

pub moved_append : (xs ys : List Step) (w : World) → moved_in (xs ++ ys) w ≡ moved_in xs w + moved_in ys (after xs w)
moved_append [] ys w = omega arith
moved_append (x ∷ xs) ys w = omega (arith, moved_append xs ys (after_step x w))

pub grown_append : (xs ys : List Step) (w : World) → grown_in (xs ++ ys) w ≡ grown_in xs w + grown_in ys (after xs w)
grown_append [] ys w = omega arith
grown_append (x ∷ xs) ys w = omega (arith, grown_append xs ys (after_step x w))

-- ---- what they keep
pub step_kept : (s : Step) (w : World) → Shaped w.lane → Preserves w (after_step s w)
step_kept (call k) w h = apply_kept k w h
step_kept inner_relief w h = inner_kept w

pub steps_kept : (ss : List Step) (w : World) → Shaped w.lane → Preserves w (after ss w)
steps_kept [] w h = record { network = refl; cells = refl; shaped = λ k. k; sound = λ k. k }
steps_kept (s ∷ ss) w h = let k = step_kept s w h in kept_both k (steps_kept ss (after_step s w) (k.shaped h))

-- ---- calls as steps: whatever makes calls one by one, each by `apply` on what the last one left, leaves and feeds what the steps do
pub calls_append : (xs ys : List Call) → calls (xs ++ ys) ≡ calls xs ++ calls ys
calls_append [] ys = refl
calls_append (x ∷ xs) ys = ap (λ (l : List Step). call x ∷ l) (calls_append xs ys)

pub after_calls : (leaves : List Call → World → World) → ((w : World) → leaves [] w ≡ w)
    → ((k : Call) (ks : List Call) (w : World) → leaves (k ∷ ks) w ≡ leaves ks (apply k w).world)
    → (ks : List Call) (w : World) → after (calls ks) w ≡ leaves ks w
after_calls leaves none next [] w = sym (none w)
after_calls leaves none next (k ∷ ks) w = after_calls leaves none next ks (apply k w).world ∙ sym (next k ks w)

pub fed_calls : (c : ℕ) (feeds : List Call → World → List ℤ) → ((w : World) → feeds [] w ≡ [])
    → ((k : Call) (ks : List Call) (w : World) → feeds (k ∷ ks) w ≡ fed_by k w c ++ feeds ks (apply k w).world)
    → (ks : List Call) (w : World) → fed (calls ks) w c ≡ feeds ks w
fed_calls c feeds none next [] w = sym (none w)
fed_calls c feeds none next (k ∷ ks) w =
    ap (λ (l : List ℤ). fed_by k w c ++ l) (fed_calls c feeds none next ks (apply k w).world) ∙ sym (next k ks w)
