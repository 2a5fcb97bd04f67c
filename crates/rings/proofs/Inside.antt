-- The search looks at processes alone: each process on a ring is one, so what stands beyond them in an array does not matter.
-- Assumes nothing.
use mathlib.Core.Path.{◌≡◌, refl}
use mathlib.Core.Logic.{⊎_elim}
use mathlib.Core.Bool.{Bool, true, false, cond}
use mathlib.Core.List.{List, [], ◌∷◌}
use Prim.Native.Nat.{ℕ, zero, suc, ◌+◌, ◌≤◌, ◌<◌}
use native.Mathlib.Decide.{dec_lt}
use native.Mathlib.Omega.{arith}
use borrow.Author.Tests.{lt-ltb, le-ltb}
use Rattle.rings.specs.Rings.{iter, ring_length, chain, ring_of, some_below, lesser, least, on_ring_below, first_from, found_at, search}
use Rattle.rings.proofs.Pointings.{iter_shift, Stays}
use Rattle.rings.proofs.Circles.{length_says, on}

-- each of a list is below P
abbrev Within : ℕ → List ℕ → Type 0
Within P [] = Unit {0}
Within P (q ∷ qs) = (q < P) × Within P qs

-- tests that agree at n places from i on
first_same : (s t : ℕ → Bool) (n i : ℕ) → ((q : ℕ) → i ≤ q → q < i + n → s q ≡ t q) → first_from s i n ≡ first_from t i n
unfolding first_from
first_same s t zero i h = refl
first_same s t (suc n) i h = rw (h i (omega arith) (omega arith), first_same s t n (suc i) (λ q a b. h q (omega arith) (omega arith)))

one_of : (t : Bool) (p q P : ℕ) → p < P → q < P → cond t p q < P
one_of true p q P a b = a
one_of false p q P a b = b

-- ---- each process on a ring is one
module _ (f : ℕ → ℕ) (P : ℕ) (stays : Stays f P) where
  chain_within : (n p : ℕ) → ((i : ℕ) → i < n → iter f i p < P) → Within P (chain f n p)
  unfolding chain iter
  chain_within zero p h = tt
  chain_within (suc n) p h = (h 0 (omega arith), chain_within n (f p) (λ i a. rw (iter_shift f i p) (h (suc i) (omega arith))))

  ring_within : (p : ℕ) → p < P → Within P (ring_of f P p)
  unfolding chain
  ring_within p h =
      ⊎_elim (λ z. rw z.0 tt)
      (λ r. chain_within (ring_length f P p) p (λ i a. on f P stays p i (ring_length f P p) (omega arith) (omega (arith, r.closes))))
      (length_says f P p)

  -- ---- full waits and channels that agree below P
  module _ (full full' chan chan' : ℕ → ℕ) (e : (q : ℕ) → q < P → full q ≡ full' q) (d : (q : ℕ) → q < P → chan q ≡ chan' q) where
    some_same : (limit : ℕ) (qs : List ℕ) → Within P qs → some_below full limit qs ≡ some_below full' limit qs
    some_same limit [] w = refl
    some_same limit (q ∷ qs) w = rw (e q w.0, some_same limit qs w.1)

    least_same : (r : ℕ) (qs : List ℕ) → r < P → Within P qs → (least full chan r qs ≡ least full' chan' r qs) × (least full' chan' r qs < P)
    least_same r [] h w = (refl, h)
    least_same r (q ∷ qs) h w =
        rw (e q w.0, d q w.0, e r h, d r h)
        (least_same (cond (lesser (full' q) (chan' q) (full' r) (chan' r)) q r) qs (one_of (lesser (full' q) (chan' q) (full' r) (chan' r)) q r P w.0 h) w.1)

    at_same : (p q : ℕ) → Dec (p < P) → found_at f full chan P p q ≡ found_at f full' chan' P p q
    at_same p q (yes h) = let m = least_same p (ring_of f P p) h (ring_within p h) in rw (lt-ltb p P h, m.0, d _ m.1)
    at_same p q (no h) = rw (le-ltb p P (omega arith))

    on_same : (limit : ℕ) → first_from (on_ring_below f full P limit) 0 P ≡ first_from (on_ring_below f full' P limit) 0 P
    on_same limit = first_same (on_ring_below f full P limit) (on_ring_below f full' P limit) P 0 (λ q a b. some_same limit (ring_of f P q) (ring_within q (omega arith)))

    pub search_same : search f full chan P ≡ search f full' chan' P
    unfolding search
    search_same = rw (on_same 256, on_same 257) (at_same _ _ (dec_lt (first_from (on_ring_below f full' P 256) 0 P) P))
