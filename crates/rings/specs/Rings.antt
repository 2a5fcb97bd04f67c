-- Document 01, "Relief": what a ring is, and which ring and channel are taken. f: the process that a process points to; full: the capacity of the
-- channel on which it has a full wait, 0 where it has none; chan: the channel on which it waits. P: how many processes there are.
-- Assumes nothing.
use Rattle.std.specs.Prelude.{◌≡◌, Bool, false, cond, ◌&&◌, ◌||◌, not, List, [], ◌∷◌, ℕ, zero, suc, ◌≤◌, ◌<◌, eqb, ltb}

-- where k pointings lead from p
unfoldable pub iter : (ℕ → ℕ) → ℕ → ℕ → ℕ
iter f zero p = p
iter f (suc k) p = f (iter f k p)

-- "A ring is a closed chain of such pointings; length 1 is allowed": a process p is on a ring where some pointings, one or more, lead from it back to
-- it. What is no process is on none, though outside points to outside.
abbrev pub OnRing : (ℕ → ℕ) → ℕ → ℕ → Type 0
OnRing f P p = (p < P) × (k : ℕ) × (1 ≤ k) × (iter f k p ≡ p)

-- ---- the length of the ring of p: the least number of pointings, of those from k on and n in all, that leads back to p; 0 where none does
unfoldable pub closes_from : (ℕ → ℕ) → ℕ → ℕ → ℕ → ℕ
closes_from f p k zero = 0
closes_from f p k (suc n) = cond (eqb (iter f k p) p) k (closes_from f p (suc k) n)

-- a ring has at most as many processes as there are
abbrev pub ring_length : (ℕ → ℕ) → ℕ → ℕ → ℕ
ring_length f P p = closes_from f p 1 P

-- p, the one it points to, .. : n of them
unfoldable pub chain : (ℕ → ℕ) → ℕ → ℕ → List ℕ
chain f zero p = []
chain f (suc n) p = p ∷ chain f n (f p)

-- "ring (from its lowest process, each followed by the one it points to)"
abbrev pub ring_of : (ℕ → ℕ) → ℕ → ℕ → List ℕ
ring_of f P p = chain f (ring_length f P p) p

-- ---- full waits
-- some process of a list has a full wait on a channel below a capacity
abbrev pub some_below : (ℕ → ℕ) → ℕ → List ℕ → Bool
some_below full limit [] = false
some_below full limit (q ∷ qs) = (not (eqb (full q) 0) && ltb (full q) limit) || some_below full limit qs

-- of two full waits the one to relieve: "the one of smallest capacity, the lowest number on a tie"; a capacity of 0 stands for none
abbrev pub lesser : ℕ → ℕ → ℕ → ℕ → Bool
lesser capacity channel capacity' channel' =
    not (eqb capacity 0) && (eqb capacity' 0 || ltb capacity capacity' || (eqb capacity capacity' && ltb channel channel'))

-- the process of a list, or q₀, whose full wait is the one to relieve
abbrev pub least : (ℕ → ℕ) → (ℕ → ℕ) → ℕ → List ℕ → ℕ
least full chan q₀ [] = q₀
least full chan q₀ (q ∷ qs) = least full chan (cond (lesser (full q) (chan q) (full q₀) (chan q₀)) q q₀) qs

-- ---- "Among rings with a full wait on a channel below 256, the one with the lowest process number is taken"
-- p is on a ring with a full wait on a channel below a capacity
abbrev pub on_ring_below : (ℕ → ℕ) → (ℕ → ℕ) → ℕ → ℕ → ℕ → Bool
on_ring_below f full P limit p = some_below full limit (ring_of f P p)

-- the first of the n processes from p on for which a test holds; p + n where it holds of none
unfoldable pub first_from : (ℕ → Bool) → ℕ → ℕ → ℕ
first_from test p zero = p
first_from test p (suc n) = cond (test p) p (first_from test (suc p) n)

pub data Found : Type 0 where
  -- 13: "no ring with a full wait"
  no_ring : Found
  -- 14: "such rings, all those channels at 256"
  ceiling : Found
  -- the ring, and the channel of its full waits that grows
  found : List ℕ → ℕ → Found

-- a process on a ring with a full wait below 256, and one on a ring with any full wait (a capacity is at most 256), or P
abbrev pub found_at : (ℕ → ℕ) → (ℕ → ℕ) → (ℕ → ℕ) → ℕ → ℕ → ℕ → Found
found_at f full chan P p q =
    cond (ltb p P) (found (ring_of f P p) (chan (least full chan p (ring_of f P p))))
    (cond (ltb q P) ceiling no_ring)

unfoldable pub search : (ℕ → ℕ) → (ℕ → ℕ) → (ℕ → ℕ) → ℕ → Found
search f full chan P = found_at f full chan P (first_from (on_ring_below f full P 256) 0 P) (first_from (on_ring_below f full P 257) 0 P)
