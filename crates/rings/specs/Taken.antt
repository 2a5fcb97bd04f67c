-- Document 01, "Relief" and refusals 13 and 14: which ring and channel are taken, said without a search. `search` answers exactly this
-- (`found_exactly`, `none_exactly` and `ceiling_exactly` of proofs/Rule.antt). f, full, chan and P as in `Rings`.
-- Assumes nothing.
use Rattle.std.specs.Prelude.{◌≡◌, ◌⊎◌, List, ℕ, ◌+◌, ◌-◌, ◌≤◌, ◌<◌, length, get_or}
use Rattle.rings.specs.Rings.{iter, OnRing}

-- a process p is on a ring with a full wait: some pointings lead from p back to it, and some lead to such a wait
pub record OnFullRing (f full : ℕ → ℕ) (P p : ℕ) : Type 0 where
  pub ring : OnRing f P p
  pub steps : ℕ
  pub waits : full (iter f steps p) ≡ 0 → ⊥

-- a process p is on a ring "with a full wait on a channel below" a limit
pub record Relievable (f full : ℕ → ℕ) (P limit p : ℕ) : Type 0 where
  pub ring : OnRing f P p
  pub steps : ℕ
  pub waits : full (iter f steps p) ≡ 0 → ⊥
  pub below : full (iter f steps p) < limit

-- "A ring is a closed chain of such pointings", here from p on, "each followed by the one it points to", none twice
pub record IsRing (f : ℕ → ℕ) (p : ℕ) (ring : List ℕ) : Type 0 where
  pub some : 1 ≤ length ring
  pub begins : get_or ring 0 0 ≡ p
  pub follows : (i : ℕ) → i + 1 < length ring → get_or ring (i + 1) 0 ≡ f (get_or ring i 0)
  pub closes : f (get_or ring (length ring - 1) 0) ≡ p
  pub distinct : (i j : ℕ) → i < j → j < length ring → get_or ring i 0 ≡ get_or ring j 0 → ⊥

-- "of the channels waited on as full, the one of smallest capacity, the lowest number on a tie"
pub record Grows (full chan : ℕ → ℕ) (ring : List ℕ) (c : ℕ) : Type 0 where
  pub place : ℕ
  pub there : place < length ring
  pub waits : full (get_or ring place 0) ≡ 0 → ⊥
  pub channel : chan (get_or ring place 0) ≡ c
  pub least :
      (i : ℕ)
      → i < length ring
      → (full (get_or ring i 0) ≡ 0 → ⊥)
      → (full (get_or ring place 0) < full (get_or ring i 0))
      ⊎ ((full (get_or ring place 0) ≡ full (get_or ring i 0)) × (c ≤ chan (get_or ring i 0)))

-- "Among rings with a full wait on a channel below 256, the one with the lowest process number is taken"
pub record Taken (f full chan : ℕ → ℕ) (P : ℕ) (ring : List ℕ) (c : ℕ) : Type 0 where
  pub process : ℕ
  pub relievable : Relievable f full P 256 process
  pub first : (q : ℕ) → q < process → Relievable f full P 256 q → ⊥
  pub listed : IsRing f process ring
  pub lowest : (i : ℕ) → i < length ring → process ≤ get_or ring i 0
  pub grows : Grows full chan ring c
