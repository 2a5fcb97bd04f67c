-- Two files alike but for the capacities and block 0's check are read as networks that are the same without their capacities.
-- Assumes nothing.
use mathlib.Core.Path.{◌≡◌, sym, ap, ◌∙◌}
use mathlib.Core.Logic.{⊎_elim, inl, inr}
use mathlib.Core.List.{List}
use Prim.Native.Nat.{ℕ, ◌+◌, ◌*◌, ◌<◌}
use native.Mathlib.Decide.{dec_lt}
use native.Mathlib.Omega.{arith}
use lib.ListN.{length, get_or, get_or-eq_default}
use Rattle.base.specs.Lists.{table, word_at}
use Rattle.base.proofs.Lists.{length_values, table_at, table_is}
use Rattle.network.specs.declared.Network.{Network}
use Rattle.lane_file.specs.Read.{code_place, network_of, accepted, or_none, Result, read_of}
use Rattle.kahn.specs.Plain.{without_capacities}
use Rattle.kahn.specs.Boards.{MayDiffer, Alike}

-- functions that agree below n have one table
same_table : (n : ℕ) (f g : ℕ → ℕ) → ((k : ℕ) → k < n → f k ≡ g k) → table n f ≡ table n g
same_table n f g h = table_is g n 0 (table n f) (length_values f n 0) (λ k l. table_at f n k 0 l ∙ h k l)

-- ---- bytes that may not differ: those before the records, a sender, a receiver, the code
apart_early : (k : ℕ) → k < 72 → MayDiffer k → ⊥
apart_early k l (inl m) = ⊎_elim (λ e. omega arith) (λ e. omega arith) m.2
apart_early k l (inr m) = ⊎_elim (λ e. omega arith) (λ e. omega arith) m

apart_sender : (c : ℕ) → c < 32 → MayDiffer (72 + 4 * c) → ⊥
apart_sender c l (inl m) = ⊎_elim (λ e. omega arith) (λ e. omega arith) m.2
apart_sender c l (inr m) = ⊎_elim (λ e. omega arith) (λ e. omega arith) m

apart_receiver : (c : ℕ) → c < 32 → MayDiffer (73 + 4 * c) → ⊥
apart_receiver c l (inl m) = ⊎_elim (λ e. omega arith) (λ e. omega arith) m.2
apart_receiver c l (inr m) = ⊎_elim (λ e. omega arith) (λ e. omega arith) m

apart_code : (j : ℕ) → MayDiffer (code_place j) → ⊥
apart_code j (inl m) = ⊎_elim (λ e. omega arith) (λ e. omega arith) m.2
apart_code j (inr m) = ⊎_elim (λ e. omega arith) (λ e. omega arith) m

module _ (f g : List ℕ) (alike : Alike f g) where
  -- a byte that may not differ is the same, also past the ends
  same_byte : (k : ℕ) → (MayDiffer k → ⊥) → get_or f k 0 ≡ get_or g k 0
  same_byte k never = at (dec_lt k (length f))
    where
      at : Dec (k < length f) → get_or f k 0 ≡ get_or g k 0
      at (yes h) = alike.same k h never
      at (no h) = get_or-eq_default f 0 (omega arith) ∙ sym (get_or-eq_default g 0 (omega (arith, alike.long)))

  early : (k : ℕ) → k < 72 → get_or f k 0 ≡ get_or g k 0
  early k l = same_byte k (apart_early k l)

  early_word : (k : ℕ) → k + 1 < 72 → word_at f k ≡ word_at g k
  early_word k l = rw (early k (omega arith), early (k + 1) l)

  networks_alike : without_capacities (network_of f) ≡ without_capacities (network_of g)
  unfolding network_of
  networks_alike =
      rw (
        early 3 (omega arith),
        early 4 (omega arith),
        same_table 16 (λ p. word_at f (8 + 4 * p)) (λ p. word_at g (8 + 4 * p)) (λ p l. early_word (8 + 4 * p) (omega arith)),
        same_table 16 (λ p. word_at f (10 + 4 * p)) (λ p. word_at g (10 + 4 * p)) (λ p l. early_word (10 + 4 * p) (omega arith)),
        same_table 32 (λ c. get_or f (72 + 4 * c) 0) (λ c. get_or g (72 + 4 * c) 0) (λ c l. same_byte (72 + 4 * c) (apart_sender c l)),
        same_table 32 (λ c. get_or f (73 + 4 * c) 0) (λ c. get_or g (73 + 4 * c) 0) (λ c l. same_byte (73 + 4 * c) (apart_receiver c l)),
        same_table 4064 (λ j. get_or f (code_place j) 0) (λ j. get_or g (code_place j) 0) (λ j l. same_byte (code_place j) (apart_code j)),
      )

-- the network of an accepted file
read_as : (s : List ℕ) (n : Network) → read_of s ≡ record { answer = accepted; network = n } → network_of s ≡ n
unfolding read_of
read_as s n e =
    sym (ap (λ t. or_none t (network_of s)) (ap (λ (r : Result). r.answer) e)) ∙ ap (λ (r : Result). r.network) e

pub alike_networks : (f g : List ℕ) (m n : Network) → read_of f ≡ record { answer = accepted; network = m } → read_of g ≡ record { answer = accepted; network = n }
    → Alike f g → without_capacities m ≡ without_capacities n
alike_networks f g m n p q a =
    ap without_capacities (sym (read_as f m p)) ∙ networks_alike f g a ∙ ap without_capacities (read_as g n q)
