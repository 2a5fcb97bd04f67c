-- The network that is read of a list of bytes, field by field; where the list holds a network, it is that network.
-- Assumes nothing.
use mathlib.Core.Path.{◌≡◌, refl, sym, ◌∙◌}
use mathlib.Core.List.{List}
use Prim.Native.Nat.{ℕ, ◌+◌, ◌-◌, ◌*◌, ◌/◌, ◌%◌, ◌≤◌, ◌<◌}
use native.Mathlib.Decide.{dec_lt}
use native.Mathlib.Omega.{arith}
use borrow.Author.Tests.{eqb-true}
use lib.ListN.{get_or, get_or-eq_default}
use Rattle.base.proofs.Tests.{each_true}
use Rattle.std.specs.declared.result.Result.TheVariants.{Ok}
use Rattle.base.specs.Lists.{word_at}
use Rattle.base.specs.Tests.{is_zero}
use Rattle.base.proofs.Lists.{length_values, table_at, table_is}
use Rattle.network.specs.declared.Network.{Network}
use Rattle.network.specs.Rules.{start_of, count_of, sender_of, receiver_of, capacity_of, total, unused_code}
use Rattle.network.proofs.Passed.{Passed}
use Rattle.lane_file.specs.Read.{code_place, network_of}
use Rattle.lane_file.specs.RoundTrip.{Shaped}
use Rattle.lane_file.proofs.Joined.{same_place}
use Rattle.lane_file.proofs.Places.{blocks_of, Holds}

-- ---- the fields of the network that is read
module _ (s : List ℕ) where
  pub processes_of : (network_of s).processes ≡ get_or s 3 0
  unfolding network_of
  processes_of = refl

  pub channels_of_lem : (network_of s).channels ≡ get_or s 4 0
  unfolding network_of
  channels_of_lem = refl

  pub start_of_lem : (p : ℕ) → p < 16 → start_of (network_of s) p ≡ word_at s (8 + 4 * p)
  unfolding network_of
  start_of_lem p h = table_at (λ p. word_at s (8 + 4 * p)) 16 p 0 h

  pub count_of_lem : (p : ℕ) → p < 16 → count_of (network_of s) p ≡ word_at s (10 + 4 * p)
  unfolding network_of
  count_of_lem p h = table_at (λ p. word_at s (10 + 4 * p)) 16 p 0 h

  pub sender_of_lem : (c : ℕ) → c < 32 → sender_of (network_of s) c ≡ get_or s (72 + 4 * c) 0
  unfolding network_of
  sender_of_lem c h = table_at (λ c. get_or s (72 + 4 * c) 0) 32 c 0 h

  pub receiver_of_lem : (c : ℕ) → c < 32 → receiver_of (network_of s) c ≡ get_or s (73 + 4 * c) 0
  unfolding network_of
  receiver_of_lem c h = table_at (λ c. get_or s (73 + 4 * c) 0) 32 c 0 h

  pub capacity_of_lem : (c : ℕ) → c < 32 → capacity_of (network_of s) c ≡ word_at s (74 + 4 * c)
  unfolding network_of
  capacity_of_lem c h = table_at (λ c. word_at s (74 + 4 * c)) 32 c 0 h

  pub code_of_lem : (j : ℕ) → j < 4064 → get_or (network_of s).code j 0 ≡ get_or s (code_place j) 0
  unfolding network_of
  code_of_lem j h = table_at (λ j. get_or s (code_place j) 0) 4064 j 0 h

  pub network_shaped : Shaped (network_of s)
  unfolding network_of
  network_shaped =
      record {
        first = length_values (λ p. word_at s (8 + 4 * p)) 16 0;
        count = length_values (λ p. word_at s (10 + 4 * p)) 16 0;
        sender = length_values (λ c. get_or s (72 + 4 * c) 0) 32 0;
        receiver = length_values (λ c. get_or s (73 + 4 * c) 0) 32 0;
        capacity = length_values (λ c. word_at s (74 + 4 * c)) 32 0;
        code = length_values (λ j. get_or s (code_place j) 0) 4064 0;
      }

-- ---- a list of bytes that holds a network
-- networks with the same fields are equal
pub same_network : (m n : Network) → m.processes ≡ n.processes → m.channels ≡ n.channels → m.first ≡ n.first → m.count ≡ n.count
    → m.sender ≡ n.sender → m.receiver ≡ n.receiver → m.capacity ≡ n.capacity → m.code ≡ n.code → m ≡ n
same_network m n p c f k s r a d =
    λ i. record { processes = p i; channels = c i; first = f i; count = k i; sender = s i; receiver = r i; capacity = a i; code = d i }

-- unused code is zero
pub code_zero : (n : Network) → unused_code n ≡ Ok tt → (j : ℕ) → 4 * total n ≤ j → j < 4064 → get_or n.code j 0 ≡ 0
unfolding unused_code
code_zero n g j a b = eqb-true (get_or n.code j 0) 0 (each_true (is_zero n.code) (4 * total n) (4064 - 4 * total n) g j a (omega arith))

-- a number of two bytes
pub word_is : (s : List ℕ) (k x : ℕ) → get_or s k 0 ≡ x / 256 → get_or s (k + 1) 0 ≡ x % 256 → word_at s k ≡ x
word_is s k x a b = omega arith

module _ (n : Network) (s : List ℕ) (h : Holds n s) where
  start_is : (p : ℕ) → p < 16 → word_at s (8 + 4 * p) ≡ start_of n p
  start_is p l =
      word_is s (8 + 4 * p) (start_of n p)
      (same_place s (8 + 4 * p) (8 + (4 * p + 0)) (omega arith) ∙ h.slot p 0 l (omega arith))
      (same_place s (8 + 4 * p + 1) (8 + (4 * p + 1)) (omega arith) ∙ h.slot p 1 l (omega arith))

  count_is : (p : ℕ) → p < 16 → word_at s (10 + 4 * p) ≡ count_of n p
  count_is p l =
      word_is s (10 + 4 * p) (count_of n p)
      (same_place s (10 + 4 * p) (8 + (4 * p + 2)) (omega arith) ∙ h.slot p 2 l (omega arith))
      (same_place s (10 + 4 * p + 1) (8 + (4 * p + 3)) (omega arith) ∙ h.slot p 3 l (omega arith))

  sender_is : (c : ℕ) → c < 32 → get_or s (72 + 4 * c) 0 ≡ sender_of n c
  sender_is c l = same_place s (72 + 4 * c) (72 + (4 * c + 0)) (omega arith) ∙ h.channel c 0 l (omega arith)

  receiver_is : (c : ℕ) → c < 32 → get_or s (73 + 4 * c) 0 ≡ receiver_of n c
  receiver_is c l = same_place s (73 + 4 * c) (72 + (4 * c + 1)) (omega arith) ∙ h.channel c 1 l (omega arith)

  capacity_is : (c : ℕ) → c < 32 → word_at s (74 + 4 * c) ≡ capacity_of n c
  capacity_is c l =
      word_is s (74 + 4 * c) (capacity_of n c)
      (same_place s (74 + 4 * c) (72 + (4 * c + 2)) (omega arith) ∙ h.channel c 2 l (omega arith))
      (same_place s (74 + 4 * c + 1) (72 + (4 * c + 3)) (omega arith) ∙ h.channel c 3 l (omega arith))

  -- code beyond the file's blocks is past the last process's end
  code_is : Passed n → (j : ℕ) → j < 4064 → get_or s (code_place j) 0 ≡ get_or n.code j 0
  code_is passed j l = go (dec_lt (j / 508) (blocks_of n))
    where
      go : Dec (j / 508 < blocks_of n) → get_or s (code_place j) 0 ≡ get_or n.code j 0
      go (yes m) =
          same_place s (code_place j) (512 * (j / 508 + 1) + j % 508) (omega arith)
          ∙ h.code (j / 508) (j % 508) m (omega arith)
          ∙ same_place n.code (508 * (j / 508) + j % 508) j (omega arith)
      go (no m) =
          get_or-eq_default s 0 (omega (arith, h.long)) ∙ sym (code_zero n passed.unused_code_good j (omega arith) l)

  pub network_is : Shaped n → Passed n → network_of s ≡ n
  unfolding network_of
  network_is shaped passed =
      same_network _ n (h.header 3 (omega arith)) (h.header 4 (omega arith))
      (sym (table_is (λ p. word_at s (8 + 4 * p)) 16 0 n.first shaped.first (λ p l. sym (start_is p l))))
      (sym (table_is (λ p. word_at s (10 + 4 * p)) 16 0 n.count shaped.count (λ p l. sym (count_is p l))))
      (sym (table_is (λ c. get_or s (72 + 4 * c) 0) 32 0 n.sender shaped.sender (λ c l. sym (sender_is c l))))
      (sym (table_is (λ c. get_or s (73 + 4 * c) 0) 32 0 n.receiver shaped.receiver (λ c l. sym (receiver_is c l))))
      (sym (table_is (λ c. word_at s (74 + 4 * c)) 32 0 n.capacity shaped.capacity (λ c l. sym (capacity_is c l))))
      (sym (table_is (λ j. get_or s (code_place j) 0) 4064 0 n.code shaped.code (λ j l. sym (code_is passed j l))))
