-- All inputs, channels rising: what is left of each channel's records, and a channel that is inside, idle or filled.
-- Assumes nothing.
use mathlib.Core.Path.{◌≡◌, refl, sym, ap, subst, ◌∙◌}
use mathlib.Core.Bool.{true}
use mathlib.Core.List.{List, []}
use Prim.Native.Nat.{ℕ, zero, suc, ◌+◌, ◌-◌, ◌≤◌, ◌<◌}
use native.Mathlib.Decide.{ℕ_discrete}
use native.Mathlib.Numerals.{add-one}
use native.Mathlib.Omega.{arith}
use borrow.Author.Tests.{eq-eqb, ne_eqb}
use lib.IntN.{ℤ}
use lib.ListN.{length, get_or, set, length-set}
use lib.Seq.{get_or-set_same, get_or-set_other, set-get_or}
use Rattle.base.proofs.Lists.{length_values, table_at, table_is}
use Rattle.network.specs.Rules.{sender_of, outside}
use Rattle.outer_ends.specs.Outer.{Onward}
use Rattle.lane.specs.State.{World, channel_of}
use Rattle.lane.specs.Calls.{receiver_ended}
use Rattle.bench_rules.specs.Input.{left_from, left_at}
use Rattle.bench_rules.specs.Feeding.{Fed, fed, feeding, Inputs, inputs, put, feeds_at, feeds_from, feeds}
use Rattle.bench_feeds.specs.Idle.{idle_at}
use Rattle.bench_feeds.proofs.Filling.{idle_stays}

-- ---- what is left of each channel's records
module _ (input at : List ℕ) where
  left_length : length (left_at input at) ≡ 32
  unfolding left_at
  left_length = length_values (λ c. left_from input c (get_or at c 0)) 32 0

  left_at_lem : (c : ℕ) → c < 32 → get_or (left_at input at) c [] ≡ left_from input c (get_or at c 0)
  unfolding left_at
  left_at_lem c h = table_at (λ d. left_from input d (get_or at d 0)) 32 c [] h

  -- the next record of channel c set to k
  left_set_at : (c k : ℕ) → length at ≡ 32 → (d : ℕ) → d < 32 → Dec (d ≡ c) → get_or (set (left_at input at) c (left_from input c k)) d [] ≡ left_from input d (get_or (set at c k) d 0)
  left_set_at c k long d h (yes e) =
      let l : c < length (left_at input at) = omega (arith, left_length) in
      rw e (get_or-set_same (left_at input at) c _ [] l ∙ ap (left_from input c) (sym (get_or-set_same at c k 0 (omega arith))))
  left_set_at c k long d h (no n) =
      get_or-set_other (left_at input at) c d _ [] n ∙ left_at_lem d h ∙ ap (left_from input d) (sym (get_or-set_other at c d k 0 n))

  left_set : (c k : ℕ) → length at ≡ 32 → set (left_at input at) c (left_from input c k) ≡ left_at input (set at c k)
  unfolding left_at
  left_set c k long =
      table_is (λ d. left_from input d (get_or (set at c k) d 0)) 32 [] (set (left_at input at) c (left_from input c k))
      (length-set (left_at input at) c (left_from input c k) ∙ left_length)
      (λ d h. left_set_at c k long d h (ℕ_discrete d c))

-- ---- the next channel
feeds_next : (c n : ℕ) (i : Inputs) → c < n → feeds_from c (n - c) i ≡ feeds_from (c + 1) (n - (c + 1)) (feeds_at c i)
feeds_next c n i h = let l : n - c ≡ suc (n - (c + 1)) = omega arith in rw (l, add-one c)

-- what feeding it comes to: inside, it stays
feeds_inside : (c : ℕ) (i : Inputs) → (sender_of i.world.lane.network c ≡ outside → ⊥) → feeds_at c i ≡ i
unfolding feeds_at
feeds_inside c i n = rw (ne_eqb _ _ n)

-- those between c and the next from outside are inside
pub jump_on : {c e : ℕ} (i : Inputs) → Onward i.world.lane.network.sender i.world.lane.network.channels c e
    → feeds_from c (i.world.lane.network.channels - c) i ≡ feeds_from e (i.world.lane.network.channels - e) i
jump_on {c} {e} i o = go (e - c) c (omega arith) (omega (arith, o.from))
  where
    go : (k d : ℕ) → c ≤ d → d + k ≡ e → feeds_from d (i.world.lane.network.channels - d) i ≡ feeds_from e (i.world.lane.network.channels - e) i
    go zero d h q = let same : d ≡ e = omega arith in rw same
    go (suc k) d h q =
        feeds_next d i.world.lane.network.channels i (omega (arith, o.within))
        ∙ ap (feeds_from (d + 1) (i.world.lane.network.channels - (d + 1))) (feeds_inside d i (o.inside d h (omega arith)))
        ∙ go k (d + 1) (omega arith) (omega arith)

-- ---- a loop over the channels from outside: it has come to channel c of n, or to the end, and the channels that are left lead to the same end as all did
-- at the start
pub record Around (i₀ i : Inputs) (n c : ℕ) : Type 0 where
  pub rest : feeds i₀ ≡ feeds_from c (n - c) i
  pub channels : i.world.lane.network.channels ≡ n
  pub outer : c < n → sender_of i.world.lane.network c ≡ outside

pub around_begins : (i : Inputs) {e : ℕ} → Onward i.world.lane.network.sender i.world.lane.network.channels 0 e → Around i i i.world.lane.network.channels e
unfolding feeds
around_begins i o =
    record {
      rest = let n : i.world.lane.network.channels - 0 ≡ i.world.lane.network.channels = omega arith in rw n at (jump_on i o);
      channels = refl;
      outer = o.outer;
    }

-- channel c has come to this; on to the next from outside
pub around_on : {i₀ i : Inputs} {c e n : ℕ} (i' : Inputs) → Around i₀ i n c → c < n → i'.world.lane.network.channels ≡ n → feeds_at c i ≡ i'
    → (i'.world.lane.network.channels ≡ n → Onward i'.world.lane.network.sender i'.world.lane.network.channels (c + 1) e)
    → Around i₀ i' n e
around_on {i₀} {i} {c} {e} {n} i' a h same come next =
    let o = next same in
    record {
      rest =
          a.rest ∙ feeds_next c n i h ∙ ap (feeds_from (c + 1) (n - (c + 1))) come
          ∙ subst (λ (k : ℕ). feeds_from (c + 1) (k - (c + 1)) i' ≡ feeds_from e (k - e) i') same (jump_on i' o);
      channels = same;
      outer = λ m. o.outer (omega arith);
    }

pub around_ends : {i₀ i : Inputs} {n c : ℕ} → Around i₀ i n c → n ≤ c → i ≡ feeds i₀
around_ends {n = n} {c = c} a h = let z : n - c ≡ 0 = omega arith in sym (a.rest ∙ rw z)

-- from outside, it is filled
feeds_outside : (input at : List ℕ) (c : ℕ) (w : World) (f : Fed) → c < 32 → sender_of w.lane.network c ≡ outside → feeding c (left_from input c (get_or at c 0)) w ≡ f
    → feeds_at c (inputs (left_at input at) w) ≡ put c f (left_at input at)
unfolding feeds_at
feeds_outside input at c w f h e s = rw (eq-eqb _ _ e, left_at_lem input at c h, s)

module _ (input at : List ℕ) {c : ℕ} (w : World) (below : c < 32) (outer : sender_of w.lane.network c ≡ outside) where
  -- one that is idle stays
  pub feeds_idle : idle_at (channel_of w.lane c) (receiver_ended c w) input c (get_or at c 0) ≡ true → feeds_at c (inputs (left_at input at) w) ≡ inputs (left_at input at) w
  feeds_idle i =
      feeds_outside input at c w _ below outer (idle_stays c w input (get_or at c 0) i)
      ∙ ap (λ (l : List (List ℤ)). inputs l w) (ap (set (left_at input at) c) (sym (left_at_lem input at c below)) ∙ set-get_or (left_at input at) c [])

  -- one that is filled
  pub feeds_filled : (k : ℕ) {w' : World} → length at ≡ 32 → feeding c (left_from input c (get_or at c 0)) w ≡ fed (left_from input c k) w'
      → feeds_at c (inputs (left_at input at) w) ≡ inputs (left_at input (set at c k)) w'
  feeds_filled k {w'} long f =
      feeds_outside input at c w _ below outer f ∙ ap (λ (l : List (List ℤ)). inputs l w') (left_set input at c k long)
