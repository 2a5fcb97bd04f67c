-- The channels with an end at the outside, from the last one down as a loop takes them.
-- Assumes nothing.
use mathlib.Core.Path.{◌≡◌, refl, ◌∙◌}
use mathlib.Core.List.{List}
use Prim.Native.Nat.{ℕ, ◌+◌, ◌-◌, ◌≤◌, ◌<◌}
use native.Mathlib.Decide.{ℕ_discrete}
use native.Mathlib.Omega.{arith}
use lib.ListN.{length, get_or, set, length-set}
use lib.Seq.{get_or-set_same, get_or-set_other}
use Rattle.network.specs.Rules.{outside}
use Rattle.outer_ends.specs.Outer.{Onward, Outer}

-- the channels from c on are listed, and `next` is the first of them
pub record Down (ends old : List ℕ) (channels c next : ℕ) (after : List ℕ) : Type 0 where
  pub low : c ≤ channels
  pub few : channels ≤ 32
  pub long : length after ≡ 32
  pub here : Onward ends channels c next
  pub above : (d : ℕ) → c ≤ d → d < channels → Onward ends channels (d + 1) (get_or after d 0)
  pub kept : (d : ℕ) → channels ≤ d → get_or after d 0 ≡ get_or old d 0

pub down_begins : (ends : List ℕ) (channels : ℕ) (after : List ℕ) → channels ≤ 32 → length after ≡ 32 → Down ends after channels channels channels after
down_begins ends channels after few long =
    record {
      low = omega arith;
      few = few;
      long = long;
      here = record { from = omega arith; within = omega arith; inside = λ d h l. absurd (omega arith); outer = λ h. absurd (omega arith) };
      above = λ d h l. absurd (omega arith);
      kept = λ d h. refl;
    }

module _ {ends old : List ℕ} {channels c next : ℕ} {after : List ℕ} (s : Down ends old channels c next after) (some : 0 < c) where
  listed : (d : ℕ) → c - 1 ≤ d → d < channels → Onward ends channels (d + 1) (get_or (set after (c - 1) next) d 0)
  listed d h l = go (ℕ_discrete d (c - 1))
    where
      go : Dec (d ≡ c - 1) → Onward ends channels (d + 1) (get_or (set after (c - 1) next) d 0)
      go (yes e) =
          let k : d + 1 ≡ c = omega arith in
          rw (k, e, get_or-set_same after (c - 1) next 0 (omega (arith, s.long, s.few, s.low))) s.here
      go (no n) = rw (get_or-set_other after (c - 1) d next 0 n) (s.above d (omega arith) l)

  stays : (d : ℕ) → channels ≤ d → get_or (set after (c - 1) next) d 0 ≡ get_or old d 0
  stays d h = get_or-set_other after (c - 1) d next 0 (λ e. omega (arith, s.low)) ∙ s.kept d h

  -- channel c - 1 has its end at the outside
  pub down_outer : get_or ends (c - 1) 0 ≡ outside → Down ends old channels (c - 1) (c - 1) (set after (c - 1) next)
  down_outer e =
      record {
        low = omega (arith, s.low);
        few = s.few;
        long = length-set after (c - 1) next ∙ s.long;
        here = record { from = omega arith; within = omega (arith, s.low); inside = λ d h l. absurd (omega arith); outer = λ h. e };
        above = listed;
        kept = stays;
      }

  -- it has it inside
  pub down_inner : (get_or ends (c - 1) 0 ≡ outside → ⊥) → Down ends old channels (c - 1) next (set after (c - 1) next)
  down_inner n =
      record {
        low = omega (arith, s.low);
        few = s.few;
        long = length-set after (c - 1) next ∙ s.long;
        here = record { from = omega (arith, s.here.from); within = s.here.within; inside = λ d h l. go d l (ℕ_discrete d (c - 1)) h; outer = s.here.outer };
        above = listed;
        kept = stays;
      }
    where
      go : (d : ℕ) → d < next → Dec (d ≡ c - 1) → c - 1 ≤ d → get_or ends d 0 ≡ outside → ⊥
      go d l (yes q) h = rw q n
      go d l (no q) h = s.here.inside d (omega arith) l

pub down_ends : {ends old : List ℕ} {channels c next : ℕ} {after : List ℕ} → Down ends old channels c next after → c ≡ 0 → Outer ends channels next after
down_ends {ends} {channels} {next = next} s e = record { first = rw e at s.here; next = λ d l. s.above d (omega arith) l }
