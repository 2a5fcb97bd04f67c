-- A burst and its single feeds, a list of acts and the list written out: the same states, and the same on every channel.
-- Assumes nothing.
use mathlib.Core.Path.{◌≡◌, refl, sym, ap, ap₂, ◌∙◌}
use mathlib.Core.Logic.{◌⊎◌, inl, inr}
use mathlib.Core.Bool.{Bool, true, false, cond, ◌&&◌, and-false}
use mathlib.Core.List.{List, [], ◌∷◌, ◌++◌, append_assoc}
use Prim.Native.Nat.{ℕ, suc, ◌+◌}
use native.Mathlib.Omega.{arith}
use lib.Dec.{eqb}
use lib.IntN.{ℤ}
use lib.ListN.{take}
use Rattle.lane.specs.State.{World}
use Rattle.lane.specs.Calls.{Called, feed_of}
use Rattle.bursts.specs.Bursts.{Delivery, delivery, is_accepted, feeds_of, burst_of}
use Rattle.bursts.specs.Singly.{singly}
use Rattle.bursts.proofs.Feeds.{AllRefused, AllTaken, all_alike}
use Rattle.bursts.proofs.Whole.{rest_refused}
use Rattle.kahn.specs.Calls.{feed, told, apply, was_moved, was_accepted, one, count_one}
use Rattle.kahn.specs.Steps.{Step, call, after_step}
use Rattle.kahn.specs.Steps as steps
use Rattle.kahn.proofs.Lists.{after_append, fed_append, taken_append, sent_append, moved_append, grown_append}
use Rattle.with_bursts.specs.Acts.{Act, step, burst, fed_by, feeds, steps_of, written_out, Same}

-- ---- the single feeds of a burst
module _ (c : ℕ) where
  after_feeds : (vs : List ℤ) (w : World) → steps.after (feeds c vs) w ≡ singly c vs w
  unfolding apply singly
  after_feeds [] w = refl
  after_feeds (v ∷ vs) w = after_feeds vs (feed_of c v w).world

  -- a refused value stands first: none went in
  none_in : (vs : List ℤ) (w : World) → AllRefused c w → (feeds_of c vs w).fed ≡ 0
  unfolding feeds_of
  none_in [] w a = refl
  none_in (v ∷ vs) w a = rw (a.1 v)

  one_more : (v : ℤ) (vs : List ℤ) (w : World) → AllTaken c w → (feeds_of c (v ∷ vs) w).fed ≡ suc (feeds_of c vs (feed_of c v w).world).fed
  unfolding feeds_of
  one_more v vs w a = by (is_accepted (feed_of c v w).answer) (ap (λ (r : Called). is_accepted r.answer) (a v)) (feeds_of c vs (feed_of c v w).world)
    where
      by : (t : Bool) → t ≡ true → (b : Delivery)
          → (cond t (delivery (suc b.fed) b.answer b.world) (delivery 0 (feed_of c v w).answer (feed_of c v w).world)).fed ≡ suc b.fed
      by t e b = rw e

  -- on channel d: the values that went in, where it is this one
  abbrev On : Bool → ℕ → List ℤ → List ℤ
  On here k vs = cond here (take k vs) []

  none_on : (here : Bool) (vs : List ℤ) → On here 0 vs ≡ []
  none_on true vs = refl
  none_on false vs = refl

  more_on : (here : Bool) (k : ℕ) (v : ℤ) (vs : List ℤ) → one (here && true) v ++ On here k vs ≡ On here (suc k) (v ∷ vs)
  more_on true k v vs = refl
  more_on false k v vs = refl

  none_at : (w : World) → (feeds_of c [] w).fed ≡ 0
  unfolding feeds_of
  none_at w = refl

  fed_feeds : (vs : List ℤ) (w : World) (d : ℕ) → steps.fed (feeds c vs) w d ≡ On (eqb c d) (feeds_of c vs w).fed vs
  unfolding apply
  fed_feeds [] w d = sym (none_on (eqb c d) []) ∙ ap (λ (k : ℕ). On (eqb c d) k []) (sym (none_at w))
  fed_feeds (v ∷ vs) w d = at (all_alike c w) (fed_feeds vs (feed_of c v w).world d)
    where
      at : AllRefused c w ⊎ AllTaken c w → steps.fed (feeds c vs) (feed_of c v w).world d ≡ On (eqb c d) (feeds_of c vs (feed_of c v w).world).fed vs
          → one (eqb c d && was_accepted (told (feed_of c v w).answer)) v ++ steps.fed (feeds c vs) (feed_of c v w).world d ≡ On (eqb c d) (feeds_of c (v ∷ vs) w).fed (v ∷ vs)
      at (inl a) later =
          let e : one (eqb c d && was_accepted (told (feed_of c v w).answer)) v ≡ [] =
          ap (λ (r : Called). one (eqb c d && was_accepted (told r.answer)) v) (a.1 v) ∙ ap (λ (t : Bool). one t v) (and-false (eqb c d)) in
          let z : (feeds_of c vs (feed_of c v w).world).fed ≡ 0 = ap (λ (r : Called). (feeds_of c vs r.world).fed) (a.1 v) ∙ none_in vs w a in
          ap₂ (λ (x y : List ℤ). x ++ y) e (later ∙ ap (λ (k : ℕ). On (eqb c d) k vs) z ∙ none_on (eqb c d) vs)
          ∙ sym (none_on (eqb c d) (v ∷ vs))
          ∙ ap (λ (k : ℕ). On (eqb c d) k (v ∷ vs)) (sym (none_in (v ∷ vs) w a))
      at (inr a) later =
          ap₂ (λ (x y : List ℤ). x ++ y) (ap (λ (r : Called). one (eqb c d && was_accepted (told r.answer)) v) (a v)) later
          ∙ more_on (eqb c d) (feeds_of c vs (feed_of c v w).world).fed v vs
          ∙ ap (λ (k : ℕ). On (eqb c d) k (v ∷ vs)) (sym (one_more v vs w a))

  -- they send what they feed, give nothing, and are no picks and no reliefs
  sent_feeds : (vs : List ℤ) (w : World) (d : ℕ) → steps.sent (feeds c vs) w d ≡ steps.fed (feeds c vs) w d
  sent_feeds [] w d = refl
  sent_feeds (v ∷ vs) w d = ap (λ (l : List ℤ). steps.fed_at (call (feed c v)) w d ++ l) (sent_feeds vs (after_step (call (feed c v)) w) d)

  taken_feeds : (vs : List ℤ) (w : World) (d : ℕ) → steps.taken (feeds c vs) w d ≡ []
  taken_feeds [] w d = refl
  taken_feeds (v ∷ vs) w d = taken_feeds vs (after_step (call (feed c v)) w) d

  feed_moves : (v : ℤ) (w : World) → was_moved (told (feed_of c v w).answer) ≡ false
  feed_moves v w = at (all_alike c w)
    where
      at : AllRefused c w ⊎ AllTaken c w → was_moved (told (feed_of c v w).answer) ≡ false
      at (inl a) = ap (λ (r : Called). was_moved (told r.answer)) (a.1 v)
      at (inr a) = ap (λ (r : Called). was_moved (told r.answer)) (a v)

  moved_feeds : (vs : List ℤ) (w : World) → steps.moved_in (feeds c vs) w ≡ 0
  unfolding apply
  moved_feeds [] w = refl
  moved_feeds (v ∷ vs) w = omega (arith, ap count_one (feed_moves v w), moved_feeds vs (feed_of c v w).world)

  grown_feeds : (vs : List ℤ) (w : World) → steps.grown_in (feeds c vs) w ≡ 0
  unfolding apply
  grown_feeds [] w = refl
  grown_feeds (v ∷ vs) w = omega (arith, grown_feeds vs (feed_of c v w).world)

  -- ---- of the burst itself
  pub burst_left : (vs : List ℤ) (w : World) → steps.after (feeds c vs) w ≡ (burst_of c vs w).world
  burst_left vs w = after_feeds vs w ∙ sym (rest_refused c vs w)

  fed_same : (vs : List ℤ) (w : World) → (feeds_of c vs w).fed ≡ (burst_of c vs w).fed
  unfolding feeds_of burst_of
  fed_same [] w = refl
  fed_same (v ∷ vs) w = refl

  pub burst_feeds : (vs : List ℤ) (w : World) (d : ℕ) → steps.fed (feeds c vs) w d ≡ fed_by (burst c vs) w d
  burst_feeds vs w d = fed_feeds vs w d ∙ ap (λ (k : ℕ). On (eqb c d) k vs) (fed_same vs w)

-- ---- lists
-- a burst, and then the rest, on what it left
module _ (c : ℕ) (vs : List ℤ) (acts : List Act) (w : World) (later : Same acts (burst_of c vs w).world) where
  abbrev rest : List Step
  rest = written_out acts

  then_burst : Same (burst c vs ∷ acts) w
  then_burst =
      let e = burst_left c vs w in
      record {
        left = after_append (feeds c vs) rest w ∙ ap (steps.after rest) e ∙ later.left;
        feeds =
            λ d. fed_append (feeds c vs) rest w d
            ∙ ap₂ (λ (x y : List ℤ). x ++ y) (burst_feeds c vs w d) (ap (λ (x : World). steps.fed rest x d) e ∙ later.feeds d);
        takes =
            λ d. taken_append (feeds c vs) rest w d
            ∙ ap₂ (λ (x y : List ℤ). x ++ y) (taken_feeds c vs w d) (ap (λ (x : World). steps.taken rest x d) e ∙ later.takes d);
        sends =
            λ d. sent_append (feeds c vs) rest w d
            ∙ ap₂ (λ (x y : List ℤ). x ++ y) (sent_feeds c vs w d ∙ burst_feeds c vs w d) (ap (λ (x : World). steps.sent rest x d) e ∙ later.sends d);
        moves = omega (arith, moved_append (feeds c vs) rest w, moved_feeds c vs w, ap (steps.moved_in rest) e, later.moves);
        grows = omega (arith, grown_append (feeds c vs) rest w, grown_feeds c vs w, ap (steps.grown_in rest) e, later.grows);
      }

then_step : (s : Step) (acts : List Act) (w : World) → Same acts (after_step s w) → Same (step s ∷ acts) w
then_step s acts w later =
    record {
      left = later.left;
      feeds = λ c. ap (λ (l : List ℤ). steps.fed_at s w c ++ l) (later.feeds c);
      takes = λ c. ap (λ (l : List ℤ). steps.taken_at s w c ++ l) (later.takes c);
      sends = λ c. ap (λ (l : List ℤ). steps.sent_at s w c ++ l) (later.sends c);
      moves = ap (λ (k : ℕ). steps.moved_at s w + k) later.moves;
      grows = ap (λ (k : ℕ). steps.grown_at s w + k) later.grows;
    }

pub same : (acts : List Act) (w : World) → Same acts w
same [] w = record { left = refl; feeds = λ c. refl; takes = λ c. refl; sends = λ c. refl; moves = refl; grows = refl }
same (step s ∷ acts) w = then_step s acts w (same acts (after_step s w))
same (burst c vs ∷ acts) w = then_burst c vs acts w (same acts (burst_of c vs w).world)

pub written_append : (acts later : List Act) → written_out (acts ++ later) ≡ written_out acts ++ written_out later
written_append [] later = refl
written_append (a ∷ acts) later =
    ap (λ (l : List Step). steps_of a ++ l) (written_append acts later) ∙ sym (append_assoc (steps_of a) (written_out acts) (written_out later))
