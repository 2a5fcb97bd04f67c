-- Fair and at rest with bursts, and in the list written out: the same. A closing of the one is a closing of the other, since none is among the feeds of a
-- burst.
-- Assumes nothing.
use mathlib.Core.Path.{◌≡◌, refl, sym, ap, ◌∙◌, subst, subst⁻¹}
use mathlib.Core.Bool.{Bool, true, false, true≢false}
use mathlib.Core.List.{List, [], ◌∷◌, ◌++◌}
use Prim.Native.Nat.{ℕ}
use native.Mathlib.Omega.{arith}
use lib.IntN.{ℤ}
use Rattle.network.specs.declared.Network.{Network}
use Rattle.lane.specs.State.{World}
use Rattle.kahn.specs.Calls.{pick, feed, close, take, relieve, closes_by}
use Rattle.kahn.specs.Steps.{Step, call, inner_relief}
use Rattle.kahn.specs.Steps as steps
use Rattle.kahn.specs.Boards as boards
use Rattle.kahn.specs.Boards.{Prefix, Quiet}
use Rattle.with_bursts.specs.Acts.{Act, step, burst, after, feeds, written_out}
use Rattle.with_bursts.specs.Theorem.{Fair, WasClosed, AllIn, Exactly}
use Rattle.with_bursts.proofs.Written.{same, written_append}

-- ---- a closing in the list written out
abbrev is_feed : Step → Bool
is_feed (call (pick p)) = false
is_feed (call (feed c v)) = true
is_feed (call (close c)) = false
is_feed (call (take c)) = false
is_feed (call (relieve buffer)) = false
is_feed inner_relief = false

-- none is among the feeds of a burst: it stands after them
pub record Past (first rest before later : List Step) (x : Step) : Type 0 where
  pub more : List Step
  pub splits : before ≡ first ++ more
  pub stands : rest ≡ more ++ (x ∷ later)

past_feeds : (d : ℕ) (vs : List ℤ) (rest before later : List Step) (c : ℕ) → feeds d vs ++ rest ≡ before ++ (call (close c) ∷ later)
    → Past (feeds d vs) rest before later (call (close c))
past_feeds d [] rest before later c e = record { more = before; splits = refl; stands = e }
past_feeds d (v ∷ vs) rest [] later c e =
    let q : call (feed d v) ≡ call (close c) = cc in
    absurd (true≢false (ap is_feed q))
past_feeds d (v ∷ vs) rest (b ∷ before) later c e =
    let q : feeds d vs ++ rest ≡ before ++ (call (close c) ∷ later) = cc in
    let f : b ≡ call (feed d v) = cc in
    let r = past_feeds d vs rest before later c q in
    record {
      more = r.more;
      splits = ap (λ (x : Step). x ∷ before) f ∙ ap (λ (l : List Step). call (feed d v) ∷ l) r.splits;
      stands = r.stands;
    }

-- so it is an act of the list, and what stands before it is what is written out of the acts before
pub record Among (acts : List Act) (before : List Step) (x : Step) : Type 0 where
  pub earlier : List Act
  pub later : List Act
  pub stands : acts ≡ earlier ++ (step x ∷ later)
  pub same : before ≡ written_out earlier

nothing_before : (before later : List Step) (x : Step) → [] ≡ before ++ (x ∷ later) → ⊥
nothing_before [] later x e = let z : ◌≡◌ {A = ℕ} 0 1 = cc in omega arith
nothing_before (b ∷ before) later x e = let z : ◌≡◌ {A = ℕ} 0 1 = cc in omega arith

among : (acts : List Act) (before later : List Step) (c : ℕ) → written_out acts ≡ before ++ (call (close c) ∷ later) → Among acts before (call (close c))
among [] before later c e = absurd (nothing_before before later (call (close c)) e)
among (step s ∷ acts) [] later c e =
    let q : s ≡ call (close c) = cc in
    record { earlier = []; later = acts; stands = ap (λ (x : Step). step x ∷ acts) q; same = refl }
among (step s ∷ acts) (b ∷ before) later c e =
    let q : written_out acts ≡ before ++ (call (close c) ∷ later) = cc in
    let f : b ≡ s = cc in
    let r = among acts before later c q in
    record {
      earlier = step s ∷ r.earlier;
      later = r.later;
      stands = ap (λ (l : List Act). step s ∷ l) r.stands;
      same = ap (λ (x : Step). x ∷ before) f ∙ ap (λ (l : List Step). s ∷ l) r.same;
    }
among (burst d vs ∷ acts) before later c e =
    let p = past_feeds d vs (written_out acts) before later c e in
    let r = among acts p.more later c p.stands in
    record {
      earlier = burst d vs ∷ r.earlier;
      later = r.later;
      stands = ap (λ (l : List Act). burst d vs ∷ l) r.stands;
      same = p.splits ∙ ap (λ (l : List Step). feeds d vs ++ l) r.same;
    }

-- and the other way round
written_at : (earlier later : List Act) (x : Step) (acts : List Act) → acts ≡ earlier ++ (step x ∷ later) → written_out acts ≡ written_out earlier ++ (x ∷ written_out later)
written_at earlier later x acts e = ap written_out e ∙ written_append earlier (step x ∷ later)

-- an accepted closing after the acts is one after the steps
module _ (c : ℕ) (acts : List Act) (w : World) where
  closes : closes_by (close c) (after acts w) c ≡ true → closes_by (close c) (steps.after (written_out acts) w) c ≡ true
  closes = subst⁻¹ (λ (x : World). closes_by (close c) x c ≡ true) (same acts w).left

  closing : closes_by (close c) (steps.after (written_out acts) w) c ≡ true → closes_by (close c) (after acts w) c ≡ true
  closing = subst (λ (x : World). closes_by (close c) x c ≡ true) (same acts w).left

-- ---- fair, closed, at rest
module _ (n : Network) (input : ℕ → List ℤ) (acts : List Act) (w : World) where
  fair : Fair n input acts w → boards.Fair n input (written_out acts) w
  fair f =
      record {
        feeds = λ c o. subst⁻¹ (λ (l : List ℤ). Prefix l (input c)) ((same acts w).feeds c) (f.feeds c o);
        closings =
            λ c before later o e h.
            let r = among acts before later c e in
            let g = subst (λ (l : List Step). closes_by (close c) (steps.after l w) c ≡ true) r.same h in
            ap (λ (l : List Step). steps.fed l w c) r.same
            ∙ (same r.earlier w).feeds c
            ∙ f.closings c r.earlier r.later o r.stands (closing c r.earlier w g);
      }

  fairly : boards.Fair n input (written_out acts) w → Fair n input acts w
  fairly f =
      record {
        feeds = λ c o. subst (λ (l : List ℤ). Prefix l (input c)) ((same acts w).feeds c) (f.feeds c o);
        closings =
            λ c before later o e h.
            sym ((same before w).feeds c)
            ∙ f.closings c (written_out before) (written_out later) o (written_at before later (call (close c)) acts e) (closes c before w h);
      }

  shut : (c : ℕ) → WasClosed acts w c → boards.WasClosed (written_out acts) w c
  shut c k = (written_out k.0, written_out k.1, written_at k.0 k.1 (call (close c)) acts k.2, closes c k.0 w k.3)

  shutting : (c : ℕ) → boards.WasClosed (written_out acts) w c → WasClosed acts w c
  shutting c k =
      let r = among acts k.0 k.1 c k.2 in
      (r.earlier, r.later, r.stands, closing c r.earlier w (subst (λ (l : List Step). closes_by (close c) (steps.after l w) c ≡ true) r.same k.3))

  all_in_lem : AllIn n input acts w → boards.AllIn n input (written_out acts) w
  all_in_lem a = record { fed_all = λ c o. (same acts w).feeds c ∙ a.fed_all c o; closed_all = λ c o. shut c (a.closed_all c o) }

  all_came : boards.AllIn n input (written_out acts) w → AllIn n input acts w
  all_came a = record { fed_all = λ c o. sym ((same acts w).feeds c) ∙ a.fed_all c o; closed_all = λ c o. shutting c (a.closed_all c o) }

  pub exactly : Exactly n input acts w
  exactly =
      record {
        fair = (fair, fairly);
        all_in = (all_in_lem, all_came);
        rest = (
          λ r. record { all_in = all_in_lem r.all_in; quiet = subst⁻¹ (Quiet n) (same acts w).left r.quiet },
          λ r. record { all_in = all_came r.all_in; quiet = subst (Quiet n) (same acts w).left r.quiet },
        );
      }
