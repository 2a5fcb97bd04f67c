-- Single feeds: a burst is single feeds up to the first that is refused, nothing else is, and those after it would be refused too.
-- Assumes nothing.
use mathlib.Core.Path.{◌≡◌, refl, sym, ap, ap₂, ◌∙◌, subst⁻¹}
use mathlib.Core.Logic.{◌⊎◌, inl, inr}
use mathlib.Core.Bool.{Bool, true, false, cond, true≢false}
use mathlib.Core.List.{List, [], ◌∷◌}
use Prim.Native.Nat.{ℕ, zero, suc, ◌<◌}
use native.Mathlib.Decide.{dec_lt}
use native.Mathlib.Omega.{arith}
use lib.IntN.{ℤ, pos}
use lib.ListN.{length, get_or, take}
use Rattle.process.specs.Execute.{full}
use Rattle.lane.specs.State.{World, channel_of}
use Rattle.lane.specs.Calls.{Told, accepted, refused, Called, called, refuse, cells_wrong, unsound, no_channel_there, sender_inside, is_closed, receiver_ended, stored, counting, feed_of}
use Rattle.bursts.specs.Bursts.{Delivery, delivery, is_accepted, onward, feeds_of}
use Rattle.bursts.specs.Singly.{singly, AsSingly}

module _ (c : ℕ) (w : World) where
  -- ---- the tests of a feed do not look at the value: either all values are refused, with one number, or none is
  abbrev Refuses : (Called → Called) → Type 0
  Refuses tests = ((k : ℕ) × ((next : Called) → tests next ≡ called (refused k) w)) ⊎ ((next : Called) → tests next ≡ next)

  one_test : (bad : Bool) (k : ℕ) → Refuses (refuse bad k w)
  one_test true k = inl (k, λ next. refl)
  one_test false k = inr (λ next. refl)

  then_tests : (first rest : Called → Called) → Refuses first → Refuses rest → Refuses (λ next. first (rest next))
  then_tests first rest (inl a) b = inl (a.0, λ next. a.1 (rest next))
  then_tests first rest (inr a) (inl b) = inl (b.0, λ next. a (rest next) ∙ b.1 next)
  then_tests first rest (inr a) (inr b) = inr (λ next. a (rest next) ∙ b next)

  abbrev feed_tests : Called → Called
  feed_tests next =
      refuse (cells_wrong w) 15 w
      (refuse (unsound w) 16 w
      (refuse (no_channel_there c w) 8 w
      (refuse (sender_inside c w) 9 w
      (refuse (is_closed c w) 11 w (refuse (full (receiver_ended c w) (channel_of w.lane c)) 10 w next)))))

  feed_either : Refuses feed_tests
  feed_either =
      then_tests _ _ (one_test (cells_wrong w) 15)
      (then_tests _ _ (one_test (unsound w) 16)
      (then_tests _ _ (one_test (no_channel_there c w) 8)
      (then_tests _ _ (one_test (sender_inside c w) 9)
      (then_tests _ _ (one_test (is_closed c w) 11) (one_test (full (receiver_ended c w) (channel_of w.lane c)) 10)))))

  feed_tested : (v : ℤ) → feed_of c v w ≡ feed_tests (called accepted (counting (stored c v w)))
  unfolding feed_of
  feed_tested v = refl

  abbrev pub AllRefused : Type 0
  AllRefused = (k : ℕ) × ((v : ℤ) → feed_of c v w ≡ called (refused k) w)

  abbrev pub AllTaken : Type 0
  AllTaken = (v : ℤ) → feed_of c v w ≡ called accepted (counting (stored c v w))

  pub all_alike : AllRefused ⊎ AllTaken
  all_alike = at feed_either
    where
      at : Refuses feed_tests → AllRefused ⊎ AllTaken
      at (inl a) = inl (a.0, λ v. feed_tested v ∙ a.1 _)
      at (inr a) = inr (λ v. feed_tested v ∙ a _)

module _ (c : ℕ) where
  -- ---- up to the first that is refused
  pub feeds_singly : (vs : List ℤ) (w : World) → AsSingly c vs w (feeds_of c vs w)
  unfolding feeds_of singly
  feeds_singly [] w = record { within = omega arith; left = refl; went = λ i l. absurd (omega arith); early = λ l. absurd (omega arith); whole = λ e. refl }
  feeds_singly (v ∷ vs) w = go (all_alike c w) (feeds_singly vs (feed_of c v w).world)
    where
      b : Delivery
      b = feeds_of c vs (feed_of c v w).world

      by : Bool → Delivery
      by t = cond t (delivery (suc b.fed) b.answer b.world) (delivery 0 (feed_of c v w).answer (feed_of c v w).world)

      goes : AllTaken c w → AsSingly c vs (feed_of c v w).world b → AsSingly c (v ∷ vs) w (by true)
      goes a s =
          record {
            within = omega (arith, s.within);
            left = s.left;
            went = each;
            early = λ l. s.early (omega arith);
            whole = λ q. s.whole (omega arith);
          }
        where
          each : (i : ℕ) → i < suc b.fed → (feed_of c (get_or (v ∷ vs) i (pos 0)) (singly c (take i (v ∷ vs)) w)).answer ≡ accepted
          each zero l = ap (λ (r : Called). r.answer) (a v)
          each (suc i) l = s.went i (omega arith)

      go : AllRefused c w ⊎ AllTaken c w → AsSingly c vs (feed_of c v w).world b → AsSingly c (v ∷ vs) w (by (is_accepted (feed_of c v w).answer))
      go (inl a) s =
          rw (a.1 v)
          (record {
            within = omega arith;
            left = refl;
            went = λ i l. absurd (omega arith);
            early = λ l. (a.0, refl, a.1 v);
            whole = λ e. absurd (omega arith);
          })
      go (inr a) s = subst⁻¹ (λ (t : Bool). AsSingly c (v ∷ vs) w (by t)) (ap (λ (r : Called). is_accepted r.answer) (a v)) (goes a s)

  -- ---- those after it
  singly_refused : (k : ℕ) (w : World) → ((v : ℤ) → feed_of c v w ≡ called (refused k) w) → (vs : List ℤ) → singly c vs w ≡ w
  unfolding singly
  singly_refused k w e [] = refl
  singly_refused k w e (v ∷ vs) = rw (e v) (singly_refused k w e vs)

  pub feeds_all : (vs : List ℤ) (w : World) → (feeds_of c vs w).world ≡ singly c vs w
  unfolding feeds_of singly
  feeds_all [] w = refl
  feeds_all (v ∷ vs) w = go (all_alike c w) (feeds_all vs (feed_of c v w).world)
    where
      go : AllRefused c w ⊎ AllTaken c w → (feeds_of c vs (feed_of c v w).world).world ≡ singly c vs (feed_of c v w).world
          → (onward (feed_of c v w) (feeds_of c vs (feed_of c v w).world)).world ≡ singly c vs (feed_of c v w).world
      go (inl a) later = rw (a.1 v) (sym (singly_refused a.0 w a.1 vs))
      go (inr a) later = rw (a v) (rw (a v) at later)

  -- ---- nothing else is so
  module _ (vs : List ℤ) (w : World) (a b : Delivery) (s : AsSingly c vs w a) (t : AsSingly c vs w b) where
    -- the one that stopped first met a refusal where the other's value went in
    not_before : a.fed < b.fed → ⊥
    not_before l =
        let e = s.early (omega (arith, t.within)) in
        let q : (feed_of c (get_or vs a.fed (pos 0)) (singly c (take a.fed vs) w)).answer ≡ refused e.0 =
        ap (λ (x : World). (feed_of c (get_or vs a.fed (pos 0)) x).answer) (sym s.left) ∙ ap (λ (r : Called). r.answer) e.2 in
        true≢false (ap is_accepted (sym (t.went a.fed l) ∙ q))

  module _ (vs : List ℤ) (w : World) (a b : Delivery) (s : AsSingly c vs w a) (t : AsSingly c vs w b) where
    same_fed : a.fed ≡ b.fed
    same_fed = let l = not_before vs w a b s t in let m = not_before vs w b a t s in at (dec_lt a.fed b.fed) (dec_lt b.fed a.fed) l m
      where
        at : Dec (a.fed < b.fed) → Dec (b.fed < a.fed) → (a.fed < b.fed → ⊥) → (b.fed < a.fed → ⊥) → a.fed ≡ b.fed
        at (yes d) e l m = absurd (l d)
        at (no d) (yes e) l m = absurd (m e)
        at (no d) (no e) l m = omega arith

    same_world : a.world ≡ b.world
    same_world = s.left ∙ ap (λ (k : ℕ). singly c (take k vs) w) same_fed ∙ sym t.left

    same_answer : a.answer ≡ b.answer
    same_answer = at (dec_lt a.fed (length vs))
      where
        at : Dec (a.fed < length vs) → a.answer ≡ b.answer
        at (yes d) =
            let e = s.early d in
            let f = t.early (omega (arith, same_fed)) in
            let q : refused e.0 ≡ refused f.0 =
            ap (λ (r : Called). r.answer) (sym e.2)
            ∙ ap₂ (λ (k : ℕ) (x : World). (feed_of c (get_or vs k (pos 0)) x).answer) same_fed same_world
            ∙ ap (λ (r : Called). r.answer) f.2 in
            e.1 ∙ q ∙ sym f.1
        at (no d) =
            let n : a.fed ≡ length vs = omega (arith, s.within) in
            s.whole n ∙ sym (t.whole (omega (arith, same_fed)))

    pub only_so : a ≡ b
    only_so = ap (λ (k : ℕ). delivery k a.answer a.world) same_fed ∙ ap (λ (x : Told). delivery b.fed x a.world) same_answer ∙ ap (delivery b.fed b.answer) same_world
