-- The loop over the values: single feeds, until one is refused.
-- Assumes nothing.
use mathlib.Core.Path.{◌≡◌, sym, ap, ◌∙◌}
use mathlib.Core.Bool.{true}
use mathlib.Core.List.{List}
use Prim.Native.Nat.{ℕ, suc, ◌+◌, ◌≤◌, ◌<◌}
use native.Mathlib.Omega.{arith}
use native.Mathlib.Numerals.{add-one}
use lib.IntN.{ℤ, pos}
use lib.ListN.{length, get_or, drop, drop_of_length-le}
use lib.Seq.{drop-cons}
use Rattle.lane.specs.State.{World}
use Rattle.network.specs.Rules.{sender_of, outside}
use Rattle.lane.specs.Sound.{sound_of}
use Rattle.lane.specs.Calls.{accepted, refused, called}
use Rattle.lent_calls.specs.OneChannel.{fed_or_not}
use Rattle.lent_calls.proofs.There.{feed_there}
use Rattle.bursts.specs.Bursts.{Delivery, delivery, feeds_of}

-- what a burst leaves of which k values went in before
abbrev pub further : ℕ → Delivery → Delivery
further k d = delivery (k + d.fed) d.answer d.world

module _ (c : ℕ) (vs : List ℤ) (k : ℕ) (w : World) where
  -- all went in
  pub all_in : length vs ≤ k → further k (feeds_of c (drop k vs) w) ≡ delivery k accepted w
  unfolding feeds_of
  all_in l = let e : k + 0 ≡ k = omega arith in rw (drop_of_length-le vs l, e)

  module _ (sound : sound_of w.lane ≡ true) (there : c < w.lane.network.channels) (outer : sender_of w.lane.network c ≡ outside) (long : length w.cells ≡ 8192) (more : k < length vs) {w' : World} where
    -- one more goes in
    pub one_in : called accepted w' ≡ fed_or_not c (get_or vs k (pos 0)) w → further k (feeds_of c (drop k vs) w) ≡ further (k + 1) (feeds_of c (drop (k + 1) vs) w')
    unfolding feeds_of
    one_in e =
        let rest = feeds_of c (drop (suc k) vs) w' in
        let f : k + suc rest.fed ≡ suc k + rest.fed = omega arith in
        rw (drop-cons vs k (pos 0) more, feed_there c w sound there (get_or vs k (pos 0)) long outer, ← e) (ap (λ (n : ℕ). delivery n rest.answer rest.world) f)
        ∙ ap (λ (j : ℕ). further j (feeds_of c (drop j vs) w')) (sym (add-one k))

    -- the next is refused
    pub next_refused : {n : ℕ} → called (refused n) w' ≡ fed_or_not c (get_or vs k (pos 0)) w → further k (feeds_of c (drop k vs) w) ≡ delivery k (refused n) w'
    unfolding feeds_of
    next_refused e =
        let z : k + 0 ≡ k = omega arith in
        rw (drop-cons vs k (pos 0) more, feed_there c w sound there (get_or vs k (pos 0)) long outer, ← e, z)
