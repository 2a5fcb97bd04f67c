-- A relief of a lane on its way enlarges a channel that the plain order sends more on than it may hold, and is never refused with 14.
-- Assumes nothing.
use mathlib.Core.Path.{◌≡◌, sym, ap, ◌∙◌, subst}
use mathlib.Core.Bool.{false}
use mathlib.Core.List.{List}
use Prim.Native.Nat.{ℕ, ◌<◌}
use native.Mathlib.Omega.{arith}
use lib.Dec.{ltb}
use lib.IntN.{ℤ}
use lib.ListN.{length, get_or, replicate}
use borrow.Author.Tests.{ne_eqb}
use Rattle.network.specs.declared.Network.{Network}
use Rattle.network.specs.Rules.{sender_of}
use Rattle.network.proofs.Passed.{passed}
use Rattle.process.specs.Process.{Process}
use Rattle.lane.specs.State.{World, channel_of}
use Rattle.lane.proofs.SoundLaws.{sound_says}
use Rattle.waits.specs.Waits.{pointing, full_wait, waits_at}
use Rattle.rings.specs.Rings.{iter, OnRing, found}
use Rattle.rings.proofs.Pointings.{Stays}
use Rattle.rings.proofs.Rule.{ring_at}
use Rattle.relief.specs.Relief.{refused, found_in}
use Rattle.relief.proofs.Relieving.{pointing_stays, lane_found, answers_14}
use Rattle.relief.proofs.Unwanted.{ring_inside}
use Rattle.schedule.specs.Running.{relief_in}
use Rattle.kahn.specs.Plain.{from_outside}
use Rattle.kahn.proofs.Unbounded.{State}
use Rattle.kahn.proofs.Allowed.{sender_in}
use Rattle.kahn.proofs.PlainOrder.{outside_is}
use Rattle.kahn.proofs.Events.{Stands}
use Rattle.picks_needed.specs.Theorem.{sent_inside}
use Rattle.picks_needed.proofs.Task.{Task, OnTheWay}
use Rattle.picks_needed.proofs.Waits.{FullAt, waits}

module _ (t : Task) where
  open t use {n, pass, s, fin}

  -- more is sent on channel c from inside than it may hold
  pub record Short (w : World) (c : ℕ) : Type 0 where
    pub there : c < n.channels
    pub more : (channel_of w.lane c).capacity < sent_inside n s c

  module _ (w : World) (H : State Process ℤ) (out : ℕ → List ℤ) (stands : Stands n pass w H out) (way : OnTheWay t H) where
    abbrev P : ℕ
    P = w.lane.network.processes

    abbrev f : ℕ → ℕ
    f = pointing w.lane

    same-P : P ≡ n.processes
    same-P = ap (λ (m : Network). m.processes) stands.network

    stays : Stays f P
    stays = pointing_stays w.lane (sound_says w.lane stands.sound)

    -- a full wait on a ring
    inside : (p : ℕ) → OnRing f P p → (k : ℕ) → iter f k p < n.processes
    inside p ring k = omega (arith, ring_inside f P stays p ring k, same-P)

    full_on : (p : ℕ) → OnRing f P p → (k : ℕ) → (full_wait w.lane (iter f k p) ≡ 0 → ⊥) → FullAt t w (iter f k p)
    full_on p ring k z = let a = waits t w H out stands way (iter f k p) (inside p ring k) in a.full (a.full_if z)

    -- 14 would need a 257th message
    pub never_14 : relief_in w ≡ refused 14 → ⊥
    never_14 e =
        let c = (answers_14 w.lane (replicate 16 0) stands.sound).0 e in
        let o = c.0.1 in
        let k = full_on c.0.0 o.ring o.steps o.waits in
        omega (arith, c.1 c.0.0 o.ring o.steps o.waits, k.room, k.short, fin.few k.channel k.there)

    inside_sent : (c q : ℕ) → sender_in n c ≡ q → q < 16 → sent_inside n s c ≡ length (s.sent c)
    inside_sent c q e h =
        let z : from_outside n c ≡ false = outside_is (ltb c n.channels) (sender_of n c) ∙ ne_eqb (sender_in n c) 255 (λ x. omega arith) in
        rw z

    -- the channel of a ring that is taken
    pub found_short : (ring : List ℕ) (c : ℕ) → found_in w.lane ≡ found ring c → Short w c
    found_short ring c e =
        let T = (lane_found w.lane stands.sound ring c).0 e in
        let p : ℕ = T.process in
        let i : ℕ = T.grows.place in
        let q : ℕ = iter f i p in
        let at : get_or ring i 0 ≡ q = ring_at f p ring T.listed i T.grows.there in
        let k = full_on p T.relievable.ring i (λ z. T.grows.waits (ap (full_wait w.lane) at ∙ z)) in
        let same : k.channel ≡ c = sym k.at ∙ ap (waits_at w.lane) (sym at) ∙ T.grows.channel in
        let low : q < 16 = omega (arith, inside p T.relievable.ring i, (passed n pass).processes_high) in
        subst (Short w) same (record { there = k.there; more = omega (arith, k.short, inside_sent k.channel q k.mine low) })
