-- A lane on its way with all input in, in which no pick moves and no ring has a full wait: every process has ended. For each that has not would point to
-- another, so some would wait in a ring, all of them for messages of one another; and then the plain order would not have ended them either.
-- Assumes nothing.
use mathlib.Core.Path.{◌≡◌, refl, sym, ap, ◌∙◌, subst}
use mathlib.Core.Logic.{◌⊎◌, inl, inr}
use mathlib.Core.Bool.{Bool, true, false, true≢false}
use mathlib.Core.List.{List}
use Prim.Native.Nat.{ℕ, zero, suc, ◌+◌, ◌-◌, ◌<◌}
use native.Mathlib.Decide.{ℕ_discrete}
use native.Mathlib.Omega.{arith}
use lib.Dec.{ltb}
use lib.IntN.{ℤ}
use lib.ListN.{replicate}
use borrow.Author.Tests.{lt-ltb}
use Rattle.base.proofs.Conjunction.{is_false}
use Rattle.network.specs.declared.Network.{Network}
use Rattle.network.specs.Rules.{sender_of, receiver_of, outside}
use Rattle.process.specs.Process.{Process}
use Rattle.process.specs.declared.Outcome.{Outcome}
use Rattle.process.specs.declared.Outcome.TheVariants.{Moved, Sent, Halted, WaitEmpty, WaitFull, Ended}
use Rattle.lane.specs.State.{World, channel_of, ended_at}
use Rattle.lane.specs.Pick.{step_for, has_moved}
use Rattle.lane.proofs.SoundLaws.{ChannelSound, sound_says}
use Rattle.waits.specs.Waits.{pointing, full_wait}
use Rattle.rings.specs.Rings.{iter, OnRing}
use Rattle.rings.proofs.Pigeonhole.{pigeonhole}
use Rattle.rings.proofs.Circles.{iter_add}
use Rattle.relief.specs.Relief.{refused}
use Rattle.relief.proofs.Relieving.{answers_13}
use Rattle.schedule.specs.Running.{relief_in}
use Rattle.kahn.proofs.Unbounded.{State}
use Rattle.kahn.proofs.Determined.{fed_all_lem, fill_full}
use Rattle.kahn.proofs.Allowed.{sender_in, has_ended}
use Rattle.kahn.proofs.PlainOrder.{state_of}
use Rattle.picks_needed.proofs.Onward.{Leads}
use Rattle.picks_needed.proofs.Caught.{Caught, caught_stays, idle_stays}
use Rattle.picks_needed.proofs.Task.{Task, net}
use Rattle.picks_needed.proofs.Waits.{ends_are, channel_ends, EmptyAt, FullAt, Waits, waits}
use Rattle.picks_needed.proofs.Along.{Along}

module _ (t : Task) (w : World) (H : State Process ℤ) (left : ℕ → List ℤ) (moved made : ℕ) (a : Along t w H left moved made)
    (shut : (c : ℕ) → sender_in t.n c ≡ 255 → H.closed c ≡ true)
    (quiet : (q : ℕ) → q < t.n.processes → has_moved (step_for q w).outcome ≡ false) where
  open t use {n, pass, input, s, fin}

  -- all of the input has come
  leads : Leads (net t) (state_of s) H
  leads =
      subst (Leads (net t) (state_of s)) (fill_full (net t) input H (λ c o. fed_all_lem (net t) input H a.going.fed c o (shut c o)) shut) a.going.way

  channel_sound_lem : (c : ℕ) → c < n.channels → ChannelSound (ended_at w.lane (sender_of n c)) (ended_at w.lane (receiver_of n c)) (channel_of w.lane c)
  channel_sound_lem c h =
      subst (λ (m : Network). ChannelSound (ended_at w.lane (sender_of m c)) (ended_at w.lane (receiver_of m c)) (channel_of w.lane c)) a.stands.network
      ((sound_says w.lane a.stands.sound).channels c (rw a.stands.network h))

  ended_is : (r : ℕ) → ended_at w.lane r ≡ has_ended (H.processes r)
  ended_is r = ap has_ended (a.stands.related.same r)

  -- the end of a channel that is there, in the network's words and in the history's
  sender_is : (c : ℕ) → c < n.channels → sender_in n c ≡ sender_of n c
  sender_is c h = ends_are (ltb c n.channels) (sender_of n c) (lt-ltb c n.channels h)

  abbrev Live : ℕ → Type 0
  Live q = (q < n.processes) × (has_ended (H.processes q) ≡ false)

  -- where a live process would stay as it is, the plain order would not have ended it
  stays_not : (q : ℕ) → Live q → s.processes q ≡ H.processes q → ⊥
  stays_not q l e = true≢false (sym (fin.all q l.0) ∙ ap has_ended e ∙ l.1)

  -- a live process waits
  waiting : (q : ℕ) → Live q → EmptyAt t w H q ⊎ FullAt t w q
  waiting q l = at (step_for q w).outcome refl
    where
      k : Waits t w H q
      k = waits t w H a.out a.stands a.going.way q l.0

      at : (x : Outcome) → (step_for q w).outcome ≡ x → EmptyAt t w H q ⊎ FullAt t w q
      at Moved e = absurd (true≢false (sym (ap has_moved e) ∙ quiet q l.0))
      at (Sent v) e = absurd (true≢false (sym (ap has_moved e) ∙ quiet q l.0))
      at Halted e = absurd (true≢false (sym (ap has_moved e) ∙ quiet q l.0))
      at WaitEmpty e = inl (k.empty e)
      at WaitFull e = inr (k.full e)
      at Ended e = absurd (stays_not q l (idle_stays (net t) (state_of s) q H leads (k.over e)))

  -- and points to a live process: an open channel from outside there is none, and an outside output has room for all it gets
  points : (q : ℕ) → Live q → Live (pointing w.lane q)
  points q l = at (waiting q l)
    where
      at : EmptyAt t w H q ⊎ FullAt t w q → Live (pointing w.lane q)
      at (inl k) =
          let c = k.channel in
          rw k.points (
            end (channel_ends n pass c k.there).0,
            sym (ended_is (sender_of n c)) ∙ is_false (ended_at w.lane (sender_of n c)) (λ e. true≢false (sym ((channel_sound_lem c k.there).shut e) ∙ k.unclosed)),
          )
        where
          end : (sender_of n k.channel < n.processes) ⊎ (sender_of n k.channel ≡ outside) → sender_of n k.channel < n.processes
          end (inl h) = h
          end (inr e) = absurd (true≢false (sym (shut k.channel (sender_is k.channel k.there ∙ e)) ∙ k.unshut))
      at (inr k) =
          let c = k.channel in
          rw k.points (end (channel_ends n pass c k.there).1, sym (ended_is (receiver_of n c)) ∙ k.alive)
        where
          end : (receiver_of n k.channel < n.processes) ⊎ (receiver_of n k.channel ≡ outside) → receiver_of n k.channel < n.processes
          end (inl h) = h
          end (inr e) = absurd (omega (arith, fin.room k.channel k.there e, a.capacities.low k.channel k.there, k.short))

  abbrev f : ℕ → ℕ
  f = pointing w.lane

  on_live : (p : ℕ) → Live p → (k : ℕ) → Live (iter f k p)
  unfolding iter
  on_live p l zero = l
  on_live p l (suc k) = points (iter f k p) (on_live p l k)

  module _ (none : relief_in w ≡ refused 13) where
    abbrev P : ℕ
    P = w.lane.network.processes

    -- a live process on a ring
    module _ (q : ℕ) (l : Live q) (ring : OnRing f P q) where
      no_full : (k : ℕ) → full_wait w.lane (iter f k q) ≡ 0
      no_full k = at (ℕ_discrete (full_wait w.lane (iter f k q)) 0)
        where
          at : Dec (full_wait w.lane (iter f k q) ≡ 0) → full_wait w.lane (iter f k q) ≡ 0
          at (yes e) = e
          at (no z) = absurd ((answers_13 w.lane (replicate 16 0) a.stands.sound).0 none q (record { ring = ring; steps = k; waits = z }))

      abbrev S : ℕ → Type 0
      S x = (k : ℕ) × (x ≡ iter f k q)

      caught : (x : ℕ) → S x → Caught (net t) (state_of s) H S x
      unfolding iter
      caught x m = at (waiting x (subst Live (sym m.1) (on_live q l m.0)))
        where
          at : EmptyAt t w H x ⊎ FullAt t w x → Caught (net t) (state_of s) H S x
          at (inl k) =
              record {
                channel = k.channel;
                next = k.next;
                over = k.end;
                wants = k.wants;
                waits = k.waits;
                from = (suc m.0, sender_is k.channel k.there ∙ sym k.points ∙ ap f m.1);
              }
          at (inr k) = absurd (let z : full_wait w.lane x ≡ 0 = ap (full_wait w.lane) m.1 ∙ no_full m.0 in omega (arith, (channel_sound_lem k.channel k.there).low, k.room))

      none_caught : ⊥
      unfolding iter
      none_caught = stays_not q l (caught_stays (net t) (state_of s) H S caught leads q (0, refl))

    -- of as many pointings as there are processes, and one, two lead to the same
    no_live : (p : ℕ) → Live p → ⊥
    no_live p l =
        let z = pigeonhole n.processes (λ i. iter f i p) (λ i h. (on_live p l i).0) in
        let i : ℕ = z.0 in
        let j : ℕ = z.1 in
        let back : iter f (j - i) (iter f i p) ≡ iter f i p =
        sym (iter_add f (j - i) i p) ∙ ap (λ (k : ℕ). iter f k p) (let e : j - i + i ≡ j = omega (arith, z.2) in e) ∙ sym z.4 in
        let here : iter f i p < P = omega (arith, (on_live p l i).0, ap (λ (m : Network). m.processes) a.stands.network) in
        none_caught (iter f i p) (on_live p l i) (here, j - i, omega (arith, z.2), back)

    pub all_over : (p : ℕ) → p < n.processes → has_ended (H.processes p) ≡ true
    all_over p h = at (has_ended (H.processes p)) refl
      where
        at : (b : Bool) → has_ended (H.processes p) ≡ b → b ≡ true
        at true e = refl
        at false e = absurd (no_live p (h, e))
