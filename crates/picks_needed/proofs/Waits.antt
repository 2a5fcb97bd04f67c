-- A process of a lane on its way that waits: on which channel, whom it points to, and what is still to be sent on a channel that is full.
-- Assumes nothing.
use mathlib.Core.Path.{◌≡◌, refl, sym, ap, ◌∙◌, subst, subst⁻¹}
use mathlib.Core.Logic.{◌⊎◌, inl, inr, ⊎_elim}
use mathlib.Core.Bool.{Bool, true, false, cond, false≢true}
use mathlib.Core.List.{List}
use mathlib.Core.Option.{none}
use Prim.Native.Nat.{ℕ, ◌<◌}
use native.Mathlib.Omega.{arith}
use lib.Dec.{eqb, ltb}
use lib.IntN.{ℤ}
use lib.ListN.{length}
use borrow.Author.Tests.{ltb-true, lt-ltb, eqb-true}
use Rattle.base.proofs.Tests.{each_true}
use Rattle.network.specs.declared.Network.{Network}
use Rattle.network.specs.Rules.{sender_of, receiver_of, capacity_of, outside, end_right, record_right, records, passes}
use Rattle.network.proofs.Passed.{passed}
use Rattle.process.specs.Process.{Process}
use Rattle.process.specs.declared.Outcome.{Outcome}
use Rattle.process.specs.declared.Outcome.TheVariants.{Moved, Sent, Halted, WaitEmpty, WaitFull, Ended}
use Rattle.process.specs.Intent.{idle, receive, send}
use Rattle.lane.specs.State.{World, channel_of, ended_at}
use Rattle.lane.specs.Pick.{channel_in, instruction_for, step_for}
use Rattle.lane_sound.proofs.Parts.{ends_right_lem, either}
use Rattle.waits.specs.Waits.{wait_in, wait_of, pointing, full_wait, waits_at}
use Rattle.waits.proofs.WaitLaws.{wait_any}
use Rattle.kahn.proofs.Unbounded.{State, Owns, does}
use Rattle.kahn.proofs.Bounded.{Board, channel_at, process_at, full, pick_on}
use Rattle.kahn.proofs.Relation.{Related}
use Rattle.kahn.proofs.Allowed.{sender_in, receiver_in, has_ended, On, want_on}
use Rattle.kahn.proofs.Instance.{Store, machine_of, wants_in}
use Rattle.kahn.proofs.PlainOrder.{state_of}
use Rattle.kahn.proofs.View.{board_of, world_of, answer_of, is_there, pick_is}
use Rattle.kahn.proofs.Events.{Stands, world_at, picks}
use Rattle.picks_needed.proofs.Onward.{way_send}
use Rattle.picks_needed.proofs.Waiting.{at_empty, at_full, at_over}
use Rattle.picks_needed.proofs.Task.{Task, net, at_rest, OnTheWay}

-- ---- the ends of a channel that is there
pub ends_are : (t : Bool) (e : ℕ) → t ≡ true → cond t e 254 ≡ e
ends_are t e h = rw h

end_by_lem : (e processes : ℕ) → end_right e processes ≡ true → (e < processes) ⊎ (e ≡ outside)
end_by_lem e processes h = ⊎_elim (λ q. inl (ltb-true e processes q)) (λ q. inr (eqb-true e outside q)) (either (ltb e processes) (eqb e outside) h)

pub channel_ends : (n : Network) → passes n ≡ true → (c : ℕ) → c < n.channels
    → ((sender_of n c < n.processes) ⊎ (sender_of n c ≡ outside)) × ((receiver_of n c < n.processes) ⊎ (receiver_of n c ≡ outside))
unfolding records
channel_ends n pass c h =
    let r = ends_right_lem (sender_of n c) (receiver_of n c) (capacity_of n c) n.processes
    (each_true (record_right n) 0 n.channels (passed n pass).records_good c (omega arith) (omega arith)) in
    (end_by_lem (sender_of n c) n.processes r.0, end_by_lem (receiver_of n c) n.processes r.1)

-- ---- a full channel has a receiver that has not ended, and holds as many as it may
full_by : (gone : Bool) (held capacity : ℕ) → cond gone false (eqb held capacity) ≡ true → (gone ≡ false) × (held ≡ capacity)
full_by true held capacity e = absurd (false≢true e)
full_by false held capacity e = (refl, eqb-true held capacity e)

module _ (t : Task) where
  open t use {n, pass, input, s}

  -- process q waits for a message
  pub record EmptyAt (w : World) (H : State Process ℤ) (q : ℕ) : Type 0 where
    pub channel : ℕ
    pub next : ℤ → Process
    pub end : Process
    pub wants : wants_in n q (H.processes q) ≡ receive channel next end
    pub waits : does (net t) q H ≡ none
    pub there : channel < n.channels
    pub points : pointing w.lane q ≡ sender_of n channel
    pub unclosed : (channel_of w.lane channel).closed ≡ false
    pub unshut : H.closed channel ≡ false

  -- it waits for room: the plain order sends more on the channel than it may hold
  pub record FullAt (w : World) (q : ℕ) : Type 0 where
    pub channel : ℕ
    pub there : channel < n.channels
    pub at : waits_at w.lane q ≡ channel
    pub room : full_wait w.lane q ≡ (channel_of w.lane channel).capacity
    pub points : pointing w.lane q ≡ receiver_of n channel
    pub mine : sender_in n channel ≡ q
    pub alive : ended_at w.lane (receiver_of n channel) ≡ false
    pub short : (channel_of w.lane channel).capacity < length (s.sent channel)

  -- what a pick of it would answer says how it waits
  pub record Waits (w : World) (H : State Process ℤ) (q : ℕ) : Type 0 where
    pub over : (step_for q w).outcome ≡ Ended → wants_in n q (H.processes q) ≡ idle
    pub empty : (step_for q w).outcome ≡ WaitEmpty → EmptyAt w H q
    pub full : (step_for q w).outcome ≡ WaitFull → FullAt w q
    pub full_if : (full_wait w.lane q ≡ 0 → ⊥) → (step_for q w).outcome ≡ WaitFull

  module _ (accepted : ℕ) (b : Board Store ℤ) (H : State Process ℤ) (out : ℕ → List ℤ) (R : Related (machine_of n pass) b H out) (way : OnTheWay t H) (q : ℕ) (h : q < n.processes) where
    abbrev w : World
    w = world_of n accepted b

    abbrev x : Process
    x = process_at (machine_of n pass) b q

    turned : (o : Outcome) → (step_for q w).outcome ≡ o → (pick_on (machine_of n pass) q b).answer ≡ answer_of o
    turned o e = sym (pick_is n pass q accepted b R.good h).1 ∙ ap answer_of e

    low : q < 16
    low = omega (arith, (passed n pass).processes_high)

    -- what it wants is on its instruction's channel
    wants_at : On (instruction_for q w.lane).b (wants_in n q x)
    wants_at = rw (lt-ltb q n.processes h) (want_on (instruction_for q w.lane) x)

    owned : Owns (sender_in n) (receiver_in n) q (wants_in n q x)
    owned = (net t).owns q x

    waits_so : (o : Outcome) → (step_for q w).outcome ≡ o → wait_of w.lane q ≡ wait_in o (channel_in (instruction_for q w.lane))
    waits_so o e = wait_any w.lane w.cells q ∙ ap (λ (y : Outcome). wait_in y (channel_in (instruction_for q w.lane))) e

    -- a channel of which q is an end, named by its instruction: it is there, and it is the one that q waits on
    record Named (c : ℕ) : Type 0 where
      there : c < n.channels
      low_channel : c < 32
      at : channel_in (instruction_for q w.lane) ≡ c

    named : (c e : ℕ) → cond (ltb c n.channels) e 254 ≡ q → c ≡ (instruction_for q w.lane).b → Named c
    named c e mine same =
        let l = ltb-true c n.channels (is_there n pass (ltb c n.channels) e (omega (arith, low))) in
        let b : c < 32 = omega (arith, (passed n pass).channels_high) in
        record { there = l; low_channel = b; at = omega arith }

    over_at : (step_for q w).outcome ≡ Ended → wants_in n q (H.processes q) ≡ idle
    over_at e = ap (wants_in n q) (sym (R.same q)) ∙ at_over (machine_of n pass) b q (turned Ended e)

    empty_at : (step_for q w).outcome ≡ WaitEmpty → EmptyAt w H q
    unfolding pointing
    empty_at e =
        let k = at_empty (machine_of n pass) b q (turned WaitEmpty e) in
        let c : ℕ = k.channel in
        let into : receiver_in n c ≡ q = subst (Owns (sender_in n) (receiver_in n) q) k.wants owned in
        let m = named c (receiver_of n c) into (subst (On (instruction_for q w.lane).b) k.wants wants_at) in
        record {
          channel = c;
          next = k.next;
          end = k.end;
          wants = ap (wants_in n q) (sym (R.same q)) ∙ k.wants;
          waits = (rw e at (picks n pass accepted b H out R q h)).0;
          there = m.there;
          points = rw (lt-ltb q n.processes h, waits_so WaitEmpty e, m.at);
          unclosed = k.unclosed;
          unshut = sym (R.lines c m.low_channel).shut ∙ k.unclosed;
        }

    full_at : (step_for q w).outcome ≡ WaitFull → FullAt w q
    unfolding pointing full_wait waits_at full
    full_at e =
        let k = at_full (machine_of n pass) b q (turned WaitFull e) in
        let c : ℕ = k.channel in
        let from : sender_in n c ≡ q = subst (Owns (sender_in n) (receiver_in n) q) k.wants owned in
        let m = named c (sender_of n c) from (subst (On (instruction_for q w.lane).b) k.wants wants_at) in
        let L = R.lines c m.low_channel in
        let f = full_by (has_ended (process_at (machine_of n pass) b (receiver_in n c))) (channel_at (machine_of n pass) b c).held (channel_at (machine_of n pass) b c).capacity k.filled in
        let i : wants_in n q (H.processes q) ≡ send c k.message k.next k.fault = ap (wants_in n q) (sym (R.same q)) ∙ k.wants in
        let more = way_send (net t) (state_of s) (at_rest t) input q c k.message k.next k.fault H (λ z. omega (arith, low)) i (sym L.shut ∙ k.unclosed) way in
        record {
          channel = c;
          there = m.there;
          at = rw (waits_so WaitFull e, m.at);
          room = rw (waits_so WaitFull e, m.at);
          points = rw (lt-ltb q n.processes h, waits_so WaitFull e, m.at);
          mine = from;
          alive = ap (ended_at w.lane) (sym (ends_are (ltb c n.channels) (receiver_of n c) (lt-ltb c n.channels m.there))) ∙ f.0;
          short = omega (arith, more, L.count, f.1);
        }

    -- a full wait is one that a pick would answer so
    full_waits : (full_wait w.lane q ≡ 0 → ⊥) → (step_for q w).outcome ≡ WaitFull
    unfolding full_wait
    full_waits z = at (step_for q w).outcome refl
      where
        at : (o : Outcome) → (step_for q w).outcome ≡ o → o ≡ WaitFull
        at Moved e = absurd (z (rw (waits_so Moved e)))
        at (Sent v) e = absurd (z (rw (waits_so (Sent v) e)))
        at Halted e = absurd (z (rw (waits_so Halted e)))
        at WaitEmpty e = absurd (z (rw (waits_so WaitEmpty e)))
        at WaitFull e = refl
        at Ended e = absurd (z (rw (waits_so Ended e)))

  pub waits : (w : World) (H : State Process ℤ) (out : ℕ → List ℤ) → Stands n pass w H out → OnTheWay t H → (q : ℕ) → q < n.processes → Waits w H q
  waits w H out k way q h =
      let a = w.lane.accepted in
      let b = board_of w in
      let R = k.related in
      subst⁻¹ (λ (v : World). Waits v H q) (world_at n pass w k.network)
      (record { over = over_at a b H out R way q h; empty = empty_at a b H out R way q h; full = full_at a b H out R way q h; full_if = full_waits a b H out R way q h })
