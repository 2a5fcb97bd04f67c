-- Demand 3 for one board and for two: what a board sent is a prefix of what the plain order sends, and a board at rest is where the plain order is.
-- Assumes nothing.
use mathlib.Core.Path.{◌≡◌, refl, sym, ap, ◌∙◌, subst}
use mathlib.Core.Logic.{◌≢◌}
use mathlib.Core.Bool.{Bool, true, false, cond, ◌&&◌, false≢true}
use mathlib.Core.Option.{none}
use mathlib.Core.List.{List, [], ◌∷◌, ◌++◌}
use Prim.Native.Nat.{ℕ, ◌+◌, ◌*◌, ◌≤◌, ◌<◌}
use native.Mathlib.Decide.{ℕ_discrete, dec_lt}
use native.Mathlib.Omega.{arith}
use borrow.Author.Tests.{lt-ltb, eqb-true, eq-eqb}
use lib.Dec.{eqb}
use lib.IntN.{ℤ, pos}
use lib.ListN.{length, get_or, drop, replicate, length-replicate, take-append-drop}
use Rattle.base.proofs.Lists.{length_values, table_at, same_at}
use Rattle.network.specs.declared.Network.{Network}
use Rattle.network.specs.Rules.{receiver_of, passes}
use Rattle.base.proofs.Conjunction.{both_true}
use Rattle.process.specs.Process.{Process}
use Rattle.process.specs.declared.Channel.{Channel}
use Rattle.process.specs.declared.Outcome.{Outcome}
use Rattle.process.specs.declared.Outcome.TheVariants.{Moved, Sent, Halted, WaitEmpty, WaitFull, Ended}
use Rattle.process.specs.Channels.{no_channel}
use Rattle.lane.specs.State.{World, no_standing, process_of, channel_of, fresh_channel, fresh_of}
use Rattle.process.specs.Window.{eight}
use Rattle.lane.specs.Pick.{step_for}
use Rattle.lane.specs.Calls.{Called, answer_to, pick_of}
use Rattle.lane.proofs.SoundLaws.{sound_says, fresh_sound}
use Rattle.lane.proofs.CallCases.{pick_cases, take_cases}
use Rattle.kahn.specs.Plain.{Plain, without_capacities, new_process, plain_after}
use Rattle.kahn.specs.Calls.{Call, close, apply, told, was_accepted, one, given, taken_by, closes_by}
use Rattle.kahn.specs.Calls as calls
use Rattle.kahn.specs.Steps.{Step, call, inner_relief, after_step, taken_at, after, taken, sent, moved_in}
use Rattle.kahn.specs.Boards.{Prefix, board, Fair, is_resting, AllIn, AtRest, SendsPrefix, Agrees, AgreeWith}
use Rattle.kahn.proofs.Unbounded.{State, Event, finish, Moves, change, does, happen, happens, empty, moves_of, Legal}
use Rattle.kahn.proofs.Diamond.{none_some}
use Rattle.kahn.proofs.Determined.{fed_all_lem, determined, reached, rests, happens_closed}
use Rattle.kahn.proofs.Conds.{cond_same}
use Rattle.kahn.proofs.Relation.{Related}
use Rattle.kahn.proofs.Keeps.{Kept}
use Rattle.kahn.proofs.Start.{stands_start}
use Rattle.kahn.proofs.Bounded.{Board, pick_on}
use Rattle.kahn.proofs.Allowed.{sender_in, receiver_in}
use Rattle.kahn.proofs.Instance.{net_of, Store, machine_of}
use Rattle.kahn.proofs.PlainOrder.{state_of, plain_is}
use Rattle.kahn.proofs.View.{board_of, world_of, answer_of}
use Rattle.kahn.proofs.Events.{happens_append, Stands, world_at, picks}
use Rattle.kahn.proofs.History.{events_at, history, stands_step, stands_after, moves_are, sent_is}
use Rattle.kahn.proofs.Lawful.{from_outside_lem, fair_legal}

-- ---- the start
eight_null : (xs : List ℤ) (b : ℕ) → ((i : ℕ) → get_or xs i (pos 0) ≡ pos 0) → eight xs b ≡ replicate 8 (pos 0)
unfolding eight
eight_null xs b h = rw (h b, h (b + 1), h (b + 2), h (b + 3), h (b + 4), h (b + 5), h (b + 6), h (b + 7))

module _ (n : Network) (pass : passes n ≡ true) where
  pub fresh_channel_lem : (c : ℕ) → c < 32 → channel_of (fresh_of n) c ≡ fresh_channel n c
  unfolding fresh_of
  fresh_channel_lem c l = table_at (fresh_channel n) 32 c no_channel l

  fresh_capacity : (c : ℕ) → c < 32 → (channel_of (fresh_of n) c).capacity ≤ 256
  unfolding fresh_of
  fresh_capacity c l = go (dec_lt c n.channels)
    where
      go : Dec (c < n.channels) → (channel_of (fresh_of n) c).capacity ≤ 256
      go (yes h) = ((sound_says (fresh_of n) (fresh_sound n pass)).channels c h).high
      go (no h) = let e = ap (λ (x : Channel). x.capacity) ((sound_says (fresh_of n) (fresh_sound n pass)).unused c (omega arith) l) in omega arith

  fresh_process : (p : ℕ) → process_of (fresh_of n) p ≡ new_process
  unfolding fresh_of
  fresh_process p =
      rw (eight_null (replicate 128 (pos 0)) (8 * p) (λ i. same_at 128 i (pos 0)), same_at 16 p no_standing)

  pub stands_fresh : (cells : List ℤ) → length cells ≡ 8192 → Stands n pass (board n cells) (empty (net_of n pass)) (λ c. [])
  unfolding fresh_of
  stands_fresh cells many =
      record {
        network = refl;
        sound = fresh_sound n pass;
        related = stands_start (machine_of n pass) (board_of (board n cells))
            (record {
              good = record { registers = length-replicate 128 (pos 0); standings = length-replicate 16 no_standing };
              fit = λ p. refl;
              many_channels = length_values (fresh_channel n) 32 0;
              many_cells = many;
              same = fresh_process;
              none = λ c l. ap (λ (h : Channel). h.held) (fresh_channel_lem c l);
              fits = fresh_capacity;
              begins = λ c l. let e = ap (λ (h : Channel). h.oldest) (fresh_channel_lem c l) in omega arith;
              opened = λ c l. ap (λ (h : Channel). h.closed) (fresh_channel_lem c l);
              outer = λ p l. refl;
            });
      }

  -- ---- takes
  -- a channel into a process gives nothing to takes
  no_taken : (k : Call) (w : World) → w.lane.network ≡ n → (c : ℕ) → receiver_in n c ≢ 255 → taken_by k w c ≡ []
  unfolding apply
  no_taken (calls.pick p) w e c r = refl
  no_taken (calls.feed d v) w e c r = refl
  no_taken (calls.close d) w e c r = refl
  no_taken (calls.take d) w e c r =
      take_cases (λ (a : Called). cond (eqb d c) (given (told a.answer)) [] ≡ []) w (λ k. cond_same (eqb d c) []) d (λ t z f. cond_same (eqb d c) [])
      (λ t z. at t.there t.outer _ (eqb d c) refl)
    where
      at : d < w.lane.network.channels → receiver_of w.lane.network d ≡ 255 → (v : ℤ) (t : Bool) → eqb d c ≡ t → cond t (v ∷ []) [] ≡ []
      at there outer v true q = absurd (r (rw (← eqb-true d c q, ← e, lt-ltb d w.lane.network.channels there) outer))
      at there outer v false q = refl
  no_taken (calls.relieve buffer) w e c r = refl

  not_taken : (s : Step) (w : World) → w.lane.network ≡ n → (c : ℕ) → receiver_in n c ≢ 255 → taken_at s w c ≡ []
  not_taken (call k) w e c r = no_taken k w e c r
  not_taken inner_relief w e c r = refl

  none_taken : (ss : List Step) (w : World) (H : State Process ℤ) (out : ℕ → List ℤ) → Stands n pass w H out → (c : ℕ) → receiver_in n c ≢ 255 → taken ss w c ≡ []
  none_taken [] w H out s c r = refl
  none_taken (s ∷ ss) w H out t c r = rw (not_taken s w t.network c r, none_taken ss (after_step s w) _ _ (stands_step n pass w H out t s) c r)

  -- ---- closings
  closed_by : (c : ℕ) (t : Bool) → (eqb c c && t) ≡ true → t ≡ true
  closed_by c t e = (both_true (eqb c c) t e).1

  finished : (t : Bool) (es : List (Event ℤ)) (H : State Process ℤ) (c : ℕ) → t ≡ true → sender_in n c ≡ 255 → (happens (net_of n pass) (one t (finish c) ++ es) H).closed c ≡ true
  unfolding happen change
  finished t es H c e o = rw e (happens_closed (net_of n pass) es _ c (rw (eq-eqb (sender_in n c) 255 o, eq-eqb c c refl)))

  pub was_closed : (before later : List Step) (w : World) (H : State Process ℤ) (c : ℕ) → sender_in n c ≡ 255 → closes_by (close c) (after before w) c ≡ true
      → (happens (net_of n pass) (history (before ++ (call (close c) ∷ later)) w) H).closed c ≡ true
  was_closed [] later w H c o e = finished (was_accepted (apply (close c) w).reply) (history later (apply (close c) w).world) H c (closed_by c _ e) o
  was_closed (s ∷ before) later w H c o e =
      ap (λ (T : State Process ℤ). T.closed c) (happens_append n pass (events_at s w) (history (before ++ (call (close c) ∷ later)) (after_step s w)) H)
      ∙ was_closed before later (after_step s w) _ c o e

  -- ---- a process that rests does not move
  resting : (accepted : ℕ) (b : Board Store ℤ) (H : State Process ℤ) (out : ℕ → List ℤ) (R : Related (machine_of n pass) b H out) (p : ℕ)
      → is_resting (pick_of p (world_of n accepted b)).answer ≡ true → does (net_of n pass) p H ≡ none
  resting accepted b H out R p =
      pick_cases (λ (r : Called). is_resting r.answer ≡ true → does (net_of n pass) p H ≡ none) (world_of n accepted b) (λ k e. absurd (false≢true e)) p
      (λ t. at (step_for p (world_of n accepted b)).outcome _ (picks n pass accepted b H out R p t.there))
    where
      at : (o : Outcome) (d : ℕ) → Kept (machine_of n pass) out p b H (does (net_of n pass) p H) (answer_of o) (pick_on (machine_of n pass) p b).board
          → is_resting (answer_to o d) ≡ true → does (net_of n pass) p H ≡ none
      at Moved d k e = absurd (false≢true e)
      at (Sent v) d k e = absurd (false≢true e)
      at Halted d k e = absurd (false≢true e)
      at WaitEmpty d k e = k.0
      at WaitFull d k e = absurd (false≢true e)
      at Ended d k e = k.0

  -- ---- one board with its steps
  module _ (cells : List ℤ) (many : length cells ≡ 8192) (input : ℕ → List ℤ) (ss : List Step) (fair : Fair n input ss (board n cells)) where
    abbrev H : State Process ℤ
    H = happens (net_of n pass) (history ss (board n cells)) (empty (net_of n pass))

    start : Stands n pass (board n cells) (empty (net_of n pass)) (λ c. [])
    start = stands_fresh cells many

    end : Stands n pass (after ss (board n cells)) H (λ c. taken ss (board n cells) c)
    end = stands_after n pass ss (board n cells) (empty (net_of n pass)) (λ c. []) start

    legal : Legal (net_of n pass) input (history ss (board n cells))
    legal = fair_legal n pass input ss (board n cells) (empty (net_of n pass)) (λ c. []) start fair

    sent_in : (c : ℕ) → H.sent c ≡ sent ss (board n cells) c
    unfolding empty
    sent_in c = sent_is n pass ss (board n cells) (empty (net_of n pass)) (λ c. []) start c

    enough : (r : ℕ) → moved_in ss (board n cells) ≤ r → moves_of (net_of n pass) (history ss (board n cells)) (empty (net_of n pass)) ≤ r
    enough r h = rw (moves_are n pass ss (board n cells) (empty (net_of n pass)) (λ c. []) start) h

    takes : (c : ℕ) → Prefix (taken ss (board n cells) c) (sent ss (board n cells) c)
    takes c = at (ℕ_discrete (receiver_in n c) 255)
      where
        at : Dec (receiver_in n c ≡ 255) → Prefix (taken ss (board n cells) c) (sent ss (board n cells) c)
        at (yes e) =
            let L = end.related.lines c ((machine_of n pass).receivers c (omega arith)) in
            record {
              rest = drop L.from (H.sent c);
              longer = sym (sent_in c) ∙ rw (L.given (omega arith)).1 (sym (take-append-drop L.from (H.sent c)));
            }
        at (no e) = record { rest = sent ss (board n cells) c; longer = rw (none_taken ss (board n cells) _ _ start c e) }

    -- (a)
    pub sends_prefix : SendsPrefix n input ss (board n cells)
    sends_prefix =
        record {
          takes = takes;
          sends = λ r h c.
              let p = determined (net_of n pass) input (history ss (board n cells)) legal r (enough r (omega arith)) c in
              record {
                rest = p.rest;
                longer = ap (λ (T : State Process ℤ). T.sent c) (plain_is n pass input r) ∙ p.longer ∙ ap (λ (l : List ℤ). l ++ p.rest) (sent_in c);
              };
        }

    pub closed_all_lem : AllIn n input ss (board n cells) → (c : ℕ) → sender_in n c ≡ 255 → H.closed c ≡ true
    closed_all_lem all c o =
        let k = all.closed_all c (from_outside_lem n c o) in
        ap (λ (l : List Step). (happens (net_of n pass) (history l (board n cells)) (empty (net_of n pass))).closed c) k.2
        ∙ was_closed k.0 k.1 (board n cells) (empty (net_of n pass)) c o k.3

    module _ (rest : AtRest n input ss (board n cells)) where
      shut : (c : ℕ) → sender_in n c ≡ 255 → H.closed c ≡ true
      shut = closed_all_lem rest.all_in

      sent_all : (c : ℕ) → sender_in n c ≡ 255 → H.sent c ≡ input c
      sent_all c o = fed_all_lem (net_of n pass) input H (reached (net_of n pass) input (history ss (board n cells)) legal).fed c o (shut c o)

      still : (p : ℕ) → p < n.processes → Moves (net_of n pass) p H → ⊥
      still p l m =
          let w : World = after ss (board n cells) in
          none_some (sym (resting w.lane.accepted (board_of w) H _ end.related p
          (subst (λ (x : World). is_resting (pick_of p x).answer ≡ true) (world_at n pass w end.network) (rest.quiet p l))) ∙ m.1)

      at_rest : (r : ℕ) → moved_in ss (board n cells) ≤ r → H ≡ state_of (plain_after (without_capacities n) input r)
      at_rest r h =
          rests (net_of n pass) input (history ss (board n cells)) legal sent_all shut still r (enough r h) ∙ sym (plain_is n pass input r)

      -- (b)
      pub agrees : (r : ℕ) → moved_in ss (board n cells) ≤ r → Agrees n input ss (board n cells) (plain_after (without_capacities n) input r)
      agrees r h =
          record {
            sends = λ c. sym (sent_in c) ∙ ap (λ (T : State Process ℤ). T.sent c) (at_rest r h);
            processes = λ p l. end.related.same p ∙ ap (λ (T : State Process ℤ). T.processes p) (at_rest r h);
          }

-- (c) two networks alike but for the capacities
module _ (n₁ n₂ : Network) (pass₁ : passes n₁ ≡ true) (pass₂ : passes n₂ ≡ true) (alike : without_capacities n₁ ≡ without_capacities n₂) (input : ℕ → List ℤ) where
  pub agree_with : (cells₁ cells₂ : List ℤ) → length cells₁ ≡ 8192 → length cells₂ ≡ 8192 → (ss₁ ss₂ : List Step)
      → Fair n₁ input ss₁ (board n₁ cells₁) → Fair n₂ input ss₂ (board n₂ cells₂)
      → AtRest n₁ input ss₁ (board n₁ cells₁) → AtRest n₂ input ss₂ (board n₂ cells₂)
      → AgreeWith n₁ ss₁ ss₂ (board n₁ cells₁) (board n₂ cells₂)
  agree_with cells₁ cells₂ m₁ m₂ ss₁ ss₂ f₁ f₂ r₁ r₂ =
      let r : ℕ = moved_in ss₁ (board n₁ cells₁) + moved_in ss₂ (board n₂ cells₂) in
      let a = agrees n₁ pass₁ cells₁ m₁ input ss₁ f₁ r₁ r (omega arith) in
      let b = agrees n₂ pass₂ cells₂ m₂ input ss₂ f₂ r₂ r (omega arith) in
      let same = ap (λ (n : Network). plain_after n input r) alike in
      let P = ap (λ (n : Network). n.processes) alike in
      record {
        sends = λ c. a.sends c ∙ ap (λ (s : Plain). s.sent c) same ∙ sym (b.sends c);
        processes = λ p l. a.processes p l ∙ ap (λ (s : Plain). s.processes p) same ∙ sym (b.processes p (omega arith));
      }
