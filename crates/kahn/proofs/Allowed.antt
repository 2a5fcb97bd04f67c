-- What a process wants, at an instruction that passes the file's rules: it owns the channel, and only a stop or a fault ends it. Each fact is
-- shown opcode by opcode.
-- Assumes nothing.
use mathlib.Core.Path.{◌≡◌, refl, ◌∙◌}
use mathlib.Core.Bool.{Bool, true, false, cond, not, ◌&&◌, true≢false, false≢true}
use mathlib.Core.List.{List, []}
use Prim.Native.Nat.{ℕ, suc}
use native.Mathlib.Omega.{arith}
use borrow.Author.Tests.{eqb-true, ne_eqb}
use lib.Dec.{eqb, ltb}
use lib.IntN.{ℤ}
use lib.ListN.{length, length-set}
use Rattle.network.specs.declared.Network.{Network}
use Rattle.network.specs.declared.Instruction.{Instruction}
use Rattle.network.specs.Code.{fields_right, register, unnamed, target}
use Rattle.network.specs.Rules.{sender_of, receiver_of, receives, sends}
use Rattle.base.proofs.Conjunction.{middle}
use Rattle.base.proofs.Numbers.{each_one}
use Rattle.arithmetic.specs.Quotient.{Quotient, value, faults, quotient_of, remainder_of}
use Rattle.process.specs.declared.Condition.{Condition}
use Rattle.process.specs.declared.Condition.TheVariants.{Live, Stopped, Faulted}
use Rattle.process.specs.Process.{Process}
use Rattle.process.specs.Intent.{Intent, idle, inner, receive, send, close, halt}
use Rattle.process.specs.Want.{register_of, onward, assigned, jumped, divided, branched, is_null, is_negative, want_live, want_in, want}
use Rattle.lane.specs.State.{is_ended}
use Rattle.kahn.specs.Calls.{one}
use Rattle.kahn.proofs.Unbounded.{Owns}
use Rattle.kahn.proofs.Bounded.{Ends}

-- instruction i with another opcode
abbrev with : Instruction → ℕ → Instruction
with i op = record { op = op; a = i.a; b = i.b; c = i.c }

-- ---- the ends of a channel as numbers: 254 where there is no such channel
abbrev pub sender_in : Network → ℕ → ℕ
sender_in n c = cond (ltb c n.channels) (sender_of n c) 254

abbrev pub receiver_in : Network → ℕ → ℕ
receiver_in n c = cond (ltb c n.channels) (receiver_of n c) 254

end_is : (there : Bool) (e p : ℕ) → (there && eqb e p) ≡ true → cond there e 254 ≡ p
end_is true e p h = eqb-true e p h
end_is false e p h = absurd (false≢true h)

-- ---- it owns the channel
module _ (n : Network) (p count : ℕ) (q : Process) where
  abbrev Own : Intent Process ℤ → Type 0
  Own t = Owns (sender_in n) (receiver_in n) p t

  divided_owns : (r : ℕ) (d : Quotient) → Own (divided r d q)
  divided_owns r (value v) = tt
  divided_owns r faults = tt

  live_owns : (i : Instruction) → fields_right count (receives n p i.b) (sends n p i.b) i ≡ true → Own (want_live i q)
  unfolding fields_right want_live
  live_owns i =
      each_one (λ op. fields_right count (receives n p i.b) (sends n p i.b) (with i op) ≡ true → Own (want_live (with i op) q)) 14 (
        λ e. tt,
        (
          λ e. tt,
          (
            λ e. tt,
            (
              λ e. tt,
              (
                λ e. tt,
                (
                  λ e. tt,
                  (
                    λ e. divided_owns i.a (quotient_of (register_of q i.b) (register_of q i.c)),
                    (
                      λ e. divided_owns i.a (remainder_of (register_of q i.b) (register_of q i.c)),
                      (
                        λ e. tt,
                        (
                          λ e. tt,
                          (
                            λ e. tt,
                            (
                              λ e. end_is (ltb i.b n.channels) (receiver_of n i.b) p (middle (register i.a) (receives n p i.b) (target count i.c) e),
                              (
                                λ e. end_is (ltb i.b n.channels) (sender_of n i.b) p (middle (register i.a) (sends n p i.b) (unnamed i.c) e),
                                (
                                  λ e. end_is (ltb i.b n.channels) (sender_of n i.b) p (middle (unnamed i.a) (sends n p i.b) (unnamed i.c) e),
                                  λ k e. absurd (false≢true e),
                                ),
                              ),
                            ),
                          ),
                        ),
                      ),
                    ),
                  ),
                ),
              ),
            ),
          ),
        ),
      )
      i.op

  in_owns : (k : Condition) (i : Instruction) → fields_right count (receives n p i.b) (sends n p i.b) i ≡ true → Own (want_in k i q)
  in_owns Live i e = live_owns i e
  in_owns Stopped i e = tt
  in_owns Faulted i e = tt

  pub want_owns : (i : Instruction) → fields_right count (receives n p i.b) (sends n p i.b) i ≡ true → Own (want i q)
  unfolding want
  want_owns i e = in_owns q.condition i e

-- ---- the channel of an intent is c, if it has one
abbrev pub On : ℕ → Intent Process ℤ → Type 0
On c idle = Unit {0}
On c (inner x) = Unit {0}
On c (receive b next over) = b ≡ c
On c (send b v next fault) = b ≡ c
On c (close b next fault) = b ≡ c
On c (halt x) = Unit {0}

module _ (q : Process) where
  divided_on : (c r : ℕ) (d : Quotient) → On c (divided r d q)
  divided_on c r (value v) = tt
  divided_on c r faults = tt

  live_on : (i : Instruction) → On i.b (want_live i q)
  unfolding want_live
  live_on i =
      each_one (λ op. On i.b (want_live (with i op) q)) 14 (
        tt,
        (
          tt,
          (
            tt,
            (
              tt,
              (
                tt,
                (
                  tt,
                  (
                    divided_on i.b i.a (quotient_of (register_of q i.b) (register_of q i.c)),
                    (
                      divided_on i.b i.a (remainder_of (register_of q i.b) (register_of q i.c)),
                      (
                        tt,
                        (
                          tt,
                          (
                            tt,
                            (
                              refl,
                              (
                                refl,
                                (
                                  refl,
                                  λ k. tt,
                                ),
                              ),
                            ),
                          ),
                        ),
                      ),
                    ),
                  ),
                ),
              ),
            ),
          ),
        ),
      )
      i.op

pub want_on : (i : Instruction) (q : Process) → On i.b (want i q)
unfolding want
want_on i q = go q.condition
  where
    go : (k : Condition) → On i.b (want_in k i q)
    go Live = live_on q i
    go Stopped = tt
    go Faulted = tt

-- ---- where it leads
abbrev pub has_ended : Process → Bool
has_ended q = is_ended q.condition

-- eight registers
abbrev pub Fit : Process → Type 0
Fit q = length q.registers ≡ 8

abbrev Leads : Intent Process ℤ → Type 0
Leads t = Ends has_ended Fit t

module _ (q : Process) (live : has_ended q ≡ false) (fit : Fit q) where
  goes : (t : Bool) (x y : Process) → (has_ended x ≡ false) × Fit x → (has_ended y ≡ false) × Fit y → (has_ended (cond t x y) ≡ false) × Fit (cond t x y)
  goes true x y f g = f
  goes false x y f g = g

  assigned_goes : (r : ℕ) (v : ℤ) → (has_ended (assigned r v q) ≡ false) × Fit (assigned r v q)
  assigned_goes r v = (live, length-set q.registers r v ∙ fit)

  divided_leads : (r : ℕ) (d : Quotient) → Leads (divided r d q)
  divided_leads r (value v) = assigned_goes r v
  divided_leads r faults = (refl, fit)

  branched_leads : (t : Bool) (c : ℕ) → Leads (branched t c q)
  branched_leads t c = goes t (jumped c q) (onward q.registers q) (live, fit) (live, fit)

  live_leads : (i : Instruction) → Leads (want_live i q)
  unfolding want_live
  live_leads i =
      each_one (λ op. Leads (want_live (with i op) q)) 14 (
        (refl, fit),
        (
          assigned_goes i.a _,
          (
            assigned_goes i.a _,
            (
              assigned_goes i.a _,
              (
                assigned_goes i.a _,
                (
                  assigned_goes i.a _,
                  (
                    divided_leads i.a (quotient_of (register_of q i.b) (register_of q i.c)),
                    (
                      divided_leads i.a (remainder_of (register_of q i.b) (register_of q i.c)),
                      (
                        (live, fit),
                        (
                          branched_leads (is_null (register_of q i.a)) i.c,
                          (
                            branched_leads (is_negative (register_of q i.a)) i.c,
                            (
                              (λ v. assigned_goes i.a v, (live, fit)),
                              (
                                ((live, fit), (refl, fit)),
                                (
                                  ((live, fit), (refl, fit)),
                                  λ k. (refl, fit),
                                ),
                              ),
                            ),
                          ),
                        ),
                      ),
                    ),
                  ),
                ),
              ),
            ),
          ),
        ),
      )
      i.op

pub want_leads : (i : Instruction) (q : Process) → has_ended q ≡ false → Fit q → Leads (want i q)
unfolding want
want_leads i q live fit = go q.condition live
  where
    go : (k : Condition) → is_ended k ≡ false → Leads (want_in k i q)
    go Live e = live_leads q live fit i
    go Stopped e = tt
    go Faulted e = tt

pub want_rests : (i : Instruction) (q : Process) → has_ended q ≡ true → want i q ≡ idle
unfolding want
want_rests i q e = go q.condition e
  where
    go : (k : Condition) → is_ended k ≡ true → want_in k i q ≡ idle
    go Live e = absurd (false≢true e)
    go Stopped e = refl
    go Faulted e = refl

-- ---- what an intent sends on channel c, which is closed or not
abbrev pub message_of : Intent Process ℤ → Bool → ℕ → List ℤ
message_of idle shut c = []
message_of (inner x) shut c = []
message_of (receive b next over) shut c = []
message_of (send b v next fault) shut c = one (eqb b c && not shut) v
message_of (close b next fault) shut c = []
message_of (halt x) shut c = []

module _ (q : Process) (shut : Bool) (c : ℕ) where
  -- "at a 12 on this open channel, its register a"
  abbrev Says : Instruction → Intent Process ℤ → Type 0
  Says i t = message_of t shut c ≡ one (eqb i.op 12 && eqb i.b c && not shut) (register_of q i.a)

  divided_silent : (r : ℕ) (d : Quotient) → message_of (divided r d q) shut c ≡ []
  divided_silent r (value v) = refl
  divided_silent r faults = refl

  live_message : (i : Instruction) → Says i (want_live i q)
  unfolding want_live
  live_message i =
      each_one (λ op. Says (with i op) (want_live (with i op) q)) 14 (
        refl,
        (
          refl,
          (
            refl,
            (
              refl,
              (
                refl,
                (
                  refl,
                  (
                    divided_silent i.a (quotient_of (register_of q i.b) (register_of q i.c)),
                    (
                      divided_silent i.a (remainder_of (register_of q i.b) (register_of q i.c)),
                      (
                        refl,
                        (
                          refl,
                          (
                            refl,
                            (
                              refl,
                              (
                                refl,
                                (
                                  refl,
                                  λ k. rw (ne_eqb (suc (suc (suc (suc (suc (suc (suc (suc (suc (suc (suc (suc (suc (suc k)))))))))))))) 12 (omega arith)),
                                ),
                              ),
                            ),
                          ),
                        ),
                      ),
                    ),
                  ),
                ),
              ),
            ),
          ),
        ),
      )
      i.op

  pub want_message : (i : Instruction) → has_ended q ≡ false → Says i (want i q)
  unfolding want
  want_message i e = go q.condition e
    where
      go : (k : Condition) → is_ended k ≡ false → Says i (want_in k i q)
      go Live e = live_message i
      go Stopped e = absurd (true≢false e)
      go Faulted e = absurd (true≢false e)
