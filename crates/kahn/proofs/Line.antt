-- One bounded channel against its history: what was sent on it, how much of that was received, whether it is closed.
-- Assumes nothing.
use mathlib.Core.Path.{◌≡◌, refl, sym, ap, ◌∙◌}
use mathlib.Core.Logic.{◌≢◌}
use mathlib.Core.Bool.{Bool, true, false, cond, true≢false}
use mathlib.Core.List.{List, [], ◌∷◌, ◌++◌}
use Prim.Native.Nat.{ℕ, suc, ◌+◌, ◌≤◌, ◌<◌}
use native.Mathlib.Omega.{arith}
use native.Mathlib.Numerals.{add-one}
use lib.ListN.{get_or, set, length, take, length-append}
use lib.Seq.{take-append-le, take-suc}
use Rattle.process.specs.declared.Channel.{Channel}
use Rattle.process.specs.Channels.{get_one, put_one, close_one, enlarge_one, drop_one, slot}
use Rattle.kahn.proofs.Ring.{Ring, ring_get, ring_put, ring_other}

-- inside: a process receives from it (else the outside does); e: whether that process has ended; o: what the outside has taken
pub record Line {W : Type 0} (d : W) (inside : Type 0) (c : ℕ) (h : Channel) (cells : List W) (s : List W) (r : ℕ) (t e : Bool) (o : List W) : Type 0 where
  pub shut : h.closed ≡ t
  pub room : h.held ≤ h.capacity
  pub fits : h.capacity ≤ 256
  pub begins : h.oldest < 256
  pub from : ℕ
  pub count : from + h.held ≡ length s
  pub ring : Ring d c h cells s from
  pub mine : inside → e ≡ false → from ≡ r
  pub gone : e ≡ true → h.held ≡ 0
  pub given : (inside → ⊥) → (e ≡ false) × (o ≡ take from s)

module _ {W : Type 0} {d : W} {I : Type 0} {c : ℕ} {h : Channel} {cells s : List W} {r : ℕ} {t e : Bool} {o : List W} (L : Line d I c h cells s r t e o) where
  pub line_put : (v : W) → c < 32 → length cells ≡ 8192 → e ≡ false → h.held < h.capacity → Line d I c (put_one h) (set cells (slot c h h.held) v) (s ++ (v ∷ [])) r t e o
  line_put v k n a f =
      record {
        shut = L.shut;
        room = omega arith;
        fits = L.fits;
        begins = L.begins;
        from = L.from;
        count = simp length-append (omega (arith, L.count));
        ring = ring_put d c h cells s L.from v k n (omega (arith, L.fits)) L.count L.ring;
        mine = L.mine;
        gone = λ g. absurd (true≢false (sym g ∙ a));
        given = λ u. (a, (L.given u).1 ∙ sym (take-append-le L.from s (v ∷ []) (omega (arith, L.count))));
      }

  -- nobody receives it
  pub line_lost : (v : W) → e ≡ true → Line d I c h cells (s ++ (v ∷ [])) r t e o
  line_lost v g =
      let z = L.gone g in
      record {
        shut = L.shut;
        room = L.room;
        fits = L.fits;
        begins = L.begins;
        from = L.from + 1;
        count = simp length-append (omega (arith, L.count));
        ring = λ i l. absurd (omega arith);
        mine = λ _ f. absurd (true≢false (sym g ∙ f));
        gone = L.gone;
        given = λ u. absurd (true≢false (sym g ∙ (L.given u).0));
      }

  line_next : (r' : ℕ) (o' : List W) → h.held ≢ 0 → (I → e ≡ false → L.from + 1 ≡ r') → ((I → ⊥) → (e ≡ false) × (o' ≡ take (L.from + 1) s)) → Line d I c (get_one h) cells s r' t e o'
  line_next r' o' z m g =
      record {
        shut = L.shut;
        room = omega (arith, L.room);
        fits = L.fits;
        begins = omega arith;
        from = L.from + 1;
        count = omega (arith, L.count);
        ring = ring_get d c h cells s L.from L.ring;
        mine = m;
        gone = λ g. absurd (z (L.gone g));
        given = g;
      }

  pub line_get : I → h.held ≢ 0 → Line d I c (get_one h) cells s (suc r) t e o
  line_get i z = line_next (suc r) o z (λ i f. omega (arith, L.mine i f)) (λ u. absurd (u i))

  -- the outside takes the oldest
  pub line_take : h.held ≢ 0 → (I → ⊥) → Line d I c (get_one h) cells s r t e (o ++ (get_or cells (slot c h 0) d ∷ []))
  line_take z u = line_next r _ z (λ i f. absurd (u i)) (λ _. ((L.given u).0, more))
    where
      more : o ++ (get_or cells (slot c h 0) d ∷ []) ≡ take (L.from + 1) s
      more = let k : L.from + 0 ≡ L.from = omega arith in
          rw ((L.given u).1, add-one, L.ring 0 (omega arith), k) (sym (take-suc s L.from d (omega (arith, L.count))))

  pub line_close : Line d I c (close_one h) cells s r true e o
  line_close = record { shut = refl; room = L.room; fits = L.fits; begins = L.begins; from = L.from; count = L.count; ring = L.ring; mine = L.mine; gone = L.gone; given = L.given }

  pub line_enlarge : h.capacity < 256 → Line d I c (enlarge_one h) cells s r t e o
  line_enlarge m =
      record {
        shut = L.shut;
        room = omega (arith, L.room);
        fits = omega arith;
        begins = L.begins;
        from = L.from;
        count = L.count;
        ring = L.ring;
        mine = L.mine;
        gone = L.gone;
        given = L.given;
      }

  -- its sender ends or not, its receiver ends or not
  pub line_drop : (u w : Bool) (e' : Bool) → (w ≡ true → I × (e' ≡ true)) → (w ≡ false → e' ≡ e) → Line d I c (drop_one u w h) cells s r (cond u true t) e' o
  line_drop u true e' y n =
      record {
        shut = ap (cond u true) L.shut;
        room = omega arith;
        fits = L.fits;
        begins = L.begins;
        from = length s;
        count = omega arith;
        ring = λ i l. absurd (omega arith);
        mine = λ _ f. absurd (true≢false (sym (y refl).1 ∙ f));
        gone = λ _. refl;
        given = λ k. absurd (k (y refl).0);
      }
  line_drop u false e' y n =
      record {
        shut = ap (cond u true) L.shut;
        room = L.room;
        fits = L.fits;
        begins = L.begins;
        from = L.from;
        count = L.count;
        ring = L.ring;
        mine = λ i f. L.mine i (sym (n refl) ∙ f);
        gone = λ g. L.gone (sym (n refl) ∙ g);
        given = λ k. (n refl ∙ (L.given k).0, (L.given k).1);
      }

  pub line_other : (b n : ℕ) (h' : Channel) (v : W) → c ≢ b → Line d I c h (set cells (slot b h' n) v) s r t e o
  line_other b n h' v q =
      record { shut = L.shut; room = L.room; fits = L.fits; begins = L.begins; from = L.from; count = L.count; ring = ring_other d c b h h' cells s L.from v q L.ring n; mine = L.mine; gone = L.gone; given = L.given }
