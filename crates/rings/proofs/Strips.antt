-- What the loops of stripping keep: how many of those left point to each number. Which processes are left stands nowhere in the code; of those that were
-- looked at it is those that one left points to, and all others are left.
-- Assumes nothing.
use mathlib.Core.Path.{◌≡◌, refl, sym, ap, ◌∙◌}
use mathlib.Core.Bool.{Bool, true, false, cond, not, ◌&&◌, true≢false, false≢true, and-false}
use mathlib.Core.List.{List}
use mathlib.Core.Logic.{◌↔◌}
use Prim.Native.Nat.{ℕ, zero, suc, ◌+◌, ◌-◌, ◌≤◌, ◌<◌}
use native.Mathlib.Decide.{ℕ_discrete}
use native.Mathlib.Numerals.{add-one}
use native.Mathlib.Omega.{arith}
use borrow.Author.Tests.{lt-ltb, eq-eqb, ne_eqb, eqb-false}
use lib.Dec.{eqb, ltb}
use lib.ListN.{length, get_or, set, replicate, length-set}
use lib.Seq.{ext_get_or, get_or-set_same, get_or-set_other}
use Rattle.base.specs.Lists.{table}
use Rattle.base.proofs.Conjunction.{true_both, iff}
use Rattle.base.proofs.Lists.{length_values, table_at, table_is, same_at}
use Rattle.rings.specs.Rings.{OnRing}
use Rattle.rings.specs.Left.{tally, pointers, left_after, left_of}
use Rattle.rings.proofs.Pointings.{Stays}
use Rattle.rings.proofs.Tally.{tally_yes, tally_no, tally_high, tally_same, tally_drop}
use Rattle.rings.proofs.Stripping.{ring_pointed, left_ring, left_exactly, left_pointed}

-- ---- counting: the pointers of the first n processes
pub record Counted (f : ℕ → ℕ) (P : ℕ) (numbers : List ℕ) (n : ℕ) : Type 0 where
  pub within : n ≤ P
  pub size : length numbers ≡ 256
  pub says : (q : ℕ) → q < 256 → get_or numbers q 0 ≡ tally (λ p. eqb (f p) q) n

module _ (f : ℕ → ℕ) (P : ℕ) (numbers : List ℕ) (n : ℕ) (t : Counted f P numbers n) where
  pub counted_high : (q : ℕ) → q < 256 → get_or numbers q 0 ≤ P
  counted_high q l = omega (arith, t.within, t.says q l, tally_high (λ p. eqb (f p) q) n)

  -- one process more, which points to `to`
  pub counted_more : n < P → (to : ℕ) → to < 256 → f n ≡ to → Counted f P (set numbers to (get_or numbers to 0 + 1)) (n + 1)
  counted_more more to h e = record { within = omega arith; size = length-set numbers to _ ∙ t.size; says = λ q l. go q l (ℕ_discrete q to) }
    where
      go : (q : ℕ) → q < 256 → Dec (q ≡ to) → get_or (set numbers to (get_or numbers to 0 + 1)) q 0 ≡ tally (λ k. eqb (f k) q) (n + 1)
      go q l (yes d) =
          rw (d, get_or-set_same numbers to (get_or numbers to 0 + 1) 0 (omega (arith, t.size)), tally_yes (λ k. eqb (f k) to) n (eq-eqb (f n) to e))
          (ap (λ (k : ℕ). k + 1) (t.says to h))
      go q l (no d) = get_or-set_other numbers to q _ 0 d ∙ t.says q l ∙ sym (tally_no (λ k. eqb (f k) q) n (ne_eqb (f n) q (λ g. d (sym g ∙ e))))

  -- of all processes
  pub counted_all : P ≤ n → numbers ≡ table 256 (pointers f P (left_after f P 0))
  unfolding left_after
  counted_all b =
      table_is (pointers f P (λ p. ltb p P)) 256 0 numbers t.size
      (λ q l.
      t.says q l ∙ ap (tally (λ p. eqb (f p) q)) (omega (arith, t.within))
      ∙ tally_same (λ p. eqb (f p) q) (λ p. ltb p P && eqb (f p) q) P (λ k m. rw (lt-ltb k P m)))

-- ---- stripping: who is left where those from n on were not looked at yet, and the numbers that go with it
pub record Left (f : ℕ → ℕ) (P : ℕ) (numbers : List ℕ) (n : ℕ) (left : ℕ → Bool) : Type 0 where
  pub size : length numbers ≡ 256
  pub counted : (q : ℕ) → q < 256 → get_or numbers q 0 ≡ pointers f P left q
  pub rings : (p : ℕ) → OnRing f P p → left p ≡ true
  pub later : (p : ℕ) → n ≤ p → p < P → left p ≡ true
  pub stripped : (p : ℕ) → p < P → left p ≡ false → get_or numbers p 0 ≡ 0

-- those before start were looked at, and each of them that is left is pointed to
pub record Strip (f : ℕ → ℕ) (P : ℕ) (numbers : List ℕ) (start : ℕ) (left : ℕ → Bool) : Type 0 where
  pub has : Left f P numbers start left
  pub kept : (p : ℕ) → p < start → left p ≡ true → get_or numbers p 0 ≡ 0 → ⊥

-- start too, but for process at, which goes next
pub record Going (f : ℕ → ℕ) (P : ℕ) (numbers : List ℕ) (start at : ℕ) (left : ℕ → Bool) : Type 0 where
  pub has : Left f P numbers (start + 1) left
  pub kept : (p : ℕ) → p ≤ start → (p ≡ at → ⊥) → left p ≡ true → get_or numbers p 0 ≡ 0 → ⊥
  pub below : at ≤ start
  pub stood : left at ≡ true
  pub none : get_or numbers at 0 ≡ 0

abbrev pub Stripping : (ℕ → ℕ) → ℕ → List ℕ → ℕ → Type 0
Stripping f P numbers start = (left : ℕ → Bool) × Strip f P numbers start left

abbrev pub Goes : (ℕ → ℕ) → ℕ → List ℕ → ℕ → ℕ → Type 0
Goes f P numbers start at = (left : ℕ → Bool) × Going f P numbers start at left

-- how many of sixteen are pointed to: fewer with each process that goes and lets another go
abbrev pub pointed_to : List ℕ → ℕ
pointed_to numbers = tally (λ q. not (eqb (get_or numbers q 0) 0)) 16

module _ (f : ℕ → ℕ) (P : ℕ) (small : P ≤ 16) (stays : Stays f P) where
  all : (p : ℕ) → p < P → left_after f P 0 p ≡ true
  unfolding left_after
  all p h = lt-ltb p P h

  pub strip_start : (numbers : List ℕ) → numbers ≡ table 256 (pointers f P (left_after f P 0)) → Stripping f P numbers 0
  strip_start numbers e = (
    left_after f P 0,
    record {
      has = record {
        size = ap length e ∙ length_values (pointers f P (left_after f P 0)) 256 0;
        counted = λ q l. ap (λ (ns : List ℕ). get_or ns q 0) e ∙ table_at (pointers f P (left_after f P 0)) 256 q 0 l;
        rings = λ p o. all p o.0;
        later = λ p l h. all p h;
        stripped = λ p h z. absurd (true≢false (sym (all p h) ∙ z));
      };
      kept = λ p l y z. omega arith;
    },
  )

  module _ (numbers : List ℕ) (start : ℕ) (more : start < P) where
    one_on : (left : ℕ → Bool) → Left f P numbers start left → Left f P numbers (start + 1) left
    one_on left s =
        record { size = s.size; counted = s.counted; rings = s.rings; later = λ p l h. s.later p (omega arith) h; stripped = s.stripped }

    -- process start is pointed to, and stays
    pub strip_past : Stripping f P numbers start → (get_or numbers start 0 ≡ 0 → ⊥) → Stripping f P numbers (start + 1)
    strip_past (left, s) n = (left, record { has = one_on left s.has; kept = λ p l y z. go p l y z (ℕ_discrete p start) })
      where
        go : (p : ℕ) → p < start + 1 → left p ≡ true → get_or numbers p 0 ≡ 0 → Dec (p ≡ start) → ⊥
        go p l y z (yes d) = n (ap (λ (k : ℕ). get_or numbers k 0) (sym d) ∙ z)
        go p l y z (no d) = s.kept p (omega arith) y z

    -- nobody left points to it, and it goes
    pub going_start : Stripping f P numbers start → get_or numbers start 0 ≡ 0 → Goes f P numbers start start
    going_start (left, s) z = (
      left,
      record {
        has = one_on left s.has;
        kept = λ p l d. s.kept p (omega arith);
        below = omega arith;
        stood = s.has.later start (omega arith) more;
        none = z;
      },
    )

  -- ---- process at goes, which points to `to`
  module _ (numbers : List ℕ) (start at to : ℕ) (more : start < P) (wide : to < 256) (leads : f at ≡ to) where
    module _ (left : ℕ → Bool) (g : Going f P numbers start at left) where
      there : at < P
      there = omega (arith, g.below)

      without : ℕ → Bool
      without p = cond (eqb p at) false (left p)

      without_at : without at ≡ false
      unfolding without
      without_at = rw (eq-eqb at at refl)

      without_other : (p : ℕ) → (p ≡ at → ⊥) → left p ≡ without p
      unfolding without
      without_other p n = rw (ne_eqb p at n)

      without_left : (p : ℕ) → without p ≡ true → (p ≡ at → ⊥) × (left p ≡ true)
      without_left p y = (out, without_other p out ∙ y)
        where
          out : p ≡ at → ⊥
          out d = false≢true (sym without_at ∙ ap without (sym d) ∙ y)

      -- one fewer points to `to`, and as many as before to any other
      fewer : pointers f P left to ≡ suc (pointers f P without to)
      fewer =
          tally_drop (λ p. left p && eqb (f p) to) (λ p. without p && eqb (f p) to) P at there
          (true_both _ _ g.stood (eq-eqb (f at) to leads))
          (ap (λ (b : Bool). b && eqb (f at) to) without_at)
          (λ k l n. ap (λ (b : Bool). b && eqb (f k) to) (without_other k n))

      same : (q : ℕ) → (q ≡ to → ⊥) → pointers f P left q ≡ pointers f P without q
      same q n = tally_same (λ p. left p && eqb (f p) q) (λ p. without p && eqb (f p) q) P (λ k l. go k (ℕ_discrete k at))
        where
          go : (k : ℕ) → Dec (k ≡ at) → (left k && eqb (f k) q) ≡ (without k && eqb (f k) q)
          go k (yes d) =
              let z : eqb (f k) q ≡ false = ne_eqb (f k) q (λ y. n (sym y ∙ ap f d ∙ leads)) in
              rw z (and-false (left k) ∙ sym (and-false (without k)))
          go k (no d) = ap (λ (b : Bool). b && eqb (f k) q) (without_other k d)

      some : 1 ≤ get_or numbers to 0
      some = omega (arith, g.has.counted to wide, fewer)

      -- so `to` is another, and is left
      apart : (p : ℕ) → get_or numbers p 0 ≡ 0 → p ≡ to → ⊥
      apart p z d = let e : get_or numbers to 0 ≡ 0 = ap (λ (k : ℕ). get_or numbers k 0) (sym d) ∙ z in omega (arith, some)

      lowered : List ℕ
      lowered = set numbers to (get_or numbers to 0 - 1)

      lowered_other : (p : ℕ) → (p ≡ to → ⊥) → get_or lowered p 0 ≡ get_or numbers p 0
      unfolding lowered
      lowered_other p d = get_or-set_other numbers to p _ 0 d

      still_rings : (p : ℕ) → OnRing f P p → without p ≡ true
      still_rings p o = sym (without_other p off) ∙ g.has.rings p o
        where
          off : p ≡ at → ⊥
          off d = ring_pointed f P stays left g.has.rings p o (sym (g.has.counted p (omega (arith, o.0))) ∙ ap (λ (k : ℕ). get_or numbers k 0) d ∙ g.none)

      still_counted : (q : ℕ) → q < 256 → get_or lowered q 0 ≡ pointers f P without q
      unfolding lowered
      still_counted q m = go (ℕ_discrete q to)
        where
          go : Dec (q ≡ to) → get_or lowered q 0 ≡ pointers f P without q
          go (yes d) =
              rw (d, get_or-set_same numbers to (get_or numbers to 0 - 1) 0 (omega (arith, g.has.size))) (omega (arith, g.has.counted to wide, fewer))
          go (no d) = lowered_other q d ∙ g.has.counted q m ∙ same q d

      still_later : (p : ℕ) → start + 1 ≤ p → p < P → without p ≡ true
      still_later p l h = sym (without_other p (λ d. omega (arith, g.below))) ∙ g.has.later p l h

      still_stripped : (p : ℕ) → p < P → without p ≡ false → get_or lowered p 0 ≡ 0
      still_stripped p h z = go (ℕ_discrete p at)
        where
          zero_at : get_or numbers p 0 ≡ 0 → get_or lowered p 0 ≡ 0
          zero_at e = lowered_other p (apart p e) ∙ e

          go : Dec (p ≡ at) → get_or lowered p 0 ≡ 0
          go (yes d) = zero_at (ap (λ (k : ℕ). get_or numbers k 0) d ∙ g.none)
          go (no d) = zero_at (g.has.stripped p h (without_other p d ∙ z))

      still : Left f P lowered (start + 1) without
      unfolding lowered
      still = record { size = length-set numbers to _ ∙ g.has.size; counted = still_counted; rings = still_rings; later = still_later; stripped = still_stripped }

      still_kept : (p : ℕ) → p ≤ start → (p ≡ to → ⊥) → without p ≡ true → get_or lowered p 0 ≡ 0 → ⊥
      still_kept p l d y z = let b = without_left p y in g.kept p l b.0 b.1 (sym (lowered_other p d) ∙ z)

      -- the way ends: `to` has its turn yet, or is still pointed to
      ended : ((p : ℕ) → p ≤ start → p ≡ to → get_or lowered p 0 ≡ 0 → ⊥) → Strip f P lowered (start + 1) without
      ended stop = record { has = still; kept = λ p l y z. go p (omega arith) y z (ℕ_discrete p to) }
        where
          go : (p : ℕ) → p ≤ start → without p ≡ true → get_or lowered p 0 ≡ 0 → Dec (p ≡ to) → ⊥
          go p l y z (yes d) = stop p l d z
          go p l y z (no d) = still_kept p l d y z

      -- it goes on: nobody left points to `to`, which was looked at
      onward : to ≤ start → get_or lowered to 0 ≡ 0 → Going f P lowered start to without
      onward low z = record { has = still; kept = still_kept; below = low; stood = stands (left to) refl; none = z }
        where
          stands : (b : Bool) → left to ≡ b → without to ≡ true
          stands true e = sym (without_other to (λ d. apart at g.none (sym d))) ∙ e
          stands false e = absurd (apart to (g.has.stripped to (omega arith) e) refl)

    pub goes_some : Goes f P numbers start at → 1 ≤ get_or numbers to 0
    goes_some (left, g) = some left g

    module _ (w : Goes f P numbers start at) where
      pub goes_later : start < to → Stripping f P (set numbers to (get_or numbers to 0 - 1)) (start + 1)
      unfolding lowered
      goes_later l = (without w.0 w.1, ended w.0 w.1 (λ p m d z. omega arith))

      pub goes_pointed : (get_or (set numbers to (get_or numbers to 0 - 1)) to 0 ≡ 0 → ⊥) → Stripping f P (set numbers to (get_or numbers to 0 - 1)) (start + 1)
      unfolding lowered
      goes_pointed n = (without w.0 w.1, ended w.0 w.1 (λ p m d z. n (ap (λ (k : ℕ). get_or (set numbers to (get_or numbers to 0 - 1)) k 0) (sym d) ∙ z)))

      pub goes_on : to ≤ start → get_or (set numbers to (get_or numbers to 0 - 1)) to 0 ≡ 0 → Goes f P (set numbers to (get_or numbers to 0 - 1)) start to
      unfolding lowered
      goes_on low z = (without w.0 w.1, onward w.0 w.1 low z)

      pub goes_less : to ≤ start → get_or (set numbers to (get_or numbers to 0 - 1)) to 0 ≡ 0
          → pointed_to numbers ≡ suc (pointed_to (set numbers to (get_or numbers to 0 - 1)))
      goes_less low z =
          tally_drop (λ q. not (eqb (get_or numbers q 0) 0)) (λ q. not (eqb (get_or (set numbers to (get_or numbers to 0 - 1)) q 0) 0)) 16 to
          (omega arith)
          (ap not (ne_eqb (get_or numbers to 0) 0 (λ e. omega (arith, goes_some w))))
          (ap not (eq-eqb (get_or (set numbers to (get_or numbers to 0 - 1)) to 0) 0 z))
          (λ k l n. ap (λ (m : ℕ). not (eqb m 0)) (sym (get_or-set_other numbers to k _ 0 n)))

  -- ---- all were looked at
  pub strip_end : (numbers : List ℕ) (start : ℕ) → Stripping f P numbers start → P ≤ start → numbers ≡ table 256 (pointers f P (left_of f P))
  strip_end numbers start (left, s) h =
      table_is (pointers f P (left_of f P)) 256 0 numbers s.has.size
      (λ q l. s.has.counted q l ∙ tally_same (λ p. left p && eqb (f p) q) (λ p. left_of f P p && eqb (f p) q) P (λ k m. ap (λ (b : Bool). b && eqb (f k) q) (agree k m)))
    where
      agree : (p : ℕ) → p < P → left p ≡ left_of f P p
      agree p l = iff _ _
          (λ y. (left_exactly f P stays p).1 (left_ring f P stays left (λ q m v z. s.kept q (omega arith) v (s.has.counted q (omega arith) ∙ z)) p l y))
          (λ y. s.has.rings p ((left_exactly f P stays p).0 y))

  -- ---- where each of sixteen is pointed to nothing is stripped, and all are left
  module _ (numbers : List ℕ) (counted : numbers ≡ table 256 (pointers f P (left_after f P 0))) (some : (p : ℕ) → p < 16 → 1 ≤ get_or numbers p 0) where
    none_goes : (k : ℕ) → k ≤ P → Stripping f P numbers k
    none_goes zero h = strip_start numbers counted
    none_goes (suc k) h = rw (← add-one k) (strip_past numbers k (omega arith) (none_goes k (omega arith)) (λ z. omega (arith, some k (omega (arith, small)), z)))

    pub all_left : replicate 16 true ≡ table 16 (left_of f P)
    all_left =
        let e = strip_end numbers P (none_goes P (omega arith)) (omega arith) in
        table_is (left_of f P) 16 true (replicate 16 true) refl
        (λ p h.
        same_at 16 p true
        ∙ ap not (sym (ne_eqb (get_or numbers p 0) 0 (λ z. omega (arith, some p h, z))))
        ∙ ap (λ (ns : List ℕ). not (eqb (get_or ns p 0) 0)) e
        ∙ ap (λ (m : ℕ). not (eqb m 0)) (table_at (pointers f P (left_of f P)) 256 p 0 (omega arith))
        ∙ sym (left_pointed f P stays p))

-- ---- of sixteen numbers none is zero
pub none_alone : (numbers : List ℕ) (alone : List Bool) → length alone ≡ 16 → ((p : ℕ) → p < 16 → get_or alone p false ≡ eqb (get_or numbers p 0) 0)
    → (alone ≡ replicate 16 false) ↔ ((p : ℕ) → p < 16 → 1 ≤ get_or numbers p 0)
none_alone numbers alone long looked = (to, from)
  where
    to : alone ≡ replicate 16 false → (p : ℕ) → p < 16 → 1 ≤ get_or numbers p 0
    to e p h =
        let z = eqb-false (get_or numbers p 0) 0 (sym (looked p h) ∙ ap (λ (l : List Bool). get_or l p false) e ∙ same_at 16 p false) in
        omega (arith, z)

    from : ((p : ℕ) → p < 16 → 1 ≤ get_or numbers p 0) → alone ≡ replicate 16 false
    from g =
        ext_get_or false alone (replicate 16 false) long
        (λ p h.
        let m : p < 16 = omega (arith, long) in
        looked p m ∙ ne_eqb (get_or numbers p 0) 0 (λ z. omega (arith, g p m, z)) ∙ sym (same_at 16 p false))
