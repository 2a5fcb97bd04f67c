-- A fresh board stands for the empty history.
-- Assumes nothing.
use mathlib.Core.Path.{◌≡◌, refl}
use mathlib.Core.Bool.{false}
use mathlib.Core.List.{[]}
use Prim.Native.Nat.{ℕ, ◌≤◌, ◌<◌}
use native.Mathlib.Omega.{arith}
use lib.ListN.{length}
use Rattle.kahn.proofs.Unbounded.{empty}
use Rattle.kahn.proofs.Bounded.{Board, Machine, channel_at, process_at}
use Rattle.kahn.proofs.Relation.{Related}

module _ (M : Machine) where
  open M.net use {X, W, P, sender, receiver, start}

  -- a board at the start
  pub record Fresh (l : Board M.Store W) : Type 0 where
    pub good : M.Good l.processes
    pub fit : (p : ℕ) → M.Fit (start p)
    pub many_channels : length l.channels ≡ 32
    pub many_cells : length l.cells ≡ 8192
    pub same : (p : ℕ) → process_at M l p ≡ start p
    pub none : (c : ℕ) → c < 32 → (channel_at M l c).held ≡ 0
    pub fits : (c : ℕ) → c < 32 → (channel_at M l c).capacity ≤ 256
    pub begins : (c : ℕ) → c < 32 → (channel_at M l c).oldest < 256
    pub opened : (c : ℕ) → c < 32 → (channel_at M l c).closed ≡ false
    pub outer : (p : ℕ) → 16 ≤ p → M.ended (start p) ≡ false

  pub stands_start : (l : Board M.Store W) → Fresh l → Related M l (empty M.net) (λ _. [])
  unfolding empty
  stands_start l f =
      record {
        good = f.good;
        fit = f.fit;
        many_channels = f.many_channels;
        many_cells = f.many_cells;
        same = f.same;
        lines = λ c j.
            let z = f.none c j in
            record {
              shut = f.opened c j;
              room = omega arith;
              fits = f.fits c j;
              begins = f.begins c j;
              from = 0;
              count = omega arith;
              ring = λ i k. absurd (omega arith);
              mine = λ _ _. refl;
              gone = λ _. z;
              given = λ u. (f.outer (receiver c) (far (receiver c) u), refl);
            };
      }
    where
      far : (n : ℕ) → (n < 16 → ⊥) → 16 ≤ n
      far n u = omega arith
