-- A pick byte alone: a relief, or a pick.
-- Assumes nothing.
use mathlib.Core.Path.{◌≡◌, sym, ap, ◌∙◌}
use mathlib.Core.Bool.{true}
use mathlib.Core.List.{[], ◌∷◌, append-nil}
use Prim.Native.Nat.{ℕ, ◌≤◌, ◌<◌}
use borrow.Author.Tests.{eq-eqb, ne_eqb}
use lib.ListN.{replicate}
use Rattle.lane.specs.declared.Lane.{Lane}
use Rattle.lane.specs.State.{World, world, channel_of}
use Rattle.lane.specs.Sound.{sound_of}
use Rattle.lane.specs.Pick.{pick_in}
use Rattle.relief.specs.Relief.{Told, enlarged, refused, relieve_of}
use Rattle.schedule.specs.Running.{relieves}
use Rattle.listing.specs.declared.Listing.{Listing}
use Rattle.listing.specs.Text.{Line, line_text, text, grow}
use Rattle.listing.specs.Listing.{HasRoom, Wrote}
use Rattle.listing.proofs.Laws.{wrote_none}
use Rattle.bench_rules.specs.Printed.{Printed, printed, silent}
use Rattle.bench_rules.specs.Playing.{grow_lines, relieves_in, picks_in, Bench, bench}
use Rattle.bench_rules.specs.Holding.{Room, Done}
use Rattle.bench_turns.specs.Turns.{byte_in}
use Rattle.bench_turns.proofs.Grown.{grown_fits}

-- ---- a byte by what it comes to
abbrev leaving : Bench → World → Bench
leaving b w = bench w b.left b.given

byte_done : (p : ℕ) (b : Bench) {r : Printed World} {l l' : Listing} → picks_in p b.world ≡ r → Wrote (text r.lines) l l' → Done (byte_in p b) l (leaving b r.after) l'
byte_done p b e w = record { after = ap (λ (r : Printed World). leaving b r.after) (sym e); wrote = rw e w }

-- ---- 255: a relief, which answers so and leaves this lane
module _ {p : ℕ} (b : Bench) {a : Told} {l' : Lane} (e : p ≡ 255)
    (d : (a ≡ (relieve_of b.world.lane (replicate 16 0)).answer) × (l' ≡ (relieve_of b.world.lane (replicate 16 0)).lane)) where
  relief_is : picks_in p b.world ≡ printed (grow_lines a l') (world l' b.world.cells)
  unfolding relieves_in relieves
  relief_is = rw (eq-eqb p 255 e, d.0, d.1)

  -- refused: no line
  pub relief_refused : (k : ℕ) {l : Listing} → a ≡ refused k → Done (byte_in p b) l (leaving b (world l' b.world.cells)) l
  relief_refused k {l} q = byte_done p b (relief_is ∙ ap (λ (t : Told). printed (grow_lines t l') (world l' b.world.cells)) q) (wrote_none l)

  -- enlarged: one line, of a channel that is there, with a capacity that can be printed
  module _ {n c : ℕ} (q : a ≡ enlarged n c) where
    abbrev line : Line
    line = grow c (channel_of l' c).capacity

    growth_is : picks_in p b.world ≡ printed (line ∷ []) (world l' b.world.cells)
    growth_is = relief_is ∙ ap (λ (t : Told). printed (grow_lines t l') (world l' b.world.cells)) q

    pub growth_fits : sound_of b.world.lane ≡ true → (c < 32) × ((channel_of l' c).capacity ≤ 256)
    growth_fits s =
        let g = grown_fits b.world.lane (replicate 16 0) s n c (sym d.0 ∙ q) in
        (g.0, rw d.1 g.1)

    pub room_for_growth : {l : Listing} → Room (byte_in p b) l → HasRoom (line_text line) l
    room_for_growth room = rw (append-nil (line_text line)) at (rw growth_is at room)

    pub growth_done : {l l'' : Listing} → Wrote (line_text line) l l'' → Done (byte_in p b) l (leaving b (world l' b.world.cells)) l''
    growth_done w = byte_done p b growth_is (rw (append-nil (line_text line)) w)

-- ---- any other byte: a pick, and no line
module _ {p : ℕ} (b : Bench) (other : p ≡ 255 → ⊥) where
  pub pick_done : {w : World} {l : Listing} → w ≡ pick_in p b.world → Done (byte_in p b) l (leaving b w) l
  pick_done {w} {l} e =
      let same : picks_in p b.world ≡ silent w = rw (ne_eqb p 255 other, e) in
      byte_done p b same (wrote_none l)
