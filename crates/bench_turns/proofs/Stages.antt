-- A pick byte with what comes before and after it, in stages: the feeds, the byte, the takes. Each writes where the last one ended.
-- Assumes nothing.
use mathlib.Core.Path.{◌≡◌, refl, sym, ap, subst, ◌∙◌}
use mathlib.Core.List.{List, append-nil}
use Prim.Native.Nat.{ℕ}
use Rattle.network.specs.declared.Network.{Network}
use Rattle.listing.specs.declared.Listing.{Listing}
use Rattle.listing.specs.Text.{Line}
use Rattle.bench_rules.specs.Printed.{Printed, printed, silent, then_do}
use Rattle.bench_rules.specs.Emptying.{empties}
use Rattle.bench_rules.specs.Playing.{Bench, plays_one}
use Rattle.bench_rules.specs.Holding.{inputs_of, feeds_in, on_outputs, Room, Done}
use Rattle.bench_rules.proofs.Fed.{feeds_kept}
use Rattle.bench_rules.proofs.Underway.{Underway, begun, room_for, more, done}
use Rattle.bench_turns.specs.Turns.{byte_in}

then_silent : {A : Type 0} (d : Printed A) → d ≡ then_do d silent
then_silent {A} d = ap (λ (ls : List Line). printed {A = A} ls d.after) (sym (append-nil d.lines))

abbrev from_byte : ℕ → Bench → Printed Bench
from_byte p b = then_do (byte_in p b) (on_outputs empties)

plays_one_is : (p : ℕ) (b : Bench) → plays_one p b ≡ from_byte p (feeds_in b)
unfolding plays_one
plays_one_is p b = sym (then_silent (from_byte p (feeds_in b)))

-- the feeds leave the processes
pub same_processes : (b₀ : Bench) {b₁ : Bench} → b₁ ≡ feeds_in b₀ → b₁.world.lane.network.processes ≡ b₀.world.lane.network.processes
same_processes b₀ fed = ap (λ (b : Bench). b.world.lane.network.processes) fed ∙ ap (λ (n : Network). n.processes) (feeds_kept (inputs_of b₀)).network

module _ (p : ℕ) (b₀ : Bench) {l₀ : Listing} (room : Room (plays_one p b₀) l₀) {b₁ : Bench} (fed : b₁ ≡ feeds_in b₀) where
  after_feeds : Underway (plays_one p b₀) l₀ (from_byte p) b₁ l₀
  after_feeds =
      let e : plays_one p b₀ ≡ from_byte p b₁ = plays_one_is p b₀ ∙ ap (from_byte p) (sym fed) in
      subst (λ (d : Printed Bench). Underway d l₀ (from_byte p) b₁ l₀) (sym e) (begun (from_byte p) b₁ l₀ (subst (λ (d : Printed Bench). Room d l₀) e room))

  pub room_for_byte : Room (byte_in p b₁) l₀
  room_for_byte = room_for after_feeds (byte_in p b₁) (on_outputs empties) refl

  module _ {b₂ : Bench} {l₂ : Listing} (d : Done (byte_in p b₁) l₀ b₂ l₂) where
    after_byte : Underway (plays_one p b₀) l₀ (on_outputs empties) b₂ l₂
    after_byte = more after_feeds (byte_in p b₁) (on_outputs empties) refl d.after d.wrote

    pub room_for_takes : Room (on_outputs empties b₂) l₂
    room_for_takes = room_for after_byte (on_outputs empties b₂) silent (then_silent (on_outputs empties b₂))

    pub played : {b₃ : Bench} {l₃ : Listing} → Done (on_outputs empties b₂) l₂ b₃ l₃ → Done (plays_one p b₀) l₀ b₃ l₃
    played k = done (more after_byte (on_outputs empties b₂) silent (then_silent (on_outputs empties b₂)) k.after k.wrote) refl
