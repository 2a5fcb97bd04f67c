-- `Listing::put_integer` meets its contract: a minus first where the number is below zero, and its magnitude's digits.
-- Assumes nothing.
use mathlib.Core.Path.{◌≡◌, ◌∙◌}
use mathlib.Core.Bool.{true, false}
use native.Mathlib.Omega.{arith}
use lib.IntN.{pos, nat_abs}
use lib.Signed.{lt_z}
use mir.Facts.{to_z-of_z}
use Rattle.listing.specs.Listing.{Wrote}
use Rattle.listing.specs.Number.{number}
use Rattle.listing.proofs.Laws.{then}
use Rattle.listing.proofs.Signs.{negative, positive}
use Rattle.listing.proofs.Listing.put_integer.Goals as goal
use Rattle.listing.proofs.Listing.put_integer.Goals.{then-v-lt0, else-v-lt0}

pub put_decimal-requires : goal.put_decimal-requires
put_decimal-requires c =
    let size : c.from-size.result ≡ nat_abs c.args.v = c.from-size.ensures ∙ (rw (to_z-of_z c.ranges.v) at c.unsigned_abs.ensures.value) in
    elim c.if-v-lt0.branch [
      | then-v-lt0 w ↦
          let minus : lt_z c.args.v (pos 0) ≡ true = rw (to_z-of_z c.ranges.v) at w.if-v-lt0.true in
          let room = rw (negative c.args.v c.ranges.v minus) at c.requires in
          rw (w.self-is, size) (record { fits = omega (arith, room.fits, w.put.ensures.at, w.put.ensures.same_length) })
      | else-v-lt0 w ↦
          let plus : lt_z c.args.v (pos 0) ≡ false = rw (to_z-of_z c.ranges.v) at w.if-v-lt0.false in
          rw (w.self-is, size, ← positive c.args.v c.ranges.v plus) c.requires
    ]

pub returns : goal.returns
returns c =
    let size : c.from-size.result ≡ nat_abs c.args.v = c.from-size.ensures ∙ (rw (to_z-of_z c.ranges.v) at c.unsigned_abs.ensures.value) in
    let digits : Wrote (number (nat_abs c.args.v)) c.if-v-lt0.self c.put_decimal.new.self = rw size at c.put_decimal.ensures in
    elim c.if-v-lt0.branch [
      | then-v-lt0 w ↦
          let minus : lt_z c.args.v (pos 0) ≡ true = rw (to_z-of_z c.ranges.v) at w.if-v-lt0.true in
          let parts = negative c.args.v c.ranges.v minus in
          rw parts (then (rw parts at c.requires) w.put.ensures (rw (w.self-is) at digits))
      | else-v-lt0 w ↦
          let plus : lt_z c.args.v (pos 0) ≡ false = rw (to_z-of_z c.ranges.v) at w.if-v-lt0.false in
          rw (positive c.args.v c.ranges.v plus) (rw (w.self-is) at digits)
    ]
