-- `arithmetic::product` meets its contract: the library's wrapping is the order's.
-- Assumes nothing.
use mathlib.Core.Path.{◌∙◌}
use mir.Syntax.{w32}
use Rattle.std.proofs.lemmas.Int.{wrapping_mul_is}
use Rattle.arithmetic.proofs.WrapLaws.{wrap_is}
use Rattle.arithmetic.proofs.product.Goals as goal

pub returns : goal.returns
returns c = wrapping_mul_is w32 _ _ c.ranges.x c.ranges.y ∙ wrap_is _
