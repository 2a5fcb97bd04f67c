-- What the code of a bench holds, in the terms of the rule, and the rule's parts on it.
-- Assumes nothing.
use Rattle.std.specs.Prelude.{◌≡◌}
use Rattle.lane.specs.State.{world}
use Rattle.listing.specs.Text.{text}
use Rattle.listing.specs.declared.Listing.{Listing}
use Rattle.listing.specs.Listing.{HasRoom, Wrote}
use Rattle.bench_rules.specs.Printed.{Printed, printed}
use Rattle.bench_rules.specs.Input.{left_at}
use Rattle.bench_rules.specs.Feeding.{Inputs, inputs, feeds}
use Rattle.bench_rules.specs.Emptying.{Outputs, outputs}
use Rattle.bench_rules.specs.Playing.{Bench, bench}
use Rattle.bench_rules.specs.declared.Bench as code

abbrev pub held_by : code.Bench → Bench
held_by b = bench (world b.sound.lane b.cells) (left_at b.input.now b.next) b.given

-- what it was lent or has listed stays
pub record Kept (b b' : code.Bench) : Type 0 where
  pub input : b'.input ≡ b.input
  pub from_outside : b'.inputs ≡ b.inputs
  pub to_outside : b'.outputs ≡ b.outputs

-- ---- the inputs
abbrev pub inputs_of : Bench → Inputs
inputs_of b = inputs b.left b.world

-- fed
abbrev pub feeds_in : Bench → Bench
feeds_in b = bench (feeds (inputs_of b)).world (feeds (inputs_of b)).left b.given

-- ---- the outputs
abbrev pub outputs_of : Bench → Outputs
outputs_of b = outputs b.world b.given

-- this done to them
abbrev pub on_outputs : (Outputs → Printed Outputs) → Bench → Printed Bench
on_outputs f b = printed (f (outputs_of b)).lines (bench (f (outputs_of b)).after.world b.left (f (outputs_of b)).after.given)

-- ---- a part of a bench, which prints
-- its lines have room
abbrev pub Room : {A : Type 0} → Printed A → Listing → Type 0
Room d l = HasRoom (text d.lines) l

-- it is done, and its lines are written
pub record Done {A : Type 0} (d : Printed A) (l : Listing) (a : A) (l' : Listing) : Type 0 where
  pub after : a ≡ d.after
  pub wrote : Wrote (text d.lines) l l'
