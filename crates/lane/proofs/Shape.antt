-- The lengths of a lane's arrays stay what they are.
-- Assumes nothing.
use mathlib.Core.Path.{◌≡◌, refl, ap, ◌∙◌}
use mathlib.Core.List.{List, [], ◌∷◌}
use Prim.Native.Nat.{ℕ, suc}
use lib.ListN.{length, length-set}
use Rattle.network.specs.declared.Network.{Network}
use Rattle.process.specs.Process.{Process}
use Rattle.process.specs.declared.Channel.{Channel}
use Rattle.lane.specs.declared.Lane.{Lane}
pub use Rattle.lane.specs.State.{Shaped}
use Rattle.lane.specs.State.{put_process, put_channel, put_channels, count}
use Rattle.lane.specs.Pick.{drop_from}
use Rattle.lane.proofs.Windows.{length_put}

-- a process put back
pub put_process_shaped : (p : ℕ) (q : Process) (l : Lane) → Shaped l → Shaped (put_process p q l)
put_process_shaped p q l s =
    record {
      registers = length_put l.registers _ q.registers ∙ s.registers;
      processes = length-set l.processes p _ ∙ s.processes;
      channels = s.channels;
    }

-- a channel put back
pub put_channel_shaped : (c : ℕ) (h : Channel) (l : Lane) → Shaped l → Shaped (put_channel c h l)
put_channel_shaped c h l s = record { registers = s.registers; processes = s.processes; channels = length-set l.channels c h ∙ s.channels }

-- as many channels as before
pub length_drop_from : (n : Network) (p c : ℕ) (hs : List Channel) → length (drop_from n p c hs) ≡ length hs
length_drop_from n p c [] = refl
length_drop_from n p c (h ∷ hs) = ap suc (length_drop_from n p (suc c) hs)

-- the channels of a process that ended
pub drop_shaped : (p : ℕ) (l : Lane) → Shaped l → Shaped (put_channels (drop_from l.network p 0 l.channels) l)
drop_shaped p l s =
    record { registers = s.registers; processes = s.processes; channels = length_drop_from l.network p 0 l.channels ∙ s.channels }

-- one more accepted call
pub count_shaped : (l : Lane) → Shaped l → Shaped (count l)
count_shaped l s = record { registers = s.registers; processes = s.processes; channels = s.channels }
