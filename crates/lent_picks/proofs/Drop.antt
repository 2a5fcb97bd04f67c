-- The channels of a process that ended, one after the other as a loop takes them.
-- Assumes nothing.
use mathlib.Core.Path.{◌≡◌, refl}
use mathlib.Core.List.{List, [], ◌∷◌, ◌++◌}
use Prim.Native.Nat.{ℕ, suc, ◌+◌, ◌≤◌, ◌<◌}
use native.Mathlib.Numerals.{add-one}
use native.Mathlib.Omega.{arith}
use borrow.Author.Tests.{le-ltb}
use lib.ListN.{length, get_or, set, take, drop, take-append-drop}
use lib.Seq.{drop-cons, take-suc-set, drop-set-lt, append_snoc}
use Rattle.network.specs.declared.Network.{Network}
use Rattle.network.specs.Rules.{receives, sends}
use Rattle.process.specs.declared.Channel.{Channel}
use Rattle.process.specs.Channels.{no_channel, drop_one}
use Rattle.lane.specs.Pick.{drop_from}

-- channels that are not there stay as they are
pub drop_beyond : (n : Network) (p c : ℕ) (hs : List Channel) → n.channels ≤ c → drop_from n p c hs ≡ hs
drop_beyond n p c [] h = refl
drop_beyond n p c (x ∷ hs) h = rw (le-ltb c n.channels h, drop_beyond n p (suc c) hs (omega arith))

module _ (n : Network) (p : ℕ) where
  -- one channel more
  pub drop_more :
      (c : ℕ) (hs : List Channel) (h : Channel) → c < length hs → h ≡ drop_one (sends n p c) (receives n p c) (get_or hs c no_channel)
      → take (c + 1) (set hs c h) ++ drop_from n p (c + 1) (drop (c + 1) (set hs c h)) ≡ take c hs ++ drop_from n p c (drop c hs)
  drop_more c hs h m e =
      rw (add-one, take-suc-set hs c h m, drop-set-lt (suc c) hs c h (omega arith), drop-cons hs c no_channel m, append_snoc, e)

  -- no channel left
  pub drop_done : (c : ℕ) (hs : List Channel) → n.channels ≤ c → take c hs ++ drop_from n p c (drop c hs) ≡ hs
  drop_done c hs m = rw (drop_beyond n p c (drop c hs) m) (take-append-drop c hs)
