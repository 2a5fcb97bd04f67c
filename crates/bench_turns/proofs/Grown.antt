-- The channel that a relief enlarges.
-- Assumes nothing.
use mathlib.Core.Path.{◌≡◌, refl}
use mathlib.Core.Bool.{true}
use mathlib.Core.List.{List, []}
use Prim.Native.Nat.{ℕ, ◌≤◌, ◌<◌}
use native.Mathlib.Omega.{arith}
use Rattle.network.proofs.Passed.{passed}
use Rattle.lane.specs.declared.Lane.{Lane}
use Rattle.lane.specs.State.{world, channel_of}
use Rattle.lane.specs.Sound.{sound_of}
use Rattle.lane.proofs.SoundLaws.{sound_says}
use Rattle.relief.specs.Relief.{Told, enlarged, refused, Relief, relieve_of}
use Rattle.relief.proofs.Enlarged.{relief_cases, relief_kept}

-- it is there, and has a capacity of at most 256 after it
differ : {t : Told} {k n c : ℕ} → t ≡ refused k → t ≡ enlarged n c → ⊥
differ a b = let z : ◌≡◌ {A = ℕ} 0 1 = cc in omega arith

grown_there : (l : Lane) (buffer : List ℕ) (k c : ℕ) → (relieve_of l buffer).answer ≡ enlarged k c → c < l.network.channels
grown_there l buffer k c =
    relief_cases (λ (r : Relief). r.answer ≡ enlarged k c → c < l.network.channels) l buffer (λ j e. absurd (differ refl e))
    (λ ring d buffer' s e q. let z : d ≡ c = cc in omega (arith, e.there))

pub grown_fits : (l : Lane) (buffer : List ℕ) → sound_of l ≡ true → (k c : ℕ) → (relieve_of l buffer).answer ≡ enlarged k c → (c < 32) × ((channel_of (relieve_of l buffer).lane c).capacity ≤ 256)
grown_fits l buffer s k c e =
    let kept = relief_kept (world l []) buffer in
    let there = grown_there l buffer k c e in
    (omega (arith, there, (passed l.network (sound_says l s).passed).channels_high), ((sound_says _ (kept.sound s)).channels c (rw kept.network there)).high)
