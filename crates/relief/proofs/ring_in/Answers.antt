-- `relief::ring_in` meets its contract: the search on the waits of a lane's processes is the lane's.
-- Assumes nothing.
use Rattle.std.proofs.Common.{◌≡◌, refl, sym, true, rules}
use Rattle.lane.specs.Sound.{sound_of}
use Rattle.lane.proofs.SoundLaws.{sound_says}
use Rattle.relief.proofs.Arrays.{found_at}
use Rattle.relief.proofs.Steps.{settles}
use Rattle.relief.proofs.ring_in.Goals as goal

pub returns : goal.returns
returns c =
    let lane = c.args.sound.now.lane in
    let s : sound_of lane ≡ true = search rules in
    let e = sym (found_at lane (sound_says lane s) refl c.waits_in.ensures c.search.ensures) in
    record { found = e; settles = settles lane _ s e }
