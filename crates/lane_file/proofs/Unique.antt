-- A network has one file: two lists of bytes that hold it are equal.
-- Assumes nothing.
use mathlib.Core.Path.{◌≡◌, sym, ap, ◌∙◌}
use mathlib.Core.List.{List}
use Prim.Native.Nat.{ℕ, ◌+◌, ◌*◌, ◌≤◌, ◌<◌}
use native.Mathlib.Omega.{arith}
use lib.ListN.{length, get_or, take, drop}
use lib.Seq.{ext_get_or, get_or-take, get_or-drop}
use Rattle.base.specs.Lists.{two_bytes}
use Rattle.block_check.specs.Crc.{crc}
use Rattle.network.specs.declared.Network.{Network}
use Rattle.lane_file.proofs.Joined.{length_part, part_is}
use Rattle.lane_file.proofs.Places.{blocks_of, Holds, first_places, body_places, all_places}

module _ (n : Network) (s t : List ℕ) (hs : Holds n s) (ht : Holds n t) where
  abbrev Same : ℕ → Type 0
  Same j = get_or s j 0 ≡ get_or t j 0

  same_first : (r : ℕ) → r < 510 → Same r
  same_first =
      first_places Same
      (λ r h. hs.header r h ∙ sym (ht.header r h))
      (λ p q hp hq. hs.slot p q hp hq ∙ sym (ht.slot p q hp hq))
      (λ c q hc hq. hs.channel c q hc hq ∙ sym (ht.channel c q hc hq))
      (λ r h. hs.zeros r h ∙ sym (ht.zeros r h))

  same_body : (k r : ℕ) → k < blocks_of n + 1 → r < 510 → Same (512 * k + r)
  same_body =
      body_places (blocks_of n) Same same_first
      (λ k r hk hr. hs.code k r hk hr ∙ sym (ht.code k r hk hr))
      (λ k q hk hq. hs.number k q hk hq ∙ sym (ht.number k q hk hq))

  same_check : (k q : ℕ) → k < blocks_of n + 1 → q < 2 → Same (512 * k + (510 + q))
  same_check k q hk hq =
      let ls : 512 * k + 510 ≤ length s = omega (arith, hs.long) in
      let lt : 512 * k + 510 ≤ length t = omega (arith, ht.long) in
      let part : take 510 (drop (512 * k) s) ≡ take 510 (drop (512 * k) t) =
      part_is s (take 510 (drop (512 * k) t)) (512 * k) 510 (length_part t (512 * k) 510 lt) ls
      (λ r h. same_body k r hk h ∙ sym (get_or-take 510 (drop (512 * k) t) r 0 h ∙ get_or-drop (512 * k) t r 0)) in
      hs.check k q hk hq ∙ ap (λ (l : List ℕ). get_or (two_bytes (crc l)) q 0) part ∙ sym (ht.check k q hk hq)

  pub one_file_holds : s ≡ t
  one_file_holds =
      ext_get_or 0 s t (hs.long ∙ sym ht.long) (λ i h. all_places (blocks_of n) Same same_body same_check i (omega (arith, hs.long)))
