-- The cells of a channel, a ring of 256, against the list of all that was sent on it.
-- Assumes nothing.
use mathlib.Core.Path.{◌≡◌, refl, sym, ◌∙◌}
use mathlib.Core.Logic.{◌≢◌}
use mathlib.Core.Bool.{cond}
use mathlib.Core.Option.{none, some}
use mathlib.Core.List.{List, [], ◌∷◌, ◌++◌}
use Prim.Native.Nat.{ℕ, zero, suc, ◌+◌, ◌*◌, ◌%◌, ◌≤◌, ◌<◌}
use native.Mathlib.Decide.{ℕ_discrete}
use native.Mathlib.Omega.{arith}
use lib.Dec.{eqb}
use lib.ListN.{get_or, set, length, get_elem?, get_or-append}
use lib.Seq.{get_or-set_same, get_or-set_other, get_or_at}
use borrow.Author.Tests.{eq-eqb, ne_eqb}
use Rattle.process.specs.declared.Channel.{Channel}
use Rattle.process.specs.Channels.{get_one, put_one, slot}

module _ {A : Type 0} where
  pub get_d_set : (xs : List A) (k j : ℕ) (v d : A) → k < length xs → get_or (set xs k v) j d ≡ cond (eqb j k) v (get_or xs j d)
  get_d_set xs k j v d h = go (ℕ_discrete j k)
    where
      go : Dec (j ≡ k) → get_or (set xs k v) j d ≡ cond (eqb j k) v (get_or xs j d)
      go (yes e) = rw (eq-eqb j k e, e) (get_or-set_same xs k v d h)
      go (no n) = rw (ne_eqb j k n) (get_or-set_other xs k j v d n)

  pub getElem?-lt : (l : List A) (n : ℕ) (d : A) → n < length l → get_elem? l n ≡ some (get_or l n d)
  getElem?-lt [] n d h = absurd (omega arith)
  getElem?-lt (x ∷ l) zero d h = refl
  getElem?-lt (x ∷ l) (suc n) d h = getElem?-lt l n d (omega arith)

  pub getElem?-ge : (l : List A) (n : ℕ) → length l ≤ n → get_elem? l n ≡ none
  getElem?-ge [] n h = refl
  getElem?-ge (x ∷ l) zero h = absurd (omega arith)
  getElem?-ge (x ∷ l) (suc n) h = getElem?-ge l n (omega arith)

  pub get_d_snoc : (l : List A) (v : A) (n : ℕ) (d : A) → n ≡ length l → get_or (l ++ (v ∷ [])) n d ≡ v
  get_d_snoc l v n d e = get_or_at l v [] d n (sym e)

  -- message i of channel c is element t + i of s
  abbrev pub Ring : A → ℕ → Channel → List A → List A → ℕ → Type 0
  Ring d c h cells s t = (i : ℕ) → i < h.held → get_or cells (slot c h i) d ≡ get_or s (t + i) d

  pub ring_get : (d : A) (c : ℕ) (h : Channel) (cells s : List A) (t : ℕ) → Ring d c h cells s t → Ring d c (get_one h) cells s (t + 1)
  ring_get d c h cells s t r i l = rw (same, after) (r (i + 1) (omega arith))
    where
      same : 256 * c + ((h.oldest + 1) % 256 + i) % 256 ≡ 256 * c + (h.oldest + (i + 1)) % 256
      same = omega arith

      after : t + 1 + i ≡ t + (i + 1)
      after = omega arith

  pub ring_put : (d : A) (c : ℕ) (h : Channel) (cells s : List A) (t : ℕ) (v : A) → c < 32 → length cells ≡ 8192 → h.held < 256 → t + h.held ≡ length s
      → Ring d c h cells s t → Ring d c (put_one h) (set cells (slot c h h.held) v) (s ++ (v ∷ [])) t
  ring_put d c h cells s t v k n f e r i l = go (ℕ_discrete i h.held)
    where
      go : Dec (i ≡ h.held) → get_or (set cells (slot c h h.held) v) (slot c h i) d ≡ get_or (s ++ (v ∷ [])) (t + i) d
      go (yes q) = rw q (get_or-set_same cells (slot c h h.held) v d (omega arith) ∙ sym (get_d_snoc s v (t + h.held) d e))
      go (no q) = get_or-set_other cells (slot c h h.held) (slot c h i) v d (omega arith) ∙ r i (omega arith) ∙ sym (get_or-append s (v ∷ []) d (t + i) (omega arith))

  -- the cells of another channel
  pub ring_other : (d : A) (c b : ℕ) (h h' : Channel) (cells s : List A) (t : ℕ) (v : A) → c ≢ b → Ring d c h cells s t → (n : ℕ) → Ring d c h (set cells (slot b h' n) v) s t
  ring_other d c b h h' cells s t v q r n i l = get_or-set_other cells (slot b h' n) (slot c h i) v d (omega arith) ∙ r i l
