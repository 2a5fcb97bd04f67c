-- Texts one after the other, in a lent buffer.
-- Assumes nothing.
use mathlib.Core.Path.{◌≡◌, refl, ap, sym, ◌∙◌}
use mathlib.Core.List.{List, [], ◌∷◌, ◌++◌, append_assoc}
use Prim.Native.Nat.{ℕ, ◌+◌, ◌≤◌}
use native.Mathlib.Omega.{arith}
use lib.ListN.{length, take, drop, length-append, length-take, length-drop, take-append-drop}
use lib.Seq.{take_at, drop-append-add, drop-drop}
use borrow.Rule.Slice.PartMut.{put_mid}
use Rattle.listing.specs.Text.{Line, line_text, text}
use Rattle.listing.specs.declared.Listing.{Listing}
use Rattle.listing.specs.Listing.{HasRoom, Wrote}
use Rattle.listing.specs.Written.{written}

-- lines one after the other have their texts one after the other
pub text_append : (a b : List Line) → text (a ++ b) ≡ text a ++ text b
text_append [] b = refl
text_append (l ∷ a) b = ap (λ (r : List ℕ). line_text l ++ r) (text_append a b) ∙ sym (append_assoc (line_text l) (text a) (text b))

-- the front of a buffer up to a text's end
front : (i : ℕ) (s b : List ℕ) → i ≤ length b → length (take i b ++ s) ≡ i + length s
front i s b h = let a = length-append (take i b) s in let e = length-take i b in omega (arith, a, e, h)

-- a text keeps the buffer's length
pub written_length : (i : ℕ) (t b : List ℕ) → i + length t ≤ length b → length (written i t b) ≡ length b
unfolding written
written_length i t b h =
    let f = front i t b (omega (arith, h)) in
    let a = length-append (take i b ++ t) (drop (i + length t) b) in
    let d = length-drop (i + length t) b in
    omega (arith, f, a, d, h)

-- the part of a buffer that a text was copied to
pub copied : (i k : ℕ) (t s b : List ℕ) → k ≡ length t → s ≡ t → put_mid i k b s ≡ written i t b
unfolding written
copied i k t s b h e = rw (h, e, drop-drop) (sym (append_assoc (take i b) t (drop (i + length t) b)))

-- nothing written
pub written_none : (i : ℕ) (b : List ℕ) → written i [] b ≡ b
unfolding written
written_none i b =
    let e : i + 0 ≡ i = omega arith in
    ap (λ (k : ℕ). take i b ++ [] ++ drop k b) e ∙ append_assoc (take i b) [] (drop i b) ∙ take-append-drop i b

-- one text after another
pub written_then : (i : ℕ) (s t b : List ℕ) → i + length s + length t ≤ length b → written (i + length s) t (written i s b) ≡ written i (s ++ t) b
unfolding written
written_then i s t b h =
    let f = front i s b (omega (arith, h)) in
    let a = length-append s t in
    let e : i + length s + length t ≡ i + length (s ++ t) = omega (arith, a) in
    let head = take_at (take i b ++ s) (drop (i + length s) b) (i + length s) f in
    let rest =
    ap (λ (k : ℕ). drop (k + length t) (take i b ++ s ++ drop (i + length s) b)) (sym f)
    ∙ drop-append-add (take i b ++ s) (drop (i + length s) b) (length t)
    ∙ drop-drop (length t) (i + length s) b
    ∙ ap (λ (k : ℕ). drop k b) e
    in
    ap (λ (x : List ℕ). x ++ t ++ drop (i + length s + length t) (take i b ++ s ++ drop (i + length s) b)) head
    ∙ ap (λ (x : List ℕ). take i b ++ s ++ t ++ x) rest
    ∙ ap (λ (x : List ℕ). x ++ drop (i + length (s ++ t)) b) (append_assoc (take i b) s t)

-- ---- a line part by part
-- there is room for the first of two texts
first : (s t : List ℕ) {a : Listing} → HasRoom (s ++ t) a → HasRoom s a
first s t r = record { fits = omega (arith, r.fits, length-append s t) }

-- two texts one after the other
pub then : {s t : List ℕ} {a b c : Listing} → HasRoom (s ++ t) a → Wrote s a b → Wrote t b c → Wrote (s ++ t) a c
then {s} {t} {a} {b} {c} r w v =
    record {
      at = omega (arith, length-append s t, w.at, v.at);
      text =
          v.text ∙ ap (λ (x : List ℕ). written b.at t x) w.text ∙ ap (λ (k : ℕ). written k t (written a.at s a.buffer.now)) w.at
          ∙ written_then a.at s t a.buffer.now (omega (arith, r.fits, length-append s t));
      same_length = v.same_length ∙ w.same_length;
      same_buffer = v.same_buffer ∙ w.same_buffer;
    }

-- nothing after a text
pub wrote_none : (a : Listing) → Wrote [] a a
wrote_none a = record { at = omega arith; text = sym (written_none a.at a.buffer.now); same_length = refl; same_buffer = refl }

-- the parts of a line, as many as it has
pub three : {a b c d : Listing} {s t u : List ℕ} → HasRoom (s ++ t ++ u) a → Wrote s a b → Wrote t b c → Wrote u c d → Wrote (s ++ t ++ u) a d
three r w v u = then r (then (first _ _ r) w v) u

pub five : {a b c d e f : Listing} {s t u x y : List ℕ} → HasRoom (s ++ t ++ u ++ x ++ y) a
    → Wrote s a b → Wrote t b c → Wrote u c d → Wrote x d e → Wrote y e f → Wrote (s ++ t ++ u ++ x ++ y) a f
five r w v u x y = then r (then (first _ _ r) (three (first _ _ (first _ _ r)) w v u) x) y

pub seven : {a b c d e f g h : Listing} {s t u x y p q : List ℕ} → HasRoom (s ++ t ++ u ++ x ++ y ++ p ++ q) a
    → Wrote s a b → Wrote t b c → Wrote u c d → Wrote x d e → Wrote y e f → Wrote p f g → Wrote q g h → Wrote (s ++ t ++ u ++ x ++ y ++ p ++ q) a h
seven r w v u x y p q = then r (then (first _ _ r) (five (first _ _ (first _ _ r)) w v u x y) p) q
