-- A listing under way: lines that are written, and what is still to be done. One law for each loop that prints.
-- Assumes nothing.
use mathlib.Core.Path.{◌≡◌, refl, sym, ap, ◌∙◌}
use mathlib.Core.List.{List, [], ◌++◌, append_assoc, append-nil}
use Prim.Native.Nat.{◌+◌}
use native.Mathlib.Omega.{arith}
use lib.ListN.{length, length-append}
use Rattle.listing.specs.declared.Listing.{Listing}
use Rattle.listing.specs.Text.{Line, text}
use Rattle.listing.specs.Listing.{HasRoom, Wrote}
use Rattle.listing.proofs.Laws.{text_append, wrote_none, then}
use Rattle.bench_rules.specs.Printed.{Printed, printed, silent, then_do}
use Rattle.bench_rules.specs.Holding.{Done}

-- `all` is to be done, on a listing that was l₀; done are some lines, which lead to `a`, and the rest is still to be done
pub record Underway {A B : Type 0} (all : Printed B) (l₀ : Listing) (rest : A → Printed B) (a : A) (l : Listing) : Type 0 where
  pub lines : List Line
  pub same : all ≡ then_do (printed lines a) rest
  pub wrote : Wrote (text lines) l₀ l
  pub room : HasRoom (text all.lines) l₀

-- the length of texts one after the other
length_text : (a b : List Line) → length (text (a ++ b)) ≡ length (text a) + length (text b)
length_text a b = ap length (text_append a b) ∙ length-append (text a) (text b)

-- nothing done
pub begun : {A B : Type 0} (f : A → Printed B) (a : A) (l : Listing) → HasRoom (text (f a).lines) l → Underway (f a) l f a l
begun f a l h = record { lines = []; same = refl; wrote = wrote_none l; room = h }

-- the next thing to be done is d
module _ {A B D : Type 0} {all : Printed B} {l₀ : Listing} {rest : A → Printed B} {a : A} {l : Listing}
    (u : Underway all l₀ rest a l) (d : Printed D) (f : D → Printed B) (next : rest a ≡ then_do d f) where
  all_is : all ≡ then_do (printed (u.lines ++ d.lines) d.after) f
  all_is =
      u.same ∙ ap (λ (r : Printed B). printed (u.lines ++ r.lines) r.after) next
      ∙ ap (λ (ls : List Line). printed ls (f d.after).after) (sym (append_assoc u.lines d.lines (f d.after).lines))

  all_room : HasRoom (text u.lines ++ text d.lines) l₀
  all_room =
      let e = ap (λ (r : Printed B). length (text r.lines)) all_is in
      let x = length_text (u.lines ++ d.lines) (f d.after).lines in
      let y = length_text u.lines d.lines in
      let z = length-append (text u.lines) (text d.lines) in
      let h = u.room.fits in
      record { fits = omega (arith, e, x, y, z, h) }

  -- its lines have room
  pub room_for : HasRoom (text d.lines) l
  room_for =
      let h = all_room.fits in
      let z = length-append (text u.lines) (text d.lines) in
      let p = u.wrote.at in
      let q = u.wrote.same_length in
      record { fits = omega (arith, h, z, p, q) }

  -- when they are written
  pub more : {b : D} {l' : Listing} → b ≡ d.after → Wrote (text d.lines) l l' → Underway all l₀ f b l'
  more {b} {l'} e w =
      let joined : Wrote (text (u.lines ++ d.lines)) l₀ l' = rw (text_append u.lines d.lines) (then all_room u.wrote w) in
      record { lines = u.lines ++ d.lines; same = rw e all_is; wrote = joined; room = u.room }

-- nothing left to be done
module _ {A B : Type 0} {all : Printed B} {l₀ : Listing} {rest : A → Printed B} {a : A} {l : Listing} (u : Underway all l₀ rest a l) where
  pub finished : (b : B) → rest a ≡ silent b → (b ≡ all.after) × Wrote (text all.lines) l₀ l
  finished b none =
      let e = u.same ∙ ap (λ (r : Printed B). printed (u.lines ++ r.lines) r.after) none ∙ ap (λ (ls : List Line). printed ls b) (append-nil u.lines) in
      (rw e, rw e u.wrote)

  -- what is left said in another way
  pub turned : (f : A → Printed B) → rest a ≡ f a → Underway all l₀ f a l
  turned f e =
      record { lines = u.lines; same = u.same ∙ ap (λ (r : Printed B). printed (u.lines ++ r.lines) r.after) e; wrote = u.wrote; room = u.room }

-- a part of a bench, with nothing left to be done
pub done : {A : Type 0} {all : Printed A} {l₀ : Listing} {rest : A → Printed A} {a : A} {l : Listing} → Underway all l₀ rest a l → rest a ≡ silent a → Done all l₀ a l
done {a = a} u none = let f = finished u a none in record { after = f.0; wrote = f.1 }
