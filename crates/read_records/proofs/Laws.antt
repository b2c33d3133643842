-- What the proofs of this crate cite: for each way out of a function one law, over what is known there.
-- Assumes nothing.
use Prim.Native.Nat.{ℕ, ◌+◌, ◌*◌, ◌≤◌}
use native.Mathlib.Omega.{arith}
use mathlib.Core.Path.{◌≡◌, refl, sym, ap, ◌∙◌}
use mathlib.Core.Bool.{Bool, true, false, cond}
use mathlib.Core.List.{List, [], ◌∷◌, ◌++◌, append_assoc, append-nil}
use lib.ListN.{length, length-append}
use borrow.Author.Rules.{rules}
use borrow.Author.Tests.{eq-eqb, ne_eqb}
use Rattle.octets.specs.Octets.{put_at}
use Rattle.octets.proofs.Laws.{put_put}
use Rattle.octets.specs.Entries.{joined}
use Rattle.sheet_rules.specs.declared.Colour.{Colour}
use Rattle.sheet_rules.specs.declared.Record.{Record}
use Rattle.sheet_rules.specs.Record.{marked, encode, sheet_of, record_size}
use Rattle.sheet_rules.proofs.Cut.{length_encode}
use Rattle.start_rules.specs.declared.Head.{Head}
use Rattle.mode1_rules.specs.declared.Fields.{Fields}
use Rattle.std.specs.Prelude.{Option, Some, None}
use Rattle.mode1_rules.specs.declared.LayerData.{LayerData}
use Rattle.mode1_rules.specs.Kinds.{has_mask, image_record, mask_record}
use Rattle.mode1_rules.specs.Grammar.{records_of}
use Rattle.jpeg_rules.specs.Said.{grey_octet}
use Rattle.read_records.specs.Places.{Placed, Room}

-- ---- grey_octet
pub octet_one : (c : ℕ) → c ≡ 1 → 1 ≡ grey_octet c
unfolding grey_octet
octet_one c e = simp (eq-eqb c 1 e)

pub octet_other : (c : ℕ) → (c ≡ 1 → ⊥) → 0 ≡ grey_octet c
unfolding grey_octet
octet_other c d = simp (ne_eqb c 1 d)

pub ruleset octet_laws = (rules, octet_one, octet_other)

-- ---- image_record
module _ (c : Option LayerData) (x y : ℕ) (p : Placed c x y) {w : LayerData} (z : c ≡ Some w) where
  low : (x ≤ 65535) × (y ≤ 65535)
  low = rw z at p

  pub across_low : x ≤ 65535
  across_low = low.0

  pub down_low : y ≤ 65535
  down_low = low.1

module _ (hd : Head) (k layer : ℕ) (base : Colour) (x y : ℕ) (c : Option LayerData) where
  pub image_there : {w : LayerData} {u v g : ℕ} → c ≡ Some w → u ≡ x → v ≡ y → g ≡ grey_octet w.said.components
      → marked g (image_record hd k layer base u v (Some w)) ≡ image_record hd k layer base x y c
  unfolding image_record
  image_there z d f h = rw (z, d, f, h) refl

  pub image_absent : {r : Record} → c ≡ None → r ≡ image_record hd k layer base 0 0 None → r ≡ image_record hd k layer base x y c
  unfolding image_record
  image_absent z h = h ∙ rw z refl

pub ruleset image_laws = (rules, across_low, down_low, image_there, image_absent)

-- ---- mask_record
module _ (hd : Head) (k t height start len : ℕ) {b : Bool} (e : b ≡ has_mask t) {v : ℕ × ℕ} {h : ℕ} (g : h ≡ height) where
  pub mask_there : b ≡ true → v ≡ (hd.mask, start) → mask_record hd k h v.0 v.1 len ≡ mask_record hd k height (cond (has_mask t) hd.mask 0) (cond (has_mask t) start 0) len
  mask_there y d = rw (g, d, sym e ∙ y) refl

  pub mask_none : b ≡ false → v ≡ (0, 0) → mask_record hd k h v.0 v.1 len ≡ mask_record hd k height (cond (has_mask t) hd.mask 0) (cond (has_mask t) start 0) len
  mask_none y d = rw (g, d, sym e ∙ y) refl

-- ---- put_stripe
put_three : (d : List ℕ) (i : ℕ) (r1 r2 r3 : Record) → i ≤ length d
    → put_at (put_at (put_at d i (encode r1)) (i + record_size) (encode r2)) (i + 2 * record_size) (encode r3) ≡ put_at d i (sheet_of (r1 ∷ r2 ∷ r3 ∷ []))
unfolding joined
put_three d i r1 r2 r3 h =
    let l1 = length_encode r1 in
    let l2 = length_encode r2 in
    let l12 = length-append (encode r1) (encode r2) in
    let a : i + record_size ≡ i + length (encode r1) = omega arith in
    let b : i + 2 * record_size ≡ i + length (encode r1 ++ encode r2) = omega arith in
    ap (λ (j : ℕ). put_at (put_at (put_at d i (encode r1)) j (encode r2)) (i + 2 * record_size) (encode r3)) a
    ∙ ap (λ (l : List ℕ). put_at l (i + 2 * record_size) (encode r3)) (put_put d i (encode r1) (encode r2) h)
    ∙ ap (λ (j : ℕ). put_at (put_at d i (encode r1 ++ encode r2)) j (encode r3)) b
    ∙ put_put d i (encode r1 ++ encode r2) (encode r3) h
    ∙ ap (put_at d i) (append_assoc (encode r1) (encode r2) (encode r3) ∙ ap (λ (l : List ℕ). encode r1 ++ (encode r2 ++ l)) (sym (append-nil (encode r3))))

pub stripe_put : (out : List ℕ) (to : ℕ) (hd : Head) (k : ℕ) (f : Fields) (mask : ℕ) (back fore : Option LayerData) {r1 r2 r3 : Record} {o1 o2 o3 : List ℕ} → Room out to f back fore
    → r1 ≡ image_record hd k 1 f.back f.back_x f.back_y back
    → r2 ≡ mask_record hd k f.height (cond (has_mask f.kind) hd.mask 0) (cond (has_mask f.kind) mask 0) f.mask_length
    → r3 ≡ image_record hd k 3 f.fore f.fore_x f.fore_y fore
    → o1 ≡ put_at out to (encode r1) → o2 ≡ put_at o1 (to + record_size) (encode r2) → o3 ≡ put_at o2 (to + 2 * record_size) (encode r3)
    → o3 ≡ put_at out to (sheet_of (records_of hd k f mask back fore))
stripe_put out to hd k f mask back fore m a b c x y z =
    let l = m.holds in
    rw (z, y, x, a, b, c) (put_three out to _ _ _ (omega arith))
