-- In every coded record of a stripe start and length lie within the page and name the layer's octets.
-- Assumes nothing.
use Prim.Native.Nat.{ℕ, ◌+◌, ◌≤◌}
use native.Mathlib.Omega.{arith}
use mathlib.Core.Path.{◌≡◌, refl, sym, subst₂}
use mathlib.Core.Logic.{◌⊎◌, inl, inr}
use mathlib.Core.Bool.{Bool, true, false, cond}
use mathlib.Core.List.{List, ◌++◌}
use lib.ListN.{length, take, drop}
use Rattle.sheet_rules.specs.declared.Colour.{Colour}
use Rattle.sheet_rules.specs.declared.Record.{Record}
use Rattle.sheet_rules.specs.Sentences.{Among, Coded}
use Rattle.jpeg_rules.specs.Said.{record_said}
use Rattle.jpeg_rules.specs.Grammar.{Layer}
use Rattle.jpeg_rules.proofs.Grey.{count_again}
use Rattle.start_rules.specs.declared.Head.{Head}
use Rattle.std.specs.Prelude.{Option, Some}
use Rattle.mode1_rules.specs.declared.LayerData.{LayerData}
use Rattle.mode1_rules.specs.Kinds.{stripe_body, has_back, has_mask, has_fore, image_record, mask_record}
use Rattle.mode1_rules.specs.Grammar.{Image, there, absent, Stripe}
use Rattle.mode1_rules.proofs.Parts.{stripe_each, stripe_length, back_octets_lem, fore_octets_lem}

-- the octets that a record names are within the page; those of an image layer are a JPEG layer that says of itself what the record says
pub record Named (main : ℕ) (s : List ℕ) (r : Record) : Type 0 where
  pub inside : r.start + r.len ≤ length s
  pub layer : (r.layer ≡ 2) ⊎ Layer main (take r.len (drop r.start s)) (record_said r)

image_named : (hd : Head) (s : List ℕ) (k l at : ℕ) (base : Colour) (x y : ℕ) (b : Bool) (o : List ℕ) (c : Option LayerData) → Image hd.main at b o c
    → take (image_record hd k l base x y c).len (drop (image_record hd k l base x y c).start s) ≡ o → at + length o ≤ length s → Coded (image_record hd k l base x y c)
    → Named hd.main s (image_record hd k l base x y c)
unfolding image_record
image_named hd s k l at base x y b o c (there {said = said} z) e i d =
    let same : said ≡ record_said (image_record hd k l base x y (Some (record { start = at; size = length o; said = said }))) =
    λ j. record { width = said.width; height = said.height; res = said.res; components = sym (count_again said.components z.counted) j } in
    record { inside = i; layer = inr (subst₂ (Layer hd.main) (sym e) same z) }
image_named hd s k l at base x y b o c absent e i d = absurd (d refl)

mask_named : (hd : Head) (s : List ℕ) (k height at n : ℕ) (b : Bool) → at + n ≤ length s → Coded (mask_record hd k height (cond b hd.mask 0) (cond b at 0) n)
    → Named hd.main s (mask_record hd k height (cond b hd.mask 0) (cond b at 0) n)
unfolding mask_record
mask_named hd s k height at n true i d = record { inside = i; layer = inl refl }
mask_named hd s k height at n false i d = record { inside = omega arith; layer = inl refl }

pub stripe_named : {hd : Head} {k left at : ℕ} {l : List ℕ} {height : ℕ} {rs : List Record} (z : Stripe hd k left at l height rs) (s tail : List ℕ)
    → drop at s ≡ l ++ tail → at + length l ≤ length s → (r : Record) → Among r rs → Coded r → Named hd.main s r
stripe_named {hd} {k} {left} {at} z s tail e h =
    let q = stripe_length z in
    let n = z.size in
    let f = z.fields in
    stripe_each z (λ (x : Record). Coded x → Named hd.main s x)
    (image_named hd s k 1 (at + stripe_body + length z.mask) f.back f.back_x f.back_y (has_back f.kind) z.back z.back_is z.back_there (back_octets_lem z s tail e) (omega arith))
    (mask_named hd s k f.height (at + stripe_body) f.mask_length (has_mask f.kind) (omega arith))
    (image_named hd s k 3 (at + stripe_body + length z.mask + length z.back) f.fore f.fore_x f.fore_y (has_fore f.kind) z.fore z.fore_is z.fore_there (fore_octets_lem z s tail e) (omega arith))
