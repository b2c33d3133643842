-- The records of a Mode 1 stripe that is written: the type names the layers that are coded, and each record is the one lent, moved.
-- Assumes nothing.
use Prim.Native.Nat.{ℕ, ◌%◌, ◌<◌}
use native.Mathlib.Omega.{arith}
use mathlib.Core.Path.{◌≡◌, refl, sym, subst}
use mathlib.Core.Logic.{◌⊎◌, inl, inr, ⊎_elim, ⊎_map}
use mathlib.Core.Bool.{Bool, true, false, cond, false≢true}
use mathlib.Core.List.{List}
use lib.ListN.{length}
use Rattle.sheet_rules.specs.declared.Record.{Record}
use Rattle.laws.specs.Tests.{only}
use Rattle.sheet_rules.specs.Judge.{coded}
use Rattle.sheet_rules.specs.Sentences.{Coded, Uncoded, Grey, CoderOf}
use Rattle.sheet_rules.proofs.New.{BaseFacts, ChoiceFacts, says_coded}
use Rattle.jpeg_rules.specs.Said.{record_said}
use Rattle.jpeg_rules.specs.Grammar.{Layer}
use Rattle.jpeg_rules.proofs.Grey.{octet_again}
use Rattle.start_rules.specs.declared.Head.{Head}
use Rattle.std.specs.Prelude.{Option, Some, None}
use Rattle.mode1_rules.specs.declared.LayerData.{LayerData}
use Rattle.mode1_rules.specs.Kinds.{has_back, has_mask, has_fore, image_record, mask_record}
use Rattle.mode1_rules.specs.Grammar.{TypeOf, Image, there, absent}
use Rattle.write_rules.specs.Layer.{layer_octets}
use Rattle.write_rules.specs.Mode1.{type_by, colour_by}
use Rattle.write_rules.specs.Form.{start_at}
use Rattle.write_rules.proofs.Placed.{uncoded_is, Contents, contents_coded, contents_uncoded, contents_empty, placed_at, no_data}

-- octet 17, and octets 26 and 27
abbrev pub Spares : Record → Type 0
Spares r = ((r.octet17 ≡ 0) ⊎ Grey r) × (r.octets26 ≡ 0)

-- only a coded image layer is grey
spare_uncoded : (r : Record) → (r.octet17 ≡ 0) ⊎ Grey r → Uncoded r → r.octet17 ≡ 0
spare_uncoded r (inl e) u = e
spare_uncoded r (inr g) u = absurd (g.1 u)

spare_mask : (r : Record) → (r.octet17 ≡ 0) ⊎ Grey r → r.layer ≡ 2 → r.octet17 ≡ 0
spare_mask r (inl e) l = e
spare_mask r (inr g) l = let odd = g.2 in absurd (omega arith)

-- ---- the type names the layers that are coded

type_bits : (a b c : Bool) → (has_back (type_by a b c) ≡ a) × (has_mask (type_by a b c) ≡ b) × (has_fore (type_by a b c) ≡ c)
type_bits true true true = (refl, refl, refl)
type_bits true true false = (refl, refl, refl)
type_bits true false true = (refl, refl, refl)
type_bits true false false = (refl, refl, refl)
type_bits false true true = (refl, refl, refl)
type_bits false true false = (refl, refl, refl)
type_bits false false true = (refl, refl, refl)
type_bits false false false = (refl, refl, refl)

pub back_bit : (a b c : Bool) → has_back (type_by a b c) ≡ a
back_bit a b c = (type_bits a b c).0

pub mask_bit : (a b c : Bool) → has_mask (type_by a b c) ≡ b
mask_bit a b c = (type_bits a b c).1

pub fore_bit : (a b c : Bool) → has_fore (type_by a b c) ≡ c
fore_bit a b c = (type_bits a b c).2

pub type_by_lem : (a b c : Bool) → ChoiceFacts a b c → TypeOf (type_by a b c)
type_by_lem true true true k = inr (inr (inr (inr (inr refl))))
type_by_lem true true false k = inr (inr (inl refl))
type_by_lem true false true k = ⊎_elim (λ (e : false ≡ true). absurd (false≢true e)) (λ (e : (true ≡ true) × (true ≡ true) → ⊥). absurd (e (refl, refl))) k.mask
type_by_lem true false false k = inl refl
type_by_lem false true true k = inr (inr (inr (inr (inl refl))))
type_by_lem false true false k = inr (inl refl)
type_by_lem false false true k = inr (inr (inr (inl refl)))
type_by_lem false false false k =
    ⊎_elim (λ (e : false ≡ true). absurd (false≢true e))
    (⊎_elim (λ (e : false ≡ true). absurd (false≢true e)) (λ (e : false ≡ true). absurd (false≢true e)))
    k.some

pub type_small : (a b c : Bool) → type_by a b c < 256
type_small true true true = omega arith
type_small true true false = omega arith
type_small true false true = omega arith
type_small true false false = omega arith
type_small false true true = omega arith
type_small false true false = omega arith
type_small false false true = omega arith
type_small false false false = omega arith

-- ---- the records of a page's stripe

pub record_by : (r q : Record) → r.stripe ≡ q.stripe → r.layer ≡ q.layer → r.coder ≡ q.coder → r.x ≡ q.x → r.y ≡ q.y → r.width ≡ q.width → r.height ≡ q.height
    → r.res ≡ q.res → r.base0 ≡ q.base0 → r.base1 ≡ q.base1 → r.base2 ≡ q.base2 → r.octet17 ≡ q.octet17 → r.start ≡ q.start → r.len ≡ q.len
    → r.octets26 ≡ q.octets26 → r ≡ q
record_by r q e1 e2 e3 e4 e5 e6 e7 e8 e9 e10 e11 e12 e13 e14 e15 = let all : start_at r r.start ≡ start_at q q.start = cc in all

-- what the page says of an image layer's data at a place
unfoldable pub image_is : Bool → Record → List ℕ → ℕ → Option LayerData
image_is true r l at = Some (record { start = at; size = length l; said = record_said r })
image_is false r l at = None

pub image_made : (main at : ℕ) (d : List ℕ) (r : Record) → (Coded r → Layer main (layer_octets d r) (record_said r))
    → Image main at (coded r) (layer_octets d r) (image_is (coded r) r (layer_octets d r) at)
unfolding image_is
image_made main at d r y = go (coded r) refl
  where
    go : (b : Bool) → coded r ≡ b → Image main at b (layer_octets d r) (image_is b r (layer_octets d r) at)
    go true e = there (y ((says_coded r).told e))
    go false e = subst (λ (l : List ℕ). Image main at false l None) (sym (no_data d r e)) absent

pub image_record_lem : (hd : Head) (k l at : ℕ) (d : List ℕ) (r : Record) → r.stripe ≡ k → r.layer ≡ l → l % 2 ≡ 1 → Spares r → Contents r → (Uncoded r → r.res ≡ hd.main)
    → length (layer_octets d r) ≡ r.len → image_record hd k l (colour_by r) r.x r.y (image_is (coded r) r (layer_octets d r) at) ≡ placed_at r at
unfolding image_record image_is
image_record_lem hd k l at d r es el odd z c m n = go (coded r) refl
  where
    one : CoderOf r.layer r.coder → r.coder ≡ 1
    one (inl e) = e
    one (inr (e, f)) = absurd (omega arith)

    go : (b : Bool) → coded r ≡ b → image_record hd k l (colour_by r) r.x r.y (image_is b r (layer_octets d r) at) ≡ start_at r (only b at)
    go true e =
        record_by _ _ (sym es) (sym el) (sym (one (contents_coded r c e).coder)) refl refl refl refl refl refl refl refl
        (octet_again r (⊎_map (λ (e : r.octet17 ≡ 0). e) (λ (g : Grey r). g.0) z.0)) refl n (sym z.1)
    go false e =
        let f = contents_empty r c (λ (w : r.layer ≡ 2). omega arith) e in
        let u = uncoded_is r e in
        record_by _ _ (sym es) (sym el) (sym (contents_uncoded r c e).coder) (sym f.x) (sym f.y) (sym f.width) (sym f.height) (sym (m u)) refl refl refl (sym (spare_uncoded r z.0 u)) refl (sym u) (sym z.1)

pub mask_record_lem : (hd : Head) (k at : ℕ) (r : Record) (b : Bool) → coded r ≡ b → r.stripe ≡ k → r.layer ≡ 2 → Spares r → Contents r → (r.x ≡ 0) × (r.y ≡ 0) → BaseFacts r
    → r.width ≡ hd.width → r.res ≡ hd.main → (Coded r → hd.mask ≡ r.coder)
    → mask_record hd k r.height (cond b hd.mask 0) (cond b at 0) r.len ≡ start_at r (only b at)
unfolding mask_record
mask_record_lem hd k at r true e es el z c o f w m h =
    record_by _ _ (sym es) (sym el) (h ((says_coded r).told e)) (sym o.0) (sym o.1) (sym w) refl (sym m) (sym f.0.0) (sym f.0.1) (sym f.1) (sym (spare_mask r z.0 el)) refl refl (sym z.1)
mask_record_lem hd k at r false e es el z c o f w m h =
    record_by _ _ (sym es) (sym el) (sym (contents_uncoded r c e).coder) (sym o.0) (sym o.1) (sym w) refl (sym m) (sym f.0.0) (sym f.0.1) (sym f.1) (sym (spare_mask r z.0 el)) refl refl (sym z.1)
