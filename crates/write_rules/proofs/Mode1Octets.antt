-- A Mode 1 stripe that is written is octets.
-- Assumes nothing.
use Prim.Native.Nat.{ℕ, ◌≤◌, ◌<◌}
use native.Mathlib.Omega.{arith}
use mathlib.Core.Path.{refl}
use mathlib.Core.List.Memᴰ
use mathlib.Core.List.{List, [], ◌∷◌, ◌++◌}
use lib.Dec.{lit<}
use Rattle.octets.specs.Octets.{Octets, octets16, octets32}
use Rattle.octets.proofs.Laws.{octets_append, octets_32}
use Rattle.sheet_rules.specs.declared.Colour.{Colour}
use Rattle.sheet_rules.specs.declared.Record.{Record}
use Rattle.sheet_rules.specs.Judge.{coded}
use Rattle.sheet_rules.specs.Sentences.{Among}
use Rattle.start_rules.specs.declared.Head.{Head}
use Rattle.segment_rules.specs.Segment.{begin_of}
use Rattle.mode1_rules.specs.Grammar.{colour_of, fields_of}
use Rattle.write_rules.specs.Layer.{layer_octets}
use Rattle.write_rules.specs.Mode1.{fields_by, begins, rest1, stripe1}
use Rattle.write_rules.proofs.Ready.{Sized}
use Rattle.write_rules.proofs.Small.{octets_cons, small, small_octets, data_octets}
use Rattle.write_rules.proofs.Mode1Records.{type_small}
use Rattle.write_rules.proofs.Mode1.{Three, IsThree, three}

colour_octets : (c : Colour) → (c.c0 < 256) × (c.c1 < 256) × (c.c2 < 256) → Octets (colour_of c)
unfolding colour_of
colour_octets c h = octets_cons c.c0 (c.c1 ∷ c.c2 ∷ []) h.0 (octets_cons c.c1 (c.c2 ∷ []) h.1 (octets_cons c.c2 [] h.2 (λ k. lit< tt)))

module _ (hd : Head) (k left : ℕ) (a b c : Record) (t : Three hd k left a b c) (za : Sized a) (zb : Sized b) (zc : Sized c) (low : left ≤ 65535) where
  -- the octets of numbers, from the background's offset on
  numbers_octets : Octets (octets32 a.x ++ (octets32 a.y ++ (octets32 c.x ++ (octets32 c.y ++ (octets32 b.height ++ octets32 b.len)))))
  numbers_octets =
      let oa = za.offset in
      let oc = zc.offset in
      let h = t.height in
      octets_append (octets32 a.x) (octets32 a.y ++ (octets32 c.x ++ (octets32 c.y ++ (octets32 b.height ++ octets32 b.len)))) (octets_32 a.x (omega arith))
      (octets_append (octets32 a.y) (octets32 c.x ++ (octets32 c.y ++ (octets32 b.height ++ octets32 b.len))) (octets_32 a.y (omega arith))
      (octets_append (octets32 c.x) (octets32 c.y ++ (octets32 b.height ++ octets32 b.len)) (octets_32 c.x (omega arith))
      (octets_append (octets32 c.y) (octets32 b.height ++ octets32 b.len) (octets_32 c.y (omega arith))
      (octets_append (octets32 b.height) (octets32 b.len) (octets_32 b.height (omega arith)) (octets_32 b.len zb.len)))))

  head_octets : Octets (fields_of (fields_by a b c))
  unfolding fields_of
  head_octets =
      let f = fields_by a b c in
      octets_cons f.kind (colour_of f.back ++ (colour_of f.fore ++ _)) (type_small (coded a) (coded b) (coded c))
      (octets_append (colour_of f.back) (colour_of f.fore ++ _) (colour_octets f.back za.base)
      (octets_append (colour_of f.fore) _ (colour_octets f.fore zc.base) numbers_octets))

begins_octets : Octets begins
unfolding begin_of octets16 small
begins_octets = small_octets begins refl

pub stripe_octets1 : (d : List ℕ) (hd : Head) (k left : ℕ) (q : List Record) → IsThree hd k left q → left ≤ 65535 → Octets d → ((r : Record) → Among r q → Sized r) → Octets (stripe1 d q)
unfolding stripe1
stripe_octets1 d hd k left (a ∷ b ∷ c ∷ []) (three t) low o z =
    let za = z a (Memᴰ.head refl) in
    let zb = z b (Memᴰ.tail (Memᴰ.head refl)) in
    let zc = z c (Memᴰ.tail (Memᴰ.tail (Memᴰ.head refl))) in
    octets_append begins (rest1 d (a ∷ b ∷ c ∷ [])) begins_octets
    (octets_append (fields_of (fields_by a b c)) (layer_octets d b ++ (layer_octets d a ++ layer_octets d c)) (head_octets hd k left a b c t za zb zc low)
    (octets_append (layer_octets d b) (layer_octets d a ++ layer_octets d c) (data_octets d o b)
    (octets_append (layer_octets d a) (layer_octets d c) (data_octets d o a) (data_octets d o c))))
stripe_octets1 d hd k left [] x4 low o z = elim x4 [ ]
stripe_octets1 d hd k left (a ∷ []) x10 low o z = elim x10 [ ]
stripe_octets1 d hd k left (a ∷ (b ∷ [])) x16 low o z = elim x16 [ ]
stripe_octets1 d hd k left (a ∷ (b ∷ (c ∷ (_ ∷ _)))) x24 low o z = elim x24 [ ]
