-- A content written out: a plane of octets for each layer of a stripe, all of them behind the samples lent, and a list of every coded layer, in which
-- one that was read keeps its start. So all is read, and what was read is read again.
--
--   octet_in c j       octet j of a colour; bit_octet: the octet of a mask's bit
--   value_octet        octet j of a sample, as a content has it
--   content_octet      octet i of a layer's samples, row by row; plane_of: all of them
--   stacked f n       so many planes one after the other
--   behind            where a layer's plane starts, behind the samples lent
--   entry_of           a layer's entry; entries_up n l: those of the coded among n layers, from layer l on
--   filled v w        the scene that is read whole
-- Assumes nothing.
use Prim.Native.Nat.{ℕ, zero, suc, ◌+◌, ◌*◌, ◌/◌, ◌%◌, ◌≤◌, ◌<◌}
use native.Mathlib.Nat.{add-zero, add_assoc, mul-add-div_right, mul-add-mod_self_right, div-eq_of_lt, mod-eq_of_lt}
use native.Mathlib.Omega.{arith}
use mathlib.Core.Path.{◌≡◌, refl, sym, ap, ap₂, subst, ◌∙◌}
use mathlib.Core.Logic.{⊎_elim}
use mathlib.Core.Bool.{Bool, true, false, cond}
use mathlib.Core.List.Memᴰ
use mathlib.Core.List.{List, [], ◌∷◌, ◌++◌, Memᴰ}
use lib.ListN.{length, get_or, length-append, get_or-append}
use lib.Seq.{get_or-append-add}
use lib.Dec.{eqb, lit<}
use borrow.Author.Tests.{eq-eqb, ne_eqb}
use Rattle.laws.proofs.Cases.{cond_with, clash}
use Rattle.laws.proofs.Says.{says_eq, says_lt, says_not, says_else}
use Rattle.octets.specs.Octets.{Octets}
use Rattle.octets.specs.Entries.{entries_from}
use Rattle.octets.proofs.Laws.{octets_append}
use Rattle.octets.proofs.Entries.{length_entries, entry_of_lem}
use Rattle.sheet_rules.specs.declared.Colour.{Colour}
use Rattle.sheet_rules.specs.declared.Record.{Record}
use Rattle.sheet_rules.specs.Judge.{coded}
use Rattle.sheet_rules.specs.Sentences.{Coded}
use Rattle.pixel_rules.specs.declared.MainPos.{MainPos}
use Rattle.pixel_rules.specs.declared.SamplePos.{SamplePos}
use Rattle.pixel_rules.specs.declared.Plane.{Plane}
use Rattle.std.specs.Prelude.{Option, Some, None, Ok, Err}
use Rattle.pixel_rules.specs.Place.{left_of, ratio, inside, along_of, down_of}
use Rattle.pixel_rules.specs.Planes.{PlaneList, whole_list, plane_start}
use Rattle.pixel_rules.specs.Samples.{Scene, record_of, main_of, index_of, depth, plane_span}
use Rattle.pixel_rules.specs.Content.{Content, CanHold, shade, three, Possible}
use Rattle.pixel_rules.proofs.Division.{says_inside, scale_within, sample_within}
use Rattle.picture_rules.specs.Line.{plane_ok, planes_judged}
use Rattle.picture_rules.specs.Sentences.{AllFine}
use Rattle.picture_rules.specs.Demand.{Reread, AllRead}
use Rattle.picture_rules.proofs.Ruled.{says_plane, planes_answers}
use Rattle.picture_rules.proofs.Starts.{start_entry}
use Rattle.picture_rules.proofs.Within.{start_read_lem}
use Rattle.picture_rules.proofs.More.{reread_more}

-- ---- the octets of a content

unfoldable pub octet_in : Colour → ℕ → ℕ
octet_in c zero = c.c0
octet_in c (suc zero) = c.c1
octet_in c (suc (suc j)) = c.c2

unfoldable pub bit_octet : Bool → ℕ
bit_octet true = 1
bit_octet false = 0

-- an even layer is a mask
unfoldable pub value_octet : Content → ℕ → SamplePos → SamplePos → ℕ → ℕ
unfolding octet_in bit_octet
value_octet w l p q j = cond (eqb (l % 2) 0) (bit_octet (w.bit l p q)) (octet_in (w.colour l p q) j)

module _ (w : Content) (l : ℕ) (p q : SamplePos) (j : ℕ) where
  pub value_mask : l % 2 ≡ 0 → value_octet w l p q j ≡ bit_octet (w.bit l p q)
  unfolding value_octet
  value_mask e = ap (λ (b : Bool). cond b (bit_octet (w.bit l p q)) (octet_in (w.colour l p q) j)) (eq-eqb (l % 2) 0 e)

  pub value_image : l % 2 ≡ 1 → value_octet w l p q j ≡ octet_in (w.colour l p q) j
  unfolding value_octet
  value_image e = ap (λ (b : Bool). cond b (bit_octet (w.bit l p q)) (octet_in (w.colour l p q) j)) (ne_eqb (l % 2) 0 (λ z. omega arith))

abbrev place : ℕ → SamplePos
place i = record { 0 = i }

-- octet j of sample t, in rows of so many
abbrev row_octet : Content → ℕ → ℕ → ℕ → ℕ → ℕ
row_octet w l width t j = value_octet w l (place (t % width)) (place (t / width)) j

unfoldable pub content_octet : Scene → Content → ℕ → ℕ → ℕ
content_octet v w l i = row_octet w l (record_of v l).width (i / depth (record_of v l)) (i % depth (record_of v l))

abbrev plane_of : Scene → Content → ℕ → List ℕ
plane_of v w l = entries_from (content_octet v w l) (plane_span (record_of v l)) 0

parts : (a b c : ℕ) → c < b → ((a * b + c) / b ≡ a) × ((a * b + c) % b ≡ c)
parts a b c h =
    let some : 0 < b = omega arith in
    (mul-add-div_right some a c ∙ ap (λ (n : ℕ). a + n) (div-eq_of_lt h) ∙ add-zero a, mul-add-mod_self_right a b c ∙ mod-eq_of_lt h)

module _ (v : Scene) (w : Content) (l : ℕ) (x z : MainPos) (u : inside (main_of v) (record_of v l) x z ≡ true) where
  -- the octets of a place's sample are those of the content there
  sample_octet : (j : ℕ) → j < depth (record_of v l)
      → content_octet v w l (index_of (main_of v) (record_of v l) x z * depth (record_of v l) + j)
      ≡ value_octet w l (along_of (main_of v) (record_of v l) x) (down_of (main_of v) (record_of v l) z) j
  unfolding content_octet index_of
  sample_octet j h =
      let r : Record = record_of v l in
      let c = (says_inside (main_of v) r x z).told u in
      let a = parts (index_of (main_of v) r x z) (depth r) j h in
      let b = parts (down_of (main_of v) r z).0 r.width (along_of (main_of v) r x).0 (scale_within (left_of r) r.width (ratio (main_of v) r) x c.0) in
      ap₂ (λ (t i : ℕ). row_octet w l r.width t i) a.0 a.1 ∙ ap₂ (λ (m n : ℕ). value_octet w l (place m) (place n) j) b.1 b.0

-- what a layer can hold is octets
held_octets : (r : Record) (c : Colour) → CanHold r c → (c.c0 < 256) × (c.c1 < 256) × (c.c2 < 256)
held_octets r c (shade g h) = (h, lit< tt, lit< tt)
held_octets r c (three g h) = (h.c0, h.c1, h.c2)

octet_below : (c : Colour) → (c.c0 < 256) × (c.c1 < 256) × (c.c2 < 256) → (j : ℕ) → octet_in c j < 256
unfolding octet_in
octet_below c h zero = h.0
octet_below c h (suc zero) = h.1
octet_below c h (suc (suc j)) = h.2

bit_below : (b : Bool) → bit_octet b < 256
unfolding bit_octet
bit_below true = lit< tt
bit_below false = lit< tt

content_below : (v : Scene) (w : Content) → Possible v w → (l i : ℕ) → content_octet v w l i < 256
unfolding content_octet value_octet
content_below v w can l i =
    let r : Record = record_of v l in
    let t : ℕ = i / depth r in
    cond_with (λ (n : ℕ). n < 256) (eqb (l % 2) 0)
    (λ e. bit_below (w.bit l (place (t % r.width)) (place (t / r.width))))
    (λ e.
    octet_below (w.colour l (place (t % r.width)) (place (t / r.width)))
    (held_octets r (w.colour l (place (t % r.width)) (place (t / r.width))) (can l (place (t % r.width)) (place (t / r.width))))
    (i % depth r))

entries_octets : (f : ℕ → ℕ) → ((i : ℕ) → f i < 256) → (n i : ℕ) → Octets (entries_from f n i)
unfolding entries_from
entries_octets f h zero i k = lit< tt
entries_octets f h (suc n) i zero = h i
entries_octets f h (suc n) i (suc k) = entries_octets f h n (i + 1) k

-- ---- planes one after the other

unfoldable pub stacked : (ℕ → List ℕ) → ℕ → List ℕ
stacked f zero = []
stacked f (suc n) = stacked f n ++ f n

module _ (f : ℕ → List ℕ) where
  stacked_octets : ((l : ℕ) → Octets (f l)) → (n : ℕ) → Octets (stacked f n)
  unfolding stacked
  stacked_octets h zero k = lit< tt
  stacked_octets h (suc n) k = octets_append (stacked f n) (f n) (stacked_octets h n) (h n) k

  -- the plane of number l among n ends within them, and its octets are there
  stacked_within : (l n : ℕ) → l < n → length (stacked f l) + length (f l) ≤ length (stacked f n)
  unfolding stacked
  stacked_within l zero h = absurd (omega arith)
  stacked_within l (suc n) h =
      let a = length-append (stacked f n) (f n) in
      ⊎_elim (λ (b : l < n). let i = stacked_within l n b in omega arith)
      (λ (b : l < n → ⊥).
      let e : n ≡ l = omega arith in
      subst (λ (m : ℕ). length (stacked f m) + length (f m) ≤ length (stacked f n ++ f n)) e (omega arith))
      (says_else (says_lt l n))

  stacked_at : (l n i : ℕ) → l < n → i < length (f l) → get_or (stacked f n) (length (stacked f l) + i) 0 ≡ get_or (f l) i 0
  unfolding stacked
  stacked_at l zero i h k = absurd (omega arith)
  stacked_at l (suc n) i h k =
      ⊎_elim
      (λ (b : l < n).
      let a = stacked_within l n b in
      get_or-append (stacked f n) (f n) 0 (length (stacked f l) + i) (omega arith) ∙ stacked_at l n i b k)
      (λ (b : l < n → ⊥).
      let e : n ≡ l = omega arith in
      subst (λ (m : ℕ). get_or (stacked f n ++ f n) (length (stacked f m) + i) 0 ≡ get_or (f m) i 0) e (get_or-append-add (stacked f n) (f n) i 0))
      (says_else (says_lt l n))

-- ---- the scene that is read whole

abbrev pub behind : Scene → Content → ℕ → ℕ
behind v w l = length v.samples + length (stacked (plane_of v w) l)

-- where it starts in the samples lent, or else behind them
abbrev start_else : Option ℕ → ℕ → ℕ
start_else (Some a) b = a
start_else None b = b

abbrev entry_of : Scene → Content → ℕ → Plane
entry_of v w l = record { layer = l; start = start_else (plane_start v.planes l) (behind v w l) }

unfoldable pub entries_up : Scene → Content → ℕ → ℕ → List Plane
entries_up v w zero l = []
entries_up v w (suc n) l = cond (coded (record_of v l)) (entry_of v w l ∷ entries_up v w n (l + 1)) (entries_up v w n (l + 1))

abbrev pub filled_list : Scene → Content → PlaneList
filled_list v w = whole_list (entries_up v w v.extent.layers 1)

abbrev pub filled_samples : Scene → Content → List ℕ
filled_samples v w = v.samples ++ stacked (plane_of v w) (v.extent.layers + 1)

abbrev pub filled : Scene → Content → Scene
filled v w = record { sheet = v.sheet; extent = v.extent; planes = (filled_list v w).entries; samples = filled_samples v w }

pub filled_octets : (v : Scene) (w : Content) → Possible v w → Octets v.samples → Octets (filled_samples v w)
filled_octets v w can h =
    octets_append v.samples (stacked (plane_of v w) (v.extent.layers + 1)) h
    (stacked_octets (plane_of v w) (λ l. entries_octets (content_octet v w l) (content_below v w can l) (plane_span (record_of v l)) 0)
    (v.extent.layers + 1))

module _ (v : Scene) (w : Content) where
  plane_long : (l : ℕ) → length (plane_of v w l) ≡ plane_span (record_of v l)
  plane_long l = length_entries (content_octet v w l) (plane_span (record_of v l)) 0

  -- an octet of a plane behind the samples lent
  octet_behind : (l i : ℕ) → l ≤ v.extent.layers → i < plane_span (record_of v l) → get_or (filled_samples v w) (behind v w l + i) 0 ≡ content_octet v w l i
  octet_behind l i a h =
      let n = plane_long l in
      let f : ℕ → List ℕ = plane_of v w in
      ap (λ (m : ℕ). get_or (filled_samples v w) m 0) (add_assoc (length v.samples) (length (stacked f l)) i)
      ∙ get_or-append-add v.samples (stacked f (v.extent.layers + 1)) (length (stacked f l) + i) 0
      ∙ stacked_at f l (v.extent.layers + 1) i (omega arith) (omega arith)
      ∙ entry_of_lem (content_octet v w l) 0 (plane_span (record_of v l)) i h

  entry_among : (n from l : ℕ) → from ≤ l → l < from + n → Coded (record_of v l) → Memᴰ (entry_of v w l) (entries_up v w n from)
  unfolding entries_up
  entry_among zero from l a b c = absurd (omega arith)
  entry_among (suc n) from l a b c =
      cond_with (Memᴰ (entry_of v w l)) (coded (record_of v from))
      (λ t.
      ⊎_elim (λ (e : l ≡ from). Memᴰ.head (ap (entry_of v w) e))
      (λ (e : l ≡ from → ⊥). Memᴰ.tail (entry_among n (from + 1) l (omega arith) (omega arith) c))
      (says_else (says_eq l from)))
      (λ t.
      ⊎_elim (λ (e : l ≡ from). let k = (says_not (says_eq (record_of v l).len 0)).shown c in let m = ap (λ (j : ℕ). coded (record_of v j)) e in clash cc)
      (λ (e : l ≡ from → ⊥). entry_among n (from + 1) l (omega arith) (omega arith) c)
      (says_else (says_eq l from)))

  module _ (fine : AllFine v (whole_list v.planes)) where
    entry_room : (l : ℕ) → l ≤ v.extent.layers → (entry_of v w l).start + plane_span (record_of v l) ≤ length (filled_samples v w)
    entry_room l a = by (plane_start v.planes l) refl
      where
        by : (z : Option ℕ) → plane_start v.planes l ≡ z → start_else z (behind v w l) + plane_span (record_of v l) ≤ length (filled_samples v w)
        by (Some b) e =
            let r = (start_read_lem v (whole_list v.planes) fine l b e).room in
            let n = length-append v.samples (stacked (plane_of v w) (v.extent.layers + 1)) in
            omega arith
        by None e =
            let m = plane_long l in
            let i = stacked_within (plane_of v w) l (v.extent.layers + 1) (omega arith) in
            let n = length-append v.samples (stacked (plane_of v w) (v.extent.layers + 1)) in
            omega arith

    entries_judged : (n l last i : ℕ) → last < l → l + n ≤ v.extent.layers + 1 → planes_judged (filled v w) false last i (entries_up v w n l) ≡ Ok tt
    unfolding entries_up planes_judged
    entries_judged zero l last i a b = refl
    entries_judged (suc n) l last i a b =
        cond_with (λ (ps : List Plane). planes_judged (filled v w) false last i ps ≡ Ok tt) (coded (record_of v l))
        (λ t.
        let c = (says_not (says_eq (record_of v l).len 0)).told t in
        let k : plane_ok (filled v w) last (entry_of v w l) ≡ true =
        (says_plane (filled v w) last (entry_of v w l)).shown (((a, omega arith), c), entry_room l (omega arith)) in
        ap (λ (q : Bool). cond q (planes_judged (filled v w) false l (i + 1) (entries_up v w n (l + 1))) (Err i)) k
        ∙ entries_judged n (l + 1) l (i + 1) (omega arith) (omega arith))
        (λ t. entries_judged n (l + 1) last i (omega arith) (omega arith))

    pub filled_fine : AllFine (filled v w) (filled_list v w)
    filled_fine =
        planes_answers (filled v w) (filled_list v w) (λ j. j ≡ Ok tt → AllFine (filled v w) (filled_list v w)) (λ f e. f) (λ i f e. clash cc)
        (entries_judged v.extent.layers 1 0 0 (omega arith) (omega arith))

    layer_among : (l : ℕ) → 1 ≤ l → l ≤ v.extent.layers → Coded (record_of v l) → Memᴰ (entry_of v w l) (filled_list v w).entries
    layer_among l a b c = entry_among v.extent.layers 1 l a (omega arith) c

    -- a layer that was not read starts behind the samples lent, and the octets of a place's sample are those of the content there
    module _ (l : ℕ) (least : 1 ≤ l) (most : l ≤ v.extent.layers) (c : Coded (record_of v l)) (e : plane_start v.planes l ≡ None) where
      pub unread_start : plane_start (filled_list v w).entries l ≡ Some (behind v w l)
      unread_start =
          start_entry (filled v w) (filled_list v w) filled_fine (entry_of v w l) (layer_among l least most c)
          ∙ ap (λ (q : Option ℕ). Some (start_else q (behind v w l))) e

      pub unread_octet : (x z : MainPos) → inside (main_of v) (record_of v l) x z ≡ true → (j : ℕ) → j < depth (record_of v l)
          → get_or (filled_samples v w) (behind v w l + index_of (main_of v) (record_of v l) x z * depth (record_of v l) + j) 0
          ≡ value_octet w l (along_of (main_of v) (record_of v l) x) (down_of (main_of v) (record_of v l) z) j
      unread_octet x z u j h =
          let r : Record = record_of v l in
          let s = sample_within (main_of v) r x z u in
          let i : ℕ = index_of (main_of v) r x z * depth r in
          ap (λ (m : ℕ). get_or (filled_samples v w) m 0) (add_assoc (behind v w l) i j)
          ∙ octet_behind l (i + j) most (omega arith)
          ∙ sample_octet v w l x z u j h

    pub filled_all : AllRead (filled v w)
    filled_all l a b c = (entry_of v w l, layer_among l a b c, refl)

    pub filled_again : Reread v (filled v w)
    filled_again =
        reread_more v (filled v w) (stacked (plane_of v w) (v.extent.layers + 1)) refl
        (λ p m.
        let e = start_entry v (whole_list v.planes) fine p m in
        let r = start_read_lem v (whole_list v.planes) fine p.layer p.start e in
        let same : entry_of v w p.layer ≡ p = λ i. record { layer = p.layer; start = start_else (e i) (behind v w p.layer) } in
        (Memᴰ.cast (sym same) (layer_among p.layer r.least r.most r.coded), r.room))
