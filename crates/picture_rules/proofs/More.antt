-- More that was read: what is seen stays as it is, and with every coded layer read all is seen.
-- Assumes nothing.
use Prim.Native.Nat.{ℕ, zero, suc, ◌+◌, ◌*◌, ◌%◌, ◌<◌, ◌≤◌}
use native.Mathlib.Nat.{add_assoc}
use native.Mathlib.Omega.{arith}
use mathlib.Core.Path.{◌≡◌, refl, sym, ap, subst, ◌∙◌}
use mathlib.Core.Bool.{Bool, true, false, cond, ◌&&◌}
use mathlib.Core.List.{List, ◌++◌, Memᴰ}
use lib.ListN.{length, get_or, get_or-append}
use lib.Dec.{eqb}
use Rattle.sheet_rules.specs.StripeTable.{layer_record}
use Rattle.laws.proofs.Cases.{cond_with, cond_both, clash}
use Rattle.laws.proofs.Says.{says_and, says_true, says_not, says_eq}
use Rattle.sheet_rules.specs.Judge.{coded}
use Rattle.pixel_rules.specs.declared.MainPos.{MainPos}
use Rattle.sheet_rules.specs.declared.Colour.{Colour}
use Rattle.pixel_rules.specs.declared.Plane.{Plane}
use Rattle.std.specs.Prelude.{Option, Some, None, Ok}
use Rattle.pixel_rules.specs.declared.Mask.{Mask}
use Rattle.pixel_rules.specs.declared.Mask.TheVariants.{Zero, One, Hidden}
use Rattle.pixel_rules.specs.Place.{inside}
use Rattle.pixel_rules.specs.Planes.{PlaneList, plane_start}
use Rattle.pixel_rules.specs.Samples.{Scene, record_of, main_of, width_of, index_of, bit_of, virtual, mask_read, image_read, mask_at, image_at, depth, plane_span, pairs_of}
use Rattle.pixel_rules.specs.Decide.{same_colour, agree, pair_step, Stack, decide, stack_at, pixel_at}
use Rattle.picture_rules.specs.Line.{four_of, line_of, line_into}
use Rattle.picture_rules.specs.Sentences.{scene_of, AllFine}
use Rattle.picture_rules.specs.Demand.{four_at, at, Reread, AllRead}
use Rattle.pixel_rules.proofs.Division.{depth_mask, depth_some, sample_within, colour_own}
use Rattle.picture_rules.proofs.Scenes.{Stage, shows_stage, stage_layers, stage_placed}
use Rattle.pixel_rules.proofs.Rule.{same_true, same_self}
use Rattle.picture_rules.proofs.Fours.{known_four}
use Rattle.pixel_rules.proofs.Starts.{start_among, start_some}
use Rattle.picture_rules.proofs.Starts.{start_entry}
use Rattle.picture_rules.proofs.Demand3.{done_line, done_four}

-- ---- samples that become known

-- what is known stays; what is not known may become anything
abbrev pub ImageGrows : Option Colour → Option Colour → Type 0
ImageGrows (Some c) t = t ≡ Some c
ImageGrows None t = Unit

abbrev pub MaskGrows : Mask → Mask → Type 0
MaskGrows Zero t = t ≡ Zero
MaskGrows One t = t ≡ One
MaskGrows Hidden t = Unit

image_self : (s : Option Colour) → ImageGrows s s
image_self (Some c) = refl
image_self None = tt

mask_self : (m : Mask) → MaskGrows m m
mask_self Zero = refl
mask_self One = refl
mask_self Hidden = tt

-- a mask that becomes known picks a side of what both agreed on
grows_same : (b : Bool) (c d : Colour) → (b ≡ true → c ≡ d) → (n : Mask) → ImageGrows (cond b (Some c) None) (pair_step n (Some c) (Some d))
unfolding pair_step agree
grows_same false c d h n = tt
grows_same true c d h Zero = refl
grows_same true c d h One = ap Some (sym (h refl))
grows_same true c d h Hidden = rw (← h refl, same_self c)

grows_agree : (low up : Option Colour) (n : Mask) (low' up' : Option Colour) → ImageGrows low low' → ImageGrows up up' → ImageGrows (agree low up) (pair_step n low' up')
unfolding agree
grows_agree (Some c) (Some d) n low' up' p q = rw (p, q) (grows_same (same_colour c d) c d (same_true c d) n)
grows_agree (Some c) None n low' up' p q = tt
grows_agree None up n low' up' p q = tt

grows_step : (m n : Mask) (low up low' up' : Option Colour) → MaskGrows m n → ImageGrows low low' → ImageGrows up up' → ImageGrows (pair_step m low up) (pair_step n low' up')
unfolding pair_step
grows_step Zero n low up low' up' h p q = rw h p
grows_step One n low up low' up' h p q = rw h q
grows_step Hidden n low up low' up' h p q = grows_agree low up n low' up' p q

pub grows : (s t : Stack) (n : ℕ) → ((k : ℕ) → 1 ≤ k → k ≤ n → MaskGrows (s.mask k) (t.mask k)) → ((k : ℕ) → k ≤ n → ImageGrows (s.image k) (t.image k))
    → ImageGrows (decide s n) (decide t n)
unfolding decide
grows s t zero m i = i 0 (omega arith)
grows s t (suc n) m i =
    grows_step (s.mask (suc n)) (t.mask (suc n)) (decide s n) (s.image (suc n)) (decide t n) (t.image (suc n)) (m (suc n) (omega arith) (omega arith))
    (grows s t n (λ k a b. m k a (omega arith)) (λ k a. i k (omega arith)))
    (i (suc n) (omega arith))

-- ---- a layer's samples in two scenes of one stripe

module _ (s : List ℕ) (k y : ℕ) (pl qm : PlaneList) (d e : List ℕ) (g : Stage s pl d k y (scene_of s pl d k)) (fine : AllFine (scene_of s qm e k) qm)
    (again : Reread (scene_of s pl d k) (scene_of s qm e k)) where
  abbrev old : Scene
  old = scene_of s pl d k

  abbrev new : Scene
  new = scene_of s qm e k

  -- a start in the first list has one in the second, and the octets from there are the same
  again_start : (l a : ℕ) → plane_start pl.entries l ≡ Some a
      → (b : ℕ) × (plane_start qm.entries l ≡ Some b) × ((i : ℕ) → i < plane_span (record_of old l) → get_or e (b + i) 0 ≡ get_or d (a + i) 0)
  again_start l a f =
      let n = start_among pl.entries l a f in
      let r = again n.p n.among in
      let q : Plane = r.0 in (
        q.start,
        subst (λ (j : ℕ). plane_start qm.entries j ≡ Some q.start) (r.2 ∙ n.layer) (start_entry new qm fine q r.1),
        λ i h.
            r.3 i (subst (λ (j : ℕ). i < plane_span (record_of old j)) (sym n.layer) h)
            ∙ ap (λ (j : ℕ). get_or d (j + i) 0) n.start,
      )

  mask_read_lem : (l i : ℕ) → i < plane_span (record_of old l) → (z : Option ℕ) → plane_start pl.entries l ≡ z → MaskGrows (mask_read d z i) (mask_read e (plane_start qm.entries l) i)
  unfolding mask_read
  mask_read_lem l i h (Some a) f =
      let r = again_start l a f in
      let same : mask_read e (plane_start qm.entries l) i ≡ bit_of (get_or d (a + i) 0) = ap (λ (x : Option ℕ). mask_read e x i) r.1 ∙ ap bit_of (r.2 i h) in
      subst (MaskGrows (bit_of (get_or d (a + i) 0))) (sym same) (mask_self (bit_of (get_or d (a + i) 0)))
  mask_read_lem l i h None f = tt

  image_read_lem : (l i n : ℕ) → 0 < n → i * n + n ≤ plane_span (record_of old l) → (z : Option ℕ) → plane_start pl.entries l ≡ z
      → ImageGrows (image_read d n z i) (image_read e n (plane_start qm.entries l) i)
  unfolding image_read
  image_read_lem l i n s h (Some a) f =
      let r = again_start l a f in
      let b : ℕ = r.0 in
      ap (λ (x : Option ℕ). image_read e n x i) r.1
      ∙ ap Some
      (colour_own n d e (a + i * n) (b + i * n) s
      (λ j t. ap (λ (m : ℕ). get_or e m 0) (add_assoc b (i * n) j) ∙ r.2 (i * n + j) (omega arith) ∙ ap (λ (m : ℕ). get_or d m 0) (sym (add_assoc a (i * n) j))))
  image_read_lem l i n s h None f = tt

  module _ (x z : MainPos) where
    pub mask_grows : (l : ℕ) → 1 ≤ l → l ≤ old.extent.layers → l % 2 ≡ 0 → MaskGrows (mask_at old l x z) (mask_at new l x z)
    unfolding mask_at layer_record virtual
    mask_grows l a b even =
        let p = (stage_placed g l a b).layer in
        cond_both MaskGrows (coded (record_of old l))
        (λ t.
        cond_both MaskGrows (inside (main_of old) (record_of old l) x z)
        (λ u.
        let i = sample_within (main_of old) (record_of old l) x z u in
        let k = subst (λ (j : ℕ). index_of (main_of old) (record_of old l) x z * j + j ≤ plane_span (record_of old l)) (depth_mask (record_of old l) (ap (λ (n : ℕ). n % 2) p ∙ even)) i in
        mask_read_lem l (index_of (main_of old) (record_of old l) x z) (omega arith) (plane_start pl.entries l) refl)
        (λ u. refl))
        (λ t. mask_self (virtual old l))

    pub image_grows : (l : ℕ) → 1 ≤ l → l ≤ old.extent.layers → l % 2 ≡ 1 → ImageGrows (image_at old l x z) (image_at new l x z)
    unfolding image_at layer_record
    image_grows l a b odd =
        let p = (stage_placed g l a b).layer in
        cond_both ImageGrows (coded (record_of old l) && inside (main_of old) (record_of old l) x z)
        (λ t.
        let u = ((says_and (says_true (coded (record_of old l))) (says_true (inside (main_of old) (record_of old l) x z))).told t).1 in
        image_read_lem l (index_of (main_of old) (record_of old l) x z) (depth (record_of old l)) (depth_some (record_of old l)) (sample_within (main_of old) (record_of old l) x z u) (plane_start pl.entries l) refl)
        (λ t. refl)

    pixel_grows : ImageGrows (pixel_at old x z) (pixel_at new x z)
    unfolding pixel_at
    pixel_grows =
        let c = stage_layers g in
        grows (stack_at old x z) (stack_at new x z) (pairs_of old)
        (λ j a b. mask_grows (j * 2) (omega arith) (omega arith) (omega arith))
        (λ j a. image_grows (j * 2 + 1) (omega arith) (omega arith) (omega arith))

-- ---- when what was read is read again, and when all is read

-- more samples behind the same, and entries that stand in the second list too
pub reread_more : (v w : Scene) (more : List ℕ) → w.samples ≡ v.samples ++ more
    → ((p : Plane) → Memᴰ p v.planes → Memᴰ p w.planes × (p.start + plane_span (record_of v p.layer) ≤ length v.samples)) → Reread v w
reread_more v w more e all p m = (
  p,
  (all p m).0,
  refl,
  λ i h. let k = (all p m).1 in ap (λ (l : List ℕ). get_or l (p.start + i) 0) e ∙ get_or-append v.samples more 0 (p.start + i) (omega arith),
)

-- an entry for each layer
pub all_listed : (v : Scene) → ((l : ℕ) → 1 ≤ l → l ≤ v.extent.layers → (p : Plane) × Memᴰ p v.planes × (p.layer ≡ l)) → AllRead v
all_listed v each l a b c = each l a b

-- ---- the fourth octet

marked_known : (u : Colour) (p : Option Colour) → get_or (four_of u p) 3 0 ≡ 1 → (c : Colour) × (p ≡ Some c)
unfolding four_of
marked_known u (Some c) e = (c, refl)
marked_known u None e = clash e

known_marked : (u : Colour) (p : Option Colour) (c : Colour) → p ≡ Some c → get_or (four_of u p) 3 0 ≡ 1
known_marked u p c e = ap (λ (l : List ℕ). get_or l 3 0) (known_four u p c e)

-- ---- what is marked seen stays, whatever more is read and whatever the unseen colours are

pub more_stays : (s : List ℕ) (pl qm : PlaneList) (d e : List ℕ) (k y : ℕ) (u u' : Colour) (out put : List ℕ) (n m : ℕ)
    → line_of s pl d k y (length out) ≡ Ok n → line_of s qm e k y (length put) ≡ Ok m → Reread (scene_of s pl d k) (scene_of s qm e k)
    → (x : ℕ) → x < width_of (scene_of s pl d k) → get_or (four_at (line_into s pl d k y u out) x) 3 0 ≡ 1
    → four_at (line_into s qm e k y u' put) x ≡ four_at (line_into s pl d k y u out) x
unfolding layer_record
more_stays s pl qm d e k y u u' out put n m a b again x h t =
    let old : Scene = scene_of s pl d k in
    let new : Scene = scene_of s qm e k in
    let f = done_four s pl d k y u out n a x h in
    let g = done_four s qm e k y u' put m b x h in
    let c = marked_known u (pixel_at old (at x) (at y)) (sym (ap (λ (l : List ℕ). get_or l 3 0) f) ∙ t) in
    let st = shows_stage s pl d k y old (done_line s pl d k y u out n a).ruling in
    let r : ImageGrows (pixel_at old (at x) (at y)) (pixel_at new (at x) (at y)) = pixel_grows s k y pl qm d e st (done_line s qm e k y u' put m b).listed again (at x) (at y) in
    let z : pixel_at new (at x) (at y) ≡ Some c.0 = subst (λ (p : Option Colour). ImageGrows p (pixel_at new (at x) (at y))) c.1 r in
    g ∙ known_four u' (pixel_at new (at x) (at y)) c.0 z ∙ sym (f ∙ known_four u (pixel_at old (at x) (at y)) c.0 c.1)

-- ---- with every coded layer read, every pixel is seen

abbrev IsKnown : Option Colour → Type 0
IsKnown (Some c) = Unit
IsKnown None = ⊥

abbrev IsBit : Mask → Type 0
IsBit Zero = Unit
IsBit One = Unit
IsBit Hidden = ⊥

known_step : (m : Mask) (low up : Option Colour) → IsBit m → IsKnown low → IsKnown up → IsKnown (pair_step m low up)
unfolding pair_step
known_step Zero low up b p q = p
known_step One low up b p q = q
known_step Hidden low up b p q = absurd b

known_all : (s : Stack) (n : ℕ) → ((k : ℕ) → 1 ≤ k → k ≤ n → IsBit (s.mask k)) → ((k : ℕ) → k ≤ n → IsKnown (s.image k)) → IsKnown (decide s n)
unfolding decide
known_all s zero m i = i 0 (omega arith)
known_all s (suc n) m i =
    known_step (s.mask (suc n)) (decide s n) (s.image (suc n)) (m (suc n) (omega arith) (omega arith))
    (known_all s n (λ k a b. m k a (omega arith)) (λ k a. i k (omega arith)))
    (i (suc n) (omega arith))

module _ (v : Scene) (all : AllRead v) (x z : MainPos) where
  read_start : (l : ℕ) → 1 ≤ l → l ≤ v.extent.layers → coded (record_of v l) ≡ true → (a : ℕ) × (plane_start v.planes l ≡ Some a)
  read_start l a b t =
      let p = all l a b ((says_not (says_eq (record_of v l).len 0)).told t) in
      subst (λ (j : ℕ). (c : ℕ) × (plane_start v.planes j ≡ Some c)) p.2 (start_some v.planes p.0 p.1)

  bit_is : (n : ℕ) → IsBit (bit_of n)
  unfolding bit_of
  bit_is n = cond_with IsBit (eqb n 0) (λ t. tt) (λ t. tt)

  virtual_is : (l : ℕ) → IsBit (virtual v l)
  unfolding virtual
  virtual_is l = cond_with IsBit (eqb l 2 && coded (record_of v 3)) (λ t. tt) (λ t. tt)

  mask_known : (l : ℕ) → 1 ≤ l → l ≤ v.extent.layers → IsBit (mask_at v l x z)
  unfolding mask_at mask_read
  mask_known l a b =
      cond_with IsBit (coded (record_of v l))
      (λ t.
      cond_with IsBit (inside (main_of v) (record_of v l) x z)
      (λ u.
      let r = read_start l a b t in
      let i : ℕ = index_of (main_of v) (record_of v l) x z in
      subst (λ (q : Option ℕ). IsBit (mask_read v.samples q i)) (sym r.1) (bit_is (get_or v.samples (r.0 + i) 0)))
      (λ u. tt))
      (λ t. virtual_is l)

  image_known : (l : ℕ) → 1 ≤ l → l ≤ v.extent.layers → IsKnown (image_at v l x z)
  unfolding image_at image_read
  image_known l a b =
      cond_with IsKnown (coded (record_of v l) && inside (main_of v) (record_of v l) x z)
      (λ t.
      let u = ((says_and (says_true (coded (record_of v l))) (says_true (inside (main_of v) (record_of v l) x z))).told t).0 in
      let r = read_start l a b u in
      subst (λ (q : Option ℕ). IsKnown (image_read v.samples (depth (record_of v l)) q (index_of (main_of v) (record_of v l) x z))) (sym r.1) tt)
      (λ t. tt)

  pixel_known : v.extent.layers % 2 ≡ 1 → 3 ≤ v.extent.layers → IsKnown (pixel_at v x z)
  unfolding pixel_at
  pixel_known odd some =
      known_all (stack_at v x z) (pairs_of v) (λ j a b. mask_known (j * 2) (omega arith) (omega arith)) (λ j a. image_known (j * 2 + 1) (omega arith) (omega arith))

known_is : (p : Option Colour) → IsKnown p → (c : Colour) × (p ≡ Some c)
known_is (Some c) k = (c, refl)
known_is None k = absurd k

pub all_seen : (s : List ℕ) (pl : PlaneList) (d : List ℕ) (k y : ℕ) (u : Colour) (out : List ℕ) (n : ℕ) → line_of s pl d k y (length out) ≡ Ok n → AllRead (scene_of s pl d k)
    → (x : ℕ) → x < width_of (scene_of s pl d k) → get_or (four_at (line_into s pl d k y u out) x) 3 0 ≡ 1
all_seen s pl d k y u out n a all x h =
    let v : Scene = scene_of s pl d k in
    let c = stage_layers (shows_stage s pl d k y v (done_line s pl d k y u out n a).ruling) in
    let p = known_is (pixel_at v (at x) (at y)) (pixel_known v all (at x) (at y) c.0 c.1) in
    ap (λ (l : List ℕ). get_or l 3 0) (done_four s pl d k y u out n a x h) ∙ known_marked u (pixel_at v (at x) (at y)) p.0 p.1
