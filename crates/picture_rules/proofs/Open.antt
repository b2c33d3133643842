-- What a line call marks unseen is open, told by calls alone: there are two ways of reading all layers of the stripe, both agreeing with what was read,
-- of which one shows the pixel in one colour and the other in another; and where there are, it is marked unseen. The one direction writes out two
-- contents that differ there (Filled.antt), the other is `more_stays`.
--
--   ReadWhole     such a way: a list and samples that the same call takes
--   Open          two of them that differ at a pixel
-- Assumes nothing.
use Prim.Native.Nat.{ℕ, zero, suc, ◌+◌, ◌*◌, ◌%◌, ◌≤◌, ◌<◌}
use native.Mathlib.Nat.{add-zero}
use native.Mathlib.Omega.{arith}
use mathlib.Core.Path.{◌≡◌, refl, sym, ap, ap₂, ◌∙◌}
use mathlib.Core.Logic.{◌↔◌, ◌⊎◌, inl, inr}
use mathlib.Core.Bool.{Bool, true, false, cond, ◌&&◌}
use mathlib.Core.List.{List}
use lib.ListN.{length, get_or}
use lib.Dec.{eqb}
use Rattle.laws.proofs.Cases.{cond_with, cond_both, clash}
use Rattle.laws.proofs.Says.{says_and, says_true, says_not, says_eq}
use Rattle.octets.specs.Octets.{Octets}
use Rattle.sheet_rules.specs.declared.Colour.{Colour}
use Rattle.sheet_rules.specs.declared.Record.{Record}
use Rattle.sheet_rules.specs.StripeTable.{layer_record}
use Rattle.sheet_rules.specs.Judge.{coded}
use Rattle.sheet_rules.specs.Sentences.{Coded}
use Rattle.pixel_rules.specs.declared.MainPos.{MainPos}
use Rattle.std.specs.Prelude.{Option, Some, None, Ok}
use Rattle.pixel_rules.specs.declared.Mask.{Mask}
use Rattle.pixel_rules.specs.declared.Mask.TheVariants.{Zero, One, Hidden}
use Rattle.pixel_rules.specs.Place.{inside, along_of, down_of}
use Rattle.pixel_rules.specs.Planes.{PlaneList, whole_list, plane_start}
use Rattle.pixel_rules.specs.Samples.{Scene, record_of, main_of, width_of, pairs_of, depth, index_of, bit_of, virtual, colour_in, grey_of, mask_read, image_read, mask_at, image_at}
use Rattle.pixel_rules.specs.Decide.{pair_step, Stack, decide, stack_at, pixel_at}
use Rattle.pixel_rules.specs.Content.{Content, CanHold, shade, three, Possible, mask_with, image_with, mask_under, image_under, colour_from, colour_under}
use Rattle.pixel_rules.proofs.Division.{depth_mask, depth_grey, depth_colour}
use Rattle.pixel_rules.proofs.Seen.{unseen_unknown, differ_unknown}
use Rattle.picture_rules.specs.Line.{line_of, line_into}
use Rattle.picture_rules.specs.Sentences.{scene_of, AllFine, lined}
use Rattle.picture_rules.specs.Demand.{four_at, seen_in, unseen_in, at, Reread, AllRead}
use Rattle.picture_rules.proofs.Scenes.{Stage, shows_stage, stage_layers, stage_placed}
use Rattle.picture_rules.proofs.Fours.{four_known, known_four}
use Rattle.picture_rules.proofs.Demand3.{mark_unseen, done_line, done_four, demand_3}
use Rattle.picture_rules.proofs.Exactly.{line_exactly}
use Rattle.picture_rules.proofs.More.{MaskGrows, ImageGrows, mask_grows, image_grows, more_stays}
use Rattle.picture_rules.proofs.Filled.{octet_in, bit_octet, value_mask, value_image, behind, filled_list, filled_samples, filled, unread_start, unread_octet}
use Rattle.picture_rules.proofs.Filled.{filled_octets, filled_fine, filled_all, filled_again}

-- ---- the statement

-- the call for the same line with another list and other samples, octets if those lent are: all coded layers of the stripe are read, and what was read
-- is read again
pub record ReadWhole (s : List ℕ) (pl : PlaneList) (d : List ℕ) (k y room n : ℕ) : Type 0 where
  pub list : PlaneList
  pub samples : List ℕ
  pub octets : Octets d → Octets samples
  pub done : line_of s list samples k y room ≡ Ok n
  pub again : Reread (scene_of s pl d k) (scene_of s list samples k)
  pub all : AllRead (scene_of s list samples k)

-- pixel x of the line is seen by both calls, in two colours
pub record Open (s : List ℕ) (pl : PlaneList) (d : List ℕ) (k y : ℕ) (u : Colour) (out : List ℕ) (n x : ℕ) : Type 0 where
  pub one : ReadWhole s pl d k y (length out) n
  pub other : ReadWhole s pl d k y (length out) n
  pub one_colour : Colour
  pub other_colour : Colour
  pub one_shown : four_at (line_into s one.list one.samples k y u out) x ≡ seen_in one_colour
  pub other_shown : four_at (line_into s other.list other.samples k y u out) x ≡ seen_in other_colour
  pub apart : one_colour ≡ other_colour → ⊥

-- ---- a pixel all of whose samples are known

abbrev bit_mask : Bool → Mask
bit_mask true = One
bit_mask false = Zero

pair_known : (b : Bool) (low up : Colour) → pair_step (bit_mask b) (Some low) (Some up) ≡ Some (cond b up low)
unfolding pair_step
pair_known true low up = refl
pair_known false low up = refl

decide_known : (t : Stack) (mask : ℕ → Bool) (image : ℕ → Colour) (n : ℕ) → ((k : ℕ) → 1 ≤ k → k ≤ n → t.mask k ≡ bit_mask (mask (k * 2)))
    → ((k : ℕ) → k ≤ n → t.image k ≡ Some (image (k * 2 + 1))) → decide t n ≡ Some (colour_from mask image n)
unfolding decide colour_from
decide_known t mask image zero m i = i 0 (omega arith)
decide_known t mask image (suc n) m i =
    ap (λ (b : Mask). pair_step b (decide t n) (t.image (suc n))) (m (suc n) (omega arith) (omega arith))
    ∙ ap₂ (λ (low up : Option Colour). pair_step (bit_mask (mask (suc n * 2))) low up)
    (decide_known t mask image n (λ k a b. m k a (omega arith)) (λ k a. i k (omega arith)))
    (i (suc n) (omega arith))
    ∙ pair_known (mask (suc n * 2)) (colour_from mask image n) (image (suc n * 2 + 1))

-- what was known stays, and what was not is as the content says
mask_filled : (m t : Mask) (b : Bool) → MaskGrows m t → (m ≡ Hidden → t ≡ bit_mask b) → t ≡ bit_mask (mask_with m b)
mask_filled Zero t b g h = g
mask_filled One t b g h = g
mask_filled Hidden t b g h = h refl

image_filled : (p t : Option Colour) (c : Colour) → ImageGrows p t → (p ≡ None → t ≡ Some c) → t ≡ Some (image_with p c)
image_filled (Some a) t c g h = g
image_filled None t c g h = h refl

-- ---- the octets of a content are read as its values

bit_read : (b : Bool) → bit_of (bit_octet b) ≡ bit_mask b
unfolding bit_of bit_octet
bit_read true = refl
bit_read false = refl

bit_seen : (n : ℕ) → bit_of n ≡ Hidden → ⊥
unfolding bit_of
bit_seen n = cond_with (λ (m : Mask). m ≡ Hidden → ⊥) (eqb n 0) (λ t e. clash cc) (λ t e. clash cc)

virtual_seen : (v : Scene) (l : ℕ) → virtual v l ≡ Hidden → ⊥
unfolding virtual
virtual_seen v l = cond_with (λ (m : Mask). m ≡ Hidden → ⊥) (eqb l 2 && coded (record_of v 3)) (λ t e. clash cc) (λ t e. clash cc)

module _ (d : List ℕ) (p : ℕ) (c : Colour) where
  three_read : (n : ℕ) → n ≡ 3 → ((j : ℕ) → j < n → get_or d (p + j) 0 ≡ octet_in c j) → colour_in n d p ≡ c
  unfolding colour_in octet_in
  three_read n e f =
      let zero_th : get_or d p 0 ≡ c.c0 = ap (λ (i : ℕ). get_or d i 0) (sym (add-zero p)) ∙ f 0 (omega arith) in
      let one = f 1 (omega arith) in
      let two = f 2 (omega arith) in
      ap (λ (m : ℕ). colour_in m d p) e ∙ (λ i. record { c0 = zero_th i; c1 = one i; c2 = two i })

  shade_read : (n : ℕ) → n ≡ 1 → get_or d (p + 0) 0 ≡ c.c0 → colour_in n d p ≡ grey_of c.c0
  unfolding colour_in
  shade_read n e f = ap (λ (m : ℕ). colour_in m d p) e ∙ ap grey_of (ap (λ (i : ℕ). get_or d i 0) (sym (add-zero p)) ∙ f)

held_read : (r : Record) (c : Colour) → CanHold r c → r.layer % 2 ≡ 1 → (d : List ℕ) (p : ℕ) → ((j : ℕ) → j < depth r → get_or d (p + j) 0 ≡ octet_in c j)
    → colour_in (depth r) d p ≡ c
unfolding octet_in
held_read r c (shade {v = n} g h) odd d p f =
    let e = depth_grey r g in
    shade_read d p (grey_of n) (depth r) e (f 0 (omega arith))
held_read r c (three g h) odd d p f = three_read d p c (depth r) (depth_colour r odd g) f

-- ---- a stripe that is read whole, as a content says, shows what is seen under the content

module _ (s : List ℕ) (pl : PlaneList) (d : List ℕ) (k y : ℕ) (g : Stage s pl d k y (scene_of s pl d k))
    (fine : AllFine (scene_of s pl d k) (whole_list pl.entries)) (w : Content) (can : Possible (scene_of s pl d k) w) (x z : MainPos) where
  abbrev old : Scene
  old = scene_of s pl d k

  abbrev new : Scene
  new = filled old w

  module _ (l : ℕ) (least : 1 ≤ l) (most : l ≤ old.extent.layers) where
    abbrev r : Record
    r = record_of old l

    abbrev index : ℕ
    index = index_of (main_of old) r x z

    hidden_read : l % 2 ≡ 0 → Coded r → inside (main_of old) r x z ≡ true → (q : Option ℕ) → plane_start pl.entries l ≡ q → mask_read d q index ≡ Hidden
        → mask_read new.samples (plane_start new.planes l) index ≡ bit_mask (w.bit l (along_of (main_of old) r x) (down_of (main_of old) r z))
    unfolding mask_read
    hidden_read even c u (Some a) e h = absurd (bit_seen (get_or d (a + index) 0) h)
    hidden_read even c u None e h =
        let b : Bool = w.bit l (along_of (main_of old) r x) (down_of (main_of old) r z) in
        let one : depth r ≡ 1 = depth_mask r (ap (λ (n : ℕ). n % 2) (stage_placed g l least most).layer ∙ even) in
        let here : behind old w l + index ≡ behind old w l + index * 1 + 0 = omega arith in
        let octet : get_or new.samples (behind old w l + index) 0 ≡ bit_octet b =
        ap (λ (i : ℕ). get_or new.samples i 0) (here ∙ ap (λ (n : ℕ). behind old w l + index * n + 0) (sym one))
        ∙ unread_octet old w fine l least most c e x z u 0 (omega arith)
        ∙ value_mask w l (along_of (main_of old) r x) (down_of (main_of old) r z) 0 even in
        ap (λ (q : Option ℕ). mask_read new.samples q index) (unread_start old w fine l least most c e) ∙ ap bit_of octet ∙ bit_read b

    mask_new : l % 2 ≡ 0 → mask_at new l x z ≡ bit_mask (mask_under old w l x z)
    unfolding mask_at layer_record virtual
    mask_new even =
        let b : Bool = w.bit l (along_of (main_of old) r x) (down_of (main_of old) r z) in
        mask_filled (mask_at old l x z) (mask_at new l x z) b
        (mask_grows s k y pl (filled_list old w) d (filled_samples old w) g (filled_fine old w fine) (filled_again old w fine) x z l least most even)
        (cond_both (λ (m t : Mask). m ≡ Hidden → t ≡ bit_mask b) (coded r)
        (λ c.
        cond_both (λ (m t : Mask). m ≡ Hidden → t ≡ bit_mask b) (inside (main_of old) r x z)
        (λ u. hidden_read even ((says_not (says_eq r.len 0)).told c) u (plane_start pl.entries l) refl)
        (λ u e. clash cc))
        (λ c e. absurd (virtual_seen old l e)))

    unknown_read : l % 2 ≡ 1 → Coded r → inside (main_of old) r x z ≡ true → (q : Option ℕ) → plane_start pl.entries l ≡ q
        → image_read d (depth r) q index ≡ None
        → image_read new.samples (depth r) (plane_start new.planes l) index
        ≡ Some (w.colour l (along_of (main_of old) r x) (down_of (main_of old) r z))
    unfolding image_read
    unknown_read odd c u (Some a) e h = clash cc
    unknown_read odd c u None e h =
        let p = along_of (main_of old) r x in
        let q = down_of (main_of old) r z in
        ap (λ (b : Option ℕ). image_read new.samples (depth r) b index) (unread_start old w fine l least most c e)
        ∙ ap Some
        (held_read r (w.colour l p q) (can l p q) (ap (λ (n : ℕ). n % 2) (stage_placed g l least most).layer ∙ odd) new.samples
        (behind old w l + index * depth r)
        (λ j t. unread_octet old w fine l least most c e x z u j t ∙ value_image w l p q j odd))

    image_new : l % 2 ≡ 1 → image_at new l x z ≡ Some (image_under old w l x z)
    unfolding image_at layer_record
    image_new odd =
        let c : Colour = w.colour l (along_of (main_of old) r x) (down_of (main_of old) r z) in
        image_filled (image_at old l x z) (image_at new l x z) c
        (image_grows s k y pl (filled_list old w) d (filled_samples old w) g (filled_fine old w fine) (filled_again old w fine) x z l least most odd)
        (cond_both (λ (p t : Option Colour). p ≡ None → t ≡ Some c) (coded r && inside (main_of old) r x z)
        (λ t.
        let a = (says_and (says_true (coded r)) (says_true (inside (main_of old) r x z))).told t in
        unknown_read odd ((says_not (says_eq r.len 0)).told a.0) a.1 (plane_start pl.entries l) refl)
        (λ t e. clash cc))

  pixel_new : pixel_at new x z ≡ Some (colour_under old w x z)
  unfolding pixel_at colour_under
  pixel_new =
      let c = stage_layers g in
      decide_known (stack_at new x z) (λ l. mask_under old w l x z) (λ l. image_under old w l x z) (pairs_of old)
      (λ j a b. mask_new (j * 2) (omega arith) (omega arith) (omega arith))
      (λ j a. image_new (j * 2 + 1) (omega arith) (omega arith) (omega arith))

-- ---- the theorem

seen_once : (u c c' : Colour) → seen_in c ≡ seen_in c' → c ≡ c'
seen_once u c c' e = let k = four_known u (Some c) c' (known_four u (Some c) c refl ∙ e) in cc

module _ (s : List ℕ) (pl : PlaneList) (d : List ℕ) (k y : ℕ) (u : Colour) (out : List ℕ) (n : ℕ) (q : line_of s pl d k y (length out) ≡ Ok n) (x : ℕ)
    (h : x < width_of (scene_of s pl d k)) where
  abbrev v : Scene
  v = scene_of s pl d k

  module _ (w : Content) (can : Possible v w) where
    entries_fine : AllFine v (whole_list pl.entries)
    entries_fine = record { entries = (done_line s pl d k y u out n q).listed.entries; whole = refl }

    whole : ReadWhole s pl d k y (length out) n
    whole =
        let b = done_line s pl d k y u out n q in
        record {
          list = filled_list v w;
          samples = filled_samples v w;
          octets = filled_octets v w can;
          done =
              (line_exactly s (filled_list v w) (filled_samples v w) k y (length out) (Ok n)).1
              (lined b.accepted b.line (filled_fine v w entries_fine) b.size b.room);
          again = filled_again v w entries_fine;
          all = filled_all v w entries_fine;
        }

    whole_shown : four_at (line_into s whole.list whole.samples k y u out) x ≡ seen_in (colour_under v w (at x) (at y))
    unfolding whole
    whole_shown =
        let g = shows_stage s pl d k y v (done_line s pl d k y u out n q).ruling in
        done_four s (filled_list v w) (filled_samples v w) k y u out n whole.done x h
        ∙ known_four u (pixel_at (filled v w) (at x) (at y)) (colour_under v w (at x) (at y)) (pixel_new s pl d k y g entries_fine w can (at x) (at y))

  opens : get_or (four_at (line_into s pl d k y u out) x) 3 0 ≡ 0 → Open s pl d k y u out n x
  opens m =
      let t = (differ_unknown v (at x) (at y)).0 ((unseen_unknown v (at x) (at y)).1 ((mark_unseen ((demand_3 s pl d k y u out n q).pixels x h)).0 m)) in
      record {
        one = whole t.one t.one_can;
        other = whole t.other t.other_can;
        one_colour = colour_under v t.one (at x) (at y);
        other_colour = colour_under v t.other (at x) (at y);
        one_shown = whole_shown t.one t.one_can;
        other_shown = whole_shown t.other t.other_can;
        apart = t.apart;
      }

  open_unseen : Open s pl d k y u out n x → get_or (four_at (line_into s pl d k y u out) x) 3 0 ≡ 0
  open_unseen o = by ((demand_3 s pl d k y u out n q).pixels x h).either
    where
      stays : (c : Colour) → four_at (line_into s pl d k y u out) x ≡ seen_in c → (b : ReadWhole s pl d k y (length out) n)
          → four_at (line_into s b.list b.samples k y u out) x ≡ seen_in c
      stays c e b = more_stays s pl b.list d b.samples k y u u out out n n q b.done b.again x h (ap (λ (l : List ℕ). get_or l 3 0) e) ∙ e

      by : ((c : Colour) × (four_at (line_into s pl d k y u out) x ≡ seen_in c)) ⊎ (four_at (line_into s pl d k y u out) x ≡ unseen_in u)
          → get_or (four_at (line_into s pl d k y u out) x) 3 0 ≡ 0
      by (inl c) =
          absurd
          (o.apart
          (seen_once u o.one_colour o.other_colour
          (sym o.one_shown ∙ stays c.0 c.1 o.one ∙ sym (stays c.0 c.1 o.other) ∙ o.other_shown)))
      by (inr e) = ap (λ (l : List ℕ). get_or l 3 0) e

  pub unseen_open : get_or (four_at (line_into s pl d k y u out) x) 3 0 ≡ 0 ↔ Open s pl d k y u out n x
  unseen_open = (opens, open_unseen)
