-- The page that is written: of the grammar, in the writer's form, with the records and the data that were lent.
-- Assumes nothing.
use Prim.Native.Nat.{ℕ, zero, suc, ◌+◌, ◌*◌, ◌/◌}
use native.Mathlib.Omega.{arith}
use mathlib.Core.Path.{◌≡◌, refl, sym, ap, subst, ◌∙◌}
use mathlib.Core.Logic.{inl, inr, ⊎_elim}
use mathlib.Core.List.Memᴰ
use mathlib.Core.List.{List, [], ◌∷◌, ◌++◌, map}
use lib.ListN.{length, drop, length-append}
use Rattle.octets.specs.Octets.{Octets, octets16, octets32}
use Rattle.octets.proofs.Laws.{drop_next, be16_bound, be32_bound, octets_append}
use Rattle.octets.specs.Entries.{entries_from}
use Rattle.laws.proofs.Cases.{clash}
use Rattle.sheet_rules.specs.declared.Record.{Record}
use Rattle.segment_rules.specs.declared.Rules.{Rules}
use Rattle.sheet_rules.specs.Record.{record_size, record_at, records_from, records, nth, sum_of}
use Rattle.sheet_rules.specs.Sentences.{Among, CoderOf, Sheet}
use Rattle.segment_rules.specs.declared.Mode.{Mode}
use Rattle.segment_rules.specs.declared.Mode.TheVariants.{One}
use Rattle.start_rules.specs.declared.Head.{Head}
use Rattle.start_rules.specs.Grammar.{start_of, MaskCoder, ImageCoder, GoodHead}
use Rattle.body_rules.specs.Body.{no_more}
use Rattle.start_rules.proofs.Start.{length_start}
use Rattle.write_rules.specs.declared.Tally.{Tally}
use Rattle.write_rules.specs.Layer.{layer_octets}
use Rattle.write_rules.specs.Writing.{begun, head_by, stripes_by, page_by}
use Rattle.write_rules.specs.Form.{bare, UsedMask, UsedImage, Formed}
use Rattle.write_rules.proofs.Agreed.{length_data}
use Rattle.write_rules.proofs.Passed.{Passed, size_in}
use Rattle.write_rules.specs.Cut.{stripes_of}
use Rattle.write_rules.specs.Sentences.{Low, sheet_main, start_size, page_end}
use Rattle.write_rules.proofs.Cut.{cut_joined, Lots, sheet_cut, second_of}
use Rattle.write_rules.proofs.Ready.{Sized, Under, Ready}
use Rattle.write_rules.proofs.Small.{end_octets, start_octets}
use Rattle.write_rules.proofs.Lands.{moved_of, stripes_land, moved_same, moved_data, length_stripes, stripes_octets}

-- ---- the numbers of a sheet's records are small

at_sized : (s : List ℕ) → Octets s → (i : ℕ) → Sized (record_at s i)
unfolding record_at
at_sized s o i =
    let x = be16_bound s (i * record_size + 4) o in
    let y = be16_bound s (i * record_size + 6) o in
    record {
      base = (o (i * record_size + 14), o (i * record_size + 15), o (i * record_size + 16));
      offset = (omega arith, omega arith);
      len = be32_bound s (i * record_size + 22) o;
    }

from_sized : (s : List ℕ) → Octets s → (k i : ℕ) (r : Record) → Among r (records_from s k i) → Sized r
unfolding entries_from
from_sized s o zero i r m = absurd (Memᴰ.not-nil m)
from_sized s o (suc k) i r m = ⊎_elim (λ (e : r ≡ record_at s i). subst Sized (sym e) (at_sized s o i)) (λ m2. from_sized s o k (i + 1) r m2) (Memᴰ.cases_cons m)

pub records_sized : (s : List ℕ) → Octets s → (r : Record) → Among r (records s) → Sized r
unfolding records
records_sized s o r m = from_sized s o (length s / record_size) 0 r m

-- ---- records that are the same but for their starts

pub same_among : (qs rs : List Record) → map bare qs ≡ map bare rs → (r : Record) → Among r rs → (q : Record) × Among q qs × (bare q ≡ bare r)
same_among [] [] e r m = absurd (Memᴰ.not-nil m)
same_among [] (x ∷ rs) e r m = clash cc
same_among (y ∷ qs) [] e r m = clash cc
same_among (y ∷ qs) (x ∷ rs) e r m =
    let f : bare y ≡ bare x = cc in
    let g : map bare qs ≡ map bare rs = cc in
    ⊎_elim (λ (z : r ≡ x). (y, Memᴰ.head refl, f ∙ ap bare (sym z)))
    (λ m2. let k = same_among qs rs g r m2 in (k.0, Memᴰ.tail k.1, k.2))
    (Memᴰ.cases_cons m)

bare_layer : (q r : Record) → bare q ≡ bare r → (q.layer ≡ r.layer) × (q.len ≡ r.len)
unfolding bare
bare_layer q r e = (ap (λ (x : Record). x.layer) e, ap (λ (x : Record). x.len) e)

used_mask_same : (qs rs : List Record) → map bare qs ≡ map bare rs → UsedMask rs → UsedMask qs
used_mask_same qs rs e w =
    let k = same_among qs rs e w.it w.among in
    let b = bare_layer k.0 w.it k.2 in
    record { it = k.0; among = k.1; mask = b.0 ∙ w.mask; coded = λ z. w.coded (sym b.1 ∙ z) }

used_image_same : (qs rs : List Record) → map bare qs ≡ map bare rs → UsedImage rs → UsedImage qs
used_image_same qs rs e w =
    let k = same_among qs rs e w.it w.among in
    let b = bare_layer k.0 w.it k.2 in
    record { it = k.0; among = k.1; image = λ z. w.image (sym b.0 ∙ z); coded = λ z. w.coded (sym b.1 ∙ z) }

-- ---- the start of page

mask_coder_lem : (m : Mode) (layer coder : ℕ) → CoderOf layer coder → MaskCoder m coder
mask_coder_lem One layer coder (inl e) = inr (inl e)
mask_coder_lem One layer coder (inr (f, inl e)) = inr (inr (inl e))
mask_coder_lem One layer coder (inr (f, inr (inl e))) = inr (inr (inr (inl e)))
mask_coder_lem One layer coder (inr (f, inr (inr e))) = inr (inr (inr (inr e)))

-- a coder octet may be 0 or the coder that is used
no_mask : (m : Mode) (c : ℕ) → c ≡ 0 → MaskCoder m c
no_mask One c e = inl e

no_image : (m : Mode) (c : ℕ) → c ≡ 0 → ImageCoder m c
no_image One c e = inl e

one_image : (m : Mode) (c : ℕ) → c ≡ 1 → ImageCoder m c
one_image One c e = inr e

module _ (rules : Rules) (d : List ℕ) (o : Octets d) (rs : List Record) (u : Tally) (sh : Sheet rs) (low : Low rules.mode rs) (sized : (r : Record) → Among r rs → Sized r)
    (p : Passed rules.mode d (sheet_main rs) begun u rs) where
  abbrev hd : Head
  hd = head_by rules rs u

  under : Under rules.mode hd rs
  under = record { named = refl; sheet = sh; low = low; main = refl; width = refl }

  lots : Lots rs 0 65535 (stripes_of rs)
  lots = sheet_cut rs sh

  pub long : (r : Record) → Among r rs → length (layer_octets d r) ≡ r.len
  long r m = length_data d o r (p.inside r m)

  ready : Ready d hd rs
  ready = record { sized = sized; long = long; layer = p.layer; mask = p.mask; image = p.image }

  good_head : GoodHead hd
  good_head =
      let two = second_of rs sh in
      record {
        mask =
            ⊎_elim (λ (e : u.mask ≡ 0). no_mask rules.mode u.mask e)
            (λ (w : UsedMask rs).
            subst (MaskCoder rules.mode) (sym (p.mask w.it w.among w.coded w.mask))
            (mask_coder_lem rules.mode w.it.layer w.it.coder (sh.unbroken.coder w.it w.among w.coded)))
            p.mask_used;
        image =
            ⊎_elim (λ (e : u.image ≡ 0). no_image rules.mode u.image e)
            (λ (w : UsedImage rs). one_image rules.mode u.image (p.image w.it w.among w.coded w.image)) p.image_used;
        main = sh.unbroken.listed (nth rs 1) two.0;
        width = sh.unbroken.wide (nth rs 1) two.0 two.1;
      }

  pub written_same : map bare (moved_of rules.mode d rs) ≡ map bare rs
  written_same = moved_same rules.mode d hd rs under lots start_size ∙ ap (map bare) (cut_joined rs)

  -- every page that is written has the writer's form
  pub written_formed : Formed (page_by rules d rs u) (moved_of rules.mode d rs)
  unfolding page_by stripes_by start_of octets16 octets32
  written_formed =
      let l = stripes_land rules.mode d hd rs under lots start_size ready in
      record {
        page =
            record {
              head = head_by rules rs u;
              optionals = [];
              stripes = stripes_by rules.mode d rs;
              zeros = 0;
              octets = refl;
              good = good_head;
              optional = no_more;
              striped = l.striped;
            };
        mask = λ nz. used_mask_same (moved_of rules.mode d rs) rs written_same (⊎_elim (λ (e : u.mask ≡ 0). absurd (nz e)) (λ (w : UsedMask rs). w) p.mask_used);
        image = λ nz. used_image_same (moved_of rules.mode d rs) rs written_same (⊎_elim (λ (e : u.image ≡ 0). absurd (nz e)) (λ (w : UsedImage rs). w) p.image_used);
        offsets = l.trim;
        optionals = refl;
        padding = refl;
      }

  -- the layers' octets are those that were lent
  pub written_layers : map (layer_octets (page_by rules d rs u)) (moved_of rules.mode d rs) ≡ map (layer_octets d) rs
  unfolding page_by stripes_by
  written_layers =
      let e = drop_next (page_by rules d rs u) (start_of hd) (stripes_by rules.mode d rs ++ page_end) 0 refl in
      let n : 0 + length (start_of hd) ≡ start_size = let l = length_start hd in omega arith in
      moved_data rules.mode d hd rs under long lots (page_by rules d rs u) page_end start_size (ap (λ (j : ℕ). drop j (page_by rules d rs u)) (sym n) ∙ e)
      ∙ ap (map (layer_octets d)) (cut_joined rs)

  pub length_written : length (page_by rules d rs u) ≡ u.size
  unfolding page_by stripes_by
  length_written =
      let a = length_start hd in
      let b = length-append (start_of hd) (stripes_by rules.mode d rs ++ page_end) in
      let c = length-append (stripes_by rules.mode d rs) page_end in
      let e = length_stripes rules.mode d hd rs under long lots ∙ ap (sum_of (size_in rules.mode)) (cut_joined rs) in
      let f = p.size in
      omega arith

  pub written_octets : Octets (page_by rules d rs u)
  unfolding page_by stripes_by
  written_octets =
      octets_append (start_of hd) (stripes_by rules.mode d rs ++ page_end) (start_octets hd good_head)
      (octets_append (stripes_by rules.mode d rs) page_end (stripes_octets rules.mode d hd rs under lots (omega arith) o sized) end_octets)
