-- The start of page is refused exactly as the sentences say.
-- Assumes nothing.
use Prim.Native.Nat.{ℕ, ◌≤◌, ◌<◌}
use native.Mathlib.Omega.{arith}
use mathlib.Core.Path.{◌≡◌, refl, sym, subst}
use mathlib.Core.List.{List, [], ◌∷◌, ◌++◌}
use mathlib.Core.Bool.{true}
use lib.ListN.{get_or, drop}
use lib.Dec.{lit<}
use borrow.Author.Tests.{eqb-false, ne_eqb, leb-true, le-leb}
use Rattle.octets.specs.Octets.{octets16, octets32}
use Rattle.laws.proofs.Says.{says_eq, says_le, says_within}
use Rattle.answers.specs.declared.Refusal.{Refusal}
use Rattle.answers.specs.declared.Refusal.TheVariants.{BadCoder}
use Rattle.field_rules.specs.Field.{one, two, four, put, Sized, widths}
use Rattle.field_rules.specs.Fault.{Faulted, late, BadNumbers, the}
use Rattle.field_rules.proofs.Faults.{fault_here, past_mark, past_val, past_again, none_at_fault, fault_mark, fault_again, fault_one, broken_mark, mark_broken, broken_numbers, numbers_broken, broken_again}
use Rattle.sheet_rules.specs.Sentences.{Listed}
use Rattle.sheet_rules.proofs.New.{says_listed}
use Rattle.segment_rules.specs.declared.Version.{Version}
use Rattle.segment_rules.specs.declared.Version.TheVariants.{Base}
use Rattle.segment_rules.specs.declared.Mode.{Mode}
use Rattle.segment_rules.specs.declared.Mode.TheVariants.{One}
use Rattle.segment_rules.specs.declared.Rules.{Rules}
use Rattle.segment_rules.specs.Rules.{mode1, version_octet, mode_octet}
use Rattle.start_rules.specs.Coders.{mask_coder, image_coder}
use Rattle.start_rules.specs.Grammar.{mark_of, MaskCoder, ImageCoder}
use Rattle.start_rules.specs.Reading.{start_table}
use Rattle.start_rules.specs.Faults.{up_to_mode, up_to_mask, BadStart, bad_soi, bad_marker, bad_length, bad_ident, wrong_length, bad_version, bad_mode, bad_mask, bad_image, bad_main, bad_width, bad_termination}
use Rattle.start_rules.proofs.Rules.{says_mask, says_image, mask_small, image_small, listed_small}
use Rattle.start_rules.proofs.Start.{fixed}

abbrev Six : ℕ → Type 0
Six size = 6 ≤ size

abbrev Wide : ℕ → Type 0
Wide w = (1 ≤ w) × (w ≤ 32768)

-- ---- from the table to the sentences

pub faulted_start : (l : List ℕ) (x : Refusal) → Faulted start_table [] 0 l x → BadStart l x
unfolding start_table octets16 octets32 put widths
faulted_start l x f =
    fault_mark (λ (l : List ℕ). BadStart l x) f (λ b. bad_soi (broken_mark b)) λ l1 f1.
    fault_mark (λ (l : List ℕ). BadStart (0xFF ∷ 0xD8 ∷ l) x) f1 (λ b. bad_marker l1 (broken_mark b)) λ l2 f2.
    fault_one (λ (l : List ℕ). BadStart (0xFF ∷ 0xD8 ∷ 0xFF ∷ 0xED ∷ l) x) f2 (λ b. bad_length l2 (broken_numbers (the Six) (λ vs z. says_le 6 (get_or vs 0 0)) b))
    λ size l3 b3 g3 f3.
    let lo = leb-true 6 size g3 in
    fault_mark (λ (l : List ℕ). BadStart (0xFF ∷ 0xD8 ∷ 0xFF ∷ 0xED ∷ octets16 size ++ l) x) f3 (λ b. bad_ident size l3 lo b3 (broken_mark b)) λ l4 f4.
    fault_again (λ (l : List ℕ). BadStart (0xFF ∷ 0xD8 ∷ 0xFF ∷ 0xED ∷ octets16 size ++ (0x4D ∷ 0x52 ∷ 0x43 ∷ 0x00 ∷ l)) x) f4
    (λ b.
    let k = broken_again b in
    subst (BadStart (0xFF ∷ 0xD8 ∷ 0xFF ∷ 0xED ∷ octets16 size ++ (0x4D ∷ 0x52 ∷ 0x43 ∷ 0x00 ∷ l4))) (sym k.1) (wrong_length size l4 lo b3 (eqb-false size 16 k.0)))
    λ g4 l5 f5.
    fixed (λ (v : ℕ). BadStart (0xFF ∷ 0xD8 ∷ 0xFF ∷ 0xED ∷ octets16 v ++ (0x4D ∷ 0x52 ∷ 0x43 ∷ 0x00 ∷ l5)) x) 16 size g4
    (fault_one (λ (l : List ℕ). BadStart (mark_of ++ l) x) f5 (λ b. bad_version l5 (broken_numbers (the (λ (v : ℕ). v ≡ 0)) (λ vs z. says_eq (get_or vs 0 0) 0) b)) λ v l6 b6 g6 f6.
    fixed (λ (v : ℕ). BadStart (mark_of ++ (v ∷ l6)) x) 0 v g6
    (fault_one (λ (l : List ℕ). BadStart (up_to_mode Base l) x) f6 (λ b. bad_mode Base l6 (broken_numbers (the (λ (m : ℕ). m ≡ 1)) (λ vs z. says_eq (get_or vs 0 0) 1) b)) λ m l7 b7 g7 f7.
    fixed (λ (m : ℕ). BadStart (up_to_mode Base (m ∷ l7)) x) 1 m g7
    (fault_one (λ (l : List ℕ). BadStart (up_to_mask mode1 l) x) f7
    (λ b. bad_mask mode1 l7 (broken_numbers (the (MaskCoder One)) (λ vs z. says_mask One (get_or vs 0 0)) b)) λ mask l8 b8 g8 f8.
    let km = (says_mask One mask).told g8 in
    fault_one (λ (l : List ℕ). BadStart (up_to_mask mode1 (mask ∷ l)) x) f8
    (λ b. bad_image mode1 mask l8 km (broken_numbers (the (ImageCoder One)) (λ vs z. says_image One (get_or vs 0 0)) b)) λ image l9 b9 g9 f9.
    let ki = (says_image One image).told g9 in
    fault_one (λ (l : List ℕ). BadStart (up_to_mask mode1 (mask ∷ image ∷ l)) x) f9
    (λ b. bad_main mode1 mask image l9 km ki (broken_numbers (the Listed) (λ vs z. says_listed (get_or vs 0 0)) b)) λ main l10 b10 g10 f10.
    let kr = (says_listed main).told g10 in
    fault_one (λ (l : List ℕ). BadStart (up_to_mask mode1 (mask ∷ image ∷ octets16 main ++ l)) x) f10
    (λ b. bad_width mode1 mask image main l10 km ki kr (broken_numbers (the Wide) (λ vs z. says_within 1 32768 (get_or vs 0 0)) b)) λ width l11 b11 g11 f11.
    fault_mark (λ (l : List ℕ). BadStart (up_to_mask mode1 (mask ∷ image ∷ octets16 main ++ (octets32 width ++ l))) x) f11
    (λ b.
    bad_termination (record { rules = mode1; mask = mask; image = image; main = main; width = width }) l11
    (record { mask = km; image = ki; main = kr; width = (says_within 1 32768 width).told g11 }) (broken_mark b))
    λ l12 f12. absurd (none_at_fault f12))))

-- ---- and back: what stands in front of each field

module _ {l : List ℕ} {x : Refusal} where
  behind_length : (size : ℕ) → 6 ≤ size → size < 65536 → Faulted (drop 3 start_table) (size ∷ []) 6 l x → Faulted start_table [] 0 (0xFF ∷ 0xD8 ∷ 0xFF ∷ 0xED ∷ octets16 size ++ l) x
  unfolding start_table octets16 put widths Sized
  behind_length size lo hi f = past_mark (past_mark (past_val {ws = two ∷ []} (size ∷ []) (hi, tt) (le-leb 6 size lo) f))

  behind_mark : Faulted (drop 5 start_table) (16 ∷ []) 10 l x → Faulted start_table [] 0 (mark_of ++ l) x
  unfolding start_table octets16 put widths Sized
  behind_mark f = past_mark (past_mark (past_val {ws = two ∷ []} (16 ∷ []) (lit< tt, tt) refl (past_mark (past_again refl f))))

behind_version : {l : List ℕ} {x : Refusal} (v : Version) → Faulted (drop 6 start_table) (16 ∷ version_octet v ∷ []) 11 l x → Faulted start_table [] 0 (up_to_mode v l) x
unfolding start_table octets16 put widths Sized
behind_version Base f = behind_mark (past_val {ws = one ∷ []} (0 ∷ []) (lit< tt, tt) refl f)

behind_mode : {l : List ℕ} {x : Refusal} (v : Version) (m : Mode) → Faulted (drop 7 start_table) (16 ∷ version_octet v ∷ mode_octet m ∷ []) 12 l x
    → Faulted start_table [] 0 (up_to_mode v (mode_octet m ∷ l)) x
unfolding start_table octets16 put widths Sized
behind_mode v One f = behind_version v (past_val {ws = one ∷ []} (1 ∷ []) (lit< tt, tt) refl f)

-- the mode that the fields behind go by
by_mode : (P : Mode → Type 0) → P One → (m : Mode) → P m
by_mode P p One = p

module _ (r : Rules) where
  abbrev known : List ℕ → List ℕ
  known vs = 16 ∷ version_octet r.version ∷ mode_octet r.mode ∷ vs

  behind_mask : {l : List ℕ} {x : Refusal} (mask : ℕ) → MaskCoder r.mode mask → Faulted (drop 8 start_table) (known (mask ∷ [])) 13 l x → Faulted start_table [] 0 (up_to_mask r (mask ∷ l)) x
  unfolding start_table octets16 put widths Sized
  behind_mask mask k f =
      behind_mode r.version r.mode
      (past_val {ws = one ∷ []} (mask ∷ []) (mask_small r.mode mask k, tt) (by_mode (λ (m : Mode). MaskCoder m mask → mask_coder One mask ≡ true) (says_mask One mask).shown r.mode k) f)

  behind_image : {l : List ℕ} {x : Refusal} (mask image : ℕ) → MaskCoder r.mode mask → ImageCoder r.mode image → Faulted (drop 9 start_table) (known (mask ∷ image ∷ [])) 14 l x
      → Faulted start_table [] 0 (up_to_mask r (mask ∷ image ∷ l)) x
  unfolding start_table octets16 put widths Sized
  behind_image mask image k i f =
      behind_mask mask k
      (past_val {ws = one ∷ []} (image ∷ []) (image_small r.mode image i, tt) (by_mode (λ (m : Mode). ImageCoder m image → image_coder One image ≡ true) (says_image One image).shown r.mode i) f)

  behind_main : {l : List ℕ} {x : Refusal} (mask image main : ℕ) → MaskCoder r.mode mask → ImageCoder r.mode image → Listed main
      → Faulted (drop 10 start_table) (known (mask ∷ image ∷ main ∷ [])) 16 l x → Faulted start_table [] 0 (up_to_mask r (mask ∷ image ∷ octets16 main ++ l)) x
  unfolding start_table octets16 put widths Sized
  behind_main mask image main k i n f =
      behind_image mask image k i (past_val {ws = two ∷ []} (main ∷ []) (listed_small main n, tt) ((says_listed main).shown n) f)

pub start_faulted : (l : List ℕ) (x : Refusal) → BadStart l x → Faulted start_table [] 0 l x
unfolding start_table octets16 octets32 put widths Sized
start_faulted l x (bad_soi b) = fault_here (mark_broken b)
start_faulted l x (bad_marker rest b) = past_mark (fault_here (mark_broken b))
start_faulted l x (bad_length rest b) = past_mark (past_mark (fault_here (numbers_broken (the Six) (λ vs z. says_le 6 (get_or vs 0 0)) b)))
start_faulted l x (bad_ident size rest lo hi b) = behind_length size lo hi (fault_here (mark_broken b))
start_faulted l x (wrong_length size rest lo hi d) = behind_length size lo hi (past_mark (fault_here (late (ne_eqb size 16 d))))
start_faulted l x (bad_version rest b) = behind_mark (fault_here (numbers_broken (the (λ (v : ℕ). v ≡ 0)) (λ vs z. says_eq (get_or vs 0 0) 0) b))
start_faulted l x (bad_mode v rest b) = behind_version v (fault_here (numbers_broken (the (λ (m : ℕ). m ≡ 1)) (λ vs z. says_eq (get_or vs 0 0) 1) b))
start_faulted l x (bad_mask r rest b) =
    behind_mode r.version r.mode
    (fault_here (numbers_broken (the (MaskCoder One)) (λ vs z. says_mask One (get_or vs 0 0)) (by_mode (λ (m : Mode). BadNumbers (one ∷ []) (the (MaskCoder m)) BadCoder 12 rest x → BadNumbers (one ∷ []) (the (MaskCoder One)) BadCoder 12 rest x) (λ z. z) r.mode b)))
start_faulted l x (bad_image r mask rest k b) =
    behind_mask r mask k
    (fault_here (numbers_broken (the (ImageCoder One)) (λ vs z. says_image One (get_or vs 0 0)) (by_mode (λ (m : Mode). BadNumbers (one ∷ []) (the (ImageCoder m)) BadCoder 13 rest x → BadNumbers (one ∷ []) (the (ImageCoder One)) BadCoder 13 rest x) (λ z. z) r.mode b)))
start_faulted l x (bad_main r mask image rest k i b) = behind_image r mask image k i (fault_here (numbers_broken (the Listed) (λ vs z. says_listed (get_or vs 0 0)) b))
start_faulted l x (bad_width r mask image main rest k i n b) = behind_main r mask image main k i n (fault_here (numbers_broken (the Wide) (λ vs z. says_within 1 32768 (get_or vs 0 0)) b))
start_faulted l x (bad_termination hd rest g b) =
    let w = g.width in
    behind_main hd.rules hd.mask hd.image hd.main g.mask g.image g.main
    (past_val {ws = four ∷ []} (hd.width ∷ []) (omega arith, tt) ((says_within 1 32768 hd.width).shown w) (fault_here (mark_broken b)))
