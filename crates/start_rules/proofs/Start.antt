-- The start of page by its table: it stands there as the grammar has it.
-- Assumes nothing.
use Prim.Native.Nat.{ℕ}
use native.Mathlib.Omega.{arith}
use mathlib.Core.Path.{◌≡◌, refl, sym, subst}
use mathlib.Core.Bool.{true}
use mathlib.Core.List.{List, [], ◌∷◌, ◌++◌}
use lib.ListN.{length}
use lib.Dec.{eqb, lit<}
use borrow.Author.Tests.{eqb-true}
use Rattle.octets.specs.Octets.{octets16, octets32}
use Rattle.laws.proofs.Says.{says_le, says_and}
use Rattle.field_rules.specs.Field.{one, two, four, put, Sized}
use Rattle.field_rules.specs.Stands.{Stands, at_end, marked, valued, held}
use Rattle.field_rules.proofs.Laws.{end_apart, mark_apart, again_apart, one_apart}
use Rattle.sheet_rules.proofs.New.{says_listed}
use Rattle.segment_rules.specs.declared.Version.{Version}
use Rattle.segment_rules.specs.declared.Version.TheVariants.{Base}
use Rattle.segment_rules.specs.declared.Mode.{Mode}
use Rattle.segment_rules.specs.declared.Mode.TheVariants.{One}
use Rattle.segment_rules.specs.declared.Rules.{Rules}
use Rattle.segment_rules.specs.Rules.{mode1, version_octet, mode_octet}
use Rattle.start_rules.specs.declared.Head.{Head}
use Rattle.start_rules.specs.Grammar.{start_of, GoodHead}
use Rattle.start_rules.specs.Reading.{start_table, head_from}
use Rattle.start_rules.proofs.Rules.{says_mask, says_image, mask_small, image_small, listed_small}

pub length_start : (hd : Head) → length (start_of hd) ≡ 22
unfolding start_of octets16 octets32
length_start hd = refl

-- for now there are no other rules
rules_by : (v : Version) (m : Mode) → ◌≡◌ {A = Rules} (record { version = v; mode = m }) mode1
rules_by Base One = refl

pub only_mode1 : (r : Rules) → r ≡ mode1
only_mode1 r = rules_by r.version r.mode

abbrev pub start_numbers : Head → List ℕ
start_numbers hd = 16 ∷ version_octet hd.rules.version ∷ mode_octet hd.rules.mode ∷ hd.mask ∷ hd.image ∷ hd.main ∷ hd.width ∷ []

-- a head of these rules is as any other
in_rules : (P : Head → Type 0) (hd : Head) → ((mask image main width : ℕ) → P (record { rules = mode1; mask = mask; image = image; main = main; width = width })) → P hd
in_rules P hd go =
    subst (λ (r : Rules). P (record { rules = r; mask = hd.mask; image = hd.image; main = hd.main; width = hd.width })) (sym (only_mode1 hd.rules))
    (go hd.mask hd.image hd.main hd.width)

pub head_from_lem : (hd : Head) → head_from (start_numbers hd) ≡ hd
head_from_lem hd = in_rules (λ (h : Head). head_from (start_numbers h) ≡ h) hd (λ mask image main width. refl)

-- in the rules that there are
abbrev of_mode1 : ℕ → ℕ → ℕ → ℕ → Head
of_mode1 mask image main width = record { rules = mode1; mask = mask; image = image; main = main; width = width }

stands_by : (mask image main width : ℕ) → GoodHead (of_mode1 mask image main width)
    → Stands start_table [] (16 ∷ 0 ∷ 1 ∷ mask ∷ image ∷ main ∷ width ∷ []) (start_of (of_mode1 mask image main width))
unfolding start_table start_of octets16 octets32 put Sized
stands_by mask image main width g =
    let w = g.width in
    marked
    (marked
    (valued {ws = two ∷ []} (16 ∷ []) (lit< tt, tt) refl
    (marked
    (held refl
    (valued {ws = one ∷ []} (0 ∷ []) (lit< tt, tt) refl
    (valued {ws = one ∷ []} (1 ∷ []) (lit< tt, tt) refl
    (valued {ws = one ∷ []} (mask ∷ []) (mask_small One mask g.mask, tt) ((says_mask One mask).shown g.mask)
    (valued {ws = one ∷ []} (image ∷ []) (image_small One image g.image, tt) ((says_image One image).shown g.image)
    (valued {ws = two ∷ []} (main ∷ []) (listed_small main g.main, tt) ((says_listed main).shown g.main)
    (valued {ws = four ∷ []} (width ∷ []) (omega arith, tt) ((says_and (says_le 1 width) (says_le width 32768)).shown w)
    (marked at_end)))))))))))

pub start_stands : (hd : Head) → GoodHead hd → Stands start_table [] (start_numbers hd) (start_of hd)
start_stands hd = in_rules (λ (h : Head). GoodHead h → Stands start_table [] (start_numbers h) (start_of h)) hd stands_by

-- a number that is held to one value
pub fixed : (Q : ℕ → Type 0) (n v : ℕ) → eqb v n ≡ true → Q n → Q v
fixed Q n v e q = subst Q (sym (eqb-true v n e)) q

pub start_apart : (P : List ℕ → List ℕ → Type 0) {out l : List ℕ} → Stands start_table [] out l → ((hd : Head) → GoodHead hd → P (start_numbers hd) (start_of hd)) → P out l
unfolding start_table start_of octets16 octets32 put
start_apart P {out} st go =
    mark_apart (P out) st λ l1 st1.
    mark_apart (λ x. P out (0xFF ∷ 0xD8 ∷ x)) st1 λ l2 st2.
    one_apart (λ x. P out (0xFF ∷ 0xD8 ∷ 0xFF ∷ 0xED ∷ x)) st2 λ size l3 b3 g3 st3.
    mark_apart (λ x. P out (0xFF ∷ 0xD8 ∷ 0xFF ∷ 0xED ∷ octets16 size ++ x)) st3 λ l4 st4.
    again_apart (λ x. P out (0xFF ∷ 0xD8 ∷ 0xFF ∷ 0xED ∷ octets16 size ++ (0x4D ∷ 0x52 ∷ 0x43 ∷ 0x00 ∷ x))) st4 λ g4 st5.
    one_apart (λ x. P out (0xFF ∷ 0xD8 ∷ 0xFF ∷ 0xED ∷ octets16 size ++ (0x4D ∷ 0x52 ∷ 0x43 ∷ 0x00 ∷ x))) st5 λ version l6 b6 g6 st6.
    one_apart (λ x. P out (0xFF ∷ 0xD8 ∷ 0xFF ∷ 0xED ∷ octets16 size ++ (0x4D ∷ 0x52 ∷ 0x43 ∷ 0x00 ∷ version ∷ x))) st6 λ mode l7 b7 g7 st7.
    one_apart (λ x. P out (0xFF ∷ 0xD8 ∷ 0xFF ∷ 0xED ∷ octets16 size ++ (0x4D ∷ 0x52 ∷ 0x43 ∷ 0x00 ∷ version ∷ mode ∷ x))) st7 λ mask l8 b8 g8 st8.
    one_apart (λ x. P out (0xFF ∷ 0xD8 ∷ 0xFF ∷ 0xED ∷ octets16 size ++ (0x4D ∷ 0x52 ∷ 0x43 ∷ 0x00 ∷ version ∷ mode ∷ mask ∷ x))) st8 λ image l9 b9 g9 st9.
    one_apart (λ x. P out (0xFF ∷ 0xD8 ∷ 0xFF ∷ 0xED ∷ octets16 size ++ (0x4D ∷ 0x52 ∷ 0x43 ∷ 0x00 ∷ version ∷ mode ∷ mask ∷ image ∷ x))) st9 λ main l10 b10 g10 st10.
    one_apart (λ x. P out (0xFF ∷ 0xD8 ∷ 0xFF ∷ 0xED ∷ octets16 size ++ (0x4D ∷ 0x52 ∷ 0x43 ∷ 0x00 ∷ version ∷ mode ∷ mask ∷ image ∷ octets16 main ++ x))) st10 λ width l11 b11 g11 st11.
    mark_apart (λ x. P out (0xFF ∷ 0xD8 ∷ 0xFF ∷ 0xED ∷ octets16 size ++ (0x4D ∷ 0x52 ∷ 0x43 ∷ 0x00 ∷ version ∷ mode ∷ mask ∷ image ∷ octets16 main ++ (octets32 width ++ x)))) st11 λ l12 st12.
    end_apart (λ o x. P o (0xFF ∷ 0xD8 ∷ 0xFF ∷ 0xED ∷ octets16 size ++ (0x4D ∷ 0x52 ∷ 0x43 ∷ 0x00 ∷ version ∷ mode ∷ mask ∷ image ∷ octets16 main ++ (octets32 width ++ (0xFF ∷ 0xD9 ∷ x))))) st12
    (fixed (λ v. P (v ∷ version ∷ mode ∷ mask ∷ image ∷ main ∷ width ∷ []) (0xFF ∷ 0xD8 ∷ 0xFF ∷ 0xED ∷ octets16 v ++ (0x4D ∷ 0x52 ∷ 0x43 ∷ 0x00 ∷ version ∷ mode ∷ mask ∷ image ∷ octets16 main ++ (octets32 width ++ (0xFF ∷ 0xD9 ∷ []))))) 16 size g4
    (fixed (λ v. P (16 ∷ v ∷ mode ∷ mask ∷ image ∷ main ∷ width ∷ []) (0xFF ∷ 0xD8 ∷ 0xFF ∷ 0xED ∷ 0x00 ∷ 0x10 ∷ 0x4D ∷ 0x52 ∷ 0x43 ∷ 0x00 ∷ v ∷ mode ∷ mask ∷ image ∷ octets16 main ++ (octets32 width ++ (0xFF ∷ 0xD9 ∷ [])))) 0 version g6
    (fixed (λ v. P (16 ∷ 0 ∷ v ∷ mask ∷ image ∷ main ∷ width ∷ []) (0xFF ∷ 0xD8 ∷ 0xFF ∷ 0xED ∷ 0x00 ∷ 0x10 ∷ 0x4D ∷ 0x52 ∷ 0x43 ∷ 0x00 ∷ 0x00 ∷ v ∷ mask ∷ image ∷ octets16 main ++ (octets32 width ++ (0xFF ∷ 0xD9 ∷ [])))) 1 mode g7
    (go (of_mode1 mask image main width)
    (record { mask = (says_mask One mask).told g8; image = (says_image One image).told g9; main = (says_listed main).told g10; width = (says_and (says_le 1 width) (says_le width 32768)).told g11 })))))
