-- A stripe's fields: their table in code is the table of table.
-- Assumes nothing.
use Prim.Native.Nat.{ℕ, ◌+◌, ◌≤◌}
use native.Mathlib.Omega.{arith}
use mathlib.Core.Path.{◌≡◌, refl, sym, ap, ◌∙◌}
use mathlib.Core.Bool.{Bool, true, false, ◌&&◌, ◌||◌, not, or-false}
use mathlib.Core.List.{List, []}
use lib.ListN.{get_or}
use lib.Dec.{leb, eqb}
use borrow.Author.Rules.{rules}
use mir.Syntax.{w32}
use mir.Val.{Fits}
use Rattle.octets.specs.Octets.{be32_at}
use Rattle.answers.specs.declared.Refusal.TheVariants.{BadType, BadStripe}
use Rattle.field_rules.specs.Field.{fields, numbers, widths}
use Rattle.sheet_rules.specs.declared.Colour.{Colour}
use Rattle.sheet_rules.specs.Record.{colour_at}
use Rattle.segment_rules.specs.Rules.{longest_page}
use Rattle.start_rules.specs.declared.Head.{Head}
use Rattle.mode1_rules.specs.declared.Fields.{Fields}
use Rattle.mode1_rules.specs.Kinds.{has_back, has_mask, has_fore, type_ok, offset_ok}
use Rattle.mode1_rules.specs.Reading.{mask_length_ok, stripe_table}
use Rattle.std.specs.Prelude.{Result, Ok, ⊤}
use Rattle.answers.specs.declared.Refusal.{Refusal}
use Rattle.read_field.specs.Judged.{field_of, judged_of}
use Rattle.read_head.specs.Fields.{fields_at}
use Rattle.read_field.proofs.Lines.{line_begin, line_end, line_val}

-- a place of a page, and a little further, is a number of the answer's width
pub place_fits : (at k : ℕ) → at ≤ longest_page → k ≤ 64 → Fits w32 (at + k)
place_fits at k h l = record { fits = omega arith }

pub types : (hd : Head) (t : ℕ) {b m f : Bool} → b ≡ has_back t → m ≡ has_mask t → f ≡ has_fore t
    → (eqb t 1 || (eqb t 2 || (eqb t 3 || (eqb t 4 || (eqb t 6 || eqb t 7))))) && (not m || not (eqb hd.mask 0)) && (not (b || f) || not (eqb hd.image 0))
    ≡ type_ok hd t
unfolding type_ok
types hd t e g h =
    rw (e, g, h)
    (ap
    (λ (x : Bool). (eqb t 1 || (eqb t 2 || (eqb t 3 || (eqb t 4 || (eqb t 6 || x))))) && (not (has_mask t) || not (eqb hd.mask 0)) && (not (has_back t || has_fore t) || not (eqb hd.image 0)))
    (sym (or-false (eqb t 7))))

pub length_some : (t n : ℕ) {m : Bool} → m ≡ has_mask t → m ≡ true → not (eqb n 0) ≡ mask_length_ok t n
length_some t n e y = simp (sym e ∙ y)

pub length_none : (t n : ℕ) {m : Bool} → m ≡ has_mask t → m ≡ false → eqb n 0 ≡ mask_length_ok t n
length_none t n e y = simp (sym e ∙ y)

-- ---- fields_at
pub colour_made : (s : List ℕ) (at : ℕ) {a b c : ℕ} → a ≡ get_or s at 0 → b ≡ get_or s (at + 1) 0 → c ≡ get_or s (at + 2) 0
    → ◌≡◌ {A = Colour} (record { c0 = a; c1 = b; c2 = c }) (colour_at s at)
colour_made s at e f g = rw (e, f, g) refl

pub fields_made : (s : List ℕ) (at : ℕ) {back fore : Colour} {kind bx b_y fx fy height mask : ℕ}
    → back ≡ colour_at s (at + 1) → fore ≡ colour_at s (at + 4) → kind ≡ get_or s at 0
    → bx ≡ be32_at s (at + 7) → b_y ≡ be32_at s (at + 11) → fx ≡ be32_at s (at + 15) → fy ≡ be32_at s (at + 19)
    → height ≡ be32_at s (at + 23) → mask ≡ be32_at s (at + 27)
    → ◌≡◌ {A = Fields} (record { kind = kind; back = back; fore = fore; back_x = bx; back_y = b_y; fore_x = fx; fore_y = fy; height = height; mask_length = mask }) (fields_at s at)
unfolding fields_at
fields_made s at a b c d e f g h i = rw (a, b, c, d, e, f, g, h, i) refl

-- ---- judge_stripe
pub stripe_made : (s : List ℕ) (hd : Head) (left at : ℕ) (f : Fields) {r1 r2 r3 r4 r5 r6 r7 : Result ⊤ Refusal} {type back fore mask hb hf : Bool}
    → f ≡ fields_at s at
    → type ≡ type_ok hd f.kind
    → hb ≡ has_back f.kind → back ≡ offset_ok hb f.back_x f.back_y
    → hf ≡ has_fore f.kind → fore ≡ offset_ok hf f.fore_x f.fore_y
    → mask ≡ mask_length_ok f.kind f.mask_length
    → r1 ≡ field_of s (Ok tt) at 1 type (BadType at)
    → r2 ≡ field_of s r1 (at + 1) 3 true (BadStripe (at + 1))
    → r3 ≡ field_of s r2 (at + 4) 3 true (BadStripe (at + 4))
    → r4 ≡ field_of s r3 (at + 7) 8 back (BadStripe (at + 7))
    → r5 ≡ field_of s r4 (at + 15) 8 fore (BadStripe (at + 15))
    → r6 ≡ field_of s r5 (at + 23) 4 (leb 1 f.height && leb f.height left) (BadStripe (at + 23))
    → r7 ≡ field_of s r6 (at + 27) 4 mask (BadStripe (at + 27))
    → r7 ≡ judged_of (fields (stripe_table hd left) [] s at)
unfolding stripe_table numbers widths fields_at
stripe_made s hd left at f v type hb back hf fore mask e1 e2 e3 e4 e5 e6 e7 =
    let p4 : at + 4 ≡ at + 1 + 3 = omega arith in
    let p7 : at + 7 ≡ at + 1 + 3 + 3 = omega arith in
    let p11 : at + 7 + 4 ≡ at + 11 = omega arith in
    let p19 : at + 15 + 4 ≡ at + 19 = omega arith in
    let p15 : at + 15 ≡ at + 1 + 3 + 3 + 8 = omega arith in
    let p23 : at + 23 ≡ at + 1 + 3 + 3 + 8 + 8 = omega arith in
    let p27 : at + 27 ≡ at + 1 + 3 + 3 + 8 + 8 + 4 = omega arith in
    let l1 = line_val (line_begin s (stripe_table hd left) at) at refl e1 (type ∙ ap (λ (g : Fields). type_ok hd g.kind) v) in
    let l2 = line_val l1 (at + 1) refl e2 refl in
    let l3 = line_val l2 (at + 4) p4 e3 refl in
    let l4 = line_val l3 (at + 7) p7 e4 (rw (back, hb, v, p11) refl) in
    let l5 = line_val l4 (at + 15) p15 e5 (rw (fore, hf, v, p19) refl) in
    let l6 = line_val l5 (at + 23) p23 e6 (rw v refl) in
    let l7 = line_val l6 (at + 27) p27 e7 (rw (mask, v) refl) in
    line_end l7

pub ruleset stripe_laws = (rules, types, length_some, length_none, colour_made, fields_made, stripe_made)
