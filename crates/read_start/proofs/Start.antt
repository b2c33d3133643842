-- The start of page: its table in code is the table of table.
-- Assumes nothing.
use Prim.Native.Nat.{ℕ, ◌%◌}
use mathlib.Core.Path.{◌≡◌, refl, sym, ap}
use mathlib.Core.Bool.{Bool, ◌&&◌, ◌||◌, or-false}
use mathlib.Core.List.{List, [], ◌∷◌}
use lib.ListN.{get_or}
use lib.Dec.{leb, eqb}
use borrow.Author.Rules.{rules}
use Rattle.octets.specs.Octets.{be16_at, be32_at, stands_at}
use Rattle.answers.specs.declared.Refusal.TheVariants.{BadMark, BadLength, BadVersion, BadMode, BadCoder, BadRes, BadWidth}
use Rattle.field_rules.specs.Field.{fields, numbers, widths}
use Rattle.sheet_rules.specs.Judge.{listed}
use Rattle.segment_rules.specs.declared.Mode.TheVariants.{One}
use Rattle.segment_rules.specs.Rules.{mode1}
use Rattle.start_rules.specs.declared.Head.{Head}
use Rattle.start_rules.specs.Coders.{mask_coder, image_coder}
use Rattle.start_rules.specs.Reading.{start_table}
use Rattle.std.specs.Prelude.{Result, Ok, ⊤}
use Rattle.answers.specs.declared.Refusal.{Refusal}
use Rattle.read_field.specs.Judged.{held_of, field_of, judged_of}
use Rattle.read_start.specs.Start.{head_at}
use Rattle.read_field.proofs.Lines.{line_begin, line_end, line_mark, line_val, line_again}

pub mask_coders : (c : ℕ) → eqb c 0 || (eqb c 1 || (eqb c 2 || (eqb c 4 || eqb c 8))) ≡ mask_coder One c
unfolding mask_coder
mask_coders c = ap (λ (b : Bool). eqb c 0 || (eqb c 1 || (eqb c 2 || (eqb c 4 || b)))) (sym (or-false (eqb c 8)))

pub image_coders : (c : ℕ) → eqb c 0 || eqb c 1 ≡ image_coder One c
unfolding image_coder
image_coders c = ap (λ (b : Bool). eqb c 0 || b) (sym (or-false (eqb c 1)))

pub start_made : (s : List ℕ) {r1 r2 r3 r4 r5 r6 r7 r8 r9 r10 r11 r12 : Result ⊤ Refusal} {b1 b2 b4 b8 b9 b10 b12 : Bool} {size version mode mask image main width : ℕ}
    → r12 ≡ field_of s r11 20 2 b12 (BadMark 20) → b12 ≡ stands_at s 20 (0xFF ∷ 0xD9 ∷ [])
    → r11 ≡ field_of s r10 16 4 (leb 1 width && leb width 32768) (BadWidth 16) → width ≡ be32_at s 16
    → r10 ≡ field_of s r9 14 2 b10 (BadRes 14) → b10 ≡ listed main → main ≡ be16_at s 14
    → r9 ≡ field_of s r8 13 1 b9 (BadCoder 13) → b9 ≡ image_coder One image → image ≡ get_or s 13 0
    → r8 ≡ field_of s r7 12 1 b8 (BadCoder 12) → b8 ≡ mask_coder One mask → mask ≡ get_or s 12 0
    → r7 ≡ field_of s r6 11 1 (eqb mode 1) (BadMode 11) → mode ≡ get_or s 11 0
    → r6 ≡ field_of s r5 10 1 (eqb version 0) (BadVersion 10) → version ≡ get_or s 10 0
    → r5 ≡ held_of r4 (eqb size 16) (BadLength 4)
    → r4 ≡ field_of s r3 6 4 b4 (BadMark 6) → b4 ≡ stands_at s 6 (0x4D ∷ 0x52 ∷ 0x43 ∷ 0x00 ∷ [])
    → r3 ≡ field_of s r2 4 2 (leb 6 size) (BadLength 4)
    → r2 ≡ field_of s r1 2 2 b2 (BadMark 2) → b2 ≡ stands_at s 2 (0xFF ∷ 0xED ∷ [])
    → r1 ≡ field_of s (Ok tt) 0 2 b1 (BadMark 0) → b1 ≡ stands_at s 0 (0xFF ∷ 0xD8 ∷ [])
    → size ≡ be16_at s 4
    → r12 ≡ judged_of (fields start_table [] s 0)
unfolding start_table numbers widths
start_made s e12 t12 e11 v11 e10 t10 v10 e9 t9 v9 e8 t8 v8 e7 v7 e6 v6 e5 e4 t4 e3 e2 t2 e1 t1 v =
    let l1 = line_mark (line_begin s start_table 0) 0 refl e1 t1 in
    let l2 = line_mark l1 2 refl e2 t2 in
    let l3 = line_val l2 4 refl e3 (rw v refl) in
    let l4 = line_mark l3 6 refl e4 t4 in
    let l5 = line_again l4 4 refl e5 (rw v refl) in
    let l6 = line_val l5 10 refl e6 (rw v6 refl) in
    let l7 = line_val l6 11 refl e7 (rw v7 refl) in
    let l8 = line_val l7 12 refl e8 (rw (t8, v8) refl) in
    let l9 = line_val l8 13 refl e9 (rw (t9, v9) refl) in
    let l10 = line_val l9 14 refl e10 (rw (t10, v10) refl) in
    let l11 = line_val l10 16 refl e11 (rw v11 refl) in
    let l12 = line_mark l11 20 refl e12 t12 in
    line_end l12

pub head_made : (s : List ℕ) (mask image main width : ℕ) → mask ≡ get_or s 12 0 → image ≡ get_or s 13 0 → main ≡ be16_at s 14 → width ≡ be32_at s 16
    → ◌≡◌ {A = Head} (record { rules = mode1; mask = mask; image = image; main = main; width = width % 65536 }) (head_at s)
head_made s mask image main width e f g h = simp (e, f, g, h)

pub ruleset start_laws = (mask_coders, image_coders, start_made)

pub ruleset heads = (rules, head_made)
