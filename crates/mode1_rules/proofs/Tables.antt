-- A stripe's fields by their table: they stand there exactly as the grammar has them.
-- Assumes nothing.
use Prim.Native.Nat.{ℕ, ◌≤◌}
use native.Mathlib.Omega.{arith}
use mathlib.Core.Path.{◌≡◌, refl}
use mathlib.Core.List.{List, [], ◌∷◌, ◌++◌}
use lib.ListN.{length}
use Rattle.octets.specs.Octets.{octets16, octets32}
use Rattle.laws.proofs.Says.{says_le, says_and}
use Rattle.field_rules.specs.Field.{one, four, put, Sized}
use Rattle.field_rules.specs.Stands.{Stands, at_end, valued}
use Rattle.field_rules.proofs.Laws.{end_apart, one_apart, two_apart, three_apart}
use Rattle.start_rules.specs.declared.Head.{Head}
use Rattle.mode1_rules.specs.declared.Fields.{Fields}
use Rattle.mode1_rules.specs.Kinds.{stripe_body, has_back, has_fore}
use Rattle.mode1_rules.specs.Grammar.{colour_of, fields_of, Widths, GoodFields}
use Rattle.mode1_rules.specs.Reading.{stripe_table}
use Rattle.mode1_rules.proofs.Rules.{says_type, says_offset, says_mask_length}

pub length_fields : (f : Fields) → length (fields_of f) ≡ stripe_body
unfolding fields_of colour_of octets32 octets16
length_fields f = refl

abbrev pub stripe_numbers : Fields → List ℕ
stripe_numbers f =
    f.kind ∷ f.back.c0 ∷ f.back.c1 ∷ f.back.c2 ∷ f.fore.c0 ∷ f.fore.c1 ∷ f.fore.c2 ∷ f.back_x ∷ f.back_y ∷ f.fore_x ∷ f.fore_y
    ∷ f.height ∷ f.mask_length ∷ []

pub stripe_stands : (hd : Head) (left : ℕ) (f : Fields) → left ≤ 65535 → Widths f → GoodFields hd left f → Stands (stripe_table hd left) [] (stripe_numbers f) (fields_of f)
unfolding stripe_table fields_of colour_of octets32 octets16 put Sized
stripe_stands hd left f l w g =
    let h = g.height in
    valued {ws = one ∷ []} (f.kind ∷ []) (w.kind, tt) ((says_type hd f.kind).shown (record { kind = g.kind; mask_coder = g.mask_coder; image_coder = g.image_coder }))
    (valued {ws = one ∷ one ∷ one ∷ []} (f.back.c0 ∷ f.back.c1 ∷ f.back.c2 ∷ []) (w.back.0, (w.back.1, (w.back.2, tt))) refl
    (valued {ws = one ∷ one ∷ one ∷ []} (f.fore.c0 ∷ f.fore.c1 ∷ f.fore.c2 ∷ []) (w.fore.0, (w.fore.1, (w.fore.2, tt))) refl
    (valued {ws = four ∷ four ∷ []} (f.back_x ∷ f.back_y ∷ []) (w.offsets.0, (w.offsets.1, tt)) ((says_offset (has_back f.kind) f.back_x f.back_y).shown g.back)
    (valued {ws = four ∷ four ∷ []} (f.fore_x ∷ f.fore_y ∷ []) (w.offsets.2, (w.offsets.3, tt)) ((says_offset (has_fore f.kind) f.fore_x f.fore_y).shown g.fore)
    (valued {ws = four ∷ []} (f.height ∷ []) (omega arith, tt) ((says_and (says_le 1 f.height) (says_le f.height left)).shown h)
    (valued {ws = four ∷ []} (f.mask_length ∷ []) (w.mask_length, tt) ((says_mask_length f.kind f.mask_length).shown g.mask) at_end))))))

pub stripe_apart : (P : List ℕ → List ℕ → Type 0) (hd : Head) (left : ℕ) {out l : List ℕ} → Stands (stripe_table hd left) [] out l
    → ((f : Fields) → Widths f → GoodFields hd left f → P (stripe_numbers f) (fields_of f)) → P out l
unfolding stripe_table fields_of colour_of octets32 octets16 put
stripe_apart P hd left {out} st go =
    one_apart (P out) st λ t l1 bt gt st1.
    three_apart (λ x. P out (t ∷ x)) st1 λ a0 a1 a2 l2 ba0 ba1 ba2 g2 st2.
    three_apart (λ x. P out (t ∷ a0 ∷ a1 ∷ a2 ∷ x)) st2 λ c0 c1 c2 l3 bc0 bc1 bc2 g3 st3.
    two_apart (λ x. P out (t ∷ a0 ∷ a1 ∷ a2 ∷ c0 ∷ c1 ∷ c2 ∷ x)) st3 λ bx by l4 bbx bby g4 st4.
    two_apart (λ x. P out (t ∷ a0 ∷ a1 ∷ a2 ∷ c0 ∷ c1 ∷ c2 ∷ octets32 bx ++ (octets32 by ++ x))) st4 λ fx fy l5 bfx bfy g5 st5.
    one_apart (λ x. P out (t ∷ a0 ∷ a1 ∷ a2 ∷ c0 ∷ c1 ∷ c2 ∷ octets32 bx ++ (octets32 by ++ (octets32 fx ++ (octets32 fy ++ x))))) st5 λ h l6 bh g6 st6.
    one_apart (λ x. P out (t ∷ a0 ∷ a1 ∷ a2 ∷ c0 ∷ c1 ∷ c2 ∷ octets32 bx ++ (octets32 by ++ (octets32 fx ++ (octets32 fy ++ (octets32 h ++ x)))))) st6 λ m l7 bm g7 st7.
    end_apart (λ o x. P o (t ∷ a0 ∷ a1 ∷ a2 ∷ c0 ∷ c1 ∷ c2 ∷ octets32 bx ++ (octets32 by ++ (octets32 fx ++ (octets32 fy ++ (octets32 h ++ (octets32 m ++ x))))))) st7
    (go
    (record {
      kind = t;
      back = record { c0 = a0; c1 = a1; c2 = a2 };
      fore = record { c0 = c0; c1 = c1; c2 = c2 };
      back_x = bx;
      back_y = by;
      fore_x = fx;
      fore_y = fy;
      height = h;
      mask_length = m;
    })
    (record { kind = bt; back = (ba0, ba1, ba2); fore = (bc0, bc1, bc2); offsets = (bbx, bby, bfx, bfy); mask_length = bm })
    (let y = (says_type hd t).told gt in
    record {
      kind = y.kind;
      mask_coder = y.mask_coder;
      image_coder = y.image_coder;
      back = (says_offset (has_back t) bx by).told g4;
      fore = (says_offset (has_fore t) fx fy).told g5;
      height = (says_and (says_le 1 h) (says_le h left)).told g6;
      mask = (says_mask_length t m).told g7;
    }))
