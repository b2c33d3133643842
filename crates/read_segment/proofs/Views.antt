-- What the view of a segment tells of its reading, and where a segment that was read ends.
-- Assumes nothing.
use Rattle.std.specs.Prelude.{Ok, Err}
use Prim.Native.Nat.{ℕ, ◌+◌, ◌-◌, ◌≤◌}
use native.Mathlib.Omega.{arith}
use mathlib.Core.Path.{◌≡◌, refl, sym, ap, ◌∙◌}
use mathlib.Core.Bool.{Bool, true, false, not}
use mathlib.Core.List.{List, []}
use lib.ListN.{length}
use lib.Dec.{eqb, ltb}
use borrow.Author.Tests.{ltb-false}
use Rattle.laws.proofs.Cases.{cond_with, clash}
use Rattle.answers.specs.declared.Refusal.{Refusal}
use Rattle.field_rules.specs.Field.{Res, ok, no, bind, widths, numbers, fields}
use Rattle.field_rules.specs.Part.{span_of}
use Rattle.field_rules.proofs.Refused.{rows_size, fields_end}
use Rattle.field_rules.proofs.Values.{values_of, fields_values}
use Rattle.read_field.proofs.Views.{Holds, fields_hold}
use Rattle.segment_rules.specs.declared.Version.{Version}
use Rattle.segment_rules.specs.Segment.{Need, passed, sized, Due, ident_in, size_in, open_table, behind_of, segment_of}
use Rattle.read_segment.specs.declared.Segment.TheVariants.{Stripe, Optional}
use Rattle.read_segment.specs.Segments.{view_of, behind}

pub view_no : (x : Res ℕ) (a : Refusal) → view_of x ≡ Err a → x ≡ no a
unfolding view_of
view_no (ok n e) a = cond_with (λ y. y ≡ Err a → ok n e ≡ no a) (eqb n 0x01) (λ t q. clash cc) (λ t q. clash cc)
view_no (no b) a = λ q. let p : b ≡ a = cc in ap no p

module _ (P : Type 0) (p : ℕ) where
  pub view_stripe : (x : Res ℕ) → view_of x ≡ Ok (Stripe p) → ((n : ℕ) → eqb n 0x01 ≡ true → x ≡ ok n p → P) → P
  unfolding view_of
  view_stripe (ok n e) =
      cond_with (λ y. y ≡ Ok (Stripe p) → ((n' : ℕ) → eqb n' 0x01 ≡ true → ok n e ≡ ok n' p → P) → P) (eqb n 0x01) (λ t q go. let z : e ≡ p = cc in go n t (ap (ok n) z)) (λ t q go. clash cc)
  view_stripe (no b) = λ q go. clash cc

  pub view_optional : (x : Res ℕ) → view_of x ≡ Ok (Optional p) → ((n : ℕ) → eqb n 0x01 ≡ false → x ≡ ok n p → P) → P
  unfolding view_of
  view_optional (ok n e) =
      cond_with (λ y. y ≡ Ok (Optional p) → ((n' : ℕ) → eqb n' 0x01 ≡ false → ok n e ≡ ok n' p → P) → P) (eqb n 0x01) (λ t q go. clash cc) (λ t q go. let z : e ≡ p = cc in go n t (ap (ok n) z))
  view_optional (no b) = λ q go. clash cc

-- ---- where it ends

record Past (s : List ℕ) (at n m e : ℕ) : Type 0 where
  ident : m ≡ n
  on : at ≤ e
  inside : e ≤ length s

behind_past : (need : Need) (n size length_at : ℕ) (s : List ℕ) (at m e : ℕ) → at ≤ length s → behind_of need n size length_at s at ≡ ok m e → Past s at n m e
unfolding behind_of span_of bind
behind_past passed n size length_at s at m e h =
    cond_with (λ x. bind x (λ (j i : ℕ). ok n i) ≡ ok m e → Past s at n m e) (ltb (length s) (at + size)) (λ t q. clash cc)
    (λ t q. let l = ltb-false (length s) (at + size) t in let a : n ≡ m = cc in let b : at + size ≡ e = cc in record { ident = sym a; on = omega arith; inside = omega arith })
behind_past (sized due) n size length_at s at m e h =
    cond_with (λ x. x ≡ ok m e → Past s at n m e) (eqb size due)
    (λ t q. let a : n ≡ m = cc in let b : at ≡ e = cc in record { ident = sym a; on = omega arith; inside = omega arith }) (λ t q. clash cc)

pub record Ended (due : Due) (s : List ℕ) (at n e : ℕ) : Type 0 where
  pub room : due.full n ≡ false
  pub on : at + 8 ≤ e
  pub inside : e ≤ length s

not-true : (b : Bool) → not b ≡ true → b ≡ false
not-true true e = sym e
not-true false e = refl

module _ (version : Version) (due : Due) (s : List ℕ) (at : ℕ) (h : at ≤ length s) (n e : ℕ) where
  open_size : rows_size (open_table version due) ≡ 8
  unfolding open_table rows_size
  open_size = refl

  open_room : (vs : List ℕ) (m : ℕ) → fields (open_table version due) [] s at ≡ ok vs m → due.full (ident_in vs) ≡ false
  unfolding open_table numbers widths Holds values_of
  open_room vs m q =
      let k = fields_hold (open_table version due) [] vs s at m q in
      ap (λ (l : List ℕ). due.full (ident_in l)) (fields_values (open_table version due) [] vs s at m q) ∙ not-true _ k.1.1.0

  by : (x : Res (List ℕ)) → fields (open_table version due) [] s at ≡ x → bind x (behind due (at + 2) s) ≡ ok n e → Ended due s at n e
  unfolding bind
  by (ok vs m) q z =
      let f = fields_end (open_table version due) [] vs s at m h q in
      let f0 = f.0 in
      let w = open_size in
      let p = behind_past (due.body (ident_in vs)) (ident_in vs) (size_in vs - 6) (at + 2) s m n e f.1 z in
      let p1 = p.on in
      record { room = ap due.full p.ident ∙ open_room vs m q; on = omega arith; inside = p.inside }
  by (no a) q z = clash cc

  pub segment_ends : segment_of version due s at ≡ ok n e → Ended due s at n e
  unfolding segment_of
  segment_ends q = by (fields (open_table version due) [] s at) refl q
