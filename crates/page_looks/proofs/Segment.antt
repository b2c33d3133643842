-- Reading a segment depends on the octets up to where it looked.
--
--   behind_look    its body: to its end where it is passed over; where its fields are read one by one, its length is judged by now
--   segment_look   to the end of the field at fault: an ident too many, and a length that its fields do not need, show at the end of the ident
--
-- Assumes nothing.
use Prim.Native.Nat.{ℕ, ◌+◌, ◌-◌, ◌≤◌, ◌<◌}
use native.Mathlib.Omega.{arith}
use mathlib.Core.Path.{◌≡◌, refl, subst}
use mathlib.Core.List.{List, [], ◌∷◌}
use lib.ListN.{length}
use lib.Dec.{eqb, lit≤}
use Rattle.laws.proofs.Cases.{cond_with}
use Rattle.answers.specs.declared.Refusal.TheVariants.{BadMark, BadLength}
use Rattle.answers.specs.Answers.{refusal_place}
use Rattle.field_rules.specs.Field.{Res, ok, no, bind, widths, fields}
use Rattle.field_rules.specs.Part.{span_of}
use Rattle.page_looks.proofs.Hangs.{reach, Whole}
use Rattle.page_looks.proofs.Fields.{Looks, reach_mark}
use Rattle.field_rules.proofs.Refused.{fields_end}
use Rattle.page_looks.proofs.Looked.{onward, beyond, Near, near, nearby, near_length, ◌&◌, Looked, looked_ok, looked_no, looked_bind, looked_map, looked_span, looked_fields}
use Rattle.segment_rules.specs.declared.Version.{Version}
use Rattle.segment_rules.proofs.Begin.{open_size}
use Rattle.segment_rules.specs.Segment.{Need, passed, sized, Due, size_in, ident_in, open_table, behind_of, segment_of}

abbrev pub behind_look : Need → ℕ → ℕ → ℕ
behind_look passed size at = at + size
behind_look (sized due) size at = at

unfoldable pub segment_look : Version → Due → List ℕ → ℕ → ℕ
segment_look version due s at =
    onward (fields (open_table version due) [] s at) (reach (open_table version due) [] s at)
    (λ (vs : List ℕ) (n : ℕ). behind_look (due.body (ident_in vs)) (size_in vs - 6) n)

-- ---- the beginning

open_near : (version : Version) (due : Due) (at : ℕ) → Looks Near at (open_table version due)
unfolding Looks open_table widths refusal_place beyond
open_near version due at =
    near at 2 (BadMark at) refl (lit≤ tt) (lit≤ tt)
    & near (at + 2) 2 (BadLength (at + 2)) refl (lit≤ tt) (lit≤ tt)
    & near (at + 2 + 2) 4 (BadMark (at + 2 + 2)) refl (lit≤ tt) (lit≤ tt)
    & record { past = let z : at + 2 + 2 + 4 - 4 < at + 2 + 2 + 4 = omega arith in z; most = let z : at + 2 + 2 + 4 ≤ at + 2 + 2 + 4 - 4 + 8 = omega arith in z }
    & tt

-- ---- its body, behind the ident

module _ (s : List ℕ) (at : ℕ) where
  behind_looked : (need : Need) (n size : ℕ) → at + 8 ≤ length s → Whole (behind_of need n size (at + 2) s (at + 8))
      → Looked (behind_look need size (at + 8)) (λ (t : List ℕ). behind_of need n size (at + 2) t (at + 8)) s (at + 8)
  unfolding behind_of
  behind_looked passed n size h =
      looked_map s (λ (t : List ℕ). span_of t (at + 8) size) (λ (m : ℕ). n) (at + 8 + size) (at + 8) (looked_span s (at + 8) size)
  behind_looked (sized due) n size h =
      cond_with (λ (x : Res ℕ). Whole x → Looked (at + 8) (λ (t : List ℕ). x) s (at + 8)) (eqb size due) (λ e w. looked_ok s n (at + 8) h)
      (λ e w. looked_no s (BadLength (at + 2)) (at + 8) (at + 8) (omega arith) h (nearby s (BadLength (at + 2)) (at + 8) to_ident))
    where
      to_ident : Near (BadLength (at + 2)) (at + 8)
      to_ident = let z : at + 2 + 6 ≡ at + 8 = omega arith in subst (Near (BadLength (at + 2))) z (near_length (at + 2))

-- ---- the segment

module _ (version : Version) (due : Due) (s : List ℕ) (at : ℕ) where
  pub segment_looked : at ≤ length s → Whole (segment_of version due s at) → Looked (segment_look version due s at) (λ (t : List ℕ). segment_of version due t at) s at
  unfolding segment_of segment_look
  segment_looked h =
      looked_bind s (λ (t : List ℕ). fields (open_table version due) [] t at)
      (λ (vs : List ℕ) (n : ℕ) (t : List ℕ). behind_of (due.body (ident_in vs)) (ident_in vs) (size_in vs - 6) (at + 2) t n)
      (reach (open_table version due) [] s at) _ at (looked_fields s (open_table version due) at h (open_near version due at))
      λ vs n hn ni en.
      let fe = fields_end (open_table version due) [] vs s at n h en in
      let f0 = fe.0 in
      let sz = open_size version due in
      let z : at + 8 ≡ n = omega arith in
      subst
      (λ (p : ℕ).
      Whole (behind_of (due.body (ident_in vs)) (ident_in vs) (size_in vs - 6) (at + 2) s p)
      → Looked (behind_look (due.body (ident_in vs)) (size_in vs - 6) p) (λ (t : List ℕ). behind_of (due.body (ident_in vs)) (ident_in vs) (size_in vs - 6) (at + 2) t p) s p)
      z (behind_looked s at (due.body (ident_in vs)) (ident_in vs) (size_in vs - 6) (omega arith))

  begin_far : Whole (fields (open_table version due) [] s at) → at + 2 ≤ reach (open_table version due) [] s at
  unfolding open_table
  begin_far w = reach_mark (0xFF ∷ 0xED ∷ []) BadMark _ [] s at w

  -- a segment begins with the two octets of its marker
  pub segment_far : at ≤ length s → Whole (segment_of version due s at) → at + 2 ≤ segment_look version due s at
  unfolding segment_of segment_look bind
  segment_far h = by (fields (open_table version due) [] s at) refl
    where
      behind : (need : Need) (size n : ℕ) → n ≤ behind_look need size n
      behind passed size n = omega arith
      behind (sized k) size n = omega arith

      by : (r : Res (List ℕ)) → fields (open_table version due) [] s at ≡ r
          → Whole (bind r (λ (vs : List ℕ) (n : ℕ). behind_of (due.body (ident_in vs)) (ident_in vs) (size_in vs - 6) (at + 2) s n))
          → at + 2 ≤ onward r (reach (open_table version due) [] s at) (λ (vs : List ℕ) (n : ℕ). behind_look (due.body (ident_in vs)) (size_in vs - 6) n)
      by (ok vs n) e w =
          let fe = fields_end (open_table version due) [] vs s at n h e in
          let f0 = fe.0 in
          let sz = open_size version due in
          let b = behind (due.body (ident_in vs)) (size_in vs - 6) n in
          omega arith
      by (no a) e w = begin_far (λ p z. w p cc)
