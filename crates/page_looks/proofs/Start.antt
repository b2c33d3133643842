-- Reading the start of page depends on the octets up to where it looked: to the end of the field at fault, and its length is judged at the end of the
-- ident.
-- Assumes nothing.
use Prim.Native.Nat.{ℕ, ◌+◌, ◌-◌, ◌≤◌}
use native.Mathlib.Omega.{arith}
use mathlib.Core.Path.{◌≡◌, refl, ap, subst}
use mathlib.Core.List.{List, [], ◌∷◌}
use lib.ListN.{length}
use lib.Dec.{lit≤}
use Rattle.answers.specs.declared.Refusal.TheVariants.{BadMark, BadLength, BadVersion, BadMode, BadCoder, BadRes, BadWidth}
use Rattle.answers.specs.Answers.{refusal_place}
use Rattle.field_rules.specs.Field.{Res, ok, bind, widths, fields}
use Rattle.page_looks.proofs.Hangs.{reach, Whole}
use Rattle.page_looks.proofs.Fields.{Looks, reach_mark}
use Rattle.page_looks.proofs.Looked.{beyond, Near, near, near_length, ◌&◌, Looked, looked_map, looked_fields}
use Rattle.start_rules.specs.Reading.{start_table, head_from, start_read}

unfoldable pub start_look : List ℕ → ℕ → ℕ
start_look s at = reach start_table [] s at

-- each field is at most as wide as `beyond` says
pub start_near : (at : ℕ) → Looks Near at start_table
unfolding Looks start_table widths refusal_place beyond
start_near at =
    near at 2 (BadMark at) refl (lit≤ tt) (lit≤ tt)
    & near (at + 2) 2 (BadMark (at + 2)) refl (lit≤ tt) (lit≤ tt)
    & near (at + 2 + 2) 2 (BadLength (at + 2 + 2)) refl (lit≤ tt) (lit≤ tt)
    & near (at + 2 + 2 + 2) 4 (BadMark (at + 2 + 2 + 2)) refl (lit≤ tt) (lit≤ tt)
    & to_ident
    & near (at + 2 + 2 + 2 + 4) 1 (BadVersion (at + 2 + 2 + 2 + 4)) refl (lit≤ tt) (lit≤ tt)
    & near (at + 2 + 2 + 2 + 4 + 1) 1 (BadMode (at + 2 + 2 + 2 + 4 + 1)) refl (lit≤ tt) (lit≤ tt)
    & near (at + 2 + 2 + 2 + 4 + 1 + 1) 1 (BadCoder (at + 2 + 2 + 2 + 4 + 1 + 1)) refl (lit≤ tt) (lit≤ tt)
    & near (at + 2 + 2 + 2 + 4 + 1 + 1 + 1) 1 (BadCoder (at + 2 + 2 + 2 + 4 + 1 + 1 + 1)) refl (lit≤ tt) (lit≤ tt)
    & near (at + 2 + 2 + 2 + 4 + 1 + 1 + 1 + 1) 2 (BadRes (at + 2 + 2 + 2 + 4 + 1 + 1 + 1 + 1)) refl (lit≤ tt) (lit≤ tt)
    & near (at + 2 + 2 + 2 + 4 + 1 + 1 + 1 + 1 + 2) 4 (BadWidth (at + 2 + 2 + 2 + 4 + 1 + 1 + 1 + 1 + 2)) refl (lit≤ tt) (lit≤ tt)
    & near (at + 2 + 2 + 2 + 4 + 1 + 1 + 1 + 1 + 2 + 4) 2 (BadMark (at + 2 + 2 + 2 + 4 + 1 + 1 + 1 + 1 + 2 + 4)) refl (lit≤ tt) (lit≤ tt)
    & tt
  where
    to_ident : Near (BadLength (at + 2 + 2 + 2 + 4 - 6)) (at + 2 + 2 + 2 + 4)
    to_ident =
        let z : at + 2 + 2 + 2 + 4 - 6 + 6 ≡ at + 2 + 2 + 2 + 4 = omega arith in
        subst (Near (BadLength (at + 2 + 2 + 2 + 4 - 6))) z (near_length (at + 2 + 2 + 2 + 4 - 6))

pub start_looked : (s : List ℕ) (at : ℕ) → at ≤ length s → Whole (start_read s at) → Looked (start_look s at) (λ (t : List ℕ). start_read t at) s at
unfolding start_read start_look
start_looked s at h =
    looked_map s (λ (t : List ℕ). fields start_table [] t at) head_from (reach start_table [] s at) at (looked_fields s start_table at h (start_near at))

-- it begins with the two octets of a mark
pub start_far : (s : List ℕ) (at : ℕ) → Whole (start_read s at) → at + 2 ≤ start_look s at
unfolding start_read start_look start_table bind
start_far s at w = reach_mark (0xFF ∷ 0xD8 ∷ []) BadMark _ [] s at (λ p z. w p (ap (λ (r : Res (List ℕ)). bind r (λ (vs : List ℕ) (n : ℕ). ok (head_from vs) n)) z))
