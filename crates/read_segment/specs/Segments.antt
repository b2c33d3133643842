-- A segment behind the start of page, as the caller of its reader sees it.
--
--   Marked s at            a place of a page at which two octets stand; Behind: where an ident is due
--   view_of r               what the reading of a segment comes to: a stripe and the place of its body, or an optional segment and the place after it
--   optional_at k s at      an ident that an optional segment has, behind k stripes
--   on_span r               a body that is passed over
--   stripe_at k body at size   a stripe whose ident stands at a place: the 65th, and its length
--   ident_of k body s at size  what the ident at a place makes of a segment of such a length
--   length_of v k body s at    the same, from its length on
use Rattle.std.specs.Prelude.{ℕ, ◌+◌, ◌-◌, ◌≤◌, Bool, ◌&&◌, not, cond, List, [], ◌∷◌, length, get_or, leb, eqb, Result, Ok, Err}
use Rattle.octets.specs.Octets.{stands_at}
use Rattle.answers.specs.declared.Refusal.TheVariants.{BadMark, BadLength, BadStripe}
use Rattle.field_rules.specs.Field.{Res, ok, no, bind, one, two, Field, val, again, fields, is}
use Rattle.segment_rules.specs.declared.Version.{Version}
use Rattle.segment_rules.specs.Rules.{longest_page}
use Rattle.segment_rules.specs.Segment.{Due, length_ok, mrc, size_in, ident_in, behind_of}
use Rattle.page_rules.specs.Reading.{due_with}
use Rattle.read_segment.specs.declared.Segment.{Segment}
use Rattle.read_segment.specs.declared.Segment.TheVariants.{Stripe, Optional}
use Rattle.answers.specs.declared.Refusal.{Refusal}

-- two octets stand here
pub record Marked (s : List ℕ) (at : ℕ) : Type 0 where
  pub seen : at + 2 ≤ length s
  pub small : length s ≤ longest_page

-- an ident is due here, after a length that is long enough
pub record Behind (at size : ℕ) : Type 0 where
  pub far : 2 ≤ at
  pub near : at ≤ longest_page + 4
  pub long : 6 ≤ size

unfoldable pub view_of : Res ℕ → Result Segment Refusal
view_of (ok n e) = cond (eqb n 0x01) (Ok (Stripe e)) (Ok (Optional e))
view_of (no a) = Err a

unfoldable pub optional_at : ℕ → List ℕ → ℕ → Bool
optional_at k s at = stands_at s at (0x4D ∷ 0x52 ∷ 0x43 ∷ []) && (eqb k 0 && (leb 3 (get_or s (at + 3) 0) && leb (get_or s (at + 3) 0) 0xFE))

unfoldable pub on_span : Res ℕ → Result Segment Refusal
on_span (ok m e) = Ok (Optional e)
on_span (no a) = Err a

unfoldable pub stripe_at : ℕ → ℕ → ℕ → ℕ → Result Segment Refusal
stripe_at k body at size = cond (eqb k 64) (Err (BadStripe at)) (cond (eqb (size - 6) body) (Ok (Stripe (at + 4))) (Err (BadLength (at - 2))))

-- ---- the rows of `open_table` from the ident and from the length on, and the body

abbrev pub ident_rows : Due → List Field
ident_rows due = val (one ∷ one ∷ one ∷ one ∷ []) (mrc due.may) BadMark ∷ again 4 (λ (vs : List ℕ). not (due.full (ident_in vs))) BadStripe ∷ []

abbrev pub length_rows : Version → Due → List Field
length_rows version due = val (two ∷ []) (is (length_ok version)) BadLength ∷ ident_rows due

abbrev pub behind : Due → ℕ → List ℕ → List ℕ → ℕ → Res ℕ
behind due length_at s vs n = behind_of (due.body (ident_in vs)) (ident_in vs) (size_in vs - 6) length_at s n

unfoldable pub ident_of : ℕ → ℕ → List ℕ → ℕ → ℕ → Result Segment Refusal
unfolding bind view_of
ident_of k body s at size = view_of (bind (fields (ident_rows (due_with body k)) (size ∷ []) s at) (behind (due_with body k) (at - 2) s))

unfoldable pub length_of : Version → ℕ → ℕ → List ℕ → ℕ → Result Segment Refusal
unfolding bind view_of
length_of version k body s at = view_of (bind (fields (length_rows version (due_with body k)) [] s at) (behind (due_with body k) at s))
