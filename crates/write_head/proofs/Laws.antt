-- The octets of a stripe, put one after the other are put together.
-- Assumes nothing.
use Prim.Native.Nat.{ℕ, ◌+◌, ◌≤◌}
use native.Mathlib.Omega.{arith}
use mathlib.Core.Path.{◌≡◌, refl, ◌∙◌}
use mathlib.Core.List.{List, [], ◌∷◌, ◌++◌}
use lib.ListN.{length}
use Rattle.octets.specs.Octets.{octets16, octets32, put_at}
use Rattle.octets.proofs.Laws.{length_octets32}
use Rattle.segment_rules.specs.Segment.{begin_of}
use Rattle.mode1_rules.specs.Grammar.{colour_of, fields_of}
use Rattle.sheet_rules.specs.declared.Record.{Record}
use Rattle.sheet_rules.specs.Judge.{coded}
use Rattle.write_rules.specs.Mode1.{type_by, fields_by, begins}
use Rattle.write_start.proofs.Laws.{put_more}
use Rattle.write_head.specs.Parts.{stripe_fields}
use Rattle.write_start.specs.Parts.{begin_with}

pub pair_put : (d : List ℕ) (at x y : ℕ) {e f : List ℕ} → at + 8 ≤ length d → e ≡ put_at d at (octets32 x) → f ≡ put_at e (at + 4) (octets32 y) → f ≡ put_at d at (octets32 x ++ octets32 y)
pair_put d at x y l a b = put_more d at (octets32 x) (at + 4) (octets32 y) (omega arith) a (let n = length_octets32 x in omega arith) b

pub fields_put : (d : List ℕ) (at : ℕ) (a b c : Record) {t ax ay cx cy h : ℕ} {e1 e2 e3 e4 : List ℕ} → at + 31 ≤ length d → t ≡ type_by (coded a) (coded b) (coded c)
    → e1 ≡ put_at d at (t ∷ a.base0 ∷ a.base1 ∷ a.base2 ∷ c.base0 ∷ c.base1 ∷ c.base2 ∷ []) → ax ≡ a.x → ay ≡ a.y → e2 ≡ put_at e1 (at + 7) (octets32 ax ++ octets32 ay)
    → cx ≡ c.x → cy ≡ c.y → e3 ≡ put_at e2 (at + 15) (octets32 cx ++ octets32 cy) → h ≡ b.height → e4 ≡ put_at e3 (at + 23) (octets32 h ++ octets32 b.len) → e4 ≡ put_at d at (stripe_fields a b c)
unfolding octets32 octets16
fields_put d at a b c l t e1 ax ay e2 cx cy e3 h e4 =
    put_more d at _ (at + 23) _ (omega arith) (put_more d at _ (at + 15) _ (omega arith) (put_more d at _ (at + 7) _ (omega arith) e1 refl e2) refl e3) refl e4
    ∙ rw (t, ax, ay, cx, cy, h) refl

pub head_put : (d : List ℕ) (at : ℕ) (a b c : Record) {e f : List ℕ} → at + 39 ≤ length d → e ≡ put_at d at (begin_with 37 (0x4D ∷ 0x52 ∷ 0x43 ∷ 0x01 ∷ []))
    → f ≡ put_at e (at + 8) (stripe_fields a b c) → f ≡ put_at d at (begins ++ fields_of (fields_by a b c))
unfolding begin_of octets16 fields_of colour_of
head_put d at a b c l x y = put_more d at (begin_with 37 (0x4D ∷ 0x52 ∷ 0x43 ∷ 0x01 ∷ [])) (at + 8) (stripe_fields a b c) (omega arith) x refl y
