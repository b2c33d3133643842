-- A segment's beginning by its table: as the grammar has it, and refused as the sentences say.
-- Assumes nothing.
use Prim.Native.Nat.{ℕ, ◌+◌, ◌≤◌, ◌<◌}
use native.Mathlib.Omega.{arith}
use mathlib.Core.Path.{◌≡◌, refl, sym, ap, subst, ◌∙◌}
use mathlib.Core.Bool.{Bool, true, false, not, false≢true}
use mathlib.Core.List.{List, [], ◌∷◌, ◌++◌}
use lib.ListN.{length, get_or, drop}
use lib.Dec.{lit<}
use Rattle.octets.specs.Octets.{octets16}
use Rattle.laws.proofs.Says.{Says, says_eq, says_le, says_and, says_true}
use Rattle.answers.specs.declared.Refusal.{Refusal}
use Rattle.answers.specs.declared.Refusal.TheVariants.{BadMark, BadLength, BadStripe}
use Rattle.field_rules.specs.Field.{one, two, put, Sized, widths}
use Rattle.field_rules.specs.Stands.{Stands, at_end, marked, valued, held}
use Rattle.field_rules.specs.Fault.{Faulted, late, BadMarked, BadNumbers, the}
use Rattle.field_rules.proofs.Laws.{end_apart, mark_apart, again_apart, one_apart, four_apart}
use Rattle.field_rules.proofs.Refused.{rows_size}
use Rattle.field_rules.proofs.Faults.{fault_here, past_mark, past_val, none_at_fault, fault_mark, fault_again, fault_one, fault_four, broken_mark, mark_broken, broken_numbers, numbers_broken, broken_again}
use Rattle.segment_rules.proofs.Places.{at_ident}
use Rattle.segment_rules.specs.declared.Version.{Version}
use Rattle.segment_rules.specs.declared.Version.TheVariants.{Base}
use Rattle.segment_rules.specs.Segment.{Due, Named, begin_of, length_ok, mrc, open_table, Ident, ident, BadSegment, bad_marker, bad_length, bad_ident, too_many}

pub length_begin : (n size : ℕ) → length (begin_of n size) ≡ 8
unfolding begin_of octets16
length_begin n size = refl

pub open_size : (version : Version) (due : Due) → rows_size (open_table version due) ≡ 8
unfolding open_table rows_size widths
open_size version due = refl

-- the numbers of a beginning
abbrev pub numbers_of : ℕ → ℕ → List ℕ
numbers_of n size = size ∷ 0x4D ∷ 0x52 ∷ 0x43 ∷ n ∷ []

not-false : (b : Bool) → not b ≡ true → b ≡ false
not-false true e = absurd (false≢true e)
not-false false e = refl

not-true : (b : Bool) → not b ≡ false → b ≡ true
not-true true e = refl
not-true false e = absurd (false≢true (sym e))

says_length : (version : Version) (size : ℕ) → Says (length_ok version size) (6 ≤ size)
says_length Base size = says_le 6 size

module _ (version : Version) (due : Due) where
  -- ---- it stands there

  pub begin_stands : (n size : ℕ) → Named due n → 6 ≤ size → size < 65536 → Stands (open_table version due) [] (numbers_of n size) (begin_of n size)
  unfolding open_table begin_of octets16 put Sized
  begin_stands n size k l h =
      marked
      (valued {ws = two ∷ []} (size ∷ []) (h, tt) ((says_length version size).shown l)
      (valued {ws = one ∷ one ∷ one ∷ one ∷ []} (0x4D ∷ 0x52 ∷ 0x43 ∷ n ∷ []) (lit< tt, (lit< tt, (lit< tt, (k.octet, tt)))) k.may
      (held (ap not k.room) at_end)))

  -- the four octets of an ident
  ident_apart : (P : ℕ → ℕ → ℕ → Type 0) (m r c n : ℕ) → mrc due.may [] (m ∷ r ∷ c ∷ n ∷ []) ≡ true → (due.may n ≡ true → P 0x4D 0x52 0x43) → P m r c
  ident_apart P m r c n g go =
      let h = (says_and (says_and (says_and (says_eq m 0x4D) (says_eq r 0x52)) (says_eq c 0x43)) (says_true (due.may n))).told g in
      subst (λ v. P v r c) (sym h.0.0.0) (subst (λ v. P 0x4D v c) (sym h.0.0.1) (subst (λ v. P 0x4D 0x52 v) (sym h.0.1) (go h.1)))

  pub begin_apart : (P : List ℕ → List ℕ → Type 0) {out l : List ℕ} → Stands (open_table version due) [] out l
      → ((n size : ℕ) → Named due n → 6 ≤ size → size < 65536 → P (numbers_of n size) (begin_of n size)) → P out l
  unfolding open_table begin_of octets16 put
  begin_apart P {out} st go =
      mark_apart (P out) st λ l1 st1.
      one_apart (λ x. P out (0xFF ∷ 0xED ∷ x)) st1 λ size l2 b2 g2 st2.
      four_apart (λ x. P out (0xFF ∷ 0xED ∷ octets16 size ++ x)) st2 λ m r c n l3 bm br bc bn g3 st3.
      again_apart (λ x. P out (0xFF ∷ 0xED ∷ octets16 size ++ (m ∷ r ∷ c ∷ n ∷ x))) st3 λ g4 st4.
      end_apart (λ o x. P o (0xFF ∷ 0xED ∷ octets16 size ++ (m ∷ r ∷ c ∷ n ∷ x))) st4
      (ident_apart (λ m r c. P (size ∷ m ∷ r ∷ c ∷ n ∷ []) (0xFF ∷ 0xED ∷ octets16 size ++ (m ∷ r ∷ c ∷ n ∷ []))) m r c n g3
      (λ g. go n size (record { octet = bn; may = g; room = not-false (due.full n) g4 }) ((says_length version size).told g2) b2))

  -- ---- it is refused

  pub says_ident : (vs : List ℕ) → Sized (one ∷ one ∷ one ∷ one ∷ []) vs → Says (mrc due.may [] vs) (Ident due vs)
  unfolding Sized
  says_ident [] z = absurd z
  says_ident (m ∷ []) z = absurd z.1
  says_ident (m ∷ r ∷ []) z = absurd z.1.1
  says_ident (m ∷ r ∷ c ∷ []) z = absurd z.1.1.1
  says_ident (m ∷ r ∷ c ∷ n ∷ e ∷ vs) z = absurd z.1.1.1.1
  says_ident (m ∷ r ∷ c ∷ n ∷ []) z =
      record { told = λ g. ident_apart (λ m r c. Ident due (m ∷ r ∷ c ∷ n ∷ [])) m r c n g (λ k. ident n k); shown = λ k. shows k }
    where
      shows : {vs : List ℕ} → Ident due vs → mrc due.may [] vs ≡ true
      shows (ident n k) = k

  module _ (at : ℕ) where
    abbrev Bad : List ℕ → Refusal → Type 0
    Bad = BadSegment version due at

    pub faulted_begin : (l : List ℕ) (x : Refusal) → Faulted (open_table version due) [] at l x → Bad l x
    unfolding open_table begin_of octets16 put widths Sized
    faulted_begin l x f =
        fault_mark (λ (l : List ℕ). Bad l x) f (λ b. bad_marker (broken_mark b)) λ l1 f1.
        fault_one (λ (l : List ℕ). Bad (0xFF ∷ 0xED ∷ l) x) f1
        (λ b. bad_length l1 (broken_numbers (the (λ (size : ℕ). 6 ≤ size)) (λ vs z. says_length version (get_or vs 0 0)) b)) λ size l2 b2 g2 f2.
        let lo = (says_length version size).told g2 in
        fault_four (λ (l : List ℕ). Bad (0xFF ∷ 0xED ∷ octets16 size ++ l) x) f2
        (λ b. bad_ident size l2 lo b2 (subst (λ (p : ℕ). BadNumbers (one ∷ one ∷ one ∷ one ∷ []) (Ident due) BadMark p l2 x) two_two (broken_numbers (Ident due) (λ vs z. says_ident vs z) b))) λ m r c n l3 bm br bc bn g3 f3.
        fault_again (λ (l : List ℕ). Bad (0xFF ∷ 0xED ∷ octets16 size ++ (m ∷ r ∷ c ∷ n ∷ l)) x) f3
        (λ b.
        let k = broken_again b in
        ident_apart (λ m r c. Bad (0xFF ∷ 0xED ∷ octets16 size ++ (m ∷ r ∷ c ∷ n ∷ l3)) x) m r c n g3
        (λ g. subst (Bad (begin_of n size ++ l3)) (ap BadStripe (sym (at_ident at)) ∙ sym k.1) (too_many n size l3 lo b2 bn g (not-true (due.full n) k.0))))
        (λ g4 l4 f4. absurd (none_at_fault f4))
      where
        two_two : at + 2 + 2 ≡ at + 4
        two_two = omega arith

    pub marker_faulted : {l : List ℕ} {x : Refusal} → BadMarked (0xFF ∷ 0xED ∷ []) BadMark at l x → Faulted (open_table version due) [] at l x
    unfolding open_table
    marker_faulted b = fault_here (mark_broken b)

    pub length_faulted : {l : List ℕ} {x : Refusal} → BadNumbers (two ∷ []) (the (λ (size : ℕ). 6 ≤ size)) BadLength (at + 2) l x → Faulted (open_table version due) [] at (0xFF ∷ 0xED ∷ l) x
    unfolding open_table
    length_faulted b = past_mark (fault_here (numbers_broken (the (λ (size : ℕ). 6 ≤ size)) (λ vs z. says_length version (get_or vs 0 0)) b))

    -- behind a length that may be
    past_length : {l : List ℕ} {x : Refusal} (size : ℕ) → 6 ≤ size → size < 65536
        → Faulted (drop 2 (open_table version due)) (size ∷ []) (at + 2 + 2) l x
        → Faulted (open_table version due) [] at (0xFF ∷ 0xED ∷ octets16 size ++ l) x
    unfolding open_table octets16 put widths Sized
    past_length size lo hi f = past_mark (past_val {ws = two ∷ []} (size ∷ []) (hi, tt) ((says_length version size).shown lo) f)

    pub ident_faulted : {l : List ℕ} {x : Refusal} (size : ℕ) → 6 ≤ size → size < 65536 → BadNumbers (one ∷ one ∷ one ∷ one ∷ []) (Ident due) BadMark (at + 4) l x
        → Faulted (open_table version due) [] at (0xFF ∷ 0xED ∷ octets16 size ++ l) x
    unfolding open_table
    ident_faulted {l} {x} size lo hi b =
        let z : at + 4 ≡ at + 2 + 2 = omega arith in
        past_length size lo hi (subst (λ (p : ℕ). Faulted (drop 2 (open_table version due)) (size ∷ []) p l x) z
        (fault_here (numbers_broken (Ident due) (λ vs z. says_ident vs z) b)))

    pub full_faulted : (l : List ℕ) (n size : ℕ) → 6 ≤ size → size < 65536 → n < 256 → due.may n ≡ true → due.full n ≡ true
        → Faulted (open_table version due) [] at (begin_of n size ++ l) (BadStripe (at + 4))
    unfolding open_table begin_of octets16 put widths Sized
    full_faulted l n size lo hi oc g f =
        past_length size lo hi
        (past_val {ws = one ∷ one ∷ one ∷ one ∷ []} (0x4D ∷ 0x52 ∷ 0x43 ∷ n ∷ []) (lit< tt, (lit< tt, (lit< tt, (oc, tt)))) g
        (subst (Faulted (drop 3 (open_table version due)) (size ∷ 0x4D ∷ 0x52 ∷ 0x43 ∷ n ∷ []) (at + 2 + 2 + 4) l) (ap BadStripe (at_ident at))
        (fault_here (late (ap not f)))))
