-- A segment is read exactly where it stands, and refused exactly as the sentences say.
-- Assumes nothing.
use Prim.Native.Nat.{ℕ, ◌+◌, ◌-◌, ◌≤◌, ◌<◌}
use native.Mathlib.Omega.{arith}
use mathlib.Core.Path.{◌≡◌, refl, sym, ap, subst, ◌∙◌}
use mathlib.Core.Logic.{◌≢◌}
use mathlib.Core.List.{List, [], ◌++◌, append-nil}
use lib.ListN.{length}
use lib.Dec.{eqb}
use borrow.Author.Tests.{eqb-true, eqb-false, eq-eqb, ne_eqb}
use Rattle.answers.specs.declared.Refusal.{Refusal}
use Rattle.answers.specs.declared.Refusal.TheVariants.{Short, BadLength}
use Rattle.field_rules.specs.Field.{ok, fields}
use Rattle.field_rules.specs.Stands.{Stands}
use Rattle.field_rules.specs.Fault.{Faulted}
use Rattle.field_rules.specs.Part.{Exact, Both, BadThen, bad_first, bad_later, span_of, Span, span, BadSpan, cut_span, Mapped, mapped, Passed, passed, Failed, failed, bad_passed}
use Rattle.field_rules.proofs.Parts.{exact_fields, exact_as, exact_then, Nothing, nothing, exact_ok, exact_span, exact_map, exact_test}
use Rattle.segment_rules.specs.declared.Version.{Version}
use Rattle.segment_rules.specs.Segment.{Need, passed as over, sized, Due, Named, begin_of, Opening, short, Segment, whole, begun, size_in, ident_in, open_table, behind_of, segment_of, BadSegment, bad_marker, bad_length, bad_ident, too_many, wrong_size, cut_body}
use Rattle.segment_rules.proofs.Begin.{numbers_of, begin_stands, begin_apart, faulted_begin, marker_faulted, length_faulted, ident_faulted, full_faulted}

-- ---- the body

data Behind (n size : ℕ) : Need → List ℕ → ℕ → Type 0 where
  all_of : {l : List ℕ} → length l ≡ size → Behind n size over l n
  none_of : {need : ℕ} → size ≡ need → Behind n size (sized need) [] n

data BadBehind (size length_at p : ℕ) : Need → List ℕ → Refusal → Type 0 where
  cut_of : {l : List ℕ} → length l < size → BadBehind size length_at p over l (Short p)
  unfit : {l : List ℕ} {need : ℕ} → size ≢ need → BadBehind size length_at p (sized need) l (BadLength length_at)

exact_behind : (need : Need) (n size length_at : ℕ) (s : List ℕ) (p : ℕ) → p ≤ length s
    → Exact (behind_of need n size length_at s p) (Behind n size need) (BadBehind size length_at p need) s p
unfolding behind_of
exact_behind over n size length_at s p h =
    exact_as (exact_map (span_of s p size) (λ (m : ℕ). n) (Span size) (BadSpan size p) s p h (exact_span size s p h))
    (λ l a z. to z) (λ l a z. fro z) (λ l x z. bad z) (λ l x z. un z)
  where
    to : {l : List ℕ} {a : ℕ} → Mapped (λ (m : ℕ). n) (Span size) l a → Behind n size over l a
    to (mapped m (span e)) = all_of e

    fro : {l : List ℕ} {a : ℕ} → Behind n size over l a → Mapped (λ (m : ℕ). n) (Span size) l a
    fro (all_of e) = mapped size (span e)

    bad : {l : List ℕ} {x : Refusal} → BadSpan size p l x → BadBehind size length_at p over l x
    bad (cut_span c) = cut_of c

    un : {l : List ℕ} {x : Refusal} → BadBehind size length_at p over l x → BadSpan size p l x
    un (cut_of c) = cut_span c
exact_behind (sized need) n size length_at s p h =
    exact_as (exact_test (eqb size need) (BadLength length_at) (ok n p) (Nothing n) (λ (l : List ℕ) (x : Refusal). ⊥) s p (λ e. exact_ok n s p h))
    (λ l a z. to z) (λ l a z. fro z) (λ l x z. bad z) (λ l x z. un z)
  where
    to : {l : List ℕ} {a : ℕ} → Passed (eqb size need) (Nothing n) l a → Behind n size (sized need) l a
    to (passed e nothing) = none_of (eqb-true size need e)

    fro : {l : List ℕ} {a : ℕ} → Behind n size (sized need) l a → Passed (eqb size need) (Nothing n) l a
    fro (none_of e) = passed (eq-eqb size need e) nothing

    bad : {l : List ℕ} {x : Refusal} → Failed (eqb size need) (BadLength length_at) (λ (l : List ℕ) (x : Refusal). ⊥) l x → BadBehind size length_at p (sized need) l x
    bad (failed e) = unfit (eqb-false size need e)
    bad (bad_passed e z) = absurd z

    un : {l : List ℕ} {x : Refusal} → BadBehind size length_at p (sized need) l x → Failed (eqb size need) (BadLength length_at) (λ (l : List ℕ) (x : Refusal). ⊥) l x
    un (unfit d) = failed (ne_eqb size need d)

-- ---- the segment

module _ (version : Version) (due : Due) (s : List ℕ) (at : ℕ) (h : at ≤ length s) where
  abbrev First : List ℕ → List ℕ → Type 0
  First l vs = Stands (open_table version due) [] vs l

  abbrev Second : List ℕ → ℕ → List ℕ → ℕ → Type 0
  Second vs p = Behind (ident_in vs) (size_in vs - 6) (due.body (ident_in vs))

  abbrev Worse : List ℕ → ℕ → List ℕ → Refusal → Type 0
  Worse vs p = BadBehind (size_in vs - 6) (at + 2) p (due.body (ident_in vs))

  back_6 : (size : ℕ) → 6 ≤ size → size - 6 + 6 ≡ size
  back_6 size lo = omega arith

  -- a length of six and more is that of a body
  opening_of : (P : ℕ → List ℕ → Type 0) (n size : ℕ) → 6 ≤ size → size < 65536 → ((body : ℕ) (begin : List ℕ) → Opening version n body begin → P body begin) → P (size - 6) (begin_of n size)
  opening_of P n size lo hi go = subst (λ (v : ℕ). P (size - 6) (begin_of n v)) (back_6 size lo) (go (size - 6) (begin_of n (size - 6 + 6)) (short (omega arith)))

  to_segment : (n size : ℕ) {begin : List ℕ} → Named due n → Opening version n size begin → {need : Need} {l : List ℕ} {a : ℕ} → due.body n ≡ need → Behind n size need l a
      → Segment version due (begin ++ l) a
  to_segment n size {begin} k o {l = l} e (all_of z) = whole n begin l k e (subst (λ (j : ℕ). Opening version n j begin) (sym z) o)
  to_segment n size {begin} k o e (none_of z) = subst (λ (l : List ℕ). Segment version due l n) (sym (append-nil begin)) (begun n size k (e ∙ ap sized (sym z)) o)

  stands_of : (n size : ℕ) {begin : List ℕ} → Named due n → Opening version n size begin → First begin (numbers_of n (size + 6))
  stands_of n size k (short hi) = begin_stands version due n (size + 6) k (omega arith) hi

  same_size : (size : ℕ) → size + 6 - 6 ≡ size
  same_size size = omega arith

  from_segment : {l : List ℕ} {a : ℕ} → Segment version due l a → Both First Second at l a
  from_segment (whole n begin body k e o) =
      record {
        front = begin;
        rest = body;
        value = numbers_of n (length body + 6);
        octets = refl;
        first = stands_of n (length body) k o;
        second = subst (λ (w : Need). Behind n (length body + 6 - 6) w body n) (sym e) (all_of (sym (same_size (length body))));
      }
  from_segment (begun {begin} n size k e o) =
      record {
        front = begin;
        rest = [];
        value = numbers_of n (size + 6);
        octets = sym (append-nil begin);
        first = stands_of n size k o;
        second = subst (λ (w : Need). Behind n (size + 6 - 6) w [] n) (sym e) (none_of (same_size size));
      }

  to_bad : (n size : ℕ) {begin : List ℕ} → Named due n → Opening version n size begin → {need : Need} {l : List ℕ} {x : Refusal} → due.body n ≡ need
      → BadBehind size (at + 2) (at + length begin) need l x → BadSegment version due at (begin ++ l) x
  to_bad n size {begin} k o {l = l} e (cut_of c) = cut_body n size begin l k e o c
  to_bad n size {begin} k o {l = l} e (unfit {need = need} d) = wrong_size n size need begin l k e o d

  from_bad : {l : List ℕ} {x : Refusal} → BadSegment version due at l x → BadThen First (Faulted (open_table version due) [] at) Worse at l x
  from_bad (bad_marker b) = bad_first (marker_faulted version due at b)
  from_bad (bad_length rest b) = bad_first (length_faulted version due at b)
  from_bad (bad_ident size rest lo hi b) = bad_first (ident_faulted version due at size lo hi b)
  from_bad (too_many n size rest lo hi oc g f) = bad_first (full_faulted version due at rest n size lo hi oc g f)
  from_bad (wrong_size n size need begin rest k e o d) =
      bad_later begin rest (numbers_of n (size + 6)) (stands_of n size k o)
      (subst (λ (w : Need). BadBehind (size + 6 - 6) (at + 2) (at + length begin) w rest (BadLength (at + 2))) (sym e) (unfit (λ z. d (omega arith))))
  from_bad (cut_body n size begin rest k e o c) =
      bad_later begin rest (numbers_of n (size + 6)) (stands_of n size k o)
      (subst (λ (w : Need). BadBehind (size + 6 - 6) (at + 2) (at + length begin) w rest (Short (at + length begin))) (sym e) (cut_of (omega arith)))

  pub segment_exact : Exact (segment_of version due s at) (Segment version due) (BadSegment version due at) s at
  unfolding segment_of
  segment_exact =
      exact_as
      (exact_then (fields (open_table version due) [] s at) _ First (Faulted (open_table version due) [] at) Second Worse s at h
      (exact_fields (open_table version due) [] s at h) (λ vs l st i. exact_behind (due.body (ident_in vs)) (ident_in vs) (size_in vs - 6) (at + 2) s (at + length l) i))
      (λ l a b. subst (λ (x : List ℕ). Segment version due x a) (sym b.octets)
      (begin_apart version due (λ (vs f : List ℕ). Second vs (at + length f) b.rest a → Segment version due (f ++ b.rest) a) b.first
      (λ n size k lo hi z.
      opening_of (λ (j : ℕ) (f : List ℕ). Behind n j (due.body n) b.rest a → Segment version due (f ++ b.rest) a) n size lo hi (λ j f o y. to_segment n j k o refl y) z)
      b.second))
      (λ l a z. from_segment z)
      (λ l x b. bad b)
      (λ l x b. from_bad b)
    where
      bad : {l : List ℕ} {x : Refusal} → BadThen First (Faulted (open_table version due) [] at) Worse at l x → BadSegment version due at l x
      bad {l} {x} (bad_first f) = faulted_begin version due at l x f
      bad {x = x} (bad_later f r vs st w) =
          begin_apart version due (λ (vs f : List ℕ). Worse vs (at + length f) r x → BadSegment version due at (f ++ r) x) st
          (λ n size k lo hi z.
          opening_of (λ (j : ℕ) (f : List ℕ). BadBehind j (at + 2) (at + length f) (due.body n) r x → BadSegment version due at (f ++ r) x) n size lo hi
          (λ j f o y. to_bad n j k o refl y) z) w
