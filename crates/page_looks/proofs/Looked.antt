-- A step of reading depends on the octets up to where it looked, and so do steps one after another. How far a step looked is defined beside its
-- theorem, in the file of its part: the first fault in page order shows at the end of its field; a length that depends on the ident is judged
-- at the end of the ident behind it; and a fault inside a JPEG body at the end of that body (01, "Numbers that a call returns").
--
--   onward r looked go      how far two steps looked: where the first was refused it looked so far, and where it was read the second says
--   beyond a                at most so many octets from a refusal's place on were looked at
--   Near a look             a refusal's place lies before `look`, and not far
--   Nearby s a look         the same, past the octets FF that stand at the place of a layer's fault: fill before a marker, of any length
--   Looked look read s at   reading s from a place depends on the octets up to `look`: the place after what was read, or near a refusal's
--
-- Assumes nothing.
use Prim.Native.Nat.{ℕ, ◌+◌, ◌≤◌, ◌<◌}
use native.Mathlib.Omega.{arith}
use mathlib.Core.Path.{◌≡◌, refl, sym, ap, subst, ◌∙◌}
use mathlib.Core.Bool.{Bool, true, false, cond}
use mathlib.Core.List.{List, [], ◌∷◌}
use lib.ListN.{length, get_or}
use lib.Dec.{eqb, ltb, lit≤}
use borrow.Author.Tests.{ltb-false, le-ltb}
use Rattle.octets.proofs.Agree.{Hangs, hangs_none, hangs_as, hangs_from, hangs_then}
use Rattle.laws.proofs.Cases.{cond_with, clash}
use Rattle.answers.specs.declared.Refusal.{Refusal}
use Rattle.answers.specs.Answers.{refusal_number, refusal_place}
use Rattle.answers.specs.declared.Refusal.TheVariants.{Short, BadLength}
use Rattle.field_rules.specs.Field.{Res, ok, no, bind, Field, fields}
use Rattle.field_rules.specs.Part.{span_of}
use Rattle.jpeg_looks.proofs.Look.{fill_at}
use Rattle.page_looks.proofs.Hangs.{reach, Whole, fields_hang}
use Rattle.page_looks.proofs.Fields.{reach_end, Looks, fields_look}

abbrev pub onward : {A : Type 0} → Res A → ℕ → (A → ℕ → ℕ) → ℕ
onward (ok x n) looked go = go x n
onward (no a) looked go = looked

-- ---- from the place of a refusal on: the widest field of its kind, of a length up to the end of the ident, and in a JPEG body up to its end

-- by number, from BadMark to Trailing; of Short nothing is said, and reading gives none of the others a place
abbrev widest : List ℕ
widest = 4 ∷ 6 ∷ 1 ∷ 1 ∷ 1 ∷ 65525 ∷ 4 ∷ 1 ∷ 8 ∷ 65532 ∷ 1 ∷ []

unfoldable pub beyond : Refusal → ℕ
unfolding refusal_number
beyond a = get_or (0 ∷ 0 ∷ widest) (refusal_number a) 0

pub record Near (a : Refusal) (look : ℕ) : Type 0 where
  pub past : refusal_place a < look
  pub most : look ≤ refusal_place a + beyond a

pub near : (p n : ℕ) (a : Refusal) → refusal_place a ≡ p → 1 ≤ n → n ≤ beyond a → Near a (p + n)
near p n a e l g = record { past = omega arith; most = omega arith }

-- the number of BadLayer
abbrev bad_layer : ℕ
bad_layer = 11

-- the place of a marker of a JPEG layer is the first FF of its run
unfoldable pub fill_by : List ℕ → Refusal → ℕ
unfolding refusal_number
fill_by s a = cond (eqb (refusal_number a) bad_layer) (fill_at s (refusal_place a)) 0

pub record Nearby (s : List ℕ) (a : Refusal) (look : ℕ) : Type 0 where
  pub past : refusal_place a < look
  pub most : look ≤ refusal_place a + (fill_by s a + beyond a)

pub nearby : (s : List ℕ) (a : Refusal) (look : ℕ) → Near a look → Nearby s a look
nearby s a look k = let l = k.past in let m = k.most in record { past = l; most = omega arith }

-- a length that depends on the ident behind it: two octets and four
pub near_length : (p : ℕ) → Near (BadLength p) (p + 6)
unfolding refusal_place beyond
near_length p = near p 6 (BadLength p) refl (lit≤ tt) (lit≤ tt)

-- a table's looks, one behind another
infixr 4 ◌&◌
pub ◌&◌ : {A B : Type 0} → A → B → A × B
a & b = (a, b)

pub record Looked {A : Type 0} (look : ℕ) (read : List ℕ → Res A) (s : List ℕ) (at : ℕ) : Type 0 where
  pub hangs : Hangs look read s at
  pub ends : (x : A) (n : ℕ) → read s ≡ ok x n → look ≡ n
  pub near : (a : Refusal) → read s ≡ no a → Nearby s a look

module _ (s : List ℕ) where
  pub looked_ok : {A : Type 0} (x : A) (n : ℕ) → n ≤ length s → Looked n (λ (t : List ℕ). ok x n) s n
  looked_ok x n h = record { hangs = hangs_none s (ok x n) n n (omega arith) h; ends = λ y m e. cc; near = λ a e. clash cc }

  pub looked_no : {A : Type 0} (a : Refusal) (look at : ℕ) → at ≤ look → look ≤ length s → Nearby s a look → Looked {A = A} look (λ (t : List ℕ). no a) s at
  looked_no a look at h g k =
      record { hangs = hangs_none s (no a) at look h g; ends = λ y m e. clash cc; near = λ b e. let z : a ≡ b = cc in subst (λ (c : Refusal). Nearby s c look) z k }

  pub looked_from : {A : Type 0} (read : List ℕ → Res A) (look at from : ℕ) → from ≤ look → Looked look read s at → Looked look read s from
  looked_from read look at from h k = record { hangs = hangs_from s read look at from h k.hangs; ends = k.ends; near = k.near }

  -- the same in other words
  pub looked_as : {A : Type 0} (read other : List ℕ → Res A) (look at : ℕ) → ((t : List ℕ) → look ≤ length t → other t ≡ read t) → Looked look read s at → Looked look other s at
  looked_as read other look at e k =
      let q = e s k.hangs.inside in
      record {
        hangs = hangs_as s read other look at e k.hangs;
        ends = λ x n z. k.ends x n (sym q ∙ z);
        near = λ a z. k.near a (sym q ∙ z);
      }

  -- first a part that depends on the octets up to d, then the rest
  pub looked_then : {A B : Type 0} (part : List ℕ → B) (on : B → List ℕ → Res A) (b : B) (d look at : ℕ) → part s ≡ b → Hangs d part s at → Looked look (on b) s d
      → Looked look (λ (t : List ℕ). on (part t) t) s at
  looked_then part on b d look at e p k =
      let q = ap (λ c. on c s) e in
      record {
        hangs = hangs_then s part on b d look at e p k.hangs;
        ends = λ x n z. k.ends x n (sym q ∙ z);
        near = λ a z. k.near a (sym q ∙ z);
      }

  -- a test of what is known already
  pub looked_if : {A : Type 0} (b : Bool) (x y : List ℕ → Res A) (l m at : ℕ) → (Whole (x s) → Looked l x s at) → (Whole (y s) → Looked m y s at)
      → Whole (cond b (x s) (y s)) → Looked (cond b l m) (λ (t : List ℕ). cond b (x t) (y t)) s at
  looked_if true x y l m at f g = f
  looked_if false x y l m at f g = g

  -- a test that so many octets are there, where they are
  pub looked_fits : {A : Type 0} (short : Refusal) (rest : List ℕ → Res A) (d look at : ℕ) → at ≤ d → Looked look rest s d
      → Looked look (λ (t : List ℕ). cond (ltb (length t) d) (no short) (rest t)) s at
  looked_fits short rest d look at h k =
      let a = k.hangs.ahead in
      looked_from (λ (t : List ℕ). cond (ltb (length t) d) (no short) (rest t)) look d at (omega arith)
      (looked_as rest (λ (t : List ℕ). cond (ltb (length t) d) (no short) (rest t)) look d
      (λ t l. ap (λ (b : Bool). cond b (no short) (rest t)) (le-ltb (length t) d (omega arith))) k)

  -- a step and the steps after it
  pub looked_bind : {A B : Type 0} (r : List ℕ → Res A) (go : A → ℕ → List ℕ → Res B) (l : ℕ) (look : A → ℕ → ℕ) (at : ℕ) → (Whole (r s) → Looked l r s at)
      → ((x : A) (n : ℕ) → at ≤ n → n ≤ length s → r s ≡ ok x n → Whole (go x n s) → Looked (look x n) (go x n) s n)
      → Whole (bind (r s) (λ x n. go x n s)) → Looked (onward (r s) l look) (λ (t : List ℕ). bind (r t) (λ x n. go x n t)) s at
  unfolding bind
  looked_bind {A} {B} r go l look at first next = by (r s) refl
    where
      by : (b : Res A) → r s ≡ b → Whole (bind b (λ x n. go x n s)) → Looked (onward b l look) (λ (t : List ℕ). bind (r t) (λ x n. go x n t)) s at
      by (ok x n) e w =
          let f = first (λ p z. clash cc) in
          let i = f.ends x n e in
          let g = f.hangs.ahead in
          let h = f.hangs.inside in
          looked_then r (λ (b : Res A) (t : List ℕ). bind b (λ y m. go y m t)) (ok x n) l (look x n) at e f.hangs
          (subst (Looked (look x n) (go x n) s) (sym i) (next x n (omega arith) (omega arith) e w))
      by (no a) e w =
          let f = first (λ p z. w p cc) in
          looked_then r (λ (b : Res A) (t : List ℕ). bind b (λ y m. go y m t)) (no a) l l at e f.hangs (looked_no a l l (omega arith) f.hangs.inside (f.near a e))

  -- a step whose value is said in other words
  pub looked_map : {A B : Type 0} (r : List ℕ → Res A) (f : A → B) (l at : ℕ) → (Whole (r s) → Looked l r s at) → Whole (bind (r s) (λ x n. ok (f x) n))
      → Looked l (λ (t : List ℕ). bind (r t) (λ x n. ok (f x) n)) s at
  unfolding bind
  looked_map {A} {B} r f l at first = by (r s) refl
    where
      by : (b : Res A) → r s ≡ b → Whole (bind b (λ x n. ok (f x) n)) → Looked l (λ (t : List ℕ). bind (r t) (λ x n. ok (f x) n)) s at
      by (ok x n) e w =
          let k = first (λ p z. clash cc) in
          let i = k.ends x n e in
          let h = k.hangs.inside in
          looked_then r (λ (b : Res A) (t : List ℕ). bind b (λ y m. ok (f y) m)) (ok x n) l l at e k.hangs
          (subst (λ (j : ℕ). Looked j (λ (t : List ℕ). ok (f x) n) s j) (sym i) (looked_ok (f x) n (omega arith)))
      by (no a) e w =
          let k = first (λ p z. w p cc) in
          looked_then r (λ (b : Res A) (t : List ℕ). bind b (λ y m. ok (f y) m)) (no a) l l at e k.hangs (looked_no a l l (omega arith) k.hangs.inside (k.near a e))

  -- ---- the steps

  pub looked_span : (at n : ℕ) → Whole (span_of s at n) → Looked (at + n) (λ (t : List ℕ). span_of t at n) s at
  unfolding span_of
  looked_span at n =
      cond_with (λ (x : Res ℕ). Whole x → Looked (at + n) (λ (t : List ℕ). span_of t at n) s at) (ltb (length s) (at + n)) (λ l w. absurd (w at refl)) λ l w.
      looked_fits (Short at) (λ (t : List ℕ). ok n (at + n)) (at + n) (at + n) at (omega arith) (looked_ok n (at + n) (ltb-false (length s) (at + n) l))

  pub looked_fields : (table : List Field) (at : ℕ) → at ≤ length s → Looks Near at table → Whole (fields table [] s at)
      → Looked (reach table [] s at) (λ (t : List ℕ). fields table [] t at) s at
  looked_fields table at h k w =
      record {
        hangs = fields_hang table [] s at h w;
        ends = λ x n e. reach_end x s n table [] at e;
        near = λ a e. nearby s a (reach table [] s at) (fields_look Near s a (λ p z. w p (e ∙ ap no z)) table [] at k e);
      }
