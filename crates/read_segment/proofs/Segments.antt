-- A segment behind the start: for each way out of its reader one law.
-- Assumes nothing.
use Rattle.std.specs.Prelude.{Result, Ok, Err}
use Prim.Native.Nat.{ℕ, suc, ◌+◌, ◌-◌, ◌≤◌, ◌<◌}
use native.Mathlib.Omega.{arith}
use mathlib.Core.Path.{◌≡◌, refl, sym, ap, ◌∙◌}
use mathlib.Core.Bool.{Bool, true, false, ◌&&◌, ◌||◌, not, cond, and_assoc}
use mathlib.Core.Logic.{⊎_elim}
use mathlib.Core.List.{List, [], ◌∷◌}
use lib.ListN.{length, get_or, drop}
use lib.Dec.{leb, eqb}
use borrow.Author.Rules.{rules}
use borrow.Author.Tests.{leb-true, leb-false, lt-ltb, le-ltb, le-leb, eq-eqb, ne_eqb}
use Rattle.laws.proofs.Cases.{bool_else, clash}
use Rattle.octets.specs.Octets.{be16_at, begins, stands_at}
use Rattle.octets.proofs.Laws.{drop_octet}
use Rattle.answers.specs.declared.Refusal.TheVariants.{Short, BadMark, BadLength, BadStripe}
use Rattle.field_rules.specs.Field.{Res, ok, no, bind, one, numbers, fields}
use Rattle.field_rules.specs.Part.{span_of}
use Rattle.segment_rules.specs.declared.Version.{Version}
use Rattle.segment_rules.specs.declared.Version.TheVariants.{Base}
use Rattle.segment_rules.specs.Rules.{longest_page}
use Rattle.segment_rules.specs.Segment.{sized, length_ok, mrc, open_table, behind_of, segment_of}
use Rattle.page_rules.specs.Reading.{ident_ok, due_with}
use Rattle.read_segment.specs.declared.Segment.{Segment}
use Rattle.read_segment.specs.declared.Segment.TheVariants.{Stripe, Optional}
use Rattle.read_segment.specs.Segments.{Marked, Behind, view_of, optional_at, on_span, stripe_at, behind as behind_in, ident_of, length_of}
use Rattle.answers.specs.declared.Refusal.{Refusal}

-- ---- length_ok
pub length_by : (version : Version) (size : ℕ) → leb 6 size ≡ length_ok version size
length_by Base size = refl

-- ---- is_optional and skip
pub optional_made : (k : ℕ) (s : List ℕ) (at n : ℕ) (b : Bool) → n ≡ get_or s (at + 3) 0 → b ≡ stands_at s at (0x4D ∷ 0x52 ∷ 0x43 ∷ [])
    → b && (eqb k 0 && (leb 3 n && leb n 0xFE)) ≡ optional_at k s at
unfolding optional_at
optional_made k s at n b e f = simp (e, f)

pub skip_whole : (s : List ℕ) (at body : ℕ) (b : Bool) → b ≡ leb (at + body) (length s) → b ≡ true → Ok (Optional (at + body)) ≡ on_span (span_of s at body)
unfolding span_of on_span
skip_whole s at body b e y = simp (le-ltb (length s) (at + body) (leb-true _ _ (sym e ∙ y)))

pub skip_cut : (s : List ℕ) (at body : ℕ) (b : Bool) → b ≡ leb (at + body) (length s) → b ≡ false → Err (Short at) ≡ on_span (span_of s at body)
unfolding span_of on_span
skip_cut s at body b e y = simp (lt-ltb (length s) (at + body) (leb-false _ _ (sym e ∙ y)))

-- ---- an ident, octet by octet
begins_step : (s : List ℕ) (at w : ℕ) (ws : List ℕ) → at < length s → begins (drop at s) (w ∷ ws) ≡ eqb (get_or s at 0) w && begins (drop (at + 1) s) ws
unfolding begins
begins_step s at w ws h = rw (drop_octet s at h) refl

spread : (a b c d e : Bool) → a && b && c && (d || e) ≡ a && (b && (c && (d && true))) || a && (b && (c && true)) && e
spread false b c d e = refl
spread true false c d e = refl
spread true true false d e = refl
spread true true true true e = refl
spread true true true false e = refl

stands_three : (s : List ℕ) (at x y z : ℕ) (more : List ℕ) → at + 3 + length more ≤ length s
    → stands_at s at (x ∷ y ∷ z ∷ more) ≡ eqb (get_or s at 0) x && (eqb (get_or s (at + 1) 0) y && (eqb (get_or s (at + 1 + 1) 0) z && begins (drop (at + 1 + 1 + 1) s) more))
unfolding stands_at
stands_three s at x y z more h =
    simp (le-leb (at + suc (suc (suc (length more)))) (length s) (omega arith))
    (begins_step s at x (y ∷ z ∷ more) (omega arith)
    ∙ ap (λ (b : Bool). eqb (get_or s at 0) x && b)
    (begins_step s (at + 1) y (z ∷ more) (omega arith)
    ∙ ap (λ (b : Bool). eqb (get_or s (at + 1) 0) y && b) (begins_step s (at + 1 + 1) z more (omega arith))))

abbrev ident_at : ℕ → List ℕ → ℕ → Bool
ident_at k s at = mrc (ident_ok k) [] (numbers (one ∷ one ∷ one ∷ one ∷ []) s at)

ident_spread : (k : ℕ) (s : List ℕ) (at : ℕ) → at + 4 ≤ length s → ident_at k s at ≡ stands_at s at (0x4D ∷ 0x52 ∷ 0x43 ∷ 0x01 ∷ []) || optional_at k s at
unfolding numbers optional_at begins
ident_spread k s at h =
    let p : at + 3 ≡ at + 1 + 1 + 1 = omega arith in
    rw (
      stands_three s at 0x4D 0x52 0x43 (0x01 ∷ []) (omega arith),
      stands_three s at 0x4D 0x52 0x43 [] (omega arith),
      p,
      begins_step s (at + 1 + 1 + 1) 0x01 [] (omega arith),
    )
    (spread (eqb (get_or s at 0) 0x4D) (eqb (get_or s (at + 1) 0) 0x52) (eqb (get_or s (at + 1 + 1) 0) 0x43) (eqb (get_or s (at + 1 + 1 + 1) 0) 0x01) (eqb k 0 && (leb 3 (get_or s (at + 1 + 1 + 1) 0) && leb (get_or s (at + 1 + 1 + 1) 0) 0xFE)))

third : (a b c d : Bool) → a && (b && (c && d)) ≡ true → c ≡ true
third true true true d e = refl
third true true false d e = e
third true false c d e = clash cc
third false b c d e = clash cc

-- the last octet of the ident of a stripe, and that of an optional segment is another
one_last : (s : List ℕ) (at : ℕ) → at + 4 ≤ length s → stands_at s at (0x4D ∷ 0x52 ∷ 0x43 ∷ 0x01 ∷ []) ≡ true → eqb (get_or s (at + 1 + 1 + 1) 0) 0x01 ≡ true
unfolding begins
one_last s at h e =
    third (eqb (get_or s at 0) 0x4D && eqb (get_or s (at + 1) 0) 0x52) (eqb (get_or s (at + 1 + 1) 0) 0x43) (eqb (get_or s (at + 1 + 1 + 1) 0) 0x01) true
    (and_assoc (eqb (get_or s at 0) 0x4D) (eqb (get_or s (at + 1) 0) 0x52) _
    ∙ ap (λ (b : Bool). eqb (get_or s at 0) 0x4D && (eqb (get_or s (at + 1) 0) 0x52 && (eqb (get_or s (at + 1 + 1) 0) 0x43 && b))) (sym (begins_step s (at + 1 + 1 + 1) 0x01 [] (omega arith)))
    ∙ sym (stands_three s at 0x4D 0x52 0x43 (0x01 ∷ []) (omega arith)) ∙ e)

not_one_last : (k : ℕ) (s : List ℕ) (at : ℕ) → optional_at k s at ≡ true → eqb (get_or s (at + 1 + 1 + 1) 0) 0x01 ≡ false
unfolding optional_at
not_one_last k s at e =
    let p : at + 3 ≡ at + 1 + 1 + 1 = omega arith in
    let x = third (stands_at s at (0x4D ∷ 0x52 ∷ 0x43 ∷ [])) (eqb k 0) (leb 3 (get_or s (at + 3) 0)) (leb (get_or s (at + 3) 0) 0xFE) e in
    let n = leb-true 3 (get_or s (at + 3) 0) x in
    ap (λ (j : ℕ). eqb (get_or s j 0) 0x01) (sym p) ∙ ne_eqb (get_or s (at + 3) 0) 0x01 (λ q. omega arith)

-- ---- stripe_at
pub stripe_many : (k body at size : ℕ) → k ≡ 64 → Err (BadStripe at) ≡ stripe_at k body at size
unfolding stripe_at
stripe_many k body at size e = simp (eq-eqb k 64 e)

pub stripe_other : (k body at size : ℕ) → (k ≡ 64 → ⊥) → (size - 6 ≡ body → ⊥) → Err (BadLength (at - 2)) ≡ stripe_at k body at size
unfolding stripe_at
stripe_other k body at size n d = simp (ne_eqb k 64 n, ne_eqb (size - 6) body d)

pub stripe_begun : (k body at size : ℕ) → (k ≡ 64 → ⊥) → size - 6 ≡ body → Ok (Stripe (at + 4)) ≡ stripe_at k body at size
unfolding stripe_at
stripe_begun k body at size n e = simp (ne_eqb k 64 n, eq-eqb (size - 6) body e)

-- ---- by_ident

-- a body that is passed over, of an ident that is no stripe's
over_view : (n : ℕ) → eqb n 0x01 ≡ false → (x : Res ℕ) → on_span x ≡ view_of (bind x (λ (m e : ℕ). ok n e))
unfolding view_of on_span bind
over_view n f (ok m e) = simp f
over_view n f (no a) = refl

-- a body of its own, of the ident of a stripe
own_view : (n : ℕ) → eqb n 0x01 ≡ true → (k body at size : ℕ) (s vs : List ℕ) (go : List ℕ → ℕ → Res ℕ)
    → go vs (at + 4) ≡ behind_of (sized body) n (size - 6) (at - 2) s (at + 4)
    → stripe_at k body at size ≡ view_of (bind (cond (not (eqb k 64)) (ok vs (at + 4)) (no (BadStripe (at + 4 - 4)))) go)
unfolding stripe_at view_of behind_of bind
own_view n f k body at size s vs go g =
    let p : at + 4 - 4 ≡ at = omega arith in
    ⊎_elim (λ (t : eqb k 64 ≡ true). simp (t, p))
    (λ (t : eqb k 64 ≡ false).
    ⊎_elim (λ (u : eqb (size - 6) body ≡ true). simp (t, g, u, f)) (λ (u : eqb (size - 6) body ≡ false). simp (t, g, u)) (bool_else (eqb (size - 6) body)))
    (bool_else (eqb k 64))

module _ (k body : ℕ) (s : List ℕ) (at size : ℕ) {f : Bool} (e : f ≡ leb (at + 4) (length s)) where
  pub ident_cut : f ≡ false → Err (Short at) ≡ ident_of k body s at size
  unfolding ident_of fields
  ident_cut y = simp (lt-ltb (length s) (at + 4) (leb-false _ _ (sym e ∙ y)))

  module _ (y : f ≡ true) {b : Bool} (t : b ≡ stands_at s at (0x4D ∷ 0x52 ∷ 0x43 ∷ 0x01 ∷ [])) where
    room : at + 4 ≤ length s
    room = leb-true _ _ (sym e ∙ y)

    pub ident_stripe : {r : Result Segment Refusal} → b ≡ true → r ≡ stripe_at k body at size → r ≡ ident_of k body s at size
    unfolding ident_of fields bind numbers
    ident_stripe z h =
        let x = sym t ∙ z in
        let l = one_last s at room x in
        let m : ident_at k s at ≡ true = ident_spread k s at room ∙ ap (λ (q : Bool). q || optional_at k s at) x in
        h ∙ own_view (get_or s (at + 1 + 1 + 1) 0) l k body at size s (size ∷ numbers (one ∷ one ∷ one ∷ one ∷ []) s at) (behind_in (due_with body k) (at - 2) s) (simp l) ∙ sym (simp (le-ltb (length s) (at + 4) room, m) (simp l))

    module _ (z : b ≡ false) {o : Bool} (u : o ≡ optional_at k s at) where
      ident_is : ident_at k s at ≡ o
      ident_is = ident_spread k s at room ∙ ap (λ (q : Bool). q || optional_at k s at) (sym t ∙ z) ∙ sym u

      pub ident_optional : {r : Result Segment Refusal} → o ≡ true → r ≡ on_span (span_of s (at + 4) (size - 6)) → r ≡ ident_of k body s at size
      unfolding ident_of fields bind behind_of
      ident_optional w g =
          let l = not_one_last k s at (sym u ∙ w) in
          g ∙ over_view (get_or s (at + 1 + 1 + 1) 0) l (span_of s (at + 4) (size - 6)) ∙ sym (simp (le-ltb (length s) (at + 4) room, ident_is ∙ w) (simp l))

      pub ident_other : o ≡ false → Err (BadMark at) ≡ ident_of k body s at size
      unfolding ident_of fields
      ident_other w = simp (le-ltb (length s) (at + 4) room, ident_is ∙ w)

pub skip_near : (at size : ℕ) → Behind at size → size < 65536 → at + 4 + (size - 6) < 4294967296
skip_near at size h l = let n = h.near in omega arith

-- ---- by_length
module _ (version : Version) (k body : ℕ) (s : List ℕ) (at : ℕ) {f : Bool} (e : f ≡ leb (at + 2) (length s)) where
  pub length_cut : f ≡ false → Err (Short at) ≡ length_of version k body s at
  unfolding length_of fields
  length_cut y = simp (lt-ltb (length s) (at + 2) (leb-false _ _ (sym e ∙ y)))

  module _ (y : f ≡ true) {size : ℕ} (q : size ≡ be16_at s at) {b : Bool} (t : b ≡ length_ok version size) where
    long : at + 2 ≤ length s
    long = leb-true _ _ (sym e ∙ y)

    told : length_ok version (be16_at s at) ≡ b
    told = ap (length_ok version) (sym q) ∙ sym t

    pub length_small : b ≡ false → Err (BadLength at) ≡ length_of version k body s at
    unfolding length_of fields
    length_small l = simp (le-ltb (length s) (at + 2) long, told ∙ l)

    pub length_ident : {r : Result Segment Refusal} → b ≡ true → r ≡ ident_of k body s (at + 2) size → r ≡ length_of version k body s at
    unfolding length_of fields ident_of
    length_ident l h =
        let p : at + 2 - 2 ≡ at = omega arith in
        h ∙ rw (q, p) (simp (le-ltb (length s) (at + 2) long, told ∙ l))

-- ---- segment_at
module _ (version : Version) (k body : ℕ) (s : List ℕ) (at : ℕ) (d : Marked s at) {m : Bool} (u : m ≡ stands_at s at (0xFF ∷ 0xED ∷ [])) where
  pub segment_stray : m ≡ false → Err (BadMark at) ≡ view_of (segment_of version (due_with body k) s at)
  unfolding segment_of open_table fields bind view_of
  segment_stray w = simp (le-ltb (length s) (at + 2) d.seen, sym u ∙ w)

  pub segment_marked : {r : Result Segment Refusal} → m ≡ true → r ≡ length_of version k body s (at + 2) → r ≡ view_of (segment_of version (due_with body k) s at)
  unfolding segment_of open_table fields length_of
  segment_marked w h = h ∙ simp (le-ltb (length s) (at + 2) d.seen, sym u ∙ w)

long_six : (version : Version) (size : ℕ) → length_ok version size ≡ true → 6 ≤ size
long_six Base size e = leb-true 6 size e

pub behind : (version : Version) (at size : ℕ) {b : Bool} → (2 ≤ at) × (at ≤ longest_page + 2) → b ≡ length_ok version size → b ≡ true → Behind (at + 2) size
behind version at size h t l = let n = h.1 in record { far = omega arith; near = omega arith; long = long_six version size (sym t ∙ l) }

pub ruleset segment_laws = (rules, length_by, optional_made, skip_whole, skip_cut, stripe_many, stripe_other, stripe_begun, ident_cut, ident_stripe, ident_optional, ident_other, skip_near, behind, length_cut, length_small, length_ident, segment_stray, segment_marked)
