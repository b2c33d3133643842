-- The loops over pixels: one law for each way out, whatever is shown above and below.
-- Assumes nothing.
use Prim.Native.Nat.{ℕ, ◌+◌, ◌-◌, ◌*◌, ◌/◌, ◌%◌, ◌≤◌}
use native.Mathlib.Omega.{arith}
use mathlib.Core.Path.{◌≡◌, refl, sym, ap, ap₂, subst, ◌∙◌}
use mathlib.Core.Bool.{Bool, true, false, cond}
use mathlib.Core.List.{List}
use lib.ListN.{length, get_or}
use lib.Dec.{eqb}
use borrow.Author.Rules.{rules}
use Rattle.laws.proofs.Says.{Says, says_eq, says_and}
use Rattle.octets.specs.Octets.{put_at}
use Rattle.paint_words.specs.Words.{octets_of, four_from, seen_from}
use Rattle.paint_coat.specs.Coat.{Coated, over, kept, flat, four_in, samples_by, chosen_by}
use Rattle.paint_coat.proofs.Coats.{coated_none, coated_chain, coated_put}
use Rattle.paint_choice.specs.Choice.{bits_from}
use Rattle.paint_layer.specs.Layer.{same_four, agreed, agrees}

-- ---- pixels from a on, each made of what stood there

module _ (f : ℕ → List ℕ → List ℕ) (l : List ℕ) (a : ℕ) where
  pub coat_begun : Coated f l a (a + 0) l
  coat_begun = coated_none f l a (a + 0) (omega arith)

  pub coat_more : (out new : List ℕ) (x w v : ℕ) → (a + x) * 4 + 4 ≤ length out → octets_of w ≡ four_from out ((a + x) * 4) → new ≡ put_at out ((a + x) * 4) (octets_of v)
      → octets_of v ≡ f (a + x) (octets_of w) → Coated f l a (a + x) out → Coated f l a (a + (x + 1)) new
  coat_more out new x w v h ew q e c =
      let p = coated_put f out new (a + x) v h q (e ∙ ap (f (a + x)) ew) in
      let z : a + x + 1 ≡ a + (x + 1) = omega arith in
      subst (λ (i : ℕ). Coated f l a i new) z (coated_chain f l out new a (a + x) (a + x + 1) (omega arith) (omega arith) c p)

-- ---- what is put

cond_octets : (z : Bool) (low up : ℕ) → octets_of (cond z low up) ≡ cond z (octets_of low) (octets_of up)
cond_octets true low up = refl
cond_octets false low up = refl

pub chosen_put : (low up : ℕ → List ℕ → List ℕ) (m : List ℕ) (a x : ℕ) (old : List ℕ) (l u v : ℕ) → octets_of l ≡ low (a + x) old → octets_of u ≡ up (a + x) old
    → v ≡ cond (eqb (get_or m x 0) 0) l u → octets_of v ≡ chosen_by (bits_from m a 0) low up (a + x) old
unfolding chosen_by bits_from
chosen_put low up m a x old l u v p q e =
    let z : x ≡ 0 + (a + x - a) = omega arith in
    ap octets_of e ∙ cond_octets (eqb (get_or m x 0) 0) l u
    ∙ ap₂ (λ (i j : List ℕ). cond (eqb (get_or m x 0) 0) i j) p q
    ∙ ap (λ (i : ℕ). cond (eqb (get_or m i 0) 0) (low (a + x) old) (up (a + x) old)) z

-- two numbers agree exactly if their octets do
word_back : (w : ℕ) → w % 256 + w / 256 % 256 * 256 + w / 65536 % 256 * 65536 + w / 16777216 * 16777216 ≡ w
word_back w = omega arith

-- two numbers are equal exactly if their octets are
same_says : (low up : ℕ) → Says (same_four (octets_of low) (octets_of up)) (low ≡ up)
unfolding same_four octets_of
same_says low up =
    let k = says_and
    (says_and
    (says_and (says_eq (low % 256) (up % 256)) (says_eq (low / 256 % 256) (up / 256 % 256)))
    (says_eq (low / 65536 % 256) (up / 65536 % 256)))
    (says_eq (low / 16777216) (up / 16777216)) in
    record {
      told = λ e.
          let f = k.told e in
          let a = f.0.0.0 in
          let b = f.0.0.1 in
          let c = f.0.1 in
          let d = f.1 in
          let l = word_back low in
          let u = word_back up in
          cc;
      shown = λ e. k.shown (((ap (λ (w : ℕ). w % 256) e, ap (λ (w : ℕ). w / 256 % 256) e), ap (λ (w : ℕ). w / 65536 % 256) e), ap (λ (w : ℕ). w / 16777216) e);
    }

same_tests : {P : Type 0} (a b : Bool) → Says a P → Says b P → a ≡ b
same_tests true b p q = sym (q.shown (p.told refl))
same_tests false true p q = p.shown (q.told refl)
same_tests false false p q = refl

agreed_word : (low up u : ℕ) → octets_of (cond (eqb low up) up u) ≡ agreed (octets_of up) (octets_of u) (octets_of low)
unfolding agreed
agreed_word low up u =
    cond_octets (eqb low up) up u ∙ ap (λ (z : Bool). cond z (octets_of up) (octets_of u)) (same_tests (eqb low up) (same_four (octets_of low) (octets_of up)) (says_eq low up) (same_says low up))

pub agreed_put : (up : ℕ → List ℕ) (x : ℕ) (old : List ℕ) (l w u v : ℕ) → octets_of l ≡ old → octets_of w ≡ up x → v ≡ cond (eqb l w) w u
    → octets_of v ≡ agrees up (octets_of u) x old
unfolding agrees
agreed_put up x old l w u v p q e =
    ap octets_of e ∙ agreed_word l w u ∙ ap₂ (λ (i j : List ℕ). agreed i (octets_of u) j) q p

pub kept_put : (x w : ℕ) (old : List ℕ) → octets_of w ≡ old → octets_of w ≡ kept x old
unfolding kept
kept_put x w old e = e

pub over_put : (up : ℕ → List ℕ) (x w : ℕ) (old : List ℕ) → octets_of w ≡ up x → octets_of w ≡ over up x old
unfolding over
over_put up x w old e = e

pub flat_put : (x w : ℕ) → octets_of w ≡ flat (octets_of w) x
unfolding flat
flat_put x w = refl

pub three_put : (d : List ℕ) (a i x w : ℕ) → octets_of w ≡ seen_from d (i + x * 3) → octets_of w ≡ samples_by 3 1 d a i (a + x)
unfolding samples_by four_in
three_put d a i x w e = let z : i + x * 3 ≡ i + (a + x - a) / 1 * 3 = omega arith in e ∙ ap (seen_from d) z

-- ---- what the rules put

pub word_hidden : (m : List ℕ) (a x w u r : ℕ) → r ≡ cond (eqb (get_or m x 0) 0) u w → octets_of r ≡ chosen_by (bits_from m a 0) (over (flat (octets_of u))) kept (a + x) (octets_of w)
word_hidden m a x w u r e =
    chosen_put (over (flat (octets_of u))) kept m a x (octets_of w) u w r (over_put (flat (octets_of u)) (a + x) u (octets_of w) (flat_put (a + x) u)) (kept_put (a + x) w (octets_of w) refl) e

pub up_picked : (up : ℕ → List ℕ) (m : List ℕ) (a x w v r : ℕ) → octets_of v ≡ up (a + x) → r ≡ cond (eqb (get_or m x 0) 0) w v
    → octets_of r ≡ chosen_by (bits_from m a 0) kept (over up) (a + x) (octets_of w)
up_picked up m a x w v r o e = chosen_put kept (over up) m a x (octets_of w) w v r (kept_put (a + x) w (octets_of w) refl) (over_put up (a + x) v (octets_of w) o) e

pub up_agreed : (up : ℕ → List ℕ) (a x w u v r : ℕ) → octets_of v ≡ up (a + x) → r ≡ cond (eqb w v) v u → octets_of r ≡ agrees up (octets_of u) (a + x) (octets_of w)
up_agreed up a x w u v r o e = agreed_put up (a + x) (octets_of w) w v u r refl o e

pub ruleset putting = (rules, word_hidden, up_picked, up_agreed)
