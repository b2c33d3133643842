-- Two lines of one slice laid in one pass: parts one behind the other, one pixel of each, four of each, sixteen of each.
-- Assumes nothing.
use Prim.Native.Nat.{ℕ, ◌+◌, ◌-◌, ◌*◌, ◌≤◌, ◌<◌}
use native.Mathlib.Omega.{arith}
use mathlib.Core.Path.{◌≡◌, refl, sym, ap, ap₂, subst, ◌∙◌}
use mathlib.Core.Logic.{⊎_elim}
use mathlib.Core.Bool.{cond}
use mathlib.Core.List.{List}
use lib.ListN.{length, get_or}
use lib.Dec.{eqb}
use borrow.Author.Rules.{rules}
use Rattle.laws.proofs.Says.{says_lt, says_else}
use Rattle.octets.specs.Octets.{put_at}
use Rattle.paint_words.specs.Words.{octets_of, four_from}
use Rattle.paint_coat.specs.Coat.{Coated, over}
use Rattle.paint_coat.proofs.Coats.{four_same}
use Rattle.band_mix.specs.Mix.{copied_from, line_from, chosen_from, TwoLaid, TwoPart, TwoMixed, Source}
use Rattle.band_mix.proofs.Laws.{cond_octets, put_one, four_copied}

-- ---- parts

module _ (lo hi : ℕ → List ℕ) (a b : ℕ) where
  two_none : (l : List ℕ) (p : ℕ) → TwoLaid lo hi a b p p l l
  two_none l p =
      record {
        long = refl;
        low = λ x h k. absurd (omega arith);
        up = λ x h k. absurd (omega arith);
        before = λ i h. refl;
        between = λ i h k. refl;
        behind = λ i h. refl;
      }

  two_chain : (l e g : List ℕ) (p i q : ℕ) → a + q ≤ b → p ≤ i → i ≤ q → TwoLaid lo hi a b p i l e → TwoLaid lo hi a b i q e g → TwoLaid lo hi a b p q l g
  two_chain l e g p i q d h₁ h₂ c k =
      record {
        long = k.long ∙ c.long;
        low = λ x r s. ⊎_elim
            (λ (z : x < i). four_same e g ((a + x) * 4) (λ j u v. k.before j (omega arith)) ∙ c.low x r z)
            (λ (z : x < i → ⊥). k.low x (omega arith) s)
            (says_else (says_lt x i));
        up = λ x r s. ⊎_elim
            (λ (z : x < i). four_same e g ((b + x) * 4) (λ j u v. k.between j (omega arith) (omega arith)) ∙ c.up x r z)
            (λ (z : x < i → ⊥). k.up x (omega arith) s)
            (says_else (says_lt x i));
        before = λ j h. k.before j (omega arith) ∙ c.before j h;
        between = λ j u v. k.between j u (omega arith) ∙ c.between j (omega arith) v;
        behind = λ j h. k.behind j h ∙ c.behind j (omega arith);
      }

  -- one line, and then the other
  two_coats : (f g : ℕ → List ℕ) (l o e : List ℕ) (p q : ℕ) → a + q ≤ b → Coated (over f) l (a + p) (a + q) o → Coated (over g) o (b + p) (b + q) e
      → ((x : ℕ) → p ≤ x → x < q → f (a + x) ≡ lo x) → ((x : ℕ) → p ≤ x → x < q → g (b + x) ≡ hi x) → TwoLaid lo hi a b p q l e
  unfolding over
  two_coats f g l o e p q d c k u v =
      record {
        long = k.long ∙ c.long;
        low = λ x r s. four_same o e ((a + x) * 4) (λ j y z. k.before j (omega arith)) ∙ c.there (a + x) (omega arith) (omega arith) ∙ u x r s;
        up = λ x r s. k.there (b + x) (omega arith) (omega arith) ∙ v x r s;
        before = λ i h. k.before i (omega arith) ∙ c.before i h;
        between = λ i r s. k.before i s ∙ c.behind i r;
        behind = λ i h. k.behind i h ∙ c.behind i (omega arith);
      }

module _ (lo hi lo' hi' : ℕ → List ℕ) (a b : ℕ) (l e : List ℕ) where
  two_as : (p q : ℕ) → ((x : ℕ) → p ≤ x → x < q → lo x ≡ lo' x) → ((x : ℕ) → p ≤ x → x < q → hi x ≡ hi' x) → TwoLaid lo hi a b p q l e → TwoLaid lo' hi' a b p q l e
  two_as p q u v c =
      record {
        long = c.long;
        low = λ x r s. c.low x r s ∙ u x r s;
        up = λ x r s. c.up x r s ∙ v x r s;
        before = c.before;
        between = c.between;
        behind = c.behind;
      }

  -- the same pixels, counted from s before
  pub two_shift : (s n r : ℕ) → r ≡ s + n → ((x : ℕ) → x < n → lo x ≡ lo' (s + x)) → ((x : ℕ) → x < n → hi x ≡ hi' (s + x)) → TwoLaid lo hi (a + s) (b + s) 0 n l e
      → TwoLaid lo' hi' a b s r l e
  two_shift s n r w u v c =
      record {
        long = c.long;
        low = λ x h k.
            let z : a + x ≡ a + s + (x - s) = omega arith in
            let y : s + (x - s) ≡ x = omega arith in
            ap (λ (i : ℕ). four_from e (i * 4)) z ∙ c.low (x - s) (omega arith) (omega arith) ∙ u (x - s) (omega arith) ∙ ap lo' y;
        up = λ x h k.
            let z : b + x ≡ b + s + (x - s) = omega arith in
            let y : s + (x - s) ≡ x = omega arith in
            ap (λ (i : ℕ). four_from e (i * 4)) z ∙ c.up (x - s) (omega arith) (omega arith) ∙ v (x - s) (omega arith) ∙ ap hi' y;
        before = λ i h. c.before i (omega arith);
        between = λ i h k. c.between i (omega arith) (omega arith);
        behind = λ i h. c.behind i (omega arith);
      }

-- ---- two lines by two masks

-- what a part leaves of the pixels behind it
chosen_same : (lo hi : ℕ → List ℕ) (m : List ℕ) (a b p x y : ℕ) (l o : List ℕ) → TwoLaid lo hi a b p x l o → x ≤ y → a + y < b → chosen_from o m a b y ≡ chosen_from l m a b y
unfolding chosen_from
chosen_same lo hi m a b p x y l o c h k =
    ap₂ (λ (u v : List ℕ). cond (eqb (get_or m y 0) 0) u v)
    (four_same l o ((a + y) * 4) (λ j u v. c.between j (omega arith) (omega arith)))
    (four_same l o ((b + y) * 4) (λ j u v. c.behind j (omega arith)))

module _ (m k : List ℕ) (a b : ℕ) where
  two_more : (l o e : List ℕ) (p x r : ℕ) → a + r ≤ b → p ≤ x → x ≤ r → TwoPart m k a b p x l o → TwoPart m k a b x r o e → TwoPart m k a b p r l e
  two_more l o e p x r d h₁ h₂ c g =
      record {
        done = two_chain (chosen_from l m a b) (chosen_from l k a b) a b l o e p x r d h₁ h₂ c.done
            (two_as (chosen_from o m a b) (chosen_from o k a b) (chosen_from l m a b) (chosen_from l k a b) a b o e x r
            (λ y u v. chosen_same (chosen_from l m a b) (chosen_from l k a b) m a b p x y l o c.done u (omega arith))
            (λ y u v. chosen_same (chosen_from l m a b) (chosen_from l k a b) k a b p x y l o c.done u (omega arith)) g.done);
      }

  two_put : (l o e : List ℕ) (x low up v w : ℕ) → a + (x + 1) ≤ b → (b + (x + 1)) * 4 ≤ length l
      → octets_of low ≡ four_from l ((a + x) * 4) → octets_of up ≡ four_from l ((b + x) * 4)
      → v ≡ cond (eqb (get_or m x 0) 0) low up → w ≡ cond (eqb (get_or k x 0) 0) low up
      → o ≡ put_at l ((a + x) * 4) (octets_of v) → e ≡ put_at o ((b + x) * 4) (octets_of w) → TwoPart m k a b x (x + 1) l e
  unfolding chosen_from
  two_put l o e x low up v w d room ea eb ev ew po pe =
      let za : a + x + 1 ≡ a + (x + 1) = omega arith in
      let zb : b + x + 1 ≡ b + (x + 1) = omega arith in
      let c = put_one (λ (y : ℕ). octets_of v) l o (a + x) v (omega arith) po refl in
      let n = c.long in
      let g = put_one (λ (y : ℕ). octets_of w) o e (b + x) w (omega arith) pe refl in
      record {
        done = two_coats (chosen_from l m a b) (chosen_from l k a b) a b (λ (y : ℕ). octets_of v) (λ (y : ℕ). octets_of w) l o e x (x + 1) d
            (subst (λ (i : ℕ). Coated (over (λ (y : ℕ). octets_of v)) l (a + x) i o) za c)
            (subst (λ (i : ℕ). Coated (over (λ (y : ℕ). octets_of w)) o (b + x) i e) zb g)
            (λ y r s. let z : x ≡ y = omega arith in
            ap octets_of ev ∙ cond_octets (eqb (get_or m x 0) 0) low up ∙ ap₂ (λ (i j : List ℕ). cond (eqb (get_or m x 0) 0) i j) ea eb ∙ ap (chosen_from l m a b) z)
            (λ y r s. let z : x ≡ y = omega arith in
            ap octets_of ew ∙ cond_octets (eqb (get_or k x 0) 0) low up ∙ ap₂ (λ (i j : List ℕ). cond (eqb (get_or k x 0) 0) i j) ea eb ∙ ap (chosen_from l k a b) z);
      }

pub record Pairing (m k : List ℕ) (a b p q : ℕ) (l out : List ℕ) (x : ℕ) : Type 0 where
  pub from : p ≤ x
  pub upto : x ≤ q
  pub apart : a + q ≤ b
  pub room : (b + q) * 4 ≤ length l
  pub long : length out ≡ length l
  pub done : TwoPart m k a b p x l out

module _ (m k : List ℕ) (a b p q : ℕ) (l : List ℕ) where
  pub pairing_begun : p ≤ q → a + q ≤ b → (b + q) * 4 ≤ length l → Pairing m k a b p q l l p
  pairing_begun h d r =
      record {
        from = omega arith;
        upto = h;
        apart = d;
        room = r;
        long = refl;
        done = record { done = two_none (chosen_from l m a b) (chosen_from l k a b) a b l p };
      }

  pub pairing_part : (out new : List ℕ) (x r : ℕ) → x ≤ r → r ≤ q → TwoPart m k a b x r out new → Pairing m k a b p q l out x → Pairing m k a b p q l new r
  pairing_part out new x r h u g c =
      let f = c.from in
      let d = c.apart in
      record {
        from = omega arith;
        upto = u;
        apart = d;
        room = c.room;
        long = g.done.long ∙ c.long;
        done = two_more m k a b l out new p x r (omega arith) f h c.done g;
      }

  pub pairing_put : (out o new : List ℕ) (x low up v w : ℕ) → x < q → Pairing m k a b p q l out x
      → octets_of low ≡ four_from out ((a + x) * 4) → octets_of up ≡ four_from out ((b + x) * 4)
      → v ≡ cond (eqb (get_or m x 0) 0) low up → w ≡ cond (eqb (get_or k x 0) 0) low up
      → o ≡ put_at out ((a + x) * 4) (octets_of v) → new ≡ put_at o ((b + x) * 4) (octets_of w) → Pairing m k a b p q l new (x + 1)
  pairing_put out o new x low up v w h c ea eb ev ew po pe =
      let d = c.apart in
      let r = c.room in
      let n = c.long in
      pairing_part out new x (x + 1) (omega arith) (omega arith) (two_put m k a b out o new x low up v w (omega arith) (omega arith) ea eb ev ew po pe) c

  pub pairing_end : (out : List ℕ) (x : ℕ) → Pairing m k a b p q l out x → q ≤ x → TwoPart m k a b p q l out
  pairing_end out x c h = let u = c.upto in let z : x ≡ q = omega arith in subst (λ (i : ℕ). TwoPart m k a b p i l out) z c.done

pub pairing_all : (m k : List ℕ) (a b n : ℕ) (l out : List ℕ) (x : ℕ) → Pairing m k a b 0 n l out x → n ≤ x → TwoMixed m k a b n l out
unfolding chosen_from
pairing_all m k a b n l out x c h =
    let g = (pairing_end m k a b 0 n l out x c h).done in
    record {
      long = g.long;
      low = λ y u. g.low y (omega arith) u;
      up = λ y u. g.up y (omega arith) u;
      before = λ i u. g.before i (omega arith);
      between = λ i u v. g.between i u (omega arith);
      behind = λ i u. g.behind i u;
    }

pub ruleset pairings = (rules, pairing_begun, pairing_end, pairing_all)

-- ---- four pixels of each, and sixteen

copied_line : (l : List ℕ) (i t x : ℕ) → copied_from l i t (t + x) ≡ line_from l i x
unfolding copied_from line_from
copied_line l i t x = let z : t + x - t ≡ x = omega arith in ap (λ (j : ℕ). four_from l ((i + j) * 4)) z

pub both_laid : (l o n : List ℕ) (x y i j a b c e f g h k : ℕ) → x + 4 ≤ y → (y + 4) * 4 ≤ length l
    → octets_of a ≡ four_from l (i * 4) → octets_of b ≡ four_from l (i * 4 + 4) → octets_of c ≡ four_from l (i * 4 + 8) → octets_of e ≡ four_from l (i * 4 + 12)
    → octets_of f ≡ four_from l (j * 4) → octets_of g ≡ four_from l (j * 4 + 4) → octets_of h ≡ four_from l (j * 4 + 8) → octets_of k ≡ four_from l (j * 4 + 12)
    → o ≡ put_at (put_at (put_at (put_at l (x * 4) (octets_of a)) (x * 4 + 4) (octets_of b)) (x * 4 + 8) (octets_of c)) (x * 4 + 12) (octets_of e)
    → n ≡ put_at (put_at (put_at (put_at o (y * 4) (octets_of f)) (y * 4 + 4) (octets_of g)) (y * 4 + 8) (octets_of h)) (y * 4 + 12) (octets_of k)
    → TwoLaid (line_from l i) (line_from l j) x y 0 4 l n
both_laid l o n x y i j a b c e f g h k d room ea eb ec ee ef eg eh ek po pn =
    let zx : x ≡ x + 0 = omega arith in
    let zy : y ≡ y + 0 = omega arith in
    let p = four_copied l l o x i a b c e (omega arith) ea eb ec ee po in
    let m = p.long in
    let q = four_copied l o n y j f g h k (omega arith) ef eg eh ek pn in
    two_coats (line_from l i) (line_from l j) x y (copied_from l i x) (copied_from l j y) l o n 0 4 d
    (subst (λ (v : ℕ). Coated (over (copied_from l i x)) l v (x + 4) o) zx p)
    (subst (λ (v : ℕ). Coated (over (copied_from l j y)) o v (y + 4) n) zy q) (λ z u v. copied_line l i x z) (λ z u v. copied_line l j y z)

-- of a source line is there what a part has not yet reached
source_kept : (lo hi : ℕ → List ℕ) (x y i s z : ℕ) (l o : List ℕ) → Source x y i → s + z < 16 → TwoLaid lo hi x y 0 s l o → line_from o (i + s) z ≡ line_from l i (s + z)
unfolding line_from
source_kept lo hi x y i s z l o g h c =
    let f = g.from in
    let w : i + (s + z) ≡ i + s + z = omega arith in
    ⊎_elim
    (λ (v : i < y). let d = g.apart v in four_same l o ((i + s + z) * 4) (λ j r t. c.between j (omega arith) (omega arith)))
    (λ (v : i < y → ⊥). four_same l o ((i + s + z) * 4) (λ j r t. c.behind j (omega arith)))
    (says_else (says_lt i y))
    ∙ ap (λ (j : ℕ). four_from l (j * 4)) (sym w)

module _ (x y i j : ℕ) (d : x + 16 ≤ y) (gi : Source x y i) (gj : Source x y j) where
  both_more : (l o e : List ℕ) (s r : ℕ) → r ≡ s + 4 → r ≤ 16 → TwoLaid (line_from l i) (line_from l j) x y 0 s l o
      → TwoLaid (line_from o (i + s)) (line_from o (j + s)) (x + s) (y + s) 0 4 o e → TwoLaid (line_from l i) (line_from l j) x y 0 r l e
  both_more l o e s r w h c k =
      two_chain (line_from l i) (line_from l j) x y l o e 0 s r (omega arith) (omega arith) (omega arith) c
      (two_shift (line_from o (i + s)) (line_from o (j + s)) (line_from l i) (line_from l j) x y o e s 4 r w
      (λ z u. source_kept (line_from l i) (line_from l j) x y i s z l o gi (omega arith) c)
      (λ z u. source_kept (line_from l i) (line_from l j) x y j s z l o gj (omega arith) c) k)

  pub both_blocks : (l o₁ o₂ o₃ e : List ℕ) → TwoLaid (line_from l i) (line_from l j) x y 0 4 l o₁
      → TwoLaid (line_from o₁ (i + 4)) (line_from o₁ (j + 4)) (x + 4) (y + 4) 0 4 o₁ o₂
      → TwoLaid (line_from o₂ (i + 8)) (line_from o₂ (j + 8)) (x + 8) (y + 8) 0 4 o₂ o₃
      → TwoLaid (line_from o₃ (i + 12)) (line_from o₃ (j + 12)) (x + 12) (y + 12) 0 4 o₃ e → TwoLaid (line_from l i) (line_from l j) x y 0 16 l e
  both_blocks l o₁ o₂ o₃ e c₁ c₂ c₃ c₄ =
      both_more l o₃ e 12 16 refl (omega arith) (both_more l o₂ o₃ 8 12 refl (omega arith) (both_more l o₁ o₂ 4 8 refl (omega arith) c₁ c₂) c₃) c₄
