-- One law for each way out of the functions that show floors: its premises are what is known there.
-- Assumes nothing.
use Prim.Native.Nat.{ℕ, zero, suc, ◌+◌, ◌-◌, ◌*◌, ◌≤◌, ◌<◌}
use native.Mathlib.Omega.{arith}
use mathlib.Core.Path.{◌≡◌, refl, sym, ap, ap₂, subst, ◌∙◌}
use mathlib.Core.Logic.{◌≢◌, ⊎_elim}
use mathlib.Core.Bool.{Bool, true, false, cond}
use mathlib.Core.List.{List}
use lib.ListN.{length, get_or}
use lib.Dec.{eqb}
use borrow.Author.Tests.{eq-eqb, ne_eqb}
use borrow.Author.Rules.{rules}
use Rattle.laws.proofs.Says.{says_eq, says_else}
use Rattle.line_fetch.specs.declared.Row.{Row}
use Rattle.line_fetch.specs.Rows.{row_size, row_at, ImageFits}
use Rattle.line_pixel.specs.Rows.{RowsFit}
use Rattle.paint_rules.specs.Floor.{dark, chosen}
use Rattle.paint_words.specs.Words.{octets_of, four_from}
use Rattle.paint_coat.specs.Coat.{Coated, over, flat}
use Rattle.paint_coat.proofs.Coats.{coated_none, coated_chain, coated_as}
use Rattle.paint_coat.proofs.Laws.{coat_begun, coat_end}
use Rattle.paint_image.specs.Image.{shown_four, image_from, moved, Plain}
use Rattle.paint_floor.specs.Floors.{PlainRows}
use Rattle.paint_show.specs.Show.{floor_from, shows, picking, picking_floor, picking_other, is_floor, is_lit, Paired, Least, Absent, Begun, Runs}

-- ---- a floor laid

module _ (un s d ns : List ℕ) (c t a b : ℕ) (l e : List ℕ) where
  pub floor_dark : c ≡ dark → Coated (over (flat un)) l t (t + (b - a)) e → Coated (over (moved t a (floor_from un s d ns c))) l t (t + (b - a)) e
  unfolding over flat moved floor_from chosen shown_four
  floor_dark z g =
      coated_as (over (flat un)) (over (moved t a (floor_from un s d ns c))) l e t (t + (b - a)) (λ x o p q. rw (eq-eqb c dark z) refl) g

  pub floor_image : (r : Row) → c ≢ dark → r ≡ row_at ns (c * 2 + 1) → Coated (over (moved t a (image_from un s d r))) l t (t + (b - a)) e
      → Coated (over (moved t a (floor_from un s d ns c))) l t (t + (b - a)) e
  unfolding over moved floor_from chosen image_from
  floor_image r z h g =
      coated_as (over (moved t a (image_from un s d r))) (over (moved t a (floor_from un s d ns c))) l e t (t + (b - a))
      (λ x o p q. rw (ne_eqb c dark z) (ap (λ (w : Row). image_from un s d w (a + (x - t))) h)) g

module _ (s d ns : List ℕ) (pairs c : ℕ) (g : RowsFit s d ns pairs) (k : c ≢ dark → c ≤ pairs) (z : c ≢ dark) where
  row_there : (c : ℕ) → c ≤ pairs → ((c * 2 + 1) * row_size ≤ length ns) × (ImageFits s d (row_at ns (c * 2 + 1)))
  row_there zero h = (let r = g.room in omega arith, g.image)
  row_there (suc c) h = ((g.pair (suc c) (omega arith) h).room, (g.pair (suc c) (omega arith) h).image)

  pub floor_room : (c * 2 + 1) * row_size ≤ length ns
  floor_room = (row_there c (k z)).0

  pub floor_fits : (r : Row) → r ≡ row_at ns (c * 2 + 1) → ImageFits s d r
  floor_fits r h = subst (ImageFits s d) (sym h) (row_there c (k z)).1

pub floor_plain : (ns : List ℕ) (pairs c : ℕ) (r : Row) → PlainRows ns pairs → (c ≢ dark → c ≤ pairs) → c ≢ dark → r ≡ row_at ns (c * 2 + 1) → Plain r
floor_plain ns pairs c r g k z h = subst Plain (sym h) (g.image c (k z))

pub ruleset flooring = (rules, floor_dark, floor_image, floor_room, floor_fits, floor_plain)

-- ---- pixels picked

pub either_up : (v c up low : ℕ) → v ≡ c → up ≡ cond (eqb v c) up low
either_up v c up low e = simp (eq-eqb v c e)

pub either_low : (v c up low : ℕ) → (v ≡ c → ⊥) → low ≡ cond (eqb v c) up low
either_low v c up low n = simp (ne_eqb v c n)

cond_octets : (z : Bool) (up low : ℕ) → octets_of (cond z up low) ≡ cond z (octets_of up) (octets_of low)
cond_octets true up low = refl
cond_octets false up low = refl

pub word_picked : (sel row out : List ℕ) (i c x p low up w : ℕ) → octets_of low ≡ four_from out (p * 4) → octets_of up ≡ four_from row ((p - x) * 4)
    → w ≡ cond (eqb (get_or sel (i + (p - x)) 0) c) up low → octets_of w ≡ picking sel i c row x p (four_from out (p * 4))
unfolding picking
word_picked sel row out i c x p low up w a b e =
    ap octets_of e ∙ cond_octets (eqb (get_or sel (i + (p - x)) 0) c) up low
    ∙ ap₂ (λ (m n : List ℕ). cond (eqb (get_or sel (i + (p - x)) 0) c) m n) b a

pub ruleset eithers = (rules, either_up, either_low)

pub ruleset pickings = (rules, coat_begun, coat_end)

-- ---- a floor picked

module _ (un s d ns sel : List ℕ) (a v c x e : ℕ) (ax : a ≤ x) where
  pub floor_same : (l : List ℕ) → c ≡ v → Coated (picking_other un s d ns sel a v c) l x e l
  unfolding picking_other
  floor_same l z = record { long = refl; there = λ y p q. sym (rw (eq-eqb c v z) refl); before = λ i h. refl; behind = λ i h. refl }

  other_is : (y : ℕ) (o : List ℕ) → c ≢ v → picking_floor un s d ns sel a c y o ≡ picking_other un s d ns sel a v c y o
  unfolding picking_other
  other_is y o n = rw (ne_eqb c v n) refl

  pub floor_absent : (l : List ℕ) (z : Bool) → c ≢ v → (z ≡ false → Absent c sel (x - a) (e - a)) → z ≡ false → Coated (picking_other un s d ns sel a v c) l x e l
  unfolding picking_floor
  floor_absent l z m g n =
      coated_as (picking_floor un s d ns sel a c) (picking_other un s d ns sel a v c) l l x e (λ y o p q. other_is y o m)
      (record {
        long = refl;
        there = λ y p q. sym (rw (ne_eqb (get_or sel (y - a) 0) c ((g n).none (y - a) (omega arith) (omega arith))) refl);
        before = λ i h. refl;
        behind = λ i h. refl;
      })

  pub floor_picked : (l o row₀ row : List ℕ) → c ≢ v → Coated (over (moved 0 x (floor_from un s d ns c))) row₀ 0 (0 + (e - x)) row → Coated (picking sel (x - a) c row x) l x e o
      → Coated (picking_other un s d ns sel a v c) l x e o
  unfolding picking picking_floor over moved
  floor_picked l o row₀ row m g k =
      coated_as (picking sel (x - a) c row x) (picking_other un s d ns sel a v c) l o x e
      (λ y w p q.
      let i : x - a + (y - x) ≡ y - a = omega arith in
      let j : x + (y - x - 0) ≡ y = omega arith in
      let f : four_from row ((y - x) * 4) ≡ floor_from un s d ns c y = g.there (y - x) (omega arith) (omega arith) ∙ ap (floor_from un s d ns c) j in
      ap₂ (λ (m : ℕ) (n : List ℕ). cond (eqb (get_or sel m 0) c) n w) i f ∙ other_is y w m) k

pub ruleset picks = (rules, floor_same, floor_absent, floor_picked)

-- ---- all floors of a part

module _ (un s d ns sel : List ℕ) (a v c x e : ℕ) (o n : List ℕ) (k : Coated (picking_other un s d ns sel a v c) o x e n) (y : ℕ) (p : x ≤ y) (q : y < e) where
  pub picked_here : c ≢ v → get_or sel (y - a) 0 ≡ c → four_from n (y * 4) ≡ floor_from un s d ns (get_or sel (y - a) 0) y
  unfolding picking_other picking_floor
  picked_here m z = k.there y p q ∙ rw (ne_eqb c v m, eq-eqb (get_or sel (y - a) 0) c z) (ap (λ (c : ℕ). floor_from un s d ns c y) (sym z))

  pub kept_here : (get_or sel (y - a) 0 ≡ c → ⊥) → four_from n (y * 4) ≡ four_from o (y * 4)
  unfolding picking_other picking_floor
  kept_here z =
      k.there y p q
      ∙ ⊎_elim (λ (w : c ≡ v). rw (eq-eqb c v w) refl) (λ (w : c ≡ v → ⊥). rw (ne_eqb c v w, ne_eqb (get_or sel (y - a) 0) c z) refl) (says_else (says_eq c v))

  kept_same : c ≡ v → four_from n (y * 4) ≡ four_from o (y * 4)
  unfolding picking_other
  kept_same w = k.there y p q ∙ rw (eq-eqb c v w) refl

pub record Mixing (un s d ns sel : List ℕ) (pairs a x e : ℕ) (told : ℕ → Bool) (l row₀ out row : List ℕ) (c : ℕ) : Type 0 where
  pub upto : c ≤ pairs + 1
  pub long : length out ≡ length l
  pub wide : length row ≡ length row₀
  pub begun : Begun un s d ns sel a x e told out
  pub done : (y : ℕ) → x ≤ y → y < e → get_or sel (y - a) 0 < c → four_from out (y * 4) ≡ floor_from un s d ns (get_or sel (y - a) 0) y
  pub before : (i : ℕ) → i < x * 4 → get_or out i 0 ≡ get_or l i 0
  pub behind : (i : ℕ) → e * 4 ≤ i → get_or out i 0 ≡ get_or l i 0

module _ (un s d ns sel : List ℕ) (pairs a x e : ℕ) (told : ℕ → Bool) (l row₀ : List ℕ) where
  pub mixing_begun : Begun un s d ns sel a x e told l → Mixing un s d ns sel pairs a x e told l row₀ l row₀ 0
  mixing_begun g =
      record { upto = omega arith; long = refl; wide = refl; begun = g; done = λ y p q h. absurd (omega arith); before = λ i h. refl; behind = λ i h. refl }

  pub mixing_from : (f : ℕ) → f ≤ pairs → pairs ≤ 7 → a ≤ x → Least sel (x - a) (e - a) f → Begun un s d ns sel a x e told l → Mixing un s d ns sel pairs a x e told l row₀ l row₀ f
  mixing_from f h few ax k g =
      record {
        upto = omega arith;
        long = refl;
        wide = refl;
        begun = g;
        done = λ y p q z. let w = k.least (y - a) (omega arith) (omega arith) (λ (j : get_or sel (y - a) 0 ≡ dark). omega arith) in absurd (omega arith);
        before = λ i h. refl;
        behind = λ i h. refl;
      }

  module _ (out row : List ℕ) (c : ℕ) (m : Mixing un s d ns sel pairs a x e told l row₀ out row c) where
    pub mixing_more : (v : ℕ) (n new : List ℕ) → (c ≡ v → told c ≡ true) → c ≤ pairs → pairs ≤ 7 → length new ≡ length row → Coated (picking_other un s d ns sel a v c) out x e n
        → Mixing un s d ns sel pairs a x e told l row₀ n new (c + 1)
    mixing_more v n new t h few w g =
        record {
          upto = omega arith;
          long = g.long ∙ m.long;
          wide = w ∙ m.wide;
          begun = record {
            same = λ y p q z. by_floor y p q (λ (i : get_or sel (y - a) 0 ≡ c → ⊥). m.begun.same y p q z);
            dark = λ y p q z. kept_here un s d ns sel a v c x e out n g y p q (λ (j : get_or sel (y - a) 0 ≡ c). omega arith) ∙ m.begun.dark y p q z;
          };
          done = λ y p q k. by_floor y p q (λ (i : get_or sel (y - a) 0 ≡ c → ⊥). m.done y p q (omega arith));
          before = λ i j. g.before i j ∙ m.before i j;
          behind = λ i j. g.behind i j ∙ m.behind i j;
        }
      where
        by_floor : (y : ℕ) → x ≤ y → y < e → ((get_or sel (y - a) 0 ≡ c → ⊥) → four_from out (y * 4) ≡ floor_from un s d ns (get_or sel (y - a) 0) y)
            → four_from n (y * 4) ≡ floor_from un s d ns (get_or sel (y - a) 0) y
        by_floor y p q k = ⊎_elim
            (λ (i : get_or sel (y - a) 0 ≡ c). ⊎_elim
            (λ (j : c ≡ v). kept_same un s d ns sel a v c x e out n g y p q j ∙ m.begun.same y p q (ap told i ∙ t j))
            (λ (j : c ≡ v → ⊥). picked_here un s d ns sel a v c x e out n g y p q j i)
            (says_else (says_eq c v)))
            (λ (i : get_or sel (y - a) 0 ≡ c → ⊥). kept_here un s d ns sel a v c x e out n g y p q i ∙ k i)
            (says_else (says_eq (get_or sel (y - a) 0) c))

    pub mixing_end : Paired sel (x - a) (e - a) pairs → a ≤ x → pairs < c → Coated (shows un s d ns sel a) l x e out
    unfolding shows
    mixing_end k h j =
        record {
          long = m.long;
          there = λ y p q. ⊎_elim
              (λ (z : get_or sel (y - a) 0 ≡ dark). m.begun.dark y p q z)
              (λ (z : get_or sel (y - a) 0 ≡ dark → ⊥). let f = k.few (y - a) (omega arith) (omega arith) z in m.done y p q (omega arith))
              (says_else (says_eq (get_or sel (y - a) 0) dark));
          before = m.before;
          behind = m.behind;
        }

pub some_known : (c pairs : ℕ) → c ≤ pairs → c ≢ dark → c ≤ pairs
some_known c pairs h n = h

pub is_floor_lem : (v c : ℕ) → c ≡ v → is_floor v c ≡ true
unfolding is_floor
is_floor_lem v c e = eq-eqb c v e

floor_is : (v c : ℕ) → is_floor v c ≡ true → c ≡ v
unfolding is_floor
floor_is v c e = (says_eq c v).told e

pub is_lit_lem : (lit : List ℕ) (c v : ℕ) → (v ≡ c → get_or lit c 0 ≡ 1) → c ≡ v → is_lit lit c ≡ true
unfolding is_lit
is_lit_lem lit c v h e = eq-eqb (get_or lit c 0) 1 (h (sym e))

pub ruleset mixings = (rules, mixing_begun, mixing_from, mixing_end, some_known)

module _ (un s d ns sel : List ℕ) (a x e v : ℕ) (l o n m : List ℕ) (g : Coated (over (moved x x (floor_from un s d ns v))) l x (x + (e - x)) o)
    (k : Coated (picking_other un s d ns sel a v dark) o x e n) where
  laid_there : (y : ℕ) → x ≤ y → y < e → four_from o (y * 4) ≡ floor_from un s d ns v y
  unfolding over moved
  laid_there y p q = let j : x + (y - x) ≡ y = omega arith in g.there y p (omega arith) ∙ ap (floor_from un s d ns v) j

  laid_same : (y : ℕ) → x ≤ y → y < e → get_or sel (y - a) 0 ≡ v → four_from o (y * 4) ≡ floor_from un s d ns (get_or sel (y - a) 0) y
  laid_same y p q z = laid_there y p q ∙ ap (λ (c : ℕ). floor_from un s d ns c y) (sym z)

  pub mixed_begun : Begun un s d ns sel a x e (is_floor v) n
  mixed_begun =
      record {
        same = λ y p q w. let z = floor_is v (get_or sel (y - a) 0) w in ⊎_elim
            (λ (i : dark ≡ v). kept_same un s d ns sel a v dark x e o n k y p q i ∙ laid_same y p q z)
            (λ (i : dark ≡ v → ⊥). kept_here un s d ns sel a v dark x e o n k y p q (λ (j : get_or sel (y - a) 0 ≡ dark). i (sym j ∙ z)) ∙ laid_same y p q z)
            (says_else (says_eq dark v));
        dark = λ y p q z. ⊎_elim
            (λ (i : dark ≡ v). kept_same un s d ns sel a v dark x e o n k y p q i ∙ laid_same y p q (z ∙ i))
            (λ (i : dark ≡ v → ⊥). picked_here un s d ns sel a v dark x e o n k y p q i z)
            (says_else (says_eq dark v));
      }

  pub mixed_end : x ≤ e → Coated (shows un s d ns sel a) n x e m → Coated (shows un s d ns sel a) l x e m
  unfolding shows
  mixed_end xe c =
      record {
        long = c.long ∙ k.long ∙ g.long;
        there = λ y p q. c.there y p q;
        before = λ i h. c.before i h ∙ k.before i h ∙ g.before i h;
        behind = λ i h. c.behind i h ∙ k.behind i h ∙ g.behind i (omega arith);
      }

pub first_known : (sel : List ℕ) (a x e pairs : ℕ) → Paired sel (x - a) (e - a) pairs → a ≤ x → x < e → get_or sel (x - a) 0 ≢ dark → get_or sel (x - a) 0 ≤ pairs
first_known sel a x e pairs k h g = k.few (x - a) (omega arith) (omega arith)

pub dark_known : (pairs : ℕ) → dark ≢ dark → dark ≤ pairs
dark_known pairs n = absurd (n refl)

-- ---- the part from its first floor to its last

pub record Showing (un s d ns sel : List ℕ) (a b : ℕ) (l row₀ out row : List ℕ) (i : ℕ) : Type 0 where
  pub upto : i ≤ b - a
  pub long : length out ≡ length l
  pub wide : length row ≡ length row₀
  pub done : Coated (shows un s d ns sel a) l a (a + i) out

module _ (un s d ns sel : List ℕ) (a b : ℕ) (l row₀ : List ℕ) where
  pub showing_begun : Showing un s d ns sel a b l row₀ l row₀ 0
  showing_begun = record { upto = omega arith; long = refl; wide = refl; done = coated_none (shows un s d ns sel a) l a (a + 0) (omega arith) }

  module _ (out row : List ℕ) (i : ℕ) (c : Showing un s d ns sel a b l row₀ out row i) where
    pub showing_mixed : (e : ℕ) (new n : List ℕ) → i < e → e ≤ b - a → length n ≡ length row → Coated (shows un s d ns sel a) out (a + i) (a + e) new → Showing un s d ns sel a b l row₀ new n e
    showing_mixed e new n p q w g =
        record {
          upto = q;
          long = g.long ∙ c.long;
          wide = w ∙ c.wide;
          done = coated_chain (shows un s d ns sel a) l out new a (a + i) (a + e) (omega arith) (omega arith) c.done g;
        }

    pub showing_run : (v q : ℕ) (new : List ℕ) → Runs v sel i (b - a) q → Coated (over (moved (a + i) (a + i) (floor_from un s d ns v))) out (a + i) (a + i + (a + q - (a + i))) new
        → Showing un s d ns sel a b l row₀ new row q
    unfolding over moved shows
    showing_run v q new r g =
        let f = r.from in
        let z : a + i + (a + q - (a + i)) ≡ a + q = omega arith in
        record {
          upto = r.upto;
          long = g.long ∙ c.long;
          wide = c.wide;
          done = coated_chain (shows un s d ns sel a) l out new a (a + i) (a + q) (omega arith) (omega arith) c.done
              (coated_as (over (moved (a + i) (a + i) (floor_from un s d ns v))) (shows un s d ns sel a) out new (a + i) (a + q)
              (λ y o j k.
              let h : a + i + (y - (a + i)) ≡ y = omega arith in
              ap (floor_from un s d ns v) h ∙ ap (λ (m : ℕ). floor_from un s d ns m y) (sym (r.alike.there (y - a) (omega arith) (omega arith))))
              (subst (λ (m : ℕ). Coated (over (moved (a + i) (a + i) (floor_from un s d ns v))) out (a + i) m new) z g));
        }

    pub showing_end : a ≤ b → b - a ≤ i → Coated (shows un s d ns sel a) l a b out
    showing_end h k = let u = c.upto in let z : a + i ≡ b = omega arith in subst (λ (m : ℕ). Coated (shows un s d ns sel a) l a m out) z c.done

pub part_known : (sel : List ℕ) (a b i e pairs : ℕ) → Paired sel 0 (b - a) pairs → e ≤ b - a → Paired sel (a + i - a) (a + e - a) pairs
part_known sel a b i e pairs k h = record { few = λ j p q. k.few j (omega arith) (omega arith) }

pub here_known : (sel : List ℕ) (n i pairs : ℕ) → Paired sel 0 n pairs → i < n → get_or sel i 0 ≢ dark → get_or sel i 0 ≤ pairs
here_known sel n i pairs k h = k.few i (omega arith) h

pub ruleset showing = (rules, showing_begun, showing_end)
