-- One law for each way out of the functions that paint between dark blocks: its premises are what is known there.
-- Assumes nothing.
use Prim.Native.Nat.{ℕ, zero, suc, ◌+◌, ◌-◌, ◌*◌, ◌≤◌, ◌<◌}
use native.Mathlib.Omega.{arith}
use mathlib.Core.Path.{◌≡◌, refl, sym, ap, subst, ◌∙◌}
use mathlib.Core.Logic.{⊎_elim}
use mathlib.Core.Bool.{Bool, true, false, ◌&&◌, not, false≢true}
use mathlib.Core.List.{List}
use lib.ListN.{length, get_or}
use lib.Dec.{eqb}
use borrow.Author.Tests.{eqb-true}
use borrow.Author.Rules.{rules}
use Rattle.laws.proofs.Says.{says_lt, says_else}
use Rattle.sheet_rules.specs.declared.Colour.{Colour}
use Rattle.std.specs.Prelude.{None}
use Rattle.pixel_rules.specs.Decide.{decide}
use Rattle.picture_rules.specs.Line.{four_of}
use Rattle.line_fetch.specs.Rows.{row_size}
use Rattle.line_pixel.specs.Rows.{row_stack, RowsFit}
use Rattle.paint_rules.specs.Floor.{dark}
use Rattle.paint_coat.specs.Coat.{Coated, over, flat}
use Rattle.paint_coat.proofs.Coats.{coated_none, coated_chain, coated_as}
use Rattle.paint_blocks.specs.Blocks.{Alike}
use Rattle.paint_floor.specs.Floors.{Sure, Starts}
use Rattle.paint_layers.specs.Layers.{decided}
use Rattle.paint_lit.specs.Lit.{DarkUpTo}

-- ---- octets that are alike

alike_none : (v : ℕ) (s : List ℕ) (p q : ℕ) → q ≤ p → Alike v s p q
alike_none v s p q h = record { there = λ k a b. absurd (omega arith) }

alike_join : (v : ℕ) (s : List ℕ) (p i q : ℕ) → Alike v s p i → Alike v s i q → Alike v s p q
alike_join v s p i q g h =
    record { there = λ k a b. ⊎_elim (λ (z : k < i). g.there k a z) (λ (z : k < i → ⊥). h.there k (omega arith) b) (says_else (says_lt k i)) }

pub record Looked (v : ℕ) (s : List ℕ) (p : ℕ) (all : Bool) (i : ℕ) : Type 0 where
  pub few : i ≤ 64
  pub each : all ≡ true → Alike v s p (p + i)

and_both : (a b : Bool) → (a && b) ≡ true → (a ≡ true) × (b ≡ true)
and_both true b e = (refl, e)
and_both false b e = absurd (false≢true e)

pub looked_begun : (v : ℕ) (s : List ℕ) (p : ℕ) → Looked v s p true 0
looked_begun v s p = record { few = omega arith; each = λ e. alike_none v s p (p + 0) (omega arith) }

module _ (v : ℕ) (s : List ℕ) (p : ℕ) (all : Bool) (i : ℕ) (c : Looked v s p all i) where
  pub looked_more : i < 64 → Looked v s p (all && eqb (get_or s (p + i) 0) v) (i + 1)
  looked_more h =
      record {
        few = omega arith;
        each = λ e.
            let k = and_both all (eqb (get_or s (p + i) 0) v) e in
            let z : p + i + 1 ≡ p + (i + 1) = omega arith in
            subst (Alike v s p) z
            (alike_join v s p (p + i) (p + i + 1) (c.each k.0)
            (record { there = λ q a b. let y : q ≡ p + i = omega arith in ap (λ (m : ℕ). get_or s m 0) y ∙ eqb-true (get_or s (p + i) 0) v k.1 }));
      }

  pub looked_all : 64 ≤ i → all ≡ true → Alike v s p (p + 64)
  looked_all h e = let f = c.few in let z : p + i ≡ p + 64 = omega arith in subst (Alike v s p) z (c.each e)

pub ruleset looking = (rules, looked_begun, looked_more, looked_all)

-- ---- as far as they are dark

module _ (sel : List ℕ) (i n : ℕ) where
  pub dark_begun : i ≤ n → DarkUpTo sel i n i
  dark_begun h = record { from = omega arith; upto = h; dark = alike_none dark sel i i (omega arith) }

  pub dark_more : (e : ℕ) (z : Bool) → DarkUpTo sel i n e → 64 ≤ n - e → (z ≡ true → Alike dark sel e (e + 64)) → not z ≡ false → DarkUpTo sel i n (e + 64)
  dark_more e true c h g k = let f = c.from in record { from = omega arith; upto = omega arith; dark = alike_join dark sel i e (e + 64) c.dark (g refl) }
  dark_more e false c h g k = absurd (false≢true (sym k))

  pub dark_unknown : (told : Bool) → i ≤ n → DarkUpTo sel i n i × (i < i → told ≡ true)
  dark_unknown told h = (dark_begun h, λ k. absurd (omega arith))

pub ruleset darkening = (rules, dark_begun, dark_more)

-- ---- floors that are there, or not

module _ (s d ns : List ℕ) (f a n j : ℕ) (sel : List ℕ) where
  pub sure_not : false ≡ true → Sure s d ns f a n j sel
  sure_not e = absurd (false≢true e)

  pub sure_there : Sure s d ns f a n j sel → true ≡ true → Sure s d ns f a n j sel
  sure_there g e = g

pub ruleset surely = (rules, sure_not, sure_there)

-- ---- a part

pub starts_piece : (s d ns : List ℕ) (pairs a b f x e : ℕ) → Starts s d ns pairs a b f → a ≤ x → e ≤ b → Starts s d ns pairs x e f
starts_piece s d ns pairs a b f x e g h k = record { most = g.most; shows = λ y p q. g.shows y (omega arith) (omega arith) }

pub record Filling (u : Colour) (s d ns : List ℕ) (pairs a n : ℕ) (l row₀ bits₀ out row bits : List ℕ) (i : ℕ) : Type 0 where
  pub upto : i ≤ n
  pub long : length out ≡ length l
  pub wide : length row ≡ length row₀
  pub room : length bits ≡ length bits₀
  pub done : Coated (decided u s d ns pairs) l a (a + i) out

module _ (u : Colour) (s d ns : List ℕ) (pairs a n : ℕ) (l row₀ bits₀ : List ℕ) where
  pub filling_begun : Filling u s d ns pairs a n l row₀ bits₀ l row₀ bits₀ 0
  filling_begun = record { upto = omega arith; long = refl; wide = refl; room = refl; done = coated_none (decided u s d ns pairs) l a (a + 0) (omega arith) }

  module _ (out row bits : List ℕ) (i : ℕ) (c : Filling u s d ns pairs a n l row₀ bits₀ out row bits i) where
    pub filling_lit : (q : ℕ) (new row' bits' : List ℕ) → (i < q) × (q ≤ n) → Coated (decided u s d ns pairs) out (a + i) (a + q) new → length row' ≡ length row → length bits' ≡ length bits
        → Filling u s d ns pairs a n l row₀ bits₀ new row' bits' q
    filling_lit q new row' bits' h g w r =
        record {
          upto = h.1;
          long = g.long ∙ c.long;
          wide = w ∙ c.wide;
          room = r ∙ c.room;
          done = coated_chain (decided u s d ns pairs) l out new a (a + i) (a + q) (omega arith) (let k = h.0 in omega arith) c.done g;
        }

    -- what is dark is unknown, whatever is painted
    pub filling_dark : (f e : ℕ) (un sel new : List ℕ) → un ≡ four_of u None → Sure s d ns f a n pairs sel → DarkUpTo sel i n e → Coated (over (flat un)) out (a + i) (a + e) new
        → Filling u s d ns pairs a n l row₀ bits₀ new row bits e
    unfolding over flat decided
    filling_dark f e un sel new eu g k p =
        let from = k.from in
        let upto = k.upto in
        record {
          upto = upto;
          long = p.long ∙ c.long;
          wide = c.wide;
          room = c.room;
          done = coated_chain (decided u s d ns pairs) l out new a (a + i) (a + e) (omega arith) (omega arith) c.done
              (coated_as (over (flat un)) (decided u s d ns pairs) out new (a + i) (a + e)
              (λ x o q r.
              let z : a + (x - a) ≡ x = omega arith in
              eu ∙ ap (four_of u)
              (sym (subst (λ (y : ℕ). decide (row_stack s d ns (record { 0 = y })) pairs ≡ None) z
              ((g.held (x - a) (omega arith)).lost (k.dark.there (x - a) (omega arith) (omega arith)))))) p);
        }

    pub filling_end : n ≤ i → (b : ℕ) → b ≡ a + n → Coated (decided u s d ns pairs) l a b out
    filling_end h b z = let k = c.upto in let y : a + i ≡ b = omega arith in subst (λ (e : ℕ). Coated (decided u s d ns pairs) l a e out) y c.done

-- ---- rows

module _ (s d ns : List ℕ) (pairs : ℕ) (g : RowsFit s d ns pairs) where
  pair_room : (j : ℕ) → j ≤ pairs → (j * 2 + 1) * row_size ≤ length ns
  pair_room zero h = let r = g.room in omega arith
  pair_room (suc j) h = (g.pair (suc j) (omega arith) h).room

  pub row_there : (l : ℕ) → l ≤ pairs * 2 + 1 → l * row_size ≤ length ns
  row_there l h = let r = pair_room pairs (omega arith) in omega arith
