-- One law for each way out of the loop over the candidates: its premises are what is known there.
-- Assumes nothing.
use Prim.Native.Nat.{ℕ, zero, suc, ◌+◌, ◌-◌, ◌*◌, ◌≤◌, ◌<◌}
use native.Mathlib.Omega.{arith}
use mathlib.Core.Path.{◌≡◌, refl, sym, ap, subst, ◌∙◌}
use mathlib.Core.Bool.{Bool, true, false, not, ◌&&◌, cond}
use mathlib.Core.List.{List}
use borrow.Author.Rules.{rules}
use Rattle.laws.proofs.Cases.{cond_both, clash}
use Rattle.pixel_rules.specs.declared.MainPos.{MainPos}
use Rattle.std.specs.Prelude.{Option, Some, None}
use Rattle.sheet_rules.specs.declared.Colour.{Colour}
use Rattle.pixel_rules.specs.Decide.{agree, Stack, decide}
use Rattle.pixel_rules.specs.Down.{Way, Among, candidates, all_agree, down, MayShow}
use Rattle.pixel_rules.proofs.Rule.{agree_assoc}
use Rattle.pixel_rules.proofs.Down.{down_is_decide}
use Rattle.line_agree.specs.Known.{is_known}
use Rattle.line_fetch.specs.Rows.{row_at, row_image}
use Rattle.line_pixel.specs.declared.Candidate.{Candidate}
use Rattle.line_pixel.specs.Rows.{row_masks, row_stack, MasksFit, RowsFit}
use Rattle.line_pixel.specs.Lead.{way_from}
use Rattle.line_pixel.proofs.Ways.{below_among, may_show, unsure_some}

-- what a pixel shows where the candidates down to c agree on `cur`
unfoldable pub under : Stack → Candidate → Option Colour → Option Colour
under st c cur = cond c.sure cur (agree cur (decide st (c.pair - 1)))

pub record Shows (st : Stack) (n : ℕ) (c : Candidate) (cur : Option Colour) : Type 0 where
  pub some : c.sure ≡ false → 1 ≤ c.pair
  pub among : (j : ℕ) → Among j (way_from st.mask c) → Among j (candidates st.mask n)
  pub all : decide st n ≡ under st c cur

fits_masks : (s d ns : List ℕ) (pairs n : ℕ) → RowsFit s d ns pairs → n ≤ pairs → MasksFit d ns n
fits_masks s d ns pairs zero g l = record { room = omega arith; mask = λ j p q. absurd (omega arith) }
fits_masks s d ns pairs (suc n) g l =
    let r = (g.pair (suc n) (omega arith) l).room in
    record { room = omega arith; mask = λ j p q. (g.pair j p (omega arith)).mask }

-- ---- along the way

unsure : (a b : Bool) → not a && b ≡ true → a ≡ false
unsure true b e = clash cc
unsure false b e = refl

-- a candidate that is sure, or one that leaves nothing known, is the last that counts
ended : (a b : Bool) (cur low : Option Colour) → b ≡ is_known cur → not a && b ≡ false → cond a cur (agree cur low) ≡ cur
unfolding agree
ended true b cur low k t = refl
ended false b (Some c) low k t = clash cc
ended false b None low k t = refl

module _ (st : Stack) where
  along : (c : Candidate) → all_agree st.image (way_from st.mask c) ≡ under st c (st.image c.pair)
  unfolding way_from under all_agree down
  along c =
      cond_both (λ (w : Way) (p : Option Colour). all_agree st.image w ≡ p) c.sure (λ e. refl) (λ e. ap (agree (st.image c.pair)) (down_is_decide st (c.pair - 1)))

  led : (n : ℕ) (c : Candidate) → candidates st.mask n ≡ way_from st.mask c → decide st n ≡ under st c (st.image c.pair)
  unfolding down
  led n c l = sym (down_is_decide st n) ∙ ap (all_agree st.image) l ∙ along c

  further : (c : Candidate) (cur up : Option Colour) → agree cur (under st c up) ≡ under st c (agree cur up)
  unfolding under
  further c cur up =
      cond_both (λ (p q : Option Colour). agree cur p ≡ q) c.sure (λ e. refl) (λ e. sym (agree_assoc cur up (decide st (c.pair - 1))))

  going_on : (n : ℕ) (c e : Candidate) (cur : Option Colour) → Shows st n c cur → c.sure ≡ false → candidates st.mask (c.pair - 1) ≡ way_from st.mask e → decide st n ≡ under st e (agree cur (st.image e.pair))
  unfolding under
  going_on n c e cur h f l =
      let u : under st c cur ≡ agree cur (decide st (c.pair - 1)) = rw f in
      h.all ∙ u ∙ ap (agree cur) (led (c.pair - 1) e l) ∙ further e cur (st.image e.pair)

  still_among : (n : ℕ) (c e : Candidate) (cur : Option Colour) → Shows st n c cur → c.sure ≡ false → candidates st.mask (c.pair - 1) ≡ way_from st.mask e
      → (j : ℕ) → Among j (way_from st.mask e) → Among j (candidates st.mask n)
  still_among n c e cur h f l j a = h.among j (below_among st.mask c j f (subst (Among j) (sym l) a))

pub first_shows : (d ns : List ℕ) (x : MainPos) (pairs : ℕ) (c : Candidate) → candidates (row_masks d ns x) pairs ≡ way_from (row_masks d ns x) c → MayShow (row_masks d ns x) pairs c.pair
first_shows d ns x pairs c l = may_show (row_masks d ns x) pairs c (λ j a. subst (Among j) (sym l) a)

-- ---- where the loop begins, goes on and ends

module _ (s d ns : List ℕ) (x : MainPos) where
  pub next_shows : (pairs : ℕ) (c e : Candidate) (cur : Option Colour) (b : Bool) → Shows (row_stack s d ns x) pairs c cur → not c.sure && b ≡ true
      → candidates (row_masks d ns x) (c.pair - 1) ≡ way_from (row_masks d ns x) e → MayShow (row_masks d ns x) pairs e.pair
  next_shows pairs c e cur b h t l = may_show (row_masks d ns x) pairs e (still_among (row_stack s d ns x) pairs c e cur h (unsure c.sure b t) l)

  pub show_begins : (pairs : ℕ) (c : Candidate) (cur : Option Colour) → candidates (row_masks d ns x) pairs ≡ way_from (row_masks d ns x) c
      → cur ≡ row_image s d (row_at ns (c.pair * 2 + 1)) x → Shows (row_stack s d ns x) pairs c cur
  show_begins pairs c cur l e =
      record {
        some = unsure_some (row_masks d ns x) pairs c l;
        among = λ j a. subst (Among j) (sym l) a;
        all = rw e (led (row_stack s d ns x) pairs c l);
      }

  pub show_more : (pairs : ℕ) (c e : Candidate) (cur up new : Option Colour) (b : Bool) → Shows (row_stack s d ns x) pairs c cur → not c.sure && b ≡ true
      → candidates (row_masks d ns x) (c.pair - 1) ≡ way_from (row_masks d ns x) e → up ≡ row_image s d (row_at ns (e.pair * 2 + 1)) x → new ≡ agree cur up
      → Shows (row_stack s d ns x) pairs e new
  show_more pairs c e cur up new b h t l eu en =
      let f = unsure c.sure b t in
      record {
        some = unsure_some (row_masks d ns x) (c.pair - 1) e l;
        among = still_among (row_stack s d ns x) pairs c e cur h f l;
        all = rw (en, eu) (going_on (row_stack s d ns x) pairs c e cur h f l);
      }

  pub show_some : (pairs : ℕ) (c : Candidate) (cur : Option Colour) (b : Bool) → Shows (row_stack s d ns x) pairs c cur → not c.sure && b ≡ true → 1 ≤ c.pair
  show_some pairs c cur b h t = h.some (unsure c.sure b t)

  pub show_less : (pairs : ℕ) (c e : Candidate) (cur : Option Colour) (b : Bool) → Shows (row_stack s d ns x) pairs c cur → not c.sure && b ≡ true
      → candidates (row_masks d ns x) (c.pair - 1) ≡ way_from (row_masks d ns x) e → e.pair < c.pair
  show_less pairs c e cur b h t l =
      let p = show_some pairs c cur b h t in
      let q = (first_shows d ns x (c.pair - 1) e l).most in
      omega arith

  pub show_ends : (pairs : ℕ) (c : Candidate) (cur : Option Colour) (b : Bool) → Shows (row_stack s d ns x) pairs c cur → b ≡ is_known cur → not c.sure && b ≡ false
      → cur ≡ decide (row_stack s d ns x) pairs
  unfolding under
  show_ends pairs c cur b h k t = sym (h.all ∙ ended c.sure b cur (decide (row_stack s d ns x) (c.pair - 1)) k t)

  -- the masks that are read are there
  pub fits_all : (pairs : ℕ) → RowsFit s d ns pairs → MasksFit d ns pairs
  fits_all pairs g = fits_masks s d ns pairs pairs g (omega arith)

  pub fits_below : (pairs : ℕ) (c : Candidate) (cur : Option Colour) → RowsFit s d ns pairs → Shows (row_stack s d ns x) pairs c cur → MasksFit d ns (c.pair - 1)
  fits_below pairs c cur g h = let m = (may_show (row_masks d ns x) pairs c h.among).most in fits_masks s d ns pairs (c.pair - 1) g (omega arith)

pub ruleset showing = (rules, first_shows, show_begins, show_less, show_some, show_ends, fits_all, fits_below)
