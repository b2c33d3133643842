-- One law for each way out of the tests that branch: its premises are what is known there.
-- Assumes nothing.
use mathlib.Core.Path.{◌≡◌, sym, ap, ◌∙◌}
use Prim.Native.Nat.{ℕ, ◌+◌, ◌%◌, ◌<◌}
use native.Mathlib.Omega.{arith}
use mathlib.Core.Bool.{Bool, true, false, ◌&&◌, ◌||◌, not, and-true, and-false, or-true, or-false}
use native.Mathlib.Nat.{mod_self, eq-zero-or-pos}
use mathlib.Core.Logic.{⊎_elim}
use lib.Dec.{eqb, leb, ltb}
use borrow.Author.Tests.{eq-eqb, ne_eqb, lt-leb, not-true, not-false}
use borrow.Author.Rules.{rules}
use Rattle.sheet_rules.specs.declared.Record.{Record}
use Rattle.sheet_rules.specs.declared.State.{State}
use Rattle.sheet_rules.specs.Judge.{coder_ok, choice_ok, zeros_ok, grey_ok, closes, placed, coded, coded_ok, uncoded_ok, data_ok, listed, divides, res_ok, base_ok, page_ok, upper_ok, layer_ok, keeps}

-- ---- the resolution

module _ (c : Bool) (res main : ℕ) where
  pub res_same : res ≡ main → not (eqb res 0) ≡ res_ok c res main
  res_same e =
      ⊎_elim (λ (z : res ≡ 0). simp (eq-eqb res 0 z))
      (λ (p : 0 < res).
      simp (
        ne_eqb res 0 (λ z. omega (arith, z, p)),
        eq-eqb (main % res) 0 (ap (λ (n : ℕ). n % res) (sym e) ∙ mod_self res),
        eq-eqb res main e,
        or-true c,
      ))
      (eq-zero-or-pos res)

  pub res_coded : (b : Bool) → c ≡ true → b ≡ divides res main → b ≡ res_ok c res main
  res_coded b e k = k ∙ sym (ap (λ (x : Bool). divides res main && (x || eqb res main)) e ∙ and-true (divides res main))

  pub res_other : (res ≡ main → ⊥) → c ≡ false → false ≡ res_ok c res main
  res_other d e = simp (e, ne_eqb res main d, and-false (divides res main))

-- ---- tests joined from the tests that they call

pub coded_made : (r : Record) (a : Bool) (n : ℕ) → a ≡ coder_ok r.layer r.coder → n ≡ r.start + r.len
    → a && not (eqb r.width 0) && not (eqb r.height 0) && ltb n 4294967296 ≡ coded_ok r
coded_made r a n e h = simp (e, h)

pub page_made : (st : State) (r : Record) (b : Bool) → b ≡ res_ok st.coded1 st.res1 r.res
    → eqb r.x 0 && eqb r.y 0 && leb 1 r.width && leb r.width 32768 && leb 1 r.height && leb r.height st.left
    && (eqb r.stripe 0 || eqb r.width st.width && eqb r.res st.main)
    && b
    ≡ page_ok st r
page_made st r b e = simp e

pub upper_made : (st : State) (r : Record) (own a b : Bool) → own ≡ coded r → a ≡ res_ok own r.res st.main → b ≡ choice_ok st.coded1 st.coded2 own
    → a && (not (eqb r.layer 3) || b) ≡ upper_ok st r
upper_made st r own a b k e h = simp (h, e, k)

-- ---- coded or not

module _ (r : Record) (b v : Bool) (k : b ≡ coded r) where
  pub data_coded : b ≡ true → v ≡ coded_ok r → v ≡ data_ok r
  data_coded e h = simp (sym k ∙ e, or-false (coded_ok r)) h

  pub data_uncoded : b ≡ false → v ≡ uncoded_ok r → v ≡ data_ok r
  data_uncoded e h = simp (sym k ∙ e) h

module _ (st : State) (r : Record) where
  -- ---- the place: in the same stripe, or in the next

  pub placed_same : r.stripe ≡ st.stripe → eqb r.layer (st.layer + 1) && leb r.layer 15 ≡ placed st r
  placed_same e =
      simp (
        eq-eqb r.stripe st.stripe e,
        ne_eqb r.stripe (st.stripe + 1) (λ h. omega (arith, h)),
        or-false (eqb r.layer (st.layer + 1) && leb r.layer 15),
      )

  pub placed_next : (b : Bool) → (r.stripe ≡ st.stripe → ⊥) → b ≡ closes st.layer
      → eqb r.stripe (st.stripe + 1) && ltb r.stripe 64 && eqb r.layer 1 && b ≡ placed st r
  placed_next b d k = simp (ne_eqb r.stripe st.stripe d, k)

  -- ---- the layer's number

  pub layer_one : r.layer ≡ 1 → true ≡ layer_ok st r
  layer_one e = simp (eq-eqb r.layer 1 e)

  pub layer_two : (b : Bool) → (r.layer ≡ 1 → ⊥) → r.layer ≡ 2 → b ≡ page_ok st r → b ≡ layer_ok st r
  layer_two b d e k =
      simp (ne_eqb r.layer 1 d, eq-eqb r.layer 2 e, lt-leb 3 r.layer (omega (arith, e)), or-false (page_ok st r)) k

  pub layer_more : (b : Bool) → (r.layer ≡ 1 → ⊥) → (r.layer ≡ 2 → ⊥) → b ≡ upper_ok st r → leb 3 r.layer && b ≡ layer_ok st r
  layer_more b d e k = simp (ne_eqb r.layer 1 d, ne_eqb r.layer 2 e, k)

  -- ---- the first rule that is broken, or none

  pub breaks_zeros : (b : Bool) → b ≡ zeros_ok r → not b ≡ true → false ≡ keeps st r
  unfolding keeps
  breaks_zeros b k e = simp (sym k ∙ not-true b e)

  pub breaks_grey : (b : Bool) → b ≡ grey_ok r → not b ≡ true → false ≡ keeps st r
  unfolding keeps
  breaks_grey b k e = simp (sym k ∙ not-true b e, and-false (zeros_ok r))

  pub breaks_place : (b : Bool) → b ≡ placed st r → not b ≡ true → false ≡ keeps st r
  unfolding keeps
  breaks_place b k e = simp (sym k ∙ not-true b e, and-false (zeros_ok r && grey_ok r))

  pub breaks_data : (b : Bool) → b ≡ data_ok r → not b ≡ true → false ≡ keeps st r
  unfolding keeps
  breaks_data b k e = simp (sym k ∙ not-true b e, and-false (zeros_ok r && grey_ok r && placed st r))

  pub breaks_listed : (b : Bool) → b ≡ listed r.res → not b ≡ true → false ≡ keeps st r
  unfolding keeps
  breaks_listed b k e = simp (sym k ∙ not-true b e, and-false (zeros_ok r && grey_ok r && placed st r && data_ok r))

  pub breaks_base : (b : Bool) → b ≡ base_ok r → not b ≡ true → false ≡ keeps st r
  unfolding keeps
  breaks_base b k e = simp (sym k ∙ not-true b e, and-false (zeros_ok r && grey_ok r && placed st r && data_ok r && listed r.res))

  pub breaks_none : (z g p d l b v : Bool) → z ≡ zeros_ok r → not z ≡ false → g ≡ grey_ok r → not g ≡ false → p ≡ placed st r → not p ≡ false → d ≡ data_ok r → not d ≡ false
      → l ≡ listed r.res → not l ≡ false → b ≡ base_ok r → not b ≡ false → v ≡ layer_ok st r → v ≡ keeps st r
  unfolding keeps
  breaks_none z g p d l b v kz ez kg eg kp ep kd ed kl el kb eb k =
      simp (sym kz ∙ not-false z ez, sym kg ∙ not-false g eg, sym kp ∙ not-false p ep, sym kd ∙ not-false d ed, sym kl ∙ not-false l el, sym kb ∙ not-false b eb) k

pub ruleset joining = (rules, coded_made, page_made, upper_made)

pub ruleset testing = (rules, res_same, res_coded, res_other, data_coded, data_uncoded, placed_same, placed_next, layer_one, layer_two, layer_more, breaks_zeros, breaks_grey, breaks_place, breaks_data, breaks_listed, breaks_base, breaks_none)
