-- Reading the body of a page depends on the octets up to where it looked, whatever the mode, where the mode's turn does, and whatever the count of turns:
-- two lists have two counts.
--
--   body_look turn look   FF D9, or a turn that looked so far, and what stands behind it
--
-- Assumes nothing.
use Prim.Native.Nat.{ℕ, zero, suc, ◌+◌, ◌-◌, ◌≤◌, ◌<◌}
use native.Mathlib.Omega.{arith}
use mathlib.Core.Path.{◌≡◌, refl, sym, ap, subst, ◌∙◌}
use mathlib.Core.Bool.{Bool, true, false, cond}
use mathlib.Core.List.{List}
use lib.ListN.{length}
use lib.Dec.{eqb, ltb, lit≤}
use borrow.Author.Tests.{ltb-false}
use Rattle.octets.specs.Octets.{stands_at}
use Rattle.octets.proofs.Agree.{stands_agree, Hangs}
use Rattle.laws.proofs.Cases.{cond_with}
use Rattle.answers.specs.declared.Refusal.TheVariants.{Short, BadStripe}
use Rattle.answers.specs.Answers.{refusal_place}
use Rattle.sheet_rules.specs.declared.Record.{Record}
use Rattle.field_rules.specs.Field.{Res, ok, no, bind}
use Rattle.page_looks.proofs.Hangs.{Whole}
use Rattle.page_looks.proofs.Looked.{onward, beyond, near, nearby, Looked, looked_ok, looked_no, looked_from, looked_as, looked_then, looked_fits, looked_bind}
use Rattle.body_rules.specs.Body.{end_mark, Item, skipped, striped, on_item, laid, body_from}

unfoldable pub body_look : (ℕ → ℕ → List ℕ → ℕ → Res Item) → (ℕ → ℕ → List ℕ → ℕ → ℕ) → ℕ → ℕ → ℕ → List ℕ → ℕ → ℕ
body_look turn look zero k left s at = at
body_look turn look (suc fuel) k left s at =
    cond (stands_at s at end_mark) (at + 2)
    (onward (turn k left s at) (look k left s at) (λ (it : Item) (e : ℕ).
    on_item it (body_look turn look fuel k left s e) (λ (height : ℕ) (rs : List Record). body_look turn look fuel (suc k) (left - height) s e)))

-- a turn depends on the octets up to where it looked, and looks at least as far as FF D9 would stand
module _ (turn : ℕ → ℕ → List ℕ → ℕ → Res Item) (look : ℕ → ℕ → List ℕ → ℕ → ℕ) (s : List ℕ)
    (turned : (k left at : ℕ) → at ≤ length s → Whole (turn k left s at) → Looked (look k left s at) (λ (t : List ℕ). turn k left t at) s at)
    (far : (k left at : ℕ) → at ≤ length s → Whole (turn k left s at) → at + 2 ≤ look k left s at) where
  -- ---- one turn, and a count for what stands behind it

  module _ (count : List ℕ → ℕ) (k left : ℕ) (acc : List Record) (at : ℕ)
      (rest : (k left : ℕ) (acc : List Record) (e : ℕ) → at + 2 ≤ e → e ≤ length s → Whole (body_from turn (count s - 1) k left acc s e)
      → Looked (body_look turn look (count s - 1) k left s e) (λ (t : List ℕ). body_from turn (count t - 1) k left acc t e) s e) where
    abbrev read_behind : Item → ℕ → List ℕ → Res (List Record)
    read_behind it e t =
        on_item it (body_from turn (count t - 1) k left acc t e) (λ (height : ℕ) (rs : List Record). body_from turn (count t - 1) (suc k) (left - height) (laid k acc rs) t e)

    abbrev look_behind : Item → ℕ → ℕ
    look_behind it e =
        on_item it (body_look turn look (count s - 1) k left s e) (λ (height : ℕ) (rs : List Record). body_look turn look (count s - 1) (suc k) (left - height) s e)

    behind_looked : (it : Item) (e : ℕ) → at + 2 ≤ e → e ≤ length s → Whole (read_behind it e s) → Looked (look_behind it e) (read_behind it e) s e
    behind_looked skipped e h i w = rest k left acc e h i w
    behind_looked (striped height rs) e h i w = rest (suc k) (left - height) (laid k acc rs) e h i w

    -- the end of page, or an item
    abbrev read_next : Bool → List ℕ → Res (List Record)
    read_next end t = cond end (cond (eqb k 0) (no (BadStripe at)) (ok acc (at + 2))) (bind (turn k left t at) (λ (it : Item) (e : ℕ). read_behind it e t))

    abbrev look_next : Bool → ℕ
    look_next end = cond end (at + 2) (onward (turn k left s at) (look k left s at) (λ (it : Item) (e : ℕ). look_behind it e))

    next_looked : (end : Bool) → at + 2 ≤ length s → Whole (read_next end s) → Looked (look_next end) (read_next end) s (at + 2)
    unfolding refusal_place beyond
    next_looked true h w =
        cond_with (λ (x : Res (List Record)). Looked (at + 2) (λ (t : List ℕ). x) s (at + 2)) (eqb k 0)
        (λ e. looked_no s (BadStripe at) (at + 2) (at + 2) (omega arith) h (nearby s (BadStripe at) (at + 2) (near at 2 (BadStripe at) refl (lit≤ tt) (lit≤ tt)))) (λ e. looked_ok s acc (at + 2) h)
    next_looked false h w =
        looked_bind s (λ (t : List ℕ). turn k left t at) (λ (it : Item) (e : ℕ) (t : List ℕ). read_behind it e t) (look k left s at) _ (at + 2)
        (λ v.
        looked_from s (λ (t : List ℕ). turn k left t at) (look k left s at) at (at + 2) (far k left at (omega arith) v) (turned k left at (omega arith) v))
        (λ it e he ie ee. behind_looked it e he ie) w

    end_hangs : at + 2 ≤ length s → Hangs (at + 2) (λ (t : List ℕ). stands_at t at end_mark) s (at + 2)
    end_hangs h = record { ahead = omega arith; inside = h; same = λ t a. sym (stands_agree (at + 2) s t a end_mark at (omega arith)) }

    -- a list that is long enough for its place has a count that is not used up
    module _ (enough : (t : List ℕ) → length t < count t + at) where
      body_next : Whole (body_from turn (count s) k left acc s at) → at ≤ length s
          → Looked (body_look turn look (count s) k left s at) (λ (t : List ℕ). body_from turn (count t) k left acc t at) s at
      unfolding body_from body_look
      body_next w h =
          let q = unrolled s h in
          let r : Whole (whole s) = λ p z. w p (q ∙ z) in
          let y = made (ltb (length s) (at + 2)) refl r in
          subst (λ (l : ℕ). Looked l (λ (t : List ℕ). body_from turn (count t) k left acc t at) s at) (sym (looks (counted s h)))
          (looked_as s whole (λ (t : List ℕ). body_from turn (count t) k left acc t at) (look_next (stands_at s at end_mark)) at
          (λ t l. let g = y.hangs.ahead in unrolled t (omega arith)) y)
        where
          whole : List ℕ → Res (List Record)
          whole t = cond (ltb (length t) (at + 2)) (no (Short at)) (read_next (stands_at t at end_mark) t)

          counted : (t : List ℕ) → at ≤ length t → count t ≡ suc (count t - 1)
          counted t g = let e = enough t in omega arith

          unrolled : (t : List ℕ) → at ≤ length t → body_from turn (count t) k left acc t at ≡ whole t
          unrolled t g = ap (λ (j : ℕ). body_from turn j k left acc t at) (counted t g)

          looks : count s ≡ suc (count s - 1) → body_look turn look (count s) k left s at ≡ look_next (stands_at s at end_mark)
          looks e = ap (λ (j : ℕ). body_look turn look j k left s at) e

          made : (b : Bool) → ltb (length s) (at + 2) ≡ b → Whole (cond b (no (Short at)) (read_next (stands_at s at end_mark) s))
              → Looked (look_next (stands_at s at end_mark)) whole s at
          made true e v = absurd (v at refl)
          made false e v =
              let i = ltb-false (length s) (at + 2) e in
              looked_fits s (Short at) (λ (t : List ℕ). read_next (stands_at t at end_mark) t) (at + 2) (look_next (stands_at s at end_mark)) at (omega arith)
              (looked_then s (λ (t : List ℕ). stands_at t at end_mark) read_next (stands_at s at end_mark) (at + 2) (look_next (stands_at s at end_mark)) (at + 2) refl
              (end_hangs i) (next_looked (stands_at s at end_mark) i v))

  -- ---- the body, whatever its count: one for each list that is enough for it

  pub body_looked : (i : ℕ) (count : List ℕ → ℕ) (k left : ℕ) (acc : List Record) (at : ℕ) → count s ≡ i → ((t : List ℕ) → length t < count t + at) → at ≤ length s
      → Whole (body_from turn (count s) k left acc s at)
      → Looked (body_look turn look (count s) k left s at) (λ (t : List ℕ). body_from turn (count t) k left acc t at) s at
  body_looked zero count k left acc at e enough h w = absurd (let g = enough s in omega arith)
  body_looked (suc i) count k left acc at e enough h w =
      body_next count k left acc at
      (λ l m more f hf jf v. body_looked i (λ (t : List ℕ). count t - 1) l m more f (omega arith) (λ t. let g = enough t in omega arith) jf v) enough w h
