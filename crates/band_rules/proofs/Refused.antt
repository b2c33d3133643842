-- A band's refusals are those of its line 0, but for NoRoom, which is by the band's own size; BadLine means only the stripe.
-- Assumes nothing.
use Prim.Native.Nat.{ℕ, ◌/◌, ◌≤◌, ◌<◌}
use native.Mathlib.Omega.{arith}
use mathlib.Core.Path.{◌≡◌, refl, sym, ap, subst, ◌∙◌}
use mathlib.Core.Logic.{◌↔◌, inr, ⊎_elim}
use mathlib.Core.Bool.{cond}
use mathlib.Core.List.{List}
use lib.ListN.{length}
use lib.Dec.{ltb}
use Rattle.laws.proofs.Cases.{cond_with, clash}
use Rattle.laws.proofs.Says.{says_lt, says_else}
use Rattle.answers.specs.Answers.{Answer}
use Rattle.answers.specs.declared.Refusal.TheVariants.{NoRoom, BadLine}
use Rattle.std.specs.Prelude.{None, Ok, Err}
use Rattle.sheet_rules.specs.Record.{record_size}
use Rattle.sheet_rules.specs.Judge.{judge_of}
use Rattle.sheet_rules.specs.StripeTable.{find_stripe}
use Rattle.sheet_rules.proofs.Theorems.{sheet_accepted}
use Rattle.sheet_rules.proofs.Table.{stripe_found_lem, stripe_missing}
use Rattle.pixel_rules.specs.Planes.{PlaneList}
use Rattle.picture_rules.specs.Line.{Ruling, shows, refused, ruling_of, line_answer, line_of}
use Rattle.picture_rules.specs.Sentences.{scene_of, Gives, lined}
use Rattle.picture_rules.proofs.Exactly.{LineRefusal, line_exactly, line_refused}
use Rattle.band_rules.specs.Band.{band_size, band_answer, band_of}
use Rattle.band_rules.specs.Sentences.{line_size, band_octets, GivesBand, no_stripe, no_room, banded}
use Rattle.band_rules.proofs.Ruled.{stripe_line}
use Rattle.band_rules.proofs.Exactly.{band_exactly}

module _ (s : List ℕ) (pl : PlaneList) (d : List ℕ) (k room : ℕ) where
  -- ---- against line 0, in a buffer of any size

  -- a refusal, but for NoRoom: the line's number and place
  pub band_refusal : (other : ℕ) (a : Answer) → (a ≡ Err NoRoom → ⊥) → ((n : ℕ) → a ≡ Ok n → ⊥) → band_of s pl d k room ≡ a ↔ line_of s pl d k 0 other ≡ a
  unfolding band_of band_answer line_of line_answer
  band_refusal other a full done = by (ruling_of s pl d k 0)
    where
      none : (n m : ℕ) → cond (ltb n m) (Err NoRoom) (Ok m) ≡ a → ⊥
      none n m = cond_with (λ (x : Answer). x ≡ a → ⊥) (ltb n m) (λ t e. full (sym e)) (λ t e. done m (sym e))

      by : (r : Ruling) → band_answer room r ≡ a ↔ line_answer other r ≡ a
      by (shows v) = (λ e. absurd (none room (band_size v) e), λ e. absurd (none other (line_size v) e))
      by (refused b) = (λ e. e, λ e. e)

  module _ (other : ℕ) (fits : line_size (scene_of s pl d k) ≤ other) where
    abbrev LineDone : Type 0
    LineDone = line_of s pl d k 0 other ≡ Ok (line_size (scene_of s pl d k))

    -- Ok exactly if line 0 is Ok with room enough, and the band's own size fits
    pub band_done : (n : ℕ) → band_of s pl d k room ≡ Ok n ↔ LineDone × (n ≡ band_octets (scene_of s pl d k)) × (n ≤ room)
    band_done n = (λ e. there ((band_exactly s pl d k room (Ok n)).0 e), λ h. back ((line_exactly s pl d k 0 other (Ok (line_size (scene_of s pl d k)))).0 h.0) h.1 h.2)
      where
        there : GivesBand s pl d k room (Ok n) → LineDone × (n ≡ band_octets (scene_of s pl d k)) × (n ≤ room)
        there (banded ok has fine e l) =
            ((line_exactly s pl d k 0 other (Ok (line_size (scene_of s pl d k)))).1 (lined ok (stripe_line s k ok has) fine refl fits), e, l)

        back : Gives s pl d k 0 other (Ok (line_size (scene_of s pl d k))) → n ≡ band_octets (scene_of s pl d k) → n ≤ room → band_of s pl d k room ≡ Ok n
        back (lined ok has fine e l) z f = (band_exactly s pl d k room (Ok n)).1 (banded ok has.stripe fine z f)

    -- NoRoom exactly if line 0 is Ok with room enough, and the band's own size does not fit
    pub band_no_room : band_of s pl d k room ≡ Err NoRoom ↔ LineDone × (room < band_octets (scene_of s pl d k))
    band_no_room = (λ e. there ((band_exactly s pl d k room (Err NoRoom)).0 e), λ h. back ((line_exactly s pl d k 0 other (Ok (line_size (scene_of s pl d k)))).0 h.0) h.1)
      where
        there : GivesBand s pl d k room (Err NoRoom) → LineDone × (room < band_octets (scene_of s pl d k))
        there (no_room ok has fine l) =
            ((line_exactly s pl d k 0 other (Ok (line_size (scene_of s pl d k)))).1 (lined ok (stripe_line s k ok has) fine refl fits), l)

        back : Gives s pl d k 0 other (Ok (line_size (scene_of s pl d k))) → room < band_octets (scene_of s pl d k) → band_of s pl d k room ≡ Err NoRoom
        back (lined ok has fine e l) f = (band_exactly s pl d k room (Err NoRoom)).1 (no_room ok has.stripe fine f)

  -- ---- BadLine: a good sheet, and no such stripe

  pub band_no_stripe : (n m : ℕ) → judge_of s ≡ Ok (record { records = n; stripes = m }) → band_of s pl d k room ≡ Err BadLine ↔ find_stripe s k ≡ None
  band_no_stripe n m g = (λ e. there ((band_exactly s pl d k room (Err BadLine)).0 e), back)
    where
      there : GivesBand s pl d k room (Err BadLine) → find_stripe s k ≡ None
      there (no_stripe ok none) =
          let c = ((sheet_accepted s n m).0 g).stripes in
          stripe_missing s n m g k (⊎_elim (λ (h : k < m). absurd (none (omega arith))) (λ (h : k < m → ⊥). omega arith) (says_else (says_lt k m)))

      back : find_stripe s k ≡ None → band_of s pl d k room ≡ Err BadLine
      back f =
          let a = (sheet_accepted s n m).0 g in
          let c = a.stripes in
          (band_exactly s pl d k room (Err BadLine)).1 (no_stripe (a.sheet, a.whole) (λ h. let e = stripe_found_lem s n m g k (omega arith) in clash cc))

  -- ---- demand 1: an answer other than Ok is one of the refusals that the order for lines names, at a record or an entry

  pub band_refused : ((n : ℕ) → band_of s pl d k room ≡ Ok n → ⊥) → LineRefusal (length s / record_size) (length pl.entries) (band_of s pl d k room)
  unfolding band_of band_answer line_of line_answer
  band_refused = by (ruling_of s pl d k 0) refl
    where
      by : (r : Ruling) → ruling_of s pl d k 0 ≡ r → ((n : ℕ) → band_answer room r ≡ Ok n → ⊥) → LineRefusal (length s / record_size) (length pl.entries) (band_answer room r)
      by (shows v) q =
          cond_with (λ (x : Answer). ((n : ℕ) → x ≡ Ok n → ⊥) → LineRefusal (length s / record_size) (length pl.entries) x) (ltb room (band_size v))
          (λ t h. inr (inr (inr refl)))
          (λ t h. absurd (h (band_size v) refl))
      by (refused a) q =
          λ h. subst (LineRefusal (length s / record_size) (length pl.entries)) (ap (line_answer room) q) (line_refused s pl d k 0 room (λ n e. h n (sym (ap (line_answer room) q) ∙ e)))
