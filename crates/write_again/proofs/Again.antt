-- A page in the writer's form, lent with its sheet, is written octet for octet.
-- Assumes nothing.
use Prim.Native.Nat.{ℕ, ◌+◌, ◌≤◌}
use native.Mathlib.Omega.{arith}
use mathlib.Core.Path.{◌≡◌, refl, sym, ap, ap₂, ◌∙◌}
use mathlib.Core.Logic.{inl, inr, ◌≢◌, ⊎_elim}
use mathlib.Core.List.{List, ◌∷◌, ◌++◌}
use lib.ListN.{length, drop, replicate}
use Rattle.octets.specs.Entries.{joined}
use Rattle.laws.proofs.Says.{says_eq, says_else}
use Rattle.segment_rules.specs.declared.Mode.{Mode}
use Rattle.segment_rules.specs.declared.Mode.TheVariants.{One}
use Rattle.segment_rules.specs.declared.Rules.{Rules}
use Rattle.start_rules.proofs.Start.{only_mode1}
use Rattle.segment_rules.specs.Rules.{mode1}
use Rattle.sheet_rules.specs.declared.Record.{Record}
use Rattle.sheet_rules.specs.Sentences.{Among}
use Rattle.start_rules.specs.declared.Head.{Head}
use Rattle.start_rules.specs.Grammar.{start_of, ImageCoder}
use Rattle.page_rules.specs.Grammar.{Stripes}
use Rattle.body_rules.specs.Body.{last, next}
use Rattle.body_rules.proofs.Accepted.{stripes_onward}
use Rattle.page_rules.proofs.Parts.{closing, page_stripes, page_within}
use Rattle.write_rules.specs.declared.Tally.{Tally}
use Rattle.write_rules.specs.Cut.{stripes_of}
use Rattle.write_rules.specs.Modes.{stripe_by}
use Rattle.write_rules.specs.Sentences.{sheet_main, page_end}
use Rattle.write_rules.specs.Writing.{begun, stripes_by, head_by, page_by}
use Rattle.write_rules.specs.Form.{Trim, UsedMask, UsedImage, Formed}
use Rattle.write_rules.proofs.Passed.{Passed}
use Rattle.write_again.proofs.Mode1.{Lent}
use Rattle.write_again.proofs.Modes.{stripe_opened, stripe_again}
use Rattle.write_again.proofs.Lent.{stripes_lent, stripes_main, stripes_front}

-- ---- the stripes

pub stripes_again : {hd : Head} {k left at : ℕ} {l : List ℕ} {rs : List Record} (z : Stripes hd k left at l rs) → Trim z → (s tail : List ℕ) → drop at s ≡ l ++ tail → at ≤ length s
    → stripes_by hd.rules.mode s rs ≡ l
unfolding stripes_by stripes_of joined Trim
stripes_again (last some) t s tail e h = refl
stripes_again {hd} {at = at} (next {l = l} {more = more} {rs = rs} {sr = sr} height few z rest) t s tail e h =
    let o = stripes_onward s at l more tail e h in
    ap (joined (stripe_by hd.rules.mode s)) (stripes_front (stripe_opened z) rest)
    ∙ ap₂ (λ (x y : List ℕ). x ++ y) (stripe_again z t.0 s (more ++ tail) o.here) (stripes_again rest t.1 s tail o.further o.within)

-- ---- the start of page

head_same : (f g : Head) → f.rules ≡ g.rules → f.mask ≡ g.mask → f.image ≡ g.image → f.main ≡ g.main → f.width ≡ g.width → f ≡ g
head_same f g e0 e1 e2 e3 e4 = let all : whole f ≡ whole g = cc in all
  where
    whole : Head → Head
    whole f = record { rules = f.rules; mask = f.mask; image = f.image; main = f.main; width = f.width }

image_one : (m : Mode) (c : ℕ) → ImageCoder m c → c ≢ 0 → c ≡ 1
image_one One c (inl e) n = absurd (n e)
image_one One c (inr e) n = e

module _ (s : List ℕ) (rs : List Record) (f : Formed s rs) (u : Tally) (p : Passed One s (sheet_main rs) begun u rs) where
  lent : (r : Record) → Among r rs → Lent f.page.head r
  lent = stripes_lent f.page.striped

  -- each coder octet is the coder used, or 0
  mask_again : u.mask ≡ f.page.head.mask
  mask_again =
      ⊎_elim
      (λ (z : f.page.head.mask ≡ 0). ⊎_elim (λ (e : u.mask ≡ 0). e ∙ sym z) used p.mask_used)
      (λ (n : f.page.head.mask ≢ 0). used (f.mask n))
      (says_else (says_eq f.page.head.mask 0))
    where
      used : UsedMask rs → u.mask ≡ f.page.head.mask
      used w = p.mask w.it w.among w.coded w.mask ∙ (lent w.it w.among).mask w.coded w.mask

  image_again_coder : u.image ≡ f.page.head.image
  image_again_coder =
      ⊎_elim
      (λ (z : f.page.head.image ≡ 0). ⊎_elim (λ (e : u.image ≡ 0). e ∙ sym z) used p.image_used)
      (λ (n : f.page.head.image ≢ 0). used (f.image n))
      (says_else (says_eq f.page.head.image 0))
    where
      used : UsedImage rs → u.image ≡ f.page.head.image
      used w =
          p.image w.it w.among w.coded w.image
          ∙ sym (image_one f.page.head.rules.mode f.page.head.image f.page.good.image ((lent w.it w.among).image w.coded w.image))

  head_again : head_by mode1 rs u ≡ f.page.head
  head_again = let m = stripes_main f.page.striped in head_same (head_by mode1 rs u) f.page.head (sym (only_mode1 f.page.head.rules)) mask_again image_again_coder m.0 m.1

  -- ---- the page

  octets_again : s ≡ start_of f.page.head ++ (f.page.stripes ++ page_end)
  octets_again =
      f.page.octets
      ∙ ap₂ (λ (x : List ℕ) (k : ℕ). start_of f.page.head ++ (x ++ (f.page.stripes ++ (0xFF ∷ 0xD9 ∷ 0xFF ∷ 0xD9 ∷ replicate k 0)))) f.optionals f.padding

  pub page_again : page_by mode1 s rs u ≡ s
  unfolding page_by
  page_again =
      let w = page_within s rs f.page in
      ap₂ (λ (h : Head) (x : List ℕ). start_of h ++ (x ++ page_end)) head_again
      (ap (λ (r : Rules). stripes_by r.mode s rs) (sym (only_mode1 f.page.head.rules))
      ∙ stripes_again f.page.striped f.offsets s (closing s rs f.page) (page_stripes s rs f.page) (omega arith))
      ∙ sym octets_again
