-- A page that was read, lent to the writer with its sheet: its records pass, and are cut into its stripes.
-- Assumes nothing.
use Prim.Native.Nat.{ℕ}
use native.Mathlib.Omega.{arith}
use mathlib.Core.Path.{◌≡◌, refl, sym, ap, subst, ◌∙◌}
use mathlib.Core.Logic.{⊎_elim}
use mathlib.Core.List.Memᴰ
use mathlib.Core.List.{List, ◌∷◌, ◌++◌}
use lib.ListN.{length, length-append}
use Rattle.sheet_rules.specs.declared.Record.{Record}
use Rattle.sheet_rules.specs.Record.{nth, sum_of}
use Rattle.sheet_rules.specs.Sentences.{Among}
use Rattle.sheet_rules.proofs.Among.{sum_append}
use Rattle.start_rules.specs.declared.Head.{Head}
use Rattle.page_rules.specs.Grammar.{Stripes}
use Rattle.body_rules.specs.Body.{last, next}
use Rattle.write_rules.specs.Cut.{stripes_of, Opened}
use Rattle.write_rules.proofs.Passed.{size_in}
use Rattle.write_rules.proofs.Cut.{Next, cut_first}
use Rattle.write_again.proofs.Mode1.{Lent}
use Rattle.write_again.proofs.Modes.{stripe_lent, second_is, stripe_opened, stripe_size}

pub stripes_lent : {hd : Head} {k left at : ℕ} {l : List ℕ} {rs : List Record} → Stripes hd k left at l rs → (r : Record) → Among r rs → Lent hd r
stripes_lent (last some) r m = absurd (Memᴰ.not-nil m)
stripes_lent (next {rs = rs} height few z rest) r m =
    ⊎_elim (λ m1. stripe_lent z r m1) (λ m2. stripes_lent rest r m2) (Memᴰ.append_cases rs m)

-- the second record is layer 2 of the first stripe
pub stripes_main : {hd : Head} {left at : ℕ} {l : List ℕ} {rs : List Record} → Stripes hd 0 left at l rs → ((nth rs 1).res ≡ hd.main) × ((nth rs 1).width ≡ hd.width)
stripes_main (last some) = absurd (omega arith)
stripes_main {hd} {left} {at} (next {l = l} {rs = rs} {sr = sr} height few z rest) = second_is z sr

-- ---- they are cut into the page's stripes

stripes_next : {hd : Head} {k left at : ℕ} {l : List ℕ} {rs : List Record} → Stripes hd k left at l rs → Next rs
stripes_next (last some) h = absurd (omega arith)
stripes_next (next {sr = sr} height few z rest) h =
    let o = stripe_opened z in subst (λ (x : List Record). (nth (x ++ sr) 0).layer ≡ 1) (sym o.is) o.opening

pub stripes_front : {hd : Head} {k left at : ℕ} {l : List ℕ} {rs sr : List Record} → Opened rs → Stripes hd k left at l sr → stripes_of (rs ++ sr) ≡ rs ∷ stripes_of sr
stripes_front {rs = rs} {sr = sr} o y =
    ap (λ (x : List Record). stripes_of (x ++ sr)) o.is ∙ cut_first o.first o.others sr o.once (stripes_next y) ∙ ap (λ (x : List Record). x ∷ stripes_of sr) (sym o.is)

-- ---- their octets are as many as the writer counts

pub stripes_size : {hd : Head} {k left at : ℕ} {l : List ℕ} {rs : List Record} → Stripes hd k left at l rs → sum_of (size_in hd.rules.mode) rs ≡ length l
unfolding sum_of
stripes_size (last some) = refl
stripes_size {hd} {k} {left} {at} (next {l = l} {more = more} {rs = rs} {sr = sr} height few z rest) =
    let a = sum_append (size_in hd.rules.mode) rs sr in
    let b = stripe_size z in
    let c = stripes_size rest in
    let e = length-append l more in
    omega arith
