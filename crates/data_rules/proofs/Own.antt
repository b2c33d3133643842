-- A page with its own sheet: the part of each layer is that layer's octets, as the grammar has them.
-- Assumes nothing.
use Rattle.std.specs.Prelude.{Ok}
use Prim.Native.Nat.{ℕ, ◌+◌, ◌*◌, ◌≤◌}
use native.Mathlib.Omega.{arith}
use mathlib.Core.Path.{◌≡◌, refl, sym, ap, ap₂, subst, ◌∙◌}
use mathlib.Core.Logic.{⊎_elim}
use mathlib.Core.Bool.{Bool, cond}
use mathlib.Core.List.Memᴰ
use mathlib.Core.List.{List, ◌++◌}
use lib.ListN.{length, take, drop}
use lib.Dec.{lit≤}
use borrow.Author.Tests.{eq-eqb, ne_eqb}
use Rattle.octets.specs.Octets.{Octets}
use Rattle.laws.proofs.Says.{says_eq, says_else}
use Rattle.sheet_rules.specs.declared.Record.{Record}
use Rattle.sheet_rules.specs.Record.{record_size, records, nth}
use Rattle.sheet_rules.specs.Sentences.{Among, Coded, Uncoded}
use Rattle.sheet_rules.proofs.Among.{nth_among}
use Rattle.segment_rules.specs.declared.Mode.{Mode}
use Rattle.segment_rules.specs.declared.Mode.TheVariants.{One}
use Rattle.start_rules.specs.declared.Head.{Head}
use Rattle.body_rules.specs.Body.{last, next}
use Rattle.body_rules.proofs.Accepted.{stripes_onward}
use Rattle.mode1_rules.specs.Kinds.{mask_record}
use Rattle.mode1_rules.proofs.Parts.{image_place, stripe_each, back_octets_lem, mask_octets, fore_octets_lem}
use Rattle.page_rules.specs.Grammar.{StripeIn, Stripe, Stripes, Page}
use Rattle.page_rules.specs.Reading.{read_of, read_into}
use Rattle.page_rules.proofs.Parts.{at_body, closing, page_stripes, page_within, page_named}
use Rattle.page_rules.proofs.Into.{Front, into_front}
use Rattle.data_rules.specs.Data.{data_of, part_of}
use Rattle.data_rules.specs.Sentences.{LayerAt, handed}
use Rattle.sheet_rules.specs.Sentences.{Accepted}
use Rattle.data_rules.specs.Own.{layer_of, layer_in, layers_in}
use Rattle.data_rules.proofs.Exactly.{data_exactly}
use Rattle.data_rules.proofs.Handed.{part_handed}
use Rattle.data_rules.proofs.Layer.{layer_once}

-- ---- the records of a stripe, and of all stripes

abbrev Own : List ℕ → Record → (ℕ → List ℕ) → Type 0
Own s r o = (r.layer ≤ 3) × (take r.len (drop r.start s) ≡ o r.layer)

rest_own : (m : Mode) (hd : Head) (k left at : ℕ) (o : List ℕ) (height : ℕ) (rs : List Record) (z : StripeIn m hd k left at o height rs) (s tail : List ℕ) → drop at s ≡ o ++ tail
    → (r : Record) → Among r rs → (r.stripe ≡ k) × Own s r (layer_of m hd k left at o height rs z)
unfolding layer_of mask_record
rest_own One hd k left at o height rs z s tail e =
    let f = z.fields in
    let one = image_place hd k 1 f.back f.back_x f.back_y z.back_is in
    let three = image_place hd k 3 f.fore f.fore_x f.fore_y z.fore_is in
    let l1 = one.1 in
    let l3 = three.1 in
    let layer : ℕ → List ℕ = layer_of One hd k left at o height rs z in
    stripe_each z (λ (x : Record). (x.stripe ≡ k) × Own s x layer)
    (one.0, (omega arith, back_octets_lem z s tail e ∙ ap layer (sym l1)))
    (refl, (lit≤ tt, mask_octets z s tail e))
    (three.0, (omega arith, fore_octets_lem z s tail e ∙ ap layer (sym l3)))

stripe_own : {hd : Head} {k left at : ℕ} {o : List ℕ} {height : ℕ} {rs : List Record} (z : Stripe hd k left at o height rs) (s tail : List ℕ) → drop at s ≡ o ++ tail
    → (r : Record) → Among r rs → (r.stripe ≡ k) × Own s r (layer_in z)
unfolding layer_in
stripe_own {hd} {k} {left} {at} {o} {height} {rs} z s tail e =
    rest_own hd.rules.mode hd k left (at + length z.begin) z.rest height rs z.behind s tail (at_body z s tail e)

stripes_own : {hd : Head} {k left at : ℕ} {o : List ℕ} {rs : List Record} (y : Stripes hd k left at o rs) (s tail : List ℕ) → drop at s ≡ o ++ tail → at ≤ length s
    → (r : Record) → Among r rs → (k ≤ r.stripe) × Own s r (layers_in y r.stripe)
unfolding layers_in
stripes_own (last some) s tail e h r m = absurd (Memᴰ.not-nil m)
stripes_own {hd} {k} {left} {at} (next {l = l} {more = more} {rs = rs} {sr = sr} height few z rest) s tail e h r m =
    let o = stripes_onward s at l more tail e h in
    ⊎_elim
    (λ m1.
    let w = stripe_own z s (more ++ tail) o.here r m1 in
    let q = w.0 in
    (omega arith, (w.1.0, w.1.1 ∙ ap (λ (b : Bool). cond b (layer_in z r.layer) (layers_in rest r.stripe r.layer)) (sym (eq-eqb r.stripe k q)))))
    (λ m2.
    let w = stripes_own rest s tail o.further o.within r m2 in
    let q = w.0 in
    (omega arith, (w.1.0, w.1.1 ∙ ap (λ (b : Bool). cond b (layer_in z r.layer) (layers_in rest r.stripe r.layer)) (sym (ne_eqb r.stripe k (λ x. omega arith))))))
    (Memᴰ.append_cases rs m)

page_own : (s : List ℕ) (rs : List Record) (p : Page s rs) (r : Record) → Among r rs → Own s r (layers_in p.striped r.stripe)
page_own s rs p r m = let w = page_within s rs p in (stripes_own p.striped s (closing s rs p) (page_stripes s rs p) (omega arith) r m).1

-- ---- with a sheet whose records are the page's, the part of a layer is the layer's octets, whatever the pencil file

module _ (page : List ℕ) (rs : List Record) (p : Page page rs) (s : List ℕ) (a : Accepted s) (cut : records s ≡ rs)
    (pencil : List ℕ) (k l i : ℕ) (y : LayerAt (records s) k l i) where
  abbrev rec : Record
  rec = nth (records s) i

  among : Among rec rs
  among = subst (Among rec) cut (nth_among (records s) i y.within)

  own : Own page rec (layers_in p.striped rec.stripe)
  own = page_own page rs p rec among

  low : l ≤ 3
  low = let b = own.0 in let e = y.layer in omega arith

  inside : rec.start + rec.len ≤ length page
  inside =
      ⊎_elim (λ (e : Uncoded rec). let u = (a.0.unbroken.uncoded rec (nth_among (records s) i y.within) e).1 in omega arith)
      (λ (c : Coded rec). (page_named page rs p rec among c).inside)
      (says_else (says_eq rec.len 0))

  pub page_answers : data_of s page pencil k l ≡ Ok rec.len
  page_answers =
      let q = low in
      (data_exactly s page pencil k l (Ok rec.len)).1
      (handed a (record { place = i; layer = y; fits = record { low = λ b. inside; high = λ b. absurd (omega arith) }; count = refl }))

  pub page_part : part_of s page pencil k l ≡ layers_in p.striped k l
  page_part =
      let h = part_handed s page pencil k l rec.len page_answers in
      let e : h.place ≡ i = layer_once (records s) a.0 k l h.place i h.layer y in
      h.low low
      ∙ ap (λ (j : ℕ). take (nth (records s) j).len (drop (nth (records s) j).start page)) e
      ∙ own.1
      ∙ ap₂ (layers_in p.striped) y.stripe y.layer

-- ---- for every page that is read: with the sheet that reading gives, each of its layers is handed out, and the part is the layer's octets

pub record OwnParts (page sheet : List ℕ) : Type 0 where
  pub list : List Record
  pub its : Page page list
  pub cut : records sheet ≡ list
  pub answers : (pencil : List ℕ) (k l i : ℕ) → LayerAt list k l i → data_of sheet page pencil k l ≡ Ok (nth list i).len
  pub parts : (pencil : List ℕ) (k l i : ℕ) → LayerAt list k l i → part_of sheet page pencil k l ≡ layers_in its.striped k l

front_parts : (page sheet : List ℕ) (n : ℕ) → Front page n sheet → OwnParts page sheet
front_parts page sheet n f =
    let a : Accepted sheet = (f.good.sheet, f.good.whole) in
    record {
      list = f.list;
      its = f.page;
      cut = f.cut;
      answers = λ pencil k l i y.
          page_answers page f.list f.page sheet a f.cut pencil k l i (subst (λ (x : List Record). LayerAt x k l i) (sym f.cut) y)
          ∙ ap (λ (x : List Record). Ok (nth x i).len) f.cut;
      parts = λ pencil k l i y.
          page_part page f.list f.page sheet a f.cut pencil k l i (subst (λ (x : List Record). LayerAt x k l i) (sym f.cut) y);
    }

pub read_parts : (page d : List ℕ) → Octets page → (n : ℕ) → read_of page (length d) ≡ Ok n → OwnParts page (take (n * record_size) (read_into page d))
read_parts page d o n e = front_parts page (take (n * record_size) (read_into page d)) n (into_front page d o n e)
