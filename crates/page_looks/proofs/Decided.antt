-- A refusal of a page is decided by the octets up to where reading looked: a page that agrees so far with one that is refused, and not Short,
-- gets the same refusal.
-- Assumes nothing.
use Prim.Native.Nat.{ℕ}
use native.Mathlib.Omega.{arith}
use mathlib.Core.Path.{◌≡◌, refl, sym, ap, ◌∙◌}
use mathlib.Core.List.{List, []}
use lib.ListN.{length}
use lib.Dec.{lit≤}
use Rattle.octets.specs.Octets.{Octets}
use Rattle.laws.proofs.Cases.{clash}
use Rattle.answers.specs.declared.Refusal.{Refusal}
use Rattle.answers.specs.Answers.{refusal_place}
use Rattle.answers.specs.declared.Refusal.TheVariants.{Short, BadMark}
use Rattle.sheet_rules.specs.declared.Record.{Record}
use Rattle.field_rules.specs.Field.{Res, no, bind, fields}
use Rattle.page_looks.proofs.Hangs.{reach, Whole}
use Rattle.page_looks.proofs.Fields.{Looks}
use Rattle.page_looks.proofs.Looked.{beyond, Near, near, ◌&◌, Looked, looked_bind, looked_fields}
use Rattle.start_rules.specs.declared.Head.{Head}
use Rattle.start_rules.specs.Reading.{start_read}
use Rattle.page_looks.proofs.Start.{start_look, start_looked, start_far}
use Rattle.body_rules.specs.Body.{body_from}
use Rattle.page_looks.proofs.Body.{body_look, body_looked}
use Rattle.page_rules.specs.Reading.{item_of, end_table, page_of}
use Rattle.page_looks.proofs.Page.{item_look, item_looked, item_far, read_zeros, zeros_looked, page_look}

end_near : (at : ℕ) → Looks Near at end_table
unfolding Looks end_table refusal_place beyond
end_near at = near at 2 (BadMark at) refl (lit≤ tt) (lit≤ tt) & tt

module _ (s : List ℕ) where
  pub page_looked : Octets s → (a : Refusal) → page_of s ≡ no a → ((p : ℕ) → a ≡ Short p → ⊥) → Looked (page_look s) page_of s 0
  unfolding page_of page_look
  page_looked o a q u =
      looked_bind s (λ (t : List ℕ). start_read t 0) on_start (start_look s 0) _ 0 (start_looked s 0 (omega arith))
      (λ hd n hn ni en.
      let v : Whole (start_read s 0) = λ p z. clash cc in
      let z : start_look s 0 ≡ n = (start_looked s 0 (omega arith) v).ends hd n en in
      let f = start_far s 0 v in
      looked_bind s (λ (t : List ℕ). body_from (item_of hd) (length t) 0 65535 [] t n) on_body (body_look (item_of hd) (item_look hd) (length s) 0 65535 s n) _ n
      (body_looked (item_of hd) (item_look hd) s (λ k left at h. item_looked s o hd k left at h) (λ k left at h. item_far s o hd k left at h) (length s) length 0 65535 [] n refl
      (λ t. omega arith) ni)
      λ rs m hm mi em.
      looked_bind s (λ (t : List ℕ). fields end_table [] t m) (λ (es : List ℕ) (e : ℕ). read_zeros rs e) (reach end_table [] s m) _ m
      (looked_fields s end_table m mi (end_near m))
      λ es e he ei ee w.
      zeros_looked s rs e a ei
      (sym
      (ap (λ (r : Res Head). bind r (λ (x : Head) (y : ℕ). on_start x y s)) en
      ∙ ap (λ (r : Res (List Record)). bind r (λ (x : List Record) (y : ℕ). on_body x y s)) em
      ∙ ap (λ (r : Res (List ℕ)). bind r (λ (x : List ℕ) (y : ℕ). read_zeros rs y s)) ee)
      ∙ q))
      (λ p z. u p cc)
    where
      on_body : List Record → ℕ → List ℕ → Res (List Record)
      on_body rs m t = bind (fields end_table [] t m) (λ (es : List ℕ) (e : ℕ). read_zeros rs e t)

      on_start : Head → ℕ → List ℕ → Res (List Record)
      on_start hd n t = bind (body_from (item_of hd) (length t) 0 65535 [] t n) (λ (rs : List Record) (m : ℕ). on_body rs m t)
