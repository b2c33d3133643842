-- What the proofs of this crate cite: for each way out of a function one law, over what is known there.
-- Assumes nothing.
use Prim.Native.Nat.{ℕ, ◌+◌, ◌*◌, ◌≤◌}
use native.Mathlib.Omega.{arith}
use mathlib.Core.Path.{◌≡◌, refl, sym, ap, ap₂, subst, ◌∙◌}
use mathlib.Core.Bool.{Bool, true, false}
use mathlib.Core.List.{List, []}
use borrow.Author.Rules.{rules}
use Rattle.laws.proofs.Asked.{asked}
use Rattle.octets.specs.Octets.{put_at}
use Rattle.answers.specs.declared.Refusal.{Refusal}
use Rattle.field_rules.specs.Field.{Res, ok, no, bind, fields}
use Rattle.sheet_rules.specs.declared.Record.{Record}
use Rattle.sheet_rules.specs.Record.{record_size, sheet_of}
use Rattle.start_rules.specs.declared.Head.{Head}
use Rattle.body_rules.specs.Body.{striped}
use Rattle.mode1_rules.specs.declared.Fields.{Fields}
use Rattle.std.specs.Prelude.{Option, Some, None, Result, Ok, Err, ⊤}
use Rattle.answers.specs.declared.Refusal.{Refusal}
use Rattle.mode1_rules.specs.declared.LayerData.{LayerData}
use Rattle.mode1_rules.specs.Kinds.{stripe_body}
use Rattle.mode1_rules.specs.Grammar.{records_of}
use Rattle.mode1_rules.specs.Reading.{stripe_table, fields_from, walked, stripe_read}
use Rattle.read_field.specs.Judged.{judged_of}
use Rattle.read_field.proofs.Views.{judged_no, judged_ok}
use Rattle.read_head.specs.Fields.{fields_at, Shown}
use Rattle.read_head.proofs.Kept.{fields_kept, fields_past, height_low, back_low, fore_low}
use Rattle.read_layers.specs.declared.Layers.{Layers}
use Rattle.read_layers.specs.Layers.{Inside, layers_in}
use Rattle.read_records.specs.Places.{Placed, Room}
use Rattle.read_stripe.specs.declared.Laid.{Laid}
use Rattle.read_stripe.specs.Steps.{Laying, Ready, layered, step_of, laid_of}
use Rattle.read_stripe.proofs.Layers.{layers_parts, layers_refused, layers_done}

-- ---- stripe_layers

placed_any : (c : Option LayerData) (x y : ℕ) → x ≤ 65535 → y ≤ 65535 → Placed c x y
placed_any (Some w) x y p q = (p, q)
placed_any None x y p q = tt

-- a layer that is coded is one that the type names
placed : (s : List ℕ) (main : ℕ) (b : Bool) (at : ℕ) (c : Option LayerData) (n x y : ℕ) → (b ≡ true → (x ≤ 65535) × (y ≤ 65535)) → walked s main b at ≡ ok c n → Placed c x y
unfolding walked
placed s main true at c n x y h e = let z = h refl in placed_any c x y z.0 z.1
placed s main false at c n x y h e = let p : None ≡ c = cc in subst (λ (d : Option LayerData). Placed d x y) p tt

module _ (out s : List ℕ) (f : Fields) (at first : ℕ) (l : Laying out s f at first) where
  pub layers_inside : Inside s at
  layers_inside = record { within = l.inside; small = l.small }

  pub layers_room : (hd : Head) (r : Result Layers Refusal) → r ≡ layers_in s hd.main f.kind f.mask_length at → (v : Layers) → r ≡ Ok v
      → Room out (first * record_size) f v.back v.fore
  layers_room hd r g v z =
      let h = l.holds in
      let p = layers_parts s hd.main f.kind f.mask_length at v.back v.fore v.next (sym g ∙ z) in
      record {
        holds = omega arith;
        height = l.fit.height;
        back_placed = placed s hd.main _ p.q v.back p.m f.back_x f.back_y l.fit.back p.first;
        fore_placed = placed s hd.main _ p.m v.fore v.next f.fore_x f.fore_y l.fit.fore p.second;
      }

module _ (hd : Head) (k : ℕ) (f : Fields) (s : List ℕ) (at : ℕ) (r : Result Layers Refusal) (g : r ≡ layers_in s hd.main f.kind f.mask_length at) where
  no_layers : (a : Refusal) → r ≡ Err a → layered hd k f s at ≡ no a
  unfolding layered bind
  no_layers a z = ap (λ (x : Res (List Record)). bind x (λ (rs : List Record) (e : ℕ). ok (striped f.height rs) e)) (layers_refused hd k f s at a (sym g ∙ z))

  all_layers : (v : Layers) → r ≡ Ok v → layered hd k f s at ≡ ok (striped f.height (records_of hd k f at v.back v.fore)) v.next
  unfolding layered bind
  all_layers v z =
      ap (λ (x : Res (List Record)). bind x (λ (rs : List Record) (e : ℕ). ok (striped f.height rs) e))
      (layers_done hd k f s at v.back v.fore v.next (layers_parts s hd.main f.kind f.mask_length at v.back v.fore v.next (sym g ∙ z)))

  pub layers_fault : (a : Refusal) → r ≡ Err a → Err a ≡ step_of (layered hd k f s at)
  unfolding step_of
  layers_fault a z = simp (no_layers a z)

  pub layers_kept : (out : List ℕ) (first : ℕ) (a : Refusal) → r ≡ Err a → out ≡ laid_of out first (layered hd k f s at)
  unfolding laid_of
  layers_kept out first a z = simp (no_layers a z)

  module _ (v : Layers) (z : r ≡ Ok v) where
    pub layers_next : Ok (record { next = v.next; height = f.height; records = 3 }) ≡ step_of (layered hd k f s at)
    unfolding step_of
    layers_next = simp (all_layers v z)

    pub layers_laid : (out out' : List ℕ) (first : ℕ) → out' ≡ put_at out (first * record_size) (sheet_of (records_of hd k f at v.back v.fore)) → out' ≡ laid_of out first (layered hd k f s at)
    unfolding laid_of
    layers_laid out out' first h = h ∙ simp (all_layers v z)

pub ruleset laying = (rules, asked, layers_inside, layers_room, layers_fault, layers_kept, layers_next, layers_laid)

-- ---- read_stripe

module _ (hd : Head) (k left : ℕ) (s : List ℕ) (at : ℕ) (j : Result ⊤ Refusal) (e : j ≡ judged_of (fields (stripe_table hd left) [] s at)) where
  no_fields : (a : Refusal) → j ≡ Err a → stripe_read hd k left s at ≡ no a
  unfolding stripe_read bind
  no_fields a z = simp (judged_no (fields (stripe_table hd left) [] s at) a (sym e ∙ z))

  pub stripe_refused : (a : Refusal) → j ≡ Err a → Err a ≡ step_of (stripe_read hd k left s at)
  unfolding step_of
  stripe_refused a z = simp (no_fields a z)

  pub stripe_kept : (out : List ℕ) (first : ℕ) (a : Refusal) → j ≡ Err a → out ≡ laid_of out first (stripe_read hd k left s at)
  unfolding laid_of
  stripe_kept out first a z = simp (no_fields a z)

  module _ (out : List ℕ) (first : ℕ) (r : Ready out s left at first) (f : Fields) (i : f ≡ fields_at s at) (z : j ≡ Ok tt) where
    pub stripe_laying : Laying out s f (at + stripe_body) first
    stripe_laying =
        judged_ok (Laying out s f (at + stripe_body) first) (fields (stripe_table hd left) [] s at) (sym e ∙ z) λ vs n q.
        let p = fields_past hd left s at vs n q r.inside in
        let p0 = p.0 in
        let p1 = p.1 in
        let h = height_low hd left s at vs n q in
        let l = r.low in
        subst (λ (x : Fields). Laying out s x (at + stripe_body) first) (sym i)
        (record {
          holds = r.holds;
          inside = omega arith;
          small = r.small;
          fit = record { height = omega arith; back = back_low hd left s at vs n q; fore = fore_low hd left s at vs n q };
        })

    stripe_is : layered hd k f s (at + stripe_body) ≡ stripe_read hd k left s at
    unfolding stripe_read layered bind
    stripe_is =
        judged_ok (layered hd k f s (at + stripe_body) ≡ stripe_read hd k left s at) (fields (stripe_table hd left) [] s at) (sym e ∙ z) λ vs n q.
        sym
        (ap (λ (x : Res (List ℕ)). bind x (λ (vs : List ℕ) (n : ℕ). layered hd k (fields_from vs) s n)) q
        ∙ ap₂ (λ (x : Fields) (p : ℕ). layered hd k x s p) (fields_kept hd left s at vs n q ∙ sym i) (fields_past hd left s at vs n q r.inside).0)

    pub stripe_stepped : (q : Result Laid Refusal) → q ≡ step_of (layered hd k f s (at + stripe_body)) → q ≡ step_of (stripe_read hd k left s at)
    stripe_stepped q h = h ∙ ap step_of stripe_is

    pub stripe_laid : (out' : List ℕ) → out' ≡ laid_of out first (layered hd k f s (at + stripe_body)) → out' ≡ laid_of out first (stripe_read hd k left s at)
    stripe_laid out' h = h ∙ ap (laid_of out first) stripe_is

pub fields_near : (out s : List ℕ) (left at first : ℕ) → Ready out s left at first → at ≤ 16777215
fields_near out s left at first r = let a = r.inside in let b = r.small in omega arith

pub fields_shown : (out s : List ℕ) (left at first : ℕ) (f : Fields) → Ready out s left at first → f ≡ fields_at s at → Shown s at f
fields_shown out s left at first f r i = record { near = fields_near out s left at first r; same = i }

pub ruleset striping = (rules, asked, fields_near, fields_shown, stripe_refused, stripe_kept, stripe_laying, stripe_stepped, stripe_laid)
