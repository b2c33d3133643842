-- The layers as their reader answers them, and the layers of the definition.
-- Assumes nothing.
use Prim.Native.Nat.{ℕ, ◌+◌, ◌≤◌}
use native.Mathlib.Omega.{arith}
use mathlib.Core.Path.{◌≡◌, refl, sym, ap, ap₂, ◌∙◌}
use mathlib.Core.List.{List}
use lib.ListN.{length}
use lib.Dec.{ltb}
use borrow.Author.Tests.{ltb-false}
use Rattle.laws.proofs.Cases.{cond_with, clash}
use Rattle.answers.specs.declared.Refusal.{Refusal}
use Rattle.field_rules.specs.Field.{Res, ok, no, bind}
use Rattle.field_rules.specs.Part.{span_of}
use Rattle.start_rules.specs.declared.Head.{Head}
use Rattle.mode1_rules.specs.declared.Fields.{Fields}
use Rattle.std.specs.Prelude.{Option, Result, Ok, Err}
use Rattle.mode1_rules.specs.declared.LayerData.{LayerData}
use Rattle.mode1_rules.specs.Kinds.{has_back, has_fore}
use Rattle.mode1_rules.specs.Grammar.{records_of}
use Rattle.mode1_rules.specs.Reading.{walked, layers_of}
use Rattle.read_layers.specs.declared.Layers.{Layers}
use Rattle.read_layers.specs.Layers.{on_layer, fore_of, layers_in}
use Rattle.read_layers.proofs.Laws.{walked_between}

-- ---- the layers

pub record Parts (s : List ℕ) (main t mask at : ℕ) (back fore : Option LayerData) (e : ℕ) : Type 0 where
  pub n : ℕ
  pub q : ℕ
  pub m : ℕ
  pub span : span_of s at mask ≡ ok n q
  pub first : walked s main (has_back t) q ≡ ok back m
  pub second : walked s main (has_fore t) m ≡ ok fore e

on_read : {A : Type 0} (P : Type 0) (x : Res A) (go : A → ℕ → Result Layers Refusal) (back fore : Option LayerData) (e : ℕ) → on_layer x go ≡ Ok (record { back = back; fore = fore; next = e })
    → ((a : A) (n : ℕ) → x ≡ ok a n → go a n ≡ Ok (record { back = back; fore = fore; next = e }) → P) → P
on_read P (ok a n) go back fore e z k = k a n refl z
on_read P (no a) go back fore e z k = clash cc

pub layers_parts : (s : List ℕ) (main t mask at : ℕ) (back fore : Option LayerData) (e : ℕ) → layers_in s main t mask at ≡ Ok (record { back = back; fore = fore; next = e }) → Parts s main t mask at back fore e
unfolding layers_in fore_of
layers_parts s main t mask at back fore e z =
    on_read _ (span_of s at mask) _ back fore e z λ n q sp z1.
    on_read _ (walked s main (has_back t) q) _ back fore e z1 λ b m w z2.
    on_read _ (walked s main (has_fore t) m) _ back fore e z2 λ f r v z3.
    let p : record { back = b; fore = f; next = r } ≡ record { back = back; fore = fore; next = e } = cc in
    let p1 = ap (λ (l : Layers). l.back) p in
    let p2 = ap (λ (l : Layers). l.fore) p in
    let p3 = ap (λ (l : Layers). l.next) p in
    record { n = n; q = q; m = m; span = sp; first = w ∙ ap (λ (x : Option LayerData). ok x m) p1; second = v ∙ ap₂ ok p2 p3 }

on_broken : {A B : Type 0} (x : Res A) (go : A → ℕ → Result Layers Refusal) (og : A → ℕ → Res B) (a : Refusal) → on_layer x go ≡ Err a
    → ((y : A) (n : ℕ) → go y n ≡ Err a → og y n ≡ no a) → bind x og ≡ no a
unfolding bind
on_broken (ok y n) go og a z k = k y n z
on_broken (no b) go og a z k = let p : b ≡ a = cc in ap no p

span_back : (s : List ℕ) (at size n q : ℕ) → span_of s at size ≡ ok n q → (q ≡ at + size) × (at + size ≤ length s)
unfolding span_of
span_back s at size n q =
    cond_with (λ (x : Res ℕ). x ≡ ok n q → (q ≡ at + size) × (at + size ≤ length s)) (ltb (length s) (at + size)) (λ t e. clash cc)
    (λ t e. let a : at + size ≡ q = cc in (sym a, ltb-false (length s) (at + size) t))

module _ (hd : Head) (k : ℕ) (f : Fields) (s : List ℕ) (at : ℕ) where
  pub layers_refused : (a : Refusal) → layers_in s hd.main f.kind f.mask_length at ≡ Err a → layers_of hd k f s at ≡ no a
  unfolding layers_in fore_of layers_of
  layers_refused a z =
      on_broken (span_of s at f.mask_length) _ _ a z λ n q z1.
      on_broken (walked s hd.main (has_back f.kind) q) _ _ a z1 λ b m z2.
      on_broken (walked s hd.main (has_fore f.kind) m) _ _ a z2 λ c r z3. clash cc

  pub layers_done : (back fore : Option LayerData) (e : ℕ) → Parts s hd.main f.kind f.mask_length at back fore e → layers_of hd k f s at ≡ ok (records_of hd k f at back fore) e
  unfolding layers_of bind
  layers_done back fore e p = simp p.span (simp p.first (simp p.second))

  pub layers_after : (back fore : Option LayerData) (e : ℕ) → at ≤ length s → Parts s hd.main f.kind f.mask_length at back fore e → (at ≤ e) × (e ≤ length s)
  layers_after back fore e h p =
      let b = span_back s at f.mask_length p.n p.q p.span in
      let b0 = b.0 in
      let b1 = b.1 in
      let c = walked_between s hd.main (has_back f.kind) p.q back p.m (omega arith) p.first in
      let d = walked_between s hd.main (has_fore f.kind) p.m fore e c.1 p.second in
      omega arith
