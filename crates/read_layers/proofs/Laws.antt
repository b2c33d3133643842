-- What the proofs of this crate cite: for each way out of a function one law, over what is known there.
-- Assumes nothing.
use Prim.Native.Nat.{ℕ, ◌+◌, ◌-◌, ◌≤◌}
use native.Mathlib.Omega.{arith}
use mathlib.Core.Path.{◌≡◌, refl, sym, ap, ap₂, ◌∙◌}
use mathlib.Core.Bool.{Bool, true, false}
use mathlib.Core.List.{List}
use lib.ListN.{length}
use lib.Dec.{leb}
use mir.Syntax.{w32}
use mir.Val.{Fits}
use borrow.Author.Rules.{rules}
use borrow.Author.Tests.{leb-true, leb-false, le-ltb, lt-ltb}
use Rattle.laws.proofs.Cases.{clash}
use Rattle.laws.proofs.Asked.{asked}
use Rattle.answers.specs.declared.Refusal.{Refusal}
use Rattle.answers.specs.declared.Refusal.TheVariants as A
use Rattle.answers.specs.Answers.{refusal_place}
use Rattle.field_rules.specs.Field.{Res, ok, no}
use Rattle.jpeg_rules.specs.declared.Said.{Said}
use Rattle.jpeg_rules.specs.declared.Fault.{Fault}
use Rattle.jpeg_rules.specs.declared.Fault.TheVariants.{Short, BadLength, BadRes, BadLayer}
use Rattle.std.specs.Prelude.{Option, Some, None, Result, Ok, Err}
use Rattle.mode1_rules.specs.declared.LayerData.{LayerData}
use Rattle.jpeg_rules.specs.Walk.{walk_of}
use Rattle.jpeg_rules.proofs.Within.{walk_within, place_of as place_of_fault}
use Rattle.jpeg_walk.proofs.Ahead.{Reaches, walk_inside}
use Rattle.field_rules.specs.Part.{span_of}
use Rattle.segment_rules.specs.Rules.{longest_page}
use Rattle.mode1_rules.specs.Kinds.{has_back, has_fore}
use Rattle.mode1_rules.specs.Reading.{fault_of, on_walk, walked}
use Rattle.read_layers.specs.declared.Layer.{Layer}
use Rattle.read_layers.specs.Layers.{Inside, layer_of, fore_of, layers_in}

-- ---- fault_answer
pub fault_fits : (f g : Fault) → refusal_place (fault_of f) ≤ longest_page → f ≡ g → Fits w32 (refusal_place (fault_of g))
fault_fits f g h e = let l = rw e at h in record { fits = omega arith }

pub fault_told : (f g : Fault) → f ≡ g → fault_of g ≡ fault_of f
fault_told f g e = ap fault_of (sym e)

-- ---- layer_at
module _ (s : List ℕ) (main at : ℕ) (b : Bool) where
  pub layer_absent : b ≡ false → Ok (record { coded = None; next = at }) ≡ layer_of (walked s main b at)
  unfolding walked layer_of
  layer_absent y = simp y

  module _ (y : b ≡ true) {w : Result (ℕ × Said) Fault} (e : w ≡ walk_of s at main) where
    pub layer_wrong : {f : Fault} {a : Refusal} → w ≡ Err f → a ≡ fault_of f → Err a ≡ layer_of (walked s main b at)
    unfolding walked layer_of on_walk
    layer_wrong z h = simp (y, h, sym e ∙ z)

    module _ {next : ℕ} {said : Said} (z : w ≡ Ok (next, said)) where
      pub layer_known : Ok (record { coded = Some (record { start = at; size = next - at; said = said }); next = next }) ≡ layer_of (walked s main b at)
      unfolding walked layer_of on_walk
      layer_known = simp (y, sym e ∙ z)

place_same : (f : Fault) → refusal_place (fault_of f) ≡ place_of_fault f
unfolding refusal_place fault_of place_of_fault
place_same (Short p) = refl
place_same (BadLength p) = refl
place_same (BadRes p) = refl
place_same (BadLayer p) = refl

module _ (s : List ℕ) (main at : ℕ) (i : Inside s at) {w : Result (ℕ × Said) Fault} (e : w ≡ walk_of s at main) where
  pub fault_small : (f : Fault) → w ≡ Err f → refusal_place (fault_of f) ≤ longest_page
  fault_small f z =
      let h = walk_within s at main i.within f (sym e ∙ z) in
      let l = i.small in
      let p = place_same f in
      omega arith

  pub next_after : {next : ℕ} {said : Said} → w ≡ Ok (next, said) → at ≤ next
  next_after z = let h = rw (sym e ∙ z) at (walk_inside s at main) in h.0

  pub next_fits : {next : ℕ} {said : Said} → w ≡ Ok (next, said) → Fits w32 next
  next_fits z = let h = rw (sym e ∙ z) at (walk_inside s at main) in let n = h.1 in let l = i.small in record { fits = omega arith }

  pub size_fits : {next : ℕ} {said : Said} → w ≡ Ok (next, said) → Fits w32 (next - at)
  size_fits z = let h = rw (sym e ∙ z) at (walk_inside s at main) in let n = h.1 in let l = i.small in record { fits = omega arith }

pub ruleset layer_laws = (rules, layer_absent, layer_wrong, layer_known, fault_small, next_after, next_fits, size_fits)

-- ---- read_layers
layer_ok_lem : (x : Res (Option LayerData)) (v : Layer) → layer_of x ≡ Ok v → x ≡ ok v.coded v.next
unfolding layer_of
layer_ok_lem (ok d m) v e =
    let p : record { coded = d; next = m } ≡ v = cc in ap₂ ok (ap (λ (l : Layer). l.coded) p) (ap (λ (l : Layer). l.next) p)
layer_ok_lem (no a) v e = clash cc

layer_no : (x : Res (Option LayerData)) (a : Refusal) → layer_of x ≡ Err a → x ≡ no a
unfolding layer_of
layer_no (ok d m) a e = clash cc
layer_no (no b) a e = let p : b ≡ a = cc in ap no p

module _ (s : List ℕ) (main t mask at : ℕ) {f : Bool} (y : f ≡ leb (at + mask) (length s)) where
  pub layers_cut : f ≡ false → Err (A.Short at) ≡ layers_in s main t mask at
  unfolding layers_in span_of
  layers_cut z = simp (lt-ltb (length s) (at + mask) (leb-false _ _ (sym y ∙ z)))

  module _ (z : f ≡ true) {b : Bool} (h : b ≡ has_back t) {l : Result Layer Refusal} (e : l ≡ layer_of (walked s main b (at + mask))) where
    whole : at + mask ≤ length s
    whole = leb-true _ _ (sym y ∙ z)

    pub back_wrong : {a : Refusal} → l ≡ Err a → Err a ≡ layers_in s main t mask at
    unfolding layers_in span_of
    back_wrong k = simp (le-ltb (length s) (at + mask) whole, sym h, layer_no (walked s main b (at + mask)) _ (sym e ∙ k))

    module _ {back : Layer} (k : l ≡ Ok back) {d : Bool} (g : d ≡ has_fore t) {m : Result Layer Refusal} (u : m ≡ layer_of (walked s main d back.next)) where
      behind : fore_of s main t back.coded back.next ≡ layers_in s main t mask at
      unfolding layers_in span_of
      behind = simp (le-ltb (length s) (at + mask) whole, sym h, layer_ok_lem (walked s main b (at + mask)) back (sym e ∙ k))

      pub fore_wrong : {a : Refusal} → m ≡ Err a → Err a ≡ layers_in s main t mask at
      unfolding fore_of
      fore_wrong {a} v =
          let p : fore_of s main t back.coded back.next ≡ Err a = simp (sym g, layer_no (walked s main d back.next) _ (sym u ∙ v)) in sym p ∙ behind

      pub layers_read : {fore : Layer} → m ≡ Ok fore → Ok (record { back = back.coded; fore = fore.coded; next = fore.next }) ≡ layers_in s main t mask at
      unfolding fore_of
      layers_read {fore} v =
          let p : fore_of s main t back.coded back.next ≡ Ok (record { back = back.coded; fore = fore.coded; next = fore.next }) =
          simp (sym g, layer_ok_lem (walked s main d back.next) fore (sym u ∙ v)) in
          sym p ∙ behind

pub mask_inside : (s : List ℕ) (at mask : ℕ) {f : Bool} → Inside s at → f ≡ leb (at + mask) (length s) → f ≡ true → Inside s (at + mask)
mask_inside s at mask i y z = record { within = leb-true _ _ (sym y ∙ z); small = i.small }

pub mask_fits : (s : List ℕ) (at mask : ℕ) {f : Bool} → Inside s at → f ≡ leb (at + mask) (length s) → f ≡ true → Fits w32 (at + mask)
mask_fits s at mask i y z = let l = i.small in let w = leb-true (at + mask) (length s) (sym y ∙ z) in record { fits = omega arith }

-- the place after an image layer is one of the page, and not before it
pub walked_between : (s : List ℕ) (main : ℕ) (b : Bool) (at : ℕ) (c : Option LayerData) (n : ℕ) → at ≤ length s → walked s main b at ≡ ok c n → (at ≤ n) × (n ≤ length s)
unfolding walked on_walk
walked_between s main true at c n h e = by (walk_of s at main) (walk_inside s at main) e
  where
    by : (w : Result (ℕ × Said) Fault) → Reaches s at w → on_walk w at ≡ ok c n → (at ≤ n) × (n ≤ length s)
    by (Ok (next, said)) k e = let p : next ≡ n = cc in let q = k.1 in omega arith
    by (Err f) k e = clash cc
walked_between s main false at c n h e = let p : at ≡ n = cc in omega arith

pub back_inside : (s : List ℕ) (main at mask : ℕ) (b : Bool) {f : Bool} {l : Result Layer Refusal} {back : Layer} → Inside s at → f ≡ leb (at + mask) (length s) → f ≡ true
    → l ≡ layer_of (walked s main b (at + mask)) → l ≡ Ok back → Inside s back.next
back_inside s main at mask b {back = back} i y z e k =
    let j = mask_inside s at mask i y z in
    record { within = (walked_between s main b (at + mask) _ back.next j.within (layer_ok_lem (walked s main b (at + mask)) back (sym e ∙ k))).1; small = i.small }

pub ruleset layers_laws = (rules, asked, layers_cut, back_wrong, fore_wrong, layers_read, mask_inside, mask_fits, back_inside)
