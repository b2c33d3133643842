-- The coded layers of a stripe are read exactly as the grammar and the refusals say.
-- Assumes nothing.
use Prim.Native.Nat.{ℕ, ◌+◌, ◌-◌, ◌≤◌}
use native.Mathlib.Omega.{arith}
use native.Mathlib.Nat.{add-zero}
use mathlib.Core.Path.{◌≡◌, refl, sym, ap, subst, ◌∙◌}
use mathlib.Core.Bool.{Bool, true, false, cond}
use mathlib.Core.List.{List, [], ◌++◌}
use lib.ListN.{length, take, drop, length-drop}
use lib.Seq.{length-take-le}
use Rattle.octets.specs.Octets.{Octets}
use Rattle.laws.proofs.Cases.{clash}
use Rattle.answers.specs.declared.Refusal.{Refusal}
use Rattle.sheet_rules.specs.declared.Record.{Record}
use Rattle.field_rules.specs.Field.{ok, no}
use Rattle.field_rules.specs.Part.{Stood, Exact, Both, BadThen, bad_first, bad_later, Mapped, mapped, span_of, Span, span, BadSpan, cut_span}
use Rattle.field_rules.proofs.Parts.{exact_as, exact_then, exact_map, exact_span}
use Rattle.std.specs.Prelude.{Option, Some, None, Result, Ok, Err}
use Rattle.jpeg_rules.specs.declared.Fault.{Fault}
use Rattle.jpeg_rules.specs.declared.Said.{Said}
use Rattle.mode1_rules.specs.declared.LayerData.{LayerData}
use Rattle.jpeg_rules.specs.Walk.{walk_of}
use Rattle.jpeg_rules.proofs.There.{layer_walk}
use Rattle.jpeg_rules.proofs.Back.{walk_layer}
use Rattle.jpeg_rules.proofs.Refuses.{layer_bad}
use Rattle.jpeg_rules.proofs.Theorems.{walk_refused_exactly}
use Rattle.start_rules.specs.declared.Head.{Head}
use Rattle.mode1_rules.specs.declared.Fields.{Fields}
use Rattle.mode1_rules.specs.Kinds.{has_back, has_fore}
use Rattle.mode1_rules.specs.Grammar.{Image, there, absent, records_of}
use Rattle.mode1_rules.specs.Reading.{fault_of, on_walk, walked, layers_of}
use Rattle.mode1_rules.specs.Faults.{BadImage, bad_image, BadLayers, cut_mask, bad_back, bad_fore}

-- ---- an image layer

walked_there : (s : List ℕ) (main at : ℕ) (b : Bool) (l r : List ℕ) (c : Option LayerData) → Image main at b l c → drop at s ≡ l ++ r → walked s main b at ≡ ok c (at + length l)
unfolding walked on_walk
walked_there s main at b l r c (there {said = said} y) e =
    let q = layer_walk s at main l r said y e in
    let z : at + length l - at ≡ length l = omega arith in
    ap (λ (x : Result (ℕ × Said) Fault). on_walk x at) q ∙ ap (λ (n : ℕ). ok (Some (record { start = at; size = n; said = said })) (at + length l)) z
walked_there s main at b l r c absent e = ap (ok None) (sym (add-zero at))

walk_back : (s : List ℕ) → Octets s → (main at : ℕ) (c : Option LayerData) (e : ℕ) (x : Result (ℕ × Said) Fault) → walk_of s at main ≡ x → on_walk x at ≡ ok c e → Stood (Image main at true) s at c e
unfolding on_walk
walk_back s o main at c e (Ok (n, said)) q z =
    let k = walk_layer s o at main n said q in
    let a : n ≡ e = cc in
    let b : Some (record { start = at; size = n - at; said = said }) ≡ c = cc in
    let af = k.after in
    let i = k.inside in
    let l : List ℕ = take (n - at) (drop at s) in
    let len : length l ≡ n - at = length-take-le (n - at) (drop at s) (let u = length-drop at s in omega arith) in
    record {
      octets = l;
      is = subst (Image main at true l) (ap (λ (j : ℕ). Some (record { start = at; size = j; said = said })) len ∙ b) (there k.layer);
      split = k.split ∙ ap (λ (j : ℕ). l ++ drop j s) a;
      ends = omega arith;
      inside = omega arith;
    }
walk_back s o main at c e (Err f) q z = clash cc

pub walked_back : (s : List ℕ) → Octets s → (main at : ℕ) (b : Bool) (c : Option LayerData) (e : ℕ) → at ≤ length s → walked s main b at ≡ ok c e → Stood (Image main at b) s at c e
unfolding walked
walked_back s o main at true c e h q = walk_back s o main at c e (walk_of s at main) refl q
walked_back s o main at false c e h q =
    let a : None ≡ c = cc in
    let z : at ≡ e = cc in
    record {
      octets = [];
      is = subst (Image main at false []) a absent;
      split = ap (λ (j : ℕ). drop j s) z;
      ends = omega arith;
      inside = omega arith;
    }

pub exact_image : (main : ℕ) (b : Bool) (s : List ℕ) (at : ℕ) → at ≤ length s → Exact (walked s main b at) (Image main at b) (BadImage main at b) s at
unfolding walked on_walk
exact_image main b s at h =
    record {
      there = λ l rest c e z. walked_there s main at b l rest c z e;
      back = λ o c n e. walked_back s o main at b c n h e;
      refuses = λ x f. bad b f;
      refused = λ o x e. blame o x b e;
    }
  where
    bad : (b : Bool) {x : Refusal} → BadImage main at b (drop at s) x → cond b (on_walk (walk_of s at main) at) (ok None at) ≡ no x
    bad b (bad_image y) = ap (λ (w : Result (ℕ × Said) Fault). on_walk w at) (layer_bad s main at refl y)

    by : Octets s → (x : Refusal) (w : Result (ℕ × Said) Fault) → walk_of s at main ≡ w → on_walk w at ≡ no x → BadImage main at true (drop at s) x
    by o x (Ok (n, said)) q e = clash cc
    by o x (Err f) q e = let z : fault_of f ≡ x = cc in subst (BadImage main at true (drop at s)) z (bad_image ((walk_refused_exactly s o at main f).0 q))

    blame : Octets s → (x : Refusal) (b : Bool) → cond b (on_walk (walk_of s at main) at) (ok None at) ≡ no x → BadImage main at b (drop at s) x
    blame o x true e = by o x (walk_of s at main) refl e
    blame o x false e = clash cc

-- ---- the layers of a stripe

pub record Layers (hd : Head) (k : ℕ) (f : Fields) (at : ℕ) (l : List ℕ) (rs : List Record) : Type 0 where
  pub mask : List ℕ
  pub back : List ℕ
  pub fore : List ℕ
  pub back_is : Option LayerData
  pub fore_is : Option LayerData
  pub octets : l ≡ mask ++ (back ++ fore)
  pub size : length mask ≡ f.mask_length
  pub back_there : Image hd.main (at + length mask) (has_back f.kind) back back_is
  pub fore_there : Image hd.main (at + length mask + length back) (has_fore f.kind) fore fore_is
  pub records : rs ≡ records_of hd k f at back_is fore_is

module _ (hd : Head) (k : ℕ) (f : Fields) (s : List ℕ) (at : ℕ) (h : at ≤ length s) where
  abbrev Fore : Option LayerData → ℕ → List ℕ → List Record → Type 0
  Fore back q = Mapped (λ (fore : Option LayerData). records_of hd k f at back fore) (Image hd.main q (has_fore f.kind))

  abbrev Back : ℕ → ℕ → List ℕ → List Record → Type 0
  Back n p = Both (Image hd.main p (has_back f.kind)) Fore p

  abbrev BadFore : Option LayerData → ℕ → List ℕ → Refusal → Type 0
  BadFore back q = BadImage hd.main q (has_fore f.kind)

  abbrev BadBack : ℕ → ℕ → List ℕ → Refusal → Type 0
  BadBack n p = BadThen (Image hd.main p (has_back f.kind)) (BadImage hd.main p (has_back f.kind)) BadFore p

  steps : Exact (layers_of hd k f s at) (Both (Span f.mask_length) Back at) (BadThen (Span f.mask_length) (BadSpan f.mask_length at) BadBack at) s at
  unfolding layers_of
  steps =
      exact_then (span_of s at f.mask_length) _ (Span f.mask_length) (BadSpan f.mask_length at) Back BadBack s at h (exact_span f.mask_length s at h) λ n l z i.
      exact_then (walked s hd.main (has_back f.kind) (at + length l)) _ (Image hd.main (at + length l) (has_back f.kind)) (BadImage hd.main (at + length l) (has_back f.kind)) Fore BadFore s (at + length l) i
      (exact_image hd.main (has_back f.kind) s (at + length l) i) λ back m y j.
      exact_map (walked s hd.main (has_fore f.kind) (at + length l + length m)) (λ (fore : Option LayerData). records_of hd k f at back fore) (Image hd.main (at + length l + length m) (has_fore f.kind))
      (BadImage hd.main (at + length l + length m) (has_fore f.kind)) s (at + length l + length m) j
      (exact_image hd.main (has_fore f.kind) s (at + length l + length m) j)

  pub exact_layers : Exact (layers_of hd k f s at) (Layers hd k f at) (BadLayers hd f at) s at
  exact_layers =
      exact_as steps
      (λ l rs b. to l rs b) (λ l rs b. fro l rs b) (λ l x b. bad b) (λ l x b. worse b)
    where
      of_fore : (mask back fore : List ℕ) (c : Option LayerData) {rs : List Record} → length mask ≡ f.mask_length → Image hd.main (at + length mask) (has_back f.kind) back c
          → Fore c (at + length mask + length back) fore rs → Layers hd k f at (mask ++ (back ++ fore)) rs
      of_fore mask back fore c n y (mapped d z) =
          record { mask = mask; back = back; fore = fore; back_is = c; fore_is = d; octets = refl; size = n; back_there = y; fore_there = z; records = refl }

      of_span : {n : ℕ} {m : List ℕ} → Span f.mask_length m n → length m ≡ f.mask_length
      of_span (span e) = e

      to : (l : List ℕ) (rs : List Record) → Both (Span f.mask_length) Back at l rs → Layers hd k f at l rs
      to l rs b =
          let c = b.second in
          subst (λ (x : List ℕ). Layers hd k f at x rs) (sym (b.octets ∙ ap (λ (x : List ℕ). b.front ++ x) c.octets))
          (of_fore b.front c.front c.rest c.value (of_span b.first) c.first c.second)

      fro : (l : List ℕ) (rs : List Record) → Layers hd k f at l rs → Both (Span f.mask_length) Back at l rs
      fro l rs y =
          record {
            front = y.mask;
            rest = y.back ++ y.fore;
            value = f.mask_length;
            octets = y.octets;
            first = span y.size;
            second =
                record {
                  front = y.back;
                  rest = y.fore;
                  value = y.back_is;
                  octets = refl;
                  first = y.back_there;
                  second = subst (Fore y.back_is (at + length y.mask + length y.back) y.fore) (sym y.records) (mapped y.fore_is y.fore_there);
                };
          }

      bad : {l : List ℕ} {x : Refusal} → BadThen (Span f.mask_length) (BadSpan f.mask_length at) BadBack at l x → BadLayers hd f at l x
      bad (bad_first (cut_span c)) = cut_mask c
      bad (bad_later mask r n (span e) (bad_first y)) = bad_back mask r e y
      bad (bad_later mask r n (span e) (bad_later back u c z y)) = bad_fore mask back u c e z y

      worse : {l : List ℕ} {x : Refusal} → BadLayers hd f at l x → BadThen (Span f.mask_length) (BadSpan f.mask_length at) BadBack at l x
      worse (cut_mask c) = bad_first (cut_span c)
      worse (bad_back mask r e y) = bad_later mask r f.mask_length (span e) (bad_first y)
      worse (bad_fore mask back u c e z y) = bad_later mask (back ++ u) f.mask_length (span e) (bad_later back u c z y)
