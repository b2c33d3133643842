-- What is proved of the JPEG walk. The statements are for the reader; how each is shown stands in the files beside this one.
-- Assumes nothing.
use Prim.Native.Nat.{ℕ, ◌+◌, ◌-◌, ◌≤◌, ◌<◌}
use native.Mathlib.Omega.{arith}
use mathlib.Core.Path.{◌≡◌, refl, sym, ap, ◌∙◌}
use mathlib.Core.Logic.{◌↔◌}
use mathlib.Core.List.{List, [], ◌∷◌, ◌++◌, append-nil}
use lib.ListN.{length, take, drop, length-append, length-drop}
use lib.Seq.{length-take-le}
use Rattle.laws.proofs.Cases.{clash}
use Rattle.octets.specs.Octets.{Octets}
use Rattle.jpeg_rules.specs.declared.Class.{Class}
use Rattle.jpeg_rules.specs.declared.Fault.{Fault}
use Rattle.jpeg_rules.specs.declared.Said.{Said}
use Rattle.std.specs.Prelude.{Result, Ok, Err}
use Rattle.jpeg_rules.specs.Marker.{class_of}
use Rattle.jpeg_rules.specs.Grammar.{Layer}
use Rattle.jpeg_rules.specs.Walk.{walk_of}
use Rattle.jpeg_rules.specs.Faults.{BadLayer}
use Rattle.jpeg_rules.proofs.Codes.{Coded, coded_class, coded_once}
use Rattle.jpeg_rules.proofs.CodesBack.{class_coded}
use Rattle.jpeg_rules.proofs.Scans.{scan_split}
use Rattle.jpeg_rules.proofs.There.{layer_walk}
use Rattle.jpeg_rules.proofs.Back.{walk_layer}
use Rattle.jpeg_rules.proofs.Refuses.{layer_bad}
use Rattle.jpeg_rules.proofs.Refused.{layer_blames}

-- ---- the walk's table of codes says of every octet what the grammar's sentences say, and each octet has one of them

pub class_exactly : (c : ℕ) → c < 256 → (k : Class) → class_of c ≡ k ↔ Coded k c
class_exactly c o k = (class_coded c k (λ z. o), coded_class c k)

pub record OneSentence (c : ℕ) : Type 0 where
  pub class : Class
  pub holds : Coded class c
  pub only : (k : Class) → Coded k c → k ≡ class

pub one_sentence : (c : ℕ) → c < 256 → OneSentence c
one_sentence c o =
    let s = (class_exactly c o (class_of c)).0 refl in record { class = class_of c; holds = s; only = λ k x. coded_once c k (class_of c) x s }

-- ---- the walk ends at e exactly if the octets up to e are a layer, with what it says of itself

-- the octets from one place up to another are a layer
pub record LayerAt (s : List ℕ) (start main e : ℕ) (said : Said) : Type 0 where
  pub layer : Layer main (take (e - start) (drop start s)) said
  pub after : start ≤ e
  pub inside : e ≤ length s

cut_length : (s : List ℕ) (start e : ℕ) → e ≤ length s → length (take (e - start) (drop start s)) ≡ e - start
cut_length s start e h = length-take-le (e - start) (drop start s) (let l = length-drop start s in omega arith)

layer_ends : (s : List ℕ) (start main e : ℕ) (said : Said) → LayerAt s start main e said → walk_of s start main ≡ Ok (e, said)
layer_ends s start main e said k =
    let a = k.after in
    let l = cut_length s start e k.inside in
    let z : start + length (take (e - start) (drop start s)) ≡ e = omega arith in
    layer_walk s start main (take (e - start) (drop start s)) (drop e s) said k.layer (scan_split s start e a) ∙ ap (λ (n : ℕ). Ok (n, said)) z

pub walk_exactly : (s : List ℕ) → Octets s → (start main e : ℕ) (said : Said) → walk_of s start main ≡ Ok (e, said) ↔ LayerAt s start main e said
walk_exactly s o start main e said = (
  λ q. let k = walk_layer s o start main e said q in let a = k.after in record { layer = k.layer; after = omega arith; inside = k.inside },
  layer_ends s start main e said,
)

-- ---- and it is refused exactly if the octets from its start on are at fault so

pub walk_refused_exactly : (s : List ℕ) → Octets s → (start main : ℕ) (f : Fault) → walk_of s start main ≡ Err f ↔ BadLayer main start (drop start s) f
walk_refused_exactly s o start main f = (layer_blames s o main f start, layer_bad s main start refl)

-- a layer stands at a place or the octets are at fault there; never both, and with one fault only
pub data LayerOrFault (s : List ℕ) (start main : ℕ) : Type 0 where
  a_layer : {e : ℕ} {said : Said} → LayerAt s start main e said → LayerOrFault s start main
  a_fault : {f : Fault} → BadLayer main start (drop start s) f → LayerOrFault s start main

pub layer_or_fault : (s : List ℕ) → Octets s → (start main : ℕ) → LayerOrFault s start main
layer_or_fault s o start main = by (walk_of s start main) refl
  where
    by : (x : Result (ℕ × Said) Fault) → walk_of s start main ≡ x → LayerOrFault s start main
    by (Ok (e, said)) q = a_layer ((walk_exactly s o start main e said).0 q)
    by (Err f) q = a_fault ((walk_refused_exactly s o start main f).0 q)

pub layer_no_fault : (s : List ℕ) (start main e : ℕ) (said : Said) (f : Fault) → LayerAt s start main e said → BadLayer main start (drop start s) f → ⊥
layer_no_fault s start main e said f k b =
    let z : ◌≡◌ {A = Result (ℕ × Said) Fault} (Ok (e, said)) (Err f) = sym (layer_ends s start main e said k) ∙ layer_bad s main start refl b in clash cc

pub layer_fault_once : (s : List ℕ) (start main : ℕ) (f g : Fault) → BadLayer main start (drop start s) f → BadLayer main start (drop start s) g → f ≡ g
layer_fault_once s start main f g b c = let z : ◌≡◌ {A = Result (ℕ × Said) Fault} (Err f) (Err g) = sym (layer_bad s main start refl b) ∙ layer_bad s main start refl c in cc

-- ---- no layer is a proper prefix of another, and its octets determine its values

layer_at_0 : (l rest : List ℕ) (main : ℕ) (said : Said) → Layer main l said → walk_of (l ++ rest) 0 main ≡ Ok (length l, said)
layer_at_0 l rest main said y = let z : 0 + length l ≡ length l = omega arith in layer_walk (l ++ rest) 0 main l rest said y refl ∙ ap (λ (n : ℕ). Ok (n, said)) z

pub layer_prefix : (l more : List ℕ) (main : ℕ) (said said' : Said) → Layer main l said → Layer main (l ++ more) said' → more ≡ []
layer_prefix l more main said said' x y =
    let a = layer_at_0 l more main said x in
    let b : walk_of (l ++ more) 0 main ≡ Ok (length (l ++ more), said') = ap (λ (z : List ℕ). walk_of z 0 main) (sym (append-nil (l ++ more))) ∙ layer_at_0 (l ++ more) [] main said' y in
    let p : (length l, said) ≡ (length (l ++ more), said') = cc in
    let q : length l ≡ length (l ++ more) = ap (λ (w : ℕ × Said). w.0) p in
    let n = length-append l more in
    none more (omega arith)
  where
    none : (m : List ℕ) → length m ≡ 0 → m ≡ []
    none [] e = refl
    none (x ∷ m) e = absurd (omega arith)

pub layer_values : (l : List ℕ) (main : ℕ) (said said' : Said) → Layer main l said → Layer main l said' → said ≡ said'
layer_values l main said said' x y =
    let a = layer_at_0 l [] main said x in let b = layer_at_0 l [] main said' y in
    let p : (length l, said) ≡ (length l, said') = cc in ap (λ (w : ℕ × Said). w.1) p

-- ---- a walk that ends depends on nothing but the octets from its start to its end, and shifts with them

pub walk_shift : (s t : List ℕ) → Octets s → (start at main e : ℕ) (said : Said) → walk_of s start main ≡ Ok (e, said)
    → take (e - start) (drop at t) ≡ take (e - start) (drop start s) → at + (e - start) ≤ length t
    → walk_of t at main ≡ Ok (at + (e - start), said)
walk_shift s t o start at main e said q same fits =
    let k = walk_layer s o start main e said q in
    let a = k.after in
    let z : at + (e - start) - at ≡ e - start = omega arith in
    let l : List ℕ = take (e - start) (drop start s) in
    let n : length l ≡ e - start = cut_length s start e k.inside in
    let split : drop at t ≡ l ++ drop (at + (e - start)) t =
    scan_split t at (at + (e - start)) (omega arith) ∙ ap (λ (m : ℕ). take m (drop at t) ++ drop (at + (e - start)) t) z ∙ ap (λ (x : List ℕ). x ++ drop (at + (e - start)) t) same in
    layer_walk t at main l (drop (at + (e - start)) t) said k.layer split ∙ ap (λ (m : ℕ). Ok (at + m, said)) n
