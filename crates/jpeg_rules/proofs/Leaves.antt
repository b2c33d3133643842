-- The leaves of the walk: which runs are data, and what a segment's length says of the octets. The codes are in Codes.antt, a run of FF and a marker
-- in Runs.antt, scan data in Scans.antt.
-- Assumes nothing.
use Prim.Native.Nat.{ℕ, suc, ◌+◌, ◌-◌, ◌≤◌, ◌<◌}
use native.Mathlib.Omega.{arith}
use mathlib.Core.Path.{◌≡◌, refl, sym, ap, ◌∙◌}
use mathlib.Core.Logic.{◌≢◌, ⊎_elim}
use mathlib.Core.Bool.{◌&&◌, ◌||◌}
use mathlib.Core.List.{List, ◌∷◌, ◌++◌}
use lib.ListN.{length, get_or, take, drop, length-append, length-drop, take-append-drop}
use lib.Seq.{drop-drop, length-take-le}
use lib.Dec.{eqb, ltb}
use borrow.Author.Tests.{le-ltb, ltb-false}
use Rattle.laws.proofs.Cases.{cond_with, clash}
use Rattle.octets.specs.Octets.{Octets, be16_at, octets16}
use Rattle.octets.proofs.Laws.{be16_there, be16_stands, be16_bound, drop_next, drop_octet, length_octets16}
use Rattle.laws.proofs.Says.{Says, says_as, says_eq, says_le, says_and, says_or}
use Rattle.std.specs.Prelude.{Ok}
use Rattle.laws.specs.Tests.{within}
use Rattle.jpeg_rules.specs.Grammar.{DataRun, Fits}
use Rattle.jpeg_rules.specs.Walk.{seg_of, data_run}

-- ---- which runs are data

pub says_data : (fill c : ℕ) → Says ((eqb c 0x00 && eqb fill 0) || within 0xD0 0xD7 c) (DataRun fill c)
says_data fill c = says_or (says_and (says_eq c 0x00) (says_eq fill 0)) (says_and (says_le 0xD0 c) (says_le c 0xD7))

-- a run of FF, of which all but one are fill
pub says_run : (run fill c : ℕ) → run ≡ fill + 1 → Says (data_run run c) (DataRun fill c)
unfolding data_run
says_run run fill c e =
    says_or (says_and (says_eq c 0x00) (says_as (says_eq run 1) (λ q. omega arith) (λ q. omega arith))) (says_and (says_le 0xD0 c) (says_le c 0xD7))

-- FF is no code of data
pub data_other : (fill c : ℕ) → DataRun fill c → c ≢ 0xFF
data_other fill c k q =
    ⊎_elim (λ (w : (c ≡ 0x00) × (fill ≡ 0)). let z = w.0 in omega arith) (λ (w : (0xD0 ≤ c) × (c ≤ 0xD7)). omega arith) k

-- ---- octets that stand at a place

module _ (s : List ℕ) (at : ℕ) where
  pub one_there : (a : ℕ) (r : List ℕ) → drop at s ≡ a ∷ r → (at + 1 ≤ length s) × (get_or s at 0 ≡ a) × (drop (at + 1) s ≡ r)
  one_there a r e =
      let l : length s - at ≡ suc (length r) = sym (length-drop at s) ∙ ap length e in
      let d = drop_octet s at (omega arith) in
      (omega arith, cc, cc)

module _ (s : List ℕ) (at : ℕ) where
  pub two_there : (a b : ℕ) (r : List ℕ) → drop at s ≡ a ∷ b ∷ r
      → (at + 2 ≤ length s) × (get_or s at 0 ≡ a) × (get_or s (at + 1) 0 ≡ b) × (drop (at + 2) s ≡ r)
  two_there a b r e =
      let f = one_there s at a (b ∷ r) e in
      let g = one_there s (at + 1) b r f.2 in
      let z : at + 1 + 1 ≡ at + 2 = omega arith in
      (let h = g.0 in omega arith, f.1, g.1, ap (λ (k : ℕ). drop k s) (sym z) ∙ g.2)

  pub two_stand : at + 2 ≤ length s → drop at s ≡ get_or s at 0 ∷ get_or s (at + 1) 0 ∷ drop (at + 2) s
  two_stand h =
      let z : at + 1 + 1 ≡ at + 2 = omega arith in
      drop_octet s at (omega arith)
      ∙ ap (λ (l : List ℕ). get_or s at 0 ∷ l) (drop_octet s (at + 1) (omega arith) ∙ ap (λ (k : ℕ). get_or s (at + 1) 0 ∷ drop k s) z)

-- ---- a segment by its length

module _ (s : List ℕ) (n : ℕ) where
  pub seg_there : (least : ℕ) (body r : List ℕ) → drop n s ≡ octets16 (length body + 2) ++ (body ++ r) → least ≤ length body + 2
      → (seg_of s n least ≡ Ok (n + (length body + 2))) × (drop (n + 2) s ≡ body ++ r) × (drop (n + (length body + 2)) s ≡ r) × (n + (length body + 2) ≤ length s)
  unfolding seg_of
  seg_there least body r e h =
      let w : be16_at s n ≡ length body + 2 = be16_there s (body ++ r) n (length body + 2) e in
      let l2 = length_octets16 (length body + 2) in
      let d : drop (n + 2) s ≡ body ++ r = ap (λ (k : ℕ). drop (n + k) s) (sym l2) ∙ drop_next s (octets16 (length body + 2)) (body ++ r) n e in
      let z : n + 2 + length body ≡ n + (length body + 2) = omega arith in
      let f : drop (n + (length body + 2)) s ≡ r = ap (λ (k : ℕ). drop k s) (sym z) ∙ drop_next s body r (n + 2) d in
      let a : length s - n ≡ length (octets16 (length body + 2)) + length (body ++ r) = sym (length-drop n s) ∙ ap length e ∙ length-append (octets16 (length body + 2)) (body ++ r) in
      let b = length-append body r in
      let g : n + (length body + 2) ≤ length s = omega arith in
      (simp (w, le-ltb (length s) (n + 2) (omega arith), le-ltb (length body + 2) least h, le-ltb (length s) (n + (length body + 2)) g) refl, d, f, g)

  pub record Segmented (least next : ℕ) : Type 0 where
    pub body : List ℕ
    pub size : length body + 2 ≡ be16_at s n
    pub enough : least ≤ length body + 2
    pub fits : Fits body
    pub ends : next ≡ n + (length body + 2)
    pub inside : next ≤ length s
    pub start : drop (n + 2) s ≡ body ++ drop next s
    pub stands : drop n s ≡ octets16 (length body + 2) ++ (body ++ drop next s)

  pub seg_back : (least next : ℕ) → Octets s → 2 ≤ least → seg_of s n least ≡ Ok next → Segmented least next
  unfolding seg_of
  seg_back least next o two =
      cond_with (λ x. x ≡ Ok next → Segmented least next) (ltb (length s) (n + 2)) (λ t e. clash cc) λ f1.
      cond_with (λ x. x ≡ Ok next → Segmented least next) (ltb (be16_at s n) least) (λ t e. clash cc) λ f2.
      cond_with (λ x. x ≡ Ok next → Segmented least next) (ltb (length s) (n + be16_at s n)) (λ t e. clash cc) λ f3 e.
      let h1 = ltb-false (length s) (n + 2) f1 in
      let h2 = ltb-false (be16_at s n) least f2 in
      let h3 = ltb-false (length s) (n + be16_at s n) f3 in
      let b : n + be16_at s n ≡ next = cc in
      made (be16_at s n) refl h1 h2 h3 (sym b) (be16_stands s n o h1) (be16_bound s n o)
    where
      made : (v : ℕ) → v ≡ be16_at s n → n + 2 ≤ length s → least ≤ be16_at s n → n + be16_at s n ≤ length s → next ≡ n + be16_at s n
          → drop n s ≡ octets16 (be16_at s n) ++ drop (n + 2) s → be16_at s n < 65536 → Segmented least next
      made v q h1 h2 h3 b st lt =
          let m : ℕ = be16_at s n - 2 in
          let body : List ℕ = take m (drop (n + 2) s) in
          let len : length body ≡ m = length-take-le m (drop (n + 2) s) (let d = length-drop (n + 2) s in omega arith) in
          let sz : length body + 2 ≡ be16_at s n = omega arith in
          let a : drop m (drop (n + 2) s) ≡ drop next s = drop-drop m (n + 2) s ∙ ap (λ (k : ℕ). drop k s) (let y : n + 2 + m ≡ next = omega arith in y) in
          let go : drop (n + 2) s ≡ body ++ drop next s = sym (take-append-drop m (drop (n + 2) s)) ∙ ap (λ (l : List ℕ). body ++ l) a in
          record {
            body = body;
            size = sz;
            enough = omega arith;
            fits = omega arith;
            ends = omega arith;
            inside = omega arith;
            start = go;
            stands = st ∙ ap (λ (l : List ℕ). octets16 (be16_at s n) ++ l) go ∙ ap (λ (k : ℕ). octets16 k ++ (body ++ drop next s)) (sym sz);
          }
