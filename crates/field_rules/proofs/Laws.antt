-- Reading a segment by its table and what its octets are: each from the other, and what either depends on.
-- Assumes nothing.
use Prim.Native.Nat.{ℕ, suc, ◌+◌, ◌-◌, ◌≤◌, ◌<◌}
use native.Mathlib.Omega.{arith}
use native.Mathlib.Nat.{add-zero}
use mathlib.Core.Path.{◌≡◌, refl, sym, ap, ap₂, subst, ◌∙◌}
use mathlib.Core.Bool.{Bool, true}
use mathlib.Core.List.{List, [], ◌∷◌, ◌++◌, append_assoc, append-nil}
use lib.ListN.{length, drop, length-append, length-drop}
use lib.Dec.{ltb}
use borrow.Author.Tests.{le-ltb, ltb-false}
use Rattle.answers.specs.declared.Refusal.{Refusal}
use Rattle.laws.proofs.Cases.{cond_with, clash}
use Rattle.octets.specs.Octets.{Octets, stands_at}
use Rattle.octets.proofs.Laws.{be16_there, be32_there, be16_stands, be32_stands, be16_bound, be32_bound, drop_next, drop_octet, length_octets16, length_octets32, stands_there, stands_split}
use Rattle.field_rules.specs.Field.{ok, Width, one, two, four, octet_count, widths, number_at, numbers, Field, mark, val, again, fields, octets_of, bound, put, Sized}
use Rattle.field_rules.specs.Stands.{Stands, at_end, marked, valued, held}

-- ---- one number

length_octets : (w : Width) (v : ℕ) → length (octets_of w v) ≡ octet_count w
length_octets one v = refl
length_octets two v = length_octets16 v
length_octets four v = length_octets32 v

number_there : (w : Width) (s r : List ℕ) (at v : ℕ) → drop at s ≡ octets_of w v ++ r → number_at w s at ≡ v
number_there one s r at v e =
    let l : length s - at ≡ suc (length r) = sym (length-drop at s) ∙ ap length e in
    let d = drop_octet s at (omega arith) in
    cc
number_there two s r at v e = be16_there s r at v e
number_there four s r at v e = be32_there s r at v e

number_stands : (w : Width) (s : List ℕ) (at : ℕ) → Octets s → at + octet_count w ≤ length s
    → (drop at s ≡ octets_of w (number_at w s at) ++ drop (at + octet_count w) s) × (number_at w s at < bound w)
number_stands one s at o h = (drop_octet s at (omega arith), o at)
number_stands two s at o h = (be16_stands s at o h, be16_bound s at o)
number_stands four s at o h = (be32_stands s at o h, be32_bound s at o)

-- ---- a list of them

pub length_put : (ws : List Width) (vs : List ℕ) → Sized ws vs → length (put ws vs) ≡ widths ws
unfolding Sized put widths
length_put [] [] z = refl
length_put (w ∷ ws) (v ∷ vs) z =
    let a = length-append (octets_of w v) (put ws vs) in let b = length_octets w v in let c = length_put ws vs z.1 in omega arith
length_put [] (v ∷ vs) z = elim z [ ]
length_put (w ∷ ws) [] z = elim z [ ]

pub numbers_there : (ws : List Width) (vs : List ℕ) → Sized ws vs → (s r : List ℕ) (at : ℕ) → drop at s ≡ put ws vs ++ r → numbers ws s at ≡ vs
unfolding Sized put numbers
numbers_there [] [] z s r at e = refl
numbers_there (w ∷ ws) (v ∷ vs) z s r at e =
    let q : drop at s ≡ octets_of w v ++ (put ws vs ++ r) = e ∙ append_assoc (octets_of w v) (put ws vs) r in
    let d : drop (at + octet_count w) s ≡ put ws vs ++ r =
    ap (λ (k : ℕ). drop (at + k) s) (sym (length_octets w v)) ∙ drop_next s (octets_of w v) (put ws vs ++ r) at q in
    ap₂ (λ (x : ℕ) (l : List ℕ). x ∷ l) (number_there w s (put ws vs ++ r) at v q) (numbers_there ws vs z.1 s r (at + octet_count w) d)
numbers_there [] (v ∷ vs) z s r at e = elim z [ ]
numbers_there (w ∷ ws) [] z s r at e = elim z [ ]

pub numbers_stand : (ws : List Width) (s : List ℕ) (at : ℕ) → Octets s → at + widths ws ≤ length s
    → (drop at s ≡ put ws (numbers ws s at) ++ drop (at + widths ws) s) × Sized ws (numbers ws s at)
unfolding Sized put numbers widths
numbers_stand [] s at o h = (ap (λ (k : ℕ). drop k s) (sym (add-zero at)), tt)
numbers_stand (w ∷ ws) s at o h =
    let a = number_stands w s at o (omega arith) in
    let b = numbers_stand ws s (at + octet_count w) o (omega arith) in
    let z : at + octet_count w + widths ws ≡ at + (octet_count w + widths ws) = omega arith in (
      a.0
          ∙ ap (λ (l : List ℕ). octets_of w (number_at w s at) ++ l) (b.0 ∙ ap (λ (k : ℕ). put ws (numbers ws s (at + octet_count w)) ++ drop k s) z)
          ∙ sym (append_assoc (octets_of w (number_at w s at)) (put ws (numbers ws s (at + octet_count w))) (drop (at + (octet_count w + widths ws)) s)),
      (a.1, b.1),
    )

-- ---- reading what stands there: the rows in front are read, and reading goes on with the others

pub fields_past : {early : List Field} {before known l : List ℕ} → Stands early before known l → (more : List Field) (s r : List ℕ) (at : ℕ) → at ≤ length s → drop at s ≡ l ++ r
    → fields (early ++ more) before s at ≡ fields more known s (at + length l)
unfolding fields
fields_past {before = before} at_end more s r at h e = ap (fields more before s) (sym (add-zero at))
fields_past {known = known} (marked {m = m} {l = l} st) more s r at h e =
    let q : drop at s ≡ m ++ (l ++ r) = e ∙ append_assoc m l r in
    let n : length s - at ≡ length m + length (l ++ r) = sym (length-drop at s) ∙ ap length q ∙ length-append m (l ++ r) in
    let a : at + length m ≤ length s = omega arith in
    let x = length-append m l in
    let z : at + length m + length l ≡ at + length (m ++ l) = omega arith in
    simp (le-ltb (length s) (at + length m) a, stands_there s at m (l ++ r) h q)
    (fields_past st more s r (at + length m) a (drop_next s m (l ++ r) at q) ∙ ap (fields more known s) z)
fields_past {known = known} (valued {ws = ws} {l = l} vs sized good st) more s r at h e =
    let q : drop at s ≡ put ws vs ++ (l ++ r) = e ∙ append_assoc (put ws vs) l r in
    let n : length s - at ≡ length (put ws vs) + length (l ++ r) = sym (length-drop at s) ∙ ap length q ∙ length-append (put ws vs) (l ++ r) in
    let k = length_put ws vs sized in
    let a : at + widths ws ≤ length s = omega arith in
    let x = length-append (put ws vs) l in
    let z : at + widths ws + length l ≡ at + length (put ws vs ++ l) = omega arith in
    let d : drop (at + widths ws) s ≡ l ++ r = ap (λ (j : ℕ). drop (at + j) s) (sym k) ∙ drop_next s (put ws vs) (l ++ r) at q in
    simp (le-ltb (length s) (at + widths ws) a, numbers_there ws vs sized s (l ++ r) at q, good)
    (fields_past st more s r (at + widths ws) a d ∙ ap (fields more known s) z)
fields_past (held good st) more s r at h e = simp good (fields_past st more s r at h e)

pub fields_there : {table : List Field} {before out l : List ℕ} → Stands table before out l → (s r : List ℕ) (at : ℕ) → at ≤ length s → drop at s ≡ l ++ r
    → fields table before s at ≡ ok out (at + length l)
unfolding fields
fields_there {table} {before} st s r at h e = ap (λ (rows : List Field). fields rows before s at) (sym (append-nil table)) ∙ fields_past st [] s r at h e

-- ---- what was read stands there

pub record Read (table : List Field) (before out s : List ℕ) (at n : ℕ) : Type 0 where
  pub octets : List ℕ
  pub stands : Stands table before out octets
  pub split : drop at s ≡ octets ++ drop n s
  pub ends : n ≡ at + length octets
  pub inside : n ≤ length s

pub fields_back : (table : List Field) (before out s : List ℕ) (at n : ℕ) → Octets s → at ≤ length s → fields table before s at ≡ ok out n
    → Read table before out s at n
unfolding fields
fields_back [] before out s at n o h = λ e.
    let a : before ≡ out = cc in
    let b : at ≡ n = cc in
    record {
      octets = [];
      stands = subst (λ (x : List ℕ). Stands [] before x []) a at_end;
      split = ap (λ (k : ℕ). drop k s) b;
      ends = omega arith;
      inside = omega arith;
    }
fields_back (mark m refusal ∷ table) before out s at n o h =
    cond_with (λ x. x ≡ ok out n → Read (mark m refusal ∷ table) before out s at n) (ltb (length s) (at + length m)) (λ t e. clash cc) λ f.
    cond_with (λ x. x ≡ ok out n → Read (mark m refusal ∷ table) before out s at n) (stands_at s at m)
    (λ t e.
    let g = ltb-false (length s) (at + length m) f in
    let k = fields_back table before out s (at + length m) n o g e in
    let d = (stands_split s at m t).1 in
    let x = length-append m k.octets in
    let z = k.ends in
    record {
      octets = m ++ k.octets;
      stands = marked k.stands;
      split = d ∙ ap (λ (l : List ℕ). m ++ l) k.split ∙ sym (append_assoc m k.octets (drop n s));
      ends = omega arith;
      inside = k.inside;
    })
    (λ t e. clash cc)
fields_back (val ws good refusal ∷ table) before out s at n o h =
    cond_with (λ x. x ≡ ok out n → Read (val ws good refusal ∷ table) before out s at n) (ltb (length s) (at + widths ws)) (λ t e. clash cc) λ f.
    cond_with (λ x. x ≡ ok out n → Read (val ws good refusal ∷ table) before out s at n) (good before (numbers ws s at))
    (λ t e.
    let g = ltb-false (length s) (at + widths ws) f in
    let k = fields_back table (before ++ numbers ws s at) out s (at + widths ws) n o g e in
    let d = numbers_stand ws s at o g in
    let x = length-append (put ws (numbers ws s at)) k.octets in
    let y = length_put ws (numbers ws s at) d.1 in
    let z = k.ends in
    record {
      octets = put ws (numbers ws s at) ++ k.octets;
      stands = valued (numbers ws s at) d.1 t k.stands;
      split = d.0 ∙ ap (λ (l : List ℕ). put ws (numbers ws s at) ++ l) k.split ∙ sym (append_assoc (put ws (numbers ws s at)) k.octets (drop n s));
      ends = omega arith;
      inside = k.inside;
    })
    (λ t e. clash cc)
fields_back (again back good refusal ∷ table) before out s at n o h =
    cond_with (λ x. x ≡ ok out n → Read (again back good refusal ∷ table) before out s at n) (good before)
    (λ t e.
    let k = fields_back table before out s at n o h e in
    record { octets = k.octets; stands = held t k.stands; split = k.split; ends = k.ends; inside = k.inside })
    (λ t e. clash cc)

-- ---- a segment taken apart, row by row

pub end_apart : (P : List ℕ → List ℕ → Type 0) {before out l : List ℕ} → Stands [] before out l → P before [] → P out l
end_apart P at_end p = p

pub mark_apart : (P : List ℕ → Type 0) {m : List ℕ} {refusal : ℕ → Refusal} {table : List Field} {before out l : List ℕ} → Stands (mark m refusal ∷ table) before out l
    → ((more : List ℕ) → Stands table before out more → P (m ++ more)) → P l
mark_apart P (marked {l = more} k) go = go more k

pub val_apart : (P : List ℕ → Type 0) {ws : List Width} {good : List ℕ → List ℕ → Bool} {refusal : ℕ → Refusal} {table : List Field} {before out l : List ℕ}
    → Stands (val ws good refusal ∷ table) before out l
    → ((vs more : List ℕ) → Sized ws vs → good before vs ≡ true → Stands table (before ++ vs) out more → P (put ws vs ++ more)) → P l
val_apart P (valued {l = more} vs sized good k) go = go vs more sized good k

pub again_apart : (P : List ℕ → Type 0) {back : ℕ} {good : List ℕ → Bool} {refusal : ℕ → Refusal} {table : List Field} {before out l : List ℕ}
    → Stands (again back good refusal ∷ table) before out l → (good before ≡ true → Stands table before out l → P l) → P l
again_apart P (held good k) go = go good k

pub sized_one : (Q : List ℕ → Type 0) (w : Width) (vs : List ℕ) → Sized (w ∷ []) vs → ((v : ℕ) → v < bound w → Q (v ∷ [])) → Q vs
unfolding Sized
sized_one Q w [] z go = absurd z
sized_one Q w (v ∷ []) z go = go v z.0
sized_one Q w (v ∷ u ∷ vs) z go = absurd z.1

pub sized_more : (Q : List ℕ → Type 0) (w : Width) (ws : List Width) (vs : List ℕ) → Sized (w ∷ ws) vs
    → ((v : ℕ) (us : List ℕ) → v < bound w → Sized ws us → Q (v ∷ us)) → Q vs
unfolding Sized
sized_more Q w ws [] z go = absurd z
sized_more Q w ws (v ∷ us) z go = go v us z.0 z.1

-- a field of one, two, three or four numbers
module _ (P : List ℕ → Type 0) {good : List ℕ → List ℕ → Bool} {refusal : ℕ → Refusal} {table : List Field} {before out l : List ℕ} where
  pub one_apart : {a : Width} → Stands (val (a ∷ []) good refusal ∷ table) before out l
      → ((x : ℕ) (more : List ℕ) → x < bound a → good before (x ∷ []) ≡ true → Stands table (before ++ (x ∷ [])) out more → P (put (a ∷ []) (x ∷ []) ++ more)) → P l
  one_apart {a} st go =
      val_apart P st λ vs more z.
      sized_one (λ us. good before us ≡ true → Stands table (before ++ us) out more → P (put (a ∷ []) us ++ more)) a vs z λ x b. go x more b

  pub two_apart : {a b : Width} → Stands (val (a ∷ b ∷ []) good refusal ∷ table) before out l
      → ((x y : ℕ) (more : List ℕ) → x < bound a → y < bound b → good before (x ∷ y ∷ []) ≡ true → Stands table (before ++ (x ∷ y ∷ [])) out more
      → P (put (a ∷ b ∷ []) (x ∷ y ∷ []) ++ more)) → P l
  two_apart {a} {b} st go =
      val_apart P st λ vs more z.
      sized_more (λ us. good before us ≡ true → Stands table (before ++ us) out more → P (put (a ∷ b ∷ []) us ++ more)) a (b ∷ []) vs z λ x us bx z1.
      sized_one (λ us. good before (x ∷ us) ≡ true → Stands table (before ++ (x ∷ us)) out more → P (put (a ∷ b ∷ []) (x ∷ us) ++ more)) b us z1 λ y by.
      go x y more bx by

  pub three_apart : {a b c : Width} → Stands (val (a ∷ b ∷ c ∷ []) good refusal ∷ table) before out l
      → ((x y z : ℕ) (more : List ℕ) → x < bound a → y < bound b → z < bound c → good before (x ∷ y ∷ z ∷ []) ≡ true
      → Stands table (before ++ (x ∷ y ∷ z ∷ [])) out more → P (put (a ∷ b ∷ c ∷ []) (x ∷ y ∷ z ∷ []) ++ more)) → P l
  three_apart {a} {b} {c} st go =
      val_apart P st λ vs more z.
      sized_more (λ us. good before us ≡ true → Stands table (before ++ us) out more → P (put (a ∷ b ∷ c ∷ []) us ++ more)) a (b ∷ c ∷ []) vs z λ x us bx z1.
      sized_more (λ us. good before (x ∷ us) ≡ true → Stands table (before ++ (x ∷ us)) out more → P (put (a ∷ b ∷ c ∷ []) (x ∷ us) ++ more)) b (c ∷ []) us z1 λ y vs by z2.
      sized_one (λ us. good before (x ∷ y ∷ us) ≡ true → Stands table (before ++ (x ∷ y ∷ us)) out more → P (put (a ∷ b ∷ c ∷ []) (x ∷ y ∷ us) ++ more)) c vs z2 λ w bw.
      go x y w more bx by bw

  pub four_apart : {a b c d : Width} → Stands (val (a ∷ b ∷ c ∷ d ∷ []) good refusal ∷ table) before out l
      → ((x y z w : ℕ) (more : List ℕ) → x < bound a → y < bound b → z < bound c → w < bound d → good before (x ∷ y ∷ z ∷ w ∷ []) ≡ true
      → Stands table (before ++ (x ∷ y ∷ z ∷ w ∷ [])) out more → P (put (a ∷ b ∷ c ∷ d ∷ []) (x ∷ y ∷ z ∷ w ∷ []) ++ more)) → P l
  four_apart {a} {b} {c} {d} st go =
      val_apart P st λ vs more z.
      sized_more (λ us. good before us ≡ true → Stands table (before ++ us) out more → P (put (a ∷ b ∷ c ∷ d ∷ []) us ++ more)) a (b ∷ c ∷ d ∷ []) vs z λ x us bx z1.
      sized_more (λ us. good before (x ∷ us) ≡ true → Stands table (before ++ (x ∷ us)) out more → P (put (a ∷ b ∷ c ∷ d ∷ []) (x ∷ us) ++ more)) b (c ∷ d ∷ []) us z1 λ y vs by z2.
      sized_more (λ us. good before (x ∷ y ∷ us) ≡ true → Stands table (before ++ (x ∷ y ∷ us)) out more → P (put (a ∷ b ∷ c ∷ d ∷ []) (x ∷ y ∷ us) ++ more)) c (d ∷ []) vs z2 λ u ws bu z3.
      sized_one (λ us. good before (x ∷ y ∷ u ∷ us) ≡ true → Stands table (before ++ (x ∷ y ∷ u ∷ us)) out more → P (put (a ∷ b ∷ c ∷ d ∷ []) (x ∷ y ∷ u ∷ us) ++ more)) d ws z3 λ v bv.
      go x y u v more bx by bu bv
