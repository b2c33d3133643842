-- Laws of the octets: what was put is read back and the rest stays; a number depends on its octets alone and they on it;
-- a string stands at a place exactly if the octets from there are the string and some rest.
-- Assumes nothing.
use mathlib.Core.Path.{◌≡◌, refl, ap, ap₂, ◌∙◌, sym}
use mathlib.Core.Bool.{Bool, true, false, ◌&&◌, and-eq-true_iff}
use mathlib.Core.List.{List, [], ◌∷◌, ◌++◌, append_assoc}
use Prim.Native.Nat.{ℕ, zero, suc, ◌+◌, ◌-◌, ◌/◌, ◌%◌, ◌≤◌, ◌<◌}
use native.Mathlib.Nat.{add-zero, add_assoc}
use native.Mathlib.Numerals.{add-one}
use native.Mathlib.Omega.{arith}
use lib.Dec.{eqb}
use lib.ListN.{length, get_or, take, drop, length-append, length-drop, take-append-drop, get_or-append}
use lib.Seq.{length-take-le, take_at, drop_at, take-append_seam, drop-append_seam, drop-append-le, get_or-append-add, get_or-take, get_or-drop, drop-cons, drop-drop}
use borrow.Author.Tests.{le-leb, leb-true, eq-eqb, eqb-true}
use Rattle.octets.specs.Octets.{be16_at, be32_at, octets16, octets32, put_at, begins, stands_at, Octets}

-- ---- octets that are put

-- what stands from `at`: the octets put, then the rest as it was
pub put_drop : (d : List ℕ) (at : ℕ) (v : List ℕ) → at ≤ length d → drop at (put_at d at v) ≡ v ++ drop (at + length v) d
unfolding put_at
put_drop d at v h = drop_at (take at d) (v ++ drop (at + length v) d) at (length-take-le at d h)

pub put_back : (d : List ℕ) (at : ℕ) (v : List ℕ) → at ≤ length d → take (length v) (drop at (put_at d at v)) ≡ v
put_back d at v h = rw (put_drop d at v h) (take-append_seam v (drop (at + length v) d))

pub put_take : (d : List ℕ) (at : ℕ) (v : List ℕ) → at ≤ length d → take at (put_at d at v) ≡ take at d
unfolding put_at
put_take d at v h = take_at (take at d) (v ++ drop (at + length v) d) at (length-take-le at d h)

pub put_rest : (d : List ℕ) (at : ℕ) (v : List ℕ) → at ≤ length d → drop (at + length v) (put_at d at v) ≡ drop (at + length v) d
put_rest d at v h =
    sym (drop-drop (length v) at (put_at d at v)) ∙ ap (λ (l : List ℕ). drop (length v) l) (put_drop d at v h) ∙ drop-append_seam v _

pub put_length : (d : List ℕ) (at : ℕ) (v : List ℕ) → at + length v ≤ length d → length (put_at d at v) ≡ length d
unfolding put_at
put_length d at v h =
    let e : length (take at d) ≡ at = length-take-le at d (omega arith) in
    simp (length-append, length-drop) (omega arith)

-- an octet put, one before them and one after
pub put_get_d : (d : List ℕ) (at : ℕ) (v : List ℕ) (k : ℕ) → at ≤ length d → k < length v → get_or (put_at d at v) (at + k) 0 ≡ get_or v k 0
put_get_d d at v k h g =
    sym (get_or-drop at (put_at d at v) k 0)
    ∙ ap (λ (l : List ℕ). get_or l k 0) (put_drop d at v h)
    ∙ get_or-append v (drop (at + length v) d) 0 k g

pub put_get_d_before : (d : List ℕ) (at : ℕ) (v : List ℕ) (k : ℕ) → at ≤ length d → k < at → get_or (put_at d at v) k 0 ≡ get_or d k 0
put_get_d_before d at v k h g =
    sym (get_or-take at (put_at d at v) k 0 g) ∙ ap (λ (l : List ℕ). get_or l k 0) (put_take d at v h) ∙ get_or-take at d k 0 g

pub put_get_d_after : (d : List ℕ) (at : ℕ) (v : List ℕ) (k : ℕ) → at ≤ length d → at + length v ≤ k
    → get_or (put_at d at v) k 0 ≡ get_or d k 0
put_get_d_after d at v k h g =
    let n : ℕ = at + length v in
    let e : n + (k - n) ≡ k = omega arith in
    ap (λ (j : ℕ). get_or (put_at d at v) j 0) (sym e)
    ∙ sym (get_or-drop n (put_at d at v) (k - n) 0)
    ∙ ap (λ (l : List ℕ). get_or l (k - n) 0) (put_rest d at v h)
    ∙ get_or-drop n d (k - n) 0
    ∙ ap (λ (j : ℕ). get_or d j 0) e

-- what stands before the end of the octets put
pub put_upto : (d : List ℕ) (at : ℕ) (v : List ℕ) → at ≤ length d → take (at + length v) (put_at d at v) ≡ take at d ++ v
unfolding put_at
put_upto d at v h =
    let e : length (take at d) ≡ at = length-take-le at d h in
    rw (← append_assoc) (take_at (take at d ++ v) (drop (at + length v) d) (at + length v) (simp length-append (omega arith)))

pub put_nothing : (d : List ℕ) (at : ℕ) → put_at d at [] ≡ d
unfolding put_at
put_nothing d at = rw add-zero (take-append-drop at d)

-- two strings put one after the other are their joining put
pub put_put : (d : List ℕ) (at : ℕ) (u v : List ℕ) → at ≤ length d → put_at (put_at d at u) (at + length u) v ≡ put_at d at (u ++ v)
unfolding put_at
put_put d at u v h =
    ap₂ (λ (a b : List ℕ). a ++ (v ++ b))
    (put_upto d at u h)
    (sym (drop-drop (length v) (at + length u) (put_at d at u))
    ∙ ap (λ (l : List ℕ). drop (length v) l) (put_rest d at u h)
    ∙ drop-drop (length v) (at + length u) d)
    ∙ simp (append_assoc, length-append, add_assoc)

-- ---- numbers

-- a number depends on its octets alone, wherever they stand
pub be16_same : (s t : List ℕ) (i j : ℕ) → ((k : ℕ) → k < 2 → get_or s (i + k) 0 ≡ get_or t (j + k) 0) → be16_at s i ≡ be16_at t j
unfolding be16_at
be16_same s t i j e = let a = simp add-zero at (e 0 (omega arith)) in cc (e 1 (omega arith))

pub be32_same : (s t : List ℕ) (i j : ℕ) → ((k : ℕ) → k < 4 → get_or s (i + k) 0 ≡ get_or t (j + k) 0) → be32_at s i ≡ be32_at t j
unfolding be32_at
be32_same s t i j e =
    let a : be16_at s i ≡ be16_at t j = be16_same s t i j (λ k h. e k (omega arith)) in
    let b : be16_at s (i + 2) ≡ be16_at t (j + 2) = be16_same s t (i + 2) (j + 2) (λ k h. simp add_assoc (e (2 + k) (omega arith))) in
    cc

-- a place of what is left is a place further on
pub be16_drop : (s : List ℕ) (n k : ℕ) → be16_at (drop n s) k ≡ be16_at s (n + k)
be16_drop s n k = be16_same (drop n s) s k (n + k) (λ j h. simp (get_or-drop, add_assoc))

pub be32_drop : (s : List ℕ) (n k : ℕ) → be32_at (drop n s) k ≡ be32_at s (n + k)
be32_drop s n k = be32_same (drop n s) s k (n + k) (λ j h. simp (get_or-drop, add_assoc))

-- octets in front, and octets behind
pub be16_shift : (p s : List ℕ) (k : ℕ) → be16_at (p ++ s) (length p + k) ≡ be16_at s k
be16_shift p s k = be16_same (p ++ s) s (length p + k) k (λ j h. simp (add_assoc, get_or-append-add))

pub be32_shift : (p s : List ℕ) (k : ℕ) → be32_at (p ++ s) (length p + k) ≡ be32_at s k
be32_shift p s k = be32_same (p ++ s) s (length p + k) k (λ j h. simp (add_assoc, get_or-append-add))

pub be16_append : (s t : List ℕ) (at : ℕ) → at + 2 ≤ length s → be16_at (s ++ t) at ≡ be16_at s at
be16_append s t at h = be16_same (s ++ t) s at at (λ j g. get_or-append s t 0 (at + j) (omega arith))

pub be32_append : (s t : List ℕ) (at : ℕ) → at + 4 ≤ length s → be32_at (s ++ t) at ≡ be32_at s at
be32_append s t at h = be32_same (s ++ t) s at at (λ j g. get_or-append s t 0 (at + j) (omega arith))

-- what stands after a string that stands there
pub drop_next : (s l r : List ℕ) (at : ℕ) → drop at s ≡ l ++ r → drop (at + length l) s ≡ r
drop_next s l r at e = sym (drop-drop (length l) at s) ∙ ap (λ (m : List ℕ). drop (length l) m) e ∙ drop-append_seam l r

pub length_octets16 : (v : ℕ) → length (octets16 v) ≡ 2
unfolding octets16
length_octets16 v = refl

pub length_octets32 : (v : ℕ) → length (octets32 v) ≡ 4
unfolding octets16 octets32
length_octets32 v = refl

-- the octets of a number are read as the number
pub be16_there : (s r : List ℕ) (at v : ℕ) → drop at s ≡ octets16 v ++ r → be16_at s at ≡ v
unfolding be16_at octets16
be16_there s r at v e =
    sym (simp add-zero at (be16_drop s at 0)) ∙ ap (λ (l : List ℕ). be16_at l 0) e ∙ omega arith

pub be32_there : (s r : List ℕ) (at v : ℕ) → drop at s ≡ octets32 v ++ r → be32_at s at ≡ v
unfolding be32_at octets32
be32_there s r at v e =
    let l : List ℕ = octets16 (v % 65536) ++ r in
    let f : drop at s ≡ octets16 (v / 65536) ++ l = rw append_assoc at e in
    let g : drop (at + 2) s ≡ l = rw length_octets16 at (drop_next s (octets16 (v / 65536)) l at f) in
    let a : be16_at s at ≡ v / 65536 = be16_there s l at (v / 65536) f in
    let b : be16_at s (at + 2) ≡ v % 65536 = be16_there s r (at + 2) (v % 65536) g in
    omega arith

pub be16_put : (d : List ℕ) (at v : ℕ) → at ≤ length d → be16_at (put_at d at (octets16 v)) at ≡ v
be16_put d at v h = be16_there (put_at d at (octets16 v)) (drop (at + length (octets16 v)) d) at v (put_drop d at (octets16 v) h)

pub be32_put : (d : List ℕ) (at v : ℕ) → at ≤ length d → be32_at (put_at d at (octets32 v)) at ≡ v
be32_put d at v h = be32_there (put_at d at (octets32 v)) (drop (at + length (octets32 v)) d) at v (put_drop d at (octets32 v) h)

-- ---- lists of octets

pub octets_append : (s t : List ℕ) → Octets s → Octets t → Octets (s ++ t)
octets_append [] t o p k = p k
octets_append (x ∷ s) t o p zero = o 0
octets_append (x ∷ s) t o p (suc k) = octets_append s t (λ j. o (suc j)) p k

pub octets_drop : (n : ℕ) (s : List ℕ) → Octets s → Octets (drop n s)
octets_drop n s o k = rw get_or-drop (o (n + k))

pub octets_take : (n : ℕ) (s : List ℕ) → Octets s → Octets (take n s)
octets_take zero s o k = omega arith
octets_take (suc n) [] o k = omega arith
octets_take (suc n) (x ∷ s) o zero = o 0
octets_take (suc n) (x ∷ s) o (suc k) = octets_take n s (λ j. o (suc j)) k

pub octets_put : (d : List ℕ) (at : ℕ) (v : List ℕ) → Octets d → Octets v → Octets (put_at d at v)
unfolding put_at
octets_put d at v o p =
    octets_append (take at d) (v ++ drop (at + length v) d) (octets_take at d o)
    (octets_append v (drop (at + length v) d) p (octets_drop (at + length v) d o))

pub octets_16 : (v : ℕ) → v < 65536 → Octets (octets16 v)
unfolding octets16
octets_16 v h zero = omega arith
octets_16 v h (suc zero) = omega arith
octets_16 v h (suc (suc k)) = omega arith

pub octets_32 : (v : ℕ) → v < 4294967296 → Octets (octets32 v)
unfolding octets32
octets_32 v h =
    octets_append (octets16 (v / 65536)) (octets16 (v % 65536)) (octets_16 (v / 65536) (omega arith)) (octets_16 (v % 65536) (omega arith))

pub be16_bound : (s : List ℕ) (at : ℕ) → Octets s → be16_at s at < 65536
unfolding be16_at
be16_bound s at o = omega (arith, o at, o (at + 1))

pub be32_bound : (s : List ℕ) (at : ℕ) → Octets s → be32_at s at < 4294967296
unfolding be32_at
be32_bound s at o = omega (arith, be16_bound s at o, be16_bound s (at + 2) o)

-- an octet, and what stands after it
pub drop_octet : (s : List ℕ) (at : ℕ) → at < length s → drop at s ≡ get_or s at 0 ∷ drop (at + 1) s
drop_octet s at h = rw (add-one, drop-cons s at 0)

-- the octets of the number that was read are those that stand there
pub be16_stands : (s : List ℕ) (at : ℕ) → Octets s → at + 2 ≤ length s → drop at s ≡ octets16 (be16_at s at) ++ drop (at + 2) s
unfolding be16_at octets16
be16_stands s at o h =
    let hi : get_or s at 0 ≡ be16_at s at / 256 = omega (arith, o (at + 1)) in
    let lo : get_or s (at + 1) 0 ≡ be16_at s at % 256 = omega (arith, o (at + 1)) in
    let e : at + 1 + 1 ≡ at + 2 = omega arith in
    cc (drop_octet s at (omega arith), drop_octet s (at + 1) (omega arith))

pub be32_stands : (s : List ℕ) (at : ℕ) → Octets s → at + 4 ≤ length s → drop at s ≡ octets32 (be32_at s at) ++ drop (at + 4) s
unfolding be32_at octets32
be32_stands s at o h =
    let hi : be16_at s at ≡ be32_at s at / 65536 = omega (arith, be16_bound s (at + 2) o) in
    let lo : be16_at s (at + 2) ≡ be32_at s at % 65536 = omega (arith, be16_bound s (at + 2) o) in
    let e : at + 2 + 2 ≡ at + 4 = omega arith in
    rw append_assoc (cc (be16_stands s at o (omega arith), be16_stands s (at + 2) o (omega arith)))

-- ---- strings

pub begins_split : (s want : List ℕ) → begins s want ≡ true → s ≡ want ++ drop (length want) s
unfolding begins
begins_split s [] h = refl
begins_split [] (w ∷ ws) h = cc
begins_split (x ∷ s) (w ∷ ws) h =
    let g = simp and-eq-true_iff at h in
    ap₂ (λ (a : ℕ) (l : List ℕ). a ∷ l) (eqb-true x w g.0) (begins_split s ws g.1)

pub begins_append : (want r : List ℕ) → begins (want ++ r) want ≡ true
unfolding begins
begins_append [] r = refl
begins_append (w ∷ ws) r = simp (eq-eqb w w refl, begins_append ws r)

-- a string stands at a place exactly if the octets from there are the string and some rest
pub stands_split : (s : List ℕ) (at : ℕ) (want : List ℕ) → stands_at s at want ≡ true
    → (at + length want ≤ length s) × (drop at s ≡ want ++ drop (at + length want) s)
unfolding stands_at
stands_split s at want h =
    let g = simp and-eq-true_iff at h in
    (leb-true _ _ g.0, begins_split (drop at s) want g.1 ∙ simp drop-drop)

pub stands_there : (s : List ℕ) (at : ℕ) (want r : List ℕ) → at ≤ length s → drop at s ≡ want ++ r → stands_at s at want ≡ true
unfolding stands_at
stands_there s at want r h e =
    let n = simp (length-drop, length-append) at (ap length e) in
    simp (le-leb (at + length want) (length s) (omega arith), e, begins_append want r)

either : (a b : Bool) → (a ≡ true → b ≡ true) → (b ≡ true → a ≡ true) → a ≡ b
either true b p q = sym (p refl)
either false true p q = q refl
either false false p q = refl

-- whether it stands depends on the octets from there alone: more in front, or behind, change nothing
pub stands_drop : (s : List ℕ) (n k : ℕ) (want : List ℕ) → n ≤ length s → stands_at (drop n s) k want ≡ stands_at s (n + k) want
stands_drop s n k want h =
    let l : length (drop n s) ≡ length s - n = length-drop n s in
    either _ _
    (λ e. let p = stands_split (drop n s) k want e in stands_there s (n + k) want _ (omega arith) (sym (drop-drop k n s) ∙ p.1))
    (λ e. let p = stands_split s (n + k) want e in stands_there (drop n s) k want _ (omega arith) (drop-drop k n s ∙ p.1))

pub stands_shift : (p s : List ℕ) (k : ℕ) (want : List ℕ) → stands_at (p ++ s) (length p + k) want ≡ stands_at s k want
stands_shift p s k want =
    sym (stands_drop (p ++ s) (length p) k want (rw length-append (omega arith)))
    ∙ ap (λ (l : List ℕ). stands_at l k want) (drop-append_seam p s)

begins_more : (s t want : List ℕ) → length want ≤ length s → begins (s ++ t) want ≡ begins s want
unfolding begins
begins_more s t [] h = refl
begins_more [] t (w ∷ ws) h = absurd (omega arith)
begins_more (x ∷ s) t (w ∷ ws) h = ap (λ b. eqb x w && b) (begins_more s t ws (omega arith))

pub stands_append : (s t : List ℕ) (at : ℕ) (want : List ℕ) → at + length want ≤ length s → stands_at (s ++ t) at want ≡ stands_at s at want
unfolding stands_at
stands_append s t at want h =
    let m : at + length want ≤ length (s ++ t) = rw length-append (omega arith) in
    simp (le-leb _ _ m, le-leb _ _ h, drop-append-le at s t (omega arith), begins_more (drop at s) t want (rw length-drop (omega arith)))
