-- Octets marked under a mask, one by one and in parts; samples spread.
-- Assumes nothing.
use Prim.Native.Nat.{ℕ, ◌+◌, ◌-◌, ◌*◌, ◌/◌, ◌%◌, ◌≤◌, ◌<◌}
use native.Mathlib.Omega.{arith}
use native.Mathlib.Nat.{div-eq_of_lt-le, mul-le-mul_right, add-mul, one-mul}
use mathlib.Core.Path.{◌≡◌, refl, sym, ap, subst, ◌∙◌}
use mathlib.Core.Logic.{⊎_elim}
use mathlib.Core.Bool.{cond}
use mathlib.Core.List.{List, ◌++◌}
use lib.ListN.{length, get_or, set, length-set, replicate, take, drop}
use borrow.Rule.Slice.PartMut.{put_mid}
use Rattle.std.proofs.lemmas.List.{length-take-le, length-drop, length-append, length-replicate, get_or-take, get_or-drop, get_or-replicate, get_or_append_left, get_or-append_right}
use lib.Seq.{get_or-set_same, get_or-set_other}
use lib.Dec.{eqb}
use borrow.Author.Rules.{rules}
use Rattle.laws.proofs.Says.{says_lt, says_else}
use Rattle.paint_choice.specs.Choice.{Marked, ever, bits_from, Spread}

pub marked_none : (mask : ℕ → ℕ) (l : List ℕ) (p q v : ℕ) → q ≤ p → Marked mask l p q v l
marked_none mask l p q v h = record { long = refl; there = λ i a b. absurd (omega arith); before = λ i a. refl; behind = λ i a. refl }

pub marked_as : (mask mask' : ℕ → ℕ) (l e : List ℕ) (p q v : ℕ) → ((i : ℕ) → p ≤ i → i < q → mask i ≡ mask' i) → Marked mask l p q v e → Marked mask' l p q v e
marked_as mask mask' l e p q v h c =
    record {
      long = c.long;
      there = λ i a b. c.there i a b ∙ ap (λ (m : ℕ). cond (eqb m 0) (get_or l i 0) v) (h i a b);
      before = c.before;
      behind = c.behind;
    }

pub record Marking (mask : ℕ → ℕ) (l : List ℕ) (p q v : ℕ) (out : List ℕ) (x : ℕ) : Type 0 where
  pub from : p ≤ x
  pub upto : x ≤ q
  pub room : q ≤ length l
  pub long : length out ≡ length l
  pub done : Marked mask l p x v out

module _ (mask : ℕ → ℕ) (l : List ℕ) (p q v : ℕ) where
  pub marking_begun : p ≤ q → q ≤ length l → Marking mask l p q v l p
  marking_begun h r = record { from = omega arith; upto = h; room = r; long = refl; done = marked_none mask l p p v (omega arith) }

  pub marking_more : (out : List ℕ) (x w : ℕ) → w ≡ cond (eqb (mask x) 0) (get_or out x 0) v → x < q → Marking mask l p q v out x → Marking mask l p q v (set out x w) (x + 1)
  marking_more out x w e h c =
      let r = c.room in
      let n = c.long in
      let g = c.from in
      record {
        from = omega arith;
        upto = omega arith;
        room = r;
        long = length-set out x w ∙ n;
        done = record {
          long = length-set out x w ∙ n;
          there = λ i a b. ⊎_elim
              (λ (z : i < x). get_or-set_other out x i w 0 (λ (y : i ≡ x). omega arith) ∙ c.done.there i a z)
              (λ (z : i < x → ⊥).
              let y : i ≡ x = omega arith in
              ap (λ (j : ℕ). get_or (set out x w) j 0) y ∙ get_or-set_same out x w 0 (omega arith) ∙ e
              ∙ ap (λ (j : ℕ). cond (eqb (mask x) 0) j v) (c.done.behind x (omega arith))
              ∙ ap (λ (j : ℕ). cond (eqb (mask j) 0) (get_or l j 0) v) (sym y))
              (says_else (says_lt i x));
          before = λ i a. get_or-set_other out x i w 0 (λ (y : i ≡ x). omega arith) ∙ c.done.before i a;
          behind = λ i a. get_or-set_other out x i w 0 (λ (y : i ≡ x). omega arith) ∙ c.done.behind i (omega arith);
        };
      }

  pub marking_end : (out : List ℕ) (x : ℕ) → Marking mask l p q v out x → q ≤ x → Marked mask l p q v out
  marking_end out x c h = let u = c.upto in let z : x ≡ q = omega arith in subst (λ (i : ℕ). Marked mask l p i v out) z c.done

pub ever_is : (x low v : ℕ) → v ≡ cond (eqb (ever 1 x) 0) low v
unfolding ever
ever_is x low v = refl

pub bits_is : (m : List ℕ) (p i x low v w : ℕ) → w ≡ cond (eqb (get_or m (i + (x - p)) 0) 0) low v → w ≡ cond (eqb (bits_from m p i x) 0) low v
unfolding bits_from
bits_is m p i x low v w e = e

pub ruleset marking = (rules, marking_begun, marking_more, marking_end, ever_is, bits_is)

-- ---- samples spread

product : (q n k : ℕ) → q < n → q * k + k ≤ n * k
product q n k h =
    let a : (q + 1) * k ≤ n * k = mul-le-mul_right k (omega arith) in
    let b : (q + 1) * k ≡ q * k + k = add-mul q 1 k ∙ ap (λ (m : ℕ). q * k + m) (one-mul k) in
    omega arith

pub record Spreading (m : List ℕ) (i k n : ℕ) (l e : List ℕ) (q p : ℕ) : Type 0 where
  pub few : q ≤ n
  pub some : 0 < k
  pub room : n * k ≤ length l
  pub place : p ≡ q * k
  pub done : Spread m i k q l e

module _ (m : List ℕ) (i k n : ℕ) (l e : List ℕ) (q p : ℕ) (c : Spreading m i k n l e q p) where
  pub spread_more : (new : List ℕ) → q < n → Marked (ever 1) e p (p + k) (get_or m (i + q) 0) new → Spreading m i k n l new (q + 1) (p + k)
  unfolding ever
  spread_more new h f =
      let b : (q + 1) * k ≡ q * k + k = add-mul q 1 k ∙ ap (λ (o : ℕ). q * k + o) (one-mul k) in
      let z = c.place in
      record {
        few = omega arith;
        some = c.some;
        room = c.room;
        place = omega arith;
        done = record {
          long = f.long ∙ c.done.long;
          there = λ x g. ⊎_elim
              (λ (y : x < p). f.before x y ∙ c.done.there x (omega arith))
              (λ (y : x < p → ⊥).
              let d : x / k ≡ q = div-eq_of_lt-le k (omega arith) (omega arith) in
              f.there x (omega arith) (omega arith) ∙ ap (λ (o : ℕ). get_or m (i + o) 0) (sym d))
              (says_else (says_lt x p));
        };
      }

-- so far as the next sample's first place
pub spread_next : (m : List ℕ) (i k n : ℕ) (l e : List ℕ) (q : ℕ) → Spreading m i k n l e (q + 1) (q * k + k) → Spreading m i k n l e (q + 1) ((q + 1) * k)
spread_next m i k n l e q c =
    let z : q * k + k ≡ (q + 1) * k = sym (add-mul q 1 k ∙ ap (λ (o : ℕ). q * k + o) (one-mul k)) in
    subst (λ (p : ℕ). Spreading m i k n l e (q + 1) p) z c

-- one value as the two octets of a number
pub put_two : (l : List ℕ) (p v w : ℕ) → p + 2 ≤ length l → (w ≡ v) × (w < 256) → Marked (ever 1) l p (p + 2) v (set (set l p (w * 257 % 256)) (p + 1) (w * 257 / 256))
put_two l p v w h e =
    let a : w * 257 % 256 ≡ v = omega arith in
    let b : w * 257 / 256 ≡ v = omega arith in
    let o = marking_more (ever 1) l p (p + 2) v l p (w * 257 % 256) (a ∙ ever_is p (get_or l p 0) v) (omega arith) (marking_begun (ever 1) l p (p + 2) v (omega arith) h) in
    let t = marking_more (ever 1) l p (p + 2) v (set l p (w * 257 % 256)) (p + 1) (w * 257 / 256)
    (b ∙ ever_is (p + 1) (get_or (set l p (w * 257 % 256)) (p + 1) 0) v) (omega arith) o in
    marking_end (ever 1) l p (p + 2) v (set (set l p (w * 257 % 256)) (p + 1) (w * 257 / 256)) (p + 1 + 1) t (omega arith)

pub two_room : (l : List ℕ) (p w : ℕ) → p + 2 ≤ length l → p + 1 < length (set l p w)
two_room l p w h = let n = length-set l p w in omega arith

pub ruleset putting = (rules, put_two, two_room)

-- one fill behind the other
fill_chain : (l e g : List ℕ) (p i q v : ℕ) → p ≤ i → i ≤ q → Marked (ever 1) l p i v e → Marked (ever 1) e i q v g → Marked (ever 1) l p q v g
unfolding ever
fill_chain l e g p i q v a b c k =
    record {
      long = k.long ∙ c.long;
      there = λ x r s. ⊎_elim
          (λ (z : x < i). k.before x z ∙ c.there x r z)
          (λ (z : x < i → ⊥). k.there x (omega arith) s)
          (says_else (says_lt x i));
      before = λ x r. k.before x (omega arith) ∙ c.before x r;
      behind = λ x r. k.behind x r ∙ c.behind x (omega arith);
    }

-- four times, by two such stores
pub spread_four : (m : List ℕ) (i n : ℕ) (l e o g : List ℕ) (q : ℕ) → Spreading m i 4 n l e q (q * 4) → q < n → Marked (ever 1) e (q * 4) (q * 4 + 2) (get_or m (i + q) 0) o
    → Marked (ever 1) o (q * 4 + 2) (q * 4 + 2 + 2) (get_or m (i + q) 0) g → Spreading m i 4 n l g (q + 1) ((q + 1) * 4)
spread_four m i n l e o g q c h a b =
    let z : q * 4 + 2 + 2 ≡ q * 4 + 4 = omega arith in
    let w : q * 4 + 4 ≡ (q + 1) * 4 = omega arith in
    let k = fill_chain e o g (q * 4) (q * 4 + 2) (q * 4 + 2 + 2) (get_or m (i + q) 0) (omega arith) (omega arith) a b in
    subst (λ (p : ℕ). Spreading m i 4 n l g (q + 1) p) w
    (spread_more m i 4 n l e q (q * 4) c g h (subst (λ (p : ℕ). Marked (ever 1) e (q * 4) p (get_or m (i + q) 0) g) z k))

pub as_ratio : (m : List ℕ) (i k c n : ℕ) (l e : List ℕ) → k ≡ c → Spread m i c n l e → Spread m i k n l e
as_ratio m i k c n l e q g = rw q g

pub room_ratio : (k c n len : ℕ) → k ≡ c → n * k ≤ len → n * c ≤ len
room_ratio k c n len q h = rw q at h

pub ruleset ratios = (rules, as_ratio, room_ratio)

-- what the library's fill leaves of a part
pub fill_put : (l r : List ℕ) (p q v : ℕ) → p ≤ q → q ≤ length l → r ≡ replicate (length (take (q - p) (drop p l))) v → Marked (ever 1) l p q v (put_mid p (q - p) l r)
unfolding ever
fill_put l r p q v h k e =
    let f : length (drop p l) ≡ length l - p = length-drop p l in
    let m : ℕ = length (take (q - p) (drop p l)) in
    let w : m ≡ q - p = length-take-le (q - p) (drop p l) (omega arith) in
    let o : List ℕ = take p l in
    let t : List ℕ = drop (q - p) (drop p l) in
    let b : length o ≡ p = length-take-le p l (omega arith) in
    let n : length r ≡ q - p = ap length e ∙ length-replicate m v ∙ w in
    let d : length t ≡ length l - p - (q - p) = length-drop (q - p) (drop p l) ∙ ap (λ (i : ℕ). i - (q - p)) f in
    record {
      long = length-append o (r ++ t) ∙ ap (λ (i : ℕ). length o + i) (length-append r t) ∙ omega arith;
      there = λ i a c. get_or-append_right o (r ++ t) p i 0 b a ∙ get_or_append_left r t 0 (i - p) (omega arith) ∙ ap (λ (s : List ℕ). get_or s (i - p) 0) e ∙ get_or-replicate m (i - p) v 0 (omega arith);
      before = λ i a. get_or_append_left o (r ++ t) 0 i (omega arith) ∙ get_or-take p l i 0 a;
      behind = λ i a.
          let z : p + (q - p + (i - p - (q - p))) ≡ i = omega arith in
          get_or-append_right o (r ++ t) p i 0 b (omega arith) ∙ get_or-append_right r t (q - p) (i - p) 0 n (omega arith)
          ∙ get_or-drop (q - p) (drop p l) (i - p - (q - p)) 0 ∙ get_or-drop p l (q - p + (i - p - (q - p))) 0 ∙ ap (λ (j : ℕ). get_or l j 0) z;
    }
