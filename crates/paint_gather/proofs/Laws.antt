-- One law for each way out of the functions that gather: its premises are what is known there.
-- Assumes nothing.
use Prim.Native.Nat.{ℕ, ◌+◌, ◌-◌, ◌*◌, ◌/◌, ◌%◌, ◌≤◌, ◌<◌}
use native.Mathlib.Omega.{arith}
use mathlib.Core.Path.{◌≡◌, refl, sym, ap, ap₂, subst, ◌∙◌}
use mathlib.Core.Logic.{◌≢◌}
use mathlib.Core.Bool.{cond}
use mathlib.Core.List.{List}
use native.Mathlib.Nat.{add-mul, one-mul}
use lib.ListN.{length, get_or, take, drop, length-take, length-drop}
use lib.Seq.{take_all, get_or-drop}
use lib.Dec.{eqb}
use mir.Val.{Fits}
use mir.Syntax.{w64}
use borrow.Author.Tests.{ne_eqb}
use borrow.Author.Rules.{rules}
use Rattle.octets.specs.Octets.{put_at}
use Rattle.paint_words.specs.Words.{octets_of, seen_from, grey_from}
use Rattle.paint_coat.specs.Coat.{Coated, over, four_in}
use Rattle.paint_coat.proofs.Coats.{coated_chain, coated_put, coated_as}
use Rattle.paint_gather.specs.Gather.{entry, place_in, gathered, next_at, Reach, Reaches, Running}

-- ---- a sample

pub entry_room : (j c n : ℕ) → 192 ≤ n → j < 12 → c < 16 → j * 16 + c < n
entry_room j c n h k l = omega arith

pub sample_room : (t : List ℕ) (j c n : ℕ) → entry t j c + 4 ≤ n → get_or t (j * 16 + c) 0 + 4 ≤ n
unfolding entry
sample_room t j c n h = h

pub sample_is : (each : ℕ) (t r : List ℕ) (j c w : ℕ) → octets_of w ≡ four_in each r (get_or t (j * 16 + c) 0) → octets_of w ≡ four_in each r (entry t j c)
unfolding entry
sample_is each t r j c w e = e

pub place_room : (i c n : ℕ) → 192 ≤ n → c < 16 → i % 12 * 16 + c < n
place_room i c n h k = omega arith

module _ (t : List ℕ) (step i c n : ℕ) (h : place_in t step i c + 4 ≤ n) where
  pub place_fits : n < 18446744073709551616 → Fits w64 (i / 12 * step)
  unfolding place_in
  place_fits k = record { fits = omega arith }

  pub place_adds : n < 18446744073709551616 → Fits w64 (get_or t (i % 12 * 16 + c) 0 + i / 12 * step)
  unfolding place_in entry
  place_adds k = record { fits = omega arith }

  pub place_there : get_or t (i % 12 * 16 + c) 0 + i / 12 * step + 4 ≤ n
  unfolding place_in entry
  place_there = h

pub place_is : (each : ℕ) (t d : List ℕ) (step i c w : ℕ) → octets_of w ≡ four_in each d (get_or t (i % 12 * 16 + c) 0 + i / 12 * step) → octets_of w ≡ four_in each d (place_in t step i c)
unfolding place_in entry
place_is each t d step i c w e = e

pub ruleset sampling = (rules, entry_room, sample_room, sample_is, place_room, place_fits, place_adds, place_there, place_is)

-- ---- four pixels

module _ (up : ℕ → List ℕ) where
  put_one : (l new : List ℕ) (x v : ℕ) → x * 4 + 4 ≤ length l → new ≡ put_at l (x * 4) (octets_of v) → octets_of v ≡ up x → Coated (over up) l x (x + 1) new
  unfolding over
  put_one l new x v h q e = coated_put (over up) l new x v h q e

  four_put : (l e f g h : List ℕ) (y a b c d : ℕ) → (y + 4) * 4 ≤ length l
      → e ≡ put_at l (y * 4) (octets_of a) → f ≡ put_at e ((y + 1) * 4) (octets_of b) → g ≡ put_at f ((y + 2) * 4) (octets_of c) → h ≡ put_at g ((y + 3) * 4) (octets_of d)
      → octets_of a ≡ up y → octets_of b ≡ up (y + 1) → octets_of c ≡ up (y + 2) → octets_of d ≡ up (y + 3) → Coated (over up) l y (y + 4) h
  four_put l e f g h y a b c d room pe pf pg ph ua ub uc ud =
      let k₁ = put_one l e y a (omega arith) pe ua in
      let n₁ = k₁.long in
      let k₂ = put_one e f (y + 1) b (omega arith) pf ub in
      let n₂ = k₂.long in
      let k₃ = put_one f g (y + 2) c (omega arith) pg uc in
      let n₃ = k₃.long in
      let k₄ = put_one g h (y + 3) d (omega arith) ph ud in
      let z₁ : y + 1 + 1 ≡ y + 2 = omega arith in
      let z₂ : y + 2 + 1 ≡ y + 3 = omega arith in
      let z₃ : y + 3 + 1 ≡ y + 4 = omega arith in
      coated_chain (over up) l g h y (y + 3) (y + 4) (omega arith) (omega arith)
      (coated_chain (over up) l f g y (y + 2) (y + 3) (omega arith) (omega arith)
      (coated_chain (over up) l e f y (y + 1) (y + 2) (omega arith) (omega arith) k₁
      (subst (λ (m : ℕ). Coated (over up) e (y + 1) m f) z₁ k₂))
      (subst (λ (m : ℕ). Coated (over up) f (y + 2) m g) z₂ k₃))
      (subst (λ (m : ℕ). Coated (over up) g (y + 3) m h) z₃ k₄)

module _ (each : ℕ) (sel : List ℕ) (p : ℕ) (t : List ℕ) (j : ℕ) (r : List ℕ) (y : ℕ) where
  four_is : (m w q k : ℕ) → q ≡ p + m → k ≡ j + m → octets_of w ≡ four_in each r (entry t k (get_or sel q 0)) → octets_of w ≡ next_at each sel p t j r y (y + m)
  unfolding next_at
  four_is m w q k eq ek e =
      let z : y + m - y ≡ m = omega arith in
      e ∙ ap₂ (λ (n i : ℕ). four_in each r (entry t n (get_or sel i 0))) (ek ∙ ap (λ (n : ℕ). j + n) (sym z)) (eq ∙ ap (λ (n : ℕ). p + n) (sym z))

  pub four_gathered : (l e f g h : List ℕ) (a b c d : ℕ) → (y + 4) * 4 ≤ length l
      → octets_of a ≡ four_in each r (entry t j (get_or sel p 0)) → octets_of b ≡ four_in each r (entry t (j + 1) (get_or sel (p + 1) 0))
      → octets_of c ≡ four_in each r (entry t (j + 2) (get_or sel (p + 2) 0)) → octets_of d ≡ four_in each r (entry t (j + 3) (get_or sel (p + 3) 0))
      → e ≡ put_at l (y * 4) (octets_of a) → f ≡ put_at e ((y + 1) * 4) (octets_of b) → g ≡ put_at f ((y + 2) * 4) (octets_of c) → h ≡ put_at g ((y + 3) * 4) (octets_of d)
      → Coated (over (next_at each sel p t j r y)) l y (y + 4) h
  four_gathered l e f g h a b c d room ua ub uc ud pe pf pg ph =
      let z : y + 0 ≡ y = omega arith in
      four_put (next_at each sel p t j r y) l e f g h y a b c d room pe pf pg ph
      (subst (λ (m : ℕ). octets_of a ≡ next_at each sel p t j r y m) z (four_is 0 a p j (omega arith) (omega arith) ua))
      (four_is 1 b (p + 1) (j + 1) refl refl ub) (four_is 2 c (p + 2) (j + 2) refl refl uc) (four_is 3 d (p + 3) (j + 3) refl refl ud)

-- ---- twelve pixels

module _ (sel : List ℕ) (p : ℕ) (t r : List ℕ) where
  pub reach_part : (q j : ℕ) → Reach 12 sel p t 0 r → j + 4 ≤ 12 → q ≡ p + j → Reach 4 sel q t j r
  reach_part q j g h z =
      let n = g.long in
      record {
        long = omega arith;
        table = g.table;
        low = h;
        few = λ m b. let y : p + (j + m) ≡ q + m = omega arith in subst (λ (n : ℕ). get_or sel n 0 < 16) y (g.few (j + m) (omega arith));
        there = λ m b.
            let y : p + (j + m) ≡ q + m = omega arith in
            let z : 0 + (j + m) ≡ j + m = omega arith in
            subst (λ (n : ℕ). entry t (j + m) (get_or sel n 0) + 4 ≤ length r) y
            (subst (λ (n : ℕ). entry t n (get_or sel (p + (j + m)) 0) + 4 ≤ length r) z (g.there (j + m) (omega arith)));
      }

  module _ (each y : ℕ) where
    twelve_part : (q j v w : ℕ) (l e : List ℕ) → q ≡ p + j → v ≡ y + j → w ≡ v + 4 → Coated (over (next_at each sel q t j r v)) l v (v + 4) e
        → Coated (over (next_at each sel p t 0 r y)) l v w e
    unfolding over next_at
    twelve_part q j v w l e eq ev ew k =
        subst (λ (b : ℕ). Coated (over (next_at each sel p t 0 r y)) l v b e) (sym ew)
        (coated_as (over (next_at each sel q t j r v)) (over (next_at each sel p t 0 r y)) l e v (v + 4)
        (λ u old b s.
        let i : j + (u - v) ≡ 0 + (u - y) = omega arith in
        let o : q + (u - v) ≡ p + (u - y) = omega arith in
        ap₂ (λ (m n : ℕ). four_in each r (entry t m (get_or sel n 0))) i o)
        k)

    pub twelve_gathered : (l e f h : List ℕ) → Coated (over (next_at each sel p t 0 r y)) l y (y + 4) e → Coated (over (next_at each sel (p + 4) t 4 r (y + 4))) e (y + 4) (y + 4 + 4) f
        → Coated (over (next_at each sel (p + 8) t 8 r (y + 8))) f (y + 8) (y + 8 + 4) h → Coated (over (next_at each sel p t 0 r y)) l y (y + 12) h
    twelve_gathered l e f h k₁ k₂ k₃ =
        coated_chain (over (next_at each sel p t 0 r y)) l f h y (y + 8) (y + 12) (omega arith) (omega arith)
        (coated_chain (over (next_at each sel p t 0 r y)) l e f y (y + 4) (y + 8) (omega arith) (omega arith) k₁
        (twelve_part (p + 4) 4 (y + 4) (y + 8) e f refl refl (omega arith) k₂))
        (twelve_part (p + 8) 8 (y + 8) (y + 12) f h refl refl (omega arith) k₃)

-- ---- pixels one by one

pub few_is : (each : ℕ) (sel t d : List ℕ) (step a y w : ℕ) (o : List ℕ) → octets_of w ≡ four_in each d (place_in t step (y - a) (get_or sel (y - a) 0)) → octets_of w ≡ over (gathered each sel t d step a) y o
unfolding over gathered
few_is each sel t d step a y w o e = e

-- ---- twelve by twelve

-- what stands in a part of the samples stands in the whole, so many octets on
part_four_lem : (each : ℕ) (d : List ℕ) (i p : ℕ) → i ≤ length d → p + 4 ≤ length d - i → four_in each (take (length d - i) (drop i d)) p ≡ four_in each d (i + p)
unfolding four_in seen_from grey_from
part_four_lem each d i p h k =
    let l = length-drop i d in
    let whole : take (length d - i) (drop i d) ≡ drop i d = take_all (length d - i) (drop i d) (omega arith) in
    let y : i + (p + 1) ≡ i + p + 1 = omega arith in
    let z : i + (p + 2) ≡ i + p + 2 = omega arith in
    let a : get_or (take (length d - i) (drop i d)) p 0 ≡ get_or d (i + p) 0 = ap (λ (m : List ℕ). get_or m p 0) whole ∙ get_or-drop i d p 0 in
    let b : get_or (take (length d - i) (drop i d)) (p + 1) 0 ≡ get_or d (i + p + 1) 0 = ap (λ (m : List ℕ). get_or m (p + 1) 0) whole ∙ get_or-drop i d (p + 1) 0 ∙ ap (λ (m : ℕ). get_or d m 0) y in
    let c : get_or (take (length d - i) (drop i d)) (p + 2) 0 ≡ get_or d (i + p + 2) 0 = ap (λ (m : List ℕ). get_or m (p + 2) 0) whole ∙ get_or-drop i d (p + 2) 0 ∙ ap (λ (m : ℕ). get_or d m 0) z in
    let seen : seen_from (take (length d - i) (drop i d)) p ≡ seen_from d (i + p) = cc in
    let grey : grey_from (take (length d - i) (drop i d)) p ≡ grey_from d (i + p) = cc in
    ap₂ (cond (eqb each 3)) seen grey

part_long : (d : List ℕ) (i : ℕ) → i ≤ length d → length (take (length d - i) (drop i d)) ≡ length d - i
part_long d i h = let a = length-take (length d - i) (drop i d) in let b = length-drop i d in omega arith

pub record Turning (each : ℕ) (sel t d : List ℕ) (step a x e : ℕ) (l out : List ℕ) (y i : ℕ) : Type 0 where
  pub from : x ≤ y
  pub upto : y ≤ e
  pub long : length out ≡ length l
  pub twelfth : (y - a) % 12 ≡ 0
  pub place : i ≡ (y - a) / 12 * step
  pub done : Coated (over (gathered each sel t d step a)) l x y out

module _ (each : ℕ) (sel t d : List ℕ) (step a x e : ℕ) (l : List ℕ) (g : Reaches sel t d step (x - a) (e - a)) (ax : a ≤ x) where
  module _ (out : List ℕ) (y i : ℕ) (c : Turning each sel t d step a x e l out y i) (h : 12 ≤ e - y) where
    -- the places of the twelve
    place_here : (m : ℕ) → m < 12 → place_in t step (y - a + m) (get_or sel (y - a + m) 0) ≡ entry t m (get_or sel (y - a + m) 0) + i
    unfolding place_in
    place_here m k =
        let f = c.from in
        let w = c.twelfth in
        let p = c.place in
        let z : (y - a + m) % 12 ≡ m = omega arith in
        let v : (y - a + m) / 12 ≡ (y - a) / 12 = omega arith in
        let q : (y - a + m) / 12 * step ≡ i = ap (λ (n : ℕ). n * step) v ∙ sym p in
        let o : entry t ((y - a + m) % 12) (get_or sel (y - a + m) 0) ≡ entry t m (get_or sel (y - a + m) 0) = ap (λ (n : ℕ). entry t n (get_or sel (y - a + m) 0)) z in
        omega arith

    there_here : (m : ℕ) → m < 12 → entry t m (get_or sel (y - a + m) 0) + i + 4 ≤ length d
    there_here m k =
        let f = c.from in
        let p = place_here m k in
        let r = g.there (y - a + m) (omega arith) (omega arith) in
        omega arith

    pub part_low : i ≤ length d
    part_low = let r = there_here 0 (omega arith) in omega arith

    twelve_reach : Reach 12 sel (y - a) t 0 (take (length d - i) (drop i d))
    twelve_reach =
        let n = g.long in
        let f = c.from in
        let long = part_long d i part_low in
        record {
          long = omega arith;
          table = g.table;
          low = omega arith;
          few = λ m b. g.few (y - a + m) (omega arith) (omega arith);
          there = λ m b.
              let r = there_here m b in
              let z : 0 + m ≡ m = omega arith in
              let o : entry t (0 + m) (get_or sel (y - a + m) 0) ≡ entry t m (get_or sel (y - a + m) 0) = ap (λ (n : ℕ). entry t n (get_or sel (y - a + m) 0)) z in
              omega arith;
        }

    twelve_told : (o : List ℕ) → Coated (over (next_at each sel (y - a) t 0 (take (length d - i) (drop i d)) y)) out y (y + 12) o → Coated (over (gathered each sel t d step a)) out y (y + 12) o
    unfolding over next_at gathered
    twelve_told o k = coated_as (over (next_at each sel (y - a) t 0 (take (length d - i) (drop i d)) y)) (over (gathered each sel t d step a)) out o y (y + 12)
        (λ u old b s.
        let f = c.from in
        let q : y - a + (u - y) ≡ u - a = omega arith in
        let r = there_here (u - y) (omega arith) in
        let pl = place_here (u - y) (omega arith) in
        let sw : i + entry t (u - y) (get_or sel (y - a + (u - y)) 0) ≡ place_in t step (y - a + (u - y)) (get_or sel (y - a + (u - y)) 0) = omega arith in
        let z : 0 + (u - y) ≡ u - y = omega arith in
        ap (λ (n : ℕ). four_in each (take (length d - i) (drop i d)) (entry t n (get_or sel (y - a + (u - y)) 0))) z
        ∙ part_four_lem each d i (entry t (u - y) (get_or sel (y - a + (u - y)) 0)) part_low (omega arith)
        ∙ ap (four_in each d) sw
        ∙ ap (λ (n : ℕ). four_in each d (place_in t step n (get_or sel n 0))) q)
        k

    turning_more : (o : List ℕ) → Coated (over (next_at each sel (y - a) t 0 (take (length d - i) (drop i d)) y)) out y (y + 12) o → Turning each sel t d step a x e l o (y + 12) (i + step)
    turning_more o k =
        let f = c.from in
        let w = c.twelfth in
        let p = c.place in
        let n : (y + 12 - a) / 12 ≡ (y - a) / 12 + 1 = omega arith in
        let m : (y + 12 - a) / 12 * step ≡ (y - a) / 12 * step + step = ap (λ (q : ℕ). q * step) n ∙ add-mul ((y - a) / 12) 1 step ∙ ap (λ (q : ℕ). (y - a) / 12 * step + q) (one-mul step) in
        record {
          from = omega arith;
          upto = omega arith;
          long = k.long ∙ c.long;
          twelfth = omega arith;
          place = omega arith;
          done = coated_chain (over (gathered each sel t d step a)) l out o x y (y + 12) f (omega arith) c.done (twelve_told o k);
        }

    -- the same, the twelve's first place being p
    module _ (p : ℕ) (z : p ≡ y - a) where
      pub twelve_at : Reach 12 sel p t 0 (take (length d - i) (drop i d))
      twelve_at = rw z twelve_reach

      pub turning_at : (o : List ℕ) → Coated (over (next_at each sel p t 0 (take (length d - i) (drop i d)) y)) out y (y + 12) o → Turning each sel t d step a x e l o (y + 12) (i + step)
      turning_at o k = turning_more o (rw z at k)

  pub turning_next : (out : List ℕ) (y z i j : ℕ) → y ≡ z → i ≡ j → Turning each sel t d step a x e l out y i → Turning each sel t d step a x e l out z j
  turning_next out y z i j p q c = subst (λ (m : ℕ). Turning each sel t d step a x e l out z m) q (subst (λ (m : ℕ). Turning each sel t d step a x e l out m i) p c)

-- ---- all of them

pub reaches_part : (sel t d : List ℕ) (step p q v w : ℕ) → Reaches sel t d step p q → p ≤ v → w ≤ q → Reaches sel t d step v w
reaches_part sel t d step p q v w g h k =
    let n = g.long in
    record { long = omega arith; table = g.table; few = λ i a b. g.few i (omega arith) (omega arith); there = λ i a b. g.there i (omega arith) (omega arith) }

module _ (each : ℕ) (sel t d : List ℕ) (step a x e y : ℕ) (l o n : List ℕ) where
  pub gather_chain : x ≤ y → y ≤ e → Coated (over (gathered each sel t d step a)) l x y o → Coated (over (gathered each sel t d step a)) o y e n → Coated (over (gathered each sel t d step a)) l x e n
  gather_chain h k p q = coated_chain (over (gathered each sel t d step a)) l o n x y e h k p q

  pub rest_chain : Running each sel t d step a x e l y o → Coated (over (gathered each sel t d step a)) o y e n → Coated (over (gathered each sel t d step a)) l x e n
  rest_chain g q = coated_chain (over (gathered each sel t d step a)) l o n x y e g.from g.upto g.done q

module _ (each : ℕ) (sel t d : List ℕ) (step a x e : ℕ) (l o : List ℕ) where
  pub gathered_grey : each ≢ 3 → Coated (over (gathered 1 sel t d step a)) l x e o → Coated (over (gathered each sel t d step a)) l x e o
  unfolding over gathered four_in
  gathered_grey q c = coated_as (over (gathered 1 sel t d step a)) (over (gathered each sel t d step a)) l o x e (λ y u r s. sym (simp (ne_eqb each 3 q))) c

pub gather_all : (each : ℕ) (sel t d : List ℕ) (step a x e y : ℕ) (l o : List ℕ) → y ≤ e → e ≤ y → Coated (over (gathered each sel t d step a)) l x y o → Coated (over (gathered each sel t d step a)) l x e o
gather_all each sel t d step a x e y l o h k c = let z : y ≡ e = omega arith in subst (λ (b : ℕ). Coated (over (gathered each sel t d step a)) l x b o) z c

pub ruleset gathering = (rules, reaches_part, gather_chain, rest_chain, gather_all)
