-- Demand 3: what a line call leaves in its buffer. The statement is `Shown` of specs/Demand.antt.
-- Assumes nothing.
use Prim.Native.Nat.{ℕ, ◌+◌, ◌*◌, ◌≤◌, ◌<◌}
use native.Mathlib.Omega.{arith}
use mathlib.Core.Path.{◌≡◌, refl, sym, ap, ap₂, subst, ◌∙◌}
use mathlib.Core.Logic.{◌↔◌, ◌⊎◌, inl, inr}
use mathlib.Core.Bool.{false}
use mathlib.Core.List.{List, [], ◌∷◌}
use lib.ListN.{length, get_or, take, drop}
use lib.Seq.{take_at}
use lib.Dec.{ltb}
use borrow.Author.Tests.{ltb-false, le-ltb}
use Rattle.laws.proofs.Cases.{cond_with, cond_both, clash}
use Rattle.octets.specs.Octets.{put_at}
use Rattle.octets.proofs.Laws.{put_rest, put_length}
use Rattle.answers.specs.Answers.{Answer}
use Rattle.sheet_rules.specs.declared.Colour.{Colour}
use Rattle.std.specs.Prelude.{Option, Some, None, Ok}
use Rattle.pixel_rules.specs.Planes.{PlaneList}
use Rattle.pixel_rules.specs.Samples.{Scene, width_of}
use Rattle.pixel_rules.specs.Content.{SeenAs}
use Rattle.pixel_rules.specs.Decide.{pixel_at}
use Rattle.picture_rules.specs.Line.{unseen_grey, four_of, line_pixels, Ruling, shows, refused, ruling_of, line_answer, line_of, line_holds, line_into, Lines}
use Rattle.picture_rules.specs.Demand.{four_at, seen_in, unseen_in, at, Tells, Shown}
use Rattle.picture_rules.specs.Sentences.{HasLine, scene_of, AllFine}
use Rattle.sheet_rules.specs.Sentences.{Accepted}
use Rattle.picture_rules.proofs.Ruled.{ruling_cases}
use Rattle.pixel_rules.proofs.Seen.{seen_known_as, unseen_unknown}
use Rattle.picture_rules.proofs.Fours.{four_known, known_four, four_unknown, unknown_four, length_line, put_four}

-- ---- the octets of a decided pixel

pub four_tells : (u : Colour) (v : Scene) (y x : ℕ) → Tells u v y x (four_of u (pixel_at v (at x) (at y)))
four_tells u v y x =
    record {
      seen = λ c. (
        λ e. (seen_known_as v (at x) (at y) c).0 (four_known u (pixel_at v (at x) (at y)) c e),
        λ h. known_four u (pixel_at v (at x) (at y)) c ((seen_known_as v (at x) (at y) c).1 h),
      );
      unseen = (
        λ e. (unseen_unknown v (at x) (at y)).0 (four_unknown u (pixel_at v (at x) (at y)) e),
        λ h. unknown_four u (pixel_at v (at x) (at y)) ((unseen_unknown v (at x) (at y)).1 h),
      );
      either = one (pixel_at v (at x) (at y));
    }
  where
    one : (p : Option Colour) → ((c : Colour) × (four_of u p ≡ seen_in c)) ⊎ (four_of u p ≡ unseen_in u)
    one (Some c) = inl (c, known_four u (Some c) c refl)
    one None = inr (unknown_four u None refl)

-- ---- what four octets tell

-- the fourth alone tells whether a pixel is seen: a seen one may have the unseen colour
module _ {u : Colour} {v : Scene} {y x : ℕ} {four : List ℕ} (t : Tells u v y x four) where
  pub mark_seen : get_or four 3 0 ≡ 1 ↔ (c : Colour) × SeenAs v (at x) (at y) c
  mark_seen = (go t.either, λ s. ap (λ (l : List ℕ). get_or l 3 0) ((t.seen s.0).1 s.1))
    where
      go : ((c : Colour) × (four ≡ seen_in c)) ⊎ (four ≡ unseen_in u) → get_or four 3 0 ≡ 1 → (c : Colour) × SeenAs v (at x) (at y) c
      go (inl s) m = (s.0, (t.seen s.0).0 s.1)
      go (inr e) m = clash (sym (ap (λ (l : List ℕ). get_or l 3 0) e) ∙ m)

  pub mark_unseen : get_or four 3 0 ≡ 0 ↔ ((c : Colour) → SeenAs v (at x) (at y) c → ⊥)
  mark_unseen = (go t.either, λ n. ap (λ (l : List ℕ). get_or l 3 0) (t.unseen.1 n))
    where
      go : ((c : Colour) × (four ≡ seen_in c)) ⊎ (four ≡ unseen_in u) → get_or four 3 0 ≡ 0 → (c : Colour) → SeenAs v (at x) (at y) c → ⊥
      go (inl s) m = clash (sym m ∙ ap (λ (l : List ℕ). get_or l 3 0) s.1)
      go (inr e) m = t.unseen.0 e

-- the same octet by octet, for any three of an unseen colour
pub octets_told : {v : Scene} {y x : ℕ} {four : List ℕ} (u0 u1 u2 : ℕ) → Tells (record { c0 = u0; c1 = u1; c2 = u2 }) v y x four
    → ((c0 c1 c2 : ℕ) → four ≡ c0 ∷ c1 ∷ c2 ∷ 1 ∷ [] ↔ SeenAs v (at x) (at y) (record { c0 = c0; c1 = c1; c2 = c2 }))
    × (four ≡ u0 ∷ u1 ∷ u2 ∷ 0 ∷ [] ↔ ((c : Colour) → SeenAs v (at x) (at y) c → ⊥))
octets_told u0 u1 u2 t = (λ c0 c1 c2. t.seen (record { c0 = c0; c1 = c1; c2 = c2 }), t.unseen)

-- where no unseen colour is given, a pixel is 128 128 96 0 exactly if it is unseen
pub grey_unseen : {v : Scene} {y x : ℕ} {four : List ℕ} → Tells unseen_grey v y x four
    → four ≡ 128 ∷ 128 ∷ 96 ∷ 0 ∷ [] ↔ ((c : Colour) → SeenAs v (at x) (at y) c → ⊥)
grey_unseen t = t.unseen

-- another unseen colour alters unseen pixels alone
pub recoloured : {u u' : Colour} {v : Scene} {y x : ℕ} {four other : List ℕ} → Tells u v y x four → Tells u' v y x other
    → ((c : Colour) × (four ≡ seen_in c) × (other ≡ seen_in c)) ⊎ ((four ≡ unseen_in u) × (other ≡ unseen_in u'))
recoloured {u} {u'} {v} {y} {x} {four} {other} t t' = go t.either
  where
    go : ((c : Colour) × (four ≡ seen_in c)) ⊎ (four ≡ unseen_in u) → ((c : Colour) × (four ≡ seen_in c) × (other ≡ seen_in c)) ⊎ ((four ≡ unseen_in u) × (other ≡ unseen_in u'))
    go (inl s) = inl (s.0, s.1, (t'.seen s.0).1 ((t.seen s.0).0 s.1))
    go (inr e) = inr (e, t'.unseen.1 (t.unseen.0 e))

-- ---- a call that answers Ok

put_front : (e v : List ℕ) (n : ℕ) → length v ≡ n → take n (put_at e 0 v) ≡ v
unfolding put_at
put_front e v n h = take_at v (drop (0 + length v) e) n h

pub record DoneLine (s : List ℕ) (pl : PlaneList) (d : List ℕ) (k y : ℕ) (u : Colour) (out : List ℕ) (n : ℕ) : Type 0 where
  pub accepted : Accepted s
  pub line : HasLine s k y
  pub listed : AllFine (scene_of s pl d k) pl
  pub ruling : ruling_of s pl d k y ≡ shows (scene_of s pl d k)
  pub size : n ≡ width_of (scene_of s pl d k) * 4
  pub room : n ≤ length out
  pub into : line_into s pl d k y u out ≡ put_at out 0 (line_pixels u (scene_of s pl d k) y)

module _ (s : List ℕ) (pl : PlaneList) (d : List ℕ) (k y : ℕ) (u : Colour) (out : List ℕ) where
  pub done_line : (n : ℕ) → line_of s pl d k y (length out) ≡ Ok n → DoneLine s pl d k y u out n
  unfolding line_of line_answer line_into line_holds
  done_line n =
      ruling_cases s pl d k y (λ r. ruling_of s pl d k y ≡ r → line_answer (length out) r ≡ Ok n → DoneLine s pl d k y u out n)
      (λ i b e q. clash cc)
      (λ a b e q. clash cc)
      (λ a b i f e q. clash cc)
      (λ a b f e.
      let v : Scene = scene_of s pl d k in
      cond_both (λ x z. line_holds u out y (shows v) ≡ z → x ≡ Ok n → DoneLine s pl d k y u out n) (ltb (length out) (width_of v * 4))
      (λ t h q. clash cc)
      (λ t h q.
      let z : width_of v * 4 ≡ n = cc in
      let l = ltb-false (length out) (width_of v * 4) t in
      record { accepted = a; line = b; listed = f; ruling = e; size = sym z; room = omega arith; into = ap (line_holds u out y) e ∙ h })
      refl)
      refl

  pub done_four : (n : ℕ) → line_of s pl d k y (length out) ≡ Ok n → (x : ℕ) → x < width_of (scene_of s pl d k)
      → four_at (line_into s pl d k y u out) x ≡ four_of u (pixel_at (scene_of s pl d k) (at x) (at y))
  done_four n q x h = ap (λ (e : List ℕ). four_at e x) (done_line n q).into ∙ put_four u (scene_of s pl d k) y out x h

  -- ---- the theorem

  pub demand_3 : (n : ℕ) → line_of s pl d k y (length out) ≡ Ok n → Shown s pl d k y u out (line_into s pl d k y u out) n
  demand_3 n q =
      let b = done_line n q in
      let v : Scene = scene_of s pl d k in
      let l = length_line u v y in
      let f = b.room in
      let m = b.size in
      let z : 0 + length (line_pixels u v y) ≡ n = omega arith in
      record {
        accepted = b.accepted;
        line = b.line;
        listed = b.listed;
        size = b.size;
        room = b.room;
        pixels = λ x h. subst (Tells u v y x) (sym (done_four n q x h)) (four_tells u v y x);
        past = ap₂ (λ (j : ℕ) (e : List ℕ). drop j e) (sym z) b.into ∙ put_rest out 0 (line_pixels u v y) (omega arith) ∙ ap (λ (j : ℕ). drop j out) z;
        same = ap length b.into ∙ put_length out 0 (line_pixels u v y) (omega arith);
      }

  -- a refusal changes nothing
  pub refused_line : ((n : ℕ) → line_of s pl d k y (length out) ≡ Ok n → ⊥) → line_into s pl d k y u out ≡ out
  unfolding line_of line_answer line_into line_holds
  refused_line = by (ruling_of s pl d k y)
    where
      by : (r : Ruling) → ((n : ℕ) → line_answer (length out) r ≡ Ok n → ⊥) → line_holds u out y r ≡ out
      by (shows v) =
          cond_both (λ x z. ((n : ℕ) → x ≡ Ok n → ⊥) → z ≡ out) (ltb (length out) (width_of v * 4)) (λ t h. refl) (λ t h. absurd (h (width_of v * 4) refl))
      by (refused a) = λ h. refl

  -- the buffer's length stays
  pub line_length : length (line_into s pl d k y u out) ≡ length out
  unfolding line_into line_holds
  line_length = by (ruling_of s pl d k y)
    where
      by : (r : Ruling) → length (line_holds u out y r) ≡ length out
      by (shows v) =
          cond_with (λ (z : List ℕ). length z ≡ length out) (ltb (length out) (width_of v * 4)) (λ t. refl)
          (λ t. let f = ltb-false (length out) (width_of v * 4) t in let l = length_line u v y in put_length out 0 (line_pixels u v y) (omega arith))
      by (refused a) = refl

-- ---- a line does not depend on what the buffer held, nor on how much more it holds

pub line_anywhere : (s : List ℕ) (pl : PlaneList) (d : List ℕ) (k y : ℕ) (u : Colour) (out put : List ℕ) (n : ℕ) → line_of s pl d k y (length out) ≡ Ok n → n ≤ length put
    → (line_of s pl d k y (length put) ≡ Ok n) × (take n (line_into s pl d k y u put) ≡ take n (line_into s pl d k y u out))
unfolding line_of line_answer line_into line_holds
line_anywhere s pl d k y u out put n q h =
    let b = done_line s pl d k y u out n q in
    let v : Scene = scene_of s pl d k in
    let m = b.size in
    let l = length_line u v y in
    let t : ltb (length put) (width_of v * 4) ≡ false = le-ltb (length put) (width_of v * 4) (omega arith) in
    let i : line_into s pl d k y u put ≡ put_at put 0 (line_pixels u v y) = ap (line_holds u put y) b.ruling ∙ simp t in (
      ap (line_answer (length put)) b.ruling ∙ simp t (ap Ok (sym m)),
      ap (take n) i ∙ front put ∙ sym (ap (take n) b.into ∙ front out),
    )
  where
    front : (e : List ℕ) → take n (put_at e 0 (line_pixels u (scene_of s pl d k) y)) ≡ line_pixels u (scene_of s pl d k) y
    front e =
        let b = (done_line s pl d k y u out n q).size in
        let l = length_line u (scene_of s pl d k) y in
        put_front e (line_pixels u (scene_of s pl d k) y) n (omega arith)

-- ---- the promise determines the answer and the buffer

pub lines_once : (s : List ℕ) (pl : PlaneList) (d : List ℕ) (k y : ℕ) (u : Colour) (out : List ℕ) (a b : Answer) (e f : List ℕ)
    → Lines s pl d k y u out a e → Lines s pl d k y u out b f → (a ≡ b) × (e ≡ f)
lines_once s pl d k y u out a b e f p q = (p.answers ∙ sym q.answers, p.holds ∙ sym q.holds)
