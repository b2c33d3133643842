-- A band is the lines of its stripe, one behind the other, as the line call puts them, and it is nothing else. The statement is `LineByLine` of
-- specs/Sentences.antt.
-- Assumes nothing.
use Rattle.std.specs.Prelude.{Ok}
use Prim.Native.Nat.{ℕ, ◌+◌, ◌*◌, ◌≤◌, ◌<◌}
use native.Mathlib.Omega.{arith}
use mathlib.Core.Path.{◌≡◌, refl, sym, ap, ap₂, subst, ◌∙◌}
use mathlib.Core.Logic.{◌↔◌}
use mathlib.Core.Bool.{Bool}
use mathlib.Core.List.{List, ◌++◌}
use lib.ListN.{length, take, drop, take-append-drop, length-drop}
use lib.Seq.{take_at, take-add, take-take, take-append-le, drop-append-le, drop-append_seam, drop-drop}
use lib.Dec.{ltb}
use borrow.Author.Tests.{ltb-false}
use Rattle.laws.proofs.Cases.{cond_with, cond_both, clash}
use Rattle.octets.specs.Octets.{put_at}
use Rattle.octets.proofs.Laws.{put_rest, put_length}
use Rattle.answers.specs.Answers.{Answer}
use Rattle.sheet_rules.specs.declared.Colour.{Colour}
use Rattle.sheet_rules.specs.Sentences.{Accepted}
use Rattle.pixel_rules.specs.declared.Plane.{Plane}
use Rattle.pixel_rules.specs.Planes.{PlaneList}
use Rattle.pixel_rules.specs.Samples.{Scene, width_of}
use Rattle.picture_rules.specs.Line.{line_pixels, Ruling, shows, refused, ruling_of, line_into}
use Rattle.picture_rules.specs.Sentences.{scene_of, HasLine, AllFine, lined}
use Rattle.picture_rules.specs.Demand.{four_at, Tells}
use Rattle.picture_rules.proofs.Fours.{length_line}
use Rattle.picture_rules.proofs.Exactly.{line_exactly}
use Rattle.picture_rules.proofs.Demand3.{done_line, demand_3}
use Rattle.picture_rules.proofs.First.{ruling_first}
use Rattle.band_rules.specs.Band.{band_lines, band_size, band_answer, band_of, band_holds, band_into, Bands}
use Rattle.band_rules.specs.Sentences.{HasStripe, line_size, LineByLine}
use Rattle.band_rules.proofs.Octets.{lines_below, length_lines, lines_line, lines_only}
use Rattle.band_rules.proofs.Ruled.{stripe_high, band_cases}
use Rattle.band_rules.proofs.Exactly.{size_octets}
use Rattle.band_rules.proofs.Refused.{band_done}

-- ---- a call that answers Done

record DoneBand (s : List ℕ) (pl : PlaneList) (d : List ℕ) (k : ℕ) (u : Colour) (out : List ℕ) (n : ℕ) : Type 0 where
  accepted : Accepted s
  stripe : HasStripe s k
  listed : AllFine (scene_of s pl d k) pl
  size : n ≡ band_size (scene_of s pl d k)
  room : n ≤ length out
  into : band_into s pl d k u out ≡ put_at out 0 (band_lines u (scene_of s pl d k) (scene_of s pl d k).extent.height)

-- a band is as many lines as the stripe is high
size_lines : (v : Scene) → band_size v ≡ v.extent.height * line_size v
unfolding band_size
size_lines v = omega arith

module _ (s : List ℕ) (pl : PlaneList) (d : List ℕ) (k : ℕ) (u : Colour) (out : List ℕ) where
  abbrev scene : Scene
  scene = scene_of s pl d k

  abbrev high : ℕ
  high = scene.extent.height

  done_band : (n : ℕ) → band_of s pl d k (length out) ≡ Ok n → DoneBand s pl d k u out n
  unfolding band_of band_answer band_into band_holds
  done_band n =
      band_cases s pl d k (λ r. ruling_of s pl d k 0 ≡ r → band_answer (length out) r ≡ Ok n → DoneBand s pl d k u out n)
      (λ i b e q. clash cc)
      (λ a b e q. clash cc)
      (λ a b i f e q. clash cc)
      (λ a b f e.
      cond_both (λ x z. band_holds u out (shows scene) ≡ z → x ≡ Ok n → DoneBand s pl d k u out n) (ltb (length out) (band_size scene))
      (λ t h q. clash cc)
      (λ t h q.
      let z : band_size scene ≡ n = cc in
      let l = ltb-false (length out) (band_size scene) t in
      record { accepted = a; stripe = b; listed = f; size = sym z; room = omega arith; into = ap (band_holds u out) e ∙ h })
      refl)
      refl

  -- ---- one line, in the band and as the line call puts it

  line_put : (y : ℕ) → Accepted s → HasLine s k y → AllFine scene pl → (buffer : List ℕ) → line_size scene ≤ length buffer
      → take (line_size scene) (line_into s pl d k y u buffer) ≡ line_pixels u scene y
  unfolding put_at
  line_put y a h f buffer l =
      let q = (line_exactly s pl d k y (length buffer) (Ok (line_size scene))).1 (lined a h f refl l) in
      ap (take (line_size scene)) (done_line s pl d k y u buffer (line_size scene) q).into
      ∙ take_at (line_pixels u scene y) (drop (0 + length (line_pixels u scene y)) buffer) (line_size scene) (length_line u scene y)

  band_put : (y : ℕ) → y < high → take (line_size scene) (drop (y * line_size scene) (put_at out 0 (band_lines u scene high))) ≡ line_pixels u scene y
  unfolding put_at
  band_put y h =
      let l = length_lines u scene high in
      let w = lines_below y high (line_size scene) h in
      let r = length-drop (y * line_size scene) (band_lines u scene high) in
      let past : List ℕ = drop (0 + length (band_lines u scene high)) out in
      ap (take (line_size scene)) (drop-append-le (y * line_size scene) (band_lines u scene high) past (omega arith))
      ∙ take-append-le (line_size scene) (drop (y * line_size scene) (band_lines u scene high)) past (omega arith)
      ∙ lines_line u scene high y h

  -- ---- the theorem, both ways

  band_lines_lem : (n : ℕ) → band_of s pl d k (length out) ≡ Ok n → LineByLine s pl d k u out n (band_into s pl d k u out)
  band_lines_lem n q =
      let b = done_band n q in
      let m = b.size in
      let f = b.room in
      let z = size_lines scene in
      let l = length_lines u scene high in
      let w : 0 + length (band_lines u scene high) ≡ n = omega arith in
      record {
        lined = λ room h. ((band_done s pl d k (length out) room h n).0 q).0;
        size = m ∙ size_octets scene;
        room = f;
        lines = λ y h buffer r.
            ap (λ (e : List ℕ). take (line_size scene) (drop (y * line_size scene) e)) b.into
            ∙ band_put y h
            ∙ sym (line_put y b.accepted (record { stripe = b.stripe; line = h }) b.listed buffer r);
        past = ap₂ (λ (j : ℕ) (e : List ℕ). drop j e) (sym w) b.into ∙ put_rest out 0 (band_lines u scene high) (omega arith) ∙ ap (λ (j : ℕ). drop j out) w;
        same = ap length b.into ∙ put_length out 0 (band_lines u scene high) (omega arith);
      }

  lines_band : (n : ℕ) (e : List ℕ) → LineByLine s pl d k u out n e → Bands s pl d k u out (Ok n) e
  unfolding put_at
  lines_band n e g =
      let q = (band_done s pl d k (length out) (length out + line_size scene) (omega arith) n).1 (g.lined (length out + line_size scene) (omega arith), g.size, g.room) in
      let b = done_band n q in
      let m = b.size in
      let f = b.room in
      let z = size_lines scene in
      let l = length_lines u scene high in
      let w = lines_below 0 high (line_size scene) (stripe_high s k b.accepted b.stripe) in
      let j : n ≡ high * line_size scene = omega arith in
      let front : take n e ≡ band_lines u scene high =
      ap (λ (i : ℕ). take i e) j
      ∙ lines_only u scene e high
      (λ y h. g.lines y h out (omega arith) ∙ line_put y b.accepted (record { stripe = b.stripe; line = h }) b.listed out (omega arith)) in
      let i : n ≡ 0 + length (band_lines u scene high) = omega arith in
      record {
        answers = sym q;
        holds = sym (take-append-drop n e) ∙ ap₂ (λ (a c : List ℕ). a ++ c) front (g.past ∙ ap (λ (x : ℕ). drop x out) i) ∙ sym b.into;
      }

  pub bands_lines : (n : ℕ) (e : List ℕ) → Bands s pl d k u out (Ok n) e ↔ LineByLine s pl d k u out n e
  bands_lines n e = (λ b. subst (LineByLine s pl d k u out n) (sym b.holds) (band_lines_lem n (sym b.answers)), lines_band n e)

  -- ---- a refusal changes nothing, and the buffer's length stays in any case

  pub refused_band : ((n : ℕ) → band_of s pl d k (length out) ≡ Ok n → ⊥) → band_into s pl d k u out ≡ out
  unfolding band_of band_answer band_into band_holds
  refused_band = by (ruling_of s pl d k 0)
    where
      by : (r : Ruling) → ((n : ℕ) → band_answer (length out) r ≡ Ok n → ⊥) → band_holds u out r ≡ out
      by (shows v) =
          cond_both (λ x z. ((n : ℕ) → x ≡ Ok n → ⊥) → z ≡ out) (ltb (length out) (band_size v)) (λ t h. refl) (λ t h. absurd (h (band_size v) refl))
      by (refused a) = λ h. refl

  pub band_length : length (band_into s pl d k u out) ≡ length out
  unfolding band_into band_holds
  band_length = by (ruling_of s pl d k 0)
    where
      by : (r : Ruling) → length (band_holds u out r) ≡ length out
      by (shows v) =
          cond_with (λ (z : List ℕ). length z ≡ length out) (ltb (length out) (band_size v)) (λ t. refl)
          (λ t.
          let f = ltb-false (length out) (band_size v) t in
          let z = size_lines v in
          let l = length_lines u v v.extent.height in
          put_length out 0 (band_lines u v v.extent.height) (omega arith))
      by (refused a) = refl

-- ---- demand 3, pixel by pixel

-- four octets within a front that two lists share
four_shared : (l r : List ℕ) (m x : ℕ) → take m l ≡ take m r → x * 4 + 4 ≤ m → four_at l x ≡ four_at r x
four_shared l r m x e h = part l ∙ ap₂ (λ (p q : List ℕ). drop (length p) q) (upto (x * 4) (omega arith)) (upto (x * 4 + 4) h) ∙ sym (part r)
  where
    part : (l : List ℕ) → four_at l x ≡ drop (length (take (x * 4) l)) (take (x * 4 + 4) l)
    part l = sym (ap (drop (length (take (x * 4) l))) (take-add (x * 4) 4 l) ∙ drop-append_seam (take (x * 4) l) (take 4 (drop (x * 4) l)))

    upto : (n : ℕ) → n ≤ m → take n l ≡ take n r
    upto n b = sym (take-take n m l b) ∙ ap (take n) e ∙ take-take n m r b

module _ (s : List ℕ) (pl : PlaneList) (d : List ℕ) (k : ℕ) (u : Colour) (out : List ℕ) (n : ℕ) (e : List ℕ) (b : Bands s pl d k u out (Ok n) e) where
  -- pixel x of line y is four octets, y lines and x pixels down, and says what every content of the unread layers gives there
  pub bands_pixels : (y x : ℕ) → y < (scene_of s pl d k).extent.height → x < width_of (scene_of s pl d k)
      → Tells u (scene_of s pl d k) y x (four_at e (y * width_of (scene_of s pl d k) + x))
  bands_pixels y x hy hx =
      let g = done_band s pl d k u out n (sym b.answers) in
      let m = g.size in
      let f = g.room in
      let z = size_lines (scene_of s pl d k) in
      let w = lines_below y (scene_of s pl d k).extent.height (line_size (scene_of s pl d k)) hy in
      let q = (line_exactly s pl d k y (length out) (Ok (line_size (scene_of s pl d k)))).1 (lined g.accepted (record { stripe = g.stripe; line = hy }) g.listed refl (omega arith)) in
      let j : (y * width_of (scene_of s pl d k) + x) * 4 ≡ y * line_size (scene_of s pl d k) + x * 4 = omega arith in
      let c : four_at e (y * width_of (scene_of s pl d k) + x) ≡ four_at (line_into s pl d k y u out) x =
      ap (λ (i : ℕ). take 4 (drop i e)) j
      ∙ ap (take 4) (sym (drop-drop (x * 4) (y * line_size (scene_of s pl d k)) e))
      ∙ four_shared (drop (y * line_size (scene_of s pl d k)) e) (line_into s pl d k y u out) (line_size (scene_of s pl d k)) x
      (((bands_lines s pl d k u out n e).0 b).lines y hy out (omega arith)) (omega arith) in
      subst (Tells u (scene_of s pl d k) y x) (sym c) ((demand_3 s pl d k y u out (line_size (scene_of s pl d k)) q).pixels x hx)

-- ---- the promise determines the answer and the buffer, and no answer depends on the unseen colour

module _ (s : List ℕ) (pl : PlaneList) (d : List ℕ) (k : ℕ) where
  pub bands_once : (u : Colour) (out : List ℕ) (a b : Answer) (e f : List ℕ) → Bands s pl d k u out a e → Bands s pl d k u out b f → (a ≡ b) × (e ≡ f)
  bands_once u out a b e f p q = (p.answers ∙ sym q.answers, p.holds ∙ sym q.holds)

  pub bands_recoloured : (u u' : Colour) (out put : List ℕ) (a b : Answer) (e f : List ℕ) → length out ≡ length put
      → Bands s pl d k u out a e → Bands s pl d k u' put b f → a ≡ b
  bands_recoloured u u' out put a b e f l p q = p.answers ∙ ap (band_of s pl d k) l ∙ sym q.answers

-- ---- a band made with the first sixteen entries is a band made with all

pub bands_first : (s d : List ℕ) (k : ℕ) (ps : List Plane) (part : Bool) (u : Colour) (out : List ℕ) (a : Answer) (e : List ℕ)
    → Bands s (record { entries = take 16 ps; part = part }) d k u out a e → Bands s (record { entries = ps; part = part }) d k u out a e
unfolding band_of band_into
bands_first s d k ps part u out a e h =
    record {
      answers = h.answers ∙ ap (band_answer (length out)) (ruling_first s d k 0 ps part);
      holds = h.holds ∙ ap (band_holds u out) (ruling_first s d k 0 ps part);
    }
