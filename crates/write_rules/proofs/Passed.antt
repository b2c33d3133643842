-- The records one by one: what is known where all of them passed, that they pass where it holds, and where they are refused.
-- Assumes nothing.
use Prim.Native.Nat.{ℕ, suc, ◌+◌, ◌%◌, ◌≤◌, ◌<◌}
use native.Mathlib.Omega.{arith}
use mathlib.Core.Path.{◌≡◌, refl, sym, ap, ap₂, subst, ◌∙◌}
use mathlib.Core.Logic.{◌⊎◌, inl, inr, ◌≢◌, ⊎_elim}
use mathlib.Core.Bool.{Bool, true, false, ◌&&◌, not, cond, false≢true}
use mathlib.Core.List.Memᴰ
use mathlib.Core.List.{List, [], ◌∷◌, ◌++◌}
use lib.ListN.{length, take, drop}
use lib.Seq.{split_at}
use borrow.Author.Tests.{eq-eqb, ne_eqb, eqb-true, eqb-false}
use Rattle.octets.specs.Octets.{Octets}
use Rattle.laws.proofs.Cases.{clash}
use Rattle.laws.proofs.Says.{says_eq, says_else}
use Rattle.answers.specs.declared.Refusal.{Refusal}
use Rattle.field_rules.specs.Field.{Res, ok, no, bind}
use Rattle.segment_rules.specs.declared.Mode.{Mode}
use Rattle.sheet_rules.specs.declared.Record.{Record}
use Rattle.sheet_rules.specs.Record.{blank, nth, sum_of}
use Rattle.sheet_rules.specs.Judge.{coded}
use Rattle.sheet_rules.specs.Sentences.{Among, Coded, Uncoded, CoderOf}
use Rattle.sheet_rules.proofs.New.{says_coded}
use Rattle.jpeg_rules.specs.Said.{record_said}
use Rattle.jpeg_rules.specs.Grammar.{Layer}
use Rattle.write_rules.specs.declared.Tally.{Tally}
use Rattle.write_rules.specs.Layer.{layer_octets}
use Rattle.write_rules.specs.Modes.{head_in}
use Rattle.write_rules.specs.Writing.{is_mask, counted, record_step, records_pass}
use Rattle.write_rules.specs.Form.{UsedMask, UsedImage}
use Rattle.write_rules.specs.Sentences.{Fine}
use Rattle.write_rules.proofs.Agreed.{Meets, says_matches, step_cases, step_next}

-- what the judge has said of each record, and the mode
pub record Plain (rs : List Record) : Type 0 where
  pub odd : (r : Record) → Among r rs → r.layer ≢ 2 → r.layer % 2 ≡ 1
  pub coder : (r : Record) → Among r rs → Coded r → CoderOf r.layer r.coder
  pub start : (r : Record) → Among r rs → Uncoded r → r.start ≡ 0

plain_tail : {r : Record} {rs : List Record} → Plain (r ∷ rs) → Plain rs
plain_tail p =
    record {
      odd = λ q m. p.odd q (Memᴰ.tail m);
      coder = λ q m. p.coder q (Memᴰ.tail m);
      start = λ q m. p.start q (Memᴰ.tail m);
    }

pub coder_nonzero : (layer coder : ℕ) → CoderOf layer coder → coder ≢ 0
coder_nonzero layer coder (inl e) z = omega arith
coder_nonzero layer coder (inr (e, inl f)) z = omega arith
coder_nonzero layer coder (inr (e, inr (inl f))) z = omega arith
coder_nonzero layer coder (inr (e, inr (inr f))) z = omega arith

coder_odd : (layer coder : ℕ) → layer % 2 ≡ 1 → CoderOf layer coder → coder ≡ 1
coder_odd layer coder o (inl e) = e
coder_odd layer coder o (inr (e, f)) = absurd (omega arith)

-- ---- the tally with one more record

-- what a record adds to the page's size
abbrev pub size_in : Mode → Record → ℕ
size_in mode r = head_in mode r + r.len

module _ (mode : Mode) (t : Tally) (r : Record) where
  mask_of : Coded r → r.layer ≡ 2 → (counted mode t r).mask ≡ r.coder
  unfolding counted
  mask_of c e = simp ((says_coded r).shown c, eq-eqb r.layer 2 e)

  image_of : Coded r → r.layer ≢ 2 → (counted mode t r).image ≡ r.coder
  unfolding counted
  image_of c e = simp ((says_coded r).shown c, ne_eqb r.layer 2 e)

  size_of : (counted mode t r).size ≡ t.size + size_in mode r
  unfolding counted
  size_of = omega arith

  -- a coder octet is that of the record, or stays
  mask_cases : (P : ℕ → Type 0) → (Coded r → r.layer ≡ 2 → P r.coder) → P t.mask → P (counted mode t r).mask
  unfolding counted
  mask_cases P new old =
      go (coded r) (is_mask r) refl refl
    where
      go : (a b : Bool) → coded r ≡ a → is_mask r ≡ b → P (cond (a && b) r.coder t.mask)
      go true true e f = new ((says_coded r).told e) (eqb-true r.layer 2 f)
      go true false e f = old
      go false b e f = old

  image_cases : (P : ℕ → Type 0) → (Coded r → r.layer ≢ 2 → P r.coder) → P t.image → P (counted mode t r).image
  unfolding counted
  image_cases P new old =
      go (coded r) (is_mask r) refl refl
    where
      go : (a b : Bool) → coded r ≡ a → is_mask r ≡ b → P (cond (a && not b) r.coder t.image)
      go true false e f = new ((says_coded r).told e) (eqb-false r.layer 2 f)
      go true true e f = old
      go false b e f = old

-- ---- what is known where all passed

pub record Passed (mode : Mode) (d : List ℕ) (main : ℕ) (t u : Tally) (rs : List Record) : Type 0 where
  pub inside : (r : Record) → Among r rs → r.start + r.len ≤ length d
  pub layer : (r : Record) → Among r rs → Coded r → r.layer ≢ 2 → Layer main (layer_octets d r) (record_said r)
  pub mask : (r : Record) → Among r rs → Coded r → r.layer ≡ 2 → u.mask ≡ r.coder
  pub mask_kept : t.mask ≢ 0 → u.mask ≡ t.mask
  pub mask_used : (u.mask ≡ t.mask) ⊎ UsedMask rs
  pub image : (r : Record) → Among r rs → Coded r → r.layer ≢ 2 → u.image ≡ 1
  pub image_kept : t.image ≡ 1 → u.image ≡ 1
  pub image_used : (u.image ≡ t.image) ⊎ UsedImage rs
  pub size : u.size ≡ t.size + sum_of (size_in mode) rs

used_mask : (r : Record) (rs : List Record) → UsedMask rs → UsedMask (r ∷ rs)
used_mask r rs k = record { it = k.it; among = Memᴰ.tail k.among; mask = k.mask; coded = k.coded }

used_image : (r : Record) (rs : List Record) → UsedImage rs → UsedImage (r ∷ rs)
used_image r rs k = record { it = k.it; among = Memᴰ.tail k.among; image = k.image; coded = k.coded }

-- what holds of the first and of each after it holds of each
each : (r : Record) (rs : List Record) (P : Record → Type 0) → P r → ((q : Record) → Among q rs → P q) → (q : Record) → Among q (r ∷ rs) → P q
each r rs P one more q m = ⊎_elim (λ (e : q ≡ r). subst P (sym e) one) (λ m2. more q m2) (Memᴰ.cases_cons m)

passed_more : (mode : Mode) (d : List ℕ) (o : Octets d) (main : ℕ) (t u : Tally) (r : Record) (rs : List Record) → Plain (r ∷ rs) → (h : r.start + r.len ≤ length d)
    → Meets d o r h main t → Passed mode d main (counted mode t r) u rs → Passed mode d main t u (r ∷ rs)
unfolding sum_of
passed_more mode d o main t u r rs p h m k =
    let here : Among r (r ∷ rs) = Memᴰ.head refl in
    record {
      inside = each r rs (λ q. q.start + q.len ≤ length d) h k.inside;
      layer = each r rs (λ q. Coded q → q.layer ≢ 2 → Layer main (layer_octets d q) (record_said q)) (λ c e. (m c).1 e) k.layer;
      mask =
          each r rs (λ q. Coded q → q.layer ≡ 2 → u.mask ≡ q.coder)
          (λ c e.
          let z = mask_of mode t r c e in
          k.mask_kept (λ w. coder_nonzero r.layer r.coder (p.coder r here c) (sym z ∙ w)) ∙ z)
          k.mask;
      mask_kept = λ nz.
          mask_cases mode t r (λ j. (counted mode t r).mask ≡ j → u.mask ≡ t.mask)
          (λ c e z.
          k.mask_kept (λ w. coder_nonzero r.layer r.coder (p.coder r here c) (sym z ∙ w)) ∙ z
          ∙ ⊎_elim (λ (y : t.mask ≡ 0). absurd (nz y)) (λ (y : t.mask ≡ r.coder). sym y) ((m c).0 e))
          (λ z. k.mask_kept (λ w. nz (sym z ∙ w)) ∙ z)
          refl;
      mask_used =
          ⊎_elim
          (λ (e : u.mask ≡ (counted mode t r).mask).
          mask_cases mode t r (λ j. u.mask ≡ j → (u.mask ≡ t.mask) ⊎ UsedMask (r ∷ rs)) (λ c l z. inr (record { it = r; among = here; mask = l; coded = c })) (λ z. inl z) e)
          (λ (w : UsedMask rs). inr (used_mask r rs w))
          k.mask_used;
      image =
          each r rs (λ q. Coded q → q.layer ≢ 2 → u.image ≡ 1)
          (λ c e. k.image_kept (image_of mode t r c e ∙ coder_odd r.layer r.coder (p.odd r here e) (p.coder r here c)))
          k.image;
      image_kept = λ e.
          k.image_kept (image_cases mode t r (λ j. j ≡ 1) (λ c l. coder_odd r.layer r.coder (p.odd r here l) (p.coder r here c)) e);
      image_used =
          ⊎_elim
          (λ (e : u.image ≡ (counted mode t r).image).
          image_cases mode t r (λ j. u.image ≡ j → (u.image ≡ t.image) ⊎ UsedImage (r ∷ rs)) (λ c l z. inr (record { it = r; among = here; image = l; coded = c })) (λ z. inl z) e)
          (λ (w : UsedImage rs). inr (used_image r rs w))
          k.image_used;
      size = let e = k.size in let z = size_of mode t r in omega arith;
    }

pub pass_back : (mode : Mode) (d : List ℕ) → Octets d → (main : ℕ) (t u : Tally) (i n : ℕ) (rs : List Record) → Plain rs → records_pass mode d main t i rs ≡ ok u n → Passed mode d main t u rs
unfolding records_pass bind sum_of
pass_back mode d o main t u i n [] p = λ q.
    let e : t ≡ u = cc in
    record {
      inside = λ r m. absurd (Memᴰ.not-nil m);
      layer = λ r m. absurd (Memᴰ.not-nil m);
      mask = λ r m. absurd (Memᴰ.not-nil m);
      mask_kept = λ nz. sym (ap (λ (x : Tally). x.mask) e);
      mask_used = inl (sym (ap (λ (x : Tally). x.mask) e));
      image = λ r m. absurd (Memᴰ.not-nil m);
      image_kept = λ z. sym (ap (λ (x : Tally). x.image) e) ∙ z;
      image_used = inl (sym (ap (λ (x : Tally). x.image) e));
      size = let z = ap (λ (x : Tally). x.size) e in omega arith;
    }
pass_back mode d o main t u i n (r ∷ rs) p =
    step_cases (λ x. bind x (λ (v : Tally) (j : ℕ). records_pass mode d main v j rs) ≡ ok u n → Passed mode d main t u (r ∷ rs)) mode d main t i r
    (λ h q. clash cc)
    (λ h m q.
    passed_more mode d o main t u r rs p h ((says_matches d o r h main t).told m) (pass_back mode d o main (counted mode t r) u (i + 1) n rs (plain_tail p) q))
    (λ h m q. clash cc)

-- ---- they pass where they are fine

fine_tail : {main : ℕ} {d : List ℕ} {r : Record} {rs : List Record} → Fine main d (r ∷ rs) → Fine main d rs
fine_tail k =
    record { fits = λ q m. k.fits q (Memᴰ.tail m); layers = λ q m. k.layers q (Memᴰ.tail m); coders = λ q w m j. k.coders q w (Memᴰ.tail m) (Memᴰ.tail j) }

pub pass_there : (mode : Mode) (d : List ℕ) → Octets d → (main : ℕ) (t : Tally) (i : ℕ) (rs : List Record) → Plain rs → Fine main d rs
    → ((r : Record) → Among r rs → Coded r → r.layer ≡ 2 → (t.mask ≡ 0) ⊎ (t.mask ≡ r.coder))
    → (u : Tally) × (records_pass mode d main t i rs ≡ ok u (i + length rs))
unfolding records_pass bind
pass_there mode d o main t i [] p k c = let z : i ≡ i + 0 = omega arith in (t, ap (ok t) z)
pass_there mode d o main t i (r ∷ rs) p k c =
    step_cases (λ x. (u : Tally) × (bind x (λ (v : Tally) (j : ℕ). records_pass mode d main v j rs) ≡ ok u (i + length (r ∷ rs)))) mode d main t i r
    (λ h. absurd (not_short_lem h))
    (λ h m.
    let y = pass_there mode d o main (counted mode t r) (i + 1) rs (plain_tail p) (fine_tail k) coders in
    let z : i + 1 + length rs ≡ i + length (r ∷ rs) = omega arith in
    (y.0, y.1 ∙ ap (ok y.0) z))
    (λ h m. absurd (false≢true (sym m ∙ (says_matches d o r h main t).shown (λ y. (c r here y, k.layers r here y)))))
  where
    here : Among r (r ∷ rs)
    here = Memᴰ.head refl

    not_short_lem : length d < r.start + r.len → ⊥
    not_short_lem h =
        ⊎_elim
        (λ (z : Uncoded r). let s = p.start r here z in omega arith)
        (λ (y : Coded r). let n = k.fits r here y in omega arith)
        (says_else (says_eq r.len 0))

    coders : (q : Record) → Among q rs → Coded q → q.layer ≡ 2 → ((counted mode t r).mask ≡ 0) ⊎ ((counted mode t r).mask ≡ q.coder)
    coders q m y e =
        mask_cases mode t r (λ j. (j ≡ 0) ⊎ (j ≡ q.coder)) (λ z f. inr (k.coders r q here (Memᴰ.tail m) z y f e)) (c q (Memᴰ.tail m) y e)

-- and where all passed they are fine
pub passed_fine : (mode : Mode) (d : List ℕ) (main : ℕ) (t u : Tally) (rs : List Record) → Passed mode d main t u rs → Fine main d rs
passed_fine mode d main t u rs p =
    record { fits = λ r m c. p.inside r m; layers = p.layer; coders = λ r q m j c w e f. sym (p.mask r m c e) ∙ p.mask q j w f }

-- ---- where they stop: those before pass, and the record does not

pub record Stops (mode : Mode) (d : List ℕ) (main : ℕ) (t : Tally) (i : ℕ) (rs : List Record) (a : Refusal) : Type 0 where
  pub j : ℕ
  pub within : j < length rs
  pub u : Tally
  pub passed : records_pass mode d main t i (take j rs) ≡ ok u (i + j)
  pub stops : record_step mode d main u (i + j) (nth rs j) ≡ no a

pub pass_stops : (mode : Mode) (d : List ℕ) (main : ℕ) (t : Tally) (i : ℕ) (rs : List Record) (a : Refusal) → records_pass mode d main t i rs ≡ no a → Stops mode d main t i rs a
unfolding records_pass bind
pass_stops mode d main t i [] a q = clash cc
pass_stops mode d main t i (r ∷ rs) a q = by (λ v n. pass_stops mode d main v n rs a) (record_step mode d main t i r) refl q
  where
    by : ((v : Tally) (n : ℕ) → records_pass mode d main v n rs ≡ no a → Stops mode d main v n rs a) → (x : Res Tally) → record_step mode d main t i r ≡ x → bind x (λ (v : Tally) (j : ℕ). records_pass mode d main v j rs) ≡ no a → Stops mode d main t i (r ∷ rs) a
    by more (ok v n) e h =
        let m = step_next mode d main t i r v n e in
        let k = more v n h in
        let w = k.within in
        let z : n + k.j ≡ i + suc k.j = omega arith in
        record {
          j = suc k.j;
          within = omega arith;
          u = k.u;
          passed = ap (λ (x : Res Tally). bind x (λ (v : Tally) (j : ℕ). records_pass mode d main v j (take k.j rs))) e ∙ k.passed ∙ ap (ok k.u) z;
          stops = ap (λ (m : ℕ). record_step mode d main k.u m (nth rs k.j)) (sym z) ∙ k.stops;
        }
    by more (no b) e h =
        let z : i ≡ i + 0 = omega arith in
        let f : b ≡ a = cc in
        record { j = 0; within = omega arith; u = t; passed = ap (ok t) z; stops = ap (λ (m : ℕ). record_step mode d main t m r) (sym z) ∙ e ∙ ap no f }

-- the other way
pub pass_append : (mode : Mode) (d : List ℕ) (main : ℕ) (t u : Tally) (i n : ℕ) (ps qs : List Record) → records_pass mode d main t i ps ≡ ok u n → records_pass mode d main t i (ps ++ qs) ≡ records_pass mode d main u n qs
unfolding records_pass bind
pass_append mode d main t u i n [] qs q = let a : t ≡ u = cc in let b : i ≡ n = cc in ap₂ (λ (x : Tally) (j : ℕ). records_pass mode d main x j qs) a b
pass_append mode d main t u i n (p ∷ ps) qs q = by (λ v m. pass_append mode d main v u m n ps qs) (record_step mode d main t i p) q
  where
    by : ((v : Tally) (m : ℕ) → records_pass mode d main v m ps ≡ ok u n → records_pass mode d main v m (ps ++ qs) ≡ records_pass mode d main u n qs) → (x : Res Tally) → bind x (λ (v : Tally) (j : ℕ). records_pass mode d main v j ps) ≡ ok u n
        → bind x (λ (v : Tally) (j : ℕ). records_pass mode d main v j (ps ++ qs)) ≡ records_pass mode d main u n qs
    by more (ok v m) h = more v m h
    by more (no b) h = clash cc

pub pass_fault : (mode : Mode) (d : List ℕ) (main : ℕ) (t u : Tally) (i n : ℕ) (rs : List Record) (j : ℕ) (a : Refusal) → j < length rs → records_pass mode d main t i (take j rs) ≡ ok u n
    → record_step mode d main u n (nth rs j) ≡ no a → records_pass mode d main t i rs ≡ no a
unfolding records_pass bind
pass_fault mode d main t u i n rs j a h p e =
    ap (records_pass mode d main t i) (split_at rs j blank h)
    ∙ pass_append mode d main t u i n (take j rs) (nth rs j ∷ drop (suc j) rs) p
    ∙ ap (λ (x : Res Tally). bind x (λ (v : Tally) (k : ℕ). records_pass mode d main v k (drop (suc j) rs))) e
