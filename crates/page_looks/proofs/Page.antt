-- Reading an item, the body and the zero octets of a page depends on the octets up to where it looked.
--
--   stripe_look_in   a stripe from its body on, by the mode
--   item_look       an optional segment or a stripe
--   zeros_look      zero octets up to the first that is none
--   page_look s     the whole page
--
-- A page that is read is looked at to its end, and Short depends on where the page ends: of these it says nothing.
-- Assumes nothing.
use Prim.Native.Nat.{ℕ, suc, ◌+◌, ◌≤◌, ◌<◌}
use native.Mathlib.Omega.{arith}
use mathlib.Core.Path.{◌≡◌, refl, sym, ap, subst, ◌∙◌}
use mathlib.Core.Logic.{⊎_elim}
use mathlib.Core.Bool.{Bool, true, false, cond}
use mathlib.Core.List.{List, [], ◌∷◌}
use lib.ListN.{length, get_or, drop, length-drop}
use lib.Seq.{get_or-drop}
use lib.Dec.{eqb, lit≤}
use Rattle.octets.specs.Octets.{Octets}
use Rattle.octets.proofs.Agree.{octet_agree}
use Rattle.laws.proofs.Cases.{bool_else, clash}
use Rattle.answers.specs.declared.Refusal.{Refusal}
use Rattle.answers.specs.Answers.{refusal_place}
use Rattle.answers.specs.declared.Refusal.TheVariants.{Trailing}
use Rattle.sheet_rules.specs.declared.Record.{Record}
use Rattle.field_rules.specs.Field.{Res, ok, no, bind, fields}
use Rattle.page_looks.proofs.Hangs.{reach, Whole}
use Rattle.page_looks.proofs.Looked.{onward, beyond, Near, near, nearby, Looked, looked_ok, looked_if, looked_bind}
use Rattle.segment_rules.specs.declared.Version.{Version}
use Rattle.segment_rules.specs.declared.Mode.{Mode}
use Rattle.segment_rules.specs.declared.Mode.TheVariants.{One}
use Rattle.segment_rules.specs.Segment.{segment_of}
use Rattle.page_looks.proofs.Segment.{segment_look, segment_looked, segment_far}
use Rattle.start_rules.specs.declared.Head.{Head}
use Rattle.start_rules.specs.Reading.{start_read}
use Rattle.page_looks.proofs.Start.{start_look}
use Rattle.body_rules.specs.Body.{Item, skipped, body_from}
use Rattle.page_looks.proofs.Body.{body_look}
use Rattle.page_looks.proofs.Mode1 as M1
use Rattle.page_looks.proofs.Mode1Stripe as S1
use Rattle.page_rules.specs.Reading.{due_at, stripe_read_in, item_of, zeros_of, end_table}

-- ---- the definitions

abbrev pub stripe_look_in : Mode → Head → ℕ → List ℕ → ℕ → ℕ
stripe_look_in One = M1.stripe_look

unfoldable pub item_look : Head → ℕ → ℕ → List ℕ → ℕ → ℕ
unfolding segment_look M1.stripe_look
item_look hd k left s at =
    onward (segment_of hd.rules.version (due_at hd.rules.mode k) s at) (segment_look hd.rules.version (due_at hd.rules.mode k) s at)
    (λ (n e : ℕ). cond (eqb n 0x01) (stripe_look_in hd.rules.mode hd left s e) e)

-- up to the first octet that is not zero, and this one too
unfoldable pub zeros_look : List ℕ → ℕ → ℕ
zeros_look [] at = at
zeros_look (x ∷ l) at = cond (eqb x 0) (zeros_look l (suc at)) (at + 1)

unfoldable pub page_look : List ℕ → ℕ
unfolding start_look item_look body_look zeros_look
page_look s =
    onward (start_read s 0) (start_look s 0) (λ (hd : Head) (n : ℕ).
    onward (body_from (item_of hd) (length s) 0 65535 [] s n) (body_look (item_of hd) (item_look hd) (length s) 0 65535 s n) (λ (rs : List Record) (m : ℕ).
    onward (fields end_table [] s m) (reach end_table [] s m) (λ (es : List ℕ) (e : ℕ). zeros_look (drop e s) e)))

-- ---- an optional segment or a stripe

stripe_looked : (m : Mode) (s : List ℕ) → Octets s → (hd : Head) (k left at : ℕ) → at ≤ length s → Whole (stripe_read_in m hd k left s at)
    → Looked (stripe_look_in m hd left s at) (λ (t : List ℕ). stripe_read_in m hd k left t at) s at
stripe_looked One s o hd k left at = S1.stripe_looked s o hd k left at

module _ (s : List ℕ) (o : Octets s) (hd : Head) (k left at : ℕ) (h : at ≤ length s) where
  abbrev version : Version
  version = hd.rules.version

  abbrev mode : Mode
  mode = hd.rules.mode

  abbrev read_behind : ℕ → ℕ → List ℕ → Res Item
  read_behind n e t = cond (eqb n 0x01) (stripe_read_in mode hd k left t e) (ok skipped e)

  behind_looked : (n e : ℕ) → e ≤ length s → Whole (read_behind n e s) → Looked (cond (eqb n 0x01) (stripe_look_in mode hd left s e) e) (read_behind n e) s e
  behind_looked n e i =
      looked_if s (eqb n 0x01) (λ (t : List ℕ). stripe_read_in mode hd k left t e) (λ (t : List ℕ). ok skipped e) (stripe_look_in mode hd left s e) e e
      (stripe_looked mode s o hd k left e i) (λ w. looked_ok s skipped e i)

  pub item_looked : Whole (item_of hd k left s at) → Looked (item_look hd k left s at) (λ (t : List ℕ). item_of hd k left t at) s at
  unfolding item_of item_look
  item_looked =
      looked_bind s (λ (t : List ℕ). segment_of version (due_at mode k) t at) read_behind (segment_look version (due_at mode k) s at) _ at
      (segment_looked version (due_at mode k) s at h) (λ n e he ie ee. behind_looked n e ie)

  -- it looks at least as far as FF D9 would stand
  pub item_far : Whole (item_of hd k left s at) → at + 2 ≤ item_look hd k left s at
  unfolding item_of item_look bind
  item_far = by (segment_of version (due_at mode k) s at) refl
    where
      by : (r : Res ℕ) → segment_of version (due_at mode k) s at ≡ r → Whole (bind r (λ (n e : ℕ). read_behind n e s))
          → at + 2 ≤ onward r (segment_look version (due_at mode k) s at) (λ (n e : ℕ). cond (eqb n 0x01) (stripe_look_in mode hd left s e) e)
      by (ok n e) q w =
          let v : Whole (segment_of version (due_at mode k) s at) = λ p z. clash cc in
          let f = segment_far version (due_at mode k) s at h v in
          let y = segment_looked version (due_at mode k) s at h v in
          let g = y.ends n e q in
          let i = y.hangs.inside in
          let b = (behind_looked n e (omega arith) w).hangs.ahead in
          omega arith
      by (no a) q w = segment_far version (due_at mode k) s at h (λ p z. w p cc)

-- ---- zero octets: the first that is not zero decides

record Zeros (l : List ℕ) (at : ℕ) (a : Refusal) : Type 0 where
  ahead : at < zeros_look l at
  inside : zeros_look l at ≤ at + length l
  near_by : Near a (zeros_look l at)
  same : (m : List ℕ) → zeros_look l at ≤ at + length m → ((i : ℕ) → at + i < zeros_look l at → get_or m i 0 ≡ get_or l i 0) → zeros_of m at ≡ no a

zeros_told : (a : Refusal) (l : List ℕ) (at : ℕ) → zeros_of l at ≡ no a → Zeros l at a
unfolding zeros_of zeros_look refusal_place beyond
zeros_told a [] at e = clash cc
zeros_told a (x ∷ l) at e =
    ⊎_elim
    (λ (z : eqb x 0 ≡ true).
    let f : zeros_of (x ∷ l) at ≡ zeros_of l (suc at) = simp z refl in
    let q : zeros_look (x ∷ l) at ≡ zeros_look l (suc at) = simp z refl in
    let k = zeros_told a l (suc at) (sym f ∙ e) in
    let ka = k.ahead in
    let ki = k.inside in
    record {
      ahead = omega arith;
      inside = omega arith;
      near_by = subst (Near a) (sym q) k.near_by;
      same = λ m h g. longer z m q k h g;
    })
    (λ (z : eqb x 0 ≡ false).
    let f : zeros_of (x ∷ l) at ≡ no (Trailing at) = simp z refl in
    let q : zeros_look (x ∷ l) at ≡ at + 1 = simp z refl in
    let b : Trailing at ≡ a = cc in
    record {
      ahead = omega arith;
      inside = omega arith;
      near_by = subst (λ (c : Refusal). Near c (zeros_look (x ∷ l) at)) b (subst (Near (Trailing at)) (sym q) (near at 1 (Trailing at) refl (lit≤ tt) (lit≤ tt)));
      same = λ m h g. here z m q b h g;
    })
    (bool_else (eqb x 0))
  where
    longer : eqb x 0 ≡ true → (m : List ℕ) → zeros_look (x ∷ l) at ≡ zeros_look l (suc at) → Zeros l (suc at) a → zeros_look (x ∷ l) at ≤ at + length m
        → ((i : ℕ) → at + i < zeros_look (x ∷ l) at → get_or m i 0 ≡ get_or (x ∷ l) i 0) → zeros_of m at ≡ no a
    longer z [] q k h g = let ka = k.ahead in absurd (omega arith)
    longer z (y ∷ m) q k h g =
        let ka = k.ahead in
        let e : y ≡ x = g 0 (omega arith) in
        ap (λ (b : Bool). cond b (zeros_of m (suc at)) (no (Trailing at))) (ap (λ (c : ℕ). eqb c 0) e ∙ z) ∙ k.same m (omega arith) (λ i j. g (suc i) (omega arith))

    here : eqb x 0 ≡ false → (m : List ℕ) → zeros_look (x ∷ l) at ≡ at + 1 → Trailing at ≡ a → zeros_look (x ∷ l) at ≤ at + length m
        → ((i : ℕ) → at + i < zeros_look (x ∷ l) at → get_or m i 0 ≡ get_or (x ∷ l) i 0) → zeros_of m at ≡ no a
    here z [] q b h g = absurd (omega arith)
    here z (y ∷ m) q b h g =
        let e : y ≡ x = g 0 (omega arith) in
        ap (λ (c : Bool). cond c (zeros_of m (suc at)) (no (Trailing at))) (ap (λ (c : ℕ). eqb c 0) e ∙ z) ∙ ap no b

abbrev pub read_zeros : List Record → ℕ → List ℕ → Res (List Record)
read_zeros rs e t = bind (zeros_of (drop e t) e) (λ (z end : ℕ). ok rs end)

module _ (s : List ℕ) where
  pub zeros_looked : (rs : List Record) (e : ℕ) (a : Refusal) → e ≤ length s → read_zeros rs e s ≡ no a → Looked (zeros_look (drop e s) e) (read_zeros rs e) s e
  unfolding bind
  zeros_looked rs e a h q = by (zeros_of (drop e s) e) refl q
    where
      by : (r : Res ℕ) → zeros_of (drop e s) e ≡ r → bind r (λ (z end : ℕ). ok rs end) ≡ no a → Looked (zeros_look (drop e s) e) (read_zeros rs e) s e
      by (ok z end) f g = clash cc
      by (no b) f g =
          let k = zeros_told b (drop e s) e f in
          let ka = k.ahead in
          let ki = k.inside in
          let ds = length-drop e s in
          let z : read_zeros rs e s ≡ no b = ap (λ (r : Res ℕ). bind r (λ (z end : ℕ). ok rs end)) f in
          record {
            hangs =
                record {
                  ahead = omega arith;
                  inside = omega arith;
                  same = λ t c.
                      let r = c.right in
                      let dt = length-drop e t in
                      ap (λ (r : Res ℕ). bind r (λ (z end : ℕ). ok rs end))
                      (k.same (drop e t) (omega arith)
                      (λ i j. get_or-drop e t i 0 ∙ sym (octet_agree (zeros_look (drop e s) e) s t c (e + i) j) ∙ sym (get_or-drop e s i 0)))
                      ∙ sym z;
                };
            ends = λ x n y. clash cc;
            near = λ c y. let w : b ≡ c = cc in nearby s c (zeros_look (drop e s) e) (subst (λ (d : Refusal). Near d (zeros_look (drop e s) e)) w k.near_by);
          }
