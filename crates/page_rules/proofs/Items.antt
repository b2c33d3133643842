-- An optional segment or a stripe is read exactly where it stands, and refused exactly as the sentences say.
-- Assumes nothing.
use Prim.Native.Nat.{ℕ, ◌+◌, ◌≤◌, ◌<◌}
use native.Mathlib.Omega.{arith}
use mathlib.Core.Path.{◌≡◌, refl, sym, ap, subst, ◌∙◌}
use mathlib.Core.Logic.{inr, ◌≢◌, ⊎_elim}
use mathlib.Core.Bool.{Bool, true, false, ◌&&◌, cond}
use mathlib.Core.List.{List, [], ◌∷◌, ◌++◌, append-nil}
use lib.ListN.{length}
use lib.Dec.{eqb, lit<}
use borrow.Author.Tests.{eqb-true, eqb-false, eq-eqb, ne_eqb}
use Rattle.laws.proofs.Cases.{cond_with, clash}
use Rattle.laws.proofs.Says.{says_eq, says_and, says_or, says_within, says_fails}
use Rattle.answers.specs.declared.Refusal.{Refusal}
use Rattle.sheet_rules.specs.declared.Record.{Record}
use Rattle.field_rules.specs.Field.{Res, ok}
use Rattle.field_rules.specs.Part.{Exact, Both, BadThen, bad_first, bad_later, Apart}
use Rattle.field_rules.proofs.Parts.{exact_as, exact_then, exact_ok, Nothing, nothing, apart_more}
use Rattle.segment_rules.specs.declared.Version.{Version}
use Rattle.segment_rules.specs.declared.Mode.{Mode}
use Rattle.segment_rules.specs.declared.Mode.TheVariants.{One}
use Rattle.segment_rules.specs.Segment.{Need, passed, sized, Named, begin_of, Opening, short, Segment, whole, begun, segment_of, BadSegment}
use Rattle.segment_rules.proofs.Exactly.{segment_exact}
use Rattle.start_rules.specs.declared.Head.{Head}
use Rattle.body_rules.specs.Body.{end_mark, Item, skipped, striped, IsItem, an_optional, a_stripe}
use Rattle.mode1_rules.proofs.Stripe as M1
use Rattle.page_rules.specs.Grammar.{Optional, optional, body_in, StripeIn, Stripe}
use Rattle.page_rules.specs.Reading.{ident_ok, due_at, stripe_read_in, item_of}
use Rattle.page_rules.specs.Faults.{BadStripeIn, BadItem, bad_segment, bad_stripe}

-- ---- a stripe from its body on, whatever the mode

pub data Striping (m : Mode) (hd : Head) (k left at : ℕ) : List ℕ → Item → Type 0 where
  striping : {l : List ℕ} {height : ℕ} {rs : List Record} → StripeIn m hd k left at l height rs → Striping m hd k left at l (striped height rs)

pub stripe_exact : (m : Mode) (hd : Head) (k left : ℕ) (s : List ℕ) (at : ℕ) → at ≤ length s → left ≤ 65535
    → Exact (stripe_read_in m hd k left s at) (Striping m hd k left at) (BadStripeIn m hd left at) s at
stripe_exact One hd k left s at h low = exact_as (M1.stripe_exact hd k left s at h low) (λ l it z. to z) (λ l it z. fro z) (λ l x z. z) (λ l x z. z)
  where
    to : {l : List ℕ} {it : Item} → M1.Striped hd k left at l it → Striping One hd k left at l it
    to (M1.striping z) = striping z

    fro : {l : List ℕ} {it : Item} → Striping One hd k left at l it → M1.Striped hd k left at l it
    fro (striping z) = M1.striping z

-- ---- what the ident says

says_ident : (k n : ℕ) → ident_ok k n ≡ true → n ≢ 0x01 → (k ≡ 0) × ((0x03 ≤ n) × (n ≤ 0xFE))
says_ident k n e d =
    ⊎_elim (λ (z : n ≡ 0x01). absurd (d z)) (λ (z : (k ≡ 0) × ((0x03 ≤ n) × (n ≤ 0xFE))). z) ((says_or (says_eq n 0x01) (says_and (says_eq k 0) (says_within 0x03 0xFE n))).told e)

body_passed : (m : Mode) (k n : ℕ) → (due_at m k).body n ≡ passed → n ≢ 0x01
body_passed m k n e z = let q : sized (body_in m) ≡ passed = sym (ap (λ (b : Bool). cond b (sized (body_in m)) passed) (eq-eqb n 0x01 z)) ∙ e in clash cc

body_sized : (m : Mode) (k n size : ℕ) → (due_at m k).body n ≡ sized size → (n ≡ 0x01) × (body_in m ≡ size)
body_sized m k n size =
    cond_with (λ (w : Need). w ≡ sized size → (n ≡ 0x01) × (body_in m ≡ size)) (eqb n 0x01)
    (λ t e. (eqb-true n 0x01 t, let q : body_in m ≡ size = cc in q)) (λ t e. clash cc)

pass_over : (m : Mode) (k n : ℕ) → n ≢ 0x01 → (due_at m k).body n ≡ passed
pass_over m k n d = ap (λ (b : Bool). cond b (sized (body_in m)) passed) (ne_eqb n 0x01 d)

-- an optional segment may stand before the first stripe
optional_named : (m : Mode) (k n : ℕ) → k ≡ 0 → 3 ≤ n → n ≤ 0xFE → Named (due_at m k) n
optional_named m k n z lo hi =
    record {
      octet = omega arith;
      may = (says_or (says_eq n 0x01) (says_and (says_eq k 0) (says_within 0x03 0xFE n))).shown (inr (z, (lo, hi)));
      room = says_fails (says_and (says_eq n 0x01) (says_eq k 64)) (λ e. omega arith);
    }

stripe_named : (m : Mode) (k : ℕ) → k < 64 → Named (due_at m k) 0x01
stripe_named m k few = record { octet = lit< tt; may = refl; room = says_fails (says_eq k 64) (λ e. omega arith) }

not_64 : (k : ℕ) → k ≤ 64 → ◌≡◌ {A = Bool} (eqb k 64) false → k < 64
not_64 k few e = let d = eqb-false k 64 e in omega arith

-- ---- one turn

module _ (hd : Head) (k left : ℕ) (s : List ℕ) (at : ℕ) (h : at ≤ length s) (low : left ≤ 65535) (few : k ≤ 64) where
  abbrev version : Version
  version = hd.rules.version

  abbrev mode : Mode
  mode = hd.rules.mode

  abbrev First : List ℕ → ℕ → Type 0
  First = Segment version (due_at mode k)

  data Behind (n e : ℕ) : List ℕ → Item → Type 0 where
    of_stripe : {l : List ℕ} {it : Item} → n ≡ 0x01 → Striping mode hd k left e l it → Behind n e l it
    of_optional : n ≢ 0x01 → Behind n e [] skipped

  data BadBehind (n e : ℕ) : List ℕ → Refusal → Type 0 where
    of_bad : {l : List ℕ} {x : Refusal} → n ≡ 0x01 → BadStripeIn mode hd left e l x → BadBehind n e l x

  exact_behind : (n e : ℕ) → e ≤ length s → Exact (cond (eqb n 0x01) (stripe_read_in mode hd k left s e) (ok skipped e)) (Behind n e) (BadBehind n e) s e
  exact_behind n e i =
      cond_with (λ (r : Res Item). Exact r (Behind n e) (BadBehind n e) s e) (eqb n 0x01)
      (λ t.
      let z = eqb-true n 0x01 t in
      exact_as (stripe_exact mode hd k left s e i low) (λ l it y. of_stripe z y) (λ l it y. striped_of z y) (λ l x y. of_bad z y) (λ l x y. bad_of y))
      (λ t.
      let d = eqb-false n 0x01 t in
      exact_as (exact_ok skipped s e i) (λ l it y. to d y) (λ l it y. fro d y) (λ l x y. absurd y) (λ l x y. none d y))
    where
      striped_of : n ≡ 0x01 → {l : List ℕ} {it : Item} → Behind n e l it → Striping mode hd k left e l it
      striped_of z (of_stripe y w) = w
      striped_of z (of_optional d) = absurd (d z)

      bad_of : {l : List ℕ} {x : Refusal} → BadBehind n e l x → BadStripeIn mode hd left e l x
      bad_of (of_bad z b) = b

      to : n ≢ 0x01 → {l : List ℕ} {it : Item} → Nothing skipped l it → Behind n e l it
      to d nothing = of_optional d

      fro : n ≢ 0x01 → {l : List ℕ} {it : Item} → Behind n e l it → Nothing skipped l it
      fro d (of_stripe z w) = absurd (d z)
      fro d (of_optional y) = nothing

      none : n ≢ 0x01 → {l : List ℕ} {x : Refusal} → BadBehind n e l x → ⊥
      none d (of_bad z b) = d z

  -- ---- in the words of the grammar

  opened_by : (n size : ℕ) {begin : List ℕ} → (n ≡ 0x01) × (body_in mode ≡ size) → Opening version n size begin → Opening version 0x01 (body_in mode) begin
  opened_by n size {begin} q o =
      subst (λ (j : ℕ). Opening version j (body_in mode) begin) q.0 (subst (λ (j : ℕ). Opening version n j begin) (sym q.1) o)

  room_left : (n : ℕ) → n ≡ 0x01 → Named (due_at mode k) n → k < 64
  room_left n z g = not_64 k few (sym (ap (λ (j : ℕ). eqb j 0x01 && eqb k 64) z) ∙ g.room)

  abbrev Is : List ℕ → Item → Type 0
  Is = IsItem (Optional version) (Stripe hd) k left at

  to_item : (f r : List ℕ) (n : ℕ) {it : Item} → First f n → Behind n (at + length f) r it → Is (f ++ r) it
  to_item f r _ (whole n begin body g e o) (of_stripe z w) = absurd (body_passed mode k n e z)
  to_item f r _ (whole n begin body g e o) (of_optional d) =
      let z = says_ident k n g.may d in
      an_optional z.0 (subst (Optional version) (sym (append-nil (begin ++ body))) (optional n begin body z.1.0 z.1.1 o))
  to_item f r _ (begun n size g e o) (of_stripe z (striping w)) =
      a_stripe _ (room_left n z g) (record { begin = f; rest = r; octets = refl; opens = opened_by n size (body_sized mode k n size e) o; behind = w })
  to_item f r _ (begun n size g e o) (of_optional d) = absurd (d (body_sized mode k n size e).0)

  from_item : {l : List ℕ} {it : Item} → Is l it → Both First Behind at l it
  from_item (an_optional z (optional n begin body lo hi o)) =
      let d : n ≢ 0x01 = λ q. omega arith in
      record {
        front = begin ++ body;
        rest = [];
        value = n;
        octets = sym (append-nil (begin ++ body));
        first = whole n begin body (optional_named mode k n z lo hi) (pass_over mode k n d) o;
        second = of_optional d;
      }
  from_item (a_stripe height fw y) =
      record {
        front = y.begin;
        rest = y.rest;
        value = 0x01;
        octets = y.octets;
        first = begun 0x01 (body_in mode) (stripe_named mode k fw) refl y.opens;
        second = of_stripe refl (striping y.behind);
      }

  to_bad : (f r : List ℕ) (n : ℕ) {x : Refusal} → First f n → BadBehind n (at + length f) r x → BadItem hd k left at (f ++ r) x
  to_bad f r _ (whole n begin body g e o) (of_bad z b) = absurd (body_passed mode k n e z)
  to_bad f r _ (begun n size g e o) (of_bad z b) = bad_stripe f r (room_left n z g) (opened_by n size (body_sized mode k n size e) o) b

  pub item_exact : Exact (item_of hd k left s at) Is (BadItem hd k left at) s at
  unfolding item_of
  item_exact =
      exact_as
      (exact_then (segment_of version (due_at mode k) s at) _ First (BadSegment version (due_at mode k) at) Behind BadBehind s at h
      (segment_exact version (due_at mode k) s at h) (λ n l z i. exact_behind n (at + length l) i))
      (λ l it b. subst (λ (x : List ℕ). Is x it) (sym b.octets) (to_item b.front b.rest b.value b.first b.second))
      (λ l it b. from_item b)
      (λ l x b. bad b)
      (λ l x b. worse b)
    where
      bad : {l : List ℕ} {x : Refusal} → BadThen First (BadSegment version (due_at mode k) at) BadBehind at l x → BadItem hd k left at l x
      bad (bad_first b) = bad_segment b
      bad (bad_later f r n z b) = to_bad f r n z b

      worse : {l : List ℕ} {x : Refusal} → BadItem hd k left at l x → BadThen First (BadSegment version (due_at mode k) at) BadBehind at l x
      worse (bad_segment b) = bad_first b
      worse (bad_stripe begin rest fw o b) = bad_later begin rest 0x01 (begun 0x01 (body_in mode) (stripe_named mode k fw) refl o) (of_bad refl b)

-- ---- an item begins unlike FF D9

marker_differs : ◌≢◌ {A = List ℕ} (0xFF ∷ 0xED ∷ []) end_mark
marker_differs e = let z : ◌≡◌ {A = ℕ} 0xED 0xD9 = cc in omega arith

opening_apart : {v : Version} {n size : ℕ} {begin : List ℕ} → Opening v n size begin → Apart end_mark begin
unfolding begin_of
opening_apart (short hi) = record { others = 0xFF ∷ 0xED ∷ []; rest = _; split = refl; size = refl; differ = marker_differs }

pub item_opens : (hd : Head) (k left at : ℕ) (l : List ℕ) (it : Item) → IsItem (Optional hd.rules.version) (Stripe hd) k left at l it → Apart end_mark l
item_opens hd k left at l it (an_optional z (optional n begin body lo hi o)) = apart_more begin body (opening_apart o)
item_opens hd k left at l it (a_stripe height fw y) = subst (Apart end_mark) (sym y.octets) (apart_more y.begin y.rest (opening_apart y.opens))
