-- A sheet's records cut into stripes: nothing is lost, the cut is the only one, and in a sheet each stripe has its number and its layers from 1 on.
-- Assumes nothing.
use Prim.Native.Nat.{ℕ, suc, ◌+◌, ◌-◌, ◌%◌, ◌≤◌, ◌<◌}
use native.Mathlib.Omega.{arith}
use mathlib.Core.Path.{◌≡◌, refl, sym, ap, subst, ◌∙◌}
use mathlib.Core.Logic.{◌⊎◌, ◌≢◌, ⊎_elim}
use mathlib.Core.Bool.{Bool, true, false, cond}
use mathlib.Core.List.Memᴰ
use mathlib.Core.List.{List, [], ◌∷◌, ◌++◌, Memᴰ}
use lib.ListN.{length}
use borrow.Author.Tests.{eq-eqb, ne_eqb}
use Rattle.laws.proofs.Says.{says_eq, says_else}
use Rattle.sheet_rules.specs.declared.Record.{Record}
use Rattle.sheet_rules.specs.Record.{nth}
use Rattle.sheet_rules.specs.Sentences.{Among, Above, Closing, Opening, heights, Unbroken, Sheet}
use Rattle.sheet_rules.proofs.Among.{heights_append, nth_among}
use Rattle.write_rules.specs.Cut.{opens, joining, stripes_of, together, Opened}

-- ---- nothing is lost

joining_joined : (r : Record) (qs : List (List Record)) → together (joining r qs) ≡ r ∷ together qs
unfolding joining together
joining_joined r [] = refl
joining_joined r (q ∷ qs) = go (opens q)
  where
    go : (b : Bool) → together (cond b ((r ∷ []) ∷ q ∷ qs) ((r ∷ q) ∷ qs)) ≡ r ∷ (q ++ together qs)
    go true = refl
    go false = refl

pub cut_joined : (rs : List Record) → together (stripes_of rs) ≡ rs
unfolding stripes_of together
cut_joined [] = refl
cut_joined (r ∷ rs) = joining_joined r (stripes_of rs) ∙ ap (λ (l : List Record). r ∷ l) (cut_joined rs)

-- ---- the cut is the only one

module _ (r x : Record) (q : List Record) (qs : List (List Record)) where
  joins : x.layer ≢ 1 → joining r ((x ∷ q) ∷ qs) ≡ (r ∷ x ∷ q) ∷ qs
  unfolding joining
  joins n = ap (λ (b : Bool). cond b ((r ∷ []) ∷ (x ∷ q) ∷ qs) ((r ∷ x ∷ q) ∷ qs)) (ne_eqb x.layer 1 n)

  parts : x.layer ≡ 1 → joining r ((x ∷ q) ∷ qs) ≡ (r ∷ []) ∷ (x ∷ q) ∷ qs
  unfolding joining
  parts e = ap (λ (b : Bool). cond b ((r ∷ []) ∷ (x ∷ q) ∷ qs) ((r ∷ x ∷ q) ∷ qs)) (eq-eqb x.layer 1 e)

-- the first stripe begins with the first record, whatever its layer; in no stripe a later record is layer 1
record Front (r : Record) (qs : List (List Record)) : Type 0 where
  q : List Record
  more : List (List Record)
  is : qs ≡ (r ∷ q) ∷ more
  once : (x : Record) → Among x q → x.layer ≢ 1
  each : (y : List Record) → Memᴰ y more → Opened y

front : (r : Record) (rs : List Record) → Front r (stripes_of (r ∷ rs))
unfolding stripes_of joining
front r [] = record { q = []; more = []; is = refl; once = λ x m. absurd (Memᴰ.not-nil m); each = λ y m. absurd (Memᴰ.not-nil m) }
front r (x ∷ rs) =
    let f = front x rs in
    ⊎_elim
    (λ (e : x.layer ≡ 1).
    record {
      q = [];
      more = (x ∷ f.q) ∷ f.more;
      is = ap (joining r) f.is ∙ parts r x f.q f.more e;
      once = λ y m. absurd (Memᴰ.not-nil m);
      each = λ y m.
          ⊎_elim (λ (z : y ≡ x ∷ f.q). record { first = x; others = f.q; is = z; opening = e; once = f.once }) (λ m2. f.each y m2) (Memᴰ.cases_cons m);
    })
    (λ (n : x.layer ≢ 1).
    record {
      q = x ∷ f.q;
      more = f.more;
      is = ap (joining r) f.is ∙ joins r x f.q f.more n;
      once = λ y m. ⊎_elim (λ (z : y ≡ x). subst (λ (v : Record). v.layer ≢ 1) (sym z) n) (λ m2. f.once y m2) (Memᴰ.cases_cons m);
      each = f.each;
    })
    (says_else (says_eq x.layer 1))

-- no records, or a stripe begins there
abbrev pub Next : List Record → Type 0
Next rs = (0 < length rs → (nth rs 0).layer ≡ 1)

-- each begins at layer 1, and no other of its records is layer 1
pub cut_opened : (rs : List Record) → Next rs → (q : List Record) → Memᴰ q (stripes_of rs) → Opened q
unfolding stripes_of
cut_opened [] n q m = absurd (Memᴰ.not-nil m)
cut_opened (r ∷ rs) n q m =
    let f = front r rs in
    ⊎_elim (λ (e : q ≡ r ∷ f.q). record { first = r; others = f.q; is = e; opening = n (omega arith); once = f.once }) (λ m2. f.each q m2)
    (Memᴰ.cases_cons (subst (Memᴰ q) f.is m))

-- a stripe goes up to the next layer 1
pub cut_first : (r : Record) (others rest : List Record) → ((x : Record) → Among x others → x.layer ≢ 1) → Next rest
    → stripes_of ((r ∷ others) ++ rest) ≡ (r ∷ others) ∷ stripes_of rest
unfolding stripes_of
cut_first r [] [] f n = refl
cut_first r [] (x ∷ rest) g n =
    let f = front x rest in
    ap (joining r) f.is ∙ parts r x f.q f.more (n (omega arith)) ∙ ap (λ (l : List (List Record)). (r ∷ []) ∷ l) (sym f.is)
cut_first r (x ∷ others) rest f n =
    ap (joining r) (cut_first x others rest (λ y m. f y (Memᴰ.tail m)) n) ∙ joins r x others (stripes_of rest) (f x (Memᴰ.head refl))

together_next : (qs : List (List Record)) → ((q : List Record) → Memᴰ q qs → Opened q) → Next (together qs)
unfolding together
together_next [] o h = absurd (omega arith)
together_next (q ∷ qs) o h = let k = o q (Memᴰ.head refl) in subst (λ (x : List Record). (nth (x ++ together qs) 0).layer ≡ 1) (sym k.is) k.opening

-- so there is no other cut: stripes that begin at layer 1, with no other layer 1, are the stripes of their records
pub cut_once : (qs : List (List Record)) → ((q : List Record) → Memᴰ q qs → Opened q) → stripes_of (together qs) ≡ qs
unfolding together stripes_of
cut_once [] o = refl
cut_once (q ∷ qs) o =
    let k = o q (Memᴰ.head refl) in
    let more : (x : List Record) → Memᴰ x qs → Opened x = λ x m. o x (Memᴰ.tail m) in
    ap (λ (x : List Record). stripes_of (x ++ together qs)) k.is
    ∙ cut_first k.first k.others (together qs) k.once (together_next qs more)
    ∙ ap (λ (x : List Record). x ∷ stripes_of (together qs)) (sym k.is)
    ∙ ap (λ (l : List (List Record)). q ∷ l) (cut_once qs more)

-- ---- a sheet's records: stripe k has the layers 1 to N

-- the records of stripe k above layer l, up to one where it may stop
pub data Upward (k : ℕ) : ℕ → List Record → Type 0 where
  top : {l : ℕ} → (l % 2 ≡ 1) × (3 ≤ l) → Upward k l []
  up : {l : ℕ} {r : Record} {q : List Record} → r.stripe ≡ k → r.layer ≡ l + 1 → Upward k (l + 1) q → Upward k l (r ∷ q)

-- stripes of the numbers from k on
data Numbered : ℕ → List (List Record) → Type 0 where
  none : {k : ℕ} → Numbered k []
  some : {k : ℕ} {q : List Record} {qs : List (List Record)} → Upward k 0 q → Numbered (suc k) qs → Numbered k (q ∷ qs)

record Cuts (r : Record) (k l : ℕ) (rs : List Record) : Type 0 where
  q : List Record
  qs : List (List Record)
  is : stripes_of (r ∷ rs) ≡ (r ∷ q) ∷ qs
  here : Upward k l q
  further : Numbered (suc k) qs

-- the layer above the record before it stands in that one's stripe, and one that opens a stripe stands in its own
module _ {r x : Record} {rs : List Record} (c : Cuts x x.stripe x.layer rs) where
  upward : Above r x → 1 ≤ r.layer → Cuts r r.stripe r.layer (x ∷ rs)
  unfolding stripes_of
  upward a h =
      let e = a.1 in
      record {
        q = x ∷ c.q;
        qs = c.qs;
        is = ap (joining r) c.is ∙ joins r x c.q c.qs (λ z. omega arith);
        here = up a.0 e (subst (λ (j : ℕ). Upward r.stripe j c.q) e (subst (λ (j : ℕ). Upward j x.layer c.q) a.0 c.here));
        further = subst (λ (j : ℕ). Numbered (suc j) c.qs) a.0 c.further;
      }

  opened : Opening r x → Cuts r r.stripe r.layer (x ∷ rs)
  unfolding stripes_of
  opened o =
      let e = o.1 in
      let z : x.stripe ≡ suc r.stripe = let f = o.0 in omega arith in
      record {
        q = [];
        qs = (x ∷ c.q) ∷ c.qs;
        is = ap (joining r) c.is ∙ parts r x c.q c.qs e;
        here = top o.2;
        further =
            some (up z e (subst (λ (j : ℕ). Upward (suc r.stripe) j c.q) e (subst (λ (j : ℕ). Upward j x.layer c.q) z c.here)))
            (subst (λ (j : ℕ). Numbered (suc j) c.qs) z c.further);
      }

-- each record is the layer above the one before it, or opens the next stripe; the last one may close its own
goes : (rs : List Record) (r : Record) → 1 ≤ r.layer → ((i : ℕ) → i + 1 < length (r ∷ rs) → Above (nth (r ∷ rs) i) (nth (r ∷ rs) (i + 1)) ⊎ Opening (nth (r ∷ rs) i) (nth (r ∷ rs) (i + 1)))
    → ((i : ℕ) → i + 1 ≡ length (r ∷ rs) → Closing (nth (r ∷ rs) i)) → Cuts r r.stripe r.layer rs
unfolding stripes_of joining
goes [] r h next end = record { q = []; qs = []; is = refl; here = top (end 0 refl); further = none }
goes (x ∷ rs) r h next end =
    let more : 1 ≤ x.layer → Cuts x x.stripe x.layer rs = λ g.
    goes rs x g
    (λ i l.
    let z : suc i + 1 ≡ suc (i + 1) = omega arith in
    subst (λ (j : ℕ). Above (nth (x ∷ rs) i) (nth (r ∷ x ∷ rs) j) ⊎ Opening (nth (x ∷ rs) i) (nth (r ∷ x ∷ rs) j)) z (next (suc i) (omega arith)))
    (λ i e. end (suc i) (omega arith)) in
    ⊎_elim (λ (a : Above r x). let e = a.1 in upward (more (omega arith)) a h) (λ (o : Opening r x). let e = o.1 in opened (more (omega arith)) o) (next 0 (omega arith))

-- a stripe of a sheet's records: its number, its layers, and so much of the height left for it
pub record Lot (rs : List Record) (k left : ℕ) (q : List Record) : Type 0 where
  pub few : k < 64
  pub layers : Upward k 0 q
  pub among : (r : Record) → Among r q → Among r rs
  pub high : heights q ≤ left

-- the stripes of a sheet's records, from number k on
pub data Lots (rs : List Record) : ℕ → ℕ → List (List Record) → Type 0 where
  ended : {k left : ℕ} → 0 < k → Lots rs k left []
  another : {k left : ℕ} {q : List Record} {qs : List (List Record)} → Lot rs k left q → Lots rs (suc k) (left - heights q) qs → Lots rs k left (q ∷ qs)

module _ (rs : List Record) (u : Unbroken rs) where
  few_of : (k : ℕ) (q : List Record) → Upward k 0 q → ((r : Record) → Among r q → Among r rs) → k < 64
  few_of k [] (top h) f = absurd (omega arith)
  few_of k (r ∷ q) (up e l more) f = let g = (u.few r (f r (Memᴰ.head refl))).0 in omega arith

  lot_of : (k left : ℕ) (q : List Record) (qs : List (List Record)) → Upward k 0 q → ((r : Record) → Among r (q ++ together qs) → Among r rs) → heights (q ++ together qs) ≤ left
      → Lot rs k left q
  lot_of k left q qs w f h =
      let a = heights_append q (together qs) in
      let g : (r : Record) → Among r q → Among r rs = λ r m. f r (Memᴰ.append_left (together qs) m) in
      record { few = few_of k q w g; layers = w; among = g; high = omega arith }

  lots_of : (k left : ℕ) (qs : List (List Record)) → Numbered k qs → 0 < k → ((r : Record) → Among r (together qs) → Among r rs) → heights (together qs) ≤ left → Lots rs k left qs
  unfolding together
  lots_of k left [] none p f h = ended p
  lots_of k left (q ∷ qs) (some w more) p f h =
      let a = heights_append q (together qs) in
      another (lot_of k left q qs w f h) (lots_of (suc k) (left - heights q) qs more (omega arith) (λ r m. f r (Memᴰ.append_right q m)) (omega arith))

pub sheet_cut : (rs : List Record) → Sheet rs → Lots rs 0 65535 (stripes_of rs)
unfolding together
sheet_cut [] s = let n = s.complete.count in absurd (omega arith)
sheet_cut (r ∷ rs) s =
    let u = s.unbroken in
    let f = u.first (omega arith) in
    let l = f.1 in
    let c = goes rs r (omega arith) u.next s.complete.closing in
    let w : Upward 0 0 (r ∷ c.q) = up f.0 l (subst (λ (j : ℕ). Upward 0 j c.q) l (subst (λ (j : ℕ). Upward j r.layer c.q) f.0 c.here)) in
    let n : Numbered 1 c.qs = subst (λ (j : ℕ). Numbered (suc j) c.qs) f.0 c.further in
    let same : (r ∷ c.q) ++ together c.qs ≡ r ∷ rs = ap together (sym c.is) ∙ cut_joined (r ∷ rs) in
    let h : heights ((r ∷ c.q) ++ together c.qs) ≤ 65535 = subst (λ (x : List Record). heights x ≤ 65535) (sym same) u.tall in
    let m : (x : Record) → Among x ((r ∷ c.q) ++ together c.qs) → Among x (r ∷ rs) = λ x. subst (Among x) same in
    let a = heights_append (r ∷ c.q) (together c.qs) in
    subst (Lots (r ∷ rs) 0 65535) (sym c.is)
    (another (lot_of (r ∷ rs) u 0 65535 (r ∷ c.q) c.qs w m h)
    (lots_of (r ∷ rs) u 1 (65535 - heights (r ∷ c.q)) c.qs n (omega arith) (λ x y. m x (Memᴰ.append_right (r ∷ c.q) y)) (omega arith)))

-- the second record of a sheet is layer 2
pub second_of : (rs : List Record) → Sheet rs → Among (nth rs 1) rs × ((nth rs 1).layer ≡ 2)
second_of rs s =
    let n = s.complete.count in
    let f = (s.unbroken.first n).1 in
    let one : length rs ≢ 1 = λ z. let c = (s.complete.closing 0 (sym z)).1 in omega arith in
    let more : 1 < length rs = omega arith in (
      nth_among rs 1 more,
      ⊎_elim (λ (x : Above (nth rs 0) (nth rs 1)). let e = x.1 in omega arith) (λ (x : Opening (nth rs 0) (nth rs 1)). let e = x.2.1 in absurd (omega arith))
          (s.unbroken.next 0 more),
    )

-- ---- how many layers a stripe has: at least 3, and no more than a bound on them

upward_layers : (b k l : ℕ) (q : List Record) → Upward k l q → l ≤ b → ((r : Record) → Among r q → r.layer ≤ b) → (3 ≤ l + length q) × (l + length q ≤ b)
upward_layers b k l [] (top h) m f = (omega arith, omega arith)
upward_layers b k l (r ∷ q) (up e g more) m f =
    let x = f r (Memᴰ.head refl) in
    let i = upward_layers b k (l + 1) q more (omega arith) (λ y w. f y (Memᴰ.tail w)) in
    let i0 = i.0 in
    let i1 = i.1 in
    (omega arith, omega arith)

pub lots_layers : (rs : List Record) (b : ℕ) → ((r : Record) → Among r rs → r.layer ≤ b) → {k left : ℕ} {qs : List (List Record)} → Lots rs k left qs
    → (q : List Record) → Memᴰ q qs → (3 ≤ length q) × (length q ≤ b)
lots_layers rs b f (ended p) q m = absurd (Memᴰ.not-nil m)
lots_layers rs b f {k} (another {q = x} l more) q m =
    ⊎_elim
    (λ (e : q ≡ x).
    let i = upward_layers b k 0 x l.layers (omega arith) (λ r w. f r (l.among r w)) in
    let i0 = i.0 in
    let i1 = i.1 in
    subst (λ (y : List Record). (3 ≤ length y) × (length y ≤ b)) (sym e) (omega arith, omega arith))
    (λ m2. lots_layers rs b f more q m2)
    (Memᴰ.cases_cons m)
