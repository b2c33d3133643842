-- A record whose data is moved to another place: what stays.
-- Assumes nothing.
use Prim.Native.Nat.{ℕ}
use mathlib.Core.Path.{◌≡◌, refl, sym, ap, ap₂, ◌∙◌}
use mathlib.Core.Logic.{◌⊎◌, inl, inr, ◌≢◌, ⊎_elim}
use mathlib.Core.Bool.{Bool, true, false, not, cond, false≢true}
use mathlib.Core.List.{List, [], ◌∷◌, ◌++◌}
use lib.ListN.{length, take, drop}
use lib.Seq.{take_at}
use lib.Dec.{eqb}
use borrow.Author.Tests.{eqb-true, eqb-false}
use Rattle.laws.proofs.Cases.{bool_else}
use Rattle.sheet_rules.specs.declared.Record.{Record}
use Rattle.laws.specs.Tests.{only}
use Rattle.sheet_rules.specs.Judge.{coded}
use Rattle.sheet_rules.specs.Sentences.{Among, Coded, Uncoded, Unbroken}
use Rattle.sheet_rules.proofs.New.{CodedFacts, EmptyFacts, UncodedFacts, says_coded}
use Rattle.write_rules.specs.Layer.{layer_octets}
use Rattle.write_rules.specs.Form.{start_at, bare}

pub cons_same : {A : Type 0} {x y : A} {l m : List A} → x ≡ y → l ≡ m → x ∷ l ≡ y ∷ m
cons_same {A = A} e f = ap₂ (λ (a : A) (b : List A). a ∷ b) e f

-- ---- coded or not

pub uncoded_is : (r : Record) → coded r ≡ false → Uncoded r
uncoded_is r e =
    ⊎_elim (λ (f : eqb r.len 0 ≡ true). eqb-true r.len 0 f) (λ (f : eqb r.len 0 ≡ false). absurd (false≢true (sym e ∙ ap not f))) (bool_else (eqb r.len 0))

abbrev pub Contents : Record → Type 0
Contents r = (Coded r × CodedFacts r) ⊎ (Uncoded r × UncodedFacts r)

-- of each record of a sheet
pub contents_of : (rs : List Record) → Unbroken rs → (r : Record) → Among r rs → Contents r
contents_of rs u r m = go (coded r) refl
  where
    empty : Uncoded r → (b : Bool) → eqb r.layer 2 ≡ b → (r.layer ≡ 2) ⊎ EmptyFacts r
    empty z true e = inl (eqb-true r.layer 2 e)
    empty z false e = let f = u.empty r m z (eqb-false r.layer 2 e) in inr (record { x = f.0; y = f.1; width = f.2; height = f.3 })

    go : (b : Bool) → coded r ≡ b → Contents r
    go true e = let c = (says_coded r).told e in inl (c, record { coder = u.coder r m c; width = (u.size r m c).0; height = (u.size r m c).1; ending = u.ending r m c })
    go false e =
        let z = uncoded_is r e in
        let f = u.uncoded r m z in
        inr (z, record { coder = f.0; start = f.1; empty = empty z (eqb r.layer 2) refl })

pub contents_coded : (r : Record) → Contents r → coded r ≡ true → CodedFacts r
contents_coded r (inl k) e = k.1
contents_coded r (inr k) e = absurd ((says_coded r).told e k.0)

pub contents_uncoded : (r : Record) → Contents r → coded r ≡ false → UncodedFacts r
contents_uncoded r (inl k) e = absurd (k.0 (uncoded_is r e))
contents_uncoded r (inr k) e = k.1

pub contents_empty : (r : Record) → Contents r → r.layer ≢ 2 → coded r ≡ false → EmptyFacts r
contents_empty r k n e = ⊎_elim (λ (z : r.layer ≡ 2). absurd (n z)) (λ (z : EmptyFacts r). z) (contents_uncoded r k e).empty

-- ---- a record whose data starts at p

abbrev pub placed_at : Record → ℕ → Record
placed_at r p = start_at r (only (coded r) p)

pub bare_placed : (r : Record) (p : ℕ) → Contents r → bare (placed_at r p) ≡ bare r
unfolding bare
bare_placed r p k = go (coded r) refl
  where
    go : (b : Bool) → coded r ≡ b → start_at r (cond b 0 (only b p)) ≡ start_at r (cond b 0 r.start)
    go true e = refl
    go false e = ap (start_at r) (sym (contents_uncoded r k e).start)

-- the data of a record that has none, and of one that was moved
pub no_data : (d : List ℕ) (r : Record) → coded r ≡ false → layer_octets d r ≡ []
no_data d r e = ap (λ (n : ℕ). take n (drop r.start d)) (uncoded_is r e)

pub data_placed : (d l more : List ℕ) (r : Record) (p : ℕ) → length (layer_octets d r) ≡ r.len → drop p l ≡ layer_octets d r ++ more → layer_octets l (placed_at r p) ≡ layer_octets d r
data_placed d l more r p n e =
    ⊎_elim
    (λ (c : coded r ≡ true).
    ap (λ (b : Bool). take r.len (drop (only b p) l)) c ∙ ap (take r.len) e ∙ take_at (layer_octets d r) more r.len n)
    (λ (c : coded r ≡ false). no_data l (placed_at r p) c ∙ sym (no_data d r c))
    (bool_else (coded r))
