-- What `bare` leaves of a record: every field but the start, and the start too of a record that is not coded.
-- Assumes nothing.
use Prim.Native.Nat.{ℕ}
use mathlib.Core.Path.{◌≡◌, sym, ap, ◌∙◌}
use mathlib.Core.Logic.{◌↔◌, ⊎_elim}
use mathlib.Core.Bool.{Bool, true, false, not, cond}
use lib.Dec.{eqb}
use borrow.Author.Tests.{eq-eqb}
use Rattle.laws.proofs.Cases.{bool_else}
use Rattle.sheet_rules.specs.declared.Record.{Record}
use Rattle.sheet_rules.specs.Judge.{coded}
use Rattle.sheet_rules.specs.Sentences.{Uncoded}
use Rattle.write_rules.specs.Form.{start_at, bare, ButForStart}
use Rattle.write_rules.proofs.Placed.{uncoded_is}
use Rattle.write_rules.proofs.Mode1Records.{record_by}

coded_same : (r q : Record) → r.len ≡ q.len → coded r ≡ coded q
coded_same r q l = ap (λ (n : ℕ). not (eqb n 0)) l

start_stays : (r : Record) → Uncoded r → cond (coded r) 0 r.start ≡ r.start
start_stays r u = ap (λ (b : Bool). cond (not b) 0 r.start) (eq-eqb r.len 0 u)

start_gone : (r : Record) → coded r ≡ true → cond (coded r) 0 r.start ≡ 0
start_gone r c = ap (λ (b : Bool). cond b 0 r.start) c

-- with the same start they are the same
pub start_same : (r q : Record) → ButForStart r q → (n m : ℕ) → n ≡ m → start_at r n ≡ start_at q m
start_same r q k n m e =
    record_by (start_at r n) (start_at q m) k.stripe k.layer k.coder k.x k.y k.width k.height k.res
    k.base0 k.base1 k.base2 k.octet17 e k.len k.octets26

pub bare_exactly : (r q : Record) → bare r ≡ bare q ↔ ButForStart r q
unfolding bare
bare_exactly r q = (told, shown)
  where
    told : bare r ≡ bare q → ButForStart r q
    told e =
        let l : r.len ≡ q.len = ap (λ (z : Record). z.len) e in
        record {
          stripe = ap (λ (z : Record). z.stripe) e;
          layer = ap (λ (z : Record). z.layer) e;
          coder = ap (λ (z : Record). z.coder) e;
          x = ap (λ (z : Record). z.x) e;
          y = ap (λ (z : Record). z.y) e;
          width = ap (λ (z : Record). z.width) e;
          height = ap (λ (z : Record). z.height) e;
          res = ap (λ (z : Record). z.res) e;
          base0 = ap (λ (z : Record). z.base0) e;
          base1 = ap (λ (z : Record). z.base1) e;
          base2 = ap (λ (z : Record). z.base2) e;
          octet17 = ap (λ (z : Record). z.octet17) e;
          start = λ u.
              let a : (bare r).start ≡ r.start = start_stays r u in
              let b : (bare q).start ≡ q.start = start_stays q (sym l ∙ u) in
              sym a ∙ ap (λ (z : Record). z.start) e ∙ b;
          len = l;
          octets26 = ap (λ (z : Record). z.octets26) e;
        }

    start_by_lem : ButForStart r q → (bare r).start ≡ (bare q).start
    start_by_lem k =
        ⊎_elim (λ (c : coded r ≡ true). start_gone r c ∙ sym (start_gone q (sym (coded_same r q k.len) ∙ c)))
        (λ (c : coded r ≡ false). let u = uncoded_is r c in start_stays r u ∙ k.start u ∙ sym (start_stays q (sym k.len ∙ u)))
        (bool_else (coded r))

    shown : ButForStart r q → bare r ≡ bare q
    shown k = start_same r q k (bare r).start (bare q).start (start_by_lem k)
