-- The tests of a stripe's fields and the sentences of the grammar say the same.
-- Assumes nothing.
use Prim.Native.Nat.{ℕ, ◌≤◌}
use mathlib.Core.Path.{◌≡◌, refl, sym, ap, ◌∙◌}
use mathlib.Core.Bool.{Bool, true, false, not, cond, false≢true}
use mathlib.Core.List.{[], ◌∷◌}
use lib.Dec.{eqb}
use borrow.Author.Tests.{eqb-true}
use Rattle.laws.proofs.Says.{Says, says_eq, says_le, says_true, says_and, says_or, says_not, says_as, says_one, says_list, says_if}
use Rattle.laws.specs.Tests.{among}
use Rattle.start_rules.specs.declared.Head.{Head}
use Rattle.mode1_rules.specs.Kinds.{has_back, has_mask, has_fore, type_ok, offset_ok}
use Rattle.mode1_rules.specs.Grammar.{TypeOf}
use Rattle.mode1_rules.specs.Reading.{mask_length_ok}
use Rattle.mode1_rules.specs.Faults.{Typed, Masked}

says_type_of : (t : ℕ) → Says (among (1 ∷ 2 ∷ 3 ∷ 4 ∷ 6 ∷ 7 ∷ []) t) (TypeOf t)
says_type_of t =
    says_list t 1 (2 ∷ 3 ∷ 4 ∷ 6 ∷ 7 ∷ [])
    (says_list t 2 (3 ∷ 4 ∷ 6 ∷ 7 ∷ []) (says_list t 3 (4 ∷ 6 ∷ 7 ∷ []) (says_list t 4 (6 ∷ 7 ∷ []) (says_list t 6 (7 ∷ []) (says_one t 7)))))

pub says_type : (hd : Head) (t : ℕ) → Says (type_ok hd t) (Typed hd t)
unfolding type_ok
says_type hd t =
    says_as
    (says_and (says_and (says_type_of t) (says_if (says_true (has_mask t)) (says_not (says_eq hd.mask 0))))
    (says_if (says_or (says_true (has_back t)) (says_true (has_fore t))) (says_not (says_eq hd.image 0))))
    (λ y. record { kind = y.0.0; mask_coder = y.0.1; image_coder = y.1 })
    (λ y. ((y.kind, y.mask_coder), y.image_coder))

pub says_offset : (present : Bool) (x y : ℕ) → Says (offset_ok present x y) (present ≡ true → (x ≤ 65535) × (y ≤ 65535))
says_offset present x y = says_if (says_true present) (says_and (says_le x 65535) (says_le y 65535))

pub says_mask_length : (t n : ℕ) → Says (mask_length_ok t n) (Masked t n)
says_mask_length t n = go (has_mask t) refl
  where
    go : (b : Bool) → has_mask t ≡ b → Says (mask_length_ok t n) (Masked t n)
    go true e =
        record {
          told = λ q. (λ z. (says_not (says_eq n 0)).told (sym (ap (λ (b : Bool). cond b (not (eqb n 0)) (eqb n 0)) e) ∙ q), λ z. absurd (false≢true (sym z ∙ e)));
          shown = λ k. ap (λ (b : Bool). cond b (not (eqb n 0)) (eqb n 0)) e ∙ (says_not (says_eq n 0)).shown (k.0 e);
        }
    go false e =
        record {
          told = λ q. (λ z. absurd (false≢true (sym e ∙ z)), λ z. eqb-true n 0 (sym (ap (λ (b : Bool). cond b (not (eqb n 0)) (eqb n 0)) e) ∙ q));
          shown = λ k. ap (λ (b : Bool). cond b (not (eqb n 0)) (eqb n 0)) e ∙ (says_eq n 0).shown (k.1 e);
        }
