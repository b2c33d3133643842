-- A block of scan data with fill is passed: in a run of FF what counts is how long it is by then, and three octets tell that a run of more than one is
-- not followed by 00.
-- Assumes nothing.
use Prim.Native.Nat.{ℕ, zero, suc, ◌+◌, ◌-◌, ◌≤◌, ◌<◌}
use native.Mathlib.Omega.{arith}
use mathlib.Core.Path.{◌≡◌, sym, ap, subst, ◌∙◌}
use mathlib.Core.Bool.{Bool, true, ◌||◌, cond}
use mathlib.Core.Logic.{◌⊎◌, inl, inr, ◌≢◌, ⊎_elim}
use mathlib.Core.List.{List}
use lib.ListN.{length, get_or, drop}
use lib.Dec.{eqb}
use borrow.Author.Tests.{eq-eqb, ne_eqb}
use Rattle.octets.proofs.Laws.{drop_octet}
use Rattle.laws.proofs.Says.{Says, says_eq, says_lt, says_le, says_and, says_or, says_not, says_else}
use Rattle.std.specs.Prelude.{Some}
use Rattle.jpeg_rules.specs.Grammar.{DataRun}
use Rattle.jpeg_rules.specs.Walk.{data_run, scan_from, scan_of}
use Rattle.jpeg_rules.proofs.Leaves.{says_run}
use Rattle.jpeg_rules.proofs.Scans.{plain_next}
use Rattle.jpeg_scan.specs.Search.{filled_triple, AllFilled}

says_filled : (a b c : ℕ)
    → Says (filled_triple a b c) ((((a ≡ 0xFF → ⊥) ⊎ (b ≡ 0x00)) ⊎ ((0xD0 ≤ b) × (b ≤ 0xD7))) ⊎ ((b ≡ 0xFF) × (c ≡ 0x00 → ⊥)))
says_filled a b c =
    says_or (says_or (says_or (says_not (says_eq a 0xFF)) (says_eq b 0x00)) (says_and (says_le 0xD0 b) (says_le b 0xD7)))
    (says_and (says_eq b 0xFF) (says_not (says_eq c 0x00)))

-- after FF and before any octet, what three octets say: the second is FF or a code of data, and of FF FF 00 there is none
module _ (a b c : ℕ) (t : filled_triple a b c ≡ true) (ff : a ≡ 0xFF) where
  pub after_ff : b ≢ 0xFF → (b ≡ 0x00) ⊎ ((0xD0 ≤ b) × (b ≤ 0xD7))
  after_ff n =
      ⊎_elim
      (λ (k : ((a ≡ 0xFF → ⊥) ⊎ (b ≡ 0x00)) ⊎ ((0xD0 ≤ b) × (b ≤ 0xD7))).
      ⊎_elim
      (λ (k : (a ≡ 0xFF → ⊥) ⊎ (b ≡ 0x00)). ⊎_elim (λ (k : a ≡ 0xFF → ⊥). absurd (k ff)) (λ (k : b ≡ 0x00). inl k) k)
      (λ (k : (0xD0 ≤ b) × (b ≤ 0xD7)). inr k)
      k)
      (λ (k : (b ≡ 0xFF) × (c ≡ 0x00 → ⊥)). absurd (n k.0))
      ((says_filled a b c).told t)

  pub no_zero : b ≡ 0xFF → c ≢ 0x00
  no_zero e =
      ⊎_elim
      (λ (k : ((a ≡ 0xFF → ⊥) ⊎ (b ≡ 0x00)) ⊎ ((0xD0 ≤ b) × (b ≤ 0xD7))).
      absurd
      (⊎_elim
      (λ (k : (a ≡ 0xFF → ⊥) ⊎ (b ≡ 0x00)). ⊎_elim (λ (k : a ≡ 0xFF → ⊥). k ff) (λ (k : b ≡ 0x00). omega arith) k)
      (λ (k : (0xD0 ≤ b) × (b ≤ 0xD7)). omega arith)
      k))
      (λ (k : (b ≡ 0xFF) × (c ≡ 0x00 → ⊥)). k.1)
      ((says_filled a b c).told t)

module _ (s : List ℕ) (i : ℕ) where
  -- j octets on: the run of FF that stands before that place, as far as it lies in the block
  record Reached (j : ℕ) : Type 0 where
    run : ℕ
    same : scan_of s i ≡ scan_from (drop (i + j) s) run (i + j)
    one : 0 < run → (1 ≤ j) × (get_or s (i + j - 1) 0 ≡ 0xFF)
    two : 1 < run → (2 ≤ j) × (get_or s (i + j - 2) 0 ≡ 0xFF)

  reached_none : Reached 0
  unfolding scan_of
  reached_none =
      let z : i ≡ i + 0 = omega arith in
      record {
        run = 0;
        same = ap (λ (k : ℕ). scan_from (drop k s) 0 k) z;
        one = λ l. absurd (omega arith);
        two = λ l. absurd (omega arith);
      }

  module _ (j : ℕ) (h : i + j < length s) (r : Reached j) where
    -- one octet, as the search sees it
    stepped : scan_of s i
        ≡ cond (eqb (get_or s (i + j) 0) 0xFF) (scan_from (drop (i + j + 1) s) (r.run + 1) (i + j + 1))
        (cond (eqb r.run 0 || data_run r.run (get_or s (i + j) 0)) (scan_from (drop (i + j + 1) s) 0 (i + j + 1)) (Some (i + j - r.run)))
    unfolding scan_from
    stepped = r.same ∙ ap (λ (l : List ℕ). scan_from l r.run (i + j)) (drop_octet s (i + j) h)

    reached_ff : get_or s (i + j) 0 ≡ 0xFF → Reached (j + 1)
    reached_ff e =
        let z : i + j + 1 ≡ i + (j + 1) = omega arith in
        let y : i + (j + 1) - 1 ≡ i + j = omega arith in
        record {
          run = r.run + 1;
          same =
              stepped
              ∙ ap
              (λ (b : Bool).
              cond b (scan_from (drop (i + j + 1) s) (r.run + 1) (i + j + 1))
              (cond (eqb r.run 0 || data_run r.run (get_or s (i + j) 0)) (scan_from (drop (i + j + 1) s) 0 (i + j + 1)) (Some (i + j - r.run))))
              (eq-eqb (get_or s (i + j) 0) 0xFF e)
              ∙ ap (λ (k : ℕ). scan_from (drop k s) (r.run + 1) k) z;
          one = λ l. (omega arith, ap (λ (k : ℕ). get_or s k 0) y ∙ e);
          two = λ l.
              let o = r.one (omega arith) in
              let g = o.0 in
              let x : i + (j + 1) - 2 ≡ i + j - 1 = omega arith in
              (omega arith, ap (λ (k : ℕ). get_or s k 0) x ∙ o.1);
        }

    -- a run that ends here is data
    data_by_lem : AllFilled s i 32 → j ≤ 32 → get_or s (i + j) 0 ≢ 0xFF → 0 < r.run → DataRun (r.run - 1) (get_or s (i + j) 0)
    data_by_lem all few n l =
        let o = r.one l in
        let g = o.0 in
        let a : i + (j - 1) ≡ i + j - 1 = omega arith in
        let b : i + (j - 1) + 1 ≡ i + j = omega arith in
        let first : get_or s (i + (j - 1)) 0 ≡ 0xFF = ap (λ (k : ℕ). get_or s k 0) a ∙ o.1 in
        let second : get_or s (i + (j - 1) + 1) 0 ≡ get_or s (i + j) 0 = ap (λ (k : ℕ). get_or s k 0) b in
        ⊎_elim
        (λ (e : get_or s (i + (j - 1) + 1) 0 ≡ 0x00). inl (sym second ∙ e, single (sym second ∙ e)))
        (λ (e : (0xD0 ≤ get_or s (i + (j - 1) + 1) 0) × (get_or s (i + (j - 1) + 1) 0 ≤ 0xD7)). inr (omega arith, omega arith))
        (after_ff (get_or s (i + (j - 1)) 0) (get_or s (i + (j - 1) + 1) 0) (get_or s (i + (j - 1) + 2) 0) (all (j - 1) (omega arith)) first (λ q. n (sym second ∙ q)))
      where
        single : get_or s (i + j) 0 ≡ 0x00 → r.run - 1 ≡ 0
        single e =
            ⊎_elim
            (λ (m : 1 < r.run).
            let w = r.two m in
            let g = w.0 in
            let v = r.one l in
            let a : i + (j - 2) ≡ i + j - 2 = omega arith in
            let b : i + (j - 2) + 1 ≡ i + j - 1 = omega arith in
            let c : i + (j - 2) + 2 ≡ i + j = omega arith in
            absurd
            (no_zero (get_or s (i + (j - 2)) 0) (get_or s (i + (j - 2) + 1) 0) (get_or s (i + (j - 2) + 2) 0) (all (j - 2) (omega arith)) (ap (λ (k : ℕ). get_or s k 0) a ∙ w.1) (ap (λ (k : ℕ). get_or s k 0) b ∙ v.1)
            (ap (λ (k : ℕ). get_or s k 0) c ∙ e)))
            (λ (m : 1 < r.run → ⊥). omega arith)
            (says_else (says_lt 1 r.run))

    plain_on : AllFilled s i 32 → j ≤ 32 → get_or s (i + j) 0 ≢ 0xFF → scan_of s i ≡ scan_of s (i + j + 1)
    unfolding scan_of
    plain_on all few n =
        stepped
        ∙ ap
        (λ (b : Bool).
        cond b (scan_from (drop (i + j + 1) s) (r.run + 1) (i + j + 1))
        (cond (eqb r.run 0 || data_run r.run (get_or s (i + j) 0)) (scan_from (drop (i + j + 1) s) 0 (i + j + 1)) (Some (i + j - r.run))))
        (ne_eqb (get_or s (i + j) 0) 0xFF n)
        ∙ ap (λ (b : Bool). cond b (scan_from (drop (i + j + 1) s) 0 (i + j + 1)) (Some (i + j - r.run))) passed
      where
        passed : eqb r.run 0 || data_run r.run (get_or s (i + j) 0) ≡ true
        passed =
            ⊎_elim
            (λ (e : r.run ≡ 0). ap (λ (b : Bool). b || data_run r.run (get_or s (i + j) 0)) (eq-eqb r.run 0 e))
            (λ (m : r.run ≢ 0).
            ap (λ (b : Bool). b || data_run r.run (get_or s (i + j) 0)) (ne_eqb r.run 0 m)
            ∙ (says_run r.run (r.run - 1) (get_or s (i + j) 0) (omega arith)).shown (data_by_lem all few n (omega arith)))
            (says_else (says_eq r.run 0))

    reached_on : AllFilled s i 32 → j ≤ 32 → Reached (j + 1)
    unfolding scan_of
    reached_on all few =
        ⊎_elim reached_ff
        (λ (n : get_or s (i + j) 0 ≢ 0xFF).
        let z : i + j + 1 ≡ i + (j + 1) = omega arith in
        record {
          run = 0;
          same = plain_on all few n ∙ ap (λ (k : ℕ). scan_from (drop k s) 0 k) z;
          one = λ l. absurd (omega arith);
          two = λ l. absurd (omega arith);
        })
        (says_else (says_eq (get_or s (i + j) 0) 0xFF))

  reached : (j : ℕ) → AllFilled s i 32 → i + 32 < length s → j ≤ 32 → Reached j
  reached zero all h few = reached_none
  reached (suc j) all h few =
      let z : j + 1 ≡ suc j = omega arith in
      subst Reached z (reached_on j (omega arith) (reached j all h (omega arith)) all (omega arith))

  -- unless a run goes on behind the block
  pub block_passed : AllFilled s i 32 → i + 32 < length s → (get_or s (i + 31) 0 ≡ 0xFF → get_or s (i + 32) 0 ≡ 0xFF → ⊥) → scan_of s i ≡ scan_of s (i + 32)
  unfolding scan_of
  block_passed all h cut =
      let r = reached 32 all h (omega arith) in
      ⊎_elim (λ (e : r.run ≡ 0). r.same ∙ ap (λ (k : ℕ). scan_from (drop (i + 32) s) k (i + 32)) e)
      (λ (m : r.run ≢ 0).
      let o = r.one (omega arith) in
      let z : i + 31 ≡ i + 32 - 1 = omega arith in
      let n : get_or s (i + 32) 0 ≢ 0xFF = cut (ap (λ (k : ℕ). get_or s k 0) z ∙ o.1) in
      plain_on 32 h r all (omega arith) n ∙ sym (plain_next s (i + 32) n))
      (says_else (says_eq r.run 0))
