-- The body of a page is read exactly as its grammar and its refusals say, whatever the mode, where the mode's turn is exact and begins unlike FF D9.
-- Assumes nothing.
use Prim.Native.Nat.{ℕ, zero, suc, ◌+◌, ◌-◌, ◌≤◌, ◌<◌}
use native.Mathlib.Omega.{arith}
use native.Mathlib.Nat.{add-zero}
use mathlib.Core.Path.{◌≡◌, refl, sym, ap, subst, ◌∙◌}
use mathlib.Core.Logic.{◌≢◌}
use mathlib.Core.Bool.{cond}
use mathlib.Core.List.{List, [], ◌++◌, append_assoc, append-nil}
use lib.ListN.{length, length-append}
use lib.Dec.{eqb}
use borrow.Author.Tests.{eqb-true, eqb-false}
use Rattle.answers.specs.declared.Refusal.{Refusal}
use Rattle.answers.specs.declared.Refusal.TheVariants.{BadStripe}
use Rattle.laws.proofs.Cases.{cond_with}
use Rattle.sheet_rules.specs.declared.Record.{Record}
use Rattle.field_rules.specs.Field.{Res, ok, no}
use Rattle.field_rules.specs.Part.{Exact, Both, BadThen, bad_first, bad_later, Apart, Due, due_mark, due_else, BadDue, bad_cut, bad_mark, bad_else}
use Rattle.field_rules.proofs.Parts.{exact_as, exact_then, exact_ok, exact_no, exact_due, apart_more, apart_length, Nothing, nothing}
use Rattle.body_rules.specs.Body.{end_mark, Item, skipped, striped, IsItem, an_optional, a_stripe, Optionals, no_more, one_more, Stripes, last, next, Body, BadBody, cut, no_stripe, bad_item, behind_optional, behind_stripe, on_item, laid, body_from}

module _ (Optional : List ℕ → Type 0) (Stripe : ℕ → ℕ → ℕ → List ℕ → ℕ → List Record → Type 0) where
  -- ---- the body turn by turn

  pub data Turns : ℕ → ℕ → ℕ → List ℕ → List Record → Type 0 where
    done : {k left at : ℕ} → 0 < k → Turns k left at end_mark []
    past_optional : {k left at : ℕ} {rs : List Record} (l more : List ℕ) → k ≡ 0 → Optional l → Turns k left (at + length l) more rs → Turns k left at (l ++ more) rs
    past_stripe : {k left at : ℕ} (l more : List ℕ) (rs sr : List Record) (height : ℕ) → k < 64 → Stripe k left at l height rs
        → Turns (suc k) (left - height) (at + length l) more sr → Turns k left at (l ++ more) (rs ++ sr)

  -- ---- these are the stripes and optional segments of the grammar

  record Only (k left at : ℕ) (l : List ℕ) (rs : List Record) : Type 0 where
    stripes : List ℕ
    octets : l ≡ stripes ++ end_mark
    striped : Stripes Stripe k left at stripes rs

  only : {k left at : ℕ} {l : List ℕ} {rs : List Record} → 0 < k → Turns k left at l rs → Only k left at l rs
  only p (done q) = record { stripes = []; octets = refl; striped = last q }
  only p (past_optional l more z o t) = absurd (omega arith)
  only p (past_stripe l more rs sr height few z t) =
      let y = only (omega arith) t in
      record { stripes = l ++ y.stripes; octets = ap (λ (x : List ℕ). l ++ x) y.octets ∙ sym (append_assoc l y.stripes end_mark); striped = next height few z y.striped }

  record Some (k left at : ℕ) (l : List ℕ) (rs : List Record) : Type 0 where
    optionals : List ℕ
    stripes : List ℕ
    octets : l ≡ optionals ++ (stripes ++ end_mark)
    optional : Optionals Optional optionals
    striped : Stripes Stripe k left (at + length optionals) stripes rs

  some : {k left at : ℕ} {l : List ℕ} {rs : List Record} → Turns k left at l rs → Some k left at l rs
  some {k} {left} {at} (done q) = record { optionals = []; stripes = []; octets = refl; optional = no_more; striped = last q }
  some {k} {left} {at} {rs = rs} (past_optional l more z o t) =
      let y = some t in
      let u = length-append l y.optionals in
      let v : at + length l + length y.optionals ≡ at + length (l ++ y.optionals) = omega arith in
      record {
        optionals = l ++ y.optionals;
        stripes = y.stripes;
        octets = ap (λ (x : List ℕ). l ++ x) y.octets ∙ sym (append_assoc l y.optionals (y.stripes ++ end_mark));
        optional = one_more l y.optionals o y.optional;
        striped = subst (λ (j : ℕ). Stripes Stripe k left j y.stripes rs) v y.striped;
      }
  some {k} {left} {at} (past_stripe l more rs sr height few z t) =
      let y = only (omega arith) t in
      let w : at ≡ at + 0 = omega arith in
      record {
        optionals = [];
        stripes = l ++ y.stripes;
        octets = ap (λ (x : List ℕ). l ++ x) y.octets ∙ sym (append_assoc l y.stripes end_mark);
        optional = no_more;
        striped = subst (λ (j : ℕ). Stripes Stripe k left j (l ++ y.stripes) (rs ++ sr)) w (next height few z y.striped);
      }

  turned : {k left at : ℕ} {l : List ℕ} {rs : List Record} → Stripes Stripe k left at l rs → Turns k left at (l ++ end_mark) rs
  turned (last p) = done p
  turned {k} {left} {at} (next {l = l} {more = more} {rs = rs} {sr = sr} height few z t) =
      subst (λ (x : List ℕ). Turns k left at x (rs ++ sr)) (sym (append_assoc l more end_mark)) (past_stripe l (more ++ end_mark) rs sr height few z (turned t))

  turns : {o : List ℕ} → Optionals Optional o → {k left at : ℕ} {m : List ℕ} {rs : List Record} → k ≡ 0 → Stripes Stripe k left (at + length o) m rs → Turns k left at (o ++ (m ++ end_mark)) rs
  turns no_more {k} {left} {at} {m} {rs} z t = subst (λ (j : ℕ). Turns k left j (m ++ end_mark) rs) (add-zero at) (turned t)
  turns (one_more l more o os) {k} {left} {at} {m} {rs} z t =
      let a = length-append l more in
      let u : at + length (l ++ more) ≡ at + length l + length more = omega arith in
      subst (λ (x : List ℕ). Turns k left at x rs) (sym (append_assoc l more (m ++ end_mark)))
      (past_optional l (more ++ (m ++ end_mark)) z o (turns os z (subst (λ (j : ℕ). Stripes Stripe k left j m rs) u t)))

  pub body_turns : {at : ℕ} {l : List ℕ} {rs : List Record} → Body Optional Stripe at l rs → Turns 0 65535 at l rs
  body_turns {at} {l} {rs} b = subst (λ (x : List ℕ). Turns 0 65535 at x rs) (sym b.octets) (turns b.optional refl b.striped)

  pub turns_body : {at : ℕ} {l : List ℕ} {rs : List Record} → Turns 0 65535 at l rs → Body Optional Stripe at l rs
  turns_body t = let y = some t in record { optionals = y.optionals; stripes = y.stripes; octets = y.octets; optional = y.optional; striped = y.striped }

  -- ---- the reading, with what was read before

  pub data After (k left : ℕ) (acc : List Record) (at : ℕ) : List ℕ → List Record → Type 0 where
    after : {l : List ℕ} (rs : List Record) → Turns k left at l rs → After k left acc at l (acc ++ rs)

  module _ (turn : ℕ → ℕ → List ℕ → ℕ → Res Item) (Bad : ℕ → ℕ → ℕ → List ℕ → Refusal → Type 0)
      (exact : (k left : ℕ) (s : List ℕ) (at : ℕ) → at ≤ length s → left ≤ 65535 → k ≤ 64 → Exact (turn k left s at) (IsItem Optional Stripe k left at) (Bad k left at) s at)
      (opens : (k left at : ℕ) (l : List ℕ) (it : Item) → IsItem Optional Stripe k left at l it → Apart end_mark l) where
    abbrev Worst : ℕ → ℕ → ℕ → List ℕ → Refusal → Type 0
    Worst = BadBody Optional Stripe Bad

    -- what stands behind an item, and how it is refused there
    abbrev Second : ℕ → ℕ → List Record → Item → ℕ → List ℕ → List Record → Type 0
    Second k left acc skipped e l out = After k left acc e l out
    Second k left acc (striped height rs) e l out = After (suc k) (left - height) (acc ++ rs) e l out

    abbrev Worse : ℕ → ℕ → Item → ℕ → List ℕ → Refusal → Type 0
    Worse k left skipped e l x = Worst k left e l x
    Worse k left (striped height rs) e l x = Worst (suc k) (left - height) e l x

    -- behind FF D9
    data Closed (k : ℕ) (acc : List Record) : List ℕ → List Record → Type 0 where
      closed : 0 < k → Closed k acc [] acc

    data Unclosed (k at : ℕ) : List ℕ → Refusal → Type 0 where
      unclosed : {l : List ℕ} → k ≡ 0 → Unclosed k at l (BadStripe at)

    exact_closed : (k : ℕ) (acc : List Record) (s : List ℕ) (at : ℕ) → at + 2 ≤ length s
        → Exact (cond (eqb k 0) (no (BadStripe at)) (ok acc (at + 2))) (Closed k acc) (Unclosed k at) s (at + 2)
    exact_closed k acc s at h =
        cond_with (λ (r : Res (List Record)). Exact r (Closed k acc) (Unclosed k at) s (at + 2)) (eqb k 0)
        (λ e.
        let z = eqb-true k 0 e in
        exact_as (exact_no (BadStripe at) s (at + 2)) (λ l a f. absurd f) (λ l a f. open_closed z l a f)
        (λ l x q. subst (Unclosed k at l) (sym q) (unclosed z)) (λ l x q. un l x q))
        (λ e.
        let z = eqb-false k 0 e in
        exact_as (exact_ok acc s (at + 2) h) (λ l a q. shut z l a q) (λ l a q. shown l a q) (λ l x f. absurd f) (λ l x q. never z l x q))
      where
        open_closed : k ≡ 0 → (l : List ℕ) (a : List Record) → Closed k acc l a → ⊥
        open_closed z l a (closed p) = omega arith

        un : (l : List ℕ) (x : Refusal) → Unclosed k at l x → x ≡ BadStripe at
        un l x (unclosed z) = refl

        shut : k ≢ 0 → (l : List ℕ) (a : List Record) → Nothing acc l a → Closed k acc l a
        shut z l a nothing = closed (omega arith)

        shown : (l : List ℕ) (a : List Record) → Closed k acc l a → Nothing acc l a
        shown l a (closed p) = nothing

        never : k ≢ 0 → (l : List ℕ) (x : Refusal) → Unclosed k at l x → ⊥
        never z l x (unclosed q) = z q

    -- ---- in the words of the grammar

    to_after : (k left : ℕ) (acc : List Record) (at : ℕ) (l : List ℕ) (out : List Record)
        → Due end_mark (Closed k acc) (Both (IsItem Optional Stripe k left at) (Second k left acc) at) l out → After k left acc at l out
    to_after k left acc at l out (due_mark l' (closed p)) = subst (After k left acc at end_mark) (append-nil acc) (after [] (done p))
    to_after k left acc at l out (due_else b) = subst (λ (x : List ℕ). After k left acc at x out) (sym b.octets) (by b.front b.rest out b.value b.first b.second)
      where
        by_stripe : (f r : List ℕ) (height : ℕ) (rs : List Record) → IsItem Optional Stripe k left at f (striped height rs)
            → (out : List Record) → Second k left acc (striped height rs) (at + length f) r out → After k left acc at (f ++ r) out
        by_stripe f r height rs (a_stripe h few z) out (after sr t) =
            subst (After k left acc at (f ++ r)) (sym (append_assoc acc rs sr)) (after (rs ++ sr) (past_stripe f r rs sr height few z t))

        by : (f r : List ℕ) (out : List Record) (it : Item) → IsItem Optional Stripe k left at f it → Second k left acc it (at + length f) r out → After k left acc at (f ++ r) out
        by f r out skipped (an_optional z o) (after rs t) = after rs (past_optional f r z o t)
        by f r out (striped height rs) i w = by_stripe f r height rs i out w

    from_after : (k left : ℕ) (acc : List Record) (at : ℕ) (l : List ℕ) (out : List Record) → After k left acc at l out
        → Due end_mark (Closed k acc) (Both (IsItem Optional Stripe k left at) (Second k left acc) at) l out
    from_after k left acc at l out (after rs t) = by t
      where
        by : {l : List ℕ} {rs : List Record} → Turns k left at l rs → Due end_mark (Closed k acc) (Both (IsItem Optional Stripe k left at) (Second k left acc) at) l (acc ++ rs)
        by (done p) = subst (Due end_mark (Closed k acc) (Both (IsItem Optional Stripe k left at) (Second k left acc) at) end_mark) (sym (append-nil acc)) (due_mark [] (closed p))
        by (past_optional l more z o t) =
            due_else (record { front = l; rest = more; value = skipped; octets = refl; first = an_optional z o; second = after _ t })
        by (past_stripe l more rs sr height few z t) =
            due_else
            (record { front = l; rest = more; value = striped height rs; octets = refl; first = a_stripe height few z; second = subst (After (suc k) (left - height) (acc ++ rs) (at + length l) more) (append_assoc acc rs sr) (after sr t) })

    to_bad : (k left : ℕ) (acc : List Record) (at : ℕ) (l : List ℕ) (x : Refusal)
        → BadDue end_mark at (Unclosed k at) (BadThen (IsItem Optional Stripe k left at) (Bad k left at) (Worse k left) at) l x → Worst k left at l x
    to_bad k left acc at l x (bad_cut c) = cut c
    to_bad k left acc at l x (bad_mark l' (unclosed z)) = subst (λ (j : ℕ). Worst j left at (end_mark ++ l') (BadStripe at)) (sym z) (no_stripe l')
    to_bad k left acc at l x (bad_else a (bad_first b)) = bad_item a b
    to_bad k left acc at l x (bad_else a (bad_later front rest it f w)) = by it f w
      where
        by : (it : Item) → IsItem Optional Stripe k left at front it → Worse k left it (at + length front) rest x → Worst k left at (front ++ rest) x
        by skipped (an_optional z o) w =
            subst (λ (j : ℕ). Worst j left at (front ++ rest) x) (sym z) (behind_optional front rest o (subst (λ (j : ℕ). Worst j left (at + length front) rest x) z w))
        by (striped height rs) (a_stripe h few z) w = behind_stripe front rest height rs few z w

    from_bad : (k left : ℕ) (acc : List Record) (at : ℕ) (l : List ℕ) (x : Refusal) → Worst k left at l x
        → BadDue end_mark at (Unclosed k at) (BadThen (IsItem Optional Stripe k left at) (Bad k left at) (Worse k left) at) l x
    from_bad k left acc at l x (cut c) = bad_cut c
    from_bad k left acc at l x (no_stripe rest) = bad_mark rest (unclosed refl)
    from_bad k left acc at l x (bad_item a b) = bad_else a (bad_first b)
    from_bad k left acc at l x (behind_optional f r o w) = bad_else (apart_more f r (opens 0 left at f skipped (an_optional refl o))) (bad_later f r skipped (an_optional refl o) w)
    from_bad k left acc at l x (behind_stripe f r height rs few z w) =
        bad_else (apart_more f r (opens k left at f (striped height rs) (a_stripe height few z))) (bad_later f r (striped height rs) (a_stripe height few z) w)

    -- ---- the loop

    abbrev Rest : ℕ → List ℕ → Type 0
    Rest fuel s = (k left : ℕ) (acc : List Record) (at : ℕ) → length s < fuel + at → at ≤ length s → left ≤ 65535 → k ≤ 64
        → Exact (body_from turn fuel k left acc s at) (After k left acc at) (Worst k left at) s at

    after_item : (fuel k left : ℕ) (acc : List Record) (s : List ℕ) (at : ℕ) → length s < suc fuel + at → left ≤ 65535 → k ≤ 64 → Rest fuel s
        → (it : Item) (l : List ℕ) → IsItem Optional Stripe k left at l it → at + length l ≤ length s
        → Exact (on_item it (body_from turn fuel k left acc s (at + length l)) (λ (height : ℕ) (rs : List Record). body_from turn fuel (suc k) (left - height) (laid k acc rs) s (at + length l)))
        (Second k left acc it (at + length l)) (Worse k left it (at + length l)) s (at + length l)
    after_item fuel k left acc s at f low few rec skipped l z g =
        let a = apart_length l (opens k left at l skipped z) in rec k left acc (at + length l) (omega arith) g low few
    after_item fuel k left acc s at f low few rec (striped height rs) l (a_stripe h fw z) g =
        let a = apart_length l (opens k left at l (striped height rs) (a_stripe height fw z)) in
        rec (suc k) (left - height) (laid k acc rs) (at + length l) (omega arith) g (omega arith) (omega arith)

    pub body_exact : (fuel k left : ℕ) (acc : List Record) (s : List ℕ) (at : ℕ) → length s < fuel + at → at ≤ length s → left ≤ 65535 → k ≤ 64
        → Exact (body_from turn fuel k left acc s at) (After k left acc at) (Worst k left at) s at
    unfolding body_from
    body_exact zero k left acc s at f h low few = absurd (omega arith)
    body_exact (suc fuel) k left acc s at f h low few =
        exact_as
        (exact_due end_mark _ _ (Closed k acc) (Both (IsItem Optional Stripe k left at) (Second k left acc) at) (Unclosed k at)
        (BadThen (IsItem Optional Stripe k left at) (Bad k left at) (Worse k left) at) s at h
        (λ g. exact_closed k acc s at g)
        (λ g. exact_then (turn k left s at) _ (IsItem Optional Stripe k left at) (Bad k left at) (Second k left acc) (Worse k left) s at h (exact k left s at h low few)
        (after_item fuel k left acc s at f low few (λ k' left' acc' at' f' h' low' few'. body_exact fuel k' left' acc' s at' f' h' low' few')))
        (λ l a b. both_apart l a b))
        (to_after k left acc at) (from_after k left acc at) (to_bad k left acc at) (from_bad k left acc at)
      where
        both_apart : (l : List ℕ) (out : List Record) → Both (IsItem Optional Stripe k left at) (Second k left acc) at l out → Apart end_mark l
        both_apart l out b =
            subst (Apart end_mark) (sym b.octets) (apart_more b.front b.rest (opens k left at b.front b.value b.first))
