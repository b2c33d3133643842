-- A page that is refused is refused with a number that reading can give, at a place within the page.
-- Assumes nothing.
use Prim.Native.Nat.{ℕ, suc, ◌+◌, ◌≤◌}
use native.Mathlib.Omega.{arith}
use mathlib.Core.Path.{◌≡◌}
use mathlib.Core.List.{List, [], ◌∷◌}
use lib.ListN.{length, drop, length-drop}
use lib.Dec.{eqb, lit≤}
use Rattle.octets.specs.Octets.{Octets}
use Rattle.laws.proofs.Cases.{cond_with, clash}
use Rattle.answers.specs.declared.Refusal.{Refusal}
use Rattle.answers.specs.Answers.{refusal_number, refusal_place}
use Rattle.answers.specs.declared.Refusal.TheVariants.{Trailing}
use Rattle.field_rules.specs.Field.{no, fields}
use Rattle.field_rules.proofs.Refused.{Names, fields_end}
use Rattle.field_rules.proofs.Named.{PageRefusal, bind_refused, told, table_refused}
use Rattle.segment_rules.specs.declared.Mode.{Mode}
use Rattle.segment_rules.specs.declared.Mode.TheVariants.{One}
use Rattle.segment_rules.specs.Segment.{segment_of}
use Rattle.segment_rules.proofs.Exactly.{segment_exact}
use Rattle.segment_rules.proofs.Named.{segment_refused}
use Rattle.start_rules.specs.declared.Head.{Head}
use Rattle.start_rules.specs.Reading.{start_read}
use Rattle.start_rules.proofs.Exactly.{start_exact}
use Rattle.start_rules.proofs.Named.{start_refused}
use Rattle.body_rules.specs.Body.{body_from}
use Rattle.body_rules.proofs.Named.{body_refused}
use Rattle.mode1_rules.proofs.Named as M1
use Rattle.page_rules.specs.Grammar.{Optional, Stripe}
use Rattle.page_rules.specs.Reading.{due_at, stripe_read_in, item_of, zeros_of, end_table, page_of}
use Rattle.page_rules.specs.Faults.{BadItem}
use Rattle.page_rules.proofs.Items.{item_exact}
use Rattle.page_rules.proofs.Exactly.{body_inside}

module _ (s : List ℕ) (a : Refusal) where
  end_named : Names (λ b. PageRefusal (length s) b) (length s) end_table
  unfolding Names end_table refusal_number refusal_place
  end_named = (
    λ p h. record { least = lit≤ tt; most = lit≤ tt; place = h },
    tt,
  )

  zeros_refused : (l : List ℕ) (at : ℕ) → at + length l ≤ length s → zeros_of l at ≡ no a → PageRefusal (length s) a
  unfolding zeros_of refusal_number refusal_place
  zeros_refused [] at h = λ e. clash cc
  zeros_refused (x ∷ l) at h =
      cond_with (λ y. y ≡ no a → PageRefusal (length s) a) (eqb x 0) (λ t e. zeros_refused l (suc at) (omega arith) e)
      (λ t e. told s a (Trailing at) (record { least = lit≤ tt; most = lit≤ tt; place = let u : at ≤ length s = omega arith in u }) e)

  module _ (o : Octets s) where
    stripe_refused : (m : Mode) (hd : Head) (k left at : ℕ) → at ≤ length s → stripe_read_in m hd k left s at ≡ no a → PageRefusal (length s) a
    stripe_refused One hd k left at h q = M1.stripe_refused s a o hd k left at h q

    item_refused : (hd : Head) (k left at : ℕ) → at ≤ length s → item_of hd k left s at ≡ no a → PageRefusal (length s) a
    unfolding item_of
    item_refused hd k left at h q =
        let v = hd.rules.version in
        let due = due_at hd.rules.mode k in
        bind_refused (PageRefusal (length s) a) (segment_of v due s at) _ a q (λ e. segment_refused v due s a at h e) λ n p q1.
        let i = ((segment_exact v due s at h).back o n p q1).inside in
        cond_with (λ x. x ≡ no a → PageRefusal (length s) a) (eqb n 0x01) (λ t e. stripe_refused hd.rules.mode hd k left p i e) (λ t e. clash cc)

    pub page_refused : page_of s ≡ no a → PageRefusal (length s) a
    unfolding page_of
    page_refused q =
        bind_refused (PageRefusal (length s) a) (start_read s 0) _ a q (λ e. start_refused s a e) λ hd p q1 q2.
        let st = (start_exact s).back o hd p q1 in
        bind_refused (PageRefusal (length s) a) (body_from (item_of hd) (length s) 0 65535 [] s p) _ a q2
        (λ e.
        body_refused (Optional hd.rules.version) (Stripe hd) (item_of hd) (BadItem hd) (λ k left t at h low few. item_exact hd k left t at h low few) s o a (item_refused hd)
        (length s) 0 65535 [] p st.inside (omega arith) (omega arith) e)
        λ rs m q3 q4.
        let b = body_inside hd s o p rs m st.is st.ends st.inside q3 in
        bind_refused (PageRefusal (length s) a) (fields end_table [] s m) _ a q4 (λ e. table_refused s a end_table end_named m b e) λ es e q5 q6.
        let ge = fields_end end_table [] es s m e b q5 in
        let g1 = ge.1 in
        let dl = length-drop e s in
        bind_refused (PageRefusal (length s) a) (zeros_of (drop e s) e) _ a q6 (λ z. zeros_refused (drop e s) e (omega arith) z) (λ z end q7 q8. clash cc)
