-- A turn of the body in code is a turn of reading's body.
-- Assumes nothing.
use Rattle.std.specs.Prelude.{Result, Ok, Err, IsErr, IsErrAnd}
use Prim.Native.Nat.{ℕ, suc, ◌+◌, ◌*◌, ◌≤◌}
use native.Mathlib.Omega.{arith}
use mathlib.Core.Path.{◌≡◌, refl, sym, ap, ap₂, subst, ◌∙◌}
use mathlib.Core.Bool.{Bool, true, false, ◌&&◌}
use mathlib.Core.List.{List, [], ◌++◌, append-nil}
use lib.ListN.{length}
use lib.Dec.{eqb, leb}
use borrow.Author.Rules.{rules}
use borrow.Author.Tests.{leb-true, leb-false, lt-ltb, le-ltb, eq-eqb, ne_eqb, eqb-false}
use Rattle.laws.proofs.Cases.{cond_with, clash}
use Rattle.octets.specs.Octets.{stands_at}
use Rattle.octets.proofs.Laws.{put_nothing}
use Rattle.octets.specs.Entries.{joined}
use Rattle.answers.specs.declared.Refusal.{Refusal}
use Rattle.answers.specs.declared.Refusal.TheVariants.{Short, BadStripe}
use Rattle.field_rules.specs.Field.{Res, ok, no, bind}
use Rattle.sheet_rules.specs.declared.Record.{Record}
use Rattle.sheet_rules.specs.Record.{record_size}
use Rattle.segment_rules.specs.Segment.{segment_of}
use Rattle.start_rules.specs.declared.Head.{Head}
use Rattle.body_rules.specs.Body.{end_mark, Item, skipped, striped, body_from}
use Rattle.page_rules.specs.Grammar.{body_in}
use Rattle.page_rules.specs.Reading.{due_with, due_at, item_of}
use Rattle.read_segment.specs.declared.Segment.{Segment}
use Rattle.read_segment.specs.declared.Segment.TheVariants.{Stripe, Optional}
use Rattle.read_segment.specs.Segments.{Marked, view_of}
use Rattle.read_segment.proofs.Views.{view_no, view_stripe, view_optional, Ended, segment_ends}
use Rattle.laws.proofs.Asked.{asked_with}
use Rattle.read_body.specs.declared.Place.{Place}
use Rattle.read_body.specs.declared.Body.{Body}
use Rattle.read_body.specs.Steps.{Ready, stripe_in, ended_of, StripeTurned, Standing, body_at, behind_item, Passed, BodyRefused, Turned}
use Rattle.std.specs.declared.ops.ControlFlow.TheVariants.{Continue, Break}
use Rattle.std.specs.declared.ops.ControlFlow.{ControlFlow}

-- ---- body_end
pub end_none : (p : Place) → p.stripe ≡ 0 → Err (BadStripe p.at) ≡ ended_of p
unfolding ended_of
end_none p e = simp (eq-eqb p.stripe 0 e)

pub end_some : (p : Place) → (p.stripe ≡ 0 → ⊥) → Ok (record { records = p.records; next = p.at + 2 }) ≡ ended_of p
unfolding ended_of
end_some p n = simp (ne_eqb p.stripe 0 n)

pub ruleset ending = (rules, end_none, end_some)

-- ---- body_turn
second : (a b : Bool) → a ≡ true → a && b ≡ false → b ≡ false
second true b e f = f
second false b e f = clash cc

module _ (hd : Head) (p : Place) (s out : List ℕ) (i : Standing hd out s p) {f : Bool} (e : f ≡ leb (p.at + 2) (length s)) where
  pub body_short : f ≡ false → BodyRefused hd p s out (Short p.at) out
  unfolding body_from
  body_short y = record { same = λ fuel acc. simp (lt-ltb (length s) (p.at + 2) (leb-false _ _ (sym e ∙ y))); kept = refl }

  pub body_marked : f ≡ true → Marked s p.at
  body_marked y = record { seen = leb-true _ _ (sym e ∙ y); small = i.small }

  module _ (y : f ≡ true) {b : Bool} (t : b ≡ stands_at s p.at end_mark) where
    room : p.at + 2 ≤ length s
    room = leb-true _ _ (sym e ∙ y)

    -- what the end comes to, as a turn
    closed : Result Body Refusal → Type 0
    closed (Ok x) = Turned hd p s out (Ok (Break x)) out
    closed (Err a) = BodyRefused hd p s out a out

    close : b ≡ true → closed (ended_of p)
    unfolding ended_of body_from closed
    close z =
        cond_with closed (eqb p.stripe 0)
        (λ u. record { same = λ fuel acc. simp (le-ltb (length s) (p.at + 2) room, sym t ∙ z, u); kept = refl })
        (λ u. record { same = λ fuel acc. simp (le-ltb (length s) (p.at + 2) room, sym t ∙ z, u); counted = refl; inside = room; kept = refl })

    pub body_over : b ≡ true → (q : Result Body Refusal) (x : Body) → q ≡ ended_of p → q ≡ Ok x → Turned hd p s out (Ok (Break x)) out
    unfolding closed
    body_over z q x e w = subst closed (sym e ∙ w) (close z)

    pub body_none : b ≡ true → (q : Result Body Refusal) (a : Refusal) → q ≡ ended_of p → q ≡ Err a → BodyRefused hd p s out a out
    unfolding closed
    body_none z q a e w = subst closed (sym e ∙ w) (close z)

    module _ (z : b ≡ false) {size : ℕ} (w : size ≡ body_in hd.rules.mode) {g : Result Segment Refusal} (v : g ≡ view_of (segment_of hd.rules.version (due_with size p.stripe) s p.at)) where
      body_item : (fuel : ℕ) (acc : List Record) → body_at (suc fuel) hd p acc s ≡ bind (item_of hd p.stripe p.left s p.at) (behind_item fuel hd p acc s)
      unfolding body_from
      body_item fuel acc = simp (le-ltb (length s) (p.at + 2) room, sym t ∙ z)

      abbrev segment : Res ℕ
      segment = segment_of hd.rules.version (due_at hd.rules.mode p.stripe) s p.at

      view : g ≡ view_of segment
      view = v ∙ ap (λ (n : ℕ). view_of (segment_of hd.rules.version (due_with n p.stripe) s p.at)) w

      ends : (n e : ℕ) → segment ≡ ok n e → Ended (due_at hd.rules.mode p.stripe) s p.at n e
      ends n e q = segment_ends hd.rules.version (due_at hd.rules.mode p.stripe) s p.at i.inside n e q

      by_item : (x : Res Item) (fuel : ℕ) (acc : List Record) → item_of hd p.stripe p.left s p.at ≡ x → body_at (suc fuel) hd p acc s ≡ bind x (behind_item fuel hd p acc s)
      by_item x fuel acc q = body_item fuel acc ∙ ap (λ (y : Res Item). bind y (behind_item fuel hd p acc s)) q

      pub body_wrong : (a : Refusal) → g ≡ Err a → BodyRefused hd p s out a out
      unfolding item_of bind
      body_wrong a q = record { same = λ fuel acc. by_item (no a) fuel acc (simp (view_no segment a (sym view ∙ q))); kept = refl }

      pub body_skip : (next : ℕ) → g ≡ Ok (Optional next) → Passed hd p s out (record { at = next; stripe = p.stripe; left = p.left; records = p.records }) out
      unfolding item_of bind joined
      body_skip next q =
          view_optional (Passed hd p s out (record { at = next; stripe = p.stripe; left = p.left; records = p.records }) out) next segment (sym view ∙ q) λ n m k.
          let d = ends n next k in
          let d1 = d.on in
          record {
            records = [];
            onward =
                record {
                  laid = sym (put_nothing out (p.records * record_size));
                  counted = omega arith;
                  most = i.roomy.most;
                  few = i.few;
                  low = omega arith;
                  on = omega arith;
                  inside = d.inside;
                };
            same = λ fuel acc.
                by_item (ok skipped next) fuel acc (simp (k, m)) ∙ ap (λ (l : List Record). body_from (item_of hd) fuel p.stripe p.left l s next) (sym (append-nil acc));
          }

      module _ (body : ℕ) (q : g ≡ Ok (Stripe body)) where
        pub body_ready : Ready hd out s p body
        body_ready =
            view_stripe (Ready hd out s p body) body segment (sym view ∙ q) λ n m k.
            let d = ends n body k in
            let d1 = d.on in
            let c = i.few in
            let full : eqb p.stripe 64 ≡ false = second (eqb n 0x01) (eqb p.stripe 64) m d.room in
            let u = eqb-false p.stripe 64 full in
            record { on = omega arith; inside = d.inside; small = i.small; few = omega (arith, u); low = i.low; roomy = i.roomy }

        stripe_item : item_of hd p.stripe p.left s p.at ≡ stripe_in hd p s body
        unfolding item_of bind
        stripe_item = view_stripe (item_of hd p.stripe p.left s p.at ≡ stripe_in hd p s body) body segment (sym view ∙ q) λ n m k. simp (k, m)

        pub body_stripe : (r : Place) (out' : List ℕ) → StripeTurned hd p body s out (Ok r) out' → Turned hd p s out (Ok (Continue r)) out'
        unfolding bind
        body_stripe r out' x =
            record {
              records = x.records;
              onward = x.onward;
              same = λ fuel acc.
                  by_item (ok (striped x.height x.records) r.at) fuel acc (stripe_item ∙ x.same)
                  ∙ sym (ap₂ (λ (k l : ℕ). body_from (item_of hd) fuel k l (acc ++ x.records) s r.at) x.next x.lower);
            }

        pub body_faulty : (a : Refusal) (out' : List ℕ) → StripeTurned hd p body s out (Err a) out' → BodyRefused hd p s out a out'
        unfolding bind
        body_faulty a out' x = record { same = λ fuel acc. by_item (no a) fuel acc (stripe_item ∙ x.same); kept = x.kept }

-- a refusal that is handed on
pub body_stop : (hd : Head) (p : Place) (s out out' : List ℕ) (r : Result (ControlFlow Body Place) Refusal) {a : Refusal} → IsErr r × IsErrAnd r (λ (e : Refusal). e ≡ a)
    → BodyRefused hd p s out a out' → Turned hd p s out r out'
body_stop hd p s out out' r e x = asked_with (λ (q : Result (ControlFlow Body Place) Refusal). Turned hd p s out q out') r e x

pub ruleset segments = (rules, body_stop, body_short, body_marked, body_over, body_none, body_wrong, body_skip, body_ready, body_stripe, body_faulty)
