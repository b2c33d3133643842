-- The loop over the body: reading from here is the whole reading, and what was read is laid in front.
-- Assumes nothing.
use Rattle.std.specs.Prelude.{Result, Ok, Err, IsErr, IsErrAnd}
use Prim.Native.Nat.{ℕ, zero, suc, ◌+◌, ◌-◌, ◌*◌, ◌≤◌, ◌<◌}
use native.Mathlib.Omega.{arith}
use mathlib.Core.Path.{◌≡◌, refl, sym, ap, subst, ◌∙◌}
use mathlib.Core.List.{List, [], ◌++◌}
use lib.ListN.{length, length-append}
use borrow.Author.Rules.{rules}
use Rattle.octets.specs.Octets.{put_at}
use Rattle.octets.proofs.Laws.{put_put, put_nothing, put_length}
use Rattle.octets.specs.Entries.{joined}
use Rattle.octets.proofs.Entries.{joined_length, joined_append}
use Rattle.sheet_rules.proofs.Cut.{record_entry}
use Rattle.sheet_rules.specs.declared.Record.{Record}
use Rattle.sheet_rules.specs.Record.{record_size, sheet_of, encode}
use Rattle.segment_rules.specs.declared.Mode.{Mode}
use Rattle.segment_rules.specs.declared.Mode.TheVariants.{One}
use Rattle.segment_rules.specs.Rules.{most_layers}
use Rattle.start_rules.specs.declared.Head.{Head}
use Rattle.field_rules.specs.Field.{no}
use Rattle.laws.proofs.Asked.{asked_with}
use Rattle.read_body.specs.declared.Place.{Place}
use Rattle.read_body.specs.declared.Body.{Body}
use Rattle.read_body.specs.Steps.{Standing, body_at, Passed, BodyRefused, Turned, Opened, whole_body, Bodied}
use Rattle.answers.specs.declared.Refusal.{Refusal}
use Rattle.std.specs.declared.ops.ControlFlow.TheVariants.{Continue, Break}
use Rattle.std.specs.declared.ops.ControlFlow.{ControlFlow}

-- so many records fit, where so many stripes do
fits_by : (mode : Mode) (stripe records size : ℕ) → stripe ≤ 64 → records ≤ stripe * most_layers mode → 64 * most_layers mode * record_size ≤ size → records * record_size ≤ size
fits_by One stripe records size f m r = omega arith

none_by : (mode : Mode) → 0 ≤ 0 * most_layers mode
none_by One = omega arith

-- ---- the invariant

pub record Going (hd : Head) (s : List ℕ) (from : ℕ) (out₀ : List ℕ) (p : Place) (out : List ℕ) : Type 0 where
  pub fuel : ℕ
  pub records : List Record
  pub enough : length s < fuel + p.at
  pub same : whole_body hd s from ≡ body_at fuel hd p records s
  pub laid : out ≡ put_at out₀ 0 (sheet_of records)
  pub counted : p.records ≡ length records
  pub long : length out ≡ length out₀
  pub standing : Standing hd out s p

module _ (hd : Head) (s : List ℕ) (from : ℕ) (out₀ : List ℕ) (o : Opened hd out₀ s from) where
  pub loop_begun : Going hd s from out₀ (record { at = from; stripe = 0; left = 65535; records = 0 }) out₀
  unfolding joined
  loop_begun =
      let l = o.begun in
      record {
        fuel = length s;
        records = [];
        enough = omega arith;
        same = refl;
        laid = sym (put_nothing out₀ 0);
        counted = refl;
        long = refl;
        standing =
            record {
              inside = o.inside;
              small = o.small;
              few = omega arith;
              low = omega arith;
              roomy = record { most = none_by hd.rules.mode; room = o.room };
            };
      }

  module _ (p : Place) (out : List ℕ) (g : Going hd s from out₀ p out) where
    pub loop_standing : Standing hd out s p
    loop_standing = g.standing

    laid_on : (rs : List Record) → put_at out (p.records * record_size) (sheet_of rs) ≡ put_at out₀ 0 (sheet_of (g.records ++ rs))
    laid_on rs =
        let l = joined_length record_entry g.records in
        let c = g.counted in
        let b : p.records * record_size ≡ 0 + length (sheet_of g.records) = omega arith in
        ap (λ (l : List ℕ). put_at l (p.records * record_size) (sheet_of rs)) g.laid
        ∙ ap (λ (j : ℕ). put_at (put_at out₀ 0 (sheet_of g.records)) j (sheet_of rs)) b
        ∙ put_put out₀ 0 (sheet_of g.records) (sheet_of rs) (omega arith)
        ∙ ap (put_at out₀ 0) (sym (joined_append encode g.records rs))

    module _ (r : Result (ControlFlow Body Place) Refusal) (out' : List ℕ) (t : Turned hd p s out r out') where
      kept_long : (q : Place) → Passed hd p s out q out' → length out' ≡ length out
      kept_long q x =
          let w = x.onward in
          let c = w.counted in
          let l = joined_length record_entry x.records in
          let f = fits_by hd.rules.mode q.stripe q.records (length out) w.few w.most g.standing.roomy.room in
          ap length w.laid ∙ put_length out (p.records * record_size) (sheet_of x.records) (omega arith)

      stepped : (fuel : ℕ) → length s < fuel + p.at → whole_body hd s from ≡ body_at fuel hd p g.records s
          → (q : Place) → Passed hd p s out q out' → Going hd s from out₀ q out'
      stepped zero e z q x = let i = g.standing.inside in absurd (omega arith)
      stepped (suc fuel) e z q x =
          let w = x.onward in
          let l1 = w.on in
          let l2 = w.low in
          let l3 = w.counted in
          let l4 = g.counted in
          let l5 = length-append g.records x.records in
          let l6 = g.standing.low in
          let l7 = kept_long q x in
          record {
            fuel = fuel;
            records = g.records ++ x.records;
            enough = omega arith;
            same = z ∙ x.same fuel g.records;
            laid = w.laid ∙ laid_on x.records;
            counted = omega arith;
            long = l7 ∙ g.long;
            standing =
                record {
                  inside = w.inside;
                  small = g.standing.small;
                  few = w.few;
                  low = omega arith;
                  roomy = record { most = w.most; room = subst (λ (n : ℕ). 64 * most_layers hd.rules.mode * record_size ≤ n) (sym l7) g.standing.roomy.room };
                };
          }

      pub loop_on : (q : Place) → r ≡ Ok (Continue q) → Going hd s from out₀ q out'
      loop_on q e = stepped g.fuel g.enough g.same q (rw e at t)

      pub loop_less : (q : Place) → r ≡ Ok (Continue q) → length s - q.at < length s - p.at
      loop_less q e = let x = rw e at t in let l = x.onward.on in let m = x.onward.inside in omega arith

      over : (fuel : ℕ) → length s < fuel + p.at → whole_body hd s from ≡ body_at fuel hd p g.records s
          → (b : Body) → Turned hd p s out (Ok (Break b)) out' → Bodied hd s from out₀ (Ok b) out'
      over zero e z b x = let i = g.standing.inside in absurd (omega arith)
      over (suc fuel) e z b x =
          let f = fits_by hd.rules.mode p.stripe p.records (length out) g.standing.few g.standing.roomy.most g.standing.roomy.room in
          let c = x.counted in
          let l = g.long in
          record {
            records = g.records;
            same = z ∙ x.same fuel g.records;
            laid = x.kept ∙ g.laid;
            counted = x.counted ∙ g.counted;
            fits = omega arith;
            inside = x.inside;
          }

      wrong : (fuel : ℕ) → length s < fuel + p.at → whole_body hd s from ≡ body_at fuel hd p g.records s
          → (a : Refusal) → BodyRefused hd p s out a out' → whole_body hd s from ≡ no a
      wrong zero e z a x = let i = g.standing.inside in absurd (omega arith)
      wrong (suc fuel) e z a x = z ∙ x.same fuel g.records

      pub loop_over : (b : Body) → r ≡ Ok (Break b) → Bodied hd s from out₀ (Ok b) out'
      loop_over b e = over g.fuel g.enough g.same b (rw e at t)

      pub loop_wrong : (a : Refusal) → r ≡ Err a → Bodied hd s from out₀ (Err a) out'
      loop_wrong a e = wrong g.fuel g.enough g.same a (rw e at t)

      pub loop_length : (b : Body) → r ≡ Ok (Break b) → length out' ≡ length out₀
      loop_length b e = let x = rw e at t in ap length x.kept ∙ g.long

      pub loop_short : (a : Refusal) → r ≡ Err a → length out' ≡ length out₀
      loop_short a e = let x = rw e at t in ap length x.kept ∙ g.long

-- a refusal that is handed on
pub loop_stop : (hd : Head) (s : List ℕ) (from : ℕ) (out out' : List ℕ) (r : Result Body Refusal) {a : Refusal} → IsErr r × IsErrAnd r (λ (e : Refusal). e ≡ a)
    → Bodied hd s from out (Err a) out' → Bodied hd s from out r out'
loop_stop hd s from out out' r e x = asked_with (λ (q : Result Body Refusal). Bodied hd s from out q out') r e x

pub ruleset looping = (rules, loop_stop, loop_begun, loop_length, loop_short, loop_standing, loop_on, loop_less, loop_over, loop_wrong)
