-- The loops over a stripe's records and over the stripes: what is put so far is that of the stripes so far.
-- Assumes nothing.
use Prim.Native.Nat.{ℕ, ◌+◌, ◌-◌, ◌*◌, ◌/◌, ◌≤◌, ◌<◌}
use native.Mathlib.Omega.{arith}
use mathlib.Core.Path.{◌≡◌, refl, sym, ap, subst, ◌∙◌}
use mathlib.Core.Logic.{◌≢◌}
use mathlib.Core.List.{List, [], ◌∷◌, ◌++◌, append_assoc, append-nil, Memᴰ}
use lib.ListN.{length, length-append, get_or}
use borrow.Author.Rules.{rules}
use Rattle.octets.specs.Octets.{put_at}
use Rattle.octets.proofs.Laws.{put_put, put_nothing, put_length}
use Rattle.octets.specs.Entries.{entries_from, joined}
use Rattle.octets.proofs.Entries.{length_entries, entries_split, entries_next, entries_none, joined_append}
use Rattle.segment_rules.specs.declared.Mode.{Mode}
use Rattle.sheet_rules.specs.declared.Record.{Record}
use Rattle.sheet_rules.specs.Record.{record_size, record_at, records_from, records, nth}
use Rattle.sheet_rules.specs.Sentences.{Among}
use Rattle.sheet_rules.proofs.Among.{all_more}
use Rattle.write_rules.specs.Cut.{stripes_of}
use Rattle.write_rules.specs.Modes.{stripe_by}
use Rattle.write_rules.specs.Sentences.{start_size}
use Rattle.write_rules.specs.Writing.{stripes_by}
use Rattle.write_rules.proofs.Cut.{Next, cut_first}
use Rattle.write_stripe.specs.Parts.{Placed}
use Rattle.write_page.specs.Steps.{Inside, StripeEnd, Lined}

-- ---- stripe_end: none of the records passed is layer 1
pub record Ending (s : List ℕ) (i n j : ℕ) : Type 0 where
  pub on : i < j
  pub within : j ≤ n
  pub none : (x : Record) → Among x (records_from s (j - (i + 1)) (i + 1)) → x.layer ≢ 1

layer_is : (s : List ℕ) (j : ℕ) → (record_at s j).layer ≡ get_or s (j * record_size + 2) 0
unfolding record_at
layer_is s j = refl

one_more : (s : List ℕ) (i j : ℕ) → i ≤ j → records_from s (j + 1 - i) i ≡ records_from s (j - i) i ++ (record_at s j ∷ [])
unfolding entries_from
one_more s i j h =
    let a : j + 1 - i ≡ (j - i) + 1 = omega arith in
    let b : i + (j - i) ≡ j = omega arith in
    ap (λ (x : ℕ). records_from s x i) a ∙ entries_split (record_at s) (j - i) 1 i ∙ ap (λ (y : ℕ). records_from s (j - i) i ++ (record_at s y ∷ [])) b

module _ (s : List ℕ) (i n : ℕ) (k : Inside s i n) where
  pub end_begun : Ending s i n (i + 1)
  end_begun =
      let h = k.here in
      record {
        on = omega arith;
        within = omega arith;
        none = λ x m. absurd (mathlib.Core.List.Memᴰ.not-nil (subst (Among x) (entries_none (record_at s) (i + 1) (i + 1) (omega arith)) m));
      }

  module _ (j : ℕ) (g : Ending s i n j) where
    pub layer_there : j < n → j * record_size + 2 < length s
    layer_there l = let w = k.whole in omega arith

    pub end_on : j < n → (get_or s (j * record_size + 2) 0 ≡ 1 → ⊥) → Ending s i n (j + 1)
    end_on l h =
        let o = g.on in
        record {
          on = omega arith;
          within = omega arith;
          none = λ x m.
              all_more (records_from s (j - (i + 1)) (i + 1)) (record_at s j) (λ y. y.layer ≢ 1) g.none (λ e. h (sym (layer_is s j) ∙ e)) x
              (subst (Among x) (one_more s (i + 1) j (omega arith)) m);
        }

    ends : Next (records_from s (n - j) j) → StripeEnd s i n j
    ends f =
        let o = g.on in
        let w = g.within in
        let a : n - i ≡ (j - i) + (n - j) = omega arith in
        let b : i + (j - i) ≡ j = omega arith in
        let first : records_from s (j - i) i ≡ record_at s i ∷ records_from s (j - (i + 1)) (i + 1) = entries_next (record_at s) j i o in
        let all : records_from s (n - i) i ≡ (record_at s i ∷ records_from s (j - (i + 1)) (i + 1)) ++ records_from s (n - j) j =
        ap (λ (x : ℕ). records_from s x i) a ∙ entries_split (record_at s) (j - i) (n - j) i
        ∙ ap (λ (y : ℕ). records_from s (j - i) i ++ records_from s (n - j) y) b ∙ ap (λ (x : List Record). x ++ records_from s (n - j) j) first in
        record {
          on = o;
          within = w;
          cut =
              ap stripes_of all ∙ cut_first (record_at s i) (records_from s (j - (i + 1)) (i + 1)) (records_from s (n - j) j) g.none f
              ∙ ap (λ (x : List Record). x ∷ stripes_of (records_from s (n - j) j)) (sym first);
        }

    pub end_found : j < n → get_or s (j * record_size + 2) 0 ≡ 1 → StripeEnd s i n j
    end_found l h = ends (λ w. subst (λ (x : List Record). (nth x 0).layer ≡ 1) (sym (entries_next (record_at s) n j l)) (layer_is s j ∙ h))

    pub end_over : n ≤ j → StripeEnd s i n j
    end_over l = ends (λ w. let e = ap length (entries_none (record_at s) n j l) in absurd (omega arith))

pub ruleset ending = (rules, end_begun, layer_there, end_on, end_found, end_over)

-- ---- put_stripes
pub record Lining (mode : Mode) (out₀ s d : List ℕ) (n i at : ℕ) (out : List ℕ) : Type 0 where
  pub done : List (List Record)
  pub cut : stripes_of (records s) ≡ done ++ stripes_of (records_from s (n - i) i)
  pub within : i ≤ n
  pub laid : out ≡ put_at out₀ start_size (joined (stripe_by mode d) done)
  pub here : at ≡ start_size + length (joined (stripe_by mode d) done)

module _ (mode : Mode) (out₀ s d : List ℕ) (n : ℕ) (l : Lined mode out₀ s d n) where
  pub line_begun : Lining mode out₀ s d n 0 start_size out₀
  unfolding records joined
  line_begun =
      let w = l.whole in
      let e : length s / record_size ≡ n - 0 = omega arith in
      record { done = []; cut = ap (λ (j : ℕ). stripes_of (records_from s j 0)) e; within = omega arith; laid = sym (put_nothing out₀ start_size); here = refl }

  -- the octets of some stripes and of more are no more than all
  part : (done more : List (List Record)) → stripes_of (records s) ≡ done ++ more
      → length (joined (stripe_by mode d) done) + length (joined (stripe_by mode d) more) ≡ length (stripes_by mode d (records s))
  unfolding stripes_by
  part done more e =
      sym (length-append (joined (stripe_by mode d) done) (joined (stripe_by mode d) more)) ∙ ap length (sym (joined_append (stripe_by mode d) done more))
      ∙ ap (λ (x : List (List Record)). length (joined (stripe_by mode d) x)) (sym e)

  module _ (i at : ℕ) (out : List ℕ) (g : Lining mode out₀ s d n i at out) where
    pub line_length : length out ≡ length out₀
    line_length =
        let p = part g.done (stripes_of (records_from s (n - i) i)) g.cut in
        let r = l.room in
        ap length g.laid ∙ put_length out₀ start_size (joined (stripe_by mode d) g.done) (omega arith)

    all_done : n ≤ i → g.done ≡ stripes_of (records s)
    unfolding stripes_of
    all_done h = sym (g.cut ∙ ap (λ (x : List Record). g.done ++ stripes_of x) (entries_none (record_at s) n i h) ∙ append-nil g.done)

    pub line_put : n ≤ i → out ≡ put_at out₀ start_size (stripes_by mode d (records s))
    unfolding stripes_by
    line_put h = g.laid ∙ ap (λ (x : List (List Record)). put_at out₀ start_size (joined (stripe_by mode d) x)) (all_done h)

    pub line_next : n ≤ i → at ≡ start_size + length (stripes_by mode d (records s))
    unfolding stripes_by
    line_next h = g.here ∙ ap (λ (x : List (List Record)). start_size + length (joined (stripe_by mode d) x)) (all_done h)

    pub line_inside : i < n → Inside s i n
    line_inside h = record { whole = l.whole; here = h }

    module _ {e : ℕ} (x : StripeEnd s i n e) where
      abbrev q : List Record
      q = records_from s (e - i) i

      split : stripes_of (records s) ≡ g.done ++ (q ∷ stripes_of (records_from s (n - e) e))
      split = g.cut ∙ ap (λ (y : List (List Record)). g.done ++ y) x.cut

      with_one : joined (stripe_by mode d) (g.done ++ (q ∷ [])) ≡ joined (stripe_by mode d) g.done ++ stripe_by mode d q
      unfolding joined
      with_one = joined_append (stripe_by mode d) g.done (q ∷ []) ∙ ap (λ (y : List ℕ). joined (stripe_by mode d) g.done ++ y) (append-nil (stripe_by mode d q))

      fits : start_size + length (joined (stripe_by mode d) g.done) + length (stripe_by mode d q) ≤ length out₀
      unfolding joined
      fits =
          let p = part g.done (q ∷ stripes_of (records_from s (n - e) e)) split in
          let m = length-append (stripe_by mode d q) (joined (stripe_by mode d) (stripes_of (records_from s (n - e) e))) in
          let r = l.room in
          omega arith

      pub end_after : i ≤ e
      end_after = let o = x.on in omega arith

      pub line_placed : Placed mode out at s i (e - i) d
      line_placed =
          let w = l.whole in
          let o = x.on in
          let v = x.within in
          let c = length_entries (record_at s) (e - i) i in
          let m : Memᴰ q (stripes_of (records s)) = subst (Memᴰ q) (sym split) (mathlib.Core.List.Memᴰ.append_right g.done (mathlib.Core.List.Memᴰ.head refl)) in
          let y = l.layers q m in
          let y0 = y.0 in
          let y1 = y.1 in
          let f = fits in
          let k = line_length in
          let z = g.here in
          record { whole = omega arith; layers = (omega arith, omega arith); there = λ j h. l.there j (omega arith); room = omega arith }

      pub line_less : i < n → n - e < n - i
      line_less h = let o = x.on in let v = x.within in omega arith

      pub line_on : (out' : List ℕ) (at' : ℕ) → out' ≡ put_at out at (stripe_by mode d q) → at' ≡ at + length (stripe_by mode d q) → Lining mode out₀ s d n e at' out'
      line_on out' at' a b =
          let f = fits in
          let m = ap length with_one in
          let c = length-append (joined (stripe_by mode d) g.done) (stripe_by mode d q) in
          let z = g.here in
          record {
            done = g.done ++ (q ∷ []);
            cut = split ∙ sym (append_assoc g.done (q ∷ []) (stripes_of (records_from s (n - e) e)));
            within = x.within;
            laid = a ∙ rw (g.laid, g.here) (put_put out₀ start_size (joined (stripe_by mode d) g.done) (stripe_by mode d q) (omega arith)) ∙ ap (put_at out₀ start_size) (sym with_one);
            here = omega arith;
          }

pub ruleset lining = (rules, line_begun, line_length, line_put, line_next, line_inside, end_after, line_placed, line_less, line_on)
