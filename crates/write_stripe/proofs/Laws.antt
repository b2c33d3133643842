-- A stripe's head and its layers, put one after the other, are the stripe put.
-- Assumes nothing.
use Prim.Native.Nat.{ℕ, ◌+◌, ◌/◌, ◌≤◌, ◌<◌}
use native.Mathlib.Omega.{arith}
use mathlib.Core.Path.{◌≡◌, refl, sym, ap, ◌∙◌}
use mathlib.Core.List.{List, [], ◌∷◌, ◌++◌, append_assoc}
use lib.ListN.{length, drop, length-append, length-drop}
use lib.Seq.{length-take-le}
use borrow.Author.Rules.{rules}
use Rattle.octets.specs.Octets.{octets16, octets32, put_at}
use Rattle.octets.specs.Entries.{entries_from}
use Rattle.octets.proofs.Laws.{put_length}
use Rattle.segment_rules.specs.Segment.{begin_of}
use Rattle.mode1_rules.specs.Grammar.{fields_of, colour_of}
use Rattle.mode1_rules.specs.declared.Fields.{Fields}
use Rattle.segment_rules.specs.declared.Mode.{Mode}
use Rattle.segment_rules.specs.declared.Mode.TheVariants.{One}
use Rattle.sheet_rules.specs.declared.Record.{Record}
use Rattle.sheet_rules.specs.Record.{record_size, record_at, records_from}
use Rattle.write_rules.specs.Mode1.{fields_by, begins, stripe1}
use Rattle.write_rules.specs.Modes.{stripe_by}
use Rattle.write_rules.specs.Layer.{layer_octets}
use Rattle.write_start.proofs.Laws.{put_more}
use Rattle.write_stripe.specs.Parts.{Copied, PlacedThree, Placed}

data_length : (d : List ℕ) (r : Record) → r.start + r.len ≤ length d → length (layer_octets d r) ≡ r.len
data_length d r h = let n = length-drop r.start d in length-take-le r.len (drop r.start d) (omega arith)

-- its segment with its fields
abbrev head_of : Fields → List ℕ
head_of f = begins ++ fields_of f

length_head : (f : Fields) → length (head_of f) ≡ 39
unfolding begin_of fields_of colour_of octets16 octets32
length_head f = refl

stripe_is : (d : List ℕ) (a b c : Record) → stripe1 d (a ∷ b ∷ c ∷ []) ≡ head_of (fields_by a b c) ++ (layer_octets d b ++ (layer_octets d a ++ layer_octets d c))
unfolding stripe1
stripe_is d a b c = sym (append_assoc begins (fields_of (fields_by a b c)) (layer_octets d b ++ (layer_octets d a ++ layer_octets d c)))

stripe_length : (d : List ℕ) (a b c : Record) → a.start + a.len ≤ length d → b.start + b.len ≤ length d → c.start + c.len ≤ length d
    → length (stripe1 d (a ∷ b ∷ c ∷ [])) ≡ 39 + b.len + a.len + c.len
stripe_length d a b c x y z =
    let e = ap length (stripe_is d a b c) in
    let h = length_head (fields_by a b c) in
    let n1 = data_length d b y in
    let n2 = data_length d a x in
    let n3 = data_length d c z in
    let m1 = length-append (head_of (fields_by a b c)) (layer_octets d b ++ (layer_octets d a ++ layer_octets d c)) in
    let m2 = length-append (layer_octets d b) (layer_octets d a ++ layer_octets d c) in
    let m3 = length-append (layer_octets d a) (layer_octets d c) in
    omega arith

module _ (out : List ℕ) (at : ℕ) (d : List ℕ) (a b c : Record) (p : PlacedThree out at d a b c) where
  lb : length (layer_octets d b) ≡ b.len
  lb = data_length d b p.mask

  la : length (layer_octets d a) ≡ a.len
  la = data_length d a p.back

  lc : length (layer_octets d c) ≡ c.len
  lc = data_length d c p.fore

  pub head_room : at + 39 ≤ length out
  head_room = let r = p.room in omega arith

  module _ {o1 : List ℕ} (e1 : o1 ≡ put_at out at (head_of (fields_by a b c))) where
    long1 : length o1 ≡ length out
    long1 = let h = length_head (fields_by a b c) in let r = p.room in ap length e1 ∙ put_length out at (head_of (fields_by a b c)) (omega arith)

    pub mask_copied : Copied o1 (at + 39) d b
    mask_copied = let r = p.room in let l = long1 in record { room = omega arith; there = p.mask }

    module _ {o2 : List ℕ} (e2 : o2 ≡ put_at o1 (at + 39) (layer_octets d b)) where
      long2 : length o2 ≡ length out
      long2 = let h = lb in let r = p.room in let l = long1 in ap length e2 ∙ put_length o1 (at + 39) (layer_octets d b) (omega arith) ∙ l

      pub back_copied : Copied o2 (at + 39 + b.len) d a
      back_copied = let r = p.room in let l = long2 in record { room = omega arith; there = p.back }

      module _ {o3 : List ℕ} (e3 : o3 ≡ put_at o2 (at + 39 + b.len) (layer_octets d a)) where
        long3 : length o3 ≡ length out
        long3 = let h = la in let r = p.room in let l = long2 in ap length e3 ∙ put_length o2 (at + 39 + b.len) (layer_octets d a) (omega arith) ∙ l

        pub fore_copied : Copied o3 (at + 39 + b.len + a.len) d c
        fore_copied = let r = p.room in let l = long3 in record { room = omega arith; there = p.fore }

        pub three_put : {o4 : List ℕ} → o4 ≡ put_at o3 (at + 39 + b.len + a.len) (layer_octets d c) → o4 ≡ put_at out at (stripe1 d (a ∷ b ∷ c ∷ []))
        three_put e4 =
            let h = length_head (fields_by a b c) in
            let r = p.room in
            let n1 = lb in
            let n2 = la in
            let m1 = length-append (head_of (fields_by a b c)) (layer_octets d b) in
            let m2 = length-append (head_of (fields_by a b c) ++ layer_octets d b) (layer_octets d a) in
            put_more out at ((head_of (fields_by a b c) ++ layer_octets d b) ++ layer_octets d a) (at + 39 + b.len + a.len) (layer_octets d c) (omega arith)
            (put_more out at (head_of (fields_by a b c) ++ layer_octets d b) (at + 39 + b.len) (layer_octets d a) (omega arith)
            (put_more out at (head_of (fields_by a b c)) (at + 39) (layer_octets d b) (omega arith) e1 (omega arith) e2) (omega arith) e3) (omega arith) e4
            ∙ ap (put_at out at) (append_assoc (head_of (fields_by a b c) ++ layer_octets d b) (layer_octets d a) (layer_octets d c)
            ∙ append_assoc (head_of (fields_by a b c)) (layer_octets d b) (layer_octets d a ++ layer_octets d c) ∙ sym (stripe_is d a b c))

  pub three_next : at + 39 + b.len + a.len + c.len ≡ at + length (stripe1 d (a ∷ b ∷ c ∷ []))
  three_next = let l = stripe_length d a b c p.back p.mask p.fore in omega arith

-- ---- put_stripe: in Mode 1 a stripe has three records
three_records : (s : List ℕ) (first count : ℕ) → (3 ≤ count) × (count ≤ 3) → records_from s count first ≡ record_at s first ∷ record_at s (first + 1) ∷ record_at s (first + 2) ∷ []
unfolding entries_from
three_records s first count h =
    let e : count ≡ 3 = omega arith in
    let z : first + 1 + 1 ≡ first + 2 = omega arith in
    ap (λ (n : ℕ). records_from s n first) e ∙ ap (λ (j : ℕ). record_at s first ∷ record_at s (first + 1) ∷ record_at s j ∷ []) z

pub three_inside : (mode : Mode) (out : List ℕ) (at : ℕ) (s : List ℕ) (first count : ℕ) (d : List ℕ) → Placed mode out at s first count d → first + 2 < length s / record_size
three_inside mode out at s first count d p = let w = p.whole in let l = p.layers.0 in omega arith

module _ {a b c : Record} (s : List ℕ) (first : ℕ) (ea : a ≡ record_at s first) (eb : b ≡ record_at s (first + 1)) (ec : c ≡ record_at s (first + 2)) where
  these : (d : List ℕ) (count : ℕ) → (3 ≤ count) × (count ≤ 3) → stripe1 d (records_from s count first) ≡ stripe1 d (a ∷ b ∷ c ∷ [])
  these d count h = ap (stripe1 d) (three_records s first count h) ∙ rw (ea, eb, ec) refl

  pub three_placed : (mode : Mode) (out : List ℕ) (at count : ℕ) (d : List ℕ) → Placed mode out at s first count d → PlacedThree out at d a b c
  unfolding stripe_by
  three_placed One out at count d p =
      let l = p.layers.0 in
      let x : a.start + a.len ≤ length d = rw ea (p.there first (omega arith)) in
      let y : b.start + b.len ≤ length d = rw eb (p.there (first + 1) (omega arith)) in
      let z : c.start + c.len ≤ length d = rw ec (p.there (first + 2) (omega arith)) in
      let e = ap length (these d count p.layers) in
      let n = stripe_length d a b c x y z in
      let r = p.room in
      record { room = omega arith; back = x; mask = y; fore = z }

  pub stripe_put : (mode : Mode) (out : List ℕ) (at count : ℕ) (d : List ℕ) → Placed mode out at s first count d → {out' : List ℕ} → out' ≡ put_at out at (stripe1 d (a ∷ b ∷ c ∷ []))
      → out' ≡ put_at out at (stripe_by mode d (records_from s count first))
  unfolding stripe_by
  stripe_put One out at count d p e = e ∙ ap (put_at out at) (sym (these d count p.layers))

  pub stripe_next : (mode : Mode) (out : List ℕ) (at count : ℕ) (d : List ℕ) → Placed mode out at s first count d → {r : ℕ} → r ≡ at + length (stripe1 d (a ∷ b ∷ c ∷ []))
      → r ≡ at + length (stripe_by mode d (records_from s count first))
  unfolding stripe_by
  stripe_next One out at count d p e = e ∙ ap (λ (l : List ℕ). at + length l) (sym (these d count p.layers))

pub ruleset placing = (rules, head_room, mask_copied, back_copied, fore_copied)

pub ruleset striping = (rules, three_inside, three_placed, stripe_put, stripe_next)
