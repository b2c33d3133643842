-- A stripe's fields are refused exactly as the sentences say.
-- Assumes nothing.
use Prim.Native.Nat.{ℕ, ◌+◌, ◌≤◌, ◌<◌}
use native.Mathlib.Omega.{arith}
use mathlib.Core.Path.{◌≡◌, refl, sym, ap, subst, ◌∙◌}
use mathlib.Core.List.{List, [], ◌∷◌, ◌++◌}
use lib.ListN.{get_or, drop}
use Rattle.octets.specs.Octets.{octets16, octets32}
use Rattle.laws.proofs.Says.{says_within}
use Rattle.answers.specs.declared.Refusal.{Refusal}
use Rattle.answers.specs.declared.Refusal.TheVariants.{Short, BadStripe}
use Rattle.field_rules.specs.Field.{Width, one, four, Field, put, Sized, widths}
use Rattle.field_rules.specs.Fault.{Faulted, cut, BadNumbers, the}
use Rattle.field_rules.proofs.Faults.{fault_here, past_val, none_at_fault, fault_one, fault_two, fault_three, broken_numbers, numbers_broken, broken_any}
use Rattle.sheet_rules.specs.declared.Colour.{Colour}
use Rattle.start_rules.specs.declared.Head.{Head}
use Rattle.mode1_rules.specs.Kinds.{has_back, has_fore}
use Rattle.mode1_rules.specs.Grammar.{colour_of}
use Rattle.mode1_rules.specs.Reading.{stripe_table}
use Rattle.mode1_rules.specs.Faults.{Typed, Placed, Masked, Octets3, Coloured, BadFields, bad_type, cut_back, cut_fore, bad_back_offset, bad_fore_offset, bad_height, bad_mask_length}
use Rattle.mode1_rules.proofs.Rules.{says_type, says_offset, says_mask_length}

module _ (hd : Head) (left at : ℕ) where
  abbrev Bad : List ℕ → Refusal → Type 0
  Bad = BadFields hd left at

  abbrev Tall : ℕ → Type 0
  Tall h = (1 ≤ h) × (h ≤ left)

  -- ---- from the table to the sentences

  -- a place in other words
  moved : {p q : ℕ} {ws : List Width} {Good : List ℕ → Type 0} {l : List ℕ} {x : Refusal} → p ≡ q → BadNumbers ws Good BadStripe p l x → BadNumbers ws Good BadStripe q l x
  moved {ws = ws} {Good = Good} {l = l} {x = x} e b = subst (λ (p : ℕ). BadNumbers ws Good BadStripe p l x) e b

  abbrev four_of_lem : List ℕ → ℕ → ℕ → List ℕ
  four_of_lem rest x y = octets32 x ++ (octets32 y ++ rest)

  pub faulted_fields : (l : List ℕ) (x : Refusal) → Faulted (stripe_table hd left) [] at l x → Bad l x
  unfolding stripe_table colour_of octets32 octets16 put widths
  faulted_fields l x f =
      fault_one (λ (l : List ℕ). Bad l x) f (λ b. bad_type (broken_numbers (the (Typed hd)) (λ vs z. says_type hd (get_or vs 0 0)) b)) λ t l1 bt gt f1.
      let kt = (says_type hd t).told gt in
      fault_three (λ (l : List ℕ). Bad (t ∷ l) x) f1
      (λ b. let k = broken_any b in subst (Bad (t ∷ l1)) (sym k.1) (cut_back t l1 bt kt k.0)) λ a0 a1 a2 l2 ba0 ba1 ba2 g2 f2.
      let back : Colour = record { c0 = a0; c1 = a1; c2 = a2 } in
      let ob : Octets3 back = record { c0 = ba0; c1 = ba1; c2 = ba2 } in
      fault_three (λ (l : List ℕ). Bad (t ∷ a0 ∷ a1 ∷ a2 ∷ l) x) f2
      (λ b.
      let k = broken_any b in
      let e : at + 4 ≡ at + 1 + 3 = omega arith in
      subst (Bad (t ∷ a0 ∷ a1 ∷ a2 ∷ l2)) (ap Short e ∙ sym k.1) (cut_fore t back l2 bt kt ob k.0)) λ c0 c1 c2 l3 bc0 bc1 bc2 g3 f3.
      let fore : Colour = record { c0 = c0; c1 = c1; c2 = c2 } in
      let front : List ℕ = t ∷ a0 ∷ a1 ∷ a2 ∷ c0 ∷ c1 ∷ c2 ∷ [] in
      let kc : Coloured hd left at front t =
      record { back = back; fore = fore; octets = refl; octet = bt; typed = kt; back_octets = ob; fore_octets = record { c0 = bc0; c1 = bc1; c2 = bc2 } } in
      fault_two (λ (l : List ℕ). Bad (front ++ l) x) f3
      (λ b.
      let e : at + 1 + 3 + 3 ≡ at + 7 = omega arith in
      bad_back_offset t front l3 kc (moved e (broken_numbers (Placed (has_back t)) (λ vs z. says_offset (has_back t) (get_or vs 0 0) (get_or vs 1 0)) b))) λ bx b_y l4 bbx bby g4 f4.
      let k4 = (says_offset (has_back t) bx b_y).told g4 in
      fault_two (λ (l : List ℕ). Bad (front ++ four_of_lem l bx b_y) x) f4
      (λ b.
      let e : at + 1 + 3 + 3 + 8 ≡ at + 15 = omega arith in
      bad_fore_offset t bx b_y front l4 kc bbx bby k4 (moved e (broken_numbers (Placed (has_fore t)) (λ vs z. says_offset (has_fore t) (get_or vs 0 0) (get_or vs 1 0)) b)))
      λ fx f_y l5 bfx bfy g5 f5.
      let k5 = (says_offset (has_fore t) fx f_y).told g5 in
      fault_one (λ (l : List ℕ). Bad (front ++ four_of_lem (four_of_lem l fx f_y) bx b_y) x) f5
      (λ b.
      let e : at + 1 + 3 + 3 + 8 + 8 ≡ at + 23 = omega arith in
      bad_height t bx b_y fx f_y front l5 kc bbx bby bfx bfy k4 k5 (moved e (broken_numbers (the Tall) (λ vs z. says_within 1 left (get_or vs 0 0)) b))) λ h l6 bh g6 f6.
      fault_one (λ (l : List ℕ). Bad (front ++ four_of_lem (four_of_lem (octets32 h ++ l) fx f_y) bx b_y) x) f6
      (λ b.
      let e : at + 1 + 3 + 3 + 8 + 8 + 4 ≡ at + 27 = omega arith in
      bad_mask_length t bx b_y fx f_y h front l6 kc bbx bby bfx bfy k4 k5 bh ((says_within 1 left h).told g6)
      (moved e (broken_numbers (the (Masked t)) (λ vs z. says_mask_length t (get_or vs 0 0)) b)))
      λ m l7 bm g7 f7. absurd (none_at_fault f7)

  -- ---- and back: what stands in front of each field

  shifted : {p q : ℕ} {table : List Field} {known l : List ℕ} {x : Refusal} → p ≡ q → Faulted table known p l x → Faulted table known q l x
  shifted {table = table} {known = known} {l = l} {x = x} e f = subst (λ (p : ℕ). Faulted table known p l x) e f

  behind_type : {l : List ℕ} {x : Refusal} (t : ℕ) → t < 256 → Typed hd t → Faulted (drop 1 (stripe_table hd left)) (t ∷ []) (at + 1) l x → Faulted (stripe_table hd left) [] at (t ∷ l) x
  unfolding stripe_table put widths Sized
  behind_type t b k f = past_val {ws = one ∷ []} (t ∷ []) (b, tt) ((says_type hd t).shown k) f

  behind_back : {l : List ℕ} {x : Refusal} (t : ℕ) (c : Colour) → t < 256 → Typed hd t → Octets3 c
      → Faulted (drop 2 (stripe_table hd left)) (t ∷ c.c0 ∷ c.c1 ∷ c.c2 ∷ []) (at + 4) l x → Faulted (stripe_table hd left) [] at (t ∷ colour_of c ++ l) x
  unfolding stripe_table colour_of put widths Sized
  behind_back t c b k o f =
      let e : at + 4 ≡ at + 1 + 3 = omega arith in
      behind_type t b k (past_val {ws = one ∷ one ∷ one ∷ []} (c.c0 ∷ c.c1 ∷ c.c2 ∷ []) (o.c0, (o.c1, (o.c2, tt))) refl (shifted e f))

  abbrev known : {front : List ℕ} {t : ℕ} → Coloured hd left at front t → List ℕ → List ℕ
  known {t = t} c vs = t ∷ c.back.c0 ∷ c.back.c1 ∷ c.back.c2 ∷ c.fore.c0 ∷ c.fore.c1 ∷ c.fore.c2 ∷ vs

  behind_colours : {l front : List ℕ} {t : ℕ} {x : Refusal} (c : Coloured hd left at front t) → Faulted (drop 3 (stripe_table hd left)) (known c []) (at + 7) l x
      → Faulted (stripe_table hd left) [] at (front ++ l) x
  unfolding stripe_table colour_of put widths Sized
  behind_colours {l = l} {t = t} {x = x} c f =
      let e : at + 7 ≡ at + 4 + 3 = omega arith in
      let o = c.fore_octets in
      subst (λ (y : List ℕ). Faulted (stripe_table hd left) [] at (y ++ l) x) (sym c.octets)
      (behind_back t c.back c.octet c.typed c.back_octets
      (past_val {ws = one ∷ one ∷ one ∷ []} (c.fore.c0 ∷ c.fore.c1 ∷ c.fore.c2 ∷ []) (o.c0, (o.c1, (o.c2, tt))) refl (shifted e f)))

  module _ {front : List ℕ} {t : ℕ} (c : Coloured hd left at front t) where
    behind_back_offset : {l : List ℕ} {x : Refusal} (bx b_y : ℕ) → bx < 4294967296 → b_y < 4294967296 → Placed (has_back t) (bx ∷ b_y ∷ [])
        → Faulted (drop 4 (stripe_table hd left)) (known c (bx ∷ b_y ∷ [])) (at + 15) l x → Faulted (stripe_table hd left) [] at (front ++ four_of_lem l bx b_y) x
    unfolding stripe_table octets32 octets16 put widths Sized
    behind_back_offset bx b_y p q k f =
        let e : at + 15 ≡ at + 7 + 8 = omega arith in
        behind_colours c (past_val {ws = four ∷ four ∷ []} (bx ∷ b_y ∷ []) (p, (q, tt)) ((says_offset (has_back t) bx b_y).shown k) (shifted e f))

    behind_offsets : {l : List ℕ} {x : Refusal} (bx b_y fx f_y : ℕ) → bx < 4294967296 → b_y < 4294967296 → fx < 4294967296 → f_y < 4294967296
        → Placed (has_back t) (bx ∷ b_y ∷ []) → Placed (has_fore t) (fx ∷ f_y ∷ [])
        → Faulted (drop 5 (stripe_table hd left)) (known c (bx ∷ b_y ∷ fx ∷ f_y ∷ [])) (at + 23) l x → Faulted (stripe_table hd left) [] at (front ++ four_of_lem (four_of_lem l fx f_y) bx b_y) x
    unfolding stripe_table octets32 octets16 put widths Sized
    behind_offsets bx b_y fx f_y p q r s k m f =
        let e : at + 23 ≡ at + 15 + 8 = omega arith in
        behind_back_offset bx b_y p q k (past_val {ws = four ∷ four ∷ []} (fx ∷ f_y ∷ []) (r, (s, tt)) ((says_offset (has_fore t) fx f_y).shown m) (shifted e f))

  pub fields_faulted : (l : List ℕ) (x : Refusal) → Bad l x → Faulted (stripe_table hd left) [] at l x
  unfolding stripe_table octets32 octets16 put widths Sized
  fields_faulted l x (bad_type b) = fault_here (numbers_broken (the (Typed hd)) (λ vs z. says_type hd (get_or vs 0 0)) b)
  fields_faulted l x (cut_back t rest b k c) = behind_type t b k (fault_here (cut c))
  fields_faulted l x (cut_fore t back rest b k o c) = behind_back t back b k o (fault_here (cut c))
  fields_faulted l x (bad_back_offset t front rest c b) =
      behind_colours c (fault_here (numbers_broken (Placed (has_back t)) (λ vs z. says_offset (has_back t) (get_or vs 0 0) (get_or vs 1 0)) b))
  fields_faulted l x (bad_fore_offset t bx b_y front rest c p q k b) =
      behind_back_offset c bx b_y p q k (fault_here (numbers_broken (Placed (has_fore t)) (λ vs z. says_offset (has_fore t) (get_or vs 0 0) (get_or vs 1 0)) b))
  fields_faulted l x (bad_height t bx b_y fx f_y front rest c p q r s k m b) =
      behind_offsets c bx b_y fx f_y p q r s k m (fault_here (numbers_broken (the Tall) (λ vs z. says_within 1 left (get_or vs 0 0)) b))
  fields_faulted l x (bad_mask_length t bx b_y fx f_y h front rest c p q r s k m hs hh b) =
      let e : at + 27 ≡ at + 23 + 4 = omega arith in
      behind_offsets c bx b_y fx f_y p q r s k m
      (past_val {ws = four ∷ []} (h ∷ []) (hs, tt) ((says_within 1 left h).shown hh)
      (shifted e (fault_here (numbers_broken (the (Masked t)) (λ vs z. says_mask_length t (get_or vs 0 0)) b))))
