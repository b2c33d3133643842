-- Records that are the same but for the starts of coded ones: their sheets, octet by octet, and the layers that they name.
-- Assumes nothing.
use Prim.Native.Nat.{ℕ, ◌+◌, ◌-◌, ◌*◌, ◌/◌, ◌%◌, ◌≤◌, ◌<◌}
use native.Mathlib.Nat.{add_assoc}
use native.Mathlib.Omega.{arith}
use mathlib.Core.Path.{◌≡◌, sym, ap, subst, ◌∙◌}
use mathlib.Core.Logic.{◌↔◌, ◌⊎◌, inl, inr}
use mathlib.Core.List.{List, [], map}
use lib.ListN.{length, get_or, take, drop, length-map, get_or-map}
use lib.Dec.{lit<, lit≤}
use lib.Seq.{get_or-take, get_or-drop, ext_get_or}
use Rattle.octets.specs.Octets.{Octets, be16_at, be32_at}
use Rattle.octets.proofs.Laws.{be16_same, be32_same}
use Rattle.octets.proofs.Entries.{joined_length, joined_entry, joined_octet}
use Rattle.sheet_rules.specs.declared.Record.{Record}
use Rattle.sheet_rules.specs.Record.{record_size, record_at, encode, sheet_of, records, rest, blank, nth}
use Rattle.sheet_rules.specs.Sentences.{Uncoded}
use Rattle.sheet_rules.proofs.Cut.{record_entry, records_count, record_nth, sheet_octets}
use Rattle.write_rules.specs.Layer.{layer_octets}
use Rattle.write_rules.specs.Form.{bare, ButForStart}
use Rattle.write_rules.proofs.Bare.{start_same, bare_exactly}
use Rattle.trip_rules.specs.Trips.{Stays, SameButStarts, SameLayers}

-- ---- one record

module _ (r q : Record) (k : ButForStart r q) where
  front_same : take 18 (encode r) ≡ take 18 (encode q)
  unfolding encode
  front_same = cc

  behind_same : drop 22 (encode r) ≡ drop 22 (encode q)
  unfolding encode
  behind_same = cc

  uncoded_same : Uncoded r → r ≡ q
  uncoded_same u = start_same r q k r.start q.start (k.start u)

  octet_same : (j : ℕ) → (j < 18) ⊎ (21 < j) ⊎ Uncoded r → get_or (encode r) j 0 ≡ get_or (encode q) j 0
  octet_same j (inl h) = sym (get_or-take 18 (encode r) j 0 h) ∙ ap (λ (l : List ℕ). get_or l j 0) front_same ∙ get_or-take 18 (encode q) j 0 h
  octet_same j (inr (inl h)) =
      let e : 22 + (j - 22) ≡ j = omega arith in
      ap (λ (m : ℕ). get_or (encode r) m 0) (sym e)
      ∙ sym (get_or-drop 22 (encode r) (j - 22) 0)
      ∙ ap (λ (l : List ℕ). get_or l (j - 22) 0) behind_same
      ∙ get_or-drop 22 (encode q) (j - 22) 0
      ∙ ap (λ (m : ℕ). get_or (encode q) m 0) e
  octet_same j (inr (inr u)) = ap (λ (x : Record). get_or (encode x) j 0) (uncoded_same u)

-- ---- the sheets

record_of_lem : (rs : List Record) (i : ℕ) → i < length rs → record_at (sheet_of rs) i ≡ nth rs i
record_of_lem rs i h = joined_entry record_entry blank rs i h

module _ (rs qs : List Record) (same : map bare qs ≡ map bare rs) where
  pub same_count : length qs ≡ length rs
  same_count = sym (length-map qs bare) ∙ ap length same ∙ length-map rs bare

  nth_same : (i : ℕ) → ButForStart (nth rs i) (nth qs i)
  nth_same i =
      (bare_exactly (nth rs i) (nth qs i)).0
      (sym (get_or-map bare rs i blank) ∙ ap (λ (l : List Record). get_or l i (bare blank)) (sym same) ∙ get_or-map bare qs i blank)

  stays_of : (i j : ℕ) → i < length rs → Stays (sheet_of rs) i j → (j < 18) ⊎ (21 < j) ⊎ Uncoded (nth rs i)
  unfolding record_at
  stays_of i j h (inl b) = inl (omega arith)
  stays_of i j h (inr (inl b)) = inr (inl (omega arith))
  stays_of i j h (inr (inr z)) = inr (inr (sym (ap (λ (r : Record). r.len) (record_of_lem rs i h)) ∙ z))

  pub sheets_same : SameButStarts (sheet_of rs) (sheet_of qs)
  sheets_same =
      let a = joined_length record_entry rs in
      let b = joined_length record_entry qs in
      let c = same_count in
      record {
        long = omega arith;
        octets = λ i j g h s.
            let m : i < length rs = omega arith in
            joined_octet record_entry blank qs i j (omega arith) g
            ∙ sym (octet_same (nth rs i) (nth qs i) (nth_same i) j (stays_of i j m s))
            ∙ sym (joined_octet record_entry blank rs i j m g);
      }

  pub layers_same : (d p : List ℕ) → map (layer_octets p) qs ≡ map (layer_octets d) rs → SameLayers (sheet_of rs) d (sheet_of qs) p
  layers_same d p e i h =
      let a = joined_length record_entry rs in
      let c = same_count in
      ap (layer_octets p) (record_of_lem qs i (omega arith))
      ∙ sym (get_or-map (layer_octets p) qs i blank)
      ∙ ap (λ (l : List (List ℕ)). get_or l i []) e
      ∙ get_or-map (layer_octets d) rs i blank
      ∙ sym (ap (layer_octets d) (record_of_lem rs i (omega arith)))

-- ---- and octet by octet the same sheets have the same records

module _ (s t : List ℕ) (k : SameButStarts s t) where
  module _ (i : ℕ) (h : i < length s / record_size) where
    octet : (j : ℕ) → j < record_size → Stays s i j → get_or s (i * record_size + j) 0 ≡ get_or t (i * record_size + j) 0
    octet j g y = sym (k.octets i j g (omega arith) y)

    span : (j n : ℕ) → j + n ≤ record_size → ((m : ℕ) → m < n → Stays s i (j + m)) → (m : ℕ) → m < n
        → get_or s (i * record_size + j + m) 0 ≡ get_or t (i * record_size + j + m) 0
    span j n g y m l = rw add_assoc (octet (j + m) (omega arith) (y m l))

    two : (j : ℕ) → j + 2 ≤ record_size → ((m : ℕ) → m < 2 → Stays s i (j + m)) → be16_at s (i * record_size + j) ≡ be16_at t (i * record_size + j)
    two j g y = be16_same s t (i * record_size + j) (i * record_size + j) (span j 2 g y)

    four : (j : ℕ) → j + 4 ≤ record_size → ((m : ℕ) → m < 4 → Stays s i (j + m)) → be32_at s (i * record_size + j) ≡ be32_at t (i * record_size + j)
    four j g y = be32_same s t (i * record_size + j) (i * record_size + j) (span j 4 g y)

    record_same : ButForStart (record_at s i) (record_at t i)
    unfolding record_at
    record_same =
        record {
          stripe = be16_same s t (i * record_size) (i * record_size) (λ m l. octet m (omega arith) (inl (omega arith)));
          layer = octet 2 (lit< tt) (inl (lit< tt));
          coder = octet 3 (lit< tt) (inl (lit< tt));
          x = two 4 (lit≤ tt) (λ m l. inl (omega arith));
          y = two 6 (lit≤ tt) (λ m l. inl (omega arith));
          width = two 8 (lit≤ tt) (λ m l. inl (omega arith));
          height = two 10 (lit≤ tt) (λ m l. inl (omega arith));
          res = two 12 (lit≤ tt) (λ m l. inl (omega arith));
          base0 = octet 14 (lit< tt) (inl (lit< tt));
          base1 = octet 15 (lit< tt) (inl (lit< tt));
          base2 = octet 16 (lit< tt) (inl (lit< tt));
          octet17 = octet 17 (lit< tt) (inl (omega arith));
          start = λ u. four 18 (lit≤ tt) (λ m l. inr (inr u));
          len = four 22 (lit≤ tt) (λ m l. inr (inl (omega arith)));
          octets26 = two 26 (lit≤ tt) (λ m l. inr (inl (omega arith)));
        }

  records_same : map bare (records t) ≡ map bare (records s)
  records_same =
      let a = records_count s in
      let b = records_count t in
      let c = length-map (records s) bare in
      let d = length-map (records t) bare in
      let l = k.long in
      ext_get_or (bare blank) (map bare (records t)) (map bare (records s)) (omega arith)
      (λ i h. let g : i < length s / record_size = omega arith in
      get_or-map bare (records t) i blank
      ∙ ap bare (record_nth t i (omega arith))
      ∙ sym ((bare_exactly (record_at s i) (record_at t i)).1 (record_same i g))
      ∙ ap bare (sym (record_nth s i g))
      ∙ sym (get_or-map bare (records s) i blank))

pub same_exactly : (s t : List ℕ) → Octets s → Octets t → rest s ≡ 0 → SameButStarts s t ↔ (length t ≡ length s) × (map bare (records t) ≡ map bare (records s))
same_exactly s t os ot w = (
  λ k. (k.long, records_same s t k),
  λ e.
      subst (λ (x : List ℕ). SameButStarts x t) (sheet_octets s os w)
      (subst (SameButStarts (sheet_of (records s))) (sheet_octets t ot (ap (λ (n : ℕ). n % record_size) e.0 ∙ w))
      (sheets_same (records s) (records t) e.1)),
)
