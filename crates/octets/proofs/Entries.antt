-- Laws of entries of a fixed size: how many there are, which is which, one more at the end, what they depend on, that entries put one after the
-- other are cut into them again, and that octets cut into entries are put as they stood.
-- Assumes nothing.
use Prim.Native.Nat.{ℕ, zero, suc, ◌+◌, ◌-◌, ◌*◌, ◌/◌, ◌%◌, ◌≤◌, ◌<◌}
use native.Mathlib.Nat.{add-zero, add-mul, suc-mul, zero-mul, mul-le-mul_right, mul-div_cancel, mul-mod_left, mod-lt, div-add-mod', div-lt_iff_lt-mul}
use native.Mathlib.Omega.{arith}
use mathlib.Core.Path.{◌≡◌, refl, sym, ap, ap₂, ◌∙◌}
use mathlib.Core.List.{List, [], ◌∷◌, ◌++◌, append_assoc}
use lib.ListN.{length, get_or, take, length-append, get_or-append}
use lib.Seq.{get_or-take, get_or-append-add, ext_get_or}
use Rattle.octets.specs.Entries.{entries_from, whole_entries, joined, Entry}

module _ {A : Type 0} (at : ℕ → A) where
  pub length_entries : (k i : ℕ) → length (entries_from at k i) ≡ k
  unfolding entries_from
  length_entries zero i = refl
  length_entries (suc k) i = ap suc (length_entries k (i + 1))

  pub entry_from : (d : A) (k i j : ℕ) → j < k → get_or (entries_from at k i) j d ≡ at (i + j)
  unfolding entries_from
  entry_from d zero i j h = absurd (omega arith)
  entry_from d (suc k) i zero h = ap at (sym (add-zero i))
  entry_from d (suc k) i (suc j) h = let e : i + 1 + j ≡ i + suc j = omega arith in entry_from d k (i + 1) j (omega arith) ∙ ap at e

  pub entry_of_lem : (d : A) (k j : ℕ) → j < k → get_or (entries_from at k 0) j d ≡ at j
  entry_of_lem d k j h = let e : 0 + j ≡ j = omega arith in entry_from d k 0 j h ∙ ap at e

  pub entries_split : (k m i : ℕ) → entries_from at (k + m) i ≡ entries_from at k i ++ entries_from at m (i + k)
  unfolding entries_from
  entries_split zero m i =
      let a : 0 + m ≡ m = omega arith in let b : i ≡ i + 0 = omega arith in ap₂ (entries_from at) a b
  entries_split (suc k) m i =
      let a : suc k + m ≡ suc (k + m) = omega arith in
      let b : i + 1 + k ≡ i + suc k = omega arith in
      ap (λ (x : ℕ). entries_from at x i) a
      ∙ ap (λ (l : List A). at i ∷ l) (entries_split k m (i + 1) ∙ ap (λ (y : ℕ). entries_from at k (i + 1) ++ entries_from at m y) b)

  pub entries_one_more : (i : ℕ) → entries_from at (i + 1) 0 ≡ entries_from at i 0 ++ (at i ∷ [])
  unfolding entries_from
  entries_one_more i = let e : 0 + i ≡ i = omega arith in entries_split i 1 0 ∙ ap (λ (j : ℕ). entries_from at i 0 ++ (at j ∷ [])) e

  -- in a loop up to n: what is left begins with the entry at hand, and at the end nothing is left
  pub entries_next : (n i : ℕ) → i < n → entries_from at (n - i) i ≡ at i ∷ entries_from at (n - (i + 1)) (i + 1)
  unfolding entries_from
  entries_next n i h = let e : n - i ≡ suc (n - (i + 1)) = omega arith in ap (λ (k : ℕ). entries_from at k i) e

  pub entries_none : (n i : ℕ) → n ≤ i → entries_from at (n - i) i ≡ []
  unfolding entries_from
  entries_none n i h = let e : n - i ≡ 0 = omega arith in ap (λ (k : ℕ). entries_from at k i) e

-- entries that are the same one by one
pub entries_same : {A : Type 0} (at to : ℕ → A) (k i j : ℕ) → ((m : ℕ) → m < k → at (i + m) ≡ to (j + m)) → entries_from at k i ≡ entries_from to k j
unfolding entries_from
entries_same at to zero i j e = refl
entries_same {A} at to (suc k) i j e =
    let z : at i ≡ to j = ap at (sym (add-zero i)) ∙ e 0 (omega arith) ∙ ap to (add-zero j) in
    ap₂ (λ (x : A) (l : List A). x ∷ l) z
    (entries_same at to k (i + 1) (j + 1)
    (λ m h. let a : i + 1 + m ≡ i + (m + 1) = omega arith in let b : j + (m + 1) ≡ j + 1 + m = omega arith in ap at a ∙ e (m + 1) (omega arith) ∙ ap to b))

pub joined_append : {A : Type 0} (enc : A → List ℕ) (es fs : List A) → joined enc (es ++ fs) ≡ joined enc es ++ joined enc fs
unfolding joined
joined_append enc [] fs = refl
joined_append enc (e ∷ es) fs = ap (λ (l : List ℕ). enc e ++ l) (joined_append enc es fs) ∙ sym (append_assoc (enc e) (joined enc es) (joined enc fs))

module _ {A : Type 0} {size : ℕ} {at : List ℕ → ℕ → A} {enc : A → List ℕ} (y : Entry size at enc) where
  -- the first octets decide the first entries
  pub entries_take : (n : ℕ) (s : List ℕ) (k : ℕ) → k * size ≤ n → entries_from (at (take n s)) k 0 ≡ entries_from (at s) k 0
  entries_take n s k h =
      entries_same (at (take n s)) (at s) k 0 0
      (λ m l. y.own (take n s) s (0 + m) (0 + m)
      (λ j g. let a = suc-mul (0 + m) size in
      let b = mul-le-mul_right size (let c : suc (0 + m) ≤ k = omega arith in c) in
      get_or-take n s ((0 + m) * size + j) 0 (omega arith)))

  -- an entry after another one's octets
  pub entry_after : (e : A) (s : List ℕ) (i : ℕ) → at (enc e ++ s) (i + 1) ≡ at s i
  entry_after e s i =
      let n = y.long e in
      let a = add-mul i 1 size in
      let b = suc-mul 0 size in
      y.own (enc e ++ s) s (i + 1) i
      (λ m k. let p : (i + 1) * size + m ≡ length (enc e) + (i * size + m) = omega arith in
      ap (λ (j : ℕ). get_or (enc e ++ s) j 0) p ∙ get_or-append-add (enc e) s (i * size + m) 0)

  pub joined_length : (es : List A) → length (joined enc es) ≡ length es * size
  unfolding joined
  joined_length [] = sym (zero-mul size)
  joined_length (e ∷ es) =
      let i = joined_length es in let l = length-append (enc e) (joined enc es) in let n = y.long e in let m = suc-mul (length es) size in omega arith

  pub joined_entries : (es : List A) → entries_from (at (joined enc es)) (length es) 0 ≡ es
  unfolding joined entries_from
  joined_entries [] = refl
  joined_entries (e ∷ es) =
      ap₂ (λ (x : A) (l : List A). x ∷ l) (y.back e (joined enc es))
      (entries_same (at (enc e ++ joined enc es)) (at (joined enc es)) (length es) 1 0
      (λ m h. let p : 1 + m ≡ 0 + m + 1 = omega arith in ap (at (enc e ++ joined enc es)) p ∙ entry_after e (joined enc es) (0 + m))
      ∙ joined_entries es)

  pub joined_entry : (d : A) (es : List A) (i : ℕ) → i < length es → at (joined enc es) i ≡ get_or es i d
  joined_entry d es i h = sym (entry_of_lem (at (joined enc es)) d (length es) i h) ∙ ap (λ (l : List A). get_or l i d) (joined_entries es)

  -- octets that were made of entries are cut into them, and none is left over
  pub joined_whole : (es : List A) → whole_entries size at (joined enc es) ≡ es
  joined_whole es =
      ap (λ (k : ℕ). entries_from (at (joined enc es)) k 0) (ap (λ (n : ℕ). n / size) (joined_length es) ∙ mul-div_cancel (length es) y.some) ∙ joined_entries es

  pub joined_rest : (es : List A) → length (joined enc es) % size ≡ 0
  joined_rest es = ap (λ (n : ℕ). n % size) (joined_length es) ∙ mul-mod_left (length es) size

  -- an octet of entries is one of the entry that it stands in
  pub joined_octet : (d : A) (es : List A) (i m : ℕ) → i < length es → m < size → get_or (joined enc es) (i * size + m) 0 ≡ get_or (enc (get_or es i d)) m 0
  unfolding joined
  joined_octet d [] i m h g = absurd (omega arith)
  joined_octet d (e ∷ es) zero m h g =
      let n = y.long e in
      let z = zero-mul size in
      let p : 0 * size + m ≡ m = omega arith in
      ap (λ (j : ℕ). get_or (enc e ++ joined enc es) j 0) p ∙ get_or-append (enc e) (joined enc es) 0 m (omega arith)
  joined_octet d (e ∷ es) (suc i) m h g =
      let n = y.long e in
      let z = suc-mul i size in
      let p : suc i * size + m ≡ length (enc e) + (i * size + m) = omega arith in
      ap (λ (j : ℕ). get_or (enc e ++ joined enc es) j 0) p ∙ get_or-append-add (enc e) (joined enc es) (i * size + m) 0 ∙ joined_octet d es i m (omega arith) g

  -- octets of whole entries are those that their entries are put as, if each entry's own are
  pub whole_joined : A → (s : List ℕ) → length s % size ≡ 0
      → ((i m : ℕ) → i < length s / size → m < size → get_or (enc (at s i)) m 0 ≡ get_or s (i * size + m) 0) → joined enc (whole_entries size at s) ≡ s
  whole_joined d s none own =
      let count = length_entries (at s) (length s / size) 0 in
      let whole : length s / size * size ≡ length s = let e = div-add-mod' (length s) size in omega arith in
      let long : length (joined enc (whole_entries size at s)) ≡ length s =
      joined_length (whole_entries size at s) ∙ ap (λ (k : ℕ). k * size) count ∙ whole in
      ext_get_or 0 (joined enc (whole_entries size at s)) s long
      (λ k h.
      let e = div-add-mod' k size in
      let l : k < length s / size * size = omega arith in
      let i : k / size < length s / size = (div-lt_iff_lt-mul y.some).1 l in
      let m = mod-lt k y.some in
      ap (λ (j : ℕ). get_or (joined enc (whole_entries size at s)) j 0) (sym e)
      ∙ joined_octet d (whole_entries size at s) (k / size) (k % size) (omega arith) m
      ∙ ap (λ (x : A). get_or (enc x) (k % size) 0) (entry_of_lem (at s) d (length s / size) (k / size) i)
      ∙ own (k / size) (k % size) i m
      ∙ ap (λ (j : ℕ). get_or s j 0) e)
