-- The size of a Mode 1 page, told: 26 octets, 39 a stripe, and the coded data.
-- Assumes nothing.
use Prim.Native.Nat.{ℕ, suc, ◌+◌, ◌-◌, ◌*◌, ◌<◌}
use native.Mathlib.Omega.{arith}
use mathlib.Core.Path.{◌≡◌, refl, ap, subst}
use mathlib.Core.List.{List, [], ◌∷◌, ◌++◌}
use lib.ListN.{length}
use Rattle.segment_rules.specs.declared.Mode.TheVariants.{One}
use Rattle.segment_rules.specs.Rules.{mode1}
use Rattle.sheet_rules.specs.declared.Record.{Record}
use Rattle.sheet_rules.specs.Record.{nth, sum_of}
use Rattle.sheet_rules.specs.Sentences.{Sheet, stripe_count}
use Rattle.start_rules.specs.declared.Head.{Head}
use Rattle.write_rules.specs.Cut.{together}
use Rattle.write_rules.specs.Mode1.{head1}
use Rattle.write_rules.specs.Sentences.{Low, size_of}
use Rattle.write_rules.specs.Writing.{begun, head_by}
use Rattle.write_rules.proofs.Cut.{Lots, ended, another, sheet_cut, cut_joined}
use Rattle.write_rules.proofs.Ready.{Under}
use Rattle.write_rules.proofs.Mode1.{IsThree, three, three_of, head_first, head_other}

-- a stripe in front of others adds 39, and the last one's number is theirs
front : (hd : Head) (k left : ℕ) (q rest : List Record) → IsThree hd k left q → 0 < length rest
    → (sum_of head1 (q ++ rest) ≡ 39 + sum_of head1 rest) × (stripe_count (q ++ rest) ≡ stripe_count rest)
unfolding sum_of
front hd k left (a ∷ b ∷ c ∷ []) rest (three t) h =
    let l = t.layers in
    let ea = head_first a l.0 in
    let eb = head_other b (λ z. omega arith) in
    let ec = head_other c (λ z. omega arith) in
    let z : length (a ∷ b ∷ c ∷ rest) - 1 ≡ suc (suc (suc (length rest - 1))) = omega arith in
    (omega arith, ap (λ (j : ℕ). (nth (a ∷ b ∷ c ∷ rest) j).stripe + 1) z)
front hd k left [] rest x'' h = elim x'' [ ]
front hd k left (a ∷ []) rest x6 h = elim x6 [ ]
front hd k left (a ∷ (b ∷ [])) rest x10 h = elim x10 [ ]
front hd k left (a ∷ (b ∷ (c ∷ (_ ∷ _)))) rest x16 h = elim x16 [ ]

last : (hd : Head) (k left : ℕ) (q : List Record) → IsThree hd k left q → (sum_of head1 (q ++ []) ≡ 39) × (stripe_count (q ++ []) ≡ k + 1)
unfolding sum_of
last hd k left (a ∷ b ∷ c ∷ []) (three t) =
    let l = t.layers in
    let ea = head_first a l.0 in
    let eb = head_other b (λ z. omega arith) in
    let ec = head_other c (λ z. omega arith) in
    (omega arith, ap (λ (n : ℕ). n + 1) t.stripes.2)
last hd k left [] x' = elim x' [ ]
last hd k left (a ∷ []) x4 = elim x4 [ ]
last hd k left (a ∷ (b ∷ [])) x7 = elim x7 [ ]
last hd k left (a ∷ (b ∷ (c ∷ (_ ∷ _)))) x12 = elim x12 [ ]

some : (hd : Head) (k left : ℕ) (q rest : List Record) → IsThree hd k left q → 0 < length (q ++ rest)
some hd k left (a ∷ b ∷ c ∷ []) rest (three t) = omega arith
some hd k left [] rest x' = elim x' [ ]
some hd k left (a ∷ []) rest x4 = elim x4 [ ]
some hd k left (a ∷ (b ∷ [])) rest x7 = elim x7 [ ]
some hd k left (a ∷ (b ∷ (c ∷ (_ ∷ _)))) rest x12 = elim x12 [ ]

heads_sum : (hd : Head) (rs : List Record) → Under One hd rs → {k left : ℕ} {qs : List (List Record)} → Lots rs k left qs → 0 < length qs
    → sum_of head1 (together qs) + k * 39 ≡ stripe_count (together qs) * 39
unfolding together
heads_sum hd rs u (ended p) h = absurd (omega arith)
heads_sum hd rs u {k} {left} (another {q = q} l (ended p)) h = let e = last hd k left q (three_of hd rs u k left q l) in let f = e.0 in let g = e.1 in omega arith
heads_sum hd rs u {k} {left} (another {q = q} l (another {left = more} {q = q2} {qs = qs} l2 rest)) h =
    let i = heads_sum hd rs u (another l2 rest) (omega arith) in
    let e = front hd k left q (q2 ++ together qs) (three_of hd rs u k left q l) (some hd (suc k) more q2 (together qs) (three_of hd rs u (suc k) more q2 l2)) in
    let f = e.0 in
    let g = e.1 in
    omega arith

lots_some : {rs : List Record} {left : ℕ} {qs : List (List Record)} → Lots rs 0 left qs → 0 < length qs
lots_some (ended p) = absurd (omega arith)
lots_some (another l more) = omega arith

pub size_told : (rs : List Record) → Sheet rs → Low One rs → size_of One rs ≡ 26 + stripe_count rs * 39 + sum_of (λ (r : Record). r.len) rs
unfolding size_of
size_told rs s low =
    let c = sheet_cut rs s in
    let u : Under One (head_by mode1 rs begun) rs = record { named = refl; sheet = s; low = low; main = refl; width = refl } in
    let e = subst (λ (x : List Record). sum_of head1 x + 0 * 39 ≡ stripe_count x * 39) (cut_joined rs) (heads_sum (head_by mode1 rs begun) rs u c (lots_some c)) in
    omega arith
