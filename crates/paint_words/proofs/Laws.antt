-- One law for each way out of the functions of words: its premises are what is known there.
-- Assumes nothing.
use Prim.Native.Nat.{ℕ, suc, ◌+◌, ◌*◌, ◌/◌, ◌%◌, ◌≤◌, ◌<◌}
use native.Mathlib.Omega.{arith}
use mathlib.Core.Path.{◌≡◌, refl, ◌∙◌}
use mir.Syntax.{w32}
use mathlib.Core.List.{List, [], ◌∷◌}
use lib.ListN.{length, get_or, set}
use borrow.Author.Rules.{rules}
use Rattle.std.specs.Int.{to_le_bytes}
use Rattle.octets.specs.Octets.{put_at}
use Rattle.octets.proofs.Turns.{sets_put}
use Rattle.paint_words.specs.Words.{octets_of, four_from, seen_from, grey_from}

-- ---- four octets

list4 : {a b c d a' b' c' d' : ℕ} → a ≡ a' → b ≡ b' → c ≡ c' → d ≡ d' → ◌≡◌ {A = List ℕ} (a ∷ b ∷ c ∷ d ∷ []) (a' ∷ b' ∷ c' ∷ d' ∷ [])
list4 p q r s = cc

pub word_made : (a b c d p q r s : ℕ) → (p ≡ a) × (p < 256) → (q ≡ b) × (q < 256) → (r ≡ c) × (r < 256) → (s ≡ d) × (s < 256)
    → octets_of (p + q * 256 + r * 65536 + s * 16777216) ≡ a ∷ b ∷ c ∷ d ∷ []
unfolding octets_of
word_made a b c d p q r s e f g h = list4 (omega arith) (omega arith) (omega arith) (omega arith)

pub word_read : (l : List ℕ) (i r : ℕ) → octets_of r ≡ get_or l i 0 ∷ get_or l (i + 1) 0 ∷ get_or l (i + 2) 0 ∷ get_or l (i + 3) 0 ∷ [] → octets_of r ≡ four_from l i
unfolding four_from
word_read l i r e = e

pub seen_read : (l : List ℕ) (i r : ℕ) → octets_of r ≡ get_or l i 0 ∷ get_or l (i + 1) 0 ∷ get_or l (i + 2) 0 ∷ 1 ∷ [] → octets_of r ≡ seen_from l i
unfolding seen_from
seen_read l i r e = e

pub grey_read : (l : List ℕ) (i r : ℕ) → octets_of r ≡ get_or l i 0 ∷ 128 ∷ 96 ∷ 1 ∷ [] → octets_of r ≡ grey_from l i
unfolding grey_from
grey_read l i r e = e

pub seen_made : (l : List ℕ) (i r : ℕ) → octets_of r ≡ four_from l i → octets_of (r % 16777216 + 16777216) ≡ seen_from l i
unfolding octets_of four_from seen_from
seen_made l i r e =
    let a : r % 256 ≡ get_or l i 0 = cc in
    let b : r / 256 % 256 ≡ get_or l (i + 1) 0 = cc in
    let c : r / 65536 % 256 ≡ get_or l (i + 2) 0 = cc in
    list4 (omega arith) (omega arith) (omega arith) (omega arith)

bytes_are : (w : ℕ) → w < 4294967296 → to_le_bytes w32 w ≡ octets_of w
unfolding octets_of
bytes_are w h = list4 refl refl refl (omega arith)

pub word_put : (d : List ℕ) (at w : ℕ) (b : List ℕ) → at + 4 ≤ length d → w < 4294967296 → b ≡ to_le_bytes w32 w
    → set (set (set (set d at (get_or b 0 0)) (at + 1) (get_or b 1 0)) (at + 2) (get_or b 2 0)) (at + 3) (get_or b 3 0) ≡ put_at d at (octets_of w)
unfolding octets_of
word_put d at w b h f e =
    let i : at + 1 ≡ suc at = omega arith in
    let j : at + 2 ≡ suc (suc at) = omega arith in
    let k : at + 3 ≡ suc (suc (suc at)) = omega arith in
    let g : b ≡ w % 256 ∷ w / 256 % 256 ∷ w / 65536 % 256 ∷ w / 16777216 ∷ [] = e ∙ bytes_are w f in
    rw (g, i, j, k) (sets_put d at (w % 256 ∷ w / 256 % 256 ∷ w / 65536 % 256 ∷ w / 16777216 ∷ []) h)

pub ruleset making = (rules, word_made, word_read, seen_read, grey_read, seen_made, word_put)
