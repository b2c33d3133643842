-- Octets put one after the other are put together.
-- Assumes nothing.
use Prim.Native.Nat.{ℕ, ◌+◌, ◌≤◌}
use native.Mathlib.Omega.{arith}
use mathlib.Core.Path.{◌≡◌, refl, ◌∙◌}
use mathlib.Core.List.{List, [], ◌∷◌, ◌++◌}
use lib.ListN.{length}
use borrow.Author.Rules.{rules}
use Rattle.octets.specs.Octets.{octets16, octets32, put_at}
use Rattle.octets.proofs.Laws.{put_put}
use Rattle.segment_rules.specs.Rules.{version_octet, mode_octet}
use Rattle.start_rules.specs.declared.Head.{Head}
use Rattle.start_rules.specs.Grammar.{mark_of, start_of}
use Rattle.write_start.specs.Parts.{begin_with, start_fields}

-- what was put from a place on, and one more after it
pub put_more : (d : List ℕ) (at : ℕ) (l : List ℕ) {e f : List ℕ} (p : ℕ) (v : List ℕ) → at ≤ length d → e ≡ put_at d at l → p ≡ at + length l → f ≡ put_at e p v
    → f ≡ put_at d at (l ++ v)
put_more d at l p v h e q f = f ∙ rw (e, q) (put_put d at l v h)

pub begun : (d : List ℕ) (at size : ℕ) (ident : List ℕ) {e1 e2 e3 : List ℕ} → at + 8 ≤ length d → e1 ≡ put_at d at (0xFF ∷ 0xED ∷ []) → e2 ≡ put_at e1 (at + 2) (octets16 size)
    → e3 ≡ put_at e2 (at + 4) ident → e3 ≡ put_at d at (begin_with size ident)
unfolding octets16
begun d at size ident l a b c = put_more d at _ (at + 4) _ (omega arith) (put_more d at _ (at + 2) _ (omega arith) a refl b) refl c

pub start_marked : (d : List ℕ) {e1 e2 : List ℕ} → e1 ≡ put_at d 0 (0xFF ∷ 0xD8 ∷ []) → e2 ≡ put_at e1 2 (begin_with 16 (0x4D ∷ 0x52 ∷ 0x43 ∷ 0x00 ∷ [])) → e2 ≡ put_at d 0 mark_of
unfolding octets16
start_marked d a b = put_more d 0 _ 2 _ (omega arith) a refl b

pub start_filled : (d : List ℕ) (hd : Head) (v m : ℕ) {width : ℕ} {e1 e2 e3 e4 : List ℕ} → 22 ≤ length d → v ≡ version_octet hd.rules.version → m ≡ mode_octet hd.rules.mode → width ≡ hd.width
    → e1 ≡ put_at d 10 (v ∷ m ∷ hd.mask ∷ hd.image ∷ [])
    → e2 ≡ put_at e1 14 (octets16 hd.main) → e3 ≡ put_at e2 16 (octets32 width) → e4 ≡ put_at e3 20 (0xFF ∷ 0xD9 ∷ []) → e4 ≡ put_at d 10 (start_fields hd)
unfolding octets16 octets32
start_filled d hd v m l p q w a b c x = put_more d 10 _ 20 _ (omega arith) (put_more d 10 _ 16 _ (omega arith) (put_more d 10 _ 14 _ (omega arith) a refl b) refl c) refl x ∙ rw (p, q, w) refl

pub start_whole : (d : List ℕ) (hd : Head) {e f : List ℕ} → e ≡ put_at d 0 mark_of → f ≡ put_at e 10 (start_fields hd) → f ≡ put_at d 0 (start_of hd)
unfolding start_of
start_whole d hd a b = put_more d 0 mark_of 10 (start_fields hd) (omega arith) a refl b

pub ruleset starting = (rules, start_marked, start_whole)
