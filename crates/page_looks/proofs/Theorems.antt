-- What is proved of how far reading looked at a page that it refuses. The statements are for the reader; how each is shown stands in the files beside
-- this one.
-- Assumes nothing.
use Rattle.std.specs.Prelude.{Err}
use Prim.Native.Nat.{ℕ, ◌+◌, ◌*◌, ◌≤◌, ◌<◌}
use mathlib.Core.Path.{◌≡◌, ap, ◌∙◌}
use mathlib.Core.Logic.{◌≢◌}
use mathlib.Core.Bool.{Bool, cond}
use mathlib.Core.List.{List}
use lib.ListN.{length}
use lib.Dec.{ltb}
use borrow.Author.Tests.{le-ltb}
use Rattle.octets.specs.Octets.{Octets}
use Rattle.octets.proofs.Agree.{Agree}
use Rattle.laws.proofs.Cases.{cond_with, clash}
use Rattle.answers.specs.declared.Refusal.{Refusal}
use Rattle.answers.specs.Answers.{refusal_place}
use Rattle.answers.specs.declared.Refusal.TheVariants.{Short, NoRoom, TooLong}
use Rattle.field_rules.specs.Field.{Res, ok, no}
use Rattle.segment_rules.specs.Rules.{longest_page}
use Rattle.sheet_rules.specs.declared.Record.{Record}
use Rattle.sheet_rules.specs.Record.{record_size}
use Rattle.page_rules.specs.Reading.{page_of, room_of, read_of}
use Rattle.page_looks.proofs.Looked.{beyond, fill_by}
use Rattle.page_looks.proofs.Page.{page_look}
use Rattle.page_looks.proofs.Decided.{page_looked}

-- ---- a refusal other than Short, TooLong and NoRoom is decided by the octets up to where reading looked: up to the end of the field at fault, of
-- the ident after a length, of the JPEG body. Every page that agrees so far gets the same refusal

pub page_decided : (s : List ℕ) → Octets s → (a : Refusal) → page_of s ≡ no a → ((p : ℕ) → a ≡ Short p → ⊥) → (t : List ℕ) → Agree (page_look s) s t → page_of t ≡ no a
page_decided s o a q u t g = (page_looked s o a q u).hangs.same t g ∙ q

-- that is past the place of the refusal, within the page, and no further than a field of its kind reaches, fill before a layer's marker apart
pub page_near : (s : List ℕ) → Octets s → (a : Refusal) → page_of s ≡ no a → ((p : ℕ) → a ≡ Short p → ⊥)
    → (refusal_place a < page_look s) × (page_look s ≤ length s) × (page_look s ≤ refusal_place a + (fill_by s a + beyond a))
page_near s o a q u =
    let k = page_looked s o a q u in
    let n = k.near a q in
    (n.past, k.hangs.inside, n.most)

pub record Decisive (a : Refusal) : Type 0 where
  pub not_short : (p : ℕ) → a ≡ Short p → ⊥
  pub not_too_long : a ≢ TooLong
  pub not_no_room : a ≢ NoRoom

read_page : (s : List ℕ) (room : ℕ) (a : Refusal) → Decisive a → read_of s room ≡ Err a → page_of s ≡ no a
unfolding read_of room_of
read_page s room a d =
    cond_with (λ x. x ≡ Err a → page_of s ≡ no a) (ltb longest_page (length s)) (λ t q. absurd (d.not_too_long cc)) λ t. by (page_of s)
  where
    by : (r : Res (List Record)) → room_of room r ≡ Err a → r ≡ no a
    by (ok rs n) =
        cond_with (λ x. x ≡ Err a → ok rs n ≡ no a) (ltb room (length rs * record_size)) (λ t q. absurd (d.not_no_room cc)) (λ t q. clash cc)
    by (no b) = λ q. let z : b ≡ a = cc in ap no z

pub read_decided : (s : List ℕ) → Octets s → (room : ℕ) (a : Refusal) → read_of s room ≡ Err a → Decisive a → (t : List ℕ) → length t ≤ longest_page → Agree (page_look s) s t
    → (other : ℕ) → read_of t other ≡ Err a
unfolding read_of room_of
read_decided s o room a q d t h g other =
    let e = page_decided s o a (read_page s room a d q) d.not_short t g in
    ap (λ (b : Bool). cond b (Err TooLong) (room_of other (page_of t))) (le-ltb longest_page (length t) h) ∙ ap (room_of other) e
