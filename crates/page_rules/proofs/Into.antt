-- What the sheet's buffer holds after reading: the records of the page in front where the answer is Done, and else what it held before.
-- Assumes nothing.
use Rattle.std.specs.Prelude.{Ok, Err}
use Prim.Native.Nat.{ℕ, ◌+◌, ◌*◌, ◌≤◌}
use native.Mathlib.Omega.{arith}
use mathlib.Core.Path.{◌≡◌, refl, sym, ap, subst, ◌∙◌}
use mathlib.Core.Logic.{◌⊎◌, inl, inr}
use mathlib.Core.Bool.{Bool, true, false, cond}
use mathlib.Core.List.{List}
use lib.ListN.{length, take, drop}
use lib.Dec.{ltb}
use borrow.Author.Tests.{le-ltb, ltb-false}
use Rattle.octets.specs.Octets.{Octets, put_at}
use Rattle.octets.proofs.Laws.{put_back, put_rest, put_length}
use Rattle.octets.proofs.Entries.{joined_length}
use Rattle.segment_rules.specs.Rules.{longest_page}
use Rattle.laws.proofs.Cases.{clash}
use Rattle.answers.specs.declared.Refusal.{Refusal}
use Rattle.answers.specs.Answers.{Answer}
use Rattle.answers.specs.declared.Refusal.TheVariants.{NoRoom, TooLong}
use Rattle.field_rules.specs.Field.{Res, ok, no}
use Rattle.sheet_rules.specs.declared.Record.{Record}
use Rattle.sheet_rules.specs.Record.{record_size, sheet_of, records}
use Rattle.sheet_rules.specs.Sentences.{Sheet, stripe_count, GoodSheet}
use Rattle.sheet_rules.proofs.Cut.{sheet_back, sheet_whole, record_entry}
use Rattle.page_rules.specs.Grammar.{Page}
use Rattle.page_rules.specs.Reading.{page_of, room_of, read_of, into_of, read_into}
use Rattle.page_rules.proofs.Exactly.{page_back}
use Rattle.page_rules.proofs.Parts.{page_accepted}

-- the page is refused, or there is no room, or it is too long
abbrev Refuses : List ℕ → Refusal → Type 0
Refuses s a = (page_of s ≡ no a) ⊎ ((a ≡ NoRoom) ⊎ (a ≡ TooLong))

-- by what reading answers: a refusal leaves the buffer, and Done puts the records of the page in front
module _ (s d : List ℕ) (P : Answer → List ℕ → Type 0) where
  into_room : (r : Res (List Record)) → page_of s ≡ r → ((a : Refusal) → Refuses s a → P (Err a) d)
      → ((rs : List Record) (n : ℕ) → page_of s ≡ ok rs n → length rs * record_size ≤ length d → P (Ok (length rs)) (put_at d 0 (sheet_of rs)))
      → P (room_of (length d) r) (into_of d r)
  unfolding room_of into_of
  into_room (ok rs n) e bad good = by (ltb (length d) (length rs * record_size)) refl
    where
      by : (b : Bool) → ltb (length d) (length rs * record_size) ≡ b → P (cond b (Err NoRoom) (Ok (length rs))) (cond b d (put_at d 0 (sheet_of rs)))
      by true t = bad NoRoom (inr (inl refl))
      by false t = good rs n e (ltb-false (length d) (length rs * record_size) t)
  into_room (no a) e bad good = bad a (inl e)

  by_answer : ((a : Refusal) → Refuses s a → P (Err a) d)
      → (length s ≤ longest_page → (rs : List Record) (n : ℕ) → page_of s ≡ ok rs n → length rs * record_size ≤ length d → P (Ok (length rs)) (put_at d 0 (sheet_of rs)))
      → P (read_of s (length d)) (read_into s d)
  unfolding read_of read_into
  by_answer bad good = by (ltb longest_page (length s)) refl
    where
      by : (b : Bool) → ltb longest_page (length s) ≡ b → P (cond b (Err TooLong) (room_of (length d) (page_of s))) (cond b d (into_of d (page_of s)))
      by true t = bad TooLong (inr (inr refl))
      by false t = into_room (page_of s) refl bad (good (ltb-false longest_page (length s) t))

-- ---- a page that is not too long, and room for its sheet

pub page_into : (s d : List ℕ) (rs : List Record) (n : ℕ) → page_of s ≡ ok rs n → length s ≤ longest_page → length rs * record_size ≤ length d
    → (read_of s (length d) ≡ Ok (length rs)) × (read_into s d ≡ put_at d 0 (sheet_of rs))
unfolding read_of room_of read_into into_of
page_into s d rs n e short room = (
  simp (le-ltb longest_page (length s) short, e, le-ltb (length d) (length rs * record_size) room) refl,
  simp (le-ltb longest_page (length s) short, e, le-ltb (length d) (length rs * record_size) room) refl,
)

-- ---- a refusal changes no octet, and no answer changes the buffer's length or the octets past the sheet

pub into_kept : (s d : List ℕ) → ((n : ℕ) → read_of s (length d) ≡ Ok n → ⊥) → read_into s d ≡ d
into_kept s d =
    by_answer s d (λ a e. ((n : ℕ) → a ≡ Ok n → ⊥) → e ≡ d) (λ a y n. refl) (λ l rs n e h no_done. absurd (no_done (length rs) refl))

pub into_length : (s d : List ℕ) → length (read_into s d) ≡ length d
into_length s d =
    by_answer s d (λ a e. length e ≡ length d) (λ a y. refl)
    (λ l rs n e h. put_length d 0 (sheet_of rs) (let z = joined_length record_entry rs in omega arith))

pub into_rest : (s d : List ℕ) (n : ℕ) → read_of s (length d) ≡ Ok n → drop (n * record_size) (read_into s d) ≡ drop (n * record_size) d
into_rest s d n =
    by_answer s d (λ a e. a ≡ Ok n → drop (n * record_size) e ≡ drop (n * record_size) d) (λ a y q. clash cc)
    (λ l rs m e h q.
    let c : length rs ≡ n = cc in
    let z = joined_length record_entry rs in
    let p : n * record_size ≡ 0 + length (sheet_of rs) = omega arith in
    ap (λ (k : ℕ). drop k (put_at d 0 (sheet_of rs))) p ∙ put_rest d 0 (sheet_of rs) (omega arith) ∙ ap (λ (k : ℕ). drop k d) (sym p))

-- ---- Done: what stands in front is the page's sheet, and one that the judge accepts

pub record Front (s : List ℕ) (n : ℕ) (front : List ℕ) : Type 0 where
  pub list : List Record
  pub page : Page s list
  pub octets : front ≡ sheet_of list
  pub cut : records front ≡ list
  pub good : GoodSheet front n (stripe_count list)

pub into_front : (s d : List ℕ) → Octets s → (n : ℕ) → read_of s (length d) ≡ Ok n → Front s n (take (n * record_size) (read_into s d))
into_front s d o n =
    by_answer s d (λ a e. a ≡ Ok n → Front s n (take (n * record_size) e)) (λ a y q. clash cc)
    (λ l rs m e h q.
    let c : length rs ≡ n = cc in
    let z = joined_length record_entry rs in
    let p : n * record_size ≡ length (sheet_of rs) = omega arith in
    let f : take (n * record_size) (put_at d 0 (sheet_of rs)) ≡ sheet_of rs = ap (λ (k : ℕ). take k (put_at d 0 (sheet_of rs))) p ∙ put_back d 0 (sheet_of rs) (omega arith) in
    let g = (page_back s o rs m e).0 in
    subst (Front s n) (sym f)
    (record {
      list = rs;
      page = g;
      octets = refl;
      cut = sheet_back rs;
      good =
          record {
            sheet = subst Sheet (sym (sheet_back rs)) (page_accepted s rs g l);
            whole = sheet_whole rs;
            count = sym c ∙ ap length (sym (sheet_back rs));
            stripes = ap stripe_count (sym (sheet_back rs));
          };
    }))
