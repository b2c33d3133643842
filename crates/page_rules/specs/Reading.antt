-- Reading a page (01, "The page, Mode 1" and "Numbers that a call returns"): the first fault in page order, or the records of its sheet.
--
--   due_at            what may stand behind k stripes: before the first an optional segment or a stripe, then only a stripe, and no 65th
--   due_with          .. with a stripe's body of so many octets
--   stripe_read_in     a stripe from its body on, by the mode
--   item_of           one turn: an optional segment or a stripe
--   page_of s         the whole page: its records, or the refusal
--   read_of s room    what the call answers, where the buffer holds so many octets
--   read_into s d     what the buffer holds afterwards
--   Reads s d a e    the call's promise: it answers a, and the buffer d is then e
use Rattle.std.specs.Prelude.{ℕ, suc, ◌*◌, ◌≡◌, Bool, ◌&&◌, ◌||◌, cond, List, [], ◌∷◌, length, drop, eqb, ltb, Ok, Err}
use Rattle.octets.specs.Octets.{put_at}
use Rattle.laws.specs.Tests.{within}
use Rattle.answers.specs.Answers.{Answer}
use Rattle.answers.specs.declared.Refusal.TheVariants.{BadMark, Trailing, NoRoom, TooLong}
use Rattle.field_rules.specs.Field.{Res, ok, no, bind, Field, mark, fields}
use Rattle.sheet_rules.specs.declared.Record.{Record}
use Rattle.sheet_rules.specs.Record.{record_size, sheet_of}
use Rattle.segment_rules.specs.declared.Mode.{Mode}
use Rattle.segment_rules.specs.declared.Mode.TheVariants.{One}
use Rattle.segment_rules.specs.Rules.{longest_page}
use Rattle.segment_rules.specs.Segment.{passed, sized, Due, segment_of}
use Rattle.start_rules.specs.declared.Head.{Head}
use Rattle.start_rules.specs.Reading.{start_read}
use Rattle.body_rules.specs.Body.{end_mark, Item, skipped, body_from}
use Rattle.mode1_rules.specs.Reading as M1
use Rattle.page_rules.specs.Grammar.{body_in}

-- ---- one turn

-- before the first stripe 01 or 03 to FE, then only 01
abbrev pub ident_ok : ℕ → ℕ → Bool
ident_ok k n = eqb n 0x01 || eqb k 0 && within 0x03 0xFE n

-- a stripe has a body of its own, an optional segment is passed over
abbrev pub due_with : ℕ → ℕ → Due
due_with size k =
    record {
      may = ident_ok k;
      full = λ (n : ℕ). eqb n 0x01 && eqb k 64;
      body = λ (n : ℕ). cond (eqb n 0x01) (sized size) passed;
    }

abbrev pub due_at : Mode → ℕ → Due
due_at mode k = due_with (body_in mode) k

abbrev pub stripe_read_in : Mode → Head → ℕ → ℕ → List ℕ → ℕ → Res Item
stripe_read_in One = M1.stripe_read

unfoldable pub item_of : Head → ℕ → ℕ → List ℕ → ℕ → Res Item
unfolding bind segment_of M1.stripe_read
item_of hd k left s at =
    bind (segment_of hd.rules.version (due_at hd.rules.mode k) s at) (λ (n e : ℕ).
    cond (eqb n 0x01) (stripe_read_in hd.rules.mode hd k left s e) (ok skipped e))

-- ---- the end, and the page

-- zero octets only, to the end
unfoldable pub zeros_of : List ℕ → ℕ → Res ℕ
zeros_of [] at = ok 0 at
zeros_of (x ∷ l) at = cond (eqb x 0) (zeros_of l (suc at)) (no (Trailing at))

-- the second FF D9 of the end
unfoldable pub end_table : List Field
end_table = mark end_mark BadMark ∷ []

unfoldable pub page_of : List ℕ → Res (List Record)
unfolding bind start_read item_of body_from zeros_of
page_of s =
    bind (start_read s 0) (λ (hd : Head) (n : ℕ).
    bind (body_from (item_of hd) (length s) 0 65535 [] s n) (λ (rs : List Record) (m : ℕ).
    bind (fields end_table [] s m) (λ (es : List ℕ) (e : ℕ).
    bind (zeros_of (drop e s) e) (λ (z end : ℕ). ok rs end))))

-- ---- the call: TooLong first, then the page, NoRoom last

unfoldable pub room_of : ℕ → Res (List Record) → Answer
room_of room (ok rs n) = cond (ltb room (length rs * record_size)) (Err NoRoom) (Ok (length rs))
room_of room (no a) = Err a

unfoldable pub read_of : List ℕ → ℕ → Answer
unfolding page_of room_of
read_of s room = cond (ltb longest_page (length s)) (Err TooLong) (room_of room (page_of s))

-- the sheet's octets in front, and the octets past them as they were; a refusal changes nothing
unfoldable pub into_of : List ℕ → Res (List Record) → List ℕ
into_of d (ok rs n) = cond (ltb (length d) (length rs * record_size)) d (put_at d 0 (sheet_of rs))
into_of d (no a) = d

unfoldable pub read_into : List ℕ → List ℕ → List ℕ
unfolding page_of into_of
read_into s d = cond (ltb longest_page (length s)) d (into_of d (page_of s))

pub record Reads (s d : List ℕ) (a : Answer) (e : List ℕ) : Type 0 where
  pub answers : a ≡ read_of s (length d)
  pub holds : e ≡ read_into s d
