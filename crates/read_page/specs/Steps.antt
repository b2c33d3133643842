-- A page after its start, and the sheet: what each step is promised to come to, in the words of `page_rules`.
--
--   page_sheet                the octets of the records of 64 stripes
--   Lent out s               a page that is not too long, and the scratch
--   Begun out s              the same, behind a start that is fine
--   rest_of hd s              the page after its start
--   Judges x out r out'      the verdict is that of a reading x, and its records are laid in front
--   Emits laid n d a e       so many records of what is laid, put in front of a sheet that has room for them
use Rattle.std.specs.Prelude.{ℕ, ◌*◌, ◌≤◌, cond, ◌≡◌, List, [], length, take, drop, ltb, Result, Ok, Err}
use Rattle.octets.specs.Octets.{put_at}
use Rattle.answers.specs.Answers.{Answer}
use Rattle.answers.specs.declared.Refusal.TheVariants.{NoRoom}
use Rattle.field_rules.specs.Field.{Res, ok, no, bind, fields}
use Rattle.sheet_rules.specs.declared.Record.{Record}
use Rattle.sheet_rules.specs.Record.{record_size, sheet_of}
use Rattle.segment_rules.specs.declared.Mode.TheVariants.{One}
use Rattle.segment_rules.specs.Rules.{most_layers, longest_page}
use Rattle.start_rules.specs.declared.Head.{Head}
use Rattle.body_rules.specs.Body.{body_from}
use Rattle.page_rules.specs.Reading.{item_of, zeros_of, end_table}
use Rattle.answers.specs.declared.Refusal.{Refusal}

abbrev pub page_sheet : ℕ
page_sheet = 64 * most_layers One * record_size

pub record Lent (out s : List ℕ) : Type 0 where
  pub small : length s ≤ longest_page
  pub room : length out ≡ page_sheet

pub record Begun (out s : List ℕ) : Type 0 where
  pub long : 22 ≤ length s
  pub lent : Lent out s

unfoldable pub rest_of : Head → List ℕ → Res (List Record)
unfolding bind
rest_of hd s =
    bind (body_from (item_of hd) (length s) 0 65535 [] s 22) (λ (rs : List Record) (m : ℕ).
    bind (fields end_table [] s m) (λ (es : List ℕ) (e : ℕ). bind (zeros_of (drop e s) e) (λ (z end : ℕ). ok rs end)))

pub record PageRead (x : Res (List Record)) (out : List ℕ) (count : ℕ) (out' : List ℕ) : Type 0 where
  pub records : List Record
  pub end : ℕ
  pub same : x ≡ ok records end
  pub laid : out' ≡ put_at out 0 (sheet_of records)
  pub counted : count ≡ length records
  pub fits : count * record_size ≤ length out

abbrev pub Judges : Res (List Record) → List ℕ → Result ℕ Refusal → List ℕ → Type 0
Judges x out (Ok count) out' = PageRead x out count out'
Judges x out (Err a) out' = x ≡ no a

pub record Emits (laid : List ℕ) (count : ℕ) (d : List ℕ) (a : Answer) (e : List ℕ) : Type 0 where
  pub answers : a ≡ cond (ltb (length d) (count * record_size)) (Err NoRoom) (Ok count)
  pub holds : e ≡ cond (ltb (length d) (count * record_size)) d (put_at d 0 (take (count * record_size) laid))
