-- A Mode 1 stripe read step by step: what is known before each step, and what it comes to.
--
--   Fit f                    fields that the records hold: the height, and the offsets of the layers that the type names
--   Laying out s f at first  the fields are fine, their coded data begins at a place of a page, and the scratch has room for the records from a number on
--   layered hd k f s at      the stripe of these fields, whose coded layers begin at a place
--   Ready out s left at first    a stripe's body stands at a place of a page
--   step_of, laid_of           what the reading of a stripe comes to, and the scratch afterwards
use Rattle.std.specs.Prelude.{ℕ, ◌+◌, ◌*◌, ◌≤◌, ◌≡◌, true, List, length, Result, Ok, Err}
use Rattle.octets.specs.Octets.{put_at}
use Rattle.field_rules.specs.Field.{Res, ok, no, bind}
use Rattle.sheet_rules.specs.declared.Record.{Record}
use Rattle.sheet_rules.specs.Record.{record_size, sheet_of}
use Rattle.segment_rules.specs.declared.Mode.TheVariants.{One}
use Rattle.segment_rules.specs.Rules.{most_layers, longest_page}
use Rattle.start_rules.specs.declared.Head.{Head}
use Rattle.body_rules.specs.Body.{Item, skipped, striped}
use Rattle.mode1_rules.specs.declared.Fields.{Fields}
use Rattle.mode1_rules.specs.Kinds.{has_back, has_fore}
use Rattle.mode1_rules.specs.Reading.{layers_of}
use Rattle.read_stripe.specs.declared.Laid.{Laid}
use Rattle.answers.specs.declared.Refusal.{Refusal}

pub record Fit (f : Fields) : Type 0 where
  pub height : f.height ≤ 65535
  pub back : has_back f.kind ≡ true → (f.back_x ≤ 65535) × (f.back_y ≤ 65535)
  pub fore : has_fore f.kind ≡ true → (f.fore_x ≤ 65535) × (f.fore_y ≤ 65535)

pub record Laying (out s : List ℕ) (f : Fields) (at first : ℕ) : Type 0 where
  pub holds : (first + most_layers One) * record_size ≤ length out
  pub inside : at ≤ length s
  pub small : length s ≤ longest_page
  pub fit : Fit f

pub record Ready (out s : List ℕ) (left at first : ℕ) : Type 0 where
  pub holds : (first + most_layers One) * record_size ≤ length out
  pub inside : at ≤ length s
  pub small : length s ≤ longest_page
  pub low : left ≤ 65535

unfoldable pub layered : Head → ℕ → Fields → List ℕ → ℕ → Res Item
unfolding bind
layered hd k f s at = bind (layers_of hd k f s at) (λ (rs : List Record) (e : ℕ). ok (striped f.height rs) e)

unfoldable pub step_of : Res Item → Result Laid Refusal
step_of (ok skipped e) = Ok (record { next = e; height = 0; records = 0 })
step_of (ok (striped height rs) e) = Ok (record { next = e; height = height; records = length rs })
step_of (no a) = Err a

unfoldable pub laid_of : List ℕ → ℕ → Res Item → List ℕ
laid_of out first (ok skipped e) = out
laid_of out first (ok (striped height rs) e) = put_at out (first * record_size) (sheet_of rs)
laid_of out first (no a) = out
