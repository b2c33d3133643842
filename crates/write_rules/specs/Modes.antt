-- What hangs on the mode of a page that is written, by cases; what a mode's own case says stands in a file of its own.
--
--   head_in mode r      the octets of a stripe beside its coded data, counted record by record
--   stripe_by mode d q  the octets of the stripe whose records are q, with its coded data out of the buffer d
--   TrimIn mode .. z   a page's stripe z, from its body on, is in the writer's form
use Rattle.std.specs.Prelude.{ℕ, List}
use Rattle.segment_rules.specs.declared.Mode.{Mode}
use Rattle.segment_rules.specs.declared.Mode.TheVariants.{One}
use Rattle.sheet_rules.specs.declared.Record.{Record}
use Rattle.start_rules.specs.declared.Head.{Head}
use Rattle.page_rules.specs.Grammar.{StripeIn}
use Rattle.write_rules.specs.Mode1.{head1, stripe1, Trimmed}

abbrev pub head_in : Mode → Record → ℕ
head_in One r = head1 r

unfoldable pub stripe_by : Mode → List ℕ → List Record → List ℕ
unfolding stripe1
stripe_by One d q = stripe1 d q

abbrev pub TrimIn : (m : Mode) (hd : Head) (k left at : ℕ) (l : List ℕ) (height : ℕ) (rs : List Record) → StripeIn m hd k left at l height rs → Type 0
TrimIn One hd k left at l height rs z = Trimmed z.fields
