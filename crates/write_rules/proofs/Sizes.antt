-- The page's size: what each record adds, added up.
-- Assumes nothing.
use Prim.Native.Nat.{ℕ, ◌+◌}
use native.Mathlib.Omega.{arith}
use mathlib.Core.Path.{◌≡◌, refl, sym, ◌∙◌}
use mathlib.Core.List.{List, [], ◌∷◌}
use lib.ListN.{length}
use Rattle.segment_rules.specs.declared.Mode.{Mode}
use Rattle.sheet_rules.specs.declared.Record.{Record}
use Rattle.sheet_rules.specs.Record.{sum_of}
use Rattle.write_rules.specs.declared.Tally.{Tally}
use Rattle.write_rules.specs.Modes.{head_in}
use Rattle.write_rules.specs.Sentences.{start_size, page_end, size_of, sheet_main}
use Rattle.write_rules.specs.Writing.{begun}
use Rattle.write_rules.proofs.Passed.{size_in, Passed}

sum_both : (f g : Record → ℕ) (rs : List Record) → sum_of (λ (r : Record). f r + g r) rs ≡ sum_of f rs + sum_of g rs
unfolding sum_of
sum_both f g [] = refl
sum_both f g (r ∷ rs) = let i = sum_both f g rs in omega arith

pub size_each : (mode : Mode) (rs : List Record) → size_of mode rs ≡ start_size + length page_end + sum_of (size_in mode) rs
unfolding size_of
size_each mode rs = let s = sum_both (head_in mode) (λ (r : Record). r.len) rs in omega arith

pub passed_size : (mode : Mode) (d : List ℕ) (u : Tally) (rs : List Record) → Passed mode d (sheet_main rs) begun u rs → u.size ≡ size_of mode rs
passed_size mode d u rs p = p.size ∙ sym (size_each mode rs)
