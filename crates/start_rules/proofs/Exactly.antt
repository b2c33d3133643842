-- The start of page is read exactly where it stands, and refused exactly as the sentences say.
-- Assumes nothing.
use Prim.Native.Nat.{ℕ}
use native.Mathlib.Omega.{arith}
use mathlib.Core.Path.{sym, subst}
use mathlib.Core.List.{List, []}
use Rattle.field_rules.specs.Field.{fields}
use Rattle.field_rules.specs.Stands.{Stands}
use Rattle.field_rules.specs.Fault.{Faulted}
use Rattle.field_rules.specs.Part.{Exact, Mapped, mapped}
use Rattle.field_rules.proofs.Parts.{exact_as, exact_map, exact_fields}
use Rattle.start_rules.specs.declared.Head.{Head}
use Rattle.start_rules.specs.Grammar.{start_of, Start, start}
use Rattle.start_rules.specs.Reading.{start_table, head_from, start_read}
use Rattle.start_rules.specs.Faults.{BadStart}
use Rattle.start_rules.proofs.Start.{start_numbers, head_from_lem, start_stands, start_apart}
use Rattle.start_rules.proofs.Faults.{faulted_start, start_faulted}

abbrev Stood : List ℕ → List ℕ → Type 0
Stood l vs = Stands start_table [] vs l

pub start_exact : (s : List ℕ) → Exact (start_read s 0) Start BadStart s 0
unfolding start_read
start_exact s =
    exact_as (exact_map (fields start_table [] s 0) head_from Stood (Faulted start_table [] 0) s 0 (omega arith) (exact_fields start_table [] s 0 (omega arith)))
    (λ l hd b. to b) (λ l hd b. fro b) faulted_start start_faulted
  where
    to : {l : List ℕ} {hd : Head} → Mapped head_from Stood l hd → Start l hd
    to (mapped vs st) = start_apart (λ (vs l : List ℕ). Start l (head_from vs)) st (λ hd g. subst (Start (start_of hd)) (sym (head_from_lem hd)) (start hd g))

    fro : {l : List ℕ} {hd : Head} → Start l hd → Mapped head_from Stood l hd
    fro (start hd g) = subst (Mapped head_from Stood (start_of hd)) (head_from_lem hd) (mapped (start_numbers hd) (start_stands hd g))
