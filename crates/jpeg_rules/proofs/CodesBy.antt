-- By the table, row by row: each code that is an octet lies in a row, and has the sentence of its class. Apart from Codes.antt and CodesBack.antt, so that an edit
-- of the table and of these lines is refused by itself.
-- Assumes nothing.
use Prim.Native.Nat.{ℕ, ◌<◌}
use native.Mathlib.Omega.{arith}
use mathlib.Core.Path.{sym, subst}
use mathlib.Core.Logic.{inl, inr}
use mathlib.Core.List.{[]}
use lib.ListN.{drop}
use Rattle.jpeg_rules.specs.declared.Class.{Class}
use Rattle.jpeg_rules.specs.declared.Class.TheVariants.{Alone, Frame, Scan, End, Wrong, Segment}
use Rattle.jpeg_rules.specs.Marker.{codes, class_in}
use Rattle.jpeg_rules.proofs.Codes.{Coded, Lies, kind_at, lies_class, rows_by}

-- a code that is an octet lies in a row, and has the sentence of its class
pub codes_by : (c : ℕ) (P : Class → Type 0) → ((k : Class) → Coded k c → P k) → (0xFF < c → P Segment) → P (class_in codes c)
unfolding codes Lies kind_at
codes_by c P go beyond =
    rows_by c P (drop 1 codes) (omega arith) (λ h. go Wrong (inr (inr (inl (omega arith))))) λ l.
    rows_by c P (drop 2 codes) l (λ h. go Alone (omega arith)) λ l.
    rows_by c P (drop 3 codes) l (λ h. go Wrong (inr (inr (inr (inr (omega arith)))))) λ l.
    rows_by c P (drop 4 codes) l (λ h. go Frame (omega arith)) λ l.
    rows_by c P (drop 5 codes) l (λ h. go Segment (inl (omega arith))) λ l.
    rows_by c P (drop 6 codes) l (λ h. go Frame (omega arith)) λ l.
    rows_by c P (drop 7 codes) l (λ h. go Segment (inr (inl (omega arith)))) λ l.
    rows_by c P (drop 8 codes) l (λ h. go Frame (omega arith)) λ l.
    rows_by c P (drop 9 codes) l (λ h. go Segment (inr (inr (inl (omega arith))))) λ l.
    rows_by c P (drop 10 codes) l (λ h. go Frame (omega arith)) λ l.
    rows_by c P (drop 11 codes) l (λ h. go Wrong (inl (omega arith))) λ l.
    rows_by c P (drop 12 codes) l (λ h. go Wrong (inr (inl (omega arith)))) λ l.
    rows_by c P (drop 13 codes) l (λ h. go End (omega arith)) λ l.
    rows_by c P (drop 14 codes) l (λ h. go Scan (omega arith)) λ l.
    rows_by c P (drop 15 codes) l (λ h. go Segment (inr (inr (inr (omega arith))))) λ l.
    rows_by c P (drop 16 codes) l (λ h. go Wrong (inr (inr (inr (inl (omega arith)))))) λ l.
    subst P (sym (lies_class c [] 0 tt)) (beyond l)
