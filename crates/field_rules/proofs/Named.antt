-- A refusal in reading is one of the numbers 1 to 12, at a place within the list: of a table, of so many octets, of one part after another.
-- Assumes nothing.
use Prim.Native.Nat.{ℕ, ◌+◌, ◌≤◌}
use mathlib.Core.Path.{◌≡◌, refl, ap, subst}
use mathlib.Core.List.{List, []}
use lib.ListN.{length}
use lib.Dec.{ltb, lit≤}
use Rattle.laws.proofs.Cases.{cond_with, clash}
use Rattle.answers.specs.declared.Refusal.{Refusal}
use Rattle.answers.specs.declared.Refusal.TheVariants.{Short}
use Rattle.answers.specs.Answers.{refusal_number, refusal_place}
use Rattle.field_rules.specs.Field.{Res, ok, no, bind, Field, fields}
use Rattle.field_rules.specs.Part.{span_of}
use Rattle.field_rules.proofs.Refused.{Names, fields_refused}

-- one of the numbers 1 to 12, at a place of a page of so many octets
pub record PageRefusal (n : ℕ) (a : Refusal) : Type 0 where
  pub least : 1 ≤ refusal_number a
  pub most : refusal_number a ≤ 12
  pub place : refusal_place a ≤ n

pub bind_refused : {A B : Type 0} (P : Type 0) (r : Res A) (go : A → ℕ → Res B) (a : Refusal) → bind r go ≡ no a → (r ≡ no a → P)
    → ((x : A) (m : ℕ) → r ≡ ok x m → go x m ≡ no a → P) → P
unfolding bind
bind_refused P (ok x m) go a e bad good = good x m refl e
bind_refused P (no b) go a e bad good = let z : b ≡ a = cc in bad (ap no z)

module _ (s : List ℕ) (a : Refusal) where
  pub short : (p : ℕ) → p ≤ length s → PageRefusal (length s) (Short p)
  unfolding refusal_number refusal_place
  short p h = record { least = lit≤ tt; most = lit≤ tt; place = h }

  pub told : {A : Type 0} (b : Refusal) → PageRefusal (length s) b → ◌≡◌ {A = Res A} (no b) (no a) → PageRefusal (length s) a
  told b q e = let z : b ≡ a = cc in subst (PageRefusal (length s)) z q

  pub table_refused : (table : List Field) → Names (λ b. PageRefusal (length s) b) (length s) table → (at : ℕ) → at ≤ length s → fields table [] s at ≡ no a → PageRefusal (length s) a
  table_refused table k at h e = fields_refused (λ b. PageRefusal (length s) b) s short a table k [] at h e

  pub span_refused : (at n : ℕ) → at ≤ length s → span_of s at n ≡ no a → PageRefusal (length s) a
  unfolding span_of
  span_refused at n h = cond_with (λ x. x ≡ no a → PageRefusal (length s) a) (ltb (length s) (at + n)) (λ t e. told (Short at) (short at h) e) (λ t e. clash cc)
