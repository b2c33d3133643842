-- Floors gathered by a table, the dark and what is not in it picked.
-- Assumes nothing.
use Prim.Native.Nat.{ℕ, ◌+◌, ◌-◌, ◌*◌, ◌≤◌, ◌<◌}
use native.Mathlib.Omega.{arith}
use mathlib.Core.Path.{◌≡◌, refl, sym, ap, ◌∙◌}
use mathlib.Core.Logic.{◌≢◌, ⊎_elim}
use mathlib.Core.List.{List}
use lib.ListN.{length, get_or}
use mir.Val.{Fits}
use mir.Syntax.{w64}
use borrow.Author.Tests.{ne_eqb}
use borrow.Author.Rules.{rules}
use Rattle.laws.proofs.Says.{says_eq, says_else}
use Rattle.line_fetch.specs.Rows.{row_at}
use Rattle.paint_rules.specs.Floor.{dark, chosen}
use Rattle.paint_words.specs.Words.{four_from}
use Rattle.paint_coat.specs.Coat.{Coated, over}
use Rattle.paint_image.specs.Image.{image_from}
use Rattle.paint_gather.specs.Gather.{gathered, Reaches}
use Rattle.paint_table.specs.Table.{Tabled}
use Rattle.paint_table.proofs.Places.{tabled_reach, tabled_shown, tabled_step}
use Rattle.paint_show.specs.Show.{floor_from, shows, picking_other, is_lit, Paired, Least, Begun}
use Rattle.paint_show.proofs.Laws.{kept_here, picked_here}

image_floor : (un s d ns : List ℕ) (c y : ℕ) → c ≢ dark → image_from un s d (row_at ns (c * 2 + 1)) y ≡ floor_from un s d ns c y
unfolding floor_from chosen image_from
image_floor un s d ns c y n = sym (rw (ne_eqb c dark n) refl)

pub skip_lit : (z c : ℕ) → z ≡ 1 → c ≡ c → z ≡ 1
skip_lit z c e q = e

pub skip_none : (z c : ℕ) → c < 9 → 9 ≡ c → z ≡ 1
skip_none z c h q = absurd (omega arith)

pub ruleset skips = (rules, skip_lit, skip_none)

module _ (each : ℕ) (d ns t lit : List ℕ) (pairs f a b step : ℕ) (g : Tabled each d ns t lit pairs f a b step) (sel : List ℕ) (x e : ℕ) (ax : a ≤ x) (eb : e ≤ b) (few : pairs ≤ 7)
    (pk : Paired sel (x - a) (e - a) pairs) (lk : Least sel (x - a) (e - a) f) where
  pub table_reach : e - a ≤ length sel → Reaches sel t d step (x - a) (e - a)
  table_reach n = tabled_reach each d ns t lit pairs f a b step g sel (x - a) (e - a) (omega arith) n few lk.least pk.few

  pub table_step : step ≤ 36
  table_step = tabled_step each d ns t lit pairs f a b step g

  module _ (un s l o n : List ℕ) (k : Coated (over (gathered each sel t d step a)) l x e o) (v : ℕ) (vd : v ≢ dark) (w : Coated (picking_other un s d ns sel a v dark) o x e n) where
    lit_shown : (y : ℕ) → x ≤ y → y < e → get_or sel (y - a) 0 ≢ dark → get_or lit (get_or sel (y - a) 0) 0 ≡ 1 → four_from o (y * 4) ≡ floor_from un s d ns (get_or sel (y - a) 0) y
    unfolding over gathered
    lit_shown y p q z h =
        let i : a + (y - a) ≡ y = omega arith in
        k.there y p q
        ∙ sym (tabled_shown each d ns t lit pairs f a b step g un s (get_or sel (y - a) 0) (y - a) (lk.least (y - a) (omega arith) (omega arith) z) (pk.few (y - a) (omega arith) (omega arith) z) h (omega arith))
        ∙ ap (image_from un s d (row_at ns (get_or sel (y - a) 0 * 2 + 1))) i
        ∙ image_floor un s d ns (get_or sel (y - a) 0) y z

    pub gathered_begun : Begun un s d ns sel a x e (is_lit lit) n
    unfolding is_lit
    gathered_begun =
        record {
          same = λ y p q z. ⊎_elim
              (λ (i : get_or sel (y - a) 0 ≡ dark). picked_here un s d ns sel a v dark x e o n w y p q (λ (j : dark ≡ v). vd (sym j)) i)
              (λ (i : get_or sel (y - a) 0 ≡ dark → ⊥). kept_here un s d ns sel a v dark x e o n w y p q i ∙ lit_shown y p q i ((says_eq (get_or lit (get_or sel (y - a) 0) 0) 1).told z))
              (says_else (says_eq (get_or sel (y - a) 0) dark));
          dark = λ y p q z. picked_here un s d ns sel a v dark x e o n w y p q (λ (j : dark ≡ v). vd (sym j)) z;
        }

    pub gathered_end : (m : List ℕ) → Coated (shows un s d ns sel a) n x e m → Coated (shows un s d ns sel a) l x e m
    unfolding shows
    gathered_end m c =
        record {
          long = c.long ∙ w.long ∙ k.long;
          there = λ y p q. c.there y p q;
          before = λ i h. c.before i h ∙ w.before i h ∙ k.before i h;
          behind = λ i h. c.behind i h ∙ w.behind i h ∙ k.behind i h;
        }

pub least_part : (sel : List ℕ) (a b i e f : ℕ) → Least sel 0 (b - a) f → e ≤ b - a → Least sel (a + i - a) (a + e - a) f
least_part sel a b i e f k h = record { least = λ j p q. k.least j (omega arith) (omega arith) }

-- ---- whether all floors are gathered

pub lit_room : (step n c pairs : ℕ) → (step ≢ 0 → 16 ≤ n) → step ≢ 0 → c ≤ pairs → pairs ≤ 7 → c < n
lit_room step n c pairs h z k few = let m = h z in omega arith

pub twelve_fits : (step each : ℕ) → (step ≢ 0 → each ≤ 3) → step ≢ 0 → Fits w64 (each * 12)
twelve_fits step each h z = let m = h z in record { fits = omega arith }
