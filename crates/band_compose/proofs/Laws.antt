-- One law for each way out of the functions of a band: its premises are what is known there. What is known of one line is said in line_compose.
-- Assumes nothing.
use Prim.Native.Nat.{ℕ, ◌+◌, ◌*◌, ◌/◌, ◌%◌, ◌≤◌, ◌<◌}
use native.Mathlib.Nat.{mul-le-mul}
use native.Mathlib.Omega.{arith}
use mathlib.Core.Path.{◌≡◌, refl, sym, ap, subst, ◌∙◌}
use mathlib.Core.Bool.{Bool, not}
use mathlib.Core.List.{List}
use lib.ListN.{length}
use lib.Dec.{eqb}
use borrow.Author.Tests.{lt-ltb, le-ltb}
use mir.Val.{Fits}
use mir.Syntax.{w64}
use borrow.Author.Rules.{rules}
use Rattle.octets.specs.Octets.{put_at}
use Rattle.answers.specs.Answers.{Answer}
use Rattle.answers.specs.declared.Refusal.TheVariants.{NoRoom}
use Rattle.sheet_rules.specs.declared.Colour.{Colour}
use Rattle.sheet_rules.specs.declared.Extent.{Extent}
use Rattle.sheet_rules.specs.declared.Record.{Record}
use Rattle.sheet_rules.specs.Record.{record_size, record_at}
use Rattle.pixel_rules.specs.Planes.{PlaneList, list_of}
use Rattle.picture_rules.specs.Line.{ruling_of}
use Rattle.band_rules.specs.Band.{band_lines, band_size, band_answer, band_of, band_holds, band_into, Bands}
use Rattle.band_rules.proofs.Bands.{bands_first}
use Rattle.line_planes.specs.declared.Listing.{Listing}
use Rattle.line_planes.specs.Listing.{listing_of}
use Rattle.std.specs.Prelude.{Result, Ok, Err}
use Rattle.answers.specs.declared.Refusal.{Refusal}
use Rattle.line_verdict.specs.Ruled.{list_from, ruled_of}
use Rattle.line_compose.specs.Composing.{scene_from, Showable}
use Rattle.line_compose.proofs.Laws.{shown_place, shown_wide, ruled_refused, ruled_shown, line_shown, listed_first}
use Rattle.band_lines.specs.Lines.{LinesFit}
use Rattle.band_compose.specs.Banding.{Banded}

-- ---- the size

product_small : (a b : ℕ) → a < 65536 → b < 4294967296 → a * b < 281474976710656
product_small a b h g = let m = mul-le-mul {n₁ = a} {m₁ = b} {n₂ = 65535} {m₂ = 4294967295} (omega arith) (omega arith) in omega arith

pub size_fits : (a b : ℕ) → a < 65536 → b < 4294967296 → Fits w64 (a * b)
size_fits a b h g = record { fits = omega (arith, product_small a b h g) }

pub size_fours : (a b : ℕ) → a < 65536 → b < 4294967296 → Fits w64 (a * b * 4)
size_fours a b h g = record { fits = omega (arith, product_small a b h g) }

pub ruleset sizing = (rules, size_fits, size_fours)

-- ---- a stripe that is to be shown: the room, then the lines

module _ (s : List ℕ) (extent : Extent) (t : Listing) (d : List ℕ) (g : Showable (scene_from s extent t d) 0) where
  pub band_place : extent.first + 1 < length s / record_size
  band_place = shown_place s extent t d 0 g

  module _ (second : Record) (width size : ℕ) (es : second ≡ record_at s (extent.first + 1)) (ew : width ≡ second.width) (ez : size ≡ width * extent.height * 4) where
    size_is : size ≡ band_size (scene_from s extent t d)
    unfolding band_size
    size_is = ez ∙ ap (λ (n : ℕ). n * extent.height * 4) (shown_wide s extent t d 0 g second width es ew)

    pub band_fits : (room : ℕ) → size ≤ room → LinesFit (scene_from s extent t d) width room
    band_fits room h = record { shown = g; wide = shown_wide s extent t d 0 g second width es ew; fits = subst (λ (n : ℕ). n ≤ room) size_is h }

    pub band_no_room : (u : Colour) (out : List ℕ) → length out < size → Banded (scene_from s extent t d) u out (Err NoRoom) out
    unfolding band_answer band_holds
    band_no_room u out h =
        let z = lt-ltb (length out) (band_size (scene_from s extent t d)) (subst (λ (n : ℕ). length out < n) size_is h) in
        record { answers = rw z refl; holds = rw z refl }

    pub band_done : (u : Colour) (out e : List ℕ) → size ≤ length out → e ≡ put_at out 0 (band_lines u (scene_from s extent t d) extent.height) → Banded (scene_from s extent t d) u out (Ok size) e
    unfolding band_answer band_holds
    band_done u out e h ee =
        let z = le-ltb (length out) (band_size (scene_from s extent t d)) (subst (λ (n : ℕ). n ≤ length out) size_is h) in
        record { answers = rw z (ap Ok size_is); holds = rw z ee }

pub ruleset showing = (rules, band_place, band_no_room, band_fits, band_done)

-- ---- after the verdict

module _ (s : List ℕ) (t : Listing) (part : Bool) (d : List ℕ) (k : ℕ) (r : Result Extent Refusal) (e : r ≡ ruled_of (ruling_of s (list_from t part) d k 0)) where
  pub band_refused : (u : Colour) (a : Refusal) (out : List ℕ) (x : Answer) → r ≡ Err a → x ≡ Err a → Bands s (list_from t part) d k u out x out
  unfolding band_of band_into band_answer band_holds
  band_refused u a out x z w =
      let q = ruled_refused s t part d k 0 r e a z in
      record { answers = w ∙ sym (ap (band_answer (length out)) q); holds = sym (ap (band_holds u out) q) }

  pub band_composed : (extent : Extent) (u : Colour) (out : List ℕ) (a : Answer) (f : List ℕ) → r ≡ Ok extent → Banded (scene_from s extent t d) u out a f → Bands s (list_from t part) d k u out a f
  unfolding band_of band_into
  band_composed extent u out a f z c =
      let q = ruled_shown s t part d k 0 r e extent z in
      record { answers = c.answers ∙ ap (band_answer (length out)) (sym q); holds = c.holds ∙ ap (band_holds u out) (sym q) }

-- ---- a list in octets

pub band_listed : (s planes d : List ℕ) (k : ℕ) (u : Colour) (t : Listing) (part : Bool) (out : List ℕ) (a : Answer) (e : List ℕ) → t ≡ listing_of planes → part ≡ not (eqb (length planes % 5) 0)
    → Bands s (list_from t part) d k u out a e → Bands s (list_of planes) d k u out a e
band_listed s planes d k u t part out a e et ep h =
    bands_first s d k (list_of planes).entries (list_of planes).part u out a e
    (subst (λ (l : PlaneList). Bands s l d k u out a e) (listed_first planes t part et ep) h)

pub ruleset composing = (rules, line_shown, band_refused, band_composed, band_listed)
