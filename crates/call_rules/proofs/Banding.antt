-- What a viewer may rely on after a band, of the exported calls' promise alone: its octets are those of line calls, and so are its refusals, but for the room.
-- Assumes nothing.
use Rattle.std.specs.Prelude.{Ok, Err}
use Prim.Native.Nat.{ℕ, ◌+◌, ◌*◌, ◌≤◌, ◌<◌}
use native.Mathlib.Omega.{arith}
use mathlib.Core.Path.{◌≡◌, refl, sym, ap, ◌∙◌}
use mathlib.Core.Logic.{◌↔◌}
use mathlib.Core.List.{List, [], ◌∷◌}
use lib.ListN.{length, take, drop}
use Rattle.answers.specs.Answers.{Answer}
use Rattle.answers.specs.declared.Refusal.TheVariants.{NoRoom}
use Rattle.answers_report.specs.declared.Report.{Report}
use Rattle.answers_report.specs.Report.{report_of}
use Rattle.answers_report.proofs.Apart.{report_by_values}
use Rattle.sheet_rules.specs.declared.Colour.{Colour}
use Rattle.pixel_rules.specs.Planes.{list_of}
use Rattle.pixel_rules.specs.Samples.{Scene, width_of}
use Rattle.pixel_rules.specs.Content.{SeenAs}
use Rattle.picture_rules.specs.Line.{line_of}
use Rattle.picture_rules.specs.Sentences.{scene_of, lined}
use Rattle.picture_rules.specs.Demand.{four_at, at, Tells}
use Rattle.picture_rules.proofs.Demand3.{octets_told}
use Rattle.band_rules.specs.Band.{band_of, Bands}
use Rattle.band_rules.specs.Sentences.{line_size, GivesBand, banded, LineByLine}
use Rattle.band_rules.proofs.Exactly.{band_exactly}
use Rattle.band_rules.proofs.Refused.{band_refusal}
use Rattle.band_rules.proofs.Bands.{bands_lines, bands_pixels, refused_band}
use Rattle.call_rules.specs.Calls.{LineUnseenCall, BandCall}
use Rattle.call_rules.proofs.Reports.{report_done, report_refused}
use Rattle.call_rules.proofs.Lining.{lined_told, lined_shown}

module _ (sheet planes samples : List ℕ) (k : ℕ) where
  abbrev scene : Scene
  scene = scene_of sheet (list_of planes) samples k

  module _ (u : Colour) (out : List ℕ) (r : Report) (out' : List ℕ) (c : BandCall sheet planes samples k u out r out') where
    -- a refusal changes no octet that was lent
    pub banded_kept : (r.number ≡ 0 → ⊥) → out' ≡ out
    banded_kept n = c.holds ∙ refused_band sheet (list_of planes) samples k u out (report_refused (band_of sheet (list_of planes) samples k (length out)) r c.reports n)

    -- each report is given exactly when the sentences have its answer
    pub banded_told : (a : Answer) → r ≡ report_of a ↔ GivesBand sheet (list_of planes) samples k (length out) a
    banded_told a = (
      λ e. (band_exactly sheet (list_of planes) samples k (length out) a).0 (report_by_values (band_of sheet (list_of planes) samples k (length out)) a (sym c.reports ∙ e)),
      λ g. c.reports ∙ ap report_of ((band_exactly sheet (list_of planes) samples k (length out) a).1 g),
    )

    -- a refusal other than NoRoom is that of a call of line 0, into any buffer
    pub banded_as_line : (u' : Colour) (put : List ℕ) (q : Report) (put' : List ℕ) → LineUnseenCall sheet planes samples k 0 u' put q put'
        → (a : Answer) → (a ≡ Err NoRoom → ⊥) → ((n : ℕ) → a ≡ Ok n → ⊥) → r ≡ report_of a ↔ q ≡ report_of a
    banded_as_line u' put q put' l a full done =
        let b = band_refusal sheet (list_of planes) samples k (length out) (length put) a full done in (
          λ e. l.reports ∙ ap report_of (b.0 (report_by_values (band_of sheet (list_of planes) samples k (length out)) a (sym c.reports ∙ e))),
          λ e. c.reports ∙ ap report_of (b.1 (report_by_values (line_of sheet (list_of planes) samples k 0 (length put)) a (sym l.reports ∙ e))),
        )

    module _ (z : r.number ≡ 0) where
      answered : Bands sheet (list_of planes) samples k u out (Ok r.count) out'
      answered = record { answers = sym (report_done (band_of sheet (list_of planes) samples k (length out)) r c.reports z); holds = c.holds }

      pub banded_lines : LineByLine sheet (list_of planes) samples k u out r.count out'
      banded_lines = (bands_lines sheet (list_of planes) samples k u out r.count out').0 answered

      -- as many octets as four a pixel, width by height of the stripe
      pub banded_count : r.count ≡ 4 * width_of scene * scene.extent.height
      banded_count = banded_lines.size

      -- the octets past the band stay
      pub banded_rest : drop r.count out' ≡ drop r.count out
      banded_rest = banded_lines.past

      -- a call of any line of the stripe is done too, where its buffer has room
      pub banded_each : (y : ℕ) → y < scene.extent.height → (u' : Colour) (put : List ℕ) (q : Report) (put' : List ℕ) → LineUnseenCall sheet planes samples k y u' put q put'
          → line_size scene ≤ length put → q ≡ report_of (Ok (line_size scene))
      banded_each y h u' put q put' l room = from ((band_exactly sheet (list_of planes) samples k (length out) (Ok r.count)).0 (sym answered.answers))
        where
          from : GivesBand sheet (list_of planes) samples k (length out) (Ok r.count) → q ≡ report_of (Ok (line_size scene))
          from (banded ok has fine e f) = (lined_told sheet planes samples k y u' put q put' l (Ok (line_size scene))).1 (lined ok (record { stripe = has; line = h }) fine refl room)

      -- beside a call of line y with the same unseen colour: its octets stand y lines down in the band
      pub banded_lined : (y : ℕ) → y < scene.extent.height → (put : List ℕ) (q : Report) (put' : List ℕ) → LineUnseenCall sheet planes samples k y u put q put' → q.number ≡ 0
          → take q.count (drop (y * q.count) out') ≡ take q.count put'
      banded_lined y h put q put' l n =
          let w = lined_shown sheet planes samples k y u put q put' l n in
          let m = w.size in
          let f = w.room in
          ap (λ (i : ℕ). take i (drop (y * i) out')) m
          ∙ banded_lines.lines y h put (omega arith)
          ∙ ap (take (line_size scene)) (sym l.holds)
          ∙ ap (λ (i : ℕ). take i put') (sym m)

      -- demand 3: each pixel is seen in a colour exactly if every content of the unread layers gives it
      pub banded_shown : (y x : ℕ) → y < scene.extent.height → x < width_of scene → Tells u scene y x (four_at out' (y * width_of scene + x))
      banded_shown y x hy hx = bands_pixels sheet (list_of planes) samples k u out r.count out' answered y x hy hx

  -- two unseen colours: the same report, refused or not
  pub banded_recoloured : (u u' : Colour) (out put : List ℕ) (r q : Report) (out' put' : List ℕ) → length out ≡ length put
      → BandCall sheet planes samples k u out r out' → BandCall sheet planes samples k u' put q put' → r ≡ q
  banded_recoloured u u' out put r q out' put' l a b = a.reports ∙ ap (λ (n : ℕ). report_of (band_of sheet (list_of planes) samples k n)) l ∙ sym b.reports

  module _ (out : List ℕ) (r : Report) (out' : List ℕ) where
    -- the other way: octets that are line by line those of line calls, and past the band those lent, are what the call leaves
    pub lines_banded : (u : Colour) (n : ℕ) → LineByLine sheet (list_of planes) samples k u out n out' → r ≡ report_of (Ok n) → BandCall sheet planes samples k u out r out'
    lines_banded u n g e = let b = (bands_lines sheet (list_of planes) samples k u out n out').1 g in record { reports = e ∙ ap report_of b.answers; holds = b.holds }

    -- demand 3 in the octets that C gives and gets: c0 c1 c2 1 exactly if every content gives that colour, u0 u1 u2 0 exactly if none is given by all
    pub banded_octets : (u0 u1 u2 : ℕ) → BandCall sheet planes samples k (record { c0 = u0; c1 = u1; c2 = u2 }) out r out' → r.number ≡ 0
        → (y x : ℕ) → y < scene.extent.height → x < width_of scene
        → ((c0 c1 c2 : ℕ) → four_at out' (y * width_of scene + x) ≡ c0 ∷ c1 ∷ c2 ∷ 1 ∷ [] ↔ SeenAs scene (at x) (at y) (record { c0 = c0; c1 = c1; c2 = c2 }))
        × (four_at out' (y * width_of scene + x) ≡ u0 ∷ u1 ∷ u2 ∷ 0 ∷ [] ↔ ((c : Colour) → SeenAs scene (at x) (at y) c → ⊥))
    banded_octets u0 u1 u2 c z y x hy hx = octets_told u0 u1 u2 (banded_shown (record { c0 = u0; c1 = u1; c2 = u2 }) out r out' c z y x hy hx)
