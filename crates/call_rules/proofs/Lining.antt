-- What a viewer may rely on after a line, of the exported calls' promise alone. `LineCall` is `LineUnseenCall` with one unseen colour, so all that is said
-- of every unseen colour is said of it.
-- Assumes nothing.
use Rattle.std.specs.Prelude.{Ok}
use Prim.Native.Nat.{ℕ, ◌<◌}
use mathlib.Core.Path.{◌≡◌, sym, ap, subst, ◌∙◌}
use mathlib.Core.Logic.{◌↔◌, ◌⊎◌}
use mathlib.Core.List.{List, [], ◌∷◌}
use lib.ListN.{length, get_or, drop}
use Rattle.answers.specs.Answers.{Answer}
use Rattle.answers_report.specs.declared.Report.{Report}
use Rattle.answers_report.specs.Report.{report_of}
use Rattle.answers_report.proofs.Apart.{report_by_values}
use Rattle.sheet_rules.specs.declared.Colour.{Colour}
use Rattle.pixel_rules.specs.Planes.{list_of}
use Rattle.pixel_rules.specs.Samples.{width_of}
use Rattle.pixel_rules.specs.Content.{SeenAs}
use Rattle.picture_rules.specs.Line.{line_of}
use Rattle.picture_rules.specs.Sentences.{scene_of, Gives}
use Rattle.picture_rules.specs.Demand.{four_at, seen_in, unseen_in, at, Shown, Reread, AllRead}
use Rattle.picture_rules.proofs.Exactly.{line_exactly}
use Rattle.picture_rules.proofs.Demand3.{mark_seen, mark_unseen, octets_told, recoloured, demand_3, refused_line}
use Rattle.picture_rules.proofs.More.{more_stays, all_seen}
use Rattle.picture_rules.proofs.Open.{Open, unseen_open}
use Rattle.picture_rules.proofs.Before.{answers_before, into_before}
use Rattle.call_rules.specs.Calls.{LineUnseenCall, LineCall, BaseLineCall}
use Rattle.call_rules.proofs.Reports.{report_done, report_refused}

module _ (sheet planes samples : List ℕ) (k y : ℕ) (u : Colour) (out : List ℕ) (r : Report) (out' : List ℕ) (c : LineUnseenCall sheet planes samples k y u out r out') where
  -- a refusal changes no octet that was lent
  pub lined_kept : (r.number ≡ 0 → ⊥) → out' ≡ out
  lined_kept n = c.holds ∙ refused_line sheet (list_of planes) samples k y u out (report_refused (line_of sheet (list_of planes) samples k y (length out)) r c.reports n)

  -- each report is given exactly when the sentences have its answer
  pub lined_told : (a : Answer) → r ≡ report_of a ↔ Gives sheet (list_of planes) samples k y (length out) a
  lined_told a = (
    λ e. (line_exactly sheet (list_of planes) samples k y (length out) a).0 (report_by_values (line_of sheet (list_of planes) samples k y (length out)) a (sym c.reports ∙ e)),
    λ g. c.reports ∙ ap report_of ((line_exactly sheet (list_of planes) samples k y (length out) a).1 g),
  )

  module _ (z : r.number ≡ 0) where
    answered : line_of sheet (list_of planes) samples k y (length out) ≡ Ok r.count
    answered = report_done (line_of sheet (list_of planes) samples k y (length out)) r c.reports z

    -- demand 3: each pixel is seen in a colour exactly if every content of the unread layers gives it
    pub lined_shown : Shown sheet (list_of planes) samples k y u out out' r.count
    lined_shown =
        subst (λ (l : List ℕ). Shown sheet (list_of planes) samples k y u out l r.count) (sym c.holds) (demand_3 sheet (list_of planes) samples k y u out r.count answered)

    -- the octets past the line stay
    pub lined_rest : drop r.count out' ≡ drop r.count out
    lined_rest = lined_shown.past

    -- the mark alone tells, whatever the unseen colour is: 1 exactly if all contents give one colour, 0 exactly if they do not
    module _ (x : ℕ) (h : x < width_of (scene_of sheet (list_of planes) samples k)) where
      pub lined_seen : get_or (four_at out' x) 3 0 ≡ 1 ↔ (d : Colour) × SeenAs (scene_of sheet (list_of planes) samples k) (at x) (at y) d
      lined_seen = mark_seen (lined_shown.pixels x h)

      pub lined_unseen : get_or (four_at out' x) 3 0 ≡ 0 ↔ ((d : Colour) → SeenAs (scene_of sheet (list_of planes) samples k) (at x) (at y) d → ⊥)
      lined_unseen = mark_unseen (lined_shown.pixels x h)

      -- so that two ways of reading all layers, which agree with what was read, show it in two colours
      pub lined_open : get_or (four_at out' x) 3 0 ≡ 0 ↔ Open sheet (list_of planes) samples k y u out r.count x
      lined_open =
          subst (λ (l : List ℕ). get_or (four_at l x) 3 0 ≡ 0 ↔ Open sheet (list_of planes) samples k y u out r.count x) (sym c.holds)
          (unseen_open sheet (list_of planes) samples k y u out r.count answered x h)

    -- with every coded layer of the stripe read, every pixel is seen
    pub lined_all : AllRead (scene_of sheet (list_of planes) samples k) → (x : ℕ) → x < width_of (scene_of sheet (list_of planes) samples k) → get_or (four_at out' x) 3 0 ≡ 1
    lined_all a x h = ap (λ (l : List ℕ). get_or (four_at l x) 3 0) c.holds ∙ all_seen sheet (list_of planes) samples k y u out r.count answered a x h

-- two calls on one sheet, stripe and line, all that the first was lent being among what the second was lent: what is marked seen stays
pub lined_more : (sheet planes samples more others : List ℕ) (k y : ℕ) (u u' : Colour) (out put : List ℕ) (r q : Report) (out' put' : List ℕ)
    → LineUnseenCall sheet planes samples k y u out r out' → LineUnseenCall sheet more others k y u' put q put' → r.number ≡ 0 → q.number ≡ 0
    → Reread (scene_of sheet (list_of planes) samples k) (scene_of sheet (list_of more) others k)
    → (x : ℕ) → x < width_of (scene_of sheet (list_of planes) samples k) → get_or (four_at out' x) 3 0 ≡ 1 → four_at put' x ≡ four_at out' x
lined_more sheet planes samples more others k y u u' out put r q out' put' a b za zb again x h t =
    ap (λ (l : List ℕ). four_at l x) b.holds
    ∙ more_stays sheet (list_of planes) (list_of more) samples others k y u u' out put r.count q.count
    (answered sheet planes samples k y u out r out' a za)
    (answered sheet more others k y u' put q put' b zb)
    again x h (ap (λ (l : List ℕ). get_or (four_at l x) 3 0) (sym a.holds) ∙ t)
    ∙ ap (λ (l : List ℕ). four_at l x) (sym a.holds)

module _ (sheet planes samples : List ℕ) (k y : ℕ) where
  -- two unseen colours: the same report, refused or not, and a pixel is seen in one colour by both, or has each its own and is unseen by both
  pub lined_recoloured : (u u' : Colour) (out put : List ℕ) (r q : Report) (out' put' : List ℕ) → length out ≡ length put
      → LineUnseenCall sheet planes samples k y u out r out' → LineUnseenCall sheet planes samples k y u' put q put'
      → (r ≡ q) × (r.number ≡ 0 → q.number ≡ 0 → (x : ℕ) → x < width_of (scene_of sheet (list_of planes) samples k)
      → ((c : Colour) × (four_at out' x ≡ seen_in c) × (four_at put' x ≡ seen_in c)) ⊎ ((four_at out' x ≡ unseen_in u) × (four_at put' x ≡ unseen_in u')))
  lined_recoloured u u' out put r q out' put' l a b = (
    a.reports ∙ ap (λ (n : ℕ). report_of (line_of sheet (list_of planes) samples k y n)) l ∙ sym b.reports,
    λ za zb x h. recoloured ((lined_shown sheet planes samples k y u out r out' a za).pixels x h) ((lined_shown sheet planes samples k y u' put q put' b zb).pixels x h),
  )

  module _ (out : List ℕ) (r : Report) (out' : List ℕ) where
    -- demand 3 in the octets that C gives and gets: c0 c1 c2 1 exactly if every content gives that colour, u0 u1 u2 0 exactly if none is given by all
    pub lined_octets : (u0 u1 u2 : ℕ) → LineUnseenCall sheet planes samples k y (record { c0 = u0; c1 = u1; c2 = u2 }) out r out' → r.number ≡ 0
        → (x : ℕ) → x < width_of (scene_of sheet (list_of planes) samples k)
        → ((c0 c1 c2 : ℕ) → four_at out' x ≡ c0 ∷ c1 ∷ c2 ∷ 1 ∷ []
        ↔ SeenAs (scene_of sheet (list_of planes) samples k) (at x) (at y) (record { c0 = c0; c1 = c1; c2 = c2 }))
        × (four_at out' x ≡ u0 ∷ u1 ∷ u2 ∷ 0 ∷ [] ↔ ((c : Colour) → SeenAs (scene_of sheet (list_of planes) samples k) (at x) (at y) c → ⊥))
    lined_octets u0 u1 u2 c z x h =
        octets_told u0 u1 u2 ((lined_shown sheet planes samples k y (record { c0 = u0; c1 = u1; c2 = u2 }) out r out' c z).pixels x h)

    -- the exported line is its sibling with 128 128 96
    pub lined_grey : LineCall sheet planes samples k y out r out' ↔ LineUnseenCall sheet planes samples k y (record { c0 = 128; c1 = 128; c2 = 96 }) out r out'
    lined_grey = (λ c. c, λ c. c)

    -- and the sibling with 0 0 0 is the line of before, for every input, refused ones too
    pub lined_before : LineUnseenCall sheet planes samples k y (record { c0 = 0; c1 = 0; c2 = 0 }) out r out' ↔ BaseLineCall sheet planes samples k y out r out'
    lined_before = (
      λ c. record { reports = c.reports ∙ ap report_of (answers_before sheet (list_of planes) samples k y (length out)); holds = c.holds ∙ into_before sheet (list_of planes) samples k y out },
      λ c. record { reports = c.reports ∙ ap report_of (sym (answers_before sheet (list_of planes) samples k y (length out))); holds = c.holds ∙ sym (into_before sheet (list_of planes) samples k y out) },
    )
