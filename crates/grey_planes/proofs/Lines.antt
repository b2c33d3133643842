-- Two calls about scenes that are alike answer the same and leave the same octets, if each list is fine beside its own sheet and one sheet is the other
-- with octet 17 cleared in some records.
-- Assumes nothing.
use Rattle.std.specs.Prelude.{Ok, Err}
use Prim.Native.Nat.{ℕ, ◌*◌, ◌<◌}
use mathlib.Core.Path.{◌≡◌, refl, sym, ap, subst, ◌∙◌}
use mathlib.Core.List.{List}
use lib.ListN.{length}
use Rattle.laws.proofs.Cases.{clash}
use Rattle.octets.specs.Octets.{put_at}
use Rattle.answers.specs.Answers.{Answer}
use Rattle.answers.specs.declared.Refusal.TheVariants.{NoRoom, BadSheet, BadPlane, BadLine}
use Rattle.sheet_rules.specs.declared.Colour.{Colour}
use Rattle.sheet_rules.specs.declared.Extent.{Extent}
use Rattle.sheet_rules.specs.Record.{records, rest}
use Rattle.sheet_rules.specs.Sentences.{Accepted}
use Rattle.sheet_rules.proofs.Judged.{fault_no_sheet}
use Rattle.pixel_rules.specs.Planes.{PlaneList}
use Rattle.pixel_rules.specs.Samples.{Scene}
use Rattle.picture_rules.specs.Line.{line_of, line_into}
use Rattle.picture_rules.specs.Sentences.{HasLine, scene_of, AllFine, Gives, no_sheet, no_line, no_plane_lem, no_room, lined}
use Rattle.picture_rules.proofs.Ruled.{plane_none}
use Rattle.picture_rules.proofs.Exactly.{line_exactly}
use Rattle.picture_rules.proofs.Demand3.{done_line, refused_line}
use Rattle.grey_planes.specs.Spread.{Clears, Alike}
use Rattle.grey_planes.proofs.Sheets.{clears_accepted, clears_extent}
use Rattle.grey_planes.proofs.Alike.{width_same, line_alike}

module _ (s s' : List ℕ) (pl pl' : PlaneList) (d d' : List ℕ) (k : ℕ) (ok : Accepted s) (clears : Clears s s') (fine : AllFine (scene_of s pl d k) pl)
    (fine' : AllFine (scene_of s' pl' d' k) pl') (alike : Alike (scene_of s pl d k) (scene_of s' pl' d' k)) where
  abbrev v : Scene
  v = scene_of s pl d k

  abbrev w : Scene
  w = scene_of s' pl' d' k

  line_there : (y : ℕ) → HasLine s k y → HasLine s' k y
  line_there y h =
      record {
        stripe = subst (λ (n : ℕ). k < n) (sym (clears_accepted s s' clears ok).1) h.stripe;
        line = subst (λ (x : Extent). y < x.height) (sym (clears_extent s s' clears k)) h.line;
      }

  line_back : (y : ℕ) → HasLine s' k y → HasLine s k y
  line_back y h =
      record {
        stripe = subst (λ (n : ℕ). k < n) (clears_accepted s s' clears ok).1 h.stripe;
        line = subst (λ (x : Extent). y < x.height) (clears_extent s s' clears k) h.line;
      }

  gives_same : (y room : ℕ) (x : Answer) → Gives s pl d k y room x → Gives s' pl' d' k y room x
  gives_same y room (Err (BadSheet i)) (no_sheet b) = absurd (fault_no_sheet (records s) (rest s) i b ok.0 ok.1)
  gives_same y room (Err BadLine) (no_line q none) = no_line (clears_accepted s s' clears ok).0 (λ h. none (line_back y h))
  gives_same y room (Err (BadPlane i)) (no_plane_lem q h f) = absurd (plane_none v pl i f fine)
  gives_same y room (Err NoRoom) (no_room q h f less) =
      no_room (clears_accepted s s' clears ok).0 (line_there y h) fine' (subst (λ (n : ℕ). room < n * 4) (sym (width_same v w alike)) less)
  gives_same y room (Ok n) (lined q h f e fits) =
      lined (clears_accepted s s' clears ok).0 (line_there y h) fine' (e ∙ ap (λ (m : ℕ). m * 4) (sym (width_same v w alike))) fits
  gives_same y room (Err (Rattle.answers.specs.declared.Refusal.TheVariants.Short _)) x3 = elim x3 [ ]
  gives_same y room (Err (Rattle.answers.specs.declared.Refusal.TheVariants.BadMark _)) x4 = elim x4 [ ]
  gives_same y room (Err (Rattle.answers.specs.declared.Refusal.TheVariants.BadLength _)) x5 = elim x5 [ ]
  gives_same y room (Err (Rattle.answers.specs.declared.Refusal.TheVariants.BadVersion _)) x6 = elim x6 [ ]
  gives_same y room (Err (Rattle.answers.specs.declared.Refusal.TheVariants.BadMode _)) x7 = elim x7 [ ]
  gives_same y room (Err (Rattle.answers.specs.declared.Refusal.TheVariants.BadCoder _)) x8 = elim x8 [ ]
  gives_same y room (Err (Rattle.answers.specs.declared.Refusal.TheVariants.BadRes _)) x9 = elim x9 [ ]
  gives_same y room (Err (Rattle.answers.specs.declared.Refusal.TheVariants.BadWidth _)) x10 = elim x10 [ ]
  gives_same y room (Err (Rattle.answers.specs.declared.Refusal.TheVariants.BadType _)) x11 = elim x11 [ ]
  gives_same y room (Err (Rattle.answers.specs.declared.Refusal.TheVariants.BadStripe _)) x12 = elim x12 [ ]
  gives_same y room (Err (Rattle.answers.specs.declared.Refusal.TheVariants.BadLayer _)) x13 = elim x13 [ ]
  gives_same y room (Err (Rattle.answers.specs.declared.Refusal.TheVariants.Trailing _)) x14 = elim x14 [ ]
  gives_same y room (Err (Rattle.answers.specs.declared.Refusal.TheVariants.Mismatch _)) x15 = elim x15 [ ]
  gives_same y room (Err Rattle.answers.specs.declared.Refusal.TheVariants.TooLong) x15 = elim x15 [ ]

  answer_same : (y room : ℕ) → line_of s' pl' d' k y room ≡ line_of s pl d k y room
  answer_same y room = (line_exactly s' pl' d' k y room (line_of s pl d k y room)).1 (gives_same y room (line_of s pl d k y room) ((line_exactly s pl d k y room (line_of s pl d k y room)).0 refl))

  module _ (y : ℕ) (u : Colour) (out : List ℕ) where
    stays : (x : Answer) → line_of s pl d k y (length out) ≡ x → ((n : ℕ) → x ≡ Ok n → ⊥) → line_into s' pl' d' k y u out ≡ line_into s pl d k y u out
    stays x e none =
        refused_line s' pl' d' k y u out (λ n q. none n (sym e ∙ sym (answer_same y (length out)) ∙ q)) ∙ sym (refused_line s pl d k y u out (λ n q. none n (sym e ∙ q)))

    into_same : (x : Answer) → line_of s pl d k y (length out) ≡ x → Gives s pl d k y (length out) x → line_into s' pl' d' k y u out ≡ line_into s pl d k y u out
    into_same (Err (BadSheet i)) e (no_sheet b) = stays (Err (BadSheet i)) e (λ n z. clash cc)
    into_same (Err BadLine) e (no_line q none) = stays (Err BadLine) e (λ n z. clash cc)
    into_same (Err (BadPlane i)) e (no_plane_lem q h f) = stays (Err (BadPlane i)) e (λ n z. clash cc)
    into_same (Err NoRoom) e (no_room q h f less) = stays (Err NoRoom) e (λ n z. clash cc)
    into_same (Ok n) e (lined q h f m fits) =
        (done_line s' pl' d' k y u out n (answer_same y (length out) ∙ e)).into ∙ ap (put_at out 0) (line_alike v w alike u y) ∙ sym (done_line s pl d k y u out n e).into
    into_same (Err (Rattle.answers.specs.declared.Refusal.TheVariants.Short _)) e x4 = elim x4 [ ]
    into_same (Err (Rattle.answers.specs.declared.Refusal.TheVariants.BadMark _)) e x5 = elim x5 [ ]
    into_same (Err (Rattle.answers.specs.declared.Refusal.TheVariants.BadLength _)) e x6 = elim x6 [ ]
    into_same (Err (Rattle.answers.specs.declared.Refusal.TheVariants.BadVersion _)) e x7 = elim x7 [ ]
    into_same (Err (Rattle.answers.specs.declared.Refusal.TheVariants.BadMode _)) e x8 = elim x8 [ ]
    into_same (Err (Rattle.answers.specs.declared.Refusal.TheVariants.BadCoder _)) e x9 = elim x9 [ ]
    into_same (Err (Rattle.answers.specs.declared.Refusal.TheVariants.BadRes _)) e x10 = elim x10 [ ]
    into_same (Err (Rattle.answers.specs.declared.Refusal.TheVariants.BadWidth _)) e x11 = elim x11 [ ]
    into_same (Err (Rattle.answers.specs.declared.Refusal.TheVariants.BadType _)) e x12 = elim x12 [ ]
    into_same (Err (Rattle.answers.specs.declared.Refusal.TheVariants.BadStripe _)) e x13 = elim x13 [ ]
    into_same (Err (Rattle.answers.specs.declared.Refusal.TheVariants.BadLayer _)) e x14 = elim x14 [ ]
    into_same (Err (Rattle.answers.specs.declared.Refusal.TheVariants.Trailing _)) e x15 = elim x15 [ ]
    into_same (Err (Rattle.answers.specs.declared.Refusal.TheVariants.Mismatch _)) e x16 = elim x16 [ ]
    into_same (Err Rattle.answers.specs.declared.Refusal.TheVariants.TooLong) e x16 = elim x16 [ ]

    pub lines_same : (line_of s' pl' d' k y (length out) ≡ line_of s pl d k y (length out)) × (line_into s' pl' d' k y u out ≡ line_into s pl d k y u out)
    lines_same = (answer_same y (length out), into_same (line_of s pl d k y (length out)) refl ((line_exactly s pl d k y (length out) (line_of s pl d k y (length out))).0 refl))
