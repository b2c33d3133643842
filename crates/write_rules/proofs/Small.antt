-- What is written are octets: no number is too large for its field.
-- Assumes nothing.
use Prim.Native.Nat.{ℕ, zero, suc, ◌<◌}
use native.Mathlib.Omega.{arith}
use mathlib.Core.Path.{◌≡◌, refl}
use mathlib.Core.Bool.{Bool, true, ◌&&◌, and-eq-true_iff}
use mathlib.Core.List.{List, [], ◌∷◌, ◌++◌}
use lib.Dec.{ltb, lit<}
use lib.ListN.{drop}
use borrow.Author.Tests.{ltb-true}
use Rattle.octets.specs.Octets.{Octets, octets16, octets32}
use Rattle.octets.proofs.Laws.{octets_append, octets_take, octets_drop, octets_16, octets_32}
use Rattle.sheet_rules.specs.declared.Record.{Record}
use Rattle.segment_rules.specs.declared.Version.{Version}
use Rattle.segment_rules.specs.declared.Version.TheVariants.{Base}
use Rattle.segment_rules.specs.declared.Mode.{Mode}
use Rattle.segment_rules.specs.declared.Mode.TheVariants.{One}
use Rattle.segment_rules.specs.Rules.{version_octet, mode_octet}
use Rattle.start_rules.specs.declared.Head.{Head}
use Rattle.start_rules.specs.Grammar.{mark_of, start_of, GoodHead}
use Rattle.start_rules.proofs.Rules.{mask_small, image_small}
use Rattle.start_rules.proofs.Rules.{listed_small}
use Rattle.write_rules.specs.Layer.{layer_octets}
use Rattle.write_rules.specs.Sentences.{page_end}

pub octets_cons : (x : ℕ) (l : List ℕ) → x < 256 → Octets l → Octets (x ∷ l)
octets_cons x l h o zero = h
octets_cons x l h o (suc k) = o k

-- octets that are written out
unfoldable pub small : List ℕ → Bool
small [] = true
small (x ∷ l) = ltb x 256 && small l

pub small_octets : (l : List ℕ) → small l ≡ true → Octets l
unfolding small
small_octets [] e = λ k. lit< tt
small_octets (x ∷ l) e = let g = simp and-eq-true_iff at e in octets_cons x l (ltb-true x 256 g.0) (small_octets l g.1)

pub end_octets : Octets page_end
unfolding small
end_octets = small_octets page_end refl

-- the octets that name the rules
version_octet_lem : (v : Version) → version_octet v < 256
version_octet_lem Base = lit< tt

mode_octet_lem : (m : Mode) → mode_octet m < 256
mode_octet_lem One = lit< tt

pub start_octets : (hd : Head) → GoodHead hd → Octets (start_of hd)
unfolding start_of small
start_octets hd g =
    let w = g.width in
    let main : List ℕ = octets16 hd.main ++ (octets32 hd.width ++ (0xFF ∷ 0xD9 ∷ [])) in
    octets_append mark_of (version_octet hd.rules.version ∷ mode_octet hd.rules.mode ∷ hd.mask ∷ hd.image ∷ main) (small_octets mark_of refl)
    (octets_cons (version_octet hd.rules.version) (mode_octet hd.rules.mode ∷ hd.mask ∷ hd.image ∷ main) (version_octet_lem hd.rules.version)
    (octets_cons (mode_octet hd.rules.mode) (hd.mask ∷ hd.image ∷ main) (mode_octet_lem hd.rules.mode)
    (octets_cons hd.mask (hd.image ∷ main) (mask_small hd.rules.mode hd.mask g.mask)
    (octets_cons hd.image main (image_small hd.rules.mode hd.image g.image)
    (octets_append (octets16 hd.main) (octets32 hd.width ++ (0xFF ∷ 0xD9 ∷ [])) (octets_16 hd.main (listed_small hd.main g.main))
    (octets_append (octets32 hd.width) (0xFF ∷ 0xD9 ∷ []) (octets_32 hd.width (omega arith)) (small_octets (0xFF ∷ 0xD9 ∷ []) refl)))))))

-- ---- coded data

pub data_octets : (d : List ℕ) → Octets d → (r : Record) → Octets (layer_octets d r)
data_octets d o r = octets_take r.len (drop r.start d) (octets_drop r.start d o)
