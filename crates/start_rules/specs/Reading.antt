-- Reading the start of page (01, "The page, Mode 1" and "Numbers that a call returns"), field by field.
--
--   version_taken, mode_taken   an octet that names a version or a mode that is taken; version_from, mode_from: which
--   start_table         the start of page segment and the termination; length_in, version_in, mode_in: the first numbers read
--   head_from           what its numbers say: length, version, mode, the two coders, resolution, width
--   start_read s at     the start of page at a place
use Rattle.std.specs.Prelude.{ℕ, Bool, List, [], ◌∷◌, get_or, eqb, leb}
use Rattle.laws.specs.Tests.{within}
use Rattle.answers.specs.declared.Refusal.TheVariants.{BadMark, BadLength, BadVersion, BadMode, BadCoder, BadRes, BadWidth}
use Rattle.field_rules.specs.Field.{Res, ok, bind, one, two, four, Field, mark, val, again, fields, is}
use Rattle.sheet_rules.specs.Judge.{listed}
use Rattle.segment_rules.specs.declared.Version.{Version}
use Rattle.segment_rules.specs.declared.Version.TheVariants.{Base}
use Rattle.segment_rules.specs.declared.Mode.{Mode}
use Rattle.segment_rules.specs.declared.Mode.TheVariants.{One}
use Rattle.start_rules.specs.declared.Head.{Head}
use Rattle.start_rules.specs.Coders.{mask_coder, image_coder}

abbrev pub version_taken : ℕ → Bool
version_taken v = eqb v 0

abbrev pub mode_taken : ℕ → Bool
mode_taken m = eqb m 1

abbrev pub version_from : ℕ → Version
version_from v = Base

abbrev pub mode_from : ℕ → Mode
mode_from m = One

abbrev pub length_in : List ℕ → ℕ
length_in vs = get_or vs 0 0

abbrev pub version_in : List ℕ → ℕ
version_in vs = get_or vs 1 0

abbrev pub mode_in : List ℕ → ℕ
mode_in vs = get_or vs 2 0

-- the ident is judged before the length that depends on it, a length below 6 at once
unfoldable pub start_table : List Field
start_table =
    mark (0xFF ∷ 0xD8 ∷ []) BadMark
    ∷ mark (0xFF ∷ 0xED ∷ []) BadMark
    ∷ val (two ∷ []) (is (leb 6)) BadLength
    ∷ mark (0x4D ∷ 0x52 ∷ 0x43 ∷ 0x00 ∷ []) BadMark
    ∷ again 6 (λ (vs : List ℕ). eqb (length_in vs) 16) BadLength
    ∷ val (one ∷ []) (is version_taken) BadVersion
    ∷ val (one ∷ []) (is mode_taken) BadMode
    ∷ val (one ∷ []) (λ (before vs : List ℕ). mask_coder (mode_from (mode_in before)) (get_or vs 0 0)) BadCoder
    ∷ val (one ∷ []) (λ (before vs : List ℕ). image_coder (mode_from (mode_in before)) (get_or vs 0 0)) BadCoder
    ∷ val (two ∷ []) (is listed) BadRes
    ∷ val (four ∷ []) (is (within 1 32768)) BadWidth
    ∷ mark (0xFF ∷ 0xD9 ∷ []) BadMark
    ∷ []

abbrev pub head_from : List ℕ → Head
head_from vs =
    record {
      rules = record { version = version_from (version_in vs); mode = mode_from (mode_in vs) };
      mask = get_or vs 3 0;
      image = get_or vs 4 0;
      main = get_or vs 5 0;
      width = get_or vs 6 0;
    }

unfoldable pub start_read : List ℕ → ℕ → Res Head
unfolding bind
start_read s at = bind (fields start_table [] s at) (λ (vs : List ℕ) (n : ℕ). ok (head_from vs) n)
