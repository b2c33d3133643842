-- The pixels (a) to (j) of 01, "Pixels to prove": one table, one theorem. Each entry is a sheet's octets, a plane list's octets and samples, and the
-- four octets due at a pixel, under every unseen colour, through the definitions that the line call's promise cites.
-- Assumes nothing.
use Prim.Native.Nat.{ℕ, ◌+◌, ◌-◌, ◌*◌, ◌<◌, ◌≤◌}
use native.Mathlib.Omega.{arith}
use mathlib.Core.Path.{◌≡◌, refl, sym, ap, ◌∙◌}
use mathlib.Core.List.{List, [], ◌∷◌, ◌++◌}
use lib.ListN.{length, take, drop, replicate}
use lib.Dec.{lit<}
use lib.Seq.{length-take-le, take-take, take-add, drop_at}
use Rattle.octets.specs.Octets.{be16_at, be32_at, octets16, octets32, put_at}
use Rattle.octets.specs.Entries.{joined}
use Rattle.sheet_rules.specs.declared.Record.{Record}
use Rattle.std.specs.Prelude.{Ok}
use Rattle.sheet_rules.specs.Record.{marked, record_at, encode, sheet_of, records}
use Rattle.sheet_rules.specs.Judge.{keeps, after, after1, after2, after3, step_of, end_of, on_step, walk, judge, judge_of}
use Rattle.sheet_rules.specs.StripeTable.{find_stripe, layer_record}
use Rattle.sheet_rules.proofs.Make.{made}
use Rattle.sheet_rules.specs.declared.Colour.{Colour}
use Rattle.pixel_rules.specs.Planes.{plane_at, list_of}
use Rattle.pixel_rules.specs.Samples.{mask_at, image_at}
use Rattle.pixel_rules.specs.Place.{scale}
use Rattle.picture_rules.specs.Line.{line_of, line_into}
use Rattle.picture_rules.proofs.Demand3.{line_length, line_anywhere}
use Rattle.picture_rules.specs.Demand.{four_at, seen_in}

-- a pixel of a page 8 main pixels wide
pub record Pixel : Type 0 where
  pub sheet : List ℕ
  pub records : ℕ
  pub stripes : ℕ
  pub planes : List ℕ
  pub samples : List ℕ
  pub stripe : ℕ
  pub line : ℕ
  pub x : ℕ
  pub due : Colour → List ℕ

-- the sheet is accepted, and whatever buffer of 32 octets or more is lent, and whatever the unseen colour is, the call is done and leaves the octets due
abbrev pub Holds : Pixel → Type 0
Holds p =
    (judge_of p.sheet ≡ Ok (record { records = p.records; stripes = p.stripes }))
    × ((u : Colour) (out : List ℕ) → 32 ≤ length out
    → (line_of p.sheet (list_of p.planes) p.samples p.stripe p.line (length out) ≡ Ok 32)
    × (four_at (line_into p.sheet (list_of p.planes) p.samples p.stripe p.line u out) p.x ≡ p.due u))

abbrev pub Each : List Pixel → Type 0
Each [] = Unit
Each (p ∷ ps) = Holds p × Each ps

-- ---- the records

abbrev pub white : Colour
white = record { c0 = 255; c1 = 128; c2 = 96 }

abbrev pub black : Colour
black = record { c0 = 0; c1 = 128; c2 = 96 }

abbrev pub none : Colour
none = record { c0 = 0; c1 = 0; c2 = 0 }

-- layer, coder, offsets, size, resolution, base colour, length of coded data
abbrev pub layer : ℕ → ℕ → ℕ → ℕ → ℕ → ℕ → ℕ → Colour → ℕ → Record
layer l c x y w h res base n = made 0 l c x y w h res base.c0 base.c1 base.c2 0 n

-- a coded layer, and one that is not; layer 2 is 8 by 2
abbrev image : ℕ → ℕ → ℕ → ℕ → ℕ → Colour → Record
image l x w h res base = layer l 1 x 0 w h res base 5

abbrev mask : ℕ → ℕ → ℕ → ℕ → ℕ → Record
mask l x w h res = layer l 4 x 0 w h res none 5

abbrev pub blank_image : ℕ → Colour → Record
blank_image l base = layer l 0 0 0 0 0 400 base 0

abbrev blank_mask : ℕ → Record
blank_mask l = layer l 0 0 0 0 0 400 none 0

abbrev no_mask2 : Record
no_mask2 = layer 2 0 0 0 8 2 400 none 0

abbrev mask2 : Record
mask2 = mask 2 0 8 2 400

-- a plane list's entry: the layer, and the start of its samples
abbrev pub entry : ℕ → ℕ → List ℕ
entry l at = l ∷ 0 ∷ 0 ∷ 0 ∷ at ∷ []

-- ---- the table

-- (a), (b): only layer 1 coded and read, at 200, one sample, offset 2: pixel 1 is base, pixel 3 the sample
abbrev pub sheet_ab : List ℕ
sheet_ab = sheet_of (image 1 2 1 1 200 white ∷ no_mask2 ∷ blank_image 3 black ∷ [])

abbrev pub pixel_a : Pixel
pixel_a = record { sheet = sheet_ab; records = 3; stripes = 1; planes = entry 1 1; samples = 9 ∷ 10 ∷ 20 ∷ 30 ∷ []; stripe = 0; line = 0; x = 1; due = λ u. seen_in white }

abbrev pub pixel_b : Pixel
pixel_b = record { sheet = sheet_ab; records = 3; stripes = 1; planes = entry 1 1; samples = 9 ∷ 10 ∷ 20 ∷ 30 ∷ []; stripe = 0; line = 0; x = 3; due = λ u. 10 ∷ 20 ∷ 30 ∷ 1 ∷ [] }

-- (c): mask 1, layer 3 uncoded and black
abbrev pub pixel_c : Pixel
pixel_c =
    record {
      sheet = sheet_of (blank_image 1 white ∷ mask2 ∷ blank_image 3 black ∷ []);
      records = 3;
      stripes = 1;
      planes = entry 2 0;
      samples = replicate 13 0 ++ (1 ∷ replicate 2 0);
      stripe = 0;
      line = 1;
      x = 5;
      due = λ u. seen_in black;
    }

-- (d), (e): mask unread, layers 1 and 3 uncoded, both white; and white and black
abbrev pub pixel_d : Pixel
pixel_d =
    record { sheet = sheet_of (blank_image 1 white ∷ mask2 ∷ blank_image 3 white ∷ []); records = 3; stripes = 1; planes = []; samples = []; stripe = 0; line = 1; x = 5; due = λ u. seen_in white }

abbrev pub pixel_e : Pixel
pixel_e =
    record { sheet = sheet_of (blank_image 1 white ∷ mask2 ∷ blank_image 3 black ∷ []); records = 3; stripes = 1; planes = []; samples = []; stripe = 0; line = 1; x = 5; due = λ u. u.c0 ∷ u.c1 ∷ u.c2 ∷ 0 ∷ [] }

-- (f), (g): layer 3 unread, from main pixel 2 to 5, mask 1: inside, and outside
abbrev pub sheet_fg : List ℕ
sheet_fg = sheet_of (blank_image 1 white ∷ mask2 ∷ image 3 2 2 1 200 black ∷ [])

abbrev pub pixel_f : Pixel
pixel_f = record { sheet = sheet_fg; records = 3; stripes = 1; planes = entry 2 0; samples = replicate 16 1; stripe = 0; line = 1; x = 5; due = λ u. u.c0 ∷ u.c1 ∷ u.c2 ∷ 0 ∷ [] }

abbrev pub pixel_g : Pixel
pixel_g = record { sheet = sheet_fg; records = 3; stripes = 1; planes = entry 2 0; samples = replicate 16 1; stripe = 0; line = 1; x = 6; due = λ u. seen_in black }

-- (h): layer 1 unread, mask 4 is 1, layer 5 read
abbrev pub pixel_h : Pixel
pixel_h =
    record {
      sheet = sheet_of (image 1 0 8 2 400 white ∷ no_mask2 ∷ blank_image 3 black ∷ mask 4 1 4 1 200 ∷ image 5 0 2 1 100 black ∷ []);
      records = 5;
      stripes = 1;
      planes = entry 4 0 ++ entry 5 4;
      samples = 0 ∷ 0 ∷ 255 ∷ 0 ∷ 11 ∷ 12 ∷ 13 ∷ 21 ∷ 22 ∷ 23 ∷ [];
      stripe = 0;
      line = 0;
      x = 5;
      due = λ u. 21 ∷ 22 ∷ 23 ∷ 1 ∷ [];
    }

-- (i): N is 13, all read, masks 2 and 10 are 1, mask 12 is 0: layer 11. Each image layer is two samples of four main pixels
abbrev two : ℕ → Record
two l = image l 0 2 1 100 none

abbrev two_bits : ℕ → Record
two_bits l = mask l 0 2 1 100

abbrev pub pixel_i : Pixel
pixel_i =
    record {
      sheet = sheet_of (two 1 ∷ mask2 ∷ two 3 ∷ two_bits 4 ∷ two 5 ∷ two_bits 6 ∷ two 7 ∷ two_bits 8 ∷ two 9 ∷ two_bits 10 ∷ two 11 ∷ two_bits 12 ∷ two 13 ∷ []);
      records = 13;
      stripes = 1;
      planes = entry 1 0 ++ (entry 2 42 ++ (entry 3 6 ++ (entry 4 58 ++ (entry 5 12 ++ (entry 6 58 ++ (entry 7 18 ++ (entry 8 58 ++ (entry 9 24 ++ (entry 10 42 ++ (entry 11 30 ++ (entry 12 58 ++ entry 13 36)))))))))));
      samples =
          1 ∷ 1 ∷ 1 ∷ 1 ∷ 1 ∷ 1 ∷ 3 ∷ 3 ∷ 3 ∷ 3 ∷ 3 ∷ 3 ∷ 5 ∷ 5 ∷ 5 ∷ 5 ∷ 5 ∷ 5 ∷ 7 ∷ 7 ∷ 7 ∷ 7 ∷ 7 ∷ 7
          ∷ 9 ∷ 9 ∷ 9 ∷ 9 ∷ 9 ∷ 9 ∷ 11 ∷ 11 ∷ 11 ∷ 110 ∷ 111 ∷ 112 ∷ 13 ∷ 13 ∷ 13 ∷ 13 ∷ 13 ∷ 13
          ∷ replicate 16 1 ++ (0 ∷ 0 ∷ []);
      stripe = 0;
      line = 0;
      x = 6;
      due = λ u. 110 ∷ 111 ∷ 112 ∷ 1 ∷ [];
    }

-- the same record, of stripe 1
abbrev pub below : Record → Record
below r = made 1 r.layer r.coder r.x r.y r.width r.height r.res r.base0 r.base1 r.base2 r.start r.len

-- (j): only layer 3 coded, read, inside; in the second of two stripes
abbrev pub pixel_j : Pixel
pixel_j =
    record {
      sheet = sheet_of (blank_image 1 white ∷ mask2 ∷ blank_image 3 black ∷ below (blank_image 1 white) ∷ below no_mask2 ∷ below (image 3 2 2 1 200 black) ∷ []);
      records = 6;
      stripes = 2;
      planes = entry 3 0;
      samples = 31 ∷ 32 ∷ 33 ∷ 41 ∷ 42 ∷ 43 ∷ [];
      stripe = 1;
      line = 1;
      x = 4;
      due = λ u. 41 ∷ 42 ∷ 43 ∷ 1 ∷ [];
    }

abbrev pub table : List Pixel
table =
    pixel_a ∷ pixel_b ∷ pixel_c ∷ pixel_d ∷ pixel_e ∷ pixel_f ∷ pixel_g ∷ pixel_h ∷ pixel_i ∷ pixel_j ∷ []

-- ---- grey layers (02, 2026-07): four pixels of the same make

abbrev shade : ℕ → Colour
shade v = record { c0 = v; c1 = 128; c2 = 96 }

-- layer 3 from main pixel 2 to 5, grey, over a layer 1 that is one shade all over
abbrev sheet_grey : List ℕ
sheet_grey = sheet_of (blank_image 1 (shade 77) ∷ mask2 ∷ marked 1 (image 3 2 2 1 200 black) ∷ [])

-- mask 1, layer 3 read: its second octet is the second sample
abbrev pub grey_read : Pixel
grey_read = record { sheet = sheet_grey; records = 3; stripes = 1; planes = entry 2 1 ++ entry 3 17; samples = 9 ∷ replicate 16 1 ++ (10 ∷ 20 ∷ []); stripe = 0; line = 1; x = 5; due = λ u. 20 ∷ 128 ∷ 96 ∷ 1 ∷ [] }

-- mask 1, layer 3 unread: no shade is known, though each one is neutral
abbrev pub grey_unread : Pixel
grey_unread = record { sheet = sheet_grey; records = 3; stripes = 1; planes = entry 2 0; samples = replicate 16 1; stripe = 0; line = 1; x = 5; due = λ u. u.c0 ∷ u.c1 ∷ u.c2 ∷ 0 ∷ [] }

-- mask unread, layer 3 read: layers 1 and 3 agree in the first of its samples
abbrev pub grey_agrees : Pixel
grey_agrees = record { sheet = sheet_grey; records = 3; stripes = 1; planes = entry 3 0; samples = 77 ∷ 20 ∷ []; stripe = 0; line = 1; x = 3; due = λ u. 77 ∷ 128 ∷ 96 ∷ 1 ∷ [] }

-- mask 0, layer 3 unread: layer 1 shows
abbrev pub grey_beneath : Pixel
grey_beneath = record { sheet = sheet_grey; records = 3; stripes = 1; planes = entry 2 0; samples = replicate 16 0; stripe = 0; line = 1; x = 5; due = λ u. 77 ∷ 128 ∷ 96 ∷ 1 ∷ [] }

abbrev pub greys : List Pixel
greys = grey_read ∷ grey_unread ∷ grey_agrees ∷ grey_beneath ∷ []

-- ---- the theorem

infixr 4 ◌&◌
abbrev ◌&◌ : {A B : Type 0} → A → B → A × B
a & b = (a, b)

four_take : (e : List ℕ) (x n : ℕ) → x * 4 + 4 ≤ n → n ≤ length e → four_at (take n e) x ≡ four_at e x
four_take e x n h l =
    let z : x * 4 + (n - x * 4) ≡ n = omega arith in
    ap (λ (i : ℕ). four_at (take i e) x) (sym z)
    ∙ ap (λ (u : List ℕ). four_at u x) (take-add (x * 4) (n - x * 4) e)
    ∙ ap (take 4) (drop_at (take (x * 4) e) (take (n - x * 4) (drop (x * 4) e)) (x * 4) (length-take-le (x * 4) e (omega arith)))
    ∙ take-take 4 (n - x * 4) (drop (x * 4) e) (omega arith)

-- from one buffer to every other
entry_holds : (p : Pixel) → judge_of p.sheet ≡ Ok (record { records = p.records; stripes = p.stripes })
    → line_of p.sheet (list_of p.planes) p.samples p.stripe p.line 32 ≡ Ok 32
    → ((u : Colour) → four_at (line_into p.sheet (list_of p.planes) p.samples p.stripe p.line u (replicate 32 7)) p.x ≡ p.due u)
    → p.x < 8 → Holds p
entry_holds p g q f h = (
  g,
  λ u out l.
      let one = line_anywhere p.sheet (list_of p.planes) p.samples p.stripe p.line u (replicate 32 7) out 32 q l in
      let a = line_length p.sheet (list_of p.planes) p.samples p.stripe p.line u out in
      let b = line_length p.sheet (list_of p.planes) p.samples p.stripe p.line u (replicate 32 7) in
      let c : 32 ≤ length (line_into p.sheet (list_of p.planes) p.samples p.stripe p.line u out) = omega arith in
      let e : 32 ≤ length (line_into p.sheet (list_of p.planes) p.samples p.stripe p.line u (replicate 32 7)) = omega arith in (
        one.0,
        sym (four_take _ p.x 32 (omega arith) c) ∙ ap (λ (l : List ℕ). four_at l p.x) one.1 ∙ four_take _ p.x 32 (omega arith) e ∙ f u,
      ),
)

pub pixels_hold : Each table
unfolding octets16 octets32 joined encode judge_of judge walk on_step step_of keeps after after1 after2 after3 end_of records record_at be16_at be32_at line_of line_into put_at find_stripe plane_at layer_record mask_at image_at scale
pixels_hold =
    entry_holds pixel_a refl refl (λ u. refl) (lit< tt)
    & entry_holds pixel_b refl refl (λ u. refl) (lit< tt)
    & entry_holds pixel_c refl refl (λ u. refl) (lit< tt)
    & entry_holds pixel_d refl refl (λ u. refl) (lit< tt)
    & entry_holds pixel_e refl refl (λ u. refl) (lit< tt)
    & entry_holds pixel_f refl refl (λ u. refl) (lit< tt)
    & entry_holds pixel_g refl refl (λ u. refl) (lit< tt)
    & entry_holds pixel_h refl refl (λ u. refl) (lit< tt)
    & entry_holds pixel_i refl refl (λ u. refl) (lit< tt)
    & entry_holds pixel_j refl refl (λ u. refl) (lit< tt)
    & tt

pub greys_hold : Each greys
unfolding octets16 octets32 joined encode judge_of judge walk on_step step_of keeps after after1 after2 after3 end_of records record_at be16_at be32_at line_of line_into put_at find_stripe plane_at layer_record mask_at image_at scale
greys_hold =
    entry_holds grey_read refl refl (λ u. refl) (lit< tt)
    & entry_holds grey_unread refl refl (λ u. refl) (lit< tt)
    & entry_holds grey_agrees refl refl (λ u. refl) (lit< tt)
    & entry_holds grey_beneath refl refl (λ u. refl) (lit< tt)
    & tt
