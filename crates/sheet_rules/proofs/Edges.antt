-- Sheets at the edges of the rules: beside the last number that is taken stands the first that is refused, with the record at fault. The judge and the
-- sentences name each bound, so that a bound that is wrong in both agrees with itself; these sheets name it once more, by what is done with it.
--
--   layer          a record: stripe, layer, coder, offsets, size, resolution, coded data
--   page ..        a stripe of three layers of which only the mask is coded: its number, width, height, resolution, coder, and its data
--   above n l      so many uncoded layers from number l on
-- Assumes nothing.
use Prim.Native.Nat.{ℕ, zero, suc, ◌+◌}
use mathlib.Core.Path.{◌≡◌, refl}
use mathlib.Core.List.{List, [], ◌∷◌, ◌++◌}
use Rattle.sheet_rules.specs.declared.Record.{Record}
use Rattle.std.specs.Prelude.{Ok, Err}
use Rattle.sheet_rules.specs.Judge.{keeps, after, after1, after2, after3, step_of, end_of, on_step, walk, judge}
use Rattle.sheet_rules.proofs.Make.{made}

abbrev layer : ℕ → ℕ → ℕ → ℕ → ℕ → ℕ → ℕ → ℕ → ℕ → ℕ → Record
layer s l c x y w h res from n = made s l c x y w h res 0 0 0 from n

abbrev page : ℕ → ℕ → ℕ → ℕ → ℕ → ℕ → ℕ → List Record
page s w h res coder from n = layer s 1 0 0 0 0 0 res 0 0 ∷ layer s 2 coder 0 0 w h res from n ∷ layer s 3 0 0 0 0 0 res 0 0 ∷ []

unfoldable pub above : ℕ → ℕ → List Record
above zero l = []
above (suc n) l = layer 0 l 0 0 0 0 0 400 0 0 ∷ above n (l + 1)

-- ---- the page's bounds

pub widest : (judge (page 0 1 1 400 4 9 9) 0 ≡ Ok (record { records = 3; stripes = 1 })) × (judge (page 0 32768 1 400 4 9 9) 0 ≡ Ok (record { records = 3; stripes = 1 }))
    × (judge (page 0 0 1 400 4 9 9) 0 ≡ Err 1) × (judge (page 0 32769 1 400 4 9 9) 0 ≡ Err 1)
unfolding judge walk on_step step_of keeps after after1 after2 after3 end_of
widest = (refl, refl, refl, refl)

-- of one stripe, and of the sum of two
pub tallest : (judge (page 0 8 65535 400 4 9 9) 0 ≡ Ok (record { records = 3; stripes = 1 })) × (judge (page 0 8 0 400 4 9 9) 0 ≡ Err 1)
    × (judge (page 0 8 65534 400 4 9 9 ++ page 1 8 1 400 4 9 9) 0 ≡ Ok (record { records = 6; stripes = 2 })) × (judge (page 0 8 65534 400 4 9 9 ++ page 1 8 2 400 4 9 9) 0 ≡ Err 4)
unfolding judge walk on_step step_of keeps after after1 after2 after3 end_of
tallest = (refl, refl, refl, refl)

-- layer 16 is one too many
pub most_layers_lem : (judge (page 0 8 8 400 4 9 9 ++ above 12 4) 0 ≡ Ok (record { records = 15; stripes = 1 })) × (judge (page 0 8 8 400 4 9 9 ++ above 14 4) 0 ≡ Err 15)
unfolding judge walk on_step step_of keeps after after1 after2 after3 end_of above
most_layers_lem = (refl, refl)

-- ---- the numbers that are listed

pub six_resolutions : (judge (page 0 8 8 100 4 9 9) 0 ≡ Ok (record { records = 3; stripes = 1 })) × (judge (page 0 8 8 200 4 9 9) 0 ≡ Ok (record { records = 3; stripes = 1 })) × (judge (page 0 8 8 300 4 9 9) 0 ≡ Ok (record { records = 3; stripes = 1 }))
    × (judge (page 0 8 8 400 4 9 9) 0 ≡ Ok (record { records = 3; stripes = 1 })) × (judge (page 0 8 8 600 4 9 9) 0 ≡ Ok (record { records = 3; stripes = 1 })) × (judge (page 0 8 8 1200 4 9 9) 0 ≡ Ok (record { records = 3; stripes = 1 }))
    × (judge (page 0 8 8 0 4 9 9) 0 ≡ Err 0) × (judge (page 0 8 8 800 4 9 9) 0 ≡ Err 0)
unfolding judge walk on_step step_of keeps after after1 after2 after3 end_of
six_resolutions = (refl, refl, refl, refl, refl, refl, refl, refl)

pub mask_coders : (judge (page 0 8 8 400 1 9 9) 0 ≡ Ok (record { records = 3; stripes = 1 })) × (judge (page 0 8 8 400 2 9 9) 0 ≡ Ok (record { records = 3; stripes = 1 })) × (judge (page 0 8 8 400 4 9 9) 0 ≡ Ok (record { records = 3; stripes = 1 }))
    × (judge (page 0 8 8 400 8 9 9) 0 ≡ Ok (record { records = 3; stripes = 1 })) × (judge (page 0 8 8 400 0 9 9) 0 ≡ Err 1) × (judge (page 0 8 8 400 3 9 9) 0 ≡ Err 1)
    × (judge (page 0 8 8 400 16 9 9) 0 ≡ Err 1)
unfolding judge walk on_step step_of keeps after after1 after2 after3 end_of
mask_coders = (refl, refl, refl, refl, refl, refl, refl)

-- ---- coded data: an end below 2^32, and a size

pub last_octet : (judge (page 0 8 8 400 4 4294967290 5) 0 ≡ Ok (record { records = 3; stripes = 1 })) × (judge (page 0 8 8 400 4 4294967290 6) 0 ≡ Err 1)
unfolding judge walk on_step step_of keeps after after1 after2 after3 end_of
last_octet = (refl, refl)

-- layer 1 without width, without height, and by a mask's coder
pub image_size : (judge (layer 0 1 1 0 0 0 5 400 9 9 ∷ []) 0 ≡ Err 0) × (judge (layer 0 1 1 0 0 5 0 400 9 9 ∷ []) 0 ≡ Err 0)
    × (judge (layer 0 1 2 0 0 5 5 400 9 9 ∷ []) 0 ≡ Err 0) × (judge (layer 0 1 1 0 0 5 5 400 9 9 ∷ []) 0 ≡ Err 1)
unfolding judge walk on_step step_of keeps after after1 after2 after3 end_of
image_size = (refl, refl, refl, refl)

-- ---- what an even layer, and what an uncoded one, may not say

-- a base colour in a mask above layer 2, octet by octet
pub mask_base : (judge (page 0 8 8 400 4 9 9 ++ (made 0 4 0 0 0 0 0 400 1 0 0 0 0 ∷ [])) 0 ≡ Err 3)
    × (judge (page 0 8 8 400 4 9 9 ++ (made 0 4 0 0 0 0 0 400 0 1 0 0 0 ∷ [])) 0 ≡ Err 3)
    × (judge (page 0 8 8 400 4 9 9 ++ (made 0 4 0 0 0 0 0 400 0 0 1 0 0 ∷ [])) 0 ≡ Err 3)
unfolding judge walk on_step step_of keeps after after1 after2 after3 end_of
mask_base = (refl, refl, refl)

-- a coder, an offset along and down, a width, a height, another resolution, a start: in layer 5
pub uncoded_numbers : (judge (page 0 8 8 400 4 9 9 ++ (above 1 4 ++ (layer 0 5 1 0 0 0 0 400 0 0 ∷ []))) 0 ≡ Err 4)
    × (judge (page 0 8 8 400 4 9 9 ++ (above 1 4 ++ (layer 0 5 0 1 0 0 0 400 0 0 ∷ []))) 0 ≡ Err 4)
    × (judge (page 0 8 8 400 4 9 9 ++ (above 1 4 ++ (layer 0 5 0 0 1 0 0 400 0 0 ∷ []))) 0 ≡ Err 4)
    × (judge (page 0 8 8 400 4 9 9 ++ (above 1 4 ++ (layer 0 5 0 0 0 1 0 400 0 0 ∷ []))) 0 ≡ Err 4)
    × (judge (page 0 8 8 400 4 9 9 ++ (above 1 4 ++ (layer 0 5 0 0 0 0 1 400 0 0 ∷ []))) 0 ≡ Err 4)
    × (judge (page 0 8 8 400 4 9 9 ++ (above 1 4 ++ (layer 0 5 0 0 0 0 0 200 0 0 ∷ []))) 0 ≡ Err 4)
    × (judge (page 0 8 8 400 4 9 9 ++ (above 1 4 ++ (layer 0 5 0 0 0 0 0 400 1 0 ∷ []))) 0 ≡ Err 4)
unfolding judge walk on_step step_of keeps after after1 after2 after3 end_of above
uncoded_numbers = (refl, refl, refl, refl, refl, refl, refl)

-- layer 2 of a later stripe of another width, and of another resolution
pub one_page : (judge (page 0 8 8 400 4 9 9 ++ page 1 9 8 400 4 9 9) 0 ≡ Err 4) × (judge (page 0 8 8 400 4 9 9 ++ page 1 8 8 200 4 9 9) 0 ≡ Err 4)
unfolding judge walk on_step step_of keeps after after1 after2 after3 end_of
one_page = (refl, refl)
