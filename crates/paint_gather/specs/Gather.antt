-- Pixels fetched each from the place that a table has for its floor.
--
--   entry t j c            the table's number for its pixel j and floor c
--   place_in t step i c     where floor c's sample is at pixel i of the part: after each twelve pixels all places go on by a step
--   gathered each          the sample of each pixel's floor, of so many octets, floors and table starting at pixel a
--   next_at each            the same of the pixels from y on, the floors from p on and the table's pixels from j on, with no step between them
--   Reach n                n places of these lie in the samples
--   Reaches                the places of the pixels p up to q of the part do
--   Running                the pixels x up to y are gathered, and fewer than twelve are left
use Rattle.std.specs.Prelude.{ℕ, ◌+◌, ◌-◌, ◌*◌, ◌/◌, ◌%◌, ◌≤◌, ◌<◌, List, length, get_or}
use Rattle.paint_coat.specs.Coat.{Coated, over, four_in}

unfoldable pub entry : List ℕ → ℕ → ℕ → ℕ
entry t j c = get_or t (j * 16 + c) 0

unfoldable pub place_in : List ℕ → ℕ → ℕ → ℕ → ℕ
unfolding entry
place_in t step i c = entry t (i % 12) c + i / 12 * step

unfoldable pub gathered : ℕ → List ℕ → List ℕ → List ℕ → ℕ → ℕ → ℕ → List ℕ
unfolding place_in
gathered each sel t d step a x = four_in each d (place_in t step (x - a) (get_or sel (x - a) 0))

unfoldable pub next_at : ℕ → List ℕ → ℕ → List ℕ → ℕ → List ℕ → ℕ → ℕ → List ℕ
next_at each sel p t j r y x = four_in each r (entry t (j + (x - y)) (get_or sel (p + (x - y)) 0))

pub record Reach (n : ℕ) (sel : List ℕ) (p : ℕ) (t : List ℕ) (j : ℕ) (r : List ℕ) : Type 0 where
  pub long : p + n ≤ length sel
  pub table : 192 ≤ length t
  pub low : j + n ≤ 12
  pub few : (m : ℕ) → m < n → get_or sel (p + m) 0 < 16
  pub there : (m : ℕ) → m < n → entry t (j + m) (get_or sel (p + m) 0) + 4 ≤ length r

pub record Reaches (sel t d : List ℕ) (step p q : ℕ) : Type 0 where
  pub long : q ≤ length sel
  pub table : 192 ≤ length t
  pub few : (i : ℕ) → p ≤ i → i < q → get_or sel i 0 < 16
  pub there : (i : ℕ) → p ≤ i → i < q → place_in t step i (get_or sel i 0) + 4 ≤ length d

pub record Running (each : ℕ) (sel t d : List ℕ) (step a x e : ℕ) (l : List ℕ) (y : ℕ) (n : List ℕ) : Type 0 where
  pub from : x ≤ y
  pub upto : y ≤ e
  pub done : Coated (over (gathered each sel t d step a)) l x y n
