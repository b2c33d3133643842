-- The plane list in its form from C: how many whole entries, and which is which.
-- Assumes nothing.
use Prim.Native.Nat.{ℕ, ◌/◌, ◌%◌, ◌<◌}
use mathlib.Core.Path.{◌≡◌}
use mathlib.Core.List.{List}
use lib.ListN.{length}
use Rattle.octets.proofs.Entries.{length_entries, entry_of_lem}
use Rattle.laws.proofs.Says.{Says, says_eq, says_not}
use Rattle.pixel_rules.specs.Planes.{plane_size, plane_at, list_of}
use Rattle.picture_rules.specs.Sentences.{no_plane, plane}

-- five octets an entry; what is left over is a part
pub length_list : (s : List ℕ) → length (list_of s).entries ≡ length s / plane_size
length_list s = length_entries (plane_at s) (length s / plane_size) 0

pub plane_list : (s : List ℕ) (i : ℕ) → i < length s / plane_size → plane (list_of s).entries i ≡ plane_at s i
plane_list s i h = entry_of_lem (plane_at s) no_plane (length s / plane_size) i h

pub says_part : (s : List ℕ) → Says (list_of s).part (length s % plane_size ≡ 0 → ⊥)
says_part s = says_not (says_eq (length s % plane_size) 0)
