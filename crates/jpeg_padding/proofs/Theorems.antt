-- What is proved of padded markers (02, 2026-03) beside the walk. The statements are for the reader; how each is shown stands in the files beside this one.
-- Assumes nothing.
use Prim.Native.Nat.{ℕ, ◌+◌, ◌≤◌}
use mathlib.Core.Path.{◌≡◌}
use mathlib.Core.Logic.{◌⊎◌, ◌≢◌, ⊎_elim}
use mathlib.Core.List.{List, ◌++◌}
use lib.ListN.{get_or, replicate}
use Rattle.octets.specs.Octets.{Octets}
use Rattle.jpeg_rules.specs.declared.Said.{Said}
use Rattle.jpeg_rules.specs.declared.Reach.{Reach}
use Rattle.std.specs.Prelude.{Ok}
use Rattle.jpeg_rules.specs.Grammar.{marker, DataRun, Data, scan, lengthed, Components, Layer}
use Rattle.jpeg_rules.specs.Walk.{components_ok, begun, walk_of}
use Rattle.jpeg_rules.proofs.There.{says_components}
use Rattle.jpeg_rules.proofs.Theorems.{LayerAt, walk_exactly}
use Rattle.jpeg_padding.specs.Frozen.{any_count, frozen_walk_of}
use Rattle.jpeg_padding.specs.Places.{InPiece, restart, MarkerIn, BeginsAt, padded_at, Comes}
use Rattle.jpeg_padding.proofs.Before.{walk_ends_same, walk_lone_same}
use Rattle.jpeg_padding.proofs.Counts.{Uncounted, walk_counted, walk_beside}
use Rattle.jpeg_padding.proofs.Pads.{layer_more, layer_parts}
use Rattle.jpeg_padding.proofs.Walked.{walk_more, walk_reaches}

-- ---- where the walk ended before padded markers and grey layers, with one component or three, it ends today, and says the same

pub conservative : (s : List ℕ) (start main e : ℕ) (said : Said) → frozen_walk_of any_count s start main ≡ Ok (e, said) → Components said.components
    → walk_of s start main ≡ Ok (e, said)
conservative s start main e said q c =
    walk_ends_same s start main e said (walk_counted s main components_ok start e said ((says_components said.components).shown c) q)

-- and a list in which no FF stands behind an FF is walked as it was, with every refusal, but for the count of components that is judged now
pub unpadded_same : (s : List ℕ) (start main : ℕ) → ((i : ℕ) → get_or s i 0 ≡ 0xFF → get_or s (i + 1) 0 ≢ 0xFF)
    → walk_of s start main ≡ frozen_walk_of components_ok s start main
unpadded_same s start main = walk_lone_same s start main

-- where that judging changes an answer, it is BadLayer at an octet that is not 1 and not 3
pub count_added : (s : List ℕ) (start main : ℕ)
    → (frozen_walk_of components_ok s start main ≡ frozen_walk_of any_count s start main) ⊎ Uncounted s main components_ok (frozen_walk_of components_ok s start main)
count_added s start main = walk_beside s main components_ok start

-- ---- octets FF put in before any marker of a layer but the first: a layer again, that says the same of itself

pub marker_parts : {main : ℕ} {l : List ℕ} {said : Said} (y : Layer main l said) (a b : List ℕ) → MarkerIn y a b → l ≡ a ++ b
marker_parts y a b = layer_parts y

pub fill_inserted : {main : ℕ} {l : List ℕ} {said : Said} (y : Layer main l said) (a b : List ℕ) → MarkerIn y a b → (k : ℕ)
    → Layer main (a ++ (replicate k 0xFF ++ b)) said
fill_inserted y a b m k = layer_more y k m

-- and the walk over it ends so much later
pub walk_inserted : (s : List ℕ) (start main e : ℕ) (said : Said) (y : LayerAt s start main e said) (p : ℕ) → BeginsAt y.layer start p → (k : ℕ)
    → walk_of (padded_at s p k) start main ≡ Ok (e + k, said)
walk_inserted = walk_more

-- ---- among these places is every one where a walk that ends looks for a marker after FF D8; so octets FF may stand before each

pub reached_begins : (s : List ℕ) (start main e : ℕ) (said : Said) (y : LayerAt s start main e said) (t : Reach) → Comes s main (begun (start + 2)) t
    → BeginsAt y.layer start t.at
reached_begins = walk_reaches

pub reached_inserted : (s : List ℕ) → Octets s → (start main e : ℕ) (said : Said) → walk_of s start main ≡ Ok (e, said)
    → (t : Reach) → Comes s main (begun (start + 2)) t → (k : ℕ) → walk_of (padded_at s t.at k) start main ≡ Ok (e + k, said)
reached_inserted s o start main e said q t c k =
    let y = (walk_exactly s o start main e said).0 q in
    walk_inserted s start main e said y t.at (reached_begins s start main e said y t c) k

-- in scan data, which the walk passes, every run but that of FF 00 is one too
pub restart_begins : (f : ℕ) (header d more : List ℕ) (fill c : ℕ) → Data d → Data more → DataRun fill c → c ≢ 0x00
    → InPiece (scan f header (d ++ (marker fill c ++ more))) (lengthed f 0xDA header ++ d) (marker fill c ++ more)
restart_begins f header d more fill c k m r n =
    ⊎_elim (λ (z : (c ≡ 0x00) × (fill ≡ 0)). absurd (n z.0)) (λ (z : (0xD0 ≤ c) × (c ≤ 0xD7)). restart f header d more fill c k z m) r
