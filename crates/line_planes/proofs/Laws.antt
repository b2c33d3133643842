-- One law for each way out of the functions that gather a plane list: its premises are what is known there.
-- Assumes nothing.
use Prim.Native.Nat.{ℕ, ◌+◌, ◌-◌, ◌*◌, ◌/◌, ◌≤◌, ◌<◌, min}
use native.Mathlib.Omega.{arith}
use mathlib.Core.Path.{◌≡◌, refl, sym, ap, ◌∙◌}
use mathlib.Core.Logic.{◌≢◌}
use mathlib.Core.Bool.{cond}
use mathlib.Core.List.{List, [], ◌∷◌}
use lib.ListN.{length, get_or, set}
use borrow.Author.Tests.{lt-ltb, le-ltb, eq-eqb, ne_eqb}
use borrow.Author.Rules.{rules}
use Rattle.octets.specs.Octets.{be32_at}
use Rattle.octets.specs.Entries.{entries_from}
use Rattle.octets.proofs.Entries.{entries_next, entries_none}
use Rattle.pixel_rules.specs.declared.Plane.{Plane}
use Rattle.pixel_rules.specs.Planes.{plane_size, plane_at, plane_start}
use Rattle.std.specs.Prelude.{Some, None}
use Rattle.line_planes.specs.declared.Listing.{Listing}
use Rattle.line_planes.specs.Listing.{no_planes, with_plane, gathered, listing_of, entry_of, entries_of}

-- ---- one entry

pub plane_read : (s : List ℕ) (i : ℕ) (b : ℕ) → b ≡ be32_at s (i * 5 + 1) → record { layer = get_or s (i * 5) 0; start = b } ≡ plane_at s i
unfolding plane_at
plane_read s i b e = rw e

module _ (t : Listing) (p : Plane) where
  pub plane_kept : t.count < 16
      → record { count = t.count + 1; layers = set t.layers t.count p.layer; starts = set t.starts t.count p.start } ≡ with_plane t p
  unfolding with_plane
  plane_kept h = simp (lt-ltb t.count 16 h)

  pub plane_passed : 16 ≤ t.count → t ≡ with_plane t p
  unfolding with_plane
  plane_passed h = simp (le-ltb t.count 16 h)

-- ---- the loop over the entries: the whole list is what is left of it, gathered after what is there

pub record Gathering (s : List ℕ) (n : ℕ) (t : Listing) (i : ℕ) : Type 0 where
  pub within : i ≤ n
  pub whole : n ≡ length s / plane_size
  pub left : listing_of s ≡ gathered t (entries_from (plane_at s) (n - i) i)

pub gather_full : (t : Listing) (ps : List Plane) → 16 ≤ t.count → gathered t ps ≡ t
unfolding gathered
gather_full t [] h = refl
gather_full t (p ∷ ps) h = rw (sym (plane_passed t p h)) (gather_full t ps h)

module _ (s : List ℕ) (n : ℕ) where
  pub gather_none : (t : Listing) → n ≡ length s / 5 → t ≡ no_planes → Gathering s n t 0
  unfolding listing_of
  gather_none t w e = record { within = omega arith; whole = w; left = let z : length s / plane_size - 0 ≡ length s / plane_size = omega arith in rw (e, w, z) refl }

  pub gather_more : (t u : Listing) (p : Plane) (i : ℕ) → Gathering s n t i → i < n → p ≡ plane_at s i → u ≡ with_plane t p → Gathering s n u (i + 1)
  unfolding gathered
  gather_more t u p i g h ep eu = record { within = omega arith; whole = g.whole; left = g.left ∙ ap (gathered t) (entries_next (plane_at s) n i h) ∙ rw (eu, ep) refl }

  pub gather_stop : (t : Listing) (i : ℕ) → Gathering s n t i → t.count ≡ 16 → t ≡ listing_of s
  gather_stop t i g e = sym (g.left ∙ gather_full t (entries_from (plane_at s) (n - i) i) (omega arith))

  pub gather_end : (t : Listing) (i : ℕ) → Gathering s n t i → n ≤ i → t ≡ listing_of s
  unfolding gathered
  gather_end t i g h = sym (g.left ∙ ap (gathered t) (entries_none (plane_at s) n i h))

-- ---- how many entries there are

module _ (t : Listing) where
  pub count_few : t.count < 16 → t.count ≡ min t.count 16
  count_few h = omega arith

  pub count_full : 16 ≤ t.count → 16 ≡ min t.count 16
  count_full h = omega arith

-- ---- a layer looked for: where it starts is where it starts among the entries left

pub record Seeking (t : Listing) (l n i : ℕ) : Type 0 where
  pub within : i ≤ n
  pub all : n ≡ min t.count 16
  pub left : plane_start (entries_of t) l ≡ plane_start (entries_from (entry_of t) (n - i) i) l

module _ (t : Listing) (l n : ℕ) where
  pub seek_none : n ≡ min t.count 16 → Seeking t l n 0
  unfolding entries_of
  seek_none e = record { within = omega arith; all = e; left = let z : min t.count 16 - 0 ≡ min t.count 16 = omega arith in rw (e, z) refl }

  pub seek_more : (p : Plane) (i : ℕ) → Seeking t l n i → i < n → p ≡ entry_of t i → p.layer ≢ l → Seeking t l n (i + 1)
  unfolding plane_start
  seek_more p i g h e d =
      record {
        within = omega arith;
        all = g.all;
        left = g.left ∙ ap (λ ps. plane_start ps l) (entries_next (entry_of t) n i h) ∙ ap (λ b. cond b (Some (entry_of t i).start) (plane_start (entries_from (entry_of t) (n - (i + 1)) (i + 1)) l)) (ne_eqb (entry_of t i).layer l (λ q. d (ap (λ (x : Plane). x.layer) e ∙ q)));
      }

  pub seek_found : (p : Plane) (i : ℕ) → Seeking t l n i → i < n → p ≡ entry_of t i → p.layer ≡ l → Some p.start ≡ plane_start (entries_of t) l
  unfolding plane_start
  seek_found p i g h e q =
      sym
      (g.left ∙ ap (λ ps. plane_start ps l) (entries_next (entry_of t) n i h) ∙ ap (λ b. cond b (Some (entry_of t i).start) (plane_start (entries_from (entry_of t) (n - (i + 1)) (i + 1)) l)) (eq-eqb (entry_of t i).layer l (ap (λ (x : Plane). x.layer) (sym e) ∙ q))
      ∙ ap (λ (x : Plane). Some x.start) (sym e))

  pub seek_end : (i : ℕ) → Seeking t l n i → n ≤ i → None ≡ plane_start (entries_of t) l
  unfolding plane_start
  seek_end i g h = sym (g.left ∙ ap (λ ps. plane_start ps l) (entries_none (entry_of t) n i h))

pub ruleset seeking = (rules, count_few, count_full, seek_none, seek_more, seek_found, seek_end)

pub ruleset gathering = (rules, plane_read, plane_kept, plane_passed, gather_none, gather_more, gather_stop, gather_end)
