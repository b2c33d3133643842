-- What a reading depends on: two lists that agree in their first octets give the same numbers and strings there, and what is read of these alone
-- is read alike.
--
--   Agree e s t           the lists agree in their first e octets
--   Hangs look read s at  reading s from a place looks so far, and a list that agrees with s so far is read alike
--
-- Assumes nothing.
use Prim.Native.Nat.{ℕ, ◌+◌, ◌≤◌, ◌<◌}
use native.Mathlib.Omega.{arith}
use mathlib.Core.Path.{◌≡◌, refl, sym, ap, ◌∙◌}
use mathlib.Core.Bool.{Bool, cond}
use mathlib.Core.List.{List}
use lib.ListN.{length, get_or, take, drop, take-append-drop}
use lib.Seq.{length-take-le, take-take, get_or-take}
use lib.Dec.{ltb}
use borrow.Author.Tests.{le-ltb}
use Rattle.octets.specs.Octets.{be16_at, be32_at, stands_at}
use Rattle.octets.proofs.Laws.{be16_same, be32_same, stands_append}

pub record Agree (e : ℕ) (s t : List ℕ) : Type 0 where
  pub left : e ≤ length s
  pub right : e ≤ length t
  pub same : take e s ≡ take e t

pub agree_less : (d e : ℕ) (s t : List ℕ) → d ≤ e → Agree e s t → Agree d s t
agree_less d e s t h a =
    let l = a.left in
    let r = a.right in
    record {
      left = omega arith;
      right = omega arith;
      same = sym (take-take d e s h) ∙ ap (take d) a.same ∙ take-take d e t h;
    }

stands_front : (s m : List ℕ) (at e : ℕ) → at + length m ≤ e → e ≤ length s → stands_at s at m ≡ stands_at (take e s) at m
stands_front s m at e h l =
    let n = length-take-le e s l in
    ap (λ (x : List ℕ). stands_at x at m) (sym (take-append-drop e s)) ∙ stands_append (take e s) (drop e s) at m (omega arith)

-- ---- what stands within the octets that agree

module _ (e : ℕ) (s t : List ℕ) (a : Agree e s t) where
  pub octet_agree : (at : ℕ) → at < e → get_or s at 0 ≡ get_or t at 0
  octet_agree at h = sym (get_or-take e s at 0 h) ∙ ap (λ (x : List ℕ). get_or x at 0) a.same ∙ get_or-take e t at 0 h

  pub be16_agree : (at : ℕ) → at + 2 ≤ e → be16_at s at ≡ be16_at t at
  be16_agree at h = be16_same s t at at (λ k g. octet_agree (at + k) (omega arith))

  pub be32_agree : (at : ℕ) → at + 4 ≤ e → be32_at s at ≡ be32_at t at
  be32_agree at h = be32_same s t at at (λ k g. octet_agree (at + k) (omega arith))

  pub stands_agree : (m : List ℕ) (at : ℕ) → at + length m ≤ e → stands_at s at m ≡ stands_at t at m
  stands_agree m at h = stands_front s m at e h a.left ∙ ap (λ (x : List ℕ). stands_at x at m) a.same ∙ sym (stands_front t m at e h a.right)

-- ---- what a reading depends on

pub record Hangs {A : Type 0} (look : ℕ) (read : List ℕ → A) (s : List ℕ) (at : ℕ) : Type 0 where
  pub ahead : at ≤ look
  pub inside : look ≤ length s
  pub same : (t : List ℕ) → Agree look s t → read t ≡ read s

module _ {A : Type 0} (s : List ℕ) where
  -- what looks at nothing
  pub hangs_none : (x : A) (at look : ℕ) → at ≤ look → look ≤ length s → Hangs look (λ (t : List ℕ). x) s at
  hangs_none x at look h g = record { ahead = h; inside = g; same = λ t a. refl }

  -- the same reading in other words, for lists that are long enough
  pub hangs_as : (read other : List ℕ → A) (look at : ℕ) → ((t : List ℕ) → look ≤ length t → other t ≡ read t) → Hangs look read s at → Hangs look other s at
  hangs_as read other look at e h =
      record {
        ahead = h.ahead;
        inside = h.inside;
        same = λ t a. e t a.right ∙ h.same t a ∙ sym (e s a.left);
      }

  pub hangs_from : (read : List ℕ → A) (look at from : ℕ) → from ≤ look → Hangs look read s at → Hangs look read s from
  hangs_from read look at from l h = record { ahead = l; inside = h.inside; same = h.same }

  -- first a part that depends on the octets up to d, then the rest, by what the part gave of s
  pub hangs_then : {B : Type 0} (part : List ℕ → B) (on : B → List ℕ → A) (b : B) (d look at : ℕ) → part s ≡ b → Hangs d part s at → Hangs look (on b) s d
      → Hangs look (λ (t : List ℕ). on (part t) t) s at
  hangs_then part on b d look at e p h =
      let pa = p.ahead in
      let ha = h.ahead in
      record {
        ahead = omega arith;
        inside = h.inside;
        same = λ t a. ap (λ c. on c t) (p.same t (agree_less d look s t ha a) ∙ e) ∙ h.same t a ∙ ap (λ c. on c s) (sym e);
      }

  -- a test that so many octets are there, where they are
  pub hangs_fits : (short : A) (rest : List ℕ → A) (d look at : ℕ) → at ≤ d → Hangs look rest s d
      → Hangs look (λ (t : List ℕ). cond (ltb (length t) d) short (rest t)) s at
  hangs_fits short rest d look at h r =
      let ra = r.ahead in
      hangs_as rest (λ (t : List ℕ). cond (ltb (length t) d) short (rest t)) look at
      (λ t l. ap (λ (b : Bool). cond b short (rest t)) (le-ltb (length t) d (omega arith)))
      (record { ahead = omega arith; inside = r.inside; same = r.same })
