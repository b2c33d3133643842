-- The frozen walk with one count of components and another taken (02, 2026-07): they part only at a frame whose count one of them does not take.
-- Assumes nothing.
use Prim.Native.Nat.{ℕ, zero, suc, ◌+◌}
use mathlib.Core.Path.{◌≡◌, refl, sym, ap, subst, ◌∙◌}
use mathlib.Core.Logic.{◌⊎◌, inl, inr, ⊎_elim}
use mathlib.Core.Bool.{Bool, true, false, ◌&&◌, cond, false≢true}
use mathlib.Core.List.{List}
use lib.ListN.{length, get_or}
use lib.Dec.{eqb, ltb}
use Rattle.octets.specs.Octets.{be16_at}
use Rattle.laws.proofs.Cases.{cond_with, cond_both, clash}
use Rattle.jpeg_rules.specs.declared.Class.{Class}
use Rattle.jpeg_rules.specs.declared.Class.TheVariants.{Alone, Frame, Scan, End, Wrong, Segment}
use Rattle.jpeg_rules.specs.declared.Fault.TheVariants.{BadRes, BadLayer}
use Rattle.std.specs.Prelude.{Option, Some, None, Result, Ok, Err}
use Rattle.jpeg_rules.specs.declared.Fault.{Fault}
use Rattle.jpeg_rules.specs.declared.Marker.{Marker}
use Rattle.jpeg_rules.specs.declared.Marker.TheVariants.{Code, Missing, Cut}
use Rattle.jpeg_rules.specs.declared.Said.{Said}
use Rattle.jpeg_rules.specs.declared.Reach.{Reach}
use Rattle.jpeg_rules.specs.Walk.{Turn}
use Rattle.std.specs.declared.ops.ControlFlow.TheVariants.{Continue, Break}
use Rattle.jpeg_padding.specs.Frozen.{frozen_class_of, frozen_marker_of, frozen_seg_of, frozen_scan_of, frozen_tag_of, frozen_resolves, frozen_framed, frozen_passed, frozen_moved, frozen_refused, frozen_on_body, frozen_on_found, frozen_on_tag, any_count, frozen_frame_body_of, frozen_frame_of, frozen_scan_step_of, frozen_segment_of, frozen_end_of, frozen_mark_of, frozen_on_marker, frozen_turn_of, frozen_on_turn, frozen_walk_from, frozen_begun, frozen_walk_of}

module _ (s : List ℕ) (main : ℕ) where
  -- ---- after the frame the count stays

  Keeps : Reach → Turn → Type 0
  Keeps st (Continue t) = (t.framed ≡ true) × (t.said.components ≡ st.said.components)
  Keeps st (Break (Ok (e, said))) = said.components ≡ st.said.components
  Keeps st (Break (Err f)) = Unit {0}

  module _ (st : Reach) (fr : st.framed ≡ true) where
    body_keeps : (g : Result ℕ Fault) (go : ℕ → Turn) → ((next : ℕ) → Keeps st (go next)) → Keeps st (frozen_on_body g go)
    unfolding Keeps
    body_keeps (Ok next) go k = k next
    body_keeps (Err f) go k = tt

    scan_keeps : (n : ℕ) → Keeps st (frozen_scan_step_of s st n)
    unfolding Keeps frozen_scan_step_of
    scan_keeps n =
        cond_with (Keeps st) st.framed
        (λ t. body_keeps (frozen_seg_of s n 2) (λ (next : ℕ). frozen_on_found (frozen_scan_of s next) next (λ (p : ℕ). Continue (frozen_passed st p))) λ next. found next (frozen_scan_of s next))
        (λ t. tt)
      where
        found : (next : ℕ) (x : Option ℕ) → Keeps st (frozen_on_found x next (λ (p : ℕ). Continue (frozen_passed st p)))
        found next (Some p) = (refl, refl)
        found next None = tt

    segment_keeps : (c n : ℕ) → Keeps st (frozen_segment_of s main st c n)
    unfolding Keeps frozen_segment_of
    segment_keeps c n =
        body_keeps (frozen_seg_of s n 2)
        (λ (next : ℕ).
        frozen_on_tag (frozen_tag_of s st c n) (Continue (frozen_moved st next st.said.res)) (λ (r : ℕ). cond (frozen_resolves main r) (Continue (frozen_moved st next r)) (frozen_refused (BadRes (n + 10)))))
        λ next. by next (frozen_tag_of s st c n)
      where
        by : (next : ℕ) (x : Option ℕ)
            → Keeps st (frozen_on_tag x (Continue (frozen_moved st next st.said.res)) (λ (r : ℕ). cond (frozen_resolves main r) (Continue (frozen_moved st next r)) (frozen_refused (BadRes (n + 10)))))
        by next None = (fr, refl)
        by next (Some v) = cond_with (Keeps st) (frozen_resolves main v) (λ t. (fr, refl)) (λ t. tt)

    mark_keeps : (taken : ℕ → Bool) (c n : ℕ) (k : Class) → Keeps st (frozen_mark_of taken s main st c n k)
    unfolding Keeps frozen_mark_of frozen_frame_of frozen_end_of
    mark_keeps taken c n Alone = (fr, refl)
    mark_keeps taken c n Frame = cond_with (Keeps st) st.framed (λ t. tt) (λ t. absurd (false≢true (sym t ∙ fr)))
    mark_keeps taken c n Scan = scan_keeps n
    mark_keeps taken c n End = cond_with (Keeps st) st.scanned (λ t. refl) (λ t. tt)
    mark_keeps taken c n Wrong = tt
    mark_keeps taken c n Segment = segment_keeps c n

    turn_keeps : (taken : ℕ → Bool) → Keeps st (frozen_turn_of taken s main st)
    unfolding Keeps frozen_turn_of
    turn_keeps taken = by (frozen_marker_of s st.at)
      where
        by : (x : Marker) → Keeps st (frozen_on_marker x st.at (λ (c n : ℕ). frozen_mark_of taken s main st c n (frozen_class_of c)))
        by (Code c n) = mark_keeps taken c n (frozen_class_of c)
        by Missing = tt
        by Cut = tt

  kept : (taken : ℕ → Bool) (k : ℕ) (st : Reach) (e : ℕ) (said : Said) → st.framed ≡ true → frozen_walk_from taken k s main st ≡ Ok (e, said)
      → said.components ≡ st.said.components
  unfolding frozen_walk_from Keeps
  kept taken zero st e said fr = λ z. clash cc
  kept taken (suc k) st e said fr = by (λ t. kept taken k t e said) (frozen_turn_of taken s main st) (turn_keeps st fr taken)
    where
      by : ((t : Reach) → t.framed ≡ true → frozen_walk_from taken k s main t ≡ Ok (e, said) → said.components ≡ t.said.components)
          → (x : Turn) → Keeps st x → frozen_on_turn x (frozen_walk_from taken k s main) ≡ Ok (e, said) → said.components ≡ st.said.components
      by rec (Continue t) h z = rec t h.0 z ∙ h.1
      by rec (Break (Ok (n, v))) h z = let q : (n, v) ≡ (e, said) = cc in ap (λ (x : ℕ × Said). x.1.components) (sym q) ∙ h
      by rec (Break (Err f)) h z = clash cc

  module _ (taken : ℕ → Bool) where
    -- ---- a turn with some counts taken is that with any, or it is refused at a count that is not taken

    record Missed (x y : Turn) : Type 0 where
      t : Reach
      place : ℕ
      goes : x ≡ Continue t
      framed : t.framed ≡ true
      count : t.said.components ≡ get_or s place 0
      other : taken (get_or s place 0) ≡ false
      stops : y ≡ Break (Err (BadLayer place))

    abbrev Beside : Turn → Turn → Type 0
    Beside x y = (y ≡ x) ⊎ Missed x y

    frame_beside : (st : Reach) (n : ℕ) → Beside (frozen_frame_of any_count s st n) (frozen_frame_of taken s st n)
    unfolding frozen_frame_of frozen_frame_body_of
    frame_beside st n =
        cond_both (λ x y. Beside x y) st.framed (λ t. inl refl) λ t.
        cond_both (λ x y. Beside x y) (eqb st.said.res 0) (λ t. inl refl) λ t. by (frozen_seg_of s n 8)
      where
        went : ℕ → Reach
        went next = frozen_framed st next (be16_at s (n + 5)) (be16_at s (n + 3)) (get_or s (n + 7) 0)

        body : (next : ℕ) → Beside (frozen_frame_body_of any_count s st n next) (frozen_frame_body_of taken s st n next)
        body next =
            cond_both (λ x y. Beside x y) (eqb (be16_at s (n + 3)) 0) (λ t. inl refl) λ t.
            cond_both (λ x y. Beside x y) (eqb (be16_at s (n + 5)) 0) (λ t. inl refl) λ t.
            cond_with (λ y. Beside (Continue (went next)) y) (taken (get_or s (n + 7) 0)) (λ t. inl refl)
            (λ t. inr (record { t = went next; place = n + 7; goes = refl; framed = refl; count = refl; other = t; stops = refl }))

        by : (g : Result ℕ Fault) → Beside (frozen_on_body g (λ (next : ℕ). frozen_frame_body_of any_count s st n next)) (frozen_on_body g (λ (next : ℕ). frozen_frame_body_of taken s st n next))
        by (Ok next) = body next
        by (Err f) = inl refl

    turn_beside : (st : Reach) → Beside (frozen_turn_of any_count s main st) (frozen_turn_of taken s main st)
    unfolding frozen_turn_of frozen_mark_of
    turn_beside st = by (frozen_marker_of s st.at)
      where
        mark : (c n : ℕ) (k : Class) → Beside (frozen_mark_of any_count s main st c n k) (frozen_mark_of taken s main st c n k)
        mark c n Alone = inl refl
        mark c n Frame = frame_beside st n
        mark c n Scan = inl refl
        mark c n End = inl refl
        mark c n Wrong = inl refl
        mark c n Segment = inl refl

        by : (x : Marker)
            → Beside (frozen_on_marker x st.at (λ (c n : ℕ). frozen_mark_of any_count s main st c n (frozen_class_of c)))
            (frozen_on_marker x st.at (λ (c n : ℕ). frozen_mark_of taken s main st c n (frozen_class_of c)))
        by (Code c n) = mark c n (frozen_class_of c)
        by Missing = inl refl
        by Cut = inl refl

    -- ---- the walk

    turn_cases : (P : Turn → Type 0) → ((t : Reach) → P (Continue t)) → ((w : Result (ℕ × Said) Fault) → P (Break w)) → (x : Turn) → P x
    turn_cases P go stop (Continue t) = go t
    turn_cases P go stop (Break w) = stop w

    -- where it ends with a count that is taken, it ends so
    from_counted : (k : ℕ) (st : Reach) (e : ℕ) (said : Said) → taken said.components ≡ true → frozen_walk_from any_count k s main st ≡ Ok (e, said)
        → frozen_walk_from taken k s main st ≡ Ok (e, said)
    unfolding frozen_walk_from
    from_counted zero st e said o z = z
    from_counted (suc k) st e said o z =
        ⊎_elim
        (λ (q : frozen_turn_of taken s main st ≡ frozen_turn_of any_count s main st).
        ap (λ (x : Turn). frozen_on_turn x (frozen_walk_from taken k s main)) q
        ∙ turn_cases (λ x. frozen_on_turn x (frozen_walk_from any_count k s main) ≡ Ok (e, said) → frozen_on_turn x (frozen_walk_from taken k s main) ≡ Ok (e, said))
        (λ t. from_counted k t e said o) (λ w y. y) (frozen_turn_of any_count s main st) z)
        (λ (m : Missed (frozen_turn_of any_count s main st) (frozen_turn_of taken s main st)).
        let y : frozen_walk_from any_count k s main m.t ≡ Ok (e, said) = sym (ap (λ (x : Turn). frozen_on_turn x (frozen_walk_from any_count k s main)) m.goes) ∙ z in
        let c : said.components ≡ get_or s m.place 0 = kept any_count k m.t e said m.framed y ∙ m.count in
        absurd (false≢true (sym m.other ∙ ap taken (sym c) ∙ o)))
        (turn_beside st)

    -- and in any case it answers as it did, or BadLayer at a count that is not taken
    pub record Uncounted (x : Result (ℕ × Said) Fault) : Type 0 where
      pub place : ℕ
      pub other : taken (get_or s place 0) ≡ false
      pub answer : x ≡ Err (BadLayer place)

    from_beside : (k : ℕ) (st : Reach) → (frozen_walk_from taken k s main st ≡ frozen_walk_from any_count k s main st) ⊎ Uncounted (frozen_walk_from taken k s main st)
    unfolding frozen_walk_from
    from_beside zero st = inl refl
    from_beside (suc k) st =
        ⊎_elim
        (λ (q : frozen_turn_of taken s main st ≡ frozen_turn_of any_count s main st).
        subst (λ (y : Turn). (frozen_on_turn y (frozen_walk_from taken k s main) ≡ frozen_on_turn (frozen_turn_of any_count s main st) (frozen_walk_from any_count k s main)) ⊎ Uncounted (frozen_on_turn y (frozen_walk_from taken k s main)))
        (sym q)
        (turn_cases (λ x. (frozen_on_turn x (frozen_walk_from taken k s main) ≡ frozen_on_turn x (frozen_walk_from any_count k s main)) ⊎ Uncounted (frozen_on_turn x (frozen_walk_from taken k s main)))
        (λ t. from_beside k t) (λ w. inl refl) (frozen_turn_of any_count s main st)))
        (λ (m : Missed (frozen_turn_of any_count s main st) (frozen_turn_of taken s main st)).
        inr (record { place = m.place; other = m.other; answer = ap (λ (x : Turn). frozen_on_turn x (frozen_walk_from taken k s main)) m.stops }))
        (turn_beside st)

    pub walk_counted : (start e : ℕ) (said : Said) → taken said.components ≡ true → frozen_walk_of any_count s start main ≡ Ok (e, said)
        → frozen_walk_of taken s start main ≡ Ok (e, said)
    unfolding frozen_walk_of
    walk_counted start e said o =
        cond_both (λ x y. x ≡ Ok (e, said) → y ≡ Ok (e, said)) (ltb (length s) (start + 2)) (λ t z. z) λ t.
        cond_both (λ x y. x ≡ Ok (e, said) → y ≡ Ok (e, said)) (eqb (get_or s start 0) 0xFF && eqb (get_or s (start + 1) 0) 0xD8)
        (λ t. from_counted (length s) (frozen_begun (start + 2)) e said o) (λ t z. z)

    pub walk_beside : (start : ℕ) → (frozen_walk_of taken s start main ≡ frozen_walk_of any_count s start main) ⊎ Uncounted (frozen_walk_of taken s start main)
    unfolding frozen_walk_of
    walk_beside start =
        cond_both (λ x y. (y ≡ x) ⊎ Uncounted y) (ltb (length s) (start + 2)) (λ t. inl refl) λ t.
        cond_both (λ x y. (y ≡ x) ⊎ Uncounted y) (eqb (get_or s start 0) 0xFF && eqb (get_or s (start + 1) 0) 0xD8)
        (λ t. from_beside (length s) (frozen_begun (start + 2))) (λ t. inl refl)
