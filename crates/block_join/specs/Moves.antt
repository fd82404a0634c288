-- A step of a block join keeps its meaning. Assumes nothing.
use Rattle.std.proofs.Common.{◌≡◌, ℕ, ◌+◌, ◌<◌, Bool, true, false, cond, eqb, ltb, leb, List, [], ◌∷◌, ◌++◌, length, drop, Some, None, Option, sym, refl, ap, ◌∙◌, subst, append_assoc, append-nil, arith}
use Rattle.std.specs.List.{AllByRecursion}
use Rattle.std.proofs.lemmas.List.{length_push, length-drop, drop-drop, nil_from_length}
use Rattle.std.proofs.lemmas.Bool.{leb-true, leb-false, eqb-true, eqb-false, lt-ltb, cond-true}
use Rattle.codec.specs.declared.row.Row.{Row}
use Rattle.codec.specs.Rows.{Wide}
use Rattle.operator.specs.Machine.{Machine, Move, Good, row, busy, end}
use Rattle.operator.specs.Laws.{Meaning, Laws, Same, Meant}
use Rattle.operator.proofs.Steps.{same_self}
use Rattle.pairing.specs.Terms.{Terms, block_size}
use Rattle.pairing.specs.declared.pair.Hit.{Hit}
use Rattle.pairing.specs.Pairs.{Pairing, blocks, matches, scanned, joined, scan_steps, block_steps, all_steps, first}
use Rattle.pairing.proofs.Pairs.{scanned_more, scanned_none, joined_more, joined_none, scan_steps_more, scan_steps_none, all_steps_more, all_steps_none, blocks_none, blocks_full, blocks_last, Found, found}
use Rattle.keeper.specs.Taking.{Taken, untaken, over, with_row, signing}
use Rattle.keeper.specs.Keeping.{Keeping, keeping, Standing}
use Rattle.keeper.proofs.Standing.{signs, takes, waits, drops}
use Rattle.keeper.proofs.Laws.{same_in, good_outer, good_inner, size_some}
use Rattle.block_join.specs.Stages.{Stage, empty, filling, scanning, matching, join_kind}
use Rattle.block_join.specs.Joining.{pairing, filled, scanned_on, matched, next, join_sense, join_machine, join_meaning}
use Rattle.block_join.specs.Fronts.{proper}

module _ {S T : Type 0} (o : Machine S) (d : Meaning S) (lo : Laws o d) (i : Machine T) (e : Meaning T) (li : Laws i e) where
  abbrev m : Machine (Keeping Stage S T)
  m = join_machine o d.togo i

  abbrev n : Meaning (Keeping Stage S T)
  n = join_meaning o d i e

  same : (r : Terms) (g g' : Stage) (t t' : Taken S) (y y' : T) → Same o t.child t'.child → Same i y y' → Same m (keeping r g t y) (keeping r g' t' y')
  same = same_in join_kind join_sense proper o d lo i e li (next o i)

  -- an inner child at its beginning has all its rows and steps to come
  at_start : (y : T) → y ≡ i.begin y → (e.rest y ≡ e.whole y) × (e.togo y ≡ e.full y)
  at_start y h = let b = li.begins y in (ap e.rest h ∙ b.rest, ap e.togo h ∙ b.togo)

  module _ (r : Terms) (t : Taken S) (y : T) where
    abbrev x : S
    x = t.child

    abbrev p : Pairing
    p = pairing r (o.width x)

    abbrev B : ℕ
    B = block_size r

    abbrev at : Stage → Keeping Stage S T
    at g = keeping r g t y

    abbrev Stand : Stage → Type 0
    Stand g = Standing join_kind join_sense o d i e (at g)

    -- a contract is signed
    signed_for : Stand empty → Good o d.standing x → Meant m n (at empty) (busy (keeping r filling (signing o x) y))
    signed_for st g = (
      record { outer = signs o d lo x g; inner = st.inner; ruled = size_some r; begins = λ q. st.begins refl },
      same r empty filling t (signing o x) y y (same_self o x) (same_self i y),
      refl,
      omega arith,
    )

    -- a row joins the block
    module _ (st : Stand filling) (w : AllByRecursion (Wide (o.width x)) (d.rest x)) (b : Row) (x' : S) (sx : d.standing x') (sa : Same o x x') (took : d.rest x ≡ b ∷ d.rest x') (less : d.togo x' < d.togo x) where
      abbrev p' : Pairing
      p' = pairing r (o.width x')

      abbrev u : Taken S
      u = with_row t b x'

      pairs : p' ≡ p
      pairs = ap (pairing r) (lo.by_plan x x' sa.plan).width

      regroup : t.rows ++ d.rest x ≡ (t.rows ++ (b ∷ [])) ++ d.rest x'
      regroup = ap (λ (l : List Row). t.rows ++ l) took ∙ sym (append_assoc t.rows (b ∷ []) (d.rest x'))

      grown : (full : Bool) → leb B (length t.rows + 1) ≡ full → Meant m n (at filling) (busy (keeping r (cond full scanning filling) u y))
      grown true f =
          let len = length_push t.rows b in
          let lt = st.ruled in
          let ge = leb-true B (length t.rows + 1) f in
          let z = at_start y (st.begins refl) in
          let z0 = z.0 in
          let z1 = z.1 in
          let q = pairs in
          let blk = t.rows ++ (b ∷ []) in
          let full = blocks_full B blk (d.rest x') (size_some r) (omega arith) in
          let bl : blocks B (t.rows ++ d.rest x) ≡ blk ∷ blocks B (d.rest x') = ap (blocks B) regroup ∙ full in
          let j = joined_more p blk (blocks B (d.rest x')) (e.whole y) in
          let a = all_steps_more B p blk (blocks B (d.rest x')) (e.whole y) (e.full y) in
          let al : all_steps B p (blocks B (t.rows ++ d.rest x)) (e.whole y) (e.full y) ≡ block_steps B p blk (e.whole y) (e.full y) + all_steps B p (blocks B (d.rest x')) (e.whole y) (e.full y) = cc in
          let ss : scan_steps p' blk (e.rest y) ≡ scan_steps p blk (e.whole y) = cc in
          let al' : all_steps B p' (blocks B (d.rest x')) (e.whole y) (e.full y) ≡ all_steps B p (blocks B (d.rest x')) (e.whole y) (e.full y) = cc in (
            record { outer = takes o d lo t b x' st.outer w sx sa took; inner = st.inner; ruled = (omega arith, omega arith); begins = λ h. absurd (let c : ◌≡◌ {A = ℕ} 0 1 = cc in omega arith) },
            same r filling scanning t u y y sa (same_self i y),
            cc,
            omega arith,
          )
      grown false f =
          let len = length_push t.rows b in
          let lt = leb-false B (length t.rows + 1) f in
          let q = pairs in
          let g = regroup in
          let al : all_steps B p' (blocks B ((t.rows ++ (b ∷ [])) ++ d.rest x')) (e.whole y) (e.full y) ≡ all_steps B p (blocks B (t.rows ++ d.rest x)) (e.whole y) (e.full y) = cc in (
            record { outer = takes o d lo t b x' st.outer w sx sa took; inner = st.inner; ruled = omega arith; begins = λ h. st.begins refl },
            same r filling filling t u y y sa (same_self i y),
            cc,
            omega arith,
          )

    -- the outer child's end
    stopped : Stand filling → d.rest x ≡ [] → d.togo x ≡ 0 → (z : Bool) → eqb (length t.rows) 0 ≡ z → Meant m n (at filling) (cond z end (busy (at scanning)))
    stopped st none over true f =
        let z = nil_from_length t.rows (eqb-true (length t.rows) 0 f) in
        let bl : blocks B (t.rows ++ d.rest x) ≡ [] = ap (λ (l : List Row). blocks B (l ++ d.rest x)) z ∙ ap (blocks B) none ∙ blocks_none B in
        let al : all_steps B p (blocks B (t.rows ++ d.rest x)) (e.whole y) (e.full y) ≡ 0 = ap (λ (l : List (List Row)). all_steps B p l (e.whole y) (e.full y)) bl ∙ all_steps_none B p (e.whole y) (e.full y) in
        (ap (λ (l : List (List Row)). joined p l (e.whole y)) bl ∙ joined_none p (e.whole y), omega arith)
    stopped st none over false f =
        let lt = st.ruled in
        let ne = eqb-false (length t.rows) 0 f in
        let gt : 0 < length t.rows = omega arith in
        let z = at_start y (st.begins refl) in
        let z0 = z.0 in
        let z1 = z.1 in
        let bl : blocks B (t.rows ++ d.rest x) ≡ t.rows ∷ [] = ap (λ (l : List Row). blocks B (t.rows ++ l)) none ∙ ap (blocks B) (append-nil t.rows) ∙ blocks_last B t.rows (omega arith) (omega arith) in
        let none_left : blocks B (d.rest x) ≡ [] = ap (blocks B) none ∙ blocks_none B in
        let j = joined_more p t.rows [] (e.whole y) in
        let j0 = joined_none p (e.whole y) in
        let a = all_steps_more B p t.rows [] (e.whole y) (e.full y) in
        let a0 = all_steps_none B p (e.whole y) (e.full y) in
        let one : ◌≡◌ {A = ℕ} (cond (ltb (length t.rows) B) 1 0) 1 = cond-true _ _ _ (lt-ltb (length t.rows) B lt) in
        let al : all_steps B p (blocks B (t.rows ++ d.rest x)) (e.whole y) (e.full y) ≡ block_steps B p t.rows (e.whole y) (e.full y) + all_steps B p [] (e.whole y) (e.full y) = cc in
        let al0 : all_steps B p (blocks B (d.rest x)) (e.whole y) (e.full y) ≡ 0 = cc in
        let ss : scan_steps p t.rows (e.rest y) ≡ scan_steps p t.rows (e.whole y) = cc in (
          record { outer = st.outer; inner = st.inner; ruled = (gt, omega arith); begins = λ h. absurd (let c : ◌≡◌ {A = ℕ} 0 1 = cc in omega arith) },
          same r filling scanning t t y y (same_self o x) (same_self i y),
          cc,
          omega arith,
        )

    -- the outer child answered
    fills : (v : Move S) → Stand filling → AllByRecursion (Wide (o.width x)) (d.rest x) → Meant o d x v → Meant m n (at filling) (filled o i r t y v)
    fills (row b x') st w (sx, sa, took, less) = grown st w b x' sx sa took less (leb B (length t.rows + 1)) refl
    fills (busy x') st w (sx, sa, left, less) =
        let q : pairing r (o.width x') ≡ p = ap (pairing r) (lo.by_plan x x' sa.plan).width in
        let al : all_steps B (pairing r (o.width x')) (blocks B (t.rows ++ d.rest x')) (e.whole y) (e.full y) ≡ all_steps B p (blocks B (t.rows ++ d.rest x)) (e.whole y) (e.full y) = cc in (
          record { outer = waits o d lo t x' st.outer sx sa left; inner = st.inner; ruled = st.ruled; begins = λ h. st.begins refl },
          same r filling filling t (over t x') y y sa (same_self i y),
          cc,
          omega arith,
        )
    fills end st w (none, over) = stopped st none over (eqb (length t.rows) 0) refl

    -- the inner child answered
    scans : (v : Move T) → Stand scanning → AllByRecursion (Wide (i.width y)) (e.rest y) → Meant i e y v → Meant m n (at scanning) (scanned_on o i r t y v)
    scans (row b u) st w (sy, sa, took, less) =
        let k = li.alike y u sa in
        let wh = k.whole in
        let fu = k.full in
        let h = scanned_more p t.rows b (e.rest u) in
        let g = scan_steps_more p t.rows b (e.rest u) in
        let a = append_assoc (matches p t.rows b) (scanned p t.rows (e.rest u)) (joined p (blocks B (d.rest x)) (e.whole y)) in
        let al : all_steps B p (blocks B (d.rest x)) (e.whole u) (e.full u) ≡ all_steps B p (blocks B (d.rest x)) (e.whole y) (e.full y) = cc in
        let ss : scan_steps p t.rows (e.rest y) ≡ scan_steps p t.rows (b ∷ e.rest u) = cc in
        let ru = st.ruled in (
          record { outer = st.outer; inner = sy; ruled = (ru.0, ru.1, omega arith, subst (λ (z : ℕ). Wide z b) (sym (li.by_plan y u sa.plan).width) (subst (AllByRecursion (Wide (i.width y))) took w).0); begins = λ h. absurd (let c : ◌≡◌ {A = ℕ} 0 1 = cc in omega arith) },
          same r scanning (matching b 0) t t y u (same_self o x) sa,
          cc,
          omega arith,
        )
    scans (busy u) st w (sy, sa, left, less) =
        let k = li.alike y u sa in
        let wh = k.whole in
        let fu = k.full in
        let al : all_steps B p (blocks B (d.rest x)) (e.whole u) (e.full u) ≡ all_steps B p (blocks B (d.rest x)) (e.whole y) (e.full y) = cc in
        let ss : scan_steps p t.rows (e.rest u) ≡ scan_steps p t.rows (e.rest y) = cc in (
          record { outer = st.outer; inner = sy; ruled = st.ruled; begins = λ h. absurd (let c : ◌≡◌ {A = ℕ} 0 1 = cc in omega arith) },
          same r scanning scanning t t y u (same_self o x) sa,
          cc,
          omega arith,
        )
    scans end st w (none, over) =
        let z = li.begins y in
        let k = li.alike y (i.begin y) z.same in
        let wh = k.whole in
        let fu = k.full in
        let q : scanned p t.rows (e.rest y) ≡ [] = ap (scanned p t.rows) none ∙ scanned_none p t.rows in
        let ss : scan_steps p t.rows (e.rest y) ≡ 0 = ap (scan_steps p t.rows) none ∙ scan_steps_none p t.rows in
        let al : all_steps B p (blocks B (d.rest x)) (e.whole (i.begin y)) (e.full (i.begin y)) ≡ all_steps B p (blocks B (d.rest x)) (e.whole y) (e.full y) = cc in (
          record { outer = drops o d lo x st.outer.child; inner = z.stands; ruled = (refl, refl); begins = λ h. sym k.begin },
          same r scanning empty t (untaken x) y (i.begin y) (same_self o x) z.same,
          ap (joined p (blocks B (d.rest x))) wh ∙ sym (ap (λ (l : List Row). l ++ joined p (blocks B (d.rest x)) (e.whole y)) q),
          omega arith,
        )

    -- a match, or none
    emits : (held : Row) (j : ℕ) (v : Option Hit) → Stand (matching held j) → Found p held j (drop j t.rows) v → Meant m n (at (matching held j)) (matched o i r t y held v)
    emits held j None st none =
        let ru = st.ruled in
        let len = ap length none in (
          record { outer = st.outer; inner = st.inner; ruled = (ru.0, ru.1); begins = λ h. absurd (let c : ◌≡◌ {A = ℕ} 0 1 = cc in omega arith) },
          same r (matching held j) scanning t t y y (same_self o x) (same_self i y),
          sym (ap (λ (l : List Row). l ++ (scanned p t.rows (e.rest y) ++ joined p (blocks B (d.rest x)) (e.whole y))) none),
          omega arith,
        )
    emits held j (Some h) st (k, f, le, g) =
        let ru = st.ruled in
        let dr : drop k (drop j t.rows) ≡ drop h.next t.rows = drop-drop k j t.rows ∙ ap (λ (z : ℕ). drop z t.rows) (sym f) in
        let ms : matches p (drop j t.rows) held ≡ h.row ∷ matches p (drop h.next t.rows) held = g ∙ ap (λ (l : List Row). h.row ∷ matches p l held) dr in
        let len = ap length ms in
        let ru2 = ru.2 in
        let le2 = simp length-drop at le in (
          record { outer = st.outer; inner = st.inner; ruled = (ru.0, ru.1, omega arith, ru.3); begins = λ q. absurd (let c : ◌≡◌ {A = ℕ} 0 1 = cc in omega arith) },
          same r (matching held j) (matching held h.next) t t y y (same_self o x) (same_self i y),
          ap (λ (l : List Row). l ++ (scanned p t.rows (e.rest y) ++ joined p (blocks B (d.rest x)) (e.whole y))) ms,
          omega arith,
        )

    moves_at : (g : Stage) → Good m n.standing (at g) → Meant m n (at g) (next o i (at g))
    moves_at empty g = signed_for g.stands (good_outer join_kind join_sense proper o d lo i e li (next o i) (at empty) g)
    moves_at filling g = let go = good_outer join_kind join_sense proper o d lo i e li (next o i) (at filling) g in fills (o.next x) g.stands (lo.wide x go) (lo.moves x go)
    moves_at scanning g = let gi = good_inner join_kind join_sense proper o d lo i e li (next o i) (at scanning) g in scans (i.next y) g.stands (li.wide y gi) (li.moves y gi)
    moves_at (matching held j) g = emits held j (first p held j (drop j t.rows)) g.stands (found p held j (drop j t.rows))

  pub moves : (s : Keeping Stage S T) → Good m n.standing s → Meant m n s (m.next s)
  moves s g = moves_at s.terms s.outer s.inner s.stage g
