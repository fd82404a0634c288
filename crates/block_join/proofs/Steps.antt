-- What the code of a block join does in a step, and what it writes, is what its machine says. Assumes nothing.
use Rattle.std.proofs.lemmas.List.{length_push}
use Rattle.std.proofs.Common.{◌≡◌, ℕ, ◌+◌, ◌<◌, ◌≤◌, Bool, cond, leb, List, length, Option, sym, ap, ◌∙◌, subst, arith}
use Rattle.codec.specs.declared.row.Row.{Row}
use Rattle.operator.specs.declared.answer.Answer.{Answer}
use Rattle.operator.specs.declared.answer.Answer.TheVariants as answer
use Rattle.operator.specs.declared.operator.Operator.{Ghosts}
use Rattle.operator.specs.Machine.{Machine, Move, Good, row, busy, end}
use Rattle.operator.specs.Of.{of}
use Rattle.operator.specs.Calls.{Moved}
use Rattle.pairing.specs.Terms.{Terms, terms_of, block_size}
use Rattle.keeper.specs.Taking.{Taken, with_row}
use Rattle.keeper.specs.Keeping.{Keeping, keeping}
use Rattle.keeper.specs.Outer.{taken_of}
use Rattle.keeper.proofs.Laws.{size_few}
use Rattle.block_join.specs.declared.join.BlockJoin.{BlockJoin}
use Rattle.block_join.specs.declared.phase.Phase.{Phase}
use Rattle.block_join.specs.declared.phase.Phase.TheVariants as phase
use Rattle.block_join.specs.Stages.{Stage, empty, filling, scanning, matching}
use Rattle.block_join.specs.Joining.{Ruled, filled, next, join_machine, join_meaning}
use Rattle.block_join.specs.Code.{stage_of, joining, Asked, Indexed}

-- a child that answered a row moved by one
pub moved_row : {S : Type 0} (s s' : S) (v : Move S) (a : Row) → Moved s v (answer.Row a) s' → v ≡ row a s'
moved_row s s' (row x t) a (p, q) = cc
moved_row s s' (busy t) a h = absurd h
moved_row s s' end a h = absurd h

-- the phase and the answer are known
pub asked_in : {O I : Type 0} (o : Ghosts O) (i : Ghosts I) (ph ph' : Phase) (r r' : Answer) (x : O) (y : I) (x' : O) (y' : I) → ph ≡ ph' → r ≡ r' → Asked o i ph r x y x' y' → Asked o i ph' r' x y x' y'
asked_in o i ph ph' r r' x y x' y' e f h = subst (λ (q : Answer). Asked o i ph' q x y x' y') f (subst (λ (p : Phase). Asked o i p r x y x' y') e h)

module _ {S T : Type 0} (o : Machine S) (i : Machine T) where
  -- a row joins the block, and a full block is scanned
  pub grown : (r : Terms) (ph : Phase) (g : Stage) (t t' : Taken S) (y y' : T) (b : Row) (x : S) (full : Bool) → ph ≡ phase.Filling → o.next t.child ≡ row b x → t' ≡ with_row t b x → y' ≡ y → leb (block_size r) (length t.rows + 1) ≡ full → g ≡ cond full scanning filling
      → Moved (keeping r (stage_of ph) t y) (next o i (keeping r (stage_of ph) t y)) answer.Busy (keeping r g t' y')
  grown r ph g t t' y y' b x full e m h u f k =
      let moves : next o i (keeping r (stage_of ph) t y) ≡ busy (keeping r (cond full scanning filling) (with_row t b x) y) =
      ap (λ (q : Phase). next o i (keeping r (stage_of q) t y)) e ∙ ap (filled o i r t y) m ∙ ap (λ (q : Bool). busy (keeping r (cond q scanning filling) (with_row t b x) y)) f in
      let same : keeping r g t' y' ≡ keeping r (cond full scanning filling) (with_row t b x) y = cc in
      subst (λ (v : Move (Keeping Stage S T)). Moved (keeping r (stage_of ph) t y) v answer.Busy (keeping r g t' y')) (sym moves) same

-- in phase 1 a block is not full
pub below : (size w : ℕ) (ph : Phase) (rows : List Row) (c : Option (List ℕ)) → ph ≡ phase.Filling → Ruled size w (stage_of ph) rows c → length rows < size
below size w ph rows c e h = subst (λ (q : Phase). Ruled size w (stage_of q) rows c) e h

-- the outer child that was asked answered a row, and it is added
module _ {O I : Type 0} (o : Ghosts O) (i : Ghosts I) (s : BlockJoin O I) where
  abbrev r : Terms
  r = terms_of s.rule

  abbrev t : Taken o.State
  t = taken_of o s.outer

  pub added : (a : Answer) (b : Row) (x : O) (y : I) (t' : Taken o.State) (rows size : ℕ) (g : Stage) (full : Bool) → s.phase ≡ phase.Filling → a ≡ answer.Row b → Asked o i s.phase a s.outer.child s.inner x y
      → Good (join_machine o.machine o.togo i.machine) (join_meaning o.machine (of o) i.machine (of i)).standing (joining o i s)
      → (length t.rows < 16 → t' ≡ with_row t b (o.state x)) → rows ≡ length t'.rows → size ≡ block_size r → leb size rows ≡ full → g ≡ cond full scanning filling
      → Moved (joining o i s) (next o.machine i.machine (joining o i s)) answer.Busy (keeping r g t' (i.state y))
  added a b x y t' rows size g full e f h good add n k l m =
      let lt = below (block_size r) _ s.phase t.rows t.contract e good.stands.ruled in
      let asked = asked_in o i _ phase.Filling _ (answer.Row b) _ _ _ _ e f h in
      let moved : o.machine.next (o.state s.outer.child) ≡ row b (o.state x) = moved_row _ _ _ _ (asked.0 (record { stands = good.stands.outer.child; few = omega (arith, good.few) })) in
      let more = add (omega (arith, size_few r)) in
      let long : rows ≡ length t.rows + 1 = n ∙ ap (λ z. length z.rows) more ∙ length_push t.rows b in
      grown o.machine i.machine r s.phase g t t' (i.state s.inner) (i.state y) b (o.state x) full e moved more (ap i.state asked.1) (sym (ap (λ j. leb j (length t.rows + 1)) k) ∙ sym (ap (leb size) long) ∙ l) m

-- an index is at most 16
pub indexed : (size w : ℕ) (g : Stage) (rows : List Row) (c : Option (List ℕ)) → size ≤ 16 → Ruled size w g rows c → Indexed g
indexed size w empty rows c hs h = tt
indexed size w filling rows c hs h = tt
indexed size w scanning rows c hs h = tt
indexed size w (matching held j) rows c hs (lo, hi, k, wide) = omega arith
