-- What every operator over a block and an inner child shares: its state, its record, and what a record restores.
-- Assumes nothing.
use Rattle.std.specs.Prelude.{◌≡◌, ℕ, ◌+◌, Bool, true, false, List, [], ◌∷◌, ◌++◌, Some, None, Option}
use Rattle.refusal.specs.Numbers.{Fault, either}
use Rattle.codec.specs.declared.row.Row.{Row}
use Rattle.codec.specs.Frames.{framed, body, then}
use Rattle.operator.specs.Machine.{Machine, Move}
use Rattle.operator.specs.Laws.{Meaning}
use Rattle.pairing.specs.Terms.{Terms, terms_bytes, block_size}
use Rattle.block.specs.Choices.{goes_back, choices_of_outer, choices_of_inner}
use Rattle.block.specs.Kept.{Kept, kept_form, kept_count, kept_bytes, parted}
use Rattle.keeper.specs.Taking.{Taken, untaken, kept_by, rebuilt, refetch_kept, Stands}

-- the parameters, where the operator stands in its phases (its stage), the block with the outer child, the inner child
pub record Keeping (G S T : Type 0) : Type 0 where
  pub terms : Terms
  pub stage : G
  pub outer : Taken S
  pub inner : T

abbrev pub keeping : {G S T : Type 0} → Terms → G → Taken S → T → Keeping G S T
keeping r g t y = record { terms = r; stage = g; outer = t; inner = y }

-- the front of a record: the stage, and the form and the count of the block whose part follows
pub record Lead (G : Type 0) : Type 0 where
  pub stage : G
  pub form : ℕ
  pub count : ℕ
  pub behind : List ℕ

-- the stages in records
pub record Phases (G : Type 0) : Type 0 where
  -- the stage without a block
  pub empty : G
  -- whether the inner child's record follows the block's part; if not, the inner child is at its beginning
  pub scans : G → Bool
  -- the front's bytes, for inner rows of a width, the form and the count of the block; and its reading, for a block size
  -- and inner rows of a width
  pub lead : ℕ → ℕ → ℕ → G → List ℕ
  pub leads : ℕ → ℕ → List ℕ → Option (Lead G)

-- an operator over a block: its number in the table of kinds, the width of its rows over children of two widths, its own
-- faults over those, and its stages
pub record Kind (G : Type 0) : Type 0 where
  pub number : ℕ
  pub width : ℕ → ℕ → ℕ
  pub flaw : Terms → ℕ → ℕ → ℕ → Option Fault
  pub phases : Phases G

-- its meaning: the rows to come and the steps to go of a stage, and the rules of its fields
pub record Sense (G : Type 0) : Type 1 where
  -- by the parameters, the outer width, the stage, the block, the rest of the outer and of the inner child, and the
  -- inner child's whole
  pub rest : Terms → ℕ → G → List Row → List Row → List Row → List Row → List Row
  -- by the steps to go of the children and the inner child's full ones as well
  pub togo : Terms → ℕ → G → List Row → List Row → ℕ → List Row → ℕ → List Row → ℕ → ℕ
  -- by the block size, the inner width, the stage, the block and the contract
  pub ruled : ℕ → ℕ → G → List Row → Option (List ℕ) → Type 0

-- the parts of a record: the stage, the block's part, and the inner child's record or nothing
pub record Fields (G : Type 0) : Type 0 where
  pub stage : G
  pub kept : Kept
  pub tail : List ℕ

-- only under a condition
abbrev pub only : {A : Type 0} → Bool → List A → List A
only true xs = xs
only false xs = []

-- the rows to fetch again of a record that stands only there
abbrev pub refetch_tail : Bool → (List ℕ → ℕ) → List ℕ → ℕ
refetch_tail true refetch tail = refetch tail
refetch_tail false refetch tail = 0

-- the inner child restored from such a record, or at its beginning
abbrev pub inner_at : {T : Type 0} → Bool → (List ℕ → Option T) → T → List ℕ → Option T
inner_at true restored begin tail = restored tail
inner_at false restored begin tail = Some begin

module _ {G : Type 0} (h : Phases G) where
  -- behind the record's length, at the outer and the inner width
  abbrev pub inside : ℕ → ℕ → Fields G → List ℕ
  inside v w f = h.lead w (kept_form f.kept) (kept_count f.kept) f.stage ++ (kept_bytes v f.kept ++ f.tail)

  -- the parts of any record, at the block size and the two widths
  unfoldable pub parsed : ℕ → ℕ → ℕ → List ℕ → Option (Fields G)
  parsed size v w bytes =
      then (body bytes) (λ b. then (h.leads size w b) (λ l. then (parted (h.scans l.stage) v l.form l.count l.behind) (λ p. Some (record { stage = l.stage; kept = p.kept; tail = p.behind }))))

  -- rows to fetch again, by those of the children's records
  abbrev pub refetch_in : (List ℕ → ℕ) → (List ℕ → ℕ) → Fields G → ℕ
  refetch_in ao ai f = refetch_kept ao f.kept + refetch_tail (h.scans f.stage) ai f.tail

  abbrev pub refetch_of : (List ℕ → ℕ) → (List ℕ → ℕ) → Option (Fields G) → ℕ
  refetch_of ao ai None = 0
  refetch_of ao ai (Some f) = refetch_in ao ai f

  abbrev pub refetch_by : Terms → ℕ → ℕ → (List ℕ → ℕ) → (List ℕ → ℕ) → List ℕ → ℕ
  refetch_by r v w ao ai bytes = refetch_of ao ai (parsed (block_size r) v w bytes)

  module _ {S T : Type 0} (o : Machine S) (steps : S → ℕ) where
    abbrev pub resumed : Terms → (List ℕ → Option S) → (List ℕ → Option T) → T → Fields G → Option (Keeping G S T)
    resumed r ro ri begin f = then (rebuilt o steps ro f.kept) (λ t. then (inner_at (h.scans f.stage) ri begin f.tail) (λ y. Some (keeping r f.stage t y)))

    abbrev pub restored_by : Terms → ℕ → ℕ → (List ℕ → Option S) → (List ℕ → Option T) → T → List ℕ → Option (Keeping G S T)
    restored_by r v w ro ri begin bytes = then (parsed (block_size r) v w bytes) (resumed r ro ri begin)

module _ {G S T : Type 0} (h : Phases G) (o : Machine S) (i : Machine T) where
  -- the children's records for their parts of a choice list
  abbrev pub outer_record : Keeping G S T → List ℕ → List ℕ
  outer_record s choices = o.saved s.outer.child (choices_of_outer (o.keepers s.outer.child) choices)

  abbrev pub inner_record : Keeping G S T → List ℕ → List ℕ
  inner_record s choices = i.saved s.inner (choices_of_inner (o.keepers s.outer.child) choices)

  abbrev pub fields : Keeping G S T → List ℕ → Fields G
  fields s choices = record { stage = s.stage; kept = kept_by (goes_back choices) s.outer (outer_record s choices); tail = only (h.scans s.stage) (inner_record s choices) }

abbrev pub keeper_machine : {G S T : Type 0} → Kind G → (o : Machine S) → (S → ℕ) → (i : Machine T) → (Keeping G S T → Move (Keeping G S T)) → Machine (Keeping G S T)
keeper_machine k o steps i next = record {
  width = λ s. k.width (o.width s.outer.child) (i.width s.inner);
  plan = λ s. (k.number ∷ terms_bytes s.terms) ++ (o.plan s.outer.child ++ i.plan s.inner);
  sources = λ s. o.sources s.outer.child ++ i.sources s.inner;
  operators = λ s. 1 + (o.operators s.outer.child + i.operators s.inner);
  keepers = λ s. 1 + (o.keepers s.outer.child + i.keepers s.inner);
  flaw = λ s n. either (o.flaw s.outer.child (n + 1)) (either (i.flaw s.inner (n + 1 + o.operators s.outer.child)) (k.flaw s.terms (o.width s.outer.child) (i.width s.inner) n));
  next = next;
  begin = λ s. keeping s.terms k.phases.empty (untaken (o.begin s.outer.child)) (i.begin s.inner);
  saved = λ s choices. framed (inside k.phases (o.width s.outer.child) (i.width s.inner) (fields k.phases o i s choices));
  children = λ s choices. outer_record k.phases o i s choices ∷ (inner_record k.phases o i s choices ∷ []);
  restored = λ s. restored_by k.phases o steps s.terms (o.width s.outer.child) (i.width s.inner) (o.restored s.outer.child) (i.restored s.inner) (i.begin s.inner);
  refetch = λ s. refetch_by k.phases s.terms (o.width s.outer.child) (i.width s.inner) (o.refetch s.outer.child) (i.refetch s.inner);
}

module _ {G S T : Type 0} (k : Kind G) (n : Sense G) (o : Machine S) (d : Meaning S) (i : Machine T) (e : Meaning T) where
  -- the rows to come; at the beginning all of them
  abbrev pub rest_of : Keeping G S T → List Row
  rest_of s = n.rest s.terms (o.width s.outer.child) s.stage s.outer.rows (d.rest s.outer.child) (e.rest s.inner) (e.whole s.inner)

  abbrev pub whole_of : Keeping G S T → List Row
  whole_of s = n.rest s.terms (o.width s.outer.child) k.phases.empty [] (d.whole s.outer.child) (e.whole s.inner) (e.whole s.inner)

  abbrev pub togo_of : Keeping G S T → ℕ
  togo_of s = n.togo s.terms (o.width s.outer.child) s.stage s.outer.rows (d.rest s.outer.child) (d.togo s.outer.child) (e.rest s.inner) (e.togo s.inner) (e.whole s.inner) (e.full s.inner)

  abbrev pub full_of : Keeping G S T → ℕ
  full_of s = n.togo s.terms (o.width s.outer.child) k.phases.empty [] (d.whole s.outer.child) (d.full s.outer.child) (e.whole s.inner) (e.full s.inner) (e.whole s.inner) (e.full s.inner)

  -- good standing: the block's and the inner child's, the rules of the fields, and the inner child at its beginning where
  -- no record of it is written
  pub record Standing (s : Keeping G S T) : Type 0 where
    pub outer : Stands o d s.outer
    pub inner : e.standing s.inner
    pub ruled : n.ruled (block_size s.terms) (i.width s.inner) s.stage s.outer.rows s.outer.contract
    pub begins : k.phases.scans s.stage ≡ false → s.inner ≡ i.begin s.inner

abbrev pub keeper_meaning : {G S T : Type 0} → Kind G → Sense G → (o : Machine S) → Meaning S → (i : Machine T) → Meaning T → (Keeping G S T → Move (Keeping G S T)) → Meaning (Keeping G S T)
keeper_meaning k n o d i e next = record {
  whole = whole_of k n o d i e;
  rest = rest_of k n o d i e;
  full = full_of k n o d i e;
  togo = togo_of k n o d i e;
  reading = λ s bytes. then ((keeper_machine k o d.togo i next).restored s bytes) (λ t. Some (rest_of k n o d i e t));
  standing = Standing k n o d i e;
}
