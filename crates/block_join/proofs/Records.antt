-- A block join's record as the code puts it together and takes it apart. Assumes nothing.
use Rattle.std.proofs.Common.{◌≡◌, ℕ, ◌+◌, ◌<◌, ◌≤◌, min, List, length, get_or, Some, sym, refl, ap, ◌∙◌, arith}
use Rattle.operator.specs.Machine.{Machine}
use Rattle.operator.specs.Laws.{Meaning, Laws}
use Rattle.pairing.specs.Terms.{block_size}
use Rattle.block.specs.Choices.{goes_back, choices_of_outer, choices_of_inner}
use Rattle.block.specs.Kept.{Kept, kept_form, kept_of, kept_count, kept_record, Enough}
use Rattle.keeper.specs.Taking.{refetch_kept}
use Rattle.keeper.specs.Keeping.{Keeping, fields, only, parsed, refetch_tail, refetch_of}
use Rattle.keeper.specs.Outer.{part_bytes}
use Rattle.keeper.proofs.Codes.{Apart, apart, record_bound}
use Rattle.block_join.specs.declared.parts.Parts.{Parts}
use Rattle.block_join.specs.Stages.{Stage, within_scan, lead, join_kind}
use Rattle.block_join.specs.Joining.{join_sense, join_machine, next}
use Rattle.block_join.specs.Code.{stage_of, parts_of}
use Rattle.block_join.specs.Fronts.{proper}
use Rattle.block_join.specs.Laws.{laws}

-- the parts of its record for a choice list
module _ {S T : Type 0} (o : Machine S) (i : Machine T) (s : Keeping Stage S T) (choices : List ℕ) where
  abbrev pub block_kept : Kept
  block_kept = (fields join_kind.phases o i s choices).kept

  abbrev pub front_bytes : List ℕ
  front_bytes = lead (i.width s.inner) (kept_form block_kept) (kept_count block_kept) s.stage

  abbrev pub block_bytes : List ℕ
  block_bytes = part_bytes o (goes_back choices) (choices_of_outer (o.keepers s.outer.child) choices) s.outer

  abbrev pub inner_bytes : List ℕ
  inner_bytes = only (within_scan s.stage) (i.saved s.inner (choices_of_inner (o.keepers s.outer.child) choices))

module _ {S T : Type 0} (o : Machine S) (d : Meaning S) (lo : Laws o d) (i : Machine T) (e : Meaning T) (li : Laws i e) (s : Keeping Stage S T) (bytes : List ℕ) (q : Parts) where
  abbrev v : ℕ
  v = min 8 (o.width s.outer.child)

  abbrev Read : Type 0
  Read = parsed join_kind.phases (block_size s.terms) v (min 8 (i.width s.inner)) bytes ≡ parts_of v (Some q)

  pub record_apart : Read → Enough v q.stored → Apart join_kind join_sense proper o d lo i e li (next o i) s bytes (stage_of q.phase) q.stored q.tail.now
  record_apart h en = apart join_kind join_sense proper o d lo i e li (next o i) s bytes _ _ _ (stage_of q.phase) q.stored q.tail.now refl refl refl h en

  -- the rows that a load of it would fetch again: so many of the block, and those of the inner child's record; they fit 32 bits
  pub refetches : (n : ℕ) → Read → Enough v q.stored → get_or bytes 0 0 < 256 → get_or bytes 1 0 < 256
      → ((u : ℕ) → kept_count (kept_of u q.stored) ≤ 16 → length (kept_record (kept_of u q.stored)) ≤ 65537 → n ≡ refetch_kept (o.refetch s.outer.child) (kept_of u q.stored))
      → ((join_machine o d.togo i).refetch s bytes ≡ n + refetch_tail (within_scan (stage_of q.phase)) (i.refetch s.inner) q.tail.now) × ((join_machine o d.togo i).refetch s bytes < 4294967296)
  refetches n h en b c f =
      let a = record_apart h en in
      let bound = record_bound join_kind join_sense proper o d lo i e li (next o i) s bytes _ b c a.is in
      let part = f (o.width s.outer.child) a.count (omega (arith, a.room)) in
      (ap (refetch_of join_kind.phases (o.refetch s.outer.child) (i.refetch s.inner)) a.is ∙ ap (λ k. k + refetch_tail (within_scan (stage_of q.phase)) (i.refetch s.inner) q.tail.now) (sym part), omega (arith, bound, (laws o d lo i e li).few s bytes))
