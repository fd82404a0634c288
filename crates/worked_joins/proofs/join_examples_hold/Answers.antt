use Rattle.std.proofs.Common.{ℤ, pos, negsuc, refl, arith, w32, SFits}
use Rattle.std.proofs.lemmas.Int.{ints}
use Rattle.codec.specs.Frames.{framed, body, number}
use Rattle.codec.specs.Rows.{wide}
use Rattle.source.specs.Table.{sound, no_rows, table_of}
use Rattle.source.specs.Images.{is_image, image_table}
use Rattle.pairing.specs.Condition.{joins}
use Rattle.pairing.specs.Condition as condition
use Rattle.pairing.specs.Terms.{match, faulty}
use Rattle.pairing.specs.Pairs.{row_joined, cut_up, matches, scanned, joined, first}
use Rattle.block.specs.Kept.{cut, part_at, parted}
use Rattle.keeper.specs.Taking.{fetch}
use Rattle.keeper.specs.Keeping.{parsed}
use Rattle.block_join.specs.Stages.{leads}
use Rattle.worked_joins.proofs.join_examples_hold.Goals as goal

-- the widest difference is beyond every band
beyond : (w : ℤ) → SFits w32 w → condition.Within w (negsuc 2147483647) (pos 2147483647) → ⊥
beyond w f h = omega (arith, ints, f.sfits, h.1)

pub returns : goal.returns
unfolding framed body number wide sound no_rows table_of is_image image_table match joins row_joined cut_up matches scanned joined first faulty cut part_at parted parsed leads fetch condition.known
returns c = record {
  rows = refl;
  five_steps = refl;
  back = refl;
  back_owes = refl;
  dumped = refl;
  dumped_owes = refl;
  no_choice = refl;
  loaded_back = refl;
  loaded_dumped = refl;
  within_40 = (record { le = tt }, record { le = tt });
  not_within_39 = λ h. h.0.le;
  within_none = beyond;
  band_alone = refl;
  band_near = refl;
}
