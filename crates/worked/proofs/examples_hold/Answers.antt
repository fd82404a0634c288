use Rattle.std.proofs.Common.{ℕ, zero, suc, ◌<◌, pos, negsuc, refl, arith, w32, SFits}
use Rattle.codec.specs.Frames.{framed, body, number}
use Rattle.codec.specs.Rows.{wide}
use Rattle.source.specs.Table.{sound, no_rows, table_of}
use Rattle.source.specs.Images.{is_image, image_table}
use Rattle.source.specs.Ramps.{RampFits, ramp_cell, ramp_row, ramp_rows}
use Rattle.filter.specs.Condition.{holds, known, own_flaw}
use Rattle.worked.proofs.examples_hold.Goals as goal

low : (i : ℕ) → i < 3 → SFits w32 (ramp_cell (negsuc 199) (pos 175) i)
unfolding ramp_cell
low zero h = record { sfits = omega arith }
low (suc zero) h = record { sfits = omega arith }
low (suc (suc zero)) h = record { sfits = omega arith }
low (suc (suc (suc i))) h = absurd (omega arith)

top : (i : ℕ) → i < 1 → SFits w32 (ramp_cell (pos 2147483647) (pos 1) i)
unfolding ramp_cell
top zero h = record { sfits = omega arith }
top (suc i) h = absurd (omega arith)

over : RampFits (pos 2147483647) (pos 1) 2 → ⊥
unfolding ramp_cell
over h = let f = (h.inside 1 (omega arith)).sfits in omega arith

pub returns : goal.returns
unfolding framed body number wide sound no_rows table_of is_image image_table ramp_cell ramp_row ramp_rows holds known own_flaw
returns c = record {
  image = record { version = refl; some = omega arith; narrow = omega arith; few = omega arith; whole = refl };
  image_rows = refl;
  byte_more = λ g. let e = g.whole in omega arith;
  empty_image = record { version = refl; some = omega arith; narrow = omega arith; few = omega arith; whole = refl };
  empty_rows = refl;
  ramp = record { few = omega arith; inside = low };
  ramp_rows = refl;
  ramp_top = record { few = omega arith; inside = top };
  ramp_over = over;
  scan_plan = refl;
  scan_record = refl;
  scan_last = refl;
  scan_beyond = refl;
  filter_rows = refl;
  filter_plan = refl;
  filter_record = refl;
  filter_misfit = refl;
  filter_unknown = refl;
}
