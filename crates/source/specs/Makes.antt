-- Which sources are made, and what they mean. Assumes nothing.
use Rattle.std.specs.Prelude.{◌≡◌, ℕ, List, ℤ, Ok, Err, Result}
use Rattle.refusal.specs.declared.Refusal.{Refusal}
use Rattle.refusal.specs.Numbers.{number}
use Rattle.source.specs.declared.image.Image.{Image}
use Rattle.source.specs.declared.ramp.Ramp.{Ramp}
use Rattle.source.specs.Images.{TableImage, named_width, named_rows, image_table}
use Rattle.source.specs.Ramps.{RampFits, ramp_rows, ramp_table}

-- exactly the table images are accepted, and mean the rows in their bytes; all else is a bad source
abbrev pub MakesImage : List ℕ → Result Image Refusal → Type 0
MakesImage bs (Ok m) =
    TableImage bs × (m.bytes.now ≡ bs) × ((image_table bs).width ≡ named_width bs) × ((image_table bs).content ≡ named_rows bs)
MakesImage bs (Err e) = (TableImage bs → ⊥) × (number e ≡ 12)

-- exactly the ramps that keep the rule are accepted, and mean their rows; all else is a bad source
abbrev pub MakesRamp : ℤ → ℤ → ℕ → Result Ramp Refusal → Type 0
MakesRamp start step count (Ok m) =
    RampFits start step count × (m.slope.start ≡ start) × (m.slope.step ≡ step) × (m.slope.count ≡ count) × ((ramp_table start step count).content ≡ ramp_rows start step count)
MakesRamp start step count (Err e) = (RampFits start step count → ⊥) × (number e ≡ 12)
