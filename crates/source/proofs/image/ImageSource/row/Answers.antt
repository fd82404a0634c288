use Rattle.std.proofs.Common.{◌≡◌, ℕ, ◌<◌, List, length, refl, ap, ◌∙◌, arith}
use Rattle.std.specs.List.{slice_get}
use Rattle.source.specs.Images.{TableImage, image_table, named_count, named_width}
use Rattle.source.proofs.Imaged.{width_good, count_good, row_place, row_read}
use Rattle.source.proofs.image.ImageSource.row.Goals as goal

wide : (bs : List ℕ) (v w : ℕ) → TableImage bs → v ≡ w → w ≡ (image_table bs).width → v ≡ named_width bs
wide bs v w g e f = e ∙ f ∙ width_good bs g

below : (bs : List ℕ) (i j n : ℕ) → TableImage bs → j ≡ i → i < n → n ≡ length (image_table bs).content → j < named_count bs
below bs i j n g e h f = omega (arith, count_good bs g)

pub slice_bounds-read_row-count : goal.slice_bounds-read_row-count
slice_bounds-read_row-count c =
    let m = c.args.self.now in
    let w = wide m.bytes.now c.from-width.result c.width.result m.rule c.from-width.ensures c.width.ensures in
    let h = below m.bytes.now c.args.i c.from.result c.count.result m.rule c.from.ensures c.if-i-count.false c.count.ensures in
    omega (arith, row_place m.bytes.now c.from.result (named_count m.bytes.now) c.from-width.result m.rule refl w h)

pub slice_bounds-read_row-start : goal.slice_bounds-read_row-start
slice_bounds-read_row-start = slice_bounds-read_row-count

pub returns : goal.returns
returns c =
    let m = c.args.self.now in
    let w = wide m.bytes.now c.from-width.result c.width.result m.rule c.from-width.ensures c.width.ensures in
    let h = below m.bytes.now c.args.i c.from.result c.count.result m.rule c.from.ensures c.if-i-count.false c.count.ensures in
    c.read_row.ensures ∙ row_read m.bytes.now c.from.result c.from-width.result m.rule h w ∙ ap (slice_get (image_table m.bytes.now).content) c.from.ensures
