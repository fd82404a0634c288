-- The texts of bytes, one by one. Assumes nothing.
use Rattle.std.proofs.Common.{◌≡◌, ℕ, ◌+◌, ◌<◌, List, [], ◌++◌, length, get_or, take, sym, ap, ◌∙◌}
use Rattle.std.specs.List.{flat_map}
use Rattle.std.proofs.lemmas.List.{flat_map_more, take_more}
use Rattle.printing.specs.Texts.{hex_byte}

-- the texts of one byte more
pub one_more : (bs : List ℕ) (i : ℕ) → i < length bs → flat_map hex_byte (take i bs) ++ hex_byte (get_or bs i 0) ≡ flat_map hex_byte (take (i + 1) bs)
one_more bs i h = flat_map_more hex_byte [] (take i bs) (get_or bs i 0) ∙ sym (ap (flat_map hex_byte) (take_more bs i 0 h))
