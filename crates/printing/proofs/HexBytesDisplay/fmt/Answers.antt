use Rattle.std.proofs.Common.{◌<◌, false, get_or, refl, rules}
use Rattle.std.proofs.Output.{has_written_append, has_written_of_eq}
use Rattle.std.proofs.lemmas.Fmt.{hex_byte as two_digits}
use Rattle.printing.proofs.Bytes.{one_more}
use Rattle.printing.proofs.HexBytesDisplay.fmt.Goals as goal

pub loop-byte-preserved : goal.loop-byte-preserved
loop-byte-preserved g c = λ p.
    let bs = c.args.self.now.0.now in
    let i = c.loop-byte.byte-index in
    let fits : get_or bs i 0 < 256 = search rules in
    let before = c.loop-byte.invariant p in
    let here = rw (c.laid_out.ensures, c.in_radix.ensures, two_digits false (get_or bs i 0) fits) at c.in_ok-write.ensures.writes in
    has_written_of_eq _ _ _ _ _ (one_more bs i c.loop-byte-test.true) (has_written_append _ _ _ _ _ _ before (here before.plain refl))
