use Rattle.std.proofs.Common.{ℕ, replicate, refl}
use Rattle.block.proofs.Parts.{signed_ok, signed_err}
use Rattle.block.proofs.contract.Contract.of.Goals as goal

pub returns : goal.returns
returns c = signed_ok c.args.bytes.now (replicate {A = ℕ} 512 0) c.write_front.new.buffer _ c.write_front.result c.in_ok-used.used refl c.in_ok-used.ensures.value refl c.write_front.ensures

pub returns-in_err-used : goal.returns-in_err-used
returns-in_err-used c = rw c.from_residual.ensures (signed_err c.args.bytes.now (replicate {A = ℕ} 512 0) c.write_front.new.buffer c.write_front.result refl c.in_err-used.ensures.value c.write_front.ensures)
