use Rattle.std.proofs.Common.{arith}
use Rattle.block.proofs.Cuts.{owed_torn, owed_long, owed_is}
use Rattle.block.proofs.part.owed_part.Goals as goal

pub returns-in_err-contract-clause-is : goal.returns-in_err-contract-clause-is
returns-in_err-contract-clause-is c = rw c.from_residual.ensures (owed_torn c.args.count c.args.bytes.now c.in_err-contract.ensures)

pub returns-then-contract-gt-CONTRACT_BYTES-clause-is : goal.returns-then-contract-gt-CONTRACT_BYTES-clause-is
returns-then-contract-gt-CONTRACT_BYTES-clause-is c = owed_long c.args.count c.args.bytes.now _ c.in_ok-contract.ensures (omega arith)

pub returns-clause-is : goal.returns-clause-is
returns-clause-is c = owed_is c.args.count c.args.bytes.now _ c.in_ok-contract.ensures (omega arith)
