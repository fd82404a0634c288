-- A block and a contract as lists. Assumes nothing.
use Rattle.std.specs.Prelude.{ℕ, List, length, take, Some, None, Option, nat_le}
use Rattle.codec.specs.declared.row.Row.{Row}
use Rattle.block.specs.declared.rows.Block.{Block}
use Rattle.block.specs.declared.contract.Contract.{Contract}
use Rattle.block.specs.Kept.{when}

-- the rows of a block
abbrev pub block_rows : Block → List Row
block_rows b = take b.count b.rows

-- the bytes of a contract
abbrev pub contract_bytes : Contract → List ℕ
contract_bytes k = take k.used k.bytes

abbrev pub contract_of : Option Contract → Option (List ℕ)
contract_of None = None
contract_of (Some k) = Some (contract_bytes k)

-- a contract is kept if it has at most 512 bytes
abbrev pub signed : List ℕ → Option (List ℕ)
signed bytes = when (nat_le (length bytes) 512) (Some bytes)
