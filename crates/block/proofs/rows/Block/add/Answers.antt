use Rattle.std.proofs.Common.{◌≡◌, ℕ, [], ◌∷◌, ◌++◌, length, take, ap, ◌∙◌, arith, length-take, rules}
use Rattle.std.proofs.lemmas.List.{take_more_set}
use Rattle.block.proofs.rows.Block.add.Goals as goal

pub returns-then-at-lt-BLOCK_ROWS-clause-added : goal.returns-then-at-lt-BLOCK_ROWS-clause-added
returns-then-at-lt-BLOCK_ROWS-clause-added c = λ few.
    let l : length c.args.self.now.rows ≡ 16 = search rules in
    let e = simp length-take at (ap length c.rows-at.ensures.is) in
    let n : length c.rows-at.result.now ≡ c.args.self.now.count = omega arith in
    take_more_set c.args.self.now.rows (length c.rows-at.result.now) c.args.row (omega arith) ∙ ap (λ (k : ℕ). take k c.args.self.now.rows ++ (c.args.row ∷ [])) n
