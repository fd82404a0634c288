use Rattle.std.proofs.Common.{◌≡◌, length, rules}
use Rattle.command.proofs.Asked.{no_filter, no_slope, no_ramp}
use Rattle.command.proofs.command.command_of.Goals as goal

pub returns-in_err-wanted-in-filter : goal.returns-in_err-wanted-in-filter
returns-in_err-wanted-in-filter c =
    let n : length c.args.words.now ≡ 5 = search rules in
    no_filter c.args.words.now _ c.from_residual.result c.from_residual.ensures n c.in_err-wanted-in-filter.ensures

pub returns-in_err-slope-in-ramp : goal.returns-in_err-slope-in-ramp
returns-in_err-slope-in-ramp c =
    let n : length c.args.words.now ≡ 7 = search rules in
    no_slope c.args.words.now _ c.from_residual-in_err-slope-in-ramp.result c.from_residual-in_err-slope-in-ramp.ensures n c.in_err-slope-in-ramp.ensures

pub returns-in_err-wanted-in-ramp : goal.returns-in_err-wanted-in-ramp
returns-in_err-wanted-in-ramp c =
    let n : length c.args.words.now ≡ 7 = search rules in
    no_ramp c.args.words.now _ c.from_residual-in_err-wanted-in-ramp.result c.from_residual-in_err-wanted-in-ramp.ensures n c.in_err-wanted-in-ramp.ensures
