use Rattle.std.proofs.Common.{refl, rules}
use Rattle.source.proofs.Ramped.{fits_by_last}
use Rattle.source.proofs.ramp.Slope.fits.Goals as goal

pub returns-then-self-le-MAX_COUNT : goal.returns-then-self-le-MAX_COUNT
returns-then-self-le-MAX_COUNT c =
    let s = c.args.self in
    fits_by_last s.start s.step c.cell-last.result _ _ s.count c.saturating_sub.result c.is_ok.result c.try_from.result (search rules) c.if-self-le-MAX_COUNT.true (record { sfits = c.cell-last.type_inv }) c.saturating_sub.ensures c.cell-last.ensures refl c.try_from.ensures c.is_ok.ensures.value
