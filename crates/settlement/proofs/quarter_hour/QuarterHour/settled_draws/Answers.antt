use Rattle.std.proofs.Common.{rules}
use Rattle.quantities.proofs.Chains.{row_from_fn}
use Rattle.settlement.proofs.quarter_hour.QuarterHour.settled_draws.Goals as goal
use Rattle.settlement.specs.Quarter.{draws}

pub returns : goal.returns
unfolding draws
returns c = row_from_fn _ _ _ c.from_fn.ensures.items (λ k y q low called. search rules)
