use Rattle.std.proofs.Common.{rules}
use Rattle.quantities.proofs.Chains.{row_from_fn}
use Rattle.settlement.proofs.quarter_hour.QuarterHour.remainders.Goals as goal

pub returns : goal.returns
returns c = row_from_fn _ _ _ c.from_fn.ensures.items (λ k y q low called. search rules)
