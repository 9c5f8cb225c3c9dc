use Rattle.std.proofs.Common.{◌≡◌, map, rules}
use Rattle.std.specs.List.{range_with_len}
use Rattle.quantities.specs.Limits.{places}
use Rattle.quantities.proofs.Chains.{map_from_fn}
use Rattle.settlement.specs.Points.{nobody}
use Rattle.settlement.proofs.Points.{joined, shares_held, left_held}
use Rattle.settlement.proofs.quarter_hour.QuarterHour.new.Goals as goal
use Rattle.settlement.proofs.quarter_hour.QuarterHour.new.Goals.{After-from_fn}

made : (c : After-from_fn) → c.from_fn.result ≡ map (joined c.args.shares.now c.args.left.now) (range_with_len 0 places)
made c = map_from_fn _ _ (joined c.args.shares.now c.args.left.now) _ places nobody c.from_fn.ensures.items (λ k y q low called. search rules)

pub returns-clause-shares : goal.returns-clause-shares
returns-clause-shares c = shares_held c.args.shares.now c.args.left.now c.told-shares c.told-left _ (made c)

pub returns-clause-left : goal.returns-clause-left
returns-clause-left c = left_held c.args.shares.now c.args.left.now c.told-shares c.told-left _ (made c)
