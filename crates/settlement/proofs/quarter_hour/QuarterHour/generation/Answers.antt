use Rattle.std.proofs.Common.{◌∙◌}
use Rattle.settlement.proofs.Points.{generated_is}
use Rattle.settlement.proofs.quarter_hour.QuarterHour.generation.Goals as goal

pub returns : goal.returns
returns c =
    c.brought_together.ensures ∙ generated_is c.args.self.now _ c.feeding.ensures.points c.feeding.ensures.count
