use Rattle.settlement.proofs.Points.{whole_is}
use Rattle.settlement.proofs.quarter_hour.QuarterHour.whole_sums.Goals as goal

pub returns : goal.returns
returns c =
    whole_is c.args.self.now _ c.drawing.ensures.points c.drawing.ensures.count _ c.sums_over.ensures.share c.sums_over.ensures.draw
