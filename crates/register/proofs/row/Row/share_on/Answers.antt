use Rattle.std.proofs.Common.{◌∙◌}
use Rattle.register.proofs.Latest.{back_found}
use Rattle.register.proofs.row.Row.share_on.Goals as goal

pub returns-in-Some-share_by : goal.returns-in-Some-share_by
returns-in-Some-share_by c =
    c.then_some.ensures
    ∙ back_found _ _ _ _ _ _ c.loop-entry.invariant.back c.in-Some.ensures.steps c.in-Some-share_by.share c.in-Some-share_by.ensures
