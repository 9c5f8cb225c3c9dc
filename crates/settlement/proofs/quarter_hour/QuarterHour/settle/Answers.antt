use Rattle.std.proofs.Common.{◌≡◌, ◌∙◌, arith}
use Rattle.quantities.specs.Limits.{places}
use Rattle.quantities.proofs.Listed.{row_at}
use Rattle.settlement.specs.Points.{left_in, settled_row, share_in}
use Rattle.settlement.specs.Quarter.{settled}
use Rattle.settlement.proofs.Balance.{settlement_laws, whole_place}
use Rattle.settlement.proofs.Steps.{conserves_rows, drawn_row, remaining_row_lem, settled_rows, used_is}
use Rattle.settlement.proofs.quarter_hour.QuarterHour.settle.Given.{Over}
use Rattle.settlement.proofs.quarter_hour.QuarterHour.settle.Goals as goal
use Rattle.settlement.proofs.quarter_hour.QuarterHour.settle.Goals.{After-joined-settled}

-- what every place settles
settles : (g : Over) (c : After-joined-settled g) → c.joined-settled.result ≡ settled_row (g.K.Key.promised c.args.key.now) c.args.self.now
settles g c =
    let law = g.K.Key.lawful c.args.key.now in
    let drawn = drawn_row _ law _ _ _ _ c.entitlements-entitled.ensures c.settled_draws-drawn.ensures in
    let used = used_is _ law _ _ _ _ drawn c.together.ensures in
    c.joined-settled.ensures ∙ settled_rows _ law _ _ _ _ _ drawn used c.settled_feeds-fed.ensures

pub remainders-remainder-requires : goal.remainders-remainder-requires
remainders-remainder-requires g c p h =
    let key = g.K.Key.promised c.args.key.now in
    let q = c.args.self.now in
    let e = row_at places (settled key (share_in q) (left_in q)) c.joined-settled.result (settles g (goal.at.remainders-remainder-requires g c).After-joined-settled) p h in
    omega (arith, e, whole_place key (g.K.Key.lawful c.args.key.now) (share_in q) (left_in q) p)

pub returns : goal.returns
returns g c =
    let law = g.K.Key.lawful c.args.key.now in
    let all = settles g (goal.at.returns g c).After-joined-settled in
    let rest = remaining_row_lem _ law _ _ _ _ all c.remainders-remainder.ensures in
    record {
      entitles = c.entitlements-entitled.ensures;
      settles = all;
      leaves = rest;
      conserves = conserves_rows _ law _ _ _ _ all rest;
      laws = settlement_laws;
    }
