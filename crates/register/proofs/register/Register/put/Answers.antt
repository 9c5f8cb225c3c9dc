use Rattle.register.proofs.Held.{entered}
use Rattle.register.proofs.register.Register.put.Goals as goal

pub invariant_of-self : goal.invariant_of-self
invariant_of-self c =
    let after = entered c.args.self.now c.args.place _ c.args.entry c.from.ensures c.requires _ _ c.push.ensures in
    record { whole = after.whole; order = after.order }

pub returns : goal.returns
returns c =
    let after = entered c.args.self.now c.args.place _ c.args.entry c.from.ensures c.requires _ _ c.push.ensures in
    record { rows = after.table; effect = after.effect }
