use Rattle.register.proofs.Held.{each_new}
use Rattle.register.proofs.register.Register.new.Goals as goal

pub invariant_of-result-clause-order : goal.invariant_of-result-clause-order
invariant_of-result-clause-order c = each_new 64 c.new.result c.new.ensures
