use Rattle.register.proofs.Totals.{first_fit}
use Rattle.register.proofs.register.Register.total_of.Goals as goal

pub sum_of-requires : goal.sum_of-requires
sum_of-requires c = search (first_fit c.args.self.now c.args.day)
