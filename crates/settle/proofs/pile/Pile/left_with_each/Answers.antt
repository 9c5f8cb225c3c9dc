use Rattle.std.proofs.Common.{rules}
use Rattle.quantities.proofs.Chains.{row_from_fn}
use Rattle.settle.proofs.pile.Pile.left_with_each.Goals as goal

pub returns : goal.returns
returns c = row_from_fn _ _ _ c.from_fn.ensures.items (λ k y q low called. search rules)
