use Rattle.std.proofs.Common.{◌∙◌, None, [], map, rules, tests}
use Rattle.std.proofs.lemmas.List.{length-map}
use Rattle.register.specs.Calls.{row_of}
use Rattle.register.specs.Rows.{entries}
use Rattle.register.specs.Shares.{share_on}
use Rattle.quantities.specs.Limits.{places}
use Rattle.quantities.proofs.Chains.{map_by_index, map_from_fn}
use Rattle.register.proofs.register.questions.shares_of.Goals as goal

pub returns : goal.returns
returns c =
    map_from_fn _ _ (λ place. share_on (row_of (map entries c.args.rows.now) place) c.args.day) c.from_fn.result places None c.from_fn.ensures.items (λ k y q low called. search (rules, tests))
    ∙ map_by_index (λ es. share_on es c.args.day) (map entries c.args.rows.now) [] places (length-map c.args.rows.now entries ∙ search rules)
