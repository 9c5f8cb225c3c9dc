-- What is told of a community's members on a day. Assumes nothing.
use Rattle.std.specs.Prelude.{◌≡◌, ℕ, ◌<◌, List, Ok}
use Rattle.quantities.specs.Limits.{places}
use Rattle.quantities.specs.Rows.{maybe_at}
use Rattle.register.specs.Shares.{corrected_answer, shares_on, total_answer}
use Rattle.register.specs.declared.entry.Entry.{Entry}
use Rattle.settle.specs.declared.roll.Members.{Members}

-- the shares, the corrected shares and the total of a register with these rows
pub record MembersOn (table : List (List Entry)) (day : ℕ) (members : Members) : Type 0 where
  pub shares : members.shares ≡ shares_on table day
  pub corrected : (place : ℕ) → place < places → corrected_answer table place day ≡ Ok (maybe_at members.corrected place)
  pub total : total_answer table day ≡ Ok members.total
