-- What an entry changes, day by day. Assumes nothing.
use Rattle.std.specs.Prelude.{◌≡◌, ℕ, Bool, cond, List, Some, None, Option, Result, OnOk, nat_le, nat_lt}
use Rattle.register.specs.declared.entry.Entry.{Entry}
use Rattle.register.specs.declared.entry.Entry.TheVariants.{Start, Change, End}
use Rattle.quantities.specs.declared.refusal.Refusal.{Refusal}
use Rattle.register.specs.Calls.{answer, later, row_of, rows_of}
use Rattle.register.specs.Shares.{share_on}
use Rattle.register.specs.declared.register.Register.{Register}

-- a start or change takes effect on its day, an end on the day after
abbrev pub in_effect : Entry → ℕ → Bool
in_effect (Start since share) day = nat_le since day
in_effect (Change since share) day = nat_le since day
in_effect (End last) day = nat_lt last day

-- the share that an entry brings
abbrev pub brings : Entry → Option ℕ
brings (Start since share) = Some share
brings (Change since share) = Some share
brings (End last) = None

-- one entry more in a row: the place has what the entry brings on each day on which it is in effect, and on all
-- others what it had
abbrev pub TakesEffect : Entry → List Entry → List Entry → Type 0
TakesEffect e before afterwards = (day : ℕ) → share_on afterwards day ≡ cond (in_effect e day) (brings e) (share_on before day)

-- a call with an entry for a place: what it answers, the rows that it leaves, and what an accepted one changes
pub record Enters (old new : Register) (place : ℕ) (entry : Entry) (result : Result Unit Refusal) : Type 0 where
  pub answer : result ≡ answer (rows_of old) place entry
  pub rows : rows_of new ≡ later (rows_of old) place entry
  pub effect : OnOk result (TakesEffect entry (row_of (rows_of old) place) (row_of (rows_of new) place))
