-- The share of a place on a day, the total of a day, and corrected shares. Assumes nothing.
use Rattle.std.specs.Prelude.{ℕ, Bool, false, cond, ◌||◌, List, [], ◌∷◌, map, is_some, Some, None, Option, Result, nat_le, nat_lt}
use Rattle.quantities.specs.Checks.{unless}
use Rattle.quantities.specs.Limits.{drawing, last_day, places}
use Rattle.quantities.specs.Optional.{or_zero}
use Rattle.quantities.specs.Shares.{corrected}
use Rattle.quantities.specs.Sums.{sum}
use Rattle.quantities.specs.declared.refusal.Refusal.{Refusal}
use Rattle.quantities.specs.declared.refusal.Refusal.TheVariants.{NoSuchPlace, NoSuchDay}
use Rattle.register.specs.declared.entry.Entry.{Entry}
use Rattle.register.specs.declared.entry.Entry.TheVariants.{Start, Change, End}
use Rattle.register.specs.Calls.{row_of}

-- the share of a start or change dated on the day or earlier
abbrev pub set_by : ℕ → Entry → Option ℕ
set_by day (Start since share) = cond (nat_le since day) (Some share) None
set_by day (Change since share) = cond (nat_le since day) (Some share) None
set_by day (End last) = None

-- some entry is such a start or change
abbrev pub any_set_by : ℕ → List Entry → Bool
any_set_by day [] = false
any_set_by day (e ∷ es) = is_some (set_by day e) || any_set_by day es

-- the next entry is an end dated before the day
abbrev pub ended : ℕ → List Entry → Bool
ended day [] = false
ended day (Start since share ∷ es) = false
ended day (Change since share ∷ es) = false
ended day (End last ∷ es) = nat_lt last day

-- the share of the last start or change dated on the day or earlier, unless the entry after it is an end
-- dated before the day; otherwise none
abbrev pub share_on : List Entry → ℕ → Option ℕ
share_on [] day = None
share_on (e ∷ es) day = cond (any_set_by day es) (share_on es day) (cond (ended day es) None (set_by day e))

-- the shares of all places on a day
abbrev pub shares_on : List (List Entry) → ℕ → List (Option ℕ)
shares_on table day = map (λ es. share_on es day) table

-- the share with which a place counts on a day: 0 where it takes no part
abbrev pub counts_with : List (List Entry) → ℕ → ℕ → ℕ
counts_with table day place = or_zero (share_on (row_of table place) day)

-- the total of a day: the shares of the drawing places that take part
abbrev pub total : List (List Entry) → ℕ → ℕ
total table day = sum (counts_with table day) drawing

-- a share as it counts where a day's shares have this total
abbrev pub corrected_to : ℕ → Option ℕ → Option ℕ
corrected_to whole None = None
corrected_to whole (Some share) = Some (corrected share whole)

abbrev pub day_faults : ℕ → List (Refusal × Bool)
day_faults day = (NoSuchDay, nat_lt last_day day) ∷ []

abbrev pub place_faults : ℕ → ℕ → List (Refusal × Bool)
place_faults place day = (NoSuchPlace, nat_le places place) ∷ day_faults day

-- the answers to the questions for a share, a total and a corrected share
abbrev pub share_answer : List (List Entry) → ℕ → ℕ → Result (Option ℕ) Refusal
share_answer table place day = unless (place_faults place day) (share_on (row_of table place) day)

abbrev pub total_answer : List (List Entry) → ℕ → Result ℕ Refusal
total_answer table day = unless (day_faults day) (total table day)

abbrev pub corrected_answer : List (List Entry) → ℕ → ℕ → Result (Option ℕ) Refusal
corrected_answer table place day =
    unless (place_faults place day) (corrected_to (total table day) (share_on (row_of table place) day))
