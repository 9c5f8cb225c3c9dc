-- What the calls of a register answer, and the rows that they leave. Assumes nothing.
use Rattle.std.specs.Prelude.{ℕ, Bool, not, List, [], ◌∷◌, ◌++◌, map, length, replicate, Result, nat_le, nat_lt, slice_index_or, slice_set}
use Rattle.quantities.specs.Checks.{unless, if_accepted}
use Rattle.quantities.specs.Limits.{last_day, places}
use Rattle.quantities.specs.declared.refusal.Refusal.{Refusal}
use Rattle.quantities.specs.declared.refusal.Refusal.TheVariants.{NoSuchPlace, NoSuchDay, ShareNotAllowed, RowFull, DoesNotFollow}
use Rattle.register.specs.declared.entry.Entry.{Entry}
use Rattle.register.specs.declared.register.Register.{Register}
use Rattle.register.specs.Rows.{entries, day_of, share_of, most_share, full, follows, stands}

-- the rows of a register, by place
abbrev pub rows_of : Register → List (List Entry)
rows_of register = map entries register.rows

-- the row of a place
abbrev pub row_of : List (List Entry) → ℕ → List Entry
row_of table place = slice_index_or table place []

abbrev pub empty_rows : List (List Entry)
empty_rows = replicate places []

-- a start, change or end is refused by the first of these faults
abbrev pub faults : List (List Entry) → ℕ → Entry → List (Refusal × Bool)
faults table place entry =
    (NoSuchPlace, nat_le places place)
    ∷ ((NoSuchDay, nat_lt last_day (day_of entry))
    ∷ ((ShareNotAllowed, nat_lt (most_share place) (share_of entry))
    ∷ ((RowFull, full entry (length (row_of table place)))
    ∷ ((DoesNotFollow, not (follows (stands (row_of table place)) entry)) ∷ []))))

abbrev pub answer : List (List Entry) → ℕ → Entry → Result Unit Refusal
answer table place entry = unless (faults table place entry) tt

-- one entry more in the row of a place, the other rows as they were
abbrev pub with_entry : List (List Entry) → ℕ → Entry → List (List Entry)
with_entry table place entry = slice_set table place (row_of table place ++ entry ∷ [])

-- the rows after the call: an accepted one adds its entry to that one row, a refused one changes nothing
abbrev pub later : List (List Entry) → ℕ → Entry → List (List Entry)
later table place entry = if_accepted (answer table place entry) (with_entry table place entry) table
