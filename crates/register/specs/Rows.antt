-- A row of the register as a list of entries, and the order in which they stand. Assumes nothing.
use Rattle.std.specs.Prelude.{ℕ, Bool, true, false, cond, ◌&&◌, List, [], ◌∷◌, length, take, nat_le, nat_lt}
use Rattle.quantities.specs.Limits.{drawing, last_day, whole_share}
use Rattle.register.specs.declared.entry.Entry.{Entry}
use Rattle.register.specs.declared.entry.Entry.TheVariants.{Start, Change, End}
use Rattle.register.specs.declared.entry.Standing.{Standing}
use Rattle.register.specs.declared.entry.Standing.TheVariants.{Empty, Open, Ended}
use Rattle.register.specs.declared.row.Row.{Row}

-- the entries of a row, in order
abbrev pub entries : Row → List Entry
entries row = take row.len row.items

-- how a row stands whose last entry is this one
abbrev pub after : Entry → Standing
after (Start day share) = Open day
after (Change day share) = Open day
after (End day) = Ended day

abbrev pub standing_from : Standing → List Entry → Standing
standing_from s [] = s
standing_from s (e ∷ es) = standing_from (after e) es

-- how a row stands: empty, open since its last start or change, or ended
abbrev pub stands : List Entry → Standing
stands es = standing_from Empty es

-- A start stands first, or after an end before its day.
-- A change stands after a start or change before its day.
-- An end stands after a start or change on or before its day.
abbrev pub follows : Standing → Entry → Bool
follows Empty (Start day share) = true
follows Empty (Change day share) = false
follows Empty (End day) = false
follows (Open last) (Start day share) = false
follows (Open last) (Change day share) = nat_lt last day
follows (Open last) (End day) = nat_le last day
follows (Ended last) (Start day share) = nat_lt last day
follows (Ended last) (Change day share) = false
follows (Ended last) (End day) = false

abbrev pub day_of : Entry → ℕ
day_of (Start day share) = day
day_of (Change day share) = day
day_of (End day) = day

abbrev pub share_of : Entry → ℕ
share_of (Start day share) = share
share_of (Change day share) = share
share_of (End day) = 0

-- the largest share at a place: the whole where it draws, 0 where it feeds
abbrev pub most_share : ℕ → ℕ
most_share place = cond (nat_lt place drawing) whole_share 0

-- an entry's day and share are within the limits
abbrev pub within : ℕ → Entry → Bool
within place e = nat_le (day_of e) last_day && nat_le (share_of e) (most_share place)

-- each entry follows on those before it, and is within the limits
abbrev pub ordered_from : ℕ → Standing → List Entry → Bool
ordered_from place s [] = true
ordered_from place s (e ∷ es) = follows s e && within place e && ordered_from place (after e) es

-- a row has at most 16 entries; one that is open keeps the last place for an end
abbrev pub most_entries : Standing → ℕ
most_entries Empty = 16
most_entries (Open last) = 15
most_entries (Ended last) = 16

-- the entries of a place's row stand in lawful order
abbrev pub lawful : ℕ → List Entry → Bool
lawful place es = ordered_from place Empty es && nat_le (length es) (most_entries (stands es))

-- a row of 15 or more entries has no room for a start or a change
abbrev pub full : Entry → ℕ → Bool
full (Start day share) count = nat_le 15 count
full (Change day share) count = nat_le 15 count
full (End day) count = false
