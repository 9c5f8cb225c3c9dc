-- The registers of the two communities, filled by lists of calls, and their members on the day of the profiles. Assumes nothing.
use Rattle.std.specs.Prelude.{ℕ, ◌-◌, List, [], ◌∷◌, ◌++◌, length, replicate, Some, None, Option}
use Rattle.quantities.specs.Limits.{drawing, feeding}
use Rattle.register.specs.Calls.{empty_rows, later}
use Rattle.register.specs.Shares.{shares_on}
use Rattle.register.specs.declared.entry.Entry.{Entry}
use Rattle.settle.specs.declared.membership.Call.{Call}

-- the rows after a list of calls, refused ones among them
abbrev pub entered : List (List Entry) → List Call → List (List Entry)
entered table [] = table
entered table (c ∷ cs) = entered (later table c.place c.entry) cs

-- the day of the profiles: 1 November 2023
abbrev pub profile_day : ℕ
profile_day = 1400

-- the members on that day of a register that these calls fill
unfoldable pub members_by : List Call → List (Option ℕ)
members_by calls = shares_on (entered empty_rows calls) profile_day

-- the members of a community by their shares: first those of the drawing places from 0 on, then those of the feeding places
-- from 48 on
abbrev pub members_of : List (Option ℕ) → List (Option ℕ) → List (Option ℕ)
members_of drawers feeders =
    drawers ++ (replicate (drawing - length drawers) None ++ (feeders ++ replicate (feeding - length feeders) None))

-- n1 has 40 percent, n2 30, n3 20; g1 feeds
abbrev pub lower_members : List (Option ℕ)
lower_members = members_of (Some 400000 ∷ Some 300000 ∷ Some 200000 ∷ []) (Some 0 ∷ [])

-- n4 and n5 draw; g1 and g2 feed
abbrev pub upper_members : List (Option ℕ)
upper_members = members_of (None ∷ None ∷ None ∷ Some 0 ∷ Some 0 ∷ []) (Some 0 ∷ Some 0 ∷ [])
