-- A row in the words of its members: from when to when a place takes part, and with which share. Assumes nothing.
use Rattle.std.specs.Prelude.{◌≡◌, ℕ, ◌<◌, ◌≤◌, cond, List, [], ◌∷◌, ◌++◌, map, Some, None, Option, nat_le}
use Rattle.std.specs.List.{flat_map, AllByRecursion}
use Rattle.register.specs.declared.entry.Entry.{Entry}
use Rattle.register.specs.declared.entry.Entry.TheVariants.{Start, Change, End}
use Rattle.register.specs.Shares.{share_on}

-- a membership has the day and share of its start, the days and shares of its changes, and its last day,
-- none while it is open
pub record Membership : Type 0 where
  pub first : ℕ
  pub share : ℕ
  pub changes : List (ℕ × ℕ)
  pub last : Option ℕ

-- the entries that write it: a start, its changes, and an end if it has one
abbrev pub changing : List (ℕ × ℕ) → List Entry
changing changes = map (λ c. Change c.0 c.1) changes

abbrev pub ending : Option ℕ → List Entry
ending None = []
ending (Some day) = End day ∷ []

abbrev pub written : Membership → List Entry
written m = Start m.first m.share ∷ (changing m.changes ++ ending m.last)

-- it includes the days from its first to its last, or all from its first while it is open
abbrev pub Lasts : Option ℕ → ℕ → Type 0
Lasts None day = Unit {0}
Lasts (Some last) day = day ≤ last

abbrev pub Includes : Membership → ℕ → Type 0
Includes m day = (m.first ≤ day) × Lasts m.last day

-- its share on a day: the last one dated on or before it
abbrev pub latest : ℕ → ℕ → List (ℕ × ℕ) → ℕ
latest day share [] = share
latest day share (c ∷ cs) = latest day (cond (nat_le c.0 day) c.1 share) cs

abbrev pub share_in : Membership → ℕ → ℕ
share_in m day = latest day m.share m.changes

-- its changes are on later and later days after its first, and its last day is not before them
abbrev pub Ascending : ℕ → List (ℕ × ℕ) → Option ℕ → Type 0
Ascending day [] last = Lasts last day
Ascending day (c ∷ cs) last = (day < c.0) × Ascending c.0 cs last

abbrev pub InOrder : Membership → Type 0
InOrder m = Ascending m.first m.changes m.last

-- each membership but the last of a row has ended before the next one starts
abbrev pub EndedBefore : Option ℕ → List Membership → Type 0
EndedBefore last [] = Unit {0}
EndedBefore None (m ∷ ms) = ⊥
EndedBefore (Some last) (m ∷ ms) = last < m.first

abbrev pub Apart : List Membership → Type 0
Apart [] = Unit {0}
Apart (m ∷ ms) = EndedBefore m.last ms × Apart ms

-- a row falls into memberships: a day that one of them includes has that one's share, and every other day has none
pub record FallsInto (row : List Entry) (memberships : List Membership) : Type 0 where
  pub entries : row ≡ flat_map written memberships
  pub in_order : AllByRecursion InOrder memberships
  pub apart : Apart memberships
  pub inside : (day : ℕ) → AllByRecursion (λ m. Includes m day → share_on row day ≡ Some (share_in m day)) memberships
  pub outside : (day : ℕ) → AllByRecursion (λ m. Includes m day → ⊥) memberships → share_on row day ≡ None

abbrev pub MembershipsOf : List Entry → Type 0
MembershipsOf row = (memberships : List Membership) × FallsInto row memberships
