-- What a metering point counts with, and what a quarter hour holds and comes to. Assumes nothing.
use Rattle.std.specs.Prelude.{ℕ, ◌-◌, List, None, Option, slice_index_or}
use Rattle.keys.specs.Keys.{KeyMeaning}
use Rattle.keys.specs.declared.sums.Sums.{Sums}
use Rattle.quantities.specs.Cut.{part}
use Rattle.quantities.specs.Limits.{drawing, feeding, places}
use Rattle.quantities.specs.Optional.{or_zero}
use Rattle.quantities.specs.Rows.{row}
use Rattle.settlement.specs.Quarter.{draws, entitlement, feeds, generated, if_member, remaining, settled, sums_up_to}
use Rattle.settlement.specs.declared.quarter_hour.Point.{Point}
use Rattle.settlement.specs.declared.quarter_hour.QuarterHour.{QuarterHour}

-- the share that a point counts with
abbrev pub weight : Point → ℕ
weight point = or_zero point.share

-- what it draws or feeds
abbrev pub brings : Point → ℕ
brings point = if_member point.share point.left 0

-- a point past the last place: no member, with nothing left
abbrev pub nobody : Point
nobody = record { share = None; left = 0 }

abbrev pub point_at : QuarterHour → ℕ → Point
point_at q p = slice_index_or q.points p nobody

-- by place: the share, and what the place has left
abbrev pub share_in : QuarterHour → ℕ → Option ℕ
share_in q p = (point_at q p).share

abbrev pub left_in : QuarterHour → ℕ → ℕ
left_in q p = (point_at q p).left

-- its generation, the whole sums of its drawing members, its draws and its feeds
abbrev pub generation_of : QuarterHour → ℕ
generation_of q = generated (share_in q) (left_in q)

abbrev pub whole_of : QuarterHour → Sums
whole_of q = sums_up_to (share_in q) (left_in q) drawing

abbrev pub draws_of : QuarterHour → ℕ → ℕ
draws_of q = draws (share_in q) (left_in q)

abbrev pub feeds_of : QuarterHour → ℕ → ℕ
feeds_of q = feeds (share_in q) (left_in q)

-- under a key, by place: the entitlements of the drawing places, what every place settles, and what remains with it
abbrev pub entitled_row : KeyMeaning → QuarterHour → List ℕ
entitled_row key q = row drawing (entitlement key (share_in q) (left_in q))

abbrev pub settled_row : KeyMeaning → QuarterHour → List ℕ
settled_row key q = row places (settled key (share_in q) (left_in q))

abbrev pub remaining_row : KeyMeaning → QuarterHour → List ℕ
remaining_row key q = row places (remaining key (share_in q) (left_in q))

-- what the feeding places settle where the drawing ones have used so much: their feeds, less their parts of the surplus
abbrev pub fed_with : QuarterHour → ℕ → List ℕ
fed_with q used = row feeding (λ i. feeds_of q i - part (generation_of q - used) (feeds_of q) (generation_of q) i)
