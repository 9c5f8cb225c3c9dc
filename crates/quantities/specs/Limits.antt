-- The limits. Assumes nothing.
use Rattle.std.specs.Prelude.{ℕ}

-- the largest reading of a quarter hour, in watt hours
abbrev pub reading_limit : ℕ
reading_limit = 4000000

-- 100 percent, as a share: shares count ten-thousandths of a percent
abbrev pub whole_share : ℕ
whole_share = 1000000

-- the last day; day 0 is 1 January 2020
abbrev pub last_day : ℕ
last_day = 36523

-- places 0 to 47 draw, places 48 to 63 feed
abbrev pub drawing : ℕ
drawing = 48

abbrev pub feeding : ℕ
feeding = 16

abbrev pub places : ℕ
places = 64
