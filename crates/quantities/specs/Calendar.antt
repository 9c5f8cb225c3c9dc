-- Days and their quarter hours. Assumes nothing.
use Rattle.std.specs.Prelude.{ℕ, zero, suc, ◌+◌, Bool, cond, ◌&&◌, nat_le, nat_lt}
use Rattle.quantities.specs.Sums.{sum}
use Rattle.quantities.specs.declared.calendar.Span.{Span}

-- how many quarter hours a day has; nothing else fixes this number
unfoldable pub quarters : ℕ → ℕ
quarters day = 96

-- the quarter hours of n days from a first day on
unfoldable pub quarter_hours : ℕ → ℕ → ℕ
quarter_hours first n = sum (λ i. quarters (first + i)) n

-- the most days from a first day on, n at most, that have together no more than so many quarter hours
unfoldable pub whole_days : ℕ → ℕ → ℕ → ℕ
whole_days first count zero = 0
whole_days first count (suc n) = cond (nat_le (quarter_hours first (suc n)) count) (suc n) (whole_days first count n)

-- a quarter hour, by its day and its number on that day, is one of the span
abbrev pub covers : Span → ℕ → ℕ → Bool
covers s day quarter = nat_le s.first day && (nat_lt day (s.first + s.days) && nat_lt quarter (quarters day))
