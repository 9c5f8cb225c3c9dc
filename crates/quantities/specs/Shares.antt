-- Corrected shares. Assumes nothing.
use Rattle.std.specs.Prelude.{ℕ, ◌+◌, ◌*◌, ◌/◌, ◌<◌, ◌≤◌, cond, nat_lt}
use Rattle.quantities.specs.Limits.{whole_share}

-- n / d to the nearest whole, halves up
abbrev pub nearest : ℕ → ℕ → ℕ
nearest n d = (2 * n + d) / (2 * d)

-- where the day's shares add up to more than the whole: share × 1,000,000 / total to the nearest whole, halves up;
-- otherwise the share itself
unfoldable pub corrected : ℕ → ℕ → ℕ
corrected share total = cond (nat_lt whole_share total) (nearest (share * whole_share) total) share

-- r is n / d to the nearest whole, halves up: n / d is at least r - 1/2 and below r + 1/2
pub record Nearest (n d r : ℕ) : Type 0 where
  pub not_above : 2 * d * r ≤ 2 * n + d
  pub not_below : 2 * n + d < 2 * d * (r + 1)
