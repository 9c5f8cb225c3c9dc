-- Keys: how much of the generation is promised to the members up to a place. Assumes nothing.
use Rattle.std.specs.Prelude.{◌≡◌, ℕ, ◌*◌, ◌/◌, ◌≤◌, min, max, Bool, cond, ◌&&◌, nat_le}
use Rattle.quantities.specs.Limits.{reading_limit, whole_share, drawing, feeding}
use Rattle.keys.specs.declared.sums.Sums.{Sums}

-- from the generation, the running sums and their wholes
abbrev pub KeyMeaning : Type 0
KeyMeaning = ℕ → Sums → Sums → ℕ

abbrev pub no_sums : Sums
no_sums = record { share = 0; draw = 0 }

-- no running sum is above the other's
pub record Within (a b : Sums) : Type 0 where
  pub share : a.share ≤ b.share
  pub draw : a.draw ≤ b.draw

-- what every key keeps, for all numbers
pub record KeyLaw (promised : KeyMeaning) : Type 0 where
  -- nobody, nothing
  pub nothing : (P : ℕ) (whole : Sums) → promised P no_sums whole ≡ 0
  -- more members, no less, up to the wholes
  pub grows : (P : ℕ) (a b whole : Sums) → Within a b → Within b whole → promised P a whole ≤ promised P b whole
  -- all members together, no more than there is
  pub bounded : (P : ℕ) (whole : Sums) → promised P whole whole ≤ P

-- the most that the feeding places feed, and that the drawing places have in shares and draw
abbrev pub generation_limit : ℕ
generation_limit = feeding * reading_limit

abbrev pub share_sum_limit : ℕ
share_sum_limit = drawing * whole_share

abbrev pub draw_sum_limit : ℕ
draw_sum_limit = drawing * reading_limit

-- the numbers for which the keys below answer at all
abbrev pub in_range : ℕ → Sums → Sums → Bool
in_range P running whole =
    nat_le running.share whole.share && nat_le running.draw whole.draw && nat_le P generation_limit
    && nat_le whole.share share_sum_limit && nat_le whole.draw draw_sum_limit

-- by the shares: P × running share / M, where M is the whole share, or 1,000,000 where that is larger
abbrev pub static : KeyMeaning
static P running whole = cond (in_range P running whole) (P * running.share / max whole.share whole_share) 0

-- by the draws: what can be used, × running draw / whole draw; a quotient by 0 is 0
abbrev pub dynamic : KeyMeaning
dynamic P running whole = cond (in_range P running whole) (min P whole.draw * running.draw / whole.draw) 0
