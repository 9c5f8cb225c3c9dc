-- The running cut: an amount divided over weights in order, with a whole that is at least their sum. Assumes nothing.
use Rattle.std.specs.Prelude.{◌≡◌, ℕ, suc, ◌+◌, ◌-◌, ◌*◌, ◌/◌, ◌<◌, ◌≤◌}
use Rattle.quantities.specs.Sums.{sum}

-- what the first i weights have of the amount, rounded down; a quotient by 0 is 0
unfoldable pub cut_up_to : ℕ → (ℕ → ℕ) → ℕ → ℕ → ℕ
cut_up_to amount weight whole i = amount * sum weight i / whole

-- the part of weight i, counted from 0
unfoldable pub part : ℕ → (ℕ → ℕ) → ℕ → ℕ → ℕ
part amount weight whole i = cut_up_to amount weight whole (suc i) - cut_up_to amount weight whole i

pub record CutLaws : Type 0 where
  -- where the whole is the sum of the weights, the parts are together the amount
  pub adds_up : (amount : ℕ) (weight : ℕ → ℕ) (n : ℕ) → 0 < sum weight n → sum (part amount weight (sum weight n)) n ≡ amount
  -- of an amount up to the whole, no part is above its weight
  pub within_weight : (amount : ℕ) (weight : ℕ → ℕ) (whole i : ℕ) → amount ≤ whole → part amount weight whole i ≤ weight i
  -- a part differs from its exact proportion, amount × weight / whole, by less than 1
  pub not_less : (amount : ℕ) (weight : ℕ → ℕ) (whole i : ℕ) → 0 < whole → amount * weight i < whole * part amount weight whole i + whole
  pub not_more : (amount : ℕ) (weight : ℕ → ℕ) (whole i : ℕ) → 0 < whole → whole * part amount weight whole i < amount * weight i + whole
