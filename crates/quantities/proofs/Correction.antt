-- Laws of corrected shares. Assumes nothing.
use Rattle.std.proofs.Common.{◌≡◌, ℕ, ◌+◌, ◌*◌, ◌<◌, ◌≤◌, ltb, div-lt_iff_lt-mul, mul-le-mul_left, mul-add, arith}
use Rattle.std.proofs.lemmas.Bool.{lt-ltb, le-ltb, cond-true, cond-false}
use Rattle.quantities.specs.Limits.{whole_share}
use Rattle.quantities.specs.Shares.{nearest, corrected, Nearest}
use Rattle.quantities.proofs.Division.{rounded}

module _ (share total : ℕ) where
  pub corrected_within : total ≤ whole_share → share ≡ corrected share total
  unfolding corrected
  corrected_within h = rw (cond-false (ltb whole_share total) _ _ (le-ltb whole_share total h))

  pub corrected_above : whole_share < total → nearest (share * whole_share) total ≡ corrected share total
  unfolding corrected
  corrected_above h = rw (cond-true (ltb whole_share total) _ _ (lt-ltb whole_share total h))

  -- a correction never raises a share
  pub corrected_le : whole_share < total → nearest (share * whole_share) total ≤ share
  corrected_le h =
      let less : share * whole_share ≤ share * total = mul-le-mul_left share (omega arith) in
      let twice : (share + 1) * (2 * total) ≡ 2 * (share * total) + 2 * total = omega arith in
      let q = (div-lt_iff_lt-mul {k = 2 * total} {x = 2 * (share * whole_share) + total} {y = share + 1} (omega arith)).1 (omega arith) in
      omega arith

-- halves up: a quotient with half a divisor more in its dividend, rounded down
pub nearest_is : (n d : ℕ) → 0 < d → Nearest n d (nearest n d)
nearest_is n d h =
    let r = rounded (2 * n + d) (2 * d) (omega arith) in
    record { not_above = r.0; not_below = omega (arith, r.1, mul-add (2 * d) (nearest n d) 1) }

pub ruleset corrections = (corrected_within, corrected_above, corrected_le, nearest_is)
