-- Laws of the running cut. Assumes nothing.
use Rattle.std.proofs.Common.{◌≡◌, ℕ, suc, ◌+◌, ◌*◌, ◌<◌, ◌≤◌, ap, ◌∙◌, mul-le-mul_left, mul-zero, mul-add, mul-div_cancel, arith}
use native.Mathlib.Nat.{zero-div}
use Rattle.quantities.specs.Sums.{sum}
use Rattle.quantities.specs.Cut.{cut_up_to, part, CutLaws}
use Rattle.quantities.proofs.Sums.{sum_none, sum_more, telescope}
use Rattle.quantities.proofs.Division.{div_mono, div_step, rounded}

pub cut_grows : (a : ℕ) (w : ℕ → ℕ) (m i : ℕ) → cut_up_to a w m i ≤ cut_up_to a w m (suc i)
unfolding cut_up_to
cut_grows a w m i = div_mono m (mul-le-mul_left a (omega (arith, sum_more w i)))

pub cut_none : (a : ℕ) (w : ℕ → ℕ) (m : ℕ) → cut_up_to a w m 0 ≡ 0
unfolding cut_up_to
cut_none a w m = rw (sum_none w, mul-zero a, zero-div m)

pub part_le : (a : ℕ) (w : ℕ → ℕ) (m i : ℕ) → a ≤ m → part a w m i ≤ w i
unfolding cut_up_to part
part_le a w m i h =
    let e : cut_up_to a w m (suc i) ≤ cut_up_to a w m i + w i = rw sum_more (div_step a m (sum w i) (w i) h) in
    omega arith

-- the first n parts together
pub parts_add : (a : ℕ) (w : ℕ → ℕ) (m n : ℕ) → sum (part a w m) n ≡ cut_up_to a w m n
unfolding part
parts_add a w m n =
    let t = telescope (cut_up_to a w m) n (λ k l. cut_grows a w m k) in
    omega (arith, cut_none a w m)

cut_adds_up : (a : ℕ) (w : ℕ → ℕ) (n : ℕ) → 0 < sum w n → sum (part a w (sum w n)) n ≡ a
unfolding cut_up_to
cut_adds_up a w n h = parts_add a w (sum w n) n ∙ mul-div_cancel a h

-- what one weight more adds to the exact amount, and to the rounded one
module _ (a : ℕ) (w : ℕ → ℕ) (m i : ℕ) where
  exact_next : a * sum w (suc i) ≡ a * sum w i + a * w i
  exact_next = ap (λ s. a * s) (sum_more w i) ∙ mul-add a (sum w i) (w i)

  rounded_next : m * cut_up_to a w m (suc i) ≡ m * cut_up_to a w m i + m * part a w m i
  unfolding part
  rounded_next =
      let e : cut_up_to a w m (suc i) ≡ cut_up_to a w m i + part a w m i = omega (arith, cut_grows a w m i) in
      ap (λ q. m * q) e ∙ mul-add m (cut_up_to a w m i) (part a w m i)

  part_not_less : 0 < m → a * w i < m * part a w m i + m
  unfolding cut_up_to
  part_not_less h =
      omega (arith, exact_next, rounded_next, (rounded (a * sum w i) m h).0, (rounded (a * sum w (suc i)) m h).1)

  part_not_more : 0 < m → m * part a w m i < a * w i + m
  unfolding cut_up_to
  part_not_more h =
      omega (arith, exact_next, rounded_next, (rounded (a * sum w i) m h).1, (rounded (a * sum w (suc i)) m h).0)

pub cut_laws : CutLaws
cut_laws =
    record { adds_up = cut_adds_up; within_weight = part_le; not_less = part_not_less; not_more = part_not_more }
