-- Laws of quotients, rounded down. Assumes nothing.
use Rattle.std.proofs.Common.{◌≡◌, ℕ, zero, suc, ◌+◌, ◌*◌, ◌/◌, ◌<◌, ◌≤◌, suc-le-suc, zero-le, le_trans, mul-le-mul_right, le-div_iff_mul-le, mul-add, div-mul-le_self, mul-div_cancel, arith}
use native.Mathlib.Nat.{div-zero, add-mul-div_left, mul-div-le, lt-mul-div-succ}

-- quotients grow with the dividend
pub div_mono : (m : ℕ) {a b : ℕ} → a ≤ b → a / m ≤ b / m
div_mono zero {a} {b} h = omega (arith, div-zero a, div-zero b)
div_mono (suc m) {a} {b} h = (le-div_iff_mul-le (suc-le-suc zero-le)).1 (le_trans (div-mul-le_self a (suc m)) h)

-- of an amount up to the whole: one weight more adds at most that weight
pub div_step : (a m x w : ℕ) → a ≤ m → a * (x + w) / m ≤ a * x / m + w
div_step a zero x w h = omega (arith, div-zero (a * (x + w)))
div_step a (suc m) x w h =
    let pos : 0 < suc m = suc-le-suc zero-le in
    let up : a * (x + w) ≤ a * x + suc m * w = omega (arith, mul-add a x w, mul-le-mul_right w h) in
    let q = add-mul-div_left (a * x) w pos in
    omega (arith, div_mono (suc m) up)

-- an amount up to the whole is cut whole; where the whole is 0, there is nothing to cut
pub whole_cut : (a m : ℕ) → a ≤ m → a * m / m ≡ a
whole_cut a zero h = omega (arith, div-zero (a * 0))
whole_cut a (suc m) h = mul-div_cancel a (suc-le-suc zero-le)

-- a quotient is the exact one, rounded down
pub rounded : (x m : ℕ) → 0 < m → (m * (x / m) ≤ x) × (x < m * (x / m) + m)
rounded x m h = (mul-div-le x m, omega (arith, lt-mul-div-succ x h, mul-add m (x / m) 1))
