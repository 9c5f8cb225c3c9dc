-- Laws of finite sums. Assumes nothing.
use Rattle.std.proofs.Common.{◌≡◌, ℕ, zero, suc, ◌+◌, ◌-◌, ◌*◌, ◌<◌, ◌≤◌, refl, ap, ⊎_elim, le_trans, le_of_suc-le-suc, mul-suc, add-one, arith}
use Rattle.quantities.specs.Sums.{sum}
use Rattle.std.proofs.lemmas.Bool.{cases_lt}

pub sum_none : (f : ℕ → ℕ) → sum f 0 ≡ 0
unfolding sum
sum_none f = refl

pub sum_more : (f : ℕ → ℕ) (n : ℕ) → sum f (suc n) ≡ sum f n + f n
unfolding sum
sum_more f n = refl

-- a loop that adds one more
pub sum_next : (f : ℕ → ℕ) (n t x : ℕ) → t ≡ sum f n → x ≡ f n → t + x ≡ sum f (n + 1)
sum_next f n t x e h = omega (arith, ap (sum f) (add-one n), sum_more f n)

-- equal terms, equal sums
pub sum_same : (f g : ℕ → ℕ) (n : ℕ) → ((k : ℕ) → k < n → f k ≡ g k) → sum f n ≡ sum g n
unfolding sum
sum_same f g zero h = refl
sum_same f g (suc n) h =
    let a = sum_same f g n (λ k l. h k (omega arith)) in
    let b = h n (omega arith) in
    omega arith

-- terms of 0
pub sum_zero : (f : ℕ → ℕ) (n : ℕ) → ((k : ℕ) → k < n → f k ≡ 0) → sum f n ≡ 0
unfolding sum
sum_zero f zero h = refl
sum_zero f (suc n) h = omega (arith, sum_zero f n (λ k l. h k (omega arith)), h n (omega arith))

-- no term above the other's
pub sum_under : (f g : ℕ → ℕ) → ((k : ℕ) → f k ≤ g k) → (n : ℕ) → sum f n ≤ sum g n
sum_under f g h zero = omega (arith, sum_none f)
sum_under f g h (suc n) = omega (arith, sum_more f n, sum_more g n, h n, sum_under f g h n)

-- no term above a bound
pub sum_bound : (f : ℕ → ℕ) (b n : ℕ) → ((k : ℕ) → k < n → f k ≤ b) → sum f n ≤ b * n
sum_bound f b zero h = omega (arith, sum_none f)
sum_bound f b (suc n) h =
    omega (arith, sum_more f n, h n (omega arith), sum_bound f b n (λ k l. h k (omega arith)), mul-suc b n)

-- fewer terms
pub sum_mono : (f : ℕ → ℕ) (m n : ℕ) → m ≤ n → sum f m ≤ sum f n
sum_mono f m zero h = let e : m ≡ 0 = omega arith in omega (arith, ap (sum f) e)
sum_mono f m (suc n) h =
    ⊎_elim (λ (l : m < suc n). le_trans (sum_mono f m n (le_of_suc-le-suc l)) (omega (arith, sum_more f n)))
    (λ (l : suc n ≤ m). let e : m ≡ suc n = omega arith in omega (arith, ap (sum f) e))
    (cases_lt m (suc n))

-- sums of sums
pub sum_plus : (f g : ℕ → ℕ) (n : ℕ) → sum (λ k. f k + g k) n ≡ sum f n + sum g n
sum_plus f g zero = omega (arith, sum_none (λ k. f k + g k), sum_none f, sum_none g)
sum_plus f g (suc n) = omega (arith, sum_more (λ k. f k + g k) n, sum_more f n, sum_more g n, sum_plus f g n)

-- differences
pub sum_sub : (f g : ℕ → ℕ) → ((k : ℕ) → g k ≤ f k) → (n : ℕ) → sum (λ k. f k - g k) n + sum g n ≡ sum f n
sum_sub f g h zero = omega (arith, sum_none (λ k. f k - g k), sum_none f, sum_none g)
sum_sub f g h (suc n) =
    omega (arith, sum_more (λ k. f k - g k) n, sum_more f n, sum_more g n, sum_sub f g h n, h n)

-- a growing function by its steps
pub telescope : (f : ℕ → ℕ) (n : ℕ) → ((k : ℕ) → k < n → f k ≤ f (suc k)) → sum (λ k. f (suc k) - f k) n + f 0 ≡ f n
telescope f zero h = omega (arith, sum_none (λ k. f (suc k) - f k))
telescope f (suc n) h =
    let ih = telescope f n (λ k l. h k (omega arith)) in
    let e = h n (omega arith) in
    omega (arith, sum_more (λ k. f (suc k) - f k) n)
