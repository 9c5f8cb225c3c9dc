-- Laws of days and their quarter hours. Assumes nothing.
use Rattle.std.proofs.Common.{◌≡◌, ℕ, zero, suc, ◌+◌, ◌-◌, ◌*◌, ◌/◌, ◌<◌, ◌≤◌, min, true, ◌&&◌, ltb, leb, ap, arith}
use Rattle.std.proofs.lemmas.Bool.{cond_both, leb-true, leb-false, ltb-true, and_parts}
use Rattle.std.proofs.lemmas.Nat.{le-div, div_below}
use Rattle.quantities.specs.Calendar.{quarters, quarter_hours, whole_days, covers}
use Rattle.quantities.specs.declared.calendar.Span.{Span}
use Rattle.quantities.proofs.Sums.{sum_none, sum_more, sum_mono}

pub quarter_hours_none : (first : ℕ) → quarter_hours first 0 ≡ 0
unfolding quarter_hours
quarter_hours_none first = sum_none _

pub quarter_hours_more : (first n : ℕ) → quarter_hours first (suc n) ≡ quarter_hours first n + quarters (first + n)
unfolding quarter_hours
quarter_hours_more first n = sum_more _ n

pub quarter_hours_mono : (first a b : ℕ) → a ≤ b → quarter_hours first a ≤ quarter_hours first b
unfolding quarter_hours
quarter_hours_mono first a b h = sum_mono _ a b h

-- What follows, up to the laws of today's days, is what a meter source over a table will ask.

-- the days are no more than the limit, and have no more than so many quarter hours
pub whole_days_le : (first count n : ℕ) → whole_days first count n ≤ n
unfolding whole_days
whole_days_le first count zero = omega arith
whole_days_le first count (suc n) =
    cond_both (leb (quarter_hours first (suc n)) count) (suc n) (whole_days first count n) (λ d. d ≤ suc n) (λ e. omega arith)
    (λ e. let h = whole_days_le first count n in omega arith)

pub whole_days_held : (first count n : ℕ) → quarter_hours first (whole_days first count n) ≤ count
unfolding whole_days
whole_days_held first count zero = omega (arith, quarter_hours_none first)
whole_days_held first count (suc n) =
    cond_both (leb (quarter_hours first (suc n)) count) (suc n) (whole_days first count n) (λ d. quarter_hours first d ≤ count)
    (λ e. leb-true _ _ e) (λ e. whole_days_held first count n)

-- what the test of a quarter hour tells
pub record Within (s : Span) (day quarter : ℕ) : Type 0 where
  pub from : s.first ≤ day
  pub to : day < s.first + s.days
  pub has : quarter < quarters day

pub within : (s : Span) (day quarter : ℕ) → covers s day quarter ≡ true → Within s day quarter
within s day quarter e =
    let a = and_parts (leb s.first day) (ltb day (s.first + s.days) && ltb quarter (quarters day)) e in
    let b = and_parts (ltb day (s.first + s.days)) (ltb quarter (quarters day)) a.1 in
    record { from = leb-true _ _ a.0; to = ltb-true _ _ b.0; has = ltb-true _ _ b.1 }

-- a quarter hour of the span has its place among the quarter hours of the span's days
pub before_day : (first count n day quarter : ℕ) → covers (record { first = first; days = whole_days first count n }) day quarter ≡ true → quarter_hours first (day - first) + quarter < count
before_day first count n day quarter e =
    let w = within (record { first = first; days = whole_days first count n }) day quarter e in
    let d = day - first in
    let at : first + d ≡ day = omega (arith, w.from) in
    let same = ap quarters at in
    let more = quarter_hours_more first d in
    let mono = quarter_hours_mono first (suc d) (whole_days first count n) (omega (arith, w.to, w.from)) in
    omega (arith, whole_days_held first count n, w.has)

-- today every day has 96
pub quarter_hours_is : (first n : ℕ) → quarter_hours first n ≡ 96 * n
unfolding quarters
quarter_hours_is first zero = omega (arith, quarter_hours_none first)
quarter_hours_is first (suc n) = let h = quarter_hours_is first n in omega (arith, quarter_hours_more first n)

pub whole_days_is : (first count n : ℕ) → whole_days first count n ≡ min (count / 96) n
unfolding whole_days
whole_days_is first count zero = omega arith
whole_days_is first count (suc n) =
    cond_both (leb (quarter_hours first (suc n)) count) (suc n) (whole_days first count n) (λ d. d ≡ min (count / 96) (suc n))
    (λ e. let a = leb-true _ _ e in
    let b = quarter_hours_is first (suc n) in
    let c : suc n ≤ count / 96 = le-div (suc n) count 96 (omega arith) (omega arith) in
    omega arith)
    (λ e. let a = leb-false _ _ e in
    let b = quarter_hours_is first (suc n) in
    let c : count / 96 < suc n = div_below count 96 (suc n) (omega arith) (omega arith) in
    let h = whole_days_is first count n in
    omega arith)
