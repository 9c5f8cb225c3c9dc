-- A quarter hour made of shares and amounts holds them. Assumes nothing.
use Rattle.std.proofs.Common.{◌≡◌, ℕ, ◌+◌, ◌<◌, ◌≤◌, List, length, map, get_or, take, drop, get_or-drop, get_or-take, None, Option, sym, ap, ◌∙◌, ⊎_elim, arith}
use Rattle.std.specs.List.{range_with_len, sum_by}
use Rattle.std.proofs.lemmas.Bool.{cases_lt}
use Rattle.std.proofs.lemmas.List.{get_or_past}
use Rattle.std.proofs.lemmas.List.FromFn.{get_or-map-range_with_len, length-map-range_with_len}
use Rattle.keys.specs.declared.sums.Sums.{Sums}
use Rattle.quantities.specs.Limits.{drawing, feeding, places}
use Rattle.quantities.specs.Sums.{sum}
use Rattle.quantities.proofs.Chains.{sum_by_all}
use Rattle.quantities.proofs.Sums.{sum_same}
use Rattle.settlement.specs.Quarter.{draws, feeds, generated, shares, sums_up_to}
use Rattle.quantities.specs.Rows.{at, maybe_at}
use Rattle.settlement.specs.Points.{brings, left_in, nobody, point_at, share_in, weight}
use Rattle.settlement.specs.declared.quarter_hour.Point.{Point}
use Rattle.settlement.specs.declared.quarter_hour.QuarterHour.{QuarterHour}

abbrev pub joined : List (Option ℕ) → List ℕ → ℕ → Point
joined shares left p = record { share = maybe_at shares p; left = at left p }

-- a list made of a function of the index, and what stands past its end
made_at : {A : Type 0} (h : ℕ → A) (n : ℕ) (xs : List A) (d : A) (p : ℕ) → xs ≡ map h (range_with_len 0 n) → (n ≤ p → h p ≡ d) → get_or xs p d ≡ h p
made_at h n xs d p made past =
    ap (λ ys. get_or ys p d) made ∙
    ⊎_elim (λ (low : p < n). get_or-map-range_with_len h 0 n p p d low (omega arith))
    (λ (high : n ≤ p). get_or_past _ p d (omega (arith, length-map-range_with_len h 0 n)) ∙ sym (past high))
    (cases_lt p n)

module _ (shares : List (Option ℕ)) (left : List ℕ) (long : length shares ≡ places) (enough : length left ≡ places) (points : List Point) (made : points ≡ map (joined shares left) (range_with_len 0 places)) where
  point_is : (p : ℕ) → get_or points p nobody ≡ joined shares left p
  point_is p =
      made_at (joined shares left) places points nobody p made
      (λ high i. record { share = get_or_past shares p None (omega arith) i; left = get_or_past left p 0 (omega arith) i })

  pub shares_held : share_in (record { points = points }) ≡ maybe_at shares
  shares_held = λ i p. (point_is p i).share

  pub left_held : left_in (record { points = points }) ≡ at left
  left_held = λ i p. (point_is p i).left

-- the points at drawing places, and what they come to
module _ (q : QuarterHour) (xs : List Point) (are : xs ≡ take drawing q.points) (long : length xs ≡ drawing) where
  pub drawing_at : (p : ℕ) → p < drawing → get_or xs p nobody ≡ point_at q p
  drawing_at p h = ap (λ ys. get_or ys p nobody) are ∙ get_or-take drawing q.points p nobody h

  over_drawing : (f : Point → ℕ) → sum_by f xs ≡ sum (λ p. f (point_at q p)) drawing
  over_drawing f = sum_by_all f xs nobody drawing long ∙ sum_same _ _ drawing (λ p h. ap f (drawing_at p h))

  pub whole_is : (s : Sums) → s.share ≡ sum_by weight xs → s.draw ≡ sum_by brings xs → s ≡ sums_up_to (share_in q) (left_in q) drawing
  unfolding sums_up_to shares draws
  whole_is s share draw = λ i. record { share = (share ∙ over_drawing weight) i; draw = (draw ∙ over_drawing brings) i }

-- those at feeding places
module _ (q : QuarterHour) (xs : List Point) (are : xs ≡ drop drawing q.points) (long : length xs ≡ feeding) where
  pub feeding_at : (i : ℕ) → get_or xs i nobody ≡ point_at q (drawing + i)
  feeding_at i = ap (λ ys. get_or ys i nobody) are ∙ get_or-drop drawing q.points i nobody

  pub generated_is : sum_by brings xs ≡ generated (share_in q) (left_in q)
  unfolding generated feeds
  generated_is = sum_by_all brings xs nobody feeding long ∙ sum_same _ _ feeding (λ i h. ap brings (feeding_at i))
