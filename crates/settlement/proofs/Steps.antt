-- The turns of the loops, and what they come to. Assumes nothing.
use Rattle.std.proofs.Common.{◌≡◌, ℕ, suc, ◌+◌, ◌-◌, ◌*◌, ◌/◌, ◌≤◌, min, List, ◌++◌, Option, sym, ap, ◌∙◌, ap₂, add-one, arith}
use Rattle.std.specs.Prelude.{sum as total}
use Rattle.quantities.specs.Limits.{drawing, feeding, places}
use Rattle.quantities.specs.Sums.{sum}
use Rattle.quantities.specs.Cut.{cut_up_to, part}
use Rattle.keys.specs.declared.sums.Sums.{Sums}
use Rattle.keys.specs.Keys.{KeyMeaning, KeyLaw}
use Rattle.settlement.specs.Quarter.{shares, draws, feeds, generated, sums_up_to, promised_up_to, entitlement, draw_settled, used, feed_remaining, feed_settled, settled, remaining}
use Rattle.settlement.specs.Laws.{Conserves}
use Rattle.quantities.specs.Rows.{at, row}
use Rattle.quantities.proofs.Sums.{sum_same}
use Rattle.settlement.proofs.Balance.{settled_drawing, settled_feeding, whole_place, settlement_laws}
use Rattle.quantities.proofs.Listed.{row_append, row_at, row_long, row_same}
use Rattle.quantities.proofs.Chains.{sum_by_all}

pub sums_are : (share : ℕ → Option ℕ) (left : ℕ → ℕ) (p s d : ℕ) → s ≡ sum (shares share) p → d ≡ sum (draws share left) p → ◌≡◌ {A = Sums} (record { share = s; draw = d }) (sums_up_to share left p)
unfolding sums_up_to
sums_are share left p s d es ed = λ i. record { share = es i; draw = ed i }

-- one turn of a loop that takes the difference of a growing function: r is its value with this turn, b before it
module _ (f : ℕ → ℕ) (i r b : ℕ) (before : b ≡ f i) (after : r ≡ f (i + 1)) where
  pub step_is : r - b ≡ f (suc i) - f i
  step_is = ap₂ ◌-◌ (after ∙ ap f (add-one i)) before

  pub step_grows : f i ≤ f (suc i) → b ≤ r
  step_grows h = omega (arith, ap f (add-one i))

-- the key's answer with a place
pub promised_next : (key : KeyMeaning) (share : ℕ → Option ℕ) (left : ℕ → ℕ) (p P : ℕ) (n w : Sums) (a : ℕ) → P ≡ generated share left → n ≡ sums_up_to share left (p + 1) → w ≡ sums_up_to share left drawing → a ≡ key P n w → a ≡ promised_up_to key share left (p + 1)
unfolding promised_up_to
promised_next key share left p P n w a eP en ew e = e ∙ (λ i. key (eP i) (en i) (ew i))

-- what the weights have with a weight
pub cut_next : (a : ℕ) (w : ℕ → ℕ) (m i t r : ℕ) → t ≡ sum w (i + 1) → r ≡ a * t / m → r ≡ cut_up_to a w m (i + 1)
unfolding cut_up_to
cut_next a w m i t r et er = er ∙ ap (λ x. a * x / m) et

-- the rows after the loops
module _ (key : KeyMeaning) (law : KeyLaw key) (share : ℕ → Option ℕ) (left : ℕ → ℕ) where
  -- what the drawing places settle, with the entitlements in a row
  pub drawn_row : (es ds : List ℕ) → es ≡ row drawing (entitlement key share left) → ds ≡ row drawing (λ p. min (at es p) (draws share left p)) → ds ≡ row drawing (draw_settled key share left)
  unfolding draw_settled
  drawn_row es ds e d =
      row_same drawing _ _ ds d (λ p h. ap (λ x. min x (draws share left p)) (row_at drawing (entitlement key share left) es e p h))

  pub used_is : (ds : List ℕ) (u : ℕ) → ds ≡ row drawing (draw_settled key share left) → u ≡ total ds → u ≡ used key share left
  unfolding used
  used_is ds u d e =
      e ∙ sum_by_all (λ x. x) ds 0 drawing (row_long drawing _ ds d) ∙ sum_same _ _ drawing (row_at drawing (draw_settled key share left) ds d)

  -- what all places settle, the drawing ones before the feeding ones
  pub settled_rows : (ds fs : List ℕ) (u : ℕ) → ds ≡ row drawing (draw_settled key share left) → u ≡ used key share left → fs ≡ row feeding (λ i. feeds share left i - part (generated share left - u) (feeds share left) (generated share left) i) → ds ++ fs ≡ row places (settled key share left)
  unfolding feed_settled feed_remaining
  settled_rows ds fs u d e f =
      row_append drawing feeding _ _ (settled key share left) ds fs d f (λ p h. sym (settled_drawing key law share left p h))
      (λ k h. (λ i. feeds share left k - part (generated share left - e i) (feeds share left) (generated share left) k) ∙ sym (settled_feeding key law share left k))

  -- a row of what is left less what is settled
  pub remaining_row_lem : (xs ys : List ℕ) → xs ≡ row places (settled key share left) → ys ≡ row places (λ p. left p - at xs p) → ys ≡ row places (remaining key share left)
  remaining_row_lem xs ys ex ey =
      row_same places _ (remaining key share left) ys ey
      (λ p h. omega (arith, row_at places (settled key share left) xs ex p h, whole_place key law share left p))

  -- what holds of the functions holds of their rows
  pub conserves_rows : (xs ys : List ℕ) → xs ≡ row places (settled key share left) → ys ≡ row places (remaining key share left) → Conserves left (at xs) (at ys)
  conserves_rows xs ys ex ey =
      let law' = settlement_laws.conserves key law share left in
      let x = row_at places (settled key share left) xs ex in
      let y = row_at places (remaining key share left) ys ey in
      record {
        whole = λ p h. omega (arith, x p h, y p h, law'.whole p h);
        settled_within = λ p h. omega (arith, x p h, law'.settled_within p h);
        remaining_within = λ p h. omega (arith, y p h, law'.remaining_within p h);
        equal =
            sum_same (at xs) (settled key share left) drawing (λ p h. x p (omega arith)) ∙ law'.equal ∙
            sym (sum_same (λ i. at xs (drawing + i)) (λ i. settled key share left (drawing + i)) feeding (λ i h. x (drawing + i) (omega arith)));
      }
