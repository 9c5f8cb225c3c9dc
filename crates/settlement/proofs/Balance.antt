-- A settlement conserves, under any key that keeps its law. Assumes nothing.
use Rattle.std.proofs.Common.{◌≡◌, ℕ, suc, ◌+◌, ◌-◌, ◌<◌, ◌≤◌, min, Bool, true, false, cond, ltb, Some, None, Option, sym, refl, ap, ◌∙◌, le_trans, arith}
use native.Mathlib.Nat.{min-le_left}
use Rattle.std.proofs.lemmas.Bool.{ltb-false, lt-ltb, le-ltb, cond-true, cond-false}
use Rattle.quantities.specs.Limits.{drawing, feeding}
use Rattle.quantities.specs.Sums.{sum}
use Rattle.quantities.specs.Cut.{cut_up_to}
use Rattle.keys.specs.Keys.{KeyMeaning, KeyLaw, Within, no_sums}
use Rattle.settlement.specs.Quarter.{if_member, shares, draws, feeds, generated, sums_up_to, promised_up_to, entitlement, draw_settled, used, feed_remaining, feed_settled, settled, remaining}
use Rattle.settlement.specs.Laws.{Conserves, SettlementLaws}
use Rattle.quantities.proofs.Sums.{sum_none, sum_under, sum_same, sum_mono, sum_sub, telescope}
use Rattle.quantities.proofs.Division.{whole_cut}
use Rattle.quantities.proofs.Parts.{part_le, parts_add}

-- what a member brings less what remains of it, and what remains; or what another place keeps
kept_whole : (o : Option ℕ) (l b r : ℕ) → b ≡ if_member o l 0 → r ≤ b → (b - r) + if_member o r l ≡ l
kept_whole (Some s) l b r e h = omega arith
kept_whole None l b r e h = omega arith

sums_none : (share : ℕ → Option ℕ) (left : ℕ → ℕ) → sums_up_to share left 0 ≡ no_sums
unfolding sums_up_to
sums_none share left = λ i. record { share = sum_none (shares share) i; draw = sum_none (draws share left) i }

sums_grow : (share : ℕ → Option ℕ) (left : ℕ → ℕ) (m n : ℕ) → m ≤ n → Within (sums_up_to share left m) (sums_up_to share left n)
unfolding sums_up_to
sums_grow share left m n h =
    record { share = sum_mono (shares share) m n h; draw = sum_mono (draws share left) m n h }

module _ (key : KeyMeaning) (law : KeyLaw key) (share : ℕ → Option ℕ) (left : ℕ → ℕ) where
  pub up_to_grows : (p : ℕ) → p < drawing → promised_up_to key share left p ≤ promised_up_to key share left (suc p)
  unfolding promised_up_to
  up_to_grows p h =
      law.grows _ _ _ _ (sums_grow share left p (suc p) (omega arith)) (sums_grow share left (suc p) drawing h)

  pub up_to_none : promised_up_to key share left 0 ≡ 0
  unfolding promised_up_to
  up_to_none = ap (λ a. key (generated share left) a (sums_up_to share left drawing)) (sums_none share left) ∙ law.nothing _ _

  up_to_all : promised_up_to key share left drawing ≤ generated share left
  unfolding promised_up_to
  up_to_all = law.bounded _ _

  entitlements_le : sum (entitlement key share left) drawing ≤ generated share left
  unfolding entitlement
  entitlements_le = omega (arith, telescope (promised_up_to key share left) drawing up_to_grows, up_to_none, up_to_all)

  pub used_le : used key share left ≤ generated share left
  unfolding used draw_settled
  used_le =
      le_trans (sum_under (draw_settled key share left) (entitlement key share left) (λ p. min-le_left _ _) drawing)
      entitlements_le

  feed_le : (i : ℕ) → feed_remaining key share left i ≤ feeds share left i
  unfolding feed_remaining
  feed_le i = part_le (generated share left - used key share left) (feeds share left) (generated share left) i (omega arith)

  remainders_add : sum (feed_remaining key share left) feeding ≡ generated share left - used key share left
  unfolding feed_remaining cut_up_to generated
  remainders_add = parts_add _ _ _ feeding ∙ whole_cut _ _ (omega arith)

  fed : sum (feed_settled key share left) feeding ≡ used key share left
  unfolding feed_settled generated
  fed =
      omega (arith, sum_sub (feeds share left) (feed_remaining key share left) feed_le feeding, remainders_add, used_le)

  pub settled_drawing : (p : ℕ) → p < drawing → settled key share left p ≡ draw_settled key share left p
  unfolding settled
  settled_drawing p h = cond-true (ltb p drawing) _ _ (lt-ltb p drawing h)

  pub settled_feeding : (i : ℕ) → settled key share left (drawing + i) ≡ feed_settled key share left i
  unfolding settled
  settled_feeding i =
      cond-false (ltb (drawing + i) drawing) _ _ (le-ltb (drawing + i) drawing (omega arith)) ∙
      ap (feed_settled key share left) (omega arith)

  equal_sums : sum (settled key share left) drawing ≡ sum (λ i. settled key share left (drawing + i)) feeding
  unfolding used
  equal_sums =
      sum_same (settled key share left) (draw_settled key share left) drawing settled_drawing ∙ sym fed ∙
      sum_same (feed_settled key share left) (λ i. settled key share left (drawing + i)) feeding (λ i h. sym (settled_feeding i))

  draw_whole : (p : ℕ) → draw_settled key share left p + if_member (share p) (draws share left p - draw_settled key share left p) (left p) ≡ left p
  unfolding draw_settled draws
  draw_whole p =
      elim (share p) as (λ o. min (entitlement key share left p) (if_member o (left p) 0) + if_member o (if_member o (left p) 0 - min (entitlement key share left p) (if_member o (left p) 0)) (left p) ≡ left p)
      [ Some s ↦ omega arith | None ↦ omega arith ]

  feeds_at : (p : ℕ) → drawing ≤ p → feeds share left (p - drawing) ≡ if_member (share p) (left p) 0
  unfolding feeds
  feeds_at p h = let e : drawing + (p - drawing) ≡ p = omega arith in ap (λ q. if_member (share q) (left q) 0) e

  feed_whole : (p : ℕ) → drawing ≤ p → feed_settled key share left (p - drawing) + if_member (share p) (feed_remaining key share left (p - drawing)) (left p) ≡ left p
  unfolding feed_settled
  feed_whole p h = kept_whole (share p) (left p) _ _ (feeds_at p h) (feed_le (p - drawing))

  pub whole_place : (p : ℕ) → settled key share left p + remaining key share left p ≡ left p
  unfolding settled remaining
  whole_place p = go (ltb p drawing) refl
    where
      go : (b : Bool) → ltb p drawing ≡ b → cond b (draw_settled key share left p) (feed_settled key share left (p - drawing)) + if_member (share p) (cond b (draws share left p - draw_settled key share left p) (feed_remaining key share left (p - drawing))) (left p) ≡ left p
      go true e = draw_whole p
      go false e = feed_whole p (ltb-false p drawing e)

  drawn_le : (p : ℕ) → p < drawing → settled key share left p ≤ entitlement key share left p
  unfolding draw_settled
  drawn_le p h = rw (settled_drawing p h) (min-le_left _ _)

  conserving : Conserves left (settled key share left) (remaining key share left)
  conserving =
      record {
        whole = λ p h. whole_place p;
        settled_within = λ p h. omega (arith, whole_place p);
        remaining_within = λ p h. omega (arith, whole_place p);
        equal = equal_sums;
      }

pub settlement_laws : SettlementLaws
settlement_laws = record { entitled = entitlements_le; drawn = drawn_le; conserves = conserving }
