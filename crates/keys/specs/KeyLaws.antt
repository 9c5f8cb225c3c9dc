-- The two keys keep the law of keys. Assumes nothing.
use Rattle.std.specs.Prelude.{◌≡◌, ℕ, ◌≤◌, min, max, Bool, true, false, cond, refl}
use Rattle.std.proofs.Common.{zero-le, le_trans, le_of_eq, mul-zero, mul-le-mul_left, mul_comm}
use Rattle.std.proofs.Math.Nat.{zero-div, div-le_of_le-mul, le-max_left, min-le_left}
use Rattle.std.proofs.lemmas.Bool.{cond_both, le-leb}
use Rattle.quantities.specs.Limits.{whole_share}
use Rattle.quantities.proofs.Division.{div_mono}
use Rattle.keys.specs.declared.sums.Sums.{Sums}
use Rattle.keys.specs.Keys.{KeyLaw, Within, no_sums, in_range, static, dynamic}

-- a bound on a number, or 0, under one test
cond_le : (b c : Bool) (x y : ℕ) → b ≡ c → x ≤ y → cond b x 0 ≤ cond c y 0
cond_le b c x y e h = rw e (at c)
  where
    at : (c : Bool) → cond c x 0 ≤ cond c y 0
    at true = h
    at false = zero-le

-- below the wholes the range asks nothing of the running sums
same_range : (P : ℕ) (a b whole : Sums) → Within a b → Within b whole → in_range P a whole ≡ in_range P b whole
same_range P a b whole h k =
    rw (le-leb a.share whole.share (le_trans h.share k.share), le-leb a.draw whole.draw (le_trans h.draw k.draw), le-leb b.share whole.share k.share, le-leb b.draw whole.draw k.draw)

pub static_law : KeyLaw static
static_law =
    record {
      nothing = λ P whole. cond_both (in_range P no_sums whole) _ 0 (λ n. n ≡ 0) (λ _. rw (mul-zero P, zero-div (max whole.share whole_share))) (λ _. refl);
      grows =
          λ P a b whole h k.
          cond_le (in_range P a whole) (in_range P b whole) _ _ (same_range P a b whole h k)
          (div_mono (max whole.share whole_share) (mul-le-mul_left P h.share));
      bounded =
          λ P whole.
          cond_both (in_range P whole whole) _ 0 (λ n. n ≤ P)
          (λ _.
          div-le_of_le-mul (max whole.share whole_share)
          (le_trans (mul-le-mul_left P (le-max_left whole.share whole_share)) (le_of_eq (mul_comm P (max whole.share whole_share)))))
          (λ _. zero-le);
    }

pub dynamic_law : KeyLaw dynamic
dynamic_law =
    record {
      nothing = λ P whole. cond_both (in_range P no_sums whole) _ 0 (λ n. n ≡ 0) (λ _. rw (mul-zero (min P whole.draw), zero-div whole.draw)) (λ _. refl);
      grows =
          λ P a b whole h k.
          cond_le (in_range P a whole) (in_range P b whole) _ _ (same_range P a b whole h k)
          (div_mono whole.draw (mul-le-mul_left (min P whole.draw) h.draw));
      bounded =
          λ P whole.
          cond_both (in_range P whole whole) _ 0 (λ n. n ≤ P)
          (λ _. le_trans (div-le_of_le-mul whole.draw (le_of_eq (mul_comm (min P whole.draw) whole.draw))) (min-le_left P whole.draw))
          (λ _. zero-le);
    }
