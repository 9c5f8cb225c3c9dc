-- What a chain's sum and an array made by a function are, item by item. Assumes nothing.
use Rattle.std.proofs.Common.{◌≡◌, ℕ, zero, suc, ◌+◌, ◌<◌, ◌≤◌, List, length, get_or, map, take, sym, ap, ◌∙◌, subst, add-one, arith}
use Rattle.std.specs.Array.{IsFromFnResult, IsFromFnResultFrom, IsMapOf, MapsFrom}
use Rattle.std.specs.Fn.{Called, Mut}
use Rattle.std.specs.List.{range_with_len, sum_by}
use Rattle.std.proofs.lemmas.List.{get_or-map, length-map, same_lists, take_all}
use Rattle.std.proofs.lemmas.List.FromFn.{fill_by_all, get_or-map-range_with_len, length-map-range_with_len}
use Rattle.std.proofs.lemmas.List.Sums.{sum_by_more}
use Rattle.quantities.specs.Rows.{row}
use Rattle.quantities.specs.Sums.{sum}
use Rattle.quantities.proofs.Sums.{sum_none, sum_more}

-- a chain's sum over the first items of a list
pub sum_by_first : {A : Type 0} (f : A → ℕ) (xs : List A) (d : A) (n : ℕ) → n ≤ length xs → sum_by f (take n xs) ≡ sum (λ i. f (get_or xs i d)) n
sum_by_first f xs d zero h = sym (sum_none _)
sum_by_first f xs d (suc n) h =
    omega (arith, ap (λ k. sum_by f (take k xs)) (add-one n), sum_by_more f xs n d (omega arith), sum_by_first f xs d n (omega arith), sum_more (λ i. f (get_or xs i d)) n)

pub sum_by_all : {A : Type 0} (f : A → ℕ) (xs : List A) (d : A) (n : ℕ) → length xs ≡ n → sum_by f xs ≡ sum (λ i. f (get_or xs i d)) n
sum_by_all f xs d n h = ap (sum_by f) (sym (take_all n xs (omega arith))) ∙ sum_by_first f xs d n (omega arith)

-- an array made by a closure that stays as it is and gives h of each index
module _ {F A : Type 0} (g : Mut F (ℕ × Unit {0}) A) (f : F) (h : ℕ → A) where
  each_from_fn : (ys : List A) (i n : ℕ) (p : F) → p ≡ f → ((k : ℕ) (y : A) (q : F) → k < i + n → Called g f (k, tt) y q → (q ≡ f) × (y ≡ h k)) → IsFromFnResultFrom g p ys i n → (k : ℕ) (d : A) → k < n → get_or ys (i + k) d ≡ h (i + k)
  each_from_fn ys i zero p same gives made k d low = absurd (omega arith)
  each_from_fn ys i (suc n) p same gives (q, y, at, called, rest) zero d low =
      ap (λ j. get_or ys j d) (omega arith) ∙ at.1 d ∙ (gives i y q (omega arith) (subst (λ s. Called g s (i, tt) y q) same called)).1 ∙ ap h (omega arith)
  each_from_fn ys i (suc n) p same gives (q, y, at, called, rest) (suc k) d low =
      let kept = (gives i y q (omega arith) (subst (λ s. Called g s (i, tt) y q) same called)).0 in
      let next : i + suc k ≡ (i + 1) + k = omega arith in
      ap (λ j. get_or ys j d) next ∙ each_from_fn ys (i + 1) n q kept (λ k y q low. gives k y q (omega arith)) rest k d (omega arith) ∙ ap h (sym next)

  pub map_from_fn : (ys : List A) (n : ℕ) (d : A) → IsFromFnResult g f ys n → ((k : ℕ) (y : A) (q : F) → k < n → Called g f (k, tt) y q → (q ≡ f) × (y ≡ h k)) → ys ≡ map h (range_with_len 0 n)
  map_from_fn ys n d made gives =
      fill_by_all h ys n d made.long
      (λ k low. ap (λ j. get_or ys j d) (omega arith) ∙ each_from_fn ys 0 n f (λ i. f) (λ k y q low. gives k y q (omega arith)) made.each k d low ∙ ap h (omega arith))

-- what a function gives of each item, by the item or by its index
pub map_by_index : {A B : Type 0} (f : A → B) (xs : List A) (d : A) (n : ℕ) → length xs ≡ n → map (λ k. f (get_or xs k d)) (range_with_len 0 n) ≡ map f xs
map_by_index {B = B} f xs d n long =
    let of : ℕ → B = λ k. f (get_or xs k d) in
    same_lists (map of (range_with_len 0 n)) (map f xs)
    (length-map-range_with_len of 0 n ∙ sym long ∙ sym (length-map xs f))
    (λ k e low.
    let inside : k < n = omega (arith, length-map-range_with_len of 0 n) in
    get_or-map-range_with_len of 0 n k k e inside (omega arith) ∙ sym (get_or-map f xs k d e (omega (arith, long))))

-- the same of numbers, as a row
pub row_from_fn : {F : Type 0} {g : Mut F (ℕ × Unit {0}) ℕ} {f : F} (ys : List ℕ) (n : ℕ) (h : ℕ → ℕ) → IsFromFnResult g f ys n → ((k : ℕ) (y : ℕ) (q : F) → k < n → Called g f (k, tt) y q → (q ≡ f) × (y ≡ h k)) → ys ≡ row n h
unfolding row
row_from_fn {g = g} {f = f} ys n h made gives = map_from_fn g f h ys n 0 made gives

-- an array made by a map of another
module _ {F A B : Type 0} (g : Mut F (A × Unit {0}) B) (f : F) (h : A → B) (gives : (x : A) (y : B) (q : F) → Called g f (x, tt) y q → (q ≡ f) × (y ≡ h x)) where
  each_mapped : (xs : List A) (ys : List B) (i n : ℕ) (p : F) → p ≡ f → MapsFrom g p xs ys i n → (k : ℕ) (d : A) (e : B) → k < n → get_or ys (i + k) e ≡ h (get_or xs (i + k) d)
  each_mapped xs ys i zero p same made k d e low = absurd (omega arith)
  each_mapped xs ys i (suc n) p same (q, x, y, from, to, called, rest) zero d e low =
      ap (λ j. get_or ys j e) (omega arith)
      ∙ to.1 e
      ∙ (gives x y q (subst (λ s. Called g s (x, tt) y q) same called)).1
      ∙ ap h (sym (from.1 d))
      ∙ ap (λ j. h (get_or xs j d)) (omega arith)
  each_mapped xs ys i (suc n) p same (q, x, y, from, to, called, rest) (suc k) d e low =
      let kept = (gives x y q (subst (λ s. Called g s (x, tt) y q) same called)).0 in
      let next : i + suc k ≡ (i + 1) + k = omega arith in
      ap (λ j. get_or ys j e) next ∙ each_mapped xs ys (i + 1) n q kept rest k d e (omega arith) ∙ ap (λ j. h (get_or xs j d)) (sym next)

  pub map_from_map : (xs : List A) (ys : List B) (n : ℕ) (d : A) → length xs ≡ n → IsMapOf g f xs ys n → ys ≡ map h xs
  map_from_map xs ys n d long made =
      same_lists ys (map h xs) (made.long ∙ sym long ∙ sym (length-map xs h))
      (λ k e low. ap (λ j. get_or ys j e) (omega arith)
      ∙ each_mapped xs ys 0 n f (λ i. f) made.each k d e (omega (arith, made.long))
      ∙ ap (λ j. h (get_or xs j d)) (omega arith)
      ∙ sym (get_or-map h xs k d e (omega (arith, made.long))))
