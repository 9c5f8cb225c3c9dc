-- Rows, place by place. Assumes nothing.
use Rattle.std.proofs.Common.{◌≡◌, ℕ, ◌+◌, ◌-◌, ◌<◌, ◌≤◌, List, ◌++◌, length, ap, ◌∙◌, ⊎_elim, arith, length-append}
use Rattle.std.proofs.lemmas.Bool.{cases_lt}
use Rattle.std.proofs.lemmas.List.{get_or_append_left, get_or-append_right}
use Rattle.std.proofs.lemmas.List.FromFn.{get_or-map-range_with_len, length-map-range_with_len, fill_by_all}
use Rattle.quantities.specs.Rows.{at, row}

-- the number of a row at a place
pub row_at : (n : ℕ) (f : ℕ → ℕ) (xs : List ℕ) → xs ≡ row n f → (p : ℕ) → p < n → at xs p ≡ f p
unfolding row
row_at n f xs e p h = ap (λ ys. at ys p) e ∙ get_or-map-range_with_len f 0 n p p 0 h (omega arith)

-- a list with a row's numbers is the row
pub row_from : (n : ℕ) (f : ℕ → ℕ) (xs : List ℕ) → length xs ≡ n → ((p : ℕ) → p < n → at xs p ≡ f p) → xs ≡ row n f
unfolding row
row_from n f xs l h = fill_by_all f xs n 0 l h

pub row_long : (n : ℕ) (f : ℕ → ℕ) (xs : List ℕ) → xs ≡ row n f → length xs ≡ n
unfolding row
row_long n f xs e = ap length e ∙ length-map-range_with_len f 0 n

-- rows of equal numbers
pub row_same : (n : ℕ) (f g : ℕ → ℕ) (xs : List ℕ) → xs ≡ row n f → ((p : ℕ) → p < n → f p ≡ g p) → xs ≡ row n g
unfolding row
row_same n f g xs e h =
    row_from n g xs (row_long n f xs e) (λ p l. row_at n f xs e p l ∙ h p l)

-- one row after another
pub row_append : (m n : ℕ) (f g h : ℕ → ℕ) (xs ys : List ℕ) → xs ≡ row m f → ys ≡ row n g → ((p : ℕ) → p < m → f p ≡ h p) → ((i : ℕ) → i < n → g i ≡ h (m + i)) → xs ++ ys ≡ row (m + n) h
row_append m n f g h xs ys ex ey front back =
    let long = row_long m f xs ex in
    row_from (m + n) h (xs ++ ys) (omega (arith, length-append xs ys, long, row_long n g ys ey))
    (λ p low.
    ⊎_elim (λ (l : p < m). get_or_append_left xs ys 0 p (omega arith) ∙ row_at m f xs ex p l ∙ front p l)
    (λ (l : m ≤ p).
    let i = p - m in
    let same : m + i ≡ p = omega arith in
    get_or-append_right xs ys m p 0 long l ∙ row_at n g ys ey i (omega arith) ∙ back i (omega arith) ∙ ap h same)
    (cases_lt p m))
