-- A register's rows as lists: the row of a place, one row changed, and what an acceptance says. Assumes nothing.
use Rattle.std.proofs.Common.{◌≡◌, ℕ, ◌<◌, true, false, List, [], ◌∷◌, ◌++◌, map, length, get_or, replicate, set, Ok, sym, ap, ◌∙◌, subst, ⊎_elim, arith}
use Rattle.std.proofs.lemmas.List.{get_or-map, get_or-replicate, get_or-set_other, get_or-set_same, length-map, length-set, map-set}
use Rattle.std.proofs.lemmas.Bool.{cases_eq}
use Rattle.std.proofs.lemmas.Bool.Decides.{nat_tests}
use Rattle.quantities.specs.Limits.{places}
use Rattle.register.specs.Calls.{answer, row_of, rows_of, with_entry}
use Rattle.register.specs.Effects.{TakesEffect}
use Rattle.register.specs.Rows.{entries, follows, full, lawful, stands, within}
use Rattle.register.specs.declared.entry.Entry.{Entry}
use Rattle.register.specs.declared.register.Register.{Register}
use Rattle.register.specs.declared.row.Row.{Row}
use Rattle.register.proofs.Effect.{takes_effect}
use Rattle.register.proofs.Order.{lawful_push}

-- a row to read past the end of a table
pub no_row : Row
no_row = record { items = []; len = 0; few = omega arith }

pub row_is : (rows : List Row) (place : ℕ) (d : Row) → place < length rows → entries (get_or rows place d) ≡ row_of (map entries rows) place
row_is rows place d h = sym (get_or-map entries rows place d [] h)

-- each row of a new table
pub each_new : (n : ℕ) (row : Row) → entries row ≡ [] → (place : ℕ) (d : Row) → place < n → lawful place (entries (get_or (replicate n row) place d)) ≡ true
each_new n row none place d low =
    ap (λ r. lawful place (entries r)) (get_or-replicate n place row d low) ∙ ap (lawful place) none

-- what holds of each row by its place holds after one row has changed
each_set : (P : ℕ → Row → Type 0) (rows : List Row) (i : ℕ) (r : Row) → ((k : ℕ) (d : Row) → k < length rows → P k (get_or rows k d)) → P i r → (k : ℕ) (d : Row) → k < length (set rows i r) → P k (get_or (set rows i r) k d)
each_set P rows i r each new k d h =
    let inside : k < length rows = simp length-set at h in
    ⊎_elim
    (λ same. subst (λ (j : ℕ). P j (get_or (set rows i r) j d)) (sym same)
    (subst (P i) (sym (get_or-set_same rows i r d (subst (λ (j : ℕ). j < length rows) same inside))) new))
    (λ other. subst (P k) (sym (get_or-set_other rows i k r d other)) (each k d inside))
    (cases_eq k i)

-- what an accepted entry has passed
record Accepted (table : List (List Entry)) (place : ℕ) (entry : Entry) : Type 0 where
  pub low : place < places
  pub limits : within place entry ≡ true
  pub free : full entry (length (row_of table place)) ≡ false
  pub next : follows (stands (row_of table place)) entry ≡ true

accepted : (table : List (List Entry)) (place : ℕ) (entry : Entry) → answer table place entry ≡ Ok tt → Accepted table place entry
accepted table place entry ok = record {
  low = grind (arith, nat_tests);
  limits = grind (arith, nat_tests);
  free = grind (arith, nat_tests);
  next = grind (arith, nat_tests);
}

-- the rows of a register after one more entry at a place
pub record Entered (register : Register) (place : ℕ) (entry : Entry) (rows : List Row) : Type 0 where
  pub whole : length rows ≡ places
  pub order : (k : ℕ) (d : Row) → k < length rows → lawful k (entries (get_or rows k d)) ≡ true
  pub table : map entries rows ≡ with_entry (rows_of register) place entry
  pub effect : TakesEffect entry (row_of (rows_of register) place) (row_of (map entries rows) place)

module _ (register : Register) (place : ℕ) (entry : Entry) (ok : answer (rows_of register) place entry ≡ Ok tt) (d : Row) where
  abbrev rows : List Row
  rows = register.rows

  abbrev before : List Entry
  before = entries (get_or rows place d)

  passed : Accepted (rows_of register) place entry
  passed = accepted (rows_of register) place entry ok

  inside : place < length rows
  inside = omega (arith, passed.low, register.whole)

  is : before ≡ row_of (rows_of register) place
  is = row_is rows place d inside

  free : full entry (length before) ≡ false
  free = rw is passed.free

  next : follows (stands before) entry ≡ true
  next = rw is passed.next

  order : lawful place before ≡ true
  order = register.order place d inside

  module _ (row : Row) (items : entries row ≡ entries (get_or register.rows place d) ++ entry ∷ []) where
    pub order_after : (k : ℕ) (e : Row) → k < length (set rows place row) → lawful k (entries (get_or (set rows place row) k e)) ≡ true
    order_after = each_set (λ k r. lawful k (entries r) ≡ true) rows place row register.order
        (ap (lawful place) items ∙ lawful_push place before entry order free next passed.limits)

    pub rows_after : map entries (set rows place row) ≡ with_entry (rows_of register) place entry
    rows_after = map-set entries rows place row ∙ ap (set (rows_of register) place) (items ∙ ap (λ es. es ++ entry ∷ []) is)

    row_after : row_of (map entries (set rows place row)) place ≡ row_of (rows_of register) place ++ entry ∷ []
    row_after =
        let there : place < length (rows_of register) = omega (arith, inside, length-map rows entries) in
        ap (λ table. row_of table place) rows_after ∙ get_or-set_same (rows_of register) place _ [] there

    entered_there : Entered register place entry (set register.rows place row)
    entered_there = record {
      whole = length-set rows place row ∙ register.whole;
      order = order_after;
      table = rows_after;
      effect = subst (TakesEffect entry (row_of (rows_of register) place)) (sym row_after) (takes_effect (row_of (rows_of register) place) entry passed.next);
    }

-- an entry that the register accepts, pushed on the row at an index that is the place
pub entered : (register : Register) (place i : ℕ) (entry : Entry) → i ≡ place → answer (rows_of register) place entry ≡ Ok tt → (d row : Row) → entries row ≡ entries (get_or register.rows i d) ++ entry ∷ [] → Entered register place entry (set register.rows i row)
entered register place i entry same ok =
    subst (λ (j : ℕ). (d row : Row) → entries row ≡ entries (get_or register.rows j d) ++ entry ∷ [] → Entered register place entry (set register.rows j row)) (sym same) (entered_there register place entry ok)
