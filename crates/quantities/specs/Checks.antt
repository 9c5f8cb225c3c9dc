-- Refusals in checking order. Assumes nothing.
use Rattle.std.specs.Prelude.{Bool, cond, List, [], ◌∷◌, Ok, Err, Result}

-- the first fault that is found, in the order of the list, or the answer where there is none
abbrev pub unless : {A E : Type 0} → List (E × Bool) → A → Result A E
unless [] a = Ok a
unless (fault ∷ faults) a = cond fault.1 (Err fault.0) (unless faults a)

-- one thing after an accepted call, another after a refused one
abbrev pub if_accepted : {A B E : Type 0} → Result A E → B → B → B
if_accepted (Ok a) then otherwise = then
if_accepted (Err e) then otherwise = otherwise
