use Rattle.std.proofs.Common.{◌≡◌, ℕ, ◌<◌, Ok, length}
use Rattle.quantities.specs.Limits.{places}
use Rattle.quantities.specs.Rows.{maybe_at}
use Rattle.register.specs.Calls.{rows_of}
use Rattle.register.specs.Shares.{corrected_answer}
use Rattle.settle.proofs.roll.Members.on_day.Given as goal

abbrev pub invariant-loop-place : goal.invariant-loop-place
invariant-loop-place l = record {
  long : length l.corrected ≡ places;
  corrected : (k : ℕ) → k < l.place → corrected_answer (rows_of l.register) k l.day ≡ Ok (maybe_at l.corrected k);
}
