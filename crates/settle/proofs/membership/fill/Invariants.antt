use Rattle.std.proofs.Common.{◌≡◌, drop}
use Rattle.register.specs.Calls.{empty_rows, rows_of}
use Rattle.settle.specs.Filled.{entered}
use Rattle.settle.proofs.membership.fill.Given as goal

abbrev pub invariant-loop-call : goal.invariant-loop-call
invariant-loop-call g l = entered (rows_of l.register) (drop l.call-index l.calls) ≡ entered empty_rows l.calls
