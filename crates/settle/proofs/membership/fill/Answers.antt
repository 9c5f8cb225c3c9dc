use Rattle.std.proofs.Common.{◌+◌, drop, sym, ap, ◌∙◌, arith}
use Rattle.std.proofs.lemmas.List.{drop_all, drop_more}
use Rattle.register.specs.Calls.{rows_of}
use Rattle.settle.specs.Filled.{entered}
use Rattle.settle.proofs.membership.fill.Goals as goal

pub loop-call-init : goal.loop-call-init
loop-call-init g c = ap (λ table. entered table c.args.calls.now) c.new-register.ensures

pub loop-call-preserved : goal.loop-call-preserved
loop-call-preserved g c =
    let calls = c.args.calls.now in
    let i = c.loop-call.call-index in
    ap (λ table. entered table (drop (i + 1) calls)) c.perform-answer.ensures.rows
    ∙ (sym (ap (entered (rows_of c.loop-call.register)) (drop_more calls i _ (omega arith))) ∙ c.loop-call.invariant)

pub returns : goal.returns
returns g c =
    let calls = c.args.calls.now in
    let none = drop_all c.loop-call.call-index calls (omega arith) in
    sym (ap (entered (rows_of c.loop-call.register)) none) ∙ c.loop-call.invariant
