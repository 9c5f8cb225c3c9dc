use Rattle.std.specs.Iterator.Adapters.{rev_source}
use Rattle.std.specs.Slice.Iter.{iter_rest}
use Rattle.register.specs.Rows.{entries}
use Rattle.register.proofs.Latest.{Back}
use Rattle.register.proofs.row.Row.share_on.Given as goal

abbrev pub invariant-loop-entry : goal.invariant-loop-entry
invariant-loop-entry l = record {
  can_next : (goal.iterator-loop-entry).can_next l.entry-iterator;
  is_finite : (goal.iterator-loop-entry).is_finite l.entry-iterator;
  back : Back (entries l.self) (iter_rest (rev_source l.entry-iterator)) l.day l.ended;
}
