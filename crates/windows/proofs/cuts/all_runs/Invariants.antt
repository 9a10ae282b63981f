use Rattle.std.proofs.Common.{◌≡◌, ◌++◌, map}
use Rattle.std.specs.Slice.Iter.{windows_rest, windows_size}
use Rattle.terms.specs.Words.{runs}
use Rattle.fixed_vec.specs.Lists.{list_of}
use Rattle.windows.specs.Values.{word_items}
use Rattle.windows.proofs.cuts.all_runs.Given as goal

abbrev pub invariant-loop-run : goal.invariant-loop-run
invariant-loop-run l = record {
  size : windows_size l.run-iterator ≡ l.order;
  split : runs l.order l.items ≡ map word_items (list_of l.windows) ++ runs l.order (windows_rest l.run-iterator);
}
