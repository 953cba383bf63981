use Rattle.std.proofs.Common.{◌≡◌, ◌++◌, map, length}
use Rattle.std.specs.Vec.Iter.{into_iter_len, into_iter_items}
use Rattle.gil_syntax.proofs.program.procs_by_name.Given as goal

abbrev pub invariant-loop-proc : goal.invariant-loop-proc
invariant-loop-proc l = record {
  counted : into_iter_len l.proc-iterator ≡ length (into_iter_items l.proc-iterator);
  rest : l.fn.procs ≡ l.yielded ++ into_iter_items l.proc-iterator;
  made : l.by_name.entries ≡ map (λ q. (q.name, q)) l.yielded;
}
