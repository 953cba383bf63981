use Rattle.std.proofs.Common.{◌≡◌, ◌+◌, length, ap, ◌∙◌, arith}
use Rattle.std.specs.Vec.Iter.{into_iter_items}
use Rattle.gil_syntax.proofs.ProgramLemmas.{next_is_new, made_more, read_more}
use Rattle.gil_syntax.proofs.program.procs_by_name.Goals as goal

pub loop-proc-preserved-in_ok-insert : goal.loop-proc-preserved-in_ok-insert
loop-proc-preserved-in_ok-insert c =
    let longer : length (into_iter_items c.loop-proc.proc-iterator) ≡ length (into_iter_items c.next.new.self) + 1 = ap length c.in-Some.ensures.steps.0 ∙ omega arith in
    let rest = read_more c.args.procs c.loop-proc.yielded (into_iter_items c.loop-proc.proc-iterator) (into_iter_items c.next.new.self) c.in-Some.proc c.loop-proc.invariant.rest c.in-Some.ensures.steps.0 in
    record {
      counted = omega (arith, longer, c.in-Some.ensures.steps.1, c.loop-proc.invariant.counted);
      rest = rest;
      made = made_more c.loop-proc.by_name c.insert.new.self.entries c.loop-proc.yielded c.in-Some.proc c.in_ok-name.name c.in_ok-insert.ensures.entries c.in_ok-name.ensures c.loop-proc.invariant.made
          (next_is_new c.args.procs c.loop-proc.yielded (into_iter_items c.next.new.self) c.in-Some.proc c.requires rest);
    }

pub loop-proc-preserved : goal.loop-proc-preserved
loop-proc-preserved c =
    let longer : length (into_iter_items c.loop-proc.proc-iterator) ≡ length (into_iter_items c.next.new.self) + 1 = ap length c.in-Some.ensures.steps.0 ∙ omega arith in
    let rest = read_more c.args.procs c.loop-proc.yielded (into_iter_items c.loop-proc.proc-iterator) (into_iter_items c.next.new.self) c.in-Some.proc c.loop-proc.invariant.rest c.in-Some.ensures.steps.0 in
    record {
      counted = omega (arith, longer, c.in-Some.ensures.steps.1, c.loop-proc.invariant.counted);
      rest = rest;
      made = made_more c.loop-proc.by_name c.insert.new.self.entries c.loop-proc.yielded c.in-Some.proc c.in_ok-name.name c.in_ok-insert.ensures.entries c.in_ok-name.ensures c.loop-proc.invariant.made
          (next_is_new c.args.procs c.loop-proc.yielded (into_iter_items c.next.new.self) c.in-Some.proc c.requires rest);
    }
