-- The callee is found by its name.
use Rattle.std.proofs.Common.{◌≡◌, Some, None, length, codes, refl, sym, ap, subst, ◌∙◌}
use Rattle.std.proofs.lemmas.Bool.{false_from_ne_true}
use Rattle.std.proofs.lemmas.Bool.Decides.{Decides-eqb}
use Rattle.std.proofs.lemmas.List.{length-map}
use Rattle.std.specs.Option.{option_map}
use Rattle.gil_values.specs.Pure.{procedure, text}
use Rattle.gil_values.specs.View.{value_view, values_view}
use Rattle.gil_syntax.specs.Programs.{find_proc}
use Rattle.gil_syntax.specs.View.{proc_view}
use Rattle.gil_syntax.specs.Program.{prog_view}
use Rattle.gil_machine.specs.SlotNames.{name_at}
use Rattle.gil_machine.specs.Standing.{place_of, Comes, slots_of}
use Rattle.gil_machine.proofs.Outcomes.{enters, misses_arity, proc_seen, fails_here}
use Rattle.gil_machine.proofs.Placed.{found_name}
use Rattle.gil_machine.proofs.control.Control.begin.Goals as goal

pub returns-in_ok-enter-in-Some-clause-does : goal.returns-in_ok-enter-in-Some-clause-does
returns-in_ok-enter-in-Some-clause-does c = λ s stands.
    let called : value_view c.args.called.now ≡ procedure c.in-Proc.proc = ap value_view c.in-Proc.is ∙ proc_seen c.in-Proc.proc in
    let found : find_proc (prog_view c.args.prog.now.prog.now).procs c.in-Proc.proc ≡ Some (proc_view c.in-Some.proc.now.proc.now) = sym c.proc.ensures.found ∙ ap (option_map (λ q. proc_view q.now.proc.now)) c.in-Some.is in
    let same : find_proc (prog_view c.args.prog.now.prog.now).procs c.in-Some.proc.now.proc.now.name ≡ Some (proc_view c.in-Some.proc.now.proc.now)
    = ap (find_proc (prog_view c.args.prog.now.prog.now).procs) (found_name (prog_view c.args.prog.now.prog.now).procs c.in-Proc.proc (proc_view c.in-Some.proc.now.proc.now) found) ∙ found in
    let wide : c.len.result ≡ length c.in-Some.proc.now.proc.now.params = c.len.ensures in
    let long : length (values_view c.args.args.now) ≡ length c.as_slice.result.now = sym (ap length c.as_slice.ensures) ∙ length-map c.as_slice.result.now value_view in
    let goes = c.in_ok-enter-in-Some.ensures.goes (prog_view c.args.prog.now.prog.now) s stands same in
    subst (λ r. Comes (prog_view c.args.prog.now.prog.now) None r None c.enter.new.self s.heap) (sym (enters (prog_view c.args.prog.now.prog.now) (name_at (slots_of c.args.self.now) c.args.slot) c.args.handler (values_view c.args.args.now) (place_of c.args.self.now c.args.at) s _ c.in-Proc.proc (proc_view c.in-Some.proc.now.proc.now) called found ((Decides-eqb (length (values_view c.args.args.now)) (length c.in-Some.proc.now.proc.now.params)).1 (long ∙ sym c.if-len-as_slice.true ∙ wide)))) goes

pub returns-in_ok-failure-in-Some-2-clause-does : goal.returns-in_ok-failure-in-Some-2-clause-does
returns-in_ok-failure-in-Some-2-clause-does c = λ s stands.
    let called : value_view c.args.called.now ≡ procedure c.in-Proc.proc = ap value_view c.in-Proc.is ∙ proc_seen c.in-Proc.proc in
    let found : find_proc (prog_view c.args.prog.now.prog.now).procs c.in-Proc.proc ≡ Some (proc_view c.in-Some.proc.now.proc.now) = sym c.proc.ensures.found ∙ ap (option_map (λ q. proc_view q.now.proc.now)) c.in-Some.is in
    let long : length (values_view c.args.args.now) ≡ length c.as_slice.result.now = sym (ap length c.as_slice.ensures) ∙ length-map c.as_slice.result.now value_view in
    subst (λ r. Comes (prog_view c.args.prog.now.prog.now) None r (Some c.in_ok-failure-in-Some-2.field-0) c.args.self.now s.heap) (sym (misses_arity (prog_view c.args.prog.now.prog.now) (name_at (slots_of c.args.self.now) c.args.slot) c.args.handler (values_view c.args.args.now) (place_of c.args.self.now c.args.at) s _ c.in-Proc.proc (proc_view c.in-Some.proc.now.proc.now) called found (false_from_ne_true _ (λ e. c.if-len-as_slice.false (c.len.ensures ∙ sym ((Decides-eqb (length (values_view c.args.args.now)) (length c.in-Some.proc.now.proc.now.params)).0 e) ∙ long)))))
    (fails_here (prog_view c.args.prog.now.prog.now) (text (codes "arity")) (place_of c.args.self.now c.args.at) s c.in_ok-failure-in-Some-2.field-0 c.args.self.now s.heap c.in_ok-failure-in-Some-2.ensures stands refl)
