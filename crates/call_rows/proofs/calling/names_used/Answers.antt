use Rattle.std.proofs.Common.{◌++◌, ◌∷◌, [], take, sym, ap, subst, ◌∙◌}
use Rattle.std.proofs.lemmas.List.{take_all}
use Rattle.gil_syntax.specs.Program.{prog_view}
use Rattle.sym_model.specs.Lists.{Each}
use Rattle.sym_paths.specs.View.{path_view, paths_view}
use Rattle.sym_unfolding.proofs.AddLaws.{map_more}
use Rattle.call_rows.specs.Calling.{AreNamed, IsUnspecified, name_of}
use Rattle.call_rows.proofs.CallLaws.{named_last}
use Rattle.call_rows.proofs.Unspecified.{names_none}
use Rattle.call_rows.proofs.UsesLaws.{called_last, none_called}
use Rattle.call_rows.specs.Uses.{NamesCalled}
use Rattle.call_rows.proofs.calling.names_used.Goals as goal

pub loop-path-preserved : goal.loop-path-preserved
loop-path-preserved g c =
    let p = prog_view c.args.prog.now in
    let xs = c.as_slice-path-items.result.now in
    let i = c.loop-path.path-index in
    let q = path_view c.path-item.result in
    let grown = c.in_ok-names.ensures ∙ ap (λ o. c.loop-path.names ++ name_of o) c.used_by.ensures in
    let seen = map_more path_view xs i c.path-item.result c.loop-path-test.true c.path-item.is in
    record {
      named = subst (λ qs. AreNamed p c.in_ok-names.names qs) (sym seen)
          (subst (λ names. AreNamed p names (paths_view (take i xs) ++ q ∷ [])) (sym grown) (named_last p c.loop-path.names (paths_view (take i xs)) q c.loop-path.invariant.named));
      called = subst (λ qs. NamesCalled p c.in_ok-names.names qs) (sym seen)
          (subst (λ names. NamesCalled p names (paths_view (take i xs) ++ q ∷ [])) (sym grown) (called_last p c.loop-path.names (paths_view (take i xs)) q c.loop-path.invariant.called));
      only = λ all. names_none p c.loop-path.names c.in_ok-names.names (paths_view (take i xs)) q c.loop-path.invariant.only grown (subst (Each (IsUnspecified p)) seen all);
    }

pub loop-path-init : goal.loop-path-init
loop-path-init g c = record {
  named = tt;
  called = none_called {S = g.row.M.Denot} (prog_view c.args.prog.now) _ [] c.new-names.ensures;
  only = λ all. c.new-names.ensures;
}

pub returns-clause-named : goal.returns-clause-named
returns-clause-named g c =
    subst (λ qs. AreNamed (prog_view c.args.prog.now) c.loop-path.names (paths_view qs)) (take_all c.loop-path.path-index c.as_slice-path-items.result.now c.loop-path-test.false ∙ c.as_slice-path-items.ensures) c.loop-path.invariant.named

pub returns-clause-called : goal.returns-clause-called
returns-clause-called g c =
    subst (λ qs. NamesCalled (prog_view c.args.prog.now) c.loop-path.names (paths_view qs)) (take_all c.loop-path.path-index c.as_slice-path-items.result.now c.loop-path-test.false ∙ c.as_slice-path-items.ensures) c.loop-path.invariant.called

pub returns-clause-only : goal.returns-clause-only
returns-clause-only g c all =
    c.loop-path.invariant.only (subst (λ qs. Each (IsUnspecified (prog_view c.args.prog.now)) (paths_view qs)) (sym (take_all c.loop-path.path-index c.as_slice-path-items.result.now c.loop-path-test.false ∙ c.as_slice-path-items.ensures)) all)
