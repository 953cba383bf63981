use Rattle.std.proofs.Common.{◌≡◌, sym, ◌∙◌, subst}
use Rattle.gil_values.specs.declared.tree.Values.{Values}
use Rattle.gil_values.specs.View.{values_view}
use Rattle.pure_terms.specs.View.{atoms_view}
use Rattle.equality_core.specs.declared.closing.Closing.{Closing}
use Rattle.equality_core.specs.Classes.{classes_view, given_list, IsClosing}
use Rattle.equality_core.specs.Equating.{EquatesNoClash}
use Rattle.equality_core.specs.Solved.{table, equalities}
use Rattle.equality_core.specs.Valued.{AreFragmentEqualities, FitNumbers, FitKinds, MayAllDiffer, MeetsApart}
use Rattle.equality_core.proofs.Answering.{not_apart}
use Rattle.equality_core.proofs.Finding.{ok_then}
use Rattle.equality_core.proofs.distinct.distinct_values.Goals as goal

pub valued-requires : goal.valued-requires
valued-requires c =
    let closed : IsClosing (atoms_view c.in_ok-list.list) (Closing.Whole c.in-Whole.classes) = subst (IsClosing (atoms_view c.in_ok-list.list)) c.in-Whole.is c.in_ok-classes.ensures in
    let same : equalities c.args.form.now ≡ given_list (classes_view c.in-Whole.classes) = sym (closed.0 ∙ c.in_ok-list.ensures) in
    record {
      taken = closed.1;
      clear = subst EquatesNoClash same (c.args.form.now.no_clash c.requires.fragment.forms);
      fragment = subst (AreFragmentEqualities (table c.args.form.now)) same c.requires.fragment;
      numbers = subst (λ l. FitNumbers (table c.args.form.now) l (values_view c.args.numbers.now)) same c.requires.numbers;
      kinds = subst (λ l. FitKinds (table c.args.form.now) l c.args.kinds.now) same c.requires.kinds;
      apart = subst (λ l. MayAllDiffer (table c.args.form.now) l c.args.kinds.now (atoms_view c.args.apart.now)) same c.requires.apart;
    }

pub returns : goal.returns
returns c =
    let closed : IsClosing (atoms_view c.in_ok-list.list) (Closing.Whole c.in-Whole.classes) = subst (IsClosing (atoms_view c.in_ok-list.list)) c.in-Whole.is c.in_ok-classes.ensures in
    let same : given_list (classes_view c.in-Whole.classes) ≡ equalities c.args.form.now = closed.0 ∙ c.in_ok-list.ensures in
    ok_then c.valued.result (λ (v : Values). MeetsApart (table c.args.form.now) (given_list (classes_view c.in-Whole.classes)) (values_view c.args.numbers.now) c.args.kinds.now (atoms_view c.args.apart.now) (values_view v))
    (λ (v : Values). MeetsApart (table c.args.form.now) (equalities c.args.form.now) (values_view c.args.numbers.now) c.args.kinds.now (atoms_view c.args.apart.now) (values_view v))
    (λ v meets. subst (λ l. MeetsApart (table c.args.form.now) l (values_view c.args.numbers.now) c.args.kinds.now (atoms_view c.args.apart.now) (values_view v)) same meets) c.valued.ensures

pub unreachable-requires : goal.unreachable-requires
unreachable-requires c =
    let closed : IsClosing (atoms_view c.in_ok-list.list) (Closing.Clash c.in-Clash.field-0) = subst (IsClosing (atoms_view c.in_ok-list.list)) c.in-Clash.is c.in_ok-classes.ensures in
    not_apart (atoms_view c.in_ok-list.list) (subst EquatesNoClash (sym c.in_ok-list.ensures) (c.args.form.now.no_clash c.requires.fragment.forms)) closed.1
