use Rattle.std.proofs.Common.{◌≡◌, ◌+◌, ◌<◌, map, length, slice_get, get_or, Some, sym, ap, ◌∙◌, subst, arith}
use Rattle.std.proofs.lemmas.List.{length-map}
use Rattle.std.proofs.lemmas.Option.{slice_get-get_or}
use Rattle.gil_values.specs.View.{value_view, values_view}
use Rattle.gil_values.proofs.Lists.{slice_get-read}
use Rattle.pure_terms.specs.declared.variables.Sort.{Sort}
use Rattle.pure_terms.specs.Naming.{names_number}
use Rattle.pure_terms.specs.Pure.{term_of}
use Rattle.pure_terms.specs.View.{atom_view, atoms_view}
use Rattle.pure_terms.proofs.NamingLaws.{list_any-map}
use Rattle.sym_test.specs.Canonical.{is_named, IsAt}
use Rattle.sym_test.proofs.Canonicals.{IsMade, IsMadeTo, made_next, made_whole, made_is_canonical, made_moderate}
use Rattle.sym_test.proofs.canonical.canonical_valuation.Goals as goal

pub loop-number-preserved : goal.loop-number-preserved
loop-number-preserved c =
    let sorts = c.as_slice-sorts.result.now in
    let values = map value_view c.as_slice-values.result.now in
    let atoms = atoms_view c.args.atoms.now in
    let i = c.loop-number.number in
    let one_each : length (values_view c.args.found.now) ≡ length c.args.vars.now = c.requires.meets.proper.one_each in
    let as_many : length values ≡ length sorts = ap length c.as_slice-values.ensures ∙ one_each ∙ sym (ap length c.as_slice-sorts.ensures) in
    let seen : length values ≡ length c.as_slice-values.result.now = length-map c.as_slice-values.result.now value_view in
    let within : i < length sorts = c.loop-number-test.true in
    let at : slice_get values i ≡ Some (value_view c.index-values-number.result) = slice_get-read value_view c.as_slice-values.result.now i c.index-values-number.result (omega (arith, as_many, seen, within)) c.index-values-number.is in
    let named : c.is_named-named.result ≡ is_named atoms i = c.is_named-named.ensures ∙ sym (list_any-map (λ a. names_number i (term_of a)) atom_view c.args.atoms.now) in
    let sort = get_or sorts i Sort.Int in
    subst (λ ws. IsMadeTo (is_named atoms) sorts values ws (i + 1) c.count-next.result) (sym c.in_ok-push.ensures.ok)
    (subst (IsMadeTo (is_named atoms) sorts values _ (i + 1)) (sym c.count-next.ensures)
    (made_next (is_named atoms) sorts values (values_view c.loop-number.chosen) i c.loop-number.next sort (value_view c.index-values-number.result) (value_view c.in_ok-choose.field-0) c.loop-number.invariant
    (slice_get-get_or sorts i Sort.Int within) at
    (subst (λ b. IsAt b c.loop-number.next sort (value_view c.index-values-number.result) (value_view c.in_ok-choose.field-0)) named c.in_ok-choose.ensures)))

pub returns : goal.returns
returns c =
    let sorts = c.as_slice-sorts.result.now in
    let values = map value_view c.as_slice-values.result.now in
    let atoms = atoms_view c.args.atoms.now in
    let one_each : length (values_view c.args.found.now) ≡ length c.args.vars.now = c.requires.meets.proper.one_each in
    let as_many : length values ≡ length sorts = ap length c.as_slice-values.ensures ∙ one_each ∙ sym (ap length c.as_slice-sorts.ensures) in
    let first : IsMade (is_named atoms) 0 sorts values (values_view c.loop-number.chosen) = made_whole (is_named atoms) sorts values (values_view c.loop-number.chosen) c.loop-number.number c.loop-number.next c.loop-number.invariant as_many c.loop-number-test.false in
    let made : IsMade (is_named atoms) 0 c.args.vars.now (values_view c.args.found.now) (values_view c.loop-number.chosen) =
    subst (λ ss. IsMade (is_named atoms) 0 ss (values_view c.args.found.now) (values_view c.loop-number.chosen)) c.as_slice-sorts.ensures
    (subst (λ vs. IsMade (is_named atoms) 0 sorts vs (values_view c.loop-number.chosen)) c.as_slice-values.ensures first) in
    record {
      canonical = made_is_canonical c.args.vars.now atoms (values_view c.args.found.now) (values_view c.loop-number.chosen) c.requires.sorts c.requires.over c.requires.meets made;
      moderate = made_moderate (is_named atoms) 0 c.args.vars.now (values_view c.args.found.now) (values_view c.loop-number.chosen) made;
    }
