use Rattle.std.proofs.Common.{◌≡◌, true, false, sym, ◌∙◌, true≢false}
use Rattle.std.specs.List.{list_all}
use Rattle.std.proofs.lemmas.List.Folds.{list_all-map}
use Rattle.pure_terms.specs.Fragment.{has_fragment_form, has_narrow_literals}
use Rattle.pure_terms.specs.View.{atom_view, atoms_view}
use Rattle.pure_terms.proofs.fragment.in_fragment.Goals as goal

pub returns-then-not-have_fragment_forms : goal.returns-then-not-have_fragment_forms
returns-then-not-have_fragment_forms c =
    let lacking : list_all has_fragment_form (atoms_view c.args.atoms.now) ≡ false = list_all-map has_fragment_form atom_view c.args.atoms.now ∙ sym c.have_fragment_forms.ensures ∙ c.if-not-have_fragment_forms.true in
    (λ never. absurd (true≢false (sym never)), λ within. absurd (true≢false (sym within.forms ∙ lacking)))

pub returns-then-not-have_narrow_literals : goal.returns-then-not-have_narrow_literals
returns-then-not-have_narrow_literals c =
    let lacking : list_all has_narrow_literals (atoms_view c.args.atoms.now) ≡ false = list_all-map has_narrow_literals atom_view c.args.atoms.now ∙ sym c.have_narrow_literals.ensures ∙ c.if-not-have_narrow_literals.true in
    (λ never. absurd (true≢false (sym never)), λ within. absurd (true≢false (sym within.literals ∙ lacking)))

pub returns : goal.returns
returns c =
    let forms : list_all has_fragment_form (atoms_view c.args.atoms.now) ≡ true = list_all-map has_fragment_form atom_view c.args.atoms.now ∙ sym c.have_fragment_forms.ensures ∙ c.if-not-have_fragment_forms.false in
    let literals : list_all has_narrow_literals (atoms_view c.args.atoms.now) ≡ true = list_all-map has_narrow_literals atom_view c.args.atoms.now ∙ sym c.have_narrow_literals.ensures ∙ c.if-not-have_narrow_literals.false in
    (λ few. record { forms = forms; literals = literals; few_variables = c.name_few_variables.ensures.0 few }, λ within. c.name_few_variables.ensures.1 within.few_variables)
