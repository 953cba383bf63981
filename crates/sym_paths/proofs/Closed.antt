-- Lists of conditions that need no literal form.
use Rattle.std.proofs.Common.{◌≡◌, List, [], ◌∷◌, ◌++◌, false, ◌||◌, refl, ◌∙◌}
use Rattle.std.proofs.lemmas.List.Folds.{list_any-append}
use Rattle.pure_terms.specs.Pure.{PureAtom}
use Rattle.sym_evaluation.proofs.AskedAtoms.{NeedsNone}
use Rattle.sym_model.specs.Lists.{Each}
use Rattle.sym_model.specs.Meaning.{is_open, has_open}

pub closed_each : (atoms : List PureAtom) → Each NeedsNone atoms → has_open atoms ≡ false
closed_each [] closed = refl
closed_each (a ∷ atoms) closed = λ i. closed.0 i || closed_each atoms closed.1 i

pub closed_both : (first second : List PureAtom) → has_open second ≡ false → has_open first ≡ false → has_open (first ++ second) ≡ false
closed_both first second other one = list_any-append is_open first second ∙ (λ i. one i || other i)
