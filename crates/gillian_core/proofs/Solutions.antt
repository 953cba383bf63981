-- The values of variables with their names, and what is known of a text that is solved.
use Rattle.std.proofs.Common.{◌≡◌, ◌+◌, ℕ, List, [], ◌∷◌, ◌++◌, length, map, take, Some, Result, Ok, Err, IfOk, IfErr, slice_get, refl}
use Rattle.std.proofs.Common.{subst, sym, ap, ◌∙◌, add-one}
use Rattle.std.proofs.lemmas.List.{length-map, map_push}
use Rattle.gil_values.specs.View.{value_view}
use Rattle.pure_terms.proofs.Evaluated.{take-push}
use Rattle.atom_text.specs.declared.sources.Declaration.{Declaration}
use Rattle.atom_text.specs.Accepted.{PureAtomText, SpellAtoms}
use Rattle.atom_text.specs.Refusals.{IsRefused}
use Rattle.gil_text.specs.declared.refused.Refused.{Refused}
use Rattle.gil_text.specs.declared.refused.RefusedKind.TheVariants as kinds
use Rattle.gillian_words.specs.Tasks.{solve}
use Rattle.gil_report.specs.declared.answers.Answer.{Answer}
use Rattle.gil_report.specs.declared.answers.Binding.{Binding}
use Rattle.gil_report.specs.Pure.{PureBinding}
use Rattle.gil_report.specs.View.{answer_view, binding_view}
use Rattle.gillian_core.specs.Finishing.{IsNoOutput}
use Rattle.gillian_core.specs.Right.{IsRightSolution, IsSolved}

-- each variable of a text has a name
pub named_variables : (bytes : List ℕ) (t : PureAtomText) → SpellAtoms bytes t → length t.names ≡ length t.vars
named_variables bytes t (source, s, says) =
    ap length (sym says.names) ∙ length-map source.declarations (λ (d : Declaration). d.name)
    ∙ sym (length-map source.declarations (λ (d : Declaration). d.sort)) ∙ ap length says.vars

pub names_seen : (bs : List Binding) → map (λ (b : PureBinding). b.name) (map binding_view bs) ≡ map (λ (b : Binding). b.name) bs
names_seen [] = refl
names_seen (b ∷ bs) = ap (λ xs. b.name ∷ xs) (names_seen bs)

pub values_seen : (bs : List Binding) → map (λ (b : PureBinding). b.value) (map binding_view bs) ≡ map (λ (b : Binding). value_view b.value) bs
values_seen [] = refl
values_seen (b ∷ bs) = ap (λ xs. value_view b.value ∷ xs) (values_seen bs)

-- one binding more, of which f sees the next of a list
pub one_more : {X : Type 0} (f : Binding → X) (bs : List Binding) (b : Binding) (all : List Binding) (xs : List X) (i : ℕ) (x : X) → all ≡ bs ++ b ∷ [] → f b ≡ x
    → slice_get xs i ≡ Some x → map f bs ≡ take i xs → map f all ≡ take (i + 1) xs
one_more f bs b all xs i x pushed seen here before =
    ap (map f) pushed ∙ map_push f bs b ∙ ap (λ ys. ys ++ f b ∷ []) before ∙ ap (λ y. take i xs ++ y ∷ []) seen
    ∙ sym (take-push xs i x here) ∙ ap (λ k. take k xs) (sym (add-one i))

-- a text of no variables and atoms is refused
pub atoms_unread : (bytes : List ℕ) (r : Refused) → ((t : PureAtomText) → SpellAtoms bytes t → r.kind ≡ kinds.Memory) → IsRefused bytes r
    → IsNoOutput solve bytes r
atoms_unread bytes r only refused = λ k. record { not_accepted = λ has. k (only has.0 has.1); kind = (k, refused) }

-- the solution of the text is that of the bytes
pub solution_known : {E F : Type 0} (bytes : List ℕ) (t : PureAtomText) → SpellAtoms bytes t → (found : Result Answer E) (r : Result Answer F)
    → IfOk r (λ x. found ≡ Ok x) → IfOk found (λ answer. IsRightSolution t (answer_view answer)) → IfOk r (λ answer. IsSolved bytes (answer_view answer))
solution_known bytes t spelled found (Ok x) is right = record {
  solved = t;
  text = spelled;
  solution = subst (λ q. IfOk q (λ answer. IsRightSolution t (answer_view answer))) is right;
}
solution_known bytes t spelled found (Err e) is right = tt
