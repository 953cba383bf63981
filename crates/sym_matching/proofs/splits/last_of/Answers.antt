use Rattle.std.proofs.Common.{◌≡◌, List, [], ◌∷◌, ◌++◌, Option, Some, None, MatchOption, refl, sym, ap, ◌∙◌}
use Rattle.std.specs.Option.{option_map}
use Rattle.pure_terms.specs.declared.atoms.Atom.{Atom}
use Rattle.pure_terms.specs.View.{atoms_view}
use Rattle.sym_model.specs.Alternatives.{alternatives_view}
use Rattle.sym_matching.specs.Splitting.{last_of}
use Rattle.sym_matching.proofs.splits.last_of.Goals as goal

last_pushed : (xs : List (List Atom)) (x : List Atom) → last_of (alternatives_view (xs ++ x ∷ [])) ≡ Some (atoms_view x)
last_pushed [] x = refl
last_pushed (y ∷ []) x = refl
last_pushed (y ∷ z ∷ xs) x = last_pushed (z ∷ xs) x

popped : (xs ys : List (List Atom)) (o : Option (List Atom)) → MatchOption o ((xs ≡ []) × (ys ≡ [])) (λ last. xs ≡ ys ++ last ∷ []) → option_map atoms_view o ≡ last_of (alternatives_view xs)
popped xs ys None (is, rest) = ap (λ zs. last_of (alternatives_view zs)) (sym is)
popped xs ys (Some x) is = sym (last_pushed ys x) ∙ ap (λ zs. last_of (alternatives_view zs)) (sym is)

pub returns : goal.returns
returns c = popped c.args.alternatives c.pop.new.self c.pop.result c.pop.ensures
