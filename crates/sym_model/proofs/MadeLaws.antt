-- What terms are made of: the terms that are given, and the elements of list terms among them.
use Rattle.std.proofs.Common.{◌≡◌, ⊎_elim, inl, List, Option, sym, true≢false}
use Rattle.pure_terms.specs.declared.variables.Var.{Var}
use Rattle.pure_terms.specs.Pure.{PureTerm, literal, variable, list_of, unary_of, binary_of, PureTerms, no_terms, term_and, to_list}
use Rattle.sym_model.specs.Lists.{Each}
use Rattle.sym_model.specs.Terms.{IsListed, IsMadeOf, AreMadeOf}
use Rattle.sym_model.proofs.Listed.{listed_elements}
use Rattle.sym_model.proofs.ListLaws.{each_to}

pub made_of_given : (given : List PureTerm) (fresh : Option Var) (t : PureTerm) → IsListed given t → IsMadeOf given fresh t
made_of_given given fresh (literal k) listed = tt
made_of_given given fresh (variable x) listed = inl listed
made_of_given given fresh (list_of ts) listed = inl (inl listed)
made_of_given given fresh (unary_of op t) listed = inl listed
made_of_given given fresh (binary_of op s t) listed = inl (inl listed)

made_elements : (given : List PureTerm) (fresh : Option Var) (ts : PureTerms) → AreMadeOf given fresh ts → Each (IsMadeOf given fresh) (to_list ts)
made_elements given fresh no_terms made = tt
made_elements given fresh (term_and t ts) made = (made.0, made_elements given fresh ts made.1)

no_list_variable : (ts : PureTerms) (x : Var) → list_of ts ≡ variable x → ⊥
no_list_variable ts x e = cc

pub elements_made : (given : List PureTerm) (fresh : Option Var) (ts : PureTerms) → IsMadeOf given fresh (list_of ts) → Each (IsMadeOf given fresh) (to_list ts)
elements_made given fresh ts made =
    ⊎_elim
    (λ part. ⊎_elim
    (λ listed. each_to (IsListed given) (IsMadeOf given fresh) (to_list ts) (made_of_given given fresh) (listed_elements given ts listed))
    (λ other_part. ⊎_elim (λ is_lit. absurd (true≢false (sym is_lit))) (λ (x, (is, e)). absurd (no_list_variable ts x e)) other_part)
    part)
    (made_elements given fresh ts)
    made
