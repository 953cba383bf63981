-- The pure data of terms, atoms and answers.
use Rattle.std.specs.Prelude.{List, map}
use Rattle.gil_values.specs.View.{values_view}
use Rattle.pure_terms.specs.declared.terms.Term.{Term, fold-Term}
use Rattle.pure_terms.specs.declared.terms.Terms.{Terms, fold-Terms}
use Rattle.pure_terms.specs.declared.terms.Term.TheOpen.{Term-F, Terms-F}
use Rattle.pure_terms.specs.declared.atoms.Atom.{Atom}
use Rattle.pure_terms.specs.declared.deciders.Decision.{Decision}
use Rattle.pure_terms.specs.Deciding.{PureDecision, sat, unsat, unknown}
use Rattle.pure_terms.specs.Pure.{PureTerm, literal, variable, list_of, unary_of, binary_of, from_list, PureAtom, positive, negative, opening}

-- one level of a term, with each part already seen as its pure data
abbrev pub term_step : Term-F PureTerm (List PureTerm) → PureTerm
term_step (Term-F.Lit l) = literal l
term_step (Term-F.Var x) = variable x
term_step (Term-F.List ts) = list_of (from_list ts)
term_step (Term-F.Op1 op t) = unary_of op t.value
term_step (Term-F.Op2 op s t) = binary_of op s.value t.value

abbrev pub terms_step : Terms-F PureTerm (List PureTerm) → List PureTerm
terms_step ts = ts.items.items

abbrev pub term_view : Term → PureTerm
term_view = fold-Term PureTerm (List PureTerm) term_step terms_step

abbrev pub terms_view : Terms → List PureTerm
terms_view = fold-Terms PureTerm (List PureTerm) term_step terms_step

abbrev pub atom_view : Atom → PureAtom
atom_view (Atom.Holds t) = positive (term_view t)
atom_view (Atom.Not t) = negative (term_view t)
atom_view (Atom.Open t) = opening (term_view t)

abbrev pub atoms_view : List Atom → List PureAtom
atoms_view atoms = map atom_view atoms

abbrev pub decision_view : Decision → PureDecision
decision_view (Decision.Sat v) = sat (values_view v)
decision_view Decision.Unsat = unsat
decision_view (Decision.Unknown reason) = unknown reason
