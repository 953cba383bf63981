-- What holds of the atoms of a list, and passes to elements, holds of the atoms that the classes add.
use Rattle.std.proofs.Common.{◌≡◌, ⊎_elim, ℕ, zero, suc, ◌+◌, ◌-◌, ◌≤◌, List, [], ◌∷◌, ◌++◌, length, true, false, not, Option, Some, None, slice_get, refl, sym, ap, ◌∙◌, subst, arith}
use Rattle.std.specs.Prelude.{IsSomeAnd}
use Rattle.std.specs.Option.{option_and_then}
use Rattle.std.proofs.lemmas.Bool.{and_parts, and_from, or_right, or_parts, not-true, not_from_false, both_ways, cases_lt}
use Rattle.std.proofs.lemmas.Option.{same_Some, option_and_then_some}
use Rattle.gil_values.specs.declared.operators.BinOp.{BinOp}
use Rattle.pure_terms.specs.declared.variables.Sort.{Sort}
use Rattle.gil_values.specs.Pure.{PureValue}
use Rattle.pure_terms.specs.EqualityLaws.{same_sorts}
use Rattle.pure_terms.specs.Kinds.{same_sort}
use Rattle.pure_terms.specs.Fragment.{is_simple, names_sort, name_sort, is_variable_of}
use Rattle.pure_terms.specs.Pure.{PureTerm, literal, variable, list_of, unary_of, binary_of, PureTerms, no_terms, term_and, to_list, PureAtom, positive, negative, opening}
use Rattle.pure_terms.proofs.VariableLaws.{slice_get-append}
use Rattle.solver_proof.specs.Chains.{equals, truth_term, Sides, equality_of, either_sides, unless_kind_fact}
use Rattle.solver_proof.specs.Closing.{HaveOneLength, Lists, lists_of, lists_of_terms, equal_sides_of, equal_lists_at, element_equalities}
use Rattle.solver_proof.proofs.Growing.{found_right}
use Rattle.equality_core.specs.Classes.{PureClasses, given_list, IsOpened}
use Rattle.equality_core.proofs.Exact.{plain_sides}
use Rattle.equality_core.proofs.Saying.{SaysEqual, SaysTruth, says, plain}
use Rattle.equality_core.proofs.Taking.{IsElement}
use Rattle.solver_rules.specs.Rules.{IsMet, AreDone}
use Rattle.solver_rules.specs.declared.rules.Rule.{Rule}
use Rattle.solver_rules.specs.Steps.{IsPlainAtom, ArePlain, IsNode}
use Rattle.solver_rules.proofs.Meeting.{AreAllMet}
use Rattle.solver_rules.proofs.Plain.{sides_of, element_side, equality_plain}

element_at : (ts us : PureTerms) (k : ℕ) (a : PureAtom) → slice_get (element_equalities ts us) k ≡ Some a → IsElement ts us k a
element_at no_terms us k a at = cc
element_at (term_and t ts) no_terms k a at = cc
element_at (term_and t ts) (term_and u us) zero a at = record { left = t; right = u; at_left = refl; at_right = refl; is = sym (same_Some (positive (equals t u)) a at) }
element_at (term_and t ts) (term_and u us) (suc k) a at =
    let rest = element_at ts us k a at in
    record { left = rest.left; right = rest.right; at_left = rest.at_left; at_right = rest.at_right; is = rest.is }

lists_terms : (s t : PureTerm) (lists : Lists) → lists_of_terms s t ≡ Some lists → equals s t ≡ equals (list_of lists.left) (list_of lists.right)
lists_terms (list_of ts) (list_of us) lists is = ap (λ (l : Lists). equals (list_of l.left) (list_of l.right)) (same_Some (record { left = ts; right = us }) lists is)
lists_terms (list_of ts) (literal l) lists is = cc
lists_terms (list_of ts) (variable x) lists is = cc
lists_terms (list_of ts) (unary_of op u) lists is = cc
lists_terms (list_of ts) (binary_of op u w) lists is = cc
lists_terms (literal l) t lists is = cc
lists_terms (variable x) t lists is = cc
lists_terms (unary_of op u) t lists is = cc
lists_terms (binary_of op u w) t lists is = cc

lists_atom_of : (a : PureAtom) (lists : Lists) → lists_of (equal_sides_of a) ≡ Some lists → a ≡ positive (equals (list_of lists.left) (list_of lists.right))
lists_atom_of (positive (binary_of BinOp.Equal s t)) lists is = ap positive (lists_terms s t lists is)
lists_atom_of (positive t) lists is = cc
lists_atom_of (negative t) lists is = cc
lists_atom_of (opening t) lists is = cc

lists_atom : (atoms : List PureAtom) (p : ℕ) (lists : Lists) → equal_lists_at atoms p ≡ Some lists → slice_get atoms p ≡ Some (positive (equals (list_of lists.left) (list_of lists.right)))
lists_atom atoms p lists is = by_cases (slice_get atoms p) refl where
  by_cases : (o : Option PureAtom) → slice_get atoms p ≡ o → slice_get atoms p ≡ Some (positive (equals (list_of lists.left) (list_of lists.right)))
  by_cases (Some a) at = at ∙ ap Some (lists_atom_of a lists (ap (λ o. lists_of (option_and_then equal_sides_of o)) (sym at) ∙ is))
  by_cases None at = let e : None ≡ Some lists = ap (λ o. lists_of (option_and_then equal_sides_of o)) (sym at) ∙ is in cc

module _ (P : PureAtom → Type 0) (elements : (ts us : PureTerms) (j : ℕ) (s t : PureTerm) → P (positive (equals (list_of ts) (list_of us))) → slice_get (to_list ts) j ≡ Some s → slice_get (to_list us) j ≡ Some t → P (positive (equals s t))) where
  more_all : (atoms : List PureAtom) (ts us : PureTerms) → P (positive (equals (list_of ts) (list_of us))) → ((i : ℕ) (a : PureAtom) → slice_get atoms i ≡ Some a → P a) → (i : ℕ) (a : PureAtom) → slice_get (atoms ++ element_equalities ts us) i ≡ Some a → P a
  more_all atoms ts us whole all i a at = ⊎_elim (λ below. all i a (sym (slice_get-append atoms (element_equalities ts us) i below) ∙ at)) (λ past. new past) (cases_lt i (length atoms)) where
    apart : length atoms ≤ i → i ≡ length atoms + (i - length atoms)
    apart h = omega (arith, h)

    new : length atoms ≤ i → P a
    new past =
        let element = element_at ts us (i - length atoms) a (sym (found_right atoms (element_equalities ts us) i (i - length atoms) (apart past)) ∙ at) in
        subst P (sym element.is) (elements ts us (i - length atoms) element.left element.right whole element.at_left element.at_right)

  pub opened_all : (ps : List ℕ) (atoms list : List PureAtom) → IsOpened atoms ps list → ((i : ℕ) (a : PureAtom) → slice_get atoms i ≡ Some a → P a) → (i : ℕ) (a : PureAtom) → slice_get list i ≡ Some a → P a
  opened_all [] atoms list same all i a at = all i a (ap (λ l. slice_get l i) same ∙ at)
  opened_all (p ∷ ps) atoms list opened all i a at = by_cases (equal_lists_at atoms p) refl opened (λ lists more each. opened_all ps (atoms ++ element_equalities lists.left lists.right) list more each i a at) where
    by_cases : (o : Option Lists) → equal_lists_at atoms p ≡ o → IsSomeAnd o (λ lists. HaveOneLength lists.left lists.right × IsOpened (atoms ++ element_equalities lists.left lists.right) ps list)
        → ((lists : Lists) → IsOpened (atoms ++ element_equalities lists.left lists.right) ps list → ((i : ℕ) (a : PureAtom) → slice_get (atoms ++ element_equalities lists.left lists.right) i ≡ Some a → P a) → P a) → P a
    by_cases (Some lists) is both again = again lists both.1 (more_all atoms lists.left lists.right (all p (positive (equals (list_of lists.left) (list_of lists.right))) (lists_atom atoms p lists is)) all)
    by_cases None is both again = absurd both

-- ---- plain atoms

element_no_any : (ts : PureTerms) (j : ℕ) (s : PureTerm) → name_sort Sort.Any ts ≡ false → slice_get (to_list ts) j ≡ Some s → names_sort Sort.Any s ≡ false
element_no_any no_terms j s none at = cc
element_no_any (term_and t ts) zero s none at = ap (names_sort Sort.Any) (sym (same_Some t s at)) ∙ (or_parts (names_sort Sort.Any t) (name_sort Sort.Any ts) none).0
element_no_any (term_and t ts) (suc j) s none at = element_no_any ts j s (or_parts (names_sort Sort.Any t) (name_sort Sort.Any ts) none).1 at

pub record AreElementsPlain (vars : List Sort) (s t : PureTerm) : Type 0 where
  pub atom : IsPlainAtom vars (positive (equals s t))
  pub left : names_sort Sort.Any s ≡ false
  pub right : names_sort Sort.Any t ≡ false

pub elements_plain : (vars : List Sort) (ts us : PureTerms) (j : ℕ) (s t : PureTerm) → IsPlainAtom vars (positive (equals (list_of ts) (list_of us))) → slice_get (to_list ts) j ≡ Some s → slice_get (to_list us) j ≡ Some t → AreElementsPlain vars s t
elements_plain vars ts us j s t h at_s at_t =
    let sides = sides_of vars (positive (equals (list_of ts) (list_of us))) (record { left = list_of ts; right = list_of us }) h refl in
    let forms = plain_sides (list_of ts) (list_of us) (plain (positive (equals (list_of ts) (list_of us))) (record { left = list_of ts; right = list_of us }) refl h.form) in
    let none = and_parts (not (name_sort Sort.Any ts)) (not (name_sort Sort.Any us)) forms.any in
    let none_s = element_no_any ts j s (not-true _ none.0) at_s in
    let none_t = element_no_any us j t (not-true _ none.1) at_t in
    record { atom = (equality_plain vars s t (element_side vars ts j s sides.0 at_s) (element_side vars us j t sides.1 at_t) (or_right _ _ (and_from _ _ (not_from_false _ none_s) (not_from_false _ none_t)))).0; left = none_s; right = none_t }

no_any_variable : (t : PureTerm) → names_sort Sort.Any t ≡ false → is_variable_of Sort.Any t ≡ false
no_any_variable (variable x) none = none
no_any_variable (literal l) none = refl
no_any_variable (list_of ts) none = refl
no_any_variable (unary_of op t) none = refl
no_any_variable (binary_of op s t) none = refl

module _ (vars : List Sort) (list : List PureAtom) (c : PureClasses) (node : IsNode vars list c) where
  pub plain_there : ArePlain vars c.list
  plain_there = opened_all (IsPlainAtom vars) (λ ts us j s t h at_s at_t. (elements_plain vars ts us j s t h at_s at_t).atom) c.opened (given_list c) c.list node.whole.opened (λ i a at. node.plain i a (ap (λ l. slice_get l i) (sym node.given) ∙ at))

  record IsMetAtom (a : PureAtom) : Type 0 where
    plain_atom : IsPlainAtom vars a
    meets : (sides : Sides) → equality_of a ≡ Some sides → IsMet c sides.left sides.right × IsMet c sides.right sides.left

  nothing_met : (s t : PureTerm) → is_variable_of Sort.Any s ≡ false → IsMet c s t
  nothing_met s t none any wanted = absurd (both_ways (is_variable_of Sort.Any s) none any)

  met_element : (ts us : PureTerms) (j : ℕ) (s t : PureTerm) → IsMetAtom (positive (equals (list_of ts) (list_of us))) → slice_get (to_list ts) j ≡ Some s → slice_get (to_list us) j ≡ Some t → IsMetAtom (positive (equals s t))
  met_element ts us j s t h at_s at_t =
      let element = elements_plain vars ts us j s t h.plain_atom at_s at_t in
      record { plain_atom = element.atom; meets = λ sides is. both element sides (equal_sides element sides is) } where
        equal_sides : AreElementsPlain vars s t → (sides : Sides) → equality_of (positive (equals s t)) ≡ Some sides → (s ≡ sides.left) × (t ≡ sides.right)
        equal_sides element sides is =
            let simple = (sides_of vars (positive (equals s t)) sides element.atom is) in
            ⊎_elim (λ e. from e) (λ e. never e) (says (positive (equals s t)) sides is) where
              from : SaysEqual (positive (equals s t)) sides → (s ≡ sides.left) × (t ≡ sides.right)
              from e = let same : positive (equals s t) ≡ positive (equals sides.left sides.right) = e.is in (cc, cc)

              never : SaysTruth (positive (equals s t)) sides → (s ≡ sides.left) × (t ≡ sides.right)
              never e = absurd (⊎_elim (λ f. clash f) (λ f. clash_negative f) e.of) where
                clash : positive (equals s t) ≡ positive (variable e.x) → ⊥
                clash f = cc

                clash_negative : positive (equals s t) ≡ negative (variable e.x) → ⊥
                clash_negative f = cc

        both : AreElementsPlain vars s t → (sides : Sides) → (s ≡ sides.left) × (t ≡ sides.right) → IsMet c sides.left sides.right × IsMet c sides.right sides.left
        both element sides same = (
          nothing_met sides.left sides.right (ap (is_variable_of Sort.Any) (sym same.0) ∙ no_any_variable s element.left),
          nothing_met sides.right sides.left (ap (is_variable_of Sort.Any) (sym same.1) ∙ no_any_variable t element.right),
        )

  -- each equality with a variable of sort any meets
  given_met : (v : List PureValue) → AreDone Rule.Meeting c v → (i : ℕ) (a : PureAtom) → slice_get (given_list c) i ≡ Some a → IsMetAtom a
  given_met v done i a at = record { plain_atom = plain_here; meets = λ sides is. ⊎_elim (λ e. equal sides e) (λ e. truth sides e) (says a sides is) } where
    plain_here : IsPlainAtom vars a
    plain_here = node.plain i a (ap (λ l. slice_get l i) (sym node.given) ∙ at)

    equal : (sides : Sides) → SaysEqual a sides → IsMet c sides.left sides.right × IsMet c sides.right sides.left
    equal sides e = done i a at sides.left sides.right e.is (simple_of sides e) where
      simple_of : (sides : Sides) → SaysEqual a sides → is_simple sides.left ≡ true
      simple_of sides e = (plain_sides sides.left sides.right (plain a sides (said sides e) plain_here.form)).simple_left where
        said : (sides : Sides) → SaysEqual a sides → equality_of a ≡ Some sides
        said sides e = ap equality_of e.is ∙ ap (λ o. either_sides (unless_kind_fact o (Some (record { left = sides.left; right = sides.right }))) None) e.no_kind

    truth : (sides : Sides) → SaysTruth a sides → IsMet c sides.left sides.right × IsMet c sides.right sides.left
    truth sides e = subst (λ (p : Sides). IsMet c p.left p.right × IsMet c p.right p.left) (sym e.are)
        (nothing_met (variable e.x) (truth_term e.b) (ap (λ s. same_sort s Sort.Any) (same_sorts e.x.sort Sort.Bool e.sort)), nothing_met (truth_term e.b) (variable e.x) refl)

  pub all_met : (v : List PureValue) → AreDone Rule.Meeting c v → AreAllMet c
  all_met v done i s t is = option_and_then_some equality_of (slice_get c.list i) (record { left = s; right = t }) is
      (λ a at said. (opened_all IsMetAtom met_element c.opened (given_list c) c.list node.whole.opened (given_met v done) i a at).meets (record { left = s; right = t }) said)
