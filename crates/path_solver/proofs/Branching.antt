-- The atoms by which a list is split are of the fragment, and proofs for each of them make one of the list.
use Rattle.std.proofs.Common.{◌≡◌, ⊎_elim, inl, inr, ◌<◌, length, ℕ, zero, suc, List, [], ◌∷◌, map, Bool, true, false, not, ◌&&◌, ◌||◌, Option, Some, slice_get, refl, sym, ap, ◌∙◌, subst, arith}
use Rattle.std.specs.List.{Contains}
use Rattle.std.specs.Option.{option_and_then, IsSomeAnd}
use Rattle.std.proofs.lemmas.Bool.{and_parts, or_parts, not-true}
use Rattle.std.proofs.lemmas.List.Elements.{Contains-push_cases}
use Rattle.std.proofs.lemmas.Option.{same_Some, slice_get_within}
use Rattle.gil_values.specs.declared.kinds.Kind.{Kind}
use Rattle.gil_values.specs.declared.operators.BinOp.{BinOp}
use Rattle.gil_values.specs.declared.operators.UnOp.{UnOp}
use Rattle.pure_terms.specs.declared.literals.Literal.{Literal}
use Rattle.pure_terms.specs.declared.variables.Sort.{Sort}
use Rattle.pure_terms.specs.declared.variables.Var.{Var}
use Rattle.pure_terms.specs.Fragment.{names_sort, has_form, is_fragment_term, is_kind_test, any_is_a_side}
use Rattle.pure_terms.specs.Kinds.{same_sort}
use Rattle.pure_terms.specs.Meaning.{IsOver}
use Rattle.pure_terms.specs.Pure.{PureTerm, literal, variable, list_of, unary_of, PureTerms, no_terms, term_and, to_list, PureAtom, positive, negative}
use Rattle.equality_core.specs.Valued.{is_small_kind}
use Rattle.equality_core.specs.Values.{IsInTable}
use Rattle.solver_proof.specs.Chains.{equals, truth_term, kind_is, disequality_of, kind_fact_of}
use Rattle.solver_proof.specs.Closing.{CloseEach, HaveOneLength, kinds_of_values, all_kinds, kind_atoms, boolean_atoms, kind_value_atoms, element_disequalities, lists_of, value_atoms}
use Rattle.solver_proof.specs.Pure.{PureProof, from_list}
use Rattle.solver_proof.proofs.Truths.{over_both}
use Rattle.solver_rules.specs.Sides.{IsTableSide}
use Rattle.solver_rules.specs.Rules.{IsUnsaid, ElementsDiffer}
use Rattle.solver_rules.specs.Steps.{IsPlainAtom, ArePlain, IsOpenVariable}
use Rattle.solver_rules.proofs.Opened.{elements_plain}
use Rattle.solver_rules.proofs.Plain.{equality_plain}
use Rattle.path_solver.specs.declared.branches.Form.{Form}
use Rattle.path_solver.specs.Falling.{Falls}
use Rattle.path_solver.specs.Searching.{EachFalls, SplitsInto}
use Rattle.path_solver.proofs.Falling.{in_table, kind_falls, value_falls, element_falls, kind_among_values}

-- ---- terms over the table

nothing : (x : Var) → Contains {X = Var} [] x → ⊥
nothing x (k, below, is) = omega (arith, below)

pub over_literal : (vars : List Sort) (l : Literal) → IsOver vars (literal l)
over_literal vars l x has = absurd (nothing x has)

over_variable : (vars : List Sort) (x : Var) → IsInTable vars x → IsOver vars (variable x)
over_variable vars x at y has =
    ⊎_elim (λ none. absurd (nothing y none)) (λ same. subst (λ (z : Var). slice_get vars z.number ≡ Some z.sort) same at) (Contains-push_cases [] x y has)

-- ---- kinds of a variable

kind_plain : (vars : List Sort) (x : Var) (k : Kind) → IsInTable vars x → x.sort ≡ Sort.Any → IsPlainAtom vars (positive (kind_is (variable x) k))
kind_plain vars x k at any = record {
  over = over_both vars BinOp.Equal (unary_of UnOp.Kind (variable x)) (literal (Literal.Kind k)) (over_variable vars x at) (over_literal vars (Literal.Kind k));
  form = subst (λ (s : Sort). is_fragment_term (kind_is (variable (record { number = x.number; sort = s })) k) ≡ true) (sym any) refl;
  literals = refl;
}

kinds_plain : (vars : List Sort) (x : Var) (ks : List Kind) → IsInTable vars x → x.sort ≡ Sort.Any → ArePlain vars (map (λ k. positive (kind_is (variable x) k)) ks)
kinds_plain vars x [] at any i a is = cc
kinds_plain vars x (k ∷ ks) at any zero a is = subst (IsPlainAtom vars) (same_Some (positive (kind_is (variable x) k)) a is) (kind_plain vars x k at any)
kinds_plain vars x (k ∷ ks) at any (suc i) a is = kinds_plain vars x ks at any i a is

kinds_fall : (vars : List Sort) (list : List PureAtom) (x : Var) (ks : List Kind) → IsOpenVariable vars list x → EachFalls vars list (map (λ k. positive (kind_is (variable x) k)) ks)
kinds_fall vars list x [] none i a is = cc
kinds_fall vars list x (k ∷ ks) none zero a is =
    subst (Falls vars list) (same_Some (positive (kind_is (variable x) k)) a is) (kind_falls vars list x k (slice_get_within vars x.number x.sort none.there) (none.unsaid k))
kinds_fall vars list x (k ∷ ks) none (suc i) a is = kinds_fall vars list x ks none i a is

pub splits_by_kinds : (vars : List Sort) (list : List PureAtom) (x : Var) → IsOpenVariable vars list x → SplitsInto vars list (Form.Cases x) (kind_atoms (variable x))
splits_by_kinds vars list x none = record {
  plain = kinds_plain vars x kinds_of_values none.there none.any;
  falls = kinds_fall vars list x kinds_of_values none;
  closes = λ ps each. (over_variable vars x none.there, refl, each);
}

-- ---- values of a variable

variable_side : (vars : List Sort) (x : Var) (k : Kind) → IsPlainAtom vars (positive (kind_is (variable x) k)) → IsTableSide vars (variable x)
variable_side vars x k h =
    let t = kind_is (variable x) k in
    let rest = and_parts (has_form t) (not (names_sort Sort.List t) && (is_kind_test t || any_is_a_side t)) h.form in
    let none = and_parts (not (names_sort Sort.List t)) (is_kind_test t || any_is_a_side t) rest.1 in
    let both = or_parts (same_sort x.sort Sort.List) false (not-true (names_sort Sort.List t) none.0) in
    record { over = λ y has. h.over y has; simple = refl; narrow = refl; no_list = both.0 }

values_plain : (vars : List Sort) (x : Var) (l : Literal) → IsTableSide vars (variable x) → IsTableSide vars (literal l) → IsPlainAtom vars (positive (equals (variable x) (literal l)))
values_plain vars x l side value = (equality_plain vars (variable x) (literal l) side value refl).0

truth_side : (vars : List Sort) (b : Bool) → IsTableSide vars (literal (Literal.Bool b))
truth_side vars b = record { over = over_literal vars (Literal.Bool b); simple = refl; narrow = refl; no_list = refl }

kind_side : (vars : List Sort) (k : Kind) → IsTableSide vars (literal (Literal.Kind k))
kind_side vars k = record { over = over_literal vars (Literal.Kind k); simple = refl; narrow = refl; no_list = refl }

truths_plain : (vars : List Sort) (x : Var) → IsTableSide vars (variable x) → ArePlain vars (boolean_atoms (variable x))
truths_plain vars x side zero a is = subst (IsPlainAtom vars) (same_Some (positive (equals (variable x) (truth_term true))) a is) (values_plain vars x (Literal.Bool true) side (truth_side vars true))
truths_plain vars x side (suc zero) a is = subst (IsPlainAtom vars) (same_Some (positive (equals (variable x) (truth_term false))) a is) (values_plain vars x (Literal.Bool false) side (truth_side vars false))
truths_plain vars x side (suc (suc i)) a is = cc

kind_values_plain : (vars : List Sort) (x : Var) (ks : List Kind) → IsTableSide vars (variable x) → ArePlain vars (map (λ k. positive (equals (variable x) (literal (Literal.Kind k)))) ks)
kind_values_plain vars x [] side i a is = cc
kind_values_plain vars x (k ∷ ks) side zero a is = subst (IsPlainAtom vars) (same_Some (positive (equals (variable x) (literal (Literal.Kind k)))) a is) (values_plain vars x (Literal.Kind k) side (kind_side vars k))
kind_values_plain vars x (k ∷ ks) side (suc i) a is = kind_values_plain vars x ks side i a is

-- the list says of the variable no value
abbrev HasNoValue : List PureAtom → Var → Type 0
HasNoValue list x = (l : Literal) → IsUnsaid list (positive (equals (variable x) (literal l)))

module _ (vars : List Sort) (list : List PureAtom) (place : ℕ) (x : Var) (plain : ArePlain vars list) (unsaid : HasNoValue list x) where
  there : (k : Kind) → slice_get list place ≡ Some (positive (kind_is (variable x) k)) → x.number < length vars
  there k at = in_table vars x (variable_side vars x k (plain place (positive (kind_is (variable x) k)) at)).over

  truths_fall : x.number < length vars → EachFalls vars list (boolean_atoms (variable x))
  truths_fall within zero a is = subst (Falls vars list) (same_Some (positive (equals (variable x) (truth_term true))) a is) (value_falls vars list x (Literal.Bool true) within (inl refl) (unsaid (Literal.Bool true)))
  truths_fall within (suc zero) a is = subst (Falls vars list) (same_Some (positive (equals (variable x) (truth_term false))) a is) (value_falls vars list x (Literal.Bool false) within (inr (inl refl)) (unsaid (Literal.Bool false)))
  truths_fall within (suc (suc i)) a is = cc

  kind_values_fall : (ks : List Kind) → x.number < length vars → EachFalls vars list (map (λ k. positive (equals (variable x) (literal (Literal.Kind k)))) ks)
  kind_values_fall [] within i a is = cc
  kind_values_fall (k ∷ ks) within zero a is = subst (Falls vars list) (same_Some (positive (equals (variable x) (literal (Literal.Kind k)))) a is) (value_falls vars list x (Literal.Kind k) within (kind_among_values k) (unsaid (Literal.Kind k)))
  kind_values_fall (k ∷ ks) within (suc i) a is = kind_values_fall ks within i a is

  values_close : (k : Kind) (more : List PureAtom) → value_atoms (kind_fact_of (positive (kind_is (variable x) k))) ≡ Some more → slice_get list place ≡ Some (positive (kind_is (variable x) k)) → (ps : List PureProof) → CloseEach vars list more (from_list ps)
      → IsSomeAnd (value_atoms (option_and_then kind_fact_of (slice_get list place))) (λ atoms. CloseEach vars list atoms (from_list ps))
  values_close k more are at ps each =
      subst (λ (o : Option PureAtom). IsSomeAnd (value_atoms (option_and_then kind_fact_of o)) (λ atoms. CloseEach vars list atoms (from_list ps))) (sym at)
      (subst (λ (o : Option (List PureAtom)). IsSomeAnd o (λ atoms. CloseEach vars list atoms (from_list ps))) (sym are) each)

  pub splits_by_truths : slice_get list place ≡ Some (positive (kind_is (variable x) Kind.Bool)) → SplitsInto vars list (Form.Values place) (boolean_atoms (variable x))
  splits_by_truths at = record {
    plain = truths_plain vars x (variable_side vars x Kind.Bool (plain place (positive (kind_is (variable x) Kind.Bool)) at));
    falls = truths_fall (there Kind.Bool at);
    closes = values_close Kind.Bool (boolean_atoms (variable x)) refl at;
  }

  pub splits_by_kind_values : slice_get list place ≡ Some (positive (kind_is (variable x) Kind.Kind)) → SplitsInto vars list (Form.Values place) (kind_value_atoms (variable x))
  splits_by_kind_values at = record {
    plain = kind_values_plain vars x all_kinds (variable_side vars x Kind.Kind (plain place (positive (kind_is (variable x) Kind.Kind)) at));
    falls = kind_values_fall all_kinds (there Kind.Kind at);
    closes = values_close Kind.Kind (kind_value_atoms (variable x)) refl at;
  }

  -- a kind with few values is one of these two
  pub splits_by_values : (k : Kind) (more : List PureAtom) → is_small_kind k ≡ true → slice_get list place ≡ Some (positive (kind_is (variable x) k)) → (k ≡ Kind.Bool → more ≡ boolean_atoms (variable x)) → (k ≡ Kind.Kind → more ≡ kind_value_atoms (variable x)) → SplitsInto vars list (Form.Values place) more
  splits_by_values Kind.Bool more small at booleans kinds = subst (SplitsInto vars list (Form.Values place)) (sym (booleans refl)) (splits_by_truths at)
  splits_by_values Kind.Kind more small at booleans kinds = subst (SplitsInto vars list (Form.Values place)) (sym (kinds refl)) (splits_by_kind_values at)
  splits_by_values Kind.Int more small at booleans kinds = cc
  splits_by_values Kind.Str more small at booleans kinds = cc
  splits_by_values Kind.Sym more small at booleans kinds = cc
  splits_by_values Kind.Proc more small at booleans kinds = cc
  splits_by_values Kind.List more small at booleans kinds = cc
  splits_by_values Kind.Undef more small at booleans kinds = cc
  splits_by_values Kind.Null more small at booleans kinds = cc

-- ---- elements of list terms

record IsDifference (ts us : PureTerms) (k : ℕ) (a : PureAtom) : Type 0 where
  left : PureTerm
  right : PureTerm
  at_left : slice_get (to_list ts) k ≡ Some left
  at_right : slice_get (to_list us) k ≡ Some right
  is : a ≡ negative (equals left right)

difference_at : (ts us : PureTerms) (k : ℕ) (a : PureAtom) → slice_get (element_disequalities ts us) k ≡ Some a → IsDifference ts us k a
difference_at no_terms us k a at = cc
difference_at (term_and t ts) no_terms k a at = cc
difference_at (term_and t ts) (term_and u us) zero a at = record { left = t; right = u; at_left = refl; at_right = refl; is = sym (same_Some (negative (equals t u)) a at) }
difference_at (term_and t ts) (term_and u us) (suc k) a at =
    let rest = difference_at ts us k a at in
    record { left = rest.left; right = rest.right; at_left = rest.at_left; at_right = rest.at_right; is = rest.is }

pub denied : (vars : List Sort) (t : PureTerm) → IsPlainAtom vars (positive t) → IsPlainAtom vars (negative t)
denied vars t h = record { over = h.over; form = h.form; literals = h.literals }

said : (vars : List Sort) (t : PureTerm) → IsPlainAtom vars (negative t) → IsPlainAtom vars (positive t)
said vars t h = record { over = h.over; form = h.form; literals = h.literals }

differences_plain : (vars : List Sort) (ts us : PureTerms) → IsPlainAtom vars (negative (equals (list_of ts) (list_of us))) → ArePlain vars (element_disequalities ts us)
differences_plain vars ts us h i a at =
    let d = difference_at ts us i a at in
    subst (IsPlainAtom vars) (sym d.is) (denied vars (equals d.left d.right) (elements_plain vars ts us i d.left d.right (said vars (equals (list_of ts) (list_of us)) h) d.at_left d.at_right).atom)

differences_fall : (vars : List Sort) (list : List PureAtom) (place : ℕ) (ts us : PureTerms) → slice_get list place ≡ Some (negative (equals (list_of ts) (list_of us))) → (ElementsDiffer list ts us → ⊥) → EachFalls vars list (element_disequalities ts us)
differences_fall vars list place ts us at unsaid i a is =
    let d = difference_at ts us i a is in
    subst (Falls vars list) (sym d.is) (element_falls vars list place ts us i d.left d.right at unsaid d.at_left d.at_right)

pub splits_by_elements : (vars : List Sort) (list : List PureAtom) (place : ℕ) (ts us : PureTerms) → ArePlain vars list → slice_get list place ≡ Some (negative (equals (list_of ts) (list_of us))) → HaveOneLength ts us → (ElementsDiffer list ts us → ⊥) → SplitsInto vars list (Form.Differ place) (element_disequalities ts us)
splits_by_elements vars list place ts us plain at one_length unsaid = record {
  plain = differences_plain vars ts us (plain place (negative (equals (list_of ts) (list_of us))) at);
  falls = differences_fall vars list place ts us at unsaid;
  closes = λ ps each. subst (λ (o : Option PureAtom). IsSomeAnd (lists_of (option_and_then disequality_of o)) (λ lists. HaveOneLength lists.left lists.right × CloseEach vars list (element_disequalities lists.left lists.right) (from_list ps))) (sym at) (one_length, each);
}

-- as the code finds what it is split by
pub elements_found : (vars : List Sort) (list : List PureAtom) (place : ℕ) (ts us xs ys : PureTerms) (a : PureAtom) (more : List PureAtom) → ArePlain vars list → slice_get list place ≡ Some (negative (equals (list_of ts) (list_of us))) → HaveOneLength ts us → (ElementsDiffer list ts us → ⊥) → slice_get list place ≡ Some a → a ≡ negative (equals (list_of xs) (list_of ys)) → more ≡ element_disequalities xs ys → SplitsInto vars list (Form.Differ place) more
elements_found vars list place ts us xs ys a more plain at one_length unsaid here is made =
    let same : negative (equals (list_of ts) (list_of us)) ≡ negative (equals (list_of xs) (list_of ys)) = same_Some _ a (sym at ∙ here) ∙ is in
    let left : ts ≡ xs = cc in
    let right : us ≡ ys = cc in
    subst (SplitsInto vars list (Form.Differ place)) (sym made) (splits_by_elements vars list place xs ys plain (here ∙ ap Some is) (subst (HaveOneLength xs) right (subst (λ zs. HaveOneLength zs us) left one_length))
    (subst (λ zs. ElementsDiffer list xs zs → ⊥) right (subst (λ zs. ElementsDiffer list zs us → ⊥) left unsaid)))

pub values_found : (vars : List Sort) (list : List PureAtom) (place : ℕ) (x y : Var) (k l : Kind) (a : PureAtom) (more : List PureAtom) → ArePlain vars list → slice_get list place ≡ Some (positive (kind_is (variable x) k)) → is_small_kind k ≡ true → ((m : Literal) → IsUnsaid list (positive (equals (variable x) (literal m)))) → slice_get list place ≡ Some a → a ≡ positive (kind_is (variable y) l) → (l ≡ Kind.Bool → more ≡ boolean_atoms (variable y)) → (l ≡ Kind.Kind → more ≡ kind_value_atoms (variable y)) → SplitsInto vars list (Form.Values place) more
values_found vars list place x y k l a more plain at small unsaid here is booleans kinds =
    let same : positive (kind_is (variable x) k) ≡ positive (kind_is (variable y) l) = same_Some _ a (sym at ∙ here) ∙ is in
    let kind : k ≡ l = cc in
    let subject : x ≡ y = cc in
    splits_by_values vars list place y plain (subst (HasNoValue list) subject unsaid) l more (ap is_small_kind (sym kind) ∙ small) (here ∙ ap Some is) booleans kinds
