-- Where no rule has anything to add, the values of classes make every atom of the list true.
use Rattle.std.proofs.Common.{◌≡◌, ⊎_elim, inl, inr, ℕ, ◌<◌, List, Bool, true, false, not, ◌&&◌, ◌||◌, if◌then◌else◌, Some, slice_get, refl, sym, ap, ◌∙◌, subst}
use Rattle.std.specs.Option.{option_map, option_and_then}
use Rattle.std.specs.Result.{result_ok}
use Rattle.std.proofs.lemmas.Bool.{both_ways, false_from_ne_true}
use Rattle.std.proofs.lemmas.List.Elements.{Contains-append_cases}
use Rattle.std.proofs.lemmas.Option.{slice_get_within}
use Rattle.gil_values.specs.declared.kinds.Kind.{Kind}
use Rattle.gil_values.specs.declared.operators.BinOp.{BinOp}
use Rattle.gil_values.specs.declared.operators.UnOp.{UnOp}
use Rattle.gil_values.specs.Equality.{same_kind}
use Rattle.gil_values.specs.Operators.{unary}
use Rattle.gil_values.specs.Pure.{PureValue, kind, kind_of}
use Rattle.pure_terms.specs.declared.literals.Literal.{Literal}
use Rattle.pure_terms.specs.declared.variables.Sort.{Sort}
use Rattle.pure_terms.specs.declared.variables.Var.{Var}
use Rattle.pure_terms.specs.Fragment.{is_integer_side}
use Rattle.pure_terms.specs.Kinds.{known_kind}
use Rattle.pure_terms.specs.Laws.{AgreeOn}
use Rattle.pure_terms.specs.Meaning.{truth, IsOver}
use Rattle.pure_terms.specs.Pure.{PureTerm, literal, variable, unary_of, binary_of, PureAtom, positive, term_of, variables}
use Rattle.pure_terms.proofs.KindLaws.{over_variable, same_kinds}
use Rattle.pure_terms.proofs.SimpleLaws.{found}
use Rattle.pure_terms.proofs.VariableLaws.{depend_on_variables}
use Rattle.solver_proof.specs.Chains.{kind_is, KindFact, kind_fact_of, kind_fact_at, are_facts_apart}
use Rattle.solver_proof.proofs.Truths.{over_sides, kind_is-true, equality_false}
use Rattle.equality_core.specs.Classes.{PureClasses, given_list}
use Rattle.equality_core.specs.Equating.{Equates, itself}
use Rattle.equality_core.specs.Valued.{MeetsApart}
use Rattle.equality_core.proofs.Valuing.{int_variables}
use Rattle.solver_rules.specs.declared.rules.Rule.{Rule}
use Rattle.solver_rules.specs.Atoms.{is_against_kind}
use Rattle.solver_rules.specs.Rules.{AreDone, AreKinds, HasKind}
use Rattle.solver_rules.specs.Steps.{IsPlainAtom, IsNode}
use Rattle.solver_rules.proofs.Fitting.{SaysKind, says_kind}
use Rattle.solver_rules.proofs.KindsFit.{one_kind, said_once, said_twice, same_kind-refl}

-- a kind that is denied is another one
denied : (f g : KindFact) → f.is_so ≡ false → g.is_so ≡ true → are_facts_apart f g ≡ false → same_kind f.kind g.kind ≡ false
denied f g no_so so h = false_from_ne_true (same_kind f.kind g.kind) (λ same. both_ways (are_facts_apart f g) h ((λ j. if same j then ((no_so j && not (so j)) || (not (no_so j) && so j)) else (f.is_so && g.is_so))))

flip_kinds : (k l : Kind) → same_kind k l ≡ false → same_kind l k ≡ false
flip_kinds k l h = false_from_ne_true (same_kind l k) (λ same. both_ways (same_kind k l) h (ap (λ m. same_kind k m) (same_kinds l k same) ∙ same_kind-refl k))

module _ (vars : List Sort) (list : List PureAtom) (c : PureClasses) (node : IsNode vars list c) (numbers : List PureValue) (kinds : List Kind) (are : AreKinds vars c kinds)
    (one : AreDone Rule.OneKind c numbers) (two : AreDone Rule.TwoKinds c numbers) (apart : List PureAtom) (v : List PureValue) (meets : MeetsApart vars (given_list c) numbers kinds apart v) where
  plain_at : (i : ℕ) (a : PureAtom) → slice_get (given_list c) i ≡ Some a → IsPlainAtom vars a
  plain_at i a at = node.plain i a (ap (λ l. slice_get l i) (sym node.given) ∙ at)

  -- the value of a variable has its kind
  record KindAt (x : Var) : Type 0 where
    of : PureValue
    at : slice_get v x.number ≡ Some of
    has : HasKind c (variable x) (kind_of of)

  kind_at : (x : Var) → slice_get vars x.number ≡ Some x.sort → KindAt x
  kind_at x there =
      let (w, at) = found v x.number (subst (λ n. x.number < n) (sym meets.proper.one_each) (slice_get_within vars x.number x.sort there)) in
      let is : slice_get kinds x.number ≡ Some (kind_of w) = sym (meets.same_kinds x.number) ∙ ap (option_map kind_of) at in
      record { of = w; at = at; has = are.each x (kind_of w) there is }

  pub fact_true : (i : ℕ) (a : PureAtom) (f : KindFact) → slice_get (given_list c) i ≡ Some a → kind_fact_of a ≡ Some f → truth v a ≡ true
  fact_true i a f at is = by_so f.is_so refl where
    says : SaysKind a f
    says = says_kind vars a f (plain_at i a at) is

    at_fact : kind_fact_at (given_list c) i ≡ Some f
    at_fact = ap (option_and_then kind_fact_of) at ∙ is

    over_x : f.is_so ≡ true → slice_get vars says.x.number ≡ Some says.x.sort
    over_x so = over_fact (subst (λ b. IsOver vars (term_of b)) (says.so so) (plain_at i a at).over) where
      over_fact : IsOver vars (kind_is (variable says.x) f.kind) → slice_get vars says.x.number ≡ Some says.x.sort
      over_fact over = over_variable vars says.x (over_sides vars BinOp.Equal (unary_of UnOp.Kind (variable says.x)) (literal (Literal.Kind f.kind)) over).0

    over_y : f.is_so ≡ false → slice_get vars says.x.number ≡ Some says.x.sort
    over_y so = over_fact (subst (λ b. IsOver vars (term_of b)) (says.not_so so) (plain_at i a at).over) where
      over_fact : IsOver vars (kind_is (variable says.x) f.kind) → slice_get vars says.x.number ≡ Some says.x.sort
      over_fact over = over_variable vars says.x (over_sides vars BinOp.Equal (unary_of UnOp.Kind (variable says.x)) (literal (Literal.Kind f.kind)) over).0

    subject_equated : Equates (given_list c) (variable says.x) f.subject
    subject_equated = subst (Equates (given_list c) (variable says.x)) (sym says.subject) itself

    by_so : (b : Bool) → f.is_so ≡ b → truth v a ≡ true
    by_so true so =
        let there = kind_at says.x (over_x so) in
        let same : kind_of there.of ≡ f.kind = one_kind vars list c node numbers one two (variable says.x) (variable says.x) (kind_of there.of) f.kind itself there.has (inr (record { place = i; fact = f; at = at_fact; so = so; kind = refl; equated = subject_equated })) in
        ap (truth v) (says.so so) ∙ ap (λ k. truth v (positive (kind_is (variable says.x) k))) (sym same) ∙ kind_is-true v (variable says.x) there.of there.at
    by_so false so =
        let there = kind_at says.x (over_y so) in
        ap (truth v) (says.not_so so)
        ∙ equality_false v (unary_of UnOp.Kind (variable says.x)) (literal (Literal.Kind f.kind)) (kind (kind_of there.of)) (kind f.kind)
        (ap (option_and_then (λ w. result_ok (unary UnOp.Kind w))) there.at) refl (other there.of there.has) where
          other : (w : PureValue) → HasKind c (variable says.x) (kind_of w) → same_kind (kind_of w) f.kind ≡ false
          other w (inl h) =
              ap (λ o. is_against_kind false f.kind o) (sym h.known) ∙ ap (λ b. is_against_kind b f.kind (known_kind h.of)) (sym so)
              ∙ said_once vars list c node numbers one two i f at_fact h.of (subst (λ s. Equates (given_list c) s h.of) (sym says.subject) h.equated)
          other w (inr h) =
              ap (λ k. same_kind k f.kind) (sym h.kind) ∙ flip_kinds f.kind h.fact.kind (denied f h.fact so h.so (said_twice vars list c node numbers one two i h.place f h.fact at_fact h.at (subst (λ s. Equates (given_list c) s h.fact.subject) (sym says.subject) h.equated)))

  -- ---- whole numbers have the given numbers

  agree_on : (op : BinOp) (s t : PureTerm) → IsOver vars (binary_of op s t) → is_integer_side s ≡ true → is_integer_side t ≡ true → AgreeOn (variables (binary_of op s t)) v numbers
  agree_on op s t over side_s side_t y has = ⊎_elim (λ here. on (int_variables s side_s y here)) (λ here. on (int_variables t side_t y here)) (Contains-append_cases (variables s) (variables t) y has) where
    on : y.sort ≡ Sort.Int → slice_get v y.number ≡ slice_get numbers y.number
    on whole = meets.same_numbers y.number (over y has ∙ ap Some whole)

  pub same_truth : (a : PureAtom) (op : BinOp) (s t : PureTerm) → term_of a ≡ binary_of op s t → IsOver vars (term_of a) → is_integer_side s ≡ true → is_integer_side t ≡ true → truth numbers a ≡ true → truth v a ≡ true
  same_truth a op s t is over side_s side_t h =
      depend_on_variables.truths a v numbers (subst (λ u. AgreeOn (variables u) v numbers) (sym is) (agree_on op s t (subst (IsOver vars) is over) side_s side_t)) ∙ h
