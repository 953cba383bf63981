-- A literal evaluates to a literal.
use Rattle.std.proofs.Common.{◌≡◌, ◌⊎◌, inl, inr, ℕ, List, [], ◌∷◌, Bool, true, false, ◌||◌, not, Option, Some, None, IsTrue, refl, sym, ap, subst, true≢false}
use Rattle.std.specs.Prelude.{codes}
use Rattle.std.specs.List.{list_all}
use Rattle.std.specs.Option.{option_map}
use Rattle.std.specs.Str.{bytes_eq}
use Rattle.std.proofs.lemmas.Bool.{and_parts}
use Rattle.gil_syntax.specs.Pure.{PureExpr, literal as value_literal, name, logical, list_of as list_expr, unary_of as unary_expr, binary_of as binary_expr, from_list}
use Rattle.gil_syntax.specs.Simple.{is_literal as is_literal_expr, is_simple_value}
use Rattle.pure_terms.specs.declared.literals.Literal.{Literal}
use Rattle.pure_terms.specs.Pure.{PureTerm}
use Rattle.sym_evaluation.specs.Evaluating.{spelled, literal_term}
use Rattle.sym_evaluation.specs.Plainly.{IsSureFault, IsSureResult}
use Rattle.sym_evaluation.specs.Pure.{PureStore, PureCases}
use Rattle.sym_evaluation.specs.Questions.{substituted, all_substituted, IsTermOf, AreTermsOf, OnResult}
use Rattle.sym_evaluation.proofs.Replacing.{some_of, some_mapped}
use Rattle.sym_model.specs.Lists.{Each}
use Rattle.sym_model.specs.Terms.{is_literal}
use Rattle.sym_model.proofs.ListLaws.{same_some, not_none}

literal_spelled : (l : Option Literal) (t : PureTerm) → literal_term l ≡ Some t → is_literal t ≡ true
literal_spelled None t is = not_none is
literal_spelled (Some l) t is = ap is_literal (sym (same_some is))

pub literal_of : (bs : PureStore) (e : PureExpr) (t : PureTerm) → is_literal_expr e ≡ true → IsTermOf bs e t → is_literal t ≡ true
literal_of bs (value_literal v) t lit is = literal_spelled (spelled v) t is
literal_of bs (name x) t lit is = absurd (true≢false (sym lit))
literal_of bs (logical x) t lit is = absurd (true≢false (sym lit))
literal_of bs (list_expr es) t lit is = absurd (true≢false (sym lit))
literal_of bs (unary_expr op e) t lit is = absurd (true≢false (sym lit))
literal_of bs (binary_expr op d e) t lit is = absurd (true≢false (sym lit))

literal_if : (b c : Bool) → (b || not c) ≡ true → c ≡ true → b ≡ true
literal_if true c either is = refl
literal_if false true either is = absurd (true≢false (sym either))
literal_if false false either is = is

pub literal_sizes : (a : List ℕ) (bs : PureStore) (es : List PureExpr) (ts : List PureTerm) → list_all (λ e. is_literal_expr e || not (bytes_eq a (codes "alloc"))) es ≡ true → IsTrue (bytes_eq a (codes "alloc")) → AreTermsOf bs es ts → Each (λ t. IsTrue (is_literal t)) ts
literal_sizes a bs [] ts simple is are = subst (Each (λ t. IsTrue (is_literal t))) (same_some are) tt
literal_sizes a bs (e ∷ es) ts simple is are =
    let (first, rest) = and_parts (is_literal_expr e || not (bytes_eq a (codes "alloc"))) (list_all (λ d. is_literal_expr d || not (bytes_eq a (codes "alloc"))) es) simple in
    let (t, (is_t, later)) = some_of (λ t. option_map (λ us. t ∷ us) (all_substituted bs (from_list es))) (substituted bs e) ts are in
    let (us, (are_us, whole)) = some_mapped (λ us. t ∷ us) (all_substituted bs (from_list es)) ts later in
    subst (Each (λ t. IsTrue (is_literal t))) whole (literal_of bs e t (literal_if (is_literal_expr e) (bytes_eq a (codes "alloc")) first is) is_t, literal_sizes a bs es us rest is are_us)

-- a sure result has what each result has
pub sure_with : {X : Type 0} (P Q : X → Type 0) (cases : PureCases X) → OnResult Q cases.good → IsSureFault cases ⊎ IsSureResult P cases → IsSureFault cases ⊎ IsSureResult (λ x. Q x × P x) cases
sure_with P Q cases each (inl fault) = inl fault
sure_with {X} P Q cases each (inr (x, (is, holds))) = inr (x, (is, (subst (λ (k : PureCases X). OnResult Q k.good) is each, holds)))

pub literal_sure : (bs : PureStore) (e : PureExpr) (cases : PureCases PureTerm) → is_literal_expr e ≡ true → (P : PureTerm → Type 0) → OnResult (IsTermOf bs e) cases.good → IsSureFault cases ⊎ IsSureResult P cases → IsSureFault cases ⊎ IsSureResult (λ t. is_literal t ≡ true) cases
literal_sure bs e cases lit P origin (inl fault) = inl fault
literal_sure bs e cases lit P origin (inr (t, (is, holds))) = inr (t, (is, literal_of bs e t lit (subst (λ (k : PureCases PureTerm). OnResult (IsTermOf bs e) k.good) is origin)))

pub literal_is_simple : (e : PureExpr) → is_literal_expr e ≡ true → is_simple_value e ≡ true
literal_is_simple (value_literal v) lit = refl
literal_is_simple (name x) lit = refl
literal_is_simple (logical x) lit = absurd (true≢false (sym lit))
literal_is_simple (list_expr es) lit = absurd (true≢false (sym lit))
literal_is_simple (unary_expr op e) lit = absurd (true≢false (sym lit))
literal_is_simple (binary_expr op d e) lit = absurd (true≢false (sym lit))
