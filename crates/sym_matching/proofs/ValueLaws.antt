-- What comes of matching an expression with a term, and of a pure item.
use Rattle.std.proofs.Common.{◌≡◌, ℕ, ◌+◌, List, true, false, if◌then◌else◌, Option, Some, None, is_some, Ok, Err, refl, sym, ap, subst, ◌∙◌, true≢false}
use Rattle.std.specs.Option.{option_and_then}
use Rattle.std.specs.Result.{result_ok}
use Rattle.gil_values.specs.declared.operators.BinOp.{BinOp}
use Rattle.gil_values.specs.Equality.{same_value}
use Rattle.gil_values.specs.Operators.{Outcome}
use Rattle.gil_values.specs.Pure.{PureValue, boolean}
use Rattle.gil_syntax.specs.declared.assertions.Param.{Param}
use Rattle.gil_syntax.specs.Evaluation.{Store, value_of, evaluate}
use Rattle.gil_syntax.specs.Pure.{PureExpr, literal, name, logical, list_of, unary_of, binary_of}
use Rattle.assert_logic.specs.Matching.{given, unless_known, unknown_name, where_same, match_known_or, given_outcome, match_equation, match_pure}
use Rattle.pure_terms.specs.declared.variables.Sort.{Sort}
use Rattle.pure_terms.specs.Meaning.{IsOver}
use Rattle.pure_terms.specs.Pure.{PureTerm}
use Rattle.sym_evaluation.specs.Meaning.{AreSame, HasValue, StandsFor, IsStoreOver}
use Rattle.sym_evaluation.specs.Plainly.{IsPlain, IsPlainStore, IsPlainGuard, text_bound, is_equal}
use Rattle.sym_evaluation.specs.Pure.{PureStore, term_at, PureGoodCase}
use Rattle.sym_evaluation.specs.Questions.{IsGuardCondition}
use Rattle.sym_matching.specs.Meaning.{SaysSplit, IsFoundOver, IsSplitOver}
use Rattle.sym_matching.specs.Origins.{TestComesFrom}
use Rattle.sym_matching.specs.Parts.{IsTestOf, AreValues, Alone, ByTerm, GivesTerm, DefinesPlainly, MatchesTerm, KnownComesFrom, DefinitionComesFrom, TruthComesFrom, Continues}
use Rattle.sym_matching.specs.Plainly.{IsSplitDecided, PureStaysPlain, TermStaysPlain}
use Rattle.sym_matching.specs.Pure.{PureTest, PureSplit}
use Rattle.sym_matching.specs.Splitting.{equal_test, where_met, unless_term, name_without}
use Rattle.sym_states.proofs.Plainness.{plain_up}
use Rattle.sym_matching.proofs.Deciding.{equal_decided, continues_decided, met_decided, split_up, store_up, wider, numbers_of}
use Rattle.sym_matching.proofs.OriginLaws.{known_from, definition_from, truth_from, name_from}
use Rattle.sym_matching.proofs.SplitLaws.{continues_says, continues_over, met_says, met_over}
use Rattle.sym_matching.proofs.TestLaws.{equal_says, equal_over}

-- ---- the value of an expression is that of a term, or true

same_then : (o : Outcome) (w : PureValue) (s : Store) → where_same o w s ≡ option_and_then (λ a. if same_value a w then Some s else None) (result_ok o)
same_then (Ok a) w s = refl
same_then (Err f) w s = refl

given_then : (scope : List Param) (x : List ℕ) (o : Outcome) (s : Store) → given_outcome scope x o s ≡ option_and_then (λ a. given scope x a s) (result_ok o)
given_then scope x (Ok a) s = refl
given_then scope x (Err f) s = refl

module _ (bs : PureStore) (e : PureExpr) (values : PureSplit PureTerm) (are : AreValues bs e values) where
  term_over : (vars : List Sort) (g : PureGoodCase PureTerm) → values.found ≡ Some g → IsStoreOver vars bs → IsOver vars g.result
  term_over vars g is over = (subst (λ (o : Option (PureGoodCase PureTerm)). IsFoundOver (IsOver vars) vars o) is (are.over vars over).found).1

  abbrev pub SameAs : PureTerm → PureTerm → PureSplit PureStore → Type 0
  SameAs t r next = next ≡ where_met (equal_test r t) bs

  pub matches_known : (t : PureTerm) (whole : PureSplit PureStore) → Continues (SameAs t) values.found values.none whole → ByTerm t (λ w s. where_same (evaluate e s) w s) bs whole
  matches_known t whole is = record {
    says = λ vars v s w serves over has.
        subst (SaysSplit v (StandsFor v) whole) (sym (same_then (evaluate e s) w s))
        (continues_says v (HasValue v) (StandsFor v) (SameAs t) (result_ok (evaluate e s)) (λ a. if same_value a w then Some s else None) values whole (are.says vars v s serves) is
        (λ g next a there cont has_a. subst (λ (n : PureSplit PureStore). SaysSplit v (StandsFor v) n (if same_value a w then Some s else None)) (sym cont)
        (met_says v (StandsFor v) (equal_test g.result t) (same_value a w) bs s
        (equal_says vars v g.result t a w (record { proper = serves.proper; first_over = term_over vars g there serves.over; second_over = over; first = has_a; second = has }))
        serves.stands)));
    over = λ vars store over.
        continues_over vars (IsOver vars) (IsStoreOver vars) (SameAs t) values whole (are.over vars store) is
        (λ g next there cont over_r. subst (IsSplitOver (IsStoreOver vars) vars) (sym cont) (met_over vars (IsStoreOver vars) (equal_test g.result t) bs (equal_over vars g.result t over_r over) store));
  }

  pub matches_known_plainly : (t : PureTerm) (whole : PureSplit PureStore) → Continues (SameAs t) values.found values.none whole → TermStaysPlain e t bs whole
  matches_known_plainly t whole is vars b over plain argument numbers =
      continues_decided (IsPlain (b + text_bound)) (IsPlainStore b) (b + text_bound) (SameAs t) values whole (are.argument vars b over argument numbers) is
      (λ g next there cont term. subst (IsSplitDecided (IsPlainStore b) (b + text_bound)) (sym cont)
      (met_decided (IsPlainStore b) (b + text_bound) (equal_test g.result t) bs (equal_decided (b + text_bound) g.result t term (plain_up b (b + text_bound) (wider b) t plain)) over.plain))

  pub all_known : (t : PureTerm) (whole : PureSplit PureStore) → Continues (SameAs t) values.found values.none whole
      → ByTerm t (λ w s. where_same (evaluate e s) w s) bs whole × TermStaysPlain e t bs whole × KnownComesFrom e t bs whole
  all_known t whole is = (matches_known t whole is, matches_known_plainly t whole is, known_from bs e values are.from t whole is)

  abbrev pub WhereTrue : PureTerm → PureSplit PureStore → Type 0
  WhereTrue r next = (test : PureTest) × (IsTestOf (λ w. same_value w (boolean true)) r test × TestComesFrom (IsGuardCondition r) test × (next ≡ where_met test bs))

  pub assumes : (whole : PureSplit PureStore) → Continues WhereTrue values.found values.none whole → Alone (λ s. where_same (evaluate e s) (boolean true) s) bs whole
  assumes whole is = record {
    says = λ vars v s serves.
        subst (SaysSplit v (StandsFor v) whole) (sym (same_then (evaluate e s) (boolean true) s))
        (continues_says v (HasValue v) (StandsFor v) WhereTrue (result_ok (evaluate e s)) (λ a. if same_value a (boolean true) then Some s else None) values whole (are.says vars v s serves) is
        (λ g next a there cont has_a. let (test, (tests, from, is_next)) = cont in
        subst (λ (n : PureSplit PureStore). SaysSplit v (StandsFor v) n (if same_value a (boolean true) then Some s else None)) (sym is_next)
        (met_says v (StandsFor v) test (same_value a (boolean true)) bs s (tests.says vars v a serves.proper (term_over vars g there serves.over) has_a) serves.stands)));
    over = λ vars store.
        continues_over vars (IsOver vars) (IsStoreOver vars) WhereTrue values whole (are.over vars store) is
        (λ g next there cont over_r. let (test, (tests, from, is_next)) = cont in
        subst (IsSplitOver (IsStoreOver vars) vars) (sym is_next) (met_over vars (IsStoreOver vars) test bs (tests.over vars over_r) store));
  }

  pub assumes_plainly : (whole : PureSplit PureStore) → Continues WhereTrue values.found values.none whole → PureStaysPlain e bs whole
  assumes_plainly whole is vars b over item =
      continues_decided (IsPlainGuard (b + text_bound)) (IsPlainStore (b + text_bound)) (b + text_bound) WhereTrue values whole (are.form vars b over item.form (numbers_of e item)) is
      (λ g next there (test, (tests, from, is_next)) guard. subst (IsSplitDecided (IsPlainStore (b + text_bound)) (b + text_bound)) (sym is_next)
      (met_decided (IsPlainStore (b + text_bound)) (b + text_bound) test bs (tests.decided (b + text_bound) guard) (store_up b (b + text_bound) (wider b) bs over.plain)))

  abbrev pub Given : List Param → List ℕ → PureTerm → PureSplit PureStore → Type 0
  Given scope x r next = GivesTerm scope x r bs next

  pub defines : (scope : List Param) (x : List ℕ) (whole : PureSplit PureStore) → Continues (Given scope x) values.found values.none whole → Alone (λ s. given_outcome scope x (evaluate e s) s) bs whole
  defines scope x whole is = record {
    says = λ vars v s serves.
        subst (SaysSplit v (StandsFor v) whole) (sym (given_then scope x (evaluate e s) s))
        (continues_says v (HasValue v) (StandsFor v) (Given scope x) (result_ok (evaluate e s)) (λ a. given scope x a s) values whole (are.says vars v s serves) is
        (λ g next a there cont has_a. cont.gives.says vars v s a serves (term_over vars g there serves.over) has_a));
    over = λ vars store.
        continues_over vars (IsOver vars) (IsStoreOver vars) (Given scope x) values whole (are.over vars store) is (λ g next there cont over_r. cont.gives.over vars store over_r);
  }

  pub defines_plainly : (scope : List Param) (x : List ℕ) (whole : PureSplit PureStore) → Continues (Given scope x) values.found values.none whole → DefinesPlainly e bs whole
  defines_plainly scope x whole is vars b over plain numbers =
      continues_decided (IsPlain (b + text_bound)) (IsPlainStore (b + text_bound)) (b + text_bound) (Given scope x) values whole (are.argument vars b over plain numbers) is
      (λ g next there cont term. cont.plain (b + text_bound) (store_up b (b + text_bound) (wider b) bs over.plain) term)

  pub all_assumed : (whole : PureSplit PureStore) → Continues WhereTrue values.found values.none whole
      → Alone (λ s. where_same (evaluate e s) (boolean true) s) bs whole × PureStaysPlain e bs whole × TruthComesFrom e bs whole
  all_assumed whole is = (assumes whole is, assumes_plainly whole is, truth_from bs e values are.from WhereTrue (λ r next (test, (tests, from, is_next)). (test, (from, is_next))) whole is)

  pub all_defined : (scope : List Param) (x : List ℕ) (whole : PureSplit PureStore) → Continues (Given scope x) values.found values.none whole
      → Alone (λ s. given_outcome scope x (evaluate e s) s) bs whole × DefinesPlainly e bs whole × DefinitionComesFrom scope x e bs whole
  all_defined scope x whole is = (defines scope x whole is, defines_plainly scope x whole is, definition_from bs e values are.from scope x whole is)

-- ---- unknown names

known_alike : (v : List PureValue) (o : Option PureTerm) (p : Option PureValue) → AreSame v o p → is_some o ≡ is_some p
known_alike v None None same = refl
known_alike v None (Some w) same = absurd same
known_alike v (Some t) None same = absurd same
known_alike v (Some t) (Some w) same = refl

module _ (v : List PureValue) (bs : PureStore) (s : Store) (stands : StandsFor v bs s) where
  pub known_same : (x : List ℕ) → is_some (term_at bs x) ≡ is_some (value_of s x)
  known_same x = known_alike v (term_at bs x) (value_of s x) (stands x)

  unless_same : (x : List ℕ) → unless_term bs x ≡ unless_known s x
  unless_same x = ap (λ b. if b then None else Some x) (known_same x)

  pub unknown_same : (e : PureExpr) → name_without bs e ≡ unknown_name s e
  unknown_same (name x) = unless_same x
  unknown_same (logical x) = unless_same x
  unknown_same (literal w) = refl
  unknown_same (list_of es) = refl
  unknown_same (unary_of op e) = refl
  unknown_same (binary_of op d e) = refl

module _ (scope : List Param) (bs : PureStore) (split : PureSplit PureStore) where
  pub matches_name : (e : PureExpr) (t : PureTerm) (x : List ℕ) → name_without bs e ≡ Some x → GivesTerm scope x t bs split → MatchesTerm scope e t bs split
  matches_name e t x named gives = (
    record {
      says = λ vars v s w serves over has.
          subst (λ (o : Option (List ℕ)). SaysSplit v (StandsFor v) split (match_known_or o scope e w s)) (sym named ∙ unknown_same v bs s serves.stands e) (gives.gives.says vars v s w serves over has);
      over = gives.gives.over;
    },
    λ vars b over plain argument numbers. split_up (IsPlainStore b) b (b + text_bound) (wider b) split (gives.plain b over.plain plain),
    name_from scope bs split e t x named gives.from,
  )

  pub matches_other : (e : PureExpr) (t : PureTerm) → name_without bs e ≡ None → ByTerm t (λ w s. where_same (evaluate e s) w s) bs split × TermStaysPlain e t bs split × KnownComesFrom e t bs split
      → MatchesTerm scope e t bs split
  matches_other e t none (same, plain, from) = (
    record {
      says = λ vars v s w serves over has.
          subst (λ (o : Option (List ℕ)). SaysSplit v (StandsFor v) split (match_known_or o scope e w s)) (sym none ∙ unknown_same v bs s serves.stands e) (same.says vars v s w serves over has);
      over = same.over;
    },
    plain,
    from scope,
  )

  -- ---- pure items

  pub equation_defines : (d e : PureExpr) (x : List ℕ) → name_without bs d ≡ Some x → Alone (λ s. given_outcome scope x (evaluate e s) s) bs split → Alone (match_pure scope (binary_of BinOp.Equal d e)) bs split
  equation_defines d e x named given = record {
    says = λ vars v s serves.
        subst (λ (o : Option (List ℕ)). SaysSplit v (StandsFor v) split (match_equation o scope d e s)) (sym named ∙ unknown_same v bs s serves.stands d) (given.says vars v s serves);
    over = given.over;
  }

  pub equation_holds : (d e : PureExpr) → name_without bs d ≡ None → Alone (λ s. where_same (evaluate (binary_of BinOp.Equal d e) s) (boolean true) s) bs split
      → Alone (match_pure scope (binary_of BinOp.Equal d e)) bs split
  equation_holds d e none same = record {
    says = λ vars v s serves.
        subst (λ (o : Option (List ℕ)). SaysSplit v (StandsFor v) split (match_equation o scope d e s)) (sym none ∙ unknown_same v bs s serves.stands d) (same.says vars v s serves);
    over = same.over;
  }

  -- any other operator
  pub operator_holds : (op : BinOp) (d e : PureExpr) → is_equal op ≡ false → Alone (λ s. where_same (evaluate (binary_of op d e) s) (boolean true) s) bs split → Alone (match_pure scope (binary_of op d e)) bs split
  operator_holds BinOp.Equal d e other same = absurd (true≢false other)
  operator_holds BinOp.Add d e other same = same
  operator_holds BinOp.Subtract d e other same = same
  operator_holds BinOp.Multiply d e other same = same
  operator_holds BinOp.Divide d e other same = same
  operator_holds BinOp.Remainder d e other same = same
  operator_holds BinOp.Less d e other same = same
  operator_holds BinOp.LessOrEqual d e other same = same
  operator_holds BinOp.And d e other same = same
  operator_holds BinOp.Or d e other same = same
  operator_holds BinOp.Append d e other same = same
  operator_holds BinOp.Nth d e other same = same

pub equal_operator : (op : BinOp) → is_equal op ≡ true → op ≡ BinOp.Equal
equal_operator BinOp.Equal is = refl
equal_operator BinOp.Add is = absurd (true≢false (sym is))
equal_operator BinOp.Subtract is = absurd (true≢false (sym is))
equal_operator BinOp.Multiply is = absurd (true≢false (sym is))
equal_operator BinOp.Divide is = absurd (true≢false (sym is))
equal_operator BinOp.Remainder is = absurd (true≢false (sym is))
equal_operator BinOp.Less is = absurd (true≢false (sym is))
equal_operator BinOp.LessOrEqual is = absurd (true≢false (sym is))
equal_operator BinOp.And is = absurd (true≢false (sym is))
equal_operator BinOp.Or is = absurd (true≢false (sym is))
equal_operator BinOp.Append is = absurd (true≢false (sym is))
equal_operator BinOp.Nth is = absurd (true≢false (sym is))
