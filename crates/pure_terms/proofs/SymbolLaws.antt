-- Each symbol in the value of a term occurs in the value of a variable of the term.
use Rattle.std.proofs.Common.{◌≡◌, ℕ, List, [], ◌++◌, Option, Some, None, Ok, Err, slice_get, refl, subst}
use Rattle.std.specs.Option.{option_map, option_and_then}
use Rattle.std.specs.Result.{result_ok}
use Rattle.std.specs.List.{Contains}
use Rattle.std.proofs.lemmas.List.Elements.{Contains-append_left, Contains-append_right, Contains-push}
use Rattle.gil_values.specs.declared.operators.UnOp.{UnOp}
use Rattle.gil_values.specs.declared.operators.BinOp.{BinOp}
use Rattle.gil_values.specs.Operators.{Outcome, unary, binary}
use Rattle.gil_values.specs.Pure.{PureValue, list, from_list}
use Rattle.gil_values.specs.Symbols.{OccursIn}
use Rattle.gil_values.proofs.OperatorSymbols.{Holds, HoldsOfAll, HoldsIfValue, each-nil, holds_of_list, unary-holds, binary-holds}
use Rattle.pure_terms.specs.declared.literals.Literal.{Literal}
use Rattle.pure_terms.specs.declared.variables.Var.{Var}
use Rattle.pure_terms.specs.Laws.{InventsNoSymbol}
use Rattle.pure_terms.specs.Meaning.{literal_value, both, value, values}
use Rattle.pure_terms.specs.Pure.{PureTerm, literal, variable, list_of, unary_of, binary_of, PureTerms, no_terms, term_and, variables, variables_of_all}

module _ (P : ℕ → Type 0) where
  abbrev pub HoldsIfSome : Option PureValue → Type 0
  HoldsIfSome (Some w) = Holds P w
  HoldsIfSome None = Unit {0}

  abbrev pub HoldsOfAllIfSome : Option (List PureValue) → Type 0
  HoldsOfAllIfSome (Some ws) = HoldsOfAll P ws
  HoldsOfAllIfSome None = Unit {0}

  -- P of each symbol in the values of these variables
  abbrev pub HoldsOfVariables : List PureValue → List Var → Type 0
  HoldsOfVariables v xs = (x : Var) → Contains xs x → (w : PureValue) → slice_get v x.number ≡ Some w → Holds P w

  of_left : (v : List PureValue) (xs ys : List Var) → HoldsOfVariables v (xs ++ ys) → HoldsOfVariables v xs
  of_left v xs ys h x has = h x (Contains-append_left xs ys x has)

  of_right : (v : List PureValue) (xs ys : List Var) → HoldsOfVariables v (xs ++ ys) → HoldsOfVariables v ys
  of_right v xs ys h x has = h x (Contains-append_right xs ys x has)

  literal-holds : (l : Literal) → Holds P (literal_value l)
  literal-holds (Literal.Int n) = each-nil P
  literal-holds (Literal.Bool b) = each-nil P
  literal-holds (Literal.Str cs) = each-nil P
  literal-holds (Literal.Kind k) = each-nil P
  literal-holds (Literal.Proc name) = each-nil P

  of_lookup : (o : Option PureValue) → ((w : PureValue) → o ≡ Some w → Holds P w) → HoldsIfSome o
  of_lookup (Some w) h = h w refl
  of_lookup None h = tt

  of_result : (r : Outcome) → HoldsIfValue P r → HoldsIfSome (result_ok r)
  of_result (Ok w) h = h
  of_result (Err f) h = tt

  of_list : (o : Option (List PureValue)) → HoldsOfAllIfSome o → HoldsIfSome (option_map (λ ws. list (from_list ws)) o)
  of_list (Some ws) h = holds_of_list P ws h
  of_list None h = tt

  of_unary : (op : UnOp) (a : Option PureValue) → HoldsIfSome (option_and_then (λ u. result_ok (unary op u)) a)
  of_unary op (Some u) = of_result (unary op u) (unary-holds P op u)
  of_unary op None = tt

  of_binary : (op : BinOp) (a b : Option PureValue) → HoldsIfSome a → HoldsIfSome b → HoldsIfSome (option_and_then (λ u. option_and_then (λ w. result_ok (binary op u w)) b) a)
  of_binary op (Some u) (Some w) h k = of_result (binary op u w) (binary-holds P op u w h k)
  of_binary op (Some u) None h k = tt
  of_binary op None b h k = tt

  of_both : (a : Option PureValue) (b : Option (List PureValue)) → HoldsIfSome a → HoldsOfAllIfSome b → HoldsOfAllIfSome (both a b)
  of_both (Some w) (Some ws) h k = (h, k)
  of_both (Some w) None h k = tt
  of_both None b h k = tt

  mutual
    pub value-holds : (v : List PureValue) (t : PureTerm) → HoldsOfVariables v (variables t) → HoldsIfSome (value v t)
    value-holds v (literal l) h = literal-holds l
    value-holds v (variable x) h = of_lookup (slice_get v x.number) (h x (Contains-push [] x))
    value-holds v (list_of ts) h = of_list (values v ts) (values-hold v ts h)
    value-holds v (unary_of op t) h = of_unary op (value v t)
    value-holds v (binary_of op s t) h =
        of_binary op (value v s) (value v t) (value-holds v s (of_left v (variables s) (variables t) h)) (value-holds v t (of_right v (variables s) (variables t) h))

    pub values-hold : (v : List PureValue) (ts : PureTerms) → HoldsOfVariables v (variables_of_all ts) → HoldsOfAllIfSome (values v ts)
    values-hold v no_terms h = tt
    values-hold v (term_and t ts) h =
        of_both (value v t) (values v ts) (value-holds v t (of_left v (variables t) (variables_of_all ts) h)) (values-hold v ts (of_right v (variables t) (variables_of_all ts) h))

pub invents_no_symbol : InventsNoSymbol
invents_no_symbol t v w n is occurs =
    let P : ℕ → Type 0 = λ m. (x : Var) × ((u : PureValue) × (Contains (variables t) x × (slice_get v x.number ≡ Some u) × OccursIn m u)) in
    subst (HoldsIfSome P) is (value-holds P v t (λ x has u found m within. (x, (u, (has, found, within))))) n occurs
