-- Evaluation invents no symbol: what holds of each symbol in a store holds of each symbol in the value of an expression.
use Rattle.std.proofs.Common.{◌≡◌, ⊎_elim, ℕ, zero, suc, ℤ, pos, negsuc, List, [], ◌∷◌, ◌++◌, Bool, true, false, cond, ◌&&◌, Option, Some, None, Ok, Err, slice_get, refl, sym, subst, ◌∙◌, true≢false, arith}
use Rattle.std.specs.Cmp.{first_so, second_so}
use Rattle.std.specs.Ordering.{int_eq}
use Rattle.std.specs.List.{Contains, list_all}
use Rattle.std.proofs.lemmas.List.Folds.{list_all-append}
use Rattle.std.proofs.lemmas.List.Elements.{Contains-append_left, Contains-append_right, Contains-append_cases}
use Rattle.gil_values.specs.declared.operators.UnOp.{UnOp}
use Rattle.gil_values.specs.declared.operators.UnOp.TheVariants.{Not, Neg, Len, Kind}
use Rattle.gil_values.specs.declared.operators.BinOp.{BinOp}
use Rattle.gil_values.specs.declared.operators.BinOp.TheVariants.{Add, Subtract, Multiply, Divide, Remainder, Equal, Less, LessOrEqual, And, Or, Append, Nth}
use Rattle.gil_values.specs.Pure.{PureValue, integer, boolean, text, symbol, kind, procedure, list, PureValues, no_values, value_and, from_list as list_elements, to_list as elements_of}
use Rattle.gil_values.specs.Symbols.{symbols, symbols_of_elements, symbols_of_all, OccursIn}
use Rattle.gil_values.specs.Operators.{Outcome, on_integers, on_booleans, appended, element_or_fault, element_at, element, negation, opposite, size, unary, binary}
use Rattle.gil_syntax.specs.Pure.{PureExpr, literal, name, logical, list_of, unary_of, binary_of, PureExprs, no_exprs, expr_and, from_list}
use Rattle.gil_syntax.specs.Evaluation.{Store, value_of, set_or_fault, after_value, Outcomes, both, as_list, evaluate, evaluate_elements, evaluate_all}
use Rattle.gil_syntax.specs.Subexpressions.{subexpressions, subexpressions_of_all}
use Rattle.gil_syntax.specs.WellMade.{is_spellable, is_well_made_node, is_well_made_expr}
use Rattle.gil_syntax.specs.Laws.{InventsNoSymbol}

pub none_contained : (n : ℕ) → ¬ Contains [] n
none_contained n is = omega (arith, is.1)

module _ (P : ℕ → Type 0) where
  -- P of each symbol of a list, of a value, and of the values of a store
  abbrev pub Each : List ℕ → Type 0
  Each ns = (n : ℕ) → Contains ns n → P n

  abbrev pub Holds : PureValue → Type 0
  Holds v = Each (symbols v)

  abbrev pub HoldsOfAll : List PureValue → Type 0
  HoldsOfAll [] = Unit {0}
  HoldsOfAll (v ∷ vs) = Holds v × HoldsOfAll vs

  abbrev pub HoldsInStore : Store → Type 0
  HoldsInStore s = (x : List ℕ) (w : PureValue) → value_of s x ≡ Some w → Holds w

  abbrev pub HoldsIfValue : Outcome → Type 0
  HoldsIfValue (Ok v) = Holds v
  HoldsIfValue (Err f) = Unit {0}

  abbrev pub HoldsIfValues : Outcomes → Type 0
  HoldsIfValues (Ok vs) = HoldsOfAll vs
  HoldsIfValues (Err f) = Unit {0}

  pub each-nil : Each []
  each-nil n is = absurd (none_contained n is)

  pub each-append : (ms ns : List ℕ) → Each ms → Each ns → Each (ms ++ ns)
  each-append ms ns h k n is = ⊎_elim (h n) (k n) (Contains-append_cases ms ns n is)

  pub each-left : (ms ns : List ℕ) → Each (ms ++ ns) → Each ms
  each-left ms ns h n is = h n (Contains-append_left ms ns n is)

  pub each-right : (ms ns : List ℕ) → Each (ms ++ ns) → Each ns
  each-right ms ns h n is = h n (Contains-append_right ms ns n is)

  holds_of_list : (vs : List PureValue) → HoldsOfAll vs → Holds (list (list_elements vs))
  holds_of_list [] h = each-nil
  holds_of_list (v ∷ vs) h = each-append (symbols v) _ h.0 (holds_of_list vs h.1)

  holds_of_elements : (vs : PureValues) → Each (symbols_of_elements vs) → HoldsOfAll (elements_of vs)
  holds_of_elements no_values h = tt
  holds_of_elements (value_and v vs) h = (each-left (symbols v) _ h, holds_of_elements vs (each-right (symbols v) _ h))

  holds_of_both : (vs ws : List PureValue) → HoldsOfAll vs → HoldsOfAll ws → HoldsOfAll (vs ++ ws)
  holds_of_both [] ws h k = k
  holds_of_both (v ∷ vs) ws h k = (h.0, holds_of_both vs ws h.1 k)

  holds_at : (vs : List PureValue) (i : ℕ) → HoldsOfAll vs → HoldsIfValue (element_or_fault (slice_get vs i))
  holds_at [] i h = tt
  holds_at (v ∷ vs) zero h = h.0
  holds_at (v ∷ vs) (suc i) h = holds_at vs i h.1

  negation-holds : (v : PureValue) → HoldsIfValue (negation v)
  negation-holds (boolean b) = each-nil
  negation-holds _ = tt

  opposite-holds : (v : PureValue) → HoldsIfValue (opposite v)
  opposite-holds (integer n) = each-nil
  opposite-holds _ = tt

  size-holds : (v : PureValue) → HoldsIfValue (size v)
  size-holds (text cs) = each-nil
  size-holds (list vs) = each-nil
  size-holds _ = tt

  unary-holds : (op : UnOp) (v : PureValue) → HoldsIfValue (unary op v)
  unary-holds Not v = negation-holds v
  unary-holds Neg v = opposite-holds v
  unary-holds Len v = size-holds v
  unary-holds Kind v = each-nil

  on_integers-holds : (f : ℤ → ℤ → Outcome) → ((m n : ℤ) → HoldsIfValue (f m n)) → (v w : PureValue) → HoldsIfValue (on_integers f v w)
  on_integers-holds f h (integer m) (integer n) = h m n
  on_integers-holds f h _ _ = tt

  on_booleans-holds : (f : Bool → Bool → Outcome) → ((a b : Bool) → HoldsIfValue (f a b)) → (v w : PureValue) → HoldsIfValue (on_booleans f v w)
  on_booleans-holds f h (boolean a) (boolean b) = h a b
  on_booleans-holds f h _ _ = tt

  choice-holds : (b : Bool) (r t : Outcome) → HoldsIfValue r → HoldsIfValue t → HoldsIfValue (cond b r t)
  choice-holds true r t h k = h
  choice-holds false r t h k = k

  appended-holds : (v w : PureValue) → Holds v → Holds w → HoldsIfValue (appended v w)
  appended-holds (text s) (text t) h k = each-nil
  appended-holds (list vs) (list ws) h k = holds_of_list (elements_of vs ++ elements_of ws) (holds_of_both _ _ (holds_of_elements vs h) (holds_of_elements ws k))
  appended-holds _ _ h k = tt

  element_at-holds : (vs : List PureValue) (i : ℤ) → HoldsOfAll vs → HoldsIfValue (element_at vs i)
  element_at-holds vs (pos i) h = holds_at vs i h
  element_at-holds vs (negsuc i) h = tt

  element-holds : (v w : PureValue) → Holds v → HoldsIfValue (element v w)
  element-holds (list vs) (integer i) h = element_at-holds (elements_of vs) i (holds_of_elements vs h)
  element-holds _ _ h = tt

  binary-holds : (op : BinOp) (v w : PureValue) → Holds v → Holds w → HoldsIfValue (binary op v w)
  binary-holds Add v w h k = on_integers-holds _ (λ m n. each-nil) v w
  binary-holds Subtract v w h k = on_integers-holds _ (λ m n. each-nil) v w
  binary-holds Multiply v w h k = on_integers-holds _ (λ m n. each-nil) v w
  binary-holds Divide v w h k = on_integers-holds _ (λ m n. choice-holds (int_eq n (pos 0)) _ _ tt each-nil) v w
  binary-holds Remainder v w h k = on_integers-holds _ (λ m n. choice-holds (int_eq n (pos 0)) _ _ tt each-nil) v w
  binary-holds Equal v w h k = each-nil
  binary-holds Less v w h k = on_integers-holds _ (λ m n. each-nil) v w
  binary-holds LessOrEqual v w h k = on_integers-holds _ (λ m n. each-nil) v w
  binary-holds And v w h k = on_booleans-holds _ (λ a b. each-nil) v w
  binary-holds Or v w h k = on_booleans-holds _ (λ a b. each-nil) v w
  binary-holds Append v w h k = appended-holds v w h k
  binary-holds Nth v w h k = element-holds v w h

  -- ---- expressions

  spellable-holds : (v : PureValue) → is_spellable v ≡ true → Holds v
  spellable-holds (integer n) is = each-nil
  spellable-holds (boolean b) is = each-nil
  spellable-holds (text cs) is = each-nil
  spellable-holds (symbol n) is = absurd (true≢false (sym is))
  spellable-holds (kind k) is = each-nil
  spellable-holds (procedure f) is = each-nil
  spellable-holds (list vs) is = absurd (true≢false (sym is))

  set_or_fault-holds : (o : Option PureValue) → ((w : PureValue) → o ≡ Some w → Holds w) → HoldsIfValue (set_or_fault o)
  set_or_fault-holds None h = tt
  set_or_fault-holds (Some w) h = h w refl

  after_value-holds : (r : Outcome) (go_on : PureValue → Outcome) → HoldsIfValue r → ((v : PureValue) → Holds v → HoldsIfValue (go_on v)) → HoldsIfValue (after_value r go_on)
  after_value-holds (Ok v) go_on h k = k v h
  after_value-holds (Err f) go_on h k = tt

  both-holds : (r : Outcome) (rs : Outcomes) → HoldsIfValue r → HoldsIfValues rs → HoldsIfValues (both r rs)
  both-holds (Ok v) (Ok vs) h k = (h, k)
  both-holds (Ok v) (Err f) h k = tt
  both-holds (Err f) rs h k = tt

  as_list-holds : (rs : Outcomes) → HoldsIfValues rs → HoldsIfValue (as_list rs)
  as_list-holds (Ok vs) h = holds_of_list vs h
  as_list-holds (Err f) h = tt

  abbrev AreWellMade : List PureExpr → Type 0
  AreWellMade es = list_all is_well_made_node es ≡ true

  made_left : (ds es : List PureExpr) → AreWellMade (ds ++ es) → AreWellMade ds
  made_left ds es made = first_so _ _ (sym (list_all-append is_well_made_node ds es) ∙ made)

  made_right : (ds es : List PureExpr) → AreWellMade (ds ++ es) → AreWellMade es
  made_right ds es made = second_so _ _ (sym (list_all-append is_well_made_node ds es) ∙ made)

  mutual
    pub evaluate-holds : (e : PureExpr) (s : Store) → is_well_made_expr e ≡ true → HoldsInStore s → HoldsIfValue (evaluate e s)
    evaluate-holds (literal v) s made h = spellable-holds v (first_so (is_spellable v) true made)
    evaluate-holds (name x) s made h = set_or_fault-holds (value_of s x) (h x)
    evaluate-holds (logical x) s made h = set_or_fault-holds (value_of s x) (h x)
    evaluate-holds (list_of es) s made h = as_list-holds (evaluate_elements es s) (elements-hold es s made h)
    evaluate-holds (unary_of op e) s made h = after_value-holds (evaluate e s) _ (evaluate-holds e s made h) (λ v k. unary-holds op v)
    evaluate-holds (binary_of op d e) s made h =
        let left = evaluate-holds d s (made_left (subexpressions d) (subexpressions e) made) h in
        let right = evaluate-holds e s (made_right (subexpressions d) (subexpressions e) made) h in
        after_value-holds (evaluate d s) _ left (λ v k. after_value-holds (evaluate e s) _ right (λ w l. binary-holds op v w k l))

    pub elements-hold : (es : PureExprs) (s : Store) → list_all is_well_made_node (subexpressions_of_all es) ≡ true → HoldsInStore s → HoldsIfValues (evaluate_elements es s)
    elements-hold no_exprs s made h = tt
    elements-hold (expr_and e es) s made h =
        let first = evaluate-holds e s (made_left (subexpressions e) (subexpressions_of_all es) made) h in
        let rest = elements-hold es s (made_right (subexpressions e) (subexpressions_of_all es) made) h in
        both-holds (evaluate e s) (evaluate_elements es s) first rest

  made_and : (a b : Bool) → a ≡ true → b ≡ true → (a && b) ≡ true
  made_and true b h k = k
  made_and false b h k = absurd (true≢false (sym h))

  made_elements : (es : List PureExpr) → list_all is_well_made_expr es ≡ true → AreWellMade (subexpressions_of_all (from_list es))
  made_elements [] made = refl
  made_elements (e ∷ es) made =
      list_all-append is_well_made_node (subexpressions e) (subexpressions_of_all (from_list es))
      ∙ made_and _ _ (first_so (is_well_made_expr e) _ made) (made_elements es (second_so (is_well_made_expr e) _ made))

  pub evaluate_all-holds : (es : List PureExpr) (s : Store) → list_all is_well_made_expr es ≡ true → HoldsInStore s → HoldsIfValues (evaluate_all es s)
  evaluate_all-holds es s made h = elements-hold (from_list es) s (made_elements es made) h

  pub each_of_all : (vs : List PureValue) → HoldsOfAll vs → Each (symbols_of_all vs)
  each_of_all [] h = each-nil
  each_of_all (v ∷ vs) h = each-append (symbols v) (symbols_of_all vs) h.0 (each_of_all vs h.1)

  pub all_of_each : (vs : List PureValue) → Each (symbols_of_all vs) → HoldsOfAll vs
  all_of_each [] h = tt
  all_of_each (v ∷ vs) h = (each-left (symbols v) (symbols_of_all vs) h, all_of_each vs (each-right (symbols v) (symbols_of_all vs) h))

pub invents_no_symbol : InventsNoSymbol
invents_no_symbol e s v n made is occurs =
    let P : ℕ → Type 0 = λ m. (x : List ℕ) × ((w : PureValue) × ((value_of s x ≡ Some w) × OccursIn m w)) in
    subst (HoldsIfValue P) is (evaluate-holds P e s made (λ x w has m within. (x, (w, (has, within))))) n occurs
