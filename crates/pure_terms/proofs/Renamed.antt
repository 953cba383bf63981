-- Other names for symbols give other names in values, and keep truth and what is proper.
use Rattle.std.proofs.Common.{◌≡◌, ⊎_elim, ℕ, zero, suc, ℤ, pos, negsuc, List, [], ◌∷◌, ◌++◌, map, length, Bool, true, false, cond, ◌&&◌, eqb, Option, Some, None, Ok, Err, slice_get, refl, sym, ap, ◌∙◌, subst, arith}
use Rattle.std.specs.Option.{is_some, option_map, option_and_then}
use Rattle.std.specs.Ordering.{int_eq}
use Rattle.std.specs.Result.{result_ok}
use Rattle.std.specs.List.{Contains}
use Rattle.std.proofs.lemmas.Bool.{cases_eq, eq-eqb, ne_eqb}
use Rattle.std.proofs.lemmas.List.{length-map, map-append}
use Rattle.std.proofs.lemmas.List.Elements.{Contains-append_left, Contains-append_right, Contains-append_cases, Contains-push}
use Rattle.std.proofs.lemmas.Option.{slice_get-map}
use Rattle.gil_values.specs.declared.operators.UnOp.{UnOp}
use Rattle.gil_values.specs.declared.operators.BinOp.{BinOp}
use Rattle.gil_values.specs.Equality.{same_value, same_values}
use Rattle.gil_values.specs.Operators.{Outcome, on_integers, on_booleans, appended, element_or_fault, element_at, element, negation, opposite, size, unary, binary}
use Rattle.gil_values.specs.Pure.{PureValue, integer, boolean, text, symbol, kind, procedure, list, PureValues, no_values, value_and, kind_of, from_list, to_list}
use Rattle.gil_values.specs.Symbols.{symbols, symbols_of_elements, symbols_of_all, OccursIn}
use Rattle.gil_values.proofs.OperatorSymbols.{none_contained, Each, Holds, HoldsOfAll, each-left, each-right, all_of_each}
use Rattle.pure_terms.specs.declared.literals.Literal.{Literal}
use Rattle.pure_terms.specs.declared.variables.Sort.{Sort}
use Rattle.pure_terms.specs.declared.variables.Var.{Var}
use Rattle.pure_terms.specs.Kinds.{kind_of_sort, allows}
use Rattle.pure_terms.specs.Laws.{RenamingKeeps}
use Rattle.pure_terms.specs.Meaning.{literal_value, both, value, values, is_that_boolean, truth, IsProper}
use Rattle.pure_terms.specs.Pure.{PureTerm, literal, variable, list_of, unary_of, binary_of, PureTerms, no_terms, term_and, PureAtom, positive, negative, opening, variables}
use Rattle.pure_terms.specs.Renaming.{renamed, renamed_elements, IsOneToOneOn}
use Rattle.pure_terms.proofs.SymbolLaws.{HoldsIfSome, HoldsOfVariables, value-holds}

-- a value of the list has symbols of the list alone
holds_at : (P : ℕ → Type 0) (vs : List PureValue) (i : ℕ) (w : PureValue) → HoldsOfAll P vs → slice_get vs i ≡ Some w → Holds P w
holds_at P [] i w h is = cc
holds_at P (v ∷ vs) zero w h is = let same : v ≡ w = cc in subst (Holds P) same h.0
holds_at P (v ∷ vs) (suc i) w h is = holds_at P vs i w h.1 is

module _ (f : ℕ → ℕ) where
  renamed_outcome : Outcome → Outcome
  renamed_outcome (Ok v) = Ok (renamed f v)
  renamed_outcome (Err e) = Err e

  kind_of-renamed : (v : PureValue) → kind_of (renamed f v) ≡ kind_of v
  kind_of-renamed (integer n) = refl
  kind_of-renamed (boolean b) = refl
  kind_of-renamed (text cs) = refl
  kind_of-renamed (symbol n) = refl
  kind_of-renamed (kind k) = refl
  kind_of-renamed (procedure name) = refl
  kind_of-renamed (list vs) = refl

  to_list-renamed : (vs : PureValues) → to_list (renamed_elements f vs) ≡ map (renamed f) (to_list vs)
  to_list-renamed no_values = refl
  to_list-renamed (value_and v vs) = ap (λ rest. renamed f v ∷ rest) (to_list-renamed vs)

  from_list-renamed : (vs : List PureValue) → from_list (map (renamed f) vs) ≡ renamed_elements f (from_list vs)
  from_list-renamed [] = refl
  from_list-renamed (v ∷ vs) = ap (value_and (renamed f v)) (from_list-renamed vs)

  length-renamed : (vs : PureValues) → length (to_list (renamed_elements f vs)) ≡ length (to_list vs)
  length-renamed no_values = refl
  length-renamed (value_and v vs) = ap suc (length-renamed vs)

  -- ---- operators

  negation-renamed : (v : PureValue) → negation (renamed f v) ≡ renamed_outcome (negation v)
  unfolding renamed_outcome
  negation-renamed (boolean b) = refl
  negation-renamed (integer n) = refl
  negation-renamed (text cs) = refl
  negation-renamed (symbol n) = refl
  negation-renamed (kind k) = refl
  negation-renamed (procedure name) = refl
  negation-renamed (list vs) = refl

  opposite-renamed : (v : PureValue) → opposite (renamed f v) ≡ renamed_outcome (opposite v)
  unfolding renamed_outcome
  opposite-renamed (boolean b) = refl
  opposite-renamed (integer n) = refl
  opposite-renamed (text cs) = refl
  opposite-renamed (symbol n) = refl
  opposite-renamed (kind k) = refl
  opposite-renamed (procedure name) = refl
  opposite-renamed (list vs) = refl

  size-renamed : (v : PureValue) → size (renamed f v) ≡ renamed_outcome (size v)
  unfolding renamed_outcome
  size-renamed (boolean b) = refl
  size-renamed (integer n) = refl
  size-renamed (text cs) = refl
  size-renamed (symbol n) = refl
  size-renamed (kind k) = refl
  size-renamed (procedure name) = refl
  size-renamed (list vs) = ap (λ n. Ok (integer (pos n))) (length-renamed vs)

  unary-renamed : (op : UnOp) (v : PureValue) → unary op (renamed f v) ≡ renamed_outcome (unary op v)
  unfolding renamed_outcome
  unary-renamed UnOp.Not v = negation-renamed v
  unary-renamed UnOp.Neg v = opposite-renamed v
  unary-renamed UnOp.Len v = size-renamed v
  unary-renamed UnOp.Kind v = ap (λ k. Ok (kind k)) (kind_of-renamed v)

  -- an outcome that has no symbol
  abbrev IsSymbolFree : Outcome → Type 0
  IsSymbolFree r = r ≡ renamed_outcome r

  on_integers-renamed : (g : ℤ → ℤ → Outcome) → ((m n : ℤ) → IsSymbolFree (g m n)) → (v w : PureValue) → on_integers g (renamed f v) (renamed f w) ≡ renamed_outcome (on_integers g v w)
  unfolding renamed_outcome
  on_integers-renamed g h (integer m) (integer n) = h m n
  on_integers-renamed g h v w = refl

  on_booleans-renamed : (g : Bool → Bool → Outcome) → ((a b : Bool) → IsSymbolFree (g a b)) → (v w : PureValue) → on_booleans g (renamed f v) (renamed f w) ≡ renamed_outcome (on_booleans g v w)
  unfolding renamed_outcome
  on_booleans-renamed g h (boolean a) (boolean b) = h a b
  on_booleans-renamed g h v w = refl

  choice-symbol_free : (b : Bool) (r t : Outcome) → IsSymbolFree r → IsSymbolFree t → IsSymbolFree (cond b r t)
  choice-symbol_free true r t h k = h
  choice-symbol_free false r t h k = k

  appended-renamed : (v w : PureValue) → appended (renamed f v) (renamed f w) ≡ renamed_outcome (appended v w)
  unfolding renamed_outcome
  appended-renamed (text s) (text t) = refl
  appended-renamed (list vs) (list ws) =
      ap (λ us. Ok (list (from_list us))) ((λ i. to_list-renamed vs i ++ to_list-renamed ws i) ∙ sym (map-append (renamed f) (to_list vs) (to_list ws)))
      ∙ ap (λ us. Ok (list us)) (from_list-renamed (to_list vs ++ to_list ws))
  appended-renamed v w = refl

  at-renamed : (vs : List PureValue) (i : ℕ) → element_or_fault (slice_get (map (renamed f) vs) i) ≡ renamed_outcome (element_or_fault (slice_get vs i))
  unfolding renamed_outcome
  at-renamed [] i = refl
  at-renamed (v ∷ vs) zero = refl
  at-renamed (v ∷ vs) (suc i) = at-renamed vs i

  element_at-renamed : (vs : PureValues) (i : ℤ) → element_at (to_list (renamed_elements f vs)) i ≡ renamed_outcome (element_at (to_list vs) i)
  unfolding renamed_outcome
  element_at-renamed vs (pos i) = ap (λ us. element_or_fault (slice_get us i)) (to_list-renamed vs) ∙ at-renamed (to_list vs) i
  element_at-renamed vs (negsuc i) = refl

  element-renamed : (v w : PureValue) → element (renamed f v) (renamed f w) ≡ renamed_outcome (element v w)
  unfolding renamed_outcome
  element-renamed (list vs) (integer i) = element_at-renamed vs i
  element-renamed v w = refl

  -- ---- equality, where the names stay apart

  module _ (ns : List ℕ) (apart : IsOneToOneOn ns f) where
    symbol-apart : (m n : ℕ) → Contains ns m → Contains ns n → eqb (f m) (f n) ≡ eqb m n
    symbol-apart m n hm hn =
        ⊎_elim (λ same. eq-eqb (f m) (f n) (ap f same) ∙ sym (eq-eqb m n same))
        (λ differ. ne_eqb (f m) (f n) (λ e. differ (apart m n hm hn e)) ∙ sym (ne_eqb m n differ))
        (cases_eq m n)

    mutual
      same_value-renamed : (v w : PureValue) → Holds (Contains ns) v → Holds (Contains ns) w → same_value (renamed f v) (renamed f w) ≡ same_value v w
      same_value-renamed (symbol m) (symbol n) h k = symbol-apart m n (h m (Contains-push [] m)) (k n (Contains-push [] n))
      same_value-renamed (list vs) (list ws) h k = same_values-renamed vs ws h k
      same_value-renamed (integer m) (integer n) h k = refl
      same_value-renamed (boolean a) (boolean b) h k = refl
      same_value-renamed (text s) (text t) h k = refl
      same_value-renamed (kind k) (kind l) h g = refl
      same_value-renamed (procedure s) (procedure t) h k = refl
      same_value-renamed v w h k = refl

      same_values-renamed : (vs ws : PureValues) → Each (Contains ns) (symbols_of_elements vs) → Each (Contains ns) (symbols_of_elements ws) → same_values (renamed_elements f vs) (renamed_elements f ws) ≡ same_values vs ws
      same_values-renamed (value_and v vs) (value_and w ws) h k =
          let first = same_value-renamed v w (each-left (Contains ns) (symbols v) _ h) (each-left (Contains ns) (symbols w) _ k) in
          let rest = same_values-renamed vs ws (each-right (Contains ns) (symbols v) _ h) (each-right (Contains ns) (symbols w) _ k) in
          λ i. first i && rest i
      same_values-renamed no_values no_values h k = refl
      same_values-renamed no_values (value_and w ws) h k = refl
      same_values-renamed (value_and v vs) no_values h k = refl

    binary-renamed : (op : BinOp) (v w : PureValue) → Holds (Contains ns) v → Holds (Contains ns) w → binary op (renamed f v) (renamed f w) ≡ renamed_outcome (binary op v w)
    unfolding renamed_outcome
    binary-renamed BinOp.Add v w h k = on_integers-renamed _ (λ m n. refl) v w
    binary-renamed BinOp.Subtract v w h k = on_integers-renamed _ (λ m n. refl) v w
    binary-renamed BinOp.Multiply v w h k = on_integers-renamed _ (λ m n. refl) v w
    binary-renamed BinOp.Divide v w h k = on_integers-renamed _ (λ m n. choice-symbol_free (int_eq n (pos 0)) _ _ refl refl) v w
    binary-renamed BinOp.Remainder v w h k = on_integers-renamed _ (λ m n. choice-symbol_free (int_eq n (pos 0)) _ _ refl refl) v w
    binary-renamed BinOp.Equal v w h k = ap (λ b. Ok (boolean b)) (same_value-renamed v w h k)
    binary-renamed BinOp.Less v w h k = on_integers-renamed _ (λ m n. refl) v w
    binary-renamed BinOp.LessOrEqual v w h k = on_integers-renamed _ (λ m n. refl) v w
    binary-renamed BinOp.And v w h k = on_booleans-renamed _ (λ a b. refl) v w
    binary-renamed BinOp.Or v w h k = on_booleans-renamed _ (λ a b. refl) v w
    binary-renamed BinOp.Append v w h k = appended-renamed v w
    binary-renamed BinOp.Nth v w h k = element-renamed v w

    -- ---- terms

    literal-renamed : (l : Literal) → Some (literal_value l) ≡ option_map (renamed f) (Some (literal_value l))
    literal-renamed (Literal.Int n) = refl
    literal-renamed (Literal.Bool b) = refl
    literal-renamed (Literal.Str cs) = refl
    literal-renamed (Literal.Kind k) = refl
    literal-renamed (Literal.Proc name) = refl

    of_result : (r : Outcome) → result_ok (renamed_outcome r) ≡ option_map (renamed f) (result_ok r)
    unfolding renamed_outcome
    of_result (Ok w) = refl
    of_result (Err e) = refl

    of_list : (o : Option (List PureValue)) → option_map (λ ws. list (from_list ws)) (option_map (map (renamed f)) o) ≡ option_map (renamed f) (option_map (λ ws. list (from_list ws)) o)
    of_list (Some ws) = ap (λ us. Some (list us)) (from_list-renamed ws)
    of_list None = refl

    of_unary : (op : UnOp) (a : Option PureValue) → option_and_then (λ u. result_ok (unary op u)) (option_map (renamed f) a) ≡ option_map (renamed f) (option_and_then (λ u. result_ok (unary op u)) a)
    of_unary op (Some u) = ap result_ok (unary-renamed op u) ∙ of_result (unary op u)
    of_unary op None = refl

    of_binary : (op : BinOp) (a b : Option PureValue) → HoldsIfSome (Contains ns) a → HoldsIfSome (Contains ns) b →
        option_and_then (λ u. option_and_then (λ w. result_ok (binary op u w)) (option_map (renamed f) b)) (option_map (renamed f) a)
        ≡ option_map (renamed f) (option_and_then (λ u. option_and_then (λ w. result_ok (binary op u w)) b) a)
    of_binary op (Some u) (Some w) h k = ap result_ok (binary-renamed op u w h k) ∙ of_result (binary op u w)
    of_binary op (Some u) None h k = refl
    of_binary op None b h k = refl

    of_both : (a : Option PureValue) (b : Option (List PureValue)) → both (option_map (renamed f) a) (option_map (map (renamed f)) b) ≡ option_map (map (renamed f)) (both a b)
    of_both (Some w) (Some ws) = refl
    of_both (Some w) None = refl
    of_both None b = refl

    module _ (v : List PureValue) (within : HoldsOfAll (Contains ns) v) where
      all_within : (xs : List Var) → HoldsOfVariables (Contains ns) v xs
      all_within xs x has w is = holds_at (Contains ns) v x.number w within is

      mutual
        pub value-renamed : (t : PureTerm) → value (map (renamed f) v) t ≡ option_map (renamed f) (value v t)
        value-renamed (literal l) = literal-renamed l
        value-renamed (variable x) = slice_get-map (renamed f) v x.number
        value-renamed (list_of ts) = ap (option_map (λ ws. list (from_list ws))) (values-renamed ts) ∙ of_list (values v ts)
        value-renamed (unary_of op t) = ap (option_and_then (λ u. result_ok (unary op u))) (value-renamed t) ∙ of_unary op (value v t)
        value-renamed (binary_of op s t) =
            let left = value-renamed s in
            let right = value-renamed t in
            (λ i. option_and_then (λ u. option_and_then (λ w. result_ok (binary op u w)) (right i)) (left i))
            ∙ of_binary op (value v s) (value v t) (value-holds (Contains ns) v s (all_within (variables s))) (value-holds (Contains ns) v t (all_within (variables t)))

        values-renamed : (ts : PureTerms) → values (map (renamed f) v) ts ≡ option_map (map (renamed f)) (values v ts)
        values-renamed no_terms = refl
        values-renamed (term_and t ts) =
            let first = value-renamed t in
            let rest = values-renamed ts in
            (λ i. both (first i) (rest i)) ∙ of_both (value v t) (values v ts)

      boolean-renamed : (b : Bool) (o : Option PureValue) → is_that_boolean b (option_map (renamed f) o) ≡ is_that_boolean b o
      boolean-renamed true (Some (boolean b)) = refl
      boolean-renamed true (Some (integer n)) = refl
      boolean-renamed true (Some (text cs)) = refl
      boolean-renamed true (Some (symbol n)) = refl
      boolean-renamed true (Some (kind k)) = refl
      boolean-renamed true (Some (procedure name)) = refl
      boolean-renamed true (Some (list vs)) = refl
      boolean-renamed true None = refl
      boolean-renamed false (Some (boolean b)) = refl
      boolean-renamed false (Some (integer n)) = refl
      boolean-renamed false (Some (text cs)) = refl
      boolean-renamed false (Some (symbol n)) = refl
      boolean-renamed false (Some (kind k)) = refl
      boolean-renamed false (Some (procedure name)) = refl
      boolean-renamed false (Some (list vs)) = refl
      boolean-renamed false None = refl

      is_some-renamed : (o : Option PureValue) → is_some (option_map (renamed f) o) ≡ is_some o
      is_some-renamed (Some w) = refl
      is_some-renamed None = refl

      pub truth-renamed : (a : PureAtom) → truth (map (renamed f) v) a ≡ truth v a
      truth-renamed (positive t) = ap (is_that_boolean true) (value-renamed t) ∙ boolean-renamed true (value v t)
      truth-renamed (negative t) = ap (is_that_boolean false) (value-renamed t) ∙ boolean-renamed false (value v t)
      truth-renamed (opening t) = ap is_some (value-renamed t) ∙ is_some-renamed (value v t)

pub contains-map : {X Y : Type 0} (g : X → Y) (xs : List X) (y : Y) → Contains (map g xs) y → (x : X) × (Contains xs x × (g x ≡ y))
contains-map g [] y has = absurd (none_contained y has)
contains-map g (x ∷ xs) y has =
    ⊎_elim (λ here. (x, (Contains-append_left (x ∷ []) xs x (Contains-push [] x), only g x y here)))
    (λ there. let (z, (within, is)) = contains-map g xs y there in (z, (Contains-append_right (x ∷ []) xs z within, is)))
    (Contains-append_cases (g x ∷ []) (map g xs) y has) where
      only : {X Y : Type 0} (g : X → Y) (x : X) (y : Y) → Contains (g x ∷ []) y → g x ≡ y
      only g x y (zero, below, is) = is
      only g x y (suc k, below, is) = absurd (omega (arith, below))

-- ---- proper valuations

mutual
  symbols-renamed : (f : ℕ → ℕ) (v : PureValue) → symbols (renamed f v) ≡ map f (symbols v)
  symbols-renamed f (symbol n) = refl
  symbols-renamed f (list vs) = symbols_of_elements-renamed f vs
  symbols-renamed f (integer n) = refl
  symbols-renamed f (boolean b) = refl
  symbols-renamed f (text cs) = refl
  symbols-renamed f (kind k) = refl
  symbols-renamed f (procedure name) = refl

  symbols_of_elements-renamed : (f : ℕ → ℕ) (vs : PureValues) → symbols_of_elements (renamed_elements f vs) ≡ map f (symbols_of_elements vs)
  symbols_of_elements-renamed f no_values = refl
  symbols_of_elements-renamed f (value_and v vs) =
      (λ i. symbols-renamed f v i ++ symbols_of_elements-renamed f vs i) ∙ sym (map-append f (symbols v) (symbols_of_elements vs))

-- the value at a place before the symbols got other names
abbrev pub Was : (ℕ → ℕ) → PureValue → Option PureValue → Type 0
Was f w o = (u : PureValue) × ((o ≡ Some u) × (w ≡ renamed f u))

was_some : (f : ℕ → ℕ) (w : PureValue) (o : Option PureValue) → option_map (renamed f) o ≡ Some w → Was f w o
was_some f w (Some u) e = (u, (refl, cc))
was_some f w None e = cc

was_at : (f : ℕ → ℕ) (v : List PureValue) (x : ℕ) (w : PureValue) → slice_get (map (renamed f) v) x ≡ Some w → Was f w (slice_get v x)
was_at f v x w is = was_some f w (slice_get v x) (sym (slice_get-map (renamed f) v x) ∙ is)

was_symbol : (f : ℕ → ℕ) (n : ℕ) (u : PureValue) → symbol n ≡ renamed f u → (m : ℕ) × ((u ≡ symbol m) × (n ≡ f m))
was_symbol f n (symbol m) e = (m, (refl, cc))
was_symbol f n (integer m) e = cc
was_symbol f n (boolean b) e = cc
was_symbol f n (text cs) e = cc
was_symbol f n (kind k) e = cc
was_symbol f n (procedure name) e = cc
was_symbol f n (list vs) e = cc

proper-renamed : (f : ℕ → ℕ) (vars : List Sort) (v : List PureValue) → IsOneToOneOn (symbols_of_all v) f → IsProper vars v → IsProper vars (map (renamed f) v)
proper-renamed f vars v apart proper = record {
  one_each = length-map v (renamed f) ∙ proper.one_each;
  sorts = λ x s w has is.
      let (u, (at, same)) = was_at f v x w is in
      ap (λ k. allows (kind_of_sort s) k) (ap kind_of same ∙ kind_of-renamed f u) ∙ proper.sorts x s u has at;
  fresh = λ x y n w has is below at occurs.
      let (u, (at_x, same_x)) = was_at f v x (symbol n) is in
      let (m, (is_symbol, new)) = was_symbol f n u same_x in
      let (z, (at_y, same_y)) = was_at f v y w at in
      let in_z : Contains (map f (symbols z)) n = subst (λ ns. Contains ns n) (ap symbols same_y ∙ symbols-renamed f z) occurs in
      let (k, (within_z, is_n)) = contains-map f (symbols z) n in_z in
      let all : HoldsOfAll (Contains (symbols_of_all v)) v = all_of_each (Contains (symbols_of_all v)) v (λ j j_has. j_has) in
      let k_has : Contains (symbols_of_all v) k = holds_at (Contains (symbols_of_all v)) v y z all at_y k within_z in
      let m_has : Contains (symbols_of_all v) m = holds_at (Contains (symbols_of_all v)) v x (symbol m) all (at_x ∙ ap Some is_symbol) m (Contains-push [] m) in
      let same : k ≡ m = apart k m k_has m_has (is_n ∙ new) in
      proper.fresh x y m z has (at_x ∙ ap Some is_symbol) below at_y (subst (λ j. OccursIn j z) same within_z);
}

pub renaming_keeps : RenamingKeeps
renaming_keeps = record {
  values = λ f v t apart. value-renamed f (symbols_of_all v) apart v (all_of_each (Contains (symbols_of_all v)) v (λ n has. has)) t;
  truths = λ f v a apart. truth-renamed f (symbols_of_all v) apart v (all_of_each (Contains (symbols_of_all v)) v (λ n has. has)) a;
  proper = proper-renamed;
}
