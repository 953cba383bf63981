-- What is read off a valuation is the value.
use Rattle.std.proofs.Common.{◌≡◌, slice_get, ℤ, ◌+ℤ◌, ◌-ℤ◌, List, [], ◌∷◌, Bool, true, false, ◌&&◌, not, if◌then◌else◌, Option, Some, None, IfSome, refl, sym, ap, ◌∙◌}
use Rattle.std.specs.Option.{is_some, option_map, option_and_then}
use Rattle.std.specs.Result.{result_ok}
use Rattle.std.proofs.lemmas.Bool.{false≢true, and_parts, or_from}
use Rattle.gil_values.specs.declared.operators.BinOp.{BinOp}
use Rattle.gil_values.specs.declared.kinds.Kind.{Kind}
use Rattle.gil_values.specs.declared.operators.UnOp.{UnOp}
use Rattle.gil_values.specs.Equality.{same_kind, same_value, same_values}
use Rattle.gil_values.specs.EqualityLaws.{same_value-same, same_value-Decides}
use Rattle.gil_values.specs.Operators.{unary, binary}
use Rattle.gil_values.specs.Pure.{PureValue, integer, boolean, text, symbol, kind, procedure, list, kind_of, PureValues, no_values, value_and, from_list}
use Rattle.pure_terms.specs.declared.literals.Literal.{Literal}
use Rattle.pure_terms.specs.Direct.{held, integer_in, shifted, number_at, is_readable, are_readable, is_number, is_same, is_at, are_at, is_at_some, is_at_number, are_same, lists_are_same, boolean_in, is_kind_at, kind_at, equal_at, either_truth, ordered, compared_at, truth_at}
use Rattle.pure_terms.specs.Meaning.{literal_value, both, value, values}
use Rattle.pure_terms.specs.Numbers.{is_held}
use Rattle.pure_terms.specs.Pure.{PureTerm, literal, variable, list_of, unary_of, binary_of, PureTerms, no_terms, term_and}
use Rattle.pure_terms.specs.Truth.{AreNarrow}
use Rattle.pure_terms.specs.Wide.{is_wide, has_wide_part}
use Rattle.pure_terms.proofs.Evaluated.{wide-binary}
use Rattle.pure_terms.proofs.SimpleLaws.{HasValue}

-- ---- whole numbers

held-is : (k n : ℤ) (b : Bool) → is_held k ≡ b → (if b then Some k else None) ≡ Some n → (k ≡ n) × (is_held n ≡ true)
held-is k n true held is = let same : k ≡ n = cc in (same, ap is_held (sym same) ∙ held)
held-is k n false held is = absurd (cc)

-- one number plus or minus another is by the operator table, and is held
pub record IsShifted (op : BinOp) (l r : Option ℤ) (n : ℤ) : Type 0 where
  pub left : ℤ
  pub right : ℤ
  pub has_left : l ≡ Some left
  pub has_right : r ≡ Some right
  pub computes : result_ok (binary op (integer left) (integer right)) ≡ Some (integer n)
  pub is_narrow : is_held n ≡ true

pub shifted-is : (op : BinOp) (l r : Option ℤ) (n : ℤ) → shifted op l r ≡ Some n → IsShifted op l r n
shifted-is BinOp.Add (Some m) (Some k) n is =
    let found = held-is (m +ℤ k) n (is_held (m +ℤ k)) refl is in
    record { left = m; right = k; has_left = refl; has_right = refl; computes = ap (λ z. Some (integer z)) found.0; is_narrow = found.1 }
shifted-is BinOp.Subtract (Some m) (Some k) n is =
    let found = held-is (m -ℤ k) n (is_held (m -ℤ k)) refl is in
    record { left = m; right = k; has_left = refl; has_right = refl; computes = ap (λ z. Some (integer z)) found.0; is_narrow = found.1 }
shifted-is BinOp.Add None r n is = absurd (cc)
shifted-is BinOp.Add (Some m) None n is = absurd (cc)
shifted-is BinOp.Subtract None r n is = absurd (cc)
shifted-is BinOp.Subtract (Some m) None n is = absurd (cc)
shifted-is op l r n is = absurd (cc)

pub binary-value : (v : List PureValue) (op : BinOp) (s t : PureTerm) (a b : PureValue) → value v s ≡ Some a → value v t ≡ Some b → value v (binary_of op s t) ≡ result_ok (binary op a b)
binary-value v op s t a b left right = λ i. option_and_then (λ u. option_and_then (λ w. result_ok (binary op u w)) (right i)) (left i)

integer-in : (o : Option PureValue) (n : ℤ) → integer_in o ≡ Some n → o ≡ Some (integer n)
integer-in (Some (integer m)) n is = ap (option_map integer) is
integer-in (Some w) n is = absurd (cc)
integer-in None n is = absurd (cc)

if_some : {X : Type 0} (P : Type 0) (o : Option X) (x : X) → o ≡ Some x → IfSome o (λ _. P) → P
if_some P (Some y) x is h = h
if_some P None x is h = absurd (cc)

pub number-value : (v : List PureValue) (t : PureTerm) (n : ℤ) → number_at v t ≡ Some n → value v t ≡ Some (integer n)
number-value v (literal (Literal.Int m)) n is = ap (λ o. option_map integer o) is
number-value v (literal l) n is = absurd (cc)
number-value v (variable x) n is = integer-in _ n is
number-value v (list_of ts) n is = absurd (cc)
number-value v (unary_of op t) n is = absurd (cc)
number-value v (binary_of op s t) n is =
    let found = shifted-is op (number_at v s) (number_at v t) n is in
    binary-value v op s t (integer found.left) (integer found.right) (number-value v s found.left found.has_left) (number-value v t found.right found.has_right)
    ∙ found.computes

-- a number that is made is held, and so are its parts
pub shift-narrow : (v : List PureValue) (op : BinOp) (s t : PureTerm) (l r o : Option ℤ) → l ≡ number_at v s → r ≡ number_at v t → o ≡ shifted op l r
    → IfSome l (λ _. has_wide_part v s ≡ false) → IfSome r (λ _. has_wide_part v t ≡ false) → IfSome o (λ _. has_wide_part v (binary_of op s t) ≡ false)
shift-narrow v op s t l r None is_l is_r is_o narrow_l narrow_r = tt
shift-narrow v op s t l r (Some n) is_l is_r is_o narrow_l narrow_r =
    let found = shifted-is op l r n (sym is_o) in
    let whole : value v (binary_of op s t) ≡ Some (integer n) =
    number-value v (binary_of op s t) n (ap (λ x. shifted op x (number_at v t)) (sym is_l) ∙ ap (shifted op l) (sym is_r) ∙ sym is_o) in
    wide-binary v op s t ∙ or_from _ _ (ap is_wide whole ∙ ap not found.is_narrow) (or_from _ _ (if_some (has_wide_part v s ≡ false) l found.left found.has_left narrow_l)
    (if_some (has_wide_part v t ≡ false) r found.right found.has_right narrow_r))

-- ---- simple terms

some-value : {X : Type 0} (o : Option X) → is_some o ≡ true → HasValue o
some-value (Some x) is = (x, refl)
some-value None is = absurd (false≢true is)

both-value : (a : Option PureValue) (b : Option (List PureValue)) → HasValue a → HasValue b → HasValue (both a b)
both-value a b (w, left) (ws, right) = (w ∷ ws, λ i. both (left i) (right i))

mutual
  pub readable-value : (v : List PureValue) (t : PureTerm) → is_readable v t ≡ true → HasValue (value v t)
  readable-value v (literal l) is = (literal_value l, refl)
  readable-value v (variable x) is = some-value (slice_get v x.number) is
  readable-value v (list_of ts) is =
      let all = readable-values v ts is in
      (list (from_list all.0), ap (option_map (λ ws. list (from_list ws))) all.1)
  readable-value v (unary_of op t) is = absurd (false≢true is)
  readable-value v (binary_of op s t) is =
      let number = some-value (number_at v (binary_of op s t)) is in
      (integer number.0, number-value v (binary_of op s t) number.0 number.1)

  pub readable-values : (v : List PureValue) (ts : PureTerms) → are_readable v ts ≡ true → HasValue (values v ts)
  readable-values v no_terms is = ([], refl)
  readable-values v (term_and t ts) is =
      let parts = and_parts (is_readable v t) (are_readable v ts) is in
      both-value (value v t) (values v ts) (readable-value v t parts.0) (readable-values v ts parts.1)

-- two values of one option are one
one-value : {X : Type 0} (o : Option X) (x y : X) → o ≡ Some x → o ≡ Some y → x ≡ y
one-value o x y first second = cc

is_at-list : (v : List PureValue) (ts : PureTerms) (us : List PureValue) (w : PureValue) → ((ws : PureValues) → are_at v ts ws ≡ same_values (from_list us) ws)
    → is_at v (list_of ts) w ≡ same_value (list (from_list us)) w
is_at-list v ts us (list ws) all = all ws
is_at-list v ts us (integer n) all = refl
is_at-list v ts us (boolean b) all = refl
is_at-list v ts us (text cs) all = refl
is_at-list v ts us (symbol n) all = refl
is_at-list v ts us (kind k) all = refl
is_at-list v ts us (procedure f) all = refl

are_at-next : (v : List PureValue) (t : PureTerm) (ts : PureTerms) (u : PureValue) (us : List PureValue) (ws : PureValues)
    → ((w : PureValue) → is_at v t w ≡ same_value u w) → ((vs : PureValues) → are_at v ts vs ≡ same_values (from_list us) vs)
    → are_at v (term_and t ts) ws ≡ same_values (from_list (u ∷ us)) ws
are_at-next v t ts u us no_values first rest = refl
are_at-next v t ts u us (value_and w ws) first rest = ap (λ b. b && are_at v ts ws) (first w) ∙ ap (λ b. same_value u w && b) (rest ws)

mutual
  pub is_at-value : (v : List PureValue) (t : PureTerm) (u w : PureValue) → is_readable v t ≡ true → value v t ≡ Some u → is_at v t w ≡ same_value u w
  is_at-value v (literal l) u w readable is = ap (λ x. same_value x w) (one-value (Some (literal_value l)) (literal_value l) u refl is)
  is_at-value v (variable x) u w readable is = ap (λ o. is_same o w) is
  is_at-value v (list_of ts) u w readable is =
      let all = readable-values v ts readable in
      let whole : value v (list_of ts) ≡ Some (list (from_list all.0)) = ap (option_map (λ ws. list (from_list ws))) all.1 in
      is_at-list v ts all.0 w (λ ws. are_at-values v ts all.0 ws readable all.1)
      ∙ ap (λ x. same_value x w) (one-value (value v (list_of ts)) (list (from_list all.0)) u whole is)
  is_at-value v (unary_of op t) u w readable is = absurd (false≢true readable)
  is_at-value v (binary_of op s t) u w readable is =
      let number = some-value (number_at v (binary_of op s t)) readable in
      let whole : value v (binary_of op s t) ≡ Some (integer number.0) = number-value v (binary_of op s t) number.0 number.1 in
      ap (λ o. is_number o w) number.1 ∙ ap (λ x. same_value x w) (one-value (value v (binary_of op s t)) (integer number.0) u whole is)

  pub are_at-values : (v : List PureValue) (ts : PureTerms) (us : List PureValue) (ws : PureValues) → are_readable v ts ≡ true → values v ts ≡ Some us
      → are_at v ts ws ≡ same_values (from_list us) ws
  are_at-values v no_terms us no_values readable is = ap (λ xs. same_values (from_list xs) no_values) (one-value (Some []) [] us refl is)
  are_at-values v no_terms us (value_and w ws) readable is = ap (λ xs. same_values (from_list xs) (value_and w ws)) (one-value (Some []) [] us refl is)
  are_at-values v (term_and t ts) us ws readable is =
      let parts = and_parts (is_readable v t) (are_readable v ts) readable in
      let first = readable-value v t parts.0 in
      let rest = readable-values v ts parts.1 in
      let whole : values v (term_and t ts) ≡ Some (first.0 ∷ rest.0) = λ i. both (first.1 i) (rest.1 i) in
      are_at-next v t ts first.0 rest.0 ws (λ w. is_at-value v t first.0 w parts.0 first.1) (λ vs. are_at-values v ts rest.0 vs parts.1 rest.1)
      ∙ ap (λ xs. same_values (from_list xs) ws) (one-value (values v (term_and t ts)) (first.0 ∷ rest.0) us whole is)

-- equality goes both ways
pub same_value-flip : (v w : PureValue) → same_value v w ≡ same_value w v
same_value-flip v w = by (same_value v w) (same_value w v) refl refl where
  by : (a b : Bool) → same_value v w ≡ a → same_value w v ≡ b → same_value v w ≡ same_value w v
  by true true one other = one ∙ sym other
  by false false one other = one ∙ sym other
  by true false one other = absurd (false≢true (sym other ∙ (same_value-Decides w v).1 (sym (same_value-same v w one))))
  by false true one other = absurd (false≢true (sym one ∙ (same_value-Decides v w).1 (sym (same_value-same w v other))))

literal-no_list : (us : List PureValue) (l : Literal) → false ≡ same_value (list (from_list us)) (literal_value l)
literal-no_list us (Literal.Int n) = refl
literal-no_list us (Literal.Bool b) = refl
literal-no_list us (Literal.Str cs) = refl
literal-no_list us (Literal.Kind k) = refl
literal-no_list us (Literal.Proc f) = refl

abbrev AreSameLists : List PureValue → PureTerms → List PureValue → Type 0
AreSameLists v ss us = (ts : PureTerms) (ws : List PureValue) → are_readable v ts ≡ true → values v ts ≡ Some ws → lists_are_same v ss ts ≡ same_values (from_list us) (from_list ws)

list-same : (v : List PureValue) (ss : PureTerms) (t : PureTerm) (us : List PureValue) (b : PureValue) → AreSameLists v ss us → ((w : PureValue) → is_at v (list_of ss) w ≡ same_value (list (from_list us)) w)
    → is_readable v t ≡ true → value v t ≡ Some b → are_same v (list_of ss) t ≡ same_value (list (from_list us)) b
list-same v ss (list_of ts) us b lists values_too right is_b =
    let all = readable-values v ts right in
    let whole : value v (list_of ts) ≡ Some (list (from_list all.0)) = ap (option_map (λ ws. list (from_list ws))) all.1 in
    lists ts all.0 right all.1 ∙ ap (same_value (list (from_list us))) (one-value (value v (list_of ts)) (list (from_list all.0)) b whole is_b)
list-same v ss (variable x) us b lists values_too right is_b = ap (is_at_some v (list_of ss)) is_b ∙ values_too b
list-same v ss (literal l) us b lists values_too right is_b =
    literal-no_list us l ∙ ap (same_value (list (from_list us))) (one-value (Some (literal_value l)) (literal_value l) b refl is_b)
list-same v ss (unary_of op t) us b lists values_too right is_b = absurd (false≢true right)
list-same v ss (binary_of op r t) us b lists values_too right is_b =
    let number = some-value (number_at v (binary_of op r t)) right in
    let whole : value v (binary_of op r t) ≡ Some (integer number.0) = number-value v (binary_of op r t) number.0 number.1 in
    ap (same_value (list (from_list us))) (one-value (value v (binary_of op r t)) (integer number.0) b whole is_b)

mutual
  pub are_same-value : (v : List PureValue) (s t : PureTerm) (a b : PureValue) → is_readable v s ≡ true → is_readable v t ≡ true → value v s ≡ Some a → value v t ≡ Some b
      → are_same v s t ≡ same_value a b
  are_same-value v (literal l) t a b left right is_a is_b =
      is_at-value v t b (literal_value l) right is_b ∙ ap (same_value b) (one-value (Some (literal_value l)) (literal_value l) a refl is_a) ∙ same_value-flip b a
  are_same-value v (variable x) t a b left right is_a is_b = ap (is_at_some v t) is_a ∙ is_at-value v t b a right is_b ∙ same_value-flip b a
  are_same-value v (unary_of op s) t a b left right is_a is_b = absurd (false≢true left)
  are_same-value v (binary_of op r s) t a b left right is_a is_b =
      let number = some-value (number_at v (binary_of op r s)) left in
      let whole : value v (binary_of op r s) ≡ Some (integer number.0) = number-value v (binary_of op r s) number.0 number.1 in
      ap (is_at_number v t) number.1 ∙ is_at-value v t b (integer number.0) right is_b
      ∙ ap (same_value b) (one-value (value v (binary_of op r s)) (integer number.0) a whole is_a) ∙ same_value-flip b a
  are_same-value v (list_of ss) t a b left right is_a is_b =
      let all = readable-values v ss left in
      let whole : value v (list_of ss) ≡ Some (list (from_list all.0)) = ap (option_map (λ ws. list (from_list ws))) all.1 in
      list-same v ss t all.0 b (λ ts ws readable are. lists_are_same-values v ss ts all.0 ws left readable all.1 are)
      (λ w. is_at-list v ss all.0 w (λ ws. are_at-values v ss all.0 ws left all.1)) right is_b
      ∙ ap (λ x. same_value x b) (one-value (value v (list_of ss)) (list (from_list all.0)) a whole is_a)

  lists_are_same-values : (v : List PureValue) (ss ts : PureTerms) (us ws : List PureValue) → are_readable v ss ≡ true → are_readable v ts ≡ true → values v ss ≡ Some us → values v ts ≡ Some ws
      → lists_are_same v ss ts ≡ same_values (from_list us) (from_list ws)
  lists_are_same-values v no_terms no_terms us ws left right is_a is_b =
      let none = one-value (Some []) [] us refl is_a in
      let none_too = one-value (Some []) [] ws refl is_b in
      λ i. same_values (from_list (none i)) (from_list (none_too i))
  lists_are_same-values v no_terms (term_and t ts) us ws left right is_a is_b =
      let parts = and_parts (is_readable v t) (are_readable v ts) right in
      let first = readable-value v t parts.0 in
      let rest = readable-values v ts parts.1 in
      let whole : values v (term_and t ts) ≡ Some (first.0 ∷ rest.0) = λ i. both (first.1 i) (rest.1 i) in
      let none = one-value (Some []) [] us refl is_a in
      let some = one-value (values v (term_and t ts)) (first.0 ∷ rest.0) ws whole is_b in
      λ i. same_values (from_list (none i)) (from_list (some i))
  lists_are_same-values v (term_and s ss) no_terms us ws left right is_a is_b =
      let parts = and_parts (is_readable v s) (are_readable v ss) left in
      let first = readable-value v s parts.0 in
      let rest = readable-values v ss parts.1 in
      let whole : values v (term_and s ss) ≡ Some (first.0 ∷ rest.0) = λ i. both (first.1 i) (rest.1 i) in
      let none = one-value (Some []) [] ws refl is_b in
      let some = one-value (values v (term_and s ss)) (first.0 ∷ rest.0) us whole is_a in
      λ i. same_values (from_list (some i)) (from_list (none i))
  lists_are_same-values v (term_and s ss) (term_and t ts) us ws left right is_a is_b =
      let parts = and_parts (is_readable v s) (are_readable v ss) left in
      let first = readable-value v s parts.0 in
      let rest = readable-values v ss parts.1 in
      let whole : values v (term_and s ss) ≡ Some (first.0 ∷ rest.0) = λ i. both (first.1 i) (rest.1 i) in
      let others = and_parts (is_readable v t) (are_readable v ts) right in
      let first_too = readable-value v t others.0 in
      let rest_too = readable-values v ts others.1 in
      let whole_too : values v (term_and t ts) ≡ Some (first_too.0 ∷ rest_too.0) = λ i. both (first_too.1 i) (rest_too.1 i) in
      let one = one-value (values v (term_and s ss)) (first.0 ∷ rest.0) us whole is_a in
      let other = one-value (values v (term_and t ts)) (first_too.0 ∷ rest_too.0) ws whole_too is_b in
      ap (λ b. b && lists_are_same v ss ts) (are_same-value v s t first.0 first_too.0 parts.0 others.0 first.1 first_too.1)
      ∙ ap (λ b. same_value first.0 first_too.0 && b) (lists_are_same-values v ss ts rest.0 rest_too.0 parts.1 others.1 rest.1 rest_too.1)
      ∙ (λ i. same_values (from_list (one i)) (from_list (other i)))

-- ---- truth

boolean-in : (o : Option PureValue) (b : Bool) → boolean_in o ≡ Some b → o ≡ Some (boolean b)
boolean-in (Some (boolean c)) b is = ap (option_map boolean) is
boolean-in (Some w) b is = absurd (cc)
boolean-in None b is = absurd (cc)

kind-of : (v : List PureValue) (u : PureTerm) (k : Kind) (b : Bool) → is_kind_at v u k ≡ Some b → value v (binary_of BinOp.Equal (unary_of UnOp.Kind u) (literal (Literal.Kind k))) ≡ Some (boolean b)
kind-of v (variable x) k b is = of_variable (slice_get v x.number) is where
  of_variable : (o : Option PureValue) → option_map (λ w. same_kind (kind_of w) k) o ≡ Some b
      → option_and_then (λ u. option_and_then (λ w. result_ok (binary BinOp.Equal u w)) (Some (kind k))) (option_and_then (λ u. result_ok (unary UnOp.Kind u)) o) ≡ Some (boolean b)
  of_variable (Some w) is = ap (option_map boolean) is
  of_variable None is = absurd (cc)
kind-of v (literal l) k b is = absurd (cc)
kind-of v (list_of ts) k b is = absurd (cc)
kind-of v (unary_of op t) k b is = absurd (cc)
kind-of v (binary_of op s t) k b is = absurd (cc)

kind-literal : (v : List PureValue) (u : PureTerm) (l : Literal) (b : Bool) → kind_at v (unary_of UnOp.Kind u) (literal l) ≡ Some b → value v (binary_of BinOp.Equal (unary_of UnOp.Kind u) (literal l)) ≡ Some (boolean b)
kind-literal v u (Literal.Kind k) b is = kind-of v u k b is
kind-literal v u (Literal.Int n) b is = absurd (cc)
kind-literal v u (Literal.Bool c) b is = absurd (cc)
kind-literal v u (Literal.Str cs) b is = absurd (cc)
kind-literal v u (Literal.Proc f) b is = absurd (cc)

kind-unary : (v : List PureValue) (u t : PureTerm) (b : Bool) → kind_at v (unary_of UnOp.Kind u) t ≡ Some b → value v (binary_of BinOp.Equal (unary_of UnOp.Kind u) t) ≡ Some (boolean b)
kind-unary v u (literal l) b is = kind-literal v u l b is
kind-unary v u (variable x) b is = absurd (cc)
kind-unary v u (list_of ts) b is = absurd (cc)
kind-unary v u (unary_of op t) b is = absurd (cc)
kind-unary v u (binary_of op s t) b is = absurd (cc)

kind-value : (v : List PureValue) (s t : PureTerm) (b : Bool) → kind_at v s t ≡ Some b → value v (binary_of BinOp.Equal s t) ≡ Some (boolean b)
kind-value v (unary_of UnOp.Kind u) t b is = kind-unary v u t b is
kind-value v (unary_of UnOp.Not u) t b is = absurd (cc)
kind-value v (unary_of UnOp.Neg u) t b is = absurd (cc)
kind-value v (unary_of UnOp.Len u) t b is = absurd (cc)
kind-value v (literal l) t b is = absurd (cc)
kind-value v (variable x) t b is = absurd (cc)
kind-value v (list_of ts) t b is = absurd (cc)
kind-value v (binary_of op r s) t b is = absurd (cc)

equal-value : (v : List PureValue) (s t : PureTerm) (b p q : Bool) → is_readable v s ≡ p → is_readable v t ≡ q → (if p && q then Some (are_same v s t) else None) ≡ Some b → value v (binary_of BinOp.Equal s t) ≡ Some (boolean b)
equal-value v s t b true true left right is =
    let first = readable-value v s left in
    let second = readable-value v t right in
    binary-value v BinOp.Equal s t first.0 second.0 first.1 second.1
    ∙ ap (λ c. Some (boolean c)) (sym (are_same-value v s t first.0 second.0 left right first.1 second.1)) ∙ ap (option_map boolean) is
equal-value v s t b true false left right is = absurd (cc)
equal-value v s t b false q left right is = absurd (cc)

either-value : (v : List PureValue) (s t : PureTerm) (b : Bool) (o : Option Bool) → kind_at v s t ≡ o → either_truth o (equal_at v s t) ≡ Some b → value v (binary_of BinOp.Equal s t) ≡ Some (boolean b)
either-value v s t b (Some c) first is = kind-value v s t b (first ∙ is)
either-value v s t b None first is = equal-value v s t b (is_readable v s) (is_readable v t) refl refl is

order-value : (v : List PureValue) (op : BinOp) (s t : PureTerm) (b : Bool) (m n : Option ℤ) → number_at v s ≡ m → number_at v t ≡ n → ordered op m n ≡ Some b → value v (binary_of op s t) ≡ Some (boolean b)
order-value v BinOp.Less s t b (Some m) (Some n) left right is =
    binary-value v BinOp.Less s t (integer m) (integer n) (number-value v s m left) (number-value v t n right) ∙ ap (option_map boolean) is
order-value v BinOp.LessOrEqual s t b (Some m) (Some n) left right is =
    binary-value v BinOp.LessOrEqual s t (integer m) (integer n) (number-value v s m left) (number-value v t n right) ∙ ap (option_map boolean) is
order-value v BinOp.Less s t b None n left right is = absurd (cc)
order-value v BinOp.Less s t b (Some m) None left right is = absurd (cc)
order-value v BinOp.LessOrEqual s t b None n left right is = absurd (cc)
order-value v BinOp.LessOrEqual s t b (Some m) None left right is = absurd (cc)
order-value v op s t b m n left right is = absurd (cc)

pub compared-value : (v : List PureValue) (op : BinOp) (s t : PureTerm) (b : Bool) → compared_at v op s t ≡ Some b → value v (binary_of op s t) ≡ Some (boolean b)
compared-value v BinOp.Equal s t b is = either-value v s t b (kind_at v s t) refl is
compared-value v op s t b is = order-value v op s t b (number_at v s) (number_at v t) refl refl is

pub truth-value : (v : List PureValue) (t : PureTerm) (b : Bool) → truth_at v t ≡ Some b → value v t ≡ Some (boolean b)
truth-value v (variable x) b is = boolean-in (slice_get v x.number) b is
truth-value v (binary_of op s t) b is = compared-value v op s t b is
truth-value v (literal l) b is = absurd (cc)
truth-value v (list_of ts) b is = absurd (cc)
truth-value v (unary_of op t) b is = absurd (cc)

-- a comparison is narrow where its sides are
pub comparison-narrow : (v : List PureValue) (op : BinOp) (s t : PureTerm) (o : Option Bool) → o ≡ compared_at v op s t → IfSome o (λ _. AreNarrow v s t) → IfSome o (λ _. has_wide_part v (binary_of op s t) ≡ false)
comparison-narrow v op s t None is narrow = tt
comparison-narrow v op s t (Some b) is narrow =
    wide-binary v op s t ∙ or_from _ _ (ap is_wide (compared-value v op s t b (sym is))) (or_from _ _ narrow.0 narrow.1)
