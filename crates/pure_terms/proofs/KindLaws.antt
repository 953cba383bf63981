-- A kind that form and sorts tell is that of the value.
use Rattle.std.proofs.Common.{◌≡◌, ℤ, pos, List, [], ◌++◌, Bool, true, false, cond, Option, Some, None, Ok, Err, slice_get, refl, sym, ◌∙◌, subst}
use Rattle.std.specs.Option.{option_or, option_map, option_and_then}
use Rattle.std.specs.Ordering.{int_eq}
use Rattle.std.specs.Result.{result_ok}
use Rattle.std.proofs.lemmas.List.Elements.{Contains-append_left, Contains-append_right, Contains-push}
use Rattle.gil_values.specs.declared.kinds.Kind.{Kind}
use Rattle.gil_values.specs.declared.operators.UnOp.{UnOp}
use Rattle.gil_values.specs.declared.operators.BinOp.{BinOp}
use Rattle.gil_values.specs.Equality.{same_kind}
use Rattle.gil_values.specs.EqualityLaws.{same_value-same}
use Rattle.gil_values.specs.Operators.{Outcome, on_integers, on_booleans, appended, negation, opposite, size, unary, binary}
use Rattle.gil_values.specs.Pure.{PureValue, integer, boolean, text, kind, list, kind_of, from_list, to_list as elements_of}
use Rattle.pure_terms.specs.declared.literals.Literal.{Literal}
use Rattle.pure_terms.specs.declared.variables.Sort.{Sort}
use Rattle.pure_terms.specs.declared.variables.Var.{Var}
use Rattle.pure_terms.specs.Kinds.{kind_of_sort, has_sort, kind_of_literal, kind_of_unary, kind_of_binary, known_kind}
use Rattle.pure_terms.specs.Laws.{KnownKindsAreRight}
use Rattle.pure_terms.specs.Meaning.{literal_value, value, values, IsProper, AreVariablesOf, IsOver}
use Rattle.pure_terms.specs.Pure.{PureTerm, literal, variable, list_of, unary_of, binary_of, variables}

pub same_kinds : (k l : Kind) → same_kind k l ≡ true → k ≡ l
same_kinds k l h = let same : kind k ≡ kind l = same_value-same (kind k) (kind l) h in cc

-- the value is of the kind that is told
abbrev pub Tells : Option Kind → PureValue → Type 0
Tells (Some k) w = kind_of w ≡ k
Tells None w = Unit {0}

abbrev pub TellsIfValue : Option Kind → Outcome → Type 0
TellsIfValue k (Ok w) = Tells k w
TellsIfValue k (Err f) = Unit {0}

abbrev pub TellsIfSome : Option Kind → Option PureValue → Type 0
TellsIfSome k (Some w) = Tells k w
TellsIfSome k None = Unit {0}

literal-tells : (l : Literal) → kind_of (literal_value l) ≡ kind_of_literal l
literal-tells (Literal.Int n) = refl
literal-tells (Literal.Bool b) = refl
literal-tells (Literal.Str cs) = refl
literal-tells (Literal.Kind k) = refl
literal-tells (Literal.Proc name) = refl

sort-tells : (s : Sort) (w : PureValue) → has_sort s w ≡ true → Tells (kind_of_sort s) w
sort-tells Sort.Int w h = sym (same_kinds Kind.Int (kind_of w) h)
sort-tells Sort.Bool w h = sym (same_kinds Kind.Bool (kind_of w) h)
sort-tells Sort.Str w h = sym (same_kinds Kind.Str (kind_of w) h)
sort-tells Sort.Sym w h = sym (same_kinds Kind.Sym (kind_of w) h)
sort-tells Sort.Fresh w h = sym (same_kinds Kind.Sym (kind_of w) h)
sort-tells Sort.List w h = sym (same_kinds Kind.List (kind_of w) h)
sort-tells Sort.Any w h = tt

-- ---- operators

negation-tells : (v : PureValue) → TellsIfValue (Some Kind.Bool) (negation v)
negation-tells (boolean b) = refl
negation-tells _ = tt

opposite-tells : (v : PureValue) → TellsIfValue (Some Kind.Int) (opposite v)
opposite-tells (integer n) = refl
opposite-tells _ = tt

size-tells : (v : PureValue) → TellsIfValue (Some Kind.Int) (size v)
size-tells (text cs) = refl
size-tells (list vs) = refl
size-tells _ = tt

unary-tells : (op : UnOp) (v : PureValue) → TellsIfValue (Some (kind_of_unary op)) (unary op v)
unary-tells UnOp.Not v = negation-tells v
unary-tells UnOp.Neg v = opposite-tells v
unary-tells UnOp.Len v = size-tells v
unary-tells UnOp.Kind v = refl

on_integers-tells : (k : Option Kind) (f : ℤ → ℤ → Outcome) → ((m n : ℤ) → TellsIfValue k (f m n)) → (v w : PureValue) → TellsIfValue k (on_integers f v w)
on_integers-tells k f h (integer m) (integer n) = h m n
on_integers-tells k f h _ _ = tt

on_booleans-tells : (k : Option Kind) (f : Bool → Bool → Outcome) → ((a b : Bool) → TellsIfValue k (f a b)) → (v w : PureValue) → TellsIfValue k (on_booleans f v w)
on_booleans-tells k f h (boolean a) (boolean b) = h a b
on_booleans-tells k f h _ _ = tt

choice-tells : (k : Option Kind) (b : Bool) (r t : Outcome) → TellsIfValue k r → TellsIfValue k t → TellsIfValue k (cond b r t)
choice-tells k true r t h g = h
choice-tells k false r t h g = g

-- both operands are of one kind, and so is what they are joined to
joined-tells : (k l : Option Kind) (v w u : PureValue) → kind_of v ≡ kind_of u → kind_of w ≡ kind_of u → Tells k v → Tells l w → Tells (option_or k l) u
joined-tells (Some k) l v w u left right h g = sym left ∙ h
joined-tells None (Some l) v w u left right h g = sym right ∙ g
joined-tells None None v w u left right h g = tt

appended-tells : (k l : Option Kind) (v w : PureValue) → Tells k v → Tells l w → TellsIfValue (option_or k l) (appended v w)
appended-tells k l (text s) (text t) h g = joined-tells k l (text s) (text t) (text (s ++ t)) refl refl h g
appended-tells k l (list vs) (list ws) h g = joined-tells k l (list vs) (list ws) (list (from_list (elements_of vs ++ elements_of ws))) refl refl h g
appended-tells k l _ _ h g = tt

anything-told : (r : Outcome) → TellsIfValue None r
anything-told (Ok v) = tt
anything-told (Err f) = tt

pub binary-tells : (op : BinOp) (k l : Option Kind) (v w : PureValue) → Tells k v → Tells l w → TellsIfValue (kind_of_binary op k l) (binary op v w)
binary-tells BinOp.Add k l v w h g = on_integers-tells (Some Kind.Int) _ (λ m n. refl) v w
binary-tells BinOp.Subtract k l v w h g = on_integers-tells (Some Kind.Int) _ (λ m n. refl) v w
binary-tells BinOp.Multiply k l v w h g = on_integers-tells (Some Kind.Int) _ (λ m n. refl) v w
binary-tells BinOp.Divide k l v w h g = on_integers-tells (Some Kind.Int) _ (λ m n. choice-tells (Some Kind.Int) (int_eq n (pos 0)) _ _ tt refl) v w
binary-tells BinOp.Remainder k l v w h g = on_integers-tells (Some Kind.Int) _ (λ m n. choice-tells (Some Kind.Int) (int_eq n (pos 0)) _ _ tt refl) v w
binary-tells BinOp.Equal k l v w h g = refl
binary-tells BinOp.Less k l v w h g = on_integers-tells (Some Kind.Bool) _ (λ m n. refl) v w
binary-tells BinOp.LessOrEqual k l v w h g = on_integers-tells (Some Kind.Bool) _ (λ m n. refl) v w
binary-tells BinOp.And k l v w h g = on_booleans-tells (Some Kind.Bool) _ (λ a b. refl) v w
binary-tells BinOp.Or k l v w h g = on_booleans-tells (Some Kind.Bool) _ (λ a b. refl) v w
binary-tells BinOp.Append k l v w h g = appended-tells k l v w h g
binary-tells BinOp.Nth k l v w h g = anything-told (binary BinOp.Nth v w)

-- ---- terms

of_result : (k : Option Kind) (r : Outcome) → TellsIfValue k r → TellsIfSome k (result_ok r)
of_result k (Ok w) h = h
of_result k (Err f) h = tt

of_list : (o : Option (List PureValue)) → TellsIfSome (Some Kind.List) (option_map (λ ws. list (from_list ws)) o)
of_list (Some ws) = refl
of_list None = tt

of_unary : (op : UnOp) (a : Option PureValue) → TellsIfSome (Some (kind_of_unary op)) (option_and_then (λ u. result_ok (unary op u)) a)
of_unary op (Some u) = of_result (Some (kind_of_unary op)) (unary op u) (unary-tells op u)
of_unary op None = tt

of_binary : (op : BinOp) (k l : Option Kind) (a b : Option PureValue) → TellsIfSome k a → TellsIfSome l b → TellsIfSome (kind_of_binary op k l) (option_and_then (λ u. option_and_then (λ w. result_ok (binary op u w)) b) a)
of_binary op k l (Some u) (Some w) h g = of_result (kind_of_binary op k l) (binary op u w) (binary-tells op k l u w h g)
of_binary op k l (Some u) None h g = tt
of_binary op k l None b h g = tt

of_lookup : (k : Option Kind) (o : Option PureValue) → ((w : PureValue) → o ≡ Some w → Tells k w) → TellsIfSome k o
of_lookup k (Some w) h = h w refl
of_lookup k None h = tt

pub over_left : (vars : List Sort) (xs ys : List Var) → AreVariablesOf vars (xs ++ ys) → AreVariablesOf vars xs
over_left vars xs ys over x has = over x (Contains-append_left xs ys x has)

pub over_right : (vars : List Sort) (xs ys : List Var) → AreVariablesOf vars (xs ++ ys) → AreVariablesOf vars ys
over_right vars xs ys over x has = over x (Contains-append_right xs ys x has)

pub over_variable : (vars : List Sort) (x : Var) → IsOver vars (variable x) → slice_get vars x.number ≡ Some x.sort
over_variable vars x over = over x (Contains-push [] x)

pub value-tells : (vars : List Sort) (v : List PureValue) → IsProper vars v → (t : PureTerm) → IsOver vars t → TellsIfSome (known_kind t) (value v t)
value-tells vars v proper (literal l) over = literal-tells l
value-tells vars v proper (variable x) over =
    of_lookup (kind_of_sort x.sort) (slice_get v x.number) (λ w is. sort-tells x.sort w (proper.sorts x.number x.sort w (over_variable vars x over) is))
value-tells vars v proper (list_of ts) over = of_list (values v ts)
value-tells vars v proper (unary_of op t) over = of_unary op (value v t)
value-tells vars v proper (binary_of op s t) over =
    of_binary op (known_kind s) (known_kind t) (value v s) (value v t)
    (value-tells vars v proper s (over_left vars (variables s) (variables t) over))
    (value-tells vars v proper t (over_right vars (variables s) (variables t) over))

at_value : (k : Option Kind) (o : Option PureValue) (w : PureValue) → TellsIfSome k o → o ≡ Some w → Tells k w
at_value k o w h is = subst (TellsIfSome k) is h

at_kind : (o : Option Kind) (k : Kind) (w : PureValue) → Tells o w → o ≡ Some k → kind_of w ≡ k
at_kind o k w h is = subst (λ l. Tells l w) is h

pub known_kinds_are_right : KnownKindsAreRight
known_kinds_are_right vars v t w k proper over is known =
    at_kind (known_kind t) k w (at_value (known_kind t) (value v t) w (value-tells vars v proper t over) is) known
