-- What may stand in the place of a term, by what may stand in the place of its parts.
use Rattle.std.proofs.Common.{◌≡◌, ◌⊎◌, inl, inr, ℕ, zero, suc, ◌+◌, ◌<◌, ◌≤◌, List, [], ◌∷◌, ◌++◌, true, ◌&&◌, take, slice_get, append_assoc, append-nil, add-one, Option, Some, None, refl, sym, ap, ◌∙◌, subst, arith}
use Rattle.std.specs.Option.{option_map, option_and_then}
use Rattle.std.specs.Result.{result_ok}
use Rattle.std.specs.List.{All, AllZip, Contains, list_any}
use Rattle.std.proofs.lemmas.Bool.{false≢true, and_parts, and_from}
use Rattle.std.proofs.lemmas.List.Elements.{Contains-append_left, Contains-append_right, Contains-append_cases, All-append, All-same, AllZip-push}
use Rattle.std.proofs.lemmas.List.Folds.{Any-from_list_any, list_any_at}
use Rattle.gil_values.specs.declared.operators.UnOp.{UnOp}
use Rattle.gil_values.specs.declared.operators.BinOp.{BinOp}
use Rattle.gil_values.specs.Operators.{unary, binary}
use Rattle.gil_values.specs.Pure.{PureValue, list, from_list as list_elements}
use Rattle.pure_terms.specs.declared.variables.Sort.{Sort}
use Rattle.pure_terms.specs.declared.variables.Var.{Var}
use Rattle.pure_terms.specs.Equality.{same_variable}
use Rattle.pure_terms.specs.EqualityLaws.{same_variable-same, same_variable-refl}
use Rattle.pure_terms.specs.Fragment.{is_shift, is_variable_of, is_integer_literal, is_simple, are_simple}
use Rattle.pure_terms.specs.Meaning.{both, value, values, IsProper, AreVariablesOf}
use Rattle.pure_terms.specs.Pure.{PureTerm, literal, variable, list_of, unary_of, binary_of, PureTerms, term_and, from_list, size, sizes, subterms, subterms_of_all, variables, variables_of_all}
use Rattle.pure_terms.specs.Rewriting.{NamesNoMore, IsSameOrSmaller, Replaces}
use Rattle.pure_terms.proofs.Evaluated.{take-push}
use Rattle.rewrite_book.specs.Answers.{TestsNoMore, Simplifies}

-- ---- names, by tests and by places

tested : (xs : List Var) (x : Var) → Contains xs x → list_any (same_variable x) xs ≡ true
tested xs x (k, below, is) = list_any_at (same_variable x) xs k x below (subst (λ y. same_variable x y ≡ true) (sym is) (same_variable-refl x))

contained : (xs : List Var) (x : Var) → list_any (same_variable x) xs ≡ true → Contains xs x
contained xs x h =
    let (k, y, below, is, same) = Any-from_list_any (same_variable x) xs h in
    let has : Contains xs y = (k, below, is) in
    subst (Contains xs) (sym (same_variable-same x y same)) has

pub names-tests : (t u : PureTerm) → NamesNoMore t u → TestsNoMore t u
names-tests t u names x h = tested (variables t) x (names x (contained (variables u) x h))

pub tests-names : (t u : PureTerm) → TestsNoMore t u → NamesNoMore t u
tests-names t u tests x has = contained (variables t) x (tests x (tested (variables u) x has))

-- ---- steps

pub replaces-same : (t : PureTerm) → Replaces t t
replaces-same t = record { value_kept = λ vars v w proper over is. is; no_more_names = λ x has. has; simple_stays = λ simple. simple; no_larger = inl refl }

pub replaces-simplified : (t u : PureTerm) → Simplifies t u → Replaces t u
replaces-simplified t u h = record { value_kept = h.value_kept; no_more_names = tests-names t u h.no_more_names; simple_stays = h.simple_stays; no_larger = inr h.fewer_nodes }

smaller-then : (t u w : PureTerm) → IsSameOrSmaller t u → IsSameOrSmaller u w → IsSameOrSmaller t w
smaller-then t u w (inl same) (inl other) = inl (other ∙ same)
smaller-then t u w (inl same) (inr less) = inr (subst (λ s. size w < size s) same less)
smaller-then t u w (inr less) (inl same) = inr (subst (λ s. size s < size t) (sym same) less)
smaller-then t u w (inr less) (inr more) = inr (omega (arith, less, more))

pub replaces-then : (t u w : PureTerm) → Replaces t u → Replaces u w → Replaces t w
replaces-then t u w h k = record {
  value_kept = λ vars v x proper over is. k.value_kept vars v x proper (λ y has. over y (h.no_more_names y has)) (h.value_kept vars v x proper over is);
  no_more_names = λ x has. h.no_more_names x (k.no_more_names x has);
  simple_stays = λ simple. k.simple_stays (h.simple_stays simple);
  no_larger = smaller-then t u w h.no_larger k.no_larger;
}

-- a term is no larger than the one in whose place it stands
pub replaces-size : (t u : PureTerm) → Replaces t u → size u ≤ size t
replaces-size t u h = by h.no_larger where
  by : IsSameOrSmaller t u → size u ≤ size t
  by (inl same) = let e : size u ≡ size t = ap size same in omega (arith, e)
  by (inr less) = omega (arith, less)

-- ---- operators

one-kept : (op : UnOp) (a b : Option PureValue) (w : PureValue) → ((x : PureValue) → a ≡ Some x → b ≡ Some x)
    → option_and_then (λ x. result_ok (unary op x)) a ≡ Some w → option_and_then (λ x. result_ok (unary op x)) b ≡ Some w
one-kept op (Some x) b w f is = ap (option_and_then (λ y. result_ok (unary op y))) (f x refl) ∙ is
one-kept op None b w f is = cc

pub replaces-unary : (op : UnOp) (t u : PureTerm) → Replaces t u → Replaces (unary_of op t) (unary_of op u)
replaces-unary op t u h = record {
  value_kept = λ vars v w proper over is. one-kept op (value v t) (value v u) w (λ x e. h.value_kept vars v x proper over e) is;
  no_more_names = h.no_more_names;
  simple_stays = λ simple. absurd (false≢true simple);
  no_larger = by h.no_larger;
} where
  by : IsSameOrSmaller t u → IsSameOrSmaller (unary_of op t) (unary_of op u)
  by (inl same) = inl (ap (unary_of op) same)
  by (inr less) = inr (omega (arith, less))

abbrev two : BinOp → Option PureValue → Option PureValue → Option PureValue
two op a b = option_and_then (λ x. option_and_then (λ y. result_ok (binary op x y)) b) a

two-kept : (op : BinOp) (a b a' b' : Option PureValue) (w : PureValue) → ((x : PureValue) → a ≡ Some x → a' ≡ Some x) → ((y : PureValue) → b ≡ Some y → b' ≡ Some y)
    → two op a b ≡ Some w → two op a' b' ≡ Some w
two-kept op (Some x) (Some y) a' b' w f g is = ap (λ o. two op o b') (f x refl) ∙ ap (two op (Some x)) (g y refl) ∙ is
two-kept op (Some x) None a' b' w f g is = cc
two-kept op None b a' b' w f g is = cc

size-positive : (t : PureTerm) → 0 < size t
size-positive (literal l) = omega arith
size-positive (variable x) = omega arith
size-positive (list_of ts) = omega arith
size-positive (unary_of op t) = omega arith
size-positive (binary_of op s t) = omega arith

-- what stands in the place of a leaf is the leaf
variable-stays : (s : Sort) (t u : PureTerm) → Replaces t u → is_variable_of s t ≡ true → is_variable_of s u ≡ true
variable-stays s (variable x) u h is = by h.no_larger where
  by : IsSameOrSmaller (variable x) u → is_variable_of s u ≡ true
  by (inl same) = subst (λ t. is_variable_of s t ≡ true) (sym same) is
  by (inr less) = let positive = size-positive u in absurd (omega (arith, less, positive))
variable-stays s t u h is = absurd (false≢true is)

integer-stays : (t u : PureTerm) → Replaces t u → is_integer_literal t ≡ true → is_integer_literal u ≡ true
integer-stays (literal l) u h is = by h.no_larger where
  by : IsSameOrSmaller (literal l) u → is_integer_literal u ≡ true
  by (inl same) = subst (λ t. is_integer_literal t ≡ true) (sym same) is
  by (inr less) = let positive = size-positive u in absurd (omega (arith, less, positive))
integer-stays t u h is = absurd (false≢true is)

pub replaces-binary : (op : BinOp) (s t s' t' : PureTerm) → Replaces s s' → Replaces t t' → Replaces (binary_of op s t) (binary_of op s' t')
replaces-binary op s t s' t' h k = record {
  value_kept = λ vars v w proper over is.
      two-kept op (value v s) (value v t) (value v s') (value v t') w
      (λ x e. h.value_kept vars v x proper (λ y has. over y (Contains-append_left (variables s) (variables t) y has)) e)
      (λ x e. k.value_kept vars v x proper (λ y has. over y (Contains-append_right (variables s) (variables t) y has)) e) is;
  no_more_names = λ x has. names x (Contains-append_cases (variables s') (variables t') x has);
  simple_stays = λ simple.
      let parts = and_parts (is_shift op) (is_variable_of Sort.Int s && is_integer_literal t) simple in
      let operands = and_parts (is_variable_of Sort.Int s) (is_integer_literal t) parts.1 in
      and_from (is_shift op) (is_variable_of Sort.Int s' && is_integer_literal t') parts.0
      (and_from (is_variable_of Sort.Int s') (is_integer_literal t') (variable-stays Sort.Int s s' h operands.0) (integer-stays t t' k operands.1));
  no_larger = by h.no_larger k.no_larger;
} where
  names : (x : Var) → Contains (variables s') x ⊎ Contains (variables t') x → Contains (variables s ++ variables t) x
  names x (inl has) = Contains-append_left (variables s) (variables t) x (h.no_more_names x has)
  names x (inr has) = Contains-append_right (variables s) (variables t) x (k.no_more_names x has)

  by : IsSameOrSmaller s s' → IsSameOrSmaller t t' → IsSameOrSmaller (binary_of op s t) (binary_of op s' t')
  by (inl same) (inl other) = inl (ap (λ a. binary_of op a t') same ∙ ap (binary_of op s) other)
  by (inl same) (inr less) = let e : size s' ≡ size s = ap size same in inr (omega (arith, e, less))
  by (inr less) (inl same) = let e : size t' ≡ size t = ap size same in inr (omega (arith, e, less))
  by (inr less) (inr more) = inr (omega (arith, less, more))

-- ---- lists

both-kept : (a a' : Option PureValue) (b b' : Option (List PureValue)) (ws : List PureValue) → ((x : PureValue) → a ≡ Some x → a' ≡ Some x) → ((xs : List PureValue) → b ≡ Some xs → b' ≡ Some xs)
    → both a b ≡ Some ws → both a' b' ≡ Some ws
both-kept (Some x) a' (Some xs) b' ws f g is = ap (λ o. both o b') (f x refl) ∙ ap (both (Some x)) (g xs refl) ∙ is
both-kept (Some x) a' None b' ws f g is = cc
both-kept None a' b b' ws f g is = cc

listed-kept : (b b' : Option (List PureValue)) (w : PureValue) → ((xs : List PureValue) → b ≡ Some xs → b' ≡ Some xs)
    → option_map (λ ws. list (list_elements ws)) b ≡ Some w → option_map (λ ws. list (list_elements ws)) b' ≡ Some w
listed-kept (Some xs) b' w g is = ap (option_map (λ ws. list (list_elements ws))) (g xs refl) ∙ is
listed-kept None b' w g is = cc

abbrev SameOrSmallerAll : PureTerms → PureTerms → Type 0
SameOrSmallerAll ts us = (us ≡ ts) ⊎ (sizes us < sizes ts)

record AllReplace (ts us : PureTerms) : Type 0 where
  kept : (vars : List Sort) (v ws : List PureValue) → IsProper vars v → AreVariablesOf vars (variables_of_all ts) → values v ts ≡ Some ws → values v us ≡ Some ws
  names : (x : Var) → Contains (variables_of_all us) x → Contains (variables_of_all ts) x
  simple : are_simple ts ≡ true → are_simple us ≡ true
  no_larger : SameOrSmallerAll ts us

one-more : (t u : PureTerm) (ts us : PureTerms) → Replaces t u → AllReplace ts us → AllReplace (term_and t ts) (term_and u us)
one-more t u ts us h k = record {
  kept = λ vars v ws proper over is.
      both-kept (value v t) (value v u) (values v ts) (values v us) ws
      (λ x e. h.value_kept vars v x proper (λ y has. over y (Contains-append_left (variables t) (variables_of_all ts) y has)) e)
      (λ xs e. k.kept vars v xs proper (λ y has. over y (Contains-append_right (variables t) (variables_of_all ts) y has)) e) is;
  names = λ x has. named x (Contains-append_cases (variables u) (variables_of_all us) x has);
  simple = λ simple.
      let parts = and_parts (is_simple t) (are_simple ts) simple in
      and_from (is_simple u) (are_simple us) (h.simple_stays parts.0) (k.simple parts.1);
  no_larger = by h.no_larger k.no_larger;
} where
  named : (x : Var) → Contains (variables u) x ⊎ Contains (variables_of_all us) x → Contains (variables t ++ variables_of_all ts) x
  named x (inl has) = Contains-append_left (variables t) (variables_of_all ts) x (h.no_more_names x has)
  named x (inr has) = Contains-append_right (variables t) (variables_of_all ts) x (k.names x has)

  by : IsSameOrSmaller t u → SameOrSmallerAll ts us → SameOrSmallerAll (term_and t ts) (term_and u us)
  by (inl same) (inl other) = inl (ap (λ a. term_and a us) same ∙ ap (term_and t) other)
  by (inl same) (inr less) = let e : size u ≡ size t = ap size same in inr (omega (arith, e, less))
  by (inr less) (inl same) = let e : sizes us ≡ sizes ts = ap sizes same in inr (omega (arith, e, less))
  by (inr less) (inr more) = inr (omega (arith, less, more))

all-replace : (ts us : List PureTerm) → AllZip Replaces ts us → AllReplace (from_list ts) (from_list us)
all-replace [] [] h = record { kept = λ vars v ws proper over is. is; names = λ x has. has; simple = λ simple. simple; no_larger = inl refl }
all-replace (t ∷ ts) (u ∷ us) h = one-more t u (from_list ts) (from_list us) h.0 (all-replace ts us h.1)
all-replace [] (u ∷ us) h = absurd h
all-replace (t ∷ ts) [] h = absurd h

pub replaces-list : (ts us : List PureTerm) → AllZip Replaces ts us → Replaces (list_of (from_list ts)) (list_of (from_list us))
replaces-list ts us h =
    let all : AllReplace (from_list ts) (from_list us) = all-replace ts us h in
    record {
      value_kept = λ vars v w proper over is. listed-kept (values v (from_list ts)) (values v (from_list us)) w (λ xs e. all.kept vars v xs proper over e) is;
      no_more_names = all.names;
      simple_stays = all.simple;
      no_larger = by all.no_larger;
    }
  where
    by : SameOrSmallerAll (from_list ts) (from_list us) → IsSameOrSmaller (list_of (from_list ts)) (list_of (from_list us))
    by (inl same) = inl (ap list_of same)
    by (inr less) = inr (omega (arith, less))

-- ---- the elements of a list, one by one

pub size-element : (us : List PureTerm) (i : ℕ) (u : PureTerm) → slice_get us i ≡ Some u → size u ≤ sizes (from_list us)
size-element [] i u is = cc
size-element (t ∷ us) zero u is = let same : size u ≡ size t = (let e : u ≡ t = cc in ap size e) in omega (arith, same)
size-element (t ∷ us) (suc i) u is = let rest : size u ≤ sizes (from_list us) = size-element us i u is in omega (arith, rest)

pub next_replaced : (ts us : List PureTerm) (i : ℕ) (t u : PureTerm) → slice_get ts i ≡ Some t → AllZip Replaces (take i ts) us → Replaces t u → AllZip Replaces (take (i + 1) ts) (us ++ u ∷ [])
next_replaced ts us i t u is before now =
    subst (λ xs. AllZip Replaces xs (us ++ u ∷ [])) (sym (ap (λ n. take n ts) (add-one i) ∙ take-push ts i t is)) (AllZip-push Replaces (take i ts) us t u before now)

subterms-push : (us : List PureTerm) (u : PureTerm) → subterms_of_all (from_list (us ++ u ∷ [])) ≡ subterms_of_all (from_list us) ++ subterms u
subterms-push [] u = append-nil (subterms u)
subterms-push (t ∷ us) u = ap (λ xs. subterms t ++ xs) (subterms-push us u) ∙ sym (append_assoc (subterms t) (subterms_of_all (from_list us)) (subterms u))

pub next_done : (P : PureTerm → Type 0) (us : List PureTerm) (u : PureTerm) → All P (subterms_of_all (from_list us)) → All P (subterms u) → All P (subterms_of_all (from_list (us ++ u ∷ [])))
next_done P us u before now = All-same P (subterms_of_all (from_list (us ++ u ∷ []))) (subterms_of_all (from_list us) ++ subterms u) (subterms-push us u) (All-append P (subterms_of_all (from_list us)) (subterms u) before now)
