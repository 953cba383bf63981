-- What a split adds leaves less to say.
use Rattle.std.proofs.Common.{◌≡◌, ⊎_elim, ◌⊎◌, inl, inr, ℕ, zero, suc, ◌+◌, ◌<◌, ◌≤◌, ◌^◌, ℤ, pos, neg_ℤ, ◌≤ℤ◌, List, [], ◌∷◌, ◌++◌, map, length, Bool, true, false, ◌&&◌, Some, slice_get, refl, sym, ap, ◌∙◌, subst, arith}
use Rattle.std.specs.Prelude.{negsuc, int_le}
use Rattle.std.proofs.lemmas.Bool.{false≢true, and_parts, or_cases, or_left, or_right, false_from_ne_true, cases_eq, cases_lt}
use Rattle.std.proofs.lemmas.Int.{ints}
use Rattle.std.proofs.lemmas.Option.{same_Some, slice_get_within}
use Rattle.gil_values.specs.declared.kinds.Kind.{Kind}
use Rattle.gil_values.specs.declared.operators.BinOp.{BinOp}
use Rattle.pure_terms.specs.declared.literals.Literal.{Literal}
use Rattle.pure_terms.specs.declared.variables.Sort.{Sort}
use Rattle.pure_terms.specs.declared.variables.Var.{Var}
use Rattle.pure_terms.specs.EqualityLaws.{same_term-same, same_term-refl}
use Rattle.pure_terms.specs.Fragment.{is_shift, is_variable_of, is_integer_literal, is_integer_side, has_literals_between}
use Rattle.pure_terms.specs.Kinds.{is_of_kind, known_kind}
use Rattle.pure_terms.specs.Meaning.{IsOver}
use Rattle.pure_terms.specs.Numbers.{is_between}
use Rattle.pure_terms.specs.Pure.{PureTerm, literal, variable, list_of, unary_of, binary_of, PureTerms, no_terms, term_and, to_list, size, sizes, PureAtom, positive, negative, opening}
use Rattle.pure_terms.proofs.KindLaws.{over_variable}
use Rattle.pure_terms.proofs.SimpleLaws.{from_is_variable_of, from_is_integer_literal}
use Rattle.solver_proof.specs.Chains.{equals, kind_is}
use Rattle.solver_proof.specs.Closing.{all_kinds}
use Rattle.solver_proof.proofs.Truths.{over_sides}
use Rattle.solver_rules.specs.Rules.{IsUnsaid, IsUndecided, ElementsDiffer}
use Rattle.solver_rules.specs.Steps.{IsNumberTest, IsSplit}
use Rattle.path_solver.specs.Falling.{below, numbers_within, each_pair, all_sorts, variables_below, narrow_numbers, sides_below, tests_below, small_values, sayable, same_atom, is_said, one_unless, unsaid, some_differ, size_unless, open_sides, open_term, open_size, open_sizes, Falls}

-- ---- one of a list

abbrev pub Among : {X : Type 0} → X → List X → Type 0
Among x [] = ⊥
Among x (y ∷ ys) = (x ≡ y) ⊎ Among x ys

among_left : {X : Type 0} (x : X) (xs ys : List X) → Among x xs → Among x (xs ++ ys)
among_left x [] ys h = absurd h
among_left x (y ∷ xs) ys (inl e) = inl e
among_left x (y ∷ xs) ys (inr h) = inr (among_left x xs ys h)

among_right : {X : Type 0} (x : X) (xs ys : List X) → Among x ys → Among x (xs ++ ys)
among_right x [] ys h = h
among_right x (y ∷ xs) ys h = inr (among_right x xs ys h)

among_map : {X Y : Type 0} (f : X → Y) (x : X) (xs : List X) → Among x xs → Among (f x) (map f xs)
among_map f x [] h = absurd h
among_map f x (y ∷ xs) (inl e) = inl (ap f e)
among_map f x (y ∷ xs) (inr h) = inr (among_map f x xs h)

among_pairs : {X Y Z : Type 0} (f : X → Y → Z) (x : X) (y : Y) (xs : List X) (ys : List Y) → Among x xs → Among y ys → Among (f x y) (each_pair f xs ys)
among_pairs f x y [] ys h g = absurd h
among_pairs f x y (z ∷ xs) ys (inl e) g = among_left (f x y) (map (f z) ys) (each_pair f xs ys) (subst (λ w. Among (f x y) (map (f w) ys)) e (among_map (f x) y ys g))
among_pairs f x y (z ∷ xs) ys (inr h) g = among_right (f x y) (map (f z) ys) (each_pair f xs ys) (among_pairs f x y xs ys h g)

among_below : (m n : ℕ) → m < n → Among m (below n)
unfolding below
among_below m zero h = absurd (omega (arith, h))
among_below m (suc n) h = ⊎_elim (λ e. inl e) (λ other. inr (among_below m n (⊎_elim (λ less. less) (λ past. absurd (other (omega (arith, past, h)))) (cases_lt m n)))) (cases_eq m n)

-- ---- numbers and variables

at_most_there : (m n : ℤ) → int_le m n ≡ true → m ≤ℤ n
at_most_there m n h = grind (arith, ints)

number_within : (bound : ℕ) (n : ℤ) → is_between (neg_ℤ (pos bound)) (pos bound) n ≡ true → Among n (numbers_within bound)
number_within bound (pos m) h = among_left (pos m) (map pos (below (suc bound))) _ (among_map pos m (below (suc bound)) (among_below m (suc bound) (at_most_bound (at_most_there (pos m) (pos bound) (and_parts _ _ h).1)))) where
  at_most_bound : pos m ≤ℤ pos bound → m < suc bound
  at_most_bound le = omega (arith, ints, le)
number_within bound (negsuc m) h = among_right (negsuc m) (map pos (below (suc bound))) _ (among_map negsuc m (below bound) (among_below m bound (at_least (at_most_there (neg_ℤ (pos bound)) (negsuc m) (and_parts _ _ h).0)))) where
  at_least : neg_ℤ (pos bound) ≤ℤ negsuc m → m < bound
  at_least le = omega (arith, ints, le)

among_sorts : (s : Sort) → Among s all_sorts
among_sorts Sort.Int = inl refl
among_sorts Sort.Bool = inr (inl refl)
among_sorts Sort.Str = inr (inr (inl refl))
among_sorts Sort.Sym = inr (inr (inr (inl refl)))
among_sorts Sort.Fresh = inr (inr (inr (inr (inl refl))))
among_sorts Sort.List = inr (inr (inr (inr (inr (inl refl)))))
among_sorts Sort.Any = inr (inr (inr (inr (inr (inr (inl refl))))))

among_kinds : (k : Kind) → Among k all_kinds
among_kinds Kind.Int = inl refl
among_kinds Kind.Bool = inr (inl refl)
among_kinds Kind.Str = inr (inr (inl refl))
among_kinds Kind.Sym = inr (inr (inr (inl refl)))
among_kinds Kind.Kind = inr (inr (inr (inr (inl refl))))
among_kinds Kind.Proc = inr (inr (inr (inr (inr (inl refl)))))
among_kinds Kind.List = inr (inr (inr (inr (inr (inr (inl refl))))))
among_kinds Kind.Undef = inr (inr (inr (inr (inr (inr (inr (inl refl)))))))
among_kinds Kind.Null = inr (inr (inr (inr (inr (inr (inr (inr (inl refl))))))))

among_variables : (x : Var) (n : ℕ) → x.number < n → Among (variable x) (variables_below n)
among_variables x n h = among_pairs (λ m s. variable (record { number = m; sort = s })) x.number x.sort (below n) all_sorts (among_below x.number n h) (among_sorts x.sort)

pub in_table : (vars : List Sort) (x : Var) → IsOver vars (variable x) → x.number < length vars
in_table vars x over = slice_get_within vars x.number x.sort (over_variable vars x over)

narrow : (n : ℤ) → is_between (neg_ℤ (pos (2 ^ 80))) (pos (2 ^ 80)) n ≡ true → Among (literal (Literal.Int n)) narrow_numbers
narrow n h = among_map (λ m. literal (Literal.Int m)) n (numbers_within (2 ^ 80)) (number_within (2 ^ 80) n h)

-- ---- sides

shifted_by : (vars : List Sort) (op : BinOp) (x : Var) (n : ℤ) → is_shift op ≡ true → x.number < length vars → is_between (neg_ℤ (pos (2 ^ 80))) (pos (2 ^ 80)) n ≡ true → Among (binary_of op (variable x) (literal (Literal.Int n))) (sides_below (length vars))
shifted_by vars BinOp.Add x n shift there between =
    among_right _ (variables_below (length vars)) _ (among_right _ narrow_numbers _ (among_left _ (each_pair (binary_of BinOp.Add) (variables_below (length vars)) narrow_numbers) _
    (among_pairs (binary_of BinOp.Add) (variable x) (literal (Literal.Int n)) (variables_below (length vars)) narrow_numbers (among_variables x (length vars) there) (narrow n between))))
shifted_by vars BinOp.Subtract x n shift there between =
    among_right _ (variables_below (length vars)) _ (among_right _ narrow_numbers _ (among_right _ (each_pair (binary_of BinOp.Add) (variables_below (length vars)) narrow_numbers) _
    (among_pairs (binary_of BinOp.Subtract) (variable x) (literal (Literal.Int n)) (variables_below (length vars)) narrow_numbers (among_variables x (length vars) there) (narrow n between))))
shifted_by vars op x n shift there between = absurd (false≢true shift)

shifted : (vars : List Sort) (op : BinOp) (s t : PureTerm) → (is_shift op && (is_variable_of Sort.Int s && is_integer_literal t)) ≡ true → IsOver vars (binary_of op s t) → has_literals_between (neg_ℤ (pos (2 ^ 80))) (pos (2 ^ 80)) (binary_of op s t) ≡ true → Among (binary_of op s t) (sides_below (length vars))
shifted vars op s t shift over between =
    let parts = and_parts (is_variable_of Sort.Int s) (is_integer_literal t) (and_parts (is_shift op) (is_variable_of Sort.Int s && is_integer_literal t) shift).1 in
    let (x, (is_x, sort)) = from_is_variable_of Sort.Int s parts.0 in
    let (n, is_n) = from_is_integer_literal t parts.1 in
    let there = in_table vars x (subst (IsOver vars) is_x (over_sides vars op s t over).0) in
    let both = and_parts (has_literals_between (neg_ℤ (pos (2 ^ 80))) (pos (2 ^ 80)) s) (has_literals_between (neg_ℤ (pos (2 ^ 80))) (pos (2 ^ 80)) t) between in
    let narrow_n = subst (λ u. has_literals_between (neg_ℤ (pos (2 ^ 80))) (pos (2 ^ 80)) u ≡ true) is_n both.1 in
    subst (λ u. Among (binary_of op u t) (sides_below (length vars))) (sym is_x)
    (subst (λ u. Among (binary_of op (variable x) u) (sides_below (length vars))) (sym is_n) (shifted_by vars op x n (and_parts (is_shift op) (is_variable_of Sort.Int s && is_integer_literal t) shift).0 there narrow_n))

among_sides : (vars : List Sort) (t : PureTerm) → is_integer_side t ≡ true → IsOver vars t → has_literals_between (neg_ℤ (pos (2 ^ 80))) (pos (2 ^ 80)) t ≡ true → Among t (sides_below (length vars))
among_sides vars (literal (Literal.Int n)) whole over between = among_right _ (variables_below (length vars)) _ (among_left _ narrow_numbers _ (narrow n between))
among_sides vars (literal (Literal.Bool b)) whole over between = absurd (false≢true whole)
among_sides vars (literal (Literal.Str cs)) whole over between = absurd (false≢true whole)
among_sides vars (literal (Literal.Kind k)) whole over between = absurd (false≢true whole)
among_sides vars (literal (Literal.Proc name)) whole over between = absurd (false≢true whole)
among_sides vars (variable x) whole over between = among_left (variable x) (variables_below (length vars)) _ (among_variables x (length vars) (in_table vars x over))
among_sides vars (list_of ts) whole over between = absurd (false≢true (and_parts _ false whole).1)
among_sides vars (unary_of op t) whole over between = absurd (false≢true whole)
among_sides vars (binary_of op s t) whole over between =
    shifted vars op s t (and_parts (is_shift op && (is_variable_of Sort.Int s && is_integer_literal t)) (is_of_kind (known_kind (binary_of op s t)) Kind.Int) whole).0 over between

-- ---- atoms that splits add

test_among : (vars : List Sort) (t : PureTerm) → IsSplit vars t → Among t (tests_below (length vars))
test_among vars t split = ⊎_elim a_variable (λ test. a_test test) split.basic where
  a_variable : is_variable_of Sort.Bool t ≡ true → Among t (tests_below (length vars))
  a_variable is =
      let (x, (is_x, sort)) = from_is_variable_of Sort.Bool t is in
      subst (λ u. Among u (tests_below (length vars))) (sym is_x) (among_left (variable x) (variables_below (length vars)) _ (among_variables x (length vars) (in_table vars x (subst (IsOver vars) is_x split.true_there.over))))

  test_by : (op : BinOp) (s u : PureTerm) → (op ≡ BinOp.Equal) ⊎ (op ≡ BinOp.LessOrEqual) → Among s (sides_below (length vars)) → Among u (sides_below (length vars)) → Among (binary_of op s u) (tests_below (length vars))
  test_by op s u (inl e) one two =
      subst (λ o. Among (binary_of o s u) (tests_below (length vars))) (sym e)
      (among_right _ (variables_below (length vars)) _ (among_left _ (each_pair (binary_of BinOp.Equal) (sides_below (length vars)) (sides_below (length vars))) _ (among_pairs (binary_of BinOp.Equal) s u (sides_below (length vars)) (sides_below (length vars)) one two)))
  test_by op s u (inr e) one two =
      subst (λ o. Among (binary_of o s u) (tests_below (length vars))) (sym e)
      (among_right _ (variables_below (length vars)) _ (among_right _ (each_pair (binary_of BinOp.Equal) (sides_below (length vars)) (sides_below (length vars))) _ (among_pairs (binary_of BinOp.LessOrEqual) s u (sides_below (length vars)) (sides_below (length vars)) one two)))

  a_test : IsNumberTest t → Among t (tests_below (length vars))
  a_test test =
      let over = over_sides vars test.op test.left test.right (subst (IsOver vars) test.is split.true_there.over) in
      let between = and_parts _ _ (subst (λ u. has_literals_between (neg_ℤ (pos (2 ^ 80))) (pos (2 ^ 80)) u ≡ true) test.is split.true_there.literals) in
      subst (λ u. Among u (tests_below (length vars))) (sym test.is)
      (test_by test.op test.left test.right test.form (among_sides vars test.left test.whole_left over.0 between.0) (among_sides vars test.right test.whole_right over.1 between.1))

positive_among : (vars : List Sort) (t : PureTerm) → IsSplit vars t → Among (positive t) (sayable (length vars))
positive_among vars t split = among_left (positive t) (map positive (tests_below (length vars))) _ (among_map positive t (tests_below (length vars)) (test_among vars t split))

negative_among : (vars : List Sort) (t : PureTerm) → IsSplit vars t → Among (negative t) (sayable (length vars))
negative_among vars t split = among_right (negative t) (map positive (tests_below (length vars))) _ (among_left (negative t) (map negative (tests_below (length vars))) _ (among_map negative t (tests_below (length vars)) (test_among vars t split)))

kind_among : (vars : List Sort) (x : Var) (k : Kind) → x.number < length vars → Among (positive (kind_is (variable x) k)) (sayable (length vars))
kind_among vars x k there =
    among_right _ (map positive (tests_below (length vars))) _ (among_right _ (map negative (tests_below (length vars))) _ (among_left _ (each_pair (λ y l. positive (kind_is y l)) (variables_below (length vars)) all_kinds) _
    (among_pairs (λ y l. positive (kind_is y l)) (variable x) k (variables_below (length vars)) all_kinds (among_variables x (length vars) there) (among_kinds k))))

value_among : (vars : List Sort) (x : Var) (l : Literal) → x.number < length vars → Among l small_values → Among (positive (equals (variable x) (literal l))) (sayable (length vars))
value_among vars x l there value =
    among_right _ (map positive (tests_below (length vars))) _ (among_right _ (map negative (tests_below (length vars))) _ (among_right _ (each_pair (λ y k. positive (kind_is y k)) (variables_below (length vars)) all_kinds) _
    (among_pairs (λ y m. positive (equals y (literal m))) (variable x) l (variables_below (length vars)) small_values (among_variables x (length vars) there) value)))

pub kind_among_values : (k : Kind) → Among (Literal.Kind k) small_values
kind_among_values k = inr (inr (among_map Literal.Kind k all_kinds (among_kinds k)))

-- ---- what is said

same_atom-refl : (a : PureAtom) → same_atom a a ≡ true
same_atom-refl (positive t) = same_term-refl t
same_atom-refl (negative t) = same_term-refl t
same_atom-refl (opening t) = same_term-refl t

same_atom-same : (a b : PureAtom) → same_atom a b ≡ true → a ≡ b
same_atom-same (positive s) (positive t) h = ap positive (same_term-same s t h)
same_atom-same (negative s) (negative t) h = ap negative (same_term-same s t h)
same_atom-same (opening s) (opening t) h = ap opening (same_term-same s t h)
same_atom-same a b h = absurd (false≢true h)

said_more : (list : List PureAtom) (b a : PureAtom) → is_said list a ≡ true → is_said (list ++ b ∷ []) a ≡ true
said_more [] b a h = absurd (false≢true h)
said_more (c ∷ list) b a h = ⊎_elim (λ here. or_left _ _ here) (λ there. or_right _ _ (said_more list b a there)) (or_cases (same_atom a c) (is_said list a) h)

said_last : (list : List PureAtom) (a : PureAtom) → is_said (list ++ a ∷ []) a ≡ true
said_last [] a = or_left _ _ (same_atom-refl a)
said_last (c ∷ list) a = or_right _ _ (said_last list a)

said_there : (list : List PureAtom) (a : PureAtom) → is_said list a ≡ true → (i : ℕ) × (slice_get list i ≡ Some a)
said_there [] a h = absurd (false≢true h)
said_there (c ∷ list) a h = ⊎_elim (λ here. (0, ap Some (sym (same_atom-same a c here)))) (λ there. let (i, at) = said_there list a there in (suc i, at)) (or_cases (same_atom a c) (is_said list a) h)

not_said : (list : List PureAtom) (a : PureAtom) → IsUnsaid list a → is_said list a ≡ false
not_said list a none = false_from_ne_true (is_said list a) (λ said. let (i, at) = said_there list a said in none i at)

unless_less : (p q : Bool) → (p ≡ true → q ≡ true) → one_unless q ≤ one_unless p
unless_less true q h = let e : q ≡ true = h refl in subst (λ b. one_unless b ≤ 0) (sym e) (omega arith)
unless_less false true h = omega arith
unless_less false false h = omega arith

unsaid_less : (list : List PureAtom) (b : PureAtom) (more : List PureAtom) → unsaid (list ++ b ∷ []) more ≤ unsaid list more
unsaid_less list b [] = omega arith
unsaid_less list b (a ∷ more) =
    let first = unless_less (is_said list a) (is_said (list ++ b ∷ []) a) (said_more list b a) in
    let rest = unsaid_less list b more in
    omega (arith, first, rest)

unsaid_falls : (list : List PureAtom) (b : PureAtom) (more : List PureAtom) → Among b more → is_said list b ≡ false → unsaid (list ++ b ∷ []) more < unsaid list more
unsaid_falls list b [] h absent = absurd h
unsaid_falls list b (a ∷ more) (inl e) absent =
    let after : one_unless (is_said (list ++ b ∷ []) a) ≡ 0 = ap one_unless (subst (λ c. is_said (list ++ b ∷ []) c ≡ true) e (said_last list b)) in
    let before : one_unless (is_said list a) ≡ 1 = ap one_unless (subst (λ c. is_said list c ≡ false) e absent) in
    let rest = unsaid_less list b more in
    omega (arith, after, before, rest)
unsaid_falls list b (a ∷ more) (inr h) absent =
    let first = unless_less (is_said list a) (is_said (list ++ b ∷ []) a) (said_more list b a) in
    let rest = unsaid_falls list b more h absent in
    omega (arith, first, rest)

-- ---- disequalities of list terms

differ_more : (list : List PureAtom) (b : PureAtom) (ts us : PureTerms) → some_differ list ts us ≡ true → some_differ (list ++ b ∷ []) ts us ≡ true
differ_more list b (term_and t ts) (term_and u us) h =
    ⊎_elim (λ here. or_left _ _ (said_more list b (negative (equals t u)) here)) (λ there. or_right _ _ (differ_more list b ts us there)) (or_cases (is_said list (negative (equals t u))) (some_differ list ts us) h)
differ_more list b (term_and t ts) no_terms h = absurd (false≢true h)
differ_more list b no_terms us h = absurd (false≢true h)

size_less : (p q : Bool) (ts : PureTerms) → (p ≡ true → q ≡ true) → size_unless q ts ≤ size_unless p ts
size_less true q ts h = let e : q ≡ true = h refl in subst (λ b. size_unless b ts ≤ 0) (sym e) (omega arith)
size_less false true ts h = omega arith
size_less false false ts h = omega arith

same_less : (n : ℕ) → n ≤ n
same_less n = omega arith

sides_less : (list : List PureAtom) (b : PureAtom) (s t : PureTerm) → open_sides (list ++ b ∷ []) s t ≤ open_sides list s t
sides_less list b (list_of ts) (list_of us) = size_less (some_differ list ts us) (some_differ (list ++ b ∷ []) ts us) ts (differ_more list b ts us)
sides_less list b (list_of ts) (literal l) = same_less 0
sides_less list b (list_of ts) (variable x) = same_less 0
sides_less list b (list_of ts) (unary_of op u) = same_less 0
sides_less list b (list_of ts) (binary_of op u w) = same_less 0
sides_less list b (literal l) t = same_less 0
sides_less list b (variable x) t = same_less 0
sides_less list b (unary_of op u) t = same_less 0
sides_less list b (binary_of op u w) t = same_less 0

term_less : (list : List PureAtom) (b : PureAtom) (t : PureTerm) → open_term (list ++ b ∷ []) t ≤ open_term list t
term_less list b (binary_of BinOp.Equal s t) = sides_less list b s t
term_less list b (binary_of op s t) = same_less 0
term_less list b (literal l) = same_less 0
term_less list b (variable x) = same_less 0
term_less list b (list_of ts) = same_less 0
term_less list b (unary_of op t) = same_less 0

open_less : (list : List PureAtom) (b a : PureAtom) → open_size (list ++ b ∷ []) a ≤ open_size list a
open_less list b (negative t) = term_less list b t
open_less list b (positive t) = same_less 0
open_less list b (opening t) = same_less 0

opens_less : (list : List PureAtom) (b : PureAtom) (more : List PureAtom) → open_sizes (list ++ b ∷ []) more ≤ open_sizes list more
opens_less list b [] = same_less 0
opens_less list b (a ∷ more) = let first = open_less list b a in let rest = opens_less list b more in omega (arith, first, rest)

opens_last : (list more : List PureAtom) (b : PureAtom) → open_sizes list (more ++ b ∷ []) ≡ open_sizes list more + open_size list b
opens_last list [] b = omega arith
opens_last list (a ∷ more) b = let rest = opens_last list more b in omega (arith, rest)

nowhere : (i : ℕ) (t : PureTerm) → slice_get [] i ≡ Some t → ⊥
nowhere i t at = cc

no_atom : (i : ℕ) (a : PureAtom) → slice_get [] i ≡ Some a → ⊥
no_atom i a at = cc

size_element : (ts : PureTerms) (k : ℕ) (t : PureTerm) → slice_get (to_list ts) k ≡ Some t → size t ≤ sizes ts
size_element no_terms k t at = absurd (nowhere k t at)
size_element (term_and s ts) zero t at = let same : size s ≡ size t = ap size (same_Some s t at) in omega (arith, same)
size_element (term_and s ts) (suc k) t at = let rest = size_element ts k t at in omega (arith, rest)

unless_most : (p : Bool) (ts : PureTerms) → size_unless p ts ≤ suc (sizes ts)
unless_most true ts = omega arith
unless_most false ts = omega arith

sides_small : (l : List PureAtom) (t u : PureTerm) → open_sides l t u ≤ size t
sides_small l (list_of ts) (list_of us) = unless_most (some_differ l ts us) ts
sides_small l (list_of ts) (literal k) = omega arith
sides_small l (list_of ts) (variable x) = omega arith
sides_small l (list_of ts) (unary_of op u) = omega arith
sides_small l (list_of ts) (binary_of op u w) = omega arith
sides_small l (literal k) u = omega arith
sides_small l (variable x) u = omega arith
sides_small l (unary_of op t) u = omega arith
sides_small l (binary_of op s t) u = omega arith

-- ---- what a split adds

module _ (vars : List Sort) (list : List PureAtom) where
  said_falls : (a : PureAtom) → Among a (sayable (length vars)) → IsUnsaid list a → open_size (list ++ a ∷ []) a ≡ 0 → Falls vars list a
  said_falls a among none small =
      let lists = opens_less list a list in
      let last = opens_last (list ++ a ∷ []) list a in
      let counted = unsaid_falls list a (sayable (length vars)) among (not_said list a none) in
      omega (arith, lists, last, counted, small)

  pub true_falls : (t : PureTerm) → IsSplit vars t → IsUndecided list t → Falls vars list (positive t)
  true_falls t split none = said_falls (positive t) (positive_among vars t split) none.not_true refl

  no_lists : (s t : PureTerm) (l : List PureAtom) → is_integer_side s ≡ true → open_sides l s t ≡ 0
  no_lists (list_of ts) t l whole = absurd (false≢true (and_parts _ false whole).1)
  no_lists (literal k) t l whole = refl
  no_lists (variable x) t l whole = refl
  no_lists (unary_of op u) t l whole = refl
  no_lists (binary_of op u w) t l whole = refl

  test_small : (t : PureTerm) (l : List PureAtom) → IsSplit vars t → open_term l t ≡ 0
  test_small t l split = ⊎_elim (λ is. let (x, (is_x, sort)) = from_is_variable_of Sort.Bool t is in ap (open_term l) is_x)
      (λ test. ap (open_term l) test.is ∙ by_op test.op test.left test.right test.form test.whole_left) split.basic where
        by_op : (op : BinOp) (s u : PureTerm) → (op ≡ BinOp.Equal) ⊎ (op ≡ BinOp.LessOrEqual) → is_integer_side s ≡ true → open_term l (binary_of op s u) ≡ 0
        by_op op s u (inl e) whole = ap (λ o. open_term l (binary_of o s u)) e ∙ no_lists s u l whole
        by_op op s u (inr e) whole = ap (λ o. open_term l (binary_of o s u)) e

  pub false_falls : (t : PureTerm) → IsSplit vars t → IsUndecided list t → Falls vars list (negative t)
  false_falls t split none = said_falls (negative t) (negative_among vars t split) none.not_false (test_small t (list ++ negative t ∷ []) split)

  pub kind_falls : (x : Var) (k : Kind) → x.number < length vars → IsUnsaid list (positive (kind_is (variable x) k)) → Falls vars list (positive (kind_is (variable x) k))
  kind_falls x k there none = said_falls (positive (kind_is (variable x) k)) (kind_among vars x k there) none refl

  pub value_falls : (x : Var) (l : Literal) → x.number < length vars → Among l small_values → IsUnsaid list (positive (equals (variable x) (literal l))) → Falls vars list (positive (equals (variable x) (literal l)))
  value_falls x l there value none = said_falls (positive (equals (variable x) (literal l))) (value_among vars x l there value) none refl

  -- ---- elements of list terms that differ

  differ_there : (ts us : PureTerms) → some_differ list ts us ≡ true → ElementsDiffer list ts us
  differ_there (term_and t ts) (term_and u us) h =
      ⊎_elim (λ here. let (i, at) = said_there list (negative (equals t u)) here in record { place = 0; left = t; right = u; at_left = refl; at_right = refl; differ = record { place = i; at = inl at } })
      (λ there. let rest = differ_there ts us there in record { place = suc rest.place; left = rest.left; right = rest.right; at_left = rest.at_left; at_right = rest.at_right; differ = rest.differ }) (or_cases (is_said list (negative (equals t u))) (some_differ list ts us) h)
  differ_there (term_and t ts) no_terms h = absurd (false≢true h)
  differ_there no_terms us h = absurd (false≢true h)

  differ_now : (a : PureAtom) (ts us : PureTerms) (k : ℕ) (t u : PureTerm) → slice_get (to_list ts) k ≡ Some t → slice_get (to_list us) k ≡ Some u → a ≡ negative (equals t u) → some_differ (list ++ a ∷ []) ts us ≡ true
  differ_now a (term_and s ts) (term_and w us) zero t u left right is =
      let e : a ≡ negative (equals s w) = is ∙ (λ i. negative (equals (sym (same_Some s t left) i) (sym (same_Some w u right) i))) in
      or_left _ _ (subst (λ b. is_said (list ++ a ∷ []) b ≡ true) e (said_last list a))
  differ_now a (term_and s ts) (term_and w us) (suc k) t u left right is = or_right _ _ (differ_now a ts us k t u left right is)
  differ_now a no_terms us k t u left right is = absurd (nowhere k t left)
  differ_now a (term_and s ts) no_terms k t u left right is = absurd (nowhere k u right)

  element_small : (l : List PureAtom) (ts : PureTerms) (k : ℕ) (t u : PureTerm) → slice_get (to_list ts) k ≡ Some t → open_sides l t u ≤ sizes ts
  element_small l ts k t u at = let one = sides_small l t u in let two = size_element ts k t at in omega (arith, one, two)

  opens_fall : (a b : PureAtom) (more : List PureAtom) (i n : ℕ) → slice_get more i ≡ Some b → open_size (list ++ a ∷ []) b ≡ 0 → open_size list b ≡ n → open_sizes (list ++ a ∷ []) more + n ≤ open_sizes list more
  opens_fall a b [] i n at now before = absurd (no_atom i b at)
  opens_fall a b (c ∷ more) zero n at now before =
      let e : c ≡ b = same_Some c b at in
      let here : open_size (list ++ a ∷ []) c ≡ 0 = ap (open_size (list ++ a ∷ [])) e ∙ now in
      let there : open_size list c ≡ n = ap (open_size list) e ∙ before in
      let rest = opens_less list a more in
      omega (arith, here, there, rest)
  opens_fall a b (c ∷ more) (suc i) n at now before =
      let first = open_less list a c in
      let rest = opens_fall a b more i n at now before in
      omega (arith, first, rest)

  pub element_falls : (place : ℕ) (ts us : PureTerms) (k : ℕ) (t u : PureTerm) → slice_get list place ≡ Some (negative (equals (list_of ts) (list_of us))) → (ElementsDiffer list ts us → ⊥)
      → slice_get (to_list ts) k ≡ Some t → slice_get (to_list us) k ≡ Some u → Falls vars list (negative (equals t u))
  element_falls place ts us k t u at none left right =
      let a = negative (equals t u) in
      let apart : some_differ list ts us ≡ false = false_from_ne_true (some_differ list ts us) (λ h. none (differ_there ts us h)) in
      let done : some_differ (list ++ negative (equals t u) ∷ []) ts us ≡ true = differ_now (negative (equals t u)) ts us k t u left right refl in
      let lists = opens_fall (negative (equals t u)) (negative (equals (list_of ts) (list_of us))) list place (suc (sizes ts)) at (ap (λ p. size_unless p ts) done) (ap (λ p. size_unless p ts) apart) in
      let last = opens_last (list ++ negative (equals t u) ∷ []) list (negative (equals t u)) in
      let small = element_small (list ++ negative (equals t u) ∷ []) ts k t u left in
      let counted = unsaid_less list (negative (equals t u)) (sayable (length vars)) in
      omega (arith, lists, last, small, counted)
