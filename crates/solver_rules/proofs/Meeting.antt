-- Numbers that meet the rows of a list fit its equalities, where the rules about numbers have nothing to add.
use Rattle.std.proofs.Common.{◌≡◌, ⊎_elim, ◌⊎◌, inl, inr, ℕ, List, [], ◌∷◌, Bool, true, false, not, ◌&&◌, ◌||◌, if◌then◌else◌, Option, Some, None, refl, sym, ap, ◌∙◌}
use Rattle.std.proofs.lemmas.Bool.{false≢true, and_parts, and_from, or_cases, not-true, not-false, both_ways, false_from_ne_true}
use Rattle.gil_values.specs.declared.kinds.Kind.{Kind}
use Rattle.gil_values.specs.Pure.{PureValue}
use Rattle.pure_terms.specs.declared.literals.Literal.{Literal}
use Rattle.pure_terms.specs.declared.variables.Sort.{Sort}
use Rattle.pure_terms.specs.Fragment.{is_simple, is_flat, names_sort, is_variable_of, is_integer_side}
use Rattle.pure_terms.specs.Kinds.{same_sort, known_kind, is_of_kind, kind_of_sort}
use Rattle.pure_terms.specs.Meaning.{value}
use Rattle.pure_terms.specs.Pure.{PureTerm, literal, variable, list_of, unary_of, binary_of, PureAtom}
use Rattle.pure_terms.proofs.KindLaws.{same_kinds}
use Rattle.pure_terms.proofs.SimpleLaws.{from_is_of_kind, simple_terms_have_kinds}
use Rattle.solver_proof.specs.Chains.{equality_at, Leads, are_other_kinds}
use Rattle.equality_core.specs.declared.classes.Wanted.{Wanted}
use Rattle.equality_core.specs.Classes.{PureClasses, given_list}
use Rattle.equality_core.specs.Classified.{is_wanted, first_in_class}
use Rattle.equality_core.specs.Equating.{Equates, turned, joined}
use Rattle.equality_core.proofs.Exact.{PlainSides, plain_sides}
use Rattle.equality_core.proofs.Seeking.{first-same, paths}
use Rattle.equality_core.proofs.Valuing.{no_clash}
use Rattle.solver_rules.specs.Rules.{SaysEqual, IsMet}
use Rattle.solver_rules.specs.Steps.{IsNode}
use Rattle.solver_rules.proofs.KindsApart.{forms_given, clear_given, first_found}
use Rattle.solver_rules.proofs.Plain.{number_side}

-- the number of a term: of the first number of its class where it is a variable of sort any, else its own
abbrev number_of_class : List PureValue → Option PureTerm → Option PureValue
number_of_class v (Some n) = value v n
number_of_class v None = None

abbrev number_if : Bool → List PureValue → PureTerm → Option PureValue
number_if true v t = value v t
number_if false v t = None

abbrev pub number_of : PureClasses → List PureValue → PureTerm → Option PureValue
number_of c v t = if is_variable_of Sort.Any t then number_of_class v (first_in_class c.nodes Wanted.Number t) else number_if (is_integer_side t) v t

-- two whole numbers by form and sort that an atom says to be equal have one number
abbrev pub AreRowsMet : PureClasses → List PureValue → Type 0
AreRowsMet c v = (i : ℕ) (s t : PureTerm) → equality_at c.list i ≡ Some (record { left = s; right = t }) → is_integer_side s ≡ true → is_integer_side t ≡ true → value v s ≡ value v t

-- each variable of sort any meets the numbers that it is said to be equal to
abbrev pub AreAllMet : PureClasses → Type 0
AreAllMet c = (i : ℕ) (s t : PureTerm) → equality_at c.list i ≡ Some (record { left = s; right = t }) → IsMet c s t × IsMet c t s

integer_kind : (t : PureTerm) → is_integer_side t ≡ true → known_kind t ≡ Some Kind.Int
integer_kind t side = from_is_of_kind (known_kind t) Kind.Int (and_parts (is_simple t) _ side).1

integer_not_any : (t : PureTerm) → is_integer_side t ≡ true → is_variable_of Sort.Any t ≡ false
integer_not_any (literal l) side = refl
integer_not_any (variable x) side = by_sort x.sort refl where
  by_sort : (s : Sort) → x.sort ≡ s → same_sort x.sort Sort.Any ≡ false
  by_sort Sort.Any is = absurd (false≢true (ap (λ s. is_of_kind (kind_of_sort s) Kind.Int) (sym is) ∙ side))
  by_sort Sort.Int is = ap (λ s. same_sort s Sort.Any) is
  by_sort Sort.Bool is = ap (λ s. same_sort s Sort.Any) is
  by_sort Sort.Str is = ap (λ s. same_sort s Sort.Any) is
  by_sort Sort.Sym is = ap (λ s. same_sort s Sort.Any) is
  by_sort Sort.Fresh is = ap (λ s. same_sort s Sort.Any) is
  by_sort Sort.List is = ap (λ s. same_sort s Sort.Any) is
integer_not_any (list_of ts) side = refl
integer_not_any (unary_of op t) side = refl
integer_not_any (binary_of op s t) side = refl

if_true : {A : Type 0} (b : Bool) (x y : A) → b ≡ true → (if b then x else y) ≡ x
if_true b x y is = ap (λ (c : Bool). if c then x else y) is

if_false : {A : Type 0} (b : Bool) (x y : A) → b ≡ false → (if b then x else y) ≡ y
if_false b x y is = ap (λ (c : Bool). if c then x else y) is

integer_number : (c : PureClasses) (v : List PureValue) (t : PureTerm) → is_integer_side t ≡ true → number_of c v t ≡ value v t
integer_number c v t side = if_false (is_variable_of Sort.Any t) (number_of_class v (first_in_class c.nodes Wanted.Number t)) (number_if (is_integer_side t) v t) (integer_not_any t side) ∙ ap (λ b. number_if b v t) side

-- plain terms that aren't variables of sort any name none, where one of two isn't flat; and flat ones don't either
not_any_names : (t : PureTerm) → is_flat t ≡ true → is_variable_of Sort.Any t ≡ false → names_sort Sort.Any t ≡ false
not_any_names (literal l) flat is = refl
not_any_names (variable x) flat is = is
not_any_names (list_of ts) flat is = absurd (false≢true flat)
not_any_names (unary_of op t) flat is = absurd (false≢true flat)
not_any_names (binary_of op s t) flat is = absurd (false≢true flat)

module _ (vars : List Sort) (list : List PureAtom) (c : PureClasses) (node : IsNode vars list c) (v : List PureValue) (rows : AreRowsMet c v) (met : AreAllMet c) where
  equated : (i : ℕ) (s t : PureTerm) → equality_at c.list i ≡ Some (record { left = s; right = t }) → Equates (given_list c) s t
  equated i s t is = node.whole.equated i (record { left = s; right = t }) is

  plain_at : (i : ℕ) (s t : PureTerm) → equality_at c.list i ≡ Some (record { left = s; right = t }) → PlainSides s t
  plain_at i s t is = plain_sides s t (node.whole.plain (forms_given vars list c node) i (record { left = s; right = t }) is)

  kinds_at : (s t : PureTerm) → Equates (given_list c) s t → are_other_kinds (known_kind s) (known_kind t) ≡ false
  kinds_at s t e = (no_clash s t (clear_given vars list c node s t e)).kinds

  -- neither side is a variable of sort any
  both_known : (i : ℕ) (s t : PureTerm) → equality_at c.list i ≡ Some (record { left = s; right = t }) → names_sort Sort.Any s ≡ false → names_sort Sort.Any t ≡ false → number_if (is_integer_side s) v s ≡ number_if (is_integer_side t) v t
  both_known i s t is none_s none_t = by_test (is_integer_side s) (is_integer_side t) refl refl where
    plain : PlainSides s t
    plain = plain_at i s t is

    same_kind_there : known_kind s ≡ known_kind t
    same_kind_there =
        let (k, is_s) = simple_terms_have_kinds s plain.simple_left none_s in
        let (l, is_t) = simple_terms_have_kinds t plain.simple_right none_t in
        is_s ∙ ap Some (same_kinds k l (not-false _ ((λ j. are_other_kinds (sym is_s j) (sym is_t j)) ∙ kinds_at s t (equated i s t is)))) ∙ sym is_t

    sides_same : is_integer_side s ≡ is_integer_side t
    sides_same = (λ j. plain.simple_left j && is_of_kind (same_kind_there j) Kind.Int) ∙ ap (λ b. b && is_of_kind (known_kind t) Kind.Int) (sym plain.simple_right)

    by_test : (a b : Bool) → is_integer_side s ≡ a → is_integer_side t ≡ b → number_if (is_integer_side s) v s ≡ number_if (is_integer_side t) v t
    by_test true b one two = let other : is_integer_side t ≡ true = sym sides_same ∙ one in ap (λ x. number_if x v s) one ∙ rows i s t is one other ∙ ap (λ x. number_if x v t) (sym other)
    by_test false b one two = ap (λ x. number_if x v s) one ∙ ap (λ x. number_if x v t) (sym (sym sides_same ∙ one))

  -- a variable of sort any and another term
  any_names : (t : PureTerm) → is_variable_of Sort.Any t ≡ true → names_sort Sort.Any t ≡ true
  any_names (variable x) is = is
  any_names (literal l) is = absurd (false≢true is)
  any_names (list_of ts) is = absurd (false≢true is)
  any_names (unary_of op t) is = absurd (false≢true is)
  any_names (binary_of op s t) is = absurd (false≢true is)

  flat_integer : (t : PureTerm) → is_flat t ≡ true → is_integer_side t ≡ true → is_wanted Wanted.Number t ≡ true
  flat_integer (literal (Literal.Int n)) flat side = refl
  flat_integer (literal (Literal.Bool b)) flat side = absurd (false≢true side)
  flat_integer (literal (Literal.Str cs)) flat side = absurd (false≢true side)
  flat_integer (literal (Literal.Kind k)) flat side = absurd (false≢true side)
  flat_integer (literal (Literal.Proc name)) flat side = absurd (false≢true side)
  flat_integer (variable x) flat side = by_sort x.sort refl where
    by_sort : (s : Sort) → x.sort ≡ s → (same_sort x.sort Sort.Int || false) ≡ true
    by_sort Sort.Int is = ap (λ s. same_sort s Sort.Int || false) is
    by_sort Sort.Any is = absurd (false≢true (ap (λ s. is_of_kind (kind_of_sort s) Kind.Int) (sym is) ∙ side))
    by_sort Sort.Bool is = absurd (false≢true (ap (λ s. is_of_kind (kind_of_sort s) Kind.Int) (sym is) ∙ side))
    by_sort Sort.Str is = absurd (false≢true (ap (λ s. is_of_kind (kind_of_sort s) Kind.Int) (sym is) ∙ side))
    by_sort Sort.Sym is = absurd (false≢true (ap (λ s. is_of_kind (kind_of_sort s) Kind.Int) (sym is) ∙ side))
    by_sort Sort.Fresh is = absurd (false≢true (ap (λ s. is_of_kind (kind_of_sort s) Kind.Int) (sym is) ∙ side))
    by_sort Sort.List is = absurd (false≢true (ap (λ s. is_of_kind (kind_of_sort s) Kind.Int) (sym is) ∙ side))
  flat_integer (list_of ts) flat side = absurd (false≢true flat)
  flat_integer (unary_of op t) flat side = absurd (false≢true flat)
  flat_integer (binary_of op s t) flat side = absurd (false≢true flat)

  says_same : (m n : PureTerm) → SaysEqual c.list m n → is_integer_side m ≡ true → is_integer_side n ≡ true → value v m ≡ value v n
  says_same m n says side_m side_n = ⊎_elim (λ e. rows says.place m n e side_m side_n) (λ e. sym (rows says.place n m e side_n side_m)) says.at

  any_step : (s t : PureTerm) → Equates (given_list c) s t → is_variable_of Sort.Any s ≡ true → is_variable_of Sort.Any t ≡ false → is_flat t ≡ true → is_simple t ≡ true → IsMet c s t → number_of c v s ≡ number_of c v t
  any_step s t e any other flat simple is_met =
      if_true (is_variable_of Sort.Any s) (number_of_class v (first_in_class c.nodes Wanted.Number s)) (number_if (is_integer_side s) v s) any
      ∙ by_test (is_wanted Wanted.Number t) refl
      ∙ sym (if_false (is_variable_of Sort.Any t) (number_of_class v (first_in_class c.nodes Wanted.Number t)) (number_if (is_integer_side t) v t) other) where
        kinds_of_both : (n : PureTerm) → first_in_class c.nodes Wanted.Number s ≡ Some n → known_kind n ≡ Some Kind.Int → are_other_kinds (known_kind n) (known_kind t) ≡ false
        kinds_of_both n is kind = kinds_at n t (joined (turned (first_found vars list c node Wanted.Number s n is).equated) e)

        number : is_wanted Wanted.Number t ≡ true → number_of_class v (first_in_class c.nodes Wanted.Number s) ≡ number_if (is_integer_side t) v t
        number wanted =
            let (n, (first, same)) = is_met any wanted in
            let side_t : is_integer_side t ≡ true = number_side t wanted in
            let side_n : is_integer_side n ≡ true = number_side n (first_found vars list c node Wanted.Number s n first).wanted in
            ap (number_of_class v) first ∙ ⊎_elim (λ is. ap (value v) is) (λ says. says_same n t says side_n side_t) same ∙ ap (λ b. number_if b v t) (sym side_t)

        no_side : is_wanted Wanted.Number t ≡ false → is_integer_side t ≡ false
        no_side lacks = false_from_ne_true (is_integer_side t) (λ side. both_ways (is_wanted Wanted.Number t) lacks (flat_integer t flat side))

        no_first : (n : PureTerm) → is_wanted Wanted.Number t ≡ false → first_in_class c.nodes Wanted.Number s ≡ Some n → ⊥
        no_first n lacks first =
            let kind : known_kind n ≡ Some Kind.Int = integer_kind n (number_side n (first_found vars list c node Wanted.Number s n first).wanted) in
            let (k, is) = simple_terms_have_kinds t simple (not_any_names t flat other) in
            let same : Kind.Int ≡ k = same_kinds Kind.Int k (not-false _ ((λ j. are_other_kinds (sym kind j) (sym is j)) ∙ kinds_of_both n first kind)) in
            both_ways (is_integer_side t) (no_side lacks) (and_from _ _ simple (ap (λ o. is_of_kind o Kind.Int) (is ∙ ap Some (sym same))))

        none : is_wanted Wanted.Number t ≡ false → (o : Option PureTerm) → first_in_class c.nodes Wanted.Number s ≡ o → number_of_class v o ≡ number_if (is_integer_side t) v t
        none lacks (Some n) first = absurd (no_first n lacks first)
        none lacks None first = ap (λ b. number_if b v t) (sym (no_side lacks))

        by_test : (b : Bool) → is_wanted Wanted.Number t ≡ b → number_of_class v (first_in_class c.nodes Wanted.Number s) ≡ number_if (is_integer_side t) v t
        by_test true is = number is
        by_test false is = none is (first_in_class c.nodes Wanted.Number s) refl

  -- an equality
  sides_any : (i : ℕ) (s t : PureTerm) → equality_at c.list i ≡ Some (record { left = s; right = t }) → ((is_flat s ≡ true) × (is_flat t ≡ true)) ⊎ ((names_sort Sort.Any s ≡ false) × (names_sort Sort.Any t ≡ false))
  sides_any i s t is = ⊎_elim (λ flat. inl (and_parts (is_flat s) (is_flat t) flat)) (λ none. inr (not-true _ (and_parts (not (names_sort Sort.Any s)) (not (names_sort Sort.Any t)) none).0, not-true _ (and_parts (not (names_sort Sort.Any s)) (not (names_sort Sort.Any t)) none).1))
      (or_cases (is_flat s && is_flat t) (not (names_sort Sort.Any s) && not (names_sort Sort.Any t)) (plain_at i s t is).any)

  equality_step : (i : ℕ) (s t : PureTerm) → equality_at c.list i ≡ Some (record { left = s; right = t }) → number_of c v s ≡ number_of c v t
  equality_step i s t is = by_tests (is_variable_of Sort.Any s) (is_variable_of Sort.Any t) refl refl (sides_any i s t is) where
    of_any : (u : PureTerm) → is_variable_of Sort.Any u ≡ true → number_of c v u ≡ number_of_class v (first_in_class c.nodes Wanted.Number u)
    of_any u any = if_true (is_variable_of Sort.Any u) (number_of_class v (first_in_class c.nodes Wanted.Number u)) (number_if (is_integer_side u) v u) any

    of_other : (u : PureTerm) → is_variable_of Sort.Any u ≡ false → number_of c v u ≡ number_if (is_integer_side u) v u
    of_other u other = if_false (is_variable_of Sort.Any u) (number_of_class v (first_in_class c.nodes Wanted.Number u)) (number_if (is_integer_side u) v u) other

    by_tests : (a b : Bool) → is_variable_of Sort.Any s ≡ a → is_variable_of Sort.Any t ≡ b → ((is_flat s ≡ true) × (is_flat t ≡ true)) ⊎ ((names_sort Sort.Any s ≡ false) × (names_sort Sort.Any t ≡ false)) → number_of c v s ≡ number_of c v t
    by_tests true true any also sides = of_any s any ∙ ap (number_of_class v) (first-same c node.whole (forms_given vars list c node) (clear_given vars list c node) Wanted.Number s t (equated i s t is)) ∙ sym (of_any t also)
    by_tests true false any other (inl flat) = any_step s t (equated i s t is) any other flat.1 (plain_at i s t is).simple_right (met i s t is).0
    by_tests true false any other (inr none) = absurd (both_ways (names_sort Sort.Any s) none.0 (any_names s any))
    by_tests false true other any (inl flat) = sym (any_step t s (turned (equated i s t is)) any other flat.0 (plain_at i s t is).simple_left (met i s t is).1)
    by_tests false true other any (inr none) = absurd (both_ways (names_sort Sort.Any t) none.1 (any_names t any))
    by_tests false false other also (inl flat) = of_other s other ∙ both_known i s t is (not_any_names s flat.0 other) (not_any_names t flat.1 also) ∙ sym (of_other t also)
    by_tests false false other also (inr none) = of_other s other ∙ both_known i s t is none.0 none.1 ∙ sym (of_other t also)

  along : (path : List ℕ) (s t : PureTerm) → Leads c.list path s t → number_of c v s ≡ number_of c v t
  along [] s t same = ap (number_of c v) same
  along (i ∷ path) s t (u, (step, more)) = ⊎_elim (λ e. equality_step i s u e) (λ e. sym (equality_step i u s e)) step ∙ along path u t more

  pub integers_same : (s t : PureTerm) → Equates (given_list c) s t → is_integer_side s ≡ true → is_integer_side t ≡ true → value v s ≡ value v t
  integers_same s t e side_s side_t = sym (integer_number c v s side_s) ∙ inside (paths c node.whole (forms_given vars list c node) (clear_given vars list c node) s t e) ∙ integer_number c v t side_t where
    inside : (path : List ℕ) × Leads c.list path s t → number_of c v s ≡ number_of c v t
    inside (p, leads) = along p s t leads
