-- A valuation by classes is proper and moderate, and makes true what it is to meet.
use Rattle.std.proofs.Common.{◌≡◌, ⊎_elim, ◌⊎◌, inl, inr, ℕ, zero, suc, ◌^◌, ◌<◌, ◌≤◌, max, ℤ, pos, neg_ℤ, List, [], ◌∷◌, length, true, false, Option, Some, None, slice_get, refl, sym, ap, ◌∙◌, subst, arith}
use Rattle.std.specs.List.{list_all, Contains}
use Rattle.std.specs.Option.{option_map}
use Rattle.std.proofs.lemmas.Bool.{false≢true, and_from, lt-ltb, false_from_ne_true, both_ways}
use Rattle.std.proofs.lemmas.List.Elements.{Contains-push}
use Rattle.std.proofs.lemmas.Option.{same_Some, slice_get_within, slice_get_past}
use Rattle.gil_values.specs.declared.kinds.Kind.{Kind}
use Rattle.gil_values.specs.EqualityLaws.{same_value-same, same_value-refl}
use Rattle.gil_values.specs.Equality.{same_value}
use Rattle.gil_values.specs.Pure.{PureValue, integer, symbol, kind_of}
use Rattle.gil_values.specs.Symbols.{OccursIn}
use Rattle.pure_terms.specs.declared.literals.Literal.{Literal}
use Rattle.pure_terms.specs.declared.variables.Sort.{Sort}
use Rattle.pure_terms.specs.declared.variables.Var.{Var}
use Rattle.pure_terms.specs.Deciding.{has_moderate_numbers}
use Rattle.pure_terms.specs.EqualityLaws.{same_literal-same}
use Rattle.pure_terms.specs.Fragment.{is_variable_of, is_integer_literal}
use Rattle.pure_terms.specs.Kinds.{same_sort, has_sort}
use Rattle.pure_terms.specs.Meaning.{literal_value, value, truth, IsProper}
use Rattle.pure_terms.specs.Numbers.{is_between}
use Rattle.pure_terms.specs.Pure.{PureTerm, literal, variable, list_of, unary_of, binary_of, PureAtom, term_of}
use Rattle.pure_terms.proofs.FragmentLaws.{all_pass}
use Rattle.pure_terms.proofs.KindLaws.{over_variable}
use Rattle.pure_terms.proofs.SimpleLaws.{found}
use Rattle.solver_proof.specs.Chains.{is_fresh_over, is_empty_kind}
use Rattle.solver_proof.proofs.Truths.{equality_false}
use Rattle.equality_core.specs.Equating.{Equates, itself, turned, joined, EquatesNoClash}
use Rattle.equality_core.specs.Valued.{AreFragmentEqualities, FitNumbers, FitKinds, is_small_kind, IsSide, HasNoNumber, MayDiffer, MayAllDiffer, MeetsApart}
use Rattle.equality_core.specs.Values.{IsInTable, letters_of, letters_of_term, letters_of_sides, AreShort, new_value, IsKey, IsNew, IsValueOf, AreValues}
use Rattle.equality_core.proofs.Equaling.{equalities_true}
use Rattle.equality_core.proofs.Separating.{IsNarrow, from_narrow, from_moderate, small_between, new_between, literal_not_new, number_not_new, new_same, literal_narrow}
use Rattle.equality_core.proofs.Valuing.{no_clash, kind-new, keys_equate, class_kind, same_number, value_in}

literal-no_symbol : (l : Literal) (n : ℕ) → OccursIn n (literal_value l) → ⊥
literal-no_symbol l n occurs = none l occurs where
  no_element : Contains {X = ℕ} [] n → ⊥
  no_element (k, below, is) = omega (arith, below)

  none : (l : Literal) → OccursIn n (literal_value l) → ⊥
  none (Literal.Int m) occurs = no_element occurs
  none (Literal.Bool b) occurs = no_element occurs
  none (Literal.Str cs) occurs = no_element occurs
  none (Literal.Kind k) occurs = no_element occurs
  none (Literal.Proc name) occurs = no_element occurs

no_symbol_there : (n : ℕ) → Contains {X = ℕ} [] n → ⊥
no_symbol_there n (k, below, is) = omega (arith, below)

new-symbol : (long : ℕ) (k : Kind) (key n : ℕ) → OccursIn n (new_value long k key) → key ≡ n
new-symbol long Kind.Sym key n occurs = one occurs where
  one : Contains (key ∷ []) n → key ≡ n
  one (zero, below, is) = is
  one (suc k, below, is) = absurd (omega (arith, below))
new-symbol long Kind.Int key n occurs = absurd (no_symbol_there n occurs)
new-symbol long Kind.Bool key n occurs = absurd (no_symbol_there n occurs)
new-symbol long Kind.Str key n occurs = absurd (no_symbol_there n occurs)
new-symbol long Kind.Kind key n occurs = absurd (no_symbol_there n occurs)
new-symbol long Kind.Proc key n occurs = absurd (no_symbol_there n occurs)
new-symbol long Kind.List key n occurs = absurd (no_symbol_there n occurs)
new-symbol long Kind.Undef key n occurs = absurd (no_symbol_there n occurs)
new-symbol long Kind.Null key n occurs = absurd (no_symbol_there n occurs)

literal-moderate : (l : Literal) → IsNarrow (literal l) → has_moderate_numbers (literal_value l) ≡ true
literal-moderate (Literal.Int n) narrow = from_narrow n narrow
literal-moderate (Literal.Bool b) narrow = refl
literal-moderate (Literal.Str cs) narrow = refl
literal-moderate (Literal.Kind k) narrow = refl
literal-moderate (Literal.Proc name) narrow = refl

new-moderate : (long : ℕ) (k : Kind) (key : ℕ) → key < 2 ^ 64 → has_moderate_numbers (new_value long k key) ≡ true
new-moderate long Kind.Int key small = new_between key small
new-moderate long Kind.Bool key small = refl
new-moderate long Kind.Str key small = refl
new-moderate long Kind.Sym key small = refl
new-moderate long Kind.Kind key small = refl
new-moderate long Kind.Proc key small = refl
new-moderate long Kind.List key small = and_from _ _ (small_between key small) refl
new-moderate long Kind.Undef key small = refl
new-moderate long Kind.Null key small = refl

same_by_value : (l m : Literal) → literal_value l ≡ literal_value m → l ≡ m
same_by_value l m e = same_literal-same l m (ap (same_value (literal_value l)) (sym e) ∙ same_value-refl (literal_value l))

number_literal : (l : Literal) (n : ℤ) → literal_value l ≡ integer n → is_integer_literal (literal l) ≡ true
number_literal (Literal.Int m) n e = refl
number_literal (Literal.Bool b) n e = cc
number_literal (Literal.Str cs) n e = cc
number_literal (Literal.Kind k) n e = cc
number_literal (Literal.Proc name) n e = cc

max_left : (a b c : ℕ) → max a b ≤ c → a ≤ c
max_left a b c h = omega (arith, h)

max_right : (a b c : ℕ) → max a b ≤ c → b ≤ c
max_right a b c h = omega (arith, h)

module _ (vars : List Sort) (atoms : List PureAtom) (numbers : List PureValue) (kinds : List Kind) (long : ℕ) (clear : EquatesNoClash atoms) (fit_numbers : FitNumbers vars atoms numbers) (fit_kinds : FitKinds vars atoms kinds) (v : List PureValue) (are : AreValues vars atoms numbers kinds long v) (fragment : AreFragmentEqualities vars atoms) (small : length vars < 2 ^ 64) where
  abbrev var_at : ℕ → Sort → Var
  var_at n s = record { number = n; sort = s }

  -- ---- proper

  sorts : (x : ℕ) (s : Sort) (w : PureValue) → slice_get vars x ≡ Some s → slice_get v x ≡ Some w → has_sort s w ≡ true
  sorts x s w at is = fit_kinds.sorts x s (kind_of w) at (class_kind vars atoms numbers kinds long clear fit_numbers fit_kinds (var_at x s) w (are.each (var_at x s) w at is))

  -- a symbol in a value is the key of the class
  symbol_key : (x : Var) (w : PureValue) (n : ℕ) → IsValueOf vars atoms numbers kinds long x w → OccursIn n w → IsKey vars atoms x n
  symbol_key x w n (inl a) occurs = absurd (literal-no_symbol a.of n (subst (OccursIn n) a.is occurs))
  symbol_key x w n (inr (lacks, inl a)) occurs =
      let given = fit_numbers.each a.of.number (a.there ∙ ap Some a.whole) in
      let is : w ≡ integer given.number = same_Some w (integer given.number) (sym a.is ∙ given.is) in
      absurd (no_symbol_there n (subst (OccursIn n) is occurs))
  symbol_key x w n (inr (lacks, inr a)) occurs = subst (IsKey vars atoms x) (new-symbol long a.of a.key n (subst (OccursIn n) a.is occurs)) a.is_key

  fresh_key : (x n : ℕ) → slice_get vars x ≡ Some Sort.Fresh → IsKey vars atoms (var_at x Sort.Fresh) n → n ≡ x
  fresh_key x n at key = at_most (key.within) (λ less. both_ways (is_fresh_over (variable (var_at x Sort.Fresh)) (variable (var_at n key.sort))) (no_clash (variable (var_at x Sort.Fresh)) (variable (var_at n key.sort)) (clear (variable (var_at x Sort.Fresh)) (variable (var_at n key.sort)) key.equated)).fresh (and_from _ _ (lt-ltb n x less) refl)) where
    at_most : n ≤ x → (n < x → ⊥) → n ≡ x
    at_most h no_less = omega (arith, h, no_less)

  fresh : (x y n : ℕ) (w : PureValue) → slice_get vars x ≡ Some Sort.Fresh → slice_get v x ≡ Some (symbol n) → y < x → slice_get v y ≡ Some w → OccursIn n w → ⊥
  fresh x y n w at is below other occurs =
      let own : n ≡ x = fresh_key x n at (symbol_key (var_at x Sort.Fresh) (symbol n) n (are.each (var_at x Sort.Fresh) (symbol n) at is) (Contains-push [] n)) in
      let (s, there) = found vars y (subst (λ m. y < m) are.one_each (slice_get_within v y w other)) in
      let theirs = symbol_key (var_at y s) w n (are.each (var_at y s) w there other) occurs in
      let within : n ≤ y = theirs.within in
      omega (arith, below, own, within)

  pub proper : IsProper vars v
  proper = record { one_each = are.one_each; sorts = sorts; fresh = fresh }

  -- ---- moderate

  moderate_value : (x : Var) (w : PureValue) → IsInTable vars x → IsValueOf vars atoms numbers kinds long x w → has_moderate_numbers w ≡ true
  moderate_value x w there (inl a) = ap has_moderate_numbers a.is ∙ literal-moderate a.of (literal_narrow vars atoms fragment x a.of a.equated)
  moderate_value x w there (inr (lacks, inl a)) =
      let given = fit_numbers.each a.of.number (a.there ∙ ap Some a.whole) in
      let is : w ≡ integer given.number = same_Some w (integer given.number) (sym a.is ∙ given.is) in
      ap has_moderate_numbers is ∙ from_moderate given.number given.between
  moderate_value x w there (inr (lacks, inr a)) = ap has_moderate_numbers a.is ∙ new-moderate long a.of a.key (less (slice_get_within vars x.number x.sort there) a.is_key.within) where
    less : x.number < length vars → a.key ≤ x.number → a.key < 2 ^ 64
    less h g = omega (arith, h, g, small)

  pub all_moderate : list_all has_moderate_numbers v ≡ true
  all_moderate = all_pass has_moderate_numbers v each where
    each : (i : ℕ) (w : PureValue) → slice_get v i ≡ Some w → has_moderate_numbers w ≡ true
    each i w at =
        let (s, there) = found vars i (subst (λ m. i < m) are.one_each (slice_get_within v i w at)) in
        moderate_value (var_at i s) w there (are.each (var_at i s) w there at)

  pub same_kinds_there : (x : ℕ) → option_map kind_of (slice_get v x) ≡ slice_get kinds x
  same_kinds_there x = by_cases (slice_get v x) refl where
    by_cases : (o : Option PureValue) → slice_get v x ≡ o → option_map kind_of (slice_get v x) ≡ slice_get kinds x
    by_cases (Some w) at =
        let (s, there) = found vars x (subst (λ m. x < m) are.one_each (slice_get_within v x w at)) in
        ap (option_map kind_of) at ∙ sym (class_kind vars atoms numbers kinds long clear fit_numbers fit_kinds (var_at x s) w (are.each (var_at x s) w there at))
    by_cases None at = ap (option_map kind_of) at ∙ sym (nothing (past v x at)) where
      past : {X : Type 0} (xs : List X) (i : ℕ) → slice_get xs i ≡ None → length xs ≤ i
      past [] i e = omega arith
      past (y ∷ ys) zero e = cc
      past (y ∷ ys) (suc i) e = let rest : length ys ≤ i = past ys i e in omega (arith, rest)

      nothing : length v ≤ x → slice_get kinds x ≡ None
      nothing h = slice_get_past kinds x (at_most (length v) (length kinds) h (are.one_each ∙ sym fit_kinds.one_each)) where
        at_most : (a b : ℕ) → a ≤ x → a ≡ b → b ≤ x
        at_most a b h e = omega (arith, h, e)

  -- ---- sides of disequalities

  record SideLiteral (t : PureTerm) (w : PureValue) : Type 0 where
    of : Literal
    equated : Equates atoms t (literal of)
    short : letters_of of ≤ long
    narrow : IsNarrow (literal of)
    is : w ≡ literal_value of

  record SideNumber (t : PureTerm) (w : PureValue) : Type 0 where
    of : Var
    whole : of.sort ≡ Sort.Int
    equated : Equates atoms t (variable of)
    number : ℤ
    between : is_between (neg_ℤ (pos (2 ^ 124))) (pos (2 ^ 124)) number ≡ true
    is : w ≡ integer number

  record SideNew (t : PureTerm) (w : PureValue) : Type 0 where
    x : Var
    same : t ≡ variable x
    large : (k : Kind) → slice_get kinds x.number ≡ Some k → is_small_kind k ≡ false
    new : IsNew vars atoms kinds long x w

  abbrev SideHas : PureTerm → PureValue → Type 0
  SideHas t w = SideLiteral t w ⊎ (SideNumber t w ⊎ SideNew t w)

  record SideValue (t : PureTerm) : Type 0 where
    of_side : PureValue
    at : value v t ≡ Some of_side
    has : SideHas t of_side

  side_value : (t : PureTerm) → IsSide vars atoms kinds t → letters_of_term t ≤ long → SideValue t
  side_value (literal l) side short = record { of_side = literal_value l; at = refl; has = inl (record { of = l; equated = itself; short = short; narrow = side.narrow; is = refl }) }
  side_value (variable x) side short =
      let there = over_variable vars x side.over in
      let found = value_in vars atoms numbers kinds long clear fit_numbers fit_kinds v are x there in
      record { of_side = found.of_class; at = found.at; has = by_cases found.of_class found.is } where
        by_cases : (w : PureValue) → IsValueOf vars atoms numbers kinds long x w → SideHas (variable x) w
        by_cases w (inl a) = inl (record { of = a.of; equated = a.equated; short = a.short; narrow = literal_narrow vars atoms fragment x a.of a.equated; is = a.is })
        by_cases w (inr (lacks, inl a)) =
            let given = fit_numbers.each a.of.number (a.there ∙ ap Some a.whole) in
            inr (inl (record { of = a.of; whole = a.whole; equated = a.equated; number = given.number; between = given.between; is = same_Some w (integer given.number) (sym a.is ∙ given.is) }))
        by_cases w (inr (lacks, inr a)) = inr (inr (record { x = x; same = refl; large = λ k at. false_from_ne_true (is_small_kind k) (settled k at); new = a })) where
          settled : (k : Kind) → slice_get kinds x.number ≡ Some k → is_small_kind k ≡ true → ⊥
          settled k at tiny = let (l, e) = side.settled k at tiny in lacks l e
  side_value (list_of ts) side short = absurd (false≢true side.flat)
  side_value (unary_of op t) side short = absurd (false≢true side.flat)
  side_value (binary_of op s t) side short = absurd (false≢true side.flat)

  -- one side is a number's literal, and the other equated with an Int variable; or both are with one
  no_numbers : (s t : PureTerm) → HasNoNumber atoms s ⊎ HasNoNumber atoms t → (u w : PureTerm) → Equates atoms s u → Equates atoms t w
      → (is_variable_of Sort.Int u ≡ true) ⊎ (is_integer_literal u ≡ true) → (is_variable_of Sort.Int w ≡ true) ⊎ (is_integer_literal w ≡ true) → ⊥
  no_numbers s t free u w at_s at_t one two = ⊎_elim (λ none. never u (none u at_s) one) (λ none. never w (none w at_t) two) free where
    never : (x : PureTerm) → (is_variable_of Sort.Int x ≡ false) × (is_integer_literal x ≡ false) → (is_variable_of Sort.Int x ≡ true) ⊎ (is_integer_literal x ≡ true) → ⊥
    never x none (inl e) = both_ways (is_variable_of Sort.Int x) none.0 e
    never x none (inr e) = both_ways (is_integer_literal x) none.1 e

  int_variable : (x : Var) → x.sort ≡ Sort.Int → is_variable_of Sort.Int (variable x) ≡ true
  int_variable x whole = ap (λ s. same_sort s Sort.Int) whole

  inhabited : (t : PureTerm) (w : PureValue) (new : SideNew t w) → is_empty_kind new.new.of ≡ false
  inhabited t w new = fit_kinds.inhabited new.x.number new.new.of new.new.there

  large : (t : PureTerm) (w : PureValue) (new : SideNew t w) → is_small_kind new.new.of ≡ false
  large t w new = new.large new.new.of new.new.there

  never_same : (s t : PureTerm) (u w : PureValue) → (Equates atoms s t → ⊥) → HasNoNumber atoms s ⊎ HasNoNumber atoms t → SideHas s u → SideHas t w → u ≡ w → ⊥
  never_same s t u w apart free (inl a) (inl b) same =
      let literals : a.of ≡ b.of = same_by_value a.of b.of (sym a.is ∙ same ∙ b.is) in
      apart (joined a.equated (turned (subst (λ l. Equates atoms t (literal l)) (sym literals) b.equated)))
  never_same s t u w apart free (inl a) (inr (inl b)) same =
      no_numbers s t free (literal a.of) (variable b.of) a.equated b.equated (inr (number_literal a.of b.number (sym a.is ∙ same ∙ b.is))) (inl (int_variable b.of b.whole))
  never_same s t u w apart free (inl a) (inr (inr b)) same = literal_not_new long a.of b.new.of b.new.key a.narrow a.short (inhabited t w b) (large t w b) (sym a.is ∙ same ∙ b.new.is)
  never_same s t u w apart free (inr (inl a)) (inl b) same =
      no_numbers s t free (variable a.of) (literal b.of) a.equated b.equated (inl (int_variable a.of a.whole)) (inr (number_literal b.of a.number (sym b.is ∙ sym same ∙ a.is)))
  never_same s t u w apart free (inr (inl a)) (inr (inl b)) same =
      no_numbers s t free (variable a.of) (variable b.of) a.equated b.equated (inl (int_variable a.of a.whole)) (inl (int_variable b.of b.whole))
  never_same s t u w apart free (inr (inl a)) (inr (inr b)) same = number_not_new long a.number b.new.of b.new.key a.between (sym a.is ∙ same ∙ b.new.is)
  never_same s t u w apart free (inr (inr a)) (inl b) same = literal_not_new long b.of a.new.of a.new.key b.narrow b.short (inhabited s u a) (large s u a) (sym b.is ∙ sym same ∙ a.new.is)
  never_same s t u w apart free (inr (inr a)) (inr (inl b)) same = number_not_new long b.number a.new.of a.new.key b.between (sym b.is ∙ sym same ∙ a.new.is)
  never_same s t u w apart free (inr (inr a)) (inr (inr b)) same =
      let values : new_value long a.new.of a.new.key ≡ new_value long b.new.of b.new.key = sym a.new.is ∙ same ∙ b.new.is in
      let of : a.new.of ≡ b.new.of = sym (kind-new long a.new.of a.new.key (inhabited s u a)) ∙ ap kind_of values ∙ kind-new long b.new.of b.new.key (inhabited t w b) in
      let keys : a.new.key ≡ b.new.key = new_same long b.new.of a.new.key b.new.key (inhabited t w b) (large t w b) (ap (λ k. new_value long k a.new.key) (sym of) ∙ values) in
      let equated = keys_equate vars atoms numbers kinds long clear fit_numbers fit_kinds a.x b.x a.new.key b.new.key a.new.is_key b.new.is_key keys in
      apart (subst (λ z. Equates atoms z t) (sym a.same) (subst (λ z. Equates atoms (variable a.x) z) (sym b.same) equated))

  differ_true : (a : PureAtom) → MayDiffer vars atoms kinds a → letters_of_sides (term_of a) ≤ long → truth v a ≡ true
  differ_true a may short =
      let sizes : max (letters_of_term may.left) (letters_of_term may.right) ≤ long = subst (λ b. letters_of_sides (term_of b) ≤ long) may.is short in
      let one = side_value may.left may.left_side (max_left (letters_of_term may.left) (letters_of_term may.right) long sizes) in
      let two = side_value may.right may.right_side (max_right (letters_of_term may.left) (letters_of_term may.right) long sizes) in
      ap (truth v) may.is ∙ equality_false v may.left may.right one.of_side two.of_side one.at two.at
      (false_from_ne_true (same_value one.of_side two.of_side) (λ same. never_same may.left may.right one.of_side two.of_side may.apart may.open_side one.has two.has (same_value-same one.of_side two.of_side same)))

  pub meets_apart : (apart : List PureAtom) → MayAllDiffer vars atoms kinds apart → AreShort long apart → MeetsApart vars atoms numbers kinds apart v
  meets_apart apart may short = record {
    proper = proper;
    equal = equalities_true vars atoms numbers kinds long clear fit_numbers fit_kinds v are fragment proper;
    differ = all_pass (truth v) apart (λ i a at. differ_true a (may i a at) (short i a at));
    same_numbers = same_number vars atoms numbers kinds long clear fit_numbers fit_kinds v are;
    same_kinds = same_kinds_there;
    moderate = all_moderate;
  }
