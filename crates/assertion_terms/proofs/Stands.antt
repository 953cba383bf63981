-- Which names stand in an assertion of named forms.
use Rattle.std.proofs.Common.{◌≡◌, ◌⊎◌, ⊎_elim, inl, inr, ℕ, ◌<◌, List, [], ◌∷◌, ◌++◌, map, length, Bool, true, false, ◌||◌, if◌then◌else◌, Some, slice_get, refl, sym, ap, ◌∙◌, append_assoc, append-nil, true≢false, arith}
use Rattle.std.specs.List.{flat_map, Contains}
use Rattle.std.specs.Str.{bytes_eq}
use Rattle.std.proofs.lemmas.Option.{slice_get_within}
use Rattle.std.proofs.lemmas.List.Elements.{Contains-append_left, Contains-append_right, Contains-append_cases, Contains-push, Contains-push_cases}
use Rattle.std.proofs.lemmas.Slice.Eq.{bytes_eq-Decides}
use Rattle.gil_values.specs.Pure.{boolean}
use Rattle.gil_values.proofs.OperatorSymbols.{none_contained}
use Rattle.gil_syntax.specs.Pure.{PureExpr, PureExprs, PureItem, pure, uses}
use Rattle.gil_syntax.specs.Pure as expr
use Rattle.gil_syntax.specs.Subexpressions.{subexpressions, subexpressions_of_all, own_names, names_of}
use Rattle.gil_syntax.specs.Valid.{is_among}
use Rattle.gil_syntax.specs.WellMade.{has_hash}
use Rattle.assert_logic.specs.Names.{named_among, named_by_item, named_by_items}
use Rattle.gil_grammar.specs.Assertions.{may_be_item}
use Rattle.pure_terms.specs.declared.variables.Sort.{Sort}
use Rattle.pure_terms.specs.declared.variables.Var.{Var}
use Rattle.pure_terms.specs.Meaning.{IsOver, AreVariablesOf}
use Rattle.pure_terms.specs.Pure.{PureTerm, literal, variable, list_of, unary_of, binary_of, PureTerms, no_terms, term_and, PureAtom, positive, negative, opening, term_of, variables, variables_of_all}
use Rattle.sym_model.specs.Lists.{OneOf}
use Rattle.sym_model.specs.Pure.{PureUse}
use Rattle.sym_model.specs.Terms.{AreEachOver}
use Rattle.sym_model.proofs.ListLaws.{each_left, each_right, one_left, one_right, one_parts}
use Rattle.assertion_terms.specs.Laws.{AreUsesOver, AreAtomsOver, IsNameIn, IsNameAmong, NamesAreOfVariables}
use Rattle.assertion_terms.specs.Named.{named, name_or_none, expr_of, exprs_of, equal, item_of, use_item, assertion_of}
use Rattle.assertion_terms.proofs.Evaluated.{there_is}

or_left : (a b : Bool) → a ≡ true → (a || b) ≡ true
or_left true b is = refl
or_left false b is = absurd (true≢false (sym is))

or_right : (a b : Bool) → b ≡ true → (a || b) ≡ true
or_right true b is = refl
or_right false b is = is

one_of_two : (a b : Bool) → (a || b) ≡ true → (a ≡ true) ⊎ (b ≡ true)
one_of_two true b is = inl refl
one_of_two false b is = inr is

among_append : (xs ys : List (List ℕ)) (x : List ℕ) → is_among (xs ++ ys) x ≡ (is_among xs x || is_among ys x)
among_append [] ys x = refl
among_append (z ∷ xs) ys x = ap (λ b. bytes_eq x z || b) (among_append xs ys x) ∙ by (bytes_eq x z)
  where
    by : (b : Bool) → (b || (is_among xs x || is_among ys x)) ≡ ((b || is_among xs x) || is_among ys x)
    by true = refl
    by false = refl

names_append : (ds es : List PureExpr) → flat_map own_names (ds ++ es) ≡ flat_map own_names ds ++ flat_map own_names es
names_append [] es = refl
names_append (d ∷ ds) es = ap (λ xs. own_names d ++ xs) (names_append ds es) ∙ sym (append_assoc (own_names d) (flat_map own_names ds) (flat_map own_names es))

named_names : (n : List ℕ) → names_of (named n) ≡ n ∷ []
named_names n = by (has_hash n)
  where
    by : (b : Bool) → names_of (if b then expr.logical n else expr.name n) ≡ n ∷ []
    by true = refl
    by false = refl

same_name : (x : List ℕ) → bytes_eq x x ≡ true
same_name x = (bytes_eq-Decides x x).1 refl

module _ (vars : List Sort) (names : List (List ℕ)) (as_many : length names ≡ length vars) (x : List ℕ) where
  -- ---- in one term

  of_variable : (y : Var) → slice_get vars y.number ≡ Some y.sort → is_among (names_of (named (name_or_none (slice_get names y.number)))) x ≡ true → slice_get names y.number ≡ Some x
  of_variable y at among =
      let less : y.number < length vars = slice_get_within vars y.number y.sort at in
      let many = as_many in
      let (n, name) = there_is names y.number (omega (arith, less, many)) in
      let here : is_among (n ∷ []) x ≡ true = ap (λ xs. is_among xs x) (sym (named_names n)) ∙ ap (λ o. is_among (names_of (named (name_or_none o))) x) (sym name) ∙ among in
      name ∙ ap Some (sym ((bytes_eq-Decides x n).0 (first (bytes_eq x n) here)))
    where
      first : (b : Bool) → (b || false) ≡ true → b ≡ true
      first true is = refl
      first false is = absurd (true≢false (sym is))

  mutual
    term_to : (t : PureTerm) → IsOver vars t → is_among (names_of (expr_of names t)) x ≡ true → IsNameIn names x t
    term_to (literal l) over among = absurd (true≢false (sym among))
    term_to (variable y) over among = (y, (Contains-push [] y, of_variable y (over y (Contains-push [] y)) among))
    term_to (list_of ts) over among = terms_to ts over among
    term_to (unary_of op t) over among = term_to t over among
    term_to (binary_of op s t) over among =
        ⊎_elim
        (λ first. let (y, (has, at)) = term_to s (λ z h. over z (Contains-append_left (variables s) (variables t) z h)) first in (y, (Contains-append_left (variables s) (variables t) y has, at)))
        (λ second. let (y, (has, at)) = term_to t (λ z h. over z (Contains-append_right (variables s) (variables t) z h)) second in (y, (Contains-append_right (variables s) (variables t) y has, at)))
        (one_of_two (is_among (names_of (expr_of names s)) x) (is_among (names_of (expr_of names t)) x)
        (sym (ap (λ xs. is_among xs x) (names_append (subexpressions (expr_of names s)) (subexpressions (expr_of names t))) ∙ among_append (names_of (expr_of names s)) (names_of (expr_of names t)) x) ∙ among))

    terms_to : (ts : PureTerms) → AreVariablesOf vars (variables_of_all ts) → is_among (flat_map own_names (subexpressions_of_all (exprs_of names ts))) x ≡ true → (y : Var) × (Contains (variables_of_all ts) y × (slice_get names y.number ≡ Some x))
    terms_to no_terms over among = absurd (true≢false (sym among))
    terms_to (term_and t ts) over among =
        ⊎_elim
        (λ first. let (y, (has, at)) = term_to t (λ z h. over z (Contains-append_left (variables t) (variables_of_all ts) z h)) first in (y, (Contains-append_left (variables t) (variables_of_all ts) y has, at)))
        (λ second. let (y, (has, at)) = terms_to ts (λ z h. over z (Contains-append_right (variables t) (variables_of_all ts) z h)) second in (y, (Contains-append_right (variables t) (variables_of_all ts) y has, at)))
        (one_of_two (is_among (names_of (expr_of names t)) x) (is_among (flat_map own_names (subexpressions_of_all (exprs_of names ts))) x)
        (sym (ap (λ xs. is_among xs x) (names_append (subexpressions (expr_of names t)) (subexpressions_of_all (exprs_of names ts))) ∙ among_append (names_of (expr_of names t)) (flat_map own_names (subexpressions_of_all (exprs_of names ts))) x) ∙ among))

  mutual
    term_from : (t : PureTerm) (y : Var) → Contains (variables t) y → slice_get names y.number ≡ Some x → is_among (names_of (expr_of names t)) x ≡ true
    term_from (literal l) y has at = absurd (none_contained y has)
    term_from (variable z) y has at =
        ⊎_elim (λ none. absurd (none_contained y none))
        (λ (is : z ≡ y).
        ap (λ (u : Var). is_among (names_of (named (name_or_none (slice_get names u.number)))) x) is ∙ ap (λ o. is_among (names_of (named (name_or_none o))) x) at
        ∙ ap (λ xs. is_among xs x) (named_names x) ∙ or_left (bytes_eq x x) false (same_name x))
        (Contains-push_cases [] z y has)
    term_from (list_of ts) y has at = terms_from ts y has at
    term_from (unary_of op t) y has at = term_from t y has at
    term_from (binary_of op s t) y has at =
        ap (λ xs. is_among xs x) (names_append (subexpressions (expr_of names s)) (subexpressions (expr_of names t))) ∙ among_append (names_of (expr_of names s)) (names_of (expr_of names t)) x
        ∙ ⊎_elim (λ first. or_left (is_among (names_of (expr_of names s)) x) (is_among (names_of (expr_of names t)) x) (term_from s y first at)) (λ second. or_right (is_among (names_of (expr_of names s)) x) (is_among (names_of (expr_of names t)) x) (term_from t y second at))
        (Contains-append_cases (variables s) (variables t) y has)

    terms_from : (ts : PureTerms) (y : Var) → Contains (variables_of_all ts) y → slice_get names y.number ≡ Some x → is_among (flat_map own_names (subexpressions_of_all (exprs_of names ts))) x ≡ true
    terms_from no_terms y has at = absurd (none_contained y has)
    terms_from (term_and t ts) y has at =
        ap (λ xs. is_among xs x) (names_append (subexpressions (expr_of names t)) (subexpressions_of_all (exprs_of names ts))) ∙ among_append (names_of (expr_of names t)) (flat_map own_names (subexpressions_of_all (exprs_of names ts))) x
        ∙ ⊎_elim (λ first. or_left (is_among (names_of (expr_of names t)) x) (is_among (flat_map own_names (subexpressions_of_all (exprs_of names ts))) x) (term_from t y first at)) (λ second. or_right (is_among (names_of (expr_of names t)) x) (is_among (flat_map own_names (subexpressions_of_all (exprs_of names ts))) x) (terms_from ts y second at))
        (Contains-append_cases (variables t) (variables_of_all ts) y has)

  -- ---- in lists

  list_to : (ts : List PureTerm) → AreEachOver vars ts → named_among (map (expr_of names) ts) x ≡ true → OneOf (IsNameIn names x) ts
  list_to [] over among = absurd (true≢false (sym among))
  list_to (t ∷ ts) over among = ⊎_elim (λ here. inl (term_to t over.0 here)) (λ later. inr (list_to ts over.1 later)) (one_of_two (is_among (names_of (expr_of names t)) x) (named_among (map (expr_of names) ts) x) among)

  list_from : (ts : List PureTerm) → OneOf (IsNameIn names x) ts → named_among (map (expr_of names) ts) x ≡ true
  list_from [] one = absurd one
  list_from (t ∷ ts) one =
      ⊎_elim (λ (here : IsNameIn names x t). or_left (is_among (names_of (expr_of names t)) x) (named_among (map (expr_of names) ts) x) (term_from t here.0 here.1.0 here.1.1))
      (λ later. or_right (is_among (names_of (expr_of names t)) x) (named_among (map (expr_of names) ts) x) (list_from ts later)) one

  use_to : (u : PureUse) → AreEachOver vars (u.ins ++ u.outs) → named_by_item (use_item names u) x ≡ true → OneOf (IsNameIn names x) (u.ins ++ u.outs)
  use_to u over named =
      ⊎_elim (λ first. one_left (IsNameIn names x) u.ins u.outs (list_to u.ins (each_left (IsOver vars) u.ins u.outs over) first)) (λ second. one_right (IsNameIn names x) u.ins u.outs (list_to u.outs (each_right (IsOver vars) u.ins u.outs over) second))
      (one_of_two (named_among (map (expr_of names) u.ins) x) (named_among (map (expr_of names) u.outs) x) named)

  use_from : (u : PureUse) → OneOf (IsNameIn names x) (u.ins ++ u.outs) → named_by_item (use_item names u) x ≡ true
  use_from u one =
      ⊎_elim (λ first. or_left (named_among (map (expr_of names) u.ins) x) (named_among (map (expr_of names) u.outs) x) (list_from u.ins first)) (λ second. or_right (named_among (map (expr_of names) u.ins) x) (named_among (map (expr_of names) u.outs) x) (list_from u.outs second))
      (one_parts (IsNameIn names x) u.ins u.outs one)

  -- the names of an atom are those of its term
  item_names : (a : PureAtom) → named_by_item (item_of names a) x ≡ is_among (names_of (expr_of names (term_of a))) x
  item_names (positive t) = by (may_be_item (expr_of names t))
    where
      with_literal : is_among (flat_map own_names (subexpressions (expr_of names t) ++ expr.literal (boolean true) ∷ [])) x ≡ is_among (names_of (expr_of names t)) x
      with_literal = ap (λ xs. is_among xs x) (names_append (subexpressions (expr_of names t)) (expr.literal (boolean true) ∷ []) ∙ append-nil (names_of (expr_of names t)))

      by : (b : Bool) → named_by_item (if b then pure (expr_of names t) else pure (equal (expr_of names t) (expr.literal (boolean true)))) x ≡ is_among (names_of (expr_of names t)) x
      by true = refl
      by false = with_literal
  item_names (negative t) = refl
  item_names (opening t) =
      ap (λ xs. is_among xs x) (names_append (subexpressions (expr_of names t)) (subexpressions (expr_of names t))) ∙ among_append (names_of (expr_of names t)) (names_of (expr_of names t)) x
      ∙ twice (is_among (names_of (expr_of names t)) x)
    where
      twice : (b : Bool) → (b || b) ≡ b
      twice true = refl
      twice false = refl

  atoms_to : (conds : List PureAtom) → AreAtomsOver vars conds → named_by_items (map (item_of names) conds) x ≡ true → OneOf (λ a. IsNameIn names x (term_of a)) conds
  atoms_to [] over named = absurd (true≢false (sym named))
  atoms_to (a ∷ conds) over named =
      ⊎_elim (λ here. inl (term_to (term_of a) over.0 (sym (item_names a) ∙ here))) (λ later. inr (atoms_to conds over.1 later)) (one_of_two (named_by_item (item_of names a) x) (named_by_items (map (item_of names) conds) x) named)

  atoms_from : (conds : List PureAtom) → OneOf (λ a. IsNameIn names x (term_of a)) conds → named_by_items (map (item_of names) conds) x ≡ true
  atoms_from [] one = absurd one
  atoms_from (a ∷ conds) one =
      ⊎_elim (λ (here : IsNameIn names x (term_of a)). or_left (named_by_item (item_of names a) x) (named_by_items (map (item_of names) conds) x) (item_names a ∙ term_from (term_of a) here.0 here.1.0 here.1.1))
      (λ later. or_right (named_by_item (item_of names a) x) (named_by_items (map (item_of names) conds) x) (atoms_from conds later)) one

  all_to : (us : List PureUse) (conds : List PureAtom) → AreUsesOver vars us → AreAtomsOver vars conds → named_by_items (assertion_of names us conds) x ≡ true → IsNameAmong names x us conds
  all_to [] conds over atoms named = inr (atoms_to conds atoms named)
  all_to (u ∷ us) conds over atoms named =
      ⊎_elim (λ here. inl (inl (use_to u over.0.1 here))) (λ later. ⊎_elim (λ in_us. inl (inr in_us)) inr (all_to us conds over.1 atoms later))
      (one_of_two (named_by_item (use_item names u) x) (named_by_items (assertion_of names us conds) x) named)

  all_from : (us : List PureUse) (conds : List PureAtom) → IsNameAmong names x us conds → named_by_items (assertion_of names us conds) x ≡ true
  all_from [] conds (inl none) = absurd none
  all_from [] conds (inr one) = atoms_from conds one
  all_from (u ∷ us) conds (inl one) =
      ⊎_elim (λ here. or_left (named_by_item (use_item names u) x) (named_by_items (assertion_of names us conds) x) (use_from u here)) (λ later. or_right (named_by_item (use_item names u) x) (named_by_items (assertion_of names us conds) x) (all_from us conds (inl later))) one
  all_from (u ∷ us) conds (inr one) = or_right (named_by_item (use_item names u) x) (named_by_items (assertion_of names us conds) x) (all_from us conds (inr one))

pub names_are_of_variables : NamesAreOfVariables
names_are_of_variables vars names us conds x as_many over atoms = (all_to vars names as_many x us conds over atoms, all_from vars names as_many x us conds)
