-- The terms and atoms that are made of expressions are those that they say, and each says one.
use Rattle.std.proofs.Common.{◌≡◌, inl, inr, ℕ, zero, suc, List, [], ◌∷◌, ◌++◌, length, slice_get, get_or, Bool, true, Option, Some, None, refl, sym, ap, ◌∙◌, subst, arith}
use Rattle.std.specs.List.{Contains, list_all}
use Rattle.std.proofs.lemmas.Bool.{and_parts, and_from}
use Rattle.std.proofs.lemmas.List.Folds.{list_all-append}
use Rattle.std.proofs.lemmas.Option.{slice_get-map, slice_get_within, get_or_from_slice_get, slice_get-get_or}
use Rattle.gil_values.proofs.OperatorSymbols.{none_contained}
use Rattle.gil_values.specs.declared.operators.UnOp.TheVariants as unary
use Rattle.gil_values.specs.Pure.{PureValue, integer, boolean, text, symbol, kind, procedure, list}
use Rattle.gil_lexemes.specs.Reading.{◌>>=◌}
use Rattle.gil_lexemes.specs.declared.standing.Lexeme.{Lexeme}
use Rattle.gil_lexemes.proofs.ReadingLaws.{bind_some}
use Rattle.gil_syntax.specs.Pure.{PureExpr, PureExprs, no_exprs, expr_and}
use Rattle.gil_syntax.specs.Pure as expr
use Rattle.gil_grammar.specs.Expressions.{SpellsExpr, SpellsElements, SpellsMoreElements}
use Rattle.gil_grammar.specs.Vocabulary.{literal_lexeme}
use Rattle.gil_grammar.specs.declared.positions.Position.TheVariants.{Command}
use Rattle.pure_terms.proofs.KindLaws.{over_variable}
use Rattle.pure_terms.proofs.NamingLaws.{names_only-over}
use Rattle.pure_terms.specs.Meaning.{literal_value, IsOver, AreOver}
use Rattle.pure_terms.specs.Naming.{is_of_sort, is_in_table, names_only}
use Rattle.pure_terms.specs.EqualityLaws.{same_sort-refl}
use Rattle.pure_terms.specs.Pure.{PureTerm, literal, variable, list_of, unary_of, binary_of, PureTerms, no_terms, term_and, PureAtom, positive, negative, opening, variables, variables_of_all}
use Rattle.pure_terms.specs.Pure.{term_of as term_of_atom}
use Rattle.pure_terms.specs.declared.literals.Literal.{Literal}
use Rattle.pure_terms.specs.declared.variables.Sort.{Sort}
use Rattle.pure_terms.specs.declared.variables.Var.{Var}
use Rattle.solver_print.specs.Terms.{name_or_number, name_of, expr_of, exprs_of}
use Rattle.solver_proof.proofs.Truths.{over_more, over_one}
use Rattle.atom_text.specs.declared.sources.Declaration.{Declaration}
use Rattle.atom_text.specs.Meaning.{IsTermOf, IsDenial, IsAtomOf, AreAtomsOf, NamesAnother, SomeNameAnother}
use Rattle.atom_text.specs.Naming.{IsDistinct}
use Rattle.atom_text.specs.Resolving.{FindsAll, literal_term, term_of, terms_of, atom_of, atoms_of}
use Rattle.atom_text.specs.Sources.{PureStated, names_of, sorts_of}
use Rattle.atom_text.proofs.NamingLemmas.{same_some, name_at, seen_so}

-- a step that gave nothing, or one behind it
none_cases : {A B : Type 0} (r : Option A) (f : A → Option B) {P : Type 0} → (r >>= f) ≡ None → (r ≡ None → P) → ((x : A) → r ≡ Some x → f x ≡ None → P) → P
none_cases (Some x) f e first next = next x refl e
none_cases None f e first next = first refl

-- a step that gave nothing, where the one behind it gives something
none_first : {A B : Type 0} (r : Option A) (f : A → B) → (r >>= λ x. Some (f x)) ≡ None → r ≡ None
none_first (Some x) f e = absurd cc
none_first None f e = refl

-- ---- the terms of a table

-- each variable of the terms is one of the table
abbrev all_over : List Sort → PureTerms → Bool
all_over vars ts = list_all (is_in_table vars) (variables_of_all ts)

both_over : (vars : List Sort) (xs ys : List Var) → list_all (is_in_table vars) (xs ++ ys) ≡ true → (list_all (is_in_table vars) xs ≡ true) × (list_all (is_in_table vars) ys ≡ true)
both_over vars xs ys over = and_parts (list_all (is_in_table vars) xs) (list_all (is_in_table vars) ys) (sym (list_all-append (is_in_table vars) xs ys) ∙ over)

over_both : (vars : List Sort) (xs ys : List Var) → list_all (is_in_table vars) xs ≡ true → list_all (is_in_table vars) ys ≡ true → list_all (is_in_table vars) (xs ++ ys) ≡ true
over_both vars xs ys left right = list_all-append (is_in_table vars) xs ys ∙ and_from (list_all (is_in_table vars) xs) (list_all (is_in_table vars) ys) left right

-- the literal of a value
literal_made : (v : PureValue) (t : PureTerm) → literal_term v ≡ Some t → (l : Literal) × (t ≡ literal l) × (literal_value l ≡ v)
literal_made (integer n) t e = (Literal.Int n, sym (same_some (literal (Literal.Int n)) t e), refl)
literal_made (boolean b) t e = (Literal.Bool b, sym (same_some (literal (Literal.Bool b)) t e), refl)
literal_made (text cs) t e = (Literal.Str cs, sym (same_some (literal (Literal.Str cs)) t e), refl)
literal_made (symbol n) t e = absurd cc
literal_made (kind k) t e = (Literal.Kind k, sym (same_some (literal (Literal.Kind k)) t e), refl)
literal_made (procedure f) t e = (Literal.Proc f, sym (same_some (literal (Literal.Proc f)) t e), refl)
literal_made (list vs) t e = absurd cc

module _ (ds : List Declaration) (find : List ℕ → Option Var) (finds : FindsAll ds find) where
  -- the variable that a name is found to be has that name
  found_named : (x : List ℕ) (v : Var) → find x ≡ Some v → name_of (names_of ds) v.number ≡ x
  found_named x v e =
      let d = finds.sound x v e in
      ap (λ o. name_or_number o v.number) (name_at ds v.number d.0 d.1) ∙ d.3

  found_over : (x : List ℕ) (v : Var) → find x ≡ Some v → names_only (sorts_of ds) (variable v) ≡ true
  found_over x v e =
      let d = finds.sound x v e in
      let sorted : slice_get (sorts_of ds) v.number ≡ Some v.sort = slice_get-map (λ (c : Declaration). c.sort) ds v.number ∙ ap (λ o. ap_sort o) d.1 ∙ ap Some d.4 in
      and_from (is_in_table (sorts_of ds) v) true (ap (λ o. is_of_sort o v.sort) sorted ∙ same_sort-refl v.sort) refl
    where
      ap_sort : Option Declaration → Option Sort
      ap_sort (Some c) = Some c.sort
      ap_sort None = None

  mutual
    -- the term that is made is the one that the expression is
    made_said : (e : PureExpr) (t : PureTerm) → term_of find e ≡ Some t → expr_of (names_of ds) t ≡ e
    made_said (expr.literal v) t is = let l = literal_made v t is in rw l.1 (ap expr.literal l.2)
    made_said (expr.name x) t is =
        let v = bind_some (find x) _ t is in
        let same : variable v.0 ≡ t = same_some _ t v.2 in
        rw (sym same) (ap expr.name (found_named x v.0 v.1))
    made_said (expr.logical x) t is = absurd cc
    made_said (expr.list_of es) t is =
        let ts = bind_some (terms_of find es) _ t is in
        let same : list_of ts.0 ≡ t = same_some _ t ts.2 in
        rw (sym same) (ap expr.list_of (all_made_said es ts.0 ts.1))
    made_said (expr.unary_of op e) t is =
        let s = bind_some (term_of find e) _ t is in
        let same : unary_of op s.0 ≡ t = same_some _ t s.2 in
        rw (sym same) (ap (expr.unary_of op) (made_said e s.0 s.1))
    made_said (expr.binary_of op d e) t is =
        let s = bind_some (term_of find d) _ t is in
        let u = bind_some (term_of find e) _ t s.2 in
        let same : binary_of op s.0 u.0 ≡ t = same_some _ t u.2 in
        rw (sym same, made_said d s.0 s.1, made_said e u.0 u.1) refl

    all_made_said : (es : PureExprs) (ts : PureTerms) → terms_of find es ≡ Some ts → exprs_of (names_of ds) ts ≡ es
    all_made_said no_exprs ts is = let same : no_terms ≡ ts = same_some _ ts is in rw (sym same) refl
    all_made_said (expr_and e es) ts is =
        let s = bind_some (term_of find e) _ ts is in
        let us = bind_some (terms_of find es) _ ts s.2 in
        let same : term_and s.0 us.0 ≡ ts = same_some _ ts us.2 in
        rw (sym same, made_said e s.0 s.1, all_made_said es us.0 us.1) refl

  mutual
    -- and it names declared variables alone
    made_over : (e : PureExpr) (t : PureTerm) → term_of find e ≡ Some t → names_only (sorts_of ds) t ≡ true
    made_over (expr.literal v) t is = let l = literal_made v t is in rw l.1 refl
    made_over (expr.name x) t is =
        let v = bind_some (find x) _ t is in
        let same : variable v.0 ≡ t = same_some _ t v.2 in
        rw (sym same) (found_over x v.0 v.1)
    made_over (expr.logical x) t is = absurd cc
    made_over (expr.list_of es) t is =
        let ts = bind_some (terms_of find es) _ t is in
        let same : list_of ts.0 ≡ t = same_some _ t ts.2 in
        rw (sym same) (all_made_over es ts.0 ts.1)
    made_over (expr.unary_of op e) t is =
        let s = bind_some (term_of find e) _ t is in
        let same : unary_of op s.0 ≡ t = same_some _ t s.2 in
        rw (sym same) (made_over e s.0 s.1)
    made_over (expr.binary_of op d e) t is =
        let s = bind_some (term_of find d) _ t is in
        let u = bind_some (term_of find e) _ t s.2 in
        let same : binary_of op s.0 u.0 ≡ t = same_some _ t u.2 in
        rw (sym same) (over_both (sorts_of ds) (variables s.0) (variables u.0) (made_over d s.0 s.1) (made_over e u.0 u.1))

    all_made_over : (es : PureExprs) (ts : PureTerms) → terms_of find es ≡ Some ts → all_over (sorts_of ds) ts ≡ true
    all_made_over no_exprs ts is = let same : no_terms ≡ ts = same_some _ ts is in rw (sym same) refl
    all_made_over (expr_and e es) ts is =
        let s = bind_some (term_of find e) _ ts is in
        let us = bind_some (terms_of find es) _ ts s.2 in
        let same : term_and s.0 us.0 ≡ ts = same_some _ ts us.2 in
        rw (sym same) (over_both (sorts_of ds) (variables s.0) (variables_of_all us.0) (made_over e s.0 s.1) (all_made_over es us.0 us.1))

  made_term : (e : PureExpr) (t : PureTerm) → term_of find e ≡ Some t → IsTermOf (names_of ds) (sorts_of ds) e t
  made_term e t is = record { over = (names_only-over (sorts_of ds) t).0 (made_over e t is); said = made_said e t is }

  -- ---- where no term is made

  -- a name that isn't found is not declared
  not_found : (x : List ℕ) → find x ≡ None → Contains (names_of ds) x → ⊥
  not_found x none (k, below, is) =
      let here : slice_get (names_of ds) k ≡ Some x = slice_get-get_or (names_of ds) k x below ∙ ap Some is in
      let d = seen_so (λ (c : Declaration). c.name) (slice_get ds k) x (sym (slice_get-map (λ (c : Declaration). c.name) ds k) ∙ here) in
      let found : find x ≡ Some (record { number = k; sort = d.0.sort }) = ap find (sym d.2) ∙ finds.complete k d.0 d.1 (slice_get_within ds k d.0 d.1) in
      cc (none, found)

  no_literal : (v : PureValue) (lexeme : Lexeme) → literal_lexeme v ≡ Some lexeme → literal_term v ≡ None → ⊥
  no_literal (integer n) lexeme is none = cc none
  no_literal (boolean b) lexeme is none = cc none
  no_literal (text cs) lexeme is none = cc none
  no_literal (symbol n) lexeme is none = cc is
  no_literal (kind k) lexeme is none = cc none
  no_literal (procedure f) lexeme is none = cc none
  no_literal (list vs) lexeme is none = cc is

  mutual
    -- an expression of a text of which no term is made names what isn't declared
    unmade_another : (e : PureExpr) (ls rest : List Lexeme) → SpellsExpr Command e ls rest → term_of find e ≡ None → NamesAnother (names_of ds) e
    unmade_another (expr.literal v) ls rest (lexeme, is, begins) none = absurd (no_literal v lexeme is none)
    unmade_another (expr.name x) ls rest spelled none = not_found x (none_first (find x) variable none)
    unmade_another (expr.logical x) ls rest (position, begins) none = absurd (cc position)
    unmade_another (expr.list_of es) ls rest (inner, begins, spelled) none = unmade_elements es inner _ spelled (none_first (terms_of find es) list_of none)
    unmade_another (expr.unary_of op e) ls rest (inner, begins, spelled) none = unmade_another e inner _ spelled (none_first (term_of find e) (unary_of op) none)
    unmade_another (expr.binary_of op d e) ls rest (left, right, begins, one, other) none =
        none_cases (term_of find d) _ none
        (λ first. inl (unmade_another d left _ one first))
        (λ s made next. inr (unmade_another e right _ other (none_first (term_of find e) (binary_of op s) next)))

    unmade_elements : (es : PureExprs) (ls rest : List Lexeme) → SpellsElements Command es ls rest → terms_of find es ≡ None → SomeNameAnother (names_of ds) es
    unmade_elements no_exprs ls rest spelled none = absurd (cc none)
    unmade_elements (expr_and e es) ls rest (after, one, more) none =
        none_cases (term_of find e) _ none
        (λ first. inl (unmade_another e ls after one first))
        (λ s made next. inr (unmade_more es after rest more (none_first (terms_of find es) (term_and s) next)))

    unmade_more : (es : PureExprs) (ls rest : List Lexeme) → SpellsMoreElements Command es ls rest → terms_of find es ≡ None → SomeNameAnother (names_of ds) es
    unmade_more no_exprs ls rest spelled none = absurd (cc none)
    unmade_more (expr_and e es) ls rest (inner, after, begins, one, more) none =
        none_cases (term_of find e) _ none
        (λ first. inl (unmade_another e inner after one first))
        (λ s made next. inr (unmade_more es after rest more (none_first (terms_of find es) (term_and s) next)))

  -- ---- atoms

  made_positive : (e : PureExpr) (a : PureAtom) → (IsDenial e → ⊥) → (term_of find e >>= λ t. Some (positive t)) ≡ Some a → IsAtomOf (names_of ds) (sorts_of ds) e a
  made_positive e a plain is =
      let t = bind_some (term_of find e) _ a is in
      subst (IsAtomOf (names_of ds) (sorts_of ds) e) (same_some (positive t.0) a t.2) (made_term e t.0 t.1, plain)

  pub made_atom : (e : PureExpr) (a : PureAtom) → atom_of find e ≡ Some a → IsAtomOf (names_of ds) (sorts_of ds) e a
  made_atom (expr.literal v) a is = made_positive (expr.literal v) a (λ h. cc (h.1)) is
  made_atom (expr.name x) a is = made_positive (expr.name x) a (λ h. cc (h.1)) is
  made_atom (expr.logical x) a is = made_positive (expr.logical x) a (λ h. cc (h.1)) is
  made_atom (expr.list_of es) a is = made_positive (expr.list_of es) a (λ h. cc (h.1)) is
  made_atom (expr.binary_of op d e) a is = made_positive (expr.binary_of op d e) a (λ h. cc (h.1)) is
  made_atom (expr.unary_of unary.Neg e) a is = made_positive (expr.unary_of unary.Neg e) a (λ h. cc (h.1)) is
  made_atom (expr.unary_of unary.Len e) a is = made_positive (expr.unary_of unary.Len e) a (λ h. cc (h.1)) is
  made_atom (expr.unary_of unary.Kind e) a is = made_positive (expr.unary_of unary.Kind e) a (λ h. cc (h.1)) is
  made_atom (expr.unary_of unary.Not e) a is =
      let t = bind_some (term_of find e) _ a is in
      subst (IsAtomOf (names_of ds) (sorts_of ds) (expr.unary_of unary.Not e)) (same_some (negative t.0) a t.2) (e, refl, made_term e t.0 t.1)

  pub made_atoms : (stated : List PureStated) (atoms : List PureAtom) → atoms_of find stated ≡ Some atoms → AreAtomsOf (names_of ds) (sorts_of ds) stated atoms
  made_atoms [] atoms is = let same : [] ≡ atoms = same_some _ atoms is in subst (AreAtomsOf (names_of ds) (sorts_of ds) []) same tt
  made_atoms (s ∷ stated) atoms is =
      let a = bind_some (atom_of find s.expression) _ atoms is in
      let others = bind_some (atoms_of find stated) _ atoms a.2 in
      subst (AreAtomsOf (names_of ds) (sorts_of ds) (s ∷ stated)) (same_some (a.0 ∷ others.0) atoms others.2)
      (made_atom s.expression a.0 a.1, made_atoms stated others.0 others.1)

  -- an expression of a text that says nothing names what isn't declared
  pub unmade_atom : (e : PureExpr) (ls rest : List Lexeme) → SpellsExpr Command e ls rest → atom_of find e ≡ None → NamesAnother (names_of ds) e
  unmade_atom (expr.literal v) ls rest spelled none = unmade_another (expr.literal v) ls rest spelled (none_first (term_of find (expr.literal v)) positive none)
  unmade_atom (expr.name x) ls rest spelled none = unmade_another (expr.name x) ls rest spelled (none_first (term_of find (expr.name x)) positive none)
  unmade_atom (expr.logical x) ls rest spelled none = unmade_another (expr.logical x) ls rest spelled refl
  unmade_atom (expr.list_of es) ls rest spelled none = unmade_another (expr.list_of es) ls rest spelled (none_first (term_of find (expr.list_of es)) positive none)
  unmade_atom (expr.binary_of op d e) ls rest spelled none = unmade_another (expr.binary_of op d e) ls rest spelled (none_first (term_of find (expr.binary_of op d e)) positive none)
  unmade_atom (expr.unary_of unary.Neg e) ls rest spelled none = unmade_another (expr.unary_of unary.Neg e) ls rest spelled (none_first (term_of find (expr.unary_of unary.Neg e)) positive none)
  unmade_atom (expr.unary_of unary.Len e) ls rest spelled none = unmade_another (expr.unary_of unary.Len e) ls rest spelled (none_first (term_of find (expr.unary_of unary.Len e)) positive none)
  unmade_atom (expr.unary_of unary.Kind e) ls rest spelled none = unmade_another (expr.unary_of unary.Kind e) ls rest spelled (none_first (term_of find (expr.unary_of unary.Kind e)) positive none)
  unmade_atom (expr.unary_of unary.Not e) ls rest (inner, begins, spelled) none = unmade_another e inner _ spelled (none_first (term_of find e) negative none)

-- ---- what terms over a table say

module _ (names : List (List ℕ)) (vars : List Sort) (same_length : length names ≡ length vars) where
  -- a variable of the table has a name
  has_name : (x : Var) → names_only vars (variable x) ≡ true → (y : List ℕ) × (slice_get names x.number ≡ Some y)
  has_name x over =
      let sorted = over_variable vars x ((names_only-over vars (variable x)).0 over) in
      let within = slice_get_within vars x.number x.sort sorted in
      (get_or names x.number [], slice_get-get_or names x.number [] (omega (arith, within, same_length)))

  mutual
    -- the expression of a term over the table names nothing else
    not_another : (t : PureTerm) → names_only vars t ≡ true → NamesAnother names (expr_of names t) → ⊥
    not_another (literal l) over other = other
    not_another (variable x) over other =
        let y = has_name x over in
        let named : y.0 ≡ name_of names x.number = sym (ap (λ o. name_or_number o x.number) y.1) in
        other (subst (Contains names) named (x.number, slice_get_within names x.number y.0 y.1, get_or_from_slice_get names x.number y.0 y.0 y.1))
    not_another (list_of ts) over other = none_other ts over other
    not_another (unary_of op t) over other = not_another t over other
    not_another (binary_of op s t) over (inl other) = not_another s (both_over vars (variables s) (variables t) over).0 other
    not_another (binary_of op s t) over (inr other) = not_another t (both_over vars (variables s) (variables t) over).1 other

    none_other : (ts : PureTerms) → all_over vars ts ≡ true → SomeNameAnother names (exprs_of names ts) → ⊥
    none_other no_terms over other = other
    none_other (term_and t ts) over (inl other) = not_another t (both_over vars (variables t) (variables_of_all ts) over).0 other
    none_other (term_and t ts) over (inr other) = none_other ts (both_over vars (variables t) (variables_of_all ts) over).1 other

  term_not_another : (e : PureExpr) (t : PureTerm) → IsTermOf names vars e t → NamesAnother names e → ⊥
  term_not_another e t is other = not_another t ((names_only-over vars t).1 is.over) (subst (NamesAnother names) (sym is.said) other)

  pub atom_not_another : (e : PureExpr) (a : PureAtom) → IsAtomOf names vars e a → NamesAnother names e → ⊥
  atom_not_another e (positive t) is other = term_not_another e t is.0 other
  atom_not_another e (negative t) (d, says, is) other = term_not_another d t is (subst (NamesAnother names) says other)
  atom_not_another e (opening t) is other = is

  -- ---- an expression says one atom

  literal_again : (l : Literal) → literal_term (literal_value l) ≡ Some (literal l)
  literal_again (Literal.Int n) = refl
  literal_again (Literal.Bool b) = refl
  literal_again (Literal.Str cs) = refl
  literal_again (Literal.Kind k) = refl
  literal_again (Literal.Proc f) = refl

  same_variable : (x y : Var) → x.number ≡ y.number → x.sort ≡ y.sort → x ≡ y
  same_variable x y e f = ap (λ n. record { number = n; sort = x.sort }) e ∙ ap (λ s. record { number = y.number; sort = s }) f

  one_variable : IsDistinct names → (x y : Var) → names_only vars (variable x) ≡ true → names_only vars (variable y) ≡ true
      → name_of names x.number ≡ name_of names y.number → x ≡ y
  one_variable distinct x y h g e =
      let a = has_name x h in
      let b = has_name y g in
      let named : a.0 ≡ b.0 = sym (ap (λ o. name_or_number o x.number) a.1) ∙ e ∙ ap (λ o. name_or_number o y.number) b.1 in
      let numbers : x.number ≡ y.number = distinct x.number y.number b.0 (a.1 ∙ ap Some named) b.1 in
      let first = over_variable vars x ((names_only-over vars (variable x)).0 h) in
      let second = over_variable vars y ((names_only-over vars (variable y)).0 g) in
      same_variable x y numbers (same_some x.sort y.sort (sym first ∙ ap (slice_get vars) numbers ∙ second))

  mutual
    one_term : IsDistinct names → (t u : PureTerm) → names_only vars t ≡ true → names_only vars u ≡ true → expr_of names t ≡ expr_of names u → t ≡ u
    one_term distinct (literal l) (literal k) h g e =
        let values : literal_value l ≡ literal_value k = cc in
        same_some (literal l) (literal k) (sym (literal_again l) ∙ ap literal_term values ∙ literal_again k)
    one_term distinct (literal l) _ h g e = absurd cc
    one_term distinct (variable x) (variable y) h g e = let named : name_of names x.number ≡ name_of names y.number = cc in ap variable (one_variable distinct x y h g named)
    one_term distinct (variable x) _ h g e = absurd cc
    one_term distinct (list_of ts) (list_of us) h g e = let elements : exprs_of names ts ≡ exprs_of names us = cc in ap list_of (one_list_of distinct ts us h g elements)
    one_term distinct (list_of ts) _ h g e = absurd cc
    one_term distinct (unary_of op t) (unary_of o u) h g e =
        let ops : op ≡ o = cc in
        let operands : expr_of names t ≡ expr_of names u = cc in
        rw (ops, one_term distinct t u h g operands) refl
    one_term distinct (unary_of op t) _ h g e = absurd cc
    one_term distinct (binary_of op s t) (binary_of o u w) h g e =
        let ops : op ≡ o = cc in
        let lefts : expr_of names s ≡ expr_of names u = cc in
        let rights : expr_of names t ≡ expr_of names w = cc in
        let k = both_over vars (variables s) (variables t) h in
        let j = both_over vars (variables u) (variables w) g in
        rw (ops, one_term distinct s u k.0 j.0 lefts, one_term distinct t w k.1 j.1 rights) refl
    one_term distinct (binary_of op s t) _ h g e = absurd cc

    one_list_of : IsDistinct names → (ts us : PureTerms) → all_over vars ts ≡ true → all_over vars us ≡ true → exprs_of names ts ≡ exprs_of names us → ts ≡ us
    one_list_of distinct no_terms no_terms h g e = refl
    one_list_of distinct no_terms (term_and u us) h g e = absurd cc
    one_list_of distinct (term_and t ts) no_terms h g e = absurd cc
    one_list_of distinct (term_and t ts) (term_and u us) h g e =
        let first : expr_of names t ≡ expr_of names u = cc in
        let others : exprs_of names ts ≡ exprs_of names us = cc in
        let k = both_over vars (variables t) (variables_of_all ts) h in
        let j = both_over vars (variables u) (variables_of_all us) g in
        rw (one_term distinct t u k.0 j.0 first, one_list_of distinct ts us k.1 j.1 others) refl

  one_said : IsDistinct names → (e : PureExpr) (t u : PureTerm) → IsTermOf names vars e t → IsTermOf names vars e u → t ≡ u
  one_said distinct e t u h g = one_term distinct t u ((names_only-over vars t).1 h.over) ((names_only-over vars u).1 g.over) (h.said ∙ sym g.said)

  one_atom : IsDistinct names → (e : PureExpr) (a b : PureAtom) → IsAtomOf names vars e a → IsAtomOf names vars e b → a ≡ b
  one_atom distinct e (positive t) (positive u) h g = ap positive (one_said distinct e t u h.0 g.0)
  one_atom distinct e (negative t) (negative u) (d, is, h) (c, says, g) =
      let both = sym is ∙ says in
      let same : d ≡ c = cc both in
      ap negative (one_said distinct c t u (rw same at h) g)
  one_atom distinct e (positive t) (negative u) h (d, is, g) = absurd (h.1 (d, is))
  one_atom distinct e (negative t) (positive u) (d, is, h) g = absurd (g.1 (d, is))
  one_atom distinct e (opening t) b h g = absurd h
  one_atom distinct e a (opening u) h g = absurd g

  pub one_list : IsDistinct names → (stated : List PureStated) (atoms others : List PureAtom) → AreAtomsOf names vars stated atoms → AreAtomsOf names vars stated others → atoms ≡ others
  one_list distinct [] [] [] h g = refl
  one_list distinct [] [] (b ∷ others) h g = absurd g
  one_list distinct [] (a ∷ atoms) others h g = absurd h
  one_list distinct (s ∷ stated) [] others h g = absurd h
  one_list distinct (s ∷ stated) (a ∷ atoms) [] h g = absurd g
  one_list distinct (s ∷ stated) (a ∷ atoms) (b ∷ others) h g = rw (one_atom distinct s.expression a b h.0 g.0, one_list distinct stated atoms others h.1 g.1) refl

-- ---- lists of atoms

-- each expression says an atom
pub said_at : (names : List (List ℕ)) (vars : List Sort) (stated : List PureStated) (atoms : List PureAtom) (i : ℕ) (s : PureStated) → AreAtomsOf names vars stated atoms
    → slice_get stated i ≡ Some s → (a : PureAtom) × IsAtomOf names vars s.expression a
said_at names vars [] atoms i s are here = absurd (cc here)
said_at names vars (r ∷ stated) [] i s are here = absurd are
said_at names vars (r ∷ stated) (a ∷ atoms) zero s are here = (a, subst (λ (k : PureStated). IsAtomOf names vars k.expression a) (same_some r s here) are.0)
said_at names vars (r ∷ stated) (a ∷ atoms) (suc i) s are here = said_at names vars stated atoms i s are.1 here

over_atom : (names : List (List ℕ)) (vars : List Sort) (e : PureExpr) (a : PureAtom) → IsAtomOf names vars e a → IsOver vars (term_of_atom a)
over_atom names vars e (positive t) is = is.0.over
over_atom names vars e (negative t) is = is.2.over
over_atom names vars e (opening t) is = absurd is

pub said_over : (names : List (List ℕ)) (vars : List Sort) (stated : List PureStated) (atoms : List PureAtom) → AreAtomsOf names vars stated atoms → AreOver vars atoms
said_over names vars [] [] are = λ x has. absurd (none_contained x has)
said_over names vars [] (a ∷ atoms) are = absurd are
said_over names vars (s ∷ stated) [] are = absurd are
said_over names vars (s ∷ stated) (a ∷ atoms) are = over_more vars (a ∷ []) atoms (over_one vars a (over_atom names vars s.expression a are.0)) (said_over names vars stated atoms are.1)
