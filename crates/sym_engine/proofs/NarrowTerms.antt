-- Expressions of narrow commands: over narrow stores they ask nothing, and their terms are narrow.
use Rattle.std.proofs.Common.{◌≡◌, inl, inr, ℕ, ◌+◌, ◌≤◌, pos, neg_ℤ, List, [], ◌∷◌, ◌++◌, Bool, true, false, Some, IsTrue, refl, sym, subst, ◌∙◌, true≢false}
use Rattle.std.specs.List.{list_all, list_any, flat_map}
use Rattle.std.specs.Option.{option_map}
use Rattle.std.proofs.lemmas.Bool.{and_parts, and_from, or_parts}
use Rattle.std.proofs.lemmas.List.Folds.{list_any-append}
use Rattle.gil_values.specs.declared.operators.BinOp.{BinOp}
use Rattle.gil_values.specs.Pure.{PureValue, integer, boolean, text, symbol, kind, procedure, list}
use Rattle.gil_syntax.specs.Pure.{PureExpr, literal as value_literal, name, logical, list_of as list_expr, unary_of as unary_expr, binary_of as binary_expr, PureExprs, no_exprs, expr_and, from_list as exprs_from, to_list as exprs_to}
use Rattle.gil_syntax.specs.Simple.{is_literal as is_literal_expr, shifts, is_shift, is_simple_value, has_arithmetic, is_list, has_any, is_list_of_literals as is_list_of_literal_exprs}
use Rattle.gil_syntax.specs.Subexpressions.{subexpressions, subexpressions_of_all, own_literals}
use Rattle.pure_terms.specs.Fragment.{has_literals_between, have_literals_between}
use Rattle.pure_terms.specs.Pure.{PureTerm, literal, list_of, from_list, PureAtom}
use Rattle.sym_engine.specs.Narrow.{IsNarrow}
use Rattle.sym_evaluation.specs.Evaluating.{spelled, literal_term}
use Rattle.sym_evaluation.specs.Plainly.{text_bound, is_text_number, has_text_numbers}
use Rattle.sym_evaluation.specs.Pure.{PureStore}
use Rattle.sym_evaluation.specs.Questions.{substituted, all_substituted, IsTermOf, AreTermsOf, IsAskedOf}
use Rattle.sym_evaluation.proofs.Replacing.{some_of, some_mapped}
use Rattle.sym_model.specs.Lists.{Each, OneOf}
use Rattle.sym_model.specs.Plain.{is_list_of_literals, are_literals}
use Rattle.sym_model.proofs.ListLaws.{same_some, not_none}
use Rattle.sym_model.proofs.Wider.{term_wider, lower_bound, higher_bound}
use Rattle.sym_paths.specs.Meaning.{OfEachName}

-- ---- wider bounds

pub narrow_up : (b c : ℕ) → b ≤ c → (t : PureTerm) → IsNarrow b t → IsNarrow c t
narrow_up b c wide t is = (is.0, term_wider (neg_ℤ (pos b)) (pos b) (neg_ℤ (pos c)) (pos c) (lower_bound b c wide) (higher_bound b c wide) t is.1)

-- ---- forms

-- a literal or a name
abbrev pub is_flat : PureExpr → Bool
is_flat (value_literal v) = true
is_flat (name x) = true
is_flat _ = false

no_shift : {X : Type 0} (op : BinOp) (d e : PureExpr) → shifts op ≡ false → is_shift op d e ≡ true → X
no_shift op (name x) (value_literal v) isnt is = absurd (true≢false (sym is ∙ isnt))
no_shift op d e isnt is = absurd (true≢false (sym is))

pub flat_value : (e : PureExpr) → is_simple_value e ≡ true → list_any has_arithmetic (subexpressions e) ≡ false → list_any is_list (subexpressions e) ≡ false → is_flat e ≡ true
flat_value (value_literal v) simple plain no_list = refl
flat_value (name x) simple plain no_list = refl
flat_value (logical x) simple plain no_list = absurd (true≢false (sym simple))
flat_value (list_expr es) simple plain no_list = absurd (true≢false no_list)
flat_value (unary_expr op e) simple plain no_list = absurd (true≢false (sym simple))
flat_value (binary_expr BinOp.Add d e) simple plain no_list = absurd (true≢false plain)
flat_value (binary_expr BinOp.Subtract d e) simple plain no_list = absurd (true≢false plain)
flat_value (binary_expr BinOp.Nth d e) simple plain no_list = absurd (true≢false plain)
flat_value (binary_expr BinOp.Less d e) simple plain no_list = absurd (true≢false plain)
flat_value (binary_expr BinOp.LessOrEqual d e) simple plain no_list = absurd (true≢false plain)
flat_value (binary_expr BinOp.Equal d e) simple plain no_list = no_shift BinOp.Equal d e refl simple
flat_value (binary_expr BinOp.And d e) simple plain no_list = no_shift BinOp.And d e refl simple
flat_value (binary_expr BinOp.Or d e) simple plain no_list = no_shift BinOp.Or d e refl simple
flat_value (binary_expr BinOp.Multiply d e) simple plain no_list = no_shift BinOp.Multiply d e refl simple
flat_value (binary_expr BinOp.Divide d e) simple plain no_list = no_shift BinOp.Divide d e refl simple
flat_value (binary_expr BinOp.Remainder d e) simple plain no_list = no_shift BinOp.Remainder d e refl simple
flat_value (binary_expr BinOp.Append d e) simple plain no_list = no_shift BinOp.Append d e refl simple

pub flat_values : (es : List PureExpr) → list_all is_simple_value es ≡ true → has_any has_arithmetic es ≡ false → has_any is_list es ≡ false → Each (λ e. is_flat e ≡ true) es
flat_values [] simple plain no_list = tt
flat_values (e ∷ es) simple plain no_list =
    let (first, rest) = and_parts (is_simple_value e) (list_all is_simple_value es) simple in
    let (plain_first, plain_rest) = or_parts (list_any has_arithmetic (subexpressions e)) (has_any has_arithmetic es) plain in
    let (list_first, list_rest) = or_parts (list_any is_list (subexpressions e)) (has_any is_list es) no_list in
    (flat_value e first plain_first list_first, flat_values es rest plain_rest list_rest)

-- the parts of a pair have what it has not
pub pair_parts : (test : PureExpr → Bool) (op : BinOp) (d e : PureExpr) → list_any test (subexpressions (binary_expr op d e)) ≡ false → (list_any test (subexpressions d) ≡ false) × (list_any test (subexpressions e) ≡ false)
pair_parts test op d e none =
    let inner = (or_parts (test (binary_expr op d e)) (list_any test (subexpressions d ++ subexpressions e)) none).1 in
    or_parts (list_any test (subexpressions d)) (list_any test (subexpressions e)) (sym (list_any-append test (subexpressions d) (subexpressions e)) ∙ inner)

-- ---- what is asked

pub flat_asks : {X : Type 0} (bs : PureStore) (e : PureExpr) (a : PureAtom) → is_flat e ≡ true → OneOf (IsAskedOf bs a) (subexpressions e) → X
flat_asks bs (value_literal v) a flat (inl asked) = absurd asked
flat_asks bs (value_literal v) a flat (inr none) = absurd none
flat_asks bs (name x) a flat (inl asked) = absurd asked
flat_asks bs (name x) a flat (inr none) = absurd none
flat_asks bs (logical x) a flat asked = absurd (true≢false (sym flat))
flat_asks bs (list_expr es) a flat asked = absurd (true≢false (sym flat))
flat_asks bs (unary_expr op e) a flat asked = absurd (true≢false (sym flat))
flat_asks bs (binary_expr op d e) a flat asked = absurd (true≢false (sym flat))

literals_ask : {X : Type 0} (bs : PureStore) (es : PureExprs) (a : PureAtom) → list_all is_literal_expr (exprs_to es) ≡ true → OneOf (IsAskedOf bs a) (subexpressions_of_all es) → X
literals_ask bs no_exprs a lits asked = absurd asked
literals_ask bs (expr_and (value_literal v) es) a lits (inl asked) = absurd asked
literals_ask bs (expr_and (value_literal v) es) a lits (inr later) = literals_ask bs es a lits later
literals_ask bs (expr_and (name x) es) a lits asked = absurd (true≢false (sym lits))
literals_ask bs (expr_and (logical x) es) a lits asked = absurd (true≢false (sym lits))
literals_ask bs (expr_and (list_expr ds) es) a lits asked = absurd (true≢false (sym lits))
literals_ask bs (expr_and (unary_expr op d) es) a lits asked = absurd (true≢false (sym lits))
literals_ask bs (expr_and (binary_expr op d e) es) a lits asked = absurd (true≢false (sym lits))

pub list_asks : {X : Type 0} (bs : PureStore) (e : PureExpr) (a : PureAtom) → is_list_of_literal_exprs e ≡ true → OneOf (IsAskedOf bs a) (subexpressions e) → X
list_asks bs (list_expr es) a lits (inl asked) = absurd asked
list_asks bs (list_expr es) a lits (inr later) = literals_ask bs es a lits later
list_asks bs (value_literal v) a lits asked = absurd (true≢false (sym lits))
list_asks bs (name x) a lits asked = absurd (true≢false (sym lits))
list_asks bs (logical x) a lits asked = absurd (true≢false (sym lits))
list_asks bs (unary_expr op e) a lits asked = absurd (true≢false (sym lits))
list_asks bs (binary_expr op d e) a lits asked = absurd (true≢false (sym lits))

-- ---- terms

literal_narrow : (v : PureValue) (t : PureTerm) → is_text_number v ≡ true → literal_term (spelled v) ≡ Some t → IsNarrow text_bound t
literal_narrow (integer n) t number is = subst (IsNarrow text_bound) (same_some is) (refl, number)
literal_narrow (boolean b) t number is = subst (IsNarrow text_bound) (same_some is) (refl, refl)
literal_narrow (text cs) t number is = subst (IsNarrow text_bound) (same_some is) (refl, refl)
literal_narrow (kind k) t number is = subst (IsNarrow text_bound) (same_some is) (refl, refl)
literal_narrow (procedure f) t number is = subst (IsNarrow text_bound) (same_some is) (refl, refl)
literal_narrow (symbol n) t number is = not_none is
literal_narrow (list vs) t number is = not_none is

module _ (b : ℕ) (enough : text_bound ≤ b) (bs : PureStore) (store : OfEachName (IsNarrow b) bs) where
  pub flat_term : (e : PureExpr) (t : PureTerm) → is_flat e ≡ true → has_text_numbers e ≡ true → IsTermOf bs e t → IsNarrow b t
  flat_term (value_literal v) t flat texts is = narrow_up text_bound b enough t (literal_narrow v t (and_parts (is_text_number v) true texts).0 is)
  flat_term (name x) t flat texts is = store x t is
  flat_term (logical x) t flat texts is = absurd (true≢false (sym flat))
  flat_term (list_expr es) t flat texts is = absurd (true≢false (sym flat))
  flat_term (unary_expr op e) t flat texts is = absurd (true≢false (sym flat))
  flat_term (binary_expr op d e) t flat texts is = absurd (true≢false (sym flat))

  pub flat_terms : (es : List PureExpr) (ts : List PureTerm) → Each (λ e. is_flat e ≡ true) es → list_all has_text_numbers es ≡ true → AreTermsOf bs es ts → Each (IsNarrow b) ts
  flat_terms [] ts flat texts are = subst (Each (IsNarrow b)) (same_some are) tt
  flat_terms (e ∷ es) ts flat texts are =
      let (first, rest) = and_parts (has_text_numbers e) (list_all has_text_numbers es) texts in
      let (t, (is_t, later)) = some_of (λ t. option_map (λ us. t ∷ us) (all_substituted bs (exprs_from es))) (substituted bs e) ts are in
      let (us, (are_us, whole)) = some_mapped (λ us. t ∷ us) (all_substituted bs (exprs_from es)) ts later in
      subst (Each (IsNarrow b)) whole (flat_term e t flat.0 first is_t, flat_terms es us flat.1 rest are_us)

-- ---- lists of literals

abbrev IsLiteralWithin : PureTerm → Type 0
IsLiteralWithin t = IsTrue (are_literals (from_list (t ∷ []))) × IsTrue (has_literals_between (neg_ℤ (pos text_bound)) (pos text_bound) t)

literal_held : (v : PureValue) (t : PureTerm) → is_text_number v ≡ true → literal_term (spelled v) ≡ Some t → IsLiteralWithin t
literal_held (integer n) t number is = subst IsLiteralWithin (same_some is) (refl, number)
literal_held (boolean b) t number is = subst IsLiteralWithin (same_some is) (refl, refl)
literal_held (text cs) t number is = subst IsLiteralWithin (same_some is) (refl, refl)
literal_held (kind k) t number is = subst IsLiteralWithin (same_some is) (refl, refl)
literal_held (procedure f) t number is = subst IsLiteralWithin (same_some is) (refl, refl)
literal_held (symbol n) t number is = not_none is
literal_held (list vs) t number is = not_none is

abbrev AreLiteralsWithin : List PureTerm → Type 0
AreLiteralsWithin ts = IsTrue (are_literals (from_list ts)) × IsTrue (have_literals_between (neg_ℤ (pos text_bound)) (pos text_bound) (from_list ts))

one_more_held : (t : PureTerm) (ts : List PureTerm) → IsLiteralWithin t → AreLiteralsWithin ts → AreLiteralsWithin (t ∷ ts)
one_more_held (literal l) ts is are = (are.0, and_from (has_literals_between (neg_ℤ (pos text_bound)) (pos text_bound) (literal l)) (have_literals_between (neg_ℤ (pos text_bound)) (pos text_bound) (from_list ts)) is.1 are.1)
one_more_held t ts is are = absurd (true≢false (sym is.0))

literals_held : (bs : PureStore) (es : PureExprs) (ts : List PureTerm) → list_all is_literal_expr (exprs_to es) ≡ true → list_all is_text_number (flat_map own_literals (subexpressions_of_all es)) ≡ true → all_substituted bs es ≡ Some ts → AreLiteralsWithin ts
literals_held bs no_exprs ts lits texts are = subst AreLiteralsWithin (same_some are) (refl, refl)
literals_held bs (expr_and (value_literal v) es) ts lits texts are =
    let (first, rest) = and_parts (is_text_number v) (list_all is_text_number (flat_map own_literals (subexpressions_of_all es))) texts in
    let (t, (is_t, later)) = some_of (λ t. option_map (λ us. t ∷ us) (all_substituted bs es)) (substituted bs (value_literal v)) ts are in
    let (us, (are_us, whole)) = some_mapped (λ us. t ∷ us) (all_substituted bs es) ts later in
    subst AreLiteralsWithin whole (one_more_held t us (literal_held v t first is_t) (literals_held bs es us lits rest are_us))
literals_held bs (expr_and (name x) es) ts lits texts are = absurd (true≢false (sym lits))
literals_held bs (expr_and (logical x) es) ts lits texts are = absurd (true≢false (sym lits))
literals_held bs (expr_and (list_expr ds) es) ts lits texts are = absurd (true≢false (sym lits))
literals_held bs (expr_and (unary_expr op d) es) ts lits texts are = absurd (true≢false (sym lits))
literals_held bs (expr_and (binary_expr op d e) es) ts lits texts are = absurd (true≢false (sym lits))

abbrev pub IsListWithin : ℕ → PureTerm → Type 0
IsListWithin b t = IsTrue (is_list_of_literals t) × IsTrue (has_literals_between (neg_ℤ (pos b)) (pos b) t)

pub list_up : (b c : ℕ) → b ≤ c → (t : PureTerm) → IsListWithin b t → IsListWithin c t
list_up b c wide t is = (is.0, term_wider (neg_ℤ (pos b)) (pos b) (neg_ℤ (pos c)) (pos c) (lower_bound b c wide) (higher_bound b c wide) t is.1)

list_term : (bs : PureStore) (e : PureExpr) (t : PureTerm) → is_list_of_literal_exprs e ≡ true → has_text_numbers e ≡ true → IsTermOf bs e t → IsListWithin text_bound t
list_term bs (list_expr es) t lits texts is =
    let (ts, (are, whole)) = some_mapped (λ us. list_of (from_list us)) (all_substituted bs es) t is in
    subst (IsListWithin text_bound) whole (literals_held bs es ts lits texts are)
list_term bs (value_literal v) t lits texts is = absurd (true≢false (sym lits))
list_term bs (name x) t lits texts is = absurd (true≢false (sym lits))
list_term bs (logical x) t lits texts is = absurd (true≢false (sym lits))
list_term bs (unary_expr op e) t lits texts is = absurd (true≢false (sym lits))
list_term bs (binary_expr op d e) t lits texts is = absurd (true≢false (sym lits))

pub list_terms : (bs : PureStore) (es : List PureExpr) (ts : List PureTerm) → list_all is_list_of_literal_exprs es ≡ true → list_all has_text_numbers es ≡ true → AreTermsOf bs es ts → Each (IsListWithin text_bound) ts
list_terms bs [] ts lits texts are = subst (Each (IsListWithin text_bound)) (same_some are) tt
list_terms bs (e ∷ es) ts lits texts are =
    let (lits_first, lits_rest) = and_parts (is_list_of_literal_exprs e) (list_all is_list_of_literal_exprs es) lits in
    let (first, rest) = and_parts (has_text_numbers e) (list_all has_text_numbers es) texts in
    let (t, (is_t, later)) = some_of (λ t. option_map (λ us. t ∷ us) (all_substituted bs (exprs_from es))) (substituted bs e) ts are in
    let (us, (are_us, whole)) = some_mapped (λ us. t ∷ us) (all_substituted bs (exprs_from es)) ts later in
    subst (Each (IsListWithin text_bound)) whole (list_term bs e t lits_first first is_t, list_terms bs es us lits_rest rest are_us)
