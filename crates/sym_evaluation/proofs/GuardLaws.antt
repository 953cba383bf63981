-- Simple guards over plain terms come to a sure fault or to a plain guard.
use Rattle.std.proofs.Common.{◌≡◌, ◌⊎◌, ⊎_elim, inl, inr, ℕ, ◌+◌, ◌^◌, ◌<◌, ℤ, pos, neg_ℤ, int_lt, int_le, List, [], Bool, true, false, ◌&&◌, ◌||◌, if◌then◌else◌, Option, Some, None, refl, sym, ap, subst, ◌∙◌, true≢false}
use Rattle.std.specs.List.{list_all}
use Rattle.std.proofs.lemmas.Bool.{and_parts, and_from, or_cases}
use Rattle.gil_values.specs.declared.kinds.Kind.{Kind}
use Rattle.gil_values.specs.declared.operators.UnOp.{UnOp}
use Rattle.gil_values.specs.declared.operators.BinOp.{BinOp}
use Rattle.gil_values.specs.Equality.{same_kind, same_value}
use Rattle.gil_values.specs.Operators.{wrong_kind}
use Rattle.gil_syntax.specs.Pure.{PureExpr, literal as value_literal, name, logical, list_of as list_expr, unary_of as unary_expr, binary_of as binary_expr}
use Rattle.gil_syntax.specs.Simple.{compares, is_simple_value, is_bare_guard as is_bare_expr, is_simple_guard}
use Rattle.gil_syntax.specs.Subexpressions.{literals_of, subexpressions}
use Rattle.gil_syntax.specs.WellMade.{is_spellable}
use Rattle.pure_terms.specs.declared.literals.Literal.{Literal}
use Rattle.pure_terms.specs.declared.variables.Sort.{Sort}
use Rattle.pure_terms.specs.declared.variables.Var.{Var}
use Rattle.pure_terms.specs.Folding.{literal_or, term_or, computed_binary, is_nth, joined_shift, element_term, folded_unary, folded_binary, folded_with_literal}
use Rattle.pure_terms.specs.Fragment.{is_plain, is_simple, is_order, is_integer_side, has_literals_between}
use Rattle.pure_terms.specs.Kinds.{same_sort, kind_of_literal, known_kind, is_of_kind}
use Rattle.pure_terms.specs.Meaning.{literal_value}
use Rattle.pure_terms.specs.Pure.{PureTerm, literal, variable, list_of, unary_of, binary_of, PureTerms, PureAtom}
use Rattle.sym_model.proofs.ListLaws.{same_some}
use Rattle.sym_evaluation.specs.Checks.{kind_check, required, kinds_required, unary_required, binary_required}
use Rattle.sym_evaluation.specs.Evaluating.{finished, at_stage, cases_after}
use Rattle.sym_evaluation.specs.Plainly.{IsPlain, IsPlainStore, text_bound, is_text_number, has_text_numbers, is_equal, is_plain_comparison, is_bare_guard, IsPlainGuard, GuardsPlainly}
use Rattle.sym_evaluation.specs.Pure.{PureStore, PureFaultCase, PureCases}
use Rattle.sym_evaluation.proofs.PlainGuards.{boolean_sort, no_comparison}
use Rattle.sym_evaluation.proofs.PlainLaws.{StageIs, stage_decided, kind_decided, kinds_decided, IsSureFrom, sure_at, sure_followed, simple_sure, literal_parts}
use Rattle.sym_evaluation.proofs.PlainTerms.{plain_parts, plain_kind, shift_cases, simple_shift}

-- ---- folded comparisons

-- a comparison is folded to a boolean, or stays
abbrev IsFolded : BinOp → PureTerm → PureTerm → PureTerm → Type 0
IsFolded op s t u = (u ≡ binary_of op s t) ⊎ ((x : Bool) × (u ≡ literal (Literal.Bool x)))

record Folds (op : BinOp) : Type 0 where
  pub no_place : is_nth op ≡ false
  pub no_shift : (p : PureTerm) (inner : BinOp) (m n : ℤ) → (inner ≡ BinOp.Add) ⊎ (inner ≡ BinOp.Subtract) → joined_shift p inner m op n ≡ None
  pub computes : (k l : Literal) → (computed_binary op k l ≡ None) ⊎ ((x : Bool) × (computed_binary op k l ≡ Some (Literal.Bool x)))

shift_by : (op : BinOp) (p : PureTerm) (inner : BinOp) (m n : ℤ) → joined_shift p BinOp.Add m op n ≡ None → joined_shift p BinOp.Subtract m op n ≡ None → (inner ≡ BinOp.Add) ⊎ (inner ≡ BinOp.Subtract) → joined_shift p inner m op n ≡ None
shift_by op p inner m n first second (inl e) = ap (λ o. joined_shift p o m op n) e ∙ first
shift_by op p inner m n first second (inr e) = ap (λ o. joined_shift p o m op n) e ∙ second

equal_folds : Folds BinOp.Equal
equal_folds = record { no_place = refl; no_shift = λ p inner m n. shift_by BinOp.Equal p inner m n refl refl; computes = λ k l. inr (same_value (literal_value k) (literal_value l), refl) }

less_computes : (k l : Literal) → (computed_binary BinOp.Less k l ≡ None) ⊎ ((x : Bool) × (computed_binary BinOp.Less k l ≡ Some (Literal.Bool x)))
less_computes (Literal.Int m) (Literal.Int n) = inr (int_lt m n, refl)
less_computes (Literal.Int m) (Literal.Bool b) = inl refl
less_computes (Literal.Int m) (Literal.Str s) = inl refl
less_computes (Literal.Int m) (Literal.Kind k) = inl refl
less_computes (Literal.Int m) (Literal.Proc p) = inl refl
less_computes (Literal.Bool b) l = inl refl
less_computes (Literal.Str s) l = inl refl
less_computes (Literal.Kind k) l = inl refl
less_computes (Literal.Proc p) l = inl refl

at_most_computes : (k l : Literal) → (computed_binary BinOp.LessOrEqual k l ≡ None) ⊎ ((x : Bool) × (computed_binary BinOp.LessOrEqual k l ≡ Some (Literal.Bool x)))
at_most_computes (Literal.Int m) (Literal.Int n) = inr (int_le m n, refl)
at_most_computes (Literal.Int m) (Literal.Bool b) = inl refl
at_most_computes (Literal.Int m) (Literal.Str s) = inl refl
at_most_computes (Literal.Int m) (Literal.Kind k) = inl refl
at_most_computes (Literal.Int m) (Literal.Proc p) = inl refl
at_most_computes (Literal.Bool b) l = inl refl
at_most_computes (Literal.Str s) l = inl refl
at_most_computes (Literal.Kind k) l = inl refl
at_most_computes (Literal.Proc p) l = inl refl

less_folds : Folds BinOp.Less
less_folds = record { no_place = refl; no_shift = λ p inner m n. shift_by BinOp.Less p inner m n refl refl; computes = less_computes }

at_most_folds : Folds BinOp.LessOrEqual
at_most_folds = record { no_place = refl; no_shift = λ p inner m n. shift_by BinOp.LessOrEqual p inner m n refl refl; computes = at_most_computes }

module _ (op : BinOp) (folds : Folds op) where
  literal_by : (k l : Literal) (o : Option Literal) → computed_binary op k l ≡ o → (o ≡ None) ⊎ ((x : Bool) × (o ≡ Some (Literal.Bool x))) → IsFolded op (literal k) (literal l) (literal_or (binary_of op (literal k) (literal l)) (computed_binary op k l))
  literal_by k l o is (inl none) = inl (ap (literal_or (binary_of op (literal k) (literal l))) (is ∙ none))
  literal_by k l o is (inr (x, some)) = inr (x, ap (literal_or (binary_of op (literal k) (literal l))) (is ∙ some))

  shifted_by : (inner : BinOp) (p : PureTerm) (m : ℤ) (l : Literal) → (inner ≡ BinOp.Add) ⊎ (inner ≡ BinOp.Subtract) → folded_with_literal op (binary_of inner p (literal (Literal.Int m))) l ≡ binary_of op (binary_of inner p (literal (Literal.Int m))) (literal l)
  shifted_by inner p m (Literal.Int n) is = ap (term_or (binary_of op (binary_of inner p (literal (Literal.Int m))) (literal (Literal.Int n)))) (folds.no_shift p inner m n is)
  shifted_by inner p m (Literal.Bool b) is = refl
  shifted_by inner p m (Literal.Str s) is = refl
  shifted_by inner p m (Literal.Kind k) is = refl
  shifted_by inner p m (Literal.Proc q) is = refl

  list_by : (ts : PureTerms) (l : Literal) → folded_with_literal op (list_of ts) l ≡ binary_of op (list_of ts) (literal l)
  list_by ts (Literal.Int i) = ap (λ c. if c then term_or (binary_of op (list_of ts) (literal (Literal.Int i))) (element_term ts i) else binary_of op (list_of ts) (literal (Literal.Int i))) folds.no_place
  list_by ts (Literal.Bool b) = refl
  list_by ts (Literal.Str s) = refl
  list_by ts (Literal.Kind k) = refl
  list_by ts (Literal.Proc q) = refl

  with_literal : (s : PureTerm) (l : Literal) → is_simple s ≡ true → IsFolded op s (literal l) (folded_with_literal op s l)
  with_literal (literal k) l simple = literal_by k l (computed_binary op k l) refl (folds.computes k l)
  with_literal (variable x) l simple = inl refl
  with_literal (list_of ts) l simple = inl (list_by ts l)
  with_literal (unary_of o t) l simple = inl refl
  with_literal (binary_of inner p q) l simple =
      let (x, (m, (variable_is, sort, literal_is, shifts))) = simple_shift inner p q simple in
      inl (subst (λ w. folded_with_literal op (binary_of inner p w) l ≡ binary_of op (binary_of inner p w) (literal l)) (sym literal_is) (shifted_by inner p m l (shift_cases inner shifts)))

  compared_folded : (s t : PureTerm) → is_simple s ≡ true → IsFolded op s t (folded_binary op s t)
  compared_folded s (literal l) simple = with_literal s l simple
  compared_folded s (variable x) simple = inl refl
  compared_folded s (list_of ts) simple = inl refl
  compared_folded s (unary_of o t) simple = inl refl
  compared_folded s (binary_of o t u) simple = inl refl

-- ---- guards

or_second : (x y : Bool) → y ≡ true → (x || y) ≡ true
or_second true y is = refl
or_second false y is = is

number_kind : (op : BinOp) (s u : PureTerm) → (op ≡ BinOp.Add) ⊎ (op ≡ BinOp.Subtract) → known_kind (binary_of op s u) ≡ Some Kind.Int
number_kind op s u (inl e) = ap (λ o. known_kind (binary_of o s u)) e
number_kind op s u (inr e) = ap (λ o. known_kind (binary_of o s u)) e

module _ (b : ℕ) where
  abbrev IsBareGuard : PureTerm → Type 0
  IsBareGuard t = (is_bare_guard t ≡ true) × (has_literals_between (neg_ℤ (pos b)) (pos b) t ≡ true)

  plain_bare : (t : PureTerm) → IsPlain b t → IsBareGuard t
  plain_bare t plain = (ap (λ x. x || is_plain_comparison t) plain.0, plain.1)

  compared_bare : (op : BinOp) (s t u : PureTerm) → IsFolded op s t u → IsPlain b s → IsPlain b t → (is_equal op || (is_order op && (is_integer_side s && is_integer_side t))) ≡ true → IsBareGuard u
  compared_bare op s t u (inl same) first second is =
      subst IsBareGuard (sym same) (
        or_second (is_plain (binary_of op s t)) (is_plain_comparison (binary_of op s t)) (and_from (is_plain s && is_plain t) _ (and_from (is_plain s) (is_plain t) first.0 second.0) is),
        and_from (has_literals_between (neg_ℤ (pos b)) (pos b) s) (has_literals_between (neg_ℤ (pos b)) (pos b) t) first.1 second.1,
      )
  compared_bare op s t u (inr (x, same)) first second is = subst IsBareGuard (sym same) (refl, refl)

  bare_guard : (t : PureTerm) → IsBareGuard t → IsPlainGuard b t
  bare_guard (literal l) is = is
  bare_guard (variable x) is = is
  bare_guard (list_of ts) is = is
  bare_guard (unary_of UnOp.Not t) is = absurd (true≢false (sym is.0))
  bare_guard (unary_of UnOp.Neg t) is = is
  bare_guard (unary_of UnOp.Len t) is = is
  bare_guard (unary_of UnOp.Kind t) is = is
  bare_guard (binary_of op s t) is = is

  -- `not` of a bare guard that is a boolean
  boolean_of : (t : PureTerm) (k j : Kind) → known_kind t ≡ Some k → known_kind t ≡ Some j → same_kind k Kind.Bool ≡ true → same_kind j Kind.Bool ≡ true
  boolean_of t k j first second is = ap (λ l. same_kind l Kind.Bool) (sym (same_some (sym first ∙ second))) ∙ is

  literal_turned : (l : Literal) → same_kind (kind_of_literal l) Kind.Bool ≡ true → IsPlainGuard b (folded_unary UnOp.Not (literal l))
  literal_turned (Literal.Bool x) is = (refl, refl)
  literal_turned (Literal.Int n) is = absurd (true≢false (sym is))
  literal_turned (Literal.Str s) is = absurd (true≢false (sym is))
  literal_turned (Literal.Kind k) is = absurd (true≢false (sym is))
  literal_turned (Literal.Proc p) is = absurd (true≢false (sym is))

  variable_turned : (x : Var) (k : Kind) → known_kind (variable x) ≡ Some k → same_kind k Kind.Bool ≡ true → IsPlainGuard b (unary_of UnOp.Not (variable x))
  variable_turned x k known is = (ap (λ s. same_sort s Sort.Bool || false) (boolean_sort b x.sort k known is), refl)

  pair_turned : (op : BinOp) (s t : PureTerm) (k : Kind) → IsBareGuard (binary_of op s t) → known_kind (binary_of op s t) ≡ Some k → same_kind k Kind.Bool ≡ true → (is_plain (binary_of op s t) ≡ true) ⊎ (is_plain_comparison (binary_of op s t) ≡ true) → IsPlainGuard b (unary_of UnOp.Not (binary_of op s t))
  pair_turned op s t k bare known is (inr compares) = (compares, bare.1)
  pair_turned op s t k bare known is (inl plain) =
      let (x, (m, (variable_is, sort, literal_is, shifts))) = simple_shift op s t (plain_parts (binary_of op s t) plain).0 in
      absurd (true≢false (sym (boolean_of (binary_of op s t) k Kind.Int known (number_kind op s t (shift_cases op shifts)) is)))

  turned : (t : PureTerm) (k : Kind) → IsBareGuard t → known_kind t ≡ Some k → same_kind k Kind.Bool ≡ true → IsPlainGuard b (folded_unary UnOp.Not t)
  turned (literal l) k bare known is = literal_turned l (boolean_of (literal l) k (kind_of_literal l) known refl is)
  turned (variable x) k bare known is = variable_turned x k known is
  turned (list_of ts) k bare known is = absurd (true≢false (sym (boolean_of (list_of ts) k Kind.List known refl is)))
  turned (unary_of op t) k bare known is = absurd (true≢false (sym bare.0))
  turned (binary_of op s t) k bare known is = pair_turned op s t k bare known is (or_cases (is_plain (binary_of op s t)) (is_plain_comparison (binary_of op s t)) bare.0)

  -- a bare guard has a known kind
  comparison_kind : (t : PureTerm) → is_plain_comparison t ≡ true → (k : Kind) × (known_kind t ≡ Some k)
  comparison_kind (binary_of BinOp.Equal s t) is = (Kind.Bool, refl)
  comparison_kind (binary_of BinOp.Less s t) is = (Kind.Bool, refl)
  comparison_kind (binary_of BinOp.LessOrEqual s t) is = (Kind.Bool, refl)
  comparison_kind (binary_of BinOp.Add s t) is = (Kind.Int, refl)
  comparison_kind (binary_of BinOp.Subtract s t) is = (Kind.Int, refl)
  comparison_kind (binary_of BinOp.Multiply s t) is = (Kind.Int, refl)
  comparison_kind (binary_of BinOp.Divide s t) is = (Kind.Int, refl)
  comparison_kind (binary_of BinOp.Remainder s t) is = (Kind.Int, refl)
  comparison_kind (binary_of BinOp.And s t) is = (Kind.Bool, refl)
  comparison_kind (binary_of BinOp.Or s t) is = (Kind.Bool, refl)
  comparison_kind (binary_of BinOp.Append s t) is = no_comparison (is_plain s && is_plain t) false is refl
  comparison_kind (binary_of BinOp.Nth s t) is = no_comparison (is_plain s && is_plain t) false is refl
  comparison_kind (literal l) is = absurd (true≢false (sym is))
  comparison_kind (variable x) is = absurd (true≢false (sym is))
  comparison_kind (list_of ts) is = absurd (true≢false (sym is))
  comparison_kind (unary_of op t) is = absurd (true≢false (sym is))

  bare_kind : (t : PureTerm) → IsBareGuard t → (k : Kind) × (known_kind t ≡ Some k)
  bare_kind t bare = ⊎_elim (plain_kind t) (comparison_kind t) (or_cases (is_plain t) (is_plain_comparison t) bare.0)

-- ---- expressions

module _ (fs : List PureFaultCase) (cs : List PureAtom) (b : ℕ) (small : b + text_bound < 2 ^ 127) (bs : PureStore) (plain : IsPlainStore b bs) where
  abbrev wide : ℕ
  wide = b + text_bound

  abbrev Spells : PureExpr → Type 0
  Spells e = list_all is_spellable (literals_of e) ≡ true

  abbrev HasNumbers : PureExpr → Type 0
  HasNumbers e = has_text_numbers e ≡ true

  sure_plain : (e : PureExpr) → is_simple_value e ≡ true → Spells e → HasNumbers e → IsSureFrom fs cs (IsPlain wide) (cases_after bs fs cs e)
  sure_plain e simple spells numbers = simple_sure fs cs b small bs plain e simple spells numbers

  as_bare : (cases : PureCases PureTerm) → IsSureFrom fs cs (IsPlain wide) cases → IsSureFrom fs cs (IsBareGuard wide) cases
  as_bare cases (inl fault) = inl fault
  as_bare cases (inr (t, (same, is))) = inr (t, (same, plain_bare wide t is))

  integer_side : (s : PureTerm) (p : Kind) → is_plain s ≡ true → known_kind s ≡ Some p → same_kind p Kind.Int ≡ true → is_integer_side s ≡ true
  integer_side s p plain_s known is = and_from (is_simple s) (is_of_kind (known_kind s) Kind.Int) (plain_parts s plain_s).0 (ap (λ o. is_of_kind o Kind.Int) known ∙ is)

  order_sure : (op : BinOp) (s t : PureTerm) → Folds op → is_order op ≡ true → IsPlain wide s → IsPlain wide t → IsSureFrom fs cs (IsBareGuard wide) (finished (kinds_required Kind.Int Kind.Int s t (at_stage fs cs)) (folded_binary op s t))
  order_sure op s t folds order first second =
      let (p, known_s) = plain_kind s first.0 in
      let (q, known_t) = plain_kind t second.0 in
      sure_at fs cs (IsBareGuard wide) ((same_kind p Kind.Int ≡ true) × (same_kind q Kind.Int ≡ true)) (kinds_required Kind.Int Kind.Int s t (at_stage fs cs)) (folded_binary op s t)
      (kinds_decided fs cs Kind.Int Kind.Int p q s t known_s known_t)
      (λ kinds. compared_bare wide op s t (folded_binary op s t) (compared_folded op folds s t (plain_parts s first.0).0) first second
      (or_second (is_equal op) (is_order op && (is_integer_side s && is_integer_side t)) (and_from (is_order op) _ order
      (and_from (is_integer_side s) (is_integer_side t) (integer_side s p first.0 known_s kinds.0) (integer_side t q second.0 known_t kinds.1)))))

  compare_sure : (op : BinOp) (s t : PureTerm) → compares op ≡ true → IsPlain wide s → IsPlain wide t → IsSureFrom fs cs (IsBareGuard wide) (finished (binary_required op s t (at_stage fs cs)) (folded_binary op s t))
  compare_sure BinOp.Equal s t is first second =
      inr (folded_binary BinOp.Equal s t, (refl, compared_bare wide BinOp.Equal s t (folded_binary BinOp.Equal s t) (compared_folded BinOp.Equal equal_folds s t (plain_parts s first.0).0) first second refl))
  compare_sure BinOp.Less s t is first second = order_sure BinOp.Less s t less_folds refl first second
  compare_sure BinOp.LessOrEqual s t is first second = order_sure BinOp.LessOrEqual s t at_most_folds refl first second
  compare_sure BinOp.Add s t is first second = absurd (true≢false (sym is))
  compare_sure BinOp.Subtract s t is first second = absurd (true≢false (sym is))
  compare_sure BinOp.Multiply s t is first second = absurd (true≢false (sym is))
  compare_sure BinOp.Divide s t is first second = absurd (true≢false (sym is))
  compare_sure BinOp.Remainder s t is first second = absurd (true≢false (sym is))
  compare_sure BinOp.And s t is first second = absurd (true≢false (sym is))
  compare_sure BinOp.Or s t is first second = absurd (true≢false (sym is))
  compare_sure BinOp.Append s t is first second = absurd (true≢false (sym is))
  compare_sure BinOp.Nth s t is first second = absurd (true≢false (sym is))

  pair_sure : (op : BinOp) (d e : PureExpr) → is_bare_expr (binary_expr op d e) ≡ true → Spells (binary_expr op d e) → HasNumbers (binary_expr op d e) → IsSureFrom fs cs (IsBareGuard wide) (cases_after bs fs cs (binary_expr op d e))
  pair_sure op d e bare spells numbers =
      let (begun, second) = and_parts (compares op && is_simple_value d) (is_simple_value e) bare in
      let (compares_is, first) = and_parts (compares op) (is_simple_value d) begun in
      let (spells_d, spells_e) = literal_parts is_spellable (subexpressions d) (subexpressions e) spells in
      let (numbers_d, numbers_e) = literal_parts is_text_number (subexpressions d) (subexpressions e) numbers in
      sure_followed fs cs (IsPlain wide) (IsBareGuard wide) (cases_after bs fs cs d) _ (sure_plain d first spells_d numbers_d)
      (λ s plain_s. sure_followed fs cs (IsPlain wide) (IsBareGuard wide) (cases_after bs fs cs e) _ (sure_plain e second spells_e numbers_e)
      (λ t plain_t. compare_sure op s t compares_is plain_s plain_t))

  bare_sure : (e : PureExpr) → is_bare_expr e ≡ true → Spells e → HasNumbers e → IsSureFrom fs cs (IsBareGuard wide) (cases_after bs fs cs e)
  bare_sure (value_literal w) bare spells numbers = as_bare (cases_after bs fs cs (value_literal w)) (sure_plain (value_literal w) refl spells numbers)
  bare_sure (name x) bare spells numbers = as_bare (cases_after bs fs cs (name x)) (sure_plain (name x) refl spells numbers)
  bare_sure (logical x) bare spells numbers = absurd (true≢false (sym bare))
  bare_sure (list_expr es) bare spells numbers = absurd (true≢false (sym bare))
  bare_sure (unary_expr op e) bare spells numbers = absurd (true≢false (sym bare))
  bare_sure (binary_expr op d e) bare spells numbers = pair_sure op d e bare spells numbers

  as_guard : (cases : PureCases PureTerm) → IsSureFrom fs cs (IsBareGuard wide) cases → IsSureFrom fs cs (IsPlainGuard wide) cases
  as_guard cases (inl fault) = inl fault
  as_guard cases (inr (t, (same, bare))) = inr (t, (same, bare_guard wide t bare))

  not_sure : (t : PureTerm) → IsBareGuard wide t → IsSureFrom fs cs (IsPlainGuard wide) (finished (unary_required UnOp.Not t (at_stage fs cs)) (folded_unary UnOp.Not t))
  not_sure t bare =
      let (k, known) = bare_kind wide t bare in
      let stage : StageIs fs cs (Unit {0} × (same_kind k Kind.Bool ≡ true)) (required wrong_kind (kind_check Kind.Bool t) (at_stage fs cs))
      = subst (λ c. StageIs fs cs (Unit {0} × (same_kind k Kind.Bool ≡ true)) (required wrong_kind c (at_stage fs cs))) (sym (kind_decided fs cs Kind.Bool k t known)) (stage_decided fs cs wrong_kind (same_kind k Kind.Bool) (at_stage fs cs) (Unit {0}) (inl (refl, tt))) in
      sure_at fs cs (IsPlainGuard wide) (Unit {0} × (same_kind k Kind.Bool ≡ true)) (unary_required UnOp.Not t (at_stage fs cs)) (folded_unary UnOp.Not t) stage (λ passed. turned wide t k bare known passed.1)

  guard_sure : (e : PureExpr) → is_simple_guard e ≡ true → Spells e → HasNumbers e → IsSureFrom fs cs (IsPlainGuard wide) (cases_after bs fs cs e)
  guard_sure (unary_expr UnOp.Not e) simple spells numbers = sure_followed fs cs (IsBareGuard wide) (IsPlainGuard wide) (cases_after bs fs cs e) _ (bare_sure e simple spells numbers) (λ t bare. not_sure t bare)
  guard_sure (unary_expr UnOp.Neg e) simple spells numbers = absurd (true≢false (sym simple))
  guard_sure (unary_expr UnOp.Len e) simple spells numbers = absurd (true≢false (sym simple))
  guard_sure (unary_expr UnOp.Kind e) simple spells numbers = absurd (true≢false (sym simple))
  guard_sure (value_literal w) simple spells numbers = as_guard (cases_after bs fs cs (value_literal w)) (bare_sure (value_literal w) simple spells numbers)
  guard_sure (name x) simple spells numbers = as_guard (cases_after bs fs cs (name x)) (bare_sure (name x) simple spells numbers)
  guard_sure (logical x) simple spells numbers = absurd (true≢false (sym simple))
  guard_sure (list_expr es) simple spells numbers = absurd (true≢false (sym simple))
  guard_sure (binary_expr op d e) simple spells numbers = as_guard (cases_after bs fs cs (binary_expr op d e)) (bare_sure (binary_expr op d e) simple spells numbers)

pub guards_plainly : (bs : PureStore) (e : PureExpr) → list_all is_spellable (literals_of e) ≡ true → GuardsPlainly bs e (cases_after bs [] [] e)
guards_plainly bs e spells b small plain simple numbers = guard_sure [] [] b small bs plain e simple spells numbers
