-- Shifts and elements of plain terms are plain, within wider bounds.
use Rattle.std.proofs.Common.{◌≡◌, ◌⊎◌, ⊎_elim, inl, inr, ℕ, zero, suc, ◌+◌, ◌-◌, ◌^◌, ◌<◌, ◌≤◌, ℤ, pos, neg_ℤ, ◌+ℤ◌, ◌-ℤ◌, ◌≤ℤ◌, slice_get, Bool, true, false, not, ◌&&◌, ◌||◌, if◌then◌else◌, Some, None, refl, sym, ap, subst, ◌∙◌, arith, true≢false}
use Rattle.std.specs.Prelude.{int_le}
use Rattle.std.proofs.lemmas.Bool.{and_parts, and_from}
use Rattle.std.proofs.lemmas.Int.{ints}
use Rattle.gil_values.specs.declared.kinds.Kind.{Kind}
use Rattle.gil_values.specs.declared.operators.BinOp.{BinOp}
use Rattle.gil_values.specs.Equality.{same_kind}
use Rattle.pure_terms.specs.declared.literals.Literal.{Literal}
use Rattle.pure_terms.specs.declared.variables.Sort.{Sort}
use Rattle.pure_terms.specs.declared.variables.Var.{Var}
use Rattle.pure_terms.specs.EqualityLaws.{same_sorts}
use Rattle.pure_terms.specs.Folding.{literal_or, term_or, shift, folded_binary, folded_with_literal}
use Rattle.pure_terms.specs.Fragment.{is_plain, is_simple, are_simple, names_sort, name_sort, is_shift, is_variable_of, is_integer_literal, is_literal_between, has_literals_between, have_literals_between}
use Rattle.pure_terms.specs.Kinds.{same_sort, kind_of_sort, kind_of_literal, known_kind}
use Rattle.pure_terms.specs.Numbers.{is_between, is_held}
use Rattle.pure_terms.specs.Pure.{PureTerm, literal, variable, list_of, unary_of, binary_of, PureTerms, no_terms, term_and, to_list}
use Rattle.pure_terms.proofs.SimpleLaws.{simple_terms_have_kinds}
use Rattle.sym_model.proofs.ListLaws.{same_some, not_none}
use Rattle.sym_evaluation.specs.Plainly.{IsPlain, text_bound}

-- ---- numbers

pub to_test : (m n : ℤ) → m ≤ℤ n → int_le m n ≡ true
to_test m n h = grind (arith, ints)

pub from_test : (m n : ℤ) → int_le m n ≡ true → m ≤ℤ n
from_test m n h = grind (arith, ints)

abbrev pub IsWithin : ℕ → ℤ → Type 0
IsWithin b n = is_between (neg_ℤ (pos b)) (pos b) n ≡ true

within_from : (b : ℕ) (n : ℤ) → neg_ℤ (pos b) ≤ℤ n → n ≤ℤ pos b → IsWithin b n
within_from b n first second = and_from (int_le (neg_ℤ (pos b)) n) (int_le n (pos b)) (to_test (neg_ℤ (pos b)) n first) (to_test n (pos b) second)

within_parts : (b : ℕ) (n : ℤ) → IsWithin b n → (neg_ℤ (pos b) ≤ℤ n) × (n ≤ℤ pos b)
within_parts b n is =
    let parts = and_parts (int_le (neg_ℤ (pos b)) n) (int_le n (pos b)) is in
    (from_test (neg_ℤ (pos b)) n parts.0, from_test n (pos b) parts.1)

pub sum_within : (b c : ℕ) (m n : ℤ) → IsWithin b m → IsWithin c n → IsWithin (b + c) (m +ℤ n)
sum_within b c m n first second =
    let (m_low, m_high) = within_parts b m first in
    let (n_low, n_high) = within_parts c n second in
    within_from (b + c) (m +ℤ n) (omega (arith, ints, m_low, n_low)) (omega (arith, ints, m_high, n_high))

pub difference_within : (b c : ℕ) (m n : ℤ) → IsWithin b m → IsWithin c n → IsWithin (b + c) (m -ℤ n)
difference_within b c m n first second =
    let (m_low, m_high) = within_parts b m first in
    let (n_low, n_high) = within_parts c n second in
    within_from (b + c) (m -ℤ n) (omega (arith, ints, m_low, n_high)) (omega (arith, ints, m_high, n_low))

pub turned_within : (b c : ℕ) (m n : ℤ) → IsWithin b m → IsWithin c n → IsWithin (b + c) (n -ℤ m)
turned_within b c m n first second =
    let (m_low, m_high) = within_parts b m first in
    let (n_low, n_high) = within_parts c n second in
    within_from (b + c) (n -ℤ m) (omega (arith, ints, m_high, n_low)) (omega (arith, ints, m_low, n_high))

pub wider_number : (b c : ℕ) (n : ℤ) → b ≤ c → IsWithin b n → IsWithin c n
wider_number b c n wide is =
    let (low, high) = within_parts b n is in
    within_from c n (omega (arith, ints, low, wide)) (omega (arith, ints, high, wide))

pub within_held : (d : ℕ) (n : ℤ) → d < 2 ^ 127 → IsWithin d n → is_held n ≡ true
within_held d n small is =
    let (low, high) = within_parts d n is in
    and_from (int_le (neg_ℤ (pos (2 ^ 127))) n) (int_le n (pos (2 ^ 127 - 1)))
    (to_test (neg_ℤ (pos (2 ^ 127))) n (omega (arith, ints, low, small))) (to_test n (pos (2 ^ 127 - 1)) (omega (arith, ints, high, small)))

-- ---- literals

module _ (b c : ℕ) (wide : b ≤ c) where
  literal_wider : (k : Literal) → is_literal_between (neg_ℤ (pos b)) (pos b) k ≡ true → is_literal_between (neg_ℤ (pos c)) (pos c) k ≡ true
  literal_wider (Literal.Int n) is = wider_number b c n wide is
  literal_wider (Literal.Bool x) is = refl
  literal_wider (Literal.Str s) is = refl
  literal_wider (Literal.Kind k) is = refl
  literal_wider (Literal.Proc s) is = refl

  mutual
    literals_wider : (t : PureTerm) → has_literals_between (neg_ℤ (pos b)) (pos b) t ≡ true → has_literals_between (neg_ℤ (pos c)) (pos c) t ≡ true
    literals_wider (literal k) is = literal_wider k is
    literals_wider (variable x) is = refl
    literals_wider (list_of ts) is = all_wider ts is
    literals_wider (unary_of op t) is = literals_wider t is
    literals_wider (binary_of op s t) is =
        let parts = and_parts (has_literals_between (neg_ℤ (pos b)) (pos b) s) (has_literals_between (neg_ℤ (pos b)) (pos b) t) is in
        and_from (has_literals_between (neg_ℤ (pos c)) (pos c) s) (has_literals_between (neg_ℤ (pos c)) (pos c) t) (literals_wider s parts.0) (literals_wider t parts.1)

    all_wider : (ts : PureTerms) → have_literals_between (neg_ℤ (pos b)) (pos b) ts ≡ true → have_literals_between (neg_ℤ (pos c)) (pos c) ts ≡ true
    all_wider no_terms is = refl
    all_wider (term_and t ts) is =
        let parts = and_parts (has_literals_between (neg_ℤ (pos b)) (pos b) t) (have_literals_between (neg_ℤ (pos b)) (pos b) ts) is in
        and_from (has_literals_between (neg_ℤ (pos c)) (pos c) t) (have_literals_between (neg_ℤ (pos c)) (pos c) ts) (literals_wider t parts.0) (all_wider ts parts.1)

  pub plain_wider : (t : PureTerm) → IsPlain b t → IsPlain c t
  plain_wider t is = (is.0, literals_wider t is.1)

-- ---- plain terms

no_any : (s a l : Bool) → (s && (not a && not l)) ≡ true → (s ≡ true) × (a ≡ false) × (l ≡ false)
no_any true false false is = (refl, refl, refl)
no_any true true l is = absurd (true≢false (sym is))
no_any true false true is = absurd (true≢false (sym is))
no_any false a l is = absurd (true≢false (sym is))

pub plain_parts : (t : PureTerm) → is_plain t ≡ true → (is_simple t ≡ true) × (names_sort Sort.Any t ≡ false) × (names_sort Sort.List t ≡ false)
plain_parts t is = no_any (is_simple t) (names_sort Sort.Any t) (names_sort Sort.List t) is

plain_from : (s a l : Bool) → s ≡ true → a ≡ false → l ≡ false → (s && (not a && not l)) ≡ true
plain_from s a l first second third = λ i. first i && (not (second i) && not (third i))

-- a plain term has a known kind
pub plain_kind : (t : PureTerm) → is_plain t ≡ true → (k : Kind) × (known_kind t ≡ Some k)
plain_kind t is = let (simple, any, list) = plain_parts t is in simple_terms_have_kinds t simple any

-- ---- numbers among terms

int_sort : (s : Sort) (k : Kind) → kind_of_sort s ≡ Some k → same_kind k Kind.Int ≡ true → s ≡ Sort.Int
int_sort Sort.Int k is int = refl
int_sort Sort.Bool k is int = absurd (true≢false (sym int ∙ ap (λ j. same_kind j Kind.Int) (sym (same_some is))))
int_sort Sort.Str k is int = absurd (true≢false (sym int ∙ ap (λ j. same_kind j Kind.Int) (sym (same_some is))))
int_sort Sort.Sym k is int = absurd (true≢false (sym int ∙ ap (λ j. same_kind j Kind.Int) (sym (same_some is))))
int_sort Sort.Fresh k is int = absurd (true≢false (sym int ∙ ap (λ j. same_kind j Kind.Int) (sym (same_some is))))
int_sort Sort.List k is int = absurd (true≢false (sym int ∙ ap (λ j. same_kind j Kind.Int) (sym (same_some is))))
int_sort Sort.Any k is int = not_none is

list_sort : (s : Sort) (k : Kind) → kind_of_sort s ≡ Some k → same_kind k Kind.List ≡ true → s ≡ Sort.List
list_sort Sort.List k is int = refl
list_sort Sort.Bool k is int = absurd (true≢false (sym int ∙ ap (λ j. same_kind j Kind.List) (sym (same_some is))))
list_sort Sort.Str k is int = absurd (true≢false (sym int ∙ ap (λ j. same_kind j Kind.List) (sym (same_some is))))
list_sort Sort.Sym k is int = absurd (true≢false (sym int ∙ ap (λ j. same_kind j Kind.List) (sym (same_some is))))
list_sort Sort.Fresh k is int = absurd (true≢false (sym int ∙ ap (λ j. same_kind j Kind.List) (sym (same_some is))))
list_sort Sort.Int k is int = absurd (true≢false (sym int ∙ ap (λ j. same_kind j Kind.List) (sym (same_some is))))
list_sort Sort.Any k is int = not_none is

-- plus or minus
abbrev pub IsShift : BinOp → Type 0
IsShift op = is_shift op ≡ true

shift_plain : (d : ℕ) (op : BinOp) (x : Var) (z : ℤ) → IsShift op → x.sort ≡ Sort.Int → IsWithin d z → IsPlain d (binary_of op (variable x) (literal (Literal.Int z)))
shift_plain d op x z is sort within = (
  plain_from (is_shift op && (same_sort x.sort Sort.Int && true)) (same_sort x.sort Sort.Any || false) (same_sort x.sort Sort.List || false)
      (and_from (is_shift op) (same_sort x.sort Sort.Int && true) is (ap (λ s. same_sort s Sort.Int && true) sort))
      (ap (λ s. same_sort s Sort.Any || false) sort)
      (ap (λ s. same_sort s Sort.List || false) sort),
  within,
)

held_term : (d : ℕ) (P : PureTerm → Type 0) (u : PureTerm) (f : ℤ → PureTerm) (z : ℤ) (h : Bool) → is_held z ≡ h → h ≡ true → P (f z) → P (term_or u (if h then Some (f z) else None))
held_term d P u f z true held is holds = holds
held_term d P u f z false held is holds = absurd (true≢false (sym is))

-- one shift for two
shifted_once : (d : ℕ) (u : PureTerm) (op : BinOp) (x : Var) (z : ℤ) → d < 2 ^ 127 → IsShift op → x.sort ≡ Sort.Int → IsWithin d z → IsPlain d (term_or u (shift (variable x) op z))
shifted_once d u op x z small is sort within =
    held_term d (IsPlain d) u (λ n. binary_of op (variable x) (literal (Literal.Int n))) z (is_held z) refl (within_held d z small within) (shift_plain d op x z is sort within)

computed : (d : ℕ) (u : PureTerm) (z : ℤ) (h : Bool) → is_held z ≡ h → h ≡ true → IsWithin d z → IsPlain d (literal_or u (if h then Some (Literal.Int z) else None))
computed d u z true held is within = (refl, within)
computed d u z false held is within = absurd (true≢false (sym is))

pub shift_cases : (op : BinOp) → is_shift op ≡ true → (op ≡ BinOp.Add) ⊎ (op ≡ BinOp.Subtract)
shift_cases BinOp.Add is = inl refl
shift_cases BinOp.Subtract is = inr refl
shift_cases BinOp.Multiply is = absurd (true≢false (sym is))
shift_cases BinOp.Divide is = absurd (true≢false (sym is))
shift_cases BinOp.Remainder is = absurd (true≢false (sym is))
shift_cases BinOp.Equal is = absurd (true≢false (sym is))
shift_cases BinOp.Less is = absurd (true≢false (sym is))
shift_cases BinOp.LessOrEqual is = absurd (true≢false (sym is))
shift_cases BinOp.And is = absurd (true≢false (sym is))
shift_cases BinOp.Or is = absurd (true≢false (sym is))
shift_cases BinOp.Append is = absurd (true≢false (sym is))
shift_cases BinOp.Nth is = absurd (true≢false (sym is))

variable_form : (t : PureTerm) → is_variable_of Sort.Int t ≡ true → (x : Var) × ((t ≡ variable x) × (x.sort ≡ Sort.Int))
variable_form (variable x) is = (x, (refl, same_sorts x.sort Sort.Int is))
variable_form (literal l) is = absurd (true≢false (sym is))
variable_form (list_of ts) is = absurd (true≢false (sym is))
variable_form (unary_of op t) is = absurd (true≢false (sym is))
variable_form (binary_of op s t) is = absurd (true≢false (sym is))

literal_form : (t : PureTerm) → is_integer_literal t ≡ true → (m : ℤ) × (t ≡ literal (Literal.Int m))
literal_form (literal (Literal.Int m)) is = (m, refl)
literal_form (literal (Literal.Bool x)) is = absurd (true≢false (sym is))
literal_form (literal (Literal.Str s)) is = absurd (true≢false (sym is))
literal_form (literal (Literal.Kind k)) is = absurd (true≢false (sym is))
literal_form (literal (Literal.Proc s)) is = absurd (true≢false (sym is))
literal_form (variable x) is = absurd (true≢false (sym is))
literal_form (list_of ts) is = absurd (true≢false (sym is))
literal_form (unary_of op t) is = absurd (true≢false (sym is))
literal_form (binary_of op s t) is = absurd (true≢false (sym is))

-- a simple sum or difference is of a variable and a literal
pub simple_shift : (inner : BinOp) (s u : PureTerm) → is_simple (binary_of inner s u) ≡ true → (x : Var) × ((m : ℤ) × ((s ≡ variable x) × (x.sort ≡ Sort.Int) × (u ≡ literal (Literal.Int m)) × (is_shift inner ≡ true)))
simple_shift inner s u simple =
    let (shifts, operands) = and_parts (is_shift inner) (is_variable_of Sort.Int s && is_integer_literal u) simple in
    let (left, right) = and_parts (is_variable_of Sort.Int s) (is_integer_literal u) operands in
    let (x, (variable_is, sort)) = variable_form s left in
    let (m, literal_is) = literal_form u right in
    (x, (m, (variable_is, sort, literal_is, shifts)))

either_false : (a b : Bool) → (a || b) ≡ false → (a ≡ false) × (b ≡ false)
either_false true b is = absurd (true≢false is)
either_false false b is = (refl, is)

module _ (b : ℕ) (t : PureTerm) (ts : PureTerms) (plain : IsPlain b (list_of (term_and t ts))) where
  list_parts : (is_simple (list_of (term_and t ts)) ≡ true) × (names_sort Sort.Any (list_of (term_and t ts)) ≡ false) × (names_sort Sort.List (list_of (term_and t ts)) ≡ false)
  list_parts = plain_parts (list_of (term_and t ts)) plain.0

  simple_both : (is_simple t ≡ true) × (are_simple ts ≡ true)
  simple_both = and_parts (is_simple t) (are_simple ts) list_parts.0

  any_both : (names_sort Sort.Any t ≡ false) × (name_sort Sort.Any ts ≡ false)
  any_both = either_false (names_sort Sort.Any t) (name_sort Sort.Any ts) list_parts.1

  list_both : (names_sort Sort.List t ≡ false) × (name_sort Sort.List ts ≡ false)
  list_both = either_false (names_sort Sort.List t) (name_sort Sort.List ts) list_parts.2

  literals_both : (has_literals_between (neg_ℤ (pos b)) (pos b) t ≡ true) × (have_literals_between (neg_ℤ (pos b)) (pos b) ts ≡ true)
  literals_both = and_parts (has_literals_between (neg_ℤ (pos b)) (pos b) t) (have_literals_between (neg_ℤ (pos b)) (pos b) ts) plain.1

  plain_first : IsPlain b t
  plain_first = (plain_from (is_simple t) (names_sort Sort.Any t) (names_sort Sort.List t) simple_both.0 any_both.0 list_both.0, literals_both.0)

  plain_rest : IsPlain b (list_of ts)
  plain_rest = (plain_from (are_simple ts) (name_sort Sort.Any ts) (name_sort Sort.List ts) simple_both.1 any_both.1 list_both.1, literals_both.1)

-- a list of plain terms is plain
pub plain_list : (b : ℕ) (t : PureTerm) (ts : PureTerms) → IsPlain b t → IsPlain b (list_of ts) → IsPlain b (list_of (term_and t ts))
plain_list b t ts first rest =
    let (simple, any, list) = plain_parts t first.0 in
    let (simple', any', list') = plain_parts (list_of ts) rest.0 in (
      plain_from (is_simple t && are_simple ts) (names_sort Sort.Any t || name_sort Sort.Any ts) (names_sort Sort.List t || name_sort Sort.List ts)
          (and_from (is_simple t) (are_simple ts) simple simple') (λ i. any i || any' i) (λ i. list i || list' i),
      and_from (has_literals_between (neg_ℤ (pos b)) (pos b) t) (have_literals_between (neg_ℤ (pos b)) (pos b) ts) first.1 rest.1,
    )

module _ (b : ℕ) (small : b + text_bound < 2 ^ 127) (n : ℤ) (number : IsWithin text_bound n) where
  abbrev pub wide : ℕ
  wide = b + text_bound

  computed_sum : (u : PureTerm) (m : ℤ) → IsWithin b m → IsPlain wide (literal_or u (if is_held (m +ℤ n) then Some (Literal.Int (m +ℤ n)) else None))
  computed_sum u m is = let within = sum_within b text_bound m n is number in computed wide u (m +ℤ n) (is_held (m +ℤ n)) refl (within_held wide (m +ℤ n) small within) within

  computed_difference : (u : PureTerm) (m : ℤ) → IsWithin b m → IsPlain wide (literal_or u (if is_held (m -ℤ n) then Some (Literal.Int (m -ℤ n)) else None))
  computed_difference u m is = let within = difference_within b text_bound m n is number in computed wide u (m -ℤ n) (is_held (m -ℤ n)) refl (within_held wide (m -ℤ n) small within) within

  abbrev shifted : BinOp → PureTerm → PureTerm
  shifted op t = folded_with_literal op t (Literal.Int n)

  literal_added : (k : Literal) → same_kind (kind_of_literal k) Kind.Int ≡ true → is_literal_between (neg_ℤ (pos b)) (pos b) k ≡ true → IsPlain wide (shifted BinOp.Add (literal k))
  literal_added (Literal.Int m) int within = computed_sum (binary_of BinOp.Add (literal (Literal.Int m)) (literal (Literal.Int n))) m within
  literal_added (Literal.Bool x) int within = absurd (true≢false (sym int))
  literal_added (Literal.Str s) int within = absurd (true≢false (sym int))
  literal_added (Literal.Kind k) int within = absurd (true≢false (sym int))
  literal_added (Literal.Proc s) int within = absurd (true≢false (sym int))

  literal_subtracted : (k : Literal) → same_kind (kind_of_literal k) Kind.Int ≡ true → is_literal_between (neg_ℤ (pos b)) (pos b) k ≡ true → IsPlain wide (shifted BinOp.Subtract (literal k))
  literal_subtracted (Literal.Int m) int within = computed_difference (binary_of BinOp.Subtract (literal (Literal.Int m)) (literal (Literal.Int n))) m within
  literal_subtracted (Literal.Bool x) int within = absurd (true≢false (sym int))
  literal_subtracted (Literal.Str s) int within = absurd (true≢false (sym int))
  literal_subtracted (Literal.Kind k) int within = absurd (true≢false (sym int))
  literal_subtracted (Literal.Proc s) int within = absurd (true≢false (sym int))

  literal_of_shift : (op : BinOp) (k : Literal) → IsShift op → same_kind (kind_of_literal k) Kind.Int ≡ true → is_literal_between (neg_ℤ (pos b)) (pos b) k ≡ true → IsPlain wide (shifted op (literal k))
  literal_of_shift op k is int within =
      ⊎_elim (λ e. subst (λ o. IsPlain wide (shifted o (literal k))) (sym e) (literal_added k int within))
      (λ e. subst (λ o. IsPlain wide (shifted o (literal k))) (sym e) (literal_subtracted k int within)) (shift_cases op is)

  abbrev joined : BinOp → BinOp → Var → ℤ → PureTerm
  joined inner op x m = shifted op (binary_of inner (variable x) (literal (Literal.Int m)))

  module _ (x : Var) (m : ℤ) (sort : x.sort ≡ Sort.Int) (within : IsWithin b m) where
    add_add : IsPlain wide (joined BinOp.Add BinOp.Add x m)
    add_add = shifted_once wide (binary_of BinOp.Add (binary_of BinOp.Add (variable x) (literal (Literal.Int m))) (literal (Literal.Int n))) BinOp.Add x (m +ℤ n) small refl sort (sum_within b text_bound m n within number)

    add_subtract : IsPlain wide (joined BinOp.Add BinOp.Subtract x m)
    add_subtract = shifted_once wide (binary_of BinOp.Subtract (binary_of BinOp.Add (variable x) (literal (Literal.Int m))) (literal (Literal.Int n))) BinOp.Add x (m -ℤ n) small refl sort (difference_within b text_bound m n within number)

    subtract_add : IsPlain wide (joined BinOp.Subtract BinOp.Add x m)
    subtract_add = shifted_once wide (binary_of BinOp.Add (binary_of BinOp.Subtract (variable x) (literal (Literal.Int m))) (literal (Literal.Int n))) BinOp.Add x (n -ℤ m) small refl sort (turned_within b text_bound m n within number)

    subtract_subtract : IsPlain wide (joined BinOp.Subtract BinOp.Subtract x m)
    subtract_subtract = shifted_once wide (binary_of BinOp.Subtract (binary_of BinOp.Subtract (variable x) (literal (Literal.Int m))) (literal (Literal.Int n))) BinOp.Subtract x (m +ℤ n) small refl sort (sum_within b text_bound m n within number)

    after_add : (op : BinOp) → (op ≡ BinOp.Add) ⊎ (op ≡ BinOp.Subtract) → IsPlain wide (joined BinOp.Add op x m)
    after_add op (inl e) = subst (λ o. IsPlain wide (joined BinOp.Add o x m)) (sym e) add_add
    after_add op (inr e) = subst (λ o. IsPlain wide (joined BinOp.Add o x m)) (sym e) add_subtract

    after_subtract : (op : BinOp) → (op ≡ BinOp.Add) ⊎ (op ≡ BinOp.Subtract) → IsPlain wide (joined BinOp.Subtract op x m)
    after_subtract op (inl e) = subst (λ o. IsPlain wide (joined BinOp.Subtract o x m)) (sym e) subtract_add
    after_subtract op (inr e) = subst (λ o. IsPlain wide (joined BinOp.Subtract o x m)) (sym e) subtract_subtract

    joined_plain : (inner op : BinOp) → (inner ≡ BinOp.Add) ⊎ (inner ≡ BinOp.Subtract) → (op ≡ BinOp.Add) ⊎ (op ≡ BinOp.Subtract) → IsPlain wide (joined inner op x m)
    joined_plain inner op (inl e) is = subst (λ o. IsPlain wide (joined o op x m)) (sym e) (after_add op is)
    joined_plain inner op (inr e) is = subst (λ o. IsPlain wide (joined o op x m)) (sym e) (after_subtract op is)

  of_kind : (t : PureTerm) (k j : Kind) → known_kind t ≡ Some k → known_kind t ≡ Some j → same_kind k Kind.Int ≡ true → same_kind j Kind.Int ≡ true
  of_kind t k j first second int = ap (λ l. same_kind l Kind.Int) (sym (same_some (sym first ∙ second))) ∙ int

  -- a plain number that is shifted by a literal is a plain number
  pub plain_shifted : (op : BinOp) (t : PureTerm) (k : Kind) → IsShift op → IsPlain b t → known_kind t ≡ Some k → same_kind k Kind.Int ≡ true → IsPlain wide (folded_binary op t (literal (Literal.Int n)))
  plain_shifted op (literal l) k is plain known int = literal_of_shift op l is (of_kind (literal l) k (kind_of_literal l) known refl int) plain.1
  plain_shifted op (variable x) k is plain known int = shift_plain wide op x n is (int_sort x.sort k known int) (wider_number text_bound wide n (omega arith) number)
  plain_shifted op (list_of ts) k is plain known int = absurd (true≢false (sym (of_kind (list_of ts) k Kind.List known refl int)))
  plain_shifted op (unary_of o t) k is plain known int = absurd (true≢false (sym (plain_parts (unary_of o t) plain.0).0))
  plain_shifted op (binary_of inner s u) k is plain known int =
      let (x, (m, (variable_is, sort, literal_is, shifts))) = simple_shift inner s u (plain_parts (binary_of inner s u) plain.0).0 in
      let within : IsWithin b m = subst (λ w. has_literals_between (neg_ℤ (pos b)) (pos b) w ≡ true) literal_is (and_parts (has_literals_between (neg_ℤ (pos b)) (pos b) s) (has_literals_between (neg_ℤ (pos b)) (pos b) u) plain.1).1 in
      subst (λ w. IsPlain wide (shifted op (binary_of inner w u))) (sym variable_is) (subst (λ w. IsPlain wide (shifted op (binary_of inner (variable x) w))) (sym literal_is)
      (joined_plain x m sort within inner op (shift_cases inner shifts) (shift_cases op is)))

-- ---- lists

no_list : {X : Type 0} (t : PureTerm) (k j : Kind) → known_kind t ≡ Some k → known_kind t ≡ Some j → same_kind k Kind.List ≡ true → same_kind j Kind.List ≡ false → X
no_list t k j first second is other = absurd (true≢false (sym is ∙ ap (λ l. same_kind l Kind.List) (same_some (sym first ∙ second)) ∙ other))

literal_no_list : (l : Literal) → same_kind (kind_of_literal l) Kind.List ≡ false
literal_no_list (Literal.Int n) = refl
literal_no_list (Literal.Bool b) = refl
literal_no_list (Literal.Str s) = refl
literal_no_list (Literal.Kind k) = refl
literal_no_list (Literal.Proc p) = refl

shift_no_list : (op : BinOp) (s u : PureTerm) → (op ≡ BinOp.Add) ⊎ (op ≡ BinOp.Subtract) → known_kind (binary_of op s u) ≡ Some Kind.Int
shift_no_list op s u (inl e) = ap (λ o. known_kind (binary_of o s u)) e
shift_no_list op s u (inr e) = ap (λ o. known_kind (binary_of o s u)) e

-- a plain term that is a list is a list term
pub list_form : (t : PureTerm) (k : Kind) → is_plain t ≡ true → known_kind t ≡ Some k → same_kind k Kind.List ≡ true → (ts : PureTerms) × (t ≡ list_of ts)
list_form (list_of ts) k plain known is = (ts, refl)
list_form (literal l) k plain known is = no_list (literal l) k (kind_of_literal l) known refl is (literal_no_list l)
list_form (variable x) k plain known is =
    absurd (true≢false (ap (λ s. same_sort s Sort.List) (sym (list_sort x.sort k known is)) ∙ (plain_parts (variable x) plain).2))
list_form (unary_of op t) k plain known is = absurd (true≢false (sym (plain_parts (unary_of op t) plain).0))
list_form (binary_of op s u) k plain known is =
    let (x, (m, (variable_is, sort, literal_is, shifts))) = simple_shift op s u (plain_parts (binary_of op s u) plain).0 in
    no_list (binary_of op s u) k Kind.Int known (shift_no_list op s u (shift_cases op shifts)) is refl

-- ---- elements

-- each element of a plain list is plain
pub plain_element : (b : ℕ) (ts : PureTerms) (i : ℕ) (u : PureTerm) → IsPlain b (list_of ts) → slice_get (to_list ts) i ≡ Some u → IsPlain b u
plain_element b no_terms i u plain at = not_none at
plain_element b (term_and t ts) zero u plain at = subst (IsPlain b) (same_some at) (plain_first b t ts plain)
plain_element b (term_and t ts) (suc i) u plain at = plain_element b ts i u (plain_rest b t ts plain) at
