-- Expressions that were printed are read again.
use Rattle.std.proofs.Common.{◌≡◌, ◌≢◌, ℕ, zero, suc, ◌+◌, ◌<◌, ◌≤◌, Bool, true, false, ◌||◌, eqb, List, [], ◌∷◌, ◌++◌, length, Option, Some, None, refl, sym, ap, ◌∙◌, subst, arith, append_assoc, length-append, add-one, inl, inr}
use Rattle.std.specs.Prelude.{codes, IsTrue}
use Rattle.std.specs.Char.{is_ascii_digit}
use Rattle.std.specs.List.{AllByRecursion, flat_map, join_by}
use Rattle.std.proofs.lemmas.Bool.{true≢false, cases_Bool, eqb-true}
use Rattle.gil_values.specs.declared.kinds.Kind.{Kind}
use Rattle.gil_values.specs.declared.operators.UnOp.{UnOp}
use Rattle.gil_values.specs.declared.operators.UnOp.TheVariants as unary
use Rattle.gil_values.specs.declared.operators.BinOp.{BinOp}
use Rattle.gil_values.specs.declared.operators.BinOp.TheVariants as binary
use Rattle.gil_values.specs.Printed.{printed_value, kind_name, signed_numeral}
use Rattle.gil_values.specs.Pure.{PureValue, integer, boolean, text, symbol, kind, procedure, list}
use Rattle.gil_lexer.specs.Bytes.{begins, is_name_start, is_name_byte}
use Rattle.gil_lexer.specs.Reading.{word_of}
use Rattle.gil_lexer.specs.Spelling.{IsName}
use Rattle.gil_lexer.proofs.ByteLemmas.{name_start_no_mark, name_start_no_digit}
use Rattle.gil_syntax.specs.Pure.{PureExpr, literal, name, logical, list_of, unary_of, binary_of, PureExprs, no_exprs, expr_and, from_list, to_list}
use Rattle.gil_syntax.specs.WellMade.{is_spellable}
use Rattle.syntax_print.specs.Expressions.{printed_expr, printed_elements, unary_name, before_operands, between_operands}
use Rattle.value_text.specs.Laws.{EndsWord}
use Rattle.value_text.specs.Reading.{Reading, behind, is_number_start, bracketed_at}
use Rattle.value_text.specs.Writable.{IsWritableValue}
use Rattle.value_text.proofs.NumberLaws.{integer_first_not, integer_starts}
use Rattle.value_text.proofs.TextLaws.{name_again}
use Rattle.value_text.proofs.ValueLaws.{values_again, open_bracket}
use Rattle.value_text.proofs.WordLaws.{behind_again}
use Rattle.list_text.proofs.ListLaws.{IsReadAgain, bracketed_again, element_ends}
use Rattle.expression_text.specs.declared.leads.Lead.{Lead}
use Rattle.expression_text.specs.declared.leads.Lead.TheVariants as leads
use Rattle.expression_text.specs.Laws.{ExpressionsAgain}
use Rattle.expression_text.specs.Reading.{lead_of, operator_at, leaf_at, marked_name_at, logical_at, literal_at, unary_at, nth_at, between_at, list_at, led_at, named_at, opened_at, expression_at}
use Rattle.expression_text.specs.Writable.{IsVariable, IsWritableExpr, AreWritableExprs}
use Rattle.expression_text.proofs.LeadLaws.{Leads, variable_leads, unary_leads, nth_leads, true_leads, false_leads, kind_leads}

-- ---- first bytes

-- a byte that begins a name is no other
name_start_apart : (b c : ℕ) → is_name_start b ≡ true → is_name_start c ≡ false → eqb b c ≡ false
name_start_apart b c e apart =
    elim (cases_Bool (eqb b c)) [
      | inl same ↦ absurd (true≢false (sym e ∙ ap is_name_start (eqb-true b c same) ∙ apart))
      | inr other ↦ other
    ]

pub name_first_not : (c : ℕ) (x rest : List ℕ) → IsName x → is_name_start c ≡ false → begins (λ b. eqb b c) (x ++ rest) ≡ false
name_first_not c [] rest is apart = absurd (cc is.0)
name_first_not c (b ∷ bs) rest is apart = name_start_apart b c is.0 apart

name_first : (x rest : List ℕ) → IsName x → begins is_name_start (x ++ rest) ≡ true
name_first [] rest is = absurd (cc is.0)
name_first (b ∷ bs) rest is = is.0

number_no_name : (b : ℕ) → is_number_start b ≡ true → is_name_start b ≡ false
number_no_name b e =
    elim (cases_Bool (is_name_start b)) [
      | inl named ↦
          let m = name_start_no_mark b named in
          let impossible : false ≡ true = rw (m.minus, name_start_no_digit b named) at e in
          absurd (true≢false (sym impossible))
      | inr other ↦ other
    ]

number_first : (bytes : List ℕ) → begins is_number_start bytes ≡ true → begins is_name_start bytes ≡ false
number_first [] e = refl
number_first (b ∷ bytes) e = number_no_name b e

-- the bytes begin as a leaf does that is no name
record BeginsLeaf (bytes : List ℕ) : Type 0 where
  pub no_list : begins (λ b. eqb b 91) bytes ≡ false
  pub no_operands : begins (λ b. eqb b 40) bytes ≡ false
  pub no_name : begins is_name_start bytes ≡ false

leaf_opens : (read : List ℕ → Reading PureExpr) (bytes : List ℕ) → BeginsLeaf bytes → opened_at read bytes ≡ leaf_at bytes
leaf_opens read bytes is = rw (is.no_list, is.no_operands, is.no_name) refl

-- ---- leaves

pub marked_again : (x rest : List ℕ) → IsName x → EndsWord rest → marked_name_at (35 ∷ (x ++ rest)) ≡ Some (35 ∷ x, rest)
unfolding marked_name_at
marked_again x rest is ends = rw (behind_again (35 ∷ []) (x ++ rest), name_again x rest is ends) refl

logical_again : (x rest : List ℕ) → IsName x → EndsWord rest → logical_at (35 ∷ (x ++ rest)) ≡ Some (logical (35 ∷ x), rest)
logical_again x rest is ends = rw (marked_again x rest is ends) refl

literal_again : (v : PureValue) (rest : List ℕ) → IsWritableValue v → is_spellable v ≡ true → EndsWord rest → literal_at (printed_value v ++ rest) ≡ Some (literal v, rest)
unfolding literal_at
literal_again v rest is spellable ends = rw (values_again v rest is ends, spellable) refl

-- ---- expressions that begin with a name

named_again : (read : List ℕ → Reading PureExpr) (x rest : List ℕ) → IsName x → EndsWord rest → named_at read (x ++ rest) ≡ led_at read (lead_of (word_of x)) x rest
unfolding named_at
named_again read x rest is ends = rw (name_again x rest is ends) refl

name_opens : (read : List ℕ → Reading PureExpr) (x rest : List ℕ) → IsName x → opened_at read (x ++ rest) ≡ named_at read (x ++ rest)
name_opens read x rest is = rw (name_first_not 91 x rest is refl, name_first_not 40 x rest is refl, name_first x rest is) refl

named_opens : (read : List ℕ → Reading PureExpr) (x rest : List ℕ) → IsName x → EndsWord rest → opened_at read (x ++ rest) ≡ led_at read (lead_of (word_of x)) x rest
named_opens read x rest is ends = name_opens read x rest is ∙ named_again read x rest is ends

led : (read : List ℕ → Reading PureExpr) (lead : Lead) (x rest : List ℕ) → Leads x lead → EndsWord rest → opened_at read (x ++ rest) ≡ led_at read lead x rest
led read lead x rest is ends = named_opens read x rest is.is_name ends ∙ ap (λ l. led_at read l x rest) is.leads

-- ---- literals

leaf_literal : (read : List ℕ → Reading PureExpr) (v : PureValue) (rest : List ℕ) → IsWritableExpr (literal v) → EndsWord rest
    → BeginsLeaf (printed_value v ++ rest) → begins (λ b. eqb b 35) (printed_value v ++ rest) ≡ false → opened_at read (printed_value v ++ rest) ≡ Some (literal v, rest)
leaf_literal read v rest is ends start no_hash = leaf_opens read (printed_value v ++ rest) start ∙ rw no_hash (literal_again v rest is.0 is.1 ends)

any_literal : (read : List ℕ → Reading PureExpr) (v : PureValue) (rest : List ℕ) → IsWritableExpr (literal v) → EndsWord rest
    → opened_at read (printed_value v ++ rest) ≡ Some (literal v, rest)
any_literal read (integer z) rest is ends =
    leaf_literal read (integer z) rest is ends (record {
      no_list = integer_first_not 91 z rest refl refl;
      no_operands = integer_first_not 40 z rest refl refl;
      no_name = number_first (signed_numeral z ++ rest) (integer_starts z rest);
    }) (integer_first_not 35 z rest refl refl)
any_literal read (boolean true) rest is ends = led read _ (codes "true") rest true_leads ends
any_literal read (boolean false) rest is ends = led read _ (codes "false") rest false_leads ends
any_literal read (text cs) rest is ends = leaf_literal read (text cs) rest is ends (record { no_list = refl; no_operands = refl; no_name = refl }) refl
any_literal read (symbol n) rest is ends = absurd (true≢false (sym is.1))
any_literal read (kind k) rest is ends = led read (leads.Kind k) (kind_name k) rest (kind_leads k) ends
any_literal read (procedure x) rest is ends =
    leaf_literal read (procedure x) rest is ends (record { no_list = refl; no_operands = refl; no_name = refl }) refl
any_literal read (list vs) rest is ends = absurd (true≢false (sym is.1))

-- ---- operators

operator_again : (op : BinOp) (rest : List ℕ) → op ≢ binary.Nth → operator_at (between_operands op ++ rest) ≡ Some (op, rest)
unfolding behind
operator_again binary.Add rest other = refl
operator_again binary.Subtract rest other = refl
operator_again binary.Multiply rest other = refl
operator_again binary.Divide rest other = refl
operator_again binary.Remainder rest other = refl
operator_again binary.Equal rest other = refl
operator_again binary.Less rest other = refl
operator_again binary.LessOrEqual rest other = refl
operator_again binary.And rest other = refl
operator_again binary.Or rest other = refl
operator_again binary.Append rest other = refl
operator_again binary.Nth rest other = absurd (other refl)

operator_ends : (op : BinOp) (rest : List ℕ) → EndsWord (between_operands op ++ rest)
operator_ends binary.Add rest = refl
operator_ends binary.Subtract rest = refl
operator_ends binary.Multiply rest = refl
operator_ends binary.Divide rest = refl
operator_ends binary.Remainder rest = refl
operator_ends binary.Equal rest = refl
operator_ends binary.Less rest = refl
operator_ends binary.LessOrEqual rest = refl
operator_ends binary.And rest = refl
operator_ends binary.Or rest = refl
operator_ends binary.Append rest = refl
operator_ends binary.Nth rest = refl

two : (a b c rest : List ℕ) → ((a ++ b) ++ c) ++ rest ≡ a ++ (b ++ (c ++ rest))
two a b c rest = simp append_assoc

four : (a b c d rest : List ℕ) → (((a ++ b) ++ c) ++ d) ++ rest ≡ a ++ (b ++ (c ++ (d ++ rest)))
four a b c d rest = simp append_assoc

-- what an expression is read as, whatever follows
abbrev Reads : (List ℕ → Reading PureExpr) → PureExpr → Type 0
Reads read e = (rest : List ℕ) → EndsWord rest → read (printed_expr e ++ rest) ≡ Some (e, rest)

unary_parts : (read : List ℕ → Reading PureExpr) (op : UnOp) (e : PureExpr) (rest : List ℕ) → Reads read e
    → unary_at read op (40 ∷ (printed_expr e ++ (41 ∷ rest))) ≡ Some (unary_of op e, rest)
unfolding unary_at
unary_parts read op e rest again = rw (behind_again (40 ∷ []) (printed_expr e ++ (41 ∷ rest)), again (41 ∷ rest) refl, behind_again (41 ∷ []) rest) refl

unary_again : (read : List ℕ → Reading PureExpr) (op : UnOp) (e : PureExpr) (rest : List ℕ) → Reads read e
    → opened_at read (unary_name op ++ (40 ∷ (printed_expr e ++ (41 ∷ rest)))) ≡ Some (unary_of op e, rest)
unary_again read op e rest again =
    led read (leads.Unary op) (unary_name op) (40 ∷ (printed_expr e ++ (41 ∷ rest))) (unary_leads op) refl ∙ unary_parts read op e rest again

grouped_unary : (op : UnOp) (e : PureExpr) (rest : List ℕ) → printed_expr (unary_of op e) ++ rest ≡ unary_name op ++ (40 ∷ (printed_expr e ++ (41 ∷ rest)))
grouped_unary op e rest =
    append_assoc ((unary_name op ++ 40 ∷ []) ++ printed_expr e) (41 ∷ []) rest ∙ append_assoc (unary_name op ++ 40 ∷ []) (printed_expr e) (41 ∷ rest)
    ∙ append_assoc (unary_name op) (40 ∷ []) (printed_expr e ++ (41 ∷ rest))

nth_parts : (read : List ℕ → Reading PureExpr) (d e : PureExpr) (rest : List ℕ) → Reads read d → Reads read e
    → nth_at read (40 ∷ (printed_expr d ++ (codes ", " ++ (printed_expr e ++ (41 ∷ rest))))) ≡ Some (binary_of binary.Nth d e, rest)
unfolding nth_at
nth_parts read d e rest first second =
    let b = printed_expr e ++ (41 ∷ rest) in
    let a = printed_expr d ++ (codes ", " ++ b) in
    rw (behind_again (40 ∷ []) a, first (codes ", " ++ b) refl, behind_again (codes ", ") b, second (41 ∷ rest) refl, behind_again (41 ∷ []) rest) refl

nth_again : (read : List ℕ → Reading PureExpr) (d e : PureExpr) (rest : List ℕ) → Reads read d → Reads read e
    → opened_at read (codes "nth" ++ (40 ∷ (printed_expr d ++ (codes ", " ++ (printed_expr e ++ (41 ∷ rest)))))) ≡ Some (binary_of binary.Nth d e, rest)
nth_again read d e rest first second =
    led read leads.Nth (codes "nth") (40 ∷ (printed_expr d ++ (codes ", " ++ (printed_expr e ++ (41 ∷ rest))))) nth_leads refl ∙ nth_parts read d e rest first second

between_parts : (read : List ℕ → Reading PureExpr) (op : BinOp) (d e : PureExpr) (rest : List ℕ) → op ≢ binary.Nth → Reads read d → Reads read e
    → between_at read (40 ∷ (printed_expr d ++ (between_operands op ++ (printed_expr e ++ (41 ∷ rest))))) ≡ Some (binary_of op d e, rest)
unfolding between_at
between_parts read op d e rest other first second =
    let b = printed_expr e ++ (41 ∷ rest) in
    let a = printed_expr d ++ (between_operands op ++ b) in
    rw (
      behind_again (40 ∷ []) a,
      first (between_operands op ++ b) (operator_ends op b),
      operator_again op b other,
      second (41 ∷ rest) refl,
      behind_again (41 ∷ []) rest,
    ) refl

between_again : (read : List ℕ → Reading PureExpr) (op : BinOp) (d e : PureExpr) (rest : List ℕ) → op ≢ binary.Nth → Reads read d → Reads read e
    → opened_at read (40 ∷ ((((printed_expr d ++ between_operands op) ++ printed_expr e) ++ 41 ∷ []) ++ rest)) ≡ Some (binary_of op d e, rest)
between_again read op d e rest other first second =
    ap (λ bytes. between_at read (40 ∷ bytes)) (four (printed_expr d) (between_operands op) (printed_expr e) (41 ∷ []) rest)
    ∙ between_parts read op d e rest other first second

binary_again : (read : List ℕ → Reading PureExpr) (op : BinOp) (d e : PureExpr) (rest : List ℕ) → Reads read d → Reads read e
    → opened_at read (printed_expr (binary_of op d e) ++ rest) ≡ Some (binary_of op d e, rest)
binary_again read binary.Add d e rest first second = between_again read binary.Add d e rest (λ p. cc) first second
binary_again read binary.Subtract d e rest first second = between_again read binary.Subtract d e rest (λ p. cc) first second
binary_again read binary.Multiply d e rest first second = between_again read binary.Multiply d e rest (λ p. cc) first second
binary_again read binary.Divide d e rest first second = between_again read binary.Divide d e rest (λ p. cc) first second
binary_again read binary.Remainder d e rest first second = between_again read binary.Remainder d e rest (λ p. cc) first second
binary_again read binary.Equal d e rest first second = between_again read binary.Equal d e rest (λ p. cc) first second
binary_again read binary.Less d e rest first second = between_again read binary.Less d e rest (λ p. cc) first second
binary_again read binary.LessOrEqual d e rest first second = between_again read binary.LessOrEqual d e rest (λ p. cc) first second
binary_again read binary.And d e rest first second = between_again read binary.And d e rest (λ p. cc) first second
binary_again read binary.Or d e rest first second = between_again read binary.Or d e rest (λ p. cc) first second
binary_again read binary.Append d e rest first second = between_again read binary.Append d e rest (λ p. cc) first second
binary_again read binary.Nth d e rest first second =
    ap (λ bytes. opened_at read (codes "nth(" ++ bytes)) (four (printed_expr d) (codes ", ") (printed_expr e) (41 ∷ []) rest)
    ∙ nth_again read d e rest first second

-- ---- no expression begins with the bracket that closes a list

pub open_expression : (e : PureExpr) (rest : List ℕ) → IsWritableExpr e → begins (λ b. eqb b 93) (printed_expr e ++ rest) ≡ false
open_expression (literal v) rest is = open_bracket v rest
open_expression (name x) rest is = name_first_not 93 x rest is.0 refl
open_expression (logical x) rest (inner, named, is) = rw is refl
open_expression (list_of es) rest is = refl
open_expression (unary_of unary.Not e) rest is = refl
open_expression (unary_of unary.Neg e) rest is = refl
open_expression (unary_of unary.Len e) rest is = refl
open_expression (unary_of unary.Kind e) rest is = refl
open_expression (binary_of binary.Add d e) rest is = refl
open_expression (binary_of binary.Subtract d e) rest is = refl
open_expression (binary_of binary.Multiply d e) rest is = refl
open_expression (binary_of binary.Divide d e) rest is = refl
open_expression (binary_of binary.Remainder d e) rest is = refl
open_expression (binary_of binary.Equal d e) rest is = refl
open_expression (binary_of binary.Less d e) rest is = refl
open_expression (binary_of binary.LessOrEqual d e) rest is = refl
open_expression (binary_of binary.And d e) rest is = refl
open_expression (binary_of binary.Or d e) rest is = refl
open_expression (binary_of binary.Append d e) rest is = refl
open_expression (binary_of binary.Nth d e) rest is = refl

-- ---- lists

pub from_list-to_list : (es : PureExprs) → from_list (to_list es) ≡ es
from_list-to_list no_exprs = refl
from_list-to_list (expr_and e es) = ap (expr_and e) (from_list-to_list es)

more_printed : (es : PureExprs) → flat_map (λ text. codes ", " ++ text) (printed_elements es) ≡ flat_map (λ e. codes ", " ++ printed_expr e) (to_list es)
more_printed no_exprs = refl
more_printed (expr_and e es) = ap (λ rest. (codes ", " ++ printed_expr e) ++ rest) (more_printed es)

joined_printed : (es : PureExprs) → join_by (λ printed. printed) (codes ", ") (printed_elements es) ≡ join_by printed_expr (codes ", ") (to_list es)
joined_printed no_exprs = refl
joined_printed (expr_and e es) = ap (λ rest. printed_expr e ++ rest) (more_printed es)

list_parts : (read : List ℕ → Reading PureExpr) (es : PureExprs) (rest : List ℕ)
    → bracketed_at read ((codes "[" ++ join_by printed_expr (codes ", ") (to_list es) ++ codes "]") ++ rest) ≡ Some (to_list es, rest)
    → list_at read ((codes "[" ++ join_by printed_expr (codes ", ") (to_list es) ++ codes "]") ++ rest) ≡ Some (list_of es, rest)
unfolding list_at
list_parts read es rest again = rw (again, from_list-to_list es) refl

elements_list : (read : List ℕ → Reading PureExpr) (es : PureExprs) (rest : List ℕ) → AllByRecursion (IsReadAgain read printed_expr) (to_list es)
    → opened_at read (printed_expr (list_of es) ++ rest) ≡ Some (list_of es, rest)
elements_list read es rest all =
    ap (λ joined. list_at read ((codes "[" ++ joined ++ codes "]") ++ rest)) (joined_printed es)
    ∙ list_parts read es rest (bracketed_again read printed_expr (to_list es) rest all)

-- ---- how deep expressions are nested in one

abbrev mutual
  depth : PureExpr → ℕ
  depth (literal v) = 0
  depth (name x) = 0
  depth (logical x) = 0
  depth (list_of es) = 1 + depths es
  depth (unary_of op e) = 1 + depth e
  depth (binary_of op d e) = 1 + (depth d + depth e)

  depths : PureExprs → ℕ
  depths no_exprs = 0
  depths (expr_and e es) = depth e + depths es

at_depth : (n : ℕ) (e : PureExpr) (rest : List ℕ) → opened_at (expression_at n) (printed_expr e ++ rest) ≡ Some (e, rest)
    → expression_at (suc n) (printed_expr e ++ rest) ≡ Some (e, rest)
unfolding expression_at
at_depth n e rest is = is

logical_opens : (read : List ℕ → Reading PureExpr) (x rest : List ℕ) → IsWritableExpr (logical x) → EndsWord rest → opened_at read (x ++ rest) ≡ Some (logical x, rest)
logical_opens read x rest (inner, named, is) ends = rw is (logical_again inner rest named ends)

mutual
  expression_again : (n : ℕ) (e : PureExpr) (rest : List ℕ) → depth e < n → IsWritableExpr e → EndsWord rest → expression_at n (printed_expr e ++ rest) ≡ Some (e, rest)
  expression_again zero e rest lt is ends = absurd (omega arith)
  expression_again (suc n) (literal v) rest lt is ends = at_depth n (literal v) rest (any_literal (expression_at n) v rest is ends)
  expression_again (suc n) (name x) rest lt is ends =
      at_depth n (name x) rest (named_opens (expression_at n) x rest is.0 ends ∙ ap (λ lead. led_at (expression_at n) lead x rest) (variable_leads x is))
  expression_again (suc n) (logical x) rest lt is ends = at_depth n (logical x) rest (logical_opens (expression_at n) x rest is ends)
  expression_again (suc n) (list_of es) rest lt is ends =
      at_depth n (list_of es) rest (elements_list (expression_at n) es rest (all_again n es (omega arith) is))
  expression_again (suc n) (unary_of op e) rest lt is ends =
      at_depth n (unary_of op e) rest (ap (opened_at (expression_at n)) (grouped_unary op e rest)
      ∙ unary_again (expression_at n) op e rest (λ after stops. expression_again n e after (omega arith) is stops))
  expression_again (suc n) (binary_of op d e) rest lt is ends =
      at_depth n (binary_of op d e) rest (binary_again (expression_at n) op d e rest
      (λ after stops. expression_again n d after (omega arith) is.0 stops) (λ after stops. expression_again n e after (omega arith) is.1 stops))

  all_again : (n : ℕ) (es : PureExprs) → depths es < n → AreWritableExprs es → AllByRecursion (IsReadAgain (expression_at n) printed_expr) (to_list es)
  all_again n no_exprs lt is = tt
  all_again n (expr_and e es) lt is =
      (record { again = λ rest ends. expression_again n e rest (omega arith) is.0 (element_ends rest ends); opens = λ rest. open_expression e rest is.0 }, all_again n es (omega arith) is.1)

-- ---- as deep as the bytes are many

mutual
  depth_length : (e : PureExpr) → depth e ≤ length (printed_expr e)
  depth_length (literal v) = omega arith
  depth_length (name x) = omega arith
  depth_length (logical x) = omega arith
  depth_length (list_of no_exprs) = omega arith
  depth_length (list_of (expr_and e es)) =
      omega (
        arith,
        depth_length e,
        depths_length es,
        length-append (printed_expr e) (flat_map (λ text. codes ", " ++ text) (printed_elements es)),
        length-append (join_by (λ printed. printed) (codes ", ") (printed_elements (expr_and e es))) (codes "]"),
      )
  depth_length (unary_of op e) =
      omega (
        arith,
        depth_length e,
        length-append (unary_name op ++ codes "(") (printed_expr e),
        length-append ((unary_name op ++ codes "(") ++ printed_expr e) (codes ")"),
      )
  depth_length (binary_of op d e) =
      omega (
        arith,
        depth_length d,
        depth_length e,
        length-append (before_operands op) (printed_expr d),
        length-append (before_operands op ++ printed_expr d) (between_operands op),
        length-append ((before_operands op ++ printed_expr d) ++ between_operands op) (printed_expr e),
        length-append (((before_operands op ++ printed_expr d) ++ between_operands op) ++ printed_expr e) (codes ")"),
      )

  depths_length : (es : PureExprs) → depths es ≤ length (flat_map (λ text. codes ", " ++ text) (printed_elements es))
  depths_length no_exprs = omega arith
  depths_length (expr_and e es) =
      omega (
        arith,
        depth_length e,
        depths_length es,
        length-append (codes ", ") (printed_expr e),
        length-append (codes ", " ++ printed_expr e) (flat_map (λ text. codes ", " ++ text) (printed_elements es)),
      )

pub expressions_again : ExpressionsAgain
expressions_again e rest is ends =
    expression_again (length (printed_expr e ++ rest) + 1) e rest (omega (arith, depth_length e, length-append (printed_expr e) rest)) is ends
