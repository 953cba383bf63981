-- Writable values, expressions and assertions are printed in ASCII.
use Rattle.std.proofs.Common.{◌≡◌, ℕ, suc, Bool, true, false, eqb, ℤ, pos, negsuc, List, [], ◌∷◌, ◌++◌, refl, arith, inl, inr}
use Rattle.std.specs.Prelude.{nat_lt, codes}
use Rattle.std.specs.Char.{is_ascii_digit}
use Rattle.std.specs.List.{AllByRecursion, flat_map, join_by, list_all}
use Rattle.std.proofs.lemmas.Bool.{and_from, and_parts, cond_both, lt-ltb}
use Rattle.std.proofs.lemmas.List.Elements.{All-head, All-tail}
use Rattle.gil_values.specs.declared.kinds.Kind.{Kind}
use Rattle.gil_values.specs.declared.operators.UnOp.{UnOp}
use Rattle.gil_values.specs.declared.operators.UnOp.TheVariants as unary
use Rattle.gil_values.specs.declared.operators.BinOp.{BinOp}
use Rattle.gil_values.specs.declared.operators.BinOp.TheVariants as binary
use Rattle.gil_values.specs.Characters.{IsTextCharacter, IsText}
use Rattle.gil_values.specs.Printed.{kind_name, truth_name, literal_character, numeral, signed_numeral, printed_value, printed_values}
use Rattle.gil_values.specs.Pure.{PureValue, integer, boolean, text, symbol, kind, procedure, list, PureValues, no_values, value_and}
use Rattle.gil_lexer.specs.Bytes.{hash}
use Rattle.gil_lexer.specs.Spelling.{IsName, IsMarkedName}
use Rattle.gil_lexer.proofs.ByteLemmas.{digit_range}
use Rattle.gil_lexemes.proofs.Names.{name_is_text, logical_is_text}
use Rattle.gil_syntax.specs.declared.assertions.Param.{Param}
use Rattle.gil_syntax.specs.declared.assertions.SpecSort.{SpecSort}
use Rattle.gil_syntax.specs.declared.assertions.SpecSort.TheVariants as sorts
use Rattle.gil_syntax.specs.Pure.{PureExpr, literal, name, logical, list_of, unary_of, binary_of, PureExprs, no_exprs, expr_and, PurePredUse, PureItem, pure, uses, PureSpec}
use Rattle.syntax_print.specs.Assertions.{printed_sort, printed_param, printed_params, printed_variables, printed_use, printed_item, printed_assertion, printed_block, printed_error, printed_posts, behind_semicolon}
use Rattle.syntax_print.specs.Expressions.{unary_name, before_operands, between_operands, printed_expr, printed_elements, printed_exprs}
use Rattle.value_text.specs.Writable.{IsWritableValue, AreWritableValues}
use Rattle.value_text.proofs.NumberLaws.{numeral_digits}
use Rattle.expression_text.specs.Writable.{IsWritableExpr, AreWritableExprs}
use Rattle.specification_text.specs.Writable.{IsWritableParam, IsWritableLogical, IsWritableUse, IsWritableItem, IsWritableAssertion, IsWritableSpec}
use Rattle.gil_report.specs.Printed.{bracketed, printed_specification}
use Rattle.json_parts.specs.Kept.{is_ascii_text}
use Rattle.json_parts.proofs.Ascii.{both_ascii}

abbrev pub IsAscii : List ℕ → Type 0
IsAscii xs = is_ascii_text xs ≡ true

-- ---- names, numbers and lists

character_ascii : (b : ℕ) → IsTextCharacter b → nat_lt b 128 ≡ true
character_ascii b (inl range) = lt-ltb b 128 (omega (arith, range.1))
character_ascii b (inr is) = lt-ltb b 128 (omega (arith, is))

text_ascii : (cs : List ℕ) → IsText cs → IsAscii cs
text_ascii [] is = refl
text_ascii (c ∷ cs) is = and_from _ _ (character_ascii c (All-head IsTextCharacter c cs is)) (text_ascii cs (All-tail IsTextCharacter c cs is))

pub name_ascii : (x : List ℕ) → IsName x → IsAscii x
name_ascii x is = text_ascii x (name_is_text x is)

pub logical_ascii : (x : List ℕ) → IsMarkedName hash x → IsAscii x
logical_ascii x is = text_ascii x (logical_is_text x is)

digit_ascii : (b : ℕ) → is_ascii_digit b ≡ true → nat_lt b 128 ≡ true
digit_ascii b is = let range = digit_range b is in lt-ltb b 128 (omega (arith, range.1))

digits_ascii : (bs : List ℕ) → list_all is_ascii_digit bs ≡ true → IsAscii bs
digits_ascii [] are = refl
digits_ascii (b ∷ bs) are = let parts = and_parts _ _ are in and_from _ _ (digit_ascii b parts.0) (digits_ascii bs parts.1)

pub numeral_ascii : (n : ℕ) → IsAscii (numeral n)
numeral_ascii n = digits_ascii (numeral n) (numeral_digits n)

pub signed_ascii : (z : ℤ) → IsAscii (signed_numeral z)
signed_ascii (pos n) = numeral_ascii n
signed_ascii (negsuc n) = both_ascii (codes "-") (numeral (suc n)) refl (numeral_ascii (suc n))

-- what stands between two texts
pub within_ascii : (before inner after : List ℕ) → IsAscii before → IsAscii inner → IsAscii after → IsAscii ((before ++ inner) ++ after)
within_ascii before inner after b i a = both_ascii (before ++ inner) after (both_ascii before inner b i) a

module _ {X : Type 0} (printed : X → List ℕ) where
  pub each_ascii : (xs : List X) → AllByRecursion (λ x. IsAscii (printed x)) xs → IsAscii (flat_map printed xs)
  each_ascii [] all = refl
  each_ascii (x ∷ xs) all = both_ascii (printed x) (flat_map printed xs) all.0 (each_ascii xs all.1)

  behind_ascii : (separator : List ℕ) → IsAscii separator → (xs : List X) → AllByRecursion (λ x. IsAscii (printed x)) xs
      → IsAscii (flat_map (λ x. separator ++ printed x) xs)
  behind_ascii separator is [] all = refl
  behind_ascii separator is (x ∷ xs) all =
      both_ascii (separator ++ printed x) (flat_map (λ y. separator ++ printed y) xs) (both_ascii separator (printed x) is all.0) (behind_ascii separator is xs all.1)

  pub joined_ascii : (separator : List ℕ) → IsAscii separator → (xs : List X) → AllByRecursion (λ x. IsAscii (printed x)) xs
      → IsAscii (join_by printed separator xs)
  joined_ascii separator is [] all = refl
  joined_ascii separator is (x ∷ xs) all =
      both_ascii (printed x) (flat_map (λ y. separator ++ printed y) xs) all.0 (behind_ascii separator is xs all.1)

  pub bracketed_ascii : (xs : List X) → AllByRecursion (λ x. IsAscii (printed x)) xs → IsAscii (bracketed printed xs)
  bracketed_ascii xs all = within_ascii (codes "[") (join_by printed (codes ", ") xs) (codes "]") refl (joined_ascii (codes ", ") refl xs all) refl

-- what holds of each element where a premise does
pub each : {X : Type 0} (P Q : X → Type 0) → ((x : X) → P x → Q x) → (xs : List X) → AllByRecursion P xs → AllByRecursion Q xs
each P Q f [] all = tt
each P Q f (x ∷ xs) all = (f x all.0, each P Q f xs all.1)

-- ---- values

kind_ascii : (k : Kind) → IsAscii (kind_name k)
kind_ascii Kind.Int = refl
kind_ascii Kind.Bool = refl
kind_ascii Kind.Str = refl
kind_ascii Kind.Sym = refl
kind_ascii Kind.Kind = refl
kind_ascii Kind.Proc = refl
kind_ascii Kind.List = refl
kind_ascii Kind.Undef = refl
kind_ascii Kind.Null = refl

truth_ascii : (b : Bool) → IsAscii (truth_name b)
truth_ascii true = refl
truth_ascii false = refl

literal_ascii : (c : ℕ) → IsTextCharacter c → IsAscii (literal_character c)
literal_ascii c is =
    cond_both (eqb c 34) _ _ IsAscii (λ e. refl) (λ e. cond_both (eqb c 92) _ _ IsAscii (λ e. refl) (λ e. cond_both (eqb c 10) _ _ IsAscii (λ e. refl)
    (λ e. and_from _ _ (character_ascii c is) refl)))

literals_ascii : (cs : List ℕ) → IsText cs → IsAscii (flat_map literal_character cs)
literals_ascii [] is = refl
literals_ascii (c ∷ cs) is =
    both_ascii (literal_character c) (flat_map literal_character cs) (literal_ascii c (All-head IsTextCharacter c cs is))
    (literals_ascii cs (All-tail IsTextCharacter c cs is))

mutual
  pub value_ascii : (v : PureValue) → IsWritableValue v → IsAscii (printed_value v)
  value_ascii (integer n) is = signed_ascii n
  value_ascii (boolean b) is = truth_ascii b
  value_ascii (text cs) is = within_ascii (codes "\"") (flat_map literal_character cs) (codes "\"") refl (literals_ascii cs is) refl
  value_ascii (symbol n) is = both_ascii (codes "$") (numeral n) refl (numeral_ascii n)
  value_ascii (kind k) is = kind_ascii k
  value_ascii (procedure x) is = both_ascii (codes "@") x refl (name_ascii x is)
  value_ascii (list vs) is = bracketed_ascii (λ printed. printed) (printed_values vs) (values_ascii vs is)

  values_ascii : (vs : PureValues) → AreWritableValues vs → AllByRecursion IsAscii (printed_values vs)
  values_ascii no_values is = tt
  values_ascii (value_and v vs) is = (value_ascii v is.0, values_ascii vs is.1)

-- ---- expressions

unary_ascii : (op : UnOp) → IsAscii (unary_name op)
unary_ascii unary.Not = refl
unary_ascii unary.Neg = refl
unary_ascii unary.Len = refl
unary_ascii unary.Kind = refl

before_ascii : (op : BinOp) → IsAscii (before_operands op)
before_ascii binary.Nth = refl
before_ascii _ = refl

between_ascii : (op : BinOp) → IsAscii (between_operands op)
between_ascii binary.Add = refl
between_ascii binary.Subtract = refl
between_ascii binary.Multiply = refl
between_ascii binary.Divide = refl
between_ascii binary.Remainder = refl
between_ascii binary.Equal = refl
between_ascii binary.Less = refl
between_ascii binary.LessOrEqual = refl
between_ascii binary.And = refl
between_ascii binary.Or = refl
between_ascii binary.Append = refl
between_ascii binary.Nth = refl

mutual
  pub expr_ascii : (e : PureExpr) → IsWritableExpr e → IsAscii (printed_expr e)
  expr_ascii (literal v) is = value_ascii v is.0
  expr_ascii (name x) is = name_ascii x is.0
  expr_ascii (logical x) is = logical_ascii x is
  expr_ascii (list_of es) is = bracketed_ascii (λ printed. printed) (printed_elements es) (exprs_ascii es is)
  expr_ascii (unary_of op e) is =
      within_ascii (unary_name op ++ codes "(") (printed_expr e) (codes ")") (both_ascii (unary_name op) (codes "(") (unary_ascii op) refl) (expr_ascii e is) refl
  expr_ascii (binary_of op d e) is =
      within_ascii ((before_operands op ++ printed_expr d) ++ between_operands op) (printed_expr e) (codes ")")
      (within_ascii (before_operands op) (printed_expr d) (between_operands op) (before_ascii op) (expr_ascii d is.0) (between_ascii op)) (expr_ascii e is.1) refl

  exprs_ascii : (es : PureExprs) → AreWritableExprs es → AllByRecursion IsAscii (printed_elements es)
  exprs_ascii no_exprs is = tt
  exprs_ascii (expr_and e es) is = (expr_ascii e is.0, exprs_ascii es is.1)

-- ---- assertions

sort_ascii : (s : SpecSort) → IsAscii (printed_sort s)
sort_ascii sorts.Int = refl
sort_ascii sorts.Bool = refl
sort_ascii sorts.Str = refl
sort_ascii sorts.Sym = refl
sort_ascii sorts.List = refl
sort_ascii sorts.Any = refl

param_ascii : (q : Param) → IsWritableParam q → IsAscii (printed_param q)
param_ascii q is = both_ascii q.name (printed_sort q.sort) (name_ascii q.name is) (sort_ascii q.sort)

variable_ascii : (q : Param) → IsWritableLogical q → IsAscii (printed_param q)
variable_ascii q is = both_ascii q.name (printed_sort q.sort) (logical_ascii q.name is) (sort_ascii q.sort)

all_exprs : (es : List PureExpr) → AllByRecursion IsWritableExpr es → IsAscii (printed_exprs es)
all_exprs es is = joined_ascii printed_expr (codes ", ") refl es (each IsWritableExpr (λ e. IsAscii (printed_expr e)) expr_ascii es is)

outs_ascii : (es : List PureExpr) → AllByRecursion IsWritableExpr es → IsAscii (behind_semicolon printed_exprs es)
outs_ascii [] is = refl
outs_ascii (e ∷ es) is = both_ascii (codes " ") (printed_exprs (e ∷ es)) refl (all_exprs (e ∷ es) is)

use_ascii : (u : PurePredUse) → IsWritableUse u → IsAscii (printed_use u)
use_ascii u is =
    let opened : IsAscii ((u.pred ++ codes "(") ++ printed_exprs u.ins) =
    within_ascii u.pred (codes "(") (printed_exprs u.ins) (name_ascii u.pred is.named) refl (all_exprs u.ins is.ins) in
    within_ascii (((u.pred ++ codes "(") ++ printed_exprs u.ins) ++ codes ";") (behind_semicolon printed_exprs u.outs) (codes ")")
    (both_ascii ((u.pred ++ codes "(") ++ printed_exprs u.ins) (codes ";") opened refl) (outs_ascii u.outs is.outs) refl

item_ascii : (item : PureItem) → IsWritableItem item → IsAscii (printed_item item)
item_ascii (pure e) is = expr_ascii e is.0
item_ascii (uses u) is = use_ascii u is

assertion_ascii : (items : List PureItem) → IsWritableAssertion items → IsAscii (printed_assertion items)
assertion_ascii [] is = refl
assertion_ascii (item ∷ items) is =
    joined_ascii printed_item (codes " * ") refl (item ∷ items) (each IsWritableItem (λ x. IsAscii (printed_item x)) item_ascii (item ∷ items) is)

block_ascii : (items : List PureItem) → IsWritableAssertion items → IsAscii (printed_block items)
block_ascii items is = within_ascii (codes "{ ") (printed_assertion items) (codes " }") refl (assertion_ascii items is) refl

post_ascii : (items : List PureItem) → IsWritableAssertion items → IsAscii (codes " " ++ printed_block items)
post_ascii items is = both_ascii (codes " ") (printed_block items) refl (block_ascii items is)

error_ascii : (items : List PureItem) → IsWritableAssertion items → IsAscii (codes " " ++ printed_error items)
error_ascii items is =
    both_ascii (codes " ") (printed_error items) refl (both_ascii (codes "throw ") (printed_block items) refl (block_ascii items is))

pub specification_ascii : (s : PureSpec) → IsWritableSpec s → IsAscii (printed_specification s)
specification_ascii s is =
    let params : IsAscii (printed_params s.params) =
    joined_ascii printed_param (codes ", ") refl s.params (each IsWritableParam (λ q. IsAscii (printed_param q)) param_ascii s.params is.params) in
    let variables : IsAscii (printed_variables s.logicals) =
    bracketed_ascii printed_param s.logicals (each IsWritableLogical (λ q. IsAscii (printed_param q)) variable_ascii s.logicals is.logicals) in
    let posts : IsAscii (flat_map (λ items. codes " " ++ printed_block items) s.posts) =
    each_ascii (λ items. codes " " ++ printed_block items) s.posts
    (each IsWritableAssertion (λ items. IsAscii (codes " " ++ printed_block items)) post_ascii s.posts is.posts) in
    let errors : IsAscii (flat_map (λ items. codes " " ++ printed_error items) s.errors) =
    each_ascii (λ items. codes " " ++ printed_error items) s.errors
    (each IsWritableAssertion (λ items. IsAscii (codes " " ++ printed_error items)) error_ascii s.errors is.errors) in
    let front = ((codes "spec " ++ s.name) ++ codes "(") ++ printed_params s.params in
    let named : IsAscii front =
    within_ascii (codes "spec " ++ s.name) (codes "(") (printed_params s.params) (both_ascii (codes "spec ") s.name refl (name_ascii s.name is.named)) refl params in
    let head = (front ++ codes ") ") ++ printed_variables s.logicals in
    let listed : IsAscii head = within_ascii front (codes ") ") (printed_variables s.logicals) named refl variables in
    both_ascii ((head ++ codes " ") ++ printed_block s.pre) (printed_posts s.posts s.errors)
    (within_ascii head (codes " ") (printed_block s.pre) listed refl (block_ascii s.pre is.pre))
    (both_ascii (flat_map (λ items. codes " " ++ printed_block items) s.posts) (flat_map (λ items. codes " " ++ printed_error items) s.errors) posts errors)
