-- What follows an annotation is the rest of the lexemes.
use Rattle.std.proofs.Common.{◌≡◌, ◌≤◌, ◌-◌, ℕ, List, [], ◌∷◌, ◌++◌, length, drop, refl, sym, ap, ◌∙◌, append_assoc, length-append, arith, inl, inr}
use Rattle.std.proofs.lemmas.List.{drop_at}
use Rattle.gil_values.specs.declared.operators.BinOp.{BinOp}
use Rattle.gil_values.specs.declared.operators.BinOp.TheVariants as binary
use Rattle.gil_lexemes.specs.declared.standing.Lexeme.{Lexeme}
use Rattle.gil_syntax.specs.Pure.{PureExpr, literal, name, logical, list_of, unary_of, binary_of, PureExprs, no_exprs, expr_and, PureItem, pure, uses, PureCommand, fold_use, unfold_use, assert_that, loop_invariant}
use Rattle.gil_grammar.specs.declared.positions.Position.{Position}
use Rattle.gil_grammar.specs.declared.positions.Position.TheVariants as positions
use Rattle.gil_grammar.specs.Annotations.{specification, predicate, logic, expression, SpellsAnnotation}
use Rattle.gil_grammar.specs.Lists.{SpellsEach, SpellsMore, SpellsSeparated}
use Rattle.gil_grammar.specs.Expressions.{SpellsExpr, SpellsElements, SpellsMoreElements}
use Rattle.gil_grammar.specs.Assertions.{SpellsParam, SpellsVariables, SpellsUse, SpellsItem, SpellsAssertion, SpellsBlock, SpellsBlocks, SpellsError, SpellsPosts}
use Rattle.gil_grammar.specs.Commands.{SpellsName}
use Rattle.gil_grammar.specs.Programs.{SpellsSpec, SpellsPred}
use Rattle.gil_grammar.specs.Vocabulary.{before_operands}

-- rest are the last of the lexemes
pub record IsRest (ls rest : List Lexeme) : Type 0 where
  pub front : List Lexeme
  pub is : ls ≡ front ++ rest

all : (ls rest : List Lexeme) → ls ≡ rest → IsRest ls rest
all ls rest e = record { front = []; is = e }

step : (l : Lexeme) (ls inner rest : List Lexeme) → ls ≡ l ∷ inner → IsRest inner rest → IsRest ls rest
step l ls inner rest e h = record { front = l ∷ h.front; is = e ∙ ap (λ k. l ∷ k) h.is }

join : (ls middle rest : List Lexeme) → IsRest ls middle → IsRest middle rest → IsRest ls rest
join ls middle rest h k = record { front = h.front ++ k.front; is = h.is ∙ ap (λ x. h.front ++ x) k.is ∙ sym (append_assoc h.front k.front rest) }

-- behind one lexeme more
past : (l : Lexeme) (ls rest : List Lexeme) → IsRest ls (l ∷ rest) → IsRest ls rest
past l ls rest h = join ls (l ∷ rest) rest h (step l _ rest rest refl (all rest rest refl))

-- a thing stands before a rest
abbrev Leaves : {X : Type 0} → (X → List Lexeme → List Lexeme → Type 0) → Type 0
Leaves {X} spells = (x : X) (ls rest : List Lexeme) → spells x ls rest → IsRest ls rest

module _ {X : Type 0} (spells : X → List Lexeme → List Lexeme → Type 0) (leaves : Leaves spells) where
  each_leaves : Leaves (SpellsEach spells)
  each_leaves [] ls rest is = all ls rest is
  each_leaves (x ∷ xs) ls rest (after, one, more) = join ls after rest (leaves x ls after one) (each_leaves xs after rest more)

  more_leave : (separator : Lexeme) → Leaves (SpellsMore spells separator)
  more_leave separator [] ls rest is = all ls rest is
  more_leave separator (x ∷ xs) ls rest (inner, after, is, one, more) =
      step separator ls inner rest is (join inner after rest (leaves x inner after one) (more_leave separator xs after rest more))

  separated_leave : (separator : Lexeme) → Leaves (SpellsSeparated spells separator)
  separated_leave separator [] ls rest is = all ls rest is
  separated_leave separator (x ∷ xs) ls rest (after, one, more) = join ls after rest (leaves x ls after one) (more_leave separator xs after rest more)

before_leaves : (op : BinOp) (ls rest left : List Lexeme) → ls ≡ before_operands op left → IsRest left rest → IsRest ls rest
before_leaves binary.Nth ls rest left e h = step _ ls _ rest e (step _ _ left rest refl h)
before_leaves _ ls rest left e h = step _ ls left rest e h

mutual
  expr_leaves : (position : Position) (e : PureExpr) (ls rest : List Lexeme) → SpellsExpr position e ls rest → IsRest ls rest
  expr_leaves position (literal v) ls rest (l, says, is) = step l ls rest rest is (all rest rest refl)
  expr_leaves position (name x) ls rest (l, says, is) = step l ls rest rest is (all rest rest refl)
  expr_leaves position (logical x) ls rest (there, is) = step _ ls rest rest is (all rest rest refl)
  expr_leaves position (list_of es) ls rest (inner, is, h) = step _ ls inner rest is (past _ inner rest (elements_leave position es inner _ h))
  expr_leaves position (unary_of op e) ls rest (inner, is, h) = step _ ls _ rest is (step _ _ inner rest refl (past _ inner rest (expr_leaves position e inner _ h)))
  expr_leaves position (binary_of op d e) ls rest (left, right, is, h, k) =
      before_leaves op ls rest left is (join left right rest (past _ left right (expr_leaves position d left _ h)) (past _ right rest (expr_leaves position e right _ k)))

  elements_leave : (position : Position) (es : PureExprs) (ls rest : List Lexeme) → SpellsElements position es ls rest → IsRest ls rest
  elements_leave position no_exprs ls rest is = all ls rest is
  elements_leave position (expr_and e es) ls rest (after, h, k) = join ls after rest (expr_leaves position e ls after h) (more_elements_leave position es after rest k)

  more_elements_leave : (position : Position) (es : PureExprs) (ls rest : List Lexeme) → SpellsMoreElements position es ls rest → IsRest ls rest
  more_elements_leave position no_exprs ls rest is = all ls rest is
  more_elements_leave position (expr_and e es) ls rest (inner, after, is, h, k) =
      step _ ls inner rest is (join inner after rest (expr_leaves position e inner after h) (more_elements_leave position es after rest k))

param_leaves : (form : List ℕ → Lexeme) → Leaves (SpellsParam form)
param_leaves form q ls rest (inl is) = step _ ls _ rest is (step _ _ _ rest refl (step _ _ rest rest refl (all rest rest refl)))
param_leaves form q ls rest (inr (any, is)) = step _ ls rest rest is (all rest rest refl)

variables_leave : Leaves SpellsVariables
variables_leave qs ls rest (inner, is, h) = step _ ls inner rest is (past _ inner rest (separated_leave _ (param_leaves _) _ qs inner _ h))

use_leaves : Leaves SpellsUse
use_leaves u ls rest (l, ins, outs, named, is, a, b) =
    step l ls _ rest is (step _ _ ins rest refl (join ins outs rest
    (past _ ins outs (separated_leave _ (expr_leaves positions.Assertion) _ u.ins ins _ a))
    (past _ outs rest (separated_leave _ (expr_leaves positions.Assertion) _ u.outs outs _ b))))

item_leaves : Leaves SpellsItem
item_leaves (pure e) ls rest (may, h) = expr_leaves positions.Assertion e ls rest h
item_leaves (uses u) ls rest h = use_leaves u ls rest h

assertion_leaves : Leaves SpellsAssertion
assertion_leaves [] ls rest is = step _ ls rest rest is (all rest rest refl)
assertion_leaves (item ∷ items) ls rest h = separated_leave SpellsItem item_leaves _ (item ∷ items) ls rest h

block_leaves : Leaves SpellsBlock
block_leaves items ls rest (inner, is, h) = step _ ls inner rest is (past _ inner rest (assertion_leaves items inner _ h))

blocks_leave : (blocks : List (List PureItem)) (ls rest : List Lexeme) → SpellsEach SpellsBlock blocks ls rest → IsRest ls rest
blocks_leave blocks ls rest h = each_leaves SpellsBlock block_leaves blocks ls rest h

some_blocks : (blocks : List (List PureItem)) (ls rest : List Lexeme) → SpellsBlocks blocks ls rest → IsRest ls rest
some_blocks [] ls rest h = absurd h
some_blocks (x ∷ xs) ls rest h = blocks_leave (x ∷ xs) ls rest h

error_leaves : Leaves SpellsError
error_leaves items ls rest (block, is, h) = step _ ls block rest is (block_leaves items block rest h)

posts_leave : (posts errors : List (List PureItem)) (ls rest : List Lexeme) → SpellsPosts posts errors ls rest → IsRest ls rest
posts_leave [] [] ls rest h = absurd h
posts_leave [] (x ∷ xs) ls rest h = each_leaves SpellsError error_leaves (x ∷ xs) ls rest h
posts_leave (x ∷ xs) errors ls rest (middle, h, k) = join ls middle rest (blocks_leave (x ∷ xs) ls middle h) (each_leaves SpellsError error_leaves errors middle rest k)

name_leaves : Leaves SpellsName
name_leaves x ls rest is = step _ ls rest rest is (all rest rest refl)

logic_leaves : (c : PureCommand) (ls rest : List Lexeme) → SpellsAnnotation (logic c) ls rest → IsRest ls rest
logic_leaves (fold_use u) ls rest (test, (inner, is, h)) = step _ ls inner rest is (use_leaves u inner rest h)
logic_leaves (unfold_use u) ls rest (test, (inner, is, h)) = step _ ls inner rest is (use_leaves u inner rest h)
logic_leaves (assert_that items) ls rest (test, (block, is, h)) = step _ ls block rest is (block_leaves items block rest h)
logic_leaves (loop_invariant xs ps items) ls rest (test, (names, variables, block, is, a, b, d)) =
    step _ ls _ rest is (step _ _ names rest refl (join names variables rest (past _ names variables (separated_leave SpellsName name_leaves _ xs names _ a))
    (join variables block rest (variables_leave ps variables block b) (block_leaves items block rest d))))
logic_leaves _ ls rest (test, h) = absurd (cc test)

spec_leaves : Leaves SpellsSpec
spec_leaves s ls rest (params, variables, pre, posts, is, a, b, c, d) =
    step _ ls _ rest is (step _ _ _ rest refl (step _ _ params rest refl (join params variables rest (past _ params variables (separated_leave _ (param_leaves _) _ s.params params _ a))
    (join variables pre rest (variables_leave s.logicals variables pre b) (join pre posts rest (block_leaves s.pre pre posts c) (posts_leave s.posts s.errors posts rest d))))))

pred_leaves : Leaves SpellsPred
pred_leaves d ls rest (l, ins, outs, variables, cases, named, is, a, b, v, c) =
    step _ ls _ rest is (step l _ _ rest refl (step _ _ ins rest refl (join ins outs rest (past _ ins outs (separated_leave _ (param_leaves _) _ d.ins ins _ a))
    (join outs variables rest (past _ outs variables (separated_leave _ (param_leaves _) _ d.outs outs _ b))
    (join variables cases rest (variables_leave d.logicals variables cases v) (some_blocks d.cases cases rest c))))))

pub annotation_leaves : Leaves SpellsAnnotation
annotation_leaves (specification s) ls rest h = spec_leaves s ls rest h
annotation_leaves (predicate d) ls rest h = pred_leaves d ls rest h
annotation_leaves (logic c) ls rest h = logic_leaves c ls rest h
annotation_leaves (expression e) ls rest h = expr_leaves positions.Command e ls rest h

-- the last of the lexemes, by how many there are
pub rest_is : (ls rest : List Lexeme) → IsRest ls rest → (length rest ≤ length ls) × (rest ≡ drop (length ls - length rest) ls)
rest_is ls rest h =
    let count = ap length h.is ∙ length-append h.front rest in
    let first : length ls - length rest ≡ length h.front = omega arith in
    (omega arith, sym (rw (first, h.is) (drop_at h.front rest (length h.front) refl)))
