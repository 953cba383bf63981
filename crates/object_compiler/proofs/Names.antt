-- Programs whose names are resolved: what a text can name, and what is well made, stay so.
use Rattle.std.proofs.Common.{◌≡◌, ℕ, List, [], ◌∷◌, Bool, true, false, cond, ◌&&◌, map, refl}
use Rattle.std.specs.List.{list_all}
use Rattle.std.proofs.lemmas.Bool.{and_from, and_parts}
use Rattle.gil_values.specs.Pure.{procedure}
use Rattle.source_language.specs.Names.{is_source_name, has_source_invariant}
use Rattle.source_operators.specs.Names.{is_source_expression}
use Rattle.source_operators.specs.Pure as trees
use Rattle.source_statements.specs.Names as names
use Rattle.source_statements.specs.Pure as tree
use Rattle.object_operators.specs.Pure.{PureExpression}
use Rattle.object_lang.specs.Names.{is_source_simple, is_source_function}
use Rattle.object_lang.specs.Pure.{PureSimple, assign, input, create, proto, has, call, set, delete, set_proto, fail, throw, PureStatement, PureBlock, PureFunction, PureSource}
use Rattle.object_lang.specs.Resolved.{resolved_expression, resolved_simple, resolved_statement, resolved_block, names_function, resolved_function, resolved}

pub both : (a b a' b' : Bool) → (a ≡ true → a' ≡ true) → (b ≡ true → b' ≡ true) → (a && b) ≡ true → (a' && b') ≡ true
both a b a' b' f g h = let parts = and_parts a b h in and_from a' b' (f parts.0) (g parts.1)

-- What holds of the parts of trees, where it holds of all procedures.
module _ (is : List ℕ → Bool) (expression : PureExpression → Bool) (kept : (e : PureExpression) → expression e ≡ true → expression (resolved_expression is e) ≡ true) where
  pub all_kept : (es : List PureExpression) → list_all expression es ≡ true → list_all expression (map (resolved_expression is) es) ≡ true
  all_kept [] h = refl
  all_kept (e ∷ es) h = both (expression e) (list_all expression es) _ _ (kept e) (all_kept es) h

-- what a name stands for
abbrev pub chosen : Bool → List ℕ → PureExpression
chosen b x = cond b (trees.constant (procedure x)) (trees.variable x)

module _ (is : List ℕ → Bool) where
  named_choice : (b : Bool) (x : List ℕ) → is_source_name x ≡ true → is_source_expression (chosen b x) ≡ true
  named_choice true x h = refl
  named_choice false x h = h

  named : (e : PureExpression) → is_source_expression e ≡ true → is_source_expression (resolved_expression is e) ≡ true
  named (trees.constant v) h = refl
  named (trees.variable x) h = named_choice (is x) x h
  named (trees.brackets e) h = named e h
  named (trees.prefixed u e) h = named e h
  named (trees.joined j d e) h = both (is_source_expression d) (is_source_expression e) _ _ (named d) (named e) h
  named (trees.skipping c d e) h = both (is_source_expression d) (is_source_expression e) _ _ (named d) (named e) h

  simple_named : (c : PureSimple) → is_source_simple c ≡ true → is_source_simple (resolved_simple is c) ≡ true
  simple_named (assign x e) h = both (is_source_name x) (is_source_expression e) _ _ (λ n. n) (named e) h
  simple_named (input x k) h = h
  simple_named (create x e) h = both (is_source_name x) (is_source_expression e) _ _ (λ n. n) (named e) h
  simple_named (proto x e) h = both (is_source_name x) (is_source_expression e) _ _ (λ n. n) (named e) h
  simple_named (has x a b) h =
      both (is_source_name x) (is_source_expression a && is_source_expression b) _ _ (λ n. n)
      (λ k. both (is_source_expression a) (is_source_expression b) _ _ (named a) (named b) k) h
  simple_named (call x f es) h =
      both (is_source_name x) (is_source_expression f && list_all is_source_expression es) _ _ (λ n. n)
      (λ k. both (is_source_expression f) (list_all is_source_expression es) _ _ (named f) (all_kept is is_source_expression named es) k) h
  simple_named (set a b c) h =
      both (is_source_expression a) (is_source_expression b && is_source_expression c) _ _ (named a)
      (λ k. both (is_source_expression b) (is_source_expression c) _ _ (named b) (named c) k) h
  simple_named (delete a b) h = both (is_source_expression a) (is_source_expression b) _ _ (named a) (named b) h
  simple_named (set_proto a b) h = both (is_source_expression a) (is_source_expression b) _ _ (named a) (named b) h
  simple_named (fail e) h = named e h
  simple_named (throw e) h = named e h

  abbrev StatementNamed : PureStatement → Bool
  StatementNamed c = names.is_source_statement true is_source_expression is_source_simple c

  abbrev BlockNamed : PureBlock → Bool
  BlockNamed b = names.is_source_block true is_source_expression is_source_simple b

  mutual
    statement_named : (c : PureStatement) → StatementNamed c ≡ true → StatementNamed (resolved_statement is c) ≡ true
    statement_named (tree.simple c) h = simple_named c h
    statement_named (tree.assert e) h = named e h
    statement_named (tree.assume e) h = named e h
    statement_named (tree.if_else e on off) h =
        both (is_source_expression e) (BlockNamed on && BlockNamed off) _ _ (named e)
        (λ k. both (BlockNamed on) (BlockNamed off) _ _ (block_named on) (block_named off) k) h
    statement_named (tree.while e invariant body) h =
        both (is_source_expression e) (has_source_invariant invariant && BlockNamed body) _ _ (named e)
        (λ k. both (has_source_invariant invariant) (BlockNamed body) _ _ (λ n. n) (block_named body) k) h
    statement_named (tree.return e) h = named e h
    statement_named (tree.logic l) h = h
    statement_named (tree.try_catch body y handler) h =
        both (is_source_name y) (BlockNamed body && BlockNamed handler) _ _ (λ n. n)
        (λ k. both (BlockNamed body) (BlockNamed handler) _ _ (block_named body) (block_named handler) k) h

    block_named : (b : PureBlock) → BlockNamed b ≡ true → BlockNamed (resolved_block is b) ≡ true
    block_named tree.no_statements h = h
    block_named (tree.statement_and at c rest) h = both (StatementNamed c) (BlockNamed rest) _ _ (statement_named c) (block_named rest) h

functions_named : (all fs : List PureFunction) → list_all (λ f. is_source_function f) fs ≡ true
    → list_all (λ f. is_source_function f) (map (resolved_function all) fs) ≡ true
functions_named all [] h = refl
functions_named all (f ∷ fs) h =
    both (is_source_function f) (list_all (λ g. is_source_function g) fs) _ _
    (λ n. both (is_source_name f.name) (names.is_source_function true is_source_expression is_source_simple f) _ _ (λ k. k)
    (λ k. both (list_all is_source_name f.params) (names.is_source_block true is_source_expression is_source_simple f.body) _ _ (λ k'. k')
    (block_named (names_function all f) f.body) k) n)
    (functions_named all fs) h

pub resolved_named : (source : PureSource) → list_all (λ f. is_source_function f) source.functions ≡ true
    → list_all (λ f. is_source_function f) (resolved source).functions ≡ true
resolved_named source h = functions_named source.functions source.functions h
