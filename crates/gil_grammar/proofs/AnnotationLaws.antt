-- What texts of other languages hold of GIL: what is read is spelled so, and is the longest that is.
use Rattle.std.proofs.Common.{◌≡◌, ◌≤◌, ℕ, zero, suc, true, false, List, [], ◌∷◌, length, Some, None, refl, sym, ap, ◌∙◌, subst, arith, inl, inr}
use Rattle.gil_values.specs.declared.kinds.Kind.TheVariants as kinds
use Rattle.gil_values.specs.Pure.{PureValue, integer, boolean, text, symbol, kind, procedure, list}
use Rattle.gil_values.specs.declared.operators.UnOp.TheVariants as unary
use Rattle.gil_values.specs.declared.operators.BinOp.TheVariants as binary
use Rattle.gil_lexer.specs.declared.words.Word.{Word}
use Rattle.gil_lexer.specs.declared.words.Word.TheVariants as words
use Rattle.gil_lexer.specs.declared.signs.Sign.TheVariants as signs
use Rattle.gil_lexemes.specs.declared.standing.Lexeme.{Lexeme}
use Rattle.gil_lexemes.specs.declared.standing.Lexeme.TheVariants as lexemes
use Rattle.gil_lexemes.specs.Reading.{Reading, behind, first_form, is_sign, sign_at}
use Rattle.gil_lexemes.proofs.ReadingLaws.{bind_some, same_sign-refl}
use Rattle.gil_syntax.specs.Pure.{PureExpr, literal, name, logical, list_of, unary_of, binary_of, PureItem, PureCommand, fold_use, unfold_use, assert_that, loop_invariant, PureSpec, PurePredDef}
use Rattle.gil_grammar.specs.declared.positions.Position.TheVariants.{Command, Predicate}
use Rattle.gil_grammar.specs.declared.positions.Naming.TheVariants.{Program}
use Rattle.gil_grammar.specs.declared.positions.Extent.TheVariants.{Longest}
use Rattle.gil_grammar.specs.declared.positions.Opening.{Opening}
use Rattle.gil_grammar.specs.declared.positions.Opening.TheVariants.{Brace, Throw}
use Rattle.gil_grammar.specs.Annotations.{PureAnnotation, specification, predicate, logic, expression, SpellsAnnotation}
use Rattle.gil_grammar.specs.Assertions.{SpellsPosts}
use Rattle.gil_grammar.specs.Commands.{is_logic}
use Rattle.gil_grammar.specs.Expressions.{SpellsExpr}
use Rattle.gil_grammar.specs.Lists.{SpellsEach, SpellsSome}
use Rattle.gil_grammar.specs.Programs.{SpellsSpec, SpellsPred}
use Rattle.gil_grammar.specs.Vocabulary.{literal_lexeme, IsNameAt}
use Rattle.gil_grammar.specs.Reading.Assertions.{expression_at, use_at, variables_at, block_at, opens_by, opened_at, more_blocks, blocks_at, posts_at}
use Rattle.gil_grammar.specs.Reading.Commands.{names_at, invariant_at, logic_by, command_at}
use Rattle.gil_grammar.specs.Reading.Programs.{spec_at, pred_at}
use Rattle.gil_grammar.specs.Reading.Annotations.{specification_at, predicate_at, logic_at, value_at, annotation_by, annotation_at}
use Rattle.gil_grammar.proofs.ListLaws.{Takes, found_is}
use Rattle.gil_grammar.proofs.VocabularyLaws.{named_again}
use Rattle.gil_grammar.proofs.NestingLaws.{Nested, nested_tail, expression_again}
use Rattle.gil_grammar.proofs.AssertionLaws.{in_place, expression_takes}
use Rattle.gil_grammar.proofs.AssertionReads.{parenthesis_closes, semicolon_closes, params_again, variables_again, block_again}
use Rattle.gil_grammar.proofs.BlockLaws.{SpellsOpened, opened_takes, opened_again, opened_opens, brace_is_no_throw, throw_is_no_brace, blocks_again}
use Rattle.gil_grammar.proofs.CommandLaws.{logic_takes}
use Rattle.gil_grammar.proofs.CommandReads.{command_again}
use Rattle.gil_grammar.proofs.ProgramLaws.{spec_takes, pred_takes}
use Rattle.std.proofs.lemmas.Bool.{cases_Bool}

-- ---- what is read is spelled

abbrev IsLogic : PureCommand → List Lexeme → List Lexeme → Type 0
IsLogic c ls rest = is_logic c ≡ true

invariant_is : (ls : List Lexeme) (found : PureCommand × List Lexeme) → invariant_at ls ≡ Some found → is_logic found.0 ≡ true
unfolding invariant_at
invariant_is ls found e =
    let a = bind_some (sign_at signs.LeftParenthesis ls) _ found e in
    let xs = bind_some (names_at signs.RightParenthesis a.0) _ found a.2 in
    let b = bind_some (sign_at signs.RightParenthesis xs.0.1) _ found xs.2 in
    let ps = bind_some (variables_at b.0) _ found b.2 in
    let items = bind_some (block_at ps.0.1) _ found ps.2 in
    in_place IsLogic ls (loop_invariant xs.0.0 ps.0.0 items.0.0) items.0.1 found items.2 refl

logic_is : (word : Word) (ls : List Lexeme) (found : PureCommand × List Lexeme) → logic_by word ls ≡ Some found → is_logic found.0 ≡ true
logic_is words.Fold ls found e = let u = bind_some (use_at (behind ls)) _ found e in in_place IsLogic ls (fold_use u.0.0) u.0.1 found u.2 refl
logic_is words.Unfold ls found e = let u = bind_some (use_at (behind ls)) _ found e in in_place IsLogic ls (unfold_use u.0.0) u.0.1 found u.2 refl
logic_is words.Assert ls found e = let items = bind_some (block_at (behind ls)) _ found e in in_place IsLogic ls (assert_that items.0.0) items.0.1 found items.2 refl
logic_is words.Invariant ls found e = invariant_is (behind ls) found e
logic_is _ ls found e = absurd cc

value_takes : Takes SpellsAnnotation value_at
value_takes ls found e =
    let d = bind_some (expression_at Command ls) _ found e in
    in_place SpellsAnnotation ls (expression d.0.0) d.0.1 found d.2 (expression_takes Command ls d.0 d.1)

logic_annotation_takes : (word : Word) (ls : List Lexeme) (found : PureAnnotation × List Lexeme) → logic_at word (lexemes.Word word ∷ ls) ≡ Some found → SpellsAnnotation found.0 (lexemes.Word word ∷ ls) found.1
logic_annotation_takes word ls found e =
    let c = bind_some (logic_by word (lexemes.Word word ∷ ls)) _ found e in
    in_place SpellsAnnotation _ (logic c.0.0) c.0.1 found c.2 (logic_is word _ c.0 c.1, logic_takes word ls c.0 c.1)

specification_takes : (ls : List Lexeme) (found : PureAnnotation × List Lexeme) → specification_at (lexemes.Word words.Spec ∷ ls) ≡ Some found → SpellsAnnotation found.0 (lexemes.Word words.Spec ∷ ls) found.1
specification_takes ls found e =
    let s = bind_some (spec_at Longest ls) _ found e in
    in_place SpellsAnnotation _ (specification s.0.0) s.0.1 found s.2 (spec_takes Longest ls s.0 s.1)

predicate_takes : (ls : List Lexeme) (found : PureAnnotation × List Lexeme) → predicate_at (lexemes.Word words.Pred ∷ ls) ≡ Some found → SpellsAnnotation found.0 (lexemes.Word words.Pred ∷ ls) found.1
predicate_takes ls found e =
    let d = bind_some (pred_at Longest ls) _ found e in
    in_place SpellsAnnotation _ (predicate d.0.0) d.0.1 found d.2 (pred_takes Longest ls d.0 d.1)

pub annotation_takes : Takes SpellsAnnotation annotation_at
unfolding annotation_at
annotation_takes (lexemes.Word words.Spec ∷ ls) found e = specification_takes ls found e
annotation_takes (lexemes.Word words.Pred ∷ ls) found e = predicate_takes ls found e
annotation_takes (lexemes.Word words.Fold ∷ ls) found e = logic_annotation_takes words.Fold ls found e
annotation_takes (lexemes.Word words.Unfold ∷ ls) found e = logic_annotation_takes words.Unfold ls found e
annotation_takes (lexemes.Word words.Assert ∷ ls) found e = logic_annotation_takes words.Assert ls found e
annotation_takes (lexemes.Word words.Invariant ∷ ls) found e = logic_annotation_takes words.Invariant ls found e
annotation_takes [] found e = value_takes [] found e
annotation_takes (l ∷ ls) found e = value_takes (l ∷ ls) found e

-- ---- as many assertions in braces as there are

-- something is read, and no more lexemes are left than these
pub record ReadsPast {X : Type 0} (read : List Lexeme → Reading X) (ls left : List Lexeme) : Type 0 where
  pub found : X × List Lexeme
  pub is : read ls ≡ Some found
  pub past : length found.1 ≤ length left

-- the same of assertions in braces, behind which no more brackets are open than may be
record ReadsBlocks {X : Type 0} (read : List Lexeme → Reading X) (ls left : List Lexeme) : Type 0 where
  found : X × List Lexeme
  is : read ls ≡ Some found
  under : Nested found.1
  past : length found.1 ≤ length left

module _ (opening : Opening) where
  block_or_none : (ls : List Lexeme) (n : ℕ) (read : Reading (List PureItem)) → opened_at opening ls ≡ read → opens_by opening (first_form ls) ≡ true → Nested ls
      → ((after : List Lexeme) → Nested after → ReadsBlocks (more_blocks opening Longest n) after after) → ReadsBlocks (more_blocks opening Longest (suc n)) ls ls
  unfolding more_blocks
  block_or_none ls n None e test p more = record { found = ([], ls); is = rw (test, e) refl; under = p; past = omega arith }
  block_or_none ls n (Some block) e test p more =
      let spelled = opened_takes opening ls block e in
      let read = opened_again opening block.0 ls block.1 p spelled in
      let others = more block.1 read.under in
      record {
        found = (block.0 ∷ others.found.0, others.found.1);
        is = rw (test, e, others.is) refl;
        under = others.under;
        past = omega (arith, others.past, read.shorter);
      }

  no_more : (ls : List Lexeme) (n : ℕ) → opens_by opening (first_form ls) ≡ false → Nested ls → ReadsBlocks (more_blocks opening Longest (suc n)) ls ls
  unfolding more_blocks
  no_more ls n test p = record { found = ([], ls); is = rw test refl; under = p; past = omega arith }

  any_blocks : (n : ℕ) (ls : List Lexeme) → Nested ls → ReadsBlocks (more_blocks opening Longest n) ls ls
  unfolding more_blocks
  any_blocks zero ls p = record { found = ([], ls); is = refl; under = p; past = omega arith }
  any_blocks (suc n) ls p =
      elim (cases_Bool (opens_by opening (first_form ls))) [
        | inl test ↦ block_or_none ls n (opened_at opening ls) refl test p (λ after q. any_blocks n after q)
        | inr test ↦ no_more ls n test p
      ]

  -- no other such blocks leave fewer lexemes
  more_blocks_past : (n : ℕ) (ys : List (List PureItem)) (ls left : List Lexeme) → length ls ≤ n → Nested ls → SpellsEach (SpellsOpened opening) ys ls left
      → ReadsBlocks (more_blocks opening Longest n) ls left
  unfolding more_blocks
  more_blocks_past n [] ls left within p is =
      let read = any_blocks n ls p in
      record { found = read.found; is = read.is; under = read.under; past = omega (arith, read.past, ap length is) }
  more_blocks_past zero (y ∷ ys) ls left within p (after, one, more) = absurd (let first = opened_again opening y ls after p one in omega (arith, first.shorter))
  more_blocks_past (suc n) (y ∷ ys) ls left within p (after, one, more) =
      let first = opened_again opening y ls after p one in
      let others = more_blocks_past n ys after left (omega (arith, first.shorter)) first.under more in
      record {
        found = (y ∷ others.found.0, others.found.1);
        is = rw (opened_opens opening y ls after one, first.is, others.is) refl;
        under = others.under;
        past = others.past;
      }

  blocks_past : (ys : List (List PureItem)) (ls left : List Lexeme) → Nested ls → SpellsSome (SpellsOpened opening) ys ls left → ReadsBlocks (blocks_at opening Longest) ls left
  unfolding blocks_at
  blocks_past [] ls left p h = absurd h
  blocks_past (y ∷ ys) ls left p (after, one, more) =
      let first = opened_again opening y ls after p one in
      let others = more_blocks_past (length after) ys after left (omega arith) first.under more in
      record { found = (y ∷ others.found.0, others.found.1); is = rw (first.is, others.is) refl; under = others.under; past = others.past }

-- postconditions, and then error postconditions
posts_past : (posts errors : List (List PureItem)) (ls left : List Lexeme) → Nested ls → SpellsPosts posts errors ls left → ReadsBlocks (posts_at Longest) ls left
unfolding posts_at
posts_past [] [] ls left p h = absurd h
posts_past [] (y ∷ ys) ls left p h =
    let read = blocks_past Throw (y ∷ ys) ls left p h in
    record { found = (([], read.found.0), read.found.1); is = rw (opened_opens Throw y ls _ h.1, read.is) refl; under = read.under; past = read.past }
posts_past (x ∷ xs) [] ls left p (middle, h, is) =
    let posts = blocks_past Brace (x ∷ xs) ls middle p h in
    let errors = any_blocks Throw (length posts.found.1) posts.found.1 posts.under in
    record {
      found = ((posts.found.0, errors.found.0), errors.found.1);
      is = rw (brace_is_no_throw x ls _ h.1, posts.is, errors.is) refl;
      under = errors.under;
      past = omega (arith, posts.past, errors.past, ap length is);
    }
posts_past (x ∷ xs) (y ∷ ys) ls left p (middle, h, k) =
    let posts = blocks_again Brace Longest (x ∷ xs) ls middle p h (throw_is_no_brace y middle _ k.1) in
    let errors = more_blocks_past Throw (length middle) (y ∷ ys) middle left (omega arith) posts.under k in
    record {
      found = ((x ∷ xs, errors.found.0), errors.found.1);
      is = rw (brace_is_no_throw x ls _ h.1, posts.is, errors.is) refl;
      under = errors.under;
      past = errors.past;
    }

spec_past : (s : PureSpec) (ls left : List Lexeme) → Nested ls → SpellsSpec s ls left → (inner : List Lexeme) × (ls ≡ lexemes.Word words.Spec ∷ inner) × ReadsPast (spec_at Longest) inner left
unfolding spec_at
spec_past s ls left p (params, variables, pre, posts, is, a, b, c, d) =
    let inner : List Lexeme = lexemes.Name s.name ∷ lexemes.Sign signs.LeftParenthesis ∷ params in
    let under : Nested inner = nested_tail _ inner (subst Nested is p) in
    let ps = params_again Program signs.RightParenthesis parenthesis_closes s.params params variables (nested_tail _ params (nested_tail _ _ under)) a in
    let vs = variables_again s.logicals variables pre (nested_tail _ variables ps.under) b in
    let pre' = block_again s.pre pre posts vs.under c in
    let posts' = posts_past s.posts s.errors posts left pre'.under d in (
      inner,
      is,
      record {
        found = (record { name = s.name; params = s.params; logicals = s.logicals; pre = s.pre; posts = posts'.found.0.0; errors = posts'.found.0.1 }, posts'.found.1);
        is = rw (same_sign-refl signs.LeftParenthesis, ps.is, same_sign-refl signs.RightParenthesis, vs.is, pre'.is, posts'.is) refl;
        past = posts'.past;
      },
    )

pred_past : (d : PurePredDef) (ls left : List Lexeme) → Nested ls → SpellsPred d ls left → (inner : List Lexeme) × (ls ≡ lexemes.Word words.Pred ∷ inner) × ReadsPast (pred_at Longest) inner left
unfolding pred_at
pred_past d ls left p (lexeme, ins, outs, variables, cases, named, is, a, b, v, c) =
    let inner : List Lexeme = lexeme ∷ lexemes.Sign signs.LeftParenthesis ∷ ins in
    let under : Nested inner = nested_tail _ inner (subst Nested is p) in
    let given = params_again Program signs.Semicolon semicolon_closes d.ins ins outs (nested_tail _ ins (nested_tail _ _ under)) a in
    let gives = params_again Program signs.RightParenthesis parenthesis_closes d.outs outs variables (nested_tail _ outs given.under) b in
    let vs = variables_again d.logicals variables cases (nested_tail _ variables gives.under) v in
    let cases' = blocks_past Brace d.cases cases left vs.under c in (
      inner,
      is,
      record {
        found = (record { name = d.name; ins = d.ins; outs = d.outs; logicals = d.logicals; cases = cases'.found.0 }, cases'.found.1);
        is = rw (named_again Predicate d.name lexeme _ named, same_sign-refl signs.LeftParenthesis, given.is, same_sign-refl signs.Semicolon, gives.is, same_sign-refl signs.RightParenthesis, vs.is, cases'.is) refl;
        past = cases'.past;
      },
    )

-- ---- the longest is read

abbrev IsValue : List Lexeme → Type 0
IsValue ls = annotation_by (first_form ls) ls ≡ value_at ls

literal_is_value : (v : PureValue) (lexeme : Lexeme) (rest : List Lexeme) → literal_lexeme v ≡ Some lexeme → IsValue (lexeme ∷ rest)
literal_is_value (integer n) lexeme rest e = subst (λ (l : Lexeme). IsValue (l ∷ rest)) (found_is _ lexeme e) refl
literal_is_value (boolean true) lexeme rest e = subst (λ (l : Lexeme). IsValue (l ∷ rest)) (found_is _ lexeme e) refl
literal_is_value (boolean false) lexeme rest e = subst (λ (l : Lexeme). IsValue (l ∷ rest)) (found_is _ lexeme e) refl
literal_is_value (text t) lexeme rest e = subst (λ (l : Lexeme). IsValue (l ∷ rest)) (found_is _ lexeme e) refl
literal_is_value (symbol n) lexeme rest e = absurd cc
literal_is_value (kind kinds.Int) lexeme rest e = subst (λ (l : Lexeme). IsValue (l ∷ rest)) (found_is _ lexeme e) refl
literal_is_value (kind kinds.Bool) lexeme rest e = subst (λ (l : Lexeme). IsValue (l ∷ rest)) (found_is _ lexeme e) refl
literal_is_value (kind kinds.Str) lexeme rest e = subst (λ (l : Lexeme). IsValue (l ∷ rest)) (found_is _ lexeme e) refl
literal_is_value (kind kinds.Sym) lexeme rest e = subst (λ (l : Lexeme). IsValue (l ∷ rest)) (found_is _ lexeme e) refl
literal_is_value (kind kinds.Kind) lexeme rest e = subst (λ (l : Lexeme). IsValue (l ∷ rest)) (found_is _ lexeme e) refl
literal_is_value (kind kinds.Proc) lexeme rest e = subst (λ (l : Lexeme). IsValue (l ∷ rest)) (found_is _ lexeme e) refl
literal_is_value (kind kinds.List) lexeme rest e = subst (λ (l : Lexeme). IsValue (l ∷ rest)) (found_is _ lexeme e) refl
literal_is_value (kind kinds.Undef) lexeme rest e = subst (λ (l : Lexeme). IsValue (l ∷ rest)) (found_is _ lexeme e) refl
literal_is_value (kind kinds.Null) lexeme rest e = subst (λ (l : Lexeme). IsValue (l ∷ rest)) (found_is _ lexeme e) refl
literal_is_value (procedure f) lexeme rest e = subst (λ (l : Lexeme). IsValue (l ∷ rest)) (found_is _ lexeme e) refl
literal_is_value (list vs) lexeme rest e = absurd cc

named_is_value : (x : List ℕ) (lexeme : Lexeme) (rest : List Lexeme) → IsNameAt Command x lexeme → IsValue (lexeme ∷ rest)
named_is_value x lexeme rest (inl says) = rw says refl
named_is_value x lexeme rest (inr (word, says, named)) = absurd (cc says)

value_from : (ls other : List Lexeme) → ls ≡ other → IsValue other → IsValue ls
value_from ls other is h = subst IsValue (sym is) h

expr_is_value : (e : PureExpr) (ls rest : List Lexeme) → SpellsExpr Command e ls rest → IsValue ls
expr_is_value (literal v) ls rest (lexeme, says, is) = value_from ls _ is (literal_is_value v lexeme rest says)
expr_is_value (name x) ls rest (lexeme, says, is) = value_from ls _ is (named_is_value x lexeme rest says)
expr_is_value (logical x) ls rest (there, is) = absurd (cc there)
expr_is_value (list_of es) ls rest (inner, is, h) = value_from ls _ is refl
expr_is_value (unary_of unary.Not e) ls rest (inner, is, h) = value_from ls _ is refl
expr_is_value (unary_of unary.Neg e) ls rest (inner, is, h) = value_from ls _ is refl
expr_is_value (unary_of unary.Len e) ls rest (inner, is, h) = value_from ls _ is refl
expr_is_value (unary_of unary.Kind e) ls rest (inner, is, h) = value_from ls _ is refl
expr_is_value (binary_of binary.Nth d e) ls rest (left, right, is, h, k) = value_from ls _ is refl
expr_is_value (binary_of _ d e) ls rest (left, right, is, h, k) = value_from ls _ is refl

-- a logic command, by its word
logic_past : (word : Word) (c : PureCommand) (ls inner left : List Lexeme) → ls ≡ lexemes.Word word ∷ inner → command_at ls ≡ Some (c, left)
    → command_at (lexemes.Word word ∷ inner) ≡ logic_by word (lexemes.Word word ∷ inner) → annotation_at (lexemes.Word word ∷ inner) ≡ logic_at word (lexemes.Word word ∷ inner) → ReadsPast annotation_at ls left
logic_past word c ls inner left is read by dispatch =
    let read' : logic_by word (lexemes.Word word ∷ inner) ≡ Some (c, left) = sym by ∙ subst (λ (l : List Lexeme). command_at l ≡ Some (c, left)) is read in
    record { found = (logic c, left); is = ap annotation_at is ∙ dispatch ∙ rw read' refl; past = omega arith }

-- what is spelled as an annotation is read as one, as long as there is one
pub annotation_past : (a : PureAnnotation) (ls left : List Lexeme) → Nested ls → SpellsAnnotation a ls left → ReadsPast annotation_at ls left
unfolding annotation_at command_at
annotation_past (specification s) ls left p h =
    let read = spec_past s ls left p h in
    record { found = (specification read.2.found.0, read.2.found.1); is = ap annotation_at read.1 ∙ rw read.2.is refl; past = read.2.past }
annotation_past (predicate d) ls left p h =
    let read = pred_past d ls left p h in
    record { found = (predicate read.2.found.0, read.2.found.1); is = ap annotation_at read.1 ∙ rw read.2.is refl; past = read.2.past }
annotation_past (logic (fold_use u)) ls left p (test, (inner, is, h)) = logic_past words.Fold (fold_use u) ls inner left is (command_again (fold_use u) ls left p (inner, is, h) tt).is refl refl
annotation_past (logic (unfold_use u)) ls left p (test, (inner, is, h)) = logic_past words.Unfold (unfold_use u) ls inner left is (command_again (unfold_use u) ls left p (inner, is, h) tt).is refl refl
annotation_past (logic (assert_that items)) ls left p (test, (block, is, h)) = logic_past words.Assert (assert_that items) ls block left is (command_again (assert_that items) ls left p (block, is, h) tt).is refl refl
annotation_past (logic (loop_invariant xs ps items)) ls left p (test, h) = logic_past words.Invariant (loop_invariant xs ps items) ls _ left h.3 (command_again (loop_invariant xs ps items) ls left p h tt).is refl refl
annotation_past (logic _) ls left p (test, h) = absurd (cc test)
annotation_past (expression e) ls left p h =
    let read = expression_again Command e ls left p h in
    record { found = (expression e, left); is = expr_is_value e ls left h ∙ rw read.is refl; past = omega arith }
