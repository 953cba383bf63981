-- What a text spells is well made: a name begins with no `#`, a logical name begins with one, and no literal is a symbol
-- or a list.
use Rattle.std.proofs.Common.{◌≡◌, ℕ, ℤ, Bool, true, false, ◌&&◌, List, [], ◌∷◌, ◌++◌, Option, Some, None, refl, sym, ◌∙◌, subst, inl, inr}
use Rattle.std.specs.List.{list_all, flat_map, filter_map, cons_option, All}
use Rattle.std.proofs.lemmas.Bool.{and_from, and_parts, not_from_false}
use Rattle.std.proofs.lemmas.List.Folds.{list_all-append}
use Rattle.std.proofs.lemmas.List.Elements.{All-head, All-tail}
use Rattle.gil_values.specs.declared.kinds.Kind.{Kind}
use Rattle.gil_values.specs.declared.kinds.Kind.TheVariants as kinds
use Rattle.gil_values.specs.declared.operators.BinOp.{BinOp}
use Rattle.gil_values.specs.declared.operators.BinOp.TheVariants as binary
use Rattle.gil_values.specs.Pure.{PureValue, integer, boolean, text, symbol, kind, procedure, list}
use Rattle.gil_lexer.specs.Spelling.{Spells, IsName}
use Rattle.gil_lexer.specs.Texts.{AreTokensOf, IsSlice}
use Rattle.gil_lexer.specs.declared.words.Word.{Word}
use Rattle.gil_lexer.specs.declared.words.Word.TheVariants as words
use Rattle.gil_lexer.specs.declared.forms.Form.{Form}
use Rattle.gil_lexer.specs.declared.forms.Form.TheVariants as forms
use Rattle.gil_lexer.specs.declared.forms.Token.{Token}
use Rattle.gil_lexer.proofs.ByteLemmas.{name_start_no_mark}
use Rattle.gil_lexer.proofs.TextLaws.{slices}
use Rattle.gil_lexemes.specs.declared.standing.Lexeme.{Lexeme}
use Rattle.gil_lexemes.specs.declared.standing.Lexeme.TheVariants as lexemes
use Rattle.gil_lexemes.specs.Lexemes.{StandsFor, StandForAll}
use Rattle.gil_syntax.specs.declared.assertions.Param.{Param}
use Rattle.gil_syntax.specs.Pure.{PureExpr, literal, name, logical, list_of, unary_of, binary_of, PureExprs, no_exprs, expr_and, PureItem, pure, uses, assign, call, act, usym, isym, ifgoto, return, fail, throw, vanish, fold_use, unfold_use, assert_that, loop_invariant, PureNumberedCommand, PureProc, PureSpec, PurePredDef, PureParts}
use Rattle.gil_syntax.specs.Subexpressions.{subexpressions, subexpressions_of_all, exprs_of_use, exprs_of_item}
use Rattle.gil_syntax.specs.Valid.{ProgramItem, a_proc, a_spec, a_pred}
use Rattle.gil_syntax.specs.WellMade.{is_spellable, is_drawable, has_hash, is_program_name, is_well_made_node, is_well_made_expr, are_logical, are_program_names, is_well_made_command, is_well_made_assertion, is_well_made_proc, is_well_made_spec, is_well_made_pred, is_well_made}
use Rattle.gil_grammar.specs.declared.positions.Position.{Position}
use Rattle.gil_grammar.specs.declared.positions.Position.TheVariants as positions
use Rattle.gil_grammar.specs.Vocabulary.{literal_lexeme, before_operands, comma, input_word, word_name, IsNameAt}
use Rattle.gil_grammar.specs.Lists.{SpellsEach, SpellsSome, SpellsMore, SpellsSeparated}
use Rattle.gil_grammar.specs.Expressions.{SpellsExpr, SpellsElements, SpellsMoreElements, SpellsExprs}
use Rattle.gil_grammar.specs.Assertions.{SpellsParam, SpellsVariables, SpellsUse, SpellsItem, SpellsAssertion, SpellsBlock, SpellsBlocks, SpellsError, SpellsPosts}
use Rattle.gil_grammar.specs.Commands.{SpellsName, SpellsHandler, SpellsCommand, SpellsStatement}
use Rattle.gil_grammar.specs.Programs.{commands_of, SpellsProc, SpellsSpec, SpellsPred, SpellsProgramItem}
use Rattle.gil_grammar.proofs.ListLaws.{found_is}
use Rattle.gil_grammar.specs.Texts.{PlacedItem, SpellsItems, Spell, as_proc, as_spec, as_pred, parts_of, SpellProgram}

-- ---- lexemes that tokens stand for

abbrev pub IsProper : Lexeme → Type 0
IsProper (lexemes.Name x) = has_hash x ≡ false
IsProper (lexemes.Logical x) = has_hash x ≡ true
IsProper _ = Unit {0}

abbrev pub AreProper : List Lexeme → Type 0
AreProper [] = Unit {0}
AreProper (l ∷ ls) = IsProper l × AreProper ls

name_has_no_hash : (x : List ℕ) → IsName x → has_hash x ≡ false
name_has_no_hash [] h = absurd (cc (h.0))
name_has_no_hash (b ∷ bs) h = (name_start_no_mark b h.0).hash

stands_proper : (form : Form) (spelling : List ℕ) (l : Lexeme) → Spells form spelling → StandsFor form spelling l → IsProper l
stands_proper forms.Name spelling l h s = subst IsProper (sym s) (name_has_no_hash spelling h.0)
stands_proper (forms.Word word) spelling l h s = subst IsProper (sym s) tt
stands_proper forms.Logical spelling l (x, is_name, is) s =
    let marked : has_hash spelling ≡ true = rw is refl in
    subst IsProper (sym s) marked
stands_proper forms.Procedure spelling l h (x, is, s) = subst IsProper (sym s) tt
stands_proper forms.Number spelling l h (n, is, s) = subst IsProper (sym s) tt
stands_proper forms.Text spelling l h (characters, is, s) = subst IsProper (sym s) tt
stands_proper (forms.Sign sign) spelling l h s = subst IsProper (sym s) tt

stand_proper : (bytes : List ℕ) (tokens : List Token) (ls : List Lexeme) → All (IsSlice bytes) tokens → StandForAll bytes tokens ls → AreProper ls
stand_proper bytes [] [] h s = tt
stand_proper bytes [] (l ∷ ls) h s = absurd s
stand_proper bytes (t ∷ tokens) [] h s = absurd s
stand_proper bytes (t ∷ tokens) (l ∷ ls) h s =
    (stands_proper t.form _ l (All-head (IsSlice bytes) t tokens h).spelled s.0, stand_proper bytes tokens ls (All-tail (IsSlice bytes) t tokens h) s.1)

-- ---- a test that holds of what the lexemes begin with

pub record Made (test : Bool) (rest : List Lexeme) : Type 0 where
  pub is : test ≡ true
  pub proper : AreProper rest

-- a thing of which the test holds is spelled
abbrev pub Makes : {X : Type 0} → (X → List Lexeme → List Lexeme → Type 0) → (X → Bool) → Type 0
Makes {X} spells test = (x : X) (ls rest : List Lexeme) → AreProper ls → spells x ls rest → Made (test x) rest

pub after : (l : Lexeme) (ls rest : List Lexeme) → ls ≡ l ∷ rest → AreProper ls → AreProper rest
after l ls rest is p = (subst AreProper is p).1

module _ {X : Type 0} (spells : X → List Lexeme → List Lexeme → Type 0) (test : X → Bool) (makes : Makes spells test) where
  each_makes : (xs : List X) (ls rest : List Lexeme) → AreProper ls → SpellsEach spells xs ls rest → Made (list_all test xs) rest
  each_makes [] ls rest p is = record { is = refl; proper = subst AreProper is p }
  each_makes (x ∷ xs) ls rest p (behind, one, more) =
      let first = makes x ls behind p one in
      let others = each_makes xs behind rest first.proper more in
      record { is = and_from _ _ first.is others.is; proper = others.proper }

  some_make : (xs : List X) (ls rest : List Lexeme) → AreProper ls → SpellsSome spells xs ls rest → Made (list_all test xs) rest
  some_make [] ls rest p h = absurd h
  some_make (x ∷ xs) ls rest p h = each_makes (x ∷ xs) ls rest p h

  more_make : (separator : Lexeme) (xs : List X) (ls rest : List Lexeme) → AreProper ls → SpellsMore spells separator xs ls rest → Made (list_all test xs) rest
  more_make separator [] ls rest p is = record { is = refl; proper = subst AreProper is p }
  more_make separator (x ∷ xs) ls rest p (inner, behind, is, one, more) =
      let first = makes x inner behind (after separator ls inner is p) one in
      let others = more_make separator xs behind rest first.proper more in
      record { is = and_from _ _ first.is others.is; proper = others.proper }

  pub separated_make : (separator : Lexeme) (xs : List X) (ls rest : List Lexeme) → AreProper ls → SpellsSeparated spells separator xs ls rest → Made (list_all test xs) rest
  separated_make separator [] ls rest p is = record { is = refl; proper = subst AreProper is p }
  separated_make separator (x ∷ xs) ls rest p (behind, one, more) =
      let first = makes x ls behind p one in
      let others = more_make separator xs behind rest first.proper more in
      record { is = and_from _ _ first.is others.is; proper = others.proper }

-- ---- names

serving_has_no_hash : (position : Position) (word : Word) (x : List ℕ) → word_name position word ≡ Some x → has_hash x ≡ false
serving_has_no_hash positions.Assertion words.Ret x e = rw (sym (found_is _ x e)) refl
serving_has_no_hash positions.Predicate words.List x e = rw (sym (found_is _ x e)) refl
serving_has_no_hash positions.Predicate words.Proto x e = rw (sym (found_is _ x e)) refl
serving_has_no_hash positions.Action words.New x e = rw (sym (found_is _ x e)) refl
serving_has_no_hash positions.Action words.Has x e = rw (sym (found_is _ x e)) refl
serving_has_no_hash positions.Action words.Free x e = rw (sym (found_is _ x e)) refl
serving_has_no_hash positions.Action words.Dispose x e = rw (sym (found_is _ x e)) refl
serving_has_no_hash positions.Action words.Delete x e = rw (sym (found_is _ x e)) refl
serving_has_no_hash positions.Action words.Setproto x e = rw (sym (found_is _ x e)) refl
serving_has_no_hash _ _ x e = absurd cc

named_makes : (position : Position) (x : List ℕ) (l : Lexeme) → IsProper l → IsNameAt position x l → is_program_name x ≡ true
named_makes position x l p (inl is) = not_from_false _ (subst IsProper is p)
named_makes position x l p (inr (word, says, is)) = not_from_false _ (serving_has_no_hash position word x says)

pub program_name : (x : List ℕ) → IsProper (lexemes.Name x) → is_program_name x ≡ true
program_name x p = not_from_false _ p

-- ---- expressions

literal_makes : (v : PureValue) (l : Lexeme) → literal_lexeme v ≡ Some l → is_spellable v ≡ true
literal_makes (integer n) l e = refl
literal_makes (boolean b) l e = refl
literal_makes (text t) l e = refl
literal_makes (symbol n) l e = absurd cc
literal_makes (kind k) l e = refl
literal_makes (procedure f) l e = refl
literal_makes (list vs) l e = absurd cc

before_proper : (op : BinOp) (rest : List Lexeme) → AreProper (before_operands op rest) → AreProper rest
before_proper binary.Nth rest p = p.1.1
before_proper _ rest p = p.1

one_node : (b : Bool) → b ≡ true → (b && true) ≡ true
one_node b e = and_from b true e refl

both_lists : (es ds : List PureExpr) → list_all is_well_made_node es ≡ true → list_all is_well_made_node ds ≡ true → list_all is_well_made_node (es ++ ds) ≡ true
both_lists es ds a b = list_all-append is_well_made_node es ds ∙ and_from _ _ a b

mutual
  pub expr_makes : (position : Position) (e : PureExpr) (ls rest : List Lexeme) → AreProper ls → SpellsExpr position e ls rest → Made (is_well_made_expr e) rest
  expr_makes position (literal v) ls rest p (l, says, is) = record { is = one_node _ (literal_makes v l says); proper = after l ls rest is p }
  expr_makes position (name x) ls rest p (l, says, is) = record { is = one_node _ (named_makes position x l (subst AreProper is p).0 says); proper = after l ls rest is p }
  expr_makes position (logical x) ls rest p (there, is) = record { is = one_node _ (subst AreProper is p).0; proper = after _ ls rest is p }
  expr_makes position (list_of es) ls rest p (inner, is, h) =
      let read = elements_make position es inner _ (after _ ls inner is p) h in
      record { is = read.is; proper = read.proper.1 }
  expr_makes position (unary_of op e) ls rest p (inner, is, h) =
      let read = expr_makes position e inner _ (subst AreProper is p).1.1 h in
      record { is = read.is; proper = read.proper.1 }
  expr_makes position (binary_of op d e) ls rest p (left, right, is, h, k) =
      let first = expr_makes position d left _ (before_proper op left (subst AreProper is p)) h in
      let second = expr_makes position e right _ first.proper.1 k in
      record { is = both_lists (subexpressions d) (subexpressions e) first.is second.is; proper = second.proper.1 }

  elements_make : (position : Position) (es : PureExprs) (ls rest : List Lexeme) → AreProper ls → SpellsElements position es ls rest → Made (list_all is_well_made_node (subexpressions_of_all es)) rest
  elements_make position no_exprs ls rest p is = record { is = refl; proper = subst AreProper is p }
  elements_make position (expr_and e es) ls rest p (behind, h, k) =
      let first = expr_makes position e ls behind p h in
      let others = more_elements_make position es behind rest first.proper k in
      record { is = both_lists (subexpressions e) (subexpressions_of_all es) first.is others.is; proper = others.proper }

  more_elements_make : (position : Position) (es : PureExprs) (ls rest : List Lexeme) → AreProper ls → SpellsMoreElements position es ls rest → Made (list_all is_well_made_node (subexpressions_of_all es)) rest
  more_elements_make position no_exprs ls rest p is = record { is = refl; proper = subst AreProper is p }
  more_elements_make position (expr_and e es) ls rest p (inner, behind, is, h, k) =
      let first = expr_makes position e inner behind (after _ ls inner is p) h in
      let others = more_elements_make position es behind rest first.proper k in
      record { is = both_lists (subexpressions e) (subexpressions_of_all es) first.is others.is; proper = others.proper }

pub exprs_make : (position : Position) (es : List PureExpr) (ls rest : List Lexeme) → AreProper ls → SpellsExprs position es ls rest → Made (list_all is_well_made_expr es) rest
exprs_make position es ls rest p h = separated_make (SpellsExpr position) is_well_made_expr (expr_makes position) comma es ls rest p h

-- ---- parameters and assertions

param_makes : Makes (SpellsParam lexemes.Name) (λ q. is_program_name q.name)
param_makes q ls rest p (inl is) = let h = subst AreProper is p in record { is = program_name q.name h.0; proper = h.1.1.1 }
param_makes q ls rest p (inr (any, is)) = let h = subst AreProper is p in record { is = program_name q.name h.0; proper = h.1 }

variable_makes : Makes (SpellsParam lexemes.Logical) (λ q. has_hash q.name)
variable_makes q ls rest p (inl is) = let h = subst AreProper is p in record { is = h.0; proper = h.1.1.1 }
variable_makes q ls rest p (inr (any, is)) = let h = subst AreProper is p in record { is = h.0; proper = h.1 }

params_make : (qs : List Param) (ls rest : List Lexeme) → AreProper ls → SpellsSeparated (SpellsParam lexemes.Name) comma qs ls rest → Made (are_program_names qs) rest
params_make qs ls rest p h = separated_make (SpellsParam lexemes.Name) (λ q. is_program_name q.name) param_makes comma qs ls rest p h

variables_make : Makes SpellsVariables are_logical
variables_make qs ls rest p (inner, is, h) =
    let read = separated_make (SpellsParam lexemes.Logical) (λ q. has_hash q.name) variable_makes comma qs inner _ (after _ ls inner is p) h in
    record { is = read.is; proper = read.proper.1 }

list_all_both : (es ds : List PureExpr) → list_all is_well_made_expr es ≡ true → list_all is_well_made_expr ds ≡ true → list_all is_well_made_expr (es ++ ds) ≡ true
list_all_both es ds a b = list_all-append is_well_made_expr es ds ∙ and_from _ _ a b

use_makes : Makes SpellsUse (λ u. list_all is_well_made_expr (exprs_of_use u))
use_makes u ls rest p (l, ins, outs, named, is, a, b) =
    let given = exprs_make positions.Assertion u.ins ins _ (subst AreProper is p).1.1 a in
    let gives = exprs_make positions.Assertion u.outs outs _ given.proper.1 b in
    record { is = list_all_both u.ins u.outs given.is gives.is; proper = gives.proper.1 }

item_makes : Makes SpellsItem (λ item. list_all is_well_made_expr (exprs_of_item item))
item_makes (pure e) ls rest p (may, h) =
    let read = expr_makes positions.Assertion e ls rest p h in
    record { is = one_node _ read.is; proper = read.proper }
item_makes (uses u) ls rest p h = use_makes u ls rest p h

assertion_makes : Makes SpellsAssertion is_well_made_assertion
assertion_makes [] ls rest p is = record { is = refl; proper = after _ ls rest is p }
assertion_makes (item ∷ items) ls rest p h = separated_make SpellsItem _ item_makes _ (item ∷ items) ls rest p h

block_makes : Makes SpellsBlock is_well_made_assertion
block_makes items ls rest p (inner, is, h) =
    let read = assertion_makes items inner _ (after _ ls inner is p) h in
    record { is = read.is; proper = read.proper.1 }

blocks_make : (blocks : List (List PureItem)) (ls rest : List Lexeme) → AreProper ls → SpellsBlocks blocks ls rest → Made (list_all is_well_made_assertion blocks) rest
blocks_make blocks ls rest p h = some_make SpellsBlock is_well_made_assertion block_makes blocks ls rest p h

error_makes : Makes SpellsError is_well_made_assertion
error_makes items ls rest p (block, is, h) = block_makes items block rest (after _ ls block is p) h

posts_make : (posts errors : List (List PureItem)) (ls rest : List Lexeme) → AreProper ls → SpellsPosts posts errors ls rest → Made (list_all is_well_made_assertion (posts ++ errors)) rest
posts_make [] [] ls rest p h = absurd h
posts_make [] (x ∷ xs) ls rest p h = each_makes SpellsError is_well_made_assertion error_makes (x ∷ xs) ls rest p h
posts_make (x ∷ xs) errors ls rest p (middle, h, k) =
    let posts = each_makes SpellsBlock is_well_made_assertion block_makes (x ∷ xs) ls middle p h in
    let others = each_makes SpellsError is_well_made_assertion error_makes errors middle rest posts.proper k in
    record { is = list_all-append is_well_made_assertion (x ∷ xs) errors ∙ and_from _ _ posts.is others.is; proper = others.proper }

-- ---- commands

item_exprs : (items : List PureItem) → is_well_made_assertion items ≡ true → list_all is_well_made_expr (flat_map exprs_of_item items) ≡ true
item_exprs [] e = refl
item_exprs (item ∷ items) e =
    let parts = and_parts (list_all is_well_made_expr (exprs_of_item item)) _ e in
    list_all_both (exprs_of_item item) (flat_map exprs_of_item items) parts.0 (item_exprs items parts.1)

pub input_makes : (k : Kind) (word : Word) → input_word k ≡ Some word → is_drawable k ≡ true
input_makes kinds.Int word e = refl
input_makes kinds.Bool word e = refl
input_makes kinds.Str word e = refl
input_makes _ word e = absurd cc

pub name_makes : Makes SpellsName is_program_name
name_makes x ls rest p is = let h = subst AreProper is p in record { is = program_name x h.0; proper = h.1 }

-- a command without names, with one expression
one_expr : (e : PureExpr) → is_well_made_expr e ≡ true → list_all is_well_made_expr (e ∷ []) ≡ true
one_expr e h = and_from _ true h refl

handler_proper : (handler : Option ℤ) (ls rest : List Lexeme) → AreProper ls → SpellsHandler handler ls rest → AreProper rest
handler_proper None ls rest p is = subst AreProper is p
handler_proper (Some label) ls rest p is = (subst AreProper is p).1.1

pub command_makes : Makes SpellsCommand is_well_made_command
command_makes (assign x e) ls rest p (value, is, h) =
    let front = subst AreProper is p in
    let read = expr_makes positions.Command e value rest front.1.1 h in
    record { is = and_from _ _ (program_name x front.0) (one_expr e read.is); proper = read.proper }
command_makes (call x e es handler) ls rest p (callee, arguments, behind, is, h, k, j) =
    let front = subst AreProper is p in
    let first = expr_makes positions.Command e callee _ front.1.1.1 h in
    let others = exprs_make positions.Command es arguments _ first.proper.1 k in
    record { is = and_from _ _ (program_name x front.0) (and_from _ _ first.is others.is); proper = handler_proper handler behind rest others.proper.1 j }
command_makes (act x action es) ls rest p (l, arguments, named, is, k) =
    let front = subst AreProper is p in
    let others = exprs_make positions.Command es arguments _ front.1.1.1.1.1 k in
    record { is = and_from _ _ (program_name x front.0) others.is; proper = others.proper.1 }
command_makes (usym x) ls rest p is =
    let front = subst AreProper is p in
    record { is = and_from _ _ (program_name x front.0) refl; proper = front.1.1.1 }
command_makes (isym x k) ls rest p (word, says, is) =
    let front = subst AreProper is p in
    record { is = and_from _ _ (and_from _ _ (program_name x front.0) (input_makes k word says)) refl; proper = front.1.1.1.1 }
command_makes (ifgoto e i) ls rest p (guard, is, h) =
    let read = expr_makes positions.Command e guard _ (after _ ls guard is p) h in
    record { is = one_expr e read.is; proper = read.proper.1 }
command_makes (return e) ls rest p (value, is, h) =
    let read = expr_makes positions.Command e value rest (after _ ls value is p) h in
    record { is = one_expr e read.is; proper = read.proper }
command_makes (fail e) ls rest p (value, is, h) =
    let read = expr_makes positions.Command e value rest (after _ ls value is p) h in
    record { is = one_expr e read.is; proper = read.proper }
command_makes (throw e) ls rest p (value, is, h) =
    let read = expr_makes positions.Command e value rest (after _ ls value is p) h in
    record { is = one_expr e read.is; proper = read.proper }
command_makes vanish ls rest p is = record { is = refl; proper = after _ ls rest is p }
command_makes (fold_use u) ls rest p (inner, is, h) =
    let read = use_makes u inner rest (after _ ls inner is p) h in
    record { is = read.is; proper = read.proper }
command_makes (unfold_use u) ls rest p (inner, is, h) =
    let read = use_makes u inner rest (after _ ls inner is p) h in
    record { is = read.is; proper = read.proper }
command_makes (assert_that items) ls rest p (block, is, h) =
    let read = block_makes items block rest (after _ ls block is p) h in
    record { is = item_exprs items read.is; proper = read.proper }
command_makes (loop_invariant xs ps items) ls rest p (names, variables, block, is, a, b, d) =
    let xs' = separated_make SpellsName is_program_name name_makes comma xs names _ (subst AreProper is p).1.1 a in
    let ps' = variables_make ps variables block xs'.proper.1 b in
    let items' = block_makes items block rest ps'.proper d in
    record { is = and_from _ _ (and_from _ _ xs'.is ps'.is) (item_exprs items items'.is); proper = items'.proper }

statement_makes : Makes SpellsStatement is_well_made_command
statement_makes c ls rest p h =
    let read = command_makes c ls _ p h in
    record { is = read.is; proper = read.proper.1 }

-- ---- items

body_made : (body : List PureNumberedCommand) → list_all is_well_made_command (commands_of body) ≡ true → list_all (λ c. is_well_made_command c.command) body ≡ true
body_made [] e = refl
body_made (c ∷ body) e = let parts = and_parts (is_well_made_command c.command) _ e in and_from _ _ parts.0 (body_made body parts.1)

proc_makes : Makes SpellsProc is_well_made_proc
proc_makes q ls rest p (params, body, is, a, b, numbered) =
    let xs = separated_make SpellsName is_program_name name_makes comma q.params params _ (subst AreProper is p).1.1.1 a in
    let cs = each_makes SpellsStatement is_well_made_command statement_makes (commands_of q.body) body _ xs.proper.1.1 b in
    record { is = and_from _ _ xs.is (body_made q.body cs.is); proper = cs.proper.1 }

pub spec_makes : Makes SpellsSpec is_well_made_spec
spec_makes s ls rest p (params, variables, pre, posts, is, a, b, c, d) =
    let ps = params_make s.params params _ (subst AreProper is p).1.1.1 a in
    let vs = variables_make s.logicals variables pre ps.proper.1 b in
    let pre' = block_makes s.pre pre posts vs.proper c in
    let posts' = posts_make s.posts s.errors posts rest pre'.proper d in
    record { is = and_from _ _ (and_from _ _ ps.is vs.is) (and_from _ _ pre'.is posts'.is); proper = posts'.proper }

pub pred_makes : Makes SpellsPred is_well_made_pred
pred_makes d ls rest p (l, ins, outs, variables, cases, named, is, a, b, v, c) =
    let given = params_make d.ins ins _ (subst AreProper is p).1.1.1 a in
    let gives = params_make d.outs outs _ given.proper.1 b in
    let vs = variables_make d.logicals variables cases gives.proper.1 v in
    let cases' = blocks_make d.cases cases rest vs.proper c in
    record { is = and_from _ _ (and_from _ _ (and_from _ _ given.is gives.is) vs.is) cases'.is; proper = cases'.proper }

abbrev is_well_made_item : ProgramItem → Bool
is_well_made_item (a_proc q) = is_well_made_proc q
is_well_made_item (a_spec s) = is_well_made_spec s
is_well_made_item (a_pred d) = is_well_made_pred d

program_item_makes : Makes SpellsProgramItem is_well_made_item
program_item_makes (a_proc q) ls rest p h = proc_makes q ls rest p h
program_item_makes (a_spec s) ls rest p h = spec_makes s ls rest p h
program_item_makes (a_pred d) ls rest p h = pred_makes d ls rest p h

-- the program of well-made items

abbrev AreMade : List PlacedItem → Type 0
AreMade items = list_all (λ i. is_well_made_item i.item) items ≡ true

items_make : (tokens : List Token) (items : List PlacedItem) (ls : List Lexeme) → AreProper ls → SpellsItems tokens items ls → AreMade items
items_make tokens [] ls p is = refl
items_make tokens (i ∷ items) ls p (behind, one, at, more) =
    let first = program_item_makes i.item ls behind p one in
    and_from _ _ first.is (items_make tokens items behind first.proper more)

proc_kept : (item : ProgramItem) (rest : List PureProc) → is_well_made_item item ≡ true → list_all is_well_made_proc rest ≡ true → list_all is_well_made_proc (cons_option (as_proc item) rest) ≡ true
proc_kept (a_proc q) rest e h = and_from _ _ e h
proc_kept (a_spec s) rest e h = h
proc_kept (a_pred d) rest e h = h

procs_made : (items : List PlacedItem) → AreMade items → list_all is_well_made_proc (filter_map (λ i. as_proc i.item) items) ≡ true
procs_made [] e = refl
procs_made (i ∷ items) e =
    let parts = and_parts (is_well_made_item i.item) _ e in
    proc_kept i.item (filter_map (λ (j : PlacedItem). as_proc j.item) items) parts.0 (procs_made items parts.1)

spec_kept : (item : ProgramItem) (rest : List PureSpec) → is_well_made_item item ≡ true → list_all is_well_made_spec rest ≡ true → list_all is_well_made_spec (cons_option (as_spec item) rest) ≡ true
spec_kept (a_proc q) rest e h = h
spec_kept (a_spec s) rest e h = and_from _ _ e h
spec_kept (a_pred d) rest e h = h

specs_made : (items : List PlacedItem) → AreMade items → list_all is_well_made_spec (filter_map (λ i. as_spec i.item) items) ≡ true
specs_made [] e = refl
specs_made (i ∷ items) e =
    let parts = and_parts (is_well_made_item i.item) _ e in
    spec_kept i.item (filter_map (λ (j : PlacedItem). as_spec j.item) items) parts.0 (specs_made items parts.1)

pred_kept : (item : ProgramItem) (rest : List PurePredDef) → is_well_made_item item ≡ true → list_all is_well_made_pred rest ≡ true → list_all is_well_made_pred (cons_option (as_pred item) rest) ≡ true
pred_kept (a_proc q) rest e h = h
pred_kept (a_spec s) rest e h = h
pred_kept (a_pred d) rest e h = and_from _ _ e h

preds_made : (items : List PlacedItem) → AreMade items → list_all is_well_made_pred (filter_map (λ i. as_pred i.item) items) ≡ true
preds_made [] e = refl
preds_made (i ∷ items) e =
    let parts = and_parts (is_well_made_item i.item) _ e in
    pred_kept i.item (filter_map (λ (j : PlacedItem). as_pred j.item) items) parts.0 (preds_made items parts.1)

pub tokens_proper : (bytes : List ℕ) (tokens : List Token) (ls : List Lexeme) → AreTokensOf tokens bytes → StandForAll bytes tokens ls → AreProper ls
tokens_proper bytes tokens ls spelled stand = stand_proper bytes tokens ls (slices tokens bytes spelled) stand

-- what a text spells is well made
pub text_makes : (bytes : List ℕ) (items : List PlacedItem) → Spell bytes items → is_well_made (parts_of items) ≡ true
text_makes bytes items s =
    let made = items_make s.tokens items s.lexemes (tokens_proper bytes s.tokens s.lexemes s.text s.stand) s.spelled in
    and_from _ _ (and_from _ _ (procs_made items made) (specs_made items made)) (preds_made items made)

pub program_makes : (bytes : List ℕ) (program : PureParts) → SpellProgram bytes program → is_well_made program ≡ true
program_makes bytes program (items, s, is) = subst (λ (p : PureParts). is_well_made p ≡ true) is (text_makes bytes items s)
