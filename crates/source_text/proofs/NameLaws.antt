-- A tree that lexemes without '$' spell names only what a source text can name.
use Rattle.std.proofs.Common.{ℕ, Bool, List, [], ◌∷◌, ◌++◌, Option, Some, None, refl, subst}
use Rattle.std.specs.Prelude.{IsTrue}
use Rattle.std.specs.List.{list_all, cons_option}
use Rattle.std.proofs.lemmas.Bool.{and_from, and_parts}
use Rattle.gil_lexemes.specs.declared.standing.Lexeme.{Lexeme}
use Rattle.gil_lexemes.specs.declared.standing.Lexeme.TheVariants as lexemes
use Rattle.gil_syntax.specs.Pure as gil
use Rattle.gil_grammar.specs.Annotations as annotations
use Rattle.gil_grammar.specs.Commands.{SpellsName, SpellsNames}
use Rattle.gil_grammar.specs.Lists.{SpellsMore}
use Rattle.gil_grammar.specs.Vocabulary.{closing_parenthesis, comma, semicolon}
use Rattle.gil_grammar.proofs.RestLaws.{IsRest, annotation_leaves}
use Rattle.source_language.specs.Names.{is_source_name, has_source_invariant}
use Rattle.source_language.specs.Pure.{PureLogic, fold_use, unfold_use, assert_that, invariant_by_itself, PureInvariant}
use Rattle.source_text.specs.Logic.{SpellsLogic, SpellsInvariant}
use Rattle.source_text.specs.Texts.{SourceItem, a_function, a_spec, a_pred, SpellsSourceItem, PlacedItem, SpellsItems, as_function, source_of}
use Rattle.source_text.specs.Vocabulary.{is_source_lexeme, are_source_lexemes}

-- a sign and a reserved word are kept by themselves: what is kept behind them is what is kept with them
abbrev pub Kept : List Lexeme → Type 0
Kept ls = IsTrue (are_source_lexemes ls)

head : (l : Lexeme) (ls : List Lexeme) → Kept (l ∷ ls) → IsTrue (is_source_lexeme l)
head l ls k = (and_parts (is_source_lexeme l) (are_source_lexemes ls) k).0

pub tail : (l : Lexeme) (ls : List Lexeme) → Kept (l ∷ ls) → Kept ls
tail l ls k = (and_parts (is_source_lexeme l) (are_source_lexemes ls) k).1

pub named : (x : List ℕ) (ls : List Lexeme) → Kept (lexemes.Name x ∷ ls) → IsTrue (is_source_name x)
named x ls k = head (lexemes.Name x) ls k

pub past : (x : List ℕ) (ls : List Lexeme) → Kept (lexemes.Name x ∷ ls) → Kept ls
past x ls k = tail (lexemes.Name x) ls k

kept_suffix : (front rest : List Lexeme) → Kept (front ++ rest) → Kept rest
kept_suffix [] rest k = k
kept_suffix (l ∷ front) rest k = kept_suffix front rest (tail l (front ++ rest) k)

kept_rest : (ls rest : List Lexeme) → IsRest ls rest → Kept ls → Kept rest
kept_rest ls rest h k = kept_suffix h.front rest (subst Kept h.is k)

-- ---- names

more_names_named : (xs : List (List ℕ)) (ls rest : List Lexeme) → SpellsMore SpellsName comma xs ls rest → Kept ls → IsTrue (list_all is_source_name xs) × Kept rest
more_names_named [] ls rest is k = (refl, subst Kept is k)
more_names_named (x ∷ xs) ls rest (inner, after, is, h, j) k =
    let whole = subst Kept h (subst Kept is k) in
    let q = more_names_named xs after rest j (past x after whole) in
    (and_from (is_source_name x) (list_all is_source_name xs) (named x after whole) q.0, q.1)

pub names_named : (xs : List (List ℕ)) (ls rest : List Lexeme) → SpellsNames xs ls rest → Kept ls → IsTrue (list_all is_source_name xs) × Kept rest
names_named [] ls rest is k = (refl, subst Kept is k)
names_named (x ∷ xs) ls rest (after, h, j) k =
    let whole = subst Kept h k in
    let q = more_names_named xs after rest j (past x after whole) in
    (and_from (is_source_name x) (list_all is_source_name xs) (named x after whole) q.0, q.1)

-- ---- what only proofs look at

command_kept : (c : gil.PureCommand) (ls rest : List Lexeme) → annotations.SpellsAnnotation (annotations.logic c) ls rest → Kept ls → Kept rest
command_kept c ls rest h k = kept_rest ls rest (annotation_leaves (annotations.logic c) ls rest h) k

pub logic_kept : (c : PureLogic) (ls rest : List Lexeme) → SpellsLogic c ls rest → Kept ls → Kept rest
logic_kept (fold_use u) ls rest h k = command_kept (gil.fold_use u) ls (semicolon ∷ rest) (refl, h) k
logic_kept (unfold_use u) ls rest h k = command_kept (gil.unfold_use u) ls (semicolon ∷ rest) (refl, h) k
logic_kept (assert_that items) ls rest h k = command_kept (gil.assert_that items) ls (semicolon ∷ rest) (refl, h) k
logic_kept (invariant_by_itself i) ls rest h k = command_kept (gil.loop_invariant i.names i.logicals i.items) ls (semicolon ∷ rest) (refl, h) k

pub invariant_named : (i : Option PureInvariant) (ls rest : List Lexeme) → SpellsInvariant i ls rest → Kept ls → IsTrue (has_source_invariant i) × Kept rest
invariant_named None ls rest is k = (refl, subst Kept is k)
invariant_named (Some i) ls rest (names, variables, block, is, a, b, d) k = (
  (names_named i.names names (closing_parenthesis ∷ variables) a (subst Kept is k)).0,
  command_kept (gil.loop_invariant i.names i.logicals i.items) ls rest (refl, (names, variables, block, is, a, b, d)) k,
)

-- ---- texts

-- functions whose names a test passes, where lexemes without '$' spell only such functions
module _ {F : Type 0} (spells : (ℕ → ℕ) → F → List Lexeme → List Lexeme → Type 0) (place : ℕ → ℕ) (is_source : F → Bool)
    (function_named : (f : F) (ls rest : List Lexeme) → spells place f ls rest → Kept ls → IsTrue (is_source f) × Kept rest) where
  abbrev AreNamed : List F → Type 0
  AreNamed fs = IsTrue (list_all is_source fs)

  item_named : (item : SourceItem F) (fs : List F) (ls after : List Lexeme) → SpellsSourceItem spells place item ls after → Kept ls → (Kept after → AreNamed fs)
      → AreNamed (cons_option (as_function item) fs)
  item_named (a_function f) fs ls after h k others =
      let p = function_named f ls after h k in
      and_from (is_source f) (list_all is_source fs) p.0 (others p.1)
  item_named (a_spec s) fs ls after h k others = others (kept_rest ls after (annotation_leaves (annotations.specification s) ls after h) k)
  item_named (a_pred d) fs ls after h k others = others (kept_rest ls after (annotation_leaves (annotations.predicate d) ls after h) k)

  pub items_named : (items : List (PlacedItem F)) (ls : List Lexeme) → SpellsItems spells place items ls → Kept ls → AreNamed (source_of items).functions
  items_named [] ls is k = refl
  items_named (i ∷ items) ls (after, one, at, more) k = item_named i.item (source_of items).functions ls after one k (λ kept. items_named items after more kept)
