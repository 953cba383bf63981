-- What a text spells compiles to a well made program.
use Rattle.std.proofs.Common.{◌≡◌, ℕ, Bool, true, List, [], ◌∷◌, refl, subst}
use Rattle.std.specs.List.{list_all, cons_option}
use Rattle.std.proofs.lemmas.Bool.{and_from, and_parts}
use Rattle.gil_lexemes.specs.declared.standing.Lexeme.{Lexeme}
use Rattle.gil_syntax.specs.Pure.{PureSpec, PurePredDef}
use Rattle.gil_syntax.specs.WellMade.{is_program_name, is_well_made_spec, is_well_made_pred, is_well_made}
use Rattle.gil_grammar.specs.Commands.{SpellsName}
use Rattle.gil_grammar.specs.Texts.{byte_before}
use Rattle.gil_grammar.specs.Vocabulary.{closing_parenthesis, closing_brace, comma}
use Rattle.gil_grammar.proofs.MadeLaws.{AreProper, Makes, after, separated_make, name_makes, spec_makes, pred_makes, tokens_proper}
use Rattle.source_operators.proofs.Making.{is_made_expression}
use Rattle.source_text.specs.Texts.{SourceItem, a_function, a_spec, a_pred, SpellsSourceItem, SpellsItems, as_function, as_spec, as_pred, source_of}
use Rattle.statement_text.proofs.StatementsMade.{statements_made}
use Rattle.object_lang.specs.Pure.{PureFunction, PureSource}
use Rattle.object_compiler.specs.Compiled.{compiled}
use Rattle.object_compiler.proofs.WellMade.{is_made_simple, is_made_function, made_procedures}
use Rattle.object_grammar.specs.Functions.{object_spellings, SpellsFunction}
use Rattle.object_grammar.specs.Texts.{PlacedItem, SpellSource}
use Rattle.object_text.proofs.SimpleMade.{expression_makes, simple_makes}

function_makes : (place : ℕ → ℕ) → Makes (SpellsFunction place) is_made_function
function_makes place f ls rest p (params, block, at, is, a, (inner, opens, b)) =
    let front = subst AreProper is p in
    let names = separated_make SpellsName is_program_name name_makes comma f.params params (closing_parenthesis ∷ block) front.1.1.1 a in
    let body = statements_made object_spellings is_made_expression is_made_simple expression_makes simple_makes place f.body inner (closing_brace ∷ rest)
    (after _ block inner opens names.proper.1) b in
    record { is = and_from _ _ names.is body.is; proper = body.proper.1 }

-- ---- items

abbrev is_made_item : SourceItem PureFunction → Bool
is_made_item (a_function f) = is_made_function f
is_made_item (a_spec s) = is_well_made_spec s
is_made_item (a_pred d) = is_well_made_pred d

item_makes : (place : ℕ → ℕ) → Makes (SpellsSourceItem SpellsFunction place) is_made_item
item_makes place (a_function f) ls rest p h = function_makes place f ls rest p h
item_makes place (a_spec s) ls rest p h = spec_makes s ls rest p h
item_makes place (a_pred d) ls rest p h = pred_makes d ls rest p h

abbrev AreMadeItems : List PlacedItem → Type 0
AreMadeItems items = list_all (λ i. is_made_item i.item) items ≡ true

items_make : (place : ℕ → ℕ) (items : List PlacedItem) (ls : List Lexeme) → AreProper ls → SpellsItems SpellsFunction place items ls → AreMadeItems items
items_make place [] ls p is = refl
items_make place (i ∷ items) ls p (behind, one, at, more) =
    let made = item_makes place i.item ls behind p one in
    and_from _ _ made.is (items_make place items behind made.proper more)

function_kept : (item : SourceItem PureFunction) (rest : List PureFunction) → is_made_item item ≡ true → list_all is_made_function rest ≡ true
    → list_all is_made_function (cons_option (as_function item) rest) ≡ true
function_kept (a_function f) rest e h = and_from _ _ e h
function_kept (a_spec s) rest e h = h
function_kept (a_pred d) rest e h = h

spec_kept : (item : SourceItem PureFunction) (rest : List PureSpec) → is_made_item item ≡ true → list_all is_well_made_spec rest ≡ true
    → list_all is_well_made_spec (cons_option (as_spec item) rest) ≡ true
spec_kept (a_function f) rest e h = h
spec_kept (a_spec s) rest e h = and_from _ _ e h
spec_kept (a_pred d) rest e h = h

pred_kept : (item : SourceItem PureFunction) (rest : List PurePredDef) → is_made_item item ≡ true → list_all is_well_made_pred rest ≡ true
    → list_all is_well_made_pred (cons_option (as_pred item) rest) ≡ true
pred_kept (a_function f) rest e h = h
pred_kept (a_spec s) rest e h = h
pred_kept (a_pred d) rest e h = and_from _ _ e h

-- the functions, the specifications and the predicates of a text are well made
record AreLists (items : List PlacedItem) : Type 0 where
  functions : list_all is_made_function (source_of items).functions ≡ true
  specs : list_all is_well_made_spec (source_of items).specs ≡ true
  preds : list_all is_well_made_pred (source_of items).preds ≡ true

lists_made : (items : List PlacedItem) → AreMadeItems items → AreLists items
lists_made [] e = record { functions = refl; specs = refl; preds = refl }
lists_made (i ∷ items) e =
    let parts = and_parts (is_made_item i.item) _ e in
    let others = lists_made items parts.1 in
    record {
      functions = function_kept i.item (source_of items).functions parts.0 others.functions;
      specs = spec_kept i.item (source_of items).specs parts.0 others.specs;
      preds = pred_kept i.item (source_of items).preds parts.0 others.preds;
    }

-- what a text spells compiles to a well made program
pub source_makes : (bytes : List ℕ) (source : PureSource) → SpellSource bytes source → is_well_made (compiled source) ≡ true
source_makes bytes source (items, s, is) =
    let made = lists_made items (items_make (byte_before s.tokens) items s.lexemes (tokens_proper bytes s.tokens s.lexemes s.text s.stand) s.spelled) in
    subst (λ (written : PureSource). is_well_made (compiled written) ≡ true) is
    (and_from _ _ (and_from _ _ (made_procedures (source_of items) made.functions) made.specs) made.preds)
