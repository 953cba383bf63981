-- What a text spells compiles to a well made program, where its functions do.
use Rattle.std.proofs.Common.{◌≡◌, ℕ, Bool, true, List, [], ◌∷◌, map, Option, Some, None, refl, subst}
use Rattle.std.specs.List.{list_all, cons_option}
use Rattle.std.proofs.lemmas.Bool.{and_from, and_parts}
use Rattle.gil_lexemes.specs.declared.standing.Lexeme.{Lexeme}
use Rattle.gil_syntax.specs.Pure as gil
use Rattle.gil_syntax.specs.Pure.{PureProc, PureSpec, PurePredDef}
use Rattle.gil_syntax.specs.WellMade.{is_program_name, is_well_made_proc, is_well_made_spec, is_well_made_pred}
use Rattle.gil_grammar.specs.Texts.{byte_before}
use Rattle.gil_grammar.proofs.MadeLaws.{AreProper, Makes, command_makes, spec_makes, pred_makes, tokens_proper}
use Rattle.source_language.specs.Compiled.{invariant_code, logic_command}
use Rattle.source_language.specs.Procedures.{placed}
use Rattle.source_language.specs.Pure.{PureLogic, PureInvariant}
use Rattle.source_language.proofs.Made.{AreMade, made_one, made_invariant}
use Rattle.source_text.specs.Logic.{SpellsLogic, SpellsInvariant}
use Rattle.source_text.specs.Texts.{SourceItem, a_function, a_spec, a_pred, SpellsSourceItem, PlacedItem, SpellsItems, as_function, as_spec, as_pred, source_of, SpellItems}

-- a fact of what is spelled, and what follows is proper
pub record Spelled (Fact : Type 0) (rest : List Lexeme) : Type 0 where
  pub is : Fact
  pub proper : AreProper rest

pub invariant_makes : (i : Option PureInvariant) (ls rest : List Lexeme) → AreProper ls → SpellsInvariant i ls rest
    → Spelled ((at : ℕ) (more : List (List ℕ)) → list_all is_program_name more ≡ true → AreMade (invariant_code at more i)) rest
invariant_makes None ls rest p is = record { is = λ at more made. refl; proper = subst AreProper is p }
invariant_makes (Some i) ls rest p h =
    let read = command_makes (gil.loop_invariant i.names i.logicals i.items) ls rest p h in
    record { is = λ at more made. made_invariant at i.names more i.logicals i.items made read.is; proper = read.proper }

pub logic_makes : (c : PureLogic) (ls rest : List Lexeme) → AreProper ls → SpellsLogic c ls rest → Spelled ((at : ℕ) → AreMade (placed at (logic_command c) ∷ [])) rest
logic_makes c ls rest p h =
    let read = command_makes (logic_command c) ls _ p h in
    record { is = λ at. made_one at (logic_command c) read.is; proper = read.proper.1 }

-- ---- items

module _ {F : Type 0} (spells : (ℕ → ℕ) → F → List Lexeme → List Lexeme → Type 0) (compiled : F → PureProc)
    (function_makes : (place : ℕ → ℕ) → Makes (spells place) (λ f. is_well_made_proc (compiled f))) where
  abbrev is_well_made_item : SourceItem F → Bool
  is_well_made_item (a_function f) = is_well_made_proc (compiled f)
  is_well_made_item (a_spec s) = is_well_made_spec s
  is_well_made_item (a_pred d) = is_well_made_pred d

  item_makes : (place : ℕ → ℕ) → Makes (SpellsSourceItem spells place) is_well_made_item
  item_makes place (a_function f) ls rest p h = function_makes place f ls rest p h
  item_makes place (a_spec s) ls rest p h = spec_makes s ls rest p h
  item_makes place (a_pred d) ls rest p h = pred_makes d ls rest p h

  abbrev ItemsAreMade : List (PlacedItem F) → Type 0
  ItemsAreMade items = list_all (λ i. is_well_made_item i.item) items ≡ true

  items_make : (place : ℕ → ℕ) (items : List (PlacedItem F)) (ls : List Lexeme) → AreProper ls → SpellsItems spells place items ls → ItemsAreMade items
  items_make place [] ls p is = refl
  items_make place (i ∷ items) ls p (behind, one, at, more) =
      let made = item_makes place i.item ls behind p one in
      and_from _ _ made.is (items_make place items behind made.proper more)

  -- ---- the program of well made items

  function_kept : (item : SourceItem F) (rest : List F) → is_well_made_item item ≡ true → list_all is_well_made_proc (map compiled rest) ≡ true
      → list_all is_well_made_proc (map compiled (cons_option (as_function item) rest)) ≡ true
  function_kept (a_function f) rest e h = and_from _ _ e h
  function_kept (a_spec s) rest e h = h
  function_kept (a_pred d) rest e h = h

  functions_made : (items : List (PlacedItem F)) → ItemsAreMade items → list_all is_well_made_proc (map compiled (source_of items).functions) ≡ true
  functions_made [] e = refl
  functions_made (i ∷ items) e =
      let parts = and_parts (is_well_made_item i.item) _ e in
      function_kept i.item (source_of items).functions parts.0 (functions_made items parts.1)

  spec_kept : (item : SourceItem F) (rest : List PureSpec) → is_well_made_item item ≡ true → list_all is_well_made_spec rest ≡ true → list_all is_well_made_spec (cons_option (as_spec item) rest) ≡ true
  spec_kept (a_function f) rest e h = h
  spec_kept (a_spec s) rest e h = and_from _ _ e h
  spec_kept (a_pred d) rest e h = h

  specs_made : (items : List (PlacedItem F)) → ItemsAreMade items → list_all is_well_made_spec (source_of items).specs ≡ true
  specs_made [] e = refl
  specs_made (i ∷ items) e =
      let parts = and_parts (is_well_made_item i.item) _ e in
      spec_kept i.item (source_of items).specs parts.0 (specs_made items parts.1)

  pred_kept : (item : SourceItem F) (rest : List PurePredDef) → is_well_made_item item ≡ true → list_all is_well_made_pred rest ≡ true → list_all is_well_made_pred (cons_option (as_pred item) rest) ≡ true
  pred_kept (a_function f) rest e h = h
  pred_kept (a_spec s) rest e h = h
  pred_kept (a_pred d) rest e h = and_from _ _ e h

  preds_made : (items : List (PlacedItem F)) → ItemsAreMade items → list_all is_well_made_pred (source_of items).preds ≡ true
  preds_made [] e = refl
  preds_made (i ∷ items) e =
      let parts = and_parts (is_well_made_item i.item) _ e in
      pred_kept i.item (source_of items).preds parts.0 (preds_made items parts.1)

  -- the procedures, the specifications and the predicates of a text are well made
  pub record ListsAreMade (items : List (PlacedItem F)) : Type 0 where
    pub functions : list_all is_well_made_proc (map compiled (source_of items).functions) ≡ true
    pub specs : list_all is_well_made_spec (source_of items).specs ≡ true
    pub preds : list_all is_well_made_pred (source_of items).preds ≡ true

  pub text_makes : (is_nested : List Lexeme → Type 0) (bytes : List ℕ) (items : List (PlacedItem F)) → SpellItems is_nested spells bytes items → ListsAreMade items
  text_makes is_nested bytes items s =
      let made = items_make (byte_before s.tokens) items s.lexemes (tokens_proper bytes s.tokens s.lexemes s.text s.stand) s.spelled in
      record { functions = functions_made items made; specs = specs_made items made; preds = preds_made items made }
