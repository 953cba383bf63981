-- What is read of a text is what it spells, and a text that is refused spells nothing.
use Rattle.std.proofs.Common.{◌≡◌, ℕ, suc, ◌+◌, ◌<◌, List, [], ◌∷◌, ◌++◌, length, slice_get, Option, Some, None, refl, sym, ap, ◌∙◌, subst, arith, length-append}
use Rattle.std.specs.Prelude.{option_map, IsTrue}
use Rattle.std.specs.List.{filter_map, cons_option}
use Rattle.std.proofs.lemmas.Option.{slice_get_within, slice_get-get_or}
use Rattle.gil_lexer.specs.declared.forms.Token.{Token}
use Rattle.gil_lexer.specs.declared.words.Word.{Word}
use Rattle.gil_lexer.specs.Texts.{AreTokensOf}
use Rattle.gil_lexemes.specs.declared.standing.Lexeme.{Lexeme}
use Rattle.gil_lexemes.specs.declared.stops.Stop.{Stop}
use Rattle.gil_lexemes.specs.declared.stops.Stop.TheVariants as stops
use Rattle.gil_lexemes.specs.Lexemes.{StandForAll}
use Rattle.gil_lexemes.specs.Reading.{Reading, Fails}
use Rattle.gil_syntax.specs.declared.validity.InvalidKind.{InvalidKind}
use Rattle.gil_syntax.specs.Pure.{PureSpec, PurePredDef, PureParts}
use Rattle.gil_syntax.specs.Valid.{ProgramItem, items_of}
use Rattle.gil_syntax.specs.Uncounted.{fault_but_length_at, IsNamedButLength}
use Rattle.gil_grammar.specs.Nesting.{IsNested}
use Rattle.gil_grammar.specs.Texts.{byte_before, place_if}
use Rattle.gil_text.specs.declared.refused.RefusedKind.{RefusedKind}
use Rattle.gil_text.specs.declared.refused.RefusedKind.TheVariants as refusals
use Rattle.gil_text.specs.Located.{PureLocated}
use Rattle.gil_text.specs.Refusals.{HasNoTokens, place_of, IsTokenPlace, IsTooDeep}
use Rattle.gil_text.proofs.RefusalLemmas.{none_or_tokens}
use Rattle.source_language.specs.Pure.{PureSource}
use Rattle.source_text.specs.Grammar.{HasReading}
use Rattle.source_text.specs.Located.{located_of}
use Rattle.source_text.specs.Reading.{source_at}
use Rattle.source_text.specs.Refusals.{kind_of, SpellsNoTree, places_of, IsRefusedFor}
use Rattle.source_text.specs.Texts.{SourceItem, PlacedItem, SpellItems, as_function, as_spec, as_pred, source_of, SpellSource}
use Rattle.source_text.specs.Vocabulary.{are_source_lexemes}
use Rattle.source_text.proofs.TextLaws.{source_takes, source_again, nested_whole, spelled_as_read, one_reading}

-- the source of the lists
abbrev pub located_source : {P : Type 0} → PureLocated P → PureSource P
located_source l = record { functions = l.functions; specs = l.specs; preds = l.preds }

map_some : {X Y : Type 0} (f : X → Y) (o : Option X) (y : Y) → option_map f o ≡ Some y → (x : X) × (o ≡ Some x) × (f x ≡ y)
map_some f (Some x) y e = (x, refl, cc)
map_some f None y e = absurd cc

map_none : {X Y : Type 0} (f : X → Y) (o : Option X) → option_map f o ≡ None → o ≡ None
map_none f (Some x) e = absurd cc
map_none f None e = refl

module _ {F : Type 0} (is_nested : List Lexeme → Type 0) (spells : (ℕ → ℕ) → F → List Lexeme → List Lexeme → Type 0) where
  -- bytes without tokens
  pub lexical : (bytes : List ℕ) (at : ℕ) (kind : RefusedKind) → HasNoTokens bytes at kind → SpellsNoTree is_nested spells bytes at kind
  lexical bytes at refusals.Lex h = h
  lexical bytes at refusals.Memory h = tt
  lexical bytes at refusals.Nesting h = absurd h
  lexical bytes at refusals.Syntax h = absurd h
  lexical bytes at (refusals.Invalid kind) h = absurd h
  lexical bytes at refusals.Limit h = absurd h
  lexical bytes at refusals.Entry h = absurd h
  lexical bytes at refusals.Modes h = absurd h

  module _ (bytes : List ℕ) (tokens : List Token) (ls : List Lexeme) (text : AreTokensOf tokens bytes) (stand : StandForAll bytes tokens ls) where
    -- they nest too deep
    pub nesting_refusal : (left at : ℕ) → IsTooDeep is_nested ls left → at ≡ place_of bytes tokens left → SpellsNoTree is_nested spells bytes at refusals.Nesting
    nesting_refusal left at deep place = (tokens, ls, record { text = text; stand = stand }, (left, deep, place))

    -- a name with a '$'
    pub name_refusal : (at : ℕ) → IsTokenPlace bytes tokens at → is_nested ls → (IsTrue (are_source_lexemes ls) → ⊥) → SpellsNoTree is_nested spells bytes at refusals.Syntax
    name_refusal at place nested foreign = (tokens, ls, record { text = text; stand = stand }, nested, (λ items spelled first names. foreign names), place)

    module _ (bracketed : (l : List Lexeme) → is_nested l → IsNested l) (first : Word) (function_at : (ℕ → ℕ) → List Lexeme → Reading F)
        (reading : HasReading first spells function_at) where
      abbrev Read : Option (List (PlacedItem F))
      Read = source_at first function_at (byte_before tokens) ls

      -- the items that were read are those of the text
      pub items_spell : (located : PureLocated F) → is_nested ls → IsTrue (are_source_lexemes ls) → option_map located_of Read ≡ Some located
          → (items : List (PlacedItem F)) × SpellItems is_nested spells bytes items × (located ≡ located_of items)
      items_spell located nested names e =
          let found = map_some located_of Read located e in
          let spelled = source_takes first spells function_at reading (byte_before tokens) ls found.0 found.1 in (
            found.0,
            record { tokens = tokens; lexemes = ls; text = text; stand = stand; nested = nested; names = names; spelled = spelled.0; first = spelled.1 },
            sym found.2,
          )

      -- no items
      pub syntax_refusal : (at : ℕ) → IsTokenPlace bytes tokens at → is_nested ls → option_map located_of Read ≡ None → SpellsNoTree is_nested spells bytes at refusals.Syntax
      syntax_refusal at place nested e =
          let none = map_none located_of Read e in (
            tokens,
            ls,
            record { text = text; stand = stand },
            nested,
            (λ items spelled begins names.
                let some = source_again first spells function_at reading (byte_before tokens) ls items (nested_whole ls (bracketed ls nested)) spelled begins in cc (none, some)),
            place,
          )

      -- a reader that stops
      pub stop_refusal : (at : ℕ) → IsTokenPlace bytes tokens at → is_nested ls → (stop : Stop) → Fails stop (option_map located_of Read) → SpellsNoTree is_nested spells bytes at (kind_of stop)
      stop_refusal at place nested stops.Memory e = tt
      stop_refusal at place nested (stops.Syntax left) e = syntax_refusal at place nested e

  -- a text of trees is refused for want of memory alone
  pub no_refusal : (bytes : List ℕ) (at : ℕ) (kind : RefusedKind) (source : PureSource F) → SpellsNoTree is_nested spells bytes at kind → SpellSource is_nested spells bytes source → kind ≡ refusals.Memory
  no_refusal bytes at refusals.Lex source h (items, s, is) = absurd (none_or_tokens bytes at s.tokens h s.text)
  no_refusal bytes at refusals.Nesting source (tokens, ls, are, (left, deep, place)) (items, s, is) = absurd (deep.whole (spelled_as_read is_nested spells bytes tokens ls items are.text are.stand s).nested)
  no_refusal bytes at refusals.Syntax source (tokens, ls, are, nested, none, place) (items, s, is) =
      let so = spelled_as_read is_nested spells bytes tokens ls items are.text are.stand s in
      absurd (none items so.spelled so.first so.names)
  no_refusal bytes at (refusals.Invalid kind) source h spelled = absurd h
  no_refusal bytes at refusals.Limit source h spelled = absurd h
  no_refusal bytes at refusals.Entry source h spelled = absurd h
  no_refusal bytes at refusals.Modes source h spelled = absurd h
  no_refusal bytes at refusals.Memory source h spelled = refl

  -- the trees that were read are the text's, and no others are
  pub located_spells : (bytes : List ℕ) (located : PureLocated F) (items : List (PlacedItem F)) → SpellItems is_nested spells bytes items → located ≡ located_of items
      → SpellSource is_nested spells bytes (located_source located)
  located_spells bytes located items s is = (items, s, ap (λ (l : PureLocated F). located_source l) (sym is))

  pub one_source : ((ls : List Lexeme) → is_nested ls → IsNested ls) → (first : Word) (function_at : (ℕ → ℕ) → List Lexeme → Reading F) → HasReading first spells function_at
      → (bytes : List ℕ) (source other : PureSource F) → SpellSource is_nested spells bytes source → SpellSource is_nested spells bytes other → source ≡ other
  one_source bracketed first function_at reading bytes source other (items, s, is) (others, t, are) =
      sym is ∙ ap source_of (one_reading is_nested spells bracketed first function_at reading bytes items others s t) ∙ are

  -- a text without trees is refused as one of a source
  pub tree_refusal : (compiled : PureSource F → PureParts) (besides bytes : List ℕ) (at : ℕ) (kind : RefusedKind) → SpellsNoTree is_nested spells bytes at kind
      → IsRefusedFor is_nested spells compiled besides bytes at kind
  tree_refusal compiled besides bytes at refusals.Lex h = h
  tree_refusal compiled besides bytes at refusals.Nesting h = h
  tree_refusal compiled besides bytes at refusals.Syntax h = h
  tree_refusal compiled besides bytes at (refusals.Invalid kind) h = absurd h
  tree_refusal compiled besides bytes at refusals.Limit h = h
  tree_refusal compiled besides bytes at refusals.Entry h = h
  tree_refusal compiled besides bytes at refusals.Modes h = h
  tree_refusal compiled besides bytes at refusals.Memory h = h

-- ---- the place of an item at fault

place_of_kept : (at : ℕ) (X : Type 0) (o : Option X) (places : List ℕ) (xs : List X) → length places ≡ length xs → length (cons_option (place_if at o) places) ≡ length (cons_option o xs)
place_of_kept at X (Some x) places xs e = ap suc e
place_of_kept at X None places xs e = e

fault_within : (p : PureParts) (kind : InvalidKind) (i : ℕ) (o : Option ProgramItem) → slice_get (items_of p) i ≡ o → IsTrue (fault_but_length_at p kind i) → i < length (items_of p)
fault_within p kind i (Some item) e h = slice_get_within (items_of p) i item e
fault_within p kind i None e h = absurd (let none = rw e at h in cc none)

-- a program that has the items of its source, and those that every program of the language has besides
module _ {F : Type 0} (compiled : PureSource F → PureParts) (besides : List ℕ)
    (counted : (s : PureSource F) → length (items_of (compiled s)) ≡ length s.functions + length besides + length s.specs + length s.preds) where
  places_count : (X : Type 0) (as_thing : SourceItem F → Option X) (items : List (PlacedItem F))
      → length (filter_map (λ (i : PlacedItem F). place_if i.at (as_thing i.item)) items) ≡ length (filter_map (λ (i : PlacedItem F). as_thing i.item) items)
  places_count X as_thing [] = refl
  places_count X as_thing (i ∷ items) = place_of_kept i.at X (as_thing i.item) _ _ (places_count X as_thing items)

  item_count : (items : List (PlacedItem F)) → length (places_of besides items) ≡ length (items_of (compiled (source_of items)))
  item_count items =
      let functions_at = filter_map (λ (i : PlacedItem F). place_if i.at (as_function i.item)) items in
      let specs_at = filter_map (λ (i : PlacedItem F). place_if i.at (as_spec i.item)) items in
      let preds_at = filter_map (λ (i : PlacedItem F). place_if i.at (as_pred i.item)) items in
      omega (
        arith,
        length-append (functions_at ++ (besides ++ specs_at)) preds_at,
        length-append functions_at (besides ++ specs_at),
        length-append besides specs_at,
        counted (source_of items),
        places_count F as_function items,
        places_count PureSpec as_spec items,
        places_count PurePredDef as_pred items,
      )

  -- an item at fault has a place
  no_place : (items : List (PlacedItem F)) (kind : InvalidKind) (i : ℕ) → IsNamedButLength (compiled (source_of items)) kind i → slice_get (places_of besides items) i ≡ None → ⊥
  no_place items kind i named none =
      let within = fault_within (compiled (source_of items)) kind i _ refl named.at_fault in
      let some = slice_get-get_or (places_of besides items) i 0 (omega (arith, within, item_count items)) in
      cc (none, some)

  module _ (located : PureLocated F) (items : List (PlacedItem F)) (kind : InvalidKind) (i : ℕ) (is : located ≡ located_of items)
      (named : IsNamedButLength (compiled (located_source located)) kind i) where
    abbrev places : PureLocated F → List ℕ
    places l = l.functions_at ++ (besides ++ l.specs_at) ++ l.preds_at

    named_of_items : IsNamedButLength (compiled (source_of items)) kind i
    named_of_items = subst (λ (l : PureLocated F). IsNamedButLength (compiled (located_source l)) kind i) is named

    pub located_place : slice_get (places located) i ≡ None → ⊥
    located_place none = no_place items kind i named_of_items (subst (λ (l : PureLocated F). slice_get (places l) i ≡ None) is none)

    pub fault_refusal : (is_nested : List Lexeme → Type 0) (spells : (ℕ → ℕ) → F → List Lexeme → List Lexeme → Type 0) (bytes : List ℕ) (at : ℕ) → SpellItems is_nested spells bytes items
        → slice_get (places located) i ≡ Some at → IsRefusedFor is_nested spells compiled besides bytes at (refusals.Invalid kind)
    fault_refusal is_nested spells bytes at s some =
        (items, i, s, named_of_items, subst (λ (l : PureLocated F). slice_get (places l) i ≡ Some at) is some)
