-- Why a text is refused, from what its readers answer.
use Rattle.std.proofs.Common.{◌≡◌, ◌≢◌, ◌+◌, ◌<◌, true, ℕ, suc, List, [], ◌∷◌, ◌++◌, length, map, Option, Some, None, refl, sym, ap, subst, arith, slice_get, length-append}
use Rattle.std.specs.Prelude.{option_map}
use Rattle.std.specs.List.{filter_map, cons_option}
use Rattle.std.proofs.lemmas.List.{length-map}
use Rattle.std.proofs.lemmas.Option.{slice_get_within, slice_get-get_or}
use Rattle.gil_syntax.specs.declared.validity.InvalidKind.{InvalidKind}
use Rattle.gil_syntax.specs.Pure.{PureProc, PureSpec, PurePredDef, PureParts}
use Rattle.gil_syntax.specs.Valid.{ProgramItem, a_proc, a_spec, a_pred, items_of, IsAtFault, IsNamedFault, IsValid}
use Rattle.gil_lexer.specs.declared.forms.Token.{Token}
use Rattle.gil_lexer.specs.declared.faults.LexKind.{LexKind}
use Rattle.gil_lexer.specs.declared.faults.LexKind.TheVariants as kinds
use Rattle.gil_lexer.specs.Faults.{StopsAt}
use Rattle.gil_lexer.specs.Texts.{AreTokensOf}
use Rattle.gil_lexer.proofs.TextLaws.{fault_or_tokens}
use Rattle.gil_lexemes.specs.declared.standing.Lexeme.{Lexeme}
use Rattle.gil_lexemes.specs.Lexemes.{StandForAll}
use Rattle.gil_grammar.specs.Nesting.{IsNested}
use Rattle.gil_grammar.specs.Texts.{PlacedItem, Spell, SpellProgram, as_proc, as_spec, as_pred, place_if, parts_of, places_of}
use Rattle.gil_grammar.specs.Reading.Texts.{program_at}
use Rattle.gil_syntax.specs.WellMade.{is_well_made}
use Rattle.gil_grammar.proofs.MadeLaws.{text_makes}
use Rattle.gil_grammar.proofs.TextLaws.{program_takes, program_again, nested_whole, spelled_as_read, one_program}
use Rattle.gil_text.specs.declared.refused.RefusedKind.{RefusedKind}
use Rattle.gil_text.specs.declared.refused.RefusedKind.TheVariants as refusals
use Rattle.gil_text.specs.Located.{PureLocated, located_of}
use Rattle.gil_text.specs.Refusals.{lexical, HasNoTokenAt, HasNoTokens, place_of, IsTokenPlace, IsTooDeep, IsRefusedFor}

pub lexical_refusal : (kind : LexKind) (bytes : List ℕ) (at : ℕ) → StopsAt kind at bytes → IsRefusedFor bytes at (lexical kind)
lexical_refusal kinds.Memory bytes at h = tt
lexical_refusal kinds.Byte bytes at h = (kinds.Byte, (λ e. cc), h)
lexical_refusal kinds.Open bytes at h = (kinds.Open, (λ e. cc), h)
lexical_refusal kinds.Escape bytes at h = (kinds.Escape, (λ e. cc), h)
lexical_refusal kinds.Wide bytes at h = (kinds.Wide, (λ e. cc), h)

pub no_tokens : (kind : LexKind) (bytes : List ℕ) (at : ℕ) → StopsAt kind at bytes → HasNoTokens bytes at (lexical kind)
no_tokens kinds.Memory bytes at h = tt
no_tokens kinds.Byte bytes at h = (kinds.Byte, (λ e. cc), h)
no_tokens kinds.Open bytes at h = (kinds.Open, (λ e. cc), h)
no_tokens kinds.Escape bytes at h = (kinds.Escape, (λ e. cc), h)
no_tokens kinds.Wide bytes at h = (kinds.Wide, (λ e. cc), h)

-- a text in which no token stands somewhere is no tokens
pub none_or_tokens : (bytes : List ℕ) (at : ℕ) (tokens : List Token) → HasNoTokenAt bytes at → AreTokensOf tokens bytes → ⊥
none_or_tokens bytes at tokens (kind, real, stops) text = fault_or_tokens kind at bytes tokens real stops text

map_some : {X Y : Type 0} (f : X → Y) (o : Option X) (y : Y) → option_map f o ≡ Some y → (x : X) × (o ≡ Some x) × (f x ≡ y)
map_some f (Some x) y e = (x, refl, cc)
map_some f None y e = absurd cc

map_none : {X Y : Type 0} (f : X → Y) (o : Option X) → option_map f o ≡ None → o ≡ None
map_none f (Some x) e = absurd cc
map_none f None e = refl

-- the items that were read are those of the text
pub items_spell : (bytes : List ℕ) (tokens : List Token) (ls : List Lexeme) (located : PureLocated PureProc) → AreTokensOf tokens bytes → StandForAll bytes tokens ls → IsNested ls
    → option_map located_of (program_at tokens ls) ≡ Some located → (items : List PlacedItem) × Spell bytes items × (located ≡ located_of items)
items_spell bytes tokens ls located text stand nested e =
    let found = map_some located_of (program_at tokens ls) located e in
    let spelled = program_takes tokens ls found.0 found.1 in
    (found.0, record { tokens = tokens; lexemes = ls; text = text; stand = stand; nested = nested; spelled = spelled.0; first = spelled.1 }, sym found.2)

-- a text in which too many brackets are open
pub nesting_refusal : (bytes : List ℕ) (tokens : List Token) (ls : List Lexeme) (left at : ℕ) → AreTokensOf tokens bytes → StandForAll bytes tokens ls → IsTooDeep IsNested ls left
    → at ≡ place_of bytes tokens left → IsRefusedFor bytes at refusals.Nesting
nesting_refusal bytes tokens ls left at text stand deep place = (tokens, ls, record { text = text; stand = stand }, (left, deep, place))

-- a text without items
pub syntax_refusal : (bytes : List ℕ) (tokens : List Token) (ls : List Lexeme) (at : ℕ) → AreTokensOf tokens bytes → StandForAll bytes tokens ls → IsNested ls
    → option_map located_of (program_at tokens ls) ≡ None → IsTokenPlace bytes tokens at → IsRefusedFor bytes at refusals.Syntax
syntax_refusal bytes tokens ls at text stand nested e place =
    let none = map_none located_of (program_at tokens ls) e in (
      tokens,
      ls,
      record { text = text; stand = stand },
      nested,
      (λ items spells first. let some = program_again tokens ls items (nested_whole ls nested) spells first in cc (none, some)),
      place,
    )

-- ---- what excludes what

-- a text of a valid program is refused for want of memory alone
pub no_refusal : (bytes : List ℕ) (at : ℕ) (kind : RefusedKind) (program : PureParts) → IsRefusedFor bytes at kind → SpellProgram bytes program → IsValid program → kind ≡ refusals.Memory
no_refusal bytes at refusals.Lex program h (items, s, is) valid = absurd (none_or_tokens bytes at s.tokens h s.text)
no_refusal bytes at refusals.Nesting program (tokens, ls, are, (left, deep, place)) (items, s, is) valid = absurd (deep.whole (spelled_as_read bytes tokens ls items are.text are.stand s).0)
no_refusal bytes at refusals.Syntax program (tokens, ls, are, nested, none, place) (items, s, is) valid =
    let spelled = spelled_as_read bytes tokens ls items are.text are.stand s in
    absurd (none items spelled.1 spelled.2)
no_refusal bytes at (refusals.Invalid kind) program (items, i, s, named, place) spells valid =
    let same : parts_of items ≡ program = one_program bytes (parts_of items) program (items, s, refl) spells in
    absurd (valid kind i (subst (λ (p : PureParts). IsAtFault p kind i) same named.at_fault))
no_refusal bytes at refusals.Limit program h spells valid = absurd h
no_refusal bytes at refusals.Entry program h spells valid = absurd h
no_refusal bytes at refusals.Modes program h spells valid = absurd h
no_refusal bytes at refusals.Memory program h spells valid = refl

-- ---- the place of an item at fault

place_of_kept : (at : ℕ) (X : Type 0) (o : Option X) (places : List ℕ) (xs : List X) → length places ≡ length xs → length (cons_option (place_if at o) places) ≡ length (cons_option o xs)
place_of_kept at X (Some x) places xs e = ap suc e
place_of_kept at X None places xs e = e

places_count : (X : Type 0) (as_thing : ProgramItem → Option X) (items : List PlacedItem)
    → length (filter_map (λ (i : PlacedItem). place_if i.at (as_thing i.item)) items) ≡ length (filter_map (λ (i : PlacedItem). as_thing i.item) items)
places_count X as_thing [] = refl
places_count X as_thing (i ∷ items) = place_of_kept i.at X (as_thing i.item) _ _ (places_count X as_thing items)

item_count : (items : List PlacedItem) → length (places_of items) ≡ length (items_of (parts_of items))
item_count items =
    let p = parts_of items in
    let procs_at = filter_map (λ (i : PlacedItem). place_if i.at (as_proc i.item)) items in
    let specs_at = filter_map (λ (i : PlacedItem). place_if i.at (as_spec i.item)) items in
    let preds_at = filter_map (λ (i : PlacedItem). place_if i.at (as_pred i.item)) items in
    let left : length (procs_at ++ specs_at ++ preds_at) ≡ length procs_at + length specs_at + length preds_at =
    omega (arith, length-append (procs_at ++ specs_at) preds_at, length-append procs_at specs_at) in
    let right : length (map a_proc p.procs ++ map a_spec p.specs ++ map a_pred p.preds) ≡ length p.procs + length p.specs + length p.preds =
    omega (
      arith,
      length-append (map a_proc p.procs ++ map a_spec p.specs) (map a_pred p.preds),
      length-append (map a_proc p.procs) (map a_spec p.specs),
      length-map p.procs a_proc,
      length-map p.specs a_spec,
      length-map p.preds a_pred,
    ) in
    omega (arith, left, right, places_count PureProc as_proc items, places_count PureSpec as_spec items, places_count PurePredDef as_pred items)

at_fault_within : (p : PureParts) (kind : InvalidKind) (i : ℕ) (o : Option ProgramItem) → slice_get (items_of p) i ≡ o → IsAtFault p kind i → i < length (items_of p)
at_fault_within p kind i (Some item) e h = slice_get_within (items_of p) i item e
at_fault_within p kind i None e h = absurd (let none = rw e at h in cc none)

-- an item at fault has a place
pub no_place : (items : List PlacedItem) (kind : InvalidKind) (i : ℕ) → IsNamedFault (parts_of items) kind i → slice_get (places_of items) i ≡ None → ⊥
no_place items kind i named none =
    let within = at_fault_within (parts_of items) kind i _ refl named.at_fault in
    let some = slice_get-get_or (places_of items) i 0 (omega (arith, within, item_count items)) in
    cc (none, some)

-- ---- programs

-- the parts of the lists
abbrev pub located_parts : PureLocated PureProc → PureParts
located_parts l = record { procs = l.functions; specs = l.specs; preds = l.preds }

-- the parts that were read are well made, and of one program
pub located_makes : (bytes : List ℕ) (located : PureLocated PureProc) (items : List PlacedItem) → Spell bytes items → located ≡ located_of items → is_well_made (located_parts located) ≡ true
located_makes bytes located items s is = rw is (text_makes bytes items s)

pub located_spells : (bytes : List ℕ) (located : PureLocated PureProc) (items : List PlacedItem) → Spell bytes items → located ≡ located_of items → SpellProgram bytes (located_parts located)
located_spells bytes located items s is = (items, s, ap (λ (l : PureLocated PureProc). located_parts l) (sym is))

-- an item at fault has a place in the lists that were read
pub located_place : (located : PureLocated PureProc) (items : List PlacedItem) (kind : InvalidKind) (i : ℕ) → located ≡ located_of items → IsNamedFault (located_parts located) kind i
    → slice_get (located.functions_at ++ located.specs_at ++ located.preds_at) i ≡ None → ⊥
located_place located items kind i is named none =
    let named' : IsNamedFault (parts_of items) kind i = subst (λ (l : PureLocated PureProc). IsNamedFault (located_parts l) kind i) is named in
    let none' : slice_get (places_of items) i ≡ None = subst (λ (l : PureLocated PureProc). slice_get (l.functions_at ++ l.specs_at ++ l.preds_at) i ≡ None) is none in
    no_place items kind i named' none'

-- the refusal of a text whose program has a fault
pub fault_refusal : (located : PureLocated PureProc) (items : List PlacedItem) (kind : InvalidKind) (i : ℕ) → located ≡ located_of items → IsNamedFault (located_parts located) kind i
    → (bytes : List ℕ) (at : ℕ) → Spell bytes items → slice_get (located.functions_at ++ located.specs_at ++ located.preds_at) i ≡ Some at → IsRefusedFor bytes at (refusals.Invalid kind)
fault_refusal located items kind i is named bytes at s some = (
  items,
  i,
  s,
  subst (λ (l : PureLocated PureProc). IsNamedFault (located_parts l) kind i) is named,
  subst (λ (l : PureLocated PureProc). slice_get (l.functions_at ++ l.specs_at ++ l.preds_at) i ≡ Some at) is some,
)

-- a program with a fault that is named isn't valid
pub named_is_invalid : (p program : PureParts) (kind : InvalidKind) (i : ℕ) → p ≡ program → IsNamedFault p kind i → IsValid program → ⊥
named_is_invalid p program kind i same named valid = valid kind i (subst (λ (q : PureParts). IsAtFault q kind i) same named.at_fault)
