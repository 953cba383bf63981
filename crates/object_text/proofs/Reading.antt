-- What is read of a text names what sources name and compiles to a well made program, whose items are counted as those of the text.
use Rattle.std.proofs.Common.{◌≡◌, ℕ, ◌+◌, List, [], ◌∷◌, ◌++◌, map, length, slice_get, Option, sym, ap, ◌∙◌, subst, arith, length-append, append_assoc}
use Rattle.std.specs.Prelude.{IsTrue}
use Rattle.std.specs.List.{list_all}
use Rattle.std.proofs.lemmas.List.{length-map}
use Rattle.gil_syntax.specs.declared.validity.InvalidKind.{InvalidKind}
use Rattle.gil_syntax.specs.Valid.{a_proc, a_spec, a_pred, items_of}
use Rattle.gil_syntax.specs.WellMade.{is_well_made}
use Rattle.gil_syntax.specs.Uncounted.{fault_but_length_at, IsNamedButLength}
use Rattle.operator_text.specs.Few.{IsNestedWithFew}
use Rattle.gil_text.specs.Located.{PureLocated}
use Rattle.source_text.specs.Located.{located_of}
use Rattle.source_text.proofs.RefusalLemmas.{located_source, located_spells}
use Rattle.object_lang.specs.Names.{is_source_function}
use Rattle.object_lang.specs.Pure.{PureFunction, PureSource}
use Rattle.object_grammar.specs.Functions.{SpellsFunction}
use Rattle.object_grammar.specs.Texts.{PlacedItem, SpellItems, SpellSource}
use Rattle.object_grammar.proofs.TextLaws.{source_named}
use Rattle.object_operators.specs.Library.{get_proc}
use Rattle.object_lang.specs.Resolved.{resolved_function, resolved}
use Rattle.object_compiler.specs.Compiled.{compiled_function, compiled}
use Rattle.object_compiler.specs.Valid.{IsValidSource}
use Rattle.object_compiler.proofs.Fitting.{program_is_valid}
use Rattle.object_text.proofs.TextMade.{source_makes}

-- the functions that were read name what source texts can name
pub names_hold : (bytes : List ℕ) (located : PureLocated PureFunction) (items : List PlacedItem) → SpellItems bytes items → located ≡ located_of items
    → IsTrue (list_all (λ f. is_source_function f) located.functions)
names_hold bytes located items s is = source_named bytes (located_source located) (located_spells IsNestedWithFew SpellsFunction bytes located items s is)

pub makes_hold : (bytes : List ℕ) (located : PureLocated PureFunction) (items : List PlacedItem) → SpellItems bytes items → located ≡ located_of items
    → IsTrue (is_well_made (compiled (located_source located)))
makes_hold bytes located items s is = source_makes bytes (located_source located) (located_spells IsNestedWithFew SpellsFunction bytes located items s is)

-- a source of a text with a fault that is named isn't valid
pub named_is_invalid : (bytes : List ℕ) (p source : PureSource) (kind : InvalidKind) (i : ℕ) → SpellSource bytes source → p ≡ source → IsNamedButLength (compiled p) kind i → IsValidSource source → ⊥
named_is_invalid bytes p source kind i spells same named valid =
    program_is_valid source (source_named bytes source spells) valid kind i (subst (λ (q : PureSource). IsTrue (fault_but_length_at (compiled q) kind i)) same named.at_fault)

-- the items of a program are those of its source, and the procedure that reads properties
pub counted : (n : ℕ) (s : PureSource) → length (items_of (compiled s)) ≡ length s.functions + length (n ∷ []) + length s.specs + length s.preds
counted n s = omega (
  arith,
  length-append (map a_proc (compiled s).procs ++ map a_spec s.specs) (map a_pred s.preds),
  length-append (map a_proc (compiled s).procs) (map a_spec s.specs),
  length-map (compiled s).procs a_proc,
  length-append (map compiled_function (resolved s).functions) (get_proc ∷ []),
  length-map (resolved s).functions compiled_function,
  length-map s.functions (λ f. resolved_function s.functions f),
  length-map s.specs a_spec,
  length-map s.preds a_pred,
)

-- the procedure that reads properties has its place behind those of the functions
pub behind_functions : (functions specs preds : List ℕ) (n i : ℕ) (found : Option ℕ) → found ≡ slice_get ((functions ++ n ∷ []) ++ specs ++ preds) i
    → slice_get (functions ++ ((n ∷ []) ++ specs) ++ preds) i ≡ found
behind_functions functions specs preds n i found is = sym (is ∙ ap (λ places. slice_get (places ++ preds) i) (append_assoc functions (n ∷ []) specs))
