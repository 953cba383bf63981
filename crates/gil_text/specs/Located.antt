-- The lists of a text as they are read, with the byte at which each item begins. The procedures of a text of GIL, or the functions of
-- one of a source language, are of any type.
use Rattle.std.specs.Prelude.{ℕ, List, [], ◌∷◌, ◌++◌, map, Option}
use Rattle.std.specs.List.{filter_map}
use Rattle.gil_syntax.specs.Pure.{PureProc, PureSpec, PurePredDef}
use Rattle.gil_syntax.specs.Valid.{ProgramItem, a_proc, a_spec, a_pred}
use Rattle.gil_syntax.specs.View.{proc_view, spec_view, pred_def_view}
use Rattle.gil_syntax.specs.declared.parts.Proc.{Proc}
use Rattle.gil_text.specs.declared.located.Located.{Located}
use Rattle.gil_text.specs.declared.located.TextItem.{TextItem}
use Rattle.gil_text.specs.declared.located.TextItem.TheVariants as items
use Rattle.gil_grammar.specs.Texts.{PlacedItem, as_proc, as_spec, as_pred, place_if}

-- ---- as they are built

abbrev pub no_items : {F : Type 0} → Located F
no_items = record { functions = []; specs = []; preds = []; functions_at = []; specs_at = []; preds_at = [] }

-- an item more, which begins at this byte
abbrev pub with_added : {F : Type 0} → Located F → TextItem F → ℕ → Located F
with_added l (items.Function f) at = record l { functions = l.functions ++ f ∷ []; functions_at = l.functions_at ++ at ∷ [] }
with_added l (items.Spec s) at = record l { specs = l.specs ++ s ∷ []; specs_at = l.specs_at ++ at ∷ [] }
with_added l (items.Pred d) at = record l { preds = l.preds ++ d ∷ []; preds_at = l.preds_at ++ at ∷ [] }

-- ---- as pure data

pub record PureLocated (F : Type 0) : Type 0 where
  pub functions : List F
  pub specs : List PureSpec
  pub preds : List PurePredDef
  pub functions_at : List ℕ
  pub specs_at : List ℕ
  pub preds_at : List ℕ

-- of procedures or functions that are seen by view
abbrev pub located_view : {F P : Type 0} → (F → P) → Located F → PureLocated P
located_view view l = record {
  functions = map view l.functions;
  specs = map spec_view l.specs;
  preds = map pred_def_view l.preds;
  functions_at = l.functions_at;
  specs_at = l.specs_at;
  preds_at = l.preds_at;
}

-- items, each of which is a function, a specification or a predicate, and begins at a byte
module _ {I F : Type 0} (as_function : I → Option F) (as_spec : I → Option PureSpec) (as_pred : I → Option PurePredDef) (begins : I → ℕ) where
  -- their lists, each in the order of the text
  abbrev pub lists_of : List I → PureLocated F
  lists_of is = record {
    functions = filter_map as_function is;
    specs = filter_map as_spec is;
    preds = filter_map as_pred is;
    functions_at = filter_map (λ i. place_if (begins i) (as_function i)) is;
    specs_at = filter_map (λ i. place_if (begins i) (as_spec i)) is;
    preds_at = filter_map (λ i. place_if (begins i) (as_pred i)) is;
  }

-- ---- of GIL

abbrev pub text_item_view : TextItem Proc → ProgramItem
text_item_view (items.Function q) = a_proc (proc_view q)
text_item_view (items.Spec s) = a_spec (spec_view s)
text_item_view (items.Pred d) = a_pred (pred_def_view d)

abbrev pub located_of : List PlacedItem → PureLocated PureProc
located_of is = lists_of (λ i. as_proc i.item) (λ i. as_spec i.item) (λ i. as_pred i.item) (λ i. i.at) is
