-- Lists of items with one more.
use Rattle.std.proofs.Common.{◌≡◌, ℕ, List, [], ◌∷◌, ◌++◌, map, Option, Some, None, refl, ap, ◌∙◌}
use Rattle.std.specs.Prelude.{option_to_list}
use Rattle.std.specs.List.{filter_map}
use Rattle.std.proofs.lemmas.List.{append-nil, map_push}
use Rattle.std.proofs.lemmas.List.Elements.{filter_map-append}
use Rattle.gil_syntax.specs.Pure.{PureSpec, PurePredDef}
use Rattle.gil_syntax.specs.View.{spec_view, pred_def_view}
use Rattle.gil_grammar.specs.Texts.{place_if}
use Rattle.gil_text.specs.declared.located.Located.{Located}
use Rattle.gil_text.specs.declared.located.TextItem.{TextItem}
use Rattle.gil_text.specs.declared.located.TextItem.TheVariants as items
use Rattle.gil_text.specs.Located.{PureLocated, with_added, located_view, lists_of}

one_kept : {X Y : Type 0} (f : X → Option Y) (x : X) (o : Option Y) → f x ≡ o → filter_map f (x ∷ []) ≡ option_to_list o
one_kept f x (Some y) e = rw e refl
one_kept f x None e = rw e refl

kept_push : {X Y : Type 0} (f : X → Option Y) (xs : List X) (x : X) → filter_map f (xs ++ x ∷ []) ≡ filter_map f xs ++ option_to_list (f x)
kept_push f xs x = filter_map-append f xs (x ∷ []) ∙ ap (λ ys. filter_map f xs ++ ys) (one_kept f x (f x) refl)

module _ {I F : Type 0} (as_function : I → Option F) (as_spec : I → Option PureSpec) (as_pred : I → Option PurePredDef) (begins : I → ℕ) where
  -- the lists with one item more
  abbrev pub with_one : PureLocated F → I → PureLocated F
  with_one l i = record {
    functions = l.functions ++ option_to_list (as_function i);
    specs = l.specs ++ option_to_list (as_spec i);
    preds = l.preds ++ option_to_list (as_pred i);
    functions_at = l.functions_at ++ option_to_list (place_if (begins i) (as_function i));
    specs_at = l.specs_at ++ option_to_list (place_if (begins i) (as_spec i));
    preds_at = l.preds_at ++ option_to_list (place_if (begins i) (as_pred i));
  }

  -- the lists of the items with one more
  pub lists_push : (is : List I) (i : I)
      → lists_of as_function as_spec as_pred begins (is ++ i ∷ []) ≡ with_one (lists_of as_function as_spec as_pred begins is) i
  lists_push is i =
      rw (
        kept_push as_function is i,
        kept_push as_spec is i,
        kept_push as_pred is i,
        kept_push (λ j. place_if (begins j) (as_function j)) is i,
        kept_push (λ j. place_if (begins j) (as_spec j)) is i,
        kept_push (λ j. place_if (begins j) (as_pred j)) is i,
      ) refl

-- what an item is, seen by view
abbrev pub function_in : {F P : Type 0} → (F → P) → TextItem F → Option P
function_in view (items.Function f) = Some (view f)
function_in view _ = None

abbrev pub spec_in : {F : Type 0} → TextItem F → Option PureSpec
spec_in (items.Spec s) = Some (spec_view s)
spec_in _ = None

abbrev pub pred_in : {F : Type 0} → TextItem F → Option PurePredDef
pred_in (items.Pred d) = Some (pred_def_view d)
pred_in _ = None

-- what was added is one item more
pub added_seen : {F P : Type 0} (view : F → P) (l : Located F) (item : TextItem F) (at : ℕ)
    → located_view view (with_added l item at) ≡ with_one (function_in view) spec_in pred_in (λ i. at) (located_view view l) item
added_seen view l (items.Function f) at =
    rw (map_push view l.functions f, append-nil (map spec_view l.specs), append-nil (map pred_def_view l.preds), append-nil l.specs_at, append-nil l.preds_at) refl
added_seen view l (items.Spec s) at =
    rw (map_push spec_view l.specs s, append-nil (map view l.functions), append-nil (map pred_def_view l.preds), append-nil l.functions_at, append-nil l.preds_at) refl
added_seen view l (items.Pred d) at =
    rw (map_push pred_def_view l.preds d, append-nil (map view l.functions), append-nil (map spec_view l.specs), append-nil l.functions_at, append-nil l.specs_at) refl
