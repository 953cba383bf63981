-- The commands of fields, one more field at a time.
use Rattle.std.proofs.Common.{◌≡◌, ℕ, ◌+◌, ◌<◌, get_or, List, [], ◌∷◌, ◌++◌, map, take, length, refl, ap, ◌∙◌, arith}
use Rattle.std.specs.Prelude.{codes}
use Rattle.std.proofs.lemmas.List.{length-map, length-take-le}
use Rattle.gil_syntax.proofs.NameLemmas.{map-take_read}
use Rattle.while_lang.specs.declared.tree.Field.{Field}
use Rattle.gil_syntax.specs.View.{expr_view}
use Rattle.while_lang.specs.View.{field_view}
use Rattle.gil_values.specs.Pure.{text}
use Rattle.gil_syntax.specs.Pure.{literal, name, assign, act}
use Rattle.source_language.specs.Names.{temporary}
use Rattle.source_language.specs.Procedures.{placed}
use Rattle.while_lang.specs.Pure.{PureField}
use Rattle.while_compiler.specs.Compiled.{name_literals, field_values_code, fill_code}

pub name_literals-push : (fields : List PureField) (field : PureField)
    → name_literals (fields ++ field ∷ []) ≡ name_literals fields ++ literal (text field.name) ∷ []
name_literals-push [] field = refl
name_literals-push (f ∷ fields) field = ap (λ es. literal (text f.name) ∷ es) (name_literals-push fields field)

values-push : (at i : ℕ) (fields : List PureField) (field : PureField) (n : ℕ) → i + length fields ≡ n
    → field_values_code at i (fields ++ field ∷ []) ≡ field_values_code at i fields ++ placed at (assign (temporary n) field.value) ∷ []
values-push at i [] field n e = let same : i ≡ n = omega arith in ap (λ k. placed at (assign (temporary k) field.value) ∷ []) same
values-push at i (f ∷ fields) field n e = ap (λ cs. placed at (assign (temporary i) f.value) ∷ cs)
    (values-push at (i + 1) fields field n (omega arith))

pub field_values-push : (at : ℕ) (fields : List PureField) (field : PureField) (n : ℕ) → length fields ≡ n
    → field_values_code at 0 (fields ++ field ∷ []) ≡ field_values_code at 0 fields ++ placed at (assign (temporary n) field.value) ∷ []
field_values-push at fields field n e = values-push at 0 fields field n (omega arith)

filled-push : (at made written i : ℕ) (fields : List PureField) (field : PureField) (n : ℕ) → i + length fields ≡ n
    → fill_code at made written i (fields ++ field ∷ []) ≡ fill_code at made written i fields ++ placed at
    (act (temporary written) (codes "mutate") (name (temporary made) ∷ literal (text field.name) ∷ name (temporary n) ∷ [])) ∷ []
filled-push at made written i [] field n e = let same : i ≡ n = omega arith in ap
    (λ k. placed at (act (temporary written) (codes "mutate")
    (name (temporary made) ∷ literal (text field.name) ∷ name (temporary k) ∷ [])) ∷ []) same
filled-push at made written i (f ∷ fields) field n e = ap (λ cs. placed at (act (temporary written) (codes "mutate")
    (name (temporary made) ∷ literal (text f.name) ∷ name (temporary i) ∷ [])) ∷ cs)
    (filled-push at made written (i + 1) fields field n (omega arith))

pub fill-push : (at made written : ℕ) (fields : List PureField) (field : PureField) (n : ℕ) → length fields ≡ n
    → fill_code at made written 0 (fields ++ field ∷ []) ≡ fill_code at made written 0 fields ++ placed at
    (act (temporary written) (codes "mutate") (name (temporary made) ∷ literal (text field.name) ∷ name (temporary n) ∷ [])) ∷ []
fill-push at made written fields field n e = filled-push at made written 0 fields field n (omega arith)

module _ (items : List Field) (i : ℕ) (x : Field) (below : i < length items) (is : x ≡ get_or items i x) where
  first_fields : length (map field_view (take i items)) ≡ i
  first_fields = length-map (take i items) field_view ∙ length-take-le i items (omega arith)

  pub names-next : name_literals (map field_view (take (i + 1) items)) ≡ name_literals (map field_view (take i items)) ++ literal
      (text x.name) ∷ []
  names-next = ap name_literals (map-take_read field_view items i x below is)
      ∙ name_literals-push (map field_view (take i items)) (field_view x)

  pub field_values-next : (at : ℕ) → field_values_code at 0 (map field_view (take (i + 1) items)) ≡ field_values_code at 0
      (map field_view (take i items)) ++ placed at (assign (temporary i) (expr_view x.value)) ∷ []
  field_values-next at = ap (field_values_code at 0) (map-take_read field_view items i x below is)
      ∙ field_values-push at (map field_view (take i items)) (field_view x) i first_fields

  pub fill-next : (at made written : ℕ) → fill_code at made written 0
      (map field_view (take (i + 1) items)) ≡ fill_code at made written 0 (map field_view (take i items)) ++ placed at
      (act (temporary written) (codes "mutate") (name (temporary made) ∷ literal (text x.name) ∷ name (temporary i) ∷ [])) ∷ []
  fill-next at made written = ap (fill_code at made written 0) (map-take_read field_view items i x below is)
      ∙ fill-push at made written (map field_view (take i items)) (field_view x) i first_fields
