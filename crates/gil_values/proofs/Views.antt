-- The views, level by level, and the sizes of the values in a list.
use Rattle.std.proofs.Common.{◌≡◌, ◌<◌, ◌≤◌, ℕ, ℤ, zero, suc, Bool, List, [], ◌∷◌, length, map, get_or, slice_get, Some, ap, ◌∙◌, subst, rules, arith}
use Rattle.std.proofs.lemmas.List.{length-map}
use Rattle.gil_values.specs.declared.kinds.Kind.{Kind}
use Rattle.gil_values.specs.declared.tree.Value
use Rattle.gil_values.specs.declared.tree.Value.{Value, the_lemmas}
use Rattle.gil_values.specs.declared.tree.Values.{Values}
use Rattle.gil_values.specs.Pure.{PureValue, integer, boolean, text, symbol, kind, procedure, list, from_list, value_size, values_size}
use Rattle.gil_values.specs.View.{value_view, values_view}
use Rattle.gil_values.proofs.Lists.{slice_get-read}

pub values_view-items : (vs : Values) → values_view vs ≡ map value_view vs.items.items
values_view-items vs = search (rules, the_lemmas)

pub values_view-length : (vs : Values) → length (values_view vs) ≡ length vs.items.items
values_view-length vs = ap length (values_view-items vs) ∙ length-map vs.items.items value_view

pub value_view-Int : (n : ℤ) → value_view (Value.Int n) ≡ integer n
value_view-Int n = search (rules, the_lemmas)

pub value_view-Bool : (b : Bool) → value_view (Value.Bool b) ≡ boolean b
value_view-Bool b = search (rules, the_lemmas)

pub value_view-Str : (cs : List ℕ) → value_view (Value.Str cs) ≡ text cs
value_view-Str cs = search (rules, the_lemmas)

pub value_view-Sym : (n : ℕ) → value_view (Value.Sym n) ≡ symbol n
value_view-Sym n = search (rules, the_lemmas)

pub value_view-Kind : (k : Kind) → value_view (Value.Kind k) ≡ kind k
value_view-Kind k = search (rules, the_lemmas)

pub value_view-Proc : (name : List ℕ) → value_view (Value.Proc name) ≡ procedure name
value_view-Proc name = search (rules, the_lemmas)

pub value_view-List : (vs : Values) → value_view (Value.List vs) ≡ list (from_list (values_view vs))
value_view-List vs = search (rules, the_lemmas)

-- the element of a list value at a place, seen as its pure data
pub values_view-element : (items : List Value) (vs : List PureValue) (i : ℕ) (v : Value) → map value_view items ≡ vs → i < length items → v ≡ get_or items i v → slice_get vs i ≡ Some (value_view v)
values_view-element items vs i v seen within is = subst (λ ws. slice_get ws i ≡ Some (value_view v)) seen (slice_get-read value_view items i v within is)

-- an element is no larger than its list
pub value_size-element : (vs : List PureValue) (i : ℕ) (v : PureValue) → slice_get vs i ≡ Some v → value_size v ≤ values_size (from_list vs)
value_size-element [] i v e = cc
value_size-element (w ∷ vs) zero v e = let same : w ≡ v = cc in subst (λ u. value_size u ≤ values_size (from_list (w ∷ vs))) same (omega arith)
value_size-element (w ∷ vs) (suc i) v e = omega (arith, value_size-element vs i v e)
