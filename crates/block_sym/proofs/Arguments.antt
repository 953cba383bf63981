-- The values of arguments, by their kinds.
use Rattle.std.proofs.Common.{◌≡◌, ◌⊎◌, inl, inr, ℕ, ℤ, List, [], ◌∷◌, Option, Some, None, Err, Bool, true, false, if◌then◌else◌, IsSome, refl, sym, ap, ◌∙◌}
use Rattle.std.specs.FinMap.{get}
use Rattle.gil_values.specs.declared.kinds.Kind.{Kind}
use Rattle.gil_values.specs.Pure.{PureValue, integer, boolean, text, symbol, kind, procedure, list, kind_of}
use Rattle.mem_model.specs.declared.failures.Failure.{Failure}
use Rattle.mem_model.specs.declared.keys.Key.{Key}
use Rattle.mem_model.specs.Actions.{ActionResult}
use Rattle.mem_model.specs.Arguments.{symbol_of}
use Rattle.mem_model.specs.Heaps.{Heap, Holds}
use Rattle.mem_model.specs.Tables.{at, found_or}
use Rattle.block_heap.specs.Table.{number_of}
use Rattle.pure_terms.specs.Meaning.{value, values}
use Rattle.pure_terms.specs.Pure.{PureTerm, from_list}
use Rattle.sym_model.proofs.Asking.{both_parts as value_parts}
use Rattle.sym_model.proofs.ListLaws.{same_some}

pub at_some : (h : Heap) (k : Key) (w : PureValue) (found : PureValue → ActionResult) (otherwise : ActionResult) → Holds h k w → at h k found otherwise ≡ found w
at_some h k w found otherwise holds = ap (λ o. found_or o found otherwise) holds

pub at_none : (h : Heap) (k : Key) (found : PureValue → ActionResult) (otherwise : ActionResult) → get h k ≡ None → at h k found otherwise ≡ otherwise
at_none h k found otherwise none = ap (λ o. found_or o found otherwise) none

pub if_true : {X : Type 0} (b : Bool) (x y : X) → b ≡ true → (if b then x else y) ≡ x
if_true b x y is = ap (λ c. if c then x else y) is

pub if_false : {X : Type 0} (b : Bool) (x y : X) → b ≡ false → (if b then x else y) ≡ y
if_false b x y is = ap (λ c. if c then x else y) is

-- a value is a symbol, or reading a symbol fails
pub symbol_or_not : (x : PureValue) → ((a : ℕ) × (x ≡ symbol a)) ⊎ ((symbol_of x ≡ Err Failure.Kind) × (¬ (kind_of x ≡ Kind.Sym)))
symbol_or_not (symbol a) = inl (a, refl)
symbol_or_not (integer i) = inr (refl, λ e. cc)
symbol_or_not (boolean b) = inr (refl, λ e. cc)
symbol_or_not (text cs) = inr (refl, λ e. cc)
symbol_or_not (kind k) = inr (refl, λ e. cc)
symbol_or_not (procedure f) = inr (refl, λ e. cc)
symbol_or_not (list vs) = inr (refl, λ e. cc)

pub number_or_not : (x : PureValue) → ((n : ℤ) × (x ≡ integer n)) ⊎ ((number_of x ≡ Err Failure.Kind) × (¬ (kind_of x ≡ Kind.Int)))
number_or_not (integer n) = inl (n, refl)
number_or_not (symbol a) = inr (refl, λ e. cc)
number_or_not (boolean b) = inr (refl, λ e. cc)
number_or_not (text cs) = inr (refl, λ e. cc)
number_or_not (kind k) = inr (refl, λ e. cc)
number_or_not (procedure f) = inr (refl, λ e. cc)
number_or_not (list vs) = inr (refl, λ e. cc)

-- one argument and two, with their values
pub values_one : (v : List PureValue) (t : PureTerm) (us : List PureValue) → values v (from_list (t ∷ [])) ≡ Some us → (x : PureValue) × ((value v t ≡ Some x) × (us ≡ x ∷ []))
values_one v t us is =
    let (x, (ws, (first, rest, whole))) = value_parts (value v t) (values v (from_list [])) us is in
    (x, (first, whole ∙ ap (λ xs. x ∷ xs) (sym (same_some rest))))

pub values_two : (v : List PureValue) (s t : PureTerm) (us : List PureValue) → values v (from_list (s ∷ t ∷ [])) ≡ Some us → (x : PureValue) × ((y : PureValue) × ((value v s ≡ Some x) × (value v t ≡ Some y) × (us ≡ x ∷ y ∷ [])))
values_two v s t us is =
    let (x, (ws, (first, rest, whole))) = value_parts (value v s) (values v (from_list (t ∷ []))) us is in
    let (y, (second, more)) = values_one v t ws rest in
    (x, (y, (first, second, whole ∙ ap (λ xs. x ∷ xs) more)))

-- three arguments and more
pub record IsLong (us : List PureValue) : Type 0 where
  pub x : PureValue
  pub y : PureValue
  pub z : PureValue
  pub more : List PureValue
  pub whole : us ≡ x ∷ y ∷ z ∷ more

pub values_long : (v : List PureValue) (s t u : PureTerm) (more : List PureTerm) (us : List PureValue) → values v (from_list (s ∷ t ∷ u ∷ more)) ≡ Some us → IsLong us
values_long v s t u more us is =
    let (x, (ws, (first, rest, whole))) = value_parts (value v s) (values v (from_list (t ∷ u ∷ more))) us is in
    let (y, (zs, (second, others, next))) = value_parts (value v t) (values v (from_list (u ∷ more))) ws rest in
    let (z, (qs, (third, last, end))) = value_parts (value v u) (values v (from_list more)) zs others in
    record { x = x; y = y; z = z; more = qs; whole = whole ∙ ap (λ xs. x ∷ xs) (next ∙ ap (λ xs. y ∷ xs) end) }
