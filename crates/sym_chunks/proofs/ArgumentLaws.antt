-- The branches that come of arguments of wrong kinds, and of those of the right ones.
use Rattle.std.proofs.Common.{◌≡◌, ◌⊎◌, ⊎_elim, inl, inr, ℕ, List, [], ◌∷◌, Some, IsTrue, Err, refl, sym, ap, subst, ◌∙◌}
use Rattle.gil_values.specs.declared.kinds.Kind.{Kind}
use Rattle.gil_values.specs.Pure.{PureValue, integer, boolean, text, symbol, kind, procedure, list, kind_of}
use Rattle.mem_model.specs.declared.failures.Failure.{Failure}
use Rattle.mem_model.specs.declared.keys.MemoryName.{MemoryName}
use Rattle.mem_model.specs.Actions.{ActionResult}
use Rattle.mem_model.specs.Arguments.{symbol_of, text_of}
use Rattle.mem_model.specs.Heaps.{Heap}
use Rattle.mem_model.specs.Tables.{fails}
use Rattle.pure_terms.specs.declared.variables.Sort.{Sort}
use Rattle.pure_terms.specs.Meaning.{value, values, all_true, IsProper, IsOver}
use Rattle.pure_terms.specs.Pure.{PureTerm, from_list}
use Rattle.sym_chunks.specs.Arguments.{checked, no_property, is_property}
use Rattle.sym_chunks.specs.Cases.{PureCase, branches_of, choose, failure}
use Rattle.sym_chunks.specs.Laws.{IsLocation}
use Rattle.sym_model.specs.Alternatives.{Alternatives, Hold, always, of_kind, not_of_kind}
use Rattle.sym_model.proofs.Combined.{both_from, both_parts, always_true}
use Rattle.sym_model.proofs.Telling.{of_kind_tells, not_of_kind_tells}
use Rattle.sym_model.specs.Chunks.{StandFor}
use Rattle.sym_model.specs.Lists.{Each, OneOf}
use Rattle.sym_model.specs.Pure.{PureChunk}
use Rattle.sym_model.proofs.Asking.{both_parts as value_parts}
use Rattle.sym_model.proofs.ListLaws.{same_some, each_append, one_left, one_right, one_parts}
use Rattle.sym_chunks.proofs.CaseLaws.{IsFor, Exact, IsTaken, IsExactCase, IsRight, exact_cases, taken_case, chosen_exact, chosen_taken}

-- ---- what values are

-- a value is a symbol, or reading a symbol fails
pub symbol_or_not : (x : PureValue) → ((a : ℕ) × (x ≡ symbol a)) ⊎ ((symbol_of x ≡ Err Failure.Kind) × (¬ (kind_of x ≡ Kind.Sym)))
symbol_or_not (symbol a) = inl (a, refl)
symbol_or_not (integer i) = inr (refl, λ e. cc)
symbol_or_not (boolean b) = inr (refl, λ e. cc)
symbol_or_not (text cs) = inr (refl, λ e. cc)
symbol_or_not (kind k) = inr (refl, λ e. cc)
symbol_or_not (procedure f) = inr (refl, λ e. cc)
symbol_or_not (list vs) = inr (refl, λ e. cc)

pub text_or_not : (x : PureValue) → ((n : List ℕ) × (x ≡ text n)) ⊎ ((text_of x ≡ Err Failure.Kind) × (¬ (kind_of x ≡ Kind.Str)))
text_or_not (text n) = inl (n, refl)
text_or_not (integer i) = inr (refl, λ e. cc)
text_or_not (boolean b) = inr (refl, λ e. cc)
text_or_not (symbol a) = inr (refl, λ e. cc)
text_or_not (kind k) = inr (refl, λ e. cc)
text_or_not (procedure f) = inr (refl, λ e. cc)
text_or_not (list vs) = inr (refl, λ e. cc)

-- one argument, two and three, with their values
pub values_one : (v : List PureValue) (t : PureTerm) (us : List PureValue) → values v (from_list (t ∷ [])) ≡ Some us → (x : PureValue) × ((value v t ≡ Some x) × (us ≡ x ∷ []))
values_one v t us is =
    let (x, (ws, (first, rest, whole))) = value_parts (value v t) (values v (from_list [])) us is in
    (x, (first, whole ∙ ap (λ xs. x ∷ xs) (sym (same_some rest))))

pub values_two : (v : List PureValue) (s t : PureTerm) (us : List PureValue) → values v (from_list (s ∷ t ∷ [])) ≡ Some us → (x : PureValue) × ((y : PureValue) × ((value v s ≡ Some x) × (value v t ≡ Some y) × (us ≡ x ∷ y ∷ [])))
values_two v s t us is =
    let (x, (ws, (first, rest, whole))) = value_parts (value v s) (values v (from_list (t ∷ []))) us is in
    let (y, (second, more)) = values_one v t ws rest in
    (x, (y, (first, second, whole ∙ ap (λ xs. x ∷ xs) more)))

pub values_three : (v : List PureValue) (s t u : PureTerm) (us : List PureValue) → values v (from_list (s ∷ t ∷ u ∷ [])) ≡ Some us → (x : PureValue) × ((y : PureValue) × ((z : PureValue) × ((value v s ≡ Some x) × (value v t ≡ Some y) × (value v u ≡ Some z) × (us ≡ x ∷ y ∷ z ∷ []))))
values_three v s t u us is =
    let (x, (ws, (first, rest, whole))) = value_parts (value v s) (values v (from_list (t ∷ u ∷ []))) us is in
    let (y, (z, (second, third, more))) = values_two v t u ws rest in
    (x, (y, (z, (first, second, third, whole ∙ ap (λ xs. x ∷ xs) more))))

-- as many values as terms
pub values_none : (v : List PureValue) (us : List PureValue) → values v (from_list []) ≡ Some us → us ≡ []
values_none v us is = sym (same_some is)

pub values_first : (v : List PureValue) (t : PureTerm) (ts : List PureTerm) (us : List PureValue) → values v (from_list (t ∷ ts)) ≡ Some us → (x : PureValue) × ((xs : List PureValue) × ((values v (from_list ts) ≡ Some xs) × (us ≡ x ∷ xs)))
values_first v t ts us is = let (x, (xs, (first, rest, whole))) = value_parts (value v t) (values v (from_list ts)) us is in (x, (xs, (rest, whole)))

module _ (memory : MemoryName) (vars : List Sort) (v : List PureValue) (h : Heap) (cs : List PureChunk) (proper : IsProper vars v) (stands : StandFor memory cs v h) where
  pub failure_for : (r : ActionResult) (why : Failure) → r ≡ fails why h → IsFor memory v r cs (failure why)
  failure_for r why e = subst (λ x. IsFor memory v x cs (failure why)) (sym e) (refl, stands)

  pub fails_always : (r : ActionResult) (why : Failure) → r ≡ fails why h → IsRight memory v r (branches_of always cs (failure why))
  fails_always r why e = record { exact = exact_cases memory v r always cs (failure why) (λ holds. failure_for r why e); taken = taken_case v always cs (failure why) (always_true v) }

  -- the arguments are of wrong kinds, or the cases come
  pub checked_right : (r : ActionResult) (wrong right : Alternatives) (cases : List PureCase) → (Hold v wrong → r ≡ fails Failure.Kind h) → (Hold v right → Each (IsExactCase memory v r) cases) → (Hold v wrong ⊎ (Hold v right × OneOf (λ c. Hold v c.when) cases)) → IsRight memory v r (checked wrong right cs cases)
  checked_right r wrong right cases refused exact comes = record {
    exact = each_append (Exact memory v r) (branches_of wrong cs (failure Failure.Kind)) (choose right cases)
        (exact_cases memory v r wrong cs (failure Failure.Kind) (λ holds. failure_for r Failure.Kind (refused holds)))
        (chosen_exact memory v r right cases exact);
    taken = ⊎_elim
        (λ holds. one_left (IsTaken v) (branches_of wrong cs (failure Failure.Kind)) (choose right cases) (taken_case v wrong cs (failure Failure.Kind) holds))
        (λ (holds, one). one_right (IsTaken v) (branches_of wrong cs (failure Failure.Kind)) (choose right cases) (chosen_taken v right cases holds one))
        comes;
  }

  -- ---- kinds of arguments

  module _ (l : PureTerm) (x : PureValue) (over_l : IsOver vars l) (is_l : value v l ≡ Some x) where
    pub symbol_holds : (a : ℕ) → x ≡ symbol a → Hold v (of_kind l Kind.Sym)
    symbol_holds a e = (of_kind_tells vars v l Kind.Sym x proper over_l is_l).1 (ap kind_of e)

    pub symbol_stays : (a : ℕ) → x ≡ symbol a → ¬ Hold v (not_of_kind l Kind.Sym)
    symbol_stays a e holds = (not_of_kind_tells vars v l Kind.Sym x proper over_l is_l).0 holds (ap kind_of e)

    pub location_of_symbol : (a : ℕ) → x ≡ symbol a → IsLocation vars v l a
    location_of_symbol a e = record { over = over_l; is = is_l ∙ ap Some e }

  -- a location: where it is no symbol, or by the cases
  pub location_right : (l : PureTerm) (x : PureValue) → IsOver vars l → value v l ≡ Some x → (r : ActionResult) (cases : List PureCase) → (symbol_of x ≡ Err Failure.Kind → r ≡ fails Failure.Kind h)
      → ((a : ℕ) → x ≡ symbol a → Each (IsExactCase memory v r) cases × OneOf (λ c. Hold v c.when) cases) → IsRight memory v r (checked (not_of_kind l Kind.Sym) (of_kind l Kind.Sym) cs cases)
  location_right l x over_l is_l r cases no_symbol is =
      ⊎_elim
      (λ (a, e). let parts = is a e in
      checked_right r (not_of_kind l Kind.Sym) (of_kind l Kind.Sym) cases (λ holds. absurd (symbol_stays l x over_l is_l a e holds)) (λ holds. parts.0) (inr (symbol_holds l x over_l is_l a e, parts.1)))
      (λ (refused, differ).
      checked_right r (not_of_kind l Kind.Sym) (of_kind l Kind.Sym) cases (λ holds. no_symbol refused)
      (λ holds. absurd (differ ((of_kind_tells vars v l Kind.Sym x proper over_l is_l).0 holds)))
      (inl ((not_of_kind_tells vars v l Kind.Sym x proper over_l is_l).1 differ)))
      (symbol_or_not x)

  -- a location and a name
  pub property_right : (l p : PureTerm) (x y : PureValue) → IsOver vars l → IsOver vars p → value v l ≡ Some x → value v p ≡ Some y → (r : ActionResult) (cases : List PureCase) → (symbol_of x ≡ Err Failure.Kind → r ≡ fails Failure.Kind h)
      → ((a : ℕ) → x ≡ symbol a → text_of y ≡ Err Failure.Kind → r ≡ fails Failure.Kind h) → ((a : ℕ) (n : List ℕ) → x ≡ symbol a → y ≡ text n → Each (IsExactCase memory v r) cases × OneOf (λ c. Hold v c.when) cases)
      → IsRight memory v r (checked (no_property l p) (is_property l p) cs cases)
  property_right l p x y over_l over_p is_l is_p r cases no_symbol no_text is =
      ⊎_elim
      (λ (a, e). ⊎_elim
      (λ (n, f). let parts = is a n e f in
      checked_right r (no_property l p) (is_property l p) cases
      (λ holds. absurd (⊎_elim (symbol_stays l x over_l is_l a e) (λ texts. (not_of_kind_tells vars v p Kind.Str y proper over_p is_p).0 texts (ap kind_of f)) (one_parts (λ conds. IsTrue (all_true v conds)) (not_of_kind l Kind.Sym) (not_of_kind p Kind.Str) holds)))
      (λ holds. parts.0)
      (inr (both_from v (of_kind l Kind.Sym) (of_kind p Kind.Str) (symbol_holds l x over_l is_l a e) ((of_kind_tells vars v p Kind.Str y proper over_p is_p).1 (ap kind_of f)), parts.1)))
      (λ (refused, differ).
      checked_right r (no_property l p) (is_property l p) cases (λ holds. no_text a e refused)
      (λ holds. absurd (differ ((of_kind_tells vars v p Kind.Str y proper over_p is_p).0 (both_parts v (of_kind l Kind.Sym) (of_kind p Kind.Str) holds).1)))
      (inl (one_right (λ conds. IsTrue (all_true v conds)) (not_of_kind l Kind.Sym) (not_of_kind p Kind.Str) ((not_of_kind_tells vars v p Kind.Str y proper over_p is_p).1 differ))))
      (text_or_not y))
      (λ (refused, differ).
      checked_right r (no_property l p) (is_property l p) cases (λ holds. no_symbol refused)
      (λ holds. absurd (differ ((of_kind_tells vars v l Kind.Sym x proper over_l is_l).0 (both_parts v (of_kind l Kind.Sym) (of_kind p Kind.Str) holds).0)))
      (inl (one_left (λ conds. IsTrue (all_true v conds)) (not_of_kind l Kind.Sym) (not_of_kind p Kind.Str) ((not_of_kind_tells vars v l Kind.Sym x proper over_l is_l).1 differ))))
      (symbol_or_not x)
