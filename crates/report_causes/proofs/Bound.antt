-- How values are bound one by one, and terms that are too wide among others.
use Rattle.std.proofs.Common.{◌≡◌, ◌+◌, ◌<◌, ℕ, zero, suc, List, [], ◌∷◌, ◌++◌, length, get_or, take, drop, Bool, true, false, ◌||◌, if◌then◌else◌, cond, Option, Some, slice_get, refl, sym, ap, subst, ◌∙◌, add-one, append_assoc, append-nil}
use Rattle.std.specs.List.{filter, list_any}
use Rattle.std.specs.Option.{option_and_then, option_to_list}
use Rattle.std.proofs.lemmas.Bool.{or_left, or_right}
use Rattle.std.proofs.lemmas.List.{take_more}
use Rattle.std.proofs.lemmas.List.Elements.{filter-append}
use Rattle.std.proofs.lemmas.List.Folds.{list_any-append}
use Rattle.gil_syntax.specs.declared.assertions.Param.{Param}
use Rattle.gil_values.specs.Pure.{PureValue}
use Rattle.gil_report.specs.Pure.{PureBinding}
use Rattle.pure_terms.specs.Meaning.{value}
use Rattle.pure_terms.specs.Pure.{PureTerm}
use Rattle.pure_terms.specs.Wide.{has_wide_part}
use Rattle.sym_evaluation.specs.Pure.{PureStore, term_at}
use Rattle.report_causes.specs.Causes.{binding_of, bindings_by, variable_terms, AreTooWide}
use Rattle.report_causes.specs.Telling.{told_arguments}

-- ---- arguments

pub none_told : (v : List PureValue) (ts : List PureTerm) → told_arguments v [] ts ≡ []
none_told v [] = refl
none_told v (t ∷ ts) = refl

-- from one place on: the binding there, and those from the next place on
told_next : (v : List PureValue) (xs : List (List ℕ)) (ts : List PureTerm) (i : ℕ) (x : List ℕ) → slice_get xs i ≡ Some x
    → told_arguments v (drop i xs) (drop i ts) ≡ binding_of x (option_and_then (value v) (slice_get ts i)) ++ told_arguments v (drop (suc i) xs) (drop (suc i) ts)
told_next v [] ts i x at = cc
told_next v (y ∷ xs) [] zero x at = refl
told_next v (y ∷ xs) (t ∷ ts) zero x at = let same : y ≡ x = cc in ap (λ z. binding_of z (value v t) ++ told_arguments v xs ts) same
told_next v (y ∷ xs) [] (suc i) x at = refl
told_next v (y ∷ xs) (t ∷ ts) (suc i) x at = told_next v xs ts i x at

pub told_more : (v : List PureValue) (xs : List (List ℕ)) (ts : List PureTerm) (i : ℕ) (x : List ℕ) (done more all : List PureBinding) → slice_get xs i ≡ Some x
    → more ≡ done ++ binding_of x (option_and_then (value v) (slice_get ts i)) → done ++ told_arguments v (drop i xs) (drop i ts) ≡ all
    → more ++ told_arguments v (drop (i + 1) xs) (drop (i + 1) ts) ≡ all
told_more v xs ts i x done more all at is before =
    let here : List PureBinding = binding_of x (option_and_then (value v) (slice_get ts i)) in
    let later : List PureBinding = told_arguments v (drop (suc i) xs) (drop (suc i) ts) in
    subst (λ k. more ++ told_arguments v (drop k xs) (drop k ts) ≡ all) (sym (add-one i))
    (ap (λ bs. bs ++ later) is ∙ append_assoc done here later ∙ ap (λ rest. done ++ rest) (sym (told_next v xs ts i x at)) ∙ before)

-- where no name is left, all are told
pub told_all : (v : List PureValue) (xs : List (List ℕ)) (ts : List PureTerm) (done all : List PureBinding) → xs ≡ [] → done ++ told_arguments v xs ts ≡ all → done ≡ all
told_all v xs ts done all none before = sym (append-nil done) ∙ ap (λ rest. done ++ rest) (sym (ap (λ ys. told_arguments v ys ts) none ∙ none_told v ts)) ∙ before

-- ---- variables

module _ (f : List ℕ → Option PureValue) (p : Param → Bool) where
  own_first : (b : Bool) (q : Param) (qs : List Param) → bindings_by f (cond b (q ∷ qs) qs) ≡ (if b then binding_of q.name (f q.name) else []) ++ bindings_by f qs
  own_first true q qs = refl
  own_first false q qs = refl

  own_next : (qs : List Param) (i : ℕ) (q : Param) → slice_get qs i ≡ Some q
      → bindings_by f (filter p (drop i qs)) ≡ (if p q then binding_of q.name (f q.name) else []) ++ bindings_by f (filter p (drop (suc i) qs))
  own_next [] i q at = cc
  own_next (y ∷ qs) zero q at = let same : y ≡ q = cc in subst (λ (z : Param). bindings_by f (filter p (y ∷ qs)) ≡ (if p z then binding_of z.name (f z.name) else []) ++ bindings_by f (filter p qs)) same (own_first (p y) y (filter p qs))
  own_next (y ∷ qs) (suc i) q at = own_next qs i q at

  pub own_more : (qs : List Param) (i : ℕ) (q : Param) (done more all : List PureBinding) → slice_get qs i ≡ Some q
      → more ≡ done ++ (if p q then binding_of q.name (f q.name) else []) → done ++ bindings_by f (filter p (drop i qs)) ≡ all → more ++ bindings_by f (filter p (drop (i + 1) qs)) ≡ all
  own_more qs i q done more all at is before =
      let here : List PureBinding = if p q then binding_of q.name (f q.name) else [] in
      let later : List PureBinding = bindings_by f (filter p (drop (suc i) qs)) in
      subst (λ k. more ++ bindings_by f (filter p (drop k qs)) ≡ all) (sym (add-one i))
      (ap (λ bs. bs ++ later) is ∙ append_assoc done here later ∙ ap (λ rest. done ++ rest) (sym (own_next qs i q at)) ∙ before)

  pub own_all : (qs : List Param) (done all : List PureBinding) → qs ≡ [] → done ++ bindings_by f (filter p qs) ≡ all → done ≡ all
  own_all qs done all none before = sym (append-nil done) ∙ ap (λ rest. done ++ bindings_by f (filter p rest)) (sym none) ∙ before

-- ---- terms that are too wide

pub one_or : (b c : Bool) → (b || false) ≡ true → (b || c) ≡ true
one_or true c is = refl
one_or false c is = cc

any_left : {A : Type 0} (f : A → Bool) (xs ys : List A) → list_any f xs ≡ true → list_any f (xs ++ ys) ≡ true
any_left f xs ys is = list_any-append f xs ys ∙ or_left (list_any f xs) (list_any f ys) is

any_right : {A : Type 0} (f : A → Bool) (xs ys : List A) → list_any f ys ≡ true → list_any f (xs ++ ys) ≡ true
any_right f xs ys is = list_any-append f xs ys ∙ or_right (list_any f xs) (list_any f ys) is

module _ (v : List PureValue) where
  pub wide_left : (ts us : List PureTerm) → AreTooWide v ts → AreTooWide v (ts ++ us)
  wide_left ts us wide = any_left (has_wide_part v) ts us wide

  pub wide_right : (ts us : List PureTerm) → AreTooWide v us → AreTooWide v (ts ++ us)
  wide_right ts us wide = any_right (has_wide_part v) ts us wide

  pub wide_at : (ts : List PureTerm) (i : ℕ) → AreTooWide v (option_to_list (slice_get ts i)) → AreTooWide v ts
  wide_at [] i wide = wide
  wide_at (t ∷ ts) zero wide = one_or (has_wide_part v t) (list_any (has_wide_part v) ts) wide
  wide_at (t ∷ ts) (suc i) wide = or_right (has_wide_part v t) (list_any (has_wide_part v) ts) (wide_at ts i wide)

  module _ (bs : PureStore) (p : Param → Bool) where
    first_wide : (b : Bool) (q : Param) (qs : List Param) → AreTooWide v (if b then option_to_list (term_at bs q.name) else []) → AreTooWide v (variable_terms bs (cond b (q ∷ qs) qs))
    first_wide true q qs wide = wide_left (option_to_list (term_at bs q.name)) (variable_terms bs qs) wide
    first_wide false q qs wide = cc

    later_wide : (b : Bool) (q : Param) (qs : List Param) → AreTooWide v (variable_terms bs qs) → AreTooWide v (variable_terms bs (cond b (q ∷ qs) qs))
    later_wide true q qs wide = wide_right (option_to_list (term_at bs q.name)) (variable_terms bs qs) wide
    later_wide false q qs wide = wide

    pub wide_own : (qs : List Param) (i : ℕ) (q : Param) → slice_get qs i ≡ Some q → AreTooWide v (if p q then option_to_list (term_at bs q.name) else []) → AreTooWide v (variable_terms bs (filter p qs))
    wide_own [] i q at wide = cc
    wide_own (y ∷ qs) zero q at wide =
        let same : q ≡ y = cc in
        first_wide (p y) y (filter p qs) (subst (λ (z : Param). AreTooWide v (if p z then option_to_list (term_at bs z.name) else [])) same wide)
    wide_own (y ∷ qs) (suc i) q at wide = later_wide (p y) y (filter p qs) (wide_own qs i q at wide)

-- ---- terms of variables

terms_append : (bs : PureStore) (xs ys : List Param) → variable_terms bs (xs ++ ys) ≡ variable_terms bs xs ++ variable_terms bs ys
terms_append bs [] ys = refl
terms_append bs (q ∷ xs) ys =
    ap (λ ts. option_to_list (term_at bs q.name) ++ ts) (terms_append bs xs ys) ∙ sym (append_assoc (option_to_list (term_at bs q.name)) (variable_terms bs xs) (variable_terms bs ys))

last_terms : (bs : PureStore) (b : Bool) (q : Param) → variable_terms bs (cond b (q ∷ []) []) ≡ (if b then option_to_list (term_at bs q.name) else [])
last_terms bs true q = append-nil (option_to_list (term_at bs q.name))
last_terms bs false q = refl

pub terms_more : (bs : PureStore) (p : Param → Bool) (qs : List Param) (i : ℕ) (q : Param) (done more first : List PureTerm) → i < length qs → q ≡ get_or qs i q
    → more ≡ done ++ (if p q then option_to_list (term_at bs q.name) else []) → done ≡ first ++ variable_terms bs (filter p (take i qs)) → more ≡ first ++ variable_terms bs (filter p (take (i + 1) qs))
terms_more bs p qs i q done more first below at is before =
    let one : List PureTerm = if p q then option_to_list (term_at bs q.name) else [] in
    let longer : take (i + 1) qs ≡ take i qs ++ q ∷ [] = take_more qs i q below ∙ ap (λ y. take i qs ++ y ∷ []) (sym at) in
    let all : variable_terms bs (filter p (take (i + 1) qs)) ≡ variable_terms bs (filter p (take i qs)) ++ one =
    ap (λ ys. variable_terms bs (filter p ys)) longer ∙ ap (variable_terms bs) (filter-append p (take i qs) (q ∷ [])) ∙ terms_append bs (filter p (take i qs)) (filter p (q ∷ []))
    ∙ ap (λ ts. variable_terms bs (filter p (take i qs)) ++ ts) (last_terms bs (p q) q) in
    is ∙ ap (λ ts. ts ++ one) before ∙ append_assoc first (variable_terms bs (filter p (take i qs))) one ∙ ap (λ ts. first ++ ts) (sym all)
