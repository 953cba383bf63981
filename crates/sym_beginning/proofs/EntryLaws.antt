-- The terms of an entry, under valuations.
use Rattle.std.proofs.Common.{◌≡◌, ◌⊎◌, ⊎_elim, inl, inr, ℕ, zero, suc, List, [], ◌∷◌, ◌++◌, length, Bool, true, false, not, ◌&&◌, ◌||◌, cond, Option, Some, None, is_some, IsTrue, refl, sym, ap, subst, ◌∙◌, true≢false, arith, append_assoc}
use Rattle.std.specs.List.{filter}
use Rattle.std.specs.Option.{option_or}
use Rattle.std.specs.Str.{bytes_eq}
use Rattle.std.proofs.lemmas.Bool.{and_parts}
use Rattle.std.proofs.lemmas.List.Folds.{list_all-append}
use Rattle.std.proofs.lemmas.Option.{slice_get_within}
use Rattle.gil_values.specs.Pure.{PureValue}
use Rattle.gil_syntax.specs.declared.assertions.Param.{Param}
use Rattle.gil_syntax.specs.Evaluation.{Store, value_of, Agrees}
use Rattle.gil_syntax.specs.Pure.{PureSpec}
use Rattle.gil_syntax.specs.Valid.{param_names, is_among, has_twice}
use Rattle.gil_syntax.specs.WellMade.{has_hash, are_program_names}
use Rattle.gil_machine.specs.Step.{bind_all}
use Rattle.assert_logic.specs.Modes.{is_variable_of}
use Rattle.assert_logic.specs.Names.{named_by_items}
use Rattle.assert_logic.specs.Sorts.{has_sort, fits_sorts, Extends}
use Rattle.checked_runs.specs.Specifications.{fit_params, IsEntry}
use Rattle.checked_runs.proofs.Stores.{first_value, second_value, among_at, bound_at, args_agree, no_param, undeclared_fits, fits_both, fit_length, args_sorted, program_name}
use Rattle.pure_terms.specs.declared.variables.Sort.{Sort}
use Rattle.pure_terms.specs.Meaning.{both, value, values, IsProper, IsOver}
use Rattle.pure_terms.specs.Pure.{PureTerm, from_list}
use Rattle.pure_terms.proofs.VariableLaws.{slice_get-append, stay_when_tables_grow}
use Rattle.sym_evaluation.specs.Meaning.{AreSame, HaveValues, StandsFor, IsStoreOver}
use Rattle.sym_evaluation.specs.Pure.{PureStore, term_at}
use Rattle.sym_model.specs.Lists.{Each, OneOf}
use Rattle.sym_model.specs.Terms.{AreEachOver}
use Rattle.sym_model.proofs.ListLaws.{same_some, not_none, each_append, each_to, one_at}
use Rattle.sym_states.specs.Naming.{PureNamed, HaveSorts, MayName, IsNamedAs, IsNaming, NamesAll}
use Rattle.sym_states.proofs.Names.{one_of_two, names_same, same_name, turned}
use Rattle.sym_states.proofs.NamingLaws.{proper_sorts, store_longer}
use Rattle.sym_beginning.specs.Entering.{AreTermsAt, PureEntryTerms, IsFullEntry, AreEntryValues, IsValueOfEntry, Enters}

-- ---- nothing

pub none_is_proper : IsProper [] []
none_is_proper = record {
  one_each = refl;
  sorts = λ x s w in_table at. not_none at;
  fresh = λ x y n w in_table at less there occurs. not_none at;
}

pub nothing_over : (vars : List Sort) → IsStoreOver vars []
nothing_over vars x t at = not_none at

pub nothing_stands : (v : List PureValue) → StandsFor v [] []
nothing_stands v x = tt

extends_nothing : (t : Store) → Extends [] t
extends_nothing t x v at = not_none at

pub is_true_or : (b : Bool) → (b ≡ true) ⊎ (b ≡ false)
is_true_or true = inl refl
is_true_or false = inr refl

either : {A : Type 0} (o : Option A) → ((a : A) × (o ≡ Some a)) ⊎ (o ≡ None)
either (Some a) = inl (a, refl)
either None = inr refl

-- ---- logical names

pub among_logical : (xs : List (List ℕ)) (x : List ℕ) → is_among (filter has_hash xs) x ≡ (has_hash x && is_among xs x)
among_logical [] x = by (has_hash x)
  where
    by : (b : Bool) → false ≡ (b && false)
    by true = refl
    by false = refl
among_logical (y ∷ ys) x = by (has_hash y) refl (bytes_eq x y) refl (among_logical ys x)
  where
    skip : (b : Bool) → (b && (false || is_among ys x)) ≡ (b && is_among ys x)
    skip b = refl

    absorbs : (b c : Bool) → b ≡ true → true ≡ (b && (true || c))
    absorbs true c is = refl
    absorbs false c is = absurd (true≢false (sym is))

    refuses : (b c d : Bool) → b ≡ false → (b && c) ≡ (b && d)
    refuses true c d is = absurd (true≢false is)
    refuses false c d is = refl

    by : (h : Bool) → has_hash y ≡ h → (e : Bool) → bytes_eq x y ≡ e → is_among (filter has_hash ys) x ≡ (has_hash x && is_among ys x)
        → is_among (cond h (y ∷ filter has_hash ys) (filter has_hash ys)) x ≡ (has_hash x && (bytes_eq x y || is_among ys x))
    by true hash true same later =
        ap (λ b. b || is_among (filter has_hash ys) x) same ∙ absorbs (has_hash x) (is_among ys x) (ap has_hash (names_same x y same) ∙ hash) ∙ ap (λ b. has_hash x && (b || is_among ys x)) (sym same)
    by true hash false other later = ap (λ b. b || is_among (filter has_hash ys) x) other ∙ later ∙ ap (λ b. has_hash x && (b || is_among ys x)) (sym other)
    by false none true same later =
        later ∙ refuses (has_hash x) (is_among ys x) (bytes_eq x y || is_among ys x) (ap has_hash (names_same x y same) ∙ none)
    by false none false other later = later ∙ ap (λ b. has_hash x && (b || is_among ys x)) (sym other)

-- ---- names in the order of declaration

among_append : (xs ys : List (List ℕ)) (x : List ℕ) → is_among (xs ++ ys) x ≡ (is_among xs x || is_among ys x)
among_append [] ys x = refl
among_append (z ∷ xs) ys x = ap (λ b. bytes_eq x z || b) (among_append xs ys x) ∙ by (bytes_eq x z)
  where
    by : (b : Bool) → (b || (is_among xs x || is_among ys x)) ≡ ((b || is_among xs x) || is_among ys x)
    by true = refl
    by false = refl

-- what stands among names that pass a test passes it
among_passes : (f : List ℕ → Bool) (xs : List (List ℕ)) (x : List ℕ) → is_among (filter f xs) x ≡ true → f x ≡ true
among_passes f [] x is = absurd (true≢false (sym is))
among_passes f (z ∷ xs) x is = by (f z) refl is (λ later. among_passes f xs x later)
  where
    by : (b : Bool) → f z ≡ b → is_among (cond b (z ∷ filter f xs) (filter f xs)) x ≡ true → (is_among (filter f xs) x ≡ true → f x ≡ true) → f x ≡ true
    by true passes is later = ⊎_elim (λ same. ap f (names_same x z same) ∙ passes) later (one_of_two (bytes_eq x z) (is_among (filter f xs) x) is)
    by false fails is later = later is

-- the names that are declared, and all of them behind those, are the same names
pub ordered_among : (ds xs : List (List ℕ)) (x : List ℕ) → is_among (filter (is_among xs) ds ++ xs) x ≡ is_among xs x
ordered_among ds xs x = among_append (filter (is_among xs) ds) xs x ∙ by (is_among (filter (is_among xs) ds) x) refl
  where
    by : (b : Bool) → is_among (filter (is_among xs) ds) x ≡ b → (b || is_among xs x) ≡ is_among xs x
    by true is = sym (among_passes (is_among xs) ds x is)
    by false is = refl

-- ---- parameters and their terms

pub names_length : (ps : List Param) → length (param_names ps) ≡ length ps
names_length [] = refl
names_length (q ∷ qs) = ap suc (names_length qs)

terms_length : (bs : PureStore) (xs : List (List ℕ)) (ts : List PureTerm) → AreTermsAt bs xs ts → length ts ≡ length xs
terms_length bs [] [] are = refl
terms_length bs [] (t ∷ ts) are = absurd are
terms_length bs (x ∷ xs) [] are = absurd are
terms_length bs (x ∷ xs) (t ∷ ts) are = ap suc (terms_length bs xs ts are.1)

terms_over : (vars : List Sort) (bs : PureStore) (xs : List (List ℕ)) (ts : List PureTerm) → AreTermsAt bs xs ts → IsStoreOver vars bs → AreEachOver vars ts
terms_over vars bs [] [] are over = tt
terms_over vars bs [] (t ∷ ts) are over = absurd are
terms_over vars bs (x ∷ xs) [] are over = absurd are
terms_over vars bs (x ∷ xs) (t ∷ ts) are over = (over x t are.0, terms_over vars bs xs ts are.1 over)

same_value : (v : List PureValue) (o : Option PureTerm) (t : PureTerm) (u : Option PureValue) (w : PureValue) → o ≡ Some t → u ≡ Some w → AreSame v o u → value v t ≡ Some w
same_value v (Some s) t (Some x) w there is same = ap (value v) (sym (same_some there)) ∙ same ∙ is
same_value v None t u w there is same = not_none there
same_value v (Some s) t None w there is same = absurd same

some_value : (v : List PureValue) (o : Option PureTerm) (t : PureTerm) (u : Option PureValue) → o ≡ Some t → AreSame v o u → (w : PureValue) × (u ≡ Some w)
some_value v (Some s) t (Some w) there same = (w, refl)
some_value v (Some s) t None there same = absurd same
some_value v None t u there same = not_none there

-- a store gives the terms of names these values
terms_have : (v : List PureValue) (bs : PureStore) (t : Store) (xs : List (List ℕ)) (ts : List PureTerm) (ws : List PureValue) → AreTermsAt bs xs ts → StandsFor v bs t → length xs ≡ length ws → Agrees t xs ws → HaveValues v ts ws
terms_have v bs t [] [] [] are stands as_many agrees = refl
terms_have v bs t [] [] (w ∷ ws) are stands as_many agrees = absurd (omega (arith, as_many))
terms_have v bs t [] (u ∷ ts) ws are stands as_many agrees = absurd are
terms_have v bs t (x ∷ xs) [] ws are stands as_many agrees = absurd are
terms_have v bs t (x ∷ xs) (u ∷ ts) [] are stands as_many agrees = absurd (omega (arith, as_many))
terms_have v bs t (x ∷ xs) (u ∷ ts) (w ∷ ws) are stands as_many agrees =
    let here : value v u ≡ Some w = same_value v (term_at bs x) u (value_of t x) w are.0 (agrees zero x w refl refl) (stands x) in
    let later = terms_have v bs t xs ts ws are.1 stands (omega (arith, as_many)) (λ i y z name at. agrees (suc i) y z name at) in
    λ i. both (here i) (later i)

-- one name more
pub terms_more : (bs : PureStore) (xs : List (List ℕ)) (ts : List PureTerm) (x : List ℕ) (t : PureTerm) → AreTermsAt bs xs ts → term_at bs x ≡ Some t → AreTermsAt bs (xs ++ x ∷ []) (ts ++ t ∷ [])
terms_more bs [] [] x t are at = (at, tt)
terms_more bs [] (u ∷ ts) x t are at = absurd are
terms_more bs (y ∷ xs) [] x t are at = absurd are
terms_more bs (y ∷ xs) (u ∷ ts) x t are at = (are.0, terms_more bs xs ts x t are.1 at)

-- and there are such values
values_there : (v : List PureValue) (bs : PureStore) (t : Store) (xs : List (List ℕ)) (ts : List PureTerm) → AreTermsAt bs xs ts → StandsFor v bs t
    → (ws : List PureValue) × (HaveValues v ts ws × (length xs ≡ length ws) × Agrees t xs ws)
values_there v bs t [] [] are stands = ([], (refl, refl, λ i x w name at. not_none name))
values_there v bs t [] (u ∷ ts) are stands = absurd are
values_there v bs t (x ∷ xs) [] are stands = absurd are
values_there v bs t (x ∷ xs) (u ∷ ts) are stands =
    let (ws, (have, as_many, agrees)) = values_there v bs t xs ts are.1 stands in
    let (w, is) = some_value v (term_at bs x) u (value_of t x) are.0 (stands x) in
    let here : value v u ≡ Some w = same_value v (term_at bs x) u (value_of t x) w are.0 is (stands x) in
    (w ∷ ws, ((λ i. both (here i) (have i)), ap suc as_many, by w ws is agrees))
  where
    by : (w : PureValue) (ws : List PureValue) → value_of t x ≡ Some w → Agrees t xs ws → Agrees t (x ∷ xs) (w ∷ ws)
    by w ws is agrees zero y z name at = ap (value_of t) (sym (same_some name)) ∙ is ∙ at
    by w ws is agrees (suc i) y z name at = agrees i y z name at

same_there : (v : List PureValue) (t : PureTerm) (w : PureValue) (o : Option PureTerm) (u : Option PureValue) → o ≡ Some t → u ≡ Some w → value v t ≡ Some w → AreSame v o u
same_there v t w o u there is at = subst (λ p. AreSame v p u) (sym there) (subst (λ q. AreSame v (Some t) q) (sym is) at)

-- the parameters, bound to their values, agree with their terms
same_bound : (v : List PureValue) (bs : PureStore) (xs : List (List ℕ)) (ts : List PureTerm) (ws : List PureValue) → AreTermsAt bs xs ts → HaveValues v ts ws
    → (x : List ℕ) → is_among xs x ≡ true → AreSame v (term_at bs x) (value_of (bind_all xs ws) x)
same_bound v bs [] ts ws are have x among = absurd (true≢false (sym among))
same_bound v bs (y ∷ ys) [] ws are have x among = absurd are
same_bound v bs (y ∷ ys) (u ∷ ts) ws are have x among =
    let (w, (rest, (here, later, whole))) = both_parts (value v u) (values v (from_list ts)) ws have in
    subst (λ zs. AreSame v (term_at bs x) (value_of (bind_all (y ∷ ys) zs) x)) (sym whole)
    (by w rest here (same_bound v bs ys ts rest are.1 later x) (bytes_eq y x) refl)
  where
    both_parts : (o : Option PureValue) (os : Option (List PureValue)) (ws : List PureValue) → both o os ≡ Some ws → (w : PureValue) × ((rest : List PureValue) × ((o ≡ Some w) × (os ≡ Some rest) × (ws ≡ w ∷ rest)))
    both_parts (Some w) (Some rest) ws is = (w, (rest, (refl, refl, sym (same_some is))))
    both_parts (Some w) None ws is = not_none is
    both_parts None os ws is = not_none is

    later_among : bytes_eq y x ≡ false → is_among ys x ≡ true
    later_among other = ⊎_elim (λ same. absurd (true≢false (sym same ∙ turned y x other))) (λ later. later) (one_of_two (bytes_eq x y) (is_among ys x) among)

    by : (w : PureValue) (rest : List PureValue) → value v u ≡ Some w → (is_among ys x ≡ true → AreSame v (term_at bs x) (value_of (bind_all ys rest) x)) → (b : Bool) → bytes_eq y x ≡ b
        → AreSame v (term_at bs x) (value_of (bind_all (y ∷ ys) (w ∷ rest)) x)
    by w rest here later true same = same_there v u w (term_at bs x) (value_of (bind_all (y ∷ ys) (w ∷ rest)) x) (ap (term_at bs) (sym (names_same y x same)) ∙ are.0) (ap (λ b. cond b (Some w) (value_of (bind_all ys rest) x)) same) here
    by w rest here later false other = subst (λ o. AreSame v (term_at bs x) o) (sym (ap (λ b. cond b (Some w) (value_of (bind_all ys rest) x)) other)) (later (later_among other))

pub unbound : (xs : List (List ℕ)) (ws : List PureValue) (x : List ℕ) → is_among xs x ≡ false → value_of (bind_all xs ws) x ≡ None
unbound xs ws x other =
    ⊎_elim
    (λ (some : (w : PureValue) × (value_of (bind_all xs ws) x ≡ Some w)). let (i, (name, at)) = bound_at xs ws x some.0 some.1 in absurd (true≢false (sym (among_at xs i x name) ∙ other)))
    (λ none. none) (either (value_of (bind_all xs ws) x))

-- ---- sorts

later_sorts : (ps qs : List Param) (x : List ℕ) (w : PureValue) → fits_sorts (ps ++ qs) x w ≡ true → fits_sorts qs x w ≡ true
later_sorts ps qs x w fits = (and_parts (fits_sorts ps x w) (fits_sorts qs x w) (sym (list_all-append (λ q. not (bytes_eq q.name x) || has_sort q.sort w) ps qs) ∙ fits)).1

own_sort : (q : Param) (w : PureValue) → (not (bytes_eq q.name q.name) || has_sort q.sort w) ≡ true → has_sort q.sort w ≡ true
own_sort q w fits = sym (ap (λ b. not b || has_sort q.sort w) (same_name q.name)) ∙ fits

all_fit : (ps qs : List Param) (t : Store) (ws : List PureValue) → ((x : List ℕ) (w : PureValue) → value_of t x ≡ Some w → fits_sorts (ps ++ qs) x w ≡ true) → length (param_names qs) ≡ length ws → Agrees t (param_names qs) ws → fit_params qs ws ≡ true
all_fit ps [] t [] fits as_many agrees = refl
all_fit ps [] t (w ∷ ws) fits as_many agrees = absurd (omega (arith, as_many))
all_fit ps (q ∷ qs) t [] fits as_many agrees = absurd (omega (arith, as_many))
all_fit ps (q ∷ qs) t (w ∷ ws) fits as_many agrees =
    let here = (and_parts (not (bytes_eq q.name q.name) || has_sort q.sort w) (fits_sorts qs q.name w) (later_sorts ps (q ∷ qs) q.name w (fits q.name w (agrees zero q.name w refl refl)))).0 in
    let later = all_fit (ps ++ q ∷ []) qs t ws (λ x u at. subst (λ rs. fits_sorts rs x u ≡ true) (sym (append_assoc ps (q ∷ []) qs)) (fits x u at)) (omega (arith, as_many)) (λ i x u name at. agrees (suc i) x u name at) in
    (λ i. own_sort q w here i && fit_params qs ws) ∙ later

-- ---- both stores

same_beside : (v : List PureValue) (bs cs ds : PureStore) (s t : Store) → ((x : List ℕ) → term_at ds x ≡ option_or (term_at bs x) (term_at cs x)) → StandsFor v bs s → StandsFor v cs t → StandsFor v ds (s ++ t)
same_beside v bs cs ds s t are first second x =
    subst (λ o. AreSame v o (value_of (s ++ t) x)) (sym (are x)) (by (term_at bs x) (value_of s x) refl (first x))
  where
    by : (o : Option PureTerm) (u : Option PureValue) → value_of s x ≡ u → AreSame v o u → AreSame v (option_or o (term_at cs x)) (value_of (s ++ t) x)
    by (Some r) (Some w) is same = subst (λ p. AreSame v (Some r) p) (sym (first_value s t x w is)) same
    by (Some r) None is same = absurd same
    by None (Some w) is same = absurd same
    by None None is same = subst (λ p. AreSame v (term_at cs x) p) (sym (second_value s t x is)) (second x)

over_beside : (vars : List Sort) (bs cs ds : PureStore) → ((x : List ℕ) → term_at ds x ≡ option_or (term_at bs x) (term_at cs x)) → IsStoreOver vars bs → IsStoreOver vars cs → IsStoreOver vars ds
over_beside vars bs cs ds are first second x t at = by (term_at bs x) refl (sym (are x) ∙ at)
  where
    by : (o : Option PureTerm) → term_at bs x ≡ o → option_or o (term_at cs x) ≡ Some t → IsOver vars t
    by (Some r) there is = first x t (there ∙ is)
    by None there is = second x t is

-- ---- the entry

module _ (s : PureSpec) (once : has_twice (param_names s.params) ≡ false) (program : are_program_names s.params ≡ true) where
  abbrev names : List (List ℕ)
  names = param_names s.params

  module _ (args : List PureValue) (variables : Store) (full : IsFullEntry s args variables) where
    as_many_args : length (param_names s.params) ≡ length args
    as_many_args = fit_length s.params args full.entered.arguments_fit

    may_name_params : MayName s.params (param_names s.params) [] [] [] [] (bind_all (param_names s.params) args)
    may_name_params = record {
      proper = none_is_proper;
      over = nothing_over [];
      stands = nothing_stands [];
      extends = extends_nothing (bind_all (param_names s.params) args);
      sorts = args_sorted s.params args full.entered.arguments_fit once;
      known = λ x among. ⊎_elim
          (λ (some : (w : PureValue) × (value_of (bind_all (param_names s.params) args) x ≡ Some w)). ap is_some some.1)
          (λ none. absurd (true≢false (sym among ∙ no_param (param_names s.params) args x as_many_args none))) (either (value_of (bind_all (param_names s.params) args) x));
    }

  pub no_params : NamesAll s.params (param_names s.params) [] [] None → (args : List PureValue) (variables : Store) → ¬ IsFullEntry s args variables
  no_params none args variables full = none [] [] (bind_all (param_names s.params) args) (may_name_params args variables full)

  module _ (a : PureNamed) (params : IsNaming s.params (param_names s.params) [] [] a) (logical : List (List ℕ)) (are_logical : (x : List ℕ) → is_among logical x ≡ is_variable_of s x) where
    module _ (args : List PureValue) (variables : Store) (full : IsFullEntry s args variables) where
      abbrev first : IsNamedAs s.params (param_names s.params) [] [] [] [] (bind_all (param_names s.params) args) a
      first = params.cover [] [] (bind_all (param_names s.params) args) (may_name_params args variables full)

      may_name_variables : MayName s.logicals logical a.vars [] first.values [] variables
      may_name_variables = record {
        proper = first.proper;
        over = nothing_over a.vars;
        stands = nothing_stands first.values;
        extends = extends_nothing variables;
        sorts = λ x w at. later_sorts s.params s.logicals x w (full.entered.sorts x w at);
        known = λ x among. full.known x (sym (are_logical x) ∙ among);
      }

    pub no_variables : NamesAll s.logicals logical a.vars [] None → (args : List PureValue) (variables : Store) → ¬ IsFullEntry s args variables
    no_variables none args variables full = let n = first args variables full in none n.values [] variables (may_name_variables args variables full)

    module _ (b : PureNamed) (variables_named : IsNaming s.logicals logical a.vars [] b) (ts : List PureTerm) (terms : AreTermsAt a.store (param_names s.params) ts) (store : PureStore)
        (beside : (x : List ℕ) → term_at store x ≡ option_or (term_at a.store x) (term_at b.store x)) where
      abbrev entry : PureEntryTerms
      entry = record { vars = b.vars; args = ts; variables = b.store; store = store }

      params_over : IsStoreOver b.vars a.store
      params_over x t at = subst (λ vars. IsOver vars t) (sym variables_named.grows) (stay_when_tables_grow.over t a.vars variables_named.more (params.over (nothing_over []) x t at))

      -- the store of the parameters, from their values
      params_stand : (v : List PureValue) (args : List PureValue) → HaveValues v ts args → StandsFor v a.store (bind_all (param_names s.params) args)
      params_stand v args have x =
          ⊎_elim
          (λ among. same_bound v a.store (param_names s.params) ts args terms have x among)
          (λ other. subst (λ o. AreSame v o (value_of (bind_all (param_names s.params) args) x)) (sym (params.others_stay x other)) (subst (λ u. AreSame v None u) (sym (unbound (param_names s.params) args x other)) tt))
          (is_true_or (is_among (param_names s.params) x))

      module _ (args : List PureValue) (variables : Store) (full : IsFullEntry s args variables) where
        abbrev n : IsNamedAs s.params (param_names s.params) [] [] [] [] (bind_all (param_names s.params) args) a
        n = first args variables full

        abbrev k : IsNamedAs s.logicals logical a.vars [] n.values [] variables b
        k = variables_named.cover n.values [] variables (may_name_variables args variables full)

        same_params : (x : List ℕ) → value_of n.store x ≡ value_of (bind_all (param_names s.params) args) x
        same_params x = ⊎_elim (λ among. n.listed x among) (λ other. n.others x other ∙ sym (unbound (param_names s.params) args x other)) (is_true_or (is_among (param_names s.params) x))

        same_variables : (x : List ℕ) → value_of k.store x ≡ value_of variables x
        same_variables x =
            ⊎_elim (λ among. k.listed x among)
            (λ other. k.others x other ∙ ⊎_elim
            (λ (some : (w : PureValue) × (value_of variables x ≡ Some w)). absurd (true≢false (sym (full.entered.only_variables x some.0 some.1) ∙ sym (are_logical x) ∙ other)))
            (λ none. sym none) (either (value_of variables x)))
            (is_true_or (is_among logical x))

        have_args : HaveValues n.values ts args
        have_args =
            terms_have n.values a.store (bind_all (param_names s.params) args) (param_names s.params) ts args terms (λ x. subst (λ u. AreSame n.values (term_at a.store x) u) (same_params x) (n.stands x))
            (as_many_args args variables full) (args_agree (param_names s.params) args once)

        have_args_longer : HaveValues (n.values ++ k.values) ts args
        have_args_longer =
            terms_have (n.values ++ k.values) a.store (bind_all (param_names s.params) args) (param_names s.params) ts args terms
            (store_longer a.vars n.values k.values n.proper.one_each a.store (bind_all (param_names s.params) args) (params.over (nothing_over [])) (λ x. subst (λ u. AreSame n.values (term_at a.store x) u) (same_params x) (n.stands x)))
            (as_many_args args variables full) (args_agree (param_names s.params) args once)

        variables_stand : StandsFor (n.values ++ k.values) b.store variables
        variables_stand x = subst (λ u. AreSame (n.values ++ k.values) (term_at b.store x) u) (same_variables x) (k.stands x)

        from_args : (w : PureValue) → OneOf (λ x. value_of (bind_all (param_names s.params) args) x ≡ Some w) (param_names s.params) → IsValueOfEntry args variables w
        from_args w one =
            let (x, at) = some_of (param_names s.params) one in
            let (i, (name, there)) = bound_at (param_names s.params) args x w at in
            inl (one_at (λ y. y ≡ w) args i w there refl)
          where
            some_of : (xs : List (List ℕ)) → OneOf (λ x. value_of (bind_all (param_names s.params) args) x ≡ Some w) xs → (x : List ℕ) × (value_of (bind_all (param_names s.params) args) x ≡ Some w)
            some_of [] one = absurd one
            some_of (x ∷ xs) (inl at) = (x, at)
            some_of (x ∷ xs) (inr later) = some_of xs later

        from_variables : (w : PureValue) → OneOf (λ x. value_of variables x ≡ Some w) logical → IsValueOfEntry args variables w
        from_variables w one = inr (some_of logical one)
          where
            some_of : (xs : List (List ℕ)) → OneOf (λ x. value_of variables x ≡ Some w) xs → (x : List ℕ) × (value_of variables x ≡ Some w)
            some_of [] one = absurd one
            some_of (x ∷ xs) (inl at) = (x, at)
            some_of (x ∷ xs) (inr later) = some_of xs later

        covered : (v : List PureValue) × (IsProper b.vars v × (AreEntryValues entry s v args variables × Each (IsValueOfEntry args variables) v))
        covered = (
          n.values ++ k.values,
          (
            k.proper,
            (
              record {
                args_are = have_args_longer;
                variables_are = variables_stand;
                store_is = same_beside (n.values ++ k.values) a.store b.store store (bind_all (param_names s.params) args) variables beside (params_stand (n.values ++ k.values) args have_args_longer) variables_stand;
              },
              each_append (IsValueOfEntry args variables) n.values k.values
                  (each_to (λ w. OneOf (λ x. value_of (bind_all (param_names s.params) args) x ≡ Some w) (param_names s.params)) (IsValueOfEntry args variables) n.values from_args n.come)
                  (each_to (λ w. OneOf (λ x. value_of variables x ≡ Some w) logical) (IsValueOfEntry args variables) k.values from_variables k.come),
            ),
          ),
        )

      realized : (v : List PureValue) → IsProper b.vars v → (args : List PureValue) × ((variables : Store) × (IsEntry s args variables × AreEntryValues entry s v args variables))
      realized v proper =
          let have_all : HaveSorts (a.vars ++ variables_named.more) v = subst (λ vars. HaveSorts vars v) variables_named.grows (proper_sorts b.vars v proper) in
          let have : HaveSorts a.vars v = λ i sort at. have_all i sort (slice_get-append a.vars variables_named.more i (slice_get_within a.vars i sort at) ∙ at) in
          let (t, (adds, stands)) = params.exact v [] have (nothing_stands v) in
          let (args, (args_are, as_many, agrees)) = values_there v a.store t (param_names s.params) ts terms stands in
          let (variables, (adds_variables, variables_are)) = variables_named.exact v [] (proper_sorts b.vars v proper) (nothing_stands v) in (
            args,
            (
              variables,
              (
                record {
                  arguments_fit = all_fit [] s.params t args (λ x w at. ⊎_elim (λ none. not_none none) (λ (new : IsTrue (is_among (param_names s.params) x) × IsTrue (fits_sorts s.params x w)). new.1) (adds.added x w at)) as_many agrees;
                  only_variables = λ x w at. ⊎_elim (λ none. not_none none) (λ (new : IsTrue (is_among logical x) × IsTrue (fits_sorts s.logicals x w)). sym (are_logical x) ∙ new.0) (adds_variables.added x w at);
                  sorts = λ x w at. ⊎_elim (λ none. not_none none)
                      (λ (new : IsTrue (is_among logical x) × IsTrue (fits_sorts s.logicals x w)).
                      fits_both s.params s.logicals x w (undeclared_fits s.params x w (no_param_name x (sym (are_logical x) ∙ new.0))) new.1) (adds_variables.added x w at);
                },
                record {
                  args_are = args_are;
                  variables_are = variables_are;
                  store_is = same_beside v a.store b.store store (bind_all (param_names s.params) args) variables beside (params_stand v args args_are) variables_are;
                },
              ),
            ),
          )
        where
          no_param_name : (x : List ℕ) → is_variable_of s x ≡ true → is_among (param_names s.params) x ≡ false
          no_param_name x is =
              ⊎_elim (λ among. absurd (true≢false (sym (and_parts (has_hash x) (named_by_items s.pre x) is).0 ∙ program_name s.params x program among))) (λ other. other) (is_true_or (is_among (param_names s.params) x))

      pub enters : Enters s entry
      enters = record {
        cover = covered;
        exact = realized;
        as_many = terms_length a.store (param_names s.params) ts terms ∙ names_length s.params;
        args_over = terms_over b.vars a.store (param_names s.params) ts terms params_over;
        variables_over = variables_named.over (nothing_over a.vars);
        store_over = over_beside b.vars a.store b.store store beside params_over (variables_named.over (nothing_over a.vars));
      }

-- ---- what was named from nothing

pub named_from : (ps : List Param) (xs ys : List (List ℕ)) (vars table : List Sort) (bs : PureStore) (o : Option PureNamed) → xs ≡ ys → vars ≡ table → bs ≡ [] → NamesAll ps xs vars bs o → NamesAll ps ys table [] o
named_from ps xs ys vars table bs o names tables stores law =
    subst (λ zs. NamesAll ps zs table [] o) names (subst (λ ts. NamesAll ps xs ts [] o) tables (subst (λ cs. NamesAll ps xs vars cs o) stores law))
