-- Names get new variables one after another.
use Rattle.std.proofs.Common.{◌≡◌, ◌⊎◌, ⊎_elim, inl, inr, ℕ, zero, suc, ◌+◌, ◌<◌, ◌≤◌, List, [], ◌∷◌, ◌++◌, length, slice_get, Bool, true, false, if◌then◌else◌, ◌||◌, Option, Some, None, is_some, IsSome, IsTrue, refl, sym, ap, subst, ◌∙◌, append_assoc, length-append, true≢false, arith}
use Rattle.std.specs.Str.{bytes_eq}
use Rattle.std.proofs.lemmas.List.{append-nil}
use Rattle.std.proofs.lemmas.List.Elements.{Contains-push_cases}
use Rattle.std.proofs.lemmas.Option.{slice_get_within}
use Rattle.gil_values.specs.Pure.{PureValue}
use Rattle.gil_values.proofs.OperatorSymbols.{none_contained}
use Rattle.gil_syntax.specs.declared.assertions.Param.{Param}
use Rattle.gil_syntax.specs.Evaluation.{Store, bind, value_of}
use Rattle.gil_syntax.specs.Valid.{is_among}
use Rattle.assert_logic.specs.Sorts.{fits_sorts}
use Rattle.pure_terms.specs.declared.variables.Sort.{Sort}
use Rattle.pure_terms.specs.declared.variables.Var.{Var}
use Rattle.pure_terms.specs.Kinds.{has_sort}
use Rattle.pure_terms.specs.Meaning.{value, IsProper, IsOver}
use Rattle.pure_terms.specs.Pure.{PureTerm, variable}
use Rattle.pure_terms.proofs.VariableLaws.{slice_get-append, stay_when_tables_grow}
use Rattle.sym_evaluation.specs.Meaning.{AreSame, StandsFor, IsStoreOver}
use Rattle.sym_evaluation.specs.Pure.{PureStore, term_at}
use Rattle.sym_model.specs.Lists.{OneOf}
use Rattle.sym_model.proofs.ListLaws.{same_some, not_none, each_append, each_to, one_left, one_right}
use Rattle.sym_paths.proofs.Binding.{agree_bound, each_bound}
use Rattle.sym_paths.proofs.Valuations.{later_variables_are_proper}
use Rattle.sym_states.specs.Naming.{PureNamed, HaveSorts, AddsVariable, MayName, IsNamedAs, AddsNames, IsVariableFor, IsNaming, NamesAll}
use Rattle.sym_states.specs.Sorts.{IsSortOf}
use Rattle.sym_states.proofs.Names.{one_of_two, none_of_two, names_same, same_name, among_left, among_right, among_parts, only_name, only_other, is_only, without, one_less, others_among}

-- ---- valuations and stores

-- a proper valuation gives each variable a value of its sort
pub proper_sorts : (vars : List Sort) (v : List PureValue) → IsProper vars v → HaveSorts vars v
proper_sorts vars v proper i sort at =
    let within : i < length vars = slice_get_within vars i sort at in
    let (w, there) = read v i (omega (arith, within, proper.one_each)) in
    (w, (there, proper.sorts i sort w at there))
  where
    read : (v : List PureValue) (i : ℕ) → i < length v → (w : PureValue) × (slice_get v i ≡ Some w)
    read [] i below = absurd (omega (arith, below))
    read (w ∷ v) zero below = (w, refl)
    read (w ∷ v) (suc i) below = read v i (omega (arith, below))

have_fewer : (vars more : List Sort) (v : List PureValue) → HaveSorts (vars ++ more) v → HaveSorts vars v
have_fewer vars more v have i sort at =
    let within : i < length vars = slice_get_within vars i sort at in
    have i sort (slice_get-append vars more i within ∙ at)

at_end : {X : Type 0} (xs : List X) (y : X) → slice_get (xs ++ y ∷ []) (length xs) ≡ Some y
at_end [] y = refl
at_end (x ∷ xs) y = at_end xs y

some_is : {X : Type 0} (o : Option X) → IsSome o → (x : X) × (o ≡ Some x)
some_is (Some x) is = (x, refl)
some_is None is = absurd (true≢false (sym is))

is_there : {X : Type 0} (o : Option X) (x : X) → o ≡ Some x → IsSome o
is_there o x at = ap is_some at

-- a name with a term has a value, and one without has none
has_value : (v : List PureValue) (t : PureTerm) (o : Option PureTerm) (u : Option PureValue) → o ≡ Some t → AreSame v o u → (w : PureValue) × (u ≡ Some w)
has_value v t o (Some w) at same = (w, refl)
has_value v t (Some s) None at same = absurd same
has_value v t None None at same = not_none at

has_none : (v : List PureValue) (o : Option PureTerm) (u : Option PureValue) → o ≡ None → AreSame v o u → u ≡ None
has_none v o None at same = refl
has_none v (Some s) (Some w) at same = not_none (sym at)
has_none v None (Some w) at same = absurd same

-- values stay where a valuation grows
same_longer : (vars : List Sort) (v more : List PureValue) → length v ≡ length vars → (o : Option PureTerm) (u : Option PureValue) → ((t : PureTerm) → o ≡ Some t → IsOver vars t) → AreSame v o u → AreSame (v ++ more) o u
same_longer vars v more one_each (Some t) (Some w) over same = stay_when_tables_grow.values t vars v more (over t refl) one_each ∙ same
same_longer vars v more one_each None None over same = tt
same_longer vars v more one_each (Some t) None over same = absurd same
same_longer vars v more one_each None (Some w) over same = absurd same

pub store_longer : (vars : List Sort) (v more : List PureValue) → length v ≡ length vars → (bs : PureStore) (s : Store) → IsStoreOver vars bs → StandsFor v bs s → StandsFor (v ++ more) bs s
store_longer vars v more one_each bs s over stands x = same_longer vars v more one_each (term_at bs x) (value_of s x) (over x) (stands x)

-- a name stands in no empty list
one_there : (x : List ℕ) (ys : List (List ℕ)) → IsTrue (is_among ys x) → 1 ≤ length ys
one_there x [] among = absurd (true≢false (sym among))
one_there x (y ∷ ys) among = omega arith

-- ---- no name, and one that has a term

module _ (ps : List Param) where
  itself : (xs : List (List ℕ)) (vars : List Sort) (bs : PureStore) → ((x : List ℕ) → IsTrue (is_among xs x) → IsSome (term_at bs x)) → IsNaming ps xs vars bs (record { vars = vars; store = bs })
  itself xs vars bs all = record {
    more = [];
    grows = sym (append-nil vars);
    all_named = all;
    known_stay = λ x t at. at;
    others_stay = λ x other. refl;
    over = λ over. over;
    few = λ ys known. omega arith;
    variables = λ x t at. inl at;
    cover = λ v s t may. record {
      values = [];
      proper = subst (IsProper vars) (sym (append-nil v)) may.proper;
      come = tt;
      store = s;
      stands = subst (λ w. StandsFor w bs s) (sym (append-nil v)) may.stands;
      listed = λ x among.
          let (term, at) = some_is (term_at bs x) (all x among) in
          let (w, is) = has_value v term (term_at bs x) (value_of s x) at (may.stands x) in
          is ∙ sym (may.extends x w is);
      others = λ x other. refl;
    };
    exact = λ v s have stands. (s, (record { extends = λ x w is. is; added = λ x w is. inl is }, stands));
  }

  pub nothing_named : (vars : List Sort) (bs : PureStore) → IsNaming ps [] vars bs (record { vars = vars; store = bs })
  nothing_named vars bs = itself [] vars bs (λ x none. absurd (true≢false (sym none)))

  pub is_known : (x : List ℕ) (vars : List Sort) (bs : PureStore) (t : PureTerm) → term_at bs x ≡ Some t → IsNaming ps (x ∷ []) vars bs (record { vars = vars; store = bs })
  is_known x vars bs t at = itself (x ∷ []) vars bs (λ y among. subst (λ z. IsSome (term_at bs z)) (sym (only_name x y among)) (is_there (term_at bs x) t at))

  -- ---- a name that gets a variable

  module _ (x : List ℕ) (vars : List Sort) (bs : PureStore) (lacks : term_at bs x ≡ None) where
    pub no_sort : IsSortOf ps x None → (v : List PureValue) (s t : Store) → ¬ MayName ps (x ∷ []) vars bs v s t
    no_sort none v s t may =
        let (w, is) = some_is (value_of t x) (may.known x (is_only x)) in
        true≢false (sym (may.sorts x w is) ∙ none w)

    module _ (sort : Sort) (law : IsSortOf ps x (Some sort)) (named : PureNamed) (adds : AddsVariable x sort (record { vars = vars; store = bs }) named) where
      bound : (y : List ℕ) → term_at named.store y ≡ (if bytes_eq x y then Some (variable (record { number = length vars; sort = sort })) else term_at bs y)
      bound = adds.store

      old_there : (y : List ℕ) → bytes_eq x y ≡ false → term_at named.store y ≡ term_at bs y
      old_there y other = bound y ∙ ap (λ b. if b then Some (variable (record { number = length vars; sort = sort })) else term_at bs y) other

      new_there : (y : List ℕ) → bytes_eq x y ≡ true → term_at named.store y ≡ Some (variable (record { number = length vars; sort = sort }))
      new_there y same = bound y ∙ ap (λ b. if b then Some (variable (record { number = length vars; sort = sort })) else term_at bs y) same

      all_are : (y : List ℕ) → IsTrue (is_among (x ∷ []) y) → IsSome (term_at named.store y)
      all_are y among =
          let same : bytes_eq x y ≡ true = subst (λ z. bytes_eq x z ≡ true) (sym (only_name x y among)) (same_name x) in
          is_there (term_at named.store y) _ (new_there y same)

      stays : (y : List ℕ) (t : PureTerm) → term_at bs y ≡ Some t → term_at named.store y ≡ Some t
      stays y t at = by (bytes_eq x y) refl
        where
          by : (b : Bool) → bytes_eq x y ≡ b → term_at named.store y ≡ Some t
          by true same = not_none (sym (subst (λ z. term_at bs z ≡ None) (names_same x y same) lacks) ∙ at)
          by false other = old_there y other ∙ at

      over_new : IsStoreOver vars bs → IsStoreOver named.vars named.store
      over_new over =
          subst (λ table. IsStoreOver table named.store) (sym adds.vars)
          (each_bound (IsOver (vars ++ sort ∷ [])) bs named.store x (variable (record { number = length vars; sort = sort })) bound here
          (λ y t at. stay_when_tables_grow.over t vars (sort ∷ []) (over y t at)))
        where
          here : IsOver (vars ++ sort ∷ []) (variable (record { number = length vars; sort = sort }))
          here y has = ⊎_elim (λ none. absurd (none_contained y none)) (λ (is : record { number = length vars; sort = sort } ≡ y). subst (λ (z : Var). slice_get (vars ++ sort ∷ []) z.number ≡ Some z.sort) is (at_end vars sort)) (Contains-push_cases [] (record { number = length vars; sort = sort }) y has)

      module _ (v : List PureValue) (s t : Store) (may : MayName ps (x ∷ []) vars bs v s t) where
        covered : IsNamedAs ps (x ∷ []) vars bs v s t named
        covered =
            let (w, is) = some_is (value_of t x) (may.known x (is_only x)) in
            let fits : IsTrue (has_sort sort w) = law.0 w ∙ may.sorts x w is in
            let proper = later_variables_are_proper.drawn vars v sort w may.proper law.1 fits in
            let value_is : value (v ++ w ∷ []) (variable (record { number = length vars; sort = sort })) ≡ Some w = ap (slice_get (v ++ w ∷ [])) (sym may.proper.one_each) ∙ at_end v w in
            record {
              values = w ∷ [];
              proper = subst (λ table. IsProper table (v ++ w ∷ [])) (sym adds.vars) proper;
              come = (inl is, tt);
              store = bind x w s;
              stands = agree_bound (v ++ w ∷ []) bs named.store s x (variable (record { number = length vars; sort = sort })) w bound value_is
                  (store_longer vars v (w ∷ []) may.proper.one_each bs s may.over may.stands);
              listed = λ y among.
                  let same = only_name x y among in
                  subst (λ z. value_of (bind x w s) z ≡ value_of t z) (sym same) (ap (λ b. if b then Some w else value_of s x) (same_name x) ∙ sym is);
              others = λ y other. ap (λ b. if b then Some w else value_of s y) (only_other x y other);
            }

      realized : (v : List PureValue) (s : Store) → HaveSorts named.vars v → StandsFor v bs s → (t : Store) × (AddsNames ps (x ∷ []) vars bs s t × StandsFor v named.store t)
      realized v s have stands =
          let (w, (at, fits)) = have (length vars) sort (subst (λ table. slice_get table (length vars) ≡ Some sort) (sym adds.vars) (at_end vars sort)) in
          let none : value_of s x ≡ None = has_none v (term_at bs x) (value_of s x) lacks (stands x) in (
            bind x w s,
            (
              record {
                extends = λ y u is. by_old w y u is (bytes_eq x y) refl none;
                added = λ y u is. by_new w fits y u is (bytes_eq x y) refl;
              },
              agree_bound v bs named.store s x (variable (record { number = length vars; sort = sort })) w bound at stands,
            ),
          )
        where
          by_old : (w : PureValue) (y : List ℕ) (u : PureValue) → value_of s y ≡ Some u → (b : Bool) → bytes_eq x y ≡ b → value_of s x ≡ None → value_of (bind x w s) y ≡ Some u
          by_old w y u is true same none = not_none (sym (subst (λ z. value_of s z ≡ None) (names_same x y same) none) ∙ is)
          by_old w y u is false other none = ap (λ b. if b then Some w else value_of s y) other ∙ is

          by_new : (w : PureValue) → IsTrue (has_sort sort w) → (y : List ℕ) (u : PureValue) → value_of (bind x w s) y ≡ Some u → (b : Bool) → bytes_eq x y ≡ b
              → (value_of s y ≡ Some u) ⊎ (IsTrue (is_among (x ∷ []) y) × IsTrue (fits_sorts ps y u))
          by_new w fits y u is true same =
              let here : x ≡ y = names_same x y same in
              let w_is : w ≡ u = same_some (sym (ap (λ b. if b then Some w else value_of s y) same) ∙ is) in
              inr (subst (λ z. IsTrue (is_among (x ∷ []) z)) here (is_only x), subst (λ z. IsTrue (fits_sorts ps z u)) here (sym (law.0 u) ∙ subst (λ z. IsTrue (has_sort sort z)) w_is fits))
          by_new w fits y u is false other = inl (sym (ap (λ b. if b then Some w else value_of s y) other) ∙ is)

      pub is_new : IsNaming ps (x ∷ []) vars bs named
      is_new = record {
        more = sort ∷ [];
        grows = adds.vars;
        all_named = all_are;
        known_stay = stays;
        others_stay = λ y other. old_there y (only_other x y other);
        over = over_new;
        few = λ ys known. ⊎_elim (λ some. absurd (true≢false (sym some ∙ ap is_some lacks))) (one_there x ys) (known x (is_only x));
        variables = λ y t at. by_variable y t at (bytes_eq x y) refl;
        cover = covered;
        exact = realized;
      }
        where
          by_variable : (y : List ℕ) (t : PureTerm) → term_at named.store y ≡ Some t → (b : Bool) → bytes_eq x y ≡ b → (term_at bs y ≡ Some t) ⊎ IsVariableFor ps y t
          by_variable y t at true same = inr (record {
            number = length vars;
            sort = sort;
            is = sym (same_some (sym (new_there y same) ∙ at));
            values = λ w. law.0 w ∙ ap (λ z. fits_sorts ps z w) (names_same x y same);
          })
          by_variable y t at false other = inl (sym (old_there y other) ∙ at)

  -- ---- one name more

  module _ (xs : List (List ℕ)) (x : List ℕ) (vars : List Sort) (bs : PureStore) (a : PureNamed) (so_far : IsNaming ps xs vars bs a) where
    abbrev all : List (List ℕ)
    all = xs ++ x ∷ []

    before : (v : List PureValue) (s t : Store) → MayName ps all vars bs v s t → MayName ps xs vars bs v s t
    before v s t may = record {
      proper = may.proper;
      over = may.over;
      stands = may.stands;
      extends = may.extends;
      sorts = may.sorts;
      known = λ y among. may.known y (among_left xs (x ∷ []) y among);
    }

    after : (v : List PureValue) (s t : Store) (may : MayName ps all vars bs v s t) (n : IsNamedAs ps xs vars bs v s t a) → MayName ps (x ∷ []) a.vars a.store (v ++ n.values) n.store t
    after v s t may n = record {
      proper = n.proper;
      over = so_far.over may.over;
      stands = n.stands;
      extends = λ y w is. by y w is (is_among xs y) refl;
      sorts = may.sorts;
      known = λ y among. may.known y (among_right xs (x ∷ []) y among);
    }
      where
        by : (y : List ℕ) (w : PureValue) → value_of n.store y ≡ Some w → (b : Bool) → is_among xs y ≡ b → value_of t y ≡ Some w
        by y w is true among = sym (n.listed y among) ∙ is
        by y w is false other = may.extends y w (sym (n.others y other) ∙ is)

    none_more : NamesAll ps (x ∷ []) a.vars a.store None → NamesAll ps all vars bs None
    none_more none v s t may = let n = so_far.cover v s t (before v s t may) in none (v ++ n.values) n.store t (after v s t may n)

    abbrev Known : List (List ℕ) → Type 0
    Known ys = (y : List ℕ) → IsTrue (is_among all y) → IsSome (term_at bs y) ⊎ IsTrue (is_among ys y)

    module _ (b : PureNamed) (next : IsNaming ps (x ∷ []) a.vars a.store b) where
      covered_both : (v : List PureValue) (s t : Store) → MayName ps all vars bs v s t → IsNamedAs ps all vars bs v s t b
      covered_both v s t may =
          let n : IsNamedAs ps xs vars bs v s t a = so_far.cover v s t (before v s t may) in
          let k : IsNamedAs ps (x ∷ []) a.vars a.store (v ++ n.values) n.store t b = next.cover (v ++ n.values) n.store t (after v s t may n) in
          let joined : (v ++ n.values) ++ k.values ≡ v ++ (n.values ++ k.values) = append_assoc v n.values k.values in
          let Comes : PureValue → Type 0 = λ (w : PureValue). OneOf (λ y. value_of t y ≡ Some w) all in
          record {
            values = n.values ++ k.values;
            proper = subst (IsProper b.vars) joined k.proper;
            come = each_append Comes n.values k.values
                (each_to (λ w. OneOf (λ y. value_of t y ≡ Some w) xs) Comes n.values (λ w one. one_left (λ y. value_of t y ≡ Some w) xs (x ∷ []) one) n.come)
                (each_to (λ w. OneOf (λ y. value_of t y ≡ Some w) (x ∷ [])) Comes k.values (λ w one. one_right (λ y. value_of t y ≡ Some w) xs (x ∷ []) one) k.come);
            store = k.store;
            stands = subst (λ u. StandsFor u b.store k.store) joined k.stands;
            listed = λ y among. by_listed n k y (sym (among_parts xs (x ∷ []) y) ∙ among) (is_among (x ∷ []) y) refl;
            others = λ y other. let (first, second) = none_of_two (is_among xs y) (is_among (x ∷ []) y) (sym (among_parts xs (x ∷ []) y) ∙ other) in k.others y second ∙ n.others y first;
          }
        where
          by_listed : (n : IsNamedAs ps xs vars bs v s t a) (k : IsNamedAs ps (x ∷ []) a.vars a.store (v ++ n.values) n.store t b) (y : List ℕ) → (is_among xs y || is_among (x ∷ []) y) ≡ true → (c : Bool) → is_among (x ∷ []) y ≡ c → value_of k.store y ≡ value_of t y
          by_listed n k y among true last = k.listed y last
          by_listed n k y among false other =
              let first : is_among xs y ≡ true = ⊎_elim (λ is. is) (λ is. absurd (true≢false (sym is ∙ other))) (one_of_two (is_among xs y) (is_among (x ∷ []) y) among) in
              k.others y other ∙ n.listed y first

      realized_both : (v : List PureValue) (s : Store) → HaveSorts b.vars v → StandsFor v bs s → (t : Store) × (AddsNames ps all vars bs s t × StandsFor v b.store t)
      realized_both v s have stands =
          let have_all : HaveSorts (a.vars ++ next.more) v = subst (λ table. HaveSorts table v) next.grows have in
          let (t, (first, there)) = so_far.exact v s (have_fewer a.vars next.more v have_all) stands in
          let (u, (second, last)) = next.exact v t have there in (
            u,
            (
              record {
                extends = λ y w is. second.extends y w (first.extends y w is);
                added = λ y w is. ⊎_elim
                    (λ old. ⊎_elim (λ older. inl older) (λ here. inr (among_left xs (x ∷ []) y here.0, here.1)) (first.added y w old))
                    (λ here. inr (among_right xs (x ∷ []) y here.0, here.1)) (second.added y w is);
              },
              last,
            ),
          )

      pub named_both : IsNaming ps all vars bs b
      named_both = record {
        more = so_far.more ++ next.more;
        grows = next.grows ∙ ap (λ table. table ++ next.more) so_far.grows ∙ append_assoc vars so_far.more next.more;
        all_named = λ y among. by_named y (sym (among_parts xs (x ∷ []) y) ∙ among);
        known_stay = λ y t at. next.known_stay y t (so_far.known_stay y t at);
        others_stay = λ y other. let (first, second) = none_of_two (is_among xs y) (is_among (x ∷ []) y) (sym (among_parts xs (x ∷ []) y) ∙ other) in next.others_stay y second ∙ so_far.others_stay y first;
        over = λ over. next.over (so_far.over over);
        few = λ ys known. by_term ys known (term_at a.store x) refl;
        variables = λ y t at. ⊎_elim (λ old. so_far.variables y t old) (λ new. inr new) (next.variables y t at);
        cover = covered_both;
        exact = realized_both;
      }
        where
          sums : {m n k l s : ℕ} → m ≤ k → n ≤ l → s ≡ m + n → s ≤ k + l
          sums first second is = omega (arith, first, second, is)

          with_none : {k s : ℕ} → s ≤ k + 0 → s ≤ k
          with_none is = omega (arith, is)

          with_one : (j : ℕ) {k s : ℕ} → s ≤ j + 1 → j + 1 ≤ k → s ≤ k
          with_one j first second = omega (arith, first, second)

          not_here : term_at a.store x ≡ None → ¬ IsSome (term_at a.store x)
          not_here lacks some = true≢false (sym some ∙ ap is_some lacks)

          is_other : term_at a.store x ≡ None → (y : List ℕ) → IsTrue (is_among xs y) → (b : Bool) → bytes_eq x y ≡ b → bytes_eq x y ≡ false
          is_other lacks y among true same = absurd (not_here lacks (so_far.all_named x (subst (λ z. IsTrue (is_among xs z)) (sym (names_same x y same)) among)))
          is_other lacks y among false other = other

          listed : (ys : List (List ℕ)) → Known ys → term_at a.store x ≡ None → IsTrue (is_among ys x)
          listed ys known lacks =
              ⊎_elim (λ some. let (t, at) = some_is (term_at bs x) some in absurd (not_here lacks (is_there (term_at a.store x) t (so_far.known_stay x t at)))) (λ there. there)
              (known x (among_right xs (x ∷ []) x (is_only x)))

          by_term : (ys : List (List ℕ)) → Known ys → (o : Option PureTerm) → term_at a.store x ≡ o → length (so_far.more ++ next.more) ≤ length ys
          by_term ys known (Some t) at =
              with_none (sums (so_far.few ys (λ y among. known y (among_left xs (x ∷ []) y among)))
              (next.few [] (λ y among. inl (subst (λ z. IsSome (term_at a.store z)) (sym (only_name x y among)) (is_there (term_at a.store x) t at))))
              (length-append so_far.more next.more))
          by_term ys known None lacks =
              with_one (length (without x ys)) (sums (so_far.few (without x ys) (λ y among. ⊎_elim (λ some. inl some) (λ there. inr (others_among x y ys (is_other lacks y among (bytes_eq x y) refl) there)) (known y (among_left xs (x ∷ []) y among))))
              (next.few (x ∷ []) (λ y among. inr among))
              (length-append so_far.more next.more)) (one_less x ys (listed ys known lacks))

          by_named : (y : List ℕ) → (is_among xs y || is_among (x ∷ []) y) ≡ true → IsSome (term_at b.store y)
          by_named y among =
              ⊎_elim
              (λ first. let (t, at) = some_is (term_at a.store y) (so_far.all_named y first) in is_there (term_at b.store y) t (next.known_stay y t at))
              (λ last. next.all_named y last) (one_of_two (is_among xs y) (is_among (x ∷ []) y) among)

    pub names_more : (o : Option PureNamed) → NamesAll ps (x ∷ []) a.vars a.store o → NamesAll ps all vars bs o
    names_more None none = none_more none
    names_more (Some b) next = named_both b next

  pub none_of_all : (xs ys : List (List ℕ)) (vars : List Sort) (bs : PureStore) → NamesAll ps xs vars bs None → NamesAll ps (xs ++ ys) vars bs None
  none_of_all xs ys vars bs none v s t may =
      none v s t (record {
        proper = may.proper;
        over = may.over;
        stands = may.stands;
        extends = may.extends;
        sorts = may.sorts;
        known = λ y among. may.known y (among_left xs ys y among);
      })
