-- The specification of an ended path: the text that is told.
use Rattle.std.specs.Prelude.{◌≡◌, ℕ, suc, ◌-◌, ◌≤◌, ◌<◌, List, [], ◌∷◌, ◌++◌, map, length, drop, Bool, true, false, not, cond, IsTrue}
use Rattle.std.specs.List.{filter, list_all}
use Rattle.gil_values.specs.declared.operators.BinOp.TheVariants.{Equal}
use Rattle.gil_syntax.specs.declared.assertions.Param.{Param}
use Rattle.gil_syntax.specs.declared.assertions.SpecSort.{SpecSort}
use Rattle.gil_syntax.specs.Pure.{PureItem, PureProc, PureSpec}
use Rattle.gil_syntax.specs.Valid.{is_among}
use Rattle.assertion_terms.specs.Named.{numbered, table_names, assertion_of}
use Rattle.checked_runs.specs.Specifications.{result_name}
use Rattle.pure_terms.specs.declared.variables.Sort.{Sort}
use Rattle.pure_terms.specs.Fragment.{is_variable_of, has_fragment_form, names_sort}
use Rattle.pure_terms.specs.Kinds.{same_sort}
use Rattle.pure_terms.specs.Meaning.{IsOver}
use Rattle.pure_terms.specs.Naming.{names_only_below}
use Rattle.pure_terms.specs.Pure.{PureTerm, variable, binary_of, PureAtom, positive, term_of}
use Rattle.sym_model.specs.Lists.{Each}
use Rattle.sym_model.specs.Pure.{PureUse}
use Rattle.sym_paths.specs.Pure.{PurePath}
use Rattle.bi_beginnings.specs.Beginnings.{is_named_by}
use Rattle.bi_beginnings.specs.Conditions.{stands_among}
use Rattle.bi_specifications.specs.Specified.{PureEntry}

-- ---- parameters and logical variables

-- the sort of a name, by that of its variable
abbrev pub name_sort : Sort → SpecSort
name_sort Sort.Int = SpecSort.Int
name_sort Sort.Bool = SpecSort.Bool
name_sort Sort.Str = SpecSort.Str
name_sort Sort.Sym = SpecSort.Sym
name_sort Sort.Fresh = SpecSort.Sym
name_sort Sort.List = SpecSort.List
name_sort Sort.Any = SpecSort.Any

abbrev pub any_params : List (List ℕ) → List Param
any_params xs = map (λ x. record { name = x; sort = SpecSort.Any }) xs

-- names for variables of these sorts, of which the first has the number n
abbrev pub numbered_params : ℕ → List Sort → List Param
numbered_params n [] = []
numbered_params n (sort ∷ sorts) = record { name = numbered n; sort = name_sort sort } ∷ numbered_params (suc n) sorts

-- ---- conditions

-- a condition behind these, unless it is one of them
abbrev pub with_condition : List PureAtom → PureAtom → List PureAtom
with_condition kept a = cond (stands_among kept a) kept (kept ++ a ∷ [])

-- these conditions, and behind them those of the second list that are none of those before
abbrev pub with_conditions : List PureAtom → List PureAtom → List PureAtom
with_conditions kept [] = kept
with_conditions kept (a ∷ conds) = with_conditions (with_condition kept a) conds

-- each condition where it stands first
abbrev pub each_once : List PureAtom → List PureAtom
each_once conds = with_conditions [] conds

-- the condition names only variables that were there at the beginning
abbrev pub is_early : ℕ → PureAtom → Bool
is_early count a = names_only_below count (term_of a)

abbrev pub early_conds : ℕ → List PureAtom → List PureAtom
early_conds count conds = each_once (filter (is_early count) conds)

abbrev pub late_conds : ℕ → List PureAtom → List PureAtom
late_conds count conds = each_once (filter (λ a. not (is_early count a)) conds)

-- the result, which has this number, is the value of the term
abbrev pub result_atom : ℕ → PureTerm → PureAtom
result_atom n t = positive (binary_of Equal (variable (record { number = n; sort = Sort.Any })) t)

-- the same with the sides exchanged, which gives a name on the left its value
abbrev pub told_atom : ℕ → PureTerm → PureAtom
told_atom n t = positive (binary_of Equal t (variable (record { number = n; sort = Sort.Any })))

-- ---- the text

-- The uses, that the result is the value of the term, and the conditions. Where the term is a new symbol the result tells it first, since
-- the others may read its name.
abbrev pub ending_of : List (List ℕ) → Bool → List PureUse → ℕ → PureTerm → List PureAtom → List PureItem
ending_of names true us n t conds = assertion_of names [] (told_atom n t ∷ []) ++ assertion_of names us conds
ending_of names false us n t conds = assertion_of names us (result_atom n t ∷ conds)

module _ {S : Type 0} (q : PureProc) (e : PureEntry) (path : PurePath S) where
  -- the names at the beginning, and at the end
  abbrev pub early_names : List (List ℕ)
  early_names = table_names q.params (e.count - length q.params)

  abbrev pub all_names : List (List ℕ)
  all_names = table_names q.params (length path.vars - length q.params)

  -- the uses at the beginning, and the conditions on what was there
  abbrev pub pre_of : List PureItem
  pre_of = assertion_of early_names e.uses (early_conds e.count path.conds)

  -- the uses at the end, the result, and the conditions on new symbols
  abbrev pub post_of : List PureUse → PureTerm → List PureItem
  post_of us t =
      ending_of (all_names ++ result_name ∷ []) (is_variable_of Sort.Fresh t) us (length path.vars) t (late_conds e.count path.conds)

  abbrev pub spec_of : List (List PureItem) → List (List PureItem) → PureSpec
  spec_of posts errors = record {
    name = q.name;
    params = any_params q.params;
    logicals = numbered_params (length q.params) (drop (length q.params) path.vars);
    pre = pre_of;
    posts = posts;
    errors = errors;
  }

  -- ---- when it may be told

  -- the variables are those of the beginning, of which the first are the parameters, and behind them new symbols
  pub record HasGrown : Type 0 where
    pub params_first : length q.params ≤ e.count
    pub count_within : e.count ≤ length path.vars
    pub new_symbols : IsTrue (list_all (same_sort Sort.Fresh) (drop e.count path.vars))

  -- No parameter has the name of the result. The path drew nothing, and its variables are those of the beginning and behind them new
  -- symbols. Each variable of the beginning that isn't a parameter stands in a use, and each condition that doesn't stand in the precondition
  -- has a form of the fragment and names a new symbol.
  pub record MayBeTold : Type 0 where
    pub no_result : is_among q.params result_name ≡ false
    pub no_draw : path.drawn ≡ []
    pub params_first : length q.params ≤ e.count
    pub count_within : e.count ≤ length path.vars
    pub new_symbols : IsTrue (list_all (same_sort Sort.Fresh) (drop e.count path.vars))
    pub outs_named : (k : ℕ) → length q.params ≤ k → k < e.count → IsTrue (is_named_by e.uses k)
    pub late_forms : Each (λ a. IsTrue (has_fragment_form a) × IsTrue (names_sort Sort.Fresh (term_of a))) (late_conds e.count path.conds)

  -- All of the path can be said: no parameter has the name of the result; and its conditions, each of which has a form of the fragment, name
  -- only its variables.
  pub record MayBeSaid : Type 0 where
    pub no_result : is_among q.params result_name ≡ false
    pub over : Each (λ a. IsOver path.vars (term_of a)) path.conds
    pub forms : Each (λ a. IsTrue (has_fragment_form a)) path.conds
