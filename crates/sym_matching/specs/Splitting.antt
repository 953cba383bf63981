-- How tests and splits are put together.
use Rattle.std.specs.Prelude.{ℕ, List, Bool, [], ◌∷◌, ◌++◌, if◌then◌else◌, Option, Some, None}
use Rattle.std.specs.Option.{option_map, is_some}
use Rattle.std.specs.Str.{bytes_eq}
use Rattle.gil_values.specs.declared.kinds.Kind.{Kind}
use Rattle.gil_syntax.specs.declared.assertions.Param.{Param}
use Rattle.gil_syntax.specs.declared.assertions.SpecSort.{SpecSort}
use Rattle.gil_syntax.specs.Pure.{PureExpr, name, logical}
use Rattle.pure_terms.specs.Pure.{PureTerm, PureAtom}
use Rattle.sym_model.specs.Alternatives.{Alternatives, always, both, same, other, of_kind, not_of_kind}
use Rattle.sym_evaluation.specs.Pure.{PureStore, term_at, PureGoodCase}
use Rattle.sym_matching.specs.Pure.{PureTest, PureSplit, PureOuts}

-- ---- tests

abbrev pub passed : PureTest
passed = record { when = Some []; otherwise = [] }

abbrev pub failed : PureTest
failed = record { when = None; otherwise = always }

abbrev pub last_of : Alternatives → Option (List PureAtom)
last_of [] = None
last_of (conds ∷ []) = Some conds
last_of (conds ∷ more ∷ x) = last_of (more ∷ x)

-- alternatives behind these conditions
abbrev pub behind_conds : List PureAtom → Alternatives → Alternatives
behind_conds conds x = both (conds ∷ []) x

abbrev pub also_by : Option (List PureAtom) → Alternatives → PureTest → PureTest
also_by None otherwise second = record { when = None; otherwise = otherwise }
also_by (Some conds) otherwise second = record {
  when = option_map (λ more. conds ++ more) second.when;
  otherwise = otherwise ++ behind_conds conds second.otherwise;
}

-- both tests, of which the second is asked only where the first is met
abbrev pub also : PureTest → PureTest → PureTest
also first second = also_by first.when first.otherwise second

abbrev pub equal_test : PureTerm → PureTerm → PureTest
equal_test s t = record { when = last_of (same s t); otherwise = other s t }

abbrev pub kind_test : PureTerm → Kind → PureTest
kind_test t k = record { when = last_of (of_kind t k); otherwise = not_of_kind t k }

abbrev pub sort_test : SpecSort → PureTerm → PureTest
sort_test SpecSort.Int t = kind_test t Kind.Int
sort_test SpecSort.Bool t = kind_test t Kind.Bool
sort_test SpecSort.Str t = kind_test t Kind.Str
sort_test SpecSort.Sym t = kind_test t Kind.Sym
sort_test SpecSort.List t = kind_test t Kind.List
sort_test SpecSort.Any t = passed

-- where the parameter has the name, its sort too
abbrev pub with_sort : PureTest → Param → List ℕ → PureTerm → PureTest
with_sort test q x t = if bytes_eq q.name x then also test (sort_test q.sort t) else test

-- an out that is known has the value of the term
abbrev pub out_test : Option PureTerm → PureTerm → PureTest
out_test (Some s) t = equal_test s t
out_test None t = passed

-- the conditions of a side of a guard, if it can be taken
abbrev pub side_alternatives : Option (List PureAtom) → Alternatives
side_alternatives (Some conds) = conds ∷ []
side_alternatives None = []

-- ---- splits

abbrev pub sure : {X : Type 0} → X → PureSplit X
sure x = record { found = Some (record { conds = []; result = x }); none = [] }

abbrev pub nothing : {X : Type 0} → Alternatives → PureSplit X
nothing none = record { found = None; none = none }

abbrev pub case_behind : {X : Type 0} → List PureAtom → PureGoodCase X → PureGoodCase X
case_behind conds g = record { conds = conds ++ g.conds; result = g.result }

-- what comes where these conditions are true, beside conditions under which nothing is found
abbrev pub behind : {X : Type 0} → List PureAtom → Alternatives → PureSplit X → PureSplit X
behind conds none next = record { found = option_map (case_behind conds) next.found; none = none ++ behind_conds conds next.none }

abbrev pub with_result : {X : Type 0} → X → List PureAtom → PureGoodCase X
with_result x conds = record { conds = conds; result = x }

-- this result, where the test is met
abbrev pub where_met : {X : Type 0} → PureTest → X → PureSplit X
where_met test x = record { found = option_map (with_result x) test.when; none = test.otherwise }

-- ---- names

abbrev pub unless_term : PureStore → List ℕ → Option (List ℕ)
unless_term bs x = if is_some (term_at bs x) then None else Some x

-- the name that the expression is, where it has no term
abbrev pub name_without : PureStore → PureExpr → Option (List ℕ)
name_without bs (name x) = unless_term bs x
name_without bs (logical x) = unless_term bs x
name_without bs _ = None

abbrev pub has_term : PureStore → List ℕ → Bool
has_term bs x = is_some (term_at bs x)

-- ---- outs and terms, one more

abbrev pub known_with : PureOuts → PureGoodCase PureTerm → PureGoodCase PureOuts
known_with outs g = record { conds = g.conds; result = outs ++ Some g.result ∷ [] }

abbrev pub with_known : PureOuts → PureSplit PureTerm → PureSplit PureOuts
with_known outs value = record { found = option_map (known_with outs) value.found; none = value.none }

abbrev pub terms_with : Option (List PureTerm) → Option PureTerm → Option (List PureTerm)
terms_with (Some ts) (Some t) = Some (ts ++ t ∷ [])
terms_with _ _ = None
