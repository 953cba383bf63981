-- What is told of a path is truly found, whatever program and bound it was explored with.
use Rattle.std.proofs.Common.{◌≡◌, ◌+◌, ◌<◌, ◌≤◌, ℕ, ℤ, List, [], ◌∷◌, drop, take, length, true, false, Some, None, IsTrue, refl, sym, ap, subst, ◌∙◌, arith}
use Rattle.std.specs.List.{list_all}
use Rattle.std.proofs.lemmas.List.{drop_at, length-append, length-map}
use Rattle.gil_values.specs.declared.places.Place.{Place}
use Rattle.gil_values.specs.Pure.{PureValue}
use Rattle.gil_syntax.specs.Evaluation.{Store}
use Rattle.gil_syntax.specs.Pure.{PureItem, PureProc, PureSpec, PureParts}
use Rattle.gil_syntax.specs.Valid.{is_among}
use Rattle.assert_logic.specs.Meets.{Meets, HoldsSomewhere}
use Rattle.checked_runs.specs.Specifications.{result_name, IsEntry, entry_store}
use Rattle.mem_model.specs.declared.keys.MemoryName.{MemoryName}
use Rattle.mem_model.specs.Actions.{Actions, IsMemory}
use Rattle.mem_model.specs.Heaps.{Heap}
use Rattle.inferred_specs.specs.Inferred.{PureFound}
use Rattle.pure_terms.specs.declared.variables.Sort.{Sort}
use Rattle.pure_terms.specs.Fragment.{has_fragment_form, names_sort}
use Rattle.pure_terms.specs.Kinds.{same_sort}
use Rattle.pure_terms.specs.Meaning.{Satisfies}
use Rattle.pure_terms.specs.Pure.{PureTerm, PureAtom, term_of}
use Rattle.sym_evaluation.specs.Meaning.{HaveValues}
use Rattle.sym_model.specs.Laws.{IsMeaning}
use Rattle.sym_model.specs.Listing.{IsListing}
use Rattle.sym_model.specs.Lists.{Each}
use Rattle.sym_model.specs.Pure.{PureUse}
use Rattle.sym_model.specs.Terms.{StateTerms, AreEachOver}
use Rattle.sym_model.proofs.ListLaws.{same_some, not_none}
use Rattle.sym_paths.specs.Meaning.{end_terms}
use Rattle.sym_paths.specs.Pure.{PureEnd, returned, threw, cut, PurePath}
use Rattle.bi_beginnings.specs.Beginnings.{any_for_each, variables_from, is_named_by}
use Rattle.bi_specifications.specs.Shape.{late_conds, post_of, spec_of, HasGrown, MayBeTold}
use Rattle.bi_specifications.specs.Specified.{PureEntry, IsTold, IsTrulyFound, IsExplored, IsTrulyTold, IsMarkedAs, IsMetAlong, TellsNothing}
use Rattle.bi_specifications.proofs.Along.{grown, split, programs, once, each_runs_along}
use Rattle.bi_specifications.proofs.Grown.{ended_drew, all_fresh}
use Rattle.bi_specifications.proofs.Inhabited.{met_with}
use Rattle.bi_specifications.proofs.RunsAlong.{EachRunsAlong}
use Rattle.bi_specifications.proofs.TruePaths.{returned_found, threw_found, cut_found}

-- what the code tests
pub may_from : {S : Type 0} (q : PureProc) (e : PureEntry) (path : PurePath S) (late : List PureAtom) → is_among q.params result_name ≡ false → path.drawn ≡ [] → HasGrown q e path
    → ((k : ℕ) → length q.params ≤ k → k < e.count → IsTrue (is_named_by e.uses k)) → late ≡ late_conds e.count path.conds
    → Each (λ a. IsTrue (has_fragment_form a) × IsTrue (names_sort Sort.Fresh (term_of a))) late → MayBeTold q e path
may_from q e path late no_result no_draw grown named late_is forms = record {
  no_result = no_result;
  no_draw = no_draw;
  params_first = grown.params_first;
  count_within = grown.count_within;
  new_symbols = grown.new_symbols;
  outs_named = named;
  late_forms = subst (Each (λ a. IsTrue (has_fragment_form a) × IsTrue (names_sort Sort.Fresh (term_of a)))) late_is forms;
}

module _ {S : Type 0} (memory : MemoryName) (m : Actions) (is_memory : IsMemory memory m) (stands : S → List PureValue → Heap → Type 0) (terms : S → StateTerms) (meaning : IsMeaning memory stands terms)
    (asked : List ℕ → List PureTerm → List PureTerm × List PureTerm) (depends : S → List ℕ → List PureTerm → List PureValue → Heap → PureTerm → Type 0) (plain : S → ℤ → ℤ → Type 0) (keeps_plain : Type 0)
    (kept : S → Type 0) (q : PureProc) (e : PureEntry) (path : PurePath S) (may : MayBeTold q e path) where
  abbrev Told : PureFound → Type 0
  Told found = IsTrulyTold memory m stands terms asked depends plain keeps_plain kept q e path found

  -- what the laws of TruePaths need of an explored path that ends so
  module _ (p : PureParts) (n : ℕ) (explored : IsExplored memory m stands terms asked depends plain keeps_plain kept q e path p n) (how : PureEnd) (ends : path.ending ≡ Some how) (told : IsTold how) where
    end_over : AreEachOver path.vars (end_terms (Some how))
    end_over = subst (λ o. AreEachOver path.vars (end_terms o)) ends (grown p memory m stands terms asked depends plain keeps_plain kept q e path n explored may how ends told [] []).over.ending

    along : (posts errors : List (List PureItem)) → EachRunsAlong p memory m stands q e explored.start path how n posts errors
    along posts errors = each_runs_along p memory m stands terms asked depends plain keeps_plain kept q e path n explored may how ends told posts errors

  pub tells_returned : (t : PureTerm) (us : List PureUse) (found : PureFound) → path.ending ≡ Some (returned t) → IsListing memory stands terms kept path.memory us
      → found ≡ record { spec = spec_of q e path (post_of q e path us t ∷ []) []; cut = false } → Told found
  tells_returned t us found ends listed is p n explored =
      let g = grown p memory m stands terms asked depends plain keeps_plain kept q e path n explored may (returned t) ends tt [] [] in
      subst (IsTrulyFound p memory m q.name n) (sym is)
      (returned_found p memory m is_memory stands terms kept meaning q e explored.start path n explored.well_made may explored.opening explored.entry
      (split p memory m stands terms asked depends plain keeps_plain kept q e path n explored may (returned t) ends tt [] []) g.over (programs p memory m stands terms asked depends plain keeps_plain kept q e path n explored may (returned t) ends tt [] [])
      (once p memory m stands terms asked depends plain keeps_plain kept q e path n explored may (returned t) ends tt [] []) explored.found g.later g.conds g.met.0 g.met.1 t (end_over p n explored (returned t) ends tt).0 us listed
      (along p n explored (returned t) ends tt (post_of q e path us t ∷ []) []))

  pub tells_threw : (t : PureTerm) (place : Place) (us : List PureUse) (found : PureFound) → path.ending ≡ Some (threw t place) → IsListing memory stands terms kept path.memory us
      → found ≡ record { spec = spec_of q e path [] (post_of q e path us t ∷ []); cut = false } → Told found
  tells_threw t place us found ends listed is p n explored =
      let g = grown p memory m stands terms asked depends plain keeps_plain kept q e path n explored may (threw t place) ends tt [] [] in
      subst (IsTrulyFound p memory m q.name n) (sym is)
      (threw_found p memory m is_memory stands terms kept meaning q e explored.start path n explored.well_made may explored.opening explored.entry
      (split p memory m stands terms asked depends plain keeps_plain kept q e path n explored may (threw t place) ends tt [] []) g.over (programs p memory m stands terms asked depends plain keeps_plain kept q e path n explored may (threw t place) ends tt [] [])
      (once p memory m stands terms asked depends plain keeps_plain kept q e path n explored may (threw t place) ends tt [] []) explored.found g.later g.conds g.met.0 g.met.1 t place (end_over p n explored (threw t place) ends tt).0 us listed
      (along p n explored (threw t place) ends tt [] (post_of q e path us t ∷ [])))

  pub tells_cut : (found : PureFound) → path.ending ≡ Some cut → found ≡ record { spec = spec_of q e path [] []; cut = true } → Told found
  tells_cut found ends is p n explored =
      let g = grown p memory m stands terms asked depends plain keeps_plain kept q e path n explored may cut ends tt [] [] in
      subst (IsTrulyFound p memory m q.name n) (sym is)
      (cut_found p memory m is_memory stands terms kept meaning q e explored.start path n explored.well_made may explored.opening explored.entry
      (split p memory m stands terms asked depends plain keeps_plain kept q e path n explored may cut ends tt [] []) g.over (programs p memory m stands terms asked depends plain keeps_plain kept q e path n explored may cut ends tt [] [])
      (once p memory m stands terms asked depends plain keeps_plain kept q e path n explored may cut ends tt [] []) explored.found g.later g.conds g.met.0 g.met.1
      (along p n explored cut ends tt [] []))

  -- ---- the specification is met by each heap with which the path begins

  module _ (p : PureParts) (n : ℕ) (explored : IsExplored memory m stands terms asked depends plain keeps_plain kept q e path p n) (how : PureEnd) (ends : path.ending ≡ Some how) (told : IsTold how)
      (posts errors : List (List PureItem)) where
    met_along : (v args : List PureValue) (own : Heap) → Satisfies path.vars v path.conds → HaveValues (take e.count v) (variables_from 0 (any_for_each q.params)) args
        → stands explored.start.memory (take e.count v) own
        → (variables : Store) × (IsEntry (spec_of q e path posts errors) args variables
        × Meets (HoldsSomewhere p.preds) (entry_store (spec_of q e path posts errors) args variables) (spec_of q e path posts errors).pre own)
    met_along v args own met have there =
        let g = grown p memory m stands terms asked depends plain keeps_plain kept q e path n explored may how ends told posts errors in
        met_with p memory m stands terms kept meaning q e explored.start path posts errors may explored.opening explored.entry
        (split p memory m stands terms asked depends plain keeps_plain kept q e path n explored may how ends told posts errors) g.over
        (programs p memory m stands terms asked depends plain keeps_plain kept q e path n explored may how ends told posts errors)
        (once p memory m stands terms asked depends plain keeps_plain kept q e path n explored may how ends told posts errors) explored.found g.later g.conds v met args own have there

  pub is_met_along : (how : PureEnd) (posts errors : List (List PureItem)) (found : PureFound) → path.ending ≡ Some how → IsTold how → IsMarkedAs how found.cut
      → found.spec ≡ spec_of q e path posts errors → IsMetAlong memory m stands terms asked depends plain keeps_plain kept q e path found
  is_met_along how posts errors found ends told marked is = record {
    marked = λ other other_ends. let same : how ≡ other = same_some (sym ends ∙ other_ends) in (subst IsTold same told, subst (λ h. IsMarkedAs h found.cut) same marked);
    of_procedure = ap (λ (s : PureSpec). s.name) is;
    met = λ p n explored v args own met have there.
        subst (λ (s : PureSpec). (variables : Store) × (IsEntry s args variables × Meets (HoldsSomewhere p.preds) (entry_store s args variables) s.pre own)) (sym is)
        (met_along p n explored how ends told posts errors v args own met have there);
  }

pub none_there : {X : Type 0} (xs : List X) → length xs ≡ 0 → xs ≡ []
none_there [] none = refl
none_there (x ∷ xs) none = absurd (omega (arith, none))

-- ---- where nothing is told

module _ {S : Type 0} (memory : MemoryName) (m : Actions) (stands : S → List PureValue → Heap → Type 0) (terms : S → StateTerms)
    (asked : List ℕ → List PureTerm → List PureTerm × List PureTerm) (depends : S → List ℕ → List PureTerm → List PureValue → Heap → PureTerm → Type 0) (plain : S → ℤ → ℤ → Type 0) (keeps_plain : Type 0)
    (kept : S → Type 0) (q : PureProc) (e : PureEntry) (path : PurePath S) where
  abbrev Nothing : Type 0
  Nothing = TellsNothing memory m stands terms asked depends plain keeps_plain kept q e path

  pub nothing_of_none : path.ending ≡ None → Nothing
  nothing_of_none none p n how explored no_draw ends told = not_none (sym none ∙ ends)

  pub nothing_of_other : (other : PureEnd) → path.ending ≡ Some other → ¬ IsTold other → Nothing
  nothing_of_other other is isnt p n how explored no_draw ends told = isnt (subst IsTold (same_some (sym ends ∙ is)) told)

  pub nothing_of_draws : 0 < length path.drawn → Nothing
  nothing_of_draws some p n how explored no_draw ends told = let none : length path.drawn ≡ 0 = ap (λ ts. length ts) no_draw in omega (arith, some, none)

  -- a path that drew nothing has grown by new symbols alone
  pub has_grown : (p : PureParts) (n : ℕ) → IsExplored memory m stands terms asked depends plain keeps_plain kept q e path p n → path.drawn ≡ [] → HasGrown q e path
  has_grown p n explored no_draw =
      let start = explored.start in
      let first = explored.opening.begins.is in
      let drew = ended_drew p m stands terms asked start (ap (λ (x : PurePath S). x.drawn) first) depends plain keeps_plain n path explored.ended in
      let counted : e.count ≡ length start.vars = explored.entry.count in
      let table : length start.vars ≡ length (any_for_each q.params) + length explored.opening.table.others = ap length explored.opening.table.table ∙ length-append (any_for_each q.params) explored.opening.table.others in
      let many : length (any_for_each q.params) ≡ length q.params = length-map q.params (λ x. Sort.Any) in
      let whole : length path.vars ≡ length start.vars + length drew.more = ap length drew.vars ∙ length-append start.vars drew.more in
      record {
        params_first = omega (arith, counted, table, many);
        count_within = omega (arith, counted, whole);
        new_symbols = ap (list_all (same_sort Sort.Fresh)) (ap (drop e.count) drew.vars ∙ drop_at start.vars drew.more e.count (sym counted))
            ∙ all_fresh (length start.vars) drew.more (sym drew.drawn ∙ no_draw);
      }

  pub nothing_of_others : ¬ HasGrown q e path → Nothing
  nothing_of_others isnt p n how explored no_draw ends told = isnt (has_grown p n explored no_draw)
