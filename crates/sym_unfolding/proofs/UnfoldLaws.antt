-- Unfolding the fact that was found, and what a decider tells of there being none.
use Rattle.std.proofs.Common.{◌≡◌, ⊎_elim, inl, inr, ℕ, zero, suc, ◌+◌, ◌<◌, List, [], ◌∷◌, ◌++◌, map, take, drop, length, slice_get, Bool, true, false, ◌&&◌, cond, Option, Some, None, IsSome, IsTrue, refl, sym, ap, subst, ◌∙◌, append_assoc, true≢false, arith}
use Rattle.std.specs.Option.{option_map, option_and_then, option_or}
use Rattle.std.specs.Str.{bytes_eq}
use Rattle.std.proofs.lemmas.Bool.{and_parts}
use Rattle.std.proofs.lemmas.Option.{slice_get_within}
use Rattle.gil_values.specs.Pure.{PureValue}
use Rattle.gil_values.specs.Equality.{same_value, same_elements}
use Rattle.gil_values.specs.EqualityLaws.{same_value-refl}
use Rattle.gil_syntax.specs.declared.assertions.Param.{Param}
use Rattle.gil_syntax.specs.Evaluation.{Store, bind, value_of, Agrees}
use Rattle.gil_syntax.specs.Pure.{PureItem, PurePredDef}
use Rattle.gil_syntax.specs.Valid.{param_names}
use Rattle.mem_model.specs.declared.keys.MemoryName.{MemoryName}
use Rattle.mem_model.specs.Heaps.{Heap}
use Rattle.assert_logic.proofs.CaseLaws.{map_get, params_bound}
use Rattle.assert_logic.specs.LogicStates.{Fact, LogicState}
use Rattle.assert_logic.specs.Matching.{FoundFact, found_after, first_fact, fits_fact, agrees_with, all_agree, bound_to, case_store, scope_of}
use Rattle.assert_logic.specs.Names.{named_by_items}
use Rattle.assert_logic.specs.Sorts.{fits_sorts, HasSorts, Extends}
use Rattle.pure_terms.specs.declared.deciders.Reason.{Reason}
use Rattle.pure_terms.specs.declared.variables.Sort.{Sort}
use Rattle.pure_terms.specs.Meaning.{value, values, all_true, IsProper, IsOver, IsUnsatisfiable}
use Rattle.pure_terms.specs.Pure.{PureTerm, PureAtom, term_of, from_list}
use Rattle.sym_paths.specs.Asking.{IsSolution, IsOutside}
use Rattle.sym_model.specs.Alternatives.{Alternatives, Hold}
use Rattle.sym_evaluation.specs.Meaning.{StandsFor, HaveValues, IsStoreOver}
use Rattle.sym_evaluation.specs.Pure.{PureStore, PureGoodCase}
use Rattle.sym_matching.specs.Matching.{SplitsCase, CaseStaysOver}
use Rattle.sym_matching.specs.Meaning.{IsReached, Gives, IsFoundOver, AreOuts, AreOutsOver, IsCondition, AreConditions}
use Rattle.sym_matching.specs.Pure.{PureSplit}
use Rattle.sym_model.specs.Lists.{Each, OneOf}
use Rattle.sym_model.specs.Meaning.{has_open}
use Rattle.sym_model.specs.Terms.{StateTerms, all_of, AreEachOver}
use Rattle.sym_model.proofs.Asking.{both_parts}
use Rattle.sym_model.proofs.ListLaws.{same_some, not_none, each_append, each_left, each_right, each_to, each_at, one_at, one_left, one_right, one_parts}
use Rattle.sym_states.specs.Meaning.{Stands, IsOverTable, IsFact, AreFacts}
use Rattle.sym_states.proofs.Names.{names_same}
use Rattle.sym_states.proofs.Conditions.{none_open}
use Rattle.sym_states.specs.Producing.{added_conds}
use Rattle.sym_states.specs.Pure.{PureFact, PureState}
use Rattle.sym_unfolding.specs.Adding.{IsAddedAs, IsBefore, AddsExactly, AddsCases}
use Rattle.sym_unfolding.specs.Answering.{PureTold, met, unknown, ToldOf, ToldOfAll, FindsFirst, IsUnfoldedAt, UnfoldsAt, UnfoldsEach, answer_told}
use Rattle.sym_unfolding.specs.Further.{IsFurther}
use Rattle.sym_unfolding.specs.Searching.{PureFound, PureSearch, SaysFirst, IsSearchOver, Searches}
use Rattle.sym_unfolding.specs.Taking.{TakesOut}
use Rattle.sym_unfolding.specs.Unfolding.{PureUnfoldedCase, unfolded, unmatched, IsMetAfter, IsNamedValue, HasArguments, IsFound, StandsForCase, CoversUnfoldings, IsUnfoldingOf, IsUnmatched, IsUndecided, IsUnfolded}
use Rattle.sym_unfolding.proofs.AddLaws.{drop_front, open_later, conds_longer, both_each, each_for_all}
use Rattle.sym_unfolding.proofs.SearchLaws.{joined_true, true_parts}

-- ---- the fact at a place

one_more : (n : ℕ) → n + 1 ≡ suc n
one_more n = omega arith

taken_after : {A : Type 0} (x : A) (xs : List A) (p : ℕ) → take (p + 1) (x ∷ xs) ++ drop (p + 1 + 1) (x ∷ xs) ≡ x ∷ (take p xs ++ drop (p + 1) xs)
taken_after x xs p = ap (λ n. take n (x ∷ xs) ++ drop (p + 1 + 1) (x ∷ xs)) (one_more p) ∙ ap (λ n. (x ∷ take p xs) ++ drop n (x ∷ xs)) (one_more (p + 1))

fits_first : (fits : Fact → Bool) (fs : List Fact) (g : FoundFact) → first_fact fits fs ≡ Some g → (slice_get fs g.place ≡ Some g.fact) × (g.others ≡ take g.place fs ++ drop (g.place + 1) fs) × (fits g.fact ≡ true)
fits_first fits [] g is = not_none is
fits_first fits (f ∷ fs) g is = by (fits f) refl (first_fact fits fs) refl (fits_first fits fs) is
  where
    by : (b : Bool) → fits f ≡ b → (o : Option FoundFact) → first_fact fits fs ≡ o
        → ((k : FoundFact) → first_fact fits fs ≡ Some k → (slice_get fs k.place ≡ Some k.fact) × (k.others ≡ take k.place fs ++ drop (k.place + 1) fs) × (fits k.fact ≡ true))
        → cond b (Some (record { fact = f; place = 0; others = fs })) (option_map (found_after f) o) ≡ Some g → (slice_get (f ∷ fs) g.place ≡ Some g.fact) × (g.others ≡ take g.place (f ∷ fs) ++ drop (g.place + 1) (f ∷ fs)) × (fits g.fact ≡ true)
    by true fit o there later found = subst (λ (k : FoundFact). (slice_get (f ∷ fs) k.place ≡ Some k.fact) × (k.others ≡ take k.place (f ∷ fs) ++ drop (k.place + 1) (f ∷ fs)) × (fits k.fact ≡ true)) (same_some found) (refl, refl, fit)
    by false fit None there later found = not_none found
    by false fit (Some k) there later found = let (at, others, right) = later k there in subst (λ (k : FoundFact). (slice_get (f ∷ fs) k.place ≡ Some k.fact) × (k.others ≡ take k.place (f ∷ fs) ++ drop (k.place + 1) (f ∷ fs)) × (fits k.fact ≡ true)) (same_some found) (subst (λ n. slice_get (f ∷ fs) n ≡ Some k.fact) (sym (one_more k.place)) at, ap (λ hs. f ∷ hs) others ∙ sym (taken_after f fs k.place), right)

fact_at : (v : List PureValue) (cs : List PureFact) (fs : List Fact) (i : ℕ) (f : Fact) → AreFacts v cs fs → slice_get fs i ≡ Some f → (c : PureFact) × ((slice_get cs i ≡ Some c) × IsFact v c f)
fact_at v [] [] i f are at = not_none at
fact_at v [] (g ∷ fs) i f are at = absurd are
fact_at v (c ∷ cs) [] i f are at = absurd are
fact_at v (c ∷ cs) (g ∷ fs) zero f are at = (c, (refl, subst (IsFact v c) (same_some at) are.0))
fact_at v (c ∷ cs) (g ∷ fs) (suc i) f are at = fact_at v cs fs i f are.1 at

facts_cut : (v : List PureValue) (cs : List PureFact) (fs : List Fact) (i : ℕ) → AreFacts v cs fs → AreFacts v (take i cs ++ drop (suc i) cs) (take i fs ++ drop (suc i) fs)
facts_cut v [] [] zero are = tt
facts_cut v [] [] (suc i) are = tt
facts_cut v [] (g ∷ fs) i are = absurd are
facts_cut v (c ∷ cs) [] i are = absurd are
facts_cut v (c ∷ cs) (g ∷ fs) zero are = are.1
facts_cut v (c ∷ cs) (g ∷ fs) (suc i) are = (are.0, facts_cut v cs fs i are.1)

facts_taken : (v : List PureValue) (cs : List PureFact) (fs : List Fact) (i : ℕ) → AreFacts v cs fs → AreFacts v (take i cs ++ drop (i + 1) cs) (take i fs ++ drop (i + 1) fs)
facts_taken v cs fs i are = subst (λ n. AreFacts v (take i cs ++ drop n cs) (take i fs ++ drop n fs)) (sym (one_more i)) (facts_cut v cs fs i are)

each_cut : {A : Type 0} (P : A → Type 0) (xs : List A) (i : ℕ) → Each P xs → Each P (take i xs ++ drop (suc i) xs)
each_cut P [] zero all = tt
each_cut P [] (suc i) all = tt
each_cut P (x ∷ xs) zero all = all.1
each_cut P (x ∷ xs) (suc i) all = (all.0, each_cut P xs i all.1)

pub each_taken : {A : Type 0} (P : A → Type 0) (xs : List A) (i : ℕ) → Each P xs → Each P (take i xs ++ drop (i + 1) xs)
each_taken P xs i all = subst (λ n. Each P (take i xs ++ drop n xs)) (sym (one_more i)) (each_cut P xs i all)

-- ---- the store with which a case begins

same_itself : (w : PureValue) → same_value w w ≡ true
same_itself w = same_value-refl w

elements_length : (us ws : List PureValue) → same_elements us ws ≡ true → length us ≡ length ws
elements_length [] [] is = refl
elements_length [] (w ∷ ws) is = absurd (true≢false (sym is))
elements_length (u ∷ us) [] is = absurd (true≢false (sym is))
elements_length (u ∷ us) (w ∷ ws) is = ap suc (elements_length us ws (and_parts (same_value u w) (same_elements us ws) is).1)

outs_length : (us ws : List PureValue) → all_agree (map Some us) ws ≡ true → length us ≡ length ws
outs_length [] [] is = refl
outs_length [] (w ∷ ws) is = absurd (true≢false (sym is))
outs_length (u ∷ us) [] is = absurd (true≢false (sym is))
outs_length (u ∷ us) (w ∷ ws) is = ap suc (outs_length us ws (and_parts (same_value u w) (all_agree (map Some us) ws) is).1)

module _ (sorts : List Param) (t : Store) (sorted : HasSorts sorts t) where
  agrees_known : (o : Option PureValue) (v : PureValue) → ((w : PureValue) → o ≡ Some w → w ≡ v) → agrees_with o v ≡ true
  agrees_known None v same = refl
  agrees_known (Some w) v same = ap (λ u. same_value u v) (same w refl) ∙ same_itself v

  bound_extends : (x : List ℕ) (v : PureValue) (u : Store) → value_of t x ≡ Some v → Extends u t → Extends (bind x v u) t
  bound_extends x v u is extends y w at = by (bytes_eq x y) refl at
    where
      by : (b : Bool) → bytes_eq x y ≡ b → cond b (Some v) (value_of u y) ≡ Some w → value_of t y ≡ Some w
      by true same found = ap (value_of t) (sym (names_same x y same)) ∙ is ∙ found
      by false other found = extends y w found

  begins_with : (qs : List Param) (vs : List PureValue) (u : Store) → length (param_names qs) ≡ length vs → Agrees t (param_names qs) vs → Extends u t → (w : Store) × ((bound_to sorts qs (map Some vs) u ≡ Some w) × Extends w t)
  begins_with [] [] u as_many agrees extends = (u, (refl, extends))
  begins_with [] (v ∷ vs) u as_many agrees extends = absurd (omega (arith, as_many))
  begins_with (q ∷ qs) [] u as_many agrees extends = absurd (omega (arith, as_many))
  begins_with (q ∷ qs) (v ∷ vs) u as_many agrees extends =
      let is : value_of t q.name ≡ Some v = agrees zero q.name v refl refl in
      let fits : (fits_sorts sorts q.name v && agrees_with (value_of u q.name) v) ≡ true =
      (λ i. sorted q.name v is i && agrees_with (value_of u q.name) v) ∙ agrees_known (value_of u q.name) v (λ w at. same_some (sym (extends q.name w at) ∙ is)) in
      let (w, (found, last)) = begins_with qs vs (bind q.name v u) (omega (arith, as_many)) (λ i x y name at. agrees (suc i) x y name at) (bound_extends q.name v u is extends) in
      (w, (ap (λ b. cond b (bound_to sorts qs (map Some vs) (bind q.name v u)) None) fits ∙ found, last))

case_begins : (d : PurePredDef) (ins outs : List PureValue) (t : Store) → length (param_names d.ins) ≡ length ins → length (param_names d.outs) ≡ length outs → Agrees t (param_names d.ins) ins → Agrees t (param_names d.outs) outs → HasSorts (scope_of d) t
    → (u : Store) × ((case_store d ins (map Some outs) ≡ Some u) × Extends u t)
case_begins d ins outs t many_ins many_outs ins_agree outs_agree sorts =
    let (w, (first, extends)) = begins_with (scope_of d) t sorts d.ins ins [] many_ins ins_agree (λ x v none. not_none none) in
    let (u, (second, last)) = begins_with (scope_of d) t sorts d.outs outs w many_outs outs_agree extends in
    (u, (ap (option_and_then (bound_to (scope_of d) d.outs (map Some outs))) first ∙ second, last))

-- a store with which a case begins has the sorts that are declared, and agrees with the arguments
case_begun : (d : PurePredDef) (ins outs : List PureValue) (t : Store) → case_store d ins (map Some outs) ≡ Some t → HasSorts (scope_of d) t × Agrees t (param_names d.ins) ins × Agrees t (param_names d.outs) outs
case_begun d ins outs t = by (bound_to (scope_of d) d.ins (map Some ins) []) refl
  where
    by : (o : Option Store) → bound_to (scope_of d) d.ins (map Some ins) [] ≡ o → option_and_then (bound_to (scope_of d) d.outs (map Some outs)) o ≡ Some t → HasSorts (scope_of d) t × Agrees t (param_names d.ins) ins × Agrees t (param_names d.outs) outs
    by None first is = not_none is
    by (Some u) first is =
        let bound = params_bound (scope_of d) d.ins (map Some ins) [] u first in
        let later = params_bound (scope_of d) d.outs (map Some outs) u t is in (
          later.goes.sorts (bound.goes.sorts (λ x v none. not_none none)),
          (λ i x v name value. later.goes.extends x v (bound.values i x v name (map_get ins i v value))),
          (λ i x v name value. later.values i x v name (map_get outs i v value)),
        )

-- ---- values

values_length : (v : List PureValue) (ts : List PureTerm) (ws : List PureValue) → HaveValues v ts ws → length ts ≡ length ws
values_length v [] ws have = ap length (same_some have)
values_length v (t ∷ ts) ws have = let (w, (rest, (here, later, whole))) = both_parts (value v t) (values v (from_list ts)) ws have in ap suc (values_length v ts rest later) ∙ ap length (sym whole)

pub known_outs_are : (v : List PureValue) (ts : List PureTerm) (ws : List PureValue) → HaveValues v ts ws → AreOuts v (map Some ts) (map Some ws)
known_outs_are v [] ws have = subst (λ us. AreOuts v [] (map Some us)) (same_some have) tt
known_outs_are v (t ∷ ts) ws have =
    let (w, (rest, (here, later, whole))) = both_parts (value v t) (values v (from_list ts)) ws have in
    subst (λ us. AreOuts v (map Some (t ∷ ts)) (map Some us)) (sym whole) (here, known_outs_are v ts rest later)

pub known_over : (vars : List Sort) (ts : List PureTerm) → AreEachOver vars ts → AreOutsOver vars (map Some ts)
known_over vars [] over = tt
known_over vars (t ∷ ts) over = (over.0, known_over vars ts over.1)

params_length : (qs : List Param) → length (param_names qs) ≡ length qs
params_length [] = refl
params_length (q ∷ qs) = ap suc (params_length qs)

conditions_over : (vars : List Sort) (conds : List PureAtom) → AreConditions vars conds → Each (λ a. IsOver vars (term_of a)) conds
conditions_over vars conds are = each_to (IsCondition vars) (λ a. IsOver vars (term_of a)) conds (λ a is. is.0) are

-- ---- unfolding at a place

module _ {S : Type 0} (memory : MemoryName) (stands : S → List PureValue → Heap → Type 0) (terms : S → StateTerms) (kept : S → Type 0) (d : PurePredDef) (ins outs : List PureTerm) (s : PureState S)
    (many_ins : length ins ≡ length d.ins) (many_outs : length outs ≡ length d.outs) where
  abbrev Covered : List PureValue → ℕ → Store → LogicState → PureUnfoldedCase S → Type 0
  Covered = StandsForCase memory stands terms kept d ins outs s

  pub nothing_at : (found : PureFound) → slice_get s.facts found.place ≡ None → UnfoldsAt memory stands terms kept d ins outs s found []
  nothing_at found none = record {
    cover = λ over conds v l ws us g number t next has met first place added.
        let (at, others, fit) = fits_first (fits_fact d.name ws (map Some us)) l.facts g first in
        let (c, (there, is)) = fact_at v s.facts l.facts g.place g.fact has.stands_for.facts at in
        not_none (sym none ∙ ap (slice_get s.facts) (sym place) ∙ there);
    exact = λ over conds v values l ws us has first. tt;
    follow = λ over conds. tt;
    origin = tt;
  }

  module _ (found : PureFound) (c : PureFact) (at : slice_get s.facts found.place ≡ Some c) (left : PureState S) (takes : TakesOut stands terms kept found s left) where
    left_over : IsOverTable terms s → Each (λ a. IsOver s.vars (term_of a)) found.conds → IsOverTable terms left
    left_over over conds = subst (IsOverTable terms) (sym takes.is) (record {
      conds = each_append (λ a. IsOver s.vars (term_of a)) s.conds found.conds over.conds conds;
      given = over.given;
      memory = subst (λ (ts : StateTerms). AreEachOver s.vars (all_of ts)) (sym takes.memory.same_terms) over.memory;
      facts = each_taken (λ x. AreEachOver s.vars (x.ins ++ x.outs)) s.facts found.place over.facts;
    })

    table : left.vars ≡ s.vars
    table = ap (λ (x : PureState S). x.vars) takes.is

    left_conds : left.conds ≡ s.conds ++ found.conds
    left_conds = ap (λ (x : PureState S). x.conds) takes.is

    -- the arguments of the fact name only variables of the table
    arguments_over : IsOverTable terms s → AreEachOver s.vars c.ins × AreEachOver s.vars c.outs
    arguments_over over =
        let all = each_at (λ x. AreEachOver s.vars (x.ins ++ x.outs)) s.facts found.place c over.facts at in
        (each_left (IsOver s.vars) c.ins c.outs all, each_right (IsOver s.vars) c.ins c.outs all)

    further_of : (r : PureState S) → IsFurther terms kept left r → IsFurther terms kept s r
    further_of r is = record {
      sorts = is.sorts;
      vars = is.vars ∙ ap (λ (vars : List Sort). vars ++ is.sorts) table;
      more = found.conds ++ is.more;
      conds = is.conds ∙ ap (λ cs. cs ++ is.more) left_conds ∙ append_assoc s.conds found.conds is.more;
      same_else = is.same_else ∙ ap (λ (x : PureState S). record x { vars = r.vars; conds = r.conds; memory = r.memory; facts = r.facts }) takes.is;
      over = is.over;
      still_kept = λ k. is.still_kept (subst (λ (x : PureState S). kept x.memory) (sym takes.is) (takes.memory.still_kept k));
    }

    module _ (v : List PureValue) (l : LogicState) (ws us : List PureValue) (g : FoundFact) (has : HasArguments memory stands terms kept d ins outs s v l ws us) (met : IsTrue (all_true v found.conds))
        (first : IsFound memory stands terms kept d ins outs s l ws us g) (place : g.place ≡ found.place) where
      is_fact : IsFact v c g.fact
      is_fact =
          let (there, others, fit) = fits_first (fits_fact d.name ws (map Some us)) l.facts g first in
          let (e, (read, is)) = fact_at v s.facts l.facts g.place g.fact has.stands_for.facts there in
          subst (λ (x : PureFact). IsFact v x g.fact) (same_some (sym read ∙ ap (slice_get s.facts) place ∙ at)) is

      as_many_ins : length (param_names d.ins) ≡ length g.fact.ins
      as_many_ins =
          let (there, others, fit) = fits_first (fits_fact d.name ws (map Some us)) l.facts g first in
          let (both, outs_fit) = and_parts (bytes_eq g.fact.pred d.name && same_elements g.fact.ins ws) (all_agree (map Some us) g.fact.outs) fit in
          let (named, ins_fit) = and_parts (bytes_eq g.fact.pred d.name) (same_elements g.fact.ins ws) both in
          params_length d.ins ∙ sym many_ins ∙ values_length v ins ws has.ins_are ∙ sym (elements_length g.fact.ins ws ins_fit)

      as_many_outs : length (param_names d.outs) ≡ length g.fact.outs
      as_many_outs =
          let (there, others, fit) = fits_first (fits_fact d.name ws (map Some us)) l.facts g first in
          let (both, outs_fit) = and_parts (bytes_eq g.fact.pred d.name && same_elements g.fact.ins ws) (all_agree (map Some us) g.fact.outs) fit in
          params_length d.outs ∙ sym many_outs ∙ values_length v outs us has.outs_are ∙ outs_length us g.fact.outs outs_fit

      left_stands : Stands stands left v (record l { facts = g.others })
      left_stands = subst (λ (x : PureState S). Stands stands x v (record l { facts = g.others })) (sym takes.is) (record {
        proper = has.stands_for.proper;
        meets = joined_true v s.conds found.conds has.stands_for.meets met;
        memory = takes.memory.stays v l.heap has.stands_for.memory;
        facts = subst (AreFacts v (take found.place s.facts ++ drop (found.place + 1) s.facts)) (sym ((fits_first (fits_fact d.name ws (map Some us)) l.facts g first).1 ∙ ap (λ i. take i l.facts ++ drop (i + 1) l.facts) place))
            (facts_taken v s.facts l.facts found.place has.stands_for.facts);
      })

    pub no_store : (split : PureSplit PureStore) → split.found ≡ None → SplitsCase d c.ins (map Some c.outs) split → UnfoldsAt memory stands terms kept d ins outs s found []
    no_store split none splits = record {
      cover = λ over conds v l ws us g number t next has met first place added.
          let is = is_fact v l ws us g has met first place in
          let (u, (begun, extends)) = case_begins d g.fact.ins g.fact.outs t (as_many_ins v l ws us g has met first place) (as_many_outs v l ws us g has met first place) added.ins_agree added.outs_agree added.sorts in
          let args = arguments_over over in
          let says = splits s.vars v g.fact.ins (map Some g.fact.outs) has.stands_for.proper args.0 (known_over s.vars c.outs args.1) is.ins (known_outs_are v c.outs g.fact.outs is.outs) in
          ⊎_elim (λ reached. absurd (subst (IsReached v) none reached)) (λ hold. not_none (sym (says.none hold) ∙ begun)) says.cover;
      exact = λ over conds v values l ws us has first. tt;
      follow = λ over conds. tt;
      origin = tt;
    }

    module _ (split : PureSplit PureStore) (good : PureGoodCase PureStore) (there : split.found ≡ Some good) (splits : SplitsCase d c.ins (map Some c.outs) split) (names : CaseStaysOver c.ins (map Some c.outs) split)
        (rs : List (PureUnfoldedCase S)) (adds : AddsCases memory stands terms kept (scope_of d) good.result good.conds d.cases left rs) (come : Each (IsUnfoldedAt terms d s found) rs) where
      good_over : IsOverTable terms s → AreConditions s.vars good.conds × IsStoreOver s.vars good.result
      good_over over =
          let args = arguments_over over in
          let is = (names s.vars args.0 (known_over s.vars c.outs args.1)).found in
          of_found split.found there is
        where
          of_found : (o : Option (PureGoodCase PureStore)) → o ≡ Some good → IsFoundOver (IsStoreOver s.vars) s.vars o → AreConditions s.vars good.conds × IsStoreOver s.vars good.result
          of_found o is over = subst (λ (p : Option (PureGoodCase PureStore)). IsFoundOver (IsStoreOver s.vars) s.vars p) is over

      follow_all : IsOverTable terms s → Each (λ a. IsOver s.vars (term_of a)) found.conds → Each (λ r. IsFurther terms kept left r.state) rs
      follow_all over conds =
          adds.follow (left_over over conds) (subst (λ (vars : List Sort). IsStoreOver vars good.result) (sym table) (good_over over).1)
          (subst (λ (vars : List Sort). Each (λ a. IsOver vars (term_of a)) good.conds) (sym table) (conditions_over s.vars good.conds (good_over over).0))

      -- the conditions of an answered state, and those that it has beside those of the state
      whole_conds : (r : PureUnfoldedCase S) (further : IsFurther terms kept left r.state) → r.state.conds ≡ s.conds ++ (found.conds ++ further.more)
      whole_conds r further = further.conds ∙ ap (λ cs. cs ++ further.more) left_conds ∙ append_assoc s.conds found.conds further.more

      since : (r : PureUnfoldedCase S) → IsFurther terms kept left r.state → added_conds s r.state ≡ found.conds ++ added_conds left r.state
      since r further =
          ap (drop (length s.conds)) (whole_conds r further) ∙ drop_front s.conds (found.conds ++ further.more) ∙ ap (λ cs. found.conds ++ cs) (sym (ap (drop (length left.conds)) further.conds ∙ drop_front left.conds further.more))

      given_by : (v : List PureValue) (o : Option (PureGoodCase PureStore)) → o ≡ Some good → (p : Option Store) → Gives (StandsFor v) o p → (w : Store) × ((p ≡ Some w) × StandsFor v good.result w)
      given_by v o is p gives = subst (λ (q : Option (PureGoodCase PureStore)). Gives (StandsFor v) q p) is gives

      stands_for : (v : List PureValue) (number : ℕ) (t : Store) (next : LogicState) (items : List PureItem) → slice_get d.cases number ≡ Some items → (r : PureUnfoldedCase S) → IsFurther terms kept left r.state
          → (r.number ≡ number) × IsAddedAs memory stands terms kept (scope_of d) good.result good.conds left v items t next r.state → Covered v number t next r
      stands_for v number t next items body r further is = record {
        same_number = is.0;
        values = is.1.values;
        come = each_to (λ w. (x : List ℕ) × (IsTrue (named_by_items items x) × (value_of t x ≡ Some w))) (IsNamedValue d t) is.1.values (λ w one. (one.0, (case_named d.cases number body one.0 one.1.0, one.1.1))) is.1.come;
        proper = is.1.proper;
        meets = is.1.meets;
        is = ⊎_elim (λ form. inl (subst (λ (cs : List PureAtom). IsTrue (has_open cs)) (sym (since r further)) (open_later found.conds (added_conds left r.state) form))) (λ stood. inr stood) is.1.is;
      }
        where
          case_named : (cases : List (List PureItem)) (i : ℕ) → slice_get cases i ≡ Some items → (x : List ℕ) → IsTrue (named_by_items items x) → OneOf (λ body. IsTrue (named_by_items body x)) cases
          case_named [] i at_i x named = not_none at_i
          case_named (b ∷ cases) zero at_i x named = inl (subst (λ (body : List PureItem). IsTrue (named_by_items body x)) (sym (same_some at_i)) named)
          case_named (b ∷ cases) (suc i) at_i x named = inr (case_named cases i at_i x named)

      module _ (over : IsOverTable terms s) (conds : Each (λ a. IsOver s.vars (term_of a)) found.conds) (v values : List PureValue) (l : LogicState) (ws us : List PureValue) (has : HasArguments memory stands terms kept d ins outs s v l ws us) where
        -- the first fact that fits is found there
        record IsFirstThere : Type 0 where
          found_fact : FoundFact
          is_first : IsFound memory stands terms kept d ins outs s l ws us found_fact
          at_place : found_fact.place ≡ found.place
          met : IsTrue (all_true v found.conds)

        abbrev others_of : IsFirstThere → LogicState
        others_of k = record l { facts = k.found_fact.others }

        abbrev HasCase : IsFirstThere → PureUnfoldedCase S → Type 0
        HasCase k r =
            IsMetAfter left r.state (v ++ values) → (items : List PureItem) × ((slice_get d.cases r.number ≡ Some items) × AddsExactly memory stands terms kept (scope_of d) good.result good.conds v (others_of k) items (v ++ values) r.state)

        before : (k : IsFirstThere) → IsBefore memory stands terms kept (scope_of d) good.result good.conds left v (others_of k)
        before k = record {
          over = left_over over conds;
          store_over = subst (λ (vars : List Sort). IsStoreOver vars good.result) (sym table) (good_over over).1;
          conds_over = subst (λ (vars : List Sort). Each (λ a. IsOver vars (term_of a)) good.conds) (sym table) (conditions_over s.vars good.conds (good_over over).0);
          stands_for = left_stands v l ws us k.found_fact has k.met k.is_first k.at_place;
        }

        unfolds_exactly : FindsFirst memory stands terms kept d ins outs s found v l ws us → (r : PureUnfoldedCase S) → IsFurther terms kept left r.state → ((k : IsFirstThere) → HasCase k r) → IsMetAfter s r.state (v ++ values)
            → IsUnfoldingOf memory stands terms kept d ins outs s l ws us (v ++ values) r
        unfolds_exactly first r further law is_met =
            let all_met : IsTrue (all_true (v ++ values) (s.conds ++ (found.conds ++ further.more))) = subst (λ (cs : List PureAtom). IsTrue (all_true (v ++ values) cs)) (whole_conds r further) is_met.meets.true_there in
            let found_met : IsTrue (all_true v found.conds) =
            sym (conds_longer s.vars v values has.stands_for.proper.one_each found.conds conds) ∙ (true_parts (v ++ values) found.conds further.more (true_parts (v ++ values) s.conds (found.conds ++ further.more) all_met).1).0 in
            let (g, (is_first, place)) = first found_met in
            let k : IsFirstThere = record { found_fact = g; is_first = is_first; at_place = place; met = found_met } in
            let no_form : has_open (added_conds left r.state) ≡ false = (none_open found.conds (added_conds left r.state) (ap has_open (sym (since r further)) ∙ is_met.no_form)).1 in
            let (items, (body, exactly)) = law k (record { meets = is_met.meets; no_form = no_form }) in
            let is = is_fact v l ws us g has found_met is_first place in
            let args = arguments_over over in
            let says = splits s.vars v g.fact.ins (map Some g.fact.outs) has.stands_for.proper args.0 (known_over s.vars c.outs args.1) is.ins (known_outs_are v c.outs g.fact.outs is.outs) in
            let (u, (given, stood)) = given_by v split.found there (case_store d g.fact.ins (map Some g.fact.outs)) (says.found (subst (IsReached v) (sym there) exactly.conds_true)) in
            let (sorts, ins_agree, outs_agree) = case_begun d g.fact.ins g.fact.outs u given in
            let a = exactly.adding u stood sorts in
            record {
              found = g;
              is_found = is_first;
              store = a.store;
              next = a.next;
              added = record {
                items = items;
                case = body;
                ins_agree = λ i y w name value. a.extends y w (ins_agree i y w name value);
                outs_agree = λ i y w name value. a.extends y w (outs_agree i y w name value);
                sorts = a.sorts;
                adding = a.adding;
              };
              stands_for = a.stands_for;
            }

        exact_there : FindsFirst memory stands terms kept d ins outs s found v l ws us → Each (λ r. IsMetAfter s r.state (v ++ values) → IsUnfoldingOf memory stands terms kept d ins outs s l ws us (v ++ values) r) rs
        exact_there first =
            both_each (λ r. IsFurther terms kept left r.state) (λ r. (k : IsFirstThere) → HasCase k r) (λ r. IsMetAfter s r.state (v ++ values) → IsUnfoldingOf memory stands terms kept d ins outs s l ws us (v ++ values) r) rs (unfolds_exactly first)
            (follow_all over conds) (each_for_all HasCase rs (λ k. adds.exact v values (others_of k) (before k)))

      pub some_store : UnfoldsAt memory stands terms kept d ins outs s found rs
      some_store = record {
        cover = λ over conds v l ws us g number t next has met first place added.
            let is = is_fact v l ws us g has met first place in
            let (u, (begun, extends)) = case_begins d g.fact.ins g.fact.outs t (as_many_ins v l ws us g has met first place) (as_many_outs v l ws us g has met first place) added.ins_agree added.outs_agree added.sorts in
            let args = arguments_over over in
            let says = splits s.vars v g.fact.ins (map Some g.fact.outs) has.stands_for.proper args.0 (known_over s.vars c.outs args.1) is.ins (known_outs_are v c.outs g.fact.outs is.outs) in
            let reached : IsTrue (all_true v good.conds) = ⊎_elim (λ yes. subst (IsReached v) there yes) (λ hold. not_none (sym (says.none hold) ∙ begun)) says.cover in
            let (w, (given, stood)) = given_by v split.found there (case_store d g.fact.ins (map Some g.fact.outs)) (says.found (subst (IsReached v) (sym there) reached)) in
            let same : w ≡ u = same_some (sym given ∙ begun) in
            one_of_each (λ r. IsFurther terms kept left r.state) (λ r. (r.number ≡ number) × IsAddedAs memory stands terms kept (scope_of d) good.result good.conds left v added.items t next r.state) (Covered v number t next) rs
            (follow_all over conds)
            (adds.cover v u t (record l { facts = g.others }) next number added.items
            (record {
              over = left_over over conds;
              store_over = subst (λ (vars : List Sort). IsStoreOver vars good.result) (sym table) (good_over over).1;
              conds_over = subst (λ (vars : List Sort). Each (λ a. IsOver vars (term_of a)) good.conds) (sym table) (conditions_over s.vars good.conds (good_over over).0);
              stands_for = left_stands v l ws us g has met first place;
              store = subst (StandsFor v good.result) same stood;
              conds_true = reached;
              extends = extends;
              sorts = added.sorts;
            }) added.case added.adding)
            (stands_for v number t next added.items added.case);
        exact = exact_there;
        follow = λ over conds. each_to (λ r. IsFurther terms kept left r.state) (λ r. IsFurther terms kept s r.state) rs (λ r is. further_of r.state is) (follow_all over conds);
        origin = come;
      }
        where
          one_of_each : {A : Type 0} (P Q R : A → Type 0) (xs : List A) → Each P xs → OneOf Q xs → ((x : A) → P x → Q x → R x) → OneOf R xs
          one_of_each P Q R [] all one f = absurd one
          one_of_each P Q R (x ∷ xs) all (inl here) f = inl (f x all.0 here)
          one_of_each P Q R (x ∷ xs) all (inr later) f = inr (one_of_each P Q R xs all.1 later f)

  -- ---- wherever it was found

  pub none_unfolded : UnfoldsEach memory stands terms kept d ins outs s [] []
  none_unfolded = record {
    cover = λ over conds v l ws us g number t next has one first added. absurd one;
    exact = λ over conds v values l ws us has firsts. tt;
    follow = λ over conds. tt;
    origin = tt;
  }

  pub each_more : (fs : List PureFound) (f : PureFound) (rs ss : List (PureUnfoldedCase S)) → UnfoldsEach memory stands terms kept d ins outs s fs rs → UnfoldsAt memory stands terms kept d ins outs s f ss → UnfoldsEach memory stands terms kept d ins outs s (fs ++ f ∷ []) (rs ++ ss)
  each_more fs f rs ss so_far adds = record {
    cover = λ over conds v l ws us g number t next has one first added.
        ⊎_elim
        (λ before. one_left (Covered v number t next) rs ss (so_far.cover over (each_left (λ x. Each (λ a. IsOver s.vars (term_of a)) x.conds) fs (f ∷ []) conds) v l ws us g number t next has before first added))
        (λ last. ⊎_elim
        (λ here. one_right (Covered v number t next) rs ss (adds.cover over (each_right (λ x. Each (λ a. IsOver s.vars (term_of a)) x.conds) fs (f ∷ []) conds).0 v l ws us g number t next has here.0 first here.1 added))
        (λ none. absurd none) last)
        (one_parts (λ x. IsTrue (all_true v x.conds) × (g.place ≡ x.place)) fs (f ∷ []) one);
    exact = λ over conds v values l ws us has firsts.
        let First : PureFound → Type 0 = λ (x : PureFound). FindsFirst memory stands terms kept d ins outs s x v l ws us in
        each_append (λ r. IsMetAfter s r.state (v ++ values) → IsUnfoldingOf memory stands terms kept d ins outs s l ws us (v ++ values) r) rs ss
        (so_far.exact over (each_left (λ x. Each (λ a. IsOver s.vars (term_of a)) x.conds) fs (f ∷ []) conds) v values l ws us has (each_left First fs (f ∷ []) firsts))
        (adds.exact over (each_right (λ x. Each (λ a. IsOver s.vars (term_of a)) x.conds) fs (f ∷ []) conds).0 v values l ws us has (each_right First fs (f ∷ []) firsts).0);
    follow = λ over conds.
        each_append (λ r. IsFurther terms kept s r.state) rs ss (so_far.follow over (each_left (λ x. Each (λ a. IsOver s.vars (term_of a)) x.conds) fs (f ∷ []) conds)) (adds.follow over (each_right (λ x. Each (λ a. IsOver s.vars (term_of a)) x.conds) fs (f ∷ []) conds).0);
    origin =
        each_append (λ r. OneOf (λ x. IsUnfoldedAt terms d s x r) (fs ++ f ∷ [])) rs ss
        (each_to (λ r. OneOf (λ x. IsUnfoldedAt terms d s x r) fs) (λ r. OneOf (λ x. IsUnfoldedAt terms d s x r) (fs ++ f ∷ [])) rs (λ r one. one_left (λ x. IsUnfoldedAt terms d s x r) fs (f ∷ []) one) so_far.origin)
        (each_to (IsUnfoldedAt terms d s f) (λ r. OneOf (λ x. IsUnfoldedAt terms d s x r) (fs ++ f ∷ [])) ss (λ r is. one_right (λ x. IsUnfoldedAt terms d s x r) fs (f ∷ []) (inl is)) adds.origin);
  }

  -- ---- all

  module _ (over : IsOverTable terms s) (terms_over : AreEachOver s.vars (ins ++ outs)) (search : PureSearch) (searches : Searches d.name ins (map Some outs) s.facts search) where
    says : (v : List PureValue) (l : LogicState) (ws us : List PureValue) → HasArguments memory stands terms kept d ins outs s v l ws us → SaysFirst v search (first_fact (fits_fact d.name ws (map Some us)) l.facts)
    says v l ws us has =
        searches.says s.vars v l.facts ws (map Some us) has.stands_for.proper (each_left (IsOver s.vars) ins outs terms_over) (known_over s.vars outs (each_right (IsOver s.vars) ins outs terms_over)) over.facts has.stands_for.facts has.ins_are
        (known_outs_are v outs us has.outs_are)

    search_over : IsSearchOver s.vars search
    search_over = searches.names s.vars (each_left (IsOver s.vars) ins outs terms_over) (known_over s.vars outs (each_right (IsOver s.vars) ins outs terms_over)) over.facts

    pub none_over : Each (Each (λ a. IsOver s.vars (term_of a))) search.none
    none_over = each_to (AreConditions s.vars) (Each (λ a. IsOver s.vars (term_of a))) search.none (conditions_over s.vars) search_over.none

    found_conds_over : Each (λ f. Each (λ a. IsOver s.vars (term_of a)) f.conds) search.found
    found_conds_over = each_to (λ f. AreConditions s.vars f.conds) (λ f. Each (λ a. IsOver s.vars (term_of a)) f.conds) search.found (λ f. conditions_over s.vars f.conds) search_over.found

    pub all_unfolded : ToldOfAll s.vars s.conds search.none None → (rs : List (PureUnfoldedCase S)) → UnfoldsEach memory stands terms kept d ins outs s search.found rs → IsUnfolded memory stands terms kept d ins outs s (unfolded rs)
    all_unfolded told rs each = (
      covers,
      each.follow over found_conds_over,
      (λ v values l ws us has. each.exact over found_conds_over v values l ws us has (says v l ws us has).found),
    )
      where
        never : (v : List PureValue) (x : Alternatives) → Each (λ more. IsUnsatisfiable s.vars (s.conds ++ more)) x → IsProper s.vars v → IsTrue (all_true v s.conds) → ¬ Hold v x
        never v [] all proper meets hold = hold
        never v (more ∷ x) all proper meets (inl here) = all.0 v (record { proper = proper; true_there = joined_true v s.conds more meets here })
        never v (more ∷ x) all proper meets (inr later) = never v x all.1 proper meets later

        first_of : (v : List PureValue) (o : Option FoundFact) (fs : List PureFound) → Each (λ f. IsTrue (all_true v f.conds) → (g : FoundFact) × ((o ≡ Some g) × (g.place ≡ f.place))) fs → OneOf (λ f. IsTrue (all_true v f.conds)) fs
            → (g : FoundFact) × ((o ≡ Some g) × OneOf (λ f. IsTrue (all_true v f.conds) × (g.place ≡ f.place)) fs)
        first_of v o [] all one = absurd one
        first_of v o (f ∷ fs) all (inl here) = let (g, (is, place)) = all.0 here in (g, (is, inl (here, place)))
        first_of v o (f ∷ fs) all (inr later) = let (g, (is, one)) = first_of v o fs all.1 later in (g, (is, inr one))

        covers : CoversUnfoldings memory stands terms kept d ins outs s rs
        covers v l ws us has =
            let said = says v l ws us has in
            let found : OneOf (λ f. IsTrue (all_true v f.conds)) search.found = ⊎_elim (λ one. one) (λ hold. absurd (never v search.none told has.stands_for.proper has.stands_for.meets hold)) said.cover in
            let (g, (is, one)) = first_of v (first_fact (fits_fact d.name ws (map Some us)) l.facts) search.found said.found found in
            (g, (is, λ number t next added. each.cover over found_conds_over v l ws us g number t next has one is added))

    pub is_unmatched : (atoms : List PureAtom) (v : List PureValue) → ToldOfAll s.vars s.conds search.none (Some (met atoms v)) → IsUnfolded memory stands terms kept d ins outs s (unmatched atoms v)
    is_unmatched atoms v told = by search.none none_over told (λ w l ws us has hold. (says w l ws us has).none hold)
      where
        by : (x : Alternatives) → Each (Each (λ a. IsOver s.vars (term_of a))) x → OneOf (λ more. (atoms ≡ s.conds ++ more) × IsSolution s.vars atoms v) x
            → ((w : List PureValue) (l : LogicState) (ws us : List PureValue) → HasArguments memory stands terms kept d ins outs s w l ws us → Hold w x → first_fact (fits_fact d.name ws (map Some us)) l.facts ≡ None)
            → IsUnmatched memory stands terms kept d ins outs s atoms v
        by [] named one none = absurd one
        by (more ∷ x) named (inl (are, solution)) none = record {
          further = (more, are);
          over = subst (Each (λ a. IsOver s.vars (term_of a))) (sym are) (each_append (λ a. IsOver s.vars (term_of a)) s.conds more over.conds named.0);
          meets = solution.meets;
          no_form = solution.no_form;
          none = λ w l ws us has met. none w l ws us has (inl (true_parts w s.conds more (subst (λ cs. IsTrue (all_true w cs)) are met)).1);
        }
        by (more ∷ x) named (inr later) none = by x named.1 later (λ w l ws us has hold. none w l ws us has (inr hold))

    pub is_undecided : (atoms : List PureAtom) (reason : Reason) → ToldOfAll s.vars s.conds search.none (Some (unknown atoms reason)) → IsUndecided memory stands terms kept d ins outs s atoms reason
    is_undecided atoms reason told = by search.none told
      where
        by : (x : Alternatives) → OneOf (λ more. (atoms ≡ s.conds ++ more) × IsOutside atoms reason) x → IsUndecided memory stands terms kept d ins outs s atoms reason
        by [] one = absurd one
        by (more ∷ x) (inl here) = record { further = (more, here.0); outside = here.1 }
        by (more ∷ x) (inr later) = by x later

    pub is_answered : (told : PureTold) → ToldOfAll s.vars s.conds search.none (Some told) → IsUnfolded memory stands terms kept d ins outs s (answer_told told)
    is_answered (met atoms v) told = is_unmatched atoms v told
    is_answered (unknown atoms reason) told = is_undecided atoms reason told

-- ---- what is told

pub told_more : (vars : List Sort) (conds : List PureAtom) (x : Alternatives) (more : List PureAtom) (before now : Option PureTold) → ToldOfAll vars conds x before → ToldOf vars conds more now → ToldOfAll vars conds (x ++ more ∷ []) (option_or before now)
told_more vars conds x more (Some told) now first second = one_left (λ m. ToldOf vars conds m (Some told)) x (more ∷ []) first
told_more vars conds x more None (Some told) first second = one_right (λ m. ToldOf vars conds m (Some told)) x (more ∷ []) (inl second)
told_more vars conds x more None None first second = each_append (λ m. ToldOf vars conds m None) x (more ∷ []) first (second, tt)

pub told_one : (vars : List Sort) (conds : List PureAtom) (x : Alternatives) (more : List PureAtom) (told : PureTold) (i : ℕ) → slice_get x i ≡ Some more → ToldOf vars conds more (Some told) → ToldOfAll vars conds x (Some told)
told_one vars conds x more told i at is = one_at (λ m. ToldOf vars conds m (Some told)) x i more at is

pub told_met : {T : Type 0} (vars : List Sort) (conds : List PureAtom) (x : Alternatives) (more : List PureAtom) (seen : T → PureTold) (o : Option T) (i : ℕ) → slice_get x i ≡ Some more → IsSome o → ToldOf vars conds more (option_map seen o) → ToldOfAll vars conds x (option_map seen o)
told_met vars conds x more seen (Some told) i at there is = told_one vars conds x more (seen told) i at is
told_met vars conds x more seen None i at there is = absurd (true≢false (sym there))

-- ---- elements that were looked up

at_map : {A B : Type 0} (f : A → B) (xs : List A) (i : ℕ) → slice_get (map f xs) i ≡ option_map f (slice_get xs i)
at_map f [] i = refl
at_map f (x ∷ xs) zero = refl
at_map f (x ∷ xs) (suc i) = at_map f xs i

pub seen_at : {A B R : Type 0} (f : A → B) (now : R → A) (xs : List A) (i : ℕ) (o : Option R) (r : R) → option_map now o ≡ slice_get xs i → o ≡ Some r → slice_get (map f xs) i ≡ Some (f (now r))
seen_at f now xs i o r seen is = at_map f xs i ∙ ap (option_map f) (sym seen ∙ ap (option_map now) is)

pub none_at : {A B R : Type 0} (f : A → B) (now : R → A) (xs : List A) (i : ℕ) (o : Option R) → option_map now o ≡ slice_get xs i → o ≡ None → slice_get (map f xs) i ≡ None
none_at f now xs i o seen is = at_map f xs i ∙ ap (option_map f) (sym seen ∙ ap (option_map now) is)

pub within : {A R : Type 0} (now : R → A) (xs : List A) (i : ℕ) (o : Option R) (r : R) → option_map now o ≡ slice_get xs i → o ≡ Some r → i < length xs
within now xs i o r seen is = slice_get_within xs i (now r) (sym seen ∙ ap (option_map now) is)
