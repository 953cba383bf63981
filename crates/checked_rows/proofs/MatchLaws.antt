-- Some match stands for what is found.
use Rattle.std.proofs.Common.{inl, inr, List, [], ◌∷◌, IsTrue, sym, ap, subst, ◌∙◌}
use Rattle.gil_values.specs.Pure.{PureValue}
use Rattle.gil_syntax.specs.declared.assertions.Param.{Param}
use Rattle.gil_syntax.specs.Evaluation.{Store}
use Rattle.gil_syntax.specs.Pure.{PureItem, PurePredDef}
use Rattle.mem_model.specs.Heaps.{Heap}
use Rattle.assert_logic.specs.LogicStates.{LogicState}
use Rattle.checked_runs.specs.Checked.{Checked, Entry, names_at, logic_state}
use Rattle.pure_terms.specs.Meaning.{all_true, IsOver, Satisfies}
use Rattle.sym_evaluation.specs.Meaning.{IsStoreOver}
use Rattle.sym_evaluation.specs.Pure.{PureStore}
use Rattle.sym_model.proofs.ListLaws.{each_to, one_to}
use Rattle.sym_model.specs.Lists.{Each, OneOf}
use Rattle.sym_model.specs.Terms.{StateTerms}
use Rattle.sym_paths.proofs.Moving.{running_each}
use Rattle.sym_paths.specs.Meaning.{OfEachName}
use Rattle.sym_states.specs.Meaning as states
use Rattle.sym_states.specs.Meaning.{Serves}
use Rattle.sym_states.specs.Pure.{PureState}
use Rattle.footprint.specs.Consuming.{Matches, StopsAt}
use Rattle.footprint.specs.Leaves.{IsLonger, Premise, Giving, IsLater, IsMatch, AreAll, IsAnswer}
use Rattle.footprint.specs.Pure.{PureMatch, PureMatching, all_match, unmatched, unknown}
use Rattle.checked_paths.specs.Meaning.{StandsForChecked, IsCheckedOver}
use Rattle.checked_paths.specs.Pure.{PureEntry, PureChecking}
use Rattle.checked_rows.specs.Matching.{IsOfPath, IsFound, IsMatchThere, MatchesThere}
use Rattle.checked_rows.specs.Names.{AreNames}
use Rattle.checked_rows.specs.States.{IsStateOf}
use Rattle.checked_rows.proofs.NameLaws.{names_stand, names_each}
use Rattle.checked_rows.proofs.StateLaws.{state_stands, state_over, state_conds, state_vars}

-- what holds of each, where something holds of one
pub one_of_each : {A : Type 0} (P Q R : A → Type 0) (xs : List A) → ((x : A) → P x → Q x → R x) → Each P xs → OneOf Q xs → OneOf R xs
one_of_each P Q R [] go all one = absurd one
one_of_each P Q R (x ∷ xs) go all (inl here) = inl (go x all.0 here)
one_of_each P Q R (x ∷ xs) go all (inr later) = inr (one_of_each P Q R xs go all.1 later)

-- something is found
pub found_one : {A B : Type 0} (P : A → Type 0) (xs : List A) → ((x : A) → P x → B) → OneOf P xs → B
found_one P [] go one = absurd one
found_one P (x ∷ xs) go (inl here) = go x here
found_one P (x ∷ xs) go (inr later) = found_one P xs go later

module _ {S : Type 0} (stands : S → List PureValue → Heap → Type 0) (terms : S → StateTerms) (kept : S → Type 0) (s : PureState S) (If : Premise) (Gives : Giving) where
  abbrev pub Found : List PureValue → Store → LogicState → PureMatch S → Type 0
  Found v t l m = (t' : Store) × ((l' : LogicState) × (Gives v t l t' l' × Serves stands terms m.state m.store v t' l'))

  pub one_matches : (ms : List (PureMatch S)) (v : List PureValue) (t : Store) (l : LogicState) → AreAll stands terms kept s If Gives ms → If v t l → OneOf (Found v t l) ms
  one_matches ms v t l all given =
      one_of_each (IsMatch stands terms kept s If Gives) (λ m. IsTrue (all_true v m.state.conds)) (Found v t l) ms (λ m match met. match.exact v t l given met) all.matched (all.cover v t l given)

-- ---- where a checked path stands

module _ {S : Type 0} (stands : S → List PureValue → Heap → Type 0) (terms : S → StateTerms) (kept : S → Type 0) (e : PureEntry) (x : PureChecking S) (s : PureState S) (bs : PureStore)
    (over : IsCheckedOver terms e x) (is : IsStateOf stands terms x.path x.facts s) (names : AreNames x.path.stack e.variables bs) where
  pub names_over : IsStoreOver s.vars bs
  names_over = subst (λ vars. OfEachName (IsOver vars) bs) (sym (state_vars stands terms x.path x.facts s is))
      (names_each (IsOver x.path.vars) x.path.stack e.variables bs (running_each (IsOver x.path.vars) x.path.stack over.path.stores) over.entry.variables names)

  pub over_there : states.IsOverTable terms s
  over_there = state_over stands terms x.path x.facts s is over.path over.facts

  pub serves_there : (v : List PureValue) (entry : Entry) (c : Checked) → StandsForChecked stands e x v entry c → Serves stands terms s bs v (names_at entry c) (logic_state c)
  serves_there v entry c stand = record {
    over = over_there;
    store_over = names_over;
    store = names_stand v x.path.stack c.machine.current c.machine.callers e.variables bs entry stand.path.frames stand.entered.variables names;
    state = state_stands stands terms x.path x.facts s is v c.machine c.facts stand.path stand.facts;
  }

  later_of : (r : PureState S) → IsLater stands terms kept s r → IsOfPath terms x r
  later_of r later = record {
    vars = ap (λ (q : PureState S). q.vars) later.same_else ∙ state_vars stands terms x.path x.facts s is;
    longer = subst (λ conds. IsLonger conds r.conds) (state_conds stands terms x.path x.facts s is) later.longer;
    choices = ap (λ (q : PureState S). q.path) later.same_else ∙ ap (λ (q : PureState S). q.path) is.is;
    over = later.over;
  }

  pub matches_there : (preds : List PurePredDef) (scope : List Param) (items : List PureItem) (r : PureMatching S) → IsAnswer stands terms kept s (Serves stands terms s bs) (Matches preds scope items) (StopsAt preds scope items) r
      → MatchesThere stands terms e x preds scope items r
  matches_there preds scope items (unmatched k u) answer = record {
    longer = subst (λ conds. IsLonger conds k.conds) (state_conds stands terms x.path x.facts s is) answer.stop.longer;
    meets = subst (λ vars. Satisfies vars u k.conds) (state_vars stands terms x.path x.facts s is) answer.meets;
    stops = λ v entry c stand met. answer.stop.exact v (names_at entry c) (logic_state c) (serves_there v entry c stand) met;
  }
  matches_there preds scope items (unknown conds reason) answer = (subst (λ cs. IsLonger cs conds) (state_conds stands terms x.path x.facts s is) answer.0, answer.1)
  matches_there preds scope items (all_match ms) answer = (
    λ v entry c stand.
        one_to (Found stands terms kept s (Serves stands terms s bs) (Matches preds scope items) v (names_at entry c) (logic_state c)) (IsFound stands terms e x preds scope items v entry c) ms
        (λ m (t', (l', ((taken, matches), serves))). record { found = record { store = t'; state = l'; taken = taken }; matches = matches; state = serves.state; store = serves.store })
        (one_matches stands terms kept s (Serves stands terms s bs) (Matches preds scope items) ms v (names_at entry c) (logic_state c) answer (serves_there v entry c stand)),
    each_to (IsMatch stands terms kept s (Serves stands terms s bs) (Matches preds scope items)) (IsMatchThere stands terms e x preds scope items) ms
        (λ m match. record {
          of_path = later_of m.state match.later;
          store_over = subst (λ vars. IsStoreOver vars m.store) (state_vars stands terms x.path x.facts s is) match.store_over;
          exact = λ v entry c stand met.
              let (t', (l', ((taken, matches), serves))) = match.exact v (names_at entry c) (logic_state c) (serves_there v entry c stand) met in
              record { found = record { store = t'; state = l'; taken = taken }; matches = matches; state = serves.state; store = serves.store };
        })
        answer.matched,
  )
