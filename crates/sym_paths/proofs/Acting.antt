-- The candidates of an action keep the laws.
use Rattle.std.proofs.Common.{◌≡◌, ◌⊎◌, ⊎_elim, inl, inr, ℕ, suc, ◌+◌, ◌<◌, List, [], ◌∷◌, ◌++◌, length, Bool, true, false, slice_get, Option, Some, None, Ok, Err, IsTrue, codes, zero, refl, sym, ap, subst, ◌∙◌, arith}
use Rattle.std.specs.Option.{option_and_then, option_map}
use Rattle.std.proofs.lemmas.List.{append-nil}
use Rattle.std.proofs.lemmas.List.Elements.{Contains-push_cases}
use Rattle.gil_values.specs.declared.places.Place.{Place}
use Rattle.gil_values.specs.Pure.{PureValue, symbol, text}
use Rattle.gil_values.specs.Symbols.{AreBelow}
use Rattle.gil_values.proofs.OperatorSymbols.{none_contained}
use Rattle.gil_syntax.specs.Evaluation.{Outcomes, bind, evaluate_all}
use Rattle.gil_syntax.specs.Pure.{PureParts, PureExpr, PureNumberedCommand, act}
use Rattle.gil_machine.specs.Choices.{choice_of, of_values, outcome_choice, missed_key, result_of, miss_at}
use Rattle.gil_machine.specs.State.{State, Step}
use Rattle.gil_machine.specs.State as machine
use Rattle.gil_machine.specs.Step.{do_command, after_action, action_result, counted, do_action}
use Rattle.mem_model.specs.declared.keys.MemoryName.{MemoryName}
use Rattle.mem_model.specs.Actions.{Actions, ActionResult}
use Rattle.mem_model.specs.Heaps.{Heap}
use Rattle.mem_model.specs.Pure.{PureOutcome}
use Rattle.mem_model.specs.Pure as outcome
use Rattle.pure_terms.specs.declared.variables.Sort.{Sort}
use Rattle.pure_terms.specs.declared.variables.Var.{Var}
use Rattle.pure_terms.specs.Meaning.{both, values, all_true, IsProper, IsOver}
use Rattle.pure_terms.specs.Pure.{PureTerm, from_list, PureAtom, term_of}
use Rattle.pure_terms.proofs.VariableLaws.{stay_when_tables_grow}
use Rattle.sym_evaluation.specs.Meaning.{HaveValues}
use Rattle.sym_evaluation.specs.Pure.{PureStore, PureGoodCase, PureCases}
use Rattle.sym_evaluation.specs.Questions.{IsAsked, OnResult, AreTermsOf, AreEachOver, EachCondition, OnConditions}
use Rattle.sym_model.specs.Laws.{IsMeaning, ActLaw, Serves, EachTerm}
use Rattle.sym_model.specs.Lists.{Each, OneOf, IsAmong}
use Rattle.sym_model.specs.Meaning.{location_of, fresh_symbol, has_open, IsOutcome, IsBranchFor}
use Rattle.sym_model.specs.Pure.{PureKey, PureResult, done, failed, missed, PureBranch, result_terms}
use Rattle.sym_model.specs.Terms.{StateTerms, all_of, IsFreshOver, IsMadeOf, asked_of, IsOwnCondition}
use Rattle.sym_model.proofs.ListLaws.{same_some, each_append, each_at, each_to, each_by_place, each_right}
use Rattle.sym_paths.specs.Valued.{place_at}
use Rattle.sym_paths.specs.Laws.{with_more, IsBound}
use Rattle.sym_paths.specs.Meaning.{Stands, StandsForStep, OfEachName, IsOverTable, end_terms, command_of_path}
use Rattle.sym_paths.specs.Moves.{running_store, advanced}
use Rattle.sym_paths.specs.Origins.{Follows}
use Rattle.sym_paths.specs.Pure.{PureFrame, PureEnd, PurePath}
use Rattle.sym_paths.specs.Pure as path_end
use Rattle.sym_paths.specs.Settling.{Candidate, AreCandidates}
use Rattle.sym_paths.specs.Steps.{AreNext, drawn_from, IsNewSort, new_sorts, makes_choice, IsUnknown, IsChosen, MayChoose, MayAssume}
use Rattle.sym_paths.proofs.Assuming.{assumes_rightly}
use Rattle.sym_paths.proofs.Binding.{agree_bound, each_bound}
use Rattle.sym_evaluation.proofs.AskedAtoms.{NeedsNone, one_asked_closed}
use Rattle.sym_paths.proofs.Growing.{path_stands, path_over, later_among}
use Rattle.sym_paths.proofs.Moving.{none_next, advanced_frames, running_stands, running_each, advanced_each}
use Rattle.sym_paths.proofs.Origins.{follows_ended, follows_going, follows_failing}
use Rattle.sym_paths.proofs.Recording.{records_by}
use Rattle.sym_paths.proofs.Silent.{same_and_none}
use Rattle.sym_paths.proofs.Valuations.{next_fresh, below_higher, below_next}
use Rattle.sym_paths.specs.Acting.{taken, fresh_where, branched, ActsTo, ActsAsEach, Acts, IsAskedByMemory, IsAskedByAction, ActionsKeepTheLaws}
use Rattle.sym_paths.specs.Cases.{AreOfCases, AreEvaluated}
use Rattle.sym_paths.proofs.Following.{with_outcome, of_outcome, IsEvaluation, second_true, good_is_over, store_over, at_command, same_place, standing, MakesNext, Covered, covered_by, along_chosen, are_candidates}
use Rattle.sym_paths.proofs.Outcomes.{with_values-outcome}

-- ---- new variables

taken_are_new : (takes : Bool) → Each IsNewSort (taken takes)
taken_are_new true = (tt, tt)
taken_are_new false = tt

last_is : {X : Type 0} (xs : List X) (y : X) (n : ℕ) → n ≡ length xs → slice_get (xs ++ y ∷ []) n ≡ Some y
last_is [] y zero is = refl
last_is [] y (suc n) is = absurd (omega (arith, is))
last_is (x ∷ xs) y zero is = let no : zero ≡ suc (length xs) = is in absurd (omega (arith, no))
last_is (x ∷ xs) y (suc n) is = let same : suc n ≡ suc (length xs) = is in last_is xs y n (omega (arith, same))

one_symbol : (inputs : List PureValue) (n d : ℕ) (ws : List PureValue) → AreNext inputs n d (Sort.Fresh ∷ []) ws → ws ≡ symbol n ∷ []
one_symbol inputs n d [] next = absurd next
one_symbol inputs n d (w ∷ []) next = ap (λ u. u ∷ []) next.0
one_symbol inputs n d (w ∷ u ∷ ws) next = absurd next.1

no_draw : (takes : Bool) (k : ℕ) → drawn_from k (taken takes) ≡ []
no_draw true k = refl
no_draw false k = refl

fresh_is_over : (takes : Bool) (vars : List Sort) → IsFreshOver (vars ++ taken takes) (fresh_where takes vars)
fresh_is_over true vars = λ x has. ⊎_elim (λ none. absurd (none_contained x none))
    (λ (is : record { number = length vars; sort = Sort.Fresh } ≡ x). subst (λ (y : Var). slice_get (vars ++ Sort.Fresh ∷ []) y.number ≡ Some y.sort) is (last_is vars Sort.Fresh (length vars) (λ i. length vars)))
    (Contains-push_cases [] (record { number = length vars; sort = Sort.Fresh }) x has)
fresh_is_over false vars = tt

module _ (inputs vs : List PureValue) (vars : List Sort) (n d : ℕ) (proper : IsProper vars vs) (below : AreBelow n vs) where
  some_next : (takes : Bool) → (ws : List PureValue) × (AreNext inputs n d (taken takes) ws × IsProper (vars ++ taken takes) (vs ++ ws))
  some_next true = (symbol n ∷ [], ((refl, tt), (next_fresh vars vs n proper below).0))
  some_next false = ([], (tt, subst (λ xs. IsProper xs (vs ++ [])) (sym (append-nil vars)) (subst (IsProper vars) (sym (append-nil vs)) proper)))

-- ---- results and choices

action_choice : (o : Outcomes) (result : List PureValue → ActionResult) → option_map (λ (r : ActionResult). outcome_choice r.outcome) (of_values (λ args. Some (result args)) o) ≡ of_outcome (λ args. Some (outcome_choice (result args).outcome)) o
action_choice (Ok args) result = refl
action_choice (Err fault) result = refl

values_more : (vars : List Sort) (v ws : List PureValue) (ts : List PureTerm) → length v ≡ length vars → Each (IsOver vars) ts → values (v ++ ws) (from_list ts) ≡ values v (from_list ts)
values_more vars v ws [] one_each over = refl
values_more vars v ws (t ∷ ts) one_each over = λ i. both (stay_when_tables_grow.values t vars v ws over.0 one_each i) (values_more vars v ws ts one_each over.1 i)

each_over_is : (vars : List Sort) (ts : List PureTerm) → AreEachOver vars ts → Each (IsOver vars) ts
each_over_is vars ts over = over

-- ---- candidates

module _ {S : Type 0} (memory : MemoryName) (stands : S → List PureValue → Heap → Type 0) (terms : S → StateTerms) (meaning : IsMeaning memory stands terms) (asked : List ℕ → List PureTerm → List PureTerm × List PureTerm) (m : Actions) (p : PureParts) (path : PurePath S)
    (c : PureNumberedCommand) (x action : List ℕ) (es : List PureExpr) (cases : PureCases (List PureTerm)) (over : IsOverTable terms path) (at : command_of_path p path ≡ Some c) (command : c.command ≡ act x action es)
    (evaluated : AreEvaluated (running_store path.stack) es cases) where
  abbrev takes : Bool
  takes = m.takes_symbol action

  abbrev vars' : List Sort
  vars' = path.vars ++ taken takes

  abbrev fresh : Option Var
  fresh = fresh_where takes path.vars

  abbrev Own : PureAtom → Type 0
  Own = IsAskedByAction terms asked path action es

  abbrev OfMemory : PureAtom → Type 0
  OfMemory = IsAskedByMemory terms asked path action es

  abbrev go_on : Place → State → List PureValue → Step
  go_on place s args = do_action takes m x action args place s

  abbrev chooses : State → List PureValue → Option ℕ
  chooses s args = Some (outcome_choice (action_result takes m action args s).outcome)

  abbrev there : State → Place
  there s = at_command stands terms p m path c over at s

  abbrev Asked : PureAtom → Type 0
  Asked a = OneOf (λ e. IsAsked (running_store path.stack) e a) es

  own_good : (o : Option (PureGoodCase (List PureTerm))) → OnConditions Asked o → OnConditions Own o
  own_good None is = tt
  own_good (Some g) is = each_to Asked Own g.conds (λ a one. inl one) is

  own_conditions : EachCondition Own cases
  own_conditions = (each_to (λ d. Each Asked d.conds) (λ d. Each Own d.conds) cases.faults (λ d. each_to Asked Own d.conds (λ a one. inl one)) evaluated.origin.0.0, own_good cases.good evaluated.origin.0.1)

  good_closed : (o : Option (PureGoodCase (List PureTerm))) → OnConditions Asked o → OnConditions NeedsNone o
  good_closed None is = tt
  good_closed (Some g) is = each_to Asked NeedsNone g.conds (one_asked_closed (running_store path.stack) es) is

  all_closed : EachCondition NeedsNone cases
  all_closed = (each_to (λ d. Each Asked d.conds) (λ d. Each NeedsNone d.conds) cases.faults (λ d. each_to Asked NeedsNone d.conds (one_asked_closed (running_store path.stack) es)) evaluated.origin.0.0, good_closed cases.good evaluated.origin.0.1)

  evaluation : IsEvaluation (running_store path.stack) HaveValues AreEachOver (evaluate_all es) Own c.command cases
  evaluation = record {
    says = evaluated.are_cases;
    origin = own_conditions;
    assumed = subst (λ k. EachCondition (MayAssume Own (running_store path.stack) k) cases) (sym command) own_conditions;
    closed = all_closed;
    names = evaluated.names;
  }

  does : (inputs : List PureValue) (place : Place) (s : State) → do_command p m inputs c.command place s ≡ with_outcome (evaluate_all es s.current.store) place s (go_on place s)
  does inputs place s = ap (λ k. do_command p m inputs k place s) command ∙ with_values-outcome (evaluate_all es s.current.store) place s (go_on place s)

  choice : (s : State) → choice_of p m c.command s ≡ of_outcome (chooses s) (evaluate_all es s.current.store)
  choice s = ap (λ k. choice_of p m k s) command ∙ action_choice (evaluate_all es s.current.store) (λ args. action_result takes m action args s)

  abbrev Makes : PureGoodCase (List PureTerm) → List PureAtom → Candidate S → Type 0
  Makes = MakesNext stands terms p m path c over at HaveValues AreEachOver (evaluate_all es) go_on chooses Own OfMemory cases evaluation does choice (taken takes)

  -- what is missed where the arguments have these values
  missed_there : (v : List PureValue) (s : State) (args : List PureValue) → Stands stands path v s → evaluate_all es s.current.store ≡ Ok args → miss_at p m s ≡ missed_key (action_result takes m action args s).outcome
  missed_there v s args is ok =
      ap (λ (o : Option PureNumberedCommand). option_and_then (λ (r : ActionResult). missed_key r.outcome) (option_and_then (λ (d : PureNumberedCommand). result_of p m d.command s) o)) (standing stands terms p m path c over at v s is)
      ∙ ap (λ k. option_and_then (λ (r : ActionResult). missed_key r.outcome) (result_of p m k s)) command
      ∙ ap (λ o. option_and_then (λ (r : ActionResult). missed_key r.outcome) (of_values (λ us. Some (action_result takes m action us s)) o)) ok

  -- with the new variable, if any, the path stands for the state in which the symbol is counted
  grown : (b : Bool) (inputs v ws : List PureValue) (s : State) → Stands stands path v s → AreNext inputs s.counter s.draws (taken b) ws → IsProper (path.vars ++ taken b) (v ++ ws) → Stands stands (with_more path (taken b)) (v ++ ws) (counted b s)
  grown true inputs v ws s is in_turn proper =
      path_stands memory stands terms meaning path v s (Sort.Fresh ∷ []) ws (s.counter + 1) over is proper (omega arith)
      (subst (AreBelow (s.counter + 1)) (sym (one_symbol inputs s.counter s.draws ws in_turn)) (below_higher (suc s.counter) (s.counter + 1) (symbol s.counter ∷ []) (omega arith) (below_next s.counter)))
  grown false inputs v ws s is in_turn proper =
      path_stands memory stands terms meaning path v s [] ws s.counter over is proper (omega arith)
      (subst (AreBelow s.counter) (sym (none_next inputs s.counter s.draws ws in_turn)) (λ n occurs. absurd (none_contained n occurs)))

  same_heap : (b : Bool) (s : State) → (counted b s).heap ≡ s.heap
  same_heap true s = refl
  same_heap false s = refl

  same_result : (b : Bool) (inputs v ws : List PureValue) (s : State) (args : List PureValue) → length v ≡ length path.vars → AreNext inputs s.counter s.draws (taken b) ws
      → m.act action (fresh_symbol (v ++ ws) (fresh_where b path.vars)) args s.heap ≡ action_result b m action args s
  same_result true inputs v ws s args one_each in_turn =
      ap (λ us. m.act action (location_of (slice_get (v ++ us) (length path.vars))) args s.heap) (one_symbol inputs s.counter s.draws ws in_turn)
      ∙ ap (λ o. m.act action (location_of o) args s.heap) (last_is v (symbol s.counter) (length path.vars) (sym one_each))
  same_result false inputs v ws s args one_each in_turn = refl

  more_over : IsOverTable terms (with_more path (taken takes))
  more_over = path_over terms path (taken takes) over

  abbrev OverMore : PureAtom → Type 0
  OverMore a = IsOver vars' (term_of a)

  module _ (g : PureGoodCase (List PureTerm)) (is_good : cases.good ≡ Some g) where
    good_over : Each (λ a. IsOver path.vars (term_of a)) g.conds
    good_over = good_is_over stands terms p m path c over at HaveValues AreEachOver (evaluate_all es) go_on chooses Own OfMemory cases evaluation does choice g is_good

    good_more : Each OverMore g.conds
    good_more = each_to (λ a. IsOver path.vars (term_of a)) OverMore g.conds (λ a. stay_when_tables_grow.over (term_of a) path.vars (taken takes)) good_over

    args_over : Each (IsOver path.vars) g.result
    args_over = each_over_is path.vars g.result (subst (OnResult (AreEachOver path.vars)) is_good (evaluated.names path.vars (store_over stands terms p m path c over at)).1)

    asks_over : Each (IsOver vars') (g.result ++ all_of (terms path.memory))
    asks_over =
        each_append (IsOver vars') g.result (all_of (terms path.memory))
        (each_to (IsOver path.vars) (IsOver vars') g.result (λ t. stay_when_tables_grow.over t path.vars (taken takes)) args_over)
        more_over.memory

    from : AreTermsOf (running_store path.stack) es g.result
    from = subst (OnResult (AreTermsOf (running_store path.stack) es)) is_good evaluated.origin.1

    pub serves : (inputs v ws : List PureValue) (s : State) (args : List PureValue) → Stands stands path v s → AreNext inputs s.counter s.draws (taken takes) ws → IsProper vars' (v ++ ws) → HaveValues v g.result args
        → Serves stands terms vars' (v ++ ws) fresh g.result path.memory args s.heap
    serves inputs v ws s args is in_turn proper val = record {
      proper = proper;
      over = asks_over;
      fresh_over = fresh_is_over takes path.vars;
      have_values = values_more path.vars v ws g.result is.proper.one_each args_over ∙ val;
      has_heap = subst (stands path.memory (v ++ ws)) (same_heap takes s) (grown takes inputs v ws s is in_turn proper).memory;
    }

    abbrev Answered : PureTerm → Type 0
    Answered = IsMadeOf (g.result ++ all_of (terms path.memory)) fresh

    -- what the laws of the action say of one branch
    record IsLawful (b : PureBranch S) : Type 0 where
      exact : (w args : List PureValue) (h : Heap) → Serves stands terms vars' w fresh g.result path.memory args h → IsTrue (all_true w b.conds) → has_open b.conds ≡ false → IsBranchFor stands w (m.act action (fresh_symbol w fresh) args h) b
      own : Each (IsOwnCondition (asked_of (asked action g.result) (terms path.memory))) b.conds
      names : Each OverMore b.conds × EachTerm terms (IsOver vars') b
      made : EachTerm terms Answered b

    each_lawful : (bs : List (PureBranch S)) → ActLaw stands terms m action fresh g.result (asked action g.result) path.memory bs → Each IsLawful bs
    each_lawful bs law = each_by_place IsLawful bs (λ i b place. record {
      exact = λ w args h served. each_at (λ d. IsTrue (all_true w d.conds) → has_open d.conds ≡ false → IsBranchFor stands w (m.act action (fresh_symbol w fresh) args h) d) bs i b (law.exact vars' w args h served) place;
      own = each_at (λ d. Each (IsOwnCondition (asked_of (asked action g.result) (terms path.memory))) d.conds) bs i b law.own place;
      names = each_at (λ d. Each OverMore d.conds × EachTerm terms (IsOver vars') d) bs i b (law.variables vars' asks_over (fresh_is_over takes path.vars)) place;
      made = each_at (EachTerm terms Answered) bs i b law.made place;
    })

    module _ (b : PureBranch S) (lawful : IsLawful b) where
      of_memory : Each OfMemory b.conds
      of_memory = each_to (IsOwnCondition (asked_of (asked action g.result) (terms path.memory))) OfMemory b.conds (λ a own. (g.result, (from, own))) lawful.own

      own_branch : Each Own b.conds
      own_branch = each_to OfMemory Own b.conds (λ a asks. inr asks) of_memory

      -- a candidate for the branch: what its path stands for is what the action's result leads to
      module _ (k : ℕ) (small : k < 3) (fs : List PureFrame) (how : Option PureEnd) (stores : Each (λ f. OfEachName (IsOver vars') f.store) fs) (end_over : Each (IsOver vars') (end_terms how)) (known : ¬ IsUnknown how) (origin : Follows p m terms path (branched path x (place_at path.stack c) takes g b k fs how).path)
          (leads : (w : List PureValue) (s s1 : State) (r : ActionResult) → Stands stands (with_more path (taken takes)) w s1 → IsBranchFor stands w r b → IsTrue (all_true w (path.conds ++ (g.conds ++ b.conds)))
          → there s ≡ place_at path.stack c → miss_at p m s ≡ missed_key r.outcome
          → (outcome_choice r.outcome ≡ k) × StandsForStep p m stands (branched path x (place_at path.stack c) takes g b k fs how).path w s how (after_action r.outcome x (there s) (record s1 { heap = r.heap }))) where
        abbrev d : Candidate S
        d = branched path x (place_at path.stack c) takes g b k fs how

        acts : (inputs v ws : List PureValue) (s : State) (args : List PureValue) → Stands stands path v s → AreNext inputs s.counter s.draws (taken takes) ws → IsProper vars' (v ++ ws) → evaluate_all es s.current.store ≡ Ok args → HaveValues v g.result args
            → IsTrue (all_true (v ++ ws) (path.conds ++ (g.conds ++ b.conds))) → has_open b.conds ≡ false → IsChosen path d.path (chooses s args) × StandsForStep p m stands d.path (v ++ ws) s how (go_on (there s) s args)
        acts inputs v ws s args is in_turn proper ok val met closed =
            let r : ActionResult = action_result takes m action args s in
            let branch : IsBranchFor stands (v ++ ws) r b =
            subst (λ (q : ActionResult). IsBranchFor stands (v ++ ws) q b) (same_result takes inputs v ws s args is.proper.one_each in_turn)
            (lawful.exact (v ++ ws) args s.heap (serves inputs v ws s args is in_turn proper val) (second_true (v ++ ws) g.conds b.conds (second_true (v ++ ws) path.conds (g.conds ++ b.conds) met)) closed) in
            let (which, step) = leads (v ++ ws) s (counted takes s) r (grown takes inputs v ws s is in_turn proper) branch met (same_place stands terms p m path c over at v path.stack s is.frames) (missed_there v s args is ok) in
            (ap (λ n. path.choices ++ n ∷ []) (sym which), step)

        may_choose : MayChoose c.command (Some k)
        may_choose = subst (λ j. MayChoose j (Some k)) (sym command) (λ n is. subst (λ i. i < 3) (same_some is) small)

        branched_makes : Makes g b.conds d
        branched_makes = record {
          growth = (
            record {
              new_vars = taken takes;
              vars = refl;
              sorts = taken_are_new takes;
              drawn = same_and_none path.drawn path.drawn refl ∙ ap (λ ts. path.drawn ++ ts) (sym (no_draw takes (length path.vars)));
              new_conds = g.conds ++ b.conds;
              conds = refl;
              new_given = b.conds;
              given = refl;
              assumed = each_right (λ a. IsAmong a (path.conds ++ (g.conds ++ b.conds))) g.conds b.conds (later_among path.conds (g.conds ++ b.conds));
              chosen = Some k;
              choices = refl;
              steps = refl;
              over = record {
                conds = each_append OverMore path.conds (g.conds ++ b.conds) more_over.conds (each_append OverMore g.conds b.conds good_more lawful.names.0);
                given = each_append OverMore path.given b.conds more_over.given lawful.names.0;
                stores = stores;
                memory = lawful.names.1.0;
                drawn = more_over.drawn;
                ending = end_over;
              };
            },
            tt,
          );
          recorded = records_by p m path d.path c at (taken takes) (Some k) refl (sym (ap (new_sorts m) command)) refl may_choose (sym (ap makes_choice command));
          known = known;
          vars = refl;
          conds = refl;
          own_more = own_branch;
          assumes = assumes_rightly p Own OfMemory path c at d b.conds refl (subst (λ j. Each (MayAssume Own (running_store path.stack) j) b.conds) (sym command) own_branch) tt (inl (subst (Each OfMemory) (sym (append-nil b.conds)) of_memory));
          origin = λ no_form. origin;
          exact = acts;
          along = λ inputs v ws s is in_turn given which goes.
              along_chosen stands terms p m path c over at HaveValues AreEachOver (evaluate_all es) go_on chooses Own OfMemory cases evaluation does choice (taken takes) g is_good b.conds v ws s d.path k refl is which
              (λ args ok val chose. second_true (v ++ ws) path.given b.conds given);
        }

      -- ---- done

      module _ (t : PureTerm) (is_done : b.result ≡ done t) (bs : PureStore) (bound : IsBound (running_store path.stack) x t bs) where
        result_is_over : IsOver vars' t
        result_is_over = (subst (λ r. Each (IsOver vars') (result_terms r)) is_done lawful.names.1.1).0

        done_follows : Follows p m terms path (branched path x (place_at path.stack c) takes g b 0 (advanced bs path.stack) None).path
        done_follows = follows_going p m terms path (branched path x (place_at path.stack c) takes g b 0 (advanced bs path.stack) None).path c at (act x action es) command refl (record {
          args = g.result;
          from = from;
          result = t;
          made = (subst (λ r. Each Answered (result_terms r)) is_done lawful.made.1).0;
          has_now = (bs, (bound, refl));
          memory = lawful.made.0;
        })

        done_leads : (w : List PureValue) (s s1 : State) (r : ActionResult) (o : PureOutcome) → Stands stands (with_more path (taken takes)) w s1 → stands b.state w r.heap → IsOutcome w (done t) o → IsTrue (all_true w (path.conds ++ (g.conds ++ b.conds)))
            → (outcome_choice o ≡ 0) × StandsForStep p m stands (branched path x (place_at path.stack c) takes g b 0 (advanced bs path.stack) None).path w s None (after_action o x (there s) (record s1 { heap = r.heap }))
        done_leads w s s1 r (outcome.done u) is heap val met = (
          refl,
          record {
            proper = is.proper;
            meets = met;
            frames = advanced_frames w path.stack s1.current s1.callers bs (bind x u s1.current.store) is.frames
                (agree_bound w (running_store path.stack) bs s1.current.store x t u bound val (running_stands w path.stack s1.current s1.callers is.frames));
            memory = heap;
            symbols_below = is.symbols_below;
            draws = is.draws;
          },
        )
        done_leads w s s1 r (outcome.failed u) is heap val met = absurd val
        done_leads w s s1 r (outcome.miss q) is heap val met = absurd val

        done_makes : Makes g b.conds (branched path x (place_at path.stack c) takes g b 0 (advanced bs path.stack) None)
        done_makes =
            branched_makes 0 (omega arith) (advanced bs path.stack) None
            (advanced_each (IsOver vars') path.stack bs more_over.stores (each_bound (IsOver vars') (running_store path.stack) bs x t bound result_is_over (running_each (IsOver vars') path.stack more_over.stores)))
            tt (λ unknown. unknown) done_follows
            (λ w s s1 r is branch met place misses. done_leads w s s1 r r.outcome is branch.state (subst (λ k. IsOutcome w k r.outcome) is_done branch.result) met)

      -- ---- failed

      module _ (t : PureTerm) (is_failed : b.result ≡ failed t) where
        failed_follows : Follows p m terms path (branched path x (place_at path.stack c) takes g b 1 path.stack (Some (path_end.failed t (place_at path.stack c)))).path
        failed_follows =
            follows_failing p m terms path (branched path x (place_at path.stack c) takes g b 1 path.stack (Some (path_end.failed t (place_at path.stack c)))).path c at (act x action es) command t (place_at path.stack c) refl
            (inr (g.result, (from, (subst (λ r. Each Answered (result_terms r)) is_failed lawful.made.1).0)))

        failed_leads : (w : List PureValue) (s s1 : State) (r : ActionResult) (o : PureOutcome) → Stands stands (with_more path (taken takes)) w s1 → stands b.state w r.heap → IsOutcome w (failed t) o → IsTrue (all_true w (path.conds ++ (g.conds ++ b.conds)))
            → there s ≡ place_at path.stack c → miss_at p m s ≡ missed_key o
            → (outcome_choice o ≡ 1) × StandsForStep p m stands (branched path x (place_at path.stack c) takes g b 1 path.stack (Some (path_end.failed t (place_at path.stack c)))).path w s (Some (path_end.failed t (place_at path.stack c))) (after_action o x (there s) (record s1 { heap = r.heap }))
        failed_leads w s s1 r (outcome.failed u) is heap val met place misses = (
          refl,
          record {
            proper = is.proper;
            meets = met;
            ending = (u, (val, misses, ap (machine.failed u) place));
            memory = heap;
            symbols_below = is.symbols_below;
            draws = is.draws;
          },
        )
        failed_leads w s s1 r (outcome.done u) is heap val met place misses = absurd val
        failed_leads w s s1 r (outcome.miss q) is heap val met place misses = absurd val

        failed_makes : Makes g b.conds (branched path x (place_at path.stack c) takes g b 1 path.stack (Some (path_end.failed t (place_at path.stack c))))
        failed_makes =
            branched_makes 1 (omega arith) path.stack (Some (path_end.failed t (place_at path.stack c))) more_over.stores (subst (λ r. Each (IsOver vars') (result_terms r)) is_failed lawful.names.1.1) (λ unknown. unknown) failed_follows
            (λ w s s1 r is branch met place misses. failed_leads w s s1 r r.outcome is branch.state (subst (λ k. IsOutcome w k r.outcome) is_failed branch.result) met place misses)

      -- ---- missed

      module _ (key : PureKey) (is_missed : b.result ≡ missed key) where
        missed_leads : (w : List PureValue) (s s1 : State) (r : ActionResult) (o : PureOutcome) → Stands stands (with_more path (taken takes)) w s1 → stands b.state w r.heap → IsOutcome w (missed key) o → IsTrue (all_true w (path.conds ++ (g.conds ++ b.conds)))
            → there s ≡ place_at path.stack c → miss_at p m s ≡ missed_key o
            → (outcome_choice o ≡ 2) × StandsForStep p m stands (branched path x (place_at path.stack c) takes g b 2 path.stack (Some (path_end.missed key (place_at path.stack c)))).path w s (Some (path_end.missed key (place_at path.stack c))) (after_action o x (there s) (record s1 { heap = r.heap }))
        missed_leads w s s1 r (outcome.miss q) is heap val met place misses = (
          refl,
          record {
            proper = is.proper;
            meets = met;
            ending = (q, (val, misses, ap (machine.failed (text (codes "missing"))) place));
            memory = heap;
            symbols_below = is.symbols_below;
            draws = is.draws;
          },
        )
        missed_leads w s s1 r (outcome.done u) is heap val met place misses = absurd val
        missed_leads w s s1 r (outcome.failed u) is heap val met place misses = absurd val

        missed_makes : Makes g b.conds (branched path x (place_at path.stack c) takes g b 2 path.stack (Some (path_end.missed key (place_at path.stack c))))
        missed_makes =
            branched_makes 2 (omega arith) path.stack (Some (path_end.missed key (place_at path.stack c))) more_over.stores (subst (λ r. Each (IsOver vars') (result_terms r)) is_missed lawful.names.1.1) (λ unknown. unknown)
            (follows_ended p m terms path (branched path x (place_at path.stack c) takes g b 2 path.stack (Some (path_end.missed key (place_at path.stack c)))).path (path_end.missed key (place_at path.stack c)) refl refl refl)
            (λ w s s1 r is branch met place misses. missed_leads w s s1 r r.outcome is branch.state (subst (λ k. IsOutcome w k r.outcome) is_missed branch.result) met place misses)

      -- ---- whatever the branch's result is

      acted_makes : (r : PureResult) → b.result ≡ r → (d : Candidate S) → ActsTo path x (place_at path.stack c) takes g b r d → Makes g b.conds d
      acted_makes (done t) is d (bs, (bound, made)) = subst (Makes g b.conds) (sym made) (done_makes t is bs bound)
      acted_makes (failed t) is d made = subst (Makes g b.conds) (sym made) (failed_makes t is)
      acted_makes (missed key) is d made = subst (Makes g b.conds) (sym made) (missed_makes key is)

    -- ---- all branches

    abbrev Next : Candidate S → Type 0
    Next d = (more : List PureAtom) × Makes g more d

    each_acts : (bs : List (PureBranch S)) → Each IsLawful bs → (ds : List (Candidate S)) → ActsAsEach path x (place_at path.stack c) takes g bs ds → Each Next ds
    each_acts [] lawful ds none = subst (Each Next) (sym none) tt
    each_acts (b ∷ bs) lawful ds (d, (rest, (is, acts_to, later))) = subst (Each Next) (sym is) ((b.conds, acted_makes b lawful.0 b.result refl d acts_to), each_acts bs lawful.1 rest later)

    one_acts : (P : Candidate S → Type 0) (Taken : PureBranch S → Type 0) → ((b : PureBranch S) (d : Candidate S) → Makes g b.conds d → Taken b → P d)
        → (bs : List (PureBranch S)) → Each IsLawful bs → (ds : List (Candidate S)) → ActsAsEach path x (place_at path.stack c) takes g bs ds → OneOf Taken bs → OneOf P ds
    one_acts P Taken go [] lawful ds none one = absurd one
    one_acts P Taken go (b ∷ bs) lawful ds (d, (rest, (is, acts_to, later))) one =
        subst (OneOf P) (sym is)
        (⊎_elim (λ here. inl (go b d (acted_makes b lawful.0 b.result refl d acts_to) here)) (λ other. inr (one_acts P Taken go bs lawful.1 rest later other)) one)

  action_candidates : (cs : List (Candidate S)) → AreOfCases path (place_at path.stack c) (Acts stands terms m asked path x action (place_at path.stack c)) cases cs → AreCandidates p m stands terms Own OfMemory path cs
  action_candidates =
      are_candidates stands terms p m path c over at HaveValues AreEachOver (evaluate_all es) go_on chooses Own OfMemory cases evaluation does choice (taken takes) (Acts stands terms m asked path x action (place_at path.stack c))
      (λ g ds is_good (bs, (law, acts)). each_acts g is_good bs (each_lawful g is_good bs law) ds acts)
      (λ g ds is_good (bs, (law, acts)) inputs v s args is ok val met.
      let (ws, (in_turn, proper)) = some_next inputs v path.vars s.counter s.draws is.proper is.symbols_below takes in
      one_acts g is_good (Covered stands terms p m path c over at HaveValues AreEachOver (evaluate_all es) go_on chooses Own OfMemory cases evaluation does choice inputs v s) (λ b. IsTrue (all_true (v ++ ws) b.conds) × (IsTrue (has_open b.conds) ⊎ IsBranchFor stands (v ++ ws) (m.act action (fresh_symbol (v ++ ws) fresh) args s.heap) b))
      (λ b d makes branch. covered_by stands terms p m path c over at HaveValues AreEachOver (evaluate_all es) go_on chooses Own OfMemory cases evaluation does choice (taken takes) g b.conds d is_good makes inputs v ws s is in_turn proper met branch.0)
      bs (each_lawful g is_good bs law) ds acts (law.cover vars' (v ++ ws) args s.heap (serves g is_good inputs v ws s args is in_turn proper val)))

pub actions_keep_the_laws : {S : Type 0} (memory : MemoryName) (stands : S → List PureValue → Heap → Type 0) (terms : S → StateTerms) → IsMeaning memory stands terms → (asked : List ℕ → List PureTerm → List PureTerm × List PureTerm) (m : Actions)
    → ActionsKeepTheLaws stands terms asked m
actions_keep_the_laws memory stands terms meaning asked m p path c x action es cases cs over no_end at command evaluated = action_candidates memory stands terms meaning asked m p path c x action es cases over at command evaluated cs
