-- The row of `unfold` covers what the checked states lead to.
use Rattle.std.proofs.Common.{◌≡◌, ◌⊎◌, inl, inr, ℕ, zero, suc, ◌+◌, ◌<◌, ◌≤◌, List, [], ◌∷◌, ◌++◌, length, map, get_or, drop, Bool, true, false, ◌&&◌, ◌||◌, cond, Option, Some, None, Ok, IsTrue, slice_get, refl, sym, ap, subst, ◌∙◌, true≢false}
use Rattle.std.specs.Str.{bytes_eq}
use Rattle.std.proofs.lemmas.Slice.Eq.{bytes_eq-Decides}
use Rattle.gil_values.specs.declared.places.Place.{Place}
use Rattle.gil_values.specs.Pure.{PureValue}
use Rattle.std.proofs.lemmas.Bool.{and_parts}
use Rattle.gil_values.specs.Equality.{same_value, same_elements}
use Rattle.gil_values.specs.Symbols.{IsBelow, AreBelow}
use Rattle.gil_machine.specs.Step.{to_next}
use Rattle.gil_syntax.specs.Evaluation.{Store, Outcomes, value_of, evaluate_all}
use Rattle.gil_syntax.specs.Programs.{find_pred}
use Rattle.gil_syntax.specs.Pure.{PureParts, PurePredUse, PurePredDef, PureNumberedCommand, unfold_use}
use Rattle.gil_syntax.specs.Valid.{ends_body, IsValid, param_names, is_among}
use Rattle.gil_syntax.specs.View.{pred_def_view}
use Rattle.gil_syntax.specs.WellMade.{is_well_made}
use Rattle.gil_syntax.specs.declared.parts.PredDef.{PredDef}
use Rattle.mem_model.specs.CoreNames.{core_of}
use Rattle.mem_model.specs.declared.cores.Core.{Core}
use Rattle.mem_model.specs.declared.keys.MemoryName.{MemoryName}
use Rattle.mem_model.specs.Actions.{Actions}
use Rattle.mem_model.specs.Heaps.{Heap}
use Rattle.assert_logic.proofs.LoopLemmas.{next_of, none_left}
use Rattle.assert_logic.specs.LogicStates.{LogicState}
use Rattle.assert_logic.specs.Matching.{FoundFact, all_agree, first_fact, fits_fact}
use Rattle.assert_logic.proofs.SplitLaws.{found_fits}
use Rattle.assert_logic.specs.Modes.{case, HasModes}
use Rattle.assert_logic.specs.Names.{named_by_items}
use Rattle.checked_runs.proofs.Readable.{case_reads, names_length}
use Rattle.sym_paths.proofs.Beginning.{as_many}
use Rattle.checked_runs.specs.Checked.{Checked, Outcome, Entry, IsAbove, IsFactBelow, is_call, names_at, logic_state, with_logic, stepped, Unfolds, UnfoldsFound, UnfoldsBy}
use Rattle.pure_terms.specs.Pure.{PureTerm}
use Rattle.sym_evaluation.specs.Meaning.{HaveValues}
use Rattle.sym_evaluation.specs.Pure.{PureStore}
use Rattle.sym_model.proofs.ListLaws.{same_some, not_none, each_to}
use Rattle.sym_model.specs.Laws.{IsMeaning}
use Rattle.sym_model.specs.Lists.{Each, OneOf}
use Rattle.sym_model.specs.Meaning.{has_open}
use Rattle.sym_model.specs.Terms.{StateTerms}
use Rattle.sym_states.proofs.AddedNames.{adding_reads_names}
use Rattle.sym_states.proofs.Inventing.{adding_invents_nothing}
use Rattle.sym_paths.specs.Meaning.{command_of_path}
use Rattle.sym_states.proofs.Conditions.{added_is, open_right}
use Rattle.sym_states.specs.Meaning as states
use Rattle.sym_states.specs.Meaning.{Serves}
use Rattle.sym_states.specs.Producing.{added_conds}
use Rattle.sym_states.specs.Pure.{PureState}
use Rattle.sym_unfolding.specs.Further.{IsFurther}
use Rattle.sym_unfolding.specs.Unfolding.{PureUnfoldedCase, IsCaseAdded, IsNamedValue, StandsForCase, CoversUnfoldings}
use Rattle.checked_paths.proofs.Lists.{one_across, each_across}
use Rattle.checked_paths.specs.declared.nexts.FaultKind.{FaultKind}
use Rattle.checked_paths.specs.Covering.{CoversOutcome, CoversLeads, FollowsOn, AreNexts}
use Rattle.checked_paths.specs.Meaning.{StandsForChecked, MayGoOn}
use Rattle.checked_paths.specs.Pure.{PureEntry, PureChecking, PureNext}
use Rattle.checked_rows.specs.Names.{AreNames}
use Rattle.checked_rows.specs.Reading.{AreRead, AreUnread}
use Rattle.checked_rows.specs.Rows.{AreRowOf}
use Rattle.checked_rows.specs.States.{IsStateOf}
use Rattle.checked_rows.specs.Unfolding.{chosen_case, IsUnfoldedNext, EachUnfolded, HasNoFact, AreUnfoldings, UnfoldsOuts}
use Rattle.checked_rows.proofs.BelowLaws.{keeping, kept_value, some_kept, each_below, below_more, all_each, agreed_below, found_in}
use Rattle.checked_rows.proofs.FoldLaws.{read_vars, read_serves}
use Rattle.checked_rows.proofs.MatchLaws.{one_of_each, serves_there}
use Rattle.checked_rows.proofs.ExactLaws.{doubt_is_cause}
use Rattle.checked_rows.proofs.RowLaws.{leads_by, cause_covers, uses_nothing}
use Rattle.checked_rows.proofs.StateLaws.{state_vars}
use Rattle.checked_rows.proofs.StepLaws.{state_covers, state_follows}

-- ---- the predicate of a name

pub pred_next : (name : List ℕ) (ds : List PredDef) (i : ℕ) (d : PredDef) → i < length ds → d ≡ get_or ds i d → find_pred (map pred_def_view (drop i ds)) name ≡ cond (bytes_eq (pred_def_view d).name name) (Some (pred_def_view d)) (find_pred (map pred_def_view (drop (i + 1) ds)) name)
pred_next name ds i d below is = ap (λ ys. find_pred (map pred_def_view ys) name) (next_of ds i d below is)

pub pred_none : (name : List ℕ) (ds : List PredDef) (i : ℕ) → length ds ≤ i → find_pred (map pred_def_view (drop i ds)) name ≡ None
pred_none name ds i past = ap (λ ys. find_pred (map pred_def_view ys) name) (none_left ds i past)

pub pred_named : (ds : List PurePredDef) (name : List ℕ) (d : PurePredDef) → find_pred ds name ≡ Some d → d.name ≡ name
pred_named [] name d is = not_none is
pred_named (e ∷ ds) name d is = by (bytes_eq e.name name) refl is (pred_named ds name d)
  where
    by : (b : Bool) → bytes_eq e.name name ≡ b → cond b (Some e) (find_pred ds name) ≡ Some d → (find_pred ds name ≡ Some d → d.name ≡ name) → d.name ≡ name
    by true same at later = ap (λ (k : PurePredDef). k.name) (sym (same_some at)) ∙ (bytes_eq-Decides e.name name).0 same
    by false other at later = later at

-- ---- lists

elements_length : (xs ys : List PureValue) → same_elements xs ys ≡ true → length xs ≡ length ys
elements_length [] [] same = refl
elements_length [] (y ∷ ys) same = absurd (true≢false (sym same))
elements_length (x ∷ xs) [] same = absurd (true≢false (sym same))
elements_length (x ∷ xs) (y ∷ ys) same = ap suc (elements_length xs ys (and_parts (same_value x y) (same_elements xs ys) same).1)

agree_length : (us vs : List PureValue) → all_agree (map Some us) vs ≡ true → length us ≡ length vs
agree_length [] [] same = refl
agree_length [] (v ∷ vs) same = absurd (true≢false (sym same))
agree_length (u ∷ us) [] same = absurd (true≢false (sym same))
agree_length (u ∷ us) (v ∷ vs) same = ap suc (agree_length us vs (and_parts (same_value u v) (all_agree (map Some us) vs) same).1)

or_parts : (a b : Bool) → (a || b) ≡ true → (a ≡ true) ⊎ (b ≡ true)
or_parts true b is = inl refl
or_parts false b is = inr is

or_left : (a b : Bool) → a ≡ true → (a || b) ≡ true
or_left true b is = refl
or_left false b is = absurd (true≢false (sym is))

or_right : (a b : Bool) → b ≡ true → (a || b) ≡ true
or_right true b is = refl
or_right false b is = is

among_at : (xs : List (List ℕ)) (i : ℕ) (y : List ℕ) → slice_get xs i ≡ Some y → is_among xs y ≡ true
among_at [] i y at = not_none at
among_at (x ∷ xs) zero y at = or_left (bytes_eq y x) (is_among xs y) ((bytes_eq-Decides y x).1 (sym (same_some at)))
among_at (x ∷ xs) (suc i) y at = or_right (bytes_eq y x) (is_among xs y) (among_at xs i y at)

-- ---- what is unfolded

module _ (p : PureParts) (memory : MemoryName) (m : Actions) {S : Type 0} (stands : S → List PureValue → Heap → Type 0) (terms : S → StateTerms) (meaning : IsMeaning memory stands terms) (kept : S → Type 0) (e : PureEntry) (x : PureChecking S)
    (u : PurePredUse) (user : core_of u.pred ≡ None) (d : PurePredDef) (finds : find_pred p.preds u.pred ≡ Some d) (made : is_well_made p ≡ true) (modes : HasModes p memory)
    (s : PureState S) (bs : PureStore) (is : IsStateOf stands terms x.path x.facts s) (names : AreNames x.path.stack e.variables bs) where
  pub never_unfolds : (q : PureState S) → ((v : List PureValue) (entry : Entry) (c : Checked) → MayGoOn p terms e x → StandsForChecked stands e x v entry c → Serves stands terms q bs v (names_at entry c) (logic_state c))
      → ((v : List PureValue) (t : Store) (l : LogicState) → ¬ Serves stands terms q bs v t l) → AreRowOf p memory m stands terms e x (unfold_use u) [] []
  never_unfolds q serves never n may at this = record {
    cover = λ v entry c out stand above leads. absurd (never v (names_at entry c) (logic_state c) (serves v entry c may stand));
    uses = uses_nothing p memory m stands e x n [] [] at (ap is_call this);
    follow = tt;
  }

  pub serves_before : (v : List PureValue) (entry : Entry) (c : Checked) → MayGoOn p terms e x → StandsForChecked stands e x v entry c → Serves stands terms s bs v (names_at entry c) (logic_state c)
  serves_before v entry c may stand = serves_there stands terms kept e x s bs may.over is names v entry c stand

  module _ (valid : IsValid p) (r : PureState S) (ins : List PureTerm) (read_ins : AreRead stands terms s bs u.ins r ins) where
    pub serves_after : (v : List PureValue) (entry : Entry) (c : Checked) → MayGoOn p terms e x → StandsForChecked stands e x v entry c → Serves stands terms r bs v (names_at entry c) (logic_state c)
    serves_after v entry c may stand =
        let serves = serves_before v entry c may stand in
        let (ws, (ok, have, stand_r)) = read_ins.have v (names_at entry c) (logic_state c) serves in
        read_serves stands terms s r bs u.ins ins read_ins v (names_at entry c) (logic_state c) serves stand_r

    pub vars_of : (q : PureState S) (outs : List PureTerm) → AreRead stands terms r bs u.outs q outs → (k : PureState S) (f : IsFurther terms kept q k) → k.vars ≡ x.path.vars ++ f.sorts
    vars_of q outs read_outs k f = f.vars ∙ ap (λ vs. vs ++ f.sorts) (read_vars stands terms r q bs u.outs outs read_outs ∙ (read_vars stands terms s r bs u.ins ins read_ins ∙ state_vars stands terms x.path x.facts s is))

    module _ (q : PureState S) (outs : List PureTerm) (read_outs : AreRead stands terms r bs u.outs q outs) (ins_count : length ins ≡ length d.ins) (outs_count : length outs ≡ length d.outs) (rs : List (PureUnfoldedCase S))
        (all : CoversUnfoldings memory stands terms kept d ins outs q rs) (further : Each (λ k. IsFurther terms kept q k.state) rs) (nexts : List (PureNext S)) (here : Place) (each : EachUnfolded stands terms here x rs nexts)
        (n : PureNumberedCommand) (may : MayGoOn p terms e x) (at : command_of_path p x.path ≡ Some n) (this : n.command ≡ unfold_use u) where
      module _ (v : List PureValue) (entry : Entry) (c : Checked) (out : Outcome) (stand : StandsForChecked stands e x v entry c) (above : IsAbove c) (ws us : List PureValue) (have_ins : HaveValues v ins ws) (have_outs : HaveValues v outs us)
          (found : FoundFact) (found_is : first_fact (fits_fact u.pred ws (map Some us)) c.facts ≡ Some found) (un : Unfolds p memory m entry d found.fact (record (logic_state c) { facts = found.others }) c out) where
        abbrev left : LogicState
        left = record (logic_state c) { facts = found.others }

        abbrev keep : List ℕ → Bool
        keep y = named_by_items un.items y || (is_among (param_names d.ins) y || is_among (param_names d.outs) y)

        abbrev t : Store
        t = keeping keep un.store

        fits : fits_fact u.pred ws (map Some us) found.fact ≡ true
        fits = found_fits (fits_fact u.pred ws (map Some us)) c.facts found found_is

        front : (bytes_eq found.fact.pred u.pred && same_elements found.fact.ins ws) ≡ true
        front = (and_parts (bytes_eq found.fact.pred u.pred && same_elements found.fact.ins ws) (all_agree (map Some us) found.fact.outs) fits).0

        ins_length : length (param_names d.ins) ≡ length found.fact.ins
        ins_length = names_length d.ins ∙ (sym ins_count ∙ (sym (as_many v ins ws have_ins) ∙ sym (elements_length found.fact.ins ws (and_parts (bytes_eq found.fact.pred u.pred) (same_elements found.fact.ins ws) front).1)))

        outs_length : length (param_names d.outs) ≡ length found.fact.outs
        outs_length = names_length d.outs ∙ (sym outs_count ∙ (sym (as_many v outs us have_outs) ∙ agree_length us found.fact.outs (and_parts (bytes_eq found.fact.pred u.pred && same_elements found.fact.ins ws) (all_agree (map Some us) found.fact.outs) fits).1))

        is_next : IsAbove (with_logic un.adds.state un.counter c)
        is_next = subst IsAbove un.adds.is_next un.adds.above

        fact_below : IsFactBelow c.machine.counter found.fact
        fact_below = found_in (IsFactBelow c.machine.counter) (fits_fact u.pred ws (map Some us)) c.facts found found_is (all_each (IsFactBelow c.machine.counter) c.facts above.facts_below)

        known_below : (y : List ℕ) (w : PureValue) → is_among (param_names d.ins) y ≡ true → value_of un.store y ≡ Some w → IsBelow un.counter w
        known_below y w = agreed_below un.counter un.store (param_names d.ins) found.fact.ins y w ins_length un.ins_agree (below_more c.machine.counter un.counter found.fact.ins un.adds.not_lower fact_below.0)

        outs_below : (y : List ℕ) (w : PureValue) → is_among (param_names d.outs) y ≡ true → value_of un.store y ≡ Some w → IsBelow un.counter w
        outs_below y w = agreed_below un.counter un.store (param_names d.outs) found.fact.outs y w outs_length un.outs_agree (below_more c.machine.counter un.counter found.fact.outs un.adds.not_lower fact_below.1)

        named_below : (y : List ℕ) (w : PureValue) → named_by_items un.items y ≡ true → value_of un.store y ≡ Some w → IsBelow un.counter w
        named_below y w named value =
            let (well, reads) = case_reads p memory made modes u.pred d un.number un.items finds un.case in
            adding_invents_nothing memory (case d) un.items un.store left un.adds.state un.counter well reads un.adds.adding.added_is
            (record { heap = is_next.heap_below; facts = all_each (IsFactBelow un.counter) un.adds.state.facts is_next.facts_below }) known_below y w named value

        kept_below : (y : List ℕ) (w : PureValue) → (keep y ≡ true) → value_of un.store y ≡ Some w → IsBelow un.counter w
        kept_below y w kept value = by (or_parts (named_by_items un.items y) (is_among (param_names d.ins) y || is_among (param_names d.outs) y) kept)
          where
            params : (is_among (param_names d.ins) y ≡ true) ⊎ (is_among (param_names d.outs) y ≡ true) → IsBelow un.counter w
            params (inl ins_there) = known_below y w ins_there value
            params (inr outs_there) = outs_below y w outs_there value

            by : (named_by_items un.items y ≡ true) ⊎ ((is_among (param_names d.ins) y || is_among (param_names d.outs) y) ≡ true) → IsBelow un.counter w
            by (inl named) = named_below y w named value
            by (inr others) = params (or_parts (is_among (param_names d.ins) y) (is_among (param_names d.outs) y) others)

        values_below : (values : List PureValue) → Each (IsNamedValue d t) values → AreBelow un.counter values
        values_below values come =
            each_below un.counter values
            (each_to (IsNamedValue d t) (IsBelow un.counter) values (λ w (y, (there, value)). let (kept, value_is) = some_kept keep un.store y w value in kept_below y w kept value_is) come)

        case_added : IsCaseAdded memory d found.fact left un.number t un.adds.state
        case_added = record {
          items = un.items;
          case = un.case;
          ins_agree = λ i y w name value. kept_value keep un.store y (or_right (named_by_items un.items y) (is_among (param_names d.ins) y || is_among (param_names d.outs) y) (or_left (is_among (param_names d.ins) y) (is_among (param_names d.outs) y) (among_at (param_names d.ins) i y name))) ∙ un.ins_agree i y w name value;
          outs_agree = λ i y w name value. kept_value keep un.store y (or_right (named_by_items un.items y) (is_among (param_names d.ins) y || is_among (param_names d.outs) y) (or_right (is_among (param_names d.ins) y) (is_among (param_names d.outs) y) (among_at (param_names d.outs) i y name))) ∙ un.outs_agree i y w name value;
          sorts = λ y w value. un.sorts y w (some_kept keep un.store y w value).1;
          adding = record {
            added_is = adding_reads_names.same t un.store un.items left (λ y named. kept_value keep un.store y (or_left (named_by_items un.items y) (is_among (param_names d.ins) y || is_among (param_names d.outs) y) named)) ∙ un.adds.adding.added_is;
            well_formed = un.adds.adding.well_formed;
          };
        }

        leads_on : out ≡ stepped p memory m entry (with_logic un.adds.state un.counter c) (to_next (with_logic un.adds.state un.counter c).machine)
        leads_on = un.leads ∙ ap (λ (k : Checked). stepped p memory m entry k (to_next k.machine)) un.adds.is_next

        -- one of the states
        one_covers : (k : PureUnfoldedCase S) (next : PureNext S) → IsUnfoldedNext stands terms here x k.number k.state next → StandsForCase memory stands terms kept d ins outs q v un.number t un.adds.state k × IsFurther terms kept q k.state → CoversOutcome stands e entry v out next
        one_covers k next (inr (inl (done, unsat))) (sc, f) = absurd (unsat (v ++ sc.values) (record { proper = sc.proper; true_there = sc.meets }))
        one_covers k next (inr (inr (reason, (outside, (cause, (is_cause, shows)))))) both = subst (CoversOutcome stands e entry v out) (sym is_cause) tt
        one_covers k next (inl (no_form, (met, goes))) (sc, f) = by sc.is
          where
            by : IsTrue (has_open (added_conds q k.state)) ⊎ states.Stands stands k.state (v ++ sc.values) un.adds.state → CoversOutcome stands e entry v out next
            by (inl open_there) = absurd (true≢false (sym (subst (λ atoms. IsTrue (has_open atoms)) (sym f.conds) (open_right q.conds f.more (subst (λ atoms. IsTrue (has_open atoms)) (added_is q k.state f.more f.conds) open_there))) ∙ no_form))
            by (inr stand_k) =
                state_covers p memory m stands terms meaning e x may (chosen_case k.number k.state) k.state.facts next goes f.sorts (vars_of q outs read_outs k.state f) v (v ++ sc.values) sc.values entry c un.adds.state un.adds.state.facts un.counter out refl stand
                (record { proper = stand_k.proper; meets = stand_k.meets; memory = stand_k.memory; facts = stand_k.facts }) stand_k.facts un.adds.not_lower (values_below sc.values sc.come) leads_on

        covers_found : OneOf (StandsForCase memory stands terms kept d ins outs q v un.number t un.adds.state) rs → OneOf (CoversOutcome stands e entry v out) nexts
        covers_found one =
            one_across (λ k next. IsUnfoldedNext stands terms here x k.number k.state next) (λ k. StandsForCase memory stands terms kept d ins outs q v un.number t un.adds.state k × IsFurther terms kept q k.state) (CoversOutcome stands e entry v out) rs nexts each one_covers
            (one_of_each (λ k. IsFurther terms kept q k.state) (StandsForCase memory stands terms kept d ins outs q v un.number t un.adds.state) (λ k. StandsForCase memory stands terms kept d ins outs q v un.number t un.adds.state k × IsFurther terms kept q k.state) rs (λ k f sc. (sc, f)) further one)

      covers : CoversLeads p memory m stands e x nexts
      covers v entry c out stand above leads =
          let names_there = names_at entry c in
          let l = logic_state c in
          let (ws, (ok_ins, have_ins, stand_r)) = read_ins.have v names_there l (serves_before v entry c may stand) in
          let (us, (ok_outs, have_outs, stand_q)) = read_outs.have v names_there l (serves_after v entry c may stand) in
          let led : UnfoldsBy p memory m entry (core_of u.pred) u.pred (evaluate_all u.ins names_there) (evaluate_all u.outs names_there) c out = leads_by p memory m stands x.path v entry c out n (unfold_use u) stand.path at this leads in
          let (found, (found_is, law)) = all v l ws us (record { stands_for = stand_q; ins_are = have_ins; outs_are = have_outs }) in
          let is_there : first_fact (fits_fact u.pred ws (map Some us)) c.facts ≡ Some found = subst (λ name. first_fact (fits_fact name ws (map Some us)) c.facts ≡ Some found) (pred_named p.preds u.pred d finds) found_is in
          let un = unfolds_found entry c out (core_of u.pred) (evaluate_all u.ins names_there) (evaluate_all u.outs names_there) ws us found user ok_ins ok_outs is_there led in
          covers_found v entry c out stand above ws us have_ins have_outs found is_there un (law un.number (t v entry c out stand above ws us have_ins have_outs found is_there un) un.adds.state (case_added v entry c out stand above ws us have_ins have_outs found is_there un))
        where
          unfolds_found : (entry : Entry) (c : Checked) (out : Outcome) (o : Option Core) (a b : Outcomes) (ws us : List PureValue) (found : FoundFact) → o ≡ None → a ≡ Ok ws → b ≡ Ok us → first_fact (fits_fact u.pred ws (map Some us)) c.facts ≡ Some found → UnfoldsBy p memory m entry o u.pred a b c out
              → Unfolds p memory m entry d found.fact (record (logic_state c) { facts = found.others }) c out
          unfolds_found entry c out o a b ws us found none first second found_is led =
              let one = subst (λ k. UnfoldsBy p memory m entry k u.pred a b c out) none led in
              let two = subst (λ k. UnfoldsBy p memory m entry None u.pred k b c out) first one in
              let three : UnfoldsFound p memory m entry (first_fact (fits_fact u.pred ws (map Some us)) c.facts) (find_pred p.preds u.pred) c out = subst (λ k. UnfoldsBy p memory m entry None u.pred (Ok ws) k c out) second two in
              subst (λ k. UnfoldsFound p memory m entry (Some found) k c out) finds (subst (λ k. UnfoldsFound p memory m entry k (find_pred p.preds u.pred) c out) found_is three)

      follows_one : (k : PureUnfoldedCase S) (next : PureNext S) → IsUnfoldedNext stands terms here x k.number k.state next → IsFurther terms kept q k.state → FollowsOn p terms e x next
      follows_one k next (inr (inl (done, unsat))) f = subst (FollowsOn p terms e x) (sym done) tt
      follows_one k next (inr (inr (reason, (outside, (cause, (is_cause, shows)))))) f = subst (FollowsOn p terms e x) (sym is_cause) tt
      follows_one k next (inl (no_form, (met, goes))) f =
          state_follows p memory m stands terms meaning e x may (chosen_case k.number k.state) k.state.facts next goes f.sorts (vars_of q outs read_outs k.state f) n valid at (ap (λ h. ends_body h) this)
          (record { conds = f.over.conds; given = f.over.given; memory = f.over.memory; facts = f.over.facts }) f.over.facts

      all_nexts : AreNexts p memory m stands terms e x [] nexts
      all_nexts = record {
        cover = covers;
        uses = uses_nothing p memory m stands e x n [] nexts at (ap is_call this);
        follow = each_across (λ k next. IsUnfoldedNext stands terms here x k.number k.state next) (λ k. IsFurther terms kept q k.state) (FollowsOn p terms e x) rs nexts each follows_one further;
      }

    by_unfolding : (here : Place) (q : PureState S) (outs : List PureTerm) → AreRead stands terms r bs u.outs q outs → (nexts : List (PureNext S)) → AreUnfoldings memory stands terms kept here d x q ins outs nexts → AreRowOf p memory m stands terms e x (unfold_use u) [] nexts
    by_unfolding here q outs read nexts (inl doubts) = cause_covers p memory m stands terms e x (unfold_use u) [] nexts (doubt_is_cause FaultKind.FoldBody here x q (HasNoFact memory stands terms kept d q ins outs) nexts doubts)
    by_unfolding here q outs read nexts (inr (inl (others, (cause, (is_cause, shows))))) = cause_covers p memory m stands terms e x (unfold_use u) [] nexts (cause, is_cause)
    by_unfolding here q outs read nexts (inr (inr (counts, (rs, (all, further, exactly, each))))) = λ n may at this. all_nexts q outs read counts.0 counts.1 rs all further nexts here each n may at this

    pub unfold_covers : (here : Place) (nexts : List (PureNext S)) → UnfoldsOuts memory stands terms kept here d x bs u r ins nexts → AreRowOf p memory m stands terms e x (unfold_use u) [] nexts
    unfold_covers here nexts (inl doubts) = cause_covers p memory m stands terms e x (unfold_use u) [] nexts (doubt_is_cause FaultKind.FoldBody here x r (AreUnread stands terms r bs u.outs) nexts doubts)
    unfold_covers here nexts (inr (inl (none, never))) = subst (AreRowOf p memory m stands terms e x (unfold_use u) []) (sym none) (never_unfolds r serves_after never)
    unfold_covers here nexts (inr (inr (q, (outs, (read, unfoldings))))) = by_unfolding here q outs read nexts unfoldings
