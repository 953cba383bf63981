-- The invariant is added where a checked path stands in its loop: the answers cover each checked state to which it is added.
use Rattle.std.proofs.Common.{◌≡◌, ◌⊎◌, inl, inr, ℕ, List, [], ◌++◌, true, false, Some, IsTrue, refl, sym, ap, subst, ◌∙◌, true≢false, arith}
use Rattle.gil_values.specs.declared.places.Place.{Place}
use Rattle.gil_values.specs.Pure.{PureValue}
use Rattle.gil_values.specs.Symbols.{IsBelow, AreBelow}
use Rattle.gil_machine.specs.Step.{to_next}
use Rattle.gil_syntax.specs.declared.assertions.Param.{Param}
use Rattle.gil_syntax.specs.Evaluation.{Store, value_of}
use Rattle.gil_syntax.specs.Pure.{PureParts, PureItem, PureNumberedCommand}
use Rattle.gil_syntax.specs.Valid.{ends_body, IsValid}
use Rattle.mem_model.specs.declared.keys.MemoryName.{MemoryName}
use Rattle.mem_model.specs.Actions.{Actions}
use Rattle.mem_model.specs.Heaps.{Heap}
use Rattle.assert_logic.specs.Adding.{IsAdding}
use Rattle.assert_logic.specs.LogicStates.{LogicState}
use Rattle.assert_logic.specs.Names.{named_by_items}
use Rattle.assert_logic.specs.Sorts.{HasSorts, Extends}
use Rattle.checked_runs.specs.Checked.{Checked, Outcome, Entry, names_at, logic_state, with_logic, stepped}
use Rattle.sym_model.proofs.ListLaws.{each_to}
use Rattle.sym_model.specs.Laws.{IsMeaning}
use Rattle.sym_model.specs.Lists.{Each, OneOf}
use Rattle.sym_model.specs.Meaning.{has_open}
use Rattle.sym_model.specs.Terms.{StateTerms}
use Rattle.sym_paths.specs.Meaning.{command_of_path}
use Rattle.sym_states.proofs.Conditions.{added_is, open_right}
use Rattle.sym_states.specs.Meaning as states
use Rattle.sym_states.specs.Producing.{added_conds}
use Rattle.sym_states.specs.Pure.{PureState}
use Rattle.sym_unfolding.specs.Adding.{MayBeAdded, IsAddedAs}
use Rattle.sym_unfolding.specs.Further.{IsFurther}
use Rattle.checked_paths.proofs.Lists.{one_across, each_across}
use Rattle.checked_paths.specs.Covering.{CoversOutcome, FollowsOn}
use Rattle.checked_paths.specs.Meaning.{StandsForChecked, MayGoOn}
use Rattle.checked_paths.specs.Pure.{PureEntry, PureChecking, PureNext}
use Rattle.checked_rows.proofs.BelowLaws.{each_below}
use Rattle.checked_rows.proofs.MatchLaws.{one_of_each, names_over, over_there, serves_there}
use Rattle.checked_rows.proofs.StateLaws.{state_vars}
use Rattle.checked_rows.proofs.StepLaws.{state_covers, state_follows}
use Rattle.invariant_rows.specs.Entering.{AreAdded, IsAdditionAnswered}

module _ (p : PureParts) (memory : MemoryName) (m : Actions) {S : Type 0} (stands : S → List PureValue → Heap → Type 0) (terms : S → StateTerms) (meaning : IsMeaning memory stands terms) (kept : S → Type 0) (e : PureEntry) (scope : List Param) (items : List PureItem)
    (here : Place) (y : PureChecking S) (may : MayGoOn p terms e y) (nexts : List (PureNext S)) (are : AreAdded memory stands terms kept e scope items here y nexts) where
  further : Each (IsFurther terms kept are.state) are.added
  further = are.adds.follow (over_there stands terms kept e y are.state are.store may.over are.is_state are.names) (names_over stands terms kept e y are.state are.store may.over are.is_state are.names) tt

  vars_of : (r : PureState S) (f : IsFurther terms kept are.state r) → r.vars ≡ y.path.vars ++ f.sorts
  vars_of r f = f.vars ∙ ap (λ vs. vs ++ f.sorts) (state_vars stands terms y.path y.facts are.state are.is_state)

  module _ (w : List PureValue) (entry : Entry) (d : Checked) (out : Outcome) (stand : StandsForChecked stands e y w entry d) (t : Store) (l : LogicState) (known_stay : Extends (names_at entry d) t) (sorts : HasSorts scope t)
      (adding : IsAdding memory t items (logic_state d) l) (below : (z : List ℕ) (u : PureValue) → named_by_items items z ≡ true → value_of t z ≡ Some u → IsBelow d.machine.counter u)
      (leads : out ≡ stepped p memory m entry (with_logic l d.machine.counter d) (to_next (with_logic l d.machine.counter d).machine)) where
    abbrev Added : PureState S → Type 0
    Added r = IsAddedAs memory stands terms kept scope are.store [] are.state w items t l r

    may_be_added : MayBeAdded memory stands terms kept scope are.store [] are.state w (names_at entry d) t (logic_state d)
    may_be_added =
        let serves = serves_there stands terms kept e y are.state are.store may.over are.is_state are.names w entry d stand in
        record {
          over = serves.over;
          store_over = serves.store_over;
          conds_over = tt;
          stands_for = serves.state;
          store = serves.store;
          conds_true = refl;
          extends = known_stay;
          sorts = sorts;
        }

    values_below : (values : List PureValue) → Each (λ u. (z : List ℕ) × (IsTrue (named_by_items items z) × (value_of t z ≡ Some u))) values → AreBelow d.machine.counter values
    values_below values come =
        each_below d.machine.counter values
        (each_to (λ u. (z : List ℕ) × (IsTrue (named_by_items items z) × (value_of t z ≡ Some u))) (IsBelow d.machine.counter) values (λ u (z, (named, at)). below z u named at) come)

    one_covers : (r : PureState S) (k : PureNext S) → IsAdditionAnswered stands terms here y r k → Added r × IsFurther terms kept are.state r → CoversOutcome stands e entry w out k
    one_covers r k (inr (inl (done, unsat))) (is, f) = absurd (unsat (w ++ is.values) (record { proper = is.proper; true_there = is.meets }))
    one_covers r k (inr (inr (reason, (outside, (cause, (is_cause, shows)))))) (is, f) = subst (CoversOutcome stands e entry w out) (sym is_cause) tt
    one_covers r k (inl (no_form, (met, goes))) (is, f) = by is.is
      where
        by : IsTrue (has_open (added_conds are.state r)) ⊎ states.Stands stands r (w ++ is.values) l → CoversOutcome stands e entry w out k
        by (inl open_there) = absurd (true≢false (sym (subst (λ atoms. IsTrue (has_open atoms)) (sym f.conds) (open_right are.state.conds f.more (subst (λ atoms. IsTrue (has_open atoms)) (added_is are.state r f.more f.conds) open_there))) ∙ no_form))
        by (inr stand_r) =
            state_covers p memory m stands terms meaning e y may r r.facts k goes f.sorts (vars_of r f) w (w ++ is.values) is.values entry d l l.facts d.machine.counter out refl stand stand_r stand_r.facts (omega arith) (values_below is.values is.come) leads

    pub added_covers : OneOf (CoversOutcome stands e entry w out) nexts
    added_covers =
        one_across (IsAdditionAnswered stands terms here y) (λ r. Added r × IsFurther terms kept are.state r) (CoversOutcome stands e entry w out) are.added nexts are.answered one_covers
        (one_of_each (IsFurther terms kept are.state) Added (λ r. Added r × IsFurther terms kept are.state r) are.added (λ r f is. (is, f)) further (are.adds.cover w (names_at entry d) t (logic_state d) l may_be_added adding))

  module _ (n : PureNumberedCommand) (valid : IsValid p) (at : command_of_path p y.path ≡ Some n) (stays : ends_body n.command ≡ false) where
    one_follows : (r : PureState S) (k : PureNext S) → IsAdditionAnswered stands terms here y r k → IsFurther terms kept are.state r → FollowsOn p terms e y k
    one_follows r k (inr (inl (done, unsat))) f = subst (FollowsOn p terms e y) (sym done) tt
    one_follows r k (inr (inr (reason, (outside, (cause, (is_cause, shows)))))) f = subst (FollowsOn p terms e y) (sym is_cause) tt
    one_follows r k (inl (no_form, (met, goes))) f = state_follows p memory m stands terms meaning e y may r r.facts k goes f.sorts (vars_of r f) n valid at stays f.over f.over.facts

    pub added_follow : Each (FollowsOn p terms e y) nexts
    added_follow = each_across (IsAdditionAnswered stands terms here y) (IsFurther terms kept are.state) (FollowsOn p terms e y) are.added nexts are.answered one_follows further
