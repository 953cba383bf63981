-- The candidates of a command that takes the value of an expression and leaves the frame that runs: the run ends, or a frame that waits
-- goes on.
use Rattle.std.proofs.Common.{◌≡◌, ◌⊎◌, inl, inr, ℕ, ◌+◌, List, [], ◌∷◌, ◌++◌, false, Option, Some, None, IsTrue, refl, sym, ap, subst, ◌∙◌}
use Rattle.std.proofs.lemmas.List.{append-nil}
use Rattle.gil_values.specs.declared.places.Place.{Place}
use Rattle.gil_values.specs.Pure.{PureValue}
use Rattle.gil_syntax.specs.Evaluation.{evaluate}
use Rattle.gil_syntax.specs.Pure.{PureParts, PureExpr, PureCommand, PureNumberedCommand}
use Rattle.gil_machine.specs.Choices.{choice_of}
use Rattle.gil_machine.specs.State.{State, Step}
use Rattle.gil_machine.specs.Step.{step, do_command, with_value}
use Rattle.mem_model.specs.Actions.{Actions}
use Rattle.mem_model.specs.Heaps.{Heap}
use Rattle.pure_terms.specs.Meaning.{value, all_true, IsOver}
use Rattle.pure_terms.specs.Pure.{PureTerm, PureAtom, term_of}
use Rattle.sym_evaluation.specs.Meaning.{HasValue}
use Rattle.sym_evaluation.specs.Pure.{PureGoodCase, PureCases}
use Rattle.sym_evaluation.specs.Questions.{IsAsked, IsTermOf, OnConditions, OnResult, EachCondition}
use Rattle.sym_model.specs.Lists.{Each, OneOf}
use Rattle.sym_model.specs.Meaning.{has_open}
use Rattle.sym_model.specs.Terms.{StateTerms}
use Rattle.sym_model.proofs.ListLaws.{not_none, each_append, each_to}
use Rattle.sym_paths.specs.Valued.{place_at, IsEvaluated}
use Rattle.sym_paths.specs.Meaning.{Stands, StandsForStep, OfEachName, IsOverTable, end_terms, command_of_path}
use Rattle.sym_paths.specs.Moves.{running_store, NoOwn}
use Rattle.sym_paths.specs.Origins.{Follows}
use Rattle.sym_paths.specs.Pure.{PureFrame, PureEnd, PurePath}
use Rattle.sym_paths.specs.Settling.{Candidate, AreCandidates}
use Rattle.sym_paths.specs.Steps.{IsUnknown, new_sorts, makes_choice, GoesOnAs, MayAssume}
use Rattle.sym_paths.proofs.Assuming.{assumes_rightly}
use Rattle.sym_evaluation.proofs.AskedAtoms.{NeedsNone, asked_closed}
use Rattle.sym_paths.proofs.Closed.{closed_each, closed_both}
use Rattle.sym_paths.proofs.Growing.{later_among}
use Rattle.sym_paths.proofs.Moving.{open_is_known}
use Rattle.sym_paths.proofs.Recording.{same_records, ended_records}
use Rattle.sym_paths.proofs.Silent.{same_and_none}
use Rattle.sym_paths.specs.Cases.{AreOfCases}
use Rattle.sym_paths.specs.Returns.{resuming}
use Rattle.sym_paths.proofs.Following.{with_outcome, of_outcome, IsEvaluation, second_true, at_command, store_over, good_may, MakesNext, MakesSame, Covered, same_next, covered_same, along_going, are_candidates}
use Rattle.sym_paths.proofs.Outcomes.{with_value-outcome, nothing_chosen}

module _ {S : Type 0} (stands : S → List PureValue → Heap → Type 0) (terms : S → StateTerms) (p : PureParts) (m : Actions) (path : PurePath S) (c : PureNumberedCommand) (e : PureExpr) (cases : PureCases PureTerm)
    (over : IsOverTable terms path) (no_end : path.ending ≡ None) (at : command_of_path p path ≡ Some c) (k : PureCommand) (go_on : Place → State → PureValue → Step) (command : c.command ≡ k)
    (does_so : (inputs : List PureValue) (place : Place) (s : State) → do_command p m inputs k place s ≡ with_value (evaluate e s.current.store) place s (go_on place s)) (chooses : (s : State) → choice_of p m k s ≡ None)
    (evaluated : IsEvaluated (running_store path.stack) e cases) (may : (a : PureAtom) → IsAsked (running_store path.stack) e a → MayAssume (IsAsked (running_store path.stack) e) (running_store path.stack) k a)
    (quiet : (makes_choice k ≡ false) × (new_sorts m k ≡ [])) where
  abbrev Own : PureAtom → Type 0
  Own = IsAsked (running_store path.stack) e

  abbrev May : PureAtom → Type 0
  May = MayAssume Own (running_store path.stack) k

  abbrev no_choice : State → PureValue → Option ℕ
  no_choice s a = None

  good_closed : (o : Option (PureGoodCase PureTerm)) → OnConditions Own o → OnConditions NeedsNone o
  good_closed None asked = tt
  good_closed (Some g) asked = each_to Own NeedsNone g.conds (asked_closed (running_store path.stack) e) asked

  each_closed : EachCondition Own cases → EachCondition NeedsNone cases
  each_closed each = (each_to (λ d. Each Own d.conds) (λ d. Each NeedsNone d.conds) cases.faults (λ d. each_to Own NeedsNone d.conds (asked_closed (running_store path.stack) e)) each.0, good_closed cases.good each.1)

  good_allowed : (o : Option (PureGoodCase PureTerm)) → OnConditions Own o → OnConditions May o
  good_allowed None asked = tt
  good_allowed (Some g) asked = each_to Own May g.conds may asked

  each_allowed : EachCondition Own cases → EachCondition May cases
  each_allowed each = (each_to (λ d. Each Own d.conds) (λ d. Each May d.conds) cases.faults (λ d. each_to Own May d.conds may) each.0, good_allowed cases.good each.1)

  pub evaluation : IsEvaluation (running_store path.stack) HasValue IsOver (evaluate e) Own c.command cases
  evaluation = record {
    says = evaluated.are_cases;
    origin = evaluated.origin.0;
    assumed = subst (λ j. EachCondition (MayAssume Own (running_store path.stack) j) cases) (sym command) (each_allowed evaluated.origin.0);
    closed = each_closed evaluated.origin.0;
    names = evaluated.names;
  }

  pub does : (inputs : List PureValue) (place : Place) (s : State) → do_command p m inputs c.command place s ≡ with_outcome (evaluate e s.current.store) place s (go_on place s)
  does inputs place s = ap (λ j. do_command p m inputs j place s) command ∙ does_so inputs place s ∙ with_value-outcome (evaluate e s.current.store) place s (go_on place s)

  pub choice : (s : State) → choice_of p m c.command s ≡ of_outcome (no_choice s) (evaluate e s.current.store)
  choice s = ap (λ j. choice_of p m j s) command ∙ chooses s ∙ nothing_chosen (evaluate e s.current.store)

  abbrev pub Makes : PureGoodCase PureTerm → Candidate S → Type 0
  Makes g d = MakesSame stands terms p m path c over at HasValue IsOver (evaluate e) go_on no_choice Own NoOwn cases evaluation does choice g [] d

  abbrev OverTable : PureAtom → Type 0
  OverTable a = IsOver path.vars (term_of a)

  abbrev pub there : State → Place
  there s = at_command stands terms p m path c over at s

  module _ (g : PureGoodCase PureTerm) (is_good : cases.good ≡ Some g) where
    good_over : Each OverTable g.conds
    good_over = subst (OnConditions OverTable) is_good (evaluated.names path.vars (store_over stands terms p m path c over at)).0.1

    pub result_over : IsOver path.vars g.result
    result_over = subst (OnResult (IsOver path.vars)) is_good (evaluated.names path.vars (store_over stands terms p m path c over at)).1

    pub result_from : IsTermOf (running_store path.stack) e g.result
    result_from = subst (OnResult (IsTermOf (running_store path.stack) e)) is_good evaluated.origin.1

    closed_good : has_open g.conds ≡ false
    closed_good = closed_each g.conds (subst (OnConditions NeedsNone) is_good (each_closed evaluated.origin.0).1)

    asked : Each (MayAssume Own (running_store path.stack) c.command) g.conds
    asked = good_may stands terms p m path c over at HasValue IsOver (evaluate e) go_on no_choice Own NoOwn cases evaluation does choice g is_good

    -- ---- the run ends, with these frames

    module _ (fs : List PureFrame) (stores : Each (λ f. OfEachName (IsOver path.vars) f.store) fs) (how : PureEnd) (known : ¬ IsUnknown (Some how)) (end_over : Each (IsOver path.vars) (end_terms (Some how))) where
      abbrev pub ending : Candidate S
      ending = record {
        path = record path { conds = path.conds ++ g.conds; given = path.given ++ g.conds; stack = fs; steps = path.steps + 1; ending = Some how };
        no_fault = [];
      }

      pub ending_makes : Follows p m terms path ending.path
          → ((inputs v : List PureValue) (s : State) (a : PureValue) → Stands stands path v s → value v g.result ≡ Some a → IsTrue (all_true v (path.conds ++ g.conds)) → StandsForStep p m stands ending.path v s (Some how) (go_on (there s) s a))
          → Makes g ending
      ending_makes follows ends = record {
        growth = (
          record {
            new_vars = [];
            vars = same_and_none path.vars path.vars refl;
            sorts = tt;
            drawn = same_and_none path.drawn path.drawn refl;
            new_conds = g.conds;
            conds = refl;
            new_given = g.conds;
            given = refl;
            assumed = later_among path.conds g.conds;
            chosen = None;
            choices = same_and_none path.choices path.choices refl;
            steps = refl;
            over = record {
              conds = each_append OverTable path.conds g.conds over.conds good_over;
              given = each_append OverTable path.given g.conds over.given good_over;
              stores = stores;
              memory = over.memory;
              drawn = over.drawn;
              ending = end_over;
            };
          },
          tt,
        );
        recorded = ended_records p m path ending.path refl refl (closed_both path.conds g.conds closed_good) how refl;
        known = known;
        vars = refl;
        conds = ap (λ xs. path.conds ++ xs) (sym (append-nil g.conds));
        own_more = tt;
        assumes = assumes_rightly p Own NoOwn path c at ending g.conds refl asked tt (inr (inl (refl, λ going. not_none (sym going))));
        origin = λ no_form. follows;
        exact = λ inputs v s a is ok val met closed. (same_and_none path.choices path.choices refl, ends inputs v s a is val met);
        along = λ inputs v ws s is given which goes. subst (λ xs. IsTrue (all_true (v ++ ws) xs)) (sym (append-nil g.conds)) (second_true (v ++ ws) path.given g.conds given);
      }

    -- ---- a frame that waits goes on

    module _ (fs : List PureFrame) (stores : Each (λ f. OfEachName (IsOver path.vars) f.store) fs) where
      abbrev rp : PurePath S
      rp = (resuming path fs g).path

      pub going_makes : Follows p m terms path (resuming path fs g).path
          → ((inputs v : List PureValue) (s : State) (a : PureValue) → Stands stands path v s → value v g.result ≡ Some a → IsTrue (all_true v (path.conds ++ g.conds)) → StandsForStep p m stands rp v s None (go_on (there s) s a))
          → Makes g (resuming path fs g)
      going_makes follows leads = record {
        growth = (
          record {
            new_vars = [];
            vars = same_and_none path.vars path.vars refl;
            sorts = tt;
            drawn = same_and_none path.drawn path.drawn refl;
            new_conds = g.conds;
            conds = refl;
            new_given = [];
            given = same_and_none path.given path.given refl;
            assumed = tt;
            chosen = None;
            choices = same_and_none path.choices path.choices refl;
            steps = refl;
            over = record {
              conds = each_append OverTable path.conds g.conds over.conds good_over;
              given = over.given;
              stores = stores;
              memory = over.memory;
              drawn = over.drawn;
              ending = over.ending;
            };
          },
          later_among path.conds g.conds,
        );
        recorded = same_records p m path rp c at (ap (new_sorts m) command ∙ quiet.1) (ap makes_choice command ∙ quiet.0) refl refl;
        known = open_is_known path.ending no_end;
        vars = refl;
        conds = ap (λ xs. path.conds ++ xs) (sym (append-nil g.conds));
        own_more = tt;
        assumes = assumes_rightly p Own NoOwn path c at (resuming path fs g) [] (same_and_none path.given path.given refl) tt asked (inr (inl (refl, λ going. refl)));
        origin = λ no_form. follows;
        exact = λ inputs v s a is ok val met closed. (
          same_and_none path.choices path.choices refl,
          subst (λ o. StandsForStep p m stands rp v s o (go_on (there s) s a)) (sym no_end) (leads inputs v s a is val met),
        );
        along = λ inputs v ws s is given which goes.
            along_going stands terms p m path c over at HasValue IsOver (evaluate e) go_on no_choice Own NoOwn cases evaluation does choice [] g is_good [] inputs v ws s is (λ a val. refl)
            (subst (λ o. GoesOnAs o (step p m inputs s) ⊎ IsTrue (all_true (v ++ ws) g.conds)) no_end goes);
      }

  -- ---- one candidate for the result

  module _ (Make : PureGoodCase PureTerm → List (Candidate S) → Type 0) (made : (g : PureGoodCase PureTerm) → cases.good ≡ Some g → (ds : List (Candidate S)) → Make g ds → (d : Candidate S) × (Makes g d × (ds ≡ d ∷ []))) where
    pub leaving_candidates : (cs : List (Candidate S)) → AreOfCases path (place_at path.stack c) Make cases cs → AreCandidates p m stands terms Own NoOwn path cs
    leaving_candidates =
        are_candidates stands terms p m path c over at HasValue IsOver (evaluate e) go_on no_choice Own NoOwn cases evaluation does choice [] Make
        (λ g ds is_good makes_them.
        let (d, (makes, one)) = made g is_good ds makes_them in
        subst (Each (λ j. (more : List PureAtom) × MakesNext stands terms p m path c over at HasValue IsOver (evaluate e) go_on no_choice Own NoOwn cases evaluation does choice [] g more j)) (sym one)
        (([], same_next stands terms p m path c over at HasValue IsOver (evaluate e) go_on no_choice Own NoOwn cases evaluation does choice g [] d makes), tt))
        (λ g ds is_good makes_them inputs v s a is ok val met.
        let (d, (makes, one)) = made g is_good ds makes_them in
        subst (OneOf (Covered stands terms p m path c over at HasValue IsOver (evaluate e) go_on no_choice Own NoOwn cases evaluation does choice inputs v s)) (sym one)
        (inl (covered_same stands terms p m path c over at HasValue IsOver (evaluate e) go_on no_choice Own NoOwn cases evaluation does choice g [] d is_good makes inputs v s is met refl)))
