-- The candidates of an action need only literal forms that matter to it.
use Rattle.std.proofs.Common.{◌≡◌, ℕ, List, [], ◌∷◌, ◌++◌, map, Bool, slice_get, Option, Some, None, IsTrue, true≢false, refl, sym, ap, subst, ◌∙◌}
use Rattle.gil_values.specs.declared.places.Place.{Place}
use Rattle.gil_values.specs.Pure.{PureValue}
use Rattle.gil_syntax.specs.Evaluation.{evaluate_all}
use Rattle.gil_syntax.specs.Pure.{PureParts, PureExpr, PureNumberedCommand, act}
use Rattle.mem_model.specs.declared.keys.MemoryName.{MemoryName}
use Rattle.mem_model.specs.Actions.{Actions}
use Rattle.mem_model.specs.Heaps.{Heap}
use Rattle.pure_terms.specs.declared.variables.Sort.{Sort}
use Rattle.pure_terms.specs.Meaning.{all_true, IsProper, IsOver}
use Rattle.pure_terms.specs.Pure.{PureTerm, PureAtom, opening, term_of}
use Rattle.sym_evaluation.specs.Meaning.{HaveValues}
use Rattle.sym_evaluation.specs.Pure.{PureFaultCase, PureGoodCase, PureCases}
use Rattle.sym_evaluation.specs.Questions.{IsAsked, OnResult, OnConditions, AreTermsOf}
use Rattle.sym_model.specs.Forms.{OpensOnly, OpenWhatMatters}
use Rattle.sym_model.specs.Laws.{IsMeaning, Serves}
use Rattle.sym_model.specs.Lists.{Each, OneOf}
use Rattle.sym_model.specs.Pure.{PureResult, done, failed, missed, PureBranch}
use Rattle.sym_model.specs.Terms.{StateTerms}
use Rattle.sym_model.proofs.ListLaws.{each_append, each_at, each_map, each_to, each_by_place}
use Rattle.sym_paths.specs.Forms.{Matters, NeedsWhatMatters}
use Rattle.sym_paths.specs.Meaning.{IsOverTable, command_of_path}
use Rattle.sym_paths.specs.Moves.{running_store}
use Rattle.sym_paths.specs.Pure.{PurePath}
use Rattle.sym_paths.specs.Settling.{Candidate}
use Rattle.sym_paths.specs.Valued.{faulted}
use Rattle.sym_evaluation.proofs.AskedAtoms.{one_asked_closed}
use Rattle.sym_paths.proofs.Forms.{needs_at}
use Rattle.sym_paths.proofs.Growing.{all_true-more}
use Rattle.sym_paths.proofs.Silent.{extended_by}
use Rattle.sym_paths.specs.Acting.{taken, fresh_where, ActsTo, ActsAsEach, ActsByForms}
use Rattle.sym_paths.specs.Cases.{AreResults, AreOfCases, AreEvaluated}
use Rattle.sym_paths.proofs.Acting.{serves as serves_action}
use Rattle.sym_paths.proofs.Following.{first_true, second_true, good_leads, serves, store_over}

-- ---- candidates

module _ {S : Type 0} (memory : MemoryName) (stands : S → List PureValue → Heap → Type 0) (terms : S → StateTerms) (meaning : IsMeaning memory stands terms) (depends : S → List ℕ → List PureTerm → List PureValue → Heap → PureTerm → Type 0)
    (asked : List ℕ → List PureTerm → List PureTerm × List PureTerm) (m : Actions) (p : PureParts) (path : PurePath S) (c : PureNumberedCommand) (x action : List ℕ) (es : List PureExpr) (cases : PureCases (List PureTerm)) (here : Place) (over : IsOverTable terms path)
    (at : command_of_path p path ≡ Some c) (command : c.command ≡ act x action es) (evaluated : AreEvaluated (running_store path.stack) es cases) where
  abbrev takes : Bool
  takes = m.takes_symbol action

  abbrev Asked : PureAtom → Type 0
  Asked a = OneOf (λ e. IsAsked (running_store path.stack) e a) es

  abbrev Only : PurePath S → PureAtom → Type 0
  Only next = OpensOnly (Matters p stands depends path next action es)

  abbrev Needs : Candidate S → Type 0
  Needs d = NeedsWhatMatters p stands depends path d.path

  asked_only : (next : PurePath S) (conds : List PureAtom) → Each Asked conds → Each (Only next) conds
  asked_only next conds all = each_to Asked (Only next) conds (λ a one t is. absurd (true≢false (one_asked_closed (running_store path.stack) es (opening t) (subst Asked is one)))) all

  needs_only : (next : PurePath S) (added : List PureAtom) → next.conds ≡ path.conds ++ added → Each (Only next) added → NeedsWhatMatters p stands depends path next
  needs_only next added conds all = needs_at p stands depends path c (act x action es) at command next (record { added = added; conds = conds; each = all })

  -- ---- faults

  fault_needs : (fc : PureFaultCase) → Each Asked fc.conds → Needs (faulted path here fc)
  fault_needs fc all = needs_only (faulted path here fc).path fc.conds refl (asked_only (faulted path here fc).path fc.conds all)

  faults_need : Each Needs (map (faulted path here) cases.faults)
  faults_need = each_map Needs (faulted path here) cases.faults (each_to (λ (fc : PureFaultCase). Each Asked fc.conds) (λ fc. Needs (faulted path here fc)) cases.faults fault_needs evaluated.origin.0.0)

  -- ---- branches

  module _ (g : PureGoodCase (List PureTerm)) (is_good : cases.good ≡ Some g) where
    good_asked : Each Asked g.conds
    good_asked = subst (OnConditions Asked) is_good evaluated.origin.0.1

    vars_of : (b : PureBranch S) (r : PureResult) (d : Candidate S) → ActsTo path x here takes g b r d → d.path.vars ≡ path.vars ++ taken takes
    vars_of b (done t) d (bs, (bound, is)) = ap (λ (k : Candidate S). k.path.vars) is
    vars_of b (failed t) d is = ap (λ (k : Candidate S). k.path.vars) is
    vars_of b (missed k) d is = ap (λ (k : Candidate S). k.path.vars) is

    conds_of : (b : PureBranch S) (r : PureResult) (d : Candidate S) → ActsTo path x here takes g b r d → d.path.conds ≡ path.conds ++ (g.conds ++ b.conds)
    conds_of b (done t) d (bs, (bound, is)) = ap (λ (k : Candidate S). k.path.conds) is
    conds_of b (failed t) d is = ap (λ (k : Candidate S). k.path.conds) is
    conds_of b (missed k) d is = ap (λ (k : Candidate S). k.path.conds) is

    good_over : Each (λ a. IsOver path.vars (term_of a)) g.conds
    good_over = subst (OnConditions (λ a. IsOver path.vars (term_of a))) is_good (evaluated.names path.vars (store_over stands terms p m path c over at)).0.1

    from : AreTermsOf (running_store path.stack) es g.result
    from = subst (OnResult (AreTermsOf (running_store path.stack) es)) is_good evaluated.origin.1

    -- the law of forms, of one branch
    abbrev Opens : PureBranch S → Type 0
    Opens b =
        (vars : List Sort) (v args : List PureValue) (h : Heap) → Serves stands terms vars v (fresh_where takes path.vars) g.result path.memory args h → IsTrue (all_true v b.conds)
        → Each (OpensOnly (depends path.memory action g.result v h)) b.conds

    each_opens : (bs : List (PureBranch S)) → OpenWhatMatters stands terms depends action (fresh_where takes path.vars) g.result path.memory bs → Each Opens bs
    each_opens bs law = each_by_place Opens bs (λ i b place vars v args h served.
        each_at (λ d. IsTrue (all_true v d.conds) → Each (OpensOnly (depends path.memory action g.result v h)) d.conds) bs i b (law vars v args h served) place)

    module _ (b : PureBranch S) (opens : Opens b) (d : Candidate S) (acts : ActsTo path x here takes g b b.result d) where
      branch_matters : (j : ℕ) (a : PureAtom) → slice_get b.conds j ≡ Some a → (t : PureTerm) → a ≡ opening t → Matters p stands depends path d.path action es t
      branch_matters j a place t is = (
        g.result,
        (
          from,
          λ inputs v w s stood ext sat.
              let (ws, (same, in_turn)) = extended_by inputs s path d.path (taken takes) v w (vars_of b b.result d acts) ext in
              let proper : IsProper (path.vars ++ taken takes) (v ++ ws) =
              subst (λ u. IsProper (path.vars ++ taken takes) u) same (subst (λ (sorts : List Sort). IsProper sorts w) (vars_of b b.result d acts) sat.proper) in
              let met : IsTrue (all_true (v ++ ws) (path.conds ++ (g.conds ++ b.conds))) =
              subst (λ u. IsTrue (all_true u (path.conds ++ (g.conds ++ b.conds)))) same (subst (λ atoms. IsTrue (all_true w atoms)) (conds_of b b.result d acts) sat.true_there) in
              let later : IsTrue (all_true (v ++ ws) (g.conds ++ b.conds)) = second_true (v ++ ws) path.conds (g.conds ++ b.conds) met in
              let good : IsTrue (all_true v g.conds) = sym (all_true-more path.vars v ws stood.proper.one_each g.conds good_over) ∙ first_true (v ++ ws) g.conds b.conds later in
              let (args, (ok, val)) =
              good_leads v (HaveValues v) (evaluate_all es s.current.store) cases g (evaluated.are_cases path.vars v s.current.store (serves stands terms p m path c over at v s stood)) is_good good in
              let served = serves_action memory stands terms meaning asked m p path c x action es cases over at command evaluated g is_good inputs v ws s args stood in_turn proper val in
              subst (λ u. depends path.memory action g.result u s.heap t) (sym same)
              (each_at (OpensOnly (depends path.memory action g.result (v ++ ws) s.heap)) b.conds j a
              (opens (path.vars ++ taken takes) (v ++ ws) args s.heap served (second_true (v ++ ws) g.conds b.conds later)) place t is),
        ),
      )

      branch_needs : Needs d
      branch_needs =
          needs_only d.path (g.conds ++ b.conds) (conds_of b b.result d acts)
          (each_append (Only d.path) g.conds b.conds (asked_only d.path g.conds good_asked) (each_by_place (Only d.path) b.conds branch_matters))

    each_needs : (bs : List (PureBranch S)) → Each Opens bs → (ds : List (Candidate S)) → ActsAsEach path x here takes g bs ds → Each Needs ds
    each_needs [] opens ds none = subst (Each Needs) (sym none) tt
    each_needs (b ∷ bs) opens ds (d, (rest, (is, acts_to, later))) = subst (Each Needs) (sym is) (branch_needs b opens.0 d acts_to, each_needs bs opens.1 rest later)

  -- ---- all candidates

  results_need : (o : Option (PureGoodCase (List PureTerm))) → cases.good ≡ o → (ds : List (Candidate S)) → AreResults (ActsByForms stands terms depends m path x action here) o ds → Each Needs ds
  results_need None is ds none = subst (Each Needs) (sym none) tt
  results_need (Some g) is ds (bs, (law, acts)) = each_needs g is bs (each_opens g is bs law) ds acts

  pub action_needs : (cs : List (Candidate S)) → AreOfCases path here (ActsByForms stands terms depends m path x action here) cases cs → Each Needs cs
  action_needs cs (last, (is, made)) =
      subst (Each Needs) (sym is) (each_append Needs (map (faulted path here) cases.faults) last faults_need (results_need cases.good refl last made))
