-- The candidates of an action, some of them made of copies of the path, need only literal forms that matter to it.
use Rattle.std.proofs.Common.{ℕ, ℤ, List, [], ◌∷◌, ◌++◌, map, refl, sym, ap, subst}
use Rattle.gil_values.specs.declared.places.Place.{Place}
use Rattle.gil_values.specs.Pure.{PureValue}
use Rattle.gil_syntax.specs.Pure.{PureParts, PureExpr, act}
use Rattle.mem_model.specs.declared.keys.MemoryName.{MemoryName}
use Rattle.mem_model.specs.Actions.{Actions}
use Rattle.mem_model.specs.Heaps.{Heap}
use Rattle.pure_terms.specs.Pure.{PureTerm}
use Rattle.sym_engine.specs.Forms.{NeedWhatMatters}
use Rattle.sym_engine.proofs.Copied.{each_itself, joined}
use Rattle.sym_evaluation.specs.Pure.{PureCases}
use Rattle.sym_model.specs.Laws.{IsMeaning}
use Rattle.sym_model.specs.Lists.{Each}
use Rattle.sym_model.specs.Terms.{StateTerms}
use Rattle.sym_paths.specs.Forms.{NeedsWhatMatters}
use Rattle.sym_paths.specs.Moves.{running_store}
use Rattle.sym_paths.specs.Pure.{PurePath}
use Rattle.sym_paths.specs.Settling.{Candidate}
use Rattle.sym_paths.specs.Valued.{faulted}
use Rattle.sym_paths.proofs.Forms.{needs_alike}
use Rattle.sym_paths.specs.Acting.{ActsByForms}
use Rattle.sym_paths.specs.Cases.{AreResults, AreEvaluated}
use Rattle.sym_paths.specs.Copies.{AreCopied}
use Rattle.sym_paths.proofs.CandidateForms.{action_needs}

module _ {S : Type 0} (stands : S → List PureValue → Heap → Type 0) (terms : S → StateTerms) (depends : S → List ℕ → List PureTerm → List PureValue → Heap → PureTerm → Type 0) (plain : S → ℤ → ℤ → Type 0) (path : PurePath S) where
  copies_need : (p : PureParts) (cs ds : List (Candidate S)) → Each (λ c. NeedsWhatMatters p stands depends path c.path) cs → AreCopied stands terms depends plain cs ds → Each (λ d. NeedsWhatMatters p stands depends path d.path) ds
  copies_need p [] ds needs is = subst (Each (λ d. NeedsWhatMatters p stands depends path d.path)) (sym is) tt
  copies_need p (c ∷ cs) ds needs (d, (rest, (is, copy, later))) =
      subst (Each (λ e. NeedsWhatMatters p stands depends path e.path)) (sym is)
      (needs_alike p stands depends path c.path d.path (ap (λ (q : PurePath S). q.vars) copy.path) (ap (λ (q : PurePath S). q.conds) copy.path) needs.0, copies_need p cs rest needs.1 later)

  pub act_needs : (memory : MemoryName) → IsMeaning memory stands terms → (asked : List ℕ → List PureTerm → List PureTerm × List PureTerm) (m : Actions) (here : Place) (cases : PureCases (List PureTerm)) (before last : List (Candidate S))
      → AreCopied stands terms depends plain (map (faulted path here) cases.faults) before → (x action : List ℕ) (es : List PureExpr) → AreEvaluated (running_store path.stack) es cases
      → AreResults (ActsByForms stands terms depends m path x action here) cases.good last → NeedWhatMatters stands terms depends path (act x action es) (before ++ last)
  act_needs memory meaning asked m here cases before last copies x action es evaluated result p c over at command =
      copies_need p (map (faulted path here) cases.faults ++ last) (before ++ last)
      (action_needs memory stands terms meaning depends asked m p path c x action es cases here over at command evaluated (map (faulted path here) cases.faults ++ last) (last, (refl, result)))
      (joined stands terms depends plain (map (faulted path here) cases.faults) before last last copies (each_itself stands terms depends plain last))
