use Rattle.std.proofs.Common.{◌≡◌, true, false, Some, Result, IfOk, refl, sym, ap, subst, ◌∙◌}
use Rattle.std.specs.Option.{option_map}
use Rattle.std.specs.declared.alloc.AllocError.{AllocError}
use Rattle.gil_values.specs.declared.places.Place.{Place}
use Rattle.pure_terms.specs.View.{term_view, atoms_view}
use Rattle.sym_model.specs.Pure.{PureKey}
use Rattle.sym_model.specs.Terms.{StateTerms}
use Rattle.sym_model.specs.View.{key_view}
use Rattle.sym_paths.specs.Pure.{PureEnd, PurePath, failed, threw, missed}
use Rattle.sym_paths.specs.Steps.{IsUnknown}
use Rattle.sym_paths.specs.View.{end_view, path_view}
use Rattle.sym_test.specs.declared.judging.Judgement.{Judgement}
use Rattle.sym_test.specs.Canonical.{IsCanonical}
use Rattle.sym_test.specs.Judged.{MayBeJudged, AreMet, PureLists, lists_of, IsFailureJudged, IsJudgedEnd, judgement_view}
use Rattle.sym_test.proofs.Trailing.{all_over}
use Rattle.sym_test.proofs.judging.judge.Goals as goal

module _ {S : Type 0} (path : PurePath S) (l : PureLists) (same : l ≡ lists_of path) (how : PureEnd) (ending : path.ending ≡ Some how) where
  -- what is known of a path that may be judged is known of its lists
  met_lists : (terms : S → StateTerms) → MayBeJudged terms path → (IsUnknown (Some how) → ⊥) → AreMet l
  met_lists terms may known = subst AreMet (sym same) (record { sorts = may.sorts; over = all_over path.vars path.conds may.over.conds; met = may.met (λ is. known (subst IsUnknown ending is)) })

  judged_miss : (key : PureKey) (place : Place) (r : Result Judgement AllocError) → how ≡ missed key place → IfOk r (λ j. (k : PureKey) → IsFailureJudged l (missed k place) place (λ q. ⊥) (judgement_view j)) → IfOk r (λ j. IsJudgedEnd path path.ending (judgement_view j))
  judged_miss key place (Result.Ok j) is judged = subst (λ o. IsJudgedEnd path o (judgement_view j)) (sym (ending ∙ ap Some is)) (subst (λ k. IsFailureJudged k (missed key place) place (λ q. ⊥) (judgement_view j)) same (judged key))
  judged_miss key place (Result.Err e) is judged = tt

pub judge_failure-requires-clause-met : goal.judge_failure-requires-clause-met
judge_failure-requires-clause-met g c =
    let ended = c.into_ended-vars.ensures in
    let term = term_view c.in-Some-Failed.term in
    let place : Place = c.in-Some-Failed.place in
    met_lists (path_view c.args.path) (record { vars = c.into_ended-vars.result.vars; choices = c.into_ended-vars.result.choices; given = atoms_view c.into_ended-vars.result.given; conds = atoms_view c.into_ended-vars.result.conds })
    (λ i. record { vars = ended.vars i; choices = ended.choices i; given = ended.given i; conds = ended.conds i }) (failed term place) (sym ended.end ∙ ap (option_map end_view) (c.in-Some-Failed.is ∙ ap Some c.in-Some-Failed.field-0-is))
    g.M.SymMemory.terms c.requires (λ is. is)

pub judge_failure-requires-clause-defined : goal.judge_failure-requires-clause-defined
judge_failure-requires-clause-defined g c v canonical =
    let ended = c.into_ended-vars.ensures in
    c.requires.defined false (term_view c.in-Some-Failed.term) c.in-Some-Failed.place v (sym ended.end ∙ ap (option_map end_view) (c.in-Some-Failed.is ∙ ap Some c.in-Some-Failed.field-0-is))
    (subst (λ (l : PureLists). IsCanonical l.vars l.conds v)
    (λ i. record { vars = ended.vars i; choices = ended.choices i; given = ended.given i; conds = ended.conds i })
    canonical)

pub judge_failure-requires-in-Some-Threw-clause-met : goal.judge_failure-requires-in-Some-Threw-clause-met
judge_failure-requires-in-Some-Threw-clause-met g c =
    let ended = c.into_ended-vars.ensures in
    let term = term_view c.in-Some-Threw.term in
    let place : Place = c.in-Some-Threw.place in
    met_lists (path_view c.args.path) (record { vars = c.into_ended-vars.result.vars; choices = c.into_ended-vars.result.choices; given = atoms_view c.into_ended-vars.result.given; conds = atoms_view c.into_ended-vars.result.conds })
    (λ i. record { vars = ended.vars i; choices = ended.choices i; given = ended.given i; conds = ended.conds i }) (threw term place) (sym ended.end ∙ ap (option_map end_view) (c.in-Some-Threw.is ∙ ap Some c.in-Some-Threw.field-0-is))
    g.M.SymMemory.terms c.requires (λ is. is)

pub judge_failure-requires-in-Some-Threw-clause-defined : goal.judge_failure-requires-in-Some-Threw-clause-defined
judge_failure-requires-in-Some-Threw-clause-defined g c v canonical =
    let ended = c.into_ended-vars.ensures in
    c.requires.defined true (term_view c.in-Some-Threw.term) c.in-Some-Threw.place v (sym ended.end ∙ ap (option_map end_view) (c.in-Some-Threw.is ∙ ap Some c.in-Some-Threw.field-0-is))
    (subst (λ (l : PureLists). IsCanonical l.vars l.conds v)
    (λ i. record { vars = ended.vars i; choices = ended.choices i; given = ended.given i; conds = ended.conds i })
    canonical)

pub judge_miss-requires : goal.judge_miss-requires
judge_miss-requires g c =
    let ended = c.into_ended-vars.ensures in
    let key : PureKey = key_view c.in-Some-Missed.field-0-0 in
    let place : Place = c.in-Some-Missed.place in
    record {
      met = met_lists (path_view c.args.path) (record { vars = c.into_ended-vars.result.vars; choices = c.into_ended-vars.result.choices; given = atoms_view c.into_ended-vars.result.given; conds = atoms_view c.into_ended-vars.result.conds })
          (λ i. record { vars = ended.vars i; choices = ended.choices i; given = ended.given i; conds = ended.conds i }) (missed key place) (sym ended.end ∙ ap (option_map end_view) (c.in-Some-Missed.is ∙ ap Some c.in-Some-Missed.field-0-is))
          g.M.SymMemory.terms c.requires (λ is. is);
    }

pub returns-in-Some-Missed : goal.returns-in-Some-Missed
returns-in-Some-Missed g c =
    let ended = c.into_ended-vars.ensures in
    let key : PureKey = key_view c.in-Some-Missed.field-0-0 in
    let place : Place = c.in-Some-Missed.place in
    judged_miss (path_view c.args.path) (record { vars = c.into_ended-vars.result.vars; choices = c.into_ended-vars.result.choices; given = atoms_view c.into_ended-vars.result.given; conds = atoms_view c.into_ended-vars.result.conds })
    (λ i. record { vars = ended.vars i; choices = ended.choices i; given = ended.given i; conds = ended.conds i }) (missed key place) (sym ended.end ∙ ap (option_map end_view) (c.in-Some-Missed.is ∙ ap Some c.in-Some-Missed.field-0-is))
    key place c.judge_miss.result refl c.judge_miss.ensures
