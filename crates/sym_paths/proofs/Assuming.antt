-- What is newly assumed may be assumed at the command.
use Rattle.std.proofs.Common.{◌≡◌, ◌⊎◌, inl, inr, List, [], ◌∷◌, ◌++◌, true, false, Some, None, refl, sym, ap, subst, ◌∙◌, append_assoc, true≢false}
use Rattle.std.proofs.lemmas.List.{append-nil}
use Rattle.gil_values.specs.declared.places.Place.{Place}
use Rattle.gil_syntax.specs.Pure.{PureParts, PureCommand, PureNumberedCommand, vanish, usym, isym, assign, call, act, ifgoto, return, fail, throw, fold_use, unfold_use, assert_that, loop_invariant}
use Rattle.pure_terms.specs.declared.deciders.Reason.{Reason}
use Rattle.pure_terms.specs.Pure.{PureAtom}
use Rattle.sym_evaluation.specs.Pure.{PureStore}
use Rattle.sym_model.specs.Lists.{Each}
use Rattle.sym_model.proofs.ListLaws.{same_some, not_none, each_append, each_to}
use Rattle.sym_paths.specs.Frames.{running_store}
use Rattle.sym_paths.specs.Meaning.{command_of_path}
use Rattle.sym_paths.specs.Pure.{PurePath}
use Rattle.sym_paths.specs.Settling.{Candidate, ended_unknown, AssumesRightly}
use Rattle.sym_paths.specs.Steps.{MayAssume, Assumes}

-- where more is own, more may be assumed
may_wider : (own more : PureAtom → Type 0) → ((a : PureAtom) → own a → more a) → (bs : PureStore) (k : PureCommand) (a : PureAtom) → MayAssume own bs k a → MayAssume more bs k a
may_wider own more wider bs (ifgoto e i) a may = may
may_wider own more wider bs (call x e es handler) a may = may
may_wider own more wider bs vanish a may = wider a may
may_wider own more wider bs (usym x) a may = wider a may
may_wider own more wider bs (isym x k) a may = wider a may
may_wider own more wider bs (assign x e) a may = wider a may
may_wider own more wider bs (act x action es) a may = wider a may
may_wider own more wider bs (return e) a may = wider a may
may_wider own more wider bs (fail e) a may = wider a may
may_wider own more wider bs (throw e) a may = wider a may
may_wider own more wider bs (fold_use u) a may = wider a may
may_wider own more wider bs (unfold_use u) a may = wider a may
may_wider own more wider bs (assert_that items) a may = wider a may
may_wider own more wider bs (loop_invariant xs ps items) a may = wider a may

pub assumes_wider : {S : Type 0} (p : PureParts) (own more by_memory more_by_memory : PureAtom → Type 0) → ((a : PureAtom) → own a → more a) → ((a : PureAtom) → by_memory a → more_by_memory a) → (path next : PurePath S) → Assumes p own by_memory path next
    → Assumes p more more_by_memory path next
assumes_wider p own more by_memory more_by_memory wider memory_wider path next assumes = record {
  added = assumes.added;
  given = assumes.given;
  each = λ c at. each_to (MayAssume own (running_store path.stack) c.command) (MayAssume more (running_store path.stack) c.command) assumes.added
      (may_wider own more wider (running_store path.stack) c.command) (assumes.each c at);
  kept = λ goes. each_to by_memory more_by_memory assumes.added memory_wider (assumes.kept goes);
}

module _ {S : Type 0} (p : PureParts) (own by_memory : PureAtom → Type 0) (path : PurePath S) where
  pub assumes_nothing : (next : PurePath S) → next.given ≡ path.given → Assumes p own by_memory path next
  assumes_nothing next same = record { added = []; given = same ∙ sym (append-nil path.given); each = λ c at. tt; kept = λ goes. tt }

  module _ (c : PureNumberedCommand) (at : command_of_path p path ≡ Some c) where
    abbrev May : PureAtom → Type 0
    May = MayAssume own (running_store path.stack) c.command

    -- why what is assumed is the memory's, where the path goes on or has a choice more
    abbrev Kept : PurePath S → List PureAtom → Type 0
    Kept next added = (next.ending ≡ None) ⊎ ¬ (next.choices ≡ path.choices) → Each by_memory added

    assumes_these : (next : PurePath S) (added : List PureAtom) → next.given ≡ path.given ++ added → Each May added → Kept next added → Assumes p own by_memory path next
    assumes_these next added given all kept = record {
      added = added;
      given = given;
      each = λ d there. subst (λ (k : PureNumberedCommand). Each (MayAssume own (running_store path.stack) k.command) added) (same_some (sym at ∙ there)) all;
      kept = kept;
    }

    -- what a memory asks; without a choice more, and where the path goes on without what is assumed; or with nothing assumed at all
    abbrev pub AssumesLittle : Candidate S → List PureAtom → Type 0
    AssumesLittle d added =
        Each by_memory (added ++ d.no_fault) ⊎ (((d.path.choices ≡ path.choices) × (d.path.ending ≡ None → added ≡ [])) ⊎ (added ++ d.no_fault ≡ []))

    none_first : (added more : List PureAtom) → added ++ more ≡ [] → added ≡ []
    none_first [] more none = refl
    none_first (a ∷ added) more none = cc

    first_each : (added more : List PureAtom) → Each by_memory (added ++ more) → Each by_memory added
    first_each [] more all = tt
    first_each (a ∷ added) more all = (all.0, first_each added more all.1)

    none_each : (added : List PureAtom) → added ≡ [] → Each by_memory added
    none_each added none = subst (Each by_memory) (sym none) tt

    kept_there : (d : Candidate S) (added : List PureAtom) → AssumesLittle d added → Kept d.path added
    kept_there d added (inl asks) goes = first_each added d.no_fault asks
    kept_there d added (inr (inl (same, going))) (inl goes) = none_each added (going goes)
    kept_there d added (inr (inl (same, going))) (inr chosen) = absurd (chosen same)
    kept_there d added (inr (inr none)) goes = none_each added (none_first added d.no_fault none)

    kept_unknown : (d : Candidate S) (added : List PureAtom) → AssumesLittle d added → (place : Place) (reason : Reason) → Kept (ended_unknown d place reason) (added ++ d.no_fault)
    kept_unknown d added (inl asks) place reason goes = asks
    kept_unknown d added (inr (inl (same, going))) place reason (inl goes) = not_none (sym goes)
    kept_unknown d added (inr (inl (same, going))) place reason (inr chosen) = absurd (chosen same)
    kept_unknown d added (inr (inr none)) place reason goes = none_each (added ++ d.no_fault) none

    pub assumes_rightly : (d : Candidate S) (added : List PureAtom) → d.path.given ≡ path.given ++ added → Each May added → Each May d.no_fault → AssumesLittle d added → AssumesRightly p own by_memory path d
    assumes_rightly d added given all besides little = (
      assumes_these d.path added given all (kept_there d added little),
      λ place reason.
          assumes_these (ended_unknown d place reason) (added ++ d.no_fault) (ap (λ xs. xs ++ d.no_fault) given ∙ append_assoc path.given added d.no_fault) (each_append May added d.no_fault all besides)
          (kept_unknown d added little place reason),
    )
