-- The cases of arguments in the frame that runs, and the candidates for results of any type.
use Rattle.std.proofs.Common.{◌≡◌, ℕ, ◌+◌, List, [], ◌∷◌, ◌++◌, Bool, Option, Some, None, slice_get, drop, if◌then◌else◌, refl, sym, ap, ap₂, subst, ◌∙◌}
use Rattle.std.specs.Option.{option_map}
use Rattle.std.specs.Str.{bytes_eq}
use Rattle.gil_values.specs.declared.places.Place.{Place}
use Rattle.gil_syntax.specs.Pure.{PureExpr}
use Rattle.gil_machine.proofs.Standings.{drop-found}
use Rattle.pure_terms.specs.Pure.{PureTerm}
use Rattle.sym_evaluation.specs.declared.cases.GoodCase.{GoodCase}
use Rattle.sym_evaluation.specs.Meaning.{AreCasesOfAll}
use Rattle.sym_evaluation.specs.Pure.{PureStore, term_at, PureGoodCase, PureCases}
use Rattle.sym_evaluation.specs.Questions.{AllComeFrom, NameNoOthers, AreEachOver}
use Rattle.sym_evaluation.specs.View.{good_view}
use Rattle.sym_model.specs.Pure.{PureBranch, PureResult, done, failed, missed}
use Rattle.sym_paths.specs.Laws.{IsBound}
use Rattle.sym_paths.specs.Moves.{advanced, running_store}
use Rattle.sym_paths.specs.Pure.{PurePath}
use Rattle.sym_paths.specs.Settling.{Candidate}
use Rattle.sym_paths.specs.Acting.{taken, ActsTo, ActsAsEach}
use Rattle.sym_paths.specs.Calls.{terms_bound, IsFirstStore}
use Rattle.sym_paths.specs.Cases.{AreResults, AreEvaluated}

pub all_evaluated_in : (bs cs : PureStore) (es : List PureExpr) (cases : PureCases (List PureTerm)) → bs ≡ cs → AreCasesOfAll cs es cases → AllComeFrom cs es cases → NameNoOthers AreEachOver cs cases → AreEvaluated bs es cases
all_evaluated_in bs cs es cases same are come name = subst (λ ds. AreEvaluated ds es cases) (sym same) (record { are_cases = are; origin = come; names = name })

module _ {S T X : Type 0} (seen : T → X) (Make : PureGoodCase X → List (Candidate S) → Type 0) (o : Option (GoodCase T)) where
  pub seen_results : (good : GoodCase T) (ds : List (Candidate S)) → o ≡ Some good → Make (good_view seen good) ds → AreResults Make (option_map (good_view seen) o) ds
  seen_results good ds is made = subst (λ q. AreResults Make (option_map (good_view seen) q) ds) (sym is) made

  pub seen_none : o ≡ None → AreResults Make (option_map (good_view seen) o) []
  seen_none is = subst (λ q. AreResults Make (option_map (good_view seen) q) []) (sym is) refl

-- ---- branches

module _ {S : Type 0} (x : List ℕ) (here : Place) (takes : Bool) (g : PureGoodCase (List PureTerm)) where
  forget_memory : (path : PurePath S) (s : S) (b : PureBranch S) (r : PureResult) (d : Candidate S) → ActsTo (record path { memory = s }) x here takes g b r d → ActsTo path x here takes g b r d
  forget_memory path s b (done t) d is = is
  forget_memory path s b (failed t) d is = is
  forget_memory path s b (missed k) d is = is

  -- a branch replaces the memory, so it is the same of a copy of the path
  pub acts_on_copy : (path copy : PurePath S) (b : PureBranch S) (r : PureResult) (d : Candidate S) → copy ≡ record path { memory = copy.memory } → ActsTo copy x here takes g b r d → ActsTo path x here takes g b r d
  acts_on_copy path copy b r d same is = forget_memory path copy.memory b r d (subst (λ q. ActsTo q x here takes g b r d) same is)

  pub acts_more : (path : PurePath S) (bs : List (PureBranch S)) (ds : List (Candidate S)) (b : PureBranch S) (d : Candidate S) → ActsAsEach path x here takes g bs ds → ActsTo path x here takes g b b.result d → ActsAsEach path x here takes g (bs ++ b ∷ []) (ds ++ d ∷ [])
  acts_more path [] ds b d is to = (d, ([], (ap (λ es. es ++ d ∷ []) is, to, refl)))
  acts_more path (c ∷ bs) ds b d (e, (rest, (is, first, later))) to = (e, (rest ++ d ∷ [], (ap (λ es. es ++ d ∷ []) is, first, acts_more path bs rest b d later to)))

  abbrev followed : PurePath S → PureBranch S → PurePath S
  followed path b = record path { vars = path.vars ++ taken takes; conds = path.conds ++ (g.conds ++ b.conds); given = path.given ++ b.conds; memory = b.state; steps = path.steps + 1 }

  pub done_acts : (path q : PurePath S) (b : PureBranch S) (t : PureTerm) (bs : PureStore) (d : Candidate S) → q ≡ followed path b → IsBound (running_store q.stack) x t bs
      → d ≡ record { path = record q { choices = q.choices ++ 0 ∷ []; stack = advanced bs q.stack; ending = None }; no_fault = [] } → ActsTo path x here takes g b (done t) d
  done_acts path q b t bs d same bound is = (
    bs,
    (
      subst (λ (r : PurePath S). IsBound (running_store r.stack) x t bs) same bound,
      is ∙ ap (λ (r : PurePath S). record { path = record r { choices = r.choices ++ 0 ∷ []; stack = advanced bs r.stack; ending = None }; no_fault = [] }) same,
    ),
  )

-- ---- the first store of a call

pub first_more : (params : List (List ℕ)) (ts : List PureTerm) (n : ℕ) (p : List ℕ) (t : PureTerm) (old new : PureStore) → slice_get params n ≡ Some p → slice_get ts n ≡ Some t → IsBound old p t new
    → IsFirstStore (drop (n + 1) params) (drop (n + 1) ts) old → IsFirstStore (drop n params) (drop n ts) new
first_more params ts n p t old new name value bound before x =
    bound x ∙ ap (λ o. if bytes_eq p x then Some t else o) (before x) ∙ ap (λ bs. term_at bs x) (sym (ap₂ terms_bound (drop-found params n p name) (drop-found ts n t value)))
