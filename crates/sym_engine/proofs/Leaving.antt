-- The frames of a path: the one that runs, what an assignment makes of it, and what `return` does.
use Rattle.std.proofs.Common.{◌≡◌, ℕ, suc, ◌+◌, ◌<◌, ◌≤◌, List, [], ◌∷◌, length, map, Result, Ok, Err, IfOk, OnOk, refl, sym, ap, subst, ◌∙◌, arith, Some, None}
use Rattle.std.proofs.lemmas.List.{length-map, length-reverse}
use Rattle.gil_syntax.specs.Pure.{PureExpr}
use Rattle.pure_terms.specs.Meaning.{IsOver}
use Rattle.pure_terms.specs.Pure.{PureTerm}
use Rattle.sym_engine.specs.Lawful.{MayAdvance}
use Rattle.sym_evaluation.specs.Meaning.{AreCasesOf}
use Rattle.sym_evaluation.specs.Pure.{PureStore, PureGoodCase, PureCases}
use Rattle.sym_evaluation.specs.Questions.{ComesFrom, NameNoOthers}
use Rattle.sym_paths.specs.Laws.{IsBound}
use Rattle.sym_paths.specs.Moves.{running_store, advanced}
use Rattle.sym_paths.specs.Valued.{IsEvaluated}
use Rattle.sym_paths.specs.declared.frames.Frame.{Frame}
use Rattle.sym_paths.specs.Pure.{PureFrame, PurePath}
use Rattle.sym_paths.specs.Settling.{Candidate}
use Rattle.sym_paths.specs.View.{frame_view, frames_view}
use Rattle.sym_paths.specs.Returns.{Resumes, returning, resuming, Returns}
use Rattle.sym_paths.specs.Throws.{handling, throwing, ThrowsTo, Throws}
use Rattle.sym_paths.specs.Frames.{from_handler}
use Rattle.gil_values.specs.declared.places.Place.{Place}

pub frames_count : (fs : List Frame) → length (frames_view fs) ≡ length fs
frames_count fs = length-reverse (map frame_view fs) ∙ length-map fs frame_view

pub evaluated_in : (bs cs : PureStore) (e : PureExpr) (cases : PureCases PureTerm) → bs ≡ cs → AreCasesOf cs e cases → ComesFrom cs e cases → NameNoOthers IsOver cs cases → IsEvaluated bs e cases
evaluated_in bs cs e cases same are come name = subst (λ ds. IsEvaluated ds e cases) (sym same) (record { are_cases = are; origin = come; names = name })

pub assigned_frames : (fs gs new : List PureFrame) (f : PureFrame) (x : List ℕ) (t : PureTerm) (bs : PureStore) → fs ≡ f ∷ gs → IsBound f.store x t bs → new ≡ record f { next = f.next + 1; store = bs } ∷ gs
    → (cs : PureStore) × (IsBound (running_store fs) x t cs × (new ≡ advanced cs fs))
assigned_frames fs gs new f x t bs first bound is = subst (λ hs. (cs : PureStore) × (IsBound (running_store hs) x t cs × (new ≡ advanced cs hs))) (sym first) (bs, (bound, is))

pub never_empty : (fs : List PureFrame) → MayAdvance fs → fs ≡ [] → ⊥
never_empty fs may none = let no_frame : ⊥ = subst MayAdvance none may in no_frame

module _ {S : Type 0} (path : PurePath S) (g : PureGoodCase PureTerm) (d : Candidate S) where
  pub entry_returns : (fs : List PureFrame) → MayAdvance fs → length fs ≤ 1 → d ≡ returning path g → Returns path fs g (d ∷ [])
  entry_returns [] may few is = absurd may
  entry_returns (f ∷ []) may few is = ap (λ c. c ∷ []) is
  entry_returns (f ∷ h ∷ fs) may few is = let many : suc (suc (length fs)) ≤ 1 = few in absurd (omega (arith, many))

  pub caller_resumes : (fs gs hs : List PureFrame) (f caller : PureFrame) → fs ≡ f ∷ gs → gs ≡ caller ∷ hs → (next : PureFrame) × (Resumes g.result caller next × (d ≡ resuming path (next ∷ hs) g)) → Returns path fs g (d ∷ [])
  caller_resumes fs gs hs f caller first second (next, (resumes, is)) =
      subst (λ xs. Returns path xs g (d ∷ [])) (sym (first ∙ ap (λ xs. f ∷ xs) second)) (next, (resumes, ap (λ c. c ∷ []) is))

module _ {S : Type 0} (path : PurePath S) (here : Place) (g : PureGoodCase PureTerm) (d : Candidate S) where
  pub nothing_catches : (fs callers : List PureFrame) (f : PureFrame) → fs ≡ f ∷ callers → handling callers ≡ [] → d ≡ throwing path here g → Throws path here fs g (d ∷ [])
  nothing_catches fs callers f first none is = subst (λ xs. Throws path here xs g (d ∷ [])) (sym first) (subst (λ ks. ThrowsTo path here ks g (d ∷ [])) (sym none) (ap (λ c. c ∷ []) is))

  pub frame_catches : (fs callers ks : List PureFrame) (f k : PureFrame) (label : ℕ) → fs ≡ f ∷ callers → handling callers ≡ k ∷ ks → k.handler ≡ Some label
      → (r : PureFrame) × (Resumes g.result k r × (d ≡ resuming path (record r { next = label } ∷ ks) g)) → Throws path here fs g (d ∷ [])
  frame_catches fs callers ks f k label first found has (r, (resumes, is)) =
      subst (λ xs. Throws path here xs g (d ∷ [])) (sym first)
      (subst (λ xs. ThrowsTo path here xs g (d ∷ [])) (sym found) (record r { next = label } ∷ ks, ((label, (has, (r, (resumes, refl)))), ap (λ c. c ∷ []) is)))

-- where a throw finds its handler
pub passes_on : (fs callers : List PureFrame) (f : PureFrame) → fs ≡ f ∷ callers → f.handler ≡ None → handling fs ≡ handling callers
passes_on fs callers f first none = ap handling first ∙ ap (λ o. from_handler o (f ∷ callers) (handling callers)) none

pub takes : (fs callers : List PureFrame) (f : PureFrame) (label : ℕ) → fs ≡ f ∷ callers → f.handler ≡ Some label → handling fs ≡ f ∷ callers
takes fs callers f label first has = ap handling first ∙ ap (λ o. from_handler o (f ∷ callers) (handling callers)) has

pub fewer_left : (fs callers : List PureFrame) (f : PureFrame) → fs ≡ f ∷ callers → length callers < length fs
fewer_left fs callers f first = let counted : length fs ≡ suc (length callers) = ap length first in omega (arith, counted)

-- more than one frame: one waits
pub some_wait : (fs : List Frame) (f : PureFrame) (gs : List PureFrame) → 1 < length fs → frames_view fs ≡ f ∷ gs → gs ≡ [] → ⊥
some_wait fs f gs many is none =
    let one : length fs ≡ 1 = sym (frames_count fs) ∙ ap length (is ∙ ap (λ xs. f ∷ xs) none) in omega (arith, many, one)

-- ---- what a call answers

module _ {X E : Type 0} where
  pub if_ok_map : (P Q : X → Type 0) (r : Result X E) → ((x : X) → P x → Q x) → IfOk r P → IfOk r Q
  if_ok_map P Q (Ok x) go is = go x is
  if_ok_map P Q (Err e) go is = tt

  pub on_ok_map : (P Q : Type 0) (r : Result X E) → (P → Q) → OnOk r P → OnOk r Q
  on_ok_map P Q (Ok x) go is = go is
  on_ok_map P Q (Err e) go is = tt

  pub if_ok_three : (P Q R T : X → Type 0) (r : Result X E) → ((x : X) → P x → Q x → R x → T x) → IfOk r P → IfOk r Q → IfOk r R → IfOk r T
  if_ok_three P Q R T (Ok x) go p q s = go x p q s
  if_ok_three P Q R T (Err e) go p q s = tt
