-- Calls whose bodies throw nothing, whatever handler there is around them.
use Rattle.std.proofs.Common.{ℕ, List, ◌∷◌, Some, ap, ◌∙◌, arith}
use Rattle.std.specs.Prelude.{None}
use Rattle.gil_values.specs.declared.kinds.Kind.TheVariants.{Null}
use Rattle.gil_values.specs.declared.places.Place.{Place}
use Rattle.gil_values.specs.Pure.{PureValue, kind}
use Rattle.gil_syntax.specs.Evaluation.{Store, bind}
use Rattle.gil_machine.specs.State.{Frame, State, End, goes_on}
use Rattle.source_language.specs.Completions.{Situation, Completion, normal, returns, throws, over, unfinished, after_body}
use Rattle.source_language.proofs.Following.{state_at, Catcher, leads, leads_on, LeadsOn, Runs, runs_after, Finishes}

-- nothing is thrown
abbrev pub IsCalm : Completion → Type 0
IsCalm (normal s) = Unit {0}
IsCalm (returns v s) = Unit {0}
IsCalm (throws v here s) = ⊥
IsCalm (over e) = Unit {0}
IsCalm unfinished = Unit {0}

-- the call has no handler, and what is done with its result follows in the caller
pub calm_call_runs : (go : ℕ → State → End) (catcher : Catcher) (least : ℕ) (f x : List ℕ) (callers : List Frame) (pc pc' : ℕ) (store : Store)
    (st first : State) (c : Completion) (then : PureValue → Situation → Completion) (thrown : PureValue → Place → Situation → Completion)
    → IsCalm c → LeadsOn go st (goes_on first)
    → Finishes go least (record { procedure = f; next = pc; store = store; waits = Some x; handler = None } ∷ callers) first c
    → ((v : PureValue) (t : Situation) → Runs go catcher least f callers pc' (state_at f pc callers (bind x v store) t) (then v t))
    → Runs go catcher least f callers pc' st (after_body c then thrown)
calm_call_runs go catcher least f x callers pc pc' store st first (normal s) then thrown calm l r next =
    runs_after go catcher least f callers pc' st _ (then (kind Null) s) (leads_on go _ _ _ (leads go _ _ l) r) (next (kind Null) s)
calm_call_runs go catcher least f x callers pc pc' store st first (returns v s) then thrown calm l r next =
    runs_after go catcher least f callers pc' st _ (then v s) (leads_on go _ _ _ (leads go _ _ l) r) (next v s)
calm_call_runs go catcher least f x callers pc pc' store st first (throws v here s) then thrown calm l r next = absurd calm
calm_call_runs go catcher least f x callers pc pc' store st first (over e) then thrown calm l r next =
    (leads_on go _ _ _ (leads go _ _ l) r.0, r.1)
calm_call_runs go catcher least f x callers pc pc' store st first unfinished then thrown calm l r next =
    let a = l.by r.0 in (a.0, omega (arith, a.1, r.1), ap (λ e. e.ending) a.2 ∙ r.2)
