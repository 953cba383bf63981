-- The procedure that reads properties follows the walk along the prototypes.
use Rattle.std.proofs.Common.{◌≡◌, ℕ, zero, suc, ◌+◌, ◌-◌, ◌≤◌, List, [], ◌∷◌, pos, Bool, true, false, cond, Some, Ok, slice_get, refl, ap, ◌∙◌, arith}
use Rattle.std.specs.Prelude.{None, codes}
use Rattle.gil_values.specs.declared.kinds.Kind.TheVariants.{Undef, Null}
use Rattle.gil_values.specs.declared.places.Place.{Place}
use Rattle.gil_values.specs.Equality.{same_value}
use Rattle.gil_values.specs.Pure.{PureValue, integer, boolean, text, symbol, kind, procedure, list}
use Rattle.gil_syntax.specs.Pure.{PureNumberedCommand, PureParts}
use Rattle.gil_syntax.specs.Programs.{find_proc}
use Rattle.gil_syntax.specs.Evaluation.{Store, bind, value_of, set_or_fault, both, evaluate_all}
use Rattle.mem_model.specs.Pure.{PureOutcome, done, failed as action_failed, miss}
use Rattle.mem_model.specs.Actions.{Actions, ActionResult}
use Rattle.gil_machine.specs.State.{Frame, State, Step, goes_on, End}
use Rattle.gil_machine.specs.Step as machine
use Rattle.gil_machine.specs.Run.{run}
use Rattle.source_language.specs.Completions.{Situation, Completion, normal, returns, throws, over, unfinished, choose, after_action, with_outcome}
use Rattle.source_language.proofs.Following.{state_at, leaves, leads, leads_on, Leads, LeadsOn, Finishes, finishes_after, steps, one_step}
use Rattle.object_operators.specs.Library.{object, property, get_proc}
use Rattle.object_operators.specs.Walk.{get_name, get_place, walk}
use Rattle.object_operators.proofs.Calls.{IsCalm}

-- ---- a walk throws nothing

outcome_calm : (o : PureOutcome) (here : Place) (s : Situation) (then : PureValue → Situation → Completion)
    → ((v : PureValue) (t : Situation) → IsCalm (then v t)) → IsCalm (with_outcome o here s then)
outcome_calm (done v) here s then calm = calm v s
outcome_calm (action_failed v) here s then calm = tt
outcome_calm (miss key) here s then calm = tt

choice_calm : (v : PureValue) (here : Place) (on off : Situation → Completion) (s : Situation) → IsCalm (on s) → IsCalm (off s)
    → IsCalm (choose v here on off s)
choice_calm (boolean true) here on off s h k = h
choice_calm (boolean false) here on off s h k = k
choice_calm (integer n) here on off s h k = tt
choice_calm (text cs) here on off s h k = tt
choice_calm (symbol n) here on off s h k = tt
choice_calm (kind x) here on off s h k = tt
choice_calm (procedure f) here on off s h k = tt
choice_calm (list vs) here on off s h k = tt

cond_calm : (b : Bool) (c d : Completion) → IsCalm c → IsCalm d → IsCalm (cond b c d)
cond_calm true c d h k = h
cond_calm false c d h k = k

pub walk_calm : (m : Actions) (n : ℕ) (o p : PureValue) (s : Situation) → IsCalm (walk m n o p s)
walk_calm m zero o p s = tt
walk_calm m (suc n) o p s =
    outcome_calm own.outcome get_place (record s { heap = own.heap }) asked
    (λ b u. choice_calm b get_place found above u
    (outcome_calm (got u).outcome get_place (record u { heap = (got u).heap }) gives (λ v r. tt))
    (outcome_calm (proto u).outcome get_place (record u { heap = (proto u).heap }) further
    (λ q r. cond_calm (same_value q (kind Null)) (returns (kind Undef) r) (walk m n q p r) tt (walk_calm m n q p r))))
  where
    own : ActionResult
    own = m.act (codes "has") None (o ∷ p ∷ []) s.heap

    got : Situation → ActionResult
    got u = m.act (codes "get") None (o ∷ p ∷ []) u.heap

    proto : Situation → ActionResult
    proto u = m.act (codes "getproto") None (o ∷ []) u.heap

    gives : PureValue → Situation → Completion
    gives v r = returns v r

    found : Situation → Completion
    found u = after_action (got u) get_place u gives

    further : PureValue → Situation → Completion
    further q r = cond (same_value q (kind Null)) (returns (kind Undef) r) (walk m n q p r)

    above : Situation → Completion
    above u = after_action (proto u) get_place u further

    asked : PureValue → Situation → Completion
    asked b u = choose b get_place found above u

-- ---- the commands of the procedure

-- which actions take a symbol
pub record TakesForWalks (m : Actions) : Type 0 where
  pub has : m.takes_symbol (codes "has") ≡ false
  pub get : m.takes_symbol (codes "get") ≡ false
  pub getproto : m.takes_symbol (codes "getproto") ≡ false

module _ (program : PureParts) (m : Actions) (takes : TakesForWalks m) (inputs : List PureValue)
    (found : find_proc program.procs get_name ≡ Some get_proc) (callers : List Frame) where
  abbrev go : ℕ → State → End
  go = run program m inputs

  abbrev at : ℕ → Store → Situation → State
  at pc store s = state_at get_name pc callers store s

  on_step : (st : State) (r : Step) → machine.step program m inputs st ≡ r → LeadsOn go st r
  on_step st r is = one_step program m inputs get_name get_proc found callers None st r is

  step_leads : (st : State) (r : Step) → machine.step program m inputs st ≡ r → Leads go st r
  step_leads st r is = leads go st r (on_step st r is)

  does : (pc : ℕ) (c : PureNumberedCommand) (store : Store) (s : Situation) → slice_get get_proc.body pc ≡ Some c
      → machine.step program m inputs (at pc store s) ≡ machine.do_command program m inputs c.command (record { proc = get_name; at = c.at }) (at pc store s)
  does pc c store s is = steps program m inputs get_name get_proc found callers None pc c store s is

  -- an action of the procedure
  finishes_outcome : (some pc : ℕ) (x : List ℕ) (store : Store) (s : Situation) (st : State) (out : PureOutcome) (then : PureValue → Situation → Completion)
      → machine.step program m inputs st ≡ machine.after_action out x get_place (at pc store s)
      → ((v : PureValue) → Finishes go some callers (at (pc + 1) (bind x v store) s) (then v s))
      → Finishes go some callers st (with_outcome out get_place s then)
  finishes_outcome some pc x store s st (done v) then is next = finishes_after go some callers st _ (then v s) (step_leads st _ is) (next v)
  finishes_outcome some pc x store s st (action_failed v) then is next = (step_leads st _ is, tt)
  finishes_outcome some pc x store s st (miss key) then is next = (step_leads st _ is, tt)

  -- a jump of the procedure
  finishes_choice : (some pc label : ℕ) (store : Store) (s : Situation) (v : PureValue) (on off : Situation → Completion)
      → machine.step program m inputs (at pc store s) ≡ machine.branch v (pos label) get_place (at pc store s)
      → Finishes go some callers (at label store s) (on s) → Finishes go some callers (at (pc + 1) store s) (off s)
      → Finishes go some callers (at pc store s) (choose v get_place on off s)
  finishes_choice some pc label store s v on off is at_on at_off = by v is
    where
      by : (v : PureValue) → machine.step program m inputs (at pc store s) ≡ machine.branch v (pos label) get_place (at pc store s)
          → Finishes go some callers (at pc store s) (choose v get_place on off s)
      by (boolean true) is = finishes_after go some callers _ _ (on s) (step_leads _ _ is) at_on
      by (boolean false) is = finishes_after go some callers _ _ (off s) (step_leads _ _ is) at_off
      by (integer n) is = (step_leads _ _ is, tt)
      by (text cs) is = (step_leads _ _ is, tt)
      by (symbol n) is = (step_leads _ _ is, tt)
      by (kind k) is = (step_leads _ _ is, tt)
      by (procedure g) is = (step_leads _ _ is, tt)
      by (list vs) is = (step_leads _ _ is, tt)

  both_read : (l q : PureValue) (store : Store) → value_of store (codes "o") ≡ Some l → value_of store (codes "p") ≡ Some q
      → evaluate_all (object ∷ property ∷ []) store ≡ Ok (l ∷ q ∷ [])
  both_read l q store is_o is_p = λ k. both (set_or_fault (is_o k)) (both (set_or_fault (is_p k)) (Ok []))

  -- an action of two arguments
  acts_on_both : (pc : ℕ) (x a : List ℕ) (l q : PureValue) (store : Store) (s : Situation) → m.takes_symbol a ≡ false
      → value_of store (codes "o") ≡ Some l → value_of store (codes "p") ≡ Some q
      → machine.step program m inputs (at pc store s) ≡ machine.with_values (evaluate_all (object ∷ property ∷ []) store) get_place (at pc store s)
      (λ args. machine.do_action (m.takes_symbol a) m x a args get_place (at pc store s))
      → machine.step program m inputs (at pc store s) ≡ machine.after_action (m.act a None (l ∷ q ∷ []) s.heap).outcome x get_place
      (at pc store (record s { heap = (m.act a None (l ∷ q ∷ []) s.heap).heap }))
  acts_on_both pc x a l q store s off is_o is_p is =
      is
      ∙ ap (λ r. machine.with_values r get_place (at pc store s) (λ args. machine.do_action (m.takes_symbol a) m x a args get_place (at pc store s)))
      (both_read l q store is_o is_p)
      ∙ ap (λ b. machine.do_action b m x a (l ∷ q ∷ []) get_place (at pc store s)) off

  -- a step counts
  finishes_on : (some : ℕ) (st next : State) (c : Completion) → LeadsOn go st (goes_on next) → Finishes go some callers next c
      → Finishes go (suc some) callers st c
  finishes_on some st next (normal s) l r = leads_on go _ _ _ (leads go _ _ l) r
  finishes_on some st next (returns v s) l r = leads_on go _ _ _ (leads go _ _ l) r
  finishes_on some st next (throws v here s) l r = leads_on go _ _ _ (leads go _ _ l) r
  finishes_on some st next (over e) l r = (leads_on go _ _ _ (leads go _ _ l) r.0, r.1)
  finishes_on some st next unfinished l r = let a = l.by r.0 in (a.0, omega (arith, a.1, r.1), ap (λ e. e.ending) a.2 ∙ r.2)

  finishes_fewer : (least more : ℕ) (st : State) (c : Completion) → least ≤ more → Finishes go more callers st c → Finishes go least callers st c
  finishes_fewer least more st (normal s) le r = r
  finishes_fewer least more st (returns v s) le r = r
  finishes_fewer least more st (throws v here s) le r = r
  finishes_fewer least more st (over e) le r = r
  finishes_fewer least more st unfinished le r = (r.0, omega (arith, r.1), r.2)

  pub walk_finishes : (n some : ℕ) → some ≤ n → (l q : PureValue) (store : Store) (s : Situation) → value_of store (codes "o") ≡ Some l
      → value_of store (codes "p") ≡ Some q → Finishes go some callers (at 0 store s) (walk m n l q s)
  walk_finishes zero some le l q store s is_o is_p = (0, le, refl)
  walk_finishes (suc n) some le l q store s is_o is_p =
      finishes_outcome some 0 (codes "b") store t _ own.outcome _
      (acts_on_both 0 (codes "b") (codes "has") l q store s takes.has is_o is_p (does 0 _ store s refl))
      (asked (λ up store2 r is_up is_q. walk_finishes n (some - 1) (omega (arith, le)) up q store2 r is_up is_q))
    where
      Again : Type 0
      Again = (up : PureValue) (store2 : Store) (r : Situation) → value_of store2 (codes "o") ≡ Some up → value_of store2 (codes "p") ≡ Some q
          → Finishes go (some - 1) callers (at 0 store2 r) (walk m n up q r)

      own : ActionResult
      own = m.act (codes "has") None (l ∷ q ∷ []) s.heap

      t : Situation
      t = record s { heap = own.heap }

      asked : Again → (b : PureValue) → Finishes go some callers (at 1 (bind (codes "b") b store) t)
          (choose b get_place
          (λ u. after_action (m.act (codes "get") None (l ∷ q ∷ []) u.heap) get_place u (λ v r. returns v r))
          (λ u. after_action (m.act (codes "getproto") None (l ∷ []) u.heap) get_place u
          (λ up r. cond (same_value up (kind Null)) (returns (kind Undef) r) (walk m n up q r))) t)
      asked again b = finishes_choice some 1 5 store1 t b _ _ (does 1 _ store1 t refl) is_own is_none
        where
          store1 : Store
          store1 = bind (codes "b") b store

          got : ActionResult
          got = m.act (codes "get") None (l ∷ q ∷ []) t.heap

          above : ActionResult
          above = m.act (codes "getproto") None (l ∷ []) t.heap

          is_own : Finishes go some callers (at 5 store1 t) (after_action got get_place t (λ v r. returns v r))
          is_own = finishes_outcome some 5 (codes "v") store1 (record t { heap = got.heap }) _ got.outcome _
              (acts_on_both 5 (codes "v") (codes "get") l q store1 t takes.get is_o is_p (does 5 _ store1 t refl))
              (λ v. step_leads _ _ (does 6 _ (bind (codes "v") v store1) (record t { heap = got.heap }) refl
              ∙ leaves callers callers get_name 6 v (bind (codes "v") v store1) (record t { heap = got.heap })))

          is_none : Finishes go some callers (at 2 store1 t) (after_action above get_place t
              (λ up r. cond (same_value up (kind Null)) (returns (kind Undef) r) (walk m n up q r)))
          is_none = finishes_outcome some 2 (codes "o") store1 r _ above.outcome _
              (does 2 _ store1 t refl
              ∙ ap (λ a. machine.with_values a get_place (at 2 store1 t) (λ args. machine.do_action (m.takes_symbol (codes "getproto")) m (codes "o") (codes "getproto") args get_place (at 2 store1 t)))
              (λ k. both (set_or_fault (is_o k)) (Ok []))
              ∙ ap (λ f. machine.do_action f m (codes "o") (codes "getproto") (l ∷ []) get_place (at 2 store1 t)) takes.getproto)
              (λ up. by_null up (same_value up (kind Null)) refl)
            where
              r : Situation
              r = record t { heap = above.heap }

              by_null : (up : PureValue) (b : Bool) → same_value up (kind Null) ≡ b
                  → Finishes go some callers (at 3 (bind (codes "o") up store1) r) (cond b (returns (kind Undef) r) (walk m n up q r))
              by_null up true is =
                  leads_on go _ _ _
                  (step_leads _ _ (does 3 _ store2 r refl ∙ ap (λ b. machine.branch (boolean b) (pos 7) get_place (at 3 store2 r)) is))
                  (step_leads _ _ (does 7 _ store2 r refl ∙ leaves callers callers get_name 7 (kind Undef) store2 r))
                where
                  store2 : Store
                  store2 = bind (codes "o") up store1
              by_null up false is =
                  finishes_fewer some (suc (some - 1)) _ (walk m n up q r) (omega arith)
                  (finishes_on (some - 1) _ (at 4 store2 r) (walk m n up q r)
                  (on_step _ _ (does 3 _ store2 r refl ∙ ap (λ b. machine.branch (boolean b) (pos 7) get_place (at 3 store2 r)) is))
                  (finishes_after go (some - 1) callers _ (at 0 store2 r) (walk m n up q r)
                  (step_leads _ _ (does 4 _ store2 r refl))
                  (again up store2 r refl is_p)))
                where
                  store2 : Store
                  store2 = bind (codes "o") up store1
