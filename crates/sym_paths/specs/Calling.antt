-- What a step of a path leads to at a call: it goes on in a procedure with the terms of the arguments, it fails with a text, or it is
-- unknown.
use Rattle.std.specs.Prelude.{◌≡◌, ◌⊎◌, ℕ, ℤ, List, length, Option, Some, None, Ok, ⊤}
use Rattle.gil_values.specs.declared.places.Place.{Place}
use Rattle.gil_values.specs.Pure.{PureValue, procedure}
use Rattle.gil_syntax.specs.Evaluation.{evaluate, evaluate_all}
use Rattle.gil_syntax.specs.Pure.{PureProc, PureParts, PureExpr, PureNumberedCommand, call}
use Rattle.gil_machine.specs.State.{State}
use Rattle.gil_machine.specs.Step.{step, enter, fails_with, handler_label}
use Rattle.mem_model.specs.Actions.{Actions}
use Rattle.mem_model.specs.Heaps.{Heap}
use Rattle.pure_terms.specs.Meaning.{value, Satisfies}
use Rattle.pure_terms.specs.Pure.{PureTerm}
use Rattle.sym_model.specs.Lists.{Each, OneOf}
use Rattle.sym_model.specs.Terms.{StateTerms}
use Rattle.sym_paths.specs.Meaning.{StandsForStep, Stands, command_of_path}
use Rattle.sym_paths.specs.Origins.{IsText, HandsOver, Follows}
use Rattle.sym_paths.specs.Pure.{PureEnd, returned, failed, threw, missed, vanished, cut, unknown, PurePath}
use Rattle.sym_paths.specs.Steps.{IsUnknown, Grows, IsRecorded, Covers, IsExact}

module _ {S : Type 0} (p : PureParts) (m : Actions) (stands : S → List PureValue → Heap → Type 0) (terms : S → StateTerms)
    (path : PurePath S) (x : List ℕ) (e : PureExpr) (es : List PureExpr) (handler : Option ℤ) where
  -- the machine calls this procedure, with these values of the arguments
  pub record CallsWith (inputs : List PureValue) (s : State) (q : PureProc) : Type 0 where
    pub callee : evaluate e s.current.store ≡ Ok (procedure q.name)
    pub args : List PureValue
    pub values : evaluate_all es s.current.store ≡ Ok args
    pub as_many : length args ≡ length q.params
    pub leads : step p m inputs s ≡ enter q x (handler_label handler) args s

  -- The path goes on in a procedure, above the frame that waits. Wherever its conditions are met, the machine calls this procedure, and
  -- the path stands for the state in which it begins: so its store gives the parameters the terms of the values.
  pub record GoesIn (next : PurePath S) : Type 0 where
    pub memory_stays : terms next.memory ≡ terms path.memory
    pub hands_over : HandsOver p m terms path next x e es handler
    pub calls : (inputs v : List PureValue) (s : State) → Stands stands path v s → Satisfies next.vars v next.conds
        → CallsWith inputs s hands_over.procedure × StandsForStep p m stands next v s None (step p m inputs s)

  -- The path fails with a text. Wherever its conditions are met, the machine fails with it at this place.
  pub record FailsThere (next : PurePath S) (t : PureTerm) (place : Place) : Type 0 where
    pub text : IsText t
    pub fails : (inputs v : List PureValue) (s : State) → Stands stands path v s → Satisfies next.vars v next.conds
        → (w : PureValue) × ((value v t ≡ Some w) × (step p m inputs s ≡ fails_with w place s))

  -- no state that the path stands for meets the conditions
  abbrev pub IsNeverMet : PurePath S → Type 0
  IsNeverMet next = (v : List PureValue) (s : State) → Stands stands path v s → ¬ Satisfies next.vars v next.conds

  abbrev pub EndsCall : PurePath S → Option PureEnd → Type 0
  EndsCall next None = GoesIn next
  EndsCall next (Some (failed t place)) = FailsThere next t place
  EndsCall next (Some (unknown place reason)) = ⊤
  EndsCall next (Some (returned t)) = IsNeverMet next
  EndsCall next (Some (threw t place)) = IsNeverMet next
  EndsCall next (Some (missed k place)) = IsNeverMet next
  EndsCall next (Some vanished) = IsNeverMet next
  EndsCall next (Some cut) = IsNeverMet next

  -- a path that comes of the call: it has no new variable, draw or choice
  pub record ComesOfCall (next : PurePath S) : Type 0 where
    pub vars : next.vars ≡ path.vars
    pub drawn : next.drawn ≡ path.drawn
    pub choices : next.choices ≡ path.choices
    pub ends : EndsCall next next.ending

  -- one of the paths stands for what the call comes to, or is unknown with its whole list true
  abbrev pub CoverCall : List (PurePath S) → Type 0
  CoverCall nexts =
      (inputs v : List PureValue) (s : State) → Stands stands path v s
      → OneOf (λ next. StandsForStep p m stands next v s next.ending (step p m inputs s)
      ⊎ (IsUnknown next.ending × Satisfies next.vars v next.conds)) nexts

-- The next paths of a path that stands at a call, if they keep the laws of a step, come of the call, and cover what it comes to.
pub record CallsLead {S : Type 0} (m : Actions) (stands : S → List PureValue → Heap → Type 0) (terms : S → StateTerms) : Type 0 where
  pub each : (p : PureParts) (path : PurePath S) (nexts : List (PurePath S)) (c : PureNumberedCommand) (x : List ℕ) (e : PureExpr)
      (es : List PureExpr) (handler : Option ℤ) → command_of_path p path ≡ Some c → c.command ≡ call x e es handler
      → Each (Grows terms path) nexts → Each (IsRecorded p m path) nexts → Each (IsExact p m stands path) nexts
      → Each (Follows p m terms path) nexts → Each (ComesOfCall p m stands terms path x e es handler) nexts
  pub cover : (p : PureParts) (path : PurePath S) (nexts : List (PurePath S)) (c : PureNumberedCommand) (x : List ℕ) (e : PureExpr)
      (es : List PureExpr) (handler : Option ℤ) → command_of_path p path ≡ Some c → c.command ≡ call x e es handler
      → Each (IsRecorded p m path) nexts → Covers p m stands path nexts → CoverCall p m stands terms path x e es handler nexts
