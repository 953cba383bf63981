-- Where the terms of a next path come from. A name that a command gives a term has that of the command's right side, of what is handed
-- over or handed back, one that an action answers, or a new variable; every other name keeps its term, and so does the memory but in an
-- action.
use Rattle.std.specs.Prelude.{◌≡◌, ◌⊎◌, ℕ, ℤ, List, ◌∷◌, ◌++◌, Option, Some, None}
use Rattle.gil_values.specs.declared.places.Place.{Place}
use Rattle.gil_syntax.specs.Programs.{find_proc}
use Rattle.gil_syntax.specs.Pure.{PureParts, PureProc, PureExpr, PureCommand, assign, call, act, usym, isym, ifgoto, return, fail, throw, vanish, fold_use, unfold_use, assert_that, loop_invariant, PureNumberedCommand}
use Rattle.gil_machine.specs.Step.{handler_label}
use Rattle.mem_model.specs.Actions.{Actions}
use Rattle.pure_terms.specs.declared.literals.Literal.{Literal}
use Rattle.pure_terms.specs.declared.variables.Sort.{Sort}
use Rattle.pure_terms.specs.Pure.{PureTerm, literal}
use Rattle.sym_evaluation.specs.Pure.{PureStore}
use Rattle.sym_evaluation.specs.Questions.{IsTermOf, AreTermsOf}
use Rattle.sym_model.specs.Lists.{Each}
use Rattle.sym_model.specs.Terms.{StateTerms, all_of, IsMadeOf}
use Rattle.sym_paths.specs.Frames.{running_store, advanced, AreMoved, IsBound, IsFirstStore, waiting, called_frame, Resumes, handling, Catches, draw_sort, next_variable, fresh_where}
use Rattle.sym_paths.specs.Meaning.{command_of_path}
use Rattle.sym_paths.specs.Pure.{PureFrame, failed, threw, PurePath}

-- the term is a text
abbrev pub IsText : PureTerm → Type 0
IsText t = (why : List ℕ) × (t ≡ literal (Literal.Str why))

-- ---- at an action, at `fail` and at `throw`

module _ {S : Type 0} (m : Actions) (terms : S → StateTerms) (path : PurePath S) where
  -- the term is made of those of the arguments and of the memory, and of the fresh variable, if any
  abbrev pub IsAnswered : List ℕ → List PureTerm → PureTerm → Type 0
  IsAnswered action args t = IsMadeOf (args ++ all_of (terms path.memory)) (fresh_where (m.takes_symbol action) path.vars) t

  -- the term is one with which the path fails at this command without a fault: that of the expression of `fail`, or an action's answer
  abbrev pub IsFailing : PureCommand → PureTerm → Type 0
  IsFailing (fail e) t = IsTermOf (running_store path.stack) e t
  IsFailing (act x action es) t =
      (args : List PureTerm) × (AreTermsOf (running_store path.stack) es args × IsAnswered action args t)
  IsFailing (assign x e) t = ⊥
  IsFailing (call x e es handler) t = ⊥
  IsFailing (usym x) t = ⊥
  IsFailing (isym x k) t = ⊥
  IsFailing (ifgoto e i) t = ⊥
  IsFailing (return e) t = ⊥
  IsFailing (throw e) t = ⊥
  IsFailing vanish t = ⊥
  IsFailing (fold_use u) t = ⊥
  IsFailing (unfold_use u) t = ⊥
  IsFailing (assert_that items) t = ⊥
  IsFailing (loop_invariant xs ps items) t = ⊥

  -- the term is one that is thrown at this command: that of the expression of `throw`
  abbrev pub IsThrown : PureCommand → PureTerm → Type 0
  IsThrown (throw e) t = IsTermOf (running_store path.stack) e t
  IsThrown (assign x e) t = ⊥
  IsThrown (call x e es handler) t = ⊥
  IsThrown (act x action es) t = ⊥
  IsThrown (usym x) t = ⊥
  IsThrown (isym x k) t = ⊥
  IsThrown (ifgoto e i) t = ⊥
  IsThrown (return e) t = ⊥
  IsThrown (fail e) t = ⊥
  IsThrown vanish t = ⊥
  IsThrown (fold_use u) t = ⊥
  IsThrown (unfold_use u) t = ⊥
  IsThrown (assert_that items) t = ⊥
  IsThrown (loop_invariant xs ps items) t = ⊥

-- ---- where the path goes on

module _ {S : Type 0} (p : PureParts) (m : Actions) (terms : S → StateTerms) (path next : PurePath S) where
  abbrev pub KeepsMemory : Type 0
  KeepsMemory = terms next.memory ≡ terms path.memory

  -- the frame that runs goes to the next command, where a name has this term, and each other one the term that it had
  abbrev pub HasNow : List ℕ → PureTerm → Type 0
  HasNow x t = (bs : PureStore) × (IsBound (running_store path.stack) x t bs × (next.stack ≡ advanced bs path.stack))

  -- a procedure begins with the terms of the arguments for its parameters
  pub record HandsOver (x : List ℕ) (e : PureExpr) (es : List PureExpr) (handler : Option ℤ) : Type 0 where
    pub callee : List ℕ
    pub named : IsTermOf (running_store path.stack) e (literal (Literal.Proc callee))
    pub procedure : PureProc
    pub found : find_proc p.procs callee ≡ Some procedure
    pub args : List PureTerm
    pub from : AreTermsOf (running_store path.stack) es args
    pub store : PureStore
    pub first : IsFirstStore procedure.params args store
    pub stack : next.stack ≡ called_frame procedure store ∷ waiting x (handler_label handler) path.stack

  -- the frame that waited goes on with the term of what is returned
  pub record HandsBack (e : PureExpr) : Type 0 where
    pub frame : PureFrame
    pub caller : PureFrame
    pub callers : List PureFrame
    pub stack : path.stack ≡ frame ∷ caller ∷ callers
    pub term : PureTerm
    pub from : IsTermOf (running_store path.stack) e term
    pub resumed : PureFrame
    pub resumes : Resumes term caller resumed
    pub next_stack : next.stack ≡ resumed ∷ callers

  -- the first of the callers whose call has a handler catches the term that is thrown
  pub record HandsUp (e : PureExpr) : Type 0 where
    pub frame : PureFrame
    pub callers : List PureFrame
    pub stack : path.stack ≡ frame ∷ callers
    pub term : PureTerm
    pub from : IsTermOf (running_store path.stack) e term
    pub catches : Catches term (handling callers) next.stack

  -- the name has the action's answer, and the memory's terms are made of the same
  pub record IsActed (x action : List ℕ) (es : List PureExpr) : Type 0 where
    pub args : List PureTerm
    pub from : AreTermsOf (running_store path.stack) es args
    pub result : PureTerm
    pub made : IsAnswered m terms path action args result
    pub has_now : HasNow x result
    pub memory : Each (IsAnswered m terms path action args) (all_of (terms next.memory))

  -- what a path that goes on has after this command
  abbrev pub GoesOnFrom : PureCommand → Type 0
  GoesOnFrom (assign x e) = KeepsMemory × ((t : PureTerm) × (IsTermOf (running_store path.stack) e t × HasNow x t))
  GoesOnFrom (usym x) = KeepsMemory × HasNow x (next_variable path Sort.Fresh)
  GoesOnFrom (isym x k) = KeepsMemory × ((sort : Sort) × ((draw_sort k ≡ Some sort) × HasNow x (next_variable path sort)))
  GoesOnFrom (call x e es handler) = KeepsMemory × HandsOver x e es handler
  GoesOnFrom (return e) = KeepsMemory × HandsBack e
  GoesOnFrom (throw e) = KeepsMemory × HandsUp e
  GoesOnFrom (act x action es) = IsActed x action es
  GoesOnFrom (ifgoto e i) = KeepsMemory × AreMoved path.stack next.stack
  GoesOnFrom (fold_use u) = KeepsMemory × AreMoved path.stack next.stack
  GoesOnFrom (unfold_use u) = KeepsMemory × AreMoved path.stack next.stack
  GoesOnFrom (assert_that items) = KeepsMemory × AreMoved path.stack next.stack
  GoesOnFrom (loop_invariant xs ps items) = KeepsMemory × AreMoved path.stack next.stack
  GoesOnFrom (fail e) = ⊥
  GoesOnFrom vanish = ⊥

-- Origin: where the next path goes on, each name and the memory have what the command gives them; where it fails, the failing term is a
-- text, or from the command; and where it throws, the thrown term is from the command.
pub record Follows {S : Type 0} (p : PureParts) (m : Actions) (terms : S → StateTerms) (path next : PurePath S) : Type 0 where
  pub going : (c : PureNumberedCommand) → command_of_path p path ≡ Some c → next.ending ≡ None → GoesOnFrom p m terms path next c.command
  pub failing : (c : PureNumberedCommand) (t : PureTerm) (place : Place) → command_of_path p path ≡ Some c
      → next.ending ≡ Some (failed t place) → IsText t ⊎ IsFailing m terms path c.command t
  pub throwing : (c : PureNumberedCommand) (t : PureTerm) (place : Place) → command_of_path p path ≡ Some c
      → next.ending ≡ Some (threw t place) → IsThrown m terms path c.command t
