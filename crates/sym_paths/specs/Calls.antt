-- The candidates of a call: the callee is evaluated, then the arguments, and then the callee must be a procedure of the program with
-- as many parameters. Where it is no literal, its literal form is needed.
use Rattle.std.specs.Prelude.{◌≡◌, ◌⊎◌, ℕ, ◌+◌, ℤ, List, [], ◌∷◌, ◌++◌, length, map, false, ◌==◌, MatchBool, Option, Some, None, IsTrue, codes}
use Rattle.std.specs.Option.{option_map}
use Rattle.gil_values.specs.declared.kinds.Kind.{Kind}
use Rattle.gil_values.specs.declared.places.Place.{Place}
use Rattle.gil_values.specs.Pure.{PureValue}
use Rattle.gil_syntax.specs.Pure.{PureParts, PureProc, PureExpr, PureNumberedCommand, call}
use Rattle.gil_syntax.specs.Programs.{find_proc}
use Rattle.gil_machine.specs.Step.{handler_label}
use Rattle.mem_model.specs.Actions.{Actions}
use Rattle.mem_model.specs.Heaps.{Heap}
use Rattle.pure_terms.specs.declared.literals.Literal.{Literal}
use Rattle.pure_terms.specs.Kinds.{allows, known_kind}
use Rattle.pure_terms.specs.Pure.{PureTerm, literal, PureAtom, opening}
use Rattle.sym_evaluation.specs.Pure.{PureStore, PureFaultCase, PureGoodCase, PureCases}
use Rattle.sym_evaluation.specs.Questions.{IsAsked, IsTermOf}
use Rattle.sym_model.specs.Lists.{OneOf}
use Rattle.sym_model.specs.Terms.{StateTerms, is_literal}
pub use Rattle.sym_paths.specs.Frames.{terms_bound, IsFirstStore, waiting, called_frame}
use Rattle.sym_paths.specs.Meaning.{IsOverTable, command_of_path}
use Rattle.sym_paths.specs.Moves.{running_store, NoOwn}
use Rattle.sym_paths.specs.Pure.{PurePath}
use Rattle.sym_paths.specs.Settling.{Candidate, AreCandidates}
use Rattle.sym_paths.specs.Valued.{place_at, IsEvaluated}
use Rattle.sym_paths.specs.Cases.{AreOfCases, failing_with, AreEvaluated}

-- ---- the cases of the callee and of the arguments after it

-- the terms of the callee and of the arguments
pub record Called : Type 0 where
  pub callee : PureTerm
  pub args : List PureTerm

abbrev pub fault_under : List PureAtom → PureFaultCase → PureFaultCase
fault_under conds fc = record { conds = conds ++ fc.conds; fault = fc.fault }

abbrev pub called_with : PureGoodCase PureTerm → PureGoodCase (List PureTerm) → PureGoodCase Called
called_with g h = record { conds = g.conds ++ h.conds; result = record { callee = g.result; args = h.result } }

abbrev pub call_cases_by : List PureFaultCase → Option (PureGoodCase PureTerm) → PureCases (List PureTerm) → PureCases Called
call_cases_by faults None args = record { faults = faults; good = None }
call_cases_by faults (Some g) args = record {
  faults = faults ++ map (fault_under g.conds) args.faults;
  good = option_map (called_with g) args.good;
}

abbrev pub call_cases : PureCases PureTerm → PureCases (List PureTerm) → PureCases Called
call_cases callee args = call_cases_by callee.faults callee.good args

-- ---- the candidates

module _ {S : Type 0} (path : PurePath S) (x : List ℕ) (label : Option ℕ) (here : Place) where
  -- the path goes on in the procedure
  abbrev pub entering : PureProc → PureStore → PureGoodCase Called → Candidate S
  entering q bs g = record {
    path = record path { conds = path.conds ++ g.conds; stack = called_frame q bs ∷ waiting x label path.stack; steps = path.steps + 1 };
    no_fault = g.conds;
  }

  abbrev pub fails_to_call : List ℕ → PureGoodCase Called → Candidate S
  fails_to_call why g = failing_with path here why g []

  -- the literal form of the callee is needed
  abbrev pub needs_callee : PureGoodCase Called → Candidate S
  needs_callee g = record {
    path = record path { conds = path.conds ++ (g.conds ++ opening g.result.callee ∷ []); steps = path.steps + 1 };
    no_fault = g.conds;
  }

  abbrev pub EntersFound : Option PureProc → PureGoodCase Called → Candidate S → Type 0
  EntersFound None g d = d ≡ fails_to_call (codes "proc") g
  EntersFound (Some q) g d =
      MatchBool (length g.result.args == length q.params) ((bs : PureStore) × (IsFirstStore q.params g.result.args bs × (d ≡ entering q bs g)))
      (d ≡ fails_to_call (codes "arity") g)

  -- a callee that is no literal: where its kind is known, and isn't that of procedures, the call fails
  abbrev pub CallsOpen : Option Kind → PureGoodCase Called → Candidate S → Type 0
  CallsOpen known g d = MatchBool (allows known Kind.Proc) (d ≡ needs_callee g) (d ≡ fails_to_call (codes "proc") g)

  abbrev pub CallsTerm : PureParts → PureTerm → PureGoodCase Called → Candidate S → Type 0
  CallsTerm p (literal (Literal.Proc f)) g d = EntersFound (find_proc p.procs f) g d
  CallsTerm p (literal l) g d = d ≡ fails_to_call (codes "proc") g
  CallsTerm p t g d = CallsOpen (known_kind t) g d

  abbrev pub Calls : PureParts → PureGoodCase Called → List (Candidate S) → Type 0
  Calls p g ds = (d : Candidate S) × (CallsTerm p g.result.callee g d × (ds ≡ d ∷ []))

-- what a call may ask: what its expressions ask, and the literal form of a callee that is no literal and may be a procedure
abbrev pub IsAskedByCall : PureStore → PureExpr → List PureExpr → PureAtom → Type 0
IsAskedByCall bs e es a =
    IsAsked bs e a
    ⊎ (OneOf (λ d. IsAsked bs d a) es
    ⊎ ((t : PureTerm) × (IsTermOf bs e t × (is_literal t ≡ false) × IsTrue (allows (known_kind t) Kind.Proc) × (a ≡ opening t))))

abbrev pub CallsKeepTheLaws : {S : Type 0} → (S → List PureValue → Heap → Type 0) → (S → StateTerms) → Type 0
CallsKeepTheLaws {S} stands terms =
    (p : PureParts) (m : Actions) (path : PurePath S) (c : PureNumberedCommand) (x : List ℕ) (e : PureExpr) (es : List PureExpr)
    (handler : Option ℤ) (callee : PureCases PureTerm) (args : PureCases (List PureTerm)) (cs : List (Candidate S)) → IsOverTable terms path
    → path.ending ≡ None → command_of_path p path ≡ Some c → c.command ≡ call x e es handler → IsEvaluated (running_store path.stack) e callee
    → AreEvaluated (running_store path.stack) es args
    → AreOfCases path (place_at path.stack c) (Calls path x (handler_label handler) (place_at path.stack c) p) (call_cases callee args) cs
    → AreCandidates p m stands terms (IsAskedByCall (running_store path.stack) e es) NoOwn path cs
