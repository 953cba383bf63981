-- What a step needs of the program, and the kinds of commands.
use Rattle.std.proofs.Common.{◌≡◌, ℕ, List, [], ◌∷◌, ◌++◌, Bool, true, false, ◌&&◌, Option, Some, None, IsTrue, refl, sym, ap, subst, ◌∙◌, true≢false}
use Rattle.std.specs.List.{list_all}
use Rattle.std.proofs.lemmas.List.Folds.{list_all-append}
use Rattle.gil_syntax.specs.declared.assertions.Item.{Item}
use Rattle.gil_syntax.specs.declared.assertions.Param.{Param}
use Rattle.gil_syntax.specs.declared.assertions.PredUse.{PredUse}
use Rattle.gil_syntax.specs.declared.commands.Command.{Command}
use Rattle.gil_syntax.specs.View.{command_view}
use Rattle.gil_syntax.specs.Programs.{find_proc, find_spec}
use Rattle.gil_syntax.specs.Pure.{PureCommand, return, throw, PureNumberedCommand, PureExpr, PureProc, PureSpec, PureParts}
use Rattle.gil_syntax.specs.Subexpressions.{literals_of}
use Rattle.gil_syntax.specs.Valid.{param_names}
use Rattle.gil_syntax.specs.WellMade.{is_spellable}
use Rattle.gil_machine.specs.Step.{command_of}
use Rattle.mem_model.specs.declared.keys.MemoryName.{MemoryName}
use Rattle.addable_programs.specs.Addable.{IsAddable, IsAddableCommand}
use Rattle.sym_model.proofs.ListLaws.{not_none, same_some}
use Rattle.sym_paths.specs.Meaning.{command_of_frames}
use Rattle.sym_paths.specs.Pure.{PureFrame}
use Rattle.sym_states.specs.Producing.{are_spelled}
use Rattle.checked_paths.specs.Following.{is_of_machine, stays_in_frame}
use Rattle.checked_rows.specs.Ending.{IsLeaving}
use Rattle.call_rows.specs.Calling.{IsCall}

-- ---- what is asked of the command

module _ (p : PureParts) (memory : MemoryName) (addable : IsAddable p memory) where
  found_addable : (f : List ℕ) (i : ℕ) (n : PureNumberedCommand) (o : Option PureProc) → find_proc p.procs f ≡ o → command_of o i ≡ Some n → IsAddableCommand p memory n.command
  found_addable f i n (Some q) found at = addable.commands q f i n found at
  found_addable f i n None found at = not_none at

  pub addable_there : (fs : List PureFrame) (n : PureNumberedCommand) → command_of_frames p fs ≡ Some n → IsAddableCommand p memory n.command
  addable_there [] n at = not_none at
  addable_there (f ∷ fs) n at = found_addable f.procedure f.next n (find_proc p.procs f.procedure) refl at

and_first : (b c : Bool) → IsTrue (b && c) → IsTrue b
and_first true c is = refl
and_first false c is = absurd (true≢false (sym is))

and_second : (b c : Bool) → IsTrue (b && c) → IsTrue c
and_second true c is = is
and_second false c is = absurd (true≢false (sym is))

module _ (ins outs : List PureExpr) (all : IsTrue (are_spelled (ins ++ outs))) where
  apart : IsTrue (are_spelled ins && are_spelled outs)
  apart = subst IsTrue (list_all-append (λ e. list_all is_spellable (literals_of e)) ins outs) all

  pub ins_spelled : IsTrue (are_spelled ins)
  ins_spelled = and_first (are_spelled ins) (are_spelled outs) apart

  pub outs_spelled : IsTrue (are_spelled outs)
  outs_spelled = and_second (are_spelled ins) (are_spelled outs) apart

-- a command is a call, a return or a throw, another one of the machine, or a logic command
pub of_some_kind : (c : Command) → ¬ IsCall (command_view c) → ¬ IsLeaving (command_view c) → is_of_machine (command_view c) ≡ false
    → ((u : PredUse) → c ≡ Command.Fold u → ⊥) → ((u : PredUse) → c ≡ Command.Unfold u → ⊥) → ((items : List Item) → c ≡ Command.AssertThat items → ⊥)
    → ((xs : List (List ℕ)) (ps : List Param) (items : List Item) → c ≡ Command.LoopInvariant xs ps items → ⊥) → ⊥
of_some_kind (Command.Assign x e) call leaving other folds unfolds asserts invariant = true≢false other
of_some_kind (Command.Call x e es handler) call leaving other folds unfolds asserts invariant = call tt
of_some_kind (Command.Act x y es) call leaving other folds unfolds asserts invariant = true≢false other
of_some_kind (Command.Usym x) call leaving other folds unfolds asserts invariant = true≢false other
of_some_kind (Command.Isym x k) call leaving other folds unfolds asserts invariant = true≢false other
of_some_kind (Command.IfGoto e i) call leaving other folds unfolds asserts invariant = true≢false other
of_some_kind (Command.Return e) call leaving other folds unfolds asserts invariant = leaving tt
of_some_kind (Command.Fail e) call leaving other folds unfolds asserts invariant = true≢false other
of_some_kind (Command.Throw e) call leaving other folds unfolds asserts invariant = leaving tt
of_some_kind Command.Vanish call leaving other folds unfolds asserts invariant = true≢false other
of_some_kind (Command.Fold u) call leaving other folds unfolds asserts invariant = folds u refl
of_some_kind (Command.Unfold u) call leaving other folds unfolds asserts invariant = unfolds u refl
of_some_kind (Command.AssertThat items) call leaving other folds unfolds asserts invariant = asserts items refl
of_some_kind (Command.LoopInvariant xs ps items) call leaving other folds unfolds asserts invariant = invariant xs ps items refl

-- a command of the machine that is no return or throw doesn't leave its frame
pub machine_stays : (c : PureCommand) → IsTrue (is_of_machine c) → ¬ IsLeaving c → IsTrue (stays_in_frame c)
machine_stays (return e) is other = absurd (other tt)
machine_stays (throw e) is other = absurd (other tt)
machine_stays c is other = is

-- the procedure of a specification has its parameters
pub params_there : (p : PureParts) (memory : MemoryName) → IsAddable p memory → (s : PureSpec) → find_spec p.specs s.name ≡ Some s → (q : PureProc) → find_proc p.procs s.name ≡ Some q
    → q.params ≡ param_names s.params
params_there p memory addable s found q there =
    let (r, (there_too, same)) = addable.procs s s.name found in
    ap (λ (x : PureProc). x.params) (same_some (sym there ∙ there_too)) ∙ same
