-- A step that adds no condition, and answers one path.
use Rattle.std.proofs.Common.{◌≡◌, inl, ◌+◌, List, [], ◌∷◌, ◌++◌, length, Option, Some, None, IsTrue, refl, sym, ap, subst, ◌∙◌}
use Rattle.std.proofs.lemmas.List.{append-nil, append_cancel_left}
use Rattle.std.specs.Option.{option_and_then}
use Rattle.gil_values.specs.Pure.{PureValue}
use Rattle.gil_syntax.specs.Pure.{PureParts, PureCommand, PureNumberedCommand}
use Rattle.gil_syntax.specs.Programs.{find_proc}
use Rattle.gil_machine.specs.Choices.{choice_at, choice_of}
use Rattle.gil_machine.specs.State.{State}
use Rattle.gil_machine.specs.Step.{command_of, command_at, step, step_at, do_command}
use Rattle.mem_model.specs.Actions.{Actions}
use Rattle.mem_model.specs.Heaps.{Heap}
use Rattle.pure_terms.specs.declared.variables.Sort.{Sort}
use Rattle.pure_terms.specs.Meaning.{all_true, IsProper}
use Rattle.sym_model.specs.Lists.{Each}
use Rattle.sym_model.specs.Meaning.{has_open}
use Rattle.sym_model.specs.Terms.{StateTerms}
use Rattle.sym_paths.specs.Meaning.{AreFrames, frames_of, Stands, StandsForStep, IsOverTable, command_of_frames}
use Rattle.sym_paths.specs.Moves.{NoOwn}
use Rattle.sym_paths.specs.Origins.{Follows}
use Rattle.sym_paths.specs.Pure.{PureFrame, PureEnd, returned, failed, threw, missed, vanished, cut, unknown, PurePath}
use Rattle.sym_paths.specs.Steps.{AreNext, drawn_from, Extends, HasInput, IsUnknown, IsChosen, IsNewSort, IsRightlyUnknown, Grows, IsRecorded, Covers, IsExact, ChoosesAlike, HoldsAlong, StaysSatisfiable, AreNextPaths}
use Rattle.sym_paths.proofs.Assuming.{assumes_nothing}
use Rattle.sym_paths.proofs.Growing.{all_true-more}

-- ---- where a state stands

pub stands_at : (p : PureParts) (v : List PureValue) (fs : List PureFrame) (s : State) → AreFrames v fs (frames_of s) → command_of_frames p fs ≡ command_at p s.current
stands_at p v [] s are = absurd are
stands_at p v (f ∷ fs) s are = λ i. command_of (find_proc p.procs (are.0.procedure i)) (are.0.next i)

module _ (p : PureParts) (m : Actions) (inputs : List PureValue) (s : State) (c : PureNumberedCommand) (command : PureCommand) (at : command_at p s.current ≡ Some c) (is : c.command ≡ command) where
  pub step-is : step p m inputs s ≡ do_command p m inputs command (record { proc = s.current.procedure; at = c.at }) s
  step-is = ap (λ o. step_at p m inputs o s) at ∙ ap (λ k. do_command p m inputs k (record { proc = s.current.procedure; at = c.at }) s) is

  pub choice-is : choice_at p m s ≡ choice_of p m command s
  choice-is = ap (option_and_then (λ (d : PureNumberedCommand). choice_of p m d.command s)) at ∙ ap (λ k. choice_of p m k s) is

-- ---- new variables

pub extended_by : {S : Type 0} (inputs : List PureValue) (s : State) (path next : PurePath S) (sorts : List Sort) (v w : List PureValue) → next.vars ≡ path.vars ++ sorts
    → Extends inputs s path next v w → (ws : List PureValue) × ((w ≡ v ++ ws) × AreNext inputs s.counter s.draws sorts ws)
extended_by inputs s path next sorts v w vars ext =
    let same : ext.new_vars ≡ sorts = append_cancel_left path.vars ext.new_vars sorts (sym ext.vars ∙ vars) in
    (ext.new_values, (ext.values, subst (λ ss. AreNext inputs s.counter s.draws ss ext.new_values) same ext.in_turn))

-- ---- one path without a new condition

-- what the command does of it
pub record IsSilent {S : Type 0} (p : PureParts) (m : Actions) (stands : S → List PureValue → Heap → Type 0) (path next : PurePath S) (sorts : List Sort) : Type 0 where
  pub leads : (inputs v ws : List PureValue) (s : State) → Stands stands path v s → AreNext inputs s.counter s.draws sorts ws → IsProper (path.vars ++ sorts) (v ++ ws)
      → StandsForStep p m stands next (v ++ ws) s next.ending (step p m inputs s)
  pub exists : (inputs v : List PureValue) (s : State) → Stands stands path v s → HasInput (step p m inputs s)
      → (ws : List PureValue) × (AreNext inputs s.counter s.draws sorts ws × IsProper (path.vars ++ sorts) (v ++ ws))
  pub records : IsRecorded p m path next
  pub chooses_nothing : (v : List PureValue) (s : State) → Stands stands path v s → choice_at p m s ≡ None
  pub may_follow : (v : List PureValue) → IsProper path.vars v → (ws : List PureValue) × IsProper (path.vars ++ sorts) (v ++ ws)

-- the next path is the old one, but for its variables, stack, memory, steps and end
pub record IsUnasked {S : Type 0} (terms : S → StateTerms) (path next : PurePath S) (sorts : List Sort) : Type 0 where
  pub vars : next.vars ≡ path.vars ++ sorts
  pub sorts_are_new : Each IsNewSort sorts
  pub conds : next.conds ≡ path.conds
  pub given : next.given ≡ path.given
  pub choices : next.choices ≡ path.choices
  pub drawn : next.drawn ≡ path.drawn ++ drawn_from (length path.vars) sorts
  pub steps : next.steps ≡ path.steps + 1
  pub over : IsOverTable terms next
  pub known : ¬ IsUnknown next.ending

pub rightly : {S : Type 0} (p : PureParts) (path next : PurePath S) (o : Option PureEnd) → ¬ IsUnknown o → IsRightlyUnknown p path next o
rightly p path next None known = tt
rightly p path next (Some (returned t)) known = tt
rightly p path next (Some (failed t place)) known = tt
rightly p path next (Some (threw t place)) known = tt
rightly p path next (Some (missed k place)) known = tt
rightly p path next (Some vanished) known = tt
rightly p path next (Some cut) known = tt
rightly p path next (Some (unknown place reason)) known = absurd (known tt)

pub same_and_none : {A : Type 0} (xs ys : List A) → xs ≡ ys → xs ≡ ys ++ []
same_and_none xs ys same = same ∙ sym (append-nil ys)

module _ {S : Type 0} (p : PureParts) (m : Actions) (stands : S → List PureValue → Heap → Type 0) (terms : S → StateTerms) (path next : PurePath S) (sorts : List Sort)
    (over : IsOverTable terms path) (unasked : IsUnasked terms path next sorts) (silent : IsSilent p m stands path next sorts) (origin : Follows p m terms path next) where
  grows : Grows terms path next
  grows = record {
    new_vars = sorts;
    vars = unasked.vars;
    sorts = unasked.sorts_are_new;
    drawn = unasked.drawn;
    new_conds = [];
    conds = same_and_none next.conds path.conds unasked.conds;
    new_given = [];
    given = same_and_none next.given path.given unasked.given;
    assumed = tt;
    chosen = None;
    choices = same_and_none next.choices path.choices unasked.choices;
    steps = unasked.steps;
    over = unasked.over;
  }

  met : (v ws : List PureValue) → IsProper path.vars v → IsTrue (all_true v path.conds) → IsTrue (all_true (v ++ ws) next.conds)
  met v ws proper meets =
      subst (λ atoms. IsTrue (all_true (v ++ ws) atoms)) (sym unasked.conds) (subst IsTrue (sym (all_true-more path.vars v ws proper.one_each path.conds over.conds)) meets)

  covers : Covers p m stands path (next ∷ [])
  covers inputs v s is has =
      let (ws, (in_turn, proper)) = silent.exists inputs v s is has in
      inl (v ++ ws, (record { new_vars = sorts; new_values = ws; vars = unasked.vars; values = refl; in_turn = in_turn }, inl (silent.leads inputs v ws s is in_turn proper)))

  chosen_none : (v : List PureValue) (s : State) → Stands stands path v s → IsChosen path next (choice_at p m s)
  chosen_none v s is = subst (IsChosen path next) (sym (silent.chooses_nothing v s is)) (same_and_none next.choices path.choices unasked.choices)

  exact : IsExact p m stands path next
  exact inputs v w s is ext known meets =
      let (ws, (same, in_turn)) = extended_by inputs s path next sorts v w unasked.vars ext in
      let proper : IsProper (path.vars ++ sorts) (v ++ ws) = subst (λ u. IsProper (path.vars ++ sorts) u) same (subst (λ vars. IsProper vars w) unasked.vars meets.proper) in
      (chosen_none v s is, subst (λ u. StandsForStep p m stands next u s next.ending (step p m inputs s)) (sym same) (silent.leads inputs v ws s is in_turn proper))

  chooses_alike : ChoosesAlike p m stands path next
  chooses_alike inputs v w s is ext none meets = chosen_none v s is

  along : HoldsAlong p m stands path next
  along inputs v w s is ext given chosen goes =
      let (ws, (same, in_turn)) = extended_by inputs s path next sorts v w unasked.vars ext in
      subst (λ u. IsTrue (all_true u next.conds)) (sym same) (met v ws is.proper is.meets)

  satisfiable : StaysSatisfiable path next
  satisfiable v meets known =
      let (ws, proper) = silent.may_follow v meets.proper in
      (v ++ ws, record { proper = subst (λ vars. IsProper vars (v ++ ws)) (sym unasked.vars) proper; true_there = met v ws meets.proper meets.true_there })

  pub silent_step : AreNextPaths p m stands terms NoOwn NoOwn path (next ∷ [])
  silent_step = record {
    growth = (grows, tt);
    recorded = (silent.records, tt);
    cover = covers;
    exact = (exact, tt);
    choices = (chooses_alike, tt);
    along = (along, tt);
    own_conditions = (record { added = []; conds = same_and_none next.conds path.conds unasked.conds; each = tt }, tt);
    assumes = (assumes_nothing p NoOwn NoOwn path next unasked.given, tt);
    origin = (origin, tt);
    no_form = (λ none known. ap has_open unasked.conds ∙ none, tt);
    satisfiable = (satisfiable, tt);
    unknown_rightly = (rightly p path next next.ending unasked.known, tt);
  }
