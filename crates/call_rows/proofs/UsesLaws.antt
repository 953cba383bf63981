-- Each specification that is named at a call is one that checked states use.
use Rattle.std.proofs.Common.{◌≡◌, ⊎_elim, inl, ℕ, ℤ, List, [], ◌∷◌, ◌++◌, if◌then◌else◌, Option, Some, None, refl, sym, ap, subst, ◌∙◌, append-nil}
use Rattle.gil_values.specs.Pure.{PureValue}
use Rattle.gil_syntax.specs.Pure.{PureParts, PureExpr, PureCommand, call, PureNumberedCommand, PureSpec}
use Rattle.gil_machine.specs.State.{State, Step, goes_on, ends}
use Rattle.gil_machine.specs.Step.{command_at, step}
use Rattle.mem_model.specs.Actions.{Actions}
use Rattle.mem_model.specs.Heaps.{Heap}
use Rattle.checked_runs.specs.Checked.{Checked, Entry, is_call, used_in, used_by}
use Rattle.pure_terms.specs.Meaning.{Satisfies}
use Rattle.pure_terms.specs.Pure.{PureAtom}
use Rattle.sym_model.proofs.ListLaws.{not_none, each_append, each_to, one_left, one_right, one_with}
use Rattle.sym_model.specs.Lists.{Each, OneOf}
use Rattle.sym_model.specs.Terms.{StateTerms}
use Rattle.sym_paths.proofs.Silent.{stands_at}
use Rattle.sym_paths.specs.Meaning.{StandsForStep, command_of_path}
use Rattle.sym_paths.specs.Pure.{PureEnd, PurePath}
use Rattle.sym_paths.specs.Steps.{Extends, IsUnknown, new_sorts, Grows, IsRecorded, IsExact, StaysSatisfiable, AreNextPaths}
use Rattle.checked_paths.specs.Meaning.{StandsForChecked}
use Rattle.checked_paths.specs.Pure.{PureEntry, PureChecking}
use Rattle.call_rows.specs.Calling.{spec_there, called_by, name_of, IsCall, IsAtCall}
use Rattle.call_rows.specs.Uses.{IsCalledBy, NamesCalled, UsesNamed, IsUsedThere, AreUsedThere}
use Rattle.call_rows.proofs.CallLaws.{spec_running}

-- ---- names of further paths

pub none_called : {S : Type 0} (p : PureParts) (names : List (List ℕ)) (qs : List (PurePath S)) → names ≡ [] → NamesCalled p names qs
none_called p names qs none = subst (λ ns. NamesCalled p ns qs) (sym none) tt

name_called : {S : Type 0} (p : PureParts) (next : PurePath S) (o : Option PureSpec) → called_by p next.ending next.stack ≡ o → Each (λ name. IsCalledBy p name next) (name_of o)
name_called p next None is = tt
name_called p next (Some used) is = ((used, (is, refl)), tt)

pub called_last : {S : Type 0} (p : PureParts) (names : List (List ℕ)) (qs : List (PurePath S)) (q : PurePath S) → NamesCalled p names qs → NamesCalled p (names ++ name_of (called_by p q.ending q.stack)) (qs ++ q ∷ [])
called_last p names qs q called =
    each_append (λ name. OneOf (IsCalledBy p name) (qs ++ q ∷ [])) names (name_of (called_by p q.ending q.stack))
    (each_to (λ name. OneOf (IsCalledBy p name) qs) (λ name. OneOf (IsCalledBy p name) (qs ++ q ∷ [])) names (λ name one. one_left (IsCalledBy p name) qs (q ∷ []) one) called)
    (each_to (λ name. IsCalledBy p name q) (λ name. OneOf (IsCalledBy p name) (qs ++ q ∷ [])) (name_of (called_by p q.ending q.stack)) (λ name is. one_right (IsCalledBy p name) qs (q ∷ []) (inl is))
    (name_called p q (called_by p q.ending q.stack) refl))

-- ---- a next path that is called by a specification

-- what is known of a next path of the step
record IsNextOf {S : Type 0} (p : PureParts) (m : Actions) (stands : S → List PureValue → Heap → Type 0) (terms : S → StateTerms) (path next : PurePath S) : Type 0 where
  growth : Grows terms path next
  recorded : IsRecorded p m path next
  exact : IsExact p m stands path next
  satisfiable : StaysSatisfiable path next

each_next : {S : Type 0} (p : PureParts) (m : Actions) (stands : S → List PureValue → Heap → Type 0) (terms : S → StateTerms) (path : PurePath S) (nexts : List (PurePath S)) → Each (Grows terms path) nexts → Each (IsRecorded p m path) nexts → Each (IsExact p m stands path) nexts
    → Each (StaysSatisfiable path) nexts → Each (IsNextOf p m stands terms path) nexts
each_next p m stands terms path [] growth recorded exact satisfiable = tt
each_next p m stands terms path (next ∷ nexts) growth recorded exact satisfiable = (
  record { growth = growth.0; recorded = recorded.0; exact = exact.0; satisfiable = satisfiable.0 },
  each_next p m stands terms path nexts growth.1 recorded.1 exact.1 satisfiable.1,
)

module _ {S : Type 0} (p : PureParts) (m : Actions) (stands : S → List PureValue → Heap → Type 0) (terms : S → StateTerms) (e : PureEntry) (x : PureChecking S)
    (n : PureNumberedCommand) (at : command_of_path p x.path ≡ Some n) (out : List ℕ) (f : PureExpr) (es : List PureExpr) (handler : Option ℤ) (this : n.command ≡ call out f es handler) where
  module _ (next : PurePath S) (laws : IsNextOf p m stands terms x.path next) where
    -- no variable is new
    no_new : next.vars ≡ x.path.vars
    no_new = ⊎_elim (λ grown. grown ∙ (ap (λ k. x.path.vars ++ new_sorts m k) this ∙ append-nil x.path.vars)) (λ same. same.0) (laws.recorded.variables n at)

    extends : (v : List PureValue) (c : Checked) → Extends [] c.machine x.path next v v
    extends v c = record { new_vars = []; new_values = []; vars = no_new ∙ sym (append-nil x.path.vars); values = sym (append-nil v); in_turn = tt }

    module _ (still : next.ending ≡ None) (used : PureSpec) (there : spec_there p next.stack ≡ Some used) where
      known : ¬ IsUnknown next.ending
      known is = subst IsUnknown still is

      used_step : (v : List PureValue) (c : Checked) (r : Step) → StandsForStep p m stands next v c.machine None r → used_in p r ≡ Some used
      used_step v c (goes_on t) stood = sym (spec_running v p next.stack t.current t.callers stood.frames) ∙ there
      used_step v c (ends end) stood = absurd stood

      uses_it : (v : List PureValue) (entry : Entry) (c : Checked) → StandsForChecked stands e x v entry c → Satisfies x.path.vars v next.conds → used_by p m (command_at p c.machine.current) c.machine ≡ Some used
      uses_it v entry c standing meets =
          let stood = (laws.exact [] v v c.machine standing.path (extends v c) known (subst (λ vars. Satisfies vars v next.conds) (sym no_new) meets)).1 in
          let is_used : used_in p (step p m [] c.machine) ≡ Some used = used_step v c (step p m [] c.machine) (subst (λ o. StandsForStep p m stands next v c.machine o (step p m [] c.machine)) still stood) in
          ap (λ o. used_by p m o c.machine) (sym (stands_at p v x.path.stack c.machine standing.path.frames) ∙ at)
          ∙ ap (λ k. if is_call k then used_in p (step p m [] c.machine) else None) this ∙ is_used

      used_there : IsUsedThere p m stands e x used.name
      used_there = record {
        conds = next.conds;
        longer = (laws.growth.new_conds, laws.growth.conds);
        met = λ v meets. let (w, met) = laws.satisfiable v meets known in (w, subst (λ vars. Satisfies vars w next.conds) no_new met);
        uses = λ v entry c standing meets. (used, (uses_it v entry c standing meets, refl));
      }

    called_there : (used : PureSpec) (o : Option PureEnd) → next.ending ≡ o → called_by p o next.stack ≡ Some used → IsUsedThere p m stands e x used.name
    called_there used None still there = used_there still used there
    called_there used (Some how) ended there = not_none there

    called_used : (name : List ℕ) → IsCalledBy p name next → IsUsedThere p m stands e x name
    called_used name (used, (called, same)) = subst (IsUsedThere p m stands e x) same (called_there used next.ending refl called)

  each_used : (nexts : List (PurePath S)) (names : List (List ℕ)) → Each (IsNextOf p m stands terms x.path) nexts → NamesCalled p names nexts → AreUsedThere p m stands e x names
  each_used nexts names are called =
      each_to (λ name. OneOf (IsCalledBy p name) nexts) (IsUsedThere p m stands e x) names
      (λ name one. one_with (IsNextOf p m stands terms x.path) (IsCalledBy p name) nexts are one (λ next laws is. called_used next laws name is)) called

of_call : {S : Type 0} (p : PureParts) (m : Actions) (stands : S → List PureValue → Heap → Type 0) (terms : S → StateTerms) (e : PureEntry) (x : PureChecking S) (n : PureNumberedCommand) → command_of_path p x.path ≡ Some n
    → (nexts : List (PurePath S)) (names : List (List ℕ)) → Each (IsNextOf p m stands terms x.path) nexts → NamesCalled p names nexts → (command : PureCommand) → n.command ≡ command → IsCall command → AreUsedThere p m stands e x names
of_call p m stands terms e x n at nexts names are called (call out f es handler) this is = each_used p m stands terms e x n at out f es handler this nexts names are called
of_call p m stands terms e x n at nexts names are called command this is = absurd is

-- At a call each specification by which a next path is called is used by checked states.
pub names_are_used : {S : Type 0} (p : PureParts) (m : Actions) (stands : S → List PureValue → Heap → Type 0) (terms : S → StateTerms) (own by_memory : PureAtom → Type 0) (e : PureEntry) (x : PureChecking S) → IsAtCall p x.path → (nexts : List (PurePath S)) (names : List (List ℕ))
    → AreNextPaths p m stands terms own by_memory x.path nexts → NamesCalled p names nexts → AreUsedThere p m stands e x names
names_are_used p m stands terms own by_memory e x (n, (at, is)) nexts names laws called =
    of_call p m stands terms e x n at nexts names (each_next p m stands terms x.path nexts laws.growth laws.recorded laws.exact laws.satisfiable) called n.command refl is
