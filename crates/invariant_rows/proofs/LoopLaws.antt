-- A checked path in its loop: what it names is in its table, and it may go on.
use Rattle.std.proofs.Common.{◌≡◌, ℕ, List, [], ◌∷◌, ◌++◌, refl, sym, ap, subst, ◌∙◌}
use Rattle.gil_values.specs.Pure.{PureValue}
use Rattle.gil_syntax.specs.declared.assertions.Param.{Param}
use Rattle.gil_syntax.specs.Pure.{PureParts}
use Rattle.mem_model.specs.Heaps.{Heap}
use Rattle.pure_terms.specs.declared.variables.Sort.{Sort}
use Rattle.pure_terms.specs.Meaning.{IsOver}
use Rattle.pure_terms.specs.Pure.{PureTerm, term_of}
use Rattle.pure_terms.proofs.VariableLaws.{stay_when_tables_grow}
use Rattle.sym_engine.specs.Lawful.{MayAdvance}
use Rattle.sym_engine.specs.Placed.{AreAtCommands}
use Rattle.sym_evaluation.specs.Meaning.{IsStoreOver}
use Rattle.sym_evaluation.specs.Pure.{PureStore}
use Rattle.sym_model.proofs.ListLaws.{each_to}
use Rattle.sym_model.specs.Lists.{Each}
use Rattle.sym_model.specs.Terms.{StateTerms, all_of, AreEachOver}
use Rattle.sym_paths.proofs.Moving.{running_each}
use Rattle.sym_paths.specs.Frames.{running_store}
use Rattle.sym_paths.specs.Meaning.{OfEachName, IsOverTable, end_terms, command_of_frames, command_of_path}
use Rattle.sym_paths.specs.Pure.{PureFrame, PurePath}
use Rattle.sym_states.specs.Pure.{PureState}
use Rattle.checked_paths.proofs.Growing.{entry_over_more, passed_by_over_more}
use Rattle.checked_paths.specs.Meaning.{AreFactsOver, IsEntryOver, IsPassedOver, IsCheckedOver, MayGoOn}
use Rattle.checked_paths.specs.Pure.{PureEntry, PurePassed, PureChecking}
use Rattle.checked_rows.specs.Matching.{IsOfPath}
use Rattle.checked_rows.specs.States.{with_state}
use Rattle.invariant_rows.specs.Entering.{running_with, running_next, opened, IsInLoop}
use Rattle.invariant_rows.specs.Listed.{AreUnlisted}
use Rattle.invariant_rows.proofs.ListedLaws.{unlisted_each}
use Rattle.invariant_rows.proofs.PassedLaws.{one_over}

-- ---- the frame that runs with another store

stack_over : (P : PureTerm → Type 0) (bs : PureStore) (fs : List PureFrame) → OfEachName P bs → Each (λ f. OfEachName P f.store) fs → Each (λ f. OfEachName P f.store) (running_with bs fs)
stack_over P bs [] store all = tt
stack_over P bs (f ∷ fs) store all = (store, all.1)

placed_with : (p : PureParts) (bs : PureStore) (fs : List PureFrame) → AreAtCommands p fs → AreAtCommands p (running_with bs fs)
placed_with p bs [] placed = absurd placed
placed_with p bs (f ∷ fs) placed = (record { command = placed.0.command; handler = placed.0.handler }, placed.1)

pub command_with : (p : PureParts) (bs : PureStore) (fs : List PureFrame) → command_of_frames p (running_with bs fs) ≡ command_of_frames p fs
command_with p bs [] = refl
command_with p bs (f ∷ fs) = refl

pub advance_with : (bs : PureStore) (fs : List PureFrame) → MayAdvance fs → MayAdvance (running_with bs fs)
advance_with bs [] may = absurd may
advance_with bs (f ∷ fs) may = may

-- the terms of the names that aren't listed
pub unlisted_over : {S : Type 0} (terms : S → StateTerms) (e : PureEntry) (xs : List (List ℕ)) (bs : PureStore) (x : PureChecking S) → IsCheckedOver terms e x → AreUnlisted xs (running_store x.path.stack) bs → IsStoreOver x.path.vars bs
unlisted_over terms e xs bs x over unlisted = unlisted_each (IsOver x.path.vars) xs (running_store x.path.stack) bs unlisted (running_each (IsOver x.path.vars) x.path.stack over.path.stores)

pub left_over : {S : Type 0} (terms : S → StateTerms) (e : PureEntry) (xs : List (List ℕ)) (bs : PureStore) (x : PureChecking S) (s : PureState S) → IsCheckedOver terms e x → IsOfPath terms x s → AreUnlisted xs (running_store x.path.stack) bs → IsStoreOver s.vars bs
left_over terms e xs bs x s over of_path unlisted = subst (λ vs. IsStoreOver vs bs) (sym of_path.vars) (unlisted_over terms e xs bs x over unlisted)

module _ {S : Type 0} (stands : S → List PureValue → Heap → Type 0) (terms : S → StateTerms) (e : PureEntry) (qs : List Param) (xs : List (List ℕ)) (bs : PureStore) (x : PureChecking S) (s : PureState S) (y : PureChecking S)
    (over : IsCheckedOver terms e x) (of_path : IsOfPath terms x s) (unlisted : AreUnlisted xs (running_store x.path.stack) bs) (inside : IsInLoop stands terms qs xs bs x s y) where
  abbrev vars : List Sort
  vars = inside.named.vars

  pub loop_vars : y.path.vars ≡ inside.named.vars
  loop_vars = ap (λ (q : PurePath S). q.vars) inside.same_path

  pub loop_more : y.path.vars ≡ x.path.vars ++ inside.naming.more
  loop_more = loop_vars ∙ (inside.naming.grows ∙ ap (λ vs. vs ++ inside.naming.more) of_path.vars)

  pub loop_steps : y.path.steps ≡ x.path.steps
  loop_steps = ap (λ (q : PurePath S). q.steps) inside.same_path

  pub loop_stack : y.path.stack ≡ running_with inside.named.store x.path.stack
  loop_stack = ap (λ (q : PurePath S). q.stack) inside.same_path

  grown : (t : PureTerm) → IsOver s.vars t → IsOver vars t
  grown t is = subst (λ vs. IsOver vs t) (sym inside.naming.grows) (stay_when_tables_grow.over t s.vars inside.naming.more is)

  of_old : (t : PureTerm) → IsOver x.path.vars t → IsOver vars t
  of_old t is = grown t (subst (λ vs. IsOver vs t) (sym of_path.vars) is)

  facts_over : AreFactsOver vars s.facts
  facts_over = each_to (λ c. AreEachOver s.vars (c.ins ++ c.outs)) (λ c. AreEachOver vars (c.ins ++ c.outs)) s.facts (λ c. each_to (IsOver s.vars) (IsOver vars) (c.ins ++ c.outs) grown) of_path.over.facts

  path_over : IsOverTable terms (opened (with_state x.path s) inside.named)
  path_over = record {
    conds = each_to (λ a. IsOver s.vars (term_of a)) (λ a. IsOver vars (term_of a)) s.conds (λ a. grown (term_of a)) of_path.over.conds;
    given = each_to (λ a. IsOver x.path.vars (term_of a)) (λ a. IsOver vars (term_of a)) x.path.given (λ a. of_old (term_of a)) over.path.given;
    stores = stack_over (IsOver vars) inside.named.store x.path.stack (inside.naming.over (left_over terms e xs bs x s over of_path unlisted))
        (each_to (λ f. OfEachName (IsOver x.path.vars) f.store) (λ f. OfEachName (IsOver vars) f.store) x.path.stack (λ f all n t is. of_old t (all n t is)) over.path.stores);
    memory = each_to (IsOver s.vars) (IsOver vars) (all_of (terms s.memory)) grown of_path.over.memory;
    drawn = each_to (IsOver x.path.vars) (IsOver vars) x.path.drawn of_old over.path.drawn;
    ending = each_to (IsOver x.path.vars) (IsOver vars) (end_terms x.path.ending) of_old over.path.ending;
  }

  abbrev kept_now : PurePassed S
  kept_now = record { at = running_next x.path.stack; memory = s.memory; facts = s.facts; unlisted = bs }

  kept_over : IsPassedOver terms vars kept_now
  kept_over = record { memory = path_over.memory; facts = facts_over; unlisted = λ n t is. of_old t (unlisted_over terms e xs bs x over unlisted n t is) }

  old_passed : Each (Each (IsPassedOver terms vars)) x.passed
  old_passed = subst (λ vs. Each (Each (IsPassedOver terms vs)) x.passed) (sym loop_more ∙ loop_vars) (passed_by_over_more x.path.vars inside.naming.more terms x.passed over.passed)

  pub loop_over : IsCheckedOver terms e y
  loop_over = record {
    entry = subst (λ vs. IsEntryOver vs e) (sym loop_more) (entry_over_more x.path.vars inside.naming.more e over.entry);
    path = subst (IsOverTable terms) (sym inside.same_path) path_over;
    facts = subst (λ vs. AreFactsOver vs y.facts) (sym loop_vars) (subst (AreFactsOver vars) (sym inside.same_facts) facts_over);
    passed = subst (λ vs. Each (Each (IsPassedOver terms vs)) y.passed) (sym loop_vars) (inside.passed.over vars (one_over (IsPassedOver terms vars) kept_now x.passed kept_over old_passed));
  }

  pub loop_goes_on : (p : PureParts) → MayGoOn p terms e x → MayGoOn p terms e y
  loop_goes_on p may = record {
    no_end = ap (λ (q : PurePath S). q.ending) inside.same_path ∙ may.no_end;
    placed = subst (AreAtCommands p) (sym loop_stack) (placed_with p inside.named.store x.path.stack may.placed);
    over = loop_over;
  }

  pub loop_command : (p : PureParts) → command_of_path p y.path ≡ command_of_path p x.path
  loop_command p = ap (command_of_frames p) loop_stack ∙ command_with p inside.named.store x.path.stack
