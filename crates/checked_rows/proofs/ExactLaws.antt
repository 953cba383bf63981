-- What every row needs for its answers to be exact: the choice of a state, the values of a table that doesn't grow, and doubts as causes.
use Rattle.std.proofs.Common.{◌≡◌, ℕ, suc, List, [], ◌∷◌, ◌++◌, length, Option, Some, None, IsTrue, refl, sym, ap, subst, ◌∙◌, append-nil, arith}
use Rattle.std.proofs.lemmas.List.{append_cancel_left}
use Rattle.std.specs.Option.{option_and_then}
use Rattle.gil_values.specs.declared.places.Place.{Place}
use Rattle.gil_values.specs.Pure.{PureValue}
use Rattle.gil_syntax.specs.Pure.{PureParts, PureCommand, PureNumberedCommand}
use Rattle.gil_machine.specs.Choices.{choice_of, choice_at}
use Rattle.gil_machine.specs.Step.{command_at}
use Rattle.mem_model.specs.declared.keys.MemoryName.{MemoryName}
use Rattle.mem_model.specs.Actions.{Actions}
use Rattle.mem_model.specs.Heaps.{Heap}
use Rattle.checked_runs.specs.Checked.{Checked, Outcome, has_fault, Entry}
use Rattle.pure_terms.specs.declared.variables.Sort.{Sort}
use Rattle.pure_terms.specs.Meaning.{all_true, Satisfies}
use Rattle.pure_terms.specs.Pure.{PureAtom}
use Rattle.sym_model.proofs.ListLaws.{same_some, not_none}
use Rattle.sym_paths.proofs.Silent.{stands_at}
use Rattle.sym_paths.specs.Meaning.{Stands, command_of_path}
use Rattle.sym_paths.specs.Pure.{PurePath}
use Rattle.sym_paths.specs.Steps.{IsPlaceOf, counter_past}
use Rattle.checked_paths.specs.declared.nexts.Cause.{Cause}
use Rattle.checked_paths.specs.declared.nexts.FaultKind.{FaultKind}
use Rattle.checked_paths.specs.Causes.{PureShown, PureCause, cause_view, fault_of, shown_of}
use Rattle.checked_paths.specs.Choosing.{LeadsAlongBy, LeadsAlongAt, LeadsAlong}
use Rattle.checked_paths.specs.Exactness.{AreNewValues, IsContinued, HaveMore, AreChoices, IsShownAt, IsUnder, IsRightCause, IsExactNext, AreExact, LeadsTo}
use Rattle.checked_paths.specs.Meaning.{StandsForChecked}
use Rattle.checked_paths.specs.Pure.{PureEntry, PureChecking, PureNext, caused}
use Rattle.footprint.proofs.Parts.{longer_both}
use Rattle.footprint.specs.Leaves.{IsLonger}
use Rattle.sym_states.specs.Pure.{PureState}
use Rattle.checked_rows.specs.Doubts.{PureDoubt, always, under, beyond, doubt_cause, IsDoubtNext, IsDoubtAlone, IsDoubtIn, DoubtsAlone, HasFaultUnder, IsRightDoubt}
use Rattle.checked_rows.specs.Rows.{IsCauseAlone}

-- ---- a table that doesn't grow

not_one : {A : Type 0} (x : A) (xs : List A) → x ∷ xs ≡ [] → ⊥
not_one x xs is = let none : suc (length xs) ≡ 0 = ap length is in omega (arith, none)

none_new : (n : ℕ) (xs : List Sort) (ws : List PureValue) → AreNewValues n xs ws → xs ≡ [] → ws ≡ []
none_new n [] [] are none = refl
none_new n [] (w ∷ ws) are none = absurd are
none_new n (x ∷ xs) ws are none = absurd (not_one x xs none)

module _ (counter : ℕ) (vars later : List Sort) (v w : List PureValue) (same : later ≡ vars) (continued : IsContinued counter vars later v w) where
  none_more : continued.new_vars ≡ []
  none_more = append_cancel_left vars continued.new_vars [] (sym continued.table ∙ same ∙ sym (append-nil vars))

  pub same_values_there : w ≡ v
  same_values_there = continued.values ∙ ap (λ ws. v ++ ws) (none_new counter continued.new_vars continued.new_values continued.in_turn none_more) ∙ append-nil v

  pub same_counter : (n : ℕ) → n ≡ counter → n ≡ counter_past continued.new_vars counter
  same_counter n is = is ∙ ap (λ (xs : List Sort). counter_past xs counter) (sym none_more)

-- ---- what a state leads to, with its choice

module _ (p : PureParts) (memory : MemoryName) (m : Actions) {S : Type 0} (stands : S → List PureValue → Heap → Type 0) (path : PurePath S) (v : List PureValue) (entry : Entry) (c : Checked) (n : PureNumberedCommand) (command : PureCommand)
    (stand : Stands stands path v c.machine) (at : command_of_path p path ≡ Some n) (is : n.command ≡ command) where
  there : command_at p c.machine.current ≡ Some n
  there = sym (stands_at p v path.stack c.machine stand.frames) ∙ at

  pub leads_along : (chosen : Option ℕ) (out : Outcome) → LeadsAlongBy p memory m entry command (record { proc = c.machine.current.procedure; at = n.at }) c chosen out → LeadsAlong p memory m entry c chosen out
  leads_along chosen out leads =
      subst (λ o. LeadsAlongAt p memory m entry o c chosen out) (sym there) (subst (λ k. LeadsAlongBy p memory m entry k (record { proc = c.machine.current.procedure; at = n.at }) c chosen out) (sym is) leads)

  -- the choice of the machine at the command
  pub chosen_there : choice_at p m c.machine ≡ choice_of p m command c.machine
  chosen_there = ap (option_and_then (λ k. choice_of p m k.command c.machine)) there ∙ ap (λ k. choice_of p m k c.machine) is

-- ---- doubts

module _ {S : Type 0} (p : PureParts) (memory : MemoryName) (m : Actions) (stands : S → List PureValue → Heap → Type 0) (e : PureEntry) (x : PureChecking S) (kind : FaultKind) (here : Place) (place : IsPlaceOf p x.path.stack here) where
  no_choice_more : x.path.choices ≡ x.path.choices ++ []
  no_choice_more = sym (append-nil x.path.choices)

  same_table : HaveMore x.path.vars x.path.vars
  same_table = ([], sym (append-nil x.path.vars))

  faults : (conds : List PureAtom) → HasFaultUnder p memory m stands e x kind conds → (shown : PureShown) → shown.vars ≡ x.path.vars → shown.choices ≡ x.path.choices → shown.conds ≡ conds → (v w : List PureValue) (entry : Entry) (c : Checked)
      → IsUnder stands e x shown.vars shown.conds v w entry c → LeadsTo p memory m stands e x (λ out. out ≡ has_fault (fault_of kind)) shown entry c
  faults conds faulty shown table choices are v w entry c standing =
      let same : w ≡ v = same_values_there c.machine.counter x.path.vars shown.vars v w table standing.continued in
      record {
        chosen = None;
        choices = choices ∙ no_choice_more;
        outcome = has_fault (fault_of kind);
        leads = faulty v entry c standing.standing (subst (λ u. IsTrue (all_true u conds)) same (subst (λ cs. IsTrue (all_true w cs)) are standing.meets.true_there));
        is = refl;
      }

  pub right_cause : (doubt : PureDoubt) → IsRightDoubt p memory m stands e x kind doubt → IsRightCause p memory m stands e x (doubt_cause kind (shown_of here x.path) doubt)
  right_cause always right = record {
    at = record { place = place; table = same_table; longer = ([], sym (append-nil x.path.conds)); known = λ u none. not_none none };
    met = λ v meets. (v, meets);
    exact = λ v w entry c standing. faults x.path.conds right (shown_of here x.path) refl refl refl v w entry c standing;
  }
  right_cause (under conds u) (longer, meets, faulty) = record {
    at = record { place = place; table = same_table; longer = longer; known = λ w same. subst (λ k. Satisfies x.path.vars k conds) (same_some same) meets };
    met = λ v before. (u, meets);
    exact = λ v w entry c standing. faults conds faulty (record (shown_of here x.path) { conds = conds; valuation = Some u }) refl refl refl v w entry c standing;
  }
  right_cause (beyond conds reason) (longer, outside) = record {
    at = record { place = place; table = same_table; longer = longer; known = λ u none. not_none none };
    chosen = None;
    choices = no_choice_more;
    outside = outside.outside;
    first = outside.first;
  }

  pub right_next : (doubt : PureDoubt) → IsRightDoubt p memory m stands e x kind doubt → (n : PureNext S) → IsDoubtNext kind here x.path doubt n → IsExactNext p memory m stands e x n
  right_next doubt right n (cause, (is, shows)) =
      subst (IsExactNext p memory m stands e x) (sym is) (subst (IsRightCause p memory m stands e x) (sym shows) (right_cause doubt right))

  pub right_alone : (doubt : PureDoubt) → IsRightDoubt p memory m stands e x kind doubt → (nexts : List (PureNext S)) → IsDoubtAlone kind here x.path doubt nexts → AreExact p memory m stands e x nexts
  right_alone doubt right nexts (cause, (is, shows)) =
      subst (AreExact p memory m stands e x) (sym is) (subst (IsRightCause p memory m stands e x) (sym shows) (right_cause doubt right), tt)

-- a doubt alone is a cause alone
pub doubt_is_cause : {S : Type 0} (kind : FaultKind) (here : Place) (x : PureChecking S) (s : PureState S) (Fails : List PureValue → Type 0) (nexts : List (PureNext S)) → DoubtsAlone kind here x s Fails nexts → IsCauseAlone nexts
doubt_is_cause kind here x s Fails nexts (doubt, (is_in, (cause, (is, shows)))) = (cause, is)

-- ---- doubts in a state, as doubts of the path

module _ {S : Type 0} (p : PureParts) (memory : MemoryName) (m : Actions) (stands : S → List PureValue → Heap → Type 0) (e : PureEntry) (x : PureChecking S) (kind : FaultKind) (s : PureState S) (Fails : List PureValue → Type 0)
    (vars : s.vars ≡ x.path.vars) (longer : IsLonger x.path.conds s.conds)
    (standing_meets : (v : List PureValue) (entry : Entry) (c : Checked) → StandsForChecked stands e x v entry c → IsTrue (all_true v s.conds))
    (faulty : (v : List PureValue) (entry : Entry) (c : Checked) → StandsForChecked stands e x v entry c → Fails v → LeadsAlong p memory m entry c None (has_fault (fault_of kind))) where
  pub right_in : (doubt : PureDoubt) → IsDoubtIn s Fails doubt → IsRightDoubt p memory m stands e x kind doubt
  right_in always fails = λ v entry c stand met. faulty v entry c stand (fails v (standing_meets v entry c stand))
  right_in (under conds u) (further, meets, fails) = (
    longer_both x.path.conds s.conds conds longer further,
    subst (λ vs. Satisfies vs u conds) vars meets,
    λ v entry c stand met. faulty v entry c stand (fails v met),
  )
  right_in (beyond conds reason) (further, outside) = (longer_both x.path.conds s.conds conds longer further, outside)

  pub right_doubts : (here : Place) → IsPlaceOf p x.path.stack here → (nexts : List (PureNext S)) → DoubtsAlone kind here x s Fails nexts → AreExact p memory m stands e x nexts
  right_doubts here place nexts (doubt, (is_in, alone)) = right_alone p memory m stands e x kind here place doubt (right_in doubt is_in) nexts alone
