-- Where every command on the way to an end has a simple form, the path is plain within the bounds of the fragment: so nothing is asked.
use Rattle.std.proofs.Common.{◌≡◌, ◌⊎◌, ⊎_elim, inl, inr, ℕ, suc, ◌≤◌, ◌^◌, ℤ, pos, neg_ℤ, List, [], ◌∷◌, length, Bool, true, false, not, ◌&&◌, ◌||◌, if◌then◌else◌, Some, None, IsTrue, refl, sym, ap, subst, ◌∙◌, arith}
use Rattle.std.proofs.lemmas.Bool.{and_parts, and_from}
use Rattle.gil_values.specs.Pure.{PureValue}
use Rattle.std.specs.List.{list_all}
use Rattle.std.specs.Str.{bytes_eq}
use Rattle.gil_syntax.specs.Programs.{find_proc}
use Rattle.gil_syntax.specs.Pure.{PureParts, PureProc, PureNumberedCommand}
use Rattle.gil_syntax.specs.Simple.{is_simple as is_simple_program, is_simple_command}
use Rattle.gil_machine.specs.State.{Frame, State}
use Rattle.gil_machine.specs.Step.{command_of, command_at}
use Rattle.mem_model.specs.Actions.{Actions}
use Rattle.mem_model.specs.Heaps.{Heap}
use Rattle.pure_terms.specs.declared.variables.Sort.{Sort}
use Rattle.pure_terms.specs.Fragment.{is_simple, names_sort, has_literals_between, has_narrow_literals}
use Rattle.pure_terms.specs.Meaning.{Satisfies}
use Rattle.pure_terms.proofs.FragmentLaws.{passes_at}
use Rattle.pure_terms.specs.Pure.{PureTerm, PureAtom, term_of}
use Rattle.sym_step.specs.ExplorationLaws.{IsBeside}
use Rattle.sym_step.specs.Plain.{IsAtSimple}
use Rattle.sym_step.specs.Runs.{StandsAfter}
use Rattle.sym_step.specs.Trails.{IsTrail}
use Rattle.sym_model.specs.Laws.{IsPlainWithin, IsDecidedWithin}
use Rattle.sym_model.specs.Lists.{Each}
use Rattle.sym_model.specs.Terms.{StateTerms}
use Rattle.sym_model.proofs.ListLaws.{not_none}
use Rattle.sym_paths.specs.Meaning.{command_of_path}
use Rattle.sym_paths.specs.Pure.{PurePath}
use Rattle.sym_paths.specs.Steps.{IsUnknown}
use Rattle.sym_model.proofs.Wider.{term_wider, lower_bound, higher_bound}
use Rattle.sym_paths.proofs.Silent.{stands_at}
use Rattle.sym_test.specs.Undecided.{first_state, MeetsOther, keeps_out, is_narrow_term}
use Rattle.sym_test.proofs.Trailing.{TrailLaws}

-- ---- narrow terms

abbrev minus : ℕ → ℤ
minus b = neg_ℤ (pos b)

-- conditions and failing terms of a plain path are those of the fragment
pub atom_passes : (b : ℕ) (a : PureAtom) → b ≤ 2 ^ 80 → IsDecidedWithin (minus b) (pos b) a → keeps_out a ≡ false
atom_passes b a le (form, literals) =
    (λ i. not (form i) || not (has_narrow_literals a)) ∙ ap not (term_wider (minus b) (pos b) (minus (2 ^ 80)) (pos (2 ^ 80)) (lower_bound b (2 ^ 80) le) (higher_bound b (2 ^ 80) le) (term_of a) literals)

pub term_is_narrow : (b : ℕ) (t : PureTerm) → b ≤ 2 ^ 80 → IsPlainWithin (minus b) (pos b) t → is_narrow_term t ≡ true
term_is_narrow b t le (plain, literals) =
    and_from (is_simple t) (has_literals_between (minus (2 ^ 80)) (pos (2 ^ 80)) t) (and_parts (is_simple t) (not (names_sort Sort.Any t) && not (names_sort Sort.List t)) plain).0
    (term_wider (minus b) (pos b) (minus (2 ^ 80)) (pos (2 ^ 80)) (lower_bound b (2 ^ 80) le) (higher_bound b (2 ^ 80) le) t literals)

-- ---- commands of other forms

module _ {S : Type 0} (p : PureParts) (m : Actions) (stands : S → List PureValue → Heap → Type 0) (terms : S → StateTerms) (asked : List ℕ → List PureTerm → List PureTerm × List PureTerm)
    (laws : TrailLaws p m stands terms asked) (f : List ℕ) (start : PurePath S) where
  abbrev IsTrailOf : List (PurePath S) → PurePath S → Type 0
  IsTrailOf = IsTrail p m stands terms asked start

  abbrev s0 : State
  s0 = first_state p f

  later_other : (inputs : List PureValue) (j k : ℕ) → j ≤ k → MeetsOther p m f inputs j → MeetsOther p m f inputs k
  later_other inputs j k le other = record {
    steps = other.steps;
    within = (let within : other.steps ≤ j = other.within in omega (arith, within, le));
    state = other.state;
    command = other.command;
    stands = record { comes = other.stands.comes; at = other.stands.at };
    other = other.other;
  }

  module _ (inputs : List PureValue) where
    -- the path stands at a command of another form, and so does the run
    other_here : (before : PurePath S) (rest : List (PurePath S)) (v : List PureValue) (c : PureNumberedCommand) → before.ending ≡ None → command_of_path p before ≡ Some c → IsBeside p m stands terms asked inputs [] v s0 start rest before
        → Satisfies before.vars v before.conds → is_simple_command c.command ≡ false → MeetsOther p m f inputs (length rest)
    other_here before rest v c going at beside sat other =
        let (s, there) = subst (StandsAfter p m stands inputs s0 start before v (length rest)) going
        (laws.replay.stands_after inputs [] v s0 start rest before beside sat (λ unknown. subst IsUnknown going unknown)) in
        record {
          steps = length rest;
          within = omega arith;
          state = s;
          command = c;
          stands = record { comes = there.comes_to; at = sym (stands_at p v before.stack s there.stands_for.frames) ∙ at };
          other = other;
        }

    -- Beside a run, every command on the way has a simple form, or the run meets another one.
    pub simple_or_other : (rest : List (PurePath S)) (before : PurePath S) (v : List PureValue) → IsTrailOf rest before → before.ending ≡ None → (c : PureNumberedCommand) × (command_of_path p before ≡ Some c)
        → IsBeside p m stands terms asked inputs [] v s0 start rest before → Satisfies before.vars v before.conds → Each (IsAtSimple p) (before ∷ rest) ⊎ MeetsOther p m f inputs (length rest)
    simple_or_other [] before v trail going (c, at) beside sat = by_form (is_simple_command c.command) refl where
      by_form : (b : Bool) → is_simple_command c.command ≡ b → Each (IsAtSimple p) (before ∷ []) ⊎ MeetsOther p m f inputs 0
      by_form true form = inl ((c, (at, form)), tt)
      by_form false form = inr (other_here before [] v c going at beside sat form)
    simple_or_other (earlier ∷ rest) before v (next, trail) going (c, at) beside sat =
        let (w, (beside_that, sat_that)) = laws.end_before inputs [] v s0 start earlier before rest beside sat in
        by_form (is_simple_command c.command) refl (simple_or_other rest earlier w trail next.going next.at_command beside_that sat_that) where
          by_form : (b : Bool) → is_simple_command c.command ≡ b → Each (IsAtSimple p) (earlier ∷ rest) ⊎ MeetsOther p m f inputs (length rest) → Each (IsAtSimple p) (before ∷ earlier ∷ rest) ⊎ MeetsOther p m f inputs (suc (length rest))
          by_form true form so_far = ⊎_elim (λ each. inl ((c, (at, form)), each)) (λ other. inr (later_other inputs (length rest) (suc (length rest)) (omega arith) other)) so_far
          by_form false form so_far = inr (other_here before (earlier ∷ rest) v c going at beside sat form)

-- ---- simple programs

module _ (p : PureParts) (simple : IsTrue (is_simple_program p)) where
  proc_at : (qs : List PureProc) (f : List ℕ) (i : ℕ) (c : PureNumberedCommand) → list_all (λ q. list_all (λ d. is_simple_command d.command) q.body) qs ≡ true → command_of (find_proc qs f) i ≡ Some c → is_simple_command c.command ≡ true
  proc_at [] f i c all at = not_none at
  proc_at (q ∷ qs) f i c all at =
      let parts = and_parts (list_all (λ d. is_simple_command d.command) q.body) (list_all (λ r. list_all (λ d. is_simple_command d.command) r.body) qs) all in
      by_name (bytes_eq q.name f) parts.0 (proc_at qs f i c parts.1) at where
        by_name : (b : Bool) → list_all (λ d. is_simple_command d.command) q.body ≡ true → (command_of (find_proc qs f) i ≡ Some c → is_simple_command c.command ≡ true)
            → command_of (if b then Some q else find_proc qs f) i ≡ Some c → is_simple_command c.command ≡ true
        by_name true here later at_b = passes_at (λ d. is_simple_command d.command) q.body i c here at_b
        by_name false here later at_b = later at_b

  -- each command at which a frame stands is of simple form
  pub simple_at : (frame : Frame) (c : PureNumberedCommand) → command_at p frame ≡ Some c → is_simple_command c.command ≡ true
  simple_at frame c at = proc_at p.procs frame.procedure frame.next c simple at
