-- The checked paths of the starts cover those of the checked runs, and may go on; and runs reach them.
use Rattle.std.proofs.Common.{◌≡◌, ◌⊎◌, ⊎_elim, inl, inr, ℕ, ℤ, List, [], ◌∷◌, length, not, true, false, Bool, ◌&&◌, Some, IsSome, IsTrue, refl, sym, ap, subst, ◌∙◌, true≢false, arith, append-nil, if◌then◌else◌}
use Rattle.std.specs.FinMap.{empty}
use Rattle.std.specs.List.{Contains}
use Rattle.std.proofs.lemmas.List.Elements.{Contains-append_left, Contains-append_right, Contains-append_cases}
use Rattle.gil_values.specs.declared.places.Place.{Place}
use Rattle.gil_values.specs.Pure.{PureValue}
use Rattle.gil_syntax.specs.Evaluation.{Store}
use Rattle.gil_syntax.specs.Programs.{find_proc}
use Rattle.gil_syntax.specs.Pure.{PureProc, PureSpec, PureParts}
use Rattle.gil_syntax.specs.Valid.{IsValid, param_names}
use Rattle.gil_machine.specs.Step.{command_of}
use Rattle.gil_machine.proofs.Placed.{found_name, starts_placed}
use Rattle.mem_model.specs.declared.keys.MemoryName.{MemoryName}
use Rattle.mem_model.specs.Actions.{Actions}
use Rattle.mem_model.specs.Heaps.{Heap}
use Rattle.checked_runs.specs.Checked.{Checked, goes_on_to, IsStart}
use Rattle.pure_terms.specs.declared.deciders.Reason.{Reason}
use Rattle.pure_terms.specs.declared.variables.Sort.{Sort}
use Rattle.pure_terms.specs.declared.variables.Var.{Var}
use Rattle.pure_terms.specs.Meaning.{AreOver, IsProper, IsUnsatisfiable, all_true, truth}
use Rattle.pure_terms.specs.Pure.{PureAtom, term_of, variables, variables_of_atoms}
use Rattle.sym_paths.proofs.AskedFragments.{each_over_all}
use Rattle.sym_beginning.specs.Beginning as beginning
use Rattle.sym_beginning.specs.Beginning.{PureStart, PureBeginnings, IsEntryUnder, IsBegunFrom, IsBeginning, AreBeginnings, AreStarts}
use Rattle.sym_beginning.specs.Origins.{ComeOf, NeedForm, IsOfPrecondition, AreOfPrecondition}
use Rattle.checked_runs.proofs.Readable.{names_length}
use Rattle.sym_engine.specs.Placed.{AreAtCommands}
use Rattle.sym_model.specs.Laws.{IsMeaning}
use Rattle.sym_model.specs.Lists.{Each}
use Rattle.sym_model.specs.Meaning.{has_open, is_open}
use Rattle.sym_model.specs.Terms.{StateTerms, AreEachOver}
use Rattle.sym_model.proofs.ListLaws.{each_to, not_none}
use Rattle.sym_evaluation.specs.Meaning.{IsStoreOver}
use Rattle.sym_paths.specs.Meaning.{Stands}
use Rattle.sym_paths.proofs.Beginning.{beginnings_stand}
use Rattle.sym_states.specs.Meaning.{AreFacts}
use Rattle.checked_paths.specs.Accounting.{entry_of, CoversStarts}
use Rattle.checked_paths.specs.Causes.{PureShown, PureCause, failure, fault, bound, undecided, cause_view}
use Rattle.checked_paths.specs.Covering.{CoversOutcome}
use Rattle.checked_paths.specs.Meaning.{ArePassedBy, AreFactsOver, EachWith, MayGoOn}
use Rattle.checked_paths.specs.Pure.{PureEntry, PureNext, further, over, caused}
use Rattle.checked_paths.proofs.Lists.{one_across, each_across, each_with_if}
use Rattle.spec_causes.specs.Causes.{MayBeMet, without_forms}
use Rattle.spec_causes.specs.Reaching.{IsFoundCause, checked_start}
use Rattle.spec_causes.proofs.Reached.{start_reached}
use Rattle.spec_causes.proofs.Starts.{start_real}
use Rattle.spec_exploration.specs.Beginning.{IsFirstPlace, IsStartOver, IsLeftOut, IsUnknownStart, IsStartOf, AreStartsOf}
use Rattle.spec_exploration.specs.Exploring.{StartPlaced, IsReachedWithin, IsReachedNext}

-- a procedure has a first command
pub first_there : (p : PureParts) (spec : PureSpec) (q : PureProc) → IsValid p → find_proc p.procs spec.name ≡ Some q → IsSome (command_of (find_proc p.procs spec.name) 0)
first_there p spec q valid found = (starts_placed p spec.name q [] empty 0 valid found).current

module _ {S : Type 0} (p : PureParts) (memory : MemoryName) (m : Actions) (stands : S → List PureValue → Heap → Type 0) (spec : PureSpec) (b : PureBeginnings S) (here : Place) where
  abbrev Of : PureEntry
  Of = record { spec = spec; args = b.args; variables = b.variables }

  module _ (args : List PureValue) (variables : Store) (c : Checked) (begins : IsStart p memory m (entry_of Of args variables) c) (v : List PureValue) (under : IsEntryUnder b v args variables) where
    covers_start : (s : PureStart S) (n : PureNext S) → s.path.vars ≡ b.vars → IsStartOf here s n → IsBegunFrom b p memory m stands spec v c s → CoversOutcome stands Of (entry_of Of args variables) [] (goes_on_to c) n
    covers_start s (caused cause) vars start begun = tt
    covers_start s over vars none begun = absurd (none v (record { proper = subst (λ xs. IsProper xs v) (sym vars) under.proper; true_there = begun.meets }))
    covers_start s (further y) vars start begun = by begun.stands_for
      where
        by : IsTrue (has_open s.path.conds) ⊎ (Stands stands s.path v c.machine × AreFacts v s.facts c.facts) → CoversOutcome stands Of (entry_of Of args variables) [] (goes_on_to c) (further y)
        by (inl needed) = absurd (true≢false (sym needed ∙ start.no_form))
        by (inr (stood, facts)) = subst (λ z. CoversOutcome stands Of (entry_of Of args variables) [] (goes_on_to c) (further z)) (sym start.is) (
          c,
          (
            v,
            (
              refl,
              (v, refl),
              record {
                entered = record { spec = refl; args = under.args_are; variables = under.variables_are };
                path = stood;
                facts = facts;
                passed = subst (ArePassedBy stands v ([] ∷ [])) (ap (λ d. d.passed) (sym begins.is_start)) (tt, tt);
              },
            ),
          ),
        )

  -- the table of a start is that of the beginnings
  abbrev OverTable : PureStart S → PureNext S → Type 0
  OverTable s n = (s.path.vars ≡ b.vars) × IsStartOf here s n

  starts_cover_over : (ns : List (PureNext S)) → EachWith OverTable b.starts ns → beginning.CoversStarts b p memory m stands spec → CoversStarts p memory m stands Of ns
  starts_cover_over ns are cover args variables c begins =
      let (v, (under, one)) = cover args variables c begins in
      one_across OverTable (IsBegunFrom b p memory m stands spec v c) (CoversOutcome stands Of (entry_of Of args variables) [] (goes_on_to c)) b.starts ns are
      (λ s n start begun. covers_start args variables c begins v under s n start.0 start.1 begun) one

  module _ (terms : S → StateTerms) (kept : S → Type 0) (valid : IsValid p) (are : AreBeginnings b p terms kept spec) (same_params : are.proc.params ≡ param_names spec.params) where
    at_command : IsSome (command_of (find_proc p.procs are.proc.name) 0)
    at_command =
        let named : are.proc.name ≡ spec.name = found_name p.procs spec.name are.proc are.found in subst (λ f. IsSome (command_of (find_proc p.procs f) 0)) (sym named) (first_there p spec are.proc valid are.found)

    pub starts_over : Each IsStartOver b.starts
    starts_over = each_to (IsBeginning b are.proc terms kept) IsStartOver b.starts (λ s is. each_over_all s.path.vars s.path.conds is.path_over.conds) are.each

    pub starts_cover : (ns : List (PureNext S)) → AreStartsOf here b.starts ns → beginning.CoversStarts b p memory m stands spec → CoversStarts p memory m stands Of ns
    starts_cover ns starts cover =
        starts_cover_over ns (each_with_if (IsBeginning b are.proc terms kept) (IsStartOf here) OverTable b.starts ns (λ s n is start. (ap (λ q. q.vars) is.begins.is, start)) are.each starts) cover

    start_may : (s : PureStart S) → IsBeginning b are.proc terms kept s → MayGoOn p terms Of (checked_start s) × (s.path.steps ≡ 0)
    start_may s is =
        let same = is.begins.is in
        let vars : s.path.vars ≡ b.vars = ap (λ q. q.vars) same in (
          record {
            no_end = ap (λ q. q.ending) same;
            placed = subst (AreAtCommands p) (sym (ap (λ q. q.stack) same)) (record { command = at_command; handler = λ i none. not_none none }, tt);
            over = record {
              entry = record {
                as_many = is.as_many ∙ ap length same_params ∙ names_length spec.params;
                args = subst (λ xs. AreEachOver xs b.args) (sym vars) are.args_over;
                variables = subst (λ xs. IsStoreOver xs b.variables) (sym vars) are.variables_over;
              };
              path = is.path_over;
              facts = subst (λ xs. AreFactsOver xs s.facts) (sym vars) is.facts_over;
              passed = (tt, tt);
            };
          },
          ap (λ q. q.steps) same,
        )

    placed_start : (s : PureStart S) (n : PureNext S) → IsStartOf here s n → IsBeginning b are.proc terms kept s → StartPlaced p terms Of n
    placed_start s (caused cause) start is = tt
    placed_start s over start is = tt
    placed_start s (further y) start is = subst (λ z. StartPlaced p terms Of (further z)) (sym start.is) (start_may s is)

    pub starts_may : (ns : List (PureNext S)) → AreStartsOf here b.starts ns → Each (StartPlaced p terms Of) ns
    starts_may ns starts = each_across (IsStartOf here) (IsBeginning b are.proc terms kept) (StartPlaced p terms Of) b.starts ns starts (λ s n start is. placed_start s n start is) are.each

    -- ---- what is reached

    module _ (plain : S → ℤ → ℤ → Type 0) (meaning : IsMeaning memory stands terms) (most : ℕ) (first : IsFirstPlace p spec here) where
      -- wherever the conditions of the start are true, and none of them needs a literal form, a run begins there
      abbrev IsExact : PureStart S → Type 0
      IsExact s = (v : List PureValue) → IsProper b.vars v → IsTrue (all_true v s.path.conds) → has_open s.path.conds ≡ false → beginning.IsRealStart b memory stands spec v s

      abbrev Reached : PureNext S → Type 0
      Reached = IsReachedNext p memory m stands terms Of most

      -- where no literal form is needed, the whole precondition was added
      whole_there : (s : PureStart S) → IsOfPrecondition b spec s → has_open s.path.conds ≡ false → ComeOf spec s.path.vars b.args b.variables spec.pre s.path.conds
      whole_there s (inl whole) no_form = whole
      whole_there s (inr half) no_form = absurd (true≢false (sym half.needed ∙ no_form))

      -- where one is needed, some first items were
      needs_there : (s : PureStart S) → IsOfPrecondition b spec s → has_open s.path.conds ≡ true → NeedForm spec s.path.vars b.args b.variables s.path.conds
      needs_there s (inl whole) needed = record { items = spec.pre; later = []; are_first = sym (append-nil spec.pre); come = whole; needed = needed }
      needs_there s (inr half) needed = half

      taken_reached : (s : PureStart S) → IsExact s → IsOfPrecondition b spec s → IsBeginning b are.proc terms kept s → has_open s.path.conds ≡ false → MayBeMet s.path.vars s.path.conds
          → IsReachedWithin p memory m stands terms Of most (checked_start s)
      taken_reached s exact origin is no_form may_be =
          let none : s.path.steps ≡ 0 = (start_may s is).1 in
          record {
            reached = start_reached memory m stands terms meaning p Of (checked_start s)
                (start_real memory m stands terms kept plain meaning (beginnings_stand stands terms plain) p spec b are.proc are.found s is (start_may s is).0 exact no_form) (whole_there s origin no_form) may_be;
            within = omega (arith, none);
          }

      left_out_found : (s : PureStart S) (reason : Reason) (shown : PureShown) → IsOfPrecondition b spec s → IsBeginning b are.proc terms kept s → IsLeftOut here s reason shown
          → IsFoundCause p memory m Of most (undecided reason shown)
      left_out_found s reason shown origin is left =
          let (command, (there, place)) = first in
          subst (λ t. IsFoundCause p memory m Of most (undecided reason t)) (sym left.is) (record {
            runs = record {
              outside = left.outside.outside;
              first = left.outside.first;
              way = inl (record { command = command; first_there = there; place = place; choices = ap (λ q. q.choices) is.begins.is; come = needs_there s origin left.needed; may_be_met = left.may_be_met });
            };
            may_be_met = tt;
            way = tt;
            known = λ u none. not_none none;
          })

      unknown_found : (s : PureStart S) (cause : PureCause) → IsOfPrecondition b spec s → IsBeginning b are.proc terms kept s → IsUnknownStart here s cause → IsFoundCause p memory m Of most cause
      unknown_found s (undecided reason shown) origin is left = left_out_found s reason shown origin is left
      unknown_found s (failure t shown) origin is left = absurd left
      unknown_found s (fault kind shown) origin is left = absurd left
      unknown_found s (bound shown) origin is left = absurd left

      reached_start : (s : PureStart S) (n : PureNext S) → IsExact s → IsOfPrecondition b spec s → IsStartOf here s n → IsBeginning b are.proc terms kept s → Reached n
      reached_start s (caused cause) exact origin start is = unknown_found s (cause_view cause) origin is start
      reached_start s over exact origin start is = tt
      reached_start s (further y) exact origin start is = subst (λ z. Reached (further z)) (sym start.is) (taken_reached s exact origin is start.no_form start.may_be_met)

      abbrev OriginStart : PureStart S → PureNext S → Type 0
      OriginStart s n = IsOfPrecondition b spec s × IsStartOf here s n

      abbrev ExactStart : PureStart S → PureNext S → Type 0
      ExactStart s n = IsExact s × OriginStart s n

      pub starts_reached : (ns : List (PureNext S)) → AreStarts b memory stands spec → AreOfPrecondition b spec → AreStartsOf here b.starts ns → Each Reached ns
      starts_reached ns exact origin starts =
          each_across ExactStart (IsBeginning b are.proc terms kept) Reached b.starts ns
          (each_with_if IsExact OriginStart ExactStart b.starts ns (λ s n is start. (is, start)) exact
          (each_with_if (IsOfPrecondition b spec) (IsStartOf here) OriginStart b.starts ns (λ s n is start. (is, start)) origin starts))
          (λ s n start is. reached_start s n start.0 start.1.0 start.1.1 is) are.each

-- ---- literal forms

kept_among : (a : PureAtom) (conds others : List PureAtom) (x : Var) (b : Bool) → (Contains (variables_of_atoms others) x → Contains (variables_of_atoms conds) x) → Contains (variables_of_atoms (if b then (a ∷ others) else others)) x
    → Contains (variables_of_atoms (a ∷ conds)) x
kept_among a conds others x true later has =
    ⊎_elim (λ here. Contains-append_left (variables (term_of a)) (variables_of_atoms conds) x here) (λ rest. Contains-append_right (variables (term_of a)) (variables_of_atoms conds) x (later rest))
    (Contains-append_cases (variables (term_of a)) (variables_of_atoms others) x has)
kept_among a conds others x false later has = Contains-append_right (variables (term_of a)) (variables_of_atoms conds) x (later has)

others_among : (conds : List PureAtom) (x : Var) → Contains (variables_of_atoms (without_forms conds)) x → Contains (variables_of_atoms conds) x
others_among [] x has = has
others_among (a ∷ conds) x has = kept_among a conds (without_forms conds) x (not (is_open a)) (others_among conds x) has

pub others_over : (vars : List Sort) (conds : List PureAtom) → AreOver vars conds → AreOver vars (without_forms conds)
others_over vars conds all x has = all x (others_among conds x has)

true_before : (a b c : Bool) → IsTrue (a && b) → (IsTrue b → IsTrue c) → IsTrue (a && c)
true_before true b c both later = later both
true_before false b c both later = both

true_later : (a b : Bool) → IsTrue (a && b) → IsTrue b
true_later true b both = both
true_later false b both = absurd (true≢false (sym both))

kept_true : (v : List PureValue) (a : PureAtom) (conds others : List PureAtom) (b : Bool) → (IsTrue (all_true v conds) → IsTrue (all_true v others)) → IsTrue (all_true v (a ∷ conds)) → IsTrue (all_true v (if b then (a ∷ others) else others))
kept_true v a conds others true later all = true_before (truth v a) (all_true v conds) (all_true v others) all later
kept_true v a conds others false later all = later (true_later (truth v a) (all_true v conds) all)

others_true : (v : List PureValue) (conds : List PureAtom) → IsTrue (all_true v conds) → IsTrue (all_true v (without_forms conds))
others_true v [] all = all
others_true v (a ∷ conds) all = kept_true v a conds (without_forms conds) (not (is_open a)) (others_true v conds) all

-- where nothing meets the others, nothing meets all
pub others_never : (vars : List Sort) (conds : List PureAtom) → IsUnsatisfiable vars (without_forms conds) → IsUnsatisfiable vars conds
others_never vars conds never v meets = never v (record { proper = meets.proper; true_there = others_true v conds meets.true_there })

-- ---- what is answered of one

pub start_taken : {S : Type 0} (here : Place) (s : PureStart S) (n : PureNext S) → has_open s.path.conds ≡ false → MayBeMet s.path.vars s.path.conds → n ≡ further (checked_start s) → IsStartOf here s n
start_taken here s n no_form may_be is = subst (IsStartOf here s) (sym is) (record { is = refl; no_form = no_form; may_be_met = may_be })
