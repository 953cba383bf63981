-- Candidates that are added after others, some of them made of copies of the path.
use Rattle.std.proofs.Common.{◌≡◌, ℕ, ℤ, List, [], ◌∷◌, ◌++◌, map, Option, Some, None, refl, sym, ap, subst, ◌∙◌, append_assoc}
use Rattle.std.specs.Option.{option_map}
use Rattle.std.proofs.lemmas.List.{append-nil}
use Rattle.gil_values.specs.declared.places.Place.{Place}
use Rattle.gil_values.specs.Pure.{PureValue}
use Rattle.gil_syntax.specs.Pure.{PureParts, PureExpr, ifgoto, call, act}
use Rattle.gil_syntax.specs.Valid.{ends_body, is_bad_jump}
use Rattle.gil_machine.specs.Step.{handler_label}
use Rattle.mem_model.specs.declared.keys.MemoryName.{MemoryName}
use Rattle.mem_model.specs.Actions.{Actions}
use Rattle.mem_model.specs.Heaps.{Heap}
use Rattle.pure_terms.specs.declared.atoms.Atom.{Atom}
use Rattle.pure_terms.specs.Pure.{PureTerm, PureAtom}
use Rattle.pure_terms.specs.View.{atoms_view}
use Rattle.sym_engine.specs.Lawful.{AddsCopies, AreLawful, AreLawfulIn}
use Rattle.sym_engine.proofs.Copied.{each_itself, joined}
use Rattle.sym_engine.proofs.Placing.{all_placed, turns_placed, calls_placed, acts_placed}
use Rattle.sym_evaluation.specs.Pure.{PureCases}
use Rattle.sym_model.specs.Laws.{IsMeaning, IsCopy}
use Rattle.sym_model.specs.Terms.{StateTerms}
use Rattle.sym_paths.specs.Moves.{running_store, NoOwn}
use Rattle.sym_paths.specs.Pure.{PurePath}
use Rattle.sym_paths.specs.Settling.{Candidate}
use Rattle.sym_paths.specs.Valued.{faulted, IsEvaluated}
use Rattle.sym_paths.specs.Acting.{Acts, IsAskedByAction, IsAskedByMemory}
use Rattle.sym_paths.specs.Calls.{Calls, call_cases, IsAskedByCall}
use Rattle.sym_paths.specs.Cases.{AreResults, AreOfCases, AreEvaluated}
use Rattle.sym_paths.specs.Copies.{IsCopied, AreCopied}
use Rattle.sym_paths.specs.Guards.{for_side, Turns, IsAskedByGuard, IsGuardEvaluated}
use Rattle.sym_paths.proofs.Acting.{actions_keep_the_laws}
use Rattle.sym_paths.proofs.CandidateCalls.{calls_keep_the_laws}
use Rattle.sym_paths.proofs.CandidateCopies.{copies_keep_the_laws}
use Rattle.sym_paths.proofs.Turning.{guards_keep_the_laws}

module _ {S : Type 0} (stands : S → List PureValue → Heap → Type 0) (terms : S → StateTerms) (depends : S → List ℕ → List PureTerm → List PureValue → Heap → PureTerm → Type 0) (plain : S → ℤ → ℤ → Type 0) where
  abbrev One : Candidate S → Candidate S → Type 0
  One = IsCopied stands terms depends plain

  abbrev Adds : List (Candidate S) → List (Candidate S) → List (Candidate S) → Type 0
  Adds = AddsCopies stands terms depends plain

  pub adds_none : (before : List (Candidate S)) → Adds [] before before
  adds_none before first copied = subst (λ xs. AreCopied stands terms depends plain xs before) (sym (append-nil first)) copied

  pub adds_one : (c d : Candidate S) (before after : List (Candidate S)) → after ≡ before ++ d ∷ [] → One c d → Adds (c ∷ []) before after
  adds_one c d before after is one first copied =
      subst (AreCopied stands terms depends plain (first ++ c ∷ [])) (sym is) (joined stands terms depends plain first before (c ∷ []) (d ∷ []) copied (d, ([], (refl, one, refl))))

  pub adds_both : (xs ys before between after : List (Candidate S)) → Adds xs before between → Adds ys between after → Adds (xs ++ ys) before after
  adds_both xs ys before between after one two first copied =
      subst (λ zs. AreCopied stands terms depends plain zs after) (append_assoc first xs ys) (two (first ++ xs) (one first copied))

  pub same_one : (c d : Candidate S) → d ≡ c → One c d
  same_one c d is = subst (One c) (sym is) (record {
    path = refl;
    no_fault = refl;
    memory = record {
      stands_for = λ v h. (λ is. is, λ is. is);
      same_terms = refl;
      as_plain = λ low high is. is;
      same_forms = λ action args v h t. (λ is. is, λ is. is);
    };
  })

  -- what is made of a path is, of a copy of the path, made as a copy
  pub made_copied : (make : PurePath S → Candidate S) (path copy : PurePath S) (d : Candidate S)
      → ((q : PurePath S) (s : S) → make (record q { memory = s }) ≡ record { path = record (make q).path { memory = s }; no_fault = (make q).no_fault })
      → ((q : PurePath S) → (make q).path.memory ≡ q.memory)
      → copy ≡ record path { memory = copy.memory } → IsCopy stands terms depends plain path.memory copy.memory → d ≡ make copy → One (make path) d
  made_copied make path copy d moves keeps same memory is =
      subst (One (make path)) (sym (is ∙ ap make same ∙ moves path copy.memory))
      (record {
        path = refl;
        no_fault = refl;
        memory = subst (λ m. IsCopy stands terms depends plain m copy.memory) (sym (keeps path)) memory;
      })

  -- ---- a side that may be missing

  module _ (make : List PureAtom → Candidate S) (o : Option (List Atom)) (before : List (Candidate S)) where
    pub side_added : (more : List Atom) (d : Candidate S) (after : List (Candidate S)) → o ≡ Some more → after ≡ before ++ d ∷ [] → One (make (atoms_view more)) d → Adds (for_side make (option_map atoms_view o)) before after
    side_added more d after is pushed one = subst (λ q. Adds (for_side make (option_map atoms_view q)) before after) (sym is) (adds_one (make (atoms_view more)) d before after pushed one)

    pub side_missing : o ≡ None → Adds (for_side make (option_map atoms_view o)) before before
    side_missing is = subst (λ q. Adds (for_side make (option_map atoms_view q)) before before) (sym is) (adds_none before)

  -- ---- the candidates of commands

  module _ (asked : List ℕ → List PureTerm → List PureTerm × List PureTerm) (m : Actions) (path : PurePath S) (here : Place) where
    pub guard_lawful : (cases : PureCases PureTerm) (faults all last : List (Candidate S)) → AreCopied stands terms depends plain (map (faulted path here) cases.faults) faults → Adds last faults all
        → (e : PureExpr) (label : ℤ) → IsGuardEvaluated (running_store path.stack) e cases → AreResults (Turns path label here) cases.good last → AreLawful stands terms asked m path here (ifgoto e label) all
    guard_lawful cases faults all last copies adds e label evaluated result p c over no_end at command place =
        let whole : AreCopied stands terms depends plain (map (faulted path here) cases.faults ++ last) all = adds (map (faulted path here) cases.faults) copies in (
          copies_keep_the_laws stands terms depends plain p m (IsAskedByGuard (running_store path.stack) e) NoOwn path (map (faulted path here) cases.faults ++ last) all
              (guards_keep_the_laws stands terms p m path c e label cases (map (faulted path here) cases.faults ++ last) over no_end at command evaluated
              (subst (λ h. AreOfCases path h (Turns path label h) cases (map (faulted path here) cases.faults ++ last)) (sym place) (last, (refl, result))))
              whole,
          λ valid placed. all_placed p path here stands terms depends plain faults last all cases.faults whole (turns_placed p valid path here c at placed e label cases.good last command result),
        )

    pub call_lawful : (p : PureParts) (callee : PureCases PureTerm) (args : PureCases (List PureTerm)) (faults last : List (Candidate S)) → AreCopied stands terms depends plain (map (faulted path here) (call_cases callee args).faults) faults
        → (x : List ℕ) (e : PureExpr) (es : List PureExpr) (handler : Option ℤ) → IsEvaluated (running_store path.stack) e callee → AreEvaluated (running_store path.stack) es args → AreResults (Calls path x (handler_label handler) here p) (call_cases callee args).good last
        → AreLawfulIn stands terms asked m p path here (call x e es handler) (faults ++ last)
    call_lawful p callee args faults last copies x e es handler evaluated all_evaluated result c over no_end at command place =
        let whole : AreCopied stands terms depends plain (map (faulted path here) (call_cases callee args).faults ++ last) (faults ++ last) =
        joined stands terms depends plain (map (faulted path here) (call_cases callee args).faults) faults last last copies (each_itself stands terms depends plain last) in (
          copies_keep_the_laws stands terms depends plain p m (IsAskedByCall (running_store path.stack) e es) NoOwn path (map (faulted path here) (call_cases callee args).faults ++ last) (faults ++ last)
              (calls_keep_the_laws stands terms p m path c x e es handler callee args (map (faulted path here) (call_cases callee args).faults ++ last) over no_end at command evaluated all_evaluated
              (subst (λ h. AreOfCases path h (Calls path x (handler_label handler) h p) (call_cases callee args) (map (faulted path here) (call_cases callee args).faults ++ last)) (sym place) (last, (refl, result))))
              whole,
          λ valid placed. all_placed p path here stands terms depends plain faults last (faults ++ last) (call_cases callee args).faults whole (calls_placed p valid path here c at placed x handler (call_cases callee args).good last (ap ends_body command) (λ n. ap (is_bad_jump n) command) result),
        )

    pub act_lawful : (memory : MemoryName) → IsMeaning memory stands terms → (cases : PureCases (List PureTerm)) (faults last : List (Candidate S)) → AreCopied stands terms depends plain (map (faulted path here) cases.faults) faults
        → (x action : List ℕ) (es : List PureExpr) → AreEvaluated (running_store path.stack) es cases → AreResults (Acts stands terms m asked path x action here) cases.good last → AreLawful stands terms asked m path here (act x action es) (faults ++ last)
    act_lawful memory meaning cases faults last copies x action es evaluated result p c over no_end at command place =
        let whole : AreCopied stands terms depends plain (map (faulted path here) cases.faults ++ last) (faults ++ last) =
        joined stands terms depends plain (map (faulted path here) cases.faults) faults last last copies (each_itself stands terms depends plain last) in (
          copies_keep_the_laws stands terms depends plain p m (IsAskedByAction terms asked path action es) (IsAskedByMemory terms asked path action es) path (map (faulted path here) cases.faults ++ last) (faults ++ last)
              (actions_keep_the_laws memory stands terms meaning asked m p path c x action es cases (map (faulted path here) cases.faults ++ last) over no_end at command evaluated
              (subst (λ h. AreOfCases path h (Acts stands terms m asked path x action h) cases (map (faulted path here) cases.faults ++ last)) (sym place) (last, (refl, result))))
              whole,
          λ valid placed. all_placed p path here stands terms depends plain faults last (faults ++ last) cases.faults whole (acts_placed p valid path here c at placed stands terms m asked x action cases.good last (ap ends_body command) result),
        )
