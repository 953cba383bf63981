-- Candidates that are made of copies of a path.
use Rattle.std.proofs.Common.{◌≡◌, ℕ, ℤ, List, [], ◌∷◌, ◌++◌, map, Option, Some, None, refl, sym, ap, subst}
use Rattle.std.specs.Option.{option_map}
use Rattle.std.proofs.lemmas.List.{map-append}
use Rattle.gil_values.specs.declared.places.Place.{Place}
use Rattle.gil_values.specs.Operators.{fault_text}
use Rattle.gil_values.specs.Pure.{PureValue}
use Rattle.gil_syntax.specs.Pure.{PureExpr, assign, fail, return, throw}
use Rattle.gil_syntax.specs.Valid.{ends_body}
use Rattle.mem_model.specs.Actions.{Actions}
use Rattle.mem_model.specs.Heaps.{Heap}
use Rattle.pure_terms.specs.declared.literals.Literal.{Literal}
use Rattle.pure_terms.specs.Pure.{PureTerm, literal}
use Rattle.pure_terms.specs.declared.terms.Term.{Term}
use Rattle.pure_terms.specs.View.{term_view}
use Rattle.sym_evaluation.specs.declared.cases.GoodCase.{GoodCase}
use Rattle.sym_evaluation.specs.View.{good_view}
use Rattle.sym_evaluation.specs.Pure.{PureFaultCase, PureGoodCase, PureCases}
use Rattle.sym_evaluation.specs.Questions.{IsAsked}
use Rattle.sym_model.specs.Laws.{IsCopy}
use Rattle.sym_model.specs.Terms.{StateTerms}
use Rattle.sym_paths.specs.Moves.{running_store, NoOwn}
use Rattle.sym_paths.specs.Pure.{PurePath}
use Rattle.sym_paths.specs.Settling.{Candidate}
use Rattle.sym_paths.specs.Valued.{faulted, failing, Assigns, Fails, IsResult, AreForCases, IsEvaluated}
use Rattle.sym_paths.proofs.Valued.{valued_candidates}
use Rattle.sym_engine.specs.Lawful.{AreLawful}
use Rattle.sym_engine.proofs.Placing.{all_placed, assigns_placed, fails_placed, returns_placed, throws_placed}
use Rattle.sym_paths.specs.Cases.{AreResults, AreOfCases}
use Rattle.sym_paths.specs.Copies.{IsCopied, AreCopied}
use Rattle.sym_paths.specs.Returns.{Returns}
use Rattle.sym_paths.proofs.CandidateCopies.{copies_keep_the_laws}
use Rattle.sym_paths.proofs.Returning.{returns_keep_the_laws}
use Rattle.sym_paths.specs.Throws.{Throws}
use Rattle.sym_paths.proofs.Throwing.{throws_keep_the_laws}

-- ---- results that there are, and that there are not

module _ {S : Type 0} where
  pub some_result : (Makes : PureGoodCase PureTerm → Candidate S → Type 0) (o : Option (GoodCase Term)) (good : GoodCase Term) (d : Candidate S) → o ≡ Some good → Makes (good_view term_view good) d → IsResult Makes (option_map (good_view term_view) o) (d ∷ [])
  some_result Makes o good d is makes = subst (λ q. IsResult Makes (option_map (good_view term_view) q) (d ∷ [])) (sym is) (d, (makes, refl))

  pub no_result : (Makes : PureGoodCase PureTerm → Candidate S → Type 0) (o : Option (GoodCase Term)) → o ≡ None → IsResult Makes (option_map (good_view term_view) o) []
  no_result Makes o is = subst (λ q. IsResult Makes (option_map (good_view term_view) q) []) (sym is) refl

  pub some_results : (Make : PureGoodCase PureTerm → List (Candidate S) → Type 0) (o : Option (GoodCase Term)) (good : GoodCase Term) (ds : List (Candidate S)) → o ≡ Some good → Make (good_view term_view good) ds → AreResults Make (option_map (good_view term_view) o) ds
  some_results Make o good ds is make = subst (λ q. AreResults Make (option_map (good_view term_view) q) ds) (sym is) make

  pub no_results : (Make : PureGoodCase PureTerm → List (Candidate S) → Type 0) (o : Option (GoodCase Term)) → o ≡ None → AreResults Make (option_map (good_view term_view) o) []
  no_results Make o is = subst (λ q. AreResults Make (option_map (good_view term_view) q) []) (sym is) refl

module _ {S : Type 0} (stands : S → List PureValue → Heap → Type 0) (terms : S → StateTerms) (depends : S → List ℕ → List PureTerm → List PureValue → Heap → PureTerm → Type 0) (plain : S → ℤ → ℤ → Type 0) where
  abbrev pub Copied : Candidate S → Candidate S → Type 0
  Copied = IsCopied stands terms depends plain

  abbrev pub AllCopied : List (Candidate S) → List (Candidate S) → Type 0
  AllCopied = AreCopied stands terms depends plain

  itself : (c : Candidate S) → Copied c c
  itself c = record {
    path = refl;
    no_fault = refl;
    memory = record {
      stands_for = λ v h. (λ is. is, λ is. is);
      same_terms = refl;
      as_plain = λ low high is. is;
      same_forms = λ action args v h t. (λ is. is, λ is. is);
    };
  }

  pub each_itself : (cs : List (Candidate S)) → AllCopied cs cs
  each_itself [] = refl
  each_itself (c ∷ cs) = (c, (cs, (refl, itself c, each_itself cs)))

  pub joined : (xs ys us vs : List (Candidate S)) → AllCopied xs ys → AllCopied us vs → AllCopied (xs ++ us) (ys ++ vs)
  joined [] ys us vs first second = subst (λ zs. AllCopied us (zs ++ vs)) (sym first) second
  joined (x ∷ xs) ys us vs (d, (rest, (is, copy, later))) second = (d, (rest ++ vs, (ap (λ zs. zs ++ vs) is, copy, joined xs rest us vs later second)))

  pub faulted_copied : (path copy : PurePath S) (here : Place) (fc : PureFaultCase) (d : Candidate S) → copy ≡ record path { memory = copy.memory } → IsCopy stands terms depends plain path.memory copy.memory
      → d ≡ failing copy here (record { conds = fc.conds; result = literal (Literal.Str (fault_text fc.fault)) }) → Copied (faulted path here fc) d
  faulted_copied path copy here fc d same memory is =
      subst (Copied (faulted path here fc)) (sym is)
      (record {
        path = ap (λ (q : PurePath S). (failing q here (record { conds = fc.conds; result = literal (Literal.Str (fault_text fc.fault)) })).path) same;
        no_fault = refl;
        memory = memory;
      })

  pub copied_more : (path : PurePath S) (here : Place) (faults : List PureFaultCase) (fc : PureFaultCase) (ds : List (Candidate S)) (d : Candidate S) → AllCopied (map (faulted path here) faults) ds → Copied (faulted path here fc) d
      → AllCopied (map (faulted path here) (faults ++ fc ∷ [])) (ds ++ d ∷ [])
  copied_more path here faults fc ds d before one =
      subst (λ cs. AllCopied cs (ds ++ d ∷ [])) (sym (map-append (faulted path here) faults (fc ∷ []))) (joined (map (faulted path here) faults) ds (faulted path here fc ∷ []) (d ∷ []) before (d, ([], (refl, one, refl))))

  -- ---- the candidates of commands, made of copies

  module _ (asked : List ℕ → List PureTerm → List PureTerm × List PureTerm) (m : Actions) (path : PurePath S) (here : Place) (cases : PureCases PureTerm) (faults last : List (Candidate S)) (copies : AllCopied (map (faulted path here) cases.faults) faults) where
    abbrev ideal : List (Candidate S)
    ideal = map (faulted path here) cases.faults ++ last

    all_copied : AllCopied ideal (faults ++ last)
    all_copied = joined (map (faulted path here) cases.faults) faults last last copies (each_itself last)

    pub assign_lawful : (x : List ℕ) (e : PureExpr) → IsEvaluated (running_store path.stack) e cases → IsResult (Assigns path x) cases.good last → AreLawful stands terms asked m path here (assign x e) (faults ++ last)
    assign_lawful x e evaluated result p c over no_end at command place = (
      copies_keep_the_laws stands terms depends plain p m (IsAsked (running_store path.stack) e) NoOwn path ideal (faults ++ last)
          ((valued_candidates stands terms).of_assignment p m path c x e cases ideal over no_end at command evaluated (subst (λ h. AreForCases path h (Assigns path x) cases ideal) (sym place) (last, (refl, result))))
          all_copied,
      λ valid placed. all_placed p path here stands terms depends plain faults last (faults ++ last) cases.faults all_copied (assigns_placed p valid path here c at placed x cases.good last (ap ends_body command) result),
    )

    pub fail_lawful : (e : PureExpr) → IsEvaluated (running_store path.stack) e cases → IsResult (Fails path here) cases.good last → AreLawful stands terms asked m path here (fail e) (faults ++ last)
    fail_lawful e evaluated result p c over no_end at command place = (
      copies_keep_the_laws stands terms depends plain p m (IsAsked (running_store path.stack) e) NoOwn path ideal (faults ++ last)
          ((valued_candidates stands terms).of_failure p m path c e cases ideal over no_end at command evaluated (subst (λ h. AreForCases path h (Fails path h) cases ideal) (sym place) (last, (refl, result))))
          all_copied,
      λ valid placed. all_placed p path here stands terms depends plain faults last (faults ++ last) cases.faults all_copied (fails_placed p valid path here c at placed cases.good last result),
    )

    pub throw_lawful : (e : PureExpr) → IsEvaluated (running_store path.stack) e cases → AreResults (Throws path here path.stack) cases.good last → AreLawful stands terms asked m path here (throw e) (faults ++ last)
    throw_lawful e evaluated result p c over no_end at command place = (
      copies_keep_the_laws stands terms depends plain p m (IsAsked (running_store path.stack) e) NoOwn path ideal (faults ++ last)
          (throws_keep_the_laws stands terms p m path c e cases ideal over no_end at command evaluated (subst (λ h. AreOfCases path h (Throws path h path.stack) cases ideal) (sym place) (last, (refl, result))))
          all_copied,
      λ valid placed. all_placed p path here stands terms depends plain faults last (faults ++ last) cases.faults all_copied (throws_placed p valid path here c at placed cases.good last result),
    )

    pub return_lawful : (e : PureExpr) → IsEvaluated (running_store path.stack) e cases → AreResults (Returns path path.stack) cases.good last → AreLawful stands terms asked m path here (return e) (faults ++ last)
    return_lawful e evaluated result p c over no_end at command place = (
      copies_keep_the_laws stands terms depends plain p m (IsAsked (running_store path.stack) e) NoOwn path ideal (faults ++ last)
          (returns_keep_the_laws stands terms p m path c e cases ideal over no_end at command evaluated (subst (λ h. AreOfCases path h (Returns path path.stack) cases ideal) (sym place) (last, (refl, result))))
          all_copied,
      λ valid placed. all_placed p path here stands terms depends plain faults last (faults ++ last) cases.faults all_copied (returns_placed p valid path here c at placed cases.good last result),
    )
