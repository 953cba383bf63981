-- What is answered where a plain path leaves its entry.
use Rattle.std.proofs.Common.{◌≡◌, ◌↔◌, inl, inr, ℕ, ◌+◌, ◌*◌, ◌^◌, ◌<◌, ◌≤◌, ℤ, pos, neg_ℤ, List, [], ◌∷◌, ◌++◌, length, Option, Some, None, IsTrue, refl, sym, ap, subst, arith}
use Rattle.gil_values.specs.declared.places.Place.{Place}
use Rattle.gil_values.specs.Pure.{PureValue}
use Rattle.gil_syntax.specs.Pure.{PureParts, PureItem, PureNumberedCommand}
use Rattle.gil_syntax.specs.Simple.{is_simple_command}
use Rattle.mem_model.specs.declared.keys.MemoryName.{MemoryName}
use Rattle.mem_model.specs.Heaps.{Heap}
use Rattle.pure_terms.specs.declared.deciders.Reason.{Reason}
use Rattle.pure_terms.specs.declared.variables.Sort.{Sort}
use Rattle.pure_terms.specs.Fragment.{InFragment}
use Rattle.pure_terms.specs.Meaning.{IsOver}
use Rattle.pure_terms.specs.Pure.{PureTerm, PureAtom, negative, term_of}
use Rattle.sym_paths.proofs.AskedFragments.{each_over_all}
use Rattle.sym_chunks.proofs.Readings.{decided_equality}
use Rattle.sym_model.specs.declared.comparing.Comparison.{Comparison}
use Rattle.sym_model.specs.Alternatives.{never, always, given, equal, other, by_comparison}
use Rattle.sym_model.specs.Comparing.{compared}
use Rattle.sym_evaluation.specs.Plainly.{IsPlain}
use Rattle.sym_model.specs.Laws.{IsDecidedWithin}
use Rattle.sym_model.specs.Lists.{Each, OneOf}
use Rattle.sym_model.specs.Plain.{IsPlainState}
use Rattle.sym_model.specs.Terms.{StateTerms}
use Rattle.sym_model.proofs.ListLaws.{not_none, each_append, each_to, one_with}
use Rattle.sym_model.proofs.Wider.{lower_bound, higher_bound}
use Rattle.sym_paths.specs.Meaning.{command_of_path, end_terms}
use Rattle.sym_paths.specs.Pure.{PureEnd, returned, failed, threw, missed, vanished, cut, unknown, PurePath}
use Rattle.sym_paths.specs.Steps.{Grows, IsUnknown, IsPlainPath, StaysWithin, step_growth, narrow_bound}
use Rattle.sym_states.specs.Pure.{PureFact, PureState}
use Rattle.sym_matching.specs.Meaning.{IsCondition, AreConditions}
use Rattle.sym_matching.specs.Plainly.{AreDecided}
use Rattle.sym_matching.proofs.TestLaws.{equal_over}
use Rattle.footprint.specs.Plainly.{IsPlainMemory, widened, item_count}
use Rattle.sym_model.proofs.Fragments.{decided_in_fragment}
use Rattle.checked_paths.specs.declared.nexts.FaultKind.{FaultKind}
use Rattle.checked_paths.specs.Causes.{ShowsEnd}
use Rattle.checked_paths.specs.Following.{IsAnswered}
use Rattle.checked_paths.specs.Plainly.{IsSureCause, OfNext}
use Rattle.checked_paths.specs.Pure.{PureEntry, PurePassed, PureNext, further, over, caused}
use Rattle.checked_paths.proofs.Plainness.{answer_sure, nexts_sure, IsSurePath}
use Rattle.checked_rows.specs.Doubts.{PureDoubt, always as always_doubt, under, beyond, IsDoubtNext, IsToldThere}
use Rattle.checked_rows.specs.Ending.{DoubtsAResult, PureFinish, by_return, by_throw, finish_at, at_end, IsThere}
use Rattle.checked_rows.specs.Plainly.{MayLeavePlainly, MayFinishPlainly, IsSureEnd, FinishesPlainly, IsSureNext, EndsSurely, EachEndsSurely, EndsPlainly}
use Rattle.checked_rows.specs.States.{IsStateOf}

-- ---- the doubt that the result is what has its name

module _ (vars : List Sort) (conds : List PureAtom) (b : ℕ) (narrow : b ≤ narrow_bound) (few : length vars < 2 ^ 40) (conds_over : Each (λ a. IsOver vars (term_of a)) conds) (conds_decided : AreDecided b conds)
    (r t : PureTerm) (over_r : IsOver vars r) (over_t : IsOver vars t) (plain_r : IsPlain b r) (plain_t : IsPlain b t) where
  differs : IsDecidedWithin (neg_ℤ (pos b)) (pos b) (negative (equal r t))
  differs = decided_equality (neg_ℤ (pos b)) (pos b) r t plain_r plain_t

  others_decided : (c : Comparison) → Each (AreDecided b) (by_comparison c never always (given (negative (equal r t))))
  others_decided Comparison.Same = tt
  others_decided Comparison.Different = (tt, tt)
  others_decided Comparison.Unsure = ((differs, tt), tt)

  others_over : Each (AreConditions vars) (other r t)
  others_over = (equal_over vars r t over_r over_t).otherwise

  each_both : {A : Type 0} (P Q : A → Type 0) (xs : List A) → Each P xs → Each Q xs → Each (λ x. P x × Q x) xs
  each_both P Q [] first second = tt
  each_both P Q (x ∷ xs) first second = ((first.0, second.0), each_both P Q xs first.1 second.1)

  in_fragment : (more : List PureAtom) → AreDecided b more × AreConditions vars more → InFragment (conds ++ more)
  in_fragment more (decided, names) =
      decided_in_fragment b narrow vars (conds ++ more) few
      (each_over_all vars (conds ++ more) (each_append (λ a. IsOver vars (term_of a)) conds more conds_over (each_to (IsCondition vars) (λ a. IsOver vars (term_of a)) more (λ a is. is.0) names)))
      (each_append (IsDecidedWithin (neg_ℤ (pos b)) (pos b)) conds more conds_decided decided)

  pub one_in_fragment : (atoms : List PureAtom) (u : List PureValue) → OneOf (λ more. IsToldThere vars conds more (under atoms u)) (other r t) → InFragment atoms
  one_in_fragment atoms u one =
      one_with (λ more. AreDecided b more × AreConditions vars more) (λ more. IsToldThere vars conds more (under atoms u)) (other r t)
      (each_both (AreDecided b) (AreConditions vars) (other r t) (others_decided (compared r t)) others_over) one
      (λ more is (same, meets). subst InFragment (sym same) (in_fragment more is))

  pub none_beyond : (atoms : List PureAtom) (reason : Reason) → OneOf (λ more. IsToldThere vars conds more (beyond atoms reason)) (other r t) → ⊥
  none_beyond atoms reason one =
      one_with (λ more. AreDecided b more × AreConditions vars more) (λ more. IsToldThere vars conds more (beyond atoms reason)) (other r t)
      (each_both (AreDecided b) (AreConditions vars) (other r t) (others_decided (compared r t)) others_over) one
      (λ more is (same, out). out.outside (subst InFragment (sym same) (in_fragment more is)))

none_told : {A : Type 0} (P : A → Type 0) (xs : List A) → ((x : A) → ¬ P x) → OneOf P xs → ⊥
none_told P [] none one = one
none_told P (x ∷ xs) none (inl here) = none x here
none_told P (x ∷ xs) none (inr later) = none_told P xs none later

no_wider : (n b : ℕ) → widened n b ≤ narrow_bound → b ≤ narrow_bound
no_wider n b narrow = omega (arith, narrow)

module _ {S : Type 0} (here : Place) (path : PurePath S) (k : PureNext S) where
  pub under_sure : (conds : List PureAtom) (u : List PureValue) → InFragment conds → IsDoubtNext FaultKind.Post here path (under conds u) k → IsSureEnd k
  under_sure conds u decided (cause, (is, shows)) = subst IsSureEnd (sym is) (subst IsSureCause (sym shows) decided)

  module _ (s : PureState S) (e : PureEntry) (posts : List (List PureItem)) (t : PureTerm) (Plain : ℕ → S → Type 0) (b : ℕ) (may : MayFinishPlainly Plain b e posts t s) (conds_over : Each (λ a. IsOver s.vars (term_of a)) s.conds) (over_t : IsOver s.vars t) where
    is_narrow : b ≤ narrow_bound
    is_narrow = no_wider (item_count posts) b may.leaves.narrow

    pub result_sure : (o : Option PureTerm) → ((r : PureTerm) → o ≡ Some r → IsOver s.vars r × IsPlain b r) → (doubt : PureDoubt) → DoubtsAResult s.vars s.conds t o doubt → IsDoubtNext FaultKind.Post here path doubt k → IsSureEnd k
    result_sure None named doubt none shows = absurd none
    result_sure (Some r) named always_doubt one shows = absurd (none_told (λ more. IsToldThere s.vars s.conds more always_doubt) (other r t) (λ more told. told) one)
    result_sure (Some r) named (under conds u) one shows =
        let (over_r, plain_r) = named r refl in
        under_sure conds u (one_in_fragment s.vars s.conds b is_narrow may.few conds_over may.decided r t over_r over_t plain_r may.term conds u one) shows
    result_sure (Some r) named (beyond atoms reason) one shows =
        let (over_r, plain_r) = named r refl in
        absurd (none_beyond s.vars s.conds b is_narrow may.few conds_over may.decided r t over_r over_t plain_r may.term atoms reason one)

-- ---- the state where a path ends

pub finishes_plainly_there : {S : Type 0} (memory : MemoryName) (keeps : Type 0) (stands : S → List PureValue → Heap → Type 0) (terms : S → StateTerms) (s r : PureState S) → IsThere stands terms s r → (e : PureEntry) (posts : List (List PureItem))
    (t : PureTerm) (k : PureNext S) → FinishesPlainly (IsPlainMemory memory keeps terms) e posts t r k → FinishesPlainly (IsPlainMemory memory keeps terms) e posts t s k
finishes_plainly_there memory keeps stands terms s r there e posts t k plainly b may =
    let same_conds : s.conds ≡ r.conds = sym (ap (λ (q : PureState _). q.conds) there.is) in
    let same_vars : s.vars ≡ r.vars = sym (ap (λ (q : PureState _). q.vars) there.is) in
    plainly b (record {
      leaves = may.leaves;
      term = may.term;
      decided = subst (AreDecided b) same_conds may.decided;
      plain_memory = record {
        keeps_plain = may.plain_memory.keeps_plain;
        plain = subst (λ (ts : StateTerms). IsPlainState memory ts (neg_ℤ (pos b)) (pos b)) (sym there.same_terms) may.plain_memory.plain;
      };
      few = subst (λ (vs : List Sort). length vs < 2 ^ 40) same_vars may.few;
    })

-- ---- one next path

module _ {S : Type 0} (plain : S → ℤ → ℤ → Type 0) (Plain : ℕ → S → Type 0) (e : PureEntry) (next : PurePath S) (k : PureNext S) where
  sure_end : (P : PurePath S → Type 0) (n : PureNext S) → IsSureEnd n → OfNext P n
  sure_end P (further y) is = absurd is
  sure_end P over is = tt
  sure_end P (caused cause) is = is

  finish_from : (s : PureState S) (posts : List (List PureItem)) (t : PureTerm) (b : ℕ) → IsSureNext plain b next → Plain b s.memory → IsPlain b t → MayLeavePlainly b e posts → MayFinishPlainly Plain b e posts t (at_end s next)
  finish_from s posts t b sure plain_memory term leaves = record { leaves = leaves; term = term; decided = sure.from.conds; plain_memory = plain_memory; few = sure.few }

  same_return : (t u : PureTerm) → Some (by_return t) ≡ Some (by_return u) → t ≡ u
  same_return t u is = cc

  same_throw : (t u : PureTerm) → Some (by_throw t) ≡ Some (by_throw u) → t ≡ u
  same_throw t u is = cc

  returns_plain : (b : ℕ) (o : Option PureEnd) (t : PureTerm) → finish_at o ≡ Some (by_return t) → Each (IsPlain b) (end_terms o) → IsPlain b t
  returns_plain b (Some (returned u)) t is plain_ends = subst (IsPlain b) (same_return u t is) plain_ends.0
  returns_plain b (Some (threw u place)) t is plain_ends = cc
  returns_plain b (Some (failed u place)) t is plain_ends = not_none is
  returns_plain b (Some (missed l place)) t is plain_ends = not_none is
  returns_plain b (Some vanished) t is plain_ends = not_none is
  returns_plain b (Some cut) t is plain_ends = not_none is
  returns_plain b (Some (unknown place reason)) t is plain_ends = not_none is
  returns_plain b None t is plain_ends = not_none is

  throws_plain : (b : ℕ) (o : Option PureEnd) (t : PureTerm) → finish_at o ≡ Some (by_throw t) → Each (IsPlain b) (end_terms o) → IsPlain b t
  throws_plain b (Some (returned u)) t is plain_ends = cc
  throws_plain b (Some (threw u place)) t is plain_ends = subst (IsPlain b) (same_throw u t is) plain_ends.0
  throws_plain b (Some (failed u place)) t is plain_ends = not_none is
  throws_plain b (Some (missed l place)) t is plain_ends = not_none is
  throws_plain b (Some vanished) t is plain_ends = not_none is
  throws_plain b (Some cut) t is plain_ends = not_none is
  throws_plain b (Some (unknown place reason)) t is plain_ends = not_none is
  throws_plain b None t is plain_ends = not_none is

  pub return_sure : (s : PureState S) (t : PureTerm) → finish_at next.ending ≡ Some (by_return t) → FinishesPlainly Plain e e.spec.posts t (at_end s next) k → EndsSurely plain Plain s e next k
  return_sure s t is plainly b sure plain_memory posts errors =
      sure_end (IsPlainPath plain b) k (plainly b (finish_from s e.spec.posts t b sure plain_memory (returns_plain b next.ending t is sure.from.ending) posts))

  pub throw_sure : (s : PureState S) (t : PureTerm) → finish_at next.ending ≡ Some (by_throw t) → FinishesPlainly Plain e e.spec.errors t (at_end s next) k → EndsSurely plain Plain s e next k
  throw_sure s t is plainly b sure plain_memory posts errors =
      sure_end (IsPlainPath plain b) k (plainly b (finish_from s e.spec.errors t b sure plain_memory (throws_plain b next.ending t is sure.from.ending) errors))

  pub other_sure : (s : PureState S) (here : Place) (stands : S → List PureValue → Heap → Type 0) (terms : S → StateTerms) (facts : List PureFact) (passed : List (List (PurePassed S))) → IsAnswered stands terms facts passed next k → ShowsEnd here next k
      → EndsSurely plain Plain s e next k
  other_sure s here stands terms facts passed answer shows b sure plain_memory posts errors =
      answer_sure (IsPlainPath plain b) here stands terms facts passed next k answer shows ((sure.from, sure.known), sure.decided)

-- ---- all next paths of a return or a throw

module _ {S : Type 0} (memory : MemoryName) (keeps : Type 0) (stands : S → List PureValue → Heap → Type 0) (terms : S → StateTerms) (plain : S → ℤ → ℤ → Type 0)
    (said : (m : S) (low high : ℤ) → plain m low high ↔ IsPlainState memory (terms m) low high) where
  -- the memory of a plain path, as its state has it
  pub memory_of_path : keeps → (path : PurePath S) (facts : List PureFact) (s : PureState S) → IsStateOf stands terms path facts s → (b c : ℕ) → b ≤ c → IsPlainPath plain b path → IsPlainMemory memory keeps terms c s.memory
  memory_of_path keeps_plain path facts s state b c le from =
      let low : ℤ = neg_ℤ (pos c) in
      let high : ℤ = pos c in
      record {
        keeps_plain = keeps_plain;
        plain = subst (λ (ts : StateTerms). IsPlainState memory ts low high) (sym state.same_terms) ((said path.memory low high).0 (from.memory low high (lower_bound b c le) (higher_bound b c le)));
      }

module _ {S : Type 0} (p : PureParts) (plain : S → ℤ → ℤ → Type 0) (Plain : ℕ → S → Type 0) (s : PureState S) (terms : S → StateTerms) (e : PureEntry) (path : PurePath S) (early : path.steps < 10000) (nexts : List (PurePath S))
    (growth : Each (Grows terms path) nexts) (within : StaysWithin p (λ c. IsTrue (is_simple_command c)) (IsPlainPath plain) path nexts) where
  few_there : (b : ℕ) (next : PurePath S) → Grows terms path next → IsPlainPath plain b next → length next.vars < 2 ^ 40
  few_there b next grown from =
      let steps : next.steps ≡ path.steps + 1 = grown.steps in
      let variables : length next.vars ≤ next.steps + 2 ^ 39 = from.few_variables in
      omega (arith, steps, early, variables)

  all_end : (b : ℕ) (qs : List (PurePath S)) (ks : List (PureNext S)) → Each (Grows terms path) qs → Each (IsSurePath (IsPlainPath plain b)) qs → EachEndsSurely plain Plain s e qs ks → Plain b s.memory → MayLeavePlainly b e e.spec.posts → MayLeavePlainly b e e.spec.errors
      → Each (OfNext (IsPlainPath plain b)) ks
  all_end b [] [] grown sure ends plain_memory posts errors = tt
  all_end b (q ∷ qs) (k ∷ ks) grown sure ends plain_memory posts errors =
      (ends.0 b (record { from = sure.0.0.0; known = sure.0.0.1; decided = sure.0.1; few = few_there b q grown.0 sure.0.0.0 }) plain_memory posts errors, all_end b qs ks grown.1 sure.1 ends.1 plain_memory posts errors)
  all_end b [] (k ∷ ks) grown sure ends plain_memory posts errors = absurd ends
  all_end b (q ∷ qs) [] grown sure ends plain_memory posts errors = absurd ends

  grows : (b : ℕ) → b ≤ b + step_growth
  grows b = omega arith

  pub ends_plainly : ((b c : ℕ) → b ≤ c → IsPlainPath plain b path → Plain c s.memory) → (ks : List (PureNext S)) → EachEndsSurely plain Plain s e nexts ks → EndsPlainly p plain e path ks
  ends_plainly plain_there ks ends c b at simple narrow from posts errors =
      all_end (b + step_growth) nexts ks growth (nexts_sure p plain terms path early nexts growth within c b at simple narrow from) ends (plain_there b (b + step_growth) (grows b) from) posts errors
