-- Which conditions answers have, from what is said of them.
use Rattle.std.proofs.Common.{◌≡◌, inl, inr, List, [], ◌∷◌, ◌++◌, Option, Some, None, refl, sym, ap, subst, ◌∙◌, append_assoc, append-nil}
use Rattle.gil_values.specs.declared.places.Place.{Place}
use Rattle.gil_values.specs.Pure.{PureValue}
use Rattle.mem_model.specs.Heaps.{Heap}
use Rattle.pure_terms.specs.declared.deciders.Reason.{Reason}
use Rattle.pure_terms.specs.declared.variables.Sort.{Sort}
use Rattle.pure_terms.specs.Pure.{PureAtom}
use Rattle.sym_model.specs.Lists.{Each, OneOf}
use Rattle.sym_model.specs.Terms.{StateTerms}
use Rattle.sym_model.proofs.ListLaws.{same_some, not_none, each_append, each_to}
use Rattle.sym_paths.specs.Pure.{PureEnd, returned, failed, threw, missed, vanished, cut, unknown, PurePath}
use Rattle.sym_states.specs.Pure.{PureFact, PureState}
use Rattle.checked_paths.specs.declared.nexts.FaultKind.{FaultKind}
use Rattle.checked_paths.specs.Causes.{PureCause, failure, fault, bound, undecided, cause_view, shown_in, shown_of, caused_by, ShowsStop, ShowsEnd}
use Rattle.checked_paths.specs.Exactness.{HaveMoreOf, AddsOnly}
use Rattle.checked_paths.specs.Following.{IsAnswerTo, IsAnswered}
use Rattle.checked_paths.specs.Pure.{PurePassed, PureChecking, PureNext, further, over, caused}
use Rattle.checked_rows.specs.Asked.{HasConds, AddsIn, DoubtAdds}
use Rattle.checked_rows.specs.Asking.{AddsTo}
use Rattle.checked_rows.specs.Doubts.{PureDoubt, always, under, beyond, IsDoubtNext, IsDoubtAlone, IsToldThere}

-- ---- conditions behind others

pub nothing_more : {A : Type 0} (P : A → Type 0) (xs : List A) → HaveMoreOf P xs xs
nothing_more P xs = ([], (sym (append-nil xs), tt))

pub more_both : {A : Type 0} (P : A → Type 0) (xs ys zs : List A) → HaveMoreOf P xs ys → HaveMoreOf P ys zs → HaveMoreOf P xs zs
more_both P xs ys zs (first, (is_first, all_first)) (second, (is_second, all_second)) =
    (first ++ second, (is_second ∙ ap (λ us. us ++ second) is_first ∙ append_assoc xs first second, each_append P first second all_first all_second))

pub more_to : {A : Type 0} (P Q : A → Type 0) (xs ys : List A) → ((a : A) → P a → Q a) → HaveMoreOf P xs ys → HaveMoreOf Q xs ys
more_to P Q xs ys to (more, (is, all)) = (more, (is, each_to P Q more to all))

-- ---- answers

module _ {S : Type 0} where
  pub adds_to : (P Q : PureAtom → Type 0) → ((a : PureAtom) → P a → Q a) → (conds : List PureAtom) (n : PureNext S) → AddsTo P conds n → AddsTo Q conds n
  adds_to P Q to conds (further y) adds = more_to P Q conds y.path.conds to adds
  adds_to P Q to conds over adds = tt
  adds_to P Q to conds (caused cause) adds = more_to P Q conds (shown_in (cause_view cause)).conds to adds

  -- behind conditions that are behind others
  pub adds_behind : (P : PureAtom → Type 0) (conds longer : List PureAtom) (n : PureNext S) → HaveMoreOf P conds longer → AddsTo P longer n → AddsTo P conds n
  adds_behind P conds longer (further y) more adds = more_both P conds longer y.path.conds more adds
  adds_behind P conds longer over more adds = tt
  adds_behind P conds longer (caused cause) more adds = more_both P conds longer (shown_in (cause_view cause)).conds more adds

  pub same_adds : (P : PureAtom → Type 0) (conds longer : List PureAtom) (n : PureNext S) → HaveMoreOf P conds longer → HasConds longer n → AddsTo P conds n
  same_adds P conds longer (further y) more same = subst (HaveMoreOf P conds) (sym same) more
  same_adds P conds longer over more same = tt
  same_adds P conds longer (caused cause) more same = subst (HaveMoreOf P conds) (sym same) more

  pub adds_only : (P : PureAtom → Type 0) (x : PureChecking S) (n : PureNext S) → AddsTo P x.path.conds n → AddsOnly P x n
  adds_only P x (further y) adds = adds
  adds_only P x over adds = tt
  adds_only P x (caused cause) adds = adds

  pub same_only : (P : PureAtom → Type 0) (x : PureChecking S) (n : PureNext S) → HasConds x.path.conds n → AddsOnly P x n
  same_only P x n same = adds_only P x n (same_adds P x.path.conds x.path.conds n (nothing_more P x.path.conds) same)

  -- in a state to which some were added before
  pub adds_since : (P Q R : PureAtom → Type 0) → ((a : PureAtom) → P a → R a) → ((a : PureAtom) → Q a → R a) → (x : PureChecking S) (s r : PureState S) → HaveMoreOf P s.conds r.conds → (n : PureNext S) → AddsIn Q x r n → AddsIn R x s n
  adds_since P Q R first second x s r more n (inl same) = inl same
  adds_since P Q R first second x s r more n (inr adds) = inr (adds_behind R s.conds r.conds n (more_to P R s.conds r.conds first more) (adds_to Q R second r.conds n adds))

  -- in a state of the path
  pub adds_there : (P : PureAtom → Type 0) (x : PureChecking S) (s : PureState S) → s.conds ≡ x.path.conds → (n : PureNext S) → AddsIn P x s n → AddsOnly P x n
  adds_there P x s same n (inl conds) = same_only P x n conds
  adds_there P x s same n (inr adds) = adds_only P x n (subst (λ cs. AddsTo P cs n) same adds)

-- ---- next paths

module _ {S : Type 0} where
  has_cause : (k : PureNext S) (cause : PureCause) → caused_by k ≡ Some cause → HasConds (shown_in cause).conds k
  has_cause (caused c) cause is = ap (λ d. (shown_in d).conds) (same_some is)
  has_cause (further y) cause is = not_none is
  has_cause over cause is = not_none is

  module _ (stands : S → List PureValue → Heap → Type 0) (terms : S → StateTerms) (facts : List PureFact) (passed : List (List (PurePassed S))) (here : Place) (next : PurePath S) (k : PureNext S) where
    same_end : (o : Option PureEnd) → IsAnswerTo stands terms facts passed next o k → ShowsStop o (shown_of here next) (Some k) → HasConds next.conds k
    same_end None (y, (is, with_it)) shows = subst (HasConds next.conds) (sym is) (ap (λ (q : PurePath S). q.conds) with_it.same_path)
    same_end (Some vanished) answer shows = subst (HasConds next.conds) (sym answer) tt
    same_end (Some (failed t place)) answer shows = has_cause k (failure t (shown_of here next)) shows
    same_end (Some (missed key place)) answer shows = has_cause k (fault FaultKind.Missing (shown_of here next)) shows
    same_end (Some (returned t)) answer shows = has_cause k (fault FaultKind.Post (shown_of here next)) shows
    same_end (Some (threw t place)) answer shows = has_cause k (fault FaultKind.Post (shown_of here next)) shows
    same_end (Some cut) answer shows = has_cause k (bound (shown_of here next)) shows
    same_end (Some (unknown place reason)) answer shows = has_cause k (undecided reason (shown_of here next)) shows

    -- what is answered of a next path has its conditions
    pub same_answer : IsAnswered stands terms facts passed next k → ShowsEnd here next k → HasConds next.conds k
    same_answer answer shows = same_end next.ending answer shows

-- ---- doubts

module _ {S : Type 0} (kind : FaultKind) (here : Place) (path : PurePath S) where
  -- a doubt without conditions of its own
  pub always_same : (n : PureNext S) → IsDoubtNext kind here path always n → HasConds path.conds n
  always_same n (cause, (is, shows)) = subst (HasConds path.conds) (sym is) (ap (λ k. (shown_in k).conds) shows)

  pub under_same : (conds : List PureAtom) (u : List PureValue) (n : PureNext S) → IsDoubtNext kind here path (under conds u) n → HasConds conds n
  under_same conds u n (cause, (is, shows)) = subst (HasConds conds) (sym is) (ap (λ k. (shown_in k).conds) shows)

  pub beyond_same : (conds : List PureAtom) (reason : Reason) (n : PureNext S) → IsDoubtNext kind here path (beyond conds reason) n → HasConds conds n
  beyond_same conds reason n (cause, (is, shows)) = subst (HasConds conds) (sym is) (ap (λ k. (shown_in k).conds) shows)

  pub next_of_alone : (doubt : PureDoubt) (ns : List (PureNext S)) (Q : PureNext S → Type 0) → ((n : PureNext S) → IsDoubtNext kind here path doubt n → Q n) → IsDoubtAlone kind here path doubt ns → Each Q ns
  next_of_alone doubt ns Q go (cause, (is, shows)) = subst (Each Q) (sym is) (go (caused cause) (cause, (refl, shows)), tt)

module _ {S : Type 0} (kind : FaultKind) (here : Place) (x : PureChecking S) (P : PureAtom → Type 0) where
  doubt_in : (s : PureState S) (doubt : PureDoubt) → DoubtAdds P s.conds doubt → (n : PureNext S) → IsDoubtNext kind here x.path doubt n → AddsIn P x s n
  doubt_in s always adds n shows = inl (always_same kind here x.path n shows)
  doubt_in s (under conds u) adds n shows = inr (same_adds P s.conds conds n adds (under_same kind here x.path conds u n shows))
  doubt_in s (beyond conds reason) adds n shows = inr (same_adds P s.conds conds n adds (beyond_same kind here x.path conds reason n shows))

  -- the one answer is a doubt in a state
  pub doubts_in : (s : PureState S) (doubt : PureDoubt) → DoubtAdds P s.conds doubt → (ns : List (PureNext S)) → IsDoubtAlone kind here x.path doubt ns → Each (AddsIn P x s) ns
  doubts_in s doubt adds ns alone = next_of_alone kind here x.path doubt ns (AddsIn P x s) (doubt_in s doubt adds) alone

  doubt_only : (doubt : PureDoubt) → DoubtAdds P x.path.conds doubt → (n : PureNext S) → IsDoubtNext kind here x.path doubt n → AddsOnly P x n
  doubt_only always adds n shows = same_only P x n (always_same kind here x.path n shows)
  doubt_only (under conds u) adds n shows = adds_only P x n (same_adds P x.path.conds conds n adds (under_same kind here x.path conds u n shows))
  doubt_only (beyond conds reason) adds n shows = adds_only P x n (same_adds P x.path.conds conds n adds (beyond_same kind here x.path conds reason n shows))

  -- ... where the path stands
  pub doubts_only : (doubt : PureDoubt) → DoubtAdds P x.path.conds doubt → (ns : List (PureNext S)) → IsDoubtAlone kind here x.path doubt ns → Each (AddsOnly P x) ns
  doubts_only doubt adds ns alone = next_of_alone kind here x.path doubt ns (AddsOnly P x) (doubt_only doubt adds) alone

pub doubt_to : (P Q : PureAtom → Type 0) → ((a : PureAtom) → P a → Q a) → (conds : List PureAtom) (doubt : PureDoubt) → DoubtAdds P conds doubt → DoubtAdds Q conds doubt
doubt_to P Q to conds always adds = tt
doubt_to P Q to conds (under more u) adds = more_to P Q conds more to adds
doubt_to P Q to conds (beyond more reason) adds = more_to P Q conds more to adds

-- what is told of conditions with further ones
pub told_adds : (P : PureAtom → Type 0) (vars : List Sort) (conds more : List PureAtom) (doubt : PureDoubt) → Each P more → IsToldThere vars conds more doubt → DoubtAdds P conds doubt
told_adds P vars conds more always each told = absurd told
told_adds P vars conds more (under atoms u) each told = (more, (told.0, each))
told_adds P vars conds more (beyond atoms reason) each told = (more, (told.0, each))

pub one_told_adds : {A : Type 0} (P : PureAtom → Type 0) (vars : List Sort) (conds : List PureAtom) (f : A → List PureAtom) (xs : List A) (doubt : PureDoubt) → Each (λ x. Each P (f x)) xs → OneOf (λ x. IsToldThere vars conds (f x) doubt) xs → DoubtAdds P conds doubt
one_told_adds P vars conds f [] doubt each one = absurd one
one_told_adds P vars conds f (x ∷ xs) doubt each (inl told) = told_adds P vars conds (f x) doubt each.0 told
one_told_adds P vars conds f (x ∷ xs) doubt each (inr later) = one_told_adds P vars conds f xs doubt each.1 later
