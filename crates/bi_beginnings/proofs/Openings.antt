-- The paths that begin in states in which a procedure may be entered.
use Rattle.std.proofs.Common.{◌≡◌, ◌⊎◌, ⊎_elim, inl, inr, ◌↔◌, ℕ, ◌≤◌, ◌^◌, ℤ, ◌≤ℤ◌, pos, neg_ℤ, List, [], ◌∷◌, ◌++◌, map, length, Option, Some, None, Result, Ok, Err, IfOk, IfSome, IsSome, refl, sym, ap, subst, ◌∙◌, true≢false, arith}
use Rattle.std.specs.Bool.{⊤}
use Rattle.std.specs.FinMap.{empty}
use Rattle.std.specs.Option.{option_or}
use Rattle.gil_values.specs.Pure.{PureValue}
use Rattle.gil_syntax.specs.Programs.{find_proc}
use Rattle.gil_syntax.specs.Pure.{PureProc, PureParts}
use Rattle.gil_syntax.specs.Valid.{IsValid}
use Rattle.gil_machine.proofs.Placed.{starts_placed}
use Rattle.mem_model.specs.declared.keys.MemoryName.{MemoryName}
use Rattle.mem_model.specs.Heaps.{Heap}
use Rattle.pure_terms.specs.declared.queries.Query.{Query}
use Rattle.pure_terms.specs.declared.variables.Sort.{Sort}
use Rattle.pure_terms.specs.Fragment.{InFragment}
use Rattle.pure_terms.specs.Pure.{PureTerm, PureAtom}
use Rattle.pure_terms.specs.View.{atoms_view}
use Rattle.sym_paths.specs.Asking.{IsSolution}
use Rattle.sym_model.specs.Laws.{IsPlainWithin, IsDecidedWithin}
use Rattle.sym_model.specs.Lists.{Each, OneOf}
use Rattle.sym_model.specs.Plain.{IsPlainState}
use Rattle.sym_model.specs.Terms.{StateTerms}
use Rattle.sym_model.proofs.ListLaws.{not_none, each_append, each_to}
use Rattle.sym_paths.specs.Beginning.{beginning, Begins}
use Rattle.sym_paths.specs.Pure.{PurePath}
use Rattle.sym_paths.proofs.Beginning.{beginnings_stand}
use Rattle.sym_states.specs.Pure.{PureState}
use Rattle.sym_step.specs.Stepping.{AreAtCommands, MayStep}
use Rattle.bi_beginnings.specs.Beginnings.{any_for_each, variables_from, PureBeginning, IsOpening, BeginsBare, OpensBare}
use Rattle.bi_beginnings.specs.Opening.{IsEntryState, IsBareState, IsEnteredFrom, IsAskedThere, IsQueryOf}
use Rattle.bi_beginnings.proofs.Entering.{nothing_asked}
use Rattle.bi_beginnings.proofs.Tables.{as_many_params, as_many_variables, params_over}

-- as many variables as parameters
pub as_many : (params : List (List ℕ)) (ts : List PureTerm) → ts ≡ variables_from 0 (any_for_each params) → length ts ≡ length params
as_many params ts are = ap length are ∙ as_many_variables 0 (any_for_each params) ∙ as_many_params params

module _ {S : Type 0} (stands : S → List PureValue → Heap → Type 0) (terms : S → StateTerms) (kept : S → Type 0) (q : PureProc) where
  -- the path that begins in such a state, where a valuation meets its conditions
  pub opens : (s : PureState S) (ts : List PureTerm) (path : PurePath S) (v : List PureValue) → IsEntryState stands terms kept q.params s → ts ≡ variables_from 0 (any_for_each q.params)
      → Begins q ts s.vars s.conds s.memory path → IsSolution s.vars s.conds v → IsOpening stands terms kept q path
  opens s ts path v entry are begins solution =
      let args = variables_from 0 (any_for_each q.params) in
      let there : Begins q args s.vars s.conds s.memory path = subst (λ (us : List PureTerm). Begins q us s.vars s.conds s.memory path) are begins in
      let first : Begins q args s.vars s.conds s.memory (beginning q there.store s.vars s.conds s.memory) = record { store = there.store; first = there.first; is = refl } in
      let opening : IsOpening stands terms kept q (beginning q there.store s.vars s.conds s.memory) = record {
        table = entry.table;
        begins = first;
        over = (beginnings_stand stands terms (λ m low high. ⊤)).over q args s.vars s.conds s.memory (beginning q there.store s.vars s.conds s.memory) first (params_over q.params s.vars entry.table) entry.over.conds entry.over.memory;
        no_form = solution.no_form;
        is_met = (v, solution.meets);
        has_heap = entry.has_heap solution.no_form;
        still_kept = entry.still_kept;
      } in
      subst (IsOpening stands terms kept q) (sym there.is) opening

  -- it may make a step
  module _ (p : PureParts) (valid : IsValid p) (found : find_proc p.procs q.name ≡ Some q) where
    may_step : (path : PurePath S) → IsOpening stands terms kept q path → MayStep p terms path
    may_step path opening =
        let same = opening.begins.is in
        let none : path.steps ≡ 0 = ap (λ (x : PurePath S). x.steps) same in
        record {
          no_end = ap (λ (x : PurePath S). x.ending) same;
          steps = omega (arith, none);
          placed = subst (AreAtCommands p) (sym (ap (λ (x : PurePath S). x.stack) same)) (record { command = (starts_placed p q.name q [] empty 0 valid found).current; handler = λ i is. not_none is }, tt);
          over = opening.over;
        }

    pub may_step_each : (paths : List (PurePath S)) → Each (IsOpening stands terms kept q) paths → Each (MayStep p terms) paths
    may_step_each paths all = each_to (IsOpening stands terms kept q) (MayStep p terms) paths may_step all

-- ---- further ones

pub each_further : {A : Type 0} (P : A → Type 0) (before more after : List A) → after ≡ before ++ more → Each P before → Each P more → Each P after
each_further P before more after are first second = subst (Each P) (sym are) (each_append P before more first second)

pub first_of_both : {A : Type 0} (P : A → Type 0) (o p after : Option A) → after ≡ option_or o p → IfSome o P → IfSome p P → IfSome after P
first_of_both {A = A} P o p after is first second = subst (λ r. IfSome r P) (sym is) (by o first)
  where
    by : (r : Option A) → IfSome r P → IfSome (option_or r p) P
    by (Some x) here = here
    by None here = second

-- ---- where there is nothing

no_params : (params : List (List ℕ)) (others : List Sort) → any_for_each params ++ others ≡ [] → params ≡ []
no_params [] others none = refl
no_params (x ∷ params) others none = cc

-- no condition is in the fragment
pub none_inside : (atoms : List PureAtom) → atoms ≡ [] → InFragment atoms
none_inside atoms none = subst InFragment (sym none) (record { forms = refl; literals = refl; few_variables = omega arith })

module _ {S : Type 0} (memory : MemoryName) (stands : S → List PureValue → Heap → Type 0) (terms : S → StateTerms) (kept : S → Type 0) (plain : S → ℤ → ℤ → Type 0)
    (said : (m : S) (low high : ℤ) → plain m low high ↔ IsPlainState memory (terms m) low high) (q : PureProc) where
  -- a path that begins in a bare state is bare
  pub begins_bare : (s : PureState S) (ts : List PureTerm) (path : PurePath S) → IsEntryState stands terms kept q.params s → IsBareState stands terms s → ts ≡ variables_from 0 (any_for_each q.params)
      → Begins q ts s.vars s.conds s.memory path → BeginsBare stands plain path
  begins_bare s ts path entry bare are begins =
      let none : q.params ≡ [] = no_params q.params entry.table.others (sym entry.table.table ∙ bare.no_variable) in
      let no_args : ts ≡ [] = are ∙ ap (λ params. variables_from 0 (any_for_each params)) none in
      let few : length s.vars ≡ 0 = ap length bare.no_variable in
      record {
        no_variable = ap (λ (x : PurePath S). x.vars) begins.is ∙ bare.no_variable;
        no_condition = ap (λ (x : PurePath S). x.conds) begins.is ∙ bare.no_condition;
        no_key = subst (λ m. stands m [] empty) (sym (ap (λ (x : PurePath S). x.memory) begins.is)) bare.no_key;
        plain_path = (beginnings_stand stands terms plain).plain_path q ts s.vars s.conds s.memory path 0 begins
            (subst (λ (us : List PureTerm). Each (IsPlainWithin (neg_ℤ (pos 0)) (pos 0)) us) (sym no_args) tt)
            (subst (λ (cs : List PureAtom). Each (IsDecidedWithin (neg_ℤ (pos 0)) (pos 0)) cs) (sym bare.no_condition) tt)
            (λ low high below above. (said s.memory low high).1 (subst (λ (us : StateTerms). IsPlainState memory us low high) (sym bare.no_terms) (record { plain = tt; described = tt })))
            (omega (arith, few));
      }

-- one is left undecided only if the first list or the second one is
pub of_either : {A : Type 0} (o p : Option A) → IsSome (option_or o p) → IsSome o ⊎ IsSome p
of_either (Some x) p there = inl refl
of_either None p there = inr there

pub bare_further : {S A : Type 0} (stands : S → List PureValue → Heap → Type 0) (plain : S → ℤ → ℤ → Type 0) (o p after : Option A) (before more all : List (PurePath S))
    → after ≡ option_or o p → all ≡ before ++ more → OpensBare stands plain (IsSome o) before → OpensBare stands plain (IsSome p) more → OpensBare stands plain (IsSome after) all
bare_further stands plain o p after before more all is are first second = record {
  decided = λ there. ⊎_elim first.decided second.decided (of_either o p (subst IsSome is there));
  each_start = each_further (BeginsBare stands plain) before more all are first.each_start second.each_start;
}

-- ---- queries

pub if_some_to : {A : Type 0} (P Q : A → Type 0) (o : Option A) → ((a : A) → P a → Q a) → IfSome o P → IfSome o Q
if_some_to P Q (Some x) f here = f x here
if_some_to P Q None f here = tt

-- an element in the middle of a list
pub one_among : {A B : Type 0} (P : B → Type 0) (f : A → B) (all xs : List A) (x : A) (ys : List A) → all ≡ xs ++ x ∷ ys → P (f x) → OneOf P (map f all)
one_among {A = A} P f all xs x ys is here = subst (λ zs. OneOf P (map f zs)) (sym is) (by xs)
  where
    by : (zs : List A) → OneOf P (map f (zs ++ x ∷ ys))
    by [] = inl here
    by (z ∷ zs) = inr (by zs)

-- what is asked of a state in which the procedure is entered is asked of the beginning
pub asked_there : {S : Type 0} (stands : S → List PureValue → Heap → Type 0) (terms : S → StateTerms) (kept : S → Type 0) (params : List (List ℕ)) (b : PureBeginning) (ss : List (PureState S)) (q : Query)
    → Each (λ s. s.vars ≡ b.vars) ss → Each (IsEnteredFrom stands terms kept params b) ss → OneOf (λ s. IsQueryOf b s q) ss
    → IsAskedThere stands terms kept params b q.place q.path q.vars (atoms_view q.given) (atoms_view q.query)
asked_there stands terms kept params b [] q tables entered one = absurd one
asked_there {S = S} stands terms kept params b (s ∷ ss) q tables entered one =
    ⊎_elim
    (λ (here : IsQueryOf b s q).
    let (r, (begun, is)) = entered.0 in
    record {
      at_place = here.at_place;
      same_choices = here.same_choices;
      table = here.table ∙ tables.0;
      none_given = here.none_given;
      state = r;
      begun = begun;
      asks = here.asks ∙ ap (λ (x : PureState S). x.conds) is;
    })
    (λ later. asked_there stands terms kept params b ss q tables.1 entered.1 later)
    one

pub ok_to_both : {A E : Type 0} (r : Result A E) (P Q R : A → Type 0) → ((a : A) → P a → Q a → R a) → IfOk r P → IfOk r Q → IfOk r R
ok_to_both (Ok a) P Q R f first second = f a first second
ok_to_both (Err e) P Q R f first second = tt

-- of a beginning that fixes and assumes nothing there is no query
pub nothing_undecided : {S : Type 0} (stands : S → List PureValue → Heap → Type 0) (terms : S → StateTerms) (kept : S → Type 0) (params : List (List ℕ)) (b : PureBeginning) → b.uses ≡ [] → b.conds ≡ []
    → (ss : List (PureState S)) (o : Option Query) → Each (λ s. s.vars ≡ b.vars) ss → Each (IsEnteredFrom stands terms kept params b) ss → IfSome o (λ x. OneOf (λ s. IsQueryOf b s x) ss)
    → IfSome o (λ x. ¬ InFragment (atoms_view x.query)) → ¬ IsSome o
nothing_undecided stands terms kept params b no_use no_condition ss None tables entered asked outside some = true≢false (sym some)
nothing_undecided stands terms kept params b no_use no_condition ss (Some x) tables entered asked outside some =
    outside
    (none_inside (atoms_view x.query)
    (nothing_asked stands terms kept params b no_use no_condition x.place x.path x.vars (atoms_view x.given) (atoms_view x.query) (asked_there stands terms kept params b ss x tables entered asked)))
