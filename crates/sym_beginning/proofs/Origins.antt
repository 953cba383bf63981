-- The conditions of beginnings come of the items of the precondition.
use Rattle.std.proofs.Common.{◌≡◌, ◌⊎◌, inl, inr, ℕ, zero, suc, List, [], ◌∷◌, ◌++◌, drop, Bool, true, false, ◌||◌, Option, Some, None, IsTrue, refl, sym, ap, subst, ◌∙◌, if◌then◌else◌, append_assoc}
use Rattle.std.specs.Str.{bytes_eq}
use Rattle.gil_values.specs.Pure.{PureValue}
use Rattle.gil_syntax.specs.Evaluation.{Store, value_of}
use Rattle.gil_syntax.specs.Pure.{PurePredUse, PureItem, pure, uses, PureProc, PureSpec}
use Rattle.gil_syntax.specs.Valid.{param_names}
use Rattle.gil_machine.specs.Step.{bind_all}
use Rattle.mem_model.specs.declared.cores.Core.{Core}
use Rattle.mem_model.specs.declared.keys.MemoryName.{MemoryName}
use Rattle.mem_model.specs.CoreNames.{core_of}
use Rattle.mem_model.specs.Heaps.{Heap}
use Rattle.checked_runs.specs.Specifications.{entry_store}
use Rattle.pure_terms.specs.declared.variables.Sort.{Sort}
use Rattle.pure_terms.specs.Pure.{PureTerm, PureAtom}
use Rattle.sym_evaluation.specs.Meaning.{AreSame}
use Rattle.sym_evaluation.specs.Pure.{PureStore, term_at}
use Rattle.sym_model.specs.Lists.{Each}
use Rattle.sym_model.specs.Meaning.{is_open, has_open}
use Rattle.sym_model.specs.Terms.{StateTerms, no_state_terms}
use Rattle.sym_model.proofs.ListLaws.{same_some, each_to}
use Rattle.sym_paths.specs.Pure.{PurePath}
use Rattle.sym_states.specs.Producing.{IsUseAdded, IsItemAdded, IsNext, IsProduced, is_begun, is_added, IsStopped}
use Rattle.sym_states.specs.Pure.{PureState}
use Rattle.sym_beginning.specs.Beginning.{PureStart, PureBeginnings}
use Rattle.sym_beginning.specs.Entering.{PureEntryTerms, Enters}
use Rattle.sym_beginning.specs.Origins.{AreTermsAfterUse, AreTermsAfter, ComeOfItems, of_none, of_one_more, AreEntryNames, ComeOf, IsOfPrecondition, AreOfPrecondition}
use Rattle.sym_beginning.specs.Starting.{StartsFrom, BeginsWith}
use Rattle.sym_beginning.proofs.StartLaws.{each_with_pair, each_both, still_table}

-- ---- names

same_values : (v : List PureValue) (o : Option PureTerm) (p q : Option PureValue) → AreSame v o p → AreSame v o q → p ≡ q
same_values v (Some t) (Some a) (Some b) first second = sym first ∙ second
same_values v (Some t) (Some a) None first second = absurd second
same_values v (Some t) None q first second = absurd first
same_values v None None None first second = refl
same_values v None None (Some b) first second = absurd second
same_values v None (Some a) q first second = absurd first

same_behind : (s t u : Store) (x : List ℕ) → value_of t x ≡ value_of u x → value_of (s ++ t) x ≡ value_of (s ++ u) x
same_behind [] t u x is = is
same_behind (b ∷ s) t u x is = ap (λ o. if bytes_eq b.name x then Some b.value else o) (same_behind s t u x is)

names_stand : (s : PureSpec) (e : PureEntryTerms) → Enters s e → AreEntryNames s e.vars e.args e.variables e.store
names_stand s e enters v ws t proper have stand x =
    let (args, (variables, (entered, values))) = enters.exact v proper in
    let same : args ≡ ws = same_some (sym values.args_are ∙ have) in
    let one : value_of variables x ≡ value_of t x = same_values v (term_at e.variables x) (value_of variables x) (value_of t x) (values.variables_are x) (stand x) in
    let both : value_of (entry_store s args variables) x ≡ value_of (entry_store s ws t) x =
    same_behind (bind_all (param_names s.params) args) variables t x one ∙ ap (λ us. value_of (entry_store s us t) x) same in
    subst (AreSame v (term_at e.store x)) both (values.store_is x)

-- ---- items

either_open : (a b : Bool) → b ≡ true → (a || b) ≡ true
either_open true b is = refl
either_open false b is = is

open_dropped : (n : ℕ) (atoms : List PureAtom) → IsTrue (has_open (drop n atoms)) → IsTrue (has_open atoms)
open_dropped zero atoms is = is
open_dropped (suc n) [] is = is
open_dropped (suc n) (a ∷ atoms) is = either_open (is_open a) (has_open atoms) (open_dropped n atoms is)

module _ {S : Type 0} (stands : S → List PureValue → Heap → Type 0) (terms : S → StateTerms) (bs : PureStore) (first : PureState S) (no_conds : first.conds ≡ []) (no_terms : terms first.memory ≡ no_state_terms) where
  use_made : (u : PurePredUse) (o : Option Core) (q r : PureState S) → IsUseAdded terms bs u o q r → AreTermsAfterUse bs u o (terms q.memory) (terms r.memory)
  use_made u (Some core) q r added = added.1
  use_made u None q r added = ap terms added.0

  item_made : (item : PureItem) (q r : PureState S) → IsItemAdded terms bs item q r → AreTermsAfter bs item (terms q.memory) (terms r.memory)
  item_made (pure e) q r added = ap terms added.0
  item_made (uses u) q r added = use_made u (core_of u.pred) q r added

  next_comes : (items : List PureItem) (item : PureItem) (q r : PureState S) → ComeOfItems bs items (terms q.memory) q.conds → IsNext terms bs item q r → ComeOfItems bs (items ++ item ∷ []) (terms r.memory) r.conds
  next_comes items item q r come next =
      subst (ComeOfItems bs (items ++ item ∷ []) (terms r.memory)) (sym next.conds) (of_one_more items item (terms q.memory) (terms r.memory) q.conds next.more come next.own (item_made item q r next.added))

  items_come : (items : List PureItem) (r : PureState S) → IsProduced terms bs first items r → ComeOfItems bs items (terms r.memory) r.conds
  items_come items r (is_begun is same) =
      let none : r.conds ≡ [] = ap (λ (x : PureState S). x.conds) is ∙ no_conds in
      let nothing : terms r.memory ≡ no_state_terms = same ∙ no_terms in
      subst (λ (ts : StateTerms). ComeOfItems bs [] ts r.conds) (sym nothing) (subst (ComeOfItems bs [] no_state_terms) (sym none) of_none)
  items_come items r (is_added {items = xs} {item = item} {q = q} before next) = next_comes xs item q r (items_come xs q before) next

  half_comes : (items : List PureItem) (r : PureState S) (half : IsStopped stands terms bs first items r) → ComeOfItems bs (half.before ++ half.item ∷ []) (terms r.memory) r.conds
  half_comes items r half = next_comes half.before half.item half.at r (items_come half.before half.at half.produced) half.last

  half_needs : (items : List PureItem) (r : PureState S) → IsStopped stands terms bs first items r → IsTrue (has_open r.conds)
  half_needs items r half = open_dropped _ r.conds half.needs.needed

-- ---- beginnings

module _ {S : Type 0} (memory : MemoryName) (stands : S → List PureValue → Heap → Type 0) (terms : S → StateTerms) (kept : S → Type 0) (q : PureProc) (spec : PureSpec)
    (e : PureEntryTerms) (enters : Enters spec e) (b : PureBeginnings S) (begins : BeginsWith memory stands terms kept q spec.pre e b) where
  module _ (r : PureState S) (t : PureStart S) (from : StartsFrom q e.args r t) (table : r.vars ≡ e.vars) where
    vars_are : t.path.vars ≡ e.vars
    vars_are = ap (λ (x : PurePath S). x.vars) from.begins.is ∙ table

    conds_are : t.path.conds ≡ r.conds
    conds_are = ap (λ (x : PurePath S). x.conds) from.begins.is

    names_there : AreEntryNames spec t.path.vars b.args b.variables e.store
    names_there =
        subst (λ (bs : PureStore). AreEntryNames spec t.path.vars b.args bs e.store) (sym begins.variables)
        (subst (λ (ts : List PureTerm). AreEntryNames spec t.path.vars ts e.variables e.store) (sym begins.args)
        (subst (λ (vars : List Sort). AreEntryNames spec vars e.args e.variables e.store) (sym vars_are) (names_stand spec e enters)))

    comes_there : (items : List PureItem) → ComeOfItems e.store items (terms r.memory) r.conds → ComeOf spec t.path.vars b.args b.variables items t.path.conds
    comes_there items come = record { names = e.store; are_names = names_there; made = terms r.memory; come = subst (ComeOfItems e.store items (terms r.memory)) (sym conds_are) come }

    start_comes : IsProduced terms e.store begins.first spec.pre r ⊎ IsStopped stands terms e.store begins.first spec.pre r → IsOfPrecondition b spec t
    start_comes (inl whole) = inl (comes_there spec.pre (items_come stands terms e.store begins.first begins.is_first.conds begins.is_first.no_terms spec.pre r whole))
    start_comes (inr half) = inr (record {
      items = half.before ++ half.item ∷ [];
      later = half.later;
      are_first = half.are ∙ sym (append_assoc half.before (half.item ∷ []) half.later);
      come = comes_there (half.before ++ half.item ∷ []) (half_comes stands terms e.store begins.first begins.is_first.conds begins.is_first.no_terms spec.pre r half);
      needed = subst (λ (cs : List PureAtom). IsTrue (has_open cs)) (sym conds_are) (half_needs stands terms e.store begins.first begins.is_first.conds begins.is_first.no_terms spec.pre r half);
    })

  abbrev Comes : PureState S → Type 0
  Comes r = IsProduced terms e.store begins.first spec.pre r ⊎ IsStopped stands terms e.store begins.first spec.pre r

  abbrev ComesOver : PureState S → Type 0
  ComesOver r = (r.vars ≡ e.vars) × Comes r

  tables : Each (λ r. r.vars ≡ e.vars) begins.states
  tables =
      each_to (λ r. r.vars ≡ begins.first.vars) (λ r. r.vars ≡ e.vars) begins.states (λ r same. same ∙ begins.is_first.table)
      (still_table memory stands terms kept e.store begins.first spec.pre begins.states begins.origin)

  pub are_of_precondition : AreOfPrecondition b spec
  are_of_precondition =
      each_with_pair (StartsFrom q e.args) ComesOver (IsOfPrecondition b spec) begins.states b.starts begins.starts
      (each_both (λ r. r.vars ≡ e.vars) Comes ComesOver begins.states (λ r table come. (table, come)) tables begins.origin)
      (λ r t from is. start_comes r t from is.0 is.1)
